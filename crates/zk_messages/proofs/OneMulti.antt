-- Operations and results of a multi: each is spelled in one way, and read or refused.
use Rattle.std.proofs.Common.{◌≡◌, ℕ, ℤ, pos, negsuc, ◌+◌, Bool, true, false, List, [], ◌++◌, refl, sym, ap, subst, ◌∙◌, inl, inr, arith}
use Rattle.std.proofs.lemmas.Int.{ints}
use Rattle.std.proofs.lemmas.List.{append-nil}
use Rattle.jute_core.specs.Jute.{Value, Spells, Refused, int, ustring, pair}
use Rattle.jute_core.specs.declared.cursor.Reason.{Reason}
use Rattle.jute_core.proofs.OneSpelling.{one_spelling}
use Rattle.jute_core.proofs.ReadOrRefused.{read_or_refused}
use Rattle.zk_records.specs.Stats.{stat, stat_fields}
use Rattle.zk_messages.specs.Kinds.{op_number, op_kind_of}
use Rattle.zk_messages.specs.Multi.{multi_header, IsHeader, IsEnd, op_record, op_fields, SpellsOp, SpellsResult, SpellsOps, SpellsResults, IsBadMark, IsBadRepeat, result_record, RefusedIfAny, IsBadResult, RefusedOp, RefusedResult, RefusedOps, RefusedResults}
use Rattle.zk_messages.specs.declared.kind.OpKind.{OpKind}
use Rattle.zk_messages.specs.declared.kind.OpKind.TheVariants as kinds
use Rattle.zk_messages.specs.declared.request.Op.{Op}
use Rattle.zk_messages.specs.declared.request.Op.TheVariants as ops
use Rattle.zk_messages.specs.declared.reply.OpResult.{OpResult}
use Rattle.zk_messages.specs.declared.reply.OpResult.TheVariants as op_results
use Rattle.zk_messages.proofs.OneList.{AreApart, AreOne, AreRead, EndsApart, AreNoEnds, EndsRead, behind, ended_apart, ended_same, ended_read}
use Rattle.jute_core.proofs.SameSpelling.{same_bytes}
use Rattle.zk_messages.proofs.OneWriting.{halves}
use Rattle.zk_messages.proofs.RecordsBack.{create_of, create_back, delete_of, set_content_of, check_of, stat_of}

-- numbers of types
pub op_numbers : (k l : OpKind) → op_number k ≡ op_number l → k ≡ l
op_numbers kinds.Create kinds.Create e = refl
op_numbers kinds.Delete kinds.Delete e = refl
op_numbers kinds.SetContent kinds.SetContent e = refl
op_numbers kinds.Check kinds.Check e = refl
op_numbers kinds.Create2 kinds.Create2 e = refl
op_numbers k l e = absurd (omega (arith, ints, e))

pub no_number : (k : OpKind) → op_number k ≡ negsuc 0 → ⊥
no_number kinds.Create e = omega (arith, ints, e)
no_number kinds.Delete e = omega (arith, ints, e)
no_number kinds.SetContent e = omega (arith, ints, e)
no_number kinds.Check e = omega (arith, ints, e)
no_number kinds.Create2 e = omega (arith, ints, e)

-- two headers at the front
pub record SameHeaders (k l : ℤ) (d f : Bool) (m n : ℤ) (a b x y : List ℕ) : Type 0 where
  pub kind : k ≡ l
  pub done : d ≡ f
  pub err : m ≡ n
  pub bytes : a ≡ b
  pub more : x ≡ y

pub headers : (k l : ℤ) (d f : Bool) (m n : ℤ) (a b x y : List ℕ) → IsHeader k d m a → IsHeader l f n b → a ++ x ≡ b ++ y → SameHeaders k l d f m n a b x y
headers k l d f m n a b x y p q e =
    let r = one_spelling multi_header (k, (d, m)) (l, (f, n)) a b x y p q e in
    record { kind = ap (λ v. v.0) r.0; done = ap (λ v. v.1.0) r.0; err = ap (λ v. v.1.1) r.0; bytes = r.1; more = r.2 }

-- the end
ends_apart : EndsApart IsEnd
ends_apart a b x y p q e = let r = headers _ _ _ _ _ _ a b x y p q e in (r.bytes, r.more)

ends_same : (a b : List ℕ) → IsEnd a → IsEnd b → a ≡ b
ends_same a b p q = same_bytes multi_header _ a b p q

-- an operation, from its type and its fields
op_of : (k : OpKind) → Value (op_record k) → Op
op_of kinds.Create v = ops.Create (create_of v)
op_of kinds.Delete v = ops.Delete (delete_of v)
op_of kinds.SetContent v = ops.SetContent (set_content_of v)
op_of kinds.Check v = ops.Check (check_of v)
op_of kinds.Create2 v = ops.Create2 (create_of v)

op_back : (op : Op) → op_of (op_kind_of op) (op_fields op) ≡ op
unfolding op_of
op_back (ops.Create r) = ap (λ x. ops.Create x) (create_back r)
op_back (ops.Delete r) = refl
op_back (ops.SetContent r) = refl
op_back (ops.Check r) = refl
op_back (ops.Create2 r) = ap (λ x. ops.Create2 x) (create_back r)

same_op : (k l : OpKind) (v : Value (op_record k)) (w : Value (op_record l)) (a b x y : List ℕ) → k ≡ l → Spells (op_record k) v a → Spells (op_record l) w b → a ++ x ≡ b ++ y → (op_of k v ≡ op_of l w) × (a ≡ b) × (x ≡ y)
same_op k l v w a b x y e p q f =
    subst (λ (m : OpKind). (u : Value (op_record m)) → Spells (op_record m) u b → (op_of k v ≡ op_of m u) × (a ≡ b) × (x ≡ y)) e
    (λ u h. let r = one_spelling (op_record k) v u a b x y p h f in (ap (op_of k) r.0, r.1, r.2)) w q

pub one_op : AreApart SpellsOp
unfolding SpellsOp
one_op v w a b x y p q e =
    let h = halves multi_header (op_record (op_kind_of v)) (op_number (op_kind_of v), (false, negsuc 0)) (op_fields v) a p in
    let k = halves multi_header (op_record (op_kind_of w)) (op_number (op_kind_of w), (false, negsuc 0)) (op_fields w) b q in
    let r = headers _ _ _ _ _ _ h.first k.first (h.second ++ x) (k.second ++ y) h.front k.front (sym (behind h.first h.second x a h.cut) ∙ e ∙ behind k.first k.second y b k.cut) in
    let s = same_op (op_kind_of v) (op_kind_of w) (op_fields v) (op_fields w) h.second k.second x y (op_numbers _ _ r.kind) h.behind k.behind r.more in (
      sym (op_back v) ∙ s.0 ∙ op_back w,
      h.cut ∙ ap (λ (l : List ℕ). l ++ h.second) r.bytes ∙ ap (λ (l : List ℕ). k.first ++ l) s.1 ∙ sym k.cut,
      s.2,
    )

pub op_same : AreOne SpellsOp
unfolding SpellsOp
op_same v a b p q = same_bytes (pair multi_header (op_record (op_kind_of v))) _ a b p q

op_no_end : AreNoEnds SpellsOp IsEnd
unfolding SpellsOp
op_no_end v a b x y p q e =
    let h = halves multi_header (op_record (op_kind_of v)) (op_number (op_kind_of v), (false, negsuc 0)) (op_fields v) a p in
    let r = headers _ _ _ _ _ _ h.first b (h.second ++ x) y h.front q (sym (behind h.first h.second x a h.cut) ∙ e) in
    no_number (op_kind_of v) r.kind

-- marks as they have to be are not bad
pub good_mark : (wanted : Bool) (n : ℤ) (done : Bool) (err : ℤ) (at place : ℕ) (reason : Reason) → done ≡ wanted → err ≡ n → IsBadMark wanted n done err at place reason → ⊥
good_mark wanted n done err at place reason d e h = elim h [ inl other ↦ other.0 d | inr bad ↦ bad.1.0 e ]

-- a record that is spelled is not refused, by its type
op_behind : (k l : OpKind) (v : Value (op_record k)) (at : ℕ) (b x y : List ℕ) (place : ℕ) (reason : Reason) → k ≡ l → Spells (op_record k) v b → x ≡ b ++ y → Refused (op_record l) at x place reason → ⊥
op_behind k l v at b x y place reason e p f h = read_or_refused (op_record k) v at b x y place reason p f (subst (λ (m : OpKind). Refused (op_record m) at x place reason) (sym e) h)

pub op_read : AreRead SpellsOp RefusedOp
unfolding SpellsOp
op_read v at b x y place reason p e h =
    let o = halves multi_header (op_record (op_kind_of v)) (op_number (op_kind_of v), (false, negsuc 0)) (op_fields v) b p in
    let f : x ≡ o.first ++ (o.second ++ y) = e ∙ behind o.first o.second y b o.cut in
    elim h [
      | inl first ↦ read_or_refused multi_header _ at o.first x (o.second ++ y) place reason o.front f first
      | inr bad ↦
          let r = headers _ _ _ _ _ _ bad.header o.first bad.left (o.second ++ y) bad.head o.front (sym bad.cut ∙ f) in
          elim bad.bad [
            | inl none ↦ no_number (op_kind_of v) (sym r.kind ∙ none.0)
            | inr more ↦ elim more [
              | inl unknown ↦ unknown.0.1 (op_kind_of v) r.kind
              | inr more ↦ elim more [
                | inl mark ↦ good_mark false (negsuc 0) bad.done bad.err at place reason r.done r.err mark.2
                | inr last ↦ op_behind (op_kind_of v) last.0 (op_fields v) (at + 9) o.second bad.left y place reason (op_numbers _ _ (sym r.kind ∙ last.1)) o.behind r.more last.4
              ]
            ]
          ]
    ]

end_read_op : EndsRead IsEnd RefusedOp
end_read_op at b x y place reason p e h = elim h [
  | inl first ↦ read_or_refused multi_header _ at b x y place reason p e first
  | inr bad ↦
      let r = headers _ _ _ _ _ _ bad.header b bad.left y bad.head p (sym bad.cut ∙ e) in
      elim bad.bad [
        | inl none ↦ good_mark true (negsuc 0) bad.done bad.err at place reason r.done r.err none.1
        | inr more ↦ elim more [
          | inl unknown ↦ unknown.0.0 r.kind
          | inr more ↦ elim more [
            | inl mark ↦ no_number mark.0 (sym mark.1 ∙ r.kind)
            | inr last ↦ no_number last.0 (sym last.1 ∙ r.kind)
          ]
        ]
      ]
]

pub ops_apart : AreApart SpellsOps
ops_apart = ended_apart SpellsOp IsEnd one_op op_no_end ends_apart

pub ops_same : AreOne SpellsOps
ops_same = ended_same SpellsOp IsEnd op_same ends_same

pub ops_read : AreRead SpellsOps RefusedOps
ops_read = ended_read SpellsOp IsEnd RefusedOp one_op op_no_end op_read end_read_op

-- the type and the code in the header of a result
abbrev result_number : OpResult → ℤ
result_number (op_results.Created path) = pos 1
result_number op_results.Deleted = pos 2
result_number (op_results.Changed s) = pos 5
result_number op_results.Checked = pos 13
result_number (op_results.Error code) = negsuc 0
result_number (op_results.Created2 path s) = pos 15

abbrev result_code : OpResult → ℤ
result_code (op_results.Error code) = code
result_code result = pos 0

-- what follows it
abbrev SpellsTail : OpResult → List ℕ → Type 0
SpellsTail (op_results.Created path) b = Spells ustring path b
SpellsTail op_results.Deleted b = b ≡ []
SpellsTail (op_results.Changed s) b = Spells stat (stat_fields s) b
SpellsTail op_results.Checked b = b ≡ []
SpellsTail (op_results.Error code) b = Spells int code b
SpellsTail (op_results.Created2 path s) b = Spells (pair ustring stat) (path, stat_fields s) b

-- a result is its header and this
record ResultParts (r : OpResult) (b : List ℕ) : Type 0 where
  header : List ℕ
  left : List ℕ
  head : IsHeader (result_number r) false (result_code r) header
  tail : SpellsTail r left
  cut : b ≡ header ++ left

result_parts : (r : OpResult) (b : List ℕ) → SpellsResult r b → ResultParts r b
unfolding SpellsResult
result_parts (op_results.Created path) b p = let h = halves multi_header ustring (pos 1, (false, pos 0)) path b p in record { header = h.first; left = h.second; head = h.front; tail = h.behind; cut = h.cut }
result_parts op_results.Deleted b p = record { header = b; left = []; head = p; tail = refl; cut = sym (append-nil b) }
result_parts (op_results.Changed s) b p = let h = halves multi_header stat (pos 5, (false, pos 0)) (stat_fields s) b p in record { header = h.first; left = h.second; head = h.front; tail = h.behind; cut = h.cut }
result_parts op_results.Checked b p = record { header = b; left = []; head = p; tail = refl; cut = sym (append-nil b) }
result_parts (op_results.Error code) b p = let h = halves multi_header int (negsuc 0, (false, code)) code b p in record { header = h.first; left = h.second; head = h.front; tail = h.behind; cut = h.cut }
result_parts (op_results.Created2 path s) b p = let h = halves multi_header (pair ustring stat) (pos 15, (false, pos 0)) (path, stat_fields s) b p in record { header = h.first; left = h.second; head = h.front; tail = h.behind; cut = h.cut }

empty_apart : (a b x y : List ℕ) → a ≡ [] → b ≡ [] → a ++ x ≡ b ++ y → (a ≡ b) × (x ≡ y)
empty_apart a b x y p q e = (p ∙ sym q, ap (λ (l : List ℕ). l ++ x) (sym p) ∙ e ∙ ap (λ (l : List ℕ). l ++ y) q)

tails_apart : (v w : OpResult) (a b x y : List ℕ) → result_number v ≡ result_number w → SpellsTail v a → SpellsTail w b → a ++ x ≡ b ++ y → (v ≡ w) × (a ≡ b) × (x ≡ y)
tails_apart (op_results.Created v) (op_results.Created w) a b x y e p q f = let r = one_spelling ustring v w a b x y p q f in (ap (λ u. op_results.Created u) r.0, r.1, r.2)
tails_apart op_results.Deleted op_results.Deleted a b x y e p q f = let r = empty_apart a b x y p q f in (refl, r.0, r.1)
tails_apart (op_results.Changed v) (op_results.Changed w) a b x y e p q f = let r = one_spelling stat (stat_fields v) (stat_fields w) a b x y p q f in (ap (λ u. op_results.Changed (stat_of u)) r.0, r.1, r.2)
tails_apart op_results.Checked op_results.Checked a b x y e p q f = let r = empty_apart a b x y p q f in (refl, r.0, r.1)
tails_apart (op_results.Error v) (op_results.Error w) a b x y e p q f = let r = one_spelling int v w a b x y p q f in (ap (λ u. op_results.Error u) r.0, r.1, r.2)
tails_apart (op_results.Created2 v s) (op_results.Created2 w t) a b x y e p q f = let r = one_spelling (pair ustring stat) (v, stat_fields s) (w, stat_fields t) a b x y p q f in (ap (λ u. op_results.Created2 u.0 (stat_of u.1)) r.0, r.1, r.2)
tails_apart v w a b x y e p q f = absurd (omega (arith, ints, e))

pub one_result : AreApart SpellsResult
one_result v w a b x y p q e =
    let h = result_parts v a p in
    let k = result_parts w b q in
    let r = headers _ _ _ _ _ _ h.header k.header (h.left ++ x) (k.left ++ y) h.head k.head (sym (behind h.header h.left x a h.cut) ∙ e ∙ behind k.header k.left y b k.cut) in
    let s = tails_apart v w h.left k.left x y r.kind h.tail k.tail r.more in
    (s.0, h.cut ∙ ap (λ (l : List ℕ). l ++ h.left) r.bytes ∙ ap (λ (l : List ℕ). k.header ++ l) s.1 ∙ sym k.cut, s.2)

pub result_same : AreOne SpellsResult
unfolding SpellsResult
result_same (op_results.Created path) a b p q = same_bytes (pair multi_header ustring) _ a b p q
result_same op_results.Deleted a b p q = same_bytes multi_header _ a b p q
result_same (op_results.Changed s) a b p q = same_bytes (pair multi_header stat) _ a b p q
result_same op_results.Checked a b p q = same_bytes multi_header _ a b p q
result_same (op_results.Error code) a b p q = same_bytes (pair multi_header int) _ a b p q
result_same (op_results.Created2 path s) a b p q = same_bytes (pair multi_header (pair ustring stat)) _ a b p q

-- a result is not done as the end is
result_no_end : AreNoEnds SpellsResult IsEnd
result_no_end v a b x y p q e =
    let h = result_parts v a p in
    let r = headers _ _ _ _ _ _ h.header b (h.left ++ x) y h.head q (sym (behind h.header h.left x a h.cut) ∙ e) in
    not_both r.done
  where
    not_both : false ≡ true → ⊥
    not_both f = cc

-- behind a good header, only what follows it can be bad: of an operation that was done
done_read : (k : OpKind) (kind : ℤ) (done : Bool) (err : ℤ) (left : List ℕ) (at place : ℕ) (reason : Reason) → kind ≡ op_number k → done ≡ false → err ≡ pos 0
    → (RefusedIfAny (result_record k) (at + 9) left place reason → ⊥) → IsBadResult kind done err left at place reason → ⊥
done_read k kind done err left at place reason e d z fine h = elim h [
  | inl none ↦ no_number k (sym e ∙ none.0)
  | inr h ↦ elim h [
    | inl error ↦ no_number k (sym e ∙ error.0)
    | inr h ↦ elim h [
      | inl unknown ↦ unknown.0.1 k e
      | inr h ↦ elim h [
        | inl mark ↦ good_mark false (pos 0) done err at place reason d z mark.2
        | inr last ↦ fine (subst (λ (l : OpKind). RefusedIfAny (result_record l) (at + 9) left place reason) (op_numbers _ _ (sym last.1 ∙ e)) last.4)
      ]
    ]
  ]
]

-- of an error
repeat_read : (code err : ℤ) (at : ℕ) (b x y : List ℕ) (place : ℕ) (reason : Reason) → err ≡ code → Spells int code b → x ≡ b ++ y → IsBadRepeat err at x place reason → ⊥
repeat_read code err at b x y place reason e p f h = elim h [
  | inl first ↦ read_or_refused int code at b x y place reason p f first
  | inr other ↦ other.5 (sym (one_spelling int code other.0 b other.1 y other.2 p other.3 (sym f ∙ other.4)).0 ∙ sym e)
]

error_read : (code kind : ℤ) (done : Bool) (err : ℤ) (b left y : List ℕ) (at place : ℕ) (reason : Reason) → kind ≡ negsuc 0 → done ≡ false → err ≡ code → Spells int code b → left ≡ b ++ y → IsBadResult kind done err left at place reason → ⊥
error_read code kind done err b left y at place reason e d z p f h = elim h [
  | inl none ↦ not_both (sym d ∙ none.1)
  | inr h ↦ elim h [
    | inl error ↦ repeat_read code err (at + 9) b left y place reason z p f error.2
    | inr h ↦ elim h [
      | inl unknown ↦ unknown.0.0 e
      | inr h ↦ elim h [
        | inl mark ↦ no_number mark.0 (sym mark.1 ∙ e)
        | inr last ↦ no_number last.0 (sym last.1 ∙ e)
      ]
    ]
  ]
]
  where
    not_both : false ≡ true → ⊥
    not_both g = cc

tail_read : (r : OpResult) (kind : ℤ) (done : Bool) (err : ℤ) (b left y : List ℕ) (at place : ℕ) (reason : Reason) → kind ≡ result_number r → done ≡ false → err ≡ result_code r → SpellsTail r b → left ≡ b ++ y → IsBadResult kind done err left at place reason → ⊥
tail_read (op_results.Created path) kind done err b left y at place reason e d z p f h = done_read kinds.Create kind done err left at place reason e d z (λ k. read_or_refused ustring path (at + 9) b left y place reason p f k) h
tail_read op_results.Deleted kind done err b left y at place reason e d z p f h = done_read kinds.Delete kind done err left at place reason e d z (λ k. k) h
tail_read (op_results.Changed s) kind done err b left y at place reason e d z p f h = done_read kinds.SetContent kind done err left at place reason e d z (λ k. read_or_refused stat (stat_fields s) (at + 9) b left y place reason p f k) h
tail_read op_results.Checked kind done err b left y at place reason e d z p f h = done_read kinds.Check kind done err left at place reason e d z (λ k. k) h
tail_read (op_results.Error code) kind done err b left y at place reason e d z p f h = error_read code kind done err b left y at place reason e d z p f h
tail_read (op_results.Created2 path s) kind done err b left y at place reason e d z p f h = done_read kinds.Create2 kind done err left at place reason e d z (λ k. read_or_refused (pair ustring stat) (path, stat_fields s) (at + 9) b left y place reason p f k) h

pub result_read : AreRead SpellsResult RefusedResult
result_read v at b x y place reason p e h =
    let o = result_parts v b p in
    let f : x ≡ o.header ++ (o.left ++ y) = e ∙ behind o.header o.left y b o.cut in
    elim h [
      | inl first ↦ read_or_refused multi_header _ at o.header x (o.left ++ y) place reason o.head f first
      | inr bad ↦
          let r = headers _ _ _ _ _ _ bad.header o.header bad.left (o.left ++ y) bad.head o.head (sym bad.cut ∙ f) in
          tail_read v bad.kind bad.done bad.err o.left bad.left y at place reason r.kind r.done r.err o.tail r.more bad.bad
    ]

end_read_result : EndsRead IsEnd RefusedResult
end_read_result at b x y place reason p e h = elim h [
  | inl first ↦ read_or_refused multi_header _ at b x y place reason p e first
  | inr bad ↦
      let r = headers _ _ _ _ _ _ bad.header b bad.left y bad.head p (sym bad.cut ∙ e) in
      end_fields bad.kind bad.done bad.err bad.left at place reason r.kind r.done r.err bad.bad
]
  where
    not_both : true ≡ false → ⊥
    not_both g = cc

    end_fields : (kind : ℤ) (done : Bool) (err : ℤ) (left : List ℕ) (at place : ℕ) (reason : Reason) → kind ≡ negsuc 0 → done ≡ true → err ≡ negsuc 0 → IsBadResult kind done err left at place reason → ⊥
    end_fields kind done err left at place reason e d z h = elim h [
      | inl none ↦ none.2.0 z
      | inr h ↦ elim h [
        | inl error ↦ not_both (sym d ∙ error.1)
        | inr h ↦ elim h [
          | inl unknown ↦ unknown.0.0 e
          | inr h ↦ elim h [
            | inl mark ↦ no_number mark.0 (sym mark.1 ∙ e)
            | inr last ↦ no_number last.0 (sym last.1 ∙ e)
          ]
        ]
      ]
    ]

pub results_apart : AreApart SpellsResults
results_apart = ended_apart SpellsResult IsEnd one_result result_no_end ends_apart

pub results_same : AreOne SpellsResults
results_same = ended_same SpellsResult IsEnd result_same ends_same

pub results_read : AreRead SpellsResults RefusedResults
results_read = ended_read SpellsResult IsEnd RefusedResult one_result result_no_end result_read end_read_result
