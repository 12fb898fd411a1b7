-- Headers of multis, and what stands behind them.
use Rattle.std.proofs.Common.{◌≡◌, ℕ, ℤ, pos, negsuc, List, ◌+◌, Bool, true, false, length, refl, inr, ◌∙◌, ap, sym, subst, arith, length-append, w32, to_z, of_z}
use Rattle.std.proofs.lemmas.Int.{to_z-of_z}
use Rattle.jute_core.specs.Jute.{Spells, Refused as IsRefused, boolean, int, ustring, pair}
use Rattle.jute_core.specs.Position.{Position, Passes, Adds}
use Rattle.jute_core.specs.Records.{Fails}
use Rattle.jute_core.specs.declared.cursor.Reason.{Reason}
use Rattle.jute_core.specs.declared.not_read.NotRead.{NotRead}
use Rattle.jute_core.proofs.Glue.{field_then, pass_then, add_then}
use Rattle.zk_records.specs.Stats.{stat, stat_fields}
use Rattle.zk_records.specs.declared.stat.Stat.{Stat}
use Rattle.zk_messages.specs.Kinds.{op_number, op_kind_of}
use Rattle.zk_messages.specs.Multi.{multi_header, op_record, op_fields, result_record, IsHeader, BehindHeader, IsBadOp, IsBadResult, RefusedIfAny, SpellsOp, SpellsResult, RefusedOp, RefusedResult}
use Rattle.zk_messages.specs.Reading.{Reaches, FailsAt}
use Rattle.zk_messages.specs.Results.{IsDone}
use Rattle.zk_messages.specs.Sending.{AddsBytes}
use Rattle.zk_messages.specs.declared.kind.OpKind.{OpKind}
use Rattle.zk_messages.specs.declared.kind.OpKind.TheVariants as kinds
use Rattle.zk_messages.specs.declared.request.Op.{Op}
use Rattle.zk_messages.specs.declared.reply.OpResult.{OpResult}
use Rattle.zk_messages.specs.declared.reply.OpResult.TheVariants as op_results
use Rattle.zk_messages.proofs.Reaching.{reach_passed, fail_as, fail_passed, fail_behind, add_as}

boolean_length : (d : Bool) (b : List ℕ) → Spells boolean d b → length b ≡ 1
unfolding Spells
boolean_length false b s = ap length s
boolean_length true b s = ap length s

header_length : (k : ℤ) (d : Bool) (e : ℤ) (b : List ℕ) → IsHeader k d e b → length b ≡ 9
unfolding Spells
header_length k d e b s =
    let first : length s.0 ≡ 4 = ap length s.2.1 in
    let second : length s.3.0 ≡ 1 = boolean_length d s.3.0 s.3.2 in
    let third : length s.3.1 ≡ 4 = ap length s.3.3.1 in
    omega (arith, first, second, third, ap length s.4, ap length s.3.4, length-append s.0 s.1, length-append s.3.0 s.3.1)

pub header_moves : {k e : ℤ} {d : Bool} {a b c f : Position} → Passes a b int k → Passes b c boolean d → Passes c f int e → f.place ≡ a.place + 9
header_moves p q r =
    let whole = field_then p (field_then q r) in
    omega (arith, whole.moved, header_length _ _ _ whole.bytes whole.spelled)

-- a header with the fields that it has to have
header_is : {k n : ℤ} {d f : Bool} {e m : ℤ} {a b : Position} → Passes a b multi_header (k, (d, e)) → k ≡ n → d ≡ f → e ≡ m → Passes a b multi_header (n, (f, m))
header_is {k} {n} {d} {f} {e} {m} {a} {b} p kind done err =
    subst (λ (x : ℤ). Passes a b multi_header (x, (f, m))) kind
    (subst (λ (x : Bool). Passes a b multi_header (k, (x, m))) done
    (subst (λ (x : ℤ). Passes a b multi_header (k, (d, x))) err p))

-- the same for a type that was passed by value
pub header_of : {k n : ℤ} {d f : Bool} {e m : ℤ} {a b : Position} → Passes a b multi_header (k, (d, e)) → to_z w32 (of_z w32 k) ≡ n → d ≡ f → e ≡ m → Passes a b multi_header (n, (f, m))
unfolding Spells
header_of {k} p kind done err = header_is p (sym (to_z-of_z w32 k p.spelled.2.0) ∙ kind) done err

-- a header that was read, and then something that is wrong
fail_behind_header : (IsBad : ℤ → Bool → ℤ → List ℕ → ℕ → ℕ → Reason → Type 0) (Later : ℕ → List ℕ → ℕ → Reason → Type 0) (k : ℤ) (d : Bool) (e : ℤ) (a b : Position) (cause : NotRead) → ((y : List ℕ) (place : ℕ) (reason : Reason) → Later (a.place + 9) y place reason → IsBad k d e y a.place place reason) → Passes a b multi_header (k, (d, e)) → FailsAt b Later cause → FailsAt a (BehindHeader IsBad) cause
fail_behind_header IsBad Later k d e a b cause so p h = fail_behind (IsHeader k d e) Later (BehindHeader IsBad) a b cause
    (λ x y place reason head f. record {
      kind = k;
      done = d;
      err = e;
      header = x;
      left = y;
      head = head;
      cut = refl;
      bad = so y place reason (subst (λ (n : ℕ). Later (a.place + n) y place reason) (header_length k d e x head) f);
    }) (reach_passed multi_header (k, (d, e)) a b p) h

pub reach_op : (kind : OpKind) (op : Op) (a b c : Position) → Passes a b multi_header (op_number kind, (false, negsuc 0)) → op_kind_of op ≡ kind → Passes b c (op_record (op_kind_of op)) (op_fields op) → Reaches a c (SpellsOp op)
unfolding SpellsOp
reach_op kind op a b c head is p =
    let own : Passes a b multi_header (op_number (op_kind_of op), (false, negsuc 0)) = subst (λ (k : OpKind). Passes a b multi_header (op_number k, (false, negsuc 0))) (sym is) head in
    reach_passed (pair multi_header (op_record (op_kind_of op))) _ a c (pass_then multi_header (op_record (op_kind_of op)) _ _ a b c own p)

pub fail_op : (kind : OpKind) (a b : Position) (e : NotRead) → Passes a b multi_header (op_number kind, (false, negsuc 0)) → Fails b (op_record kind) e → FailsAt a RefusedOp e
fail_op kind a b e head h = fail_as (BehindHeader IsBadOp) RefusedOp a e (λ place reason bad. inr bad)
    (fail_behind_header IsBadOp (IsRefused (op_record kind)) (op_number kind) false (negsuc 0) a b e
    (λ y place reason f. inr (inr (inr (kind, refl, refl, refl, f)))) head (fail_passed (op_record kind) b e h))

-- behind the type -1; the code of the error was passed by value
pub reach_error : {k : ℤ} {d : Bool} {e : ℤ} (r : OpResult) (a b c : Position) → Passes a b multi_header (k, (d, e)) → of_z w32 k ≡ of_z w32 (negsuc 0) → d ≡ false → r ≡ op_results.Error (to_z w32 (of_z w32 e)) → Passes b c int (to_z w32 (of_z w32 e)) → Reaches a c (SpellsResult r)
unfolding Spells SpellsResult
reach_error {k} {d} {e} r a b c p kind done is q =
    let code = to_z w32 (of_z w32 e) in
    let none : k ≡ negsuc 0 = sym (to_z-of_z w32 k p.spelled.2.0) ∙ ap (λ (n : ℕ). to_z w32 n) kind in
    let head : Passes a b multi_header (negsuc 0, (false, code)) = header_is p none done (sym (to_z-of_z w32 e p.spelled.3.3.0)) in
    subst (λ (x : OpResult). Reaches a c (SpellsResult x)) (sym is)
    (reach_passed (pair multi_header int) _ a c (pass_then multi_header int _ _ a b c head q))

-- an operation that was done, and nothing behind its header
reach_bare : (kind : ℤ) (a b c : Position) → Passes a b multi_header (kind, (false, pos 0)) → c ≡ b → Reaches a c (IsHeader kind false (pos 0))
reach_bare kind a b c head is =
    subst (λ (x : Position). Reaches a x (IsHeader kind false (pos 0))) (sym is) (reach_passed multi_header _ a b head)

pub reach_done : (kind : OpKind) (r : OpResult) (a b c : Position) → Passes a b multi_header (op_number kind, (false, pos 0)) → IsDone kind b c r → Reaches a c (SpellsResult r)
unfolding SpellsResult
reach_done kinds.Create r a b c head p =
    subst (λ (x : OpResult). Reaches a c (SpellsResult x)) (sym p.1)
    (reach_passed (pair multi_header ustring) _ a c (pass_then multi_header ustring _ p.0 a b c head p.2))
reach_done kinds.Delete r a b c head p =
    subst (λ (x : OpResult). Reaches a c (SpellsResult x)) (sym p.0) (reach_bare (pos 2) a b c head p.1)
reach_done kinds.SetContent r a b c head p =
    subst (λ (x : OpResult). Reaches a c (SpellsResult x)) (sym p.1)
    (reach_passed (pair multi_header stat) _ a c (pass_then multi_header stat _ (stat_fields p.0) a b c head p.2))
reach_done kinds.Check r a b c head p =
    subst (λ (x : OpResult). Reaches a c (SpellsResult x)) (sym p.0) (reach_bare (pos 13) a b c head p.1)
reach_done kinds.Create2 r a b c head p =
    subst (λ (x : OpResult). Reaches a c (SpellsResult x)) (sym p.2)
    (reach_passed (pair multi_header (pair ustring stat)) _ a c (pass_then multi_header (pair ustring stat) _ (p.0, stat_fields p.1) a b c head p.3))

pub fail_done : (kind : OpKind) (a b : Position) (e : NotRead) → Passes a b multi_header (op_number kind, (false, pos 0)) → FailsAt b (RefusedIfAny (result_record kind)) e → FailsAt a RefusedResult e
fail_done kind a b e head h = fail_as (BehindHeader IsBadResult) RefusedResult a e (λ place reason bad. inr bad)
    (fail_behind_header IsBadResult (RefusedIfAny (result_record kind)) (op_number kind) false (pos 0) a b e
    (λ y place reason f. inr (inr (inr (inr (kind, refl, refl, refl, f))))) head h)

-- writing
number_bits : (kind : OpKind) → to_z w32 (of_z w32 (op_number kind)) ≡ op_number kind
number_bits kinds.Create = refl
number_bits kinds.Delete = refl
number_bits kinds.SetContent = refl
number_bits kinds.Check = refl
number_bits kinds.Create2 = refl

pub add_op : (op : Op) (a b c : List ℕ) → Adds a b multi_header (to_z w32 (of_z w32 (op_number (op_kind_of op))), (false, negsuc 0)) → Adds b c (op_record (op_kind_of op)) (op_fields op) → AddsBytes a c (SpellsOp op)
unfolding SpellsOp
add_op op a b c head p =
    let own = subst (λ (n : ℤ). Adds a b multi_header (n, (false, negsuc 0))) (number_bits (op_kind_of op)) head in
    add_as (pair multi_header (op_record (op_kind_of op))) _ a c (add_then multi_header (op_record (op_kind_of op)) _ _ a b c own p)

pub add_created : (path : List ℕ) (a b c : List ℕ) → Adds a b multi_header (pos 1, (false, pos 0)) → Adds b c ustring path → AddsBytes a c (SpellsResult (op_results.Created path))
unfolding SpellsResult
add_created path a b c head p = add_as (pair multi_header ustring) _ a c (add_then multi_header ustring _ _ a b c head p)

pub add_created2 : (path : List ℕ) (s : Stat) (a b c d : List ℕ) → Adds a b multi_header (pos 15, (false, pos 0)) → Adds b c ustring path → Adds c d stat (stat_fields s) → AddsBytes a d (SpellsResult (op_results.Created2 path s))
unfolding SpellsResult
add_created2 path s a b c d head p q =
    add_as (pair multi_header (pair ustring stat)) _ a d (add_then multi_header (pair ustring stat) _ _ a b d head (add_then ustring stat _ _ b c d p q))

pub add_deleted : (a b : List ℕ) → Adds a b multi_header (pos 2, (false, pos 0)) → AddsBytes a b (SpellsResult op_results.Deleted)
unfolding SpellsResult
add_deleted a b head = add_as multi_header _ a b head

pub add_changed : (s : Stat) (a b c : List ℕ) → Adds a b multi_header (pos 5, (false, pos 0)) → Adds b c stat (stat_fields s) → AddsBytes a c (SpellsResult (op_results.Changed s))
unfolding SpellsResult
add_changed s a b c head p = add_as (pair multi_header stat) _ a c (add_then multi_header stat _ _ a b c head p)

pub add_checked : (a b : List ℕ) → Adds a b multi_header (pos 13, (false, pos 0)) → AddsBytes a b (SpellsResult op_results.Checked)
unfolding SpellsResult
add_checked a b head = add_as multi_header _ a b head

pub add_error : (code : ℤ) (a b : List ℕ) → Adds a b (pair multi_header int) ((negsuc 0, (false, code)), code) → AddsBytes a b (SpellsResult (op_results.Error code))
unfolding SpellsResult
add_error code a b p = add_as (pair multi_header int) _ a b p
