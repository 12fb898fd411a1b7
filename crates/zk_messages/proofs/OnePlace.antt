-- A refusal has one place and one reason.
use Rattle.std.proofs.Common.{◌≡◌, ◌≢◌, ◌⊎◌, ℕ, ℤ, pos, negsuc, ◌+◌, ◌<◌, Bool, true, false, List, [], ◌∷◌, ◌++◌, length, Option, Some, None, refl, sym, ap, subst, ◌∙◌, inl, inr}
use Rattle.jute_core.specs.Jute.{Jute, Value, Spells, Refused, int, long, Each}
use Rattle.jute_core.specs.declared.cursor.Reason.{Reason}
use Rattle.jute_core.specs.declared.cursor.Reason.TheVariants.{BadType, BadHeader, BadXid, Trailing}
use Rattle.jute_core.proofs.OneRefusal.{one_refusal}
use Rattle.jute_core.proofs.OneSpelling.{one_spelling}
use Rattle.jute_core.proofs.ReadOrRefused.{read_or_refused}
use Rattle.zk_records.specs.Headers.{request_header, reply_header}
use Rattle.zk_messages.specs.Forms.{Form, fields, nothing, operations, results, unread, RefusedFront, IsFollowed, RefusedForm, form_of_any, form_of_shape}
use Rattle.zk_messages.specs.Kinds.{op_number}
use Rattle.zk_messages.specs.Laws.{HasOneRefusal, HasOneReplyRefusal, HasOneEventRefusal}
use Rattle.zk_messages.specs.Multi.{multi_header, op_record, SpellsOp, SpellsResult, IsNoOp, IsBadErr, IsBadMark, IsBadOp, IsBadRepeat, result_record, RefusedIfAny, IsBadResult, BehindHeader, RefusedOp, RefusedResult, RefusedOps, RefusedResults}
use Rattle.zk_messages.specs.Reading.{RefusedAmong}
use Rattle.zk_messages.specs.Replies.{IsBadOutcome, IsBadReply, event_record, IsWrong, IsWrongBefore}
use Rattle.zk_messages.specs.Requests.{IsKind, MayHave, IsBadBody, IsBadRequest}
use Rattle.zk_messages.specs.declared.kind.Kind.{Kind}
use Rattle.zk_messages.specs.declared.kind.OpKind.{OpKind}
use Rattle.zk_messages.specs.declared.reply.Shape.{Shape}
use Rattle.zk_messages.proofs.OneForm.{IsRead, form_apart, front_read}
use Rattle.zk_messages.proofs.OneList.{AreApart, AreRead, behind}
use Rattle.zk_messages.proofs.OneMulti.{op_numbers, no_number, headers, good_mark, one_op, op_read, one_result, result_read}
use Rattle.zk_messages.proofs.OneRequest.{one_kind}

-- of what is said of a place and a reason: it holds of one of each
abbrev IsOnce : (ℕ → Reason → Type 0) → Type 0
IsOnce P = (p q : ℕ) (r s : Reason) → P p r → P q s → (p ≡ q) × (r ≡ s)

-- two such things do not both hold, of any
abbrev AreExclusive : (ℕ → Reason → Type 0) → (ℕ → Reason → Type 0) → Type 0
AreExclusive P Q = (p q : ℕ) (r s : Reason) → P p r → Q q s → ⊥

once_or : (P Q : ℕ → Reason → Type 0) → IsOnce P → IsOnce Q → AreExclusive P Q → IsOnce (λ p r. P p r ⊎ Q p r)
once_or P Q one other apart p q r s h k = elim h [
  | inl a ↦ elim k [ inl b ↦ one p q r s a b | inr b ↦ absurd (apart p q r s a b) ]
  | inr a ↦ elim k [ inl b ↦ absurd (apart q p s r b a) | inr b ↦ other p q r s a b ]
]

-- values one after another, and then no further one
same_left : {V : Type 0} (R : V → List ℕ → Type 0) (F : ℕ → List ℕ → ℕ → Reason → Type 0) → AreApart R → AreRead R F
    → (vs ws : List V) (i j l m : List ℕ) (at to p q : ℕ) (r s : Reason) → Each R vs i → Each R ws j → F at l p r → F to m q s → i ++ l ≡ j ++ m → (i ≡ j) × (l ≡ m)
same_left R F one item [] [] i j l m at to p q r s x y f g e = (x ∙ sym y, ap (λ (k : List ℕ). k ++ l) (sym x) ∙ e ∙ ap (λ (k : List ℕ). k ++ m) y)
same_left R F one item [] (w ∷ ws) i j l m at to p q r s x y f g e =
    absurd (item w at y.0 l (y.1 ++ m) p r y.2 (ap (λ (k : List ℕ). k ++ l) (sym x) ∙ e ∙ behind y.0 y.1 m j y.4) f)
same_left R F one item (v ∷ vs) [] i j l m at to p q r s x y f g e =
    absurd (item v to x.0 m (x.1 ++ l) q s x.2 (ap (λ (k : List ℕ). k ++ m) (sym y) ∙ sym e ∙ behind x.0 x.1 l i x.4) g)
same_left R F one item (v ∷ vs) (w ∷ ws) i j l m at to p q r s x y f g e =
    let u = one v w x.0 y.0 (x.1 ++ l) (y.1 ++ m) x.2 y.2 (sym (behind x.0 x.1 l i x.4) ∙ e ∙ behind y.0 y.1 m j y.4) in
    let t = same_left R F one item vs ws x.1 y.1 l m at to p q r s x.3 y.3 f g u.2 in
    (x.4 ∙ ap (λ (k : List ℕ). k ++ x.1) u.1 ∙ ap (λ (k : List ℕ). y.0 ++ k) t.0 ∙ sym y.4, t.1)

among_once : {V : Type 0} (R : V → List ℕ → Type 0) (F : ℕ → List ℕ → ℕ → Reason → Type 0) → AreApart R → AreRead R F → ((at : ℕ) (b : List ℕ) → IsOnce (F at b)) → (at : ℕ) (b : List ℕ) → IsOnce (RefusedAmong R F at b)
among_once R F one item once at b p q r s h k =
    let u = same_left R F one item h.before k.before h.items k.items h.left k.left (at + length h.items) (at + length k.items) p q r s h.each k.each h.next k.next (sym h.cut ∙ k.cut) in
    let placed = subst (λ (l : List ℕ). F (at + length l) k.left q s) (sym u.0) k.next in
    once (at + length h.items) h.left p q r s h.next (subst (λ (l : List ℕ). F (at + length h.items) l q s) (sym u.1) placed)

-- the header of an operation or a result, and what is wrong behind it
abbrev Fault : Type 1
Fault = ℤ → Bool → ℤ → List ℕ → ℕ → ℕ → Reason → Type 0

same_fault : (IsBad : Fault) (k l : ℤ) (d f : Bool) (m n : ℤ) (x y : List ℕ) (at p : ℕ) (r : Reason) → k ≡ l → d ≡ f → m ≡ n → x ≡ y → IsBad l f n y at p r → IsBad k d m x at p r
same_fault IsBad k l d f m n x y at p r a b c e h =
    subst (λ (z : ℤ). IsBad z d m x at p r) (sym a) (subst (λ (z : Bool). IsBad l z m x at p r) (sym b) (subst (λ (z : ℤ). IsBad l f z x at p r) (sym c) (subst (λ (z : List ℕ). IsBad l f n z at p r) (sym e) h)))

behind_once : (IsBad : Fault) → ((kind : ℤ) (done : Bool) (err : ℤ) (left : List ℕ) (at : ℕ) → IsOnce (IsBad kind done err left at)) → (at : ℕ) (b : List ℕ) → IsOnce (BehindHeader IsBad at b)
behind_once IsBad once at b p q r s h k =
    let u = headers _ _ _ _ _ _ h.header k.header h.left k.left h.head k.head (sym h.cut ∙ k.cut) in
    once h.kind h.done h.err h.left at p q r s h.bad (same_fault IsBad h.kind k.kind h.done k.done h.err k.err h.left k.left at q s u.kind u.done u.err u.more k.bad)

header_once : (IsBad : Fault) → ((kind : ℤ) (done : Bool) (err : ℤ) (left : List ℕ) (at : ℕ) → IsOnce (IsBad kind done err left at)) → (at : ℕ) (b : List ℕ) → IsOnce (λ p r. Refused multi_header at b p r ⊎ BehindHeader IsBad at b p r)
header_once IsBad once at b = once_or (Refused multi_header at b) (BehindHeader IsBad at b) (one_refusal multi_header at b) (behind_once IsBad once at b)
    (λ p q r s first bad. read_or_refused multi_header (bad.kind, (bad.done, bad.err)) at bad.header b bad.left p r bad.head bad.cut first)

mark_once : (wanted : Bool) (n : ℤ) (done : Bool) (err : ℤ) (at : ℕ) → IsOnce (IsBadMark wanted n done err at)
mark_once wanted n done err at = once_or (λ p r. (done ≢ wanted) × (p ≡ at + 4) × (r ≡ BadHeader)) (λ p r. (done ≡ wanted) × IsBadErr n err at p r)
    (λ p q r s h k. (h.1 ∙ sym k.1, h.2 ∙ sym k.2))
    (λ p q r s h k. (h.1.1 ∙ sym k.1.1, h.1.2 ∙ sym k.1.2))
    (λ p q r s h k. h.0 k.0)

-- the parts of IsBadOp and of IsBadResult
abbrev BadEnd : ℤ → Bool → ℤ → ℕ → ℕ → Reason → Type 0
BadEnd kind done err at p r = (kind ≡ negsuc 0) × IsBadMark true (negsuc 0) done err at p r

abbrev BadResultEnd : ℤ → Bool → ℤ → ℕ → ℕ → Reason → Type 0
BadResultEnd kind done err at p r = (kind ≡ negsuc 0) × (done ≡ true) × IsBadErr (negsuc 0) err at p r

abbrev BadCode : ℤ → Bool → ℤ → List ℕ → ℕ → ℕ → Reason → Type 0
BadCode kind done err left at p r = (kind ≡ negsuc 0) × (done ≡ false) × IsBadRepeat err (at + 9) left p r

abbrev NoOp : ℤ → ℕ → ℕ → Reason → Type 0
NoOp kind at p r = IsNoOp kind × (p ≡ at) × (r ≡ BadType)

abbrev BadOpMark : ℤ → ℤ → Bool → ℤ → ℕ → ℕ → Reason → Type 0
BadOpMark wanted kind done err at p r = (k : OpKind) × (kind ≡ op_number k) × IsBadMark false wanted done err at p r

abbrev BadBehind : (OpKind → ℕ → Reason → Type 0) → ℤ → ℤ → Bool → ℤ → ℕ → Reason → Type 0
BadBehind Behind wanted kind done err p r = (k : OpKind) × (kind ≡ op_number k) × (done ≡ false) × (err ≡ wanted) × Behind k p r

-- where the type is that of an operation
op_part_once : (Behind : OpKind → ℕ → Reason → Type 0) (wanted kind : ℤ) (done : Bool) (err : ℤ) (at : ℕ) → ((k : OpKind) → IsOnce (Behind k))
    → IsOnce (λ p r. NoOp kind at p r ⊎ BadOpMark wanted kind done err at p r ⊎ BadBehind Behind wanted kind done err p r)
op_part_once Behind wanted kind done err at once = once_or (NoOp kind at) (λ p r. BadOpMark wanted kind done err at p r ⊎ BadBehind Behind wanted kind done err p r)
    (λ p q r s h k. (h.1 ∙ sym k.1, h.2 ∙ sym k.2))
    (once_or (BadOpMark wanted kind done err at) (BadBehind Behind wanted kind done err)
    (λ p q r s h k. mark_once false wanted done err at p q r s h.2 k.2)
    (λ p q r s h k. once h.0 p q r s h.4 (subst (λ (o : OpKind). Behind o q s) (op_numbers k.0 h.0 (sym k.1 ∙ h.1)) k.4))
    (λ p q r s h k. good_mark false wanted done err at p r k.2 k.3 h.2))
    (λ p q r s h k. elim k [ inl mark ↦ h.0.1 mark.0 mark.1 | inr more ↦ h.0.1 more.0 more.1 ])

-- and where it is none, it is none of these
none_apart : (Behind : OpKind → ℕ → Reason → Type 0) (wanted kind : ℤ) (done : Bool) (err : ℤ) (at p : ℕ) (r : Reason) → kind ≡ negsuc 0
    → NoOp kind at p r ⊎ BadOpMark wanted kind done err at p r ⊎ BadBehind Behind wanted kind done err p r → ⊥
none_apart Behind wanted kind done err at p r e h = elim h [
  | inl unknown ↦ unknown.0.0 e
  | inr h ↦ elim h [ inl mark ↦ no_number mark.0 (sym mark.1 ∙ e) | inr more ↦ no_number more.0 (sym more.1 ∙ e) ]
]

bad_op_once : (kind : ℤ) (done : Bool) (err : ℤ) (left : List ℕ) (at : ℕ) → IsOnce (IsBadOp kind done err left at)
bad_op_once kind done err left at =
    let Behind : OpKind → ℕ → Reason → Type 0 = λ k. Refused (op_record k) (at + 9) left in
    once_or (BadEnd kind done err at) (λ p r. NoOp kind at p r ⊎ BadOpMark (negsuc 0) kind done err at p r ⊎ BadBehind Behind (negsuc 0) kind done err p r)
    (λ p q r s h k. mark_once true (negsuc 0) done err at p q r s h.1 k.1)
    (op_part_once Behind (negsuc 0) kind done err at (λ k. one_refusal (op_record k) (at + 9) left))
    (λ p q r s h k. none_apart Behind (negsuc 0) kind done err at q s h.0 k)

repeat_once : (err : ℤ) (at : ℕ) (b : List ℕ) → IsOnce (IsBadRepeat err at b)
repeat_once err at b = once_or (Refused int at b) (λ p r. (z : ℤ) × (x y : List ℕ) × Spells int z x × (b ≡ x ++ y) × (z ≢ err) × (p ≡ at) × (r ≡ BadHeader))
    (one_refusal int at b)
    (λ p q r s h k. (h.6 ∙ sym k.6, h.7 ∙ sym k.7))
    (λ p q r s first other. read_or_refused int other.0 at other.1 b other.2 p r other.3 other.4 first)

if_any_once : (o : Option Jute) (at : ℕ) (b : List ℕ) → IsOnce (RefusedIfAny o at b)
if_any_once None at b p q r s h k = absurd h
if_any_once (Some t) at b p q r s h k = one_refusal t at b p q r s h k

bad_result_once : (kind : ℤ) (done : Bool) (err : ℤ) (left : List ℕ) (at : ℕ) → IsOnce (IsBadResult kind done err left at)
bad_result_once kind done err left at =
    let Behind : OpKind → ℕ → Reason → Type 0 = λ k. RefusedIfAny (result_record k) (at + 9) left in
    once_or (BadResultEnd kind done err at) (λ p r. BadCode kind done err left at p r ⊎ NoOp kind at p r ⊎ BadOpMark (pos 0) kind done err at p r ⊎ BadBehind Behind (pos 0) kind done err p r)
    (λ p q r s h k. (h.2.1 ∙ sym k.2.1, h.2.2 ∙ sym k.2.2))
    (once_or (BadCode kind done err left at) (λ p r. NoOp kind at p r ⊎ BadOpMark (pos 0) kind done err at p r ⊎ BadBehind Behind (pos 0) kind done err p r)
    (λ p q r s h k. repeat_once err (at + 9) left p q r s h.2 k.2)
    (op_part_once Behind (pos 0) kind done err at (λ k. if_any_once (result_record k) (at + 9) left))
    (λ p q r s h k. none_apart Behind (pos 0) kind done err at q s h.0 k))
    (λ p q r s h k. elim k [ inl code ↦ not_both (sym h.1 ∙ code.1) | inr more ↦ none_apart Behind (pos 0) kind done err at q s h.0 more ])
  where
    not_both : true ≡ false → ⊥
    not_both e = cc

ops_once : (at : ℕ) (b : List ℕ) → IsOnce (RefusedOps at b)
ops_once = among_once SpellsOp RefusedOp one_op op_read (header_once IsBadOp bad_op_once)

results_once : (at : ℕ) (b : List ℕ) → IsOnce (RefusedResults at b)
results_once = among_once SpellsResult RefusedResult one_result result_read (header_once IsBadResult bad_result_once)

-- what follows a header
front_once : (f : Form) (at : ℕ) (b : List ℕ) → IsOnce (RefusedFront f at b)
front_once (fields t) at b p q r s h k = one_refusal t at b p q r s h k
front_once nothing at b p q r s h k = absurd h
front_once operations at b p q r s h k = ops_once at b p q r s h k
front_once results at b p q r s h k = results_once at b p q r s h k
front_once unread at b p q r s h k = absurd h

followed_once : (f : Form) → IsRead f → (at : ℕ) (b : List ℕ) → IsOnce (IsFollowed f at b)
followed_once f is at b p q r s h k =
    let u = form_apart f is h.value k.value h.bytes k.bytes h.more k.more h.spelled k.spelled (sym h.cut ∙ k.cut) in
    (h.found ∙ ap (λ (l : List ℕ). at + length l) u.1 ∙ sym k.found, h.why ∙ sym k.why)

read_form_once : (f : Form) → IsRead f → (at : ℕ) (b : List ℕ) → IsOnce (λ p r. RefusedFront f at b p r ⊎ IsFollowed f at b p r)
read_form_once f is at b = once_or (RefusedFront f at b) (IsFollowed f at b) (front_once f at b) (followed_once f is at b)
    (λ p q r s front more. front_read f more.value at more.bytes b more.more p r more.spelled more.cut front)

form_once : (f : Form) (at : ℕ) (b : List ℕ) → IsOnce (RefusedForm f at b)
unfolding RefusedForm
form_once (fields t) at b p q r s h k = read_form_once (fields t) tt at b p q r s h k
form_once nothing at b p q r s h k = read_form_once nothing tt at b p q r s h k
form_once operations at b p q r s h k = read_form_once operations tt at b p q r s h k
form_once results at b p q r s h k = read_form_once results tt at b p q r s h k
form_once unread at b p q r s h k = absurd h

-- requests
bad_body_once : (xid number : ℤ) (rest : List ℕ) → IsOnce (IsBadBody xid number rest)
bad_body_once xid number rest = once_or (λ p r. (MayHave xid number → ⊥) × (p ≡ 0) × (r ≡ BadXid)) (λ p r. MayHave xid number × (kind : Option Kind) × IsKind number kind × RefusedForm (form_of_any kind) 8 rest p r)
    (λ p q r s h k. (h.1 ∙ sym k.1, h.2 ∙ sym k.2))
    (λ p q r s h k. form_once (form_of_any h.1) 8 rest p q r s h.3 (subst (λ (o : Option Kind). RefusedForm (form_of_any o) 8 rest q s) (one_kind number number k.1 h.1 refl k.2 h.2) k.3))
    (λ p q r s h k. h.0 k.0)

bad_request_once : (body : List ℕ) → IsOnce (IsBadRequest body)
bad_request_once body p q r s h k =
    let u = one_spelling request_header (h.xid, h.kind) (k.xid, k.kind) h.header k.header h.rest k.rest h.head k.head (sym h.cut ∙ k.cut) in
    let by_rest = subst (λ (l : List ℕ). IsBadBody k.xid k.kind l q s) (sym u.2) k.bad in
    let by_kind = subst (λ (z : ℤ). IsBadBody k.xid z h.rest q s) (sym (ap (λ v. v.1) u.0)) by_rest in
    bad_body_once h.xid h.kind h.rest p q r s h.bad (subst (λ (z : ℤ). IsBadBody z h.kind h.rest q s) (sym (ap (λ v. v.0) u.0)) by_kind)

pub one_request_refusal : (body : List ℕ) → HasOneRefusal body
one_request_refusal body = once_or (Refused request_header 0 body) (IsBadRequest body) (one_refusal request_header 0 body) (bad_request_once body)
    (λ p q r s first bad. read_or_refused request_header (bad.xid, bad.kind) 0 bad.header body bad.rest p r bad.head bad.cut first)

-- replies
bad_outcome_once : (shape : Shape) (err : ℤ) (rest : List ℕ) → IsOnce (IsBadOutcome shape err rest)
bad_outcome_once shape err rest = once_or (λ p r. (err ≢ pos 0) × (0 < length rest) × (p ≡ 16) × (r ≡ Trailing)) (λ p r. (err ≡ pos 0) × RefusedForm (form_of_shape shape) 16 rest p r)
    (λ p q r s h k. (h.2 ∙ sym k.2, h.3 ∙ sym k.3))
    (λ p q r s h k. form_once (form_of_shape shape) 16 rest p q r s h.1 k.1)
    (λ p q r s h k. h.0 k.0)

bad_reply_once : (shape : Shape) (body : List ℕ) → IsOnce (IsBadReply shape body)
bad_reply_once shape body p q r s h k =
    let u = one_spelling reply_header (h.xid, (h.zxid, h.err)) (k.xid, (k.zxid, k.err)) h.header k.header h.rest k.rest h.head k.head (sym h.cut ∙ k.cut) in
    let by_rest = subst (λ (l : List ℕ). IsBadOutcome shape k.err l q s) (sym u.2) k.bad in
    bad_outcome_once shape h.err h.rest p q r s h.bad (subst (λ (z : ℤ). IsBadOutcome shape z h.rest q s) (sym (ap (λ v. v.1.1) u.0)) by_rest)

pub one_reply_refusal : (shape : Shape) (body : List ℕ) → HasOneReplyRefusal shape body
one_reply_refusal shape body = once_or (Refused reply_header 0 body) (IsBadReply shape body) (one_refusal reply_header 0 body) (bad_reply_once shape body)
    (λ p q r s first bad. read_or_refused reply_header (bad.xid, (bad.zxid, bad.err)) 0 bad.header body bad.rest p r bad.head bad.cut first)

-- events
abbrev IsOther : (t : Jute) → Value t → ℕ → List ℕ → ℕ → Reason → Type 0
IsOther t v at b p r = (w : Value t) × (x y : List ℕ) × Spells t w x × (b ≡ x ++ y) × (w ≢ v) × (p ≡ at) × (r ≡ BadHeader)

abbrev IsBehind : (t : Jute) → Value t → (ℕ → List ℕ → ℕ → Reason → Type 0) → ℕ → List ℕ → ℕ → Reason → Type 0
IsBehind t v Behind at b p r = (x y : List ℕ) × Spells t v x × (b ≡ x ++ y) × Behind (at + length x) y p r

wrong_once : (t : Jute) (v : Value t) (Behind : ℕ → List ℕ → ℕ → Reason → Type 0) → ((at : ℕ) (b : List ℕ) → IsOnce (Behind at b)) → (at : ℕ) (b : List ℕ) → IsOnce (IsWrong t v Behind at b)
wrong_once t v Behind once at b = once_or (Refused t at b) (λ p r. IsOther t v at b p r ⊎ IsBehind t v Behind at b p r)
    (one_refusal t at b)
    (once_or (IsOther t v at b) (IsBehind t v Behind at b)
    (λ p q r s h k. (h.6 ∙ sym k.6, h.7 ∙ sym k.7))
    (λ p q r s h k.
    let u = one_spelling t v v h.0 k.0 h.1 k.1 h.2 k.2 (sym h.3 ∙ k.3) in
    let placed = subst (λ (l : List ℕ). Behind (at + length l) k.1 q s) (sym u.1) k.4 in
    once (at + length h.0) h.1 p q r s h.4 (subst (λ (l : List ℕ). Behind (at + length h.0) l q s) (sym u.2) placed))
    (λ p q r s h k. h.5 (one_spelling t h.0 v h.1 k.0 h.2 k.1 h.3 k.2 (sym h.4 ∙ k.3)).0))
    (λ p q r s first more. elim more [
      | inl other ↦ read_or_refused t other.0 at other.1 b other.2 p r other.3 other.4 first
      | inr later ↦ read_or_refused t v at later.0 b later.1 p r later.2 later.3 first
    ])

pub one_event_refusal : (body : List ℕ) → HasOneEventRefusal body
unfolding IsWrongBefore
one_event_refusal body =
    wrong_once int (negsuc 0) (IsWrong long (negsuc 0) (IsWrong int (pos 0) (RefusedForm (fields event_record))))
    (wrong_once long (negsuc 0) (IsWrong int (pos 0) (RefusedForm (fields event_record)))
    (wrong_once int (pos 0) (RefusedForm (fields event_record)) (form_once (fields event_record)))) 0 body
