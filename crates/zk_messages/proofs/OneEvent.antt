-- A body is one event, spelled in one way, or it is refused.
use Rattle.std.proofs.Common.{◌≡◌, ℕ, pos, negsuc, ◌+◌, List, [], ◌++◌, length, refl, sym, ap, subst, ◌∙◌, inl, inr}
use Rattle.jute_core.specs.Jute.{Jute, Value, Spells, int, long, pair}
use Rattle.jute_core.specs.declared.cursor.Reason.{Reason}
use Rattle.jute_core.proofs.OneSpelling.{one_spelling}
use Rattle.jute_core.proofs.ReadOrRefused.{read_or_refused}
use Rattle.zk_records.specs.Headers.{reply_header}
use Rattle.zk_messages.specs.Forms.{fields, SpellsForm, RefusedForm}
use Rattle.zk_messages.specs.Laws.{IsOneEvent, HasOneEventSpelling, IsEventOrRefused}
use Rattle.zk_messages.specs.Replies.{event_record, event_fields, IsWrong, IsWrongBefore}
use Rattle.zk_messages.specs.declared.reply.Event.{Event}
use Rattle.zk_messages.proofs.OneForm.{form_read}
use Rattle.zk_messages.proofs.OneList.{behind}
use Rattle.jute_core.proofs.SameSpelling.{same_bytes}
use Rattle.zk_messages.proofs.OneWriting.{halves}

abbrev event_of : Value event_record → Event
event_of v = record { kind = v.0; state = v.1.0; path = v.1.1 }

pub one_event : (body : List ℕ) → IsOneEvent body
one_event body e f p q =
    let r = one_spelling (pair reply_header event_record) ((negsuc 0, (negsuc 0, pos 0)), event_fields e) ((negsuc 0, (negsuc 0, pos 0)), event_fields f) body body [] [] p q refl in
    ap (λ v. event_of v.1) r.0

pub one_event_spelling : (e : Event) → HasOneEventSpelling e
one_event_spelling e a b p q = same_bytes (pair reply_header event_record) ((negsuc 0, (negsuc 0, pos 0)), event_fields e) a b p q

-- a field as it has to be, and nothing wrong behind it
not_wrong : (t : Jute) (v : Value t) (Behind : ℕ → List ℕ → ℕ → Reason → Type 0) (at : ℕ) (b x y : List ℕ) (place : ℕ) (reason : Reason) → Spells t v x → b ≡ x ++ y → ((later : ℕ) → Behind later y place reason → ⊥) → IsWrong t v Behind at b place reason → ⊥
not_wrong t v Behind at b x y place reason p e fine h = elim h [
  | inl first ↦ read_or_refused t v at x b y place reason p e first
  | inr h ↦ elim h [
    | inl other ↦ other.5 (one_spelling t other.0 v other.1 x other.2 y other.3 p (sym other.4 ∙ e)).0
    | inr later ↦
        let r = one_spelling t v v later.0 x later.1 y later.2 p (sym later.3 ∙ e) in
        fine (at + length later.0) (subst (λ (l : List ℕ). Behind (at + length later.0) l place reason) r.2 later.4)
  ]
]

-- what is wrong behind the zxid of the header, and behind its xid
abbrev BehindZxid : ℕ → List ℕ → ℕ → Reason → Type 0
BehindZxid at b place reason = IsWrong int (pos 0) (RefusedForm (fields event_record)) at b place reason

abbrev BehindXid : ℕ → List ℕ → ℕ → Reason → Type 0
BehindXid at b place reason = IsWrong long (negsuc 0) BehindZxid at b place reason

pub event_or_refused : (body : List ℕ) → IsEventOrRefused body
unfolding IsWrongBefore SpellsForm
event_or_refused body e place reason p h =
    let whole = halves reply_header event_record (negsuc 0, (negsuc 0, pos 0)) (event_fields e) body p in
    let xid = halves int (pair long int) (negsuc 0) (negsuc 0, pos 0) whole.first whole.front in
    let zxid = halves long int (negsuc 0) (pos 0) xid.second xid.behind in
    let behind_xid : body ≡ xid.first ++ (xid.second ++ whole.second) = whole.cut ∙ behind xid.first xid.second whole.second whole.first xid.cut in
    not_wrong int (negsuc 0) BehindXid 0 body xid.first (xid.second ++ whole.second) place reason xid.front behind_xid
    (λ i. not_wrong long (negsuc 0) BehindZxid i (xid.second ++ whole.second) zxid.first (zxid.second ++ whole.second) place reason zxid.front (behind zxid.first zxid.second whole.second xid.second zxid.cut)
    (λ j. not_wrong int (pos 0) (RefusedForm (fields event_record)) j (zxid.second ++ whole.second) zxid.second whole.second place reason zxid.behind refl
    (λ k. form_read (fields event_record) (event_fields e) k whole.second place reason whole.behind))) h
