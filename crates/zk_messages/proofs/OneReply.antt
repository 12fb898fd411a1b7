-- In each shape a body is one reply, spelled in one way, or it is refused.
use Rattle.std.proofs.Common.{◌≡◌, ◌≢◌, ◌⊎◌, ℕ, ℤ, pos, List, [], ◌++◌, length, refl, sym, ap, subst, ◌∙◌, inl, inr, arith}
use Rattle.jute_core.specs.declared.cursor.Reason.{Reason}
use Rattle.jute_core.proofs.OneSpelling.{one_spelling}
use Rattle.jute_core.proofs.ReadOrRefused.{read_or_refused}
use Rattle.zk_records.specs.Acls.{acls_fields}
use Rattle.zk_records.specs.Headers.{reply_header}
use Rattle.zk_records.specs.Stats.{stat_fields}
use Rattle.zk_messages.specs.Forms.{FormValue, SpellsForm, form_of_shape}
use Rattle.zk_messages.specs.Laws.{IsOneReply, HasOneReplySpelling, IsReplyOrRefused}
use Rattle.zk_messages.specs.Replies.{SpellsOutcome, err_of, IsBadOutcome}
use Rattle.zk_messages.specs.declared.reply.Outcome.{Outcome}
use Rattle.zk_messages.specs.declared.reply.Outcome.TheVariants as outcomes
use Rattle.zk_messages.specs.declared.reply.Reply.{Reply}
use Rattle.zk_messages.specs.declared.reply.Shape.{Shape}
use Rattle.zk_messages.specs.declared.reply.Shape.TheVariants as shapes
use Rattle.zk_messages.proofs.OneForm.{form_one, form_same, form_read}
use Rattle.jute_core.proofs.SameSpelling.{same_bytes}
use Rattle.zk_messages.proofs.RecordsBack.{acls_of, acls_back, stat_of}

-- an outcome without error, from what follows the header
outcome_of : (shape : Shape) → FormValue (form_of_shape shape) → Outcome
outcome_of shapes.Empty v = outcomes.Empty
outcome_of shapes.Path v = outcomes.Path v
outcome_of shapes.Stat v = outcomes.Stat (stat_of v)
outcome_of shapes.Content v = outcomes.Content v.0 (stat_of v.1)
outcome_of shapes.Acls v = outcomes.Acls (acls_of v.0) (stat_of v.1)
outcome_of shapes.Children v = outcomes.Children v
outcome_of shapes.Children2 v = outcomes.Children2 v.0 (stat_of v.1)
outcome_of shapes.Multi v = outcomes.Multi v
outcome_of shapes.Created2 v = outcomes.Created2 v.0 (stat_of v.1)

-- an outcome that is an error
record IsError (o : Outcome) (b : List ℕ) : Type 0 where
  code : err_of o ≢ pos 0
  nothing : b ≡ []
  is : o ≡ outcomes.Error (err_of o)

-- and one that is none
record IsDone (shape : Shape) (o : Outcome) (b : List ℕ) : Type 0 where
  code : err_of o ≡ pos 0
  value : FormValue (form_of_shape shape)
  spelled : SpellsForm (form_of_shape shape) value b
  is : outcome_of shape value ≡ o

either : (shape : Shape) (o : Outcome) (b : List ℕ) → SpellsOutcome shape o b → IsError o b ⊎ IsDone shape o b
unfolding SpellsOutcome outcome_of SpellsForm
either shape (outcomes.Error code) b p = inl (record { code = p.0; nothing = p.1; is = refl })
either shapes.Empty outcomes.Empty b p = inr (record { code = refl; value = tt; spelled = p; is = refl })
either shapes.Path (outcomes.Path path) b p = inr (record { code = refl; value = path; spelled = p; is = refl })
either shapes.Stat (outcomes.Stat s) b p = inr (record { code = refl; value = stat_fields s; spelled = p; is = refl })
either shapes.Content (outcomes.Content content s) b p = inr (record { code = refl; value = (content, stat_fields s); spelled = p; is = refl })
either shapes.Acls (outcomes.Acls list s) b p = inr (record { code = refl; value = (acls_fields list, stat_fields s); spelled = p; is = ap (λ l. outcomes.Acls l s) (acls_back list) })
either shapes.Children (outcomes.Children names) b p = inr (record { code = refl; value = names; spelled = p; is = refl })
either shapes.Children2 (outcomes.Children2 names s) b p = inr (record { code = refl; value = (names, stat_fields s); spelled = p; is = refl })
either shapes.Multi (outcomes.Multi list) b p = inr (record { code = refl; value = list; spelled = p; is = refl })
either shapes.Created2 (outcomes.Created2 path s) b p = inr (record { code = refl; value = (path, stat_fields s); spelled = p; is = refl })
either shape o b p = absurd p

outcome_same : (shape : Shape) (o : Outcome) (a b : List ℕ) → SpellsOutcome shape o a → SpellsOutcome shape o b → a ≡ b
unfolding SpellsOutcome
outcome_same shape (outcomes.Error code) a b p q = p.1 ∙ sym q.1
outcome_same shapes.Empty outcomes.Empty a b p q = p ∙ sym q
outcome_same shapes.Path (outcomes.Path path) a b p q = form_same (form_of_shape shapes.Path) _ a b p q
outcome_same shapes.Stat (outcomes.Stat s) a b p q = form_same (form_of_shape shapes.Stat) _ a b p q
outcome_same shapes.Content (outcomes.Content content s) a b p q = form_same (form_of_shape shapes.Content) _ a b p q
outcome_same shapes.Acls (outcomes.Acls list s) a b p q = form_same (form_of_shape shapes.Acls) _ a b p q
outcome_same shapes.Children (outcomes.Children names) a b p q = form_same (form_of_shape shapes.Children) _ a b p q
outcome_same shapes.Children2 (outcomes.Children2 names s) a b p q = form_same (form_of_shape shapes.Children2) _ a b p q
outcome_same shapes.Multi (outcomes.Multi list) a b p q = form_same (form_of_shape shapes.Multi) _ a b p q
outcome_same shapes.Created2 (outcomes.Created2 path s) a b p q = form_same (form_of_shape shapes.Created2) _ a b p q
outcome_same shape o a b p q = absurd p

one_outcome : (shape : Shape) (o p : Outcome) (b : List ℕ) → err_of o ≡ err_of p → SpellsOutcome shape o b → SpellsOutcome shape p b → o ≡ p
one_outcome shape o p b e h k = elim (either shape o b h) [
  | inl error ↦ elim (either shape p b k) [
    | inl other ↦ error.is ∙ ap (λ (z : ℤ). outcomes.Error z) e ∙ sym other.is
    | inr done ↦ absurd (error.code (e ∙ done.code))
  ]
  | inr done ↦ elim (either shape p b k) [
    | inl error ↦ absurd (error.code (sym e ∙ done.code))
    | inr other ↦ sym done.is ∙ ap (outcome_of shape) (form_one (form_of_shape shape) done.value other.value b done.spelled other.spelled) ∙ other.is
  ]
]

abbrev reply : ℤ → ℤ → Outcome → Reply
reply xid zxid outcome = record { xid = xid; zxid = zxid; outcome = outcome }

replies : (a b c d : ℤ) (o p : Outcome) → a ≡ b → c ≡ d → o ≡ p → reply a c o ≡ reply b d p
replies a b c d o p e f g = cc

pub one_reply : (shape : Shape) (body : List ℕ) → IsOneReply shape body
one_reply shape body r s p q =
    let h = one_spelling reply_header (r.xid, (r.zxid, err_of r.outcome)) (s.xid, (s.zxid, err_of s.outcome)) p.header q.header p.rest q.rest p.head q.head (sym p.cut ∙ q.cut) in
    let tail = subst (λ (l : List ℕ). SpellsOutcome shape s.outcome l) (sym h.2) q.tail in
    replies r.xid s.xid r.zxid s.zxid r.outcome s.outcome (ap (λ v. v.0) h.0) (ap (λ v. v.1.0) h.0) (one_outcome shape r.outcome s.outcome p.rest (ap (λ v. v.1.1) h.0) p.tail tail)

pub one_reply_spelling : (shape : Shape) (r : Reply) → HasOneReplySpelling shape r
one_reply_spelling shape r a b p q =
    let front = same_bytes reply_header (r.xid, (r.zxid, err_of r.outcome)) p.header q.header p.head q.head in
    let rest = outcome_same shape r.outcome p.rest q.rest p.tail q.tail in
    p.cut ∙ ap (λ (l : List ℕ). l ++ p.rest) front ∙ ap (λ (l : List ℕ). q.header ++ l) rest ∙ sym q.cut

-- with the same header
not_bad : (shape : Shape) (o : Outcome) (err : ℤ) (b c : List ℕ) (place : ℕ) (reason : Reason) → err_of o ≡ err → b ≡ c → SpellsOutcome shape o b → IsBadOutcome shape err c place reason → ⊥
not_bad shape o err b c place reason e f p h = elim (either shape o b p) [
  | inl error ↦ elim h [
    | inl more ↦ omega (arith, more.1, ap length (sym f ∙ error.nothing))
    | inr form ↦ error.code (e ∙ form.0)
  ]
  | inr done ↦ elim h [
    | inl more ↦ more.0 (sym e ∙ done.code)
    | inr form ↦ form_read (form_of_shape shape) done.value 16 c place reason (subst (λ (l : List ℕ). SpellsForm (form_of_shape shape) done.value l) f done.spelled) form.1
  ]
]

pub reply_or_refused : (shape : Shape) (body : List ℕ) → IsReplyOrRefused shape body
reply_or_refused shape body r place reason p h = elim h [
  | inl first ↦ read_or_refused reply_header (r.xid, (r.zxid, err_of r.outcome)) 0 p.header body p.rest place reason p.head p.cut first
  | inr bad ↦
      let u = one_spelling reply_header (r.xid, (r.zxid, err_of r.outcome)) (bad.xid, (bad.zxid, bad.err)) p.header bad.header p.rest bad.rest p.head bad.head (sym p.cut ∙ bad.cut) in
      not_bad shape r.outcome bad.err p.rest bad.rest place reason (ap (λ v. v.1.1) u.0) u.2 p.tail bad.bad
]
