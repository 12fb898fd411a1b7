-- A value and nothing after it.
use Rattle.std.proofs.Common.{◌≡◌, ℕ, List, [], ◌++◌, ◌<◌, length, ap, subst, refl, sym, ◌∙◌, inl, inr, arith, zero-add}
use Rattle.std.proofs.lemmas.List.{append-nil}
use Rattle.jute_core.specs.Jute.{Jute, Value, Spells}
use Rattle.jute_core.specs.Laws.{IsWholeOrRefused, HasOneWholeRefusal}
use Rattle.jute_core.specs.Position.{Position, Passes}
use Rattle.jute_core.specs.Records.{Fails}
use Rattle.jute_core.specs.Whole.{RefusedWhole, FailsWhole, IsTrailing}
use Rattle.jute_core.specs.declared.cursor.Reason.{Reason}
use Rattle.jute_core.specs.declared.cursor.Reason.TheVariants.{Trailing}
use Rattle.jute_core.specs.declared.not_read.NotRead.{NotRead}
use Rattle.jute_core.specs.declared.not_read.NotRead.TheVariants.{Refused as AsRefused, Memory}
use Rattle.jute_core.proofs.OneRefusal.{one_refusal}
use Rattle.jute_core.proofs.OneSpelling.{one_spelling}
use Rattle.jute_core.proofs.ReadOrRefused.{read_or_refused}

abbrev pub at_start : List ℕ → Position
at_start body = record { place = 0; left = body }

-- a value that is passed to the end
pub whole_passed : (t : Jute) (v : Value t) (body : List ℕ) (b : Position) → Passes (at_start body) b t v → b.left ≡ [] → Spells t v body
whole_passed t v body b p e = subst (λ (l : List ℕ). Spells t v l) (sym (p.cut ∙ ap (λ (l : List ℕ). p.bytes ++ l) e ∙ append-nil p.bytes)) p.spelled

-- one after which bytes are left
pub whole_trailing : (t : Jute) (v : Value t) (body : List ℕ) (b : Position) → Passes (at_start body) b t v → 0 < length b.left → FailsWhole body t (AsRefused (record { place = b.place; reason = Trailing }))
unfolding RefusedWhole
whole_trailing t v body b p more = record { refused = inr (v, p.bytes, b.left, p.spelled, p.cut, more, p.moved ∙ zero-add (length p.bytes), refl) }

-- one that fails
pub whole_fails : (t : Jute) (body : List ℕ) (e : NotRead) → Fails (at_start body) t e → FailsWhole body t e
unfolding RefusedWhole
whole_fails t body (AsRefused r) h = record { refused = inl h.refused.refused }
whole_fails t body Memory h = record { refused = tt }

-- a value that is all of a list is followed by nothing
spelled_not_trailing : (t : Jute) (v : Value t) (b : List ℕ) (place : ℕ) (reason : Reason) → Spells t v b → IsTrailing t b place reason → ⊥
spelled_not_trailing t v b place reason p h =
    let r = one_spelling t v h.0 b h.1 [] h.2 p h.3 (append-nil b ∙ h.4) in
    omega (arith, ap length r.2, h.5)

pub whole_or_refused : (t : Jute) → IsWholeOrRefused t
unfolding RefusedWhole
whole_or_refused t v b place reason p h = elim h [
  | inl first ↦ read_or_refused t v 0 b b [] place reason p (sym (append-nil b)) first
  | inr more ↦ spelled_not_trailing t v b place reason p more
]

pub one_whole_refusal : (t : Jute) → HasOneWholeRefusal t
unfolding RefusedWhole
one_whole_refusal t b p q r s h k = elim h [
  | inl first ↦ elim k [
    | inl other ↦ one_refusal t 0 b p q r s first other
    | inr more ↦ absurd (read_or_refused t more.0 0 more.1 b more.2 p r more.3 more.4 first)
  ]
  | inr more ↦ elim k [
    | inl first ↦ absurd (read_or_refused t more.0 0 more.1 b more.2 q s more.3 more.4 first)
    | inr other ↦
        let m = one_spelling t more.0 other.0 more.1 other.1 more.2 other.2 more.3 other.3 (sym more.4 ∙ other.4) in
        (more.6 ∙ ap length m.1 ∙ sym other.6, more.7 ∙ sym other.7)
  ]
]
