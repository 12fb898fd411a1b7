use Rattle.std.proofs.Common.{◌≡◌, ℕ, List, Err, length, sym, ap, subst, ◌∙◌, arith, w32}
use Rattle.std.specs.Prelude.{unsigned_abs}
use Rattle.std.proofs.lemmas.Bool.{both_ways}
use Rattle.std.proofs.lemmas.Int.{to_z_pos}
use Rattle.tree_state.proofs.Names.{named_plainly, named_by_number, not_named}
use Rattle.tree_state.proofs.naming.name.Goals as goal

-- what is named of the text that was lent, by the number as it was passed, is named of the request's own
own_name : (named : List ℕ → ℕ → List ℕ → Type 0) (text seen : List ℕ) (i j : ℕ) (name : List ℕ) → seen ≡ text → i ≡ j → named seen i name → named text j name
own_name named text seen i j name e f h = subst (λ (x : List ℕ). named x j name) e (subst (λ (k : ℕ). named seen k name) f h)

pub returns-then-not-is_sequential-clause-named : goal.returns-then-not-is_sequential-clause-named
returns-then-not-is_sequential-clause-named g c = λ naming p n d q e k h.
    named_plainly naming c.args.asked.now p n d q e c.args.creations _ h (λ s. both_ways _ c.if-not-is_sequential.true (c.is_sequential.ensures.1 s)) (c.in_ok-copy_of.ensures ∙ c.as_str-path.ensures)

pub returns-in-Ok-clause-named : goal.returns-in-Ok-clause-named
returns-in-Ok-clause-named g c = λ naming p n d q e k h.
    named_by_number (g.N.Numberer.named c.args.numberer.now) (g.met.N.Numberer.keeps c.args.numberer.now, g.met.N.Numberer.one c.args.numberer.now) naming c.args.asked.now p n d q e c.args.creations c.in-Ok.text k h
    (c.is_sequential.ensures.0 c.if-not-is_sequential.false)
    (own_name (g.N.Numberer.named c.args.numberer.now) c.args.asked.now.path c.as_str-path.result.now _ _ c.in-Ok.text c.as_str-path.ensures (ap unsigned_abs (to_z_pos w32 c.args.creations (omega (arith, c.requires.room)))) c.in-Ok.ensures.named)

pub returns-in-Err-CannotOpen-clause-named : goal.returns-in-Err-CannotOpen-clause-named
returns-in-Err-CannotOpen-clause-named g c = λ naming p n d q e k h.
    not_named (g.N.Numberer.named c.args.numberer.now) naming c.args.asked.now p n d q e c.args.creations k h (c.is_sequential.ensures.0 c.if-not-is_sequential.false)
    (λ text x. c.in-Err-CannotOpen.ensures.cannot_open (ap Err c.in-Err-CannotOpen.field-0-is) text (own_name (g.N.Numberer.named c.args.numberer.now) c.as_str-path.result.now c.args.asked.now.path _ _ text (sym c.as_str-path.ensures) (sym (ap unsigned_abs (to_z_pos w32 c.args.creations (omega (arith, c.requires.room))))) x))

pub returns-in-Ok-clause-short : goal.returns-in-Ok-clause-short
returns-in-Ok-clause-short g c =
    let near = (g.met.N.Numberer.keeps c.args.numberer.now c.as_str-path.result.now _ c.in-Ok.text c.in-Ok.ensures.named).short in
    let lent = ap length c.as_str-path.ensures in
    omega (arith, near, lent, c.requires.path)
