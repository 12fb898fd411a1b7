use Rattle.std.proofs.Common.{◌≡◌, Bool, List, ℕ, ◌∷◌, sym, subst, rules, w32}
use Rattle.std.specs.Int.RustNames.{FitsSigned}
use Rattle.std.proofs.lemmas.Int.{to_z-of_z}
use Rattle.zk_path.specs.Paths.{IsTextOf, IsNamed}
use Rattle.tree_state.specs.Nodes.{Path}
use Rattle.tree_state.proofs.Names.{parent_text}
use Rattle.tree_state.proofs.Creating.{create_refused, create_no_name, memory_performs, creates}
use Rattle.tree_state.proofs.held.Held.make.Goals as goal

lent : (q : Bool) (text seen : List ℕ) (p : Path) → seen ≡ text → IsNamed q text p → IsNamed q seen p
lent q text seen p e h = subst (λ (x : List ℕ). IsNamed q x p) (sym e) h

pub returns-in-Err-clause-performs : goal.returns-in-Err-clause-performs
returns-in-Err-clause-performs g c = λ naming s p n d q e m im nm h.
    let f : FitsSigned w32 c.in-Err.code = search rules in
    simp to_z-of_z (create_refused naming c.args.at.now s c.args.self.now c.args.outputs.now p n d q e c.args.stat c.in-Err.code (c.in-Err.ensures.checks s p m
    (parent_text _ _ q n p (lent q _ _ (n ∷ p) c.as_str.ensures h.named) (λ t. (c.parts.ensures.path n p t).0) (λ j w. (c.parts.ensures.stem n p j w).0))) m)

pub returns-in_err-path-clause-performs : goal.returns-in_err-path-clause-performs
returns-in_err-path-clause-performs g c = λ naming s p n d q e m im nm h. memory_performs s _ _ _ _ _ c.from_residual.ensures.1 m

pub returns-in_default-clause-performs : goal.returns-in_default-clause-performs
returns-in_default-clause-performs g c = λ naming s p n d q e m im nm h.
    create_no_name naming c.args.at.now s c.args.self.now c.args.outputs.now p n d q e c.args.stat c.in-Ok.creations
    (c.in-Ok.ensures.checks s p m (parent_text _ _ q n p (lent q _ _ (n ∷ p) c.as_str.ensures h.named) (λ t. (c.parts.ensures.path n p t).0) (λ j w. (c.parts.ensures.stem n p j w).0)))
    ((rw (c.in_default.is) at c.in_ok-path.ensures.named) naming p n d q e nm h) m

pub returns-clause-performs : goal.returns-clause-performs
returns-clause-performs g c = λ naming s p n d q e m im nm h.
    creates naming c.args.at.now s c.create.new.self c.args.outputs.now c.create.new.outputs c.args.asked.now p n d q e c.args.stat c.in-Ok.creations c.in-Some.path c.is_ephemeral-ephemeral.result _ h
    (c.in-Ok.ensures.checks s p m (parent_text _ _ q n p (lent q _ _ (n ∷ p) c.as_str.ensures h.named) (λ t. (c.parts.ensures.path n p t).0) (λ j w. (c.parts.ensures.stem n p j w).0)))
    ((rw (c.in-Some.is) at c.in_ok-path.ensures.named) naming p n d q e nm h) c.is_ephemeral-ephemeral.ensures
    (λ l up t parent named. c.create.ensures.performs naming s p n l q up m (subst (λ (x : List ℕ). IsTextOf x (l ∷ p)) (sym c.as_str-2.ensures) t) im parent named)
