use Rattle.std.proofs.Common.{◌∷◌, ℤ, subst, rules, w64}
use Rattle.std.specs.Int.RustNames.{FitsSigned}
use Rattle.std.proofs.lemmas.Int.{to_z-of_z}
use Rattle.tree_state.specs.Nodes.{ephemerals}
use Rattle.tree_state.specs.Sessions.{Keeps, without_owned}
use Rattle.tree_state.proofs.Found.{found_there}
use Rattle.tree_state.proofs.Changed.{gone_means}
use Rattle.tree_state.proofs.held.Held.take_out.Goals as goal

pub returns : goal.returns
returns c = λ s n p node m t mo found own none.
    let f : FitsSigned w64 c.args.at.now.zxid = search rules in
    let g : FitsSigned w64 c.args.owner = search rules in
    gone_means c.args.self.now _ c.args.at.now s n p node c.args.owner m found own
    (c.remove.ensures s.nodes n p m.places t (found_there (n ∷ p) s.nodes node found) none)
    (subst (λ (z : ℤ). Keeps c.disown.new.self s.sessions (without_owned z (n ∷ p) (λ k. ephemerals k s.nodes))) (to_z-of_z w64 c.args.owner g)
    (c.disown.ensures s.sessions (λ k. ephemerals k s.nodes) (n ∷ p) m.sessions t))
    (c.deleted.ensures s.watches p n m.watches t)
    (to_z-of_z w64 c.args.at.now.zxid f)
