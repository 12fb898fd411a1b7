use Rattle.tree_state.proofs.Removed.{holds_removed}
use Rattle.tree_state.proofs.places.Places.remove.Goals as goal

pub returns : goal.returns
returns c = λ es n p h spelled there alone.
    let cut = c.parts.ensures.path n p spelled in
    holds_removed c.args.self.now (record { nodes = c.remove.new.self }) c.count_deletion.new.self es c.args.path.now _ _ n p c.args.at.now.zxid
    h spelled cut.0 cut.1 there alone c.remove.ensures.entries c.count_deletion.ensures
