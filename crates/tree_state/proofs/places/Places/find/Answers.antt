use Rattle.tree_state.proofs.Lookups.{found_so}
use Rattle.tree_state.proofs.places.Places.find.Goals as goal

pub returns : goal.returns
returns c = λ es p h k. found_so c.args.self.now es c.args.path.now p _ h k c.get.ensures.value
