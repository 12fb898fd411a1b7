use Rattle.std.proofs.Common.{◌∙◌, FitsSigned, rules, w32}
use Rattle.std.proofs.lemmas.Int.{to_z-of_z}
use Rattle.tree_state.specs.Watches.{number_of}
use Rattle.tree_state.proofs.Telling.{event_so}
use Rattle.tree_state.proofs.events.event.Goals as goal

pub returns : goal.returns
returns c = λ p is.
    let f : FitsSigned w32 c.number.result = search rules in
    event_so (number_of c.args.kind) _ c.args.path.now _ p c.args.connection (to_z-of_z w32 c.number.result f ∙ c.number.ensures) c.in_ok-copy_of.ensures is
