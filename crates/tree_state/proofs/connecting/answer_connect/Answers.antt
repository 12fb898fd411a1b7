use Rattle.std.proofs.Common.{◌∙◌, rules, w32, w64, FitsSigned}
use Rattle.std.proofs.lemmas.Int.{to_z-of_z}
use Rattle.tree_state.proofs.Connected.{answered}
use Rattle.tree_state.proofs.connecting.answer_connect.Goals as goal

pub returns : goal.returns
returns c =
    let f : FitsSigned w32 c.args.given.now.timeout = search rules in
    let g : FitsSigned w64 c.args.given.now.session = search rules in
    c.of.ensures ∙ c.in_ok-push.ensures.items
    ∙ answered c.args.connection c.args.asked.now c.args.given.now c.new-outputs.result.items _ _ c.in_ok-copy_of.field-0 c.and.result
    c.new-outputs.ensures.items (to_z-of_z w32 c.args.given.now.timeout f) (to_z-of_z w64 c.args.given.now.session g) (c.in_ok-copy_of.ensures ∙ c.as_slice.ensures) c.and.ensures
