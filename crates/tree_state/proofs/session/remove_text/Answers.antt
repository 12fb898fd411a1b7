use Rattle.std.proofs.Common.{rules, tests}
use Rattle.std.proofs.lemmas.Fn.{filter_same}
use Rattle.tree_state.specs.Sessions.{is_other_text}
use Rattle.tree_state.proofs.session.remove_text.Goals as goal

pub returns : goal.returns
returns c = filter_same _ (is_other_text c.args.text.now) _ (λ x b f h. search (rules, tests)) _ _ c.retain.ensures.filtered
