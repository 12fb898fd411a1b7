use Rattle.std.proofs.Common.{◌≡◌, ◌∙◌, rules, arith, w32, FitsSigned}
use Rattle.std.proofs.lemmas.Int.{to_z-of_z}
use Rattle.tree_state.proofs.FailedCodes.{failed_made}
use Rattle.tree_state.proofs.multi.failed_results.Goals as goal

pub returns : goal.returns
returns c = λ behind e.
    let f : FitsSigned w32 c.args.code = search rules in
    let count : c.saturating_sub-behind.result ≡ behind = omega (arith, e, c.saturating_sub.ensures, c.saturating_sub-behind.ensures) in
    c.of.ensures ∙ failed_made _ _ _ _ c.args.index behind _ _ c.args.code c.new-results.ensures.items c.in_ok-push_codes.ensures c.in_ok-push.ensures.items (to_z-of_z w32 c.args.code f) c.in_ok-push_codes-2.ensures count
