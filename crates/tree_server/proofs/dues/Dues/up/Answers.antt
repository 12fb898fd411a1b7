use Rattle.std.proofs.Common.{◌∙◌, rules, w64, FitsSigned}
use Rattle.std.proofs.lemmas.Int.{to_z-of_z}
use Rattle.std.proofs.lemmas.List.Filters.{dedup_is}
use Rattle.tree_server.proofs.UpDues.{none_yet, one_more, all_up, rest_later, each_once, ascending}
use Rattle.tree_server.proofs.dues.Dues.up.Goals as goal
use Rattle.tree_server.proofs.dues.Dues.up.Goals.{in-None, in-Some+then-due-now}

pub loop-due-init : goal.loop-due-init
loop-due-init c = none_yet _ _ _ _ (c.into_iter-due-iterator.ensures.into_iter_gives.0 ∙ c.self.view_is) c.new-sessions.ensures.items

pub loop-due-preserved : goal.loop-due-preserved
loop-due-preserved c =
    let f : FitsSigned w64 c.in-Some.due.now.session = search rules in
    rw c.in_ok-push.ensures.items (simp to_z-of_z (one_more _ _ _ _ _ c.in-Some.due.now c.loop-due.invariant c.in-Some.ensures.steps (search rules)))

pub returns-clause-up : goal.returns-clause-up
returns-clause-up c =
    let f : FitsSigned w64 c.args.now = c.ranges.now in
    each_once _ _ _ _ _ (simp to_z-of_z at (all_up _ _ _ _ c.loop-due.invariant (elim c.match-next.branch [
      | in-None w ↦ rw w.in-None.ensures.steps.0 (search rules)
      | in-Some+then-due-now w ↦ rest_later _ _ _ _ _ w.in-Some.due.now c.loop-due.invariant (rw c.self.view_is at c.into_iter-due-iterator.ensures.into_iter_gives.4) w.in-Some.ensures.steps (search rules)
    ]))) c.in_ok-sort.ensures.permutation (dedup_is _ _ _ c.dedup.ensures.filtered)

pub returns-clause-ascending : goal.returns-clause-ascending
returns-clause-ascending c = ascending _ _ c.in_ok-sort.ensures.sorted (dedup_is _ _ _ c.dedup.ensures.filtered)
