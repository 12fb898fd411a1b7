use Rattle.std.proofs.Common.{◌-◌}
use Rattle.store_side.specs.Past.{Past as Went}
use Rattle.tree_hall.proofs.bells.Heard.by.Given as goal

abbrev pub invariant-loop-count : goal.invariant-loop-count
invariant-loop-count g l = (past : Went) → g.S.StoreSide.stands l.initial.store past → g.S.StoreSide.stands l.store past

abbrev pub decreases-loop-count : goal.decreases-loop-count
decreases-loop-count g l = 32 - l.count
