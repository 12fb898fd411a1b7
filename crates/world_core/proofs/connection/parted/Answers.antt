use Rattle.world_core.proofs.Amounts.{count_within}
use Rattle.world_core.proofs.connection.parted.Goals as goal

pub split_at-requires : goal.split_at-requires
split_at-requires c = rw c.of.ensures (count_within c.args.amount _)
