use Rattle.gcm_mode.specs.Ghash.{times}
use Rattle.gcm_mode.specs.HashTable.{low_times}
use Rattle.gcm_mode.proofs.field.times.Goals as goal

pub returns : goal.returns
unfolding times low_times
returns c = c.low_times.ensures
