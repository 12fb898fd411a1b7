use Rattle.zk_frame.proofs.Streaming.{too_long_stays}
use Rattle.zk_frame.proofs.laws.too_long_stays.Goals as goal

pub returns : goal.returns
returns c = too_long_stays
