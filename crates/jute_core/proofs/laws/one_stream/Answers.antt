use Rattle.jute_core.proofs.OneStream.{one_stream}
use Rattle.jute_core.proofs.laws.one_stream.Goals as goal

pub returns : goal.returns
returns c = one_stream
