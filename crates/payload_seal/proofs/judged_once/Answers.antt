use Rattle.payload_seal.proofs.Judged.{judged_once}
use Rattle.payload_seal.proofs.judged_once.Goals as goal

pub returns : goal.returns
returns c = judged_once
