use Rattle.payload_seal.proofs.Judged.{accepted_when_numbered}
use Rattle.payload_seal.proofs.accepted_when_numbered.Goals as goal

pub returns : goal.returns
returns c = accepted_when_numbered
