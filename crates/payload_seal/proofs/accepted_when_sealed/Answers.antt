use Rattle.payload_seal.proofs.Judged.{accepted_when_sealed}
use Rattle.payload_seal.proofs.accepted_when_sealed.Goals as goal

pub returns : goal.returns
returns c = accepted_when_sealed
