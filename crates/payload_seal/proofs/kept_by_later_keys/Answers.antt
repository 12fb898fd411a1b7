use Rattle.payload_seal.proofs.Later.{kept_by_later_keys}
use Rattle.payload_seal.proofs.kept_by_later_keys.Goals as goal

pub returns : goal.returns
returns c = kept_by_later_keys
