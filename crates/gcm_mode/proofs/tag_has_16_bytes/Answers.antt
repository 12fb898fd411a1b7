use Rattle.gcm_mode.proofs.Counting.{length-gcm_tag}
use Rattle.gcm_mode.proofs.tag_has_16_bytes.Goals as goal

pub returns : goal.returns
returns c = length-gcm_tag
