use Rattle.gcm_mode.proofs.Counting.{length-text_under}
use Rattle.gcm_mode.proofs.text_keeps_its_length.Goals as goal

pub returns : goal.returns
returns c = length-text_under
