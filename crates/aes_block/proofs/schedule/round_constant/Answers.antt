use Rattle.aes_block.proofs.Bytes.{round_constant_at}
use Rattle.aes_block.proofs.schedule.round_constant.Goals as goal

pub returns : goal.returns
returns c = round_constant_at c.args.n c.requires
