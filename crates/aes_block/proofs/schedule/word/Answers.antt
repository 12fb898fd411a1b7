use Rattle.aes_block.proofs.Columns.{four_back}
use Rattle.aes_block.proofs.schedule.word.Goals as goal

pub returns-clause-back : goal.returns-clause-back
returns-clause-back c = four_back c.args.bytes.now c.args.i c.from_be_bytes.result c.fits-bytes c.from_be_bytes.ensures
