use Rattle.aes_block.proofs.Columns.{first_is}
use Rattle.aes_block.proofs.state.first_column.Goals as goal

pub returns : goal.returns
returns c =
    first_is c.args.first c.args.second c.args.third c.args.fourth c.args.key c.from_be_bytes.result
    c.ranges.first.fits c.ranges.second.fits c.ranges.third.fits c.ranges.fourth.fits c.from_be_bytes.ensures
