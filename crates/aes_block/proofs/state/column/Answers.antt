use Rattle.std.proofs.Common.{ap}
use Rattle.aes_block.specs.Aes.{sub_byte}
use Rattle.aes_block.proofs.Columns.{column_is}
use Rattle.aes_block.proofs.state.column.Goals as goal

pub returns : goal.returns
returns c =
    column_is c.args.first c.args.second c.args.third c.args.fourth c.args.key c.first_row.result c.second_row.result c.third_row.result c.fourth_row.result
    (sub_byte c.byte_3.result) (sub_byte c.byte_2.result) (sub_byte c.byte_1.result) (sub_byte c.byte_0.result)
    (ap sub_byte c.byte_3.ensures) (ap sub_byte c.byte_2.ensures) (ap sub_byte c.byte_1.ensures) (ap sub_byte c.byte_0.ensures)
    c.first_row.ensures c.second_row.ensures c.third_row.ensures c.fourth_row.ensures
