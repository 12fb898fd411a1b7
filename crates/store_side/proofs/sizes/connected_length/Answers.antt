use Rattle.std.proofs.Common.{rules, arith}
use Rattle.store_side.proofs.CountedReplies.{FitsConnected, count_older_connected, count_connected}
use Rattle.store_side.proofs.sizes.connected_length.Goals as goal

pub returns-in-Some : goal.returns-in-Some
returns-in-Some c =
    let fits : FitsConnected c.args.response.now = record { protocol = search rules; timeout = search rules; session = search rules } in
    count_connected _ _ _ _ _ fits c.in-Some.is c.bytes_length.ensures (omega arith) c.saturating_add.ensures

pub returns-in-None : goal.returns-in-None
returns-in-None c =
    let fits : FitsConnected c.args.response.now = record { protocol = search rules; timeout = search rules; session = search rules } in
    count_older_connected _ _ _ fits c.in-None.is c.bytes_length.ensures (omega arith)
