use Rattle.std.proofs.Common.{rules}
use Rattle.zk_messages.proofs.Requests.{body_fails}
use Rattle.zk_messages.proofs.asking.read_request.Goals as goal

pub returns-in_err-request-clause-refused : goal.returns-in_err-request-clause-refused
returns-in_err-request-clause-refused c =
    let f = body_fails _ _ _ _ _ _ _ c.new-cursor.ensures c.in_ok-header.ensures.reads (search rules) (search rules) c.in_err-request.ensures.refused in
    search rules
