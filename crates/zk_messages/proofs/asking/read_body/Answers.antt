use Rattle.std.proofs.Common.{rules}
use Rattle.zk_messages.proofs.Requests.{more_follows}
use Rattle.zk_messages.proofs.asking.read_body.Goals as goal

pub returns-in_err-end-clause-refused : goal.returns-in_err-end-clause-refused
returns-in_err-end-clause-refused c =
    let f = more_follows c.args.kind c.in_ok-request.request _ _ _ (search rules) c.in_ok-request.ensures.kind c.in_ok-request.ensures.ok c.in_err-end.ensures.refused in
    search rules
