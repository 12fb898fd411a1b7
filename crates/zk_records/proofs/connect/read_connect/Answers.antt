use Rattle.std.proofs.lemmas.Result.{err_from_is_err_and}
use Rattle.jute_core.proofs.Glue.{field_then}
use Rattle.jute_core.proofs.WholeLemmas.{whole_passed}
use Rattle.zk_records.specs.Connect.{newer_request}
use Rattle.zk_records.proofs.ConnectLemmas.{fails_older, fails_boolean, fails_trailing, reads_older}
use Rattle.zk_records.proofs.connect.read_connect.Goals as goal

pub returns-in_err-asked-clause-refused : goal.returns-in_err-asked-clause-refused
returns-in_err-asked-clause-refused c =
    let e = err_from_is_err_and c.from_residual.result c.from_residual.ensures.1 in
    let older = rw c.new-cursor.ensures at c.in_err-asked.ensures.reads.0 in
    rw (e.1, e.2) (fails_older _ _ older)

pub returns-in_default-clause-read : goal.returns-in_default-clause-read
returns-in_default-clause-read c =
    let older = rw c.new-cursor.ensures at c.in_ok-asked.ensures.reads in
    reads_older _ _ _ _ c.in_ok-asked.ensures.older older c.in_default.ensures.ok

pub returns-in_err-read_only-clause-refused : goal.returns-in_err-read_only-clause-refused
returns-in_err-read_only-clause-refused c =
    let e = err_from_is_err_and c.from_residual-in_err-read_only.result c.from_residual-in_err-read_only.ensures.1 in
    let older = rw c.new-cursor.ensures at c.in_ok-asked.ensures.reads in
    rw (e.1, e.2) (fails_boolean _ _ _ _ older c.in-Err.ensures.refused.0 c.in_err-read_only.ensures.0)

pub returns-in_err-end-clause-refused : goal.returns-in_err-end-clause-refused
returns-in_err-end-clause-refused c =
    let e = err_from_is_err_and c.from_residual-in_err-end.result c.from_residual-in_err-end.ensures.1 in
    let older = rw c.new-cursor.ensures at c.in_ok-asked.ensures.reads in
    rw (e.1, e.2, c.in_err-end.ensures.refused.1) (fails_trailing _ _ _ _ _ older c.in-Err.ensures.refused.0 c.in_ok-read_only.ensures c.in_err-end.ensures.refused.0)

pub returns-clause-read : goal.returns-clause-read
returns-clause-read c =
    let older = rw c.new-cursor.ensures at c.in_ok-asked.ensures.reads in
    whole_passed newer_request _ _ _ (field_then older c.in_ok-read_only.ensures) c.in_ok-end.ensures.ok
