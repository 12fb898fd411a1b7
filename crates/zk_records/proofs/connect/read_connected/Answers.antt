use Rattle.std.proofs.lemmas.Result.{err_from_is_err_and}
use Rattle.jute_core.proofs.Glue.{field_then}
use Rattle.jute_core.proofs.WholeLemmas.{whole_passed}
use Rattle.zk_records.specs.Connect.{newer_response}
use Rattle.zk_records.proofs.ConnectLemmas.{response_fails, response_trailing_older, response_boolean, response_trailing, reads_older_response}
use Rattle.zk_records.proofs.connect.read_connected.Goals as goal

pub returns-in_err-given-clause-refused : goal.returns-in_err-given-clause-refused
returns-in_err-given-clause-refused c =
    let e = err_from_is_err_and c.from_residual.result c.from_residual.ensures.1 in
    let older = rw c.new-cursor.ensures at c.in_err-given.ensures.reads.0 in
    rw (e.1, e.2) (response_fails _ _ _ older)

pub returns-in_err-end-clause-refused : goal.returns-in_err-end-clause-refused
returns-in_err-end-clause-refused c =
    let e = err_from_is_err_and c.from_residual-in_err-end.result c.from_residual-in_err-end.ensures.1 in
    let older = rw c.new-cursor.ensures at c.in_ok-given.ensures.reads in
    rw (e.1, e.2, c.in_err-end.ensures.refused.1) (response_trailing_older _ _ _ _ c.if-short.true older c.in_err-end.ensures.refused.0)

pub returns-then-short-clause-read : goal.returns-then-short-clause-read
returns-then-short-clause-read c =
    let older = rw c.new-cursor.ensures at c.in_ok-given.ensures.reads in
    reads_older_response _ _ _ _ c.in_ok-given.ensures.older older c.in_ok-end.ensures.ok

pub returns-in_err-is_read_only-clause-refused : goal.returns-in_err-is_read_only-clause-refused
returns-in_err-is_read_only-clause-refused c =
    let e = err_from_is_err_and c.from_residual-in_err-is_read_only.result c.from_residual-in_err-is_read_only.ensures.1 in
    let older = rw c.new-cursor.ensures at c.in_ok-given.ensures.reads in
    rw (e.1, e.2) (response_boolean _ _ _ _ _ c.if-short.false older c.in_err-is_read_only.ensures.0)

pub returns-in_err-end-2-clause-refused : goal.returns-in_err-end-2-clause-refused
returns-in_err-end-2-clause-refused c =
    let e = err_from_is_err_and c.from_residual-in_err-end-2.result c.from_residual-in_err-end-2.ensures.1 in
    let older = rw c.new-cursor.ensures at c.in_ok-given.ensures.reads in
    let newer = field_then older c.in_ok-is_read_only.ensures in
    rw (e.1, e.2, c.in_err-end-2.ensures.refused.1) (response_trailing _ _ _ _ c.if-short.false newer c.in_err-end-2.ensures.refused.0)

pub returns-clause-read : goal.returns-clause-read
returns-clause-read c =
    let older = rw c.new-cursor.ensures at c.in_ok-given.ensures.reads in
    whole_passed newer_response _ _ _ (field_then older c.in_ok-is_read_only.ensures) c.in_ok-end-2.ensures.ok
