use Rattle.replay_cli.proofs.WorkloadLemmas.{parent_fits, parent_known, parent_may, parent_short, parent_spelled}
use Rattle.replay_cli.proofs.workload.parent_frame.Goals as goal

pub framed-requires-clause-fits : goal.framed-requires-clause-fits
framed-requires-clause-fits c = parent_fits _ c.in_ok-request.ensures

pub framed-requires-clause-known : goal.framed-requires-clause-known
framed-requires-clause-known c = parent_known _ c.in_ok-request.ensures

pub framed-requires-clause-may : goal.framed-requires-clause-may
framed-requires-clause-may c = parent_may _ c.in_ok-request.ensures

pub framed-requires-clause-short : goal.framed-requires-clause-short
framed-requires-clause-short c = parent_short _ c.in_ok-request.ensures

pub returns : goal.returns
returns c = parent_spelled _ _ c.in_ok-request.ensures c.in_ok-bytes.ensures
