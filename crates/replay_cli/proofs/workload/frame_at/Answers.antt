use Rattle.std.proofs.Common.{◌∙◌, ap}
use Rattle.std.specs.Int.{w64, to_be_bytes}
use Rattle.replay_cli.proofs.WorkloadLemmas.{asks_fit, asks_known, asks_short, content_short, framed_at, may_at}
use Rattle.replay_cli.proofs.workload.frame_at.Goals as goal

pub framed-requires-clause-may : goal.framed-requires-clause-may
framed-requires-clause-may c = may_at _ _ _ _ _ _ c.requires.few c.xid_at.ensures c.in_ok-request.ensures

pub framed-requires-clause-short : goal.framed-requires-clause-short
framed-requires-clause-short c =
    asks_short _ _ _ _ c.requires.short (content_short _ _ (c.to_be_bytes-content.ensures ∙ ap (to_be_bytes w64) c.from.ensures)) c.in_ok-request.ensures

pub framed-requires-clause-fits : goal.framed-requires-clause-fits
framed-requires-clause-fits c =
    asks_fit _ _ _ _ _ c.requires.short (content_short _ _ (c.to_be_bytes-content.ensures ∙ ap (to_be_bytes w64) c.from.ensures)) c.in_ok-request.ensures

pub returns : goal.returns
returns c = framed_at _ _ _ _ _ _ _ c.requires.few c.xid_at.ensures (c.to_be_bytes-content.ensures ∙ ap (to_be_bytes w64) c.from.ensures) c.in_ok-request.ensures c.in_ok-bytes.ensures
