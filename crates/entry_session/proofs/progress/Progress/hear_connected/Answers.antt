use Rattle.std.proofs.Common.{◌≡◌, ◌↔◌, IsTrue, None}
use Rattle.zk_records.specs.Connect.{SpellsConnected}
use Rattle.entry_session.proofs.StoreSide.{connect_refused, connect_told, not_read, is_read, answered_by}
use Rattle.entry_session.proofs.progress.Progress.hear_connected.Goals as goal

pub returns-in_err-map_err-clause-hears : goal.returns-in_err-map_err-clause-hears
returns-in_err-map_err-clause-hears c = λ fs.
    answered_by _ c.in_err-map_err.field-0.0 _ _ _ _ _ _ fs fs c.from_residual.ensures.1
    (connect_refused _ _ _ _ fs c.in_err-map_err.field-0.0 (not_read _ _ _ _ c.read_connected.ensures.refused c.map_err.ensures.cases c.in_err-map_err.was))

pub returns-clause-hears : goal.returns-clause-hears
returns-clause-hears c = rw (← c.self.view_is) (λ fs.
    connect_told _ c.args.older c.args.body.now _ _ fs c.in_ok-map_err.field-0
    (is_read (λ r. SpellsConnected r c.args.body.now) _ _ _ c.read_connected.ensures.read c.map_err.ensures.cases c.in_ok-map_err.was)
    (is_read (λ r. IsTrue c.args.older ↔ (r.read_only ≡ None)) _ _ _ c.read_connected.ensures.form c.map_err.ensures.cases c.in_ok-map_err.was)
    c.in_ok-write_frame.ensures.ok)
