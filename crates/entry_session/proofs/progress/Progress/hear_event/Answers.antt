use Rattle.std.proofs.Common.{arith}
use Rattle.zk_messages.specs.Replies.{SpellsEvent, RefusedEvent}
use Rattle.entry_session.proofs.StoreSide.{event_refused, event_flawed, event_told, event_short, plain_short, event_fits, not_read, of_body, is_read, written, answered_by}
use Rattle.entry_session.proofs.progress.Progress.hear_event.Goals as goal

pub returns-in_err-event-clause-hears : goal.returns-in_err-event-clause-hears
returns-in_err-event-clause-hears c = λ fs.
    answered_by _ c.in_err-event.field-0.0 _ _ _ _ _ _ fs fs c.from_residual.ensures.1
    (event_refused _ _ _ fs c.in_err-event.field-0.0 c.requires.begins (not_read _ _ _ _ (of_body _ _ RefusedEvent c.read_event.ensures.refused) c.map_err.ensures.cases c.in_err-event.was))

pub unveil_event-requires : goal.unveil_event-requires
unveil_event-requires c =
    let spelled = is_read (λ e. SpellsEvent e c.args.body.now) _ _ _ c.read_event.ensures.read c.map_err.ensures.cases c.in_ok-event.was in
    omega (arith, event_short c.in_ok-event.event c.args.body.now c.requires.short spelled)

pub returns-in_err-plain-clause-hears : goal.returns-in_err-plain-clause-hears
returns-in_err-plain-clause-hears c = rw (← c.self.view_is) (λ fs.
    let spelled = is_read (λ e. SpellsEvent e c.args.body.now) _ _ _ c.read_event.ensures.read c.map_err.ensures.cases c.in_ok-event.was in
    answered_by _ _ _ _ _ _ _ _ fs fs c.from_residual-in_err-plain.ensures.1
    (event_flawed _ _ _ fs c.in_ok-event.event c.in_err-plain.field-0.0 c.requires.begins spelled c.in_err-plain.ensures.bad))

pub write_event-requires : goal.write_event-requires
write_event-requires c =
    let spelled = is_read (λ e. SpellsEvent e c.args.body.now) _ _ _ c.read_event.ensures.read c.map_err.ensures.cases c.in_ok-event.was in
    omega (arith, plain_short c.self.inside.keys.names c.in_ok-event.event c.in_ok-plain.plain c.args.body.now c.requires.short spelled c.in_ok-plain.ensures.ok)

pub write_frame-requires : goal.write_frame-requires
write_frame-requires c =
    let spelled = is_read (λ e. SpellsEvent e c.args.body.now) _ _ _ c.read_event.ensures.read c.map_err.ensures.cases c.in_ok-event.was in
    event_fits c.self.inside.keys.names c.in_ok-event.event c.in_ok-plain.plain c.args.body.now _ c.requires.short spelled c.in_ok-plain.ensures.ok
    (written _ _ _ (SpellsEvent c.in_ok-plain.plain) c.new-out.ensures.items c.in_ok-write_event.ensures.ok c.as_slice.ensures.value)

pub returns-clause-hears : goal.returns-clause-hears
returns-clause-hears c = rw (← c.self.view_is) (λ fs.
    let spelled = is_read (λ e. SpellsEvent e c.args.body.now) _ _ _ c.read_event.ensures.read c.map_err.ensures.cases c.in_ok-event.was in
    event_told _ c.args.body.now c.as_slice.result.now _ _ fs c.in_ok-event.event c.in_ok-plain.plain c.requires.begins spelled c.in_ok-plain.ensures.ok
    (written _ _ _ (SpellsEvent c.in_ok-plain.plain) c.new-out.ensures.items c.in_ok-write_event.ensures.ok c.as_slice.ensures.value)
    c.in_ok-write_frame.ensures.ok)
