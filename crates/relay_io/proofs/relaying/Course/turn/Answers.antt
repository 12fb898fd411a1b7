use Rattle.std.proofs.Common.{refl, ◌∙◌}
use Rattle.entry_session.specs.Runs.{IsGivenEnding}
use Rattle.entry_session.specs.declared.ending.Ending.TheVariants as endings
use Rattle.relay_io.specs.declared.duo.DuoEvent.TheVariants as events
use Rattle.relay_io.proofs.Turning.{idle_turn, end_turn, client_unheard_turn, store_unheard_turn, up_turn, down_turn}
use Rattle.relay_io.proofs.relaying.Course.turn.Goals as goal

pub end-requires : goal.end-requires
unfolding IsGivenEnding
end-requires g c = tt

pub end-requires-in-StoreEnd : goal.end-requires-in-StoreEnd
unfolding IsGivenEnding
end-requires-in-StoreEnd g c = tt

pub end-requires-in-ClientFailed : goal.end-requires-in-ClientFailed
unfolding IsGivenEnding
end-requires-in-ClientFailed g c = tt

pub end-requires-in-StoreFailed : goal.end-requires-in-StoreFailed
unfolding IsGivenEnding
end-requires-in-StoreFailed g c = tt

pub returns-in-Client : goal.returns-in-Client
returns-in-Client g c = λ line turns before start count below s.
    let e = c.in-Client.ensures in
    up_turn line turns count before _ _ _ g.B.Teller.Told start _ _ _ _ _ below s (record { grew = e.grew; unwritten = e.unwritten; client_faults = e.counts.0; store_faults = e.counts.1 }) c.pass_up.ensures.later c.pass_up.ensures.other c.pass_up.ensures.went

pub returns-in-Store : goal.returns-in-Store
returns-in-Store g c = λ line turns before start count below s.
    let e = c.in-Store.ensures in
    down_turn line turns count before _ _ _ g.B.Teller.Told start _ _ _ _ _ _ below s (record { grew = e.grew; unwritten = e.unwritten; client_faults = e.counts.0; store_faults = e.counts.1 }) c.pass_down.ensures.later c.pass_down.ensures.other c.pass_down.ensures.went

pub returns-in-ClientEnd : goal.returns-in-ClientEnd
returns-in-ClientEnd g c = λ line turns before start count below s.
    let e = c.in-ClientEnd.ensures in
    rw (c.end.ensures.first (s.at.at.ending ∙ s.goes_on)).0 (end_turn line turns count before _ _ g.B.Teller.Told start _ _ events.ClientEnd endings.ClientEnd below s
    (record { grew = e.grew; unwritten = e.unwritten; client_faults = e.counts.0; store_faults = e.counts.1 }) (λ scene. refl))

pub returns-in-StoreEnd : goal.returns-in-StoreEnd
returns-in-StoreEnd g c = λ line turns before start count below s.
    let e = c.in-StoreEnd.ensures in
    rw (c.end-in-StoreEnd.ensures.first (s.at.at.ending ∙ s.goes_on)).0 (end_turn line turns count before _ _ g.B.Teller.Told start _ _ events.StoreEnd endings.StoreEnd below s
    (record { grew = e.grew; unwritten = e.unwritten; client_faults = e.counts.0; store_faults = e.counts.1 }) (λ scene. refl))

pub returns-in-Idle : goal.returns-in-Idle
returns-in-Idle g c = λ line turns before start count below s.
    let e = c.in-Idle.ensures in
    idle_turn line count before _ _ g.B.Teller.Told start _ _ s (record { grew = e.grew; unwritten = e.unwritten; client_faults = e.counts.0; store_faults = e.counts.1 })

pub returns-in-ClientFailed : goal.returns-in-ClientFailed
returns-in-ClientFailed g c = λ line turns before start count below s.
    let e = c.in-ClientFailed.ensures in
    rw (c.end-in-ClientFailed.ensures.first (s.at.at.ending ∙ s.goes_on)).0 (client_unheard_turn line turns count before _ _ g.B.Teller.Told start _ _ below s e.grew e.unwritten e.counts)

pub returns-in-StoreFailed : goal.returns-in-StoreFailed
returns-in-StoreFailed g c = λ line turns before start count below s.
    let e = c.in-StoreFailed.ensures in
    rw (c.end-in-StoreFailed.ensures.first (s.at.at.ending ∙ s.goes_on)).0 (store_unheard_turn line turns count before _ _ g.B.Teller.Told start _ _ below s e.grew e.unwritten e.counts)
