use Rattle.std.proofs.Common.{FitsSigned, w64, rules}
use Rattle.std.specs.Map.Iter.{deref_pair}
use Rattle.std.proofs.lemmas.Int.{to_z-of_z}
use Rattle.std.proofs.lemmas.Map.Iter.{rest_more}
use Rattle.tree_state.proofs.CopiedMaps.{none_copied, entries_copied}
use Rattle.tree_state.proofs.CopiedSessions.{IsSessionCopy, entry_kept, copy_keeps}
use Rattle.tree_state.proofs.session.Sessions.copy.Goals as goal

pub loop-number-init : goal.loop-number-init
loop-number-init c = none_copied IsSessionCopy c.new-live.result.entries c.into_iter-number-iterator.result c.args.self.now.live.entries c.new-live.ensures.empty c.into_iter-number-iterator.ensures.into_iter_gives.0

pub loop-number-preserved-in_ok-insert : goal.loop-number-preserved-in_ok-insert
loop-number-preserved-in_ok-insert c =
    let f : FitsSigned w64 c.in-Some.number.now = search rules in
    entry_kept c.loop-number.live.entries c.insert.new.self.entries c.loop-number.number-iterator c.next.new.self c.args.self.now.live.entries
    (c.in-Some.number.now, c.in-Some.session.now) _ c.in_ok-copy.field-0 c.into_iter-number-iterator.ensures.into_iter_gives.5
    (rest_more deref_pair c.loop-number.number-iterator c.next.new.self c.next.result (c.in-Some.number, c.in-Some.session) c.in-Some.is c.next.ensures.steps)
    (to_z-of_z w64 c.in-Some.number.now f) c.in_ok-copy.ensures c.in_ok-insert.ensures.entries c.loop-number.invariant

pub loop-number-preserved : goal.loop-number-preserved
loop-number-preserved c =
    let f : FitsSigned w64 c.in-Some.number.now = search rules in
    entry_kept c.loop-number.live.entries c.insert.new.self.entries c.loop-number.number-iterator c.next.new.self c.args.self.now.live.entries
    (c.in-Some.number.now, c.in-Some.session.now) _ c.in_ok-copy.field-0 c.into_iter-number-iterator.ensures.into_iter_gives.5
    (rest_more deref_pair c.loop-number.number-iterator c.next.new.self c.next.result (c.in-Some.number, c.in-Some.session) c.in-Some.is c.next.ensures.steps)
    (to_z-of_z w64 c.in-Some.number.now f) c.in_ok-copy.ensures c.in_ok-insert.ensures.entries c.loop-number.invariant

pub returns : goal.returns
returns c = copy_keeps c.args.self.now (record { live = c.loop-number.live; connections = c.in_ok-clone.field-0 })
    (entries_copied IsSessionCopy c.loop-number.live.entries c.loop-number.number-iterator c.args.self.now.live.entries c.in-None.ensures.steps.0 c.loop-number.invariant) c.in_ok-clone.ensures.cases
