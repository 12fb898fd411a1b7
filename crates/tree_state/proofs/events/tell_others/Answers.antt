use Rattle.std.proofs.Common.{◌++◌, pos, filter, ap}
use Rattle.std.specs.Option.{option_copied}
use Rattle.std.specs.Map.Iter.{deref}
use Rattle.std.proofs.lemmas.Map.Iter.{rest_more}
use Rattle.tree_state.specs.Changes.{events_to, is_not_in}
use Rattle.tree_state.specs.Watches.{members}
use Rattle.tree_state.proofs.Telling.{other_told, other_passed, of_end, others_told, no_others_told, members_are}
use Rattle.tree_state.proofs.events.tell_others.Goals as goal

pub returns-in_default : goal.returns-in_default
returns-in_default c = λ p is. no_others_told _ (pos 2) p (members (option_copied c.args.told)) c.args.to c.in_default.is

pub loop-connection-init : goal.loop-connection-init
loop-connection-init c = λ p is.
    ap (λ cs. c.args.outputs.now.items ++ events_to (pos 2) p (filter (is_not_in (members (option_copied c.args.told))) cs))
    (members_are c.args.to c.in-Some.connections _ c.in-Some.is c.into_iter-connection-iterator.ensures.into_iter_gives.0)

pub loop-connection-preserved-in_ok-push : goal.loop-connection-preserved-in_ok-push
loop-connection-preserved-in_ok-push c = λ p is.
    rw (c.in_ok-push.ensures.items)
    (other_told c.loop-connection.outputs.items _ (pos 2) p (members (option_copied c.args.told)) c.loop-connection.connection-iterator c.next.new.self c.in-Some-connection.connection.now _ c.is_among.result (c.loop-connection.invariant p is)
    (rest_more deref c.loop-connection.connection-iterator c.next.new.self c.next.result c.in-Some-connection.connection c.in-Some-connection.is c.next.ensures.steps)
    c.is_among.ensures c.if-not-is_among.true (of_end _ p _ (c.in_ok-event.ensures p is)))

pub loop-connection-preserved : goal.loop-connection-preserved
loop-connection-preserved c = λ p is.
    other_passed c.loop-connection.outputs.items _ (pos 2) p (members (option_copied c.args.told)) c.loop-connection.connection-iterator c.next.new.self c.in-Some-connection.connection.now c.is_among.result (c.loop-connection.invariant p is)
    (rest_more deref c.loop-connection.connection-iterator c.next.new.self c.next.result c.in-Some-connection.connection c.in-Some-connection.is c.next.ensures.steps)
    c.is_among.ensures c.if-not-is_among.false

pub returns : goal.returns
returns c = λ p is.
    others_told c.loop-connection.outputs.items _ (pos 2) p (members (option_copied c.args.told)) c.loop-connection.connection-iterator (c.loop-connection.invariant p is) c.in-None.ensures.steps.0
