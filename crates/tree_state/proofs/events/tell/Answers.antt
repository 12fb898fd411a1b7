use Rattle.std.proofs.Common.{◌++◌, ap}
use Rattle.std.specs.Map.Iter.{deref}
use Rattle.std.proofs.lemmas.Map.Iter.{rest_more}
use Rattle.tree_state.specs.Changes.{events_to}
use Rattle.tree_state.specs.Watches.{number_of}
use Rattle.tree_state.proofs.Telling.{told_more, all_told, none_told, members_are}
use Rattle.tree_state.proofs.events.tell.Goals as goal

pub returns-in_default : goal.returns-in_default
returns-in_default c = λ p is. none_told _ (number_of c.args.kind) p c.args.to c.in_default.is

pub loop-connection-init : goal.loop-connection-init
loop-connection-init c = λ p is.
    ap (λ cs. c.args.outputs.now.items ++ events_to (number_of c.args.kind) p cs) (members_are c.args.to c.in-Some.connections _ c.in-Some.is c.into_iter-connection-iterator.ensures.into_iter_gives.0)

pub loop-connection-preserved : goal.loop-connection-preserved
loop-connection-preserved c = λ p is.
    rw (c.in_ok-push.ensures.items)
    (told_more c.loop-connection.outputs.items _ (number_of c.args.kind) p c.loop-connection.connection-iterator c.next.new.self c.in-Some-connection.connection.now _ (c.loop-connection.invariant p is)
    (rest_more deref c.loop-connection.connection-iterator c.next.new.self c.next.result c.in-Some-connection.connection c.in-Some-connection.is c.next.ensures.steps) (c.in_ok-event.ensures p is))

pub returns : goal.returns
returns c = λ p is.
    all_told c.loop-connection.outputs.items _ (number_of c.args.kind) p c.loop-connection.connection-iterator (c.loop-connection.invariant p is) c.in-None.ensures.steps.0
