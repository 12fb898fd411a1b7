use Rattle.store_side.specs.Messages.{SpellsMessage}
use Rattle.store_side.proofs.CountedReplies.{counted_message}
use Rattle.store_side.proofs.message.message_length.Goals as goal

pub returns-in-Connected : goal.returns-in-Connected
unfolding SpellsMessage
returns-in-Connected c = λ can.
    let sent = rw c.in-Connected.is at can in
    rw c.in-Connected.is (counted_message _ _ sent c.connected_length.ensures)

pub returns-in-Reply : goal.returns-in-Reply
unfolding SpellsMessage
returns-in-Reply c = λ can.
    let sent = rw c.in-Reply.is at can in
    rw c.in-Reply.is (counted_message _ _ sent c.reply_length.ensures)

pub returns-in-Event : goal.returns-in-Event
unfolding SpellsMessage
returns-in-Event c = λ can.
    let sent = rw c.in-Event.is at can in
    rw c.in-Event.is (counted_message _ _ sent c.event_length.ensures)
