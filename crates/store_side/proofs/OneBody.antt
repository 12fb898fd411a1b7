-- A message has one spelling.
use Rattle.std.proofs.Common.{◌≡◌, ℕ, List}
use Rattle.jute_core.proofs.SameSpelling.{same_bytes}
use Rattle.zk_records.specs.Connect.{response_form, response_fields}
use Rattle.zk_messages.specs.Replies.{HasShape, IsReply}
use Rattle.zk_messages.specs.declared.reply.Outcome.{Outcome}
use Rattle.zk_messages.specs.declared.reply.Outcome.TheVariants as outcomes
use Rattle.zk_messages.specs.declared.reply.Reply.{Reply}
use Rattle.zk_messages.specs.declared.reply.Shape.{Shape}
use Rattle.zk_messages.specs.declared.reply.Shape.TheVariants as shapes
use Rattle.zk_messages.proofs.OneEvent.{one_event_spelling}
use Rattle.zk_messages.proofs.OneReply.{one_reply_spelling}
use Rattle.tree_state.specs.declared.message.Message.{Message}
use Rattle.tree_state.specs.declared.message.Message.TheVariants as messages
use Rattle.store_side.specs.Messages.{SpellsMessage}

some_shape : (o : Outcome) → (shape : Shape) × HasShape shape o
some_shape (outcomes.Error code) = (shapes.Empty, tt)
some_shape outcomes.Empty = (shapes.Empty, tt)
some_shape (outcomes.Path p) = (shapes.Path, tt)
some_shape (outcomes.Stat p) = (shapes.Stat, tt)
some_shape (outcomes.Content d p) = (shapes.Content, tt)
some_shape (outcomes.Acls d p) = (shapes.Acls, tt)
some_shape (outcomes.Children d) = (shapes.Children, tt)
some_shape (outcomes.Children2 d p) = (shapes.Children2, tt)
some_shape (outcomes.Multi d) = (shapes.Multi, tt)
some_shape (outcomes.Created2 p s) = (shapes.Created2, tt)

one_answer : (r : Reply) (a b : List ℕ) → IsReply r a → IsReply r b → a ≡ b
one_answer r a b h j = let x = some_shape r.outcome in one_reply_spelling x.0 r a b (h x.0 x.1) (j x.0 x.1)

pub one_body : (m : Message) (a b : List ℕ) → SpellsMessage m a → SpellsMessage m b → a ≡ b
unfolding SpellsMessage
one_body (messages.Connected r) a b h j = same_bytes (response_form r.read_only) (response_fields r.read_only r) a b h j
one_body (messages.Reply r) a b h j = one_answer r a b h j
one_body (messages.Event e) a b h j = one_event_spelling e a b h j
