-- Messages that can be sent, and what sending one appends.
use Rattle.std.specs.Prelude.{◌≡◌, ℕ, ◌<◌, ◌^◌, List, ◌++◌, length, IfSome}
use Rattle.jute_core.specs.Frames.{frame, FitsFrame}
use Rattle.zk_messages.specs.Sending.{IsShortOutcome}
use Rattle.store_side.specs.Messages.{SpellsMessage}
use Rattle.tree_state.specs.declared.message.Message.{Message}
use Rattle.tree_state.specs.declared.message.Message.TheVariants.{Connected, Reply as Replied, Event as Told}

-- lengths and counts are ints, and the code of an error is not 0
abbrev pub IsSendable : Message → Type 0
IsSendable (Connected response) = IfSome response.password (λ p. length p < 2 ^ 31)
IsSendable (Replied reply) = IsShortOutcome reply.outcome
IsSendable (Told event) = length event.path < 2 ^ 31

-- the frame of a message was added at the end
pub record AddsFrame (old new : List ℕ) (message : Message) : Type 0 where
  pub body : List ℕ
  pub spelled : SpellsMessage message body
  pub fits : FitsFrame body
  pub added : new ≡ old ++ frame body
