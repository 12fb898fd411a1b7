-- What the machine sends to a client, and its bytes (zookeeper.jute).
use Rattle.std.specs.Prelude.{◌≡◌, ℕ, List, [], ◌∷◌, ◌++◌}
use Rattle.jute_core.specs.Frames.{frame, FitsFrame}
use Rattle.zk_records.specs.Connect.{SpellsConnected}
use Rattle.zk_messages.specs.Replies.{IsReply, SpellsEvent}
use Rattle.tree_state.specs.declared.message.Message.{Message}
use Rattle.tree_state.specs.declared.message.Message.TheVariants.{Connected, Reply as Replied, Event as Told}

unfoldable pub SpellsMessage : Message → List ℕ → Type 0
SpellsMessage (Connected response) body = SpellsConnected response body
SpellsMessage (Replied reply) body = IsReply reply body
SpellsMessage (Told event) body = SpellsEvent event body

-- the bytes are these messages, a frame each
unfoldable pub Messages : List Message → List ℕ → Type 0
Messages [] bytes = bytes ≡ []
Messages (message ∷ messages) bytes = (body more : List ℕ) × SpellsMessage message body × FitsFrame body × (bytes ≡ frame body ++ more) × Messages messages more
