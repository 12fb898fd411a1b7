-- Laws of replies.
use Rattle.std.specs.Prelude.{◌≡◌, ◌≤◌, ◌^◌, ℕ, List, length, Option}
use Rattle.path_seal.specs.Sealed.{AreKeys}
use Rattle.payload_seal.specs.declared.keys.EntryKeys.{EntryKeys}
use Rattle.request_queue.specs.declared.asked.Asked.{Asked}
use Rattle.request_queue.specs.Asking.{IsAsked}
use Rattle.zk_messages.specs.Replies.{HasShape, SpellsReply}
use Rattle.zk_messages.specs.Sending.{IsShortOutcome}
use Rattle.zk_messages.specs.declared.reply.Reply.{Reply}
use Rattle.zk_messages.specs.declared.reply.Shape.{Shape}
use Rattle.reply_rewrite.specs.declared.finding.Cause.{Cause}
use Rattle.reply_rewrite.specs.Admits.{Admits}
use Rattle.reply_rewrite.specs.Shapes.{shape_for}
use Rattle.reply_rewrite.specs.Short.{HasShortParts}

-- for a request and a reply of its shape exactly one reply is passed on, with exactly one cause or none
pub record IsAdmittedOnce : Type 0 where
  pub at_most_one : (k : EntryKeys) (asked : Asked) (stored a b : Reply) (c d : Option Cause) → AreKeys k.names → Admits k asked stored a c → Admits k asked stored b d → (a ≡ b) × (c ≡ d)
  pub at_least_one : (k : EntryKeys) (asked : Asked) (stored : Reply) → AreKeys k.names → HasShape (shape_for asked) stored.outcome → (told : Reply) × (cause : Option Cause) × Admits k asked stored told cause

-- the reply that is passed on answers the request too, and can be written where the store's can
pub record IsPassedOn : Type 0 where
  pub shaped : (k : EntryKeys) (asked : Asked) (stored told : Reply) (cause : Option Cause) → Admits k asked stored told cause → HasShape (shape_for asked) told.outcome
  pub writable : (k : EntryKeys) (asked : Asked) (stored told : Reply) (cause : Option Cause) → Admits k asked stored told cause → IsAsked asked → IsShortOutcome stored.outcome → IsShortOutcome told.outcome

-- the reply that a body of at most 2 ^ 27 bytes spells has its shape, and short parts
abbrev pub IsShortWhenRead : Type 0
IsShortWhenRead = (shape : Shape) (r : Reply) (body : List ℕ) → length body ≤ 2 ^ 27 → SpellsReply shape r body → HasShape shape r.outcome × HasShortParts r.outcome

-- what is passed on is no longer than what the store answered: contents and names are shorter than what they are sealed to, and
-- an error has no more than the header of each reply
abbrev pub IsNoLongerWhenPlain : Type 0
IsNoLongerWhenPlain = (k : EntryKeys) (asked : Asked) (stored told : Reply) (cause : Option Cause) (a b : List ℕ)
    → Admits k asked stored told cause → SpellsReply (shape_for asked) stored a → SpellsReply (shape_for asked) told b → length b ≤ length a
