-- Replies of which each text and buffer has at most 2 ^ 27 bytes, and each list fewer than 2 ^ 32 items. Frames are far shorter.
use Rattle.std.specs.Prelude.{◌<◌, ◌^◌, ℕ, List, length, Option, All, IfSome}
use Rattle.zk_messages.specs.Short.{IsShort}
use Rattle.zk_messages.specs.declared.reply.OpResult.{OpResult}
use Rattle.zk_messages.specs.declared.reply.OpResult.TheVariants as op_results
use Rattle.zk_messages.specs.declared.reply.Outcome.{Outcome}
use Rattle.zk_messages.specs.declared.reply.Outcome.TheVariants as outcomes

-- a list of texts that may be null
abbrev pub AreShortNames : Option (List (List ℕ)) → Type 0
AreShortNames list = IfSome list (λ names. (length names < 2 ^ 32) × All IsShort names)

unfoldable pub IsShortResult : OpResult → Type 0
IsShortResult (op_results.Created text) = IsShort text
IsShortResult (op_results.Created2 text stored) = IsShort text
IsShortResult stored = Unit {0}

unfoldable pub HasShortParts : Outcome → Type 0
HasShortParts (outcomes.Path text) = IsShort text
HasShortParts (outcomes.Created2 text stored) = IsShort text
HasShortParts (outcomes.Content content stored) = IfSome content IsShort
HasShortParts (outcomes.Children list) = AreShortNames list
HasShortParts (outcomes.Children2 list stored) = AreShortNames list
HasShortParts (outcomes.Multi stored) = (length stored < 2 ^ 32) × All IsShortResult stored
HasShortParts outcome = Unit {0}
