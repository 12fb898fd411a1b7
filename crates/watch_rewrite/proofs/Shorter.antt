-- How long the paths of events are.
use Rattle.std.proofs.Common.{◌≡◌, ◌≤◌, ◌+◌, ℕ, pos, negsuc, List, [], ◌∷◌, length, ap, arith}
use Rattle.zk_path.specs.Paths.{text_of}
use Rattle.path_seal.specs.Sealed.{Keys, SealPath, sealed}
use Rattle.path_seal.proofs.NameBytes.{joined_shorter}
use Rattle.jute_core.specs.Jute.{pair}
use Rattle.zk_messages.proofs.Sizes.{spelled_size}
use Rattle.zk_messages.specs.Replies.{SpellsEvent, event_record, event_fields}
use Rattle.zk_messages.specs.declared.reply.Event.{Event}
use Rattle.zk_records.specs.Headers.{reply_header}
use Rattle.watch_rewrite.specs.Events.{IsPlainEvent}
use Rattle.watch_rewrite.specs.Laws.{IsShorterWhenPlain}

path_shorter : (k : Keys) (p : List (List ℕ)) → length (text_of p) ≤ length (SealPath k p)
unfolding text_of sealed
path_shorter k [] = omega arith
path_shorter k (n ∷ p) = joined_shorter k (n ∷ p)

shorter : (k : Keys) (event plain : Event) → IsPlainEvent k event plain → length plain.path ≤ length event.path
shorter k event plain h = omega (arith, ap length h.spelled, ap length h.opened.1, path_shorter k h.path)

within : (event : Event) (body : List ℕ) → SpellsEvent event body → length body ≡ length event.path + 28
within event body h =
    omega (arith, spelled_size (pair reply_header event_record) ((negsuc 0, (negsuc 0, pos 0)), event_fields event) body h)

pub shorter_when_plain : IsShorterWhenPlain
shorter_when_plain = record { shorter = shorter; within = within }
