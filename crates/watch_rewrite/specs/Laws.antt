-- Laws of events.
use Rattle.std.specs.Prelude.{◌≡◌, ◌≤◌, ◌+◌, ℕ, List, length}
use Rattle.path_seal.specs.Sealed.{Keys, AreKeys}
use Rattle.zk_messages.specs.Replies.{SpellsEvent}
use Rattle.zk_messages.specs.declared.reply.Event.{Event}
use Rattle.watch_rewrite.specs.declared.event.EventFlaw.{EventFlaw}
use Rattle.watch_rewrite.specs.Events.{IsPlainEvent, IsFlawOf}

-- under keys an event has at most one plain form and at most one flaw, and never both
pub record IsEventJudgedOnce : Type 0 where
  pub one_plain : (k : Keys) (event a b : Event) → AreKeys k → IsPlainEvent k event a → IsPlainEvent k event b → a ≡ b
  pub one_flaw : (k : Keys) (event : Event) (f g : EventFlaw) → IsFlawOf k event f → IsFlawOf k event g → f ≡ g
  pub not_both : (k : Keys) (event a : Event) (f : EventFlaw) → IsPlainEvent k event a → IsFlawOf k event f → ⊥

-- a plain event's path is no longer than the sealed one, and that is as long as its body, less the 28 bytes of all else
pub record IsShorterWhenPlain : Type 0 where
  pub shorter : (k : Keys) (event plain : Event) → IsPlainEvent k event plain → length plain.path ≤ length event.path
  pub within : (event : Event) (body : List ℕ) → SpellsEvent event body → length body ≡ length event.path + 28
