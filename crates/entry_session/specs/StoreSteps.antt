-- What a session does at a frame of the store, by what it keeps.
use Rattle.std.specs.Prelude.{◌≡◌, ◌≢◌, ℕ, ℤ, ◌<◌, List, [], ◌∷◌, ◌++◌, length, Result, Err, Option, Some, None}
use Rattle.jute_core.specs.Frames.{frame}
use Rattle.jute_core.specs.declared.cursor.Reason.{Reason}
use Rattle.jute_core.specs.declared.not_read.NotRead.{NotRead}
use Rattle.jute_core.specs.declared.not_read.NotRead.TheVariants as unread
use Rattle.payload_seal.specs.declared.keys.EntryKeys.{EntryKeys}
use Rattle.request_queue.specs.Asking.{IsAsked}
use Rattle.request_queue.specs.declared.pending.Pending.{Pending}
use Rattle.zk_messages.specs.Replies.{SpellsReply, RefusedReply, BeginsWithInt}
use Rattle.zk_messages.specs.declared.reply.Reply.{Reply}
use Rattle.reply_rewrite.specs.Admits.{Admits}
use Rattle.reply_rewrite.specs.Shapes.{shape_for}
use Rattle.reply_rewrite.specs.declared.finding.Finding.{Finding}
use Rattle.watch_rewrite.specs.declared.event.NotEvent.{NotEvent}
use Rattle.watch_rewrite.specs.declared.event.NotEvent.TheVariants as unheard
use Rattle.entry_session.specs.Stands.{Stand}
use Rattle.entry_session.specs.StoreTurns.{too_short, ending_by}
use Rattle.entry_session.specs.Kept.{Going, IsGoing}
use Rattle.entry_session.specs.Calls.{HearsStore}
use Rattle.entry_session.specs.declared.ending.Ending.{Ending}
use Rattle.entry_session.specs.declared.ending.Ending.TheVariants.{StoreMalformed, WrongXid, NothingOpen, BadEvent, Memory}
use Rattle.entry_session.specs.declared.progress.Phase.{Phase}
use Rattle.entry_session.specs.declared.store.Answer.{Answer}

-- the ending by a frame that was not read
abbrev pub ending_unread : NotRead → Ending
ending_unread (unread.Refused refusal) = StoreMalformed refusal
ending_unread unread.Memory = Memory

-- the ending by an event that was not opened
abbrev pub ending_unheard : NotEvent → Ending
ending_unheard (unheard.Bad flaw) = BadEvent flaw
ending_unheard unheard.Memory = Memory

-- the frame is refused so, unless there was no memory
abbrev pub IsRefusedBy : (ℕ → Reason → Type 0) → Ending → Type 0
IsRefusedBy Is (StoreMalformed refusal) = Is refusal.place refusal.reason
IsRefusedBy Is Memory = Unit {0}
IsRefusedBy Is e = ⊥

-- the ending by a frame before the connect request was handed up
abbrev pub EndsUnasked : List ℕ → Ending → Type 0
EndsUnasked body (StoreMalformed refusal) = (length body < 4) × (refusal ≡ too_short)
EndsUnasked body (NothingOpen z) = BeginsWithInt body z
EndsUnasked body e = ⊥

-- the ending by a frame that is no reply to the request that has waited longest
unfoldable pub EndsReply : List Pending → ℤ → List ℕ → Ending → Type 0
EndsReply [] xid body (NothingOpen z) = z ≡ xid
EndsReply (p ∷ ps) xid body (WrongXid expected got) = (expected ≡ p.xid) × (got ≡ xid) × (xid ≢ p.xid)
EndsReply (p ∷ ps) xid body (StoreMalformed refusal) = (xid ≡ p.xid) × RefusedReply (shape_for p.asked) body refusal.place refusal.reason
EndsReply queue xid body Memory = Unit {0}
EndsReply queue xid body e = ⊥

-- what is told for the reply to it
pub record IsAnswer (k : EntryKeys) (queue : List Pending) (xid : ℤ) (body : List ℕ) (a : Answer) : Type 0 where
  pub pending : Pending
  pub left : List Pending
  pub waited : queue ≡ pending ∷ left
  pub asked : IsAsked pending.asked
  pub xid_is : xid ≡ pending.xid
  pub stored : Reply
  pub spelled : SpellsReply (shape_for pending.asked) stored body
  pub admits : Admits k pending.asked stored a.told a.cause
  pub ending_is : a.ending ≡ ending_by pending.asked

-- a frame was added whose body is so
pub record AddsFrame (old new : List ℕ) (Is : List ℕ → Type 0) : Type 0 where
  pub body : List ℕ
  pub is : Is body
  pub added : new ≡ old ++ frame body

-- at most one finding, as a list
abbrev pub listed : Option Finding → List Finding
listed None = []
listed (Some finding) = finding ∷ []

-- a frame of the store was heard in this phase, wherever the session stands that goes on there; after want of memory nothing is said
abbrev pub HearsIn : Phase → Going → Going → Result (Unit {0}) Ending → List ℕ → List ℕ → List ℕ → List Finding → List Finding → Type 0
HearsIn phase old new answer body down more findings more_findings =
    (answer ≡ Err Memory → ⊥) → (s : Stand) → IsGoing old s → s.ending ≡ None → old.phase ≡ phase → HearsStore old new answer s body down more findings more_findings
