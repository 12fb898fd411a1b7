-- What a session does at a frame of the store.
--
-- Which of the client's items a frame answers is told by counting: the first frame after the connect request was handed up answers it,
-- whatever its first int; after it a frame with first int -1 is an event, and each other one answers the next item.
use Rattle.std.specs.Prelude.{◌≡◌, ◌≢◌, ℕ, zero, suc, ℤ, negsuc, ◌+◌, ◌-◌, ◌<◌, ◌^◌, min, List, [], ◌∷◌, ◌++◌, length, Bool, true, false, Option, Some, None}
use Rattle.jute_core.specs.declared.cursor.Refusal.{Refusal}
use Rattle.jute_core.specs.declared.cursor.Reason.TheVariants.{Short}
use Rattle.payload_seal.specs.declared.keys.EntryKeys.{EntryKeys}
use Rattle.request_queue.specs.declared.asked.Asked.{Asked}
use Rattle.request_queue.specs.declared.asked.Asked.TheVariants as asks
use Rattle.zk_records.specs.Connect.{SpellsConnected, RefusedConnected}
use Rattle.zk_records.specs.declared.connect.ConnectRequest.{ConnectRequest}
use Rattle.zk_records.specs.declared.connect.ConnectResponse.{ConnectResponse}
use Rattle.zk_messages.specs.Replies.{SpellsReply, RefusedReply, SpellsEvent, RefusedEvent, BeginsWithInt}
use Rattle.zk_messages.specs.declared.reply.Event.{Event}
use Rattle.zk_messages.specs.declared.reply.Reply.{Reply}
use Rattle.zk_messages.specs.declared.request.Item.{Item}
use Rattle.zk_messages.specs.declared.request.Item.TheVariants as items
use Rattle.zk_messages.specs.declared.request.Request.{Request}
use Rattle.request_rewrite.specs.Asks.{Asks}
use Rattle.reply_rewrite.specs.Admits.{Admits}
use Rattle.reply_rewrite.specs.Shapes.{shape_for}
use Rattle.reply_rewrite.specs.declared.finding.Cause.{Cause}
use Rattle.reply_rewrite.specs.declared.finding.Finding.{Finding}
use Rattle.watch_rewrite.specs.Events.{IsPlainEvent, IsFlawOf}
use Rattle.watch_rewrite.specs.declared.event.EventFlaw.{EventFlaw}
use Rattle.entry_session.specs.Stands.{Stand, ends}
use Rattle.entry_session.specs.declared.ending.Ending.{Ending}
use Rattle.entry_session.specs.declared.ending.Ending.TheVariants.{Closed, StoreMalformed, WrongXid, NothingOpen, BadEvent}

-- the frame has no first int
abbrev pub too_short : Refusal
too_short = record { place = 0; reason = Short }

-- the item at the place
unfoldable pub item_at : List Item → ℕ → Option Item
item_at [] n = None
item_at (i ∷ is) zero = Some i
item_at (i ∷ is) (suc n) = item_at is n

-- a frame before the connect request was handed up
pub data UnaskedTurn (old : Stand) (body : List ℕ) : Stand → Type 0 where
  cut_short : length body < 4 → UnaskedTurn old body (ends old (StoreMalformed too_short))
  nothing_open : (z : ℤ) → BeginsWithInt body z → UnaskedTurn old body (ends old (NothingOpen z))

unfoldable pub is_none : {A : Type 0} → Option A → Bool
is_none None = true
is_none (Some a) = false

-- the response has its last byte exactly where the request has one
abbrev pub IsOfForm : ConnectRequest → ConnectResponse → Type 0
IsOfForm asked r = is_none r.read_only ≡ is_none asked.read_only

-- the frame that answers the connect request: passed on where it is a response of the request's form
pub data ConnectTurn (asked : ConnectRequest) (old : Stand) (body : List ℕ) : Stand → Type 0 where
  connected : (r : ConnectResponse) → SpellsConnected r body → IsOfForm asked r → ConnectTurn asked old body (record old { answered = 1; down = old.down ++ body ∷ [] })
  other_form : (refusal : Refusal) → RefusedConnected (is_none asked.read_only) body refusal.place refusal.reason → ConnectTurn asked old body (ends old (StoreMalformed refusal))

-- an event: read, judged, and passed on with its path opened
pub data EventTurn (k : EntryKeys) (old : Stand) (body : List ℕ) : Stand → Type 0 where
  malformed_event : (refusal : Refusal) → RefusedEvent body refusal.place refusal.reason → EventTurn k old body (ends old (StoreMalformed refusal))
  bad_event : (e : Event) (flaw : EventFlaw) → SpellsEvent e body → IsFlawOf k.names e flaw → EventTurn k old body (ends old (BadEvent flaw))
  opened_event : (e plain : Event) (out : List ℕ) → SpellsEvent e body → IsPlainEvent k.names e plain → SpellsEvent plain out → EventTurn k old body (record old { down = old.down ++ out ∷ [] })

-- the reply to closeSession ends the session
unfoldable pub ending_by : Asked → Option Ending
ending_by asks.Close = Some Closed
ending_by asked = None

-- What is told of a cause: the connection, how many replies came before on it, the xid, and the cause. The count stays at its last value.
unfoldable pub found : ℕ → ℕ → ℤ → Option Cause → List Finding
found c before xid None = []
found c before xid (Some cause) = record { connection = c; reply = min before (2 ^ 64 - 1); xid = xid; cause = cause } ∷ []

-- A reply to the oldest request that waits, which has this xid and asks this. The connect response counts among the answers, and not
-- among the replies.
pub data ReplyTurn (k : EntryKeys) (c : ℕ) (xid : ℤ) (asked : Asked) (old : Stand) (body : List ℕ) : Stand → Type 0 where
  other_xid : (z : ℤ) → BeginsWithInt body z → z ≢ xid → ReplyTurn k c xid asked old body (ends old (WrongXid xid z))
  malformed_reply : (refusal : Refusal) → BeginsWithInt body xid → RefusedReply (shape_for asked) body refusal.place refusal.reason → ReplyTurn k c xid asked old body (ends old (StoreMalformed refusal))
  handed_down : (stored told : Reply) (cause : Option Cause) (out : List ℕ) → stored.xid ≡ xid → SpellsReply (shape_for asked) stored body → Admits k asked stored told cause → SpellsReply (shape_for asked) told out
      → ReplyTurn k c xid asked old body (record old { answered = old.answered + 1; down = old.down ++ out ∷ []; findings = old.findings ++ found c (old.answered - 1) xid cause; ending = ending_by asked })

-- a frame after the connect request was answered
pub data LaterTurn (k : EntryKeys) (c : ℕ) (old : Stand) (body : List ℕ) (new : Stand) : Type 0 where
  no_first_int : length body < 4 → new ≡ ends old (StoreMalformed too_short) → LaterTurn k c old body new
  an_event : BeginsWithInt body (negsuc 0) → EventTurn k old body new → LaterTurn k c old body new
  none_waits : (z : ℤ) → BeginsWithInt body z → z ≢ negsuc 0 → item_at old.items old.answered ≡ None → new ≡ ends old (NothingOpen z) → LaterTurn k c old body new
  a_reply : (z xid : ℤ) (r : Request) (asked : Asked) → BeginsWithInt body z → z ≢ negsuc 0 → item_at old.items old.answered ≡ Some (items.Requests xid r) → Asks r asked → ReplyTurn k c xid asked old body new → LaterTurn k c old body new

-- by what was sent, and by how much of it was answered
unfoldable pub StoreTurn : EntryKeys → ℕ → Stand → List ℕ → Stand → List Item → ℕ → Type 0
StoreTurn k c old body new [] n = UnaskedTurn old body new
StoreTurn k c old body new (items.Asks asked ∷ is) zero = ConnectTurn asked old body new
StoreTurn k c old body new is n = LaterTurn k c old body new
