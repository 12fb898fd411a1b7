-- What the parts of a turn say.
use Rattle.std.specs.Prelude.{◌≡◌, ◌⊎◌, ℕ, ℤ, ◌+◌, ◌<◌, ◌≤◌, ◌^◌, List, [], ◌∷◌, ◌++◌, length}
use Rattle.jute_core.specs.Frames.{frame}
use Rattle.jute_core.specs.declared.cursor.Reason.{Reason}
use Rattle.jute_core.specs.declared.cursor.Refusal.{Refusal}
use Rattle.zk_frame.specs.Framing.{Framing, IsTooLong}
use Rattle.jute_core.specs.declared.not_read.NotRead.{NotRead}
use Rattle.jute_core.specs.declared.not_read.NotRead.TheVariants as reads
use Rattle.request_queue.specs.declared.pending.Pending.{Pending}
use Rattle.request_rewrite.specs.Asks.{Asks}
use Rattle.request_rewrite.specs.Ivs.{IsForGreatest, ivs_from, PayloadsOf}
use Rattle.request_rewrite.specs.Veil.{Veil}
use Rattle.request_rewrite.specs.declared.veiling.NotVeiled.{NotVeiled}
use Rattle.request_rewrite.specs.declared.veiling.NotVeiled.TheVariants as veils
use Rattle.zk_frame.specs.declared.framer.FrameFault.{FrameFault}
use Rattle.zk_frame.specs.declared.framer.FrameFault.TheVariants as framing
use Rattle.zk_messages.specs.Sending.{AddsBytes}
use Rattle.zk_messages.specs.Sent.{client_limit}
use Rattle.entry_session.specs.Kept.{Going}
use Rattle.zk_messages.specs.Requests.{SpellsRequest}
use Rattle.zk_messages.specs.declared.request.Request.{Request}
use Rattle.entry_session.specs.declared.ending.Ending.{Ending}
use Rattle.entry_session.specs.declared.ending.Ending.TheVariants.{Memory, ClientMalformed, ClientTooLong, StoreTooLong, IvSpent}
use Rattle.entry_session.specs.declared.progress.Phase.{Phase}
use Rattle.entry_session.specs.declared.progress.Phase.TheVariants.{Unasked, Asked, Connected}

-- the ending at a frame of the client that was not read
abbrev pub of_client : NotRead → Ending
of_client (reads.Refused refusal) = ClientMalformed refusal
of_client reads.Memory = Memory

-- and at a request that was not veiled
abbrev pub not_veiled : NotVeiled → Ending
not_veiled veils.Spent = IvSpent
not_veiled veils.Memory = Memory

-- and at bytes of the client that were not taken
abbrev pub client_unfed : FrameFault → Ending
client_unfed (framing.TooLong z) = ClientTooLong z
client_unfed framing.Memory = Memory

-- the bytes are the frame of this request
pub record IsFrameOf (xid : ℤ) (r : Request) (bytes : List ℕ) : Type 0 where
  pub body : List ℕ
  pub spelled : SpellsRequest xid r body
  pub framed : bytes ≡ frame body

-- the connect request was handed up
abbrev pub IsLater : Phase → Type 0
IsLater Unasked = ⊥
IsLater (Asked older) = Unit {0}
IsLater Connected = Unit {0}

-- a request was read from so many bytes, within the client's limit
pub record IsRead (xid : ℤ) (r : Request) (bytes : ℕ) : Type 0 where
  pub body : List ℕ
  pub spelled : SpellsRequest xid r body
  pub size : length body ≡ bytes
  pub short : length body ≤ client_limit

-- the body is refused as this, or there was no memory
abbrev pub IsMalformed : List ℕ → (List ℕ → ℕ → Reason → Type 0) → Ending → Type 0
IsMalformed body Is e = (e ≡ Memory) ⊎ ((refusal : Refusal) × (e ≡ ClientMalformed refusal) × Is body refusal.place refusal.reason)

-- and at bytes of the store that were not taken
abbrev pub store_unfed : FrameFault → Ending
store_unfed (framing.TooLong z) = StoreTooLong z
store_unfed framing.Memory = Memory

-- bytes of the client were not taken: their prefix names a length beyond the limit, or there was no memory
abbrev pub CannotFeed : Framing → List ℕ → Ending → Type 0
CannotFeed f piece e = (e ≡ Memory) ⊎ ((z : ℤ) × (e ≡ ClientTooLong z) × IsTooLong f.limit (f.held ++ piece) z)

-- the same of the store
abbrev pub CannotFeedStore : Framing → List ℕ → Ending → Type 0
CannotFeedStore f piece e = (e ≡ Memory) ⊎ ((z : ℤ) × (e ≡ StoreTooLong z) × IsTooLong f.limit (f.held ++ piece) z)

-- the request was handed up veiled, and waits for its reply
pub record HandsUp (old new : Going) (xid : ℤ) (r : Request) (bytes : ℕ) (up more_up : List ℕ) : Type 0 where
  pub count : ℕ
  pub payloads : PayloadsOf r count
  pub greatest : IsForGreatest old.keys.payloads old.ivs
  pub left : old.ivs.count + count ≤ 2 ^ 32
  pub veiled : Request
  pub veils : Veil old.keys (ivs_from old.ivs count) r veiled
  pub added : AddsBytes up more_up (IsFrameOf xid veiled)
  pub pending : Pending
  pub asked : Asks r pending.asked
  pub xid_is : pending.xid ≡ xid
  pub bytes_are : pending.bytes ≡ bytes
  pub new_is : new ≡ record old { ivs = record old.ivs { count = old.ivs.count + count }; queue = old.queue ++ pending ∷ [] }

-- it was not: too few IVs are left for it, or there was no memory
abbrev pub CannotHandUp : Going → Request → Ending → Type 0
CannotHandUp old r e = (e ≡ Memory) ⊎ ((e ≡ IvSpent) × ((count : ℕ) × PayloadsOf r count × (2 ^ 32 < old.ivs.count + count)))
