-- What a session keeps, and where it stands.
use Rattle.std.specs.Prelude.{◌≡◌, ◌≤◌, ◌-◌, ◌^◌, ℕ, suc, ℤ, List, [], ◌∷◌, length, drop, max, min, All, Bool, Option, None}
use Rattle.jute_core.specs.Frames.{IsRest}
use Rattle.payload_seal.specs.Ivs.{Ivs}
use Rattle.payload_seal.specs.declared.keys.EntryKeys.{EntryKeys}
use Rattle.request_queue.specs.Short.{HasShortPath}
use Rattle.request_queue.specs.declared.pending.Pending.{Pending}
use Rattle.zk_frame.specs.Framing.{IsTooLong}
use Rattle.zk_messages.specs.Sent.{client_limit}
use Rattle.zk_records.specs.declared.connect.ConnectRequest.{ConnectRequest}
use Rattle.zk_messages.specs.declared.request.Item.{Item}
use Rattle.zk_messages.specs.declared.request.Item.TheVariants as items
use Rattle.zk_messages.specs.declared.request.Request.{Request}
use Rattle.request_rewrite.specs.Asks.{Asks}
use Rattle.request_rewrite.specs.Ivs.{IsForGreatest}
use Rattle.entry_session.specs.Heard.{Heard}
use Rattle.entry_session.specs.Stands.{Stand}
use Rattle.entry_session.specs.ClientTurns.{source_at}
use Rattle.entry_session.specs.StoreTurns.{is_none}
use Rattle.entry_session.specs.Runs.{Ran, store_limit}
use Rattle.entry_session.specs.declared.ending.Ending.{Ending}
use Rattle.entry_session.specs.declared.progress.Phase.{Phase}
use Rattle.entry_session.specs.declared.progress.Phase.TheVariants.{Unasked, Asked, Connected}

-- what is kept of the frames heard so far
pub record Going : Type 0 where
  pub keys : EntryKeys
  pub ivs : Ivs
  pub phase : Phase
  -- the requests that the store has not answered
  pub queue : List Pending
  -- how many of them it answered; the count stays at its last value
  pub replies : ℕ

-- before anything is heard
abbrev pub fresh_going : EntryKeys → ℕ → ℕ → Going
fresh_going keys boot c = record { keys = keys; ivs = source_at keys boot c 0; phase = Unasked; queue = []; replies = 0 }

-- the source gives IVs for the greatest epoch of the keys, and gave no more than there are
pub record IsSourceOf (keys : List (List ℕ)) (s : Ivs) : Type 0 where
  pub greatest : IsForGreatest keys s
  pub left : s.count ≤ 2 ^ 32

-- what waits names only short paths
abbrev pub AreShort : List Pending → Type 0
AreShort queue = All (λ p. HasShortPath p.asked) queue

-- what a session keeps: the bytes of each side that are no whole frame yet, and why it ended, besides
pub record Kept : Type 0 where
  pub going : Going
  pub client : List ℕ
  pub store : List ℕ
  pub ending : Option Ending

-- A request waits: it came in a body of so many bytes, and what it asks is kept.
pub record IsWaiting (i : Item) (size : ℕ) (p : Pending) : Type 0 where
  pub request : Request
  pub is : i ≡ items.Requests p.xid request
  pub bytes : p.bytes ≡ size
  pub asks : Asks request p.asked
  pub short : HasShortPath p.asked

unfoldable pub AreWaiting : List Item → List ℕ → List Pending → Type 0
AreWaiting [] [] [] = Unit {0}
AreWaiting (i ∷ is) (size ∷ sizes) (p ∷ ps) = IsWaiting i size p × AreWaiting is sizes ps
AreWaiting is sizes ps = ⊥

-- the first item is a connect request, of the older form or not
pub record IsAskedFirst (is : List Item) (older : Bool) : Type 0 where
  pub asked : ConnectRequest
  pub more : List Item
  pub first : is ≡ items.Asks asked ∷ more
  pub form : is_none asked.read_only ≡ older

-- by what the client sent and by how much of it was answered
unfoldable pub IsInPhase : List Item → ℕ → Phase → Type 0
IsInPhase is answered Unasked = (is ≡ []) × (answered ≡ 0)
IsInPhase is answered (Asked older) = IsAskedFirst is older × (answered ≡ 0)
IsInPhase is answered Connected = (older : Bool) × (n : ℕ) × IsAskedFirst is older × (answered ≡ suc n)

-- the place of the oldest request that is not answered
abbrev pub oldest : Stand → ℕ
oldest s = max s.answered 1

-- what is kept where a session stands here and goes on
pub record IsGoing (kept : Going) (s : Stand) : Type 0 where
  pub phase : IsInPhase s.items s.answered kept.phase
  pub sized : length s.sizes ≡ length s.items
  pub within : s.answered ≤ length s.items
  pub waiting : AreWaiting (drop (oldest s) s.items) (drop (oldest s) s.sizes) kept.queue
  pub sealed : kept.ivs.count ≡ s.sealed
  pub replies : kept.replies ≡ min (s.answered - 1) (2 ^ 64 - 1)

-- bytes that begin with no whole frame, and name no length beyond the limit
pub record IsPart (limit : ℕ) (bytes : List ℕ) : Type 0 where
  pub partial : IsRest bytes
  pub within : (z : ℤ) → IsTooLong limit bytes z → ⊥

-- A session stands where what it heard, the last first, leads. While it has no ending, these bytes of each side are no whole frame yet.
pub record At (kept : Kept) (hs : List Heard) (client_rest store_rest : List ℕ) (s : Stand) : Type 0 where
  pub ran : Ran kept.going.keys kept.going.ivs.boot kept.going.ivs.connection hs s
  pub ending : kept.ending ≡ s.ending
  pub going : s.ending ≡ None → IsGoing kept.going s
  pub client : s.ending ≡ None → kept.client ≡ client_rest
  pub store : s.ending ≡ None → kept.store ≡ store_rest
  pub client_part : s.ending ≡ None → IsPart client_limit client_rest
  pub store_part : s.ending ≡ None → IsPart store_limit store_rest

-- the keys, the boot and the connection stay
pub record IsOfOne (old new : Going) : Type 0 where
  pub keys : new.keys ≡ old.keys
  pub boot : new.ivs.boot ≡ old.ivs.boot
  pub connection : new.ivs.connection ≡ old.ivs.connection
