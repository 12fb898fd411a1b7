-- What the calls of a store's side say: where the store stood, and where it stands then.
use Rattle.std.specs.Prelude.{◌≡◌, ◌⊎◌, ℕ, ℤ, pos, ◌+◌, ◌-◌, ◌<◌, ◌≤◌, ◌^◌, ◌<ℤ◌, ◌≤ℤ◌, ◌==◌, List, [], ◌∷◌, ◌++◌, length, take, drop, min, Bool, true, false, Option, Some, None, Result, Ok, Err, All, Contains, if◌then◌else◌}
use Rattle.std.specs.List.{flat_map, list_any}
use Rattle.std.specs.Option.{option_or, option_and_then}
use Rattle.std.specs.Ordering.{int_eq}
use Rattle.jute_core.specs.Frames.{frame, Stream}
use Rattle.jute_core.specs.declared.cursor.Refusal.{Refusal}
use Rattle.zk_frame.specs.Framing.{IsTooLong}
use Rattle.zk_records.specs.Connect.{SpellsConnect, RefusedConnect}
use Rattle.zk_records.specs.declared.connect.ConnectRequest.{ConnectRequest}
use Rattle.zk_messages.specs.Requests.{SpellsRequest, RefusedRequest}
use Rattle.zk_messages.specs.declared.request.Request.{Request}
use Rattle.zk_messages.specs.declared.request.Request.TheVariants as requests
use Rattle.tree_state.specs.Commands.{Command, IsCommand}
use Rattle.tree_state.specs.Changes.{Naming}
use Rattle.tree_state.specs.State.{State, Session, session_of, session_at}
use Rattle.tree_state.specs.Step.{Act, loses, connection_at, step}
use Rattle.store_side.specs.Past.{Past, Later, after_all, state_of, password_of}
use Rattle.store_side.specs.Follows.{IsSound}
use Rattle.store_side.specs.Fitting.{answer_length, frame_limit}
use Rattle.store_side.specs.Owed.{reserves}
use Rattle.store_side.specs.Acts.{AreActs}
use Rattle.store_side.specs.Orders.{HasNoConnect, HasSession, IsOver, LegalFrom}
use Rattle.store_side.specs.declared.entry.Entry.{Entry}
use Rattle.store_side.specs.declared.entry.Entry.TheVariants.{Connect, Take, Lost, Expire}
use Rattle.store_side.specs.declared.ending.StoreEnding.{StoreEnding}
use Rattle.store_side.specs.declared.ending.StoreEnding.TheVariants as endings

-- what is kept of each connection, but for this one
unfoldable pub with_at : {A : Type 0} → ℕ → A → (ℕ → A) → ℕ → A
with_at c x f d = if d == c then x else f d

-- nothing is kept of a frame where the connection is over
unfoldable pub rest_of : Option StoreEnding → List ℕ → List ℕ
rest_of None rest = rest
rest_of (Some e) rest = []

-- ---- the frames of a connection, as entries

-- each entry is the request of the connection, at this time, that its frame spells
unfoldable pub AreRequests : ℕ → ℤ → List Entry → List (List ℕ) → Type 0
AreRequests c now [] [] = Unit {0}
AreRequests c now [] (b ∷ bs) = ⊥
AreRequests c now (e ∷ es) [] = ⊥
AreRequests c now (Take d xid r zxid at ∷ es) (b ∷ bs) = (d ≡ c) × (at ≡ now) × SpellsRequest xid r b × AreRequests c now es bs
AreRequests c now (Connect d asked session timeout password zxid at ∷ es) (b ∷ bs) = ⊥
AreRequests c now (Lost d ∷ es) (b ∷ bs) = ⊥
AreRequests c now (Expire session zxid at ∷ es) (b ∷ bs) = ⊥

-- and the first may be its connect request
unfoldable pub AreFrames : ℕ → ℤ → List Entry → List (List ℕ) → Type 0
AreFrames c now [] bs = AreRequests c now [] bs
AreFrames c now (Connect d asked session timeout password zxid at ∷ es) [] = ⊥
AreFrames c now (Connect d asked session timeout password zxid at ∷ es) (b ∷ bs) = (d ≡ c) × (at ≡ now) × SpellsConnect asked b × AreRequests c now es bs
AreFrames c now (Take d xid r zxid at ∷ es) bs = AreRequests c now (Take d xid r zxid at ∷ es) bs
AreFrames c now (Lost d ∷ es) bs = ⊥
AreFrames c now (Expire session zxid at ∷ es) bs = ⊥

-- the loss of the connection that had the session, if one had it, stands before the connect
unfoldable pub lost_first : Option ℕ → List Entry
lost_first None = []
lost_first (Some d) = Lost d ∷ []

-- that connection had the session that is connected
unfoldable pub IsMoved : State → Option ℕ → List Entry → Type 0
IsMoved s None es = Unit {0}
IsMoved s (Some d) [] = ⊥
IsMoved s (Some d) (Connect c asked session timeout password zxid now ∷ es) = connection_at (session_at session s.sessions) ≡ Some d
IsMoved s (Some d) (Take c xid r zxid now ∷ es) = ⊥
IsMoved s (Some d) (Lost c ∷ es) = ⊥
IsMoved s (Some d) (Expire session zxid now ∷ es) = ⊥

-- which is over by that
unfoldable pub ended_by_move : Option ℕ → List Entry → ℕ → Option StoreEnding
ended_by_move None es d = None
ended_by_move (Some x) [] d = None
ended_by_move (Some x) (Connect c asked session timeout password zxid now ∷ es) d = if d == x then Some (endings.Moved session) else None
ended_by_move (Some x) (Take c xid r zxid now ∷ es) d = None
ended_by_move (Some x) (Lost c ∷ es) d = None
ended_by_move (Some x) (Expire session zxid now ∷ es) d = None

-- how the connection ends by a frame that was taken: it was given no session, or closed its own
unfoldable pub ending_by_request : Request → Option StoreEnding
ending_by_request requests.Close = Some endings.SessionClosed
ending_by_request r = None

unfoldable pub ending_by : Entry → Option StoreEnding
ending_by (Connect c asked session timeout password zxid now) = if int_eq session (pos 0) then Some (endings.Expired asked.session) else None
ending_by (Take c xid r zxid now) = ending_by_request r
ending_by (Lost c) = None
ending_by (Expire session zxid now) = None

-- and by the last one of several
unfoldable pub ending_after : List Entry → Option StoreEnding
ending_after [] = None
ending_after (e ∷ []) = ending_by e
ending_after (e ∷ f ∷ es) = ending_after (f ∷ es)

-- ---- a frame that is not taken

-- the entries that the frame would add at this past
pub record WouldAdd (past : Past) (c : ℕ) (now : ℤ) (body : List ℕ) (entries : List Entry) (acts : List Act) : Type 0 where
  pub moved : Option ℕ
  pub frames : List Entry
  pub entries_are : entries ≡ lost_first moved ++ frames
  pub spelled : AreFrames c now frames (body ∷ [])
  pub moves : IsMoved (state_of past) moved frames
  pub are_acts : AreActs entries acts
  pub legal : LegalFrom past.naming (password_of past.key) (state_of past) entries acts

-- how many entries there would be then, with those owed
unfoldable pub owed_after : Past → List Entry → List Act → ℕ
owed_after past entries acts = length (past.order ++ entries) + reserves (after_all past.naming (state_of past) acts).sessions

-- the frame asks for a child list whose answer is too long, and there is room for it
pub record AsksTooMuch (past : Past) (c : ℕ) (now : ℤ) (body : List ℕ) (size : ℕ) : Type 0 where
  pub xid : ℤ
  pub request : Request
  pub command : Command
  pub spelled : SpellsRequest xid request body
  pub is_command : IsCommand request command
  pub long : 2 ^ 31 ≤ answer_length (state_of past) command
  pub size_is : size ≡ min (answer_length (state_of past) command) (2 ^ 64 - 1)
  pub room : length past.order + 1 + reserves (state_of past).sessions ≤ past.limit

-- why a whole frame of the connection is not taken at this past: the first of these that fits
pub data IsRefused (past : Past) (c : ℕ) (now : ℤ) (body : List ℕ) : StoreEnding → Type 0 where
  no_connect : (refusal : Refusal) → HasNoConnect c past.order → RefusedConnect body refusal.place refusal.reason → IsRefused past c now body (endings.Malformed refusal)
  no_request : (refusal : Refusal) → HasSession (state_of past) c → RefusedRequest body refusal.place refusal.reason → IsRefused past c now body (endings.Malformed refusal)
  ahead : (asked : ConnectRequest) → HasNoConnect c past.order → SpellsConnect asked body → (state_of past).last <ℤ asked.seen
      → IsRefused past c now body (endings.AheadOfUs asked.seen (state_of past).last)
  full : (entries : List Entry) (acts : List Act) → WouldAdd past c now body entries acts → past.limit < owed_after past entries acts → IsRefused past c now body endings.JournalFull
  too_much : (size : ℕ) → HasSession (state_of past) c → AsksTooMuch past c now body size → IsRefused past c now body (endings.AnswerTooLong size)

-- ---- feed

-- how a feed ends, where these frames were taken of these bytes
pub data Stops (new : Past) (c : ℕ) (now : ℤ) (frames : List Entry) (bodies : List (List ℕ)) (bytes : List ℕ) : Result (Unit {0}) StoreEnding → Type 0 where
  -- every whole frame was taken, and what is left names no length beyond the limit
  all_taken : Stream bodies (new.rests c) bytes → ((z : ℤ) → IsTooLong frame_limit (new.rests c) z → ⊥) → ending_after frames ≡ None
      → Stops new c now frames bodies bytes (Ok record {})
  -- the last one ended the connection
  at_last : (e : StoreEnding) (left : List ℕ) → bytes ≡ flat_map frame bodies ++ left → ending_after frames ≡ Some e → Stops new c now frames bodies bytes (Err e)
  -- a length beyond the limit comes next
  at_length : (z : ℤ) (left : List ℕ) → bytes ≡ flat_map frame bodies ++ left → IsTooLong frame_limit left z → ending_after frames ≡ None
      → Stops new c now frames bodies bytes (Err (endings.TooLong z))
  -- a frame comes next that is not taken
  at_frame : (e : StoreEnding) (body left : List ℕ) → bytes ≡ flat_map frame bodies ++ frame body ++ left → length body ≤ frame_limit → ending_after frames ≡ None
      → IsRefused new c now body e → Stops new c now frames bodies bytes (Err e)
  -- there was no memory for what comes next, or to write what was told
  wants : (left : List ℕ) → bytes ≡ flat_map frame bodies ++ left → Stops new c now frames bodies bytes (Err endings.Memory)

abbrev pub ending_in : Result (Unit {0}) StoreEnding → Option StoreEnding
ending_in (Ok x) = None
ending_in (Err e) = Some e

-- after each of these acts there are no more entries, with those owed then, than may be
unfoldable pub StaysWithin : Naming → ℕ → ℕ → State → List Act → Type 0
StaysWithin naming limit count s [] = Unit {0}
StaysWithin naming limit count s (act ∷ acts) =
    (count + 1 + reserves (step naming s act).state.sessions ≤ limit) × StaysWithin naming limit (count + 1) (step naming s act).state acts

-- Bytes of a connection came: the entries that its whole frames give were added, and nothing else.
pub record Fed (c : ℕ) (now : ℤ) (piece : List ℕ) (old new : Past) (answer : Result (Unit {0}) StoreEnding) : Type 0 where
  pub later : Later old new
  pub sound : IsSound old → IsSound new
  pub admitted : new.admitted ≡ old.admitted
  pub pulled : (d : ℕ) → new.pulled d ≡ old.pulled d
  pub moved : Option ℕ
  pub frames : List Entry
  pub entries : later.entries ≡ lost_first moved ++ frames
  pub bodies : List (List ℕ)
  -- none of them is longer than a frame for a store may be
  pub short : All (λ b. length b ≤ frame_limit) bodies
  pub spelled : AreFrames c now frames bodies
  pub moves : IsMoved (state_of old) moved frames
  pub within : IsSound old → StaysWithin old.naming old.limit (length old.order) (state_of old) later.more_acts
  pub stops : Stops new c now frames bodies (old.rests c ++ piece) answer
  pub ending : new.endings c ≡ ending_in answer
  pub others : (d : ℕ) → (d ≡ c → ⊥) → new.endings d ≡ option_or (old.endings d) (ended_by_move moved frames d)
  pub rest : new.rests c ≡ rest_of (new.endings c) (new.rests c)
  pub rests : (d : ℕ) → (d ≡ c → ⊥) → new.rests d ≡ rest_of (new.endings d) (old.rests d)
  pub written : (answer ≡ Err endings.Memory → ⊥) → new.written ≡ true

-- ---- the other calls

abbrev pub admitted_one : Past → Past
admitted_one past = record past { admitted = past.admitted + 1 }

-- the first waiting bytes were pulled
unfoldable pub after_pull : ℕ → ℕ → Past → Past
after_pull c count past = record past {
  pulled = with_at c (past.pulled c ++ take count (past.waiting c)) past.pulled;
  waiting = with_at c (drop count (past.waiting c)) past.waiting;
  written = true;
}

-- what the loss of a connection adds to the order: nothing where it is over already, or has no session
unfoldable pub IsLoss : Past → ℕ → List Entry → List Act → Type 0
IsLoss past c [] acts = (acts ≡ []) × (HasSession (state_of past) c → ⊥)
IsLoss past c (e ∷ es) acts = HasSession (state_of past) c × (e ∷ es ≡ Lost c ∷ []) × (acts ≡ loses c ∷ [])

unfoldable pub after_loss : ℕ → List Entry → List Act → Past → Past
after_loss c entries acts past = record past {
  order = past.order ++ entries;
  acts = past.acts ++ acts;
  endings = with_at c (Some endings.Lost) past.endings;
  rests = with_at c [] past.rests;
}

-- each number is below those behind it
unfoldable pub IsAscending : List ℤ → Type 0
IsAscending [] = Unit {0}
IsAscending (x ∷ xs) = All (λ y. x <ℤ y) xs × IsAscending xs

-- these sessions expire at this time, one after another
unfoldable pub AreExpired : ℤ → List ℤ → List Entry → Type 0
AreExpired now [] [] = Unit {0}
AreExpired now [] (e ∷ es) = ⊥
AreExpired now (n ∷ ns) [] = ⊥
AreExpired now (n ∷ ns) (Expire session zxid at ∷ es) = (session ≡ n) × (at ≡ now) × AreExpired now ns es
AreExpired now (n ∷ ns) (Connect c asked session timeout password zxid at ∷ es) = ⊥
AreExpired now (n ∷ ns) (Take c xid r zxid at ∷ es) = ⊥
AreExpired now (n ∷ ns) (Lost c ∷ es) = ⊥

-- how a connection that had this session, if any, is over when these expired
unfoldable pub ended_by_expiry : List ℤ → Option ℤ → Option StoreEnding
ended_by_expiry numbers None = None
ended_by_expiry numbers (Some n) = if list_any (λ m. int_eq m n) numbers then Some (endings.Expired n) else None

-- Sessions whose time is up expired, in ascending number, and nothing else changed. All of them did where `all` holds, and else the first.
pub record Ticked (now : ℤ) (old new : Past) (all : Bool) : Type 0 where
  pub later : Later old new
  pub sound : IsSound old → IsSound new
  pub admitted : new.admitted ≡ old.admitted
  pub pulled : (d : ℕ) → new.pulled d ≡ old.pulled d
  pub numbers : List ℤ
  pub ascending : IsAscending numbers
  pub expired : AreExpired now numbers later.entries
  pub up : (n : ℤ) → Contains numbers n → IsOver (state_of old) n now
  pub first : (n : ℤ) → IsOver (state_of old) n now → Contains numbers n ⊎ ((all ≡ false) × All (λ m. m <ℤ n) numbers)
  pub endings : (d : ℕ) → new.endings d ≡ option_or (old.endings d) (ended_by_expiry numbers (session_of d (state_of old).sessions))
  pub rests : (d : ℕ) → new.rests d ≡ rest_of (new.endings d) (old.rests d)
  pub written : all ≡ true → new.written ≡ true
