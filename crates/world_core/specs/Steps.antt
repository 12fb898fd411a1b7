-- What each call of a world does: from which moment to which.
use Rattle.std.specs.Prelude.{◌≡◌, ℕ, zero, suc, ℤ, ◌+◌, List, [], ◌∷◌, ◌++◌, length, take, drop, min, true, false, Option, Some, None, Result, Err}
use Rattle.payload_seal.specs.declared.keys.EntryKeys.{EntryKeys}
use Rattle.zk_messages.specs.Sent.{client_limit}
use Rattle.tree_state.specs.Step.{Act}
use Rattle.store_side.specs.Past.{Past}
use Rattle.store_side.specs.Follows.{IsSound}
use Rattle.store_side.specs.Calls.{Fed, Ticked, IsLoss, admitted_one, after_loss, after_pull, with_at}
use Rattle.store_side.specs.declared.entry.Entry.{Entry}
use Rattle.store_side.specs.declared.ending.StoreEnding.{StoreEnding}
use Rattle.store_side.specs.declared.ending.StoreEnding.TheVariants as overs
use Rattle.entry_session.specs.Heard.{Heard, given, client_frames, store_frames, bad_of_client, bad_of_store}
use Rattle.entry_session.specs.Stands.{ends}
use Rattle.entry_session.specs.Runs.{Ran, store_limit}
use Rattle.entry_session.specs.Sides.{IsSide, EndsAtClient, EndsAtStore, bytes_of}
use Rattle.entry_session.specs.Calls.{AreOfClient, AreOfStore}
use Rattle.entry_session.specs.declared.ending.Ending.{Ending}
use Rattle.entry_session.specs.declared.ending.Ending.TheVariants as endings
use Rattle.world_core.specs.declared.amount.Amount.{Amount}
use Rattle.world_core.specs.declared.amount.Amount.TheVariants.{AtMost, All}
use Rattle.world_core.specs.Moments.{Link, Moment}

-- how many of so many bytes are moved: the lesser of the number and what is there, or all
unfoldable pub count_of : Amount → ℕ → ℕ
count_of (AtMost n) there = min n there
count_of All there = there

-- these are moved, and these are left
abbrev pub first_of : Amount → List ℕ → List ℕ
first_of amount bytes = take (count_of amount (length bytes)) bytes

abbrev pub left_of : Amount → List ℕ → List ℕ
left_of amount bytes = drop (count_of amount (length bytes)) bytes

-- ---- one connection and the store

-- where one connection stands, and the past of the store
pub record Spot : Type 0 where
  pub past : Past
  pub link : Link

abbrev pub spot_of : ℕ → Moment → Spot
spot_of c m = record { past = m.past; link = m.links c }

-- the moment at which connection c and the store stand here, and nothing else has changed
abbrev pub with_spot : ℕ → Spot → Moment → Moment
with_spot c spot m = record m { past = spot.past; links = with_at c spot.link m.links }

-- ---- parts of the calls

-- The first bytes under way come to the session of connection c, which hears the client's frames that are whole with them.
pub record Comes (k : EntryKeys) (boot c : ℕ) (amount : Amount) (old new : Link) : Type 0 where
  pub came : new.came ≡ old.came ++ first_of amount old.under_way
  pub under_way : new.under_way ≡ left_of amount old.under_way
  pub more : List Heard
  pub of_client : AreOfClient more
  pub heard : new.heard ≡ more ++ old.heard
  pub ran : Ran k boot c new.heard new.stand
  pub side : IsSide client_limit (client_frames new.heard) (bad_of_client new.heard) (EndsAtClient new.stand.ending new.heard) new.came
  -- what it hands up for them waits to be fed to the store
  pub gained : List (List ℕ)
  pub handed : new.stand.up ≡ old.stand.up ++ gained
  pub unfed : new.unfed ≡ old.unfed ++ bytes_of gained
  pub fed : new.fed ≡ old.fed
  pub down : new.stand.down ≡ old.stand.down
  pub cut : new.cut ≡ old.cut

-- a session that has ended takes nothing more
unfoldable pub ComesIf : Option Ending → EntryKeys → ℕ → ℕ → Amount → Link → Link → Type 0
ComesIf None k boot c amount old new = Comes k boot c amount old new
ComesIf (Some e) k boot c amount old new = new ≡ old

-- a store takes bytes of a connection, unless its side of it is over
unfoldable pub TakesIf : Option StoreEnding → ℕ → ℤ → List ℕ → Past → Past → Type 0
TakesIf None c now piece old new = (answer : Result (Unit {0}) StoreEnding) × Fed c now piece old new answer × (answer ≡ Err overs.Memory → ⊥)
TakesIf (Some e) c now piece old new = new ≡ old

-- the store has had these bytes
abbrev pub with_fed : Amount → Link → Link
with_fed amount l = record l { fed = l.fed ++ first_of amount l.unfed; unfed = left_of amount l.unfed }

-- The store is fed the first bytes that were handed up and that it has not had.
pub record Feeds (c : ℕ) (now : ℤ) (amount : Amount) (old new : Spot) : Type 0 where
  pub takes : TakesIf (old.past.endings c) c now (first_of amount old.link.unfed) old.past new.past
  pub link : new.link ≡ with_fed amount old.link

-- a store loses a connection, unless its side of it is over
unfoldable pub LosesIf : Option StoreEnding → ℕ → Past → Past → Type 0
LosesIf None c old new = (entries : List Entry) × (acts : List Act) × IsLoss old c entries acts × (new ≡ after_loss c entries acts old) × (IsSound old → IsSound new)
LosesIf (Some e) c old new = new ≡ old

-- once its session has ended, and all that this handed up was delivered, the store loses the connection
unfoldable pub LeavesIf : Option Ending → List ℕ → ℕ → Past → Past → Type 0
LeavesIf None unfed c old new = new ≡ old
LeavesIf (Some e) (b ∷ bs) c old new = new ≡ old
LeavesIf (Some e) [] c old new = LosesIf (old.endings c) c old new

pub record Leaves (c : ℕ) (old new : Spot) : Type 0 where
  pub past : LeavesIf old.link.stand.ending old.link.unfed c old.past new.past
  pub link : new.link ≡ old.link

-- The session of connection c hears the store's frames that are whole with what was pulled.
pub record Hears (k : EntryKeys) (boot c : ℕ) (pulled : List ℕ) (old new : Link) : Type 0 where
  pub more : List Heard
  pub of_store : AreOfStore more
  pub heard : new.heard ≡ more ++ old.heard
  pub ran : Ran k boot c new.heard new.stand
  pub side : IsSide store_limit (store_frames new.heard) (bad_of_store new.heard) (EndsAtStore new.stand.ending new.heard) pulled
  -- what it hands down for them comes to the client
  pub gained : List (List ℕ)
  pub handed : new.stand.down ≡ old.stand.down ++ gained
  pub up : new.stand.up ≡ old.stand.up
  pub came : new.came ≡ old.came
  pub under_way : new.under_way ≡ old.under_way
  pub fed : new.fed ≡ old.fed
  pub unfed : new.unfed ≡ old.unfed
  pub cut : new.cut ≡ old.cut

-- The first waiting bytes are pulled and go through the session.
pub record Brings (k : EntryKeys) (boot c : ℕ) (amount : Amount) (old new : Spot) : Type 0 where
  pub past : new.past ≡ after_pull c (count_of amount (length (old.past.waiting c))) old.past
  pub hears : Hears k boot c (new.past.pulled c) old.link new.link

unfoldable pub BringsIf : Option Ending → EntryKeys → ℕ → ℕ → Amount → Spot → Spot → Type 0
BringsIf None k boot c amount old new = Brings k boot c amount old new
BringsIf (Some e) k boot c amount old new = new ≡ old

-- a session that has none gets this ending
unfoldable pub ended_by : Option Ending → Ending → Link → Link
ended_by None e l = record l { heard = given e ∷ l.heard; stand = ends l.stand e }
ended_by (Some first) e l = l

abbrev pub ended : Ending → Link → Link
ended e l = ended_by l.stand.ending e l

-- where the store's side is over and nothing waits, the session ends, if it has not
unfoldable pub over_by : Option StoreEnding → List ℕ → Link → Link
over_by None waiting l = l
over_by (Some e) (b ∷ bs) l = l
over_by (Some e) [] l = ended endings.StoreEnd l

abbrev pub over : ℕ → Spot → Spot
over c s = record s { link = over_by (s.past.endings c) (s.past.waiting c) s.link }

-- ---- the calls that name a connection

-- This happens to connection c and to the store, unless the connection was cut.
pub record UnlessCut (c : ℕ) (P : Spot → Spot → Type 0) (old new : Moment) : Type 0 where
  pub cut : (old.links c).cut ≡ true → new ≡ old
  pub whole : (old.links c).cut ≡ false → (spot : Spot) × P (spot_of c old) spot × (new ≡ with_spot c spot old)

-- its client sends bytes
pub record Sends (bytes : List ℕ) (old new : Spot) : Type 0 where
  pub link : new.link ≡ record old.link { under_way = old.link.under_way ++ bytes }
  pub past : new.past ≡ old.past

abbrev pub Sent : ℕ → List ℕ → Moment → Moment → Type 0
Sent c bytes old new = UnlessCut c (Sends bytes) old new

-- Its bytes go up: the first ones under way to its session, and the first ones that this handed up to the store.
pub record GoesUp (k : EntryKeys) (boot c : ℕ) (now : ℤ) (first second : Amount) (old new : Spot) : Type 0 where
  pub link : Link
  pub comes : ComesIf old.link.stand.ending k boot c first old.link link
  pub fed : Spot
  pub feeds : Feeds c now second (record { past = old.past; link = link }) fed
  pub leaves : Leaves c fed new

abbrev pub Up : EntryKeys → ℕ → ℕ → Amount → Amount → Moment → Moment → Type 0
Up k boot c first second old new = UnlessCut c (GoesUp k boot c old.now first second) old new

-- Its bytes come down: the first ones that wait, through its session to its client.
pub record GoesDown (k : EntryKeys) (boot c : ℕ) (amount : Amount) (old new : Spot) : Type 0 where
  pub brought : Spot
  pub brings : BringsIf old.link.stand.ending k boot c amount old brought
  pub leaves : Leaves c (over c brought) new

abbrev pub Down : EntryKeys → ℕ → ℕ → Amount → Moment → Moment → Type 0
Down k boot c amount old new = UnlessCut c (GoesDown k boot c amount) old new

-- It is cut: its session ends, if it has not, what is under way is dropped, and the store loses it.
pub record Cuts (c : ℕ) (old new : Spot) : Type 0 where
  pub loses : LosesIf (old.past.endings c) c old.past new.past
  pub link : new.link ≡ record (ended endings.ClientEnd old.link) { cut = true }

abbrev pub Cut : ℕ → Moment → Moment → Type 0
Cut c old new = UnlessCut c (Cuts c) old new

-- ---- the other calls

-- a connection is admitted
abbrev pub added : Moment → Moment
added m = record m { past = admitted_one m.past }

-- the time is this
abbrev pub timed : ℤ → Moment → Moment
timed now m = record m { now = now }

-- The sessions whose time is up end.
pub record Ticks (old new : Moment) : Type 0 where
  pub ticked : Ticked old.now old.past new.past true
  pub links : new.links ≡ old.links
  pub now : new.now ≡ old.now

-- this happens for each connection of so many, from c on, in order
unfoldable pub ForEach : (ℕ → Moment → Moment → Type 0) → ℕ → ℕ → Moment → Moment → Type 0
ForEach P c zero old new = new ≡ old
ForEach P c (suc n) old new = (next : Moment) × P c old next × ForEach P (c + 1) n next new

-- All bytes of each connection go up, in order, and then all bytes of each come down.
pub record Drains (k : EntryKeys) (boot : ℕ) (old new : Moment) : Type 0 where
  pub half : Moment
  pub up : ForEach (λ c. Up k boot c All All) 1 old.past.admitted old half
  pub down : ForEach (λ c. Down k boot c All) 1 old.past.admitted half new

-- ---- once drained

-- nothing of the connection is under way or waits, and the store's side of it is not over
pub record IsDrained (m : Moment) (c : ℕ) : Type 0 where
  pub under_way : (m.links c).under_way ≡ []
  pub unfed : (m.links c).unfed ≡ []
  pub waiting : m.past.waiting c ≡ []
  pub goes_on : m.past.endings c ≡ None

-- that holds of each connection whose session goes on
abbrev pub IsAllDrained : Moment → Type 0
IsAllDrained m = (c : ℕ) → (m.links c).stand.ending ≡ None → IsDrained m c
