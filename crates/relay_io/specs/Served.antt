-- What serving one connection of a store comes to: which acts a pass did for its line, in which order, and what the line took.
use Rattle.std.specs.Prelude.{◌≡◌, ◌≢◌, ◌⊎◌, ◌↔◌, ◌≤◌, ◌<◌, ℕ, ℤ, Bool, true, false, List, [], ◌∷◌, ◌++◌, length, Option, Some, None, Result, Ok, Err}
use Rattle.jute_core.specs.Faults.{Rose, Wrote, WroteFront}
use Rattle.store_side.specs.declared.ending.StoreEnding.{StoreEnding}
use Rattle.store_side.specs.declared.ending.StoreEnding.TheVariants as stores
use Rattle.tree_hall.specs.declared.act.Act.{Act}
use Rattle.tree_hall.specs.declared.act.Act.TheVariants.{Admit, Feed, Pull, Lose, Tick}
use Rattle.tree_hall.specs.declared.act.Answer.{Answer}
use Rattle.tree_hall.specs.declared.act.Answer.TheVariants.{Admitted, Fed, Pulled, Gone, Ticked}
use Rattle.tree_hall.specs.declared.view.Item.{Item}
use Rattle.tree_hall.specs.Histories.{item}
use Rattle.relay_io.specs.declared.line.LineEvent.{LineEvent}
use Rattle.relay_io.specs.declared.line.LineEvent.TheVariants as events
use Rattle.relay_io.specs.declared.serving.ServeEnding.{ServeEnding}
use Rattle.relay_io.specs.declared.serving.ServeEnding.TheVariants as ends
use Rattle.relay_io.specs.declared.pulling.Cut.{Cut}
use Rattle.relay_io.specs.declared.pulling.Cut.TheVariants.{Unwritten, NoMemory}
use Rattle.relay_io.specs.Lines.{LineTold, GrewBy}

-- the answer where the store's side of the connection ended: want of memory is an answer of its own
abbrev pub answer_of : StoreEnding → ServeEnding
answer_of stores.Memory = ends.Memory
answer_of e = ends.Store e

-- a pull of the connection that gave these bytes
abbrev pub pull_of : ℕ → ℕ → ℕ → List ℕ → Item
pull_of by c limit bytes = item by (Pull c limit) (Ok (Pulled bytes))

-- Pulls of which none gave fewer bytes than its limit, and the bytes that they gave, in order.
pub data FullPulls (by c : ℕ) : List Item → List ℕ → Type 0 where
  none_yet : FullPulls by c [] []
  one_more : (limit : ℕ) (bytes given : List ℕ) (calls : List Item) → 0 < limit → limit ≤ length bytes → FullPulls by c calls given
      → FullPulls by c (calls ++ pull_of by c limit bytes ∷ []) (given ++ bytes)

-- All that waits is pulled: up to the first pull that gives fewer bytes than its limit.
pub data PullsAll (by c : ℕ) : List Item → List ℕ → Type 0 where
  up_to_last : (limit : ℕ) (bytes given : List ℕ) (calls : List Item) → length bytes < limit → FullPulls by c calls given
      → PullsAll by c (calls ++ pull_of by c limit bytes ∷ []) (given ++ bytes)

-- Pulling was cut short: what a pull gave could not be written, or the store had no memory for a pull.
pub data PullsSome (by c : ℕ) : List Item → List ℕ → Cut → Type 0 where
  up_to_unwritten : (limit : ℕ) (bytes given : List ℕ) (calls : List Item) → 0 < limit → FullPulls by c calls given
      → PullsSome by c (calls ++ pull_of by c limit bytes ∷ []) (given ++ bytes) Unwritten
  up_to_refused : (limit : ℕ) (given : List ℕ) (calls : List Item) → 0 < limit → FullPulls by c calls given
      → PullsSome by c (calls ++ item by (Pull c limit) (Err stores.Memory) ∷ []) given NoMemory

-- the answer where pulling was cut short, and whether a write failed
abbrev pub answer_to : Cut → ServeEnding
answer_to Unwritten = ends.LineFault
answer_to NoMemory = ends.Memory

abbrev pub is_unwritten : Cut → Bool
is_unwritten Unwritten = true
is_unwritten NoMemory = false

-- An event behind which the connection goes on: bytes are fed, an idle moment is a tick, and then all that waits is pulled.
pub data Round (by c : ℕ) : LineEvent → List Item → List ℕ → Type 0 where
  fed : (at : ℤ) (bytes given : List ℕ) (calls : List Item) → PullsAll by c calls given
      → Round by c (events.Bytes at bytes) (item by (Feed c at bytes) (Ok Fed) ∷ calls) given
  ticked : (at : ℤ) (given : List ℕ) (calls : List Item) → PullsAll by c calls given
      → Round by c (events.Idle at) (item by (Tick at) (Ok Ticked) ∷ calls) given

-- such events, one after another
pub data Rounds (by c : ℕ) : List LineEvent → List Item → List ℕ → Type 0 where
  no_round : Rounds by c [] [] []
  one_round : (heard : List LineEvent) (event : LineEvent) (before calls : List Item) (given more : List ℕ) → Rounds by c heard before given
      → Round by c event calls more → Rounds by c (heard ++ event ∷ []) (before ++ calls) (given ++ more)

-- What ended the connection: the last event, if one was heard, with the acts that were done for it, what their pulls gave, whether a write
-- of that failed, and the answer.
pub data Last (by c : ℕ) : List LineEvent → List Item → List ℕ → Bool → ServeEnding → Type 0 where
  line_ended : (at : ℤ) → Last by c (events.End at ∷ []) [] [] false ends.LineEnd
  line_failed : Last by c [] [] [] false ends.LineFault
  turns_used : Last by c [] [] [] false ends.Turns
  -- no memory for the buffer, or for the piece of a feed, which is left out
  no_buffer : Last by c [] [] [] false ends.Memory
  no_piece : (at : ℤ) (bytes : List ℕ) → Last by c (events.Bytes at bytes ∷ []) [] [] false ends.Memory
  -- a feed that is answered with an ending: what waits is pulled and written before that is answered
  feed_refused : (at : ℤ) (bytes given : List ℕ) (calls : List Item) (e : StoreEnding) → PullsAll by c calls given
      → Last by c (events.Bytes at bytes ∷ []) (item by (Feed c at bytes) (Err e) ∷ calls) given false (answer_of e)
  feed_refused_cut : (at : ℤ) (bytes given : List ℕ) (calls : List Item) (e : StoreEnding) (cut : Cut) → PullsSome by c calls given cut
      → Last by c (events.Bytes at bytes ∷ []) (item by (Feed c at bytes) (Err e) ∷ calls) given (is_unwritten cut) (answer_of e)
  -- a tick that found no memory is followed by nothing
  tick_refused : (at : ℤ) → Last by c (events.Idle at ∷ []) (item by (Tick at) (Err stores.Memory) ∷ []) [] false ends.Memory
  -- pulling was cut short
  feed_cut : (at : ℤ) (bytes given : List ℕ) (calls : List Item) (cut : Cut) → PullsSome by c calls given cut
      → Last by c (events.Bytes at bytes ∷ []) (item by (Feed c at bytes) (Ok Fed) ∷ calls) given (is_unwritten cut) (answer_to cut)
  tick_cut : (at : ℤ) (given : List ℕ) (calls : List Item) (cut : Cut) → PullsSome by c calls given cut
      → Last by c (events.Idle at ∷ []) (item by (Tick at) (Ok Ticked) ∷ calls) given (is_unwritten cut) (answer_to cut)

-- the first of the acts, and the last of an admitted connection
abbrev pub admit_of : ℕ → ℕ → Item
admit_of by c = item by Admit (Ok (Admitted c))

abbrev pub lose_of : ℕ → ℕ → Item
lose_of by c = item by (Lose c) (Ok Gone)

-- The acts of serving a connection, in order: one Admit, and nothing more where it is refused; else the rounds, what ended it, and one
-- Lose. Where so many events were served in full, nothing more is heard.
pub data Acts (turns by : ℕ) : List LineEvent → List Item → List ℕ → Bool → ServeEnding → Type 0 where
  not_admitted : (e : StoreEnding) → Acts turns by [] (item by Admit (Err e) ∷ []) [] false (answer_of e)
  admitted : (c : ℕ) (heard end : List LineEvent) (rounds last : List Item) (given more : List ℕ) (cut : Bool) (answer : ServeEnding)
      → Rounds by c heard rounds given → Last by c end last more cut answer
      → (length heard ≡ turns → (answer ≡ ends.Turns) ⊎ (answer ≡ ends.Memory))
      → Acts turns by (heard ++ end) (admit_of by c ∷ (rounds ++ last) ++ lose_of by c ∷ []) (given ++ more) cut answer

-- what the line took of the bytes that the pulls gave: all, or a front of them where a write failed
abbrev pub TookPulled : LineTold → LineTold → List ℕ → Bool → Type 0
TookPulled old new given false = Wrote old.written new.written given
TookPulled old new given true = Rose old.faults new.faults × WroteFront old.written new.written given

-- What serving a connection for so many turns came to: from what its line was before to what it is after, with the calls that the pass of
-- this number did for it, and the answer.
pub record Served (turns by : ℕ) (old new : LineTold) (calls : List Item) (answer : ServeEnding) : Type 0 where
  -- the events that it heard, the bytes that its pulls gave, and whether a write of them failed
  pub heard : List LineEvent
  pub given : List ℕ
  pub cut : Bool
  pub grew : GrewBy old.events new.events heard
  pub within : length heard ≤ turns
  pub acts : Acts turns by heard calls given cut answer
  pub took : TookPulled old new given cut
  -- a fault and the last turn come only at their causes
  pub line_fault : answer ≡ ends.LineFault → Rose old.faults new.faults
  pub all_turns : answer ≡ ends.Turns → length heard ≡ turns
  -- the count never fell
  pub later : old.faults ≤ new.faults
