-- What the lines of a store keep of its connections.
use Rattle.std.specs.Prelude.{◌≡◌, ℕ, ℤ, zero, suc, ◌+◌, ◌-◌, ◌^◌, ◌<◌, ◌≤◌, List, [], ◌++◌, length, drop, slice_get, Bool, true, Option, Some, None, Result, Ok, Err}
use Rattle.std.specs.Option.{option_and_then, option_map_or}
use Rattle.jute_core.specs.Frames.{IsRest}
use Rattle.zk_frame.specs.Framing.{Framing, IsTooLong}
use Rattle.tree_state.specs.declared.message.Message.{Message}
use Rattle.tree_state.specs.declared.message.Output.{Output}
use Rattle.store_side.specs.declared.ending.StoreEnding.{StoreEnding}
use Rattle.store_side.specs.Messages.{Messages}
use Rattle.store_side.specs.Sending.{AddsFrame}
use Rattle.store_side.specs.Out.{to_connection}
use Rattle.store_side.specs.Fitting.{frame_limit}
use Rattle.store_side.specs.Past.{Past}
use Rattle.store_side.specs.Follows.{IsAdmitted}
use Rattle.store_side.specs.Calls.{with_at}
use Rattle.tree_server.specs.declared.lines.Line.{Line}
use Rattle.tree_server.specs.declared.lines.Lines.{Lines}
use Rattle.tree_server.specs.declared.lines.Standing.{Standing}
use Rattle.tree_server.specs.declared.lines.Standing.TheVariants.{Open, Over}

-- bytes that begin with no whole frame, and name no length beyond the limit
pub record IsPart (bytes : List ℕ) : Type 0 where
  pub partial : IsRest bytes
  pub within : (z : ℤ) → IsTooLong frame_limit bytes z → ⊥

-- the line of a connection; they are numbered from 1
unfoldable pub line_at : List Line → ℕ → Option Line
line_at ls zero = None
line_at ls (suc i) = slice_get ls i

-- where it stands; for no connection's number that is past every end
pub record IsPlace (c i : ℕ) : Type 0 where
  pub at : i < 2 ^ 63 → c ≡ i + 1
  pub none : 2 ^ 63 ≤ i → c ≡ 0

unfoldable pub ending_of : Standing → Option StoreEnding
ending_of (Open framer) = None
ending_of (Over e) = Some e

unfoldable pub held_by : Standing → List ℕ
held_by (Open framer) = framer.held
held_by (Over e) = []

unfoldable pub waiting_at : List Line → ℕ → List ℕ
waiting_at ls c = option_map_or (λ l. l.waiting) (line_at ls c) []

unfoldable pub rest_at : List Line → ℕ → List ℕ
rest_at ls c = option_map_or (λ l. held_by l.standing) (line_at ls c) []

unfoldable pub ending_at : List Line → ℕ → Option StoreEnding
ending_at ls c = option_and_then (λ l. ending_of l.standing) (line_at ls c)

-- an open line takes frames up to the limit, and holds a part of one
unfoldable pub HoldsPart : Standing → Type 0
HoldsPart (Open framer) = (framer.limit ≡ frame_limit) × IsPart framer.held
HoldsPart (Over e) = Unit {0}

-- what was told and is not written
abbrev pub unwritten_in : Lines → List Output
unwritten_in ls = drop ls.written ls.unwritten

-- these bytes spell what goes to each connection
abbrev pub SpellEach : List Output → (ℕ → List ℕ) → Type 0
SpellEach sent bytes = (c : ℕ) → Messages (to_connection c sent) (bytes c)

-- the lines keep of a past what waits, is held and is over
pub record AreLines (ls : Lines) (past : Past) : Type 0 where
  pub admitted : past.admitted ≡ length ls.lines.items
  pub few : past.admitted < 2 ^ 32
  -- of what waits, what was told and is not written stands behind what is
  pub behind : ℕ → List ℕ
  pub messages : (c : ℕ) → Messages (to_connection c (unwritten_in ls)) (behind c)
  pub waiting : (c : ℕ) → past.waiting c ≡ waiting_at ls.lines.items c ++ behind c
  pub none : (c : ℕ) → (IsAdmitted past c → ⊥) → to_connection c (unwritten_in ls) ≡ []
  pub written : past.written ≡ true → unwritten_in ls ≡ []
  pub rests : (c : ℕ) → past.rests c ≡ rest_at ls.lines.items c
  pub endings : (c : ℕ) → past.endings c ≡ ending_at ls.lines.items c
  pub parts : (c : ℕ) (l : Line) → line_at ls.lines.items c ≡ Some l → HoldsPart l.standing
  -- no more is counted as held back than is
  pub held : (c : ℕ) (l : Line) → line_at ls.lines.items c ≡ Some l → l.held ≤ length (behind c)

-- ---- what the parts of these calls do to the lines

-- what a line holds of a frame is handed out, or it is over
abbrev pub TakesOut : Standing → Standing → Result Framing StoreEnding → Type 0
TakesOut (Open framer) new (Ok taken) = (taken ≡ framer) × (new ≡ Open (record { limit = frame_limit; held = [] }))
TakesOut (Over e) new (Err found) = (found ≡ e) × (new ≡ Over e)
TakesOut old new result = ⊥

abbrev pub put_back : Framing → Standing → Standing
put_back framer (Open old) = Open framer
put_back framer (Over e) = Over e

abbrev pub over_by : StoreEnding → Standing → Standing
over_by e (Open framer) = Over e
over_by e (Over old) = Over old

-- the frame of a message was written behind the waiting bytes of a line
pub record AddsTold (old new : Line) (message : Message) : Type 0 where
  pub adds : AddsFrame old.waiting new.waiting message
  pub held : new.held ≤ old.held - (length new.waiting - length old.waiting)
  pub standing : new.standing ≡ old.standing

-- a line, or none, behind whose waiting bytes these were written
unfoldable pub TellsLine : Option Line → Option Line → List ℕ → Type 0
TellsLine None new bytes = (new ≡ None) × (bytes ≡ [])
TellsLine (Some l) new bytes = (m : Line) × (new ≡ Some m) × (m.waiting ≡ l.waiting ++ bytes) × (m.standing ≡ l.standing) × (m.held ≤ l.held - length bytes)

-- these outputs were written to their lines; one to no line was passed over
pub record Writes (old new : List Line) (outputs : List Output) : Type 0 where
  pub size : length new ≡ length old
  pub bytes : ℕ → List ℕ
  pub spelled : (c : ℕ) (l : Line) → line_at old c ≡ Some l → Messages (to_connection c outputs) (bytes c)
  pub told : (c : ℕ) → TellsLine (line_at old c) (line_at new c) (bytes c)

-- the first outputs that were not written are
pub record WritesFirst (old new : Lines) : Type 0 where
  pub outputs : List Output
  pub cut : unwritten_in old ≡ outputs ++ unwritten_in new
  pub writes : Writes old.lines.items new.lines.items outputs

-- a line, or none, for which at most so many bytes more are counted as held back
unfoldable pub HoldsLine : Option Line → Option Line → List ℕ → Type 0
HoldsLine None new bytes = new ≡ None
HoldsLine (Some l) new bytes = (m : Line) × (new ≡ Some m) × (m.waiting ≡ l.waiting) × (m.standing ≡ l.standing) × (m.held ≤ l.held + length bytes)

-- these outputs, which these bytes spell, are counted as held back
pub record Holds (old new : List Line) (outputs : List Output) : Type 0 where
  pub size : length new ≡ length old
  pub bytes : ℕ → List ℕ
  pub spelled : SpellEach outputs bytes
  pub told : (c : ℕ) → HoldsLine (line_at old c) (line_at new c) (bytes c)

-- all that is not written is counted so
pub record HoldsRest (old new : Lines) : Type 0 where
  pub unwritten : new.unwritten ≡ old.unwritten
  pub written : new.written ≡ old.written
  pub holds : Holds old.lines.items new.lines.items (unwritten_in old)

-- ---- what the calls of lines do to a past

abbrev pub with_rest : ℕ → List ℕ → Past → Past
with_rest c rest past = record past { rests = with_at c rest past.rests }

abbrev pub with_ending : ℕ → StoreEnding → Past → Past
with_ending c e past = record past { endings = with_at c (Some e) past.endings; rests = with_at c [] past.rests }

-- these were told, as these bytes
unfoldable pub told_more : List Output → (ℕ → List ℕ) → Bool → Past → Past
told_more sent bytes written past = record past {
  told = λ c. past.told c ++ to_connection c sent;
  waiting = λ c. past.waiting c ++ bytes c;
  written = written;
}
