-- Where a server stands, and what it takes of a piece.
use Rattle.std.specs.Prelude.{◌≡◌, ◌⊎◌, ℕ, ℤ, ◌≤◌, ◌==◌, List, [], ◌∷◌, ◌++◌, length, take, Bool, true, Option, Some, None, Result, Ok, Err, All, if◌then◌else◌}
use Rattle.std.specs.List.{flat_map}
use Rattle.std.specs.Option.{option_or}
use Rattle.jute_core.specs.Frames.{frame, IsRest}
use Rattle.zk_frame.specs.Framing.{Framing, IsTooLong}
use Rattle.zk_frame.specs.declared.framer.FrameFault.{FrameFault}
use Rattle.zk_frame.specs.declared.framer.FrameFault.TheVariants as framing
use Rattle.tree_state.specs.declared.held.Held.{Held}
use Rattle.tree_state.specs.declared.message.Output.{Output}
use Rattle.tree_state.specs.State.{session_of}
use Rattle.tree_state.specs.Step.{Act, expires}
use Rattle.store_side.specs.declared.entry.Entry.{Entry}
use Rattle.store_side.specs.declared.entry.Entry.TheVariants.{Expire}
use Rattle.store_side.specs.declared.ending.StoreEnding.{StoreEnding}
use Rattle.store_side.specs.declared.ending.StoreEnding.TheVariants as endings
use Rattle.store_side.specs.Orders.{HasNoConnect}
use Rattle.store_side.specs.Out.{out, outputs, to_connection}
use Rattle.store_side.specs.Past.{Past, Later, state_of}
use Rattle.store_side.specs.Follows.{IsSound}
use Rattle.store_side.specs.Fitting.{frame_limit}
use Rattle.store_side.specs.Calls.{AreFrames, IsMoved, IsRefused, StaysWithin, ended_by_expiry, ended_by_move, ending_after, lost_first, rest_of}
use Rattle.tree_server.specs.declared.books.Books.{Books}
use Rattle.tree_server.specs.declared.lines.Lines.{Lines}
use Rattle.tree_server.specs.Connections.{AreLines}
use Rattle.tree_server.specs.declared.taking.Move.{Move}
use Rattle.tree_server.specs.Machines.{Stands, ended_move}

-- the machine and the lines stand at this past
pub record Both (named : List ℕ → ℕ → List ℕ → Type 0) (keeps : List Entry → Type 0) (room : ℕ) (held : Held) (books : Books) (lines : Lines) (past : Past) : Type 0 where
  pub machine : Stands named keeps room held books past
  pub lines_are : AreLines lines past

-- and it is sound
pub record ServerStands (named : List ℕ → ℕ → List ℕ → Type 0) (keeps : List Entry → Type 0) (room : ℕ) (held : Held) (books : Books) (lines : Lines) (past : Past) : Type 0 where
  pub both : Both named keeps room held books lines past
  pub sound : IsSound past
  -- it tells what the machine sends, with the names of a child list in byte order
  pub plain : (c : ℕ) → past.told c ≡ out past.naming past.acts c

-- From the old past to the new one, these frames of a connection were taken, and the connection goes on.
pub record Gained (c : ℕ) (now : ℤ) (old new : Past) (moved : Option ℕ) (frames : List Entry) (bodies : List (List ℕ)) : Type 0 where
  pub later : Later old new
  pub admitted : new.admitted ≡ old.admitted
  pub pulled : (d : ℕ) → new.pulled d ≡ old.pulled d
  pub entries : later.entries ≡ lost_first moved ++ frames
  pub spelled : AreFrames c now frames bodies
  pub moves : IsMoved (state_of old) moved frames
  pub within : StaysWithin old.naming old.limit (length old.order) (state_of old) later.more_acts
  pub tells : (d : ℕ) → later.more_told d ≡ to_connection d (outputs old.naming (state_of old) later.more_acts)
  pub others : (d : ℕ) → (d ≡ c → ⊥) → new.endings d ≡ option_or (old.endings d) (ended_by_move moved frames d)
  pub rests : (d : ℕ) → (d ≡ c → ⊥) → new.rests d ≡ rest_of (new.endings d) (old.rests d)
  pub goes_on : new.endings c ≡ None
  pub rest : new.rests c ≡ old.rests c

-- ---- a frame

-- a connection is over, whose session moved
abbrev pub with_moved : Option Move → Past → Past
with_moved moved past = record past {
  endings = λ d. option_or (past.endings d) (ended_move moved d);
  rests = λ d. rest_of (option_or (past.endings d) (ended_move moved d)) (past.rests d);
}

-- these entries were taken, what was sent for them is told as these bytes, and a session moved or none
abbrev pub taken_to : List Entry → List Act → List Output → (ℕ → List ℕ) → Bool → Option Move → Past → Past
taken_to entries acts sent bytes written moved past = record past {
  order = past.order ++ entries;
  acts = past.acts ++ acts;
  told = λ c. past.told c ++ to_connection c sent;
  waiting = λ c. past.waiting c ++ bytes c;
  endings = λ d. option_or (past.endings d) (ended_move moved d);
  rests = λ d. rest_of (option_or (past.endings d) (ended_move moved d)) (past.rests d);
  written = written;
}

-- the frame was taken and the connection goes on
pub record TookOne (c : ℕ) (now : ℤ) (body : List ℕ) (old new : Past) : Type 0 where
  pub moved : Option ℕ
  pub frames : List Entry
  pub gained : Gained c now old new moved frames (body ∷ [])
  pub none : ending_after frames ≡ None
  pub connected : HasNoConnect c new.order → ⊥
  pub written : new.written ≡ true

-- the connection ends by the frame: it was taken, or not, or memory was wanting
pub data EndsBy (c : ℕ) (now : ℤ) (body : List ℕ) (old : Past) : Past → StoreEnding → Type 0 where
  taken : (e : StoreEnding) (new : Past) (moved : Option ℕ) (frames : List Entry) → Gained c now old new moved frames (body ∷ []) → ending_after frames ≡ Some e → new.written ≡ true → EndsBy c now body old new e
  refused : (e : StoreEnding) → IsRefused old c now body e → old.written ≡ true → EndsBy c now body old old e
  wants : (new : Past) (moved : Option ℕ) (frames : List Entry) → Gained c now old new moved frames (body ∷ []) → EndsBy c now body old new endings.Memory
  wants_first : EndsBy c now body old old endings.Memory

-- ---- a piece

-- the first of these bytes make a frame whole, which is not held any more
pub record CutsFrame (old new : Framing) (piece : List ℕ) (count : ℕ) (body : List ℕ) : Type 0 where
  pub within : count ≤ length piece
  pub short : length body ≤ old.limit
  pub whole : old.held ++ take count piece ≡ frame body
  pub left : new ≡ record { limit = old.limit; held = [] }

-- all bytes of the piece are held, and no frame is whole
pub record KeepsPart (old new : Framing) (piece : List ℕ) : Type 0 where
  pub kept : new ≡ record { limit = old.limit; held = old.held ++ piece }
  pub partial : IsRest new.held
  pub within : (z : ℤ) → IsTooLong old.limit (old.held ++ piece) z → ⊥

-- the bytes held and those of the piece begin with this frame
pub record BeginsFrame (old : Framing) (piece body : List ℕ) : Type 0 where
  pub more : List ℕ
  pub short : length body ≤ old.limit
  pub begins : old.held ++ piece ≡ frame body ++ more

-- so far these frames were taken, and these bytes are left
pub record Reaches (c : ℕ) (now : ℤ) (old new : Past) (bytes left : List ℕ) : Type 0 where
  pub moved : Option ℕ
  pub frames : List Entry
  pub bodies : List (List ℕ)
  pub gained : Gained c now old new moved frames bodies
  pub none : ending_after frames ≡ None
  pub connected : (frames ≡ []) ⊎ (HasNoConnect c new.order → ⊥)
  pub short : All (λ b. length b ≤ frame_limit) bodies
  pub cut : bytes ≡ flat_map frame bodies ++ left

-- the connection ends at what comes next: by a frame, a length, or for want of memory
pub data EndsAt (c : ℕ) (now : ℤ) (old : Past) (left : List ℕ) : Past → StoreEnding → Type 0 where
  by_frame : (new : Past) (e : StoreEnding) (body more : List ℕ) → left ≡ frame body ++ more → length body ≤ frame_limit → EndsBy c now body old new e → EndsAt c now old left new e
  by_length : (z : ℤ) → IsTooLong frame_limit left z → old.written ≡ true → EndsAt c now old left old (endings.TooLong z)
  for_memory : EndsAt c now old left old endings.Memory

-- the ending at bytes that were not taken
abbrev pub ending_unfed : FrameFault → StoreEnding
ending_unfed (framing.TooLong z) = endings.TooLong z
ending_unfed framing.Memory = endings.Memory

-- they were not taken: their prefix names a length beyond the limit, or there was no memory
abbrev pub CannotFeed : Framing → List ℕ → StoreEnding → Type 0
CannotFeed f piece e = (e ≡ endings.Memory) ⊎ ((z : ℤ) × (e ≡ endings.TooLong z) × IsTooLong f.limit (f.held ++ piece) z)

-- ---- the end of a session

-- A session whose time was up ended, and nothing else changed but what is told of that.
pub record ExpiresOne (session now : ℤ) (old new : Past) : Type 0 where
  pub later : Later old new
  pub admitted : new.admitted ≡ old.admitted
  pub pulled : (d : ℕ) → new.pulled d ≡ old.pulled d
  pub zxid : ℤ
  pub entries : later.entries ≡ Expire session zxid now ∷ []
  pub acts_are : later.more_acts ≡ expires session now ∷ []
  pub endings_are : (d : ℕ) → new.endings d ≡ option_or (old.endings d) (ended_by_expiry (session ∷ []) (session_of d (state_of old).sessions))
  pub rests : (d : ℕ) → new.rests d ≡ rest_of (new.endings d) (old.rests d)

-- the connection that had the session is over by that
unfoldable pub ended_at : Option ℕ → ℤ → ℕ → Option StoreEnding
ended_at None session d = None
ended_at (Some x) session d = if d == x then Some (endings.Expired session) else None

abbrev pub with_expired : Option ℕ → ℤ → Past → Past
with_expired connection session past = record past {
  endings = λ d. option_or (past.endings d) (ended_at connection session d);
  rests = λ d. rest_of (option_or (past.endings d) (ended_at connection session d)) (past.rests d);
}

-- this entry was taken, what was sent for it is told as these bytes, and the session ended, which this connection had
abbrev pub expired_to : Entry → Act → List Output → (ℕ → List ℕ) → Bool → Option ℕ → ℤ → Past → Past
expired_to entry act sent bytes written connection session past = record past {
  order = past.order ++ entry ∷ [];
  acts = past.acts ++ act ∷ [];
  told = λ c. past.told c ++ to_connection c sent;
  waiting = λ c. past.waiting c ++ bytes c;
  endings = λ d. option_or (past.endings d) (ended_at connection session d);
  rests = λ d. rest_of (option_or (past.endings d) (ended_at connection session d)) (past.rests d);
  written = written;
}

-- what is answered where the connection ends so, or goes on
abbrev pub answer_of : Option StoreEnding → Result (Unit {0}) StoreEnding
answer_of None = Ok record {}
answer_of (Some e) = Err e
