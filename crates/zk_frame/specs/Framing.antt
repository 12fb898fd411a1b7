-- What a framer holds, and what its calls say of it.
use Rattle.std.specs.Prelude.{◌≡◌, ◌⊎◌, ℕ, ℤ, pos, ◌<◌, ◌≤◌, ◌<ℤ◌, List, [], ◌++◌, length, take}
use Rattle.jute_core.specs.Frames.{frame, FitsFrame}
use Rattle.jute_core.specs.Jute.{IsInt}

-- the most bytes that a frame's body may have, and the bytes held
pub record Framing : Type 0 where
  pub limit : ℕ
  pub held : List ℕ

-- the bytes are one whole frame within the limit
pub record IsWhole (limit : ℕ) (bytes body : List ℕ) : Type 0 where
  pub fits : FitsFrame body
  pub within : length body ≤ limit
  pub same : bytes ≡ frame body

-- a whole frame waits
abbrev pub Waits : Framing → Type 0
Waits f = (body : List ℕ) × IsWhole f.limit f.held body

-- the four bytes of the prefix name this length, which is negative or above the limit
pub record IsTooLong (limit : ℕ) (bytes : List ℕ) (z : ℤ) : Type 0 where
  pub prefix : List ℕ
  pub more : List ℕ
  pub begins : bytes ≡ prefix ++ more
  pub named : IsInt z prefix
  pub beyond : (z <ℤ pos 0) ⊎ (pos limit <ℤ z)

-- no such length was named
abbrev pub IsOpen : Framing → Type 0
IsOpen f = (z : ℤ) → IsTooLong f.limit f.held z → ⊥

-- the first n bytes of the piece were added to those held, and all of them unless a whole frame
-- waits now
pub record Feeds (old new : Framing) (piece : List ℕ) (n : ℕ) : Type 0 where
  pub within : n ≤ length piece
  pub added : new ≡ record { limit = old.limit; held = old.held ++ take n piece }
  pub stops : n < length piece → Waits new

-- the frame that waited was handed out, and nothing is held
pub record Takes (old new : Framing) (body : List ℕ) : Type 0 where
  pub waited : IsWhole old.limit old.held body
  pub rest : new ≡ record { limit = old.limit; held = [] }
