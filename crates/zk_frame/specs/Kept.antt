-- How a framer keeps the bytes that it holds: those of the prefix and those of the body apart.
use Rattle.std.specs.Prelude.{◌≡◌, ℕ, ℤ, pos, ◌+◌, ◌-◌, ◌<◌, ◌≤◌, ◌≤ℤ◌, min, List, ◌++◌, length, take}
use Rattle.jute_core.specs.Jute.{IsInt}
use Rattle.zk_frame.specs.Framing.{Framing}

abbrev pub kept : ℕ → ℕ → List ℕ → List ℕ → Framing
kept limit filled prefix body = record { limit = limit; held = take filled prefix ++ body }

-- the body begins when the prefix is whole and names a length within the limit, and has no more
-- bytes than that
pub record IsKept (limit filled : ℕ) (prefix body : List ℕ) : Type 0 where
  pub four : length prefix ≡ 4
  pub within : filled ≤ 4
  pub bounded : length body ≤ limit
  pub whole : 0 < length body → filled ≡ 4
  pub named : (z : ℤ) → IsInt z prefix → 0 < length body → (pos (length body) ≤ℤ z) × (z ≤ℤ pos limit)

-- bytes of the piece were put into the prefix, as many as it lacked
pub record IsFilled (filled : ℕ) (prefix new piece : List ℕ) (taken : ℕ) : Type 0 where
  pub count : taken ≡ min (4 - filled) (length piece)
  pub added : take (filled + taken) new ≡ take filled prefix ++ take taken piece
  pub four : length new ≡ 4
