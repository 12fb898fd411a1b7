-- A pair in its halves.
use Rattle.std.proofs.Common.{◌≡◌, ℕ, List, ◌++◌}
use Rattle.jute_core.specs.Jute.{Jute, Value, pair, Spells}

-- the two values of a pair, and the bytes of each
pub record Halves (s t : Jute) (v : Value s) (w : Value t) (b : List ℕ) : Type 0 where
  pub first : List ℕ
  pub second : List ℕ
  pub front : Spells s v first
  pub behind : Spells t w second
  pub cut : b ≡ first ++ second

pub halves : (s t : Jute) (v : Value s) (w : Value t) (b : List ℕ) → Spells (pair s t) (v, w) b → Halves s t v w b
unfolding Spells
halves s t v w b p = record { first = p.0; second = p.1; front = p.2; behind = p.3; cut = p.4 }
