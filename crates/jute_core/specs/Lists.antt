-- Lists that can be written.
use Rattle.std.specs.Prelude.{ℕ, ◌<◌, ◌^◌, List, length, All}

-- the count of the texts is an int, and so is the length of each
pub record AreShort (texts : List (List ℕ)) : Type 0 where
  pub few : length texts < 2 ^ 31
  pub each : All (λ t. length t < 2 ^ 31) texts
