-- What creates name, and what that is sealed to.
use Rattle.std.specs.Prelude.{◌↔◌, ℕ, ℤ, Bool, true, false, List, IsTrue}
use Rattle.zk_path.specs.Paths.{IsNamed}
use Rattle.path_seal.specs.Sealed.{Keys, SealPath, SealStem}
use Rattle.zk_messages.specs.Refuses.{IsSequential}

-- the text of a create or a create2: this legal stem's where a number will follow, and else this legal path's
unfoldable pub IsNameOf : ℤ → List ℕ → Bool → List (List ℕ) → Type 0
IsNameOf flags text sequential path = (IsTrue sequential ↔ IsSequential flags) × IsNamed sequential text path

-- what its stem or path is sealed to
unfoldable pub SealNameOf : Keys → Bool → List (List ℕ) → List ℕ
SealNameOf k true stem = SealStem k stem
SealNameOf k false path = SealPath k path
