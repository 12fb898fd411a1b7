-- What sealing keeps apart.
use Rattle.std.specs.Prelude.{◌≡◌, ℕ, List}
use Rattle.aes_block.specs.Laws.{IsBytes}
use Rattle.zk_path.specs.Paths.{IsPath, IsStem}
use Rattle.path_seal.specs.Sealed.{Keys, SealPath, SealStem}

-- no two legal paths have one sealed form
abbrev pub SealsPathsApart : Type 0
SealsPathsApart = (k : Keys) (p q : List (List ℕ)) → IsBytes k.key → IsPath p → IsPath q → SealPath k p ≡ SealPath k q → p ≡ q

-- and no two legal stems
abbrev pub SealsStemsApart : Type 0
SealsStemsApart = (k : Keys) (s t : List (List ℕ)) → IsBytes k.key → IsStem s → IsStem t → SealStem k s ≡ SealStem k t → s ≡ t
