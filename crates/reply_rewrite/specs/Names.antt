-- The paths that a store tells of nodes made or synced.
use Rattle.std.specs.Prelude.{◌≡◌, ℕ, Bool, true, false, List}
use Rattle.zk_path.specs.Paths.{text_of}
use Rattle.zk_path.specs.Numbers.{IsStemOf}
use Rattle.path_seal.specs.Sealed.{Keys, Opens}

-- the path is the one that was asked for, or the stem that was asked for with ten digits
abbrev pub IsMadeFor : List (List ℕ) → Bool → List (List ℕ) → Type 0
IsMadeFor asked false path = path ≡ asked
IsMadeFor asked true path = IsStemOf path asked

-- the text opens to the path of a node that was asked for, and the plain text is that path's
pub record IsCreated (k : Keys) (asked : List (List ℕ)) (sequential : Bool) (text plain : List ℕ) : Type 0 where
  pub path : List (List ℕ)
  pub opened : Opens k text path
  pub made : IsMadeFor asked sequential path
  pub spelled : plain ≡ text_of path

-- the text opens to the path of a node that was asked for
abbrev pub IsSomeCreated : Keys → List (List ℕ) → Bool → List ℕ → Type 0
IsSomeCreated k asked sequential text = (plain : List ℕ) × IsCreated k asked sequential text plain

-- the text opens to no path that was asked for
abbrev pub IsNotCreated : Keys → List (List ℕ) → Bool → List ℕ → Type 0
IsNotCreated k asked sequential text = (path : List (List ℕ)) → Opens k text path → IsMadeFor asked sequential path → ⊥

-- the text opens to the path, and the plain text is the path's
pub record IsSynced (k : Keys) (path : List (List ℕ)) (text plain : List ℕ) : Type 0 where
  pub opened : Opens k text path
  pub spelled : plain ≡ text_of path
