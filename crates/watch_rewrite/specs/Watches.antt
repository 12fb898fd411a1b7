-- The sealed form of a setWatches: each path sealed at its place, and nothing else changed.
use Rattle.std.specs.Prelude.{◌≡◌, ℕ, List, Option, Some, None, All, IfSome}
use Rattle.std.specs.List.{AllZip}
use Rattle.zk_path.specs.Paths.{IsTextOf}
use Rattle.path_seal.specs.Sealed.{Keys, SealPath}
use Rattle.zk_records.specs.declared.set_watches.SetWatches.{SetWatches}

-- a legal path's text, and what the path is sealed to
pub record SealsText (k : Keys) (plain veiled : List ℕ) : Type 0 where
  pub path : List (List ℕ)
  pub named : IsTextOf plain path
  pub is_sealed : veiled ≡ SealPath k path

-- so many texts, and each sealed at its place
abbrev pub SealsTexts : Keys → List (List ℕ) → List (List ℕ) → Type 0
SealsTexts k plain veiled = AllZip (SealsText k) plain veiled

-- null stays null, and a list a list
abbrev pub SealsList : Keys → Option (List (List ℕ)) → Option (List (List ℕ)) → Type 0
SealsList k None None = Unit {0}
SealsList k (Some plain) (Some veiled) = SealsTexts k plain veiled
SealsList k plain veiled = ⊥

-- the new setWatches is the sealed form of the old one
pub record VeilsWatches (k : Keys) (old new : SetWatches) : Type 0 where
  pub same_seen : new.seen ≡ old.seen
  pub content : SealsList k old.content_paths new.content_paths
  pub exist : SealsList k old.exist_paths new.exist_paths
  pub child : SealsList k old.child_paths new.child_paths

-- each text of the three lists has the property
pub record EachText (P : List ℕ → Type 0) (w : SetWatches) : Type 0 where
  pub content : IfSome w.content_paths (All P)
  pub exist : IfSome w.exist_paths (All P)
  pub child : IfSome w.child_paths (All P)
