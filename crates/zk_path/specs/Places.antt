-- Where a text is no legal path's or stem's: at its first illegal component, or at 0 where it does not begin with a slash.
use Rattle.std.specs.Prelude.{◌≡◌, ◌≢◌, ℕ, ◌+◌, List, ◌∷◌, ◌++◌, ◌⊎◌, length, codes}
use Rattle.zk_path.specs.Paths.{HasNoSlash, IsComponent, IsStemEnd, IsPath, joined}

-- the text does not begin with a slash
pub record IsUnrooted (text : List ℕ) (place : ℕ) : Type 0 where
  pub no_slash : (rest : List ℕ) → text ≢ 47 ∷ rest
  pub found : place ≡ 0

-- after legal components comes an illegal one, and a slash
pub record IsIllegalWithin (text : List ℕ) (place : ℕ) : Type 0 where
  pub before : List (List ℕ)
  pub name : List ℕ
  pub rest : List ℕ
  pub legal : IsPath before
  pub whole : HasNoSlash name
  pub illegal : IsComponent name → ⊥
  pub spelled : text ≡ joined (name ∷ before) ++ 47 ∷ rest
  pub found : place ≡ length (joined before) + 1

-- after legal components comes the last one, which is not what a last one may be
pub record IsIllegalLast (IsLast : List ℕ → Type 0) (text : List ℕ) (place : ℕ) : Type 0 where
  pub before : List (List ℕ)
  pub name : List ℕ
  pub legal : IsPath before
  pub whole : HasNoSlash name
  pub illegal : IsLast name → ⊥
  pub spelled : text ≡ joined (name ∷ before)
  pub found : place ≡ length (joined before) + 1

-- the place of the first fault before the last component
abbrev pub IsBadWithin : List ℕ → ℕ → Type 0
IsBadWithin text place = IsUnrooted text place ⊎ IsIllegalWithin text place

abbrev pub IsBadPathAt : List ℕ → ℕ → Type 0
IsBadPathAt text place = (text ≢ codes "/") × (IsBadWithin text place ⊎ IsIllegalLast IsComponent text place)

abbrev pub IsBadStemAt : List ℕ → ℕ → Type 0
IsBadStemAt text place = IsBadWithin text place ⊎ IsIllegalLast IsStemEnd text place

-- all components but the last are legal
pub record EndsIn (text name : List ℕ) : Type 0 where
  pub before : List (List ℕ)
  pub legal : IsPath before
  pub whole : HasNoSlash name
  pub spelled : text ≡ joined (name ∷ before)
