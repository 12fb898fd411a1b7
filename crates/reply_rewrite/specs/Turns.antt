-- A turn of opening names: what becomes of a stored one.
use Rattle.std.specs.Prelude.{◌≡◌, ◌⊎◌, ◌↔◌, ◌+◌, ℕ, List, length}
use Rattle.path_seal.specs.Sealed.{Keys, OpensName}
use Rattle.reply_rewrite.specs.Children.{IsOneOf}
use Rattle.reply_rewrite.specs.declared.children.Added.{Added}
use Rattle.reply_rewrite.specs.declared.children.Added.TheVariants.{New, Known, Unopened}

-- the stored name opens to one that the set did not have, and now has
pub record IsNew (k : Keys) (path : List (List ℕ)) (stored : List ℕ) (old new : List (List ℕ)) : Type 0 where
  pub name : List ℕ
  pub opened : OpensName k path stored name
  pub unknown : IsOneOf name old → ⊥
  pub names : (other : List ℕ) → IsOneOf other new ↔ ((other ≡ name) ⊎ IsOneOf other old)
  pub counted : length new ≡ length old + 1

-- the stored name opens to one that the set had
pub record IsKnown (k : Keys) (path : List (List ℕ)) (stored : List ℕ) (old : List (List ℕ)) : Type 0 where
  pub name : List ℕ
  pub opened : OpensName k path stored name
  pub known : IsOneOf name old

abbrev pub IsAdded : Keys → List (List ℕ) → List ℕ → List (List ℕ) → List (List ℕ) → Added → Type 0
IsAdded k path stored old new New = IsNew k path stored old new
IsAdded k path stored old new Known = IsKnown k path stored old
IsAdded k path stored old new Unopened = (name : List ℕ) → OpensName k path stored name → ⊥
