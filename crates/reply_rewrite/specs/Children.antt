-- The names of a node's children.
use Rattle.std.specs.Prelude.{◌≡◌, ◌⊎◌, ◌↔◌, ◌<◌, ℕ, List, [], ◌∷◌, length, slice_index_or, Option, Some, None}
use Rattle.std.specs.List.Sorted.{IsStrictlySortedBy}
use Rattle.std.specs.Cmp.Lexicographic.{slice_cmp}
use Rattle.std.specs.Ordering.{nat_cmp}
use Rattle.std.specs.declared.cmp.Ordering.{Ordering}
use Rattle.path_seal.specs.Sealed.{Keys, OpensName}
use Rattle.reply_rewrite.specs.declared.finding.Cause.{Cause}
use Rattle.reply_rewrite.specs.declared.finding.Cause.TheVariants.{NullChildren, Child, Doubled}

-- the first bytes that differ decide, and a beginning stands before what it begins
abbrev pub byte_order : List ℕ → List ℕ → Ordering
byte_order = slice_cmp nat_cmp

-- the name is one of these
abbrev pub IsOneOf : List ℕ → List (List ℕ) → Type 0
IsOneOf name [] = ⊥
IsOneOf name (first ∷ rest) = (name ≡ first) ⊎ IsOneOf name rest

-- the stored name at an index
abbrev pub name_at : List (List ℕ) → ℕ → List ℕ
name_at stored index = slice_index_or stored index []

-- a legal name is sealed to the stored one under the path
abbrev pub OpensAt : Keys → List (List ℕ) → List (List ℕ) → ℕ → Type 0
OpensAt k path stored index = (name : List ℕ) × OpensName k path (name_at stored index) name

-- the stored name stands before this place too
abbrev pub StandsEarlier : List (List ℕ) → ℕ → Type 0
StandsEarlier stored index = (earlier : ℕ) × (earlier < index) × (name_at stored earlier ≡ name_at stored index)

-- each stored name before this place opens, and does not stand earlier too
pub record AreGoodBefore (k : Keys) (path stored : List (List ℕ)) (place : ℕ) : Type 0 where
  pub opens : (index : ℕ) → index < place → OpensAt k path stored index
  pub apart : (index : ℕ) → index < place → StandsEarlier stored index → ⊥

-- the names are those that the stored ones before this place open to, and as many
pub record AreOpened (k : Keys) (path stored : List (List ℕ)) (place : ℕ) (names : List (List ℕ)) : Type 0 where
  pub those : (name : List ℕ) → IsOneOf name names ↔ ((index : ℕ) × (index < place) × OpensName k path (name_at stored index) name)
  pub counted : length names ≡ place

-- the plain names are those that the stored ones open to, in byte order
pub record ArePlainNames (k : Keys) (path stored plain : List (List ℕ)) : Type 0 where
  pub good : AreGoodBefore k path stored (length stored)
  pub opened : AreOpened k path stored (length stored) plain
  pub ascending : IsStrictlySortedBy byte_order plain

-- the first stored name that is not good, where no legal name is sealed to it
pub record IsFirstUnopened (k : Keys) (path stored : List (List ℕ)) (index : ℕ) : Type 0 where
  pub within : index < length stored
  pub before : AreGoodBefore k path stored index
  pub closed : OpensAt k path stored index → ⊥

-- the first stored name that is not good, where it opens, and stands earlier
pub record IsFirstDoubled (k : Keys) (path stored : List (List ℕ)) (index : ℕ) : Type 0 where
  pub within : index < length stored
  pub before : AreGoodBefore k path stored index
  pub opens : OpensAt k path stored index
  pub earlier : StandsEarlier stored index

-- a list, and not null
unfoldable pub IsPlainList : Keys → List (List ℕ) → Option (List (List ℕ)) → Option (List (List ℕ)) → Type 0
IsPlainList k path (Some stored) (Some plain) = ArePlainNames k path stored plain
IsPlainList k path stored plain = ⊥

-- the first thing that is wrong with the names of a list
abbrev pub IsNamesCause : Keys → List (List ℕ) → List (List ℕ) → Cause → Type 0
IsNamesCause k path stored (Child index) = IsFirstUnopened k path stored index
IsNamesCause k path stored (Doubled index) = IsFirstDoubled k path stored index
IsNamesCause k path stored cause = ⊥

-- and with a list that may be null
unfoldable pub IsListCause : Keys → List (List ℕ) → Option (List (List ℕ)) → Cause → Type 0
IsListCause k path None cause = cause ≡ NullChildren
IsListCause k path (Some stored) cause = IsNamesCause k path stored cause

-- nothing is
unfoldable pub IsGoodList : Keys → List (List ℕ) → Option (List (List ℕ)) → Type 0
IsGoodList k path None = ⊥
IsGoodList k path (Some stored) = AreGoodBefore k path stored (length stored)
