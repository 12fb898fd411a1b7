-- What opening gives, before it is asked whether that is legal.
use Rattle.std.specs.Prelude.{◌≡◌, ◌≢◌, ◌≤◌, ℕ, List, [], ◌∷◌, ◌++◌, length, All}
use Rattle.std.specs.Str.{IsUtf8}
use Rattle.zk_path.specs.Paths.{HasNoSlash, joined}
use Rattle.path_seal.specs.Sealed.{Keys, SealName, SealStem}
use Rattle.path_seal.specs.Under.{IsUnder}
use Rattle.path_seal.specs.declared.under.NamesUnder.{NamesUnder}

-- what can stand between two slashes of a text
pub record IsName (n : List ℕ) : Type 0 where
  pub utf8 : IsUtf8 n
  pub no_slash : HasNoSlash n

-- the name that is sealed to the text under the path is appended after a slash, and stepped down to
pub record AppendsName (k : Keys) (p : List (List ℕ)) (text before after : List ℕ) (below : NamesUnder) : Type 0 where
  pub name : List ℕ
  pub plain : IsName name
  pub is_sealed : SealName k p name ≡ text
  pub added : after ≡ before ++ 47 ∷ name
  pub stepped : IsUnder k (name ∷ p) below

-- the IV, the ciphertext and the tag
pub record IsCut (bytes iv text tag : List ℕ) : Type 0 where
  pub whole : bytes ≡ iv ++ (text ++ tag)
  pub iv_size : length iv ≡ 12
  pub tag_size : length tag ≡ 16

-- names that are sealed to the text
pub record IsSealedOf (k : Keys) (text : List ℕ) (p : List (List ℕ)) : Type 0 where
  pub names : All IsName p
  pub filled : p ≢ []
  pub is_sealed : SealStem k p ≡ text

-- the plain text of the only names that are sealed to the text
pub record IsPlainOf (k : Keys) (text plain : List ℕ) : Type 0 where
  pub parts : List (List ℕ)
  pub whole : IsSealedOf k text parts
  pub only : (p : List (List ℕ)) → IsSealedOf k text p → p ≡ parts
  pub spelled : plain ≡ joined parts

-- a hex digit in upper case
abbrev pub IsUpper : ℕ → Type 0
IsUpper c = (65 ≤ c) × (c ≤ 70)
