-- Legal paths and stems, and their texts (ZooKeeper Programmer's Guide, "The ZooKeeper Data Model"; which characters are refused is this project's profile).
--
-- A path is the list of its components, each as its bytes, the last one first; the root is the empty list.
-- A stem, to which ten digits are appended, is a list of at least one component, whose last may be empty.
-- So the text / is the empty list as a path, and the list of one empty component as a stem.
use Rattle.std.specs.Prelude.{◌≡◌, ◌≢◌, ℕ, List, [], ◌∷◌, ◌++◌, ◌⊎◌, Bool, true, false, Option, Some, None, All, codes}
use Rattle.std.specs.Int.{IsInRange}
use Rattle.std.specs.Str.{IsUtf8, chars}

-- a character that no component holds: controls, surrogates and private use, specials
abbrev pub IsForbidden : ℕ → Type 0
IsForbidden c = IsInRange 0x0000 0x001F c ⊎ (IsInRange 0x007F 0x009F c ⊎ (IsInRange 0xD800 0xF8FF c ⊎ IsInRange 0xFFF0 0xFFFF c))

-- 47 is the slash
abbrev pub HasNoSlash : List ℕ → Type 0
HasNoSlash n = All (λ b. b ≢ 47) n

-- a legal component
pub record IsComponent (n : List ℕ) : Type 0 where
  pub utf8 : IsUtf8 n
  pub filled : n ≢ []
  pub no_dot : n ≢ codes "."
  pub no_dots : n ≢ codes ".."
  pub no_slash : HasNoSlash n
  pub allowed : All (λ c. IsForbidden c → ⊥) (chars n)

-- a legal last component of a stem: it is legal once a digit follows
abbrev pub IsStemEnd : List ℕ → Type 0
IsStemEnd n = IsComponent (n ++ codes "0")

abbrev pub IsPath : List (List ℕ) → Type 0
IsPath p = All IsComponent p

abbrev pub IsStem : List (List ℕ) → Type 0
IsStem [] = ⊥
IsStem (n ∷ p) = IsStemEnd n × IsPath p

-- each component after a slash
unfoldable pub joined : List (List ℕ) → List ℕ
joined [] = []
joined (n ∷ p) = joined p ++ 47 ∷ n

-- the text of a path; that of a stem is `joined`
unfoldable pub text_of : List (List ℕ) → List ℕ
text_of [] = codes "/"
text_of (n ∷ p) = joined (n ∷ p)

abbrev pub child_of : List (List ℕ) → List ℕ → List (List ℕ)
child_of p n = n ∷ p

abbrev pub parent_of : List (List ℕ) → Option (List (List ℕ))
parent_of [] = None
parent_of (n ∷ p) = Some p

abbrev pub last_of : List (List ℕ) → Option (List ℕ)
last_of [] = None
last_of (n ∷ p) = Some n

-- the text is a legal path's, or a legal stem's
abbrev pub IsPathText : List ℕ → Type 0
IsPathText text = (p : List (List ℕ)) × IsPath p × (text ≡ text_of p)

abbrev pub IsStemText : List ℕ → Type 0
IsStemText text = (s : List (List ℕ)) × IsStem s × (text ≡ joined s)

-- the text is this legal path's
pub record IsTextOf (text : List ℕ) (p : List (List ℕ)) : Type 0 where
  pub legal : IsPath p
  pub spelled : text ≡ text_of p

-- the text of a node to be made: this stem's where a number will follow, and else this path's
unfoldable pub IsNamed : Bool → List ℕ → List (List ℕ) → Type 0
IsNamed true text s = IsStem s × (text ≡ joined s)
IsNamed false text p = IsTextOf text p
