-- Laws of paths, stems and their texts.
use Rattle.std.specs.Prelude.{◌≡◌, ℕ, List}
use Rattle.zk_path.specs.Numbers.{numbered, IsStemOf}
use Rattle.zk_path.specs.Paths.{IsPath, IsStem, joined, text_of}

-- a legal path's text determines its components
abbrev pub HasOneText : Type 0
HasOneText = (p q : List (List ℕ)) → IsPath p → IsPath q → text_of p ≡ text_of q → p ≡ q

-- and so does a legal stem's
abbrev pub HasOneStemText : Type 0
HasOneStemText = (s t : List (List ℕ)) → IsStem s → IsStem t → joined s ≡ joined t → s ≡ t

-- a legal stem with a number is a legal path, whose stem it is
abbrev pub IsNumbered : Type 0
IsNumbered = (s : List (List ℕ)) (i : ℕ) → IsStem s → IsPath (numbered s i) × IsStemOf (numbered s i) s
