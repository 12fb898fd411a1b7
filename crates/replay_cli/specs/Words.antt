-- The words of a command line.
use Rattle.std.specs.Prelude.{◌≡◌, ◌⊎◌, ◌≤◌, ℕ, List, [], length, map, codes, string_bytes, String, slice_index_or}
use Rattle.std.specs.Fmt.{decimal}
use Rattle.std.specs.Global.{Global}

abbrev pub Words : Type 0
Words = List (String Global)

-- one of them, as a text
abbrev pub word : Words → ℕ → List ℕ
word words i = slice_index_or (map string_bytes words) i []

-- there are so many words, of which this is the first
abbrev pub IsCalled : Words → ℕ → List ℕ → Type 0
IsCalled words count name = (length words ≡ count) × (word words 0 ≡ name)

-- The table of commands, a definition for each row.

-- replay KEY SCRIPT
abbrev pub IsReplay : Words → Type 0
IsReplay words = IsCalled words 3 (codes "replay")

-- hostile KEY SCRIPT
abbrev pub IsHostile : Words → Type 0
IsHostile words = IsCalled words 3 (codes "hostile")

-- show FILE
abbrev pub IsShow : Words → Type 0
IsShow words = IsCalled words 2 (codes "show")

-- SEED, SESSIONS and STEPS in decimal digits, without a sign or a leading zero
pub record AreStressNumbers (words : Words) (seed sessions steps : ℕ) : Type 0 where
  pub seed_is : word words 1 ≡ decimal seed
  pub seed_most : seed ≤ 18446744073709551615
  pub sessions_are : word words 2 ≡ decimal sessions
  pub sessions_least : 1 ≤ sessions
  pub sessions_most : sessions ≤ 64
  pub steps_are : word words 3 ≡ decimal steps
  pub steps_most : steps ≤ 100000

-- stress SEED SESSIONS STEPS
abbrev pub IsStress : Words → ℕ → ℕ → ℕ → Type 0
IsStress words seed sessions steps = IsCalled words 4 (codes "stress") × AreStressNumbers words seed sessions steps

-- with numbers that fit
abbrev pub IsSomeStress : Words → Type 0
IsSomeStress words = (seed sessions steps : ℕ) × IsStress words seed sessions steps

-- the commands that read a key and a script
abbrev pub IsKeyed : Words → Type 0
IsKeyed words = IsReplay words ⊎ IsHostile words

-- the commands that read files
abbrev pub ReadsFiles : Words → Type 0
ReadsFiles words = IsKeyed words ⊎ IsShow words

-- a row fits
abbrev pub Fits : Words → Type 0
Fits words = ReadsFiles words ⊎ IsSomeStress words

-- the name of a file that they read
abbrev pub IsFileOf : Words → List ℕ → Type 0
IsFileOf words name = (IsKeyed words × ((name ≡ word words 1) ⊎ (name ≡ word words 2)))
    ⊎ (IsShow words × (name ≡ word words 1))
