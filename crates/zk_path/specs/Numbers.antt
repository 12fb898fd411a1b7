-- Sequence numbers (ZooKeeper Programmer's Guide, "Sequence Nodes -- Unique Naming": the counter has the format %010d).
use Rattle.std.specs.Prelude.{◌≡◌, ℕ, ◌+◌, ◌/◌, ◌%◌, ◌^◌, ◌≤◌, List, [], ◌∷◌, ◌++◌, map, length, All}
use Rattle.std.specs.Char.{IsAsciiDigit}
use Rattle.zk_path.specs.Paths.{IsPath, IsStem, joined}

-- the decimal digit before which `place` lower ones stand, as its byte
abbrev pub digit_at : ℕ → ℕ → ℕ
digit_at i place = i / 10 ^ place % 10 + 48

-- the ten last decimal digits, with leading zeros
unfoldable pub ten_digits : ℕ → List ℕ
ten_digits i = map (digit_at i) (9 ∷ 8 ∷ 7 ∷ 6 ∷ 5 ∷ 4 ∷ 3 ∷ 2 ∷ 1 ∷ 0 ∷ [])

-- a stem with a number
abbrev pub numbered : List (List ℕ) → ℕ → List (List ℕ)
numbered [] i = []
numbered (n ∷ p) i = (n ++ ten_digits i) ∷ p

-- the plain name of a stem's text and a number: the digits follow
abbrev pub IsPlainName : List ℕ → ℕ → List ℕ → Type 0
IsPlainName stem number text = text ≡ stem ++ ten_digits number

-- ten digits follow the front, whatever their number
pub record EndsInTenDigits (whole front : List ℕ) : Type 0 where
  pub digits : List ℕ
  pub ten : length digits ≡ 10
  pub decimal : All IsAsciiDigit digits
  pub spelled : whole ≡ front ++ digits

-- the path is the stem with ten digits
pub record IsStemOf (path stem : List (List ℕ)) : Type 0 where
  pub name : List ℕ
  pub front : List ℕ
  pub above : List (List ℕ)
  pub number : EndsInTenDigits name front
  pub whole : path ≡ name ∷ above
  pub cut : stem ≡ front ∷ above

-- what each name that a numberer gives keeps of its stem's text
pub record IsNumberingOf (stem text : List ℕ) : Type 0 where
  pub short : length text ≤ length stem + 20
  pub legal : (n : List ℕ) (p : List (List ℕ)) → IsStem (n ∷ p) → stem ≡ joined (n ∷ p) → (m : List ℕ) × IsPath (m ∷ p) × (text ≡ joined (m ∷ p))
