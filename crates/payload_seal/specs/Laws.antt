-- Laws of payloads and their IVs.
use Rattle.std.specs.Prelude.{◌≡◌, ◌⊎◌, ◌↔◌, ◌+◌, ◌*◌, ◌<◌, ◌^◌, ℕ, true, false, List, ◌++◌, length, take, Option}
use Rattle.zk_path.specs.Paths.{IsStem}
use Rattle.zk_path.specs.Numbers.{numbered, IsStemOf}
use Rattle.payload_seal.specs.declared.opening.Flaw.{Flaw}
use Rattle.payload_seal.specs.Ivs.{payload_iv}
use Rattle.payload_seal.specs.Keys.{epoch_of, payload_keys}
use Rattle.payload_seal.specs.Payload.{SealData, Accepts}
use Rattle.payload_seal.specs.Flaws.{FlawOf}

-- the payload is accepted for the path with some content, or has some flaw
abbrev pub IsJudged : List (List ℕ) → List (List ℕ) → List ℕ → Type 0
IsJudged keys p y = ((d : Option (List ℕ)) × Accepts keys p y d) ⊎ ((f : Flaw) × FlawOf keys p y f)

-- for a path a payload has exactly one content or exactly one flaw, and not both
pub record IsJudgedOnce : Type 0 where
  pub one_of : (keys p : List (List ℕ)) (y : List ℕ) → IsJudged keys p y
  pub one_content : (keys p : List (List ℕ)) (y : List ℕ) (d e : Option (List ℕ)) → Accepts keys p y d → Accepts keys p y e → d ≡ e
  pub one_flaw : (keys p : List (List ℕ)) (y : List ℕ) (f g : Flaw) → FlawOf keys p y f → FlawOf keys p y g → f ≡ g
  pub not_both : (keys p : List (List ℕ)) (y : List ℕ) (d : Option (List ℕ)) (f : Flaw) → Accepts keys p y d → FlawOf keys p y f → ⊥

-- what was sealed for a path, under the key of an epoch that there is, is accepted for it
abbrev pub IsAcceptedWhenSealed : Type 0
IsAcceptedWhenSealed =
    (keys : List (List ℕ)) (iv : List ℕ) (p : List (List ℕ)) (d : Option (List ℕ)) → length iv ≡ 12 → epoch_of iv < length keys
    → Accepts keys p (SealData keys iv p false d) d

-- what was sealed for a stem is accepted for each path of which it is the stem, and so for the stem with any number
pub record IsAcceptedWhenNumbered : Type 0 where
  pub any_digits : (keys : List (List ℕ)) (iv : List ℕ) (s p : List (List ℕ)) (d : Option (List ℕ)) → length iv ≡ 12 → epoch_of iv < length keys → IsStemOf p s → Accepts keys p (SealData keys iv s true d) d
  pub any_number : (keys : List (List ℕ)) (iv : List ℕ) (s : List (List ℕ)) (i : ℕ) (d : Option (List ℕ)) → length iv ≡ 12 → epoch_of iv < length keys → IsStem s → Accepts keys (numbered s i) (SealData keys iv s true d) d

-- a payload of an epoch that there is does not see the keys of later ones: it is accepted, or has a flaw, under more keys
-- exactly where it is or does without them
pub record IsKeptByLaterKeys : Type 0 where
  pub accepted : (keys more p : List (List ℕ)) (y : List ℕ) (d : Option (List ℕ)) → epoch_of y < length keys → Accepts (keys ++ more) p y d ↔ Accepts keys p y d
  pub flawed : (keys more p : List (List ℕ)) (y : List ℕ) (f : Flaw) → epoch_of y < length keys → FlawOf (keys ++ more) p y f ↔ FlawOf keys p y f
  pub of_first : (file : List ℕ) (n : ℕ) (p : List (List ℕ)) (y : List ℕ) (d : Option (List ℕ)) → length file ≡ 64 + 16 * n → epoch_of y ≡ 0 → Accepts (payload_keys file n) p y d ↔ Accepts (payload_keys (take 64 file) 0) p y d

-- the fields of an IV are determined by it
abbrev pub HasOneIv : Type 0
HasOneIv =
    (e f : ℕ) (a b : ℕ) (c d : ℕ) (i j : ℕ) → a < 2 ^ 24 → b < 2 ^ 24 → c < 2 ^ 32 → d < 2 ^ 32 → i < 2 ^ 32 → j < 2 ^ 32
    → payload_iv e a c i ≡ payload_iv f b d j → (e ≡ f) × (a ≡ b) × (c ≡ d) × (i ≡ j)
