-- Counts of faults, and what is told of the outside.
use Rattle.std.specs.Prelude.{◌≡◌, ℕ, ◌≤◌, ◌+◌, ◌-◌, ◌^◌, ◌++◌, List, take, min, Option, None, Some, IfSome, Result, Ok, Err, OnErr}

-- The count rose, or it stands at the last value of a u64.
abbrev pub Rose : ℕ → ℕ → Type 0
Rose before now = min (before + 1) (2 ^ 64 - 1) ≤ now

-- The count never falls, and the call fails only where it rose.
pub record HasCause {T E : Type 0} (before now : ℕ) (result : Result T E) : Type 0 where
  pub later : before ≤ now
  pub failed : OnErr result (Rose before now)

-- What a sink took, before and after a write: after Ok the whole piece was added, after a failure a
-- front of it. A sink that does not tell has None.
abbrev pub Takes : {T E : Type 0} → Option (List ℕ) → Option (List ℕ) → List ℕ → Result T E → Type 0
Takes None after piece result = after ≡ None
Takes (Some before) after piece (Ok _) = after ≡ Some (before ++ piece)
Takes (Some before) after piece (Err _) = (n : ℕ) × (after ≡ Some (before ++ take n piece))

-- A sink that tells took exactly this text.
abbrev pub Wrote : Option (List ℕ) → Option (List ℕ) → List ℕ → Type 0
Wrote before after text = IfSome before (λ b. after ≡ Some (b ++ text))

-- It took a front of this text.
abbrev pub WroteFront : Option (List ℕ) → Option (List ℕ) → List ℕ → Type 0
WroteFront before after text = IfSome before (λ b. (n : ℕ) × (after ≡ Some (b ++ take n text)))
