-- What is short is not said to be too long.
use Rattle.std.proofs.Common.{◌≡◌, ℕ, ◌+◌, ◌^◌, ◌≤◌, List, [], ◌++◌, length, Some, arith, length-append}
use Rattle.std.proofs.lemmas.Bool.Decides.{nat_tests}
use Rattle.gcm_mode.specs.Gcm.{passed_length}

pub never_long : (text : List ℕ) (n : ℕ) → length text ≤ 2 ^ 28 → passed_length [] text ≡ Some n → ⊥
unfolding passed_length
never_long text n h e = grind (arith, nat_tests)

pub never_long_both : (first second : List ℕ) (n : ℕ) → length first + length second ≤ 2 ^ 28 → passed_length [] (first ++ second) ≡ Some n → ⊥
never_long_both first second n h e = never_long (first ++ second) n (omega (arith, h, length-append first second)) e
