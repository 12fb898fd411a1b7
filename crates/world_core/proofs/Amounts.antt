-- How many bytes are moved, and which are left.
use Rattle.std.proofs.Common.{◌≡◌, ℕ, ◌+◌, ◌-◌, ◌≤◌, List, ◌++◌, length, length-append, drop, refl, sym, ap, ◌∙◌, arith}
use Rattle.std.proofs.Math.Seq.{drop-append_seam}
use Rattle.std.proofs.lemmas.List.{take-append-drop}
use Rattle.world_core.specs.declared.amount.Amount.{Amount}
use Rattle.world_core.specs.declared.amount.Amount.TheVariants.{AtMost, All}
use Rattle.world_core.specs.Steps.{count_of, first_of, left_of}

pub count_within : (amount : Amount) (there : ℕ) → count_of amount there ≤ there
unfolding count_of
count_within (AtMost n) there = omega arith
count_within All there = omega arith

-- behind the first bytes stand the others
pub behind_first : (came under_way behind : List ℕ) (place : ℕ) (sent : List ℕ) → sent ≡ came ++ under_way → place ≡ length came
    → behind ≡ drop place sent → behind ≡ under_way
behind_first came under_way behind place sent is at from =
    from ∙ ap (λ (l : List ℕ). drop place l) is ∙ ap (λ (n : ℕ). drop n (came ++ under_way)) at ∙ drop-append_seam came under_way

-- the moved bytes and those that are left are all
pub both_parts : (amount : Amount) (bytes : List ℕ) → first_of amount bytes ++ left_of amount bytes ≡ bytes
both_parts amount bytes = take-append-drop (count_of amount (length bytes)) bytes

-- so many bytes came once these were moved
pub came_then : (came piece left under_way : List ℕ) → piece ++ left ≡ under_way → length (came ++ under_way) - length left ≡ length (came ++ piece)
came_then came piece left under_way both =
    omega (arith, ap length both, length-append piece left, length-append came under_way, length-append came piece)
