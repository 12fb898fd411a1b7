-- Acts after each of which a store is within its limit.
use Rattle.std.proofs.Common.{◌≡◌, ℕ, ◌+◌, ◌≤◌, List, [], ◌∷◌, ◌++◌, length, sym, subst, arith}
use Rattle.tree_state.specs.Changes.{Naming}
use Rattle.tree_state.specs.State.{State}
use Rattle.tree_state.specs.Step.{Act, step}
use Rattle.store_side.specs.Acts.{AreActs}
use Rattle.store_side.specs.Calls.{StaysWithin}
use Rattle.store_side.specs.Owed.{reserves}
use Rattle.store_side.specs.Past.{after_all}
use Rattle.store_side.specs.Zips.{Zips}
use Rattle.store_side.specs.declared.entry.Entry.{Entry}

pub within_none : (naming : Naming) (limit count : ℕ) (s : State) → StaysWithin naming limit count s []
unfolding StaysWithin
within_none naming limit count s = tt

none_more : (n : ℕ) → n + 0 ≡ n
none_more n = omega arith

one_on : {A : Type 0} (n : ℕ) (x : A) (xs : List A) → n + length (x ∷ xs) ≡ (n + 1) + length xs
one_on n x xs = omega arith

-- acts behind others
pub within-append : (naming : Naming) (limit count : ℕ) (s : State) (xs ys : List Act)
    → StaysWithin naming limit count s xs → StaysWithin naming limit (count + length xs) (after_all naming s xs) ys
    → StaysWithin naming limit count s (xs ++ ys)
unfolding StaysWithin after_all
within-append naming limit count s [] ys h k = subst (λ (n : ℕ). StaysWithin naming limit n s ys) (none_more count) k
within-append naming limit count s (x ∷ xs) ys h k = (
  h.0,
  within-append naming limit (count + 1) (step naming s x).state xs ys h.1
      (subst (λ (n : ℕ). StaysWithin naming limit n (after_all naming (step naming s x).state xs) ys) (one_on count x xs) k),
)

-- the act of one entry
pub within_one : (naming : Naming) (limit count : ℕ) (s : State) (e : Entry) (acts : List Act) → AreActs (e ∷ []) acts
    → count + 1 + reserves (after_all naming s acts).sessions ≤ limit → StaysWithin naming limit count s acts
unfolding StaysWithin after_all Zips
within_one naming limit count s e [] h k = absurd h
within_one naming limit count s e (a ∷ []) h k = (k, tt)
within_one naming limit count s e (a ∷ b ∷ acts) h k = absurd h.1
