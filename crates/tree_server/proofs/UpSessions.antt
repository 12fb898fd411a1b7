-- The sessions whose time is up, of those whose times are known.
use Rattle.std.proofs.Common.{◌≡◌, ◌<◌, ◌↔◌, ◌+ℤ◌, ◌<ℤ◌, ℤ, List, [], ◌∷◌, length, Some, Contains, refl, subst, arith}
use Rattle.std.proofs.lemmas.Int.{ints}
use Rattle.tree_state.specs.State.{State, session_at}
use Rattle.store_side.specs.Calls.{IsAscending}
use Rattle.store_side.specs.Orders.{IsOver}
use Rattle.tree_server.specs.declared.dues.Due.{Due}
use Rattle.tree_server.specs.DueSets.{AreUp, IsUp}
use Rattle.tree_server.specs.Times.{AreDues}

over : (dues : List Due) (s : State) (now n : ℤ) → AreDues dues s.sessions → IsUp dues now n → IsOver s n now
over dues s now n are h =
    let i = (are h.due).0 h.kept in
    let a = i.at in
    let b = h.come in
    record { one = i.one; live = subst (λ (z : ℤ). session_at z s.sessions ≡ Some i.one) h.of i.live; up = omega (arith, ints) }

is_up : (dues : List Due) (s : State) (now n : ℤ) → AreDues dues s.sessions → IsOver s n now → IsUp dues now n
is_up dues s now n are h =
    let d : Due = record { at = h.one.heard +ℤ h.one.timeout; session = n } in
    let u = h.up in
    record { due = d; kept = (are d).1 (record { one = h.one; live = h.live; at = refl }); of = refl; come = omega (arith, ints) }

-- these are the sessions that are up
pub all_over : (dues : List Due) (s : State) (now : ℤ) (numbers : List ℤ) → AreDues dues s.sessions → AreUp dues now numbers
    → (n : ℤ) → Contains numbers n ↔ IsOver s n now
all_over dues s now numbers are up n = ((λ h. over dues s now n are ((up n).0 h)), λ h. (up n).1 (is_up dues s now n are h))

-- where none has come, none is up
pub none_over : (dues : List Due) (s : State) (now : ℤ) (numbers : List ℤ) → AreDues dues s.sessions
    → ((d : Due) → Contains dues d → now <ℤ d.at)
    → numbers ≡ [] → (n : ℤ) → Contains numbers n ↔ IsOver s n now
none_over dues s now numbers are later none n = (there, back)
  where
    there : Contains numbers n → IsOver s n now
    there h = let i : h.0 < 0 = subst (λ (xs : List ℤ). h.0 < length xs) none h.1 in absurd (omega arith)

    back : IsOver s n now → Contains numbers n
    back h =
        let u = is_up dues s now n are h in
        let a = later u.due u.kept in
        let b = u.come in
        absurd (omega (arith, ints))

pub none_ascend : (numbers : List ℤ) → numbers ≡ [] → IsAscending numbers
unfolding IsAscending
none_ascend [] e = tt
none_ascend (x ∷ xs) e = absurd cc
