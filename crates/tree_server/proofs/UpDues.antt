-- The sessions whose time has come, found in a list of dues in order.
use Rattle.std.proofs.Common.{◌≡◌, ◌≤ℤ◌, ◌<ℤ◌, ℤ, List, [], ◌∷◌, ◌++◌, map, get_or, Contains, Less, refl, sym, ap, ◌∙◌, subst, ⊎_elim, append_assoc, rules, arith}
use Rattle.std.specs.List.{All, dedup}
use Rattle.std.specs.List.Sorted.{IsStrictlySortedBy, IsPermutation, IsSorted}
use Rattle.std.specs.Ordering.{int_cmp, int_eq, MatchOrdering}
use Rattle.std.proofs.lemmas.Cmp.{int_ranked, int_cmp_total, int_eq_equiv}
use Rattle.std.proofs.lemmas.Grind.{common_steps}
use Rattle.std.proofs.lemmas.Bool.Decides.{Decides-int_eq}
use Rattle.std.proofs.lemmas.Int.{ints}
use Rattle.std.proofs.lemmas.List.{map-append, length-map, get_or-map}
use Rattle.std.proofs.lemmas.List.Elements.{All-cons, All-map, All-push, All-weaker, All-contains, All-from_recursion, Contains-append_cases, Contains-append_left, Contains-get_or}
use Rattle.std.proofs.lemmas.List.Kept.{Contains-dedup, Contains-from_dedup, IsStrictlySortedBy-dedup}
use Rattle.std.proofs.lemmas.List.Sorted.{Contains-permutation, IsPermutation-sym}
use Rattle.std.proofs.lemmas.Map.Keys.{sorted_tail}
use Rattle.std.proofs.lemmas.Map.Views.{All-after_first}
use Rattle.tree_server.specs.declared.dues.Due.{Due}
use Rattle.tree_server.specs.DueSets.{AreUp, IsUp}
use Rattle.store_side.specs.Calls.{IsAscending}
use Rattle.tree_server.proofs.DueOrder.{by_time}

-- the session of a due
abbrev session_of : Due → ℤ
session_of d = d.session

-- the dues before the rest were gone through: their times have come, and these are their sessions
pub record GoneThrough (keys rest : List Due) (now : ℤ) (sessions : List ℤ) : Type 0 where
  pub front : List Due
  pub whole : front ++ rest ≡ keys
  pub come : All (λ d. d.at ≤ℤ now) front
  pub are : sessions ≡ map session_of front

pub none_yet : (keys rest : List Due) (now : ℤ) (sessions : List ℤ) → rest ≡ keys → sessions ≡ [] → GoneThrough keys rest now sessions
none_yet keys rest now sessions same none = record { front = []; whole = same; come = search rules; are = none }

pub one_more : (keys rest after : List Due) (now : ℤ) (sessions : List ℤ) (d : Due) → GoneThrough keys rest now sessions → rest ≡ d ∷ after → d.at ≤ℤ now → GoneThrough keys after now (sessions ++ d.session ∷ [])
one_more keys rest after now sessions d so is come = record {
  front = so.front ++ d ∷ [];
  whole = append_assoc so.front (d ∷ []) after ∙ ap (λ x. so.front ++ x) (sym is) ∙ so.whole;
  come = All-push (λ x. x.at ≤ℤ now) _ _ so.come come;
  are = rw (map-append, so.are);
}

-- none of the rest has come
pub all_up : (keys rest : List Due) (now : ℤ) (sessions : List ℤ) → GoneThrough keys rest now sessions → All (λ d. now <ℤ d.at) rest → AreUp keys now sessions
all_up keys rest now sessions so later session = (
  λ there. All-contains (IsUp keys now) _ _
      (All-map (IsUp keys now) session_of so.front
      (λ k d lt. record { due = get_or so.front k d; kept = subst (λ x. Contains x (get_or so.front k d)) so.whole (Contains-append_left _ _ _ (Contains-get_or _ k d lt)); of = refl; come = so.come k d lt }))
      (rw so.are at there),
  λ up. ⊎_elim
      (λ first. rw (so.are, ← up.of) (first.0, rw length-map first.1, get_or-map session_of so.front first.0 up.due up.due.session first.1 ∙ ap session_of first.2))
      (λ behind. let h = All-contains (λ (d : Due). now <ℤ d.at) _ _ later behind in let k = up.come in absurd (omega (arith, ints)))
      (Contains-append_cases so.front rest up.due (rw so.whole up.kept)),
)

lower : (x y : ℤ) → int_cmp x y ≡ Less → x <ℤ y
lower x y e = subst (λ r. MatchOrdering r (x <ℤ y) (x ≡ y) (y <ℤ x)) e (int_ranked x y _ refl)

later_than : (now : ℤ) (d x : Due) → now <ℤ d.at → by_time d x ≡ Less → now <ℤ x.at
later_than now d x later e = grind (arith, ints, common_steps, int_ranked)

ends_sorted : (front rest : List Due) → IsStrictlySortedBy by_time (front ++ rest) → IsStrictlySortedBy by_time rest
ends_sorted [] rest h = h
ends_sorted (d ∷ ds) rest h = ends_sorted ds rest (sorted_tail _ _ _ h)

-- the first of the rest has not come
pub rest_later : (keys rest after : List Due) (now : ℤ) (sessions : List ℤ) (d : Due) → GoneThrough keys rest now sessions → IsStrictlySortedBy by_time keys → rest ≡ d ∷ after → now <ℤ d.at → All (λ d. now <ℤ d.at) rest
rest_later keys rest after now sessions d so order is later =
    let sorted = ends_sorted so.front (d ∷ after) (rw (← is, so.whole) order) in
    rw is (All-cons (λ x. now <ℤ x.at) d after later (All-weaker (λ x. by_time d x ≡ Less) (λ x. now <ℤ x.at) (λ x. later_than now d x later) after (All-after_first by_time d after sorted)))

-- sorted, and each once
pub each_once : (keys : List Due) (now : ℤ) (found sorted sessions : List ℤ) → AreUp keys now found → IsPermutation found sorted → sessions ≡ dedup int_eq sorted → AreUp keys now sessions
each_once keys now found sorted sessions up moved is session = (
  λ there. (up session).0 (Contains-permutation _ _ session (IsPermutation-sym _ _ moved) (Contains-from_dedup int_eq _ session (rw is at there))),
  λ h. rw is (Contains-dedup int_eq_equiv (λ x y. (Decides-int_eq x y).0) _ session (Contains-permutation _ _ session moved ((up session).1 h))),
)

rises : (xs : List ℤ) → IsStrictlySortedBy int_cmp xs → IsAscending xs
unfolding IsStrictlySortedBy IsAscending
rises [] h = tt
rises (x ∷ xs) h = (All-weaker (λ y. int_cmp x y ≡ Less) (λ y. x <ℤ y) (lower x) xs (All-from_recursion (λ y. int_cmp x y ≡ Less) xs h.0), rises xs h.1)

pub ascending : (sorted sessions : List ℤ) → IsSorted int_cmp sorted → sessions ≡ dedup int_eq sorted → IsAscending sessions
ascending sorted sessions order is = rw is (rises _ (IsStrictlySortedBy-dedup int_cmp_total (λ x y. refl) _ order))
