-- What several changes come to as one can be sent, and their results have at most five times the bytes of their operations.
use Rattle.std.proofs.Common.{ℕ, ℤ, ◌+◌, ◌*◌, ◌≤◌, List, [], ◌∷◌, length, subst, sym, arith}
use Rattle.std.specs.Prelude.{All, sum_by}
use Rattle.std.specs.List.{AllZip}
use Rattle.std.proofs.lemmas.List.{length-map}
use Rattle.std.proofs.lemmas.List.Elements.{All-nil, All-cons, All-append}
use Rattle.std.proofs.lemmas.List.Sums.{sum_by-cons}
use Rattle.zk_messages.specs.Sending.{IsShortOutcome, IsShortResult}
use Rattle.zk_messages.specs.declared.reply.OpResult.{OpResult}
use Rattle.zk_messages.specs.declared.reply.OpResult.TheVariants as results
use Rattle.zk_messages.specs.declared.request.Op.{Op}
use Rattle.zk_messages.proofs.Sizes.{op_size}
use Rattle.tree_state.specs.declared.node.Moment.{Moment}
use Rattle.tree_state.specs.State.{State}
use Rattle.tree_state.specs.Commands.{Change, IsChange}
use Rattle.tree_state.specs.Changes.{Trial, failed, done, Naming, Effect, Effects, no_effects, after_effect, or_failed, runtime_inconsistency, perform, perform_all}
use Rattle.tree_state.specs.Step.{outcome_of}
use Rattle.store_side.specs.Fitting.{AllCanBeSent, IsShortNaming, frame_limit}
use Rattle.store_side.proofs.ReplyLengths.{result_size}
use Rattle.store_side.proofs.ShortEvents.{OutputCanBeSent}
use Rattle.store_side.proofs.ShortChanges.{ComesTo, IsShortEffect, change_short}

-- of changes whose operations have n bytes
pub record AreShortEffects (n : ℕ) (e : Effects) : Type 0 where
  pub short : All IsShortResult e.results
  pub small : sum_by result_size e.results ≤ 5 * n
  pub told : AllCanBeSent e.events

-- the codes of a failure are few, or what was done is short
abbrev pub EachComesTo : ℕ → Trial (List ℤ) Effects → Type 0
EachComesTo n (failed codes) = 13 * length codes ≤ 5 * n
EachComesTo n (done e) = AreShortEffects n e

result_short : (r : OpResult) → IsShortOutcome (outcome_of r) → IsShortResult r
unfolding outcome_of
result_short (results.Created path) h = h
result_short results.Deleted h = tt
result_short (results.Changed s) h = tt
result_short results.Checked h = tt
result_short (results.Error code) h = tt
result_short (results.Created2 path s) h = h

after_short : (n m : ℕ) (e : Effect) (t : Trial (List ℤ) Effects) → 3 ≤ n → IsShortEffect n e → EachComesTo m t
    → EachComesTo (n + m) (after_effect e t)
unfolding after_effect
after_short n m e (failed codes) enough h k = omega (arith, k)
after_short n m e (done more) enough h k = record {
  short = All-cons IsShortResult e.result more.results (result_short e.result h.short) k.short;
  small = omega (arith, h.small, k.small, sum_by-cons result_size e.result more.results);
  told = All-append OutputCanBeSent e.events more.events h.told k.told;
}

or_failed_short : (n m : ℕ) (t : Trial ℤ Effect) (rest : List Change) (next : Effect → Trial (List ℤ) Effects) → 3 ≤ n → 3 * length rest ≤ m
    → ComesTo (IsShortEffect n) t → ((e : Effect) → EachComesTo m (next e)) → EachComesTo (n + m) (or_failed t rest next)
unfolding or_failed
or_failed_short n m (failed code) rest next enough few h k =
    let same = length-map rest (λ (c : Change). runtime_inconsistency) in
    omega arith
or_failed_short n m (done e) rest next enough few h k = after_short n m e (next e) enough h (k e)

-- each operation has at least its header of 9 bytes
few_changes : (list : List Op) (changes : List Change) → AllZip IsChange list changes → 3 * length changes ≤ sum_by op_size list
few_changes [] [] h = omega arith
few_changes [] (c ∷ changes) h = absurd h
few_changes (op ∷ list) [] h = absurd h
few_changes (op ∷ list) (c ∷ changes) h = omega (arith, sum_by-cons op_size op list, few_changes list changes h.1)

pub changes_short : (naming : Naming) (at : Moment) (s : State) (list : List Op) (changes : List Change) → IsShortNaming naming
    → AllZip IsChange list changes → sum_by op_size list ≤ frame_limit → EachComesTo (sum_by op_size list) (perform_all naming at s changes)
unfolding perform_all no_effects
changes_short naming at s [] [] short h small = record {
  short = All-nil IsShortResult;
  small = omega arith;
  told = All-nil OutputCanBeSent;
}
changes_short naming at s [] (c ∷ changes) short h small = absurd h
changes_short naming at s (op ∷ list) [] short h small = absurd h
changes_short naming at s (op ∷ list) (c ∷ changes) short h small =
    let sum = sum_by-cons op_size op list in
    subst (λ (n : ℕ). EachComesTo n (or_failed (perform naming at s c) changes λ e. perform_all naming at e.state changes)) (sym sum)
    (or_failed_short (op_size op) (sum_by op_size list) (perform naming at s c) changes (λ e. perform_all naming at e.state changes)
    (omega arith)
    (few_changes list changes h.1)
    (change_short naming at s op c short h.0 (omega arith))
    (λ e. changes_short naming at e.state list changes short h.1 (omega arith)))
