-- What a multi is answered with: all of its changes, or none.
use Rattle.std.proofs.Common.{◌≡◌, ◌+◌, ℕ, suc, ℤ, List, [], ◌++◌, map, Result, Ok, Err, sym, ap, subst, refl, ◌∙◌}
use Rattle.std.specs.Prelude.{Vec}
use Rattle.std.specs.Global.{Global}
use Rattle.std.specs.Result.{IsErrAnd}
use Rattle.std.proofs.lemmas.Result.{err_from_is_err_and}
use Rattle.jute_core.specs.declared.held.Memory.{Memory}
use Rattle.zk_messages.specs.declared.reply.OpResult.{OpResult}
use Rattle.zk_messages.specs.declared.reply.OpResult.TheVariants.{Error}
use Rattle.zk_messages.specs.declared.reply.Outcome.{Outcome}
use Rattle.zk_messages.specs.declared.reply.Outcome.TheVariants as outcomes
use Rattle.tree_state.specs.declared.held.Held.{Held}
use Rattle.tree_state.specs.declared.message.Output.{Output}
use Rattle.tree_state.specs.declared.multi.Stop.TheVariants as ends
use Rattle.tree_state.specs.declared.node.Moment.{Moment}
use Rattle.tree_state.specs.State.{State}
use Rattle.tree_state.specs.Commands.{Change, multi}
use Rattle.tree_state.specs.Changes.{Naming, Trial, failed, done, Effects, perform_all}
use Rattle.tree_state.specs.Step.{Answer, answer, answer_multi, told_only}
use Rattle.tree_state.specs.Trees.{Means, Answers, HasRoom, PerformsAll, failed_codes}
use Rattle.tree_state.proofs.Alone.{Sent, untold}

-- without memory nothing was done
pub nothing_done : (s : State) (a : Answer) (h : Held) (before sent : Sent) (r : Result Outcome Memory) (P : Memory → Type 0) → Means h s → IsErrAnd r P → Answers s a h before sent r
unfolding Answers
nothing_done s a h before sent r P m i =
    let x = err_from_is_err_and r i in
    subst (Answers s a h before sent) (sym x.1) m

pub not_done : (s : State) (a : Answer) (h : Held) (before sent : Sent) (e : Memory) → Means h s → Answers s a h before sent (Err e)
unfolding Answers
not_done s a h before sent e m = m

done_answers : (total : ℕ) (s : State) (t : Trial (List ℤ) Effects) (h : Held) (before none told sent : Sent) (results : Vec OpResult Global) (answered : List OpResult) → PerformsAll total t h none told (Ok results)
    → none.items ≡ [] → sent.items ≡ before.items ++ told.items → HasRoom sent → answered ≡ results.items → Answers s (answer_multi s t) h before sent (Ok (outcomes.Multi answered))
unfolding PerformsAll Answers answer_multi
done_answers total s (failed codes) h before none told sent results answered p empty joined room same = absurd p
done_answers total s (done e) h before none told sent results answered p empty joined room same =
    let events : told.items ≡ e.events = p.1 ∙ ap (λ (xs : List Output). xs ++ e.events) empty in
    (ap outcomes.Multi (same ∙ p.0), record { items = joined ∙ ap (λ (xs : List Output). before.items ++ xs) events; room = room }, p.2)

-- all changes were done, and their events are told
pub all_done : (naming : Naming) (at : Moment) (c : ℕ) (s : State) (changes : List Change) (total : ℕ) (h : Held) (before none told sent : Sent) (results : Vec OpResult Global) (answered : List OpResult)
    → PerformsAll total (perform_all naming at s changes) h none told (Ok results) → none.items ≡ [] → sent.items ≡ before.items ++ told.items → HasRoom sent → answered ≡ results.items
    → Answers s (answer naming at c s (multi changes)) h before sent (Ok (outcomes.Multi answered))
unfolding answer
all_done naming at c s changes total h before none told sent results answered p empty joined room same =
    done_answers total s (perform_all naming at s changes) h before none told sent results answered p empty joined room same

-- what the results of a refused multi are
abbrev pub AreFailed : ℕ → ℤ → ℕ → List OpResult → Type 0
AreFailed index code total results = (behind : ℕ) → total ≡ index + suc behind → results ≡ map Error (failed_codes index code behind)

failed_answers : (total index : ℕ) (code : ℤ) (s : State) (t : Trial (List ℤ) Effects) (h trial : Held) (before none told : Sent) (results : List OpResult) → Means h s → HasRoom before
    → PerformsAll total t trial none told (Err (ends.At index code)) → AreFailed index code total results → Answers s (answer_multi s t) h before before (Ok (outcomes.Multi results))
unfolding PerformsAll Answers answer_multi told_only
failed_answers total index code s (failed codes) h trial before none told results m room p made =
    (ap outcomes.Multi (made p.0 p.1 ∙ ap (map Error) (sym p.2)), untold before before [] room refl refl, m)
failed_answers total index code s (done e) h trial before none told results m room p made = absurd p

-- a change was refused, and none was done
pub none_done : (naming : Naming) (at : Moment) (c : ℕ) (s : State) (changes : List Change) (total index : ℕ) (code : ℤ) (h trial : Held) (before none told : Sent) (results : List OpResult) → Means h s → HasRoom before
    → PerformsAll total (perform_all naming at s changes) trial none told (Err (ends.At index code)) → AreFailed index code total results
    → Answers s (answer naming at c s (multi changes)) h before before (Ok (outcomes.Multi results))
unfolding answer
none_done naming at c s changes total index code h trial before none told results m room p made =
    failed_answers total index code s (perform_all naming at s changes) h trial before none told results m room p made
