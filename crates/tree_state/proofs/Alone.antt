-- What a change that is asked for alone is answered with, and answers that tell no watch.
use Rattle.std.proofs.Common.{◌≡◌, ℕ, ℤ, List, [], ◌++◌, Result, Ok, Err, refl, sym, ap, subst, ◌∙◌, append-nil}
use Rattle.std.specs.Prelude.{Vec}
use Rattle.std.specs.Global.{Global}
use Rattle.zk_path.specs.Paths.{IsTextOf}
use Rattle.zk_messages.specs.declared.reply.OpResult.{OpResult}
use Rattle.zk_messages.specs.declared.reply.Outcome.{Outcome}
use Rattle.zk_messages.specs.declared.reply.Outcome.TheVariants as outcomes
use Rattle.jute_core.specs.declared.held.Memory.{Memory}
use Rattle.tree_state.specs.declared.held.Held.{Held}
use Rattle.tree_state.specs.declared.held.NotDone.TheVariants as stops
use Rattle.tree_state.specs.declared.message.Output.{Output}
use Rattle.tree_state.specs.declared.node.Moment.{Moment}
use Rattle.tree_state.specs.Nodes.{Path}
use Rattle.tree_state.specs.State.{State}
use Rattle.tree_state.specs.Commands.{sync}
use Rattle.tree_state.specs.Changes.{Naming, Trial, failed, done, Effect}
use Rattle.tree_state.specs.Step.{Answer, answer, answer_single, outcome_of, with_error, told_only}
use Rattle.tree_state.specs.Trees.{Means, Answers, AreTold, HasRoom, Quietly, Tells, Performs}

abbrev pub Sent : Type 0
Sent = Vec Output Global

-- nothing is told
pub untold : (before sent : Sent) (es : List Output) → HasRoom before → sent ≡ before → es ≡ [] → AreTold before sent es
untold before sent es room same none = record {
  items = ap (λ (v : Sent). v.items) same ∙ sym (append-nil before.items) ∙ ap (λ (xs : List Output). before.items ++ xs) (sym none);
  room = subst HasRoom (sym same) room;
}

pub alone_done : (s : State) (t : Trial ℤ Effect) (h : Held) (before sent : Sent) (r : OpResult) → HasRoom sent → Performs s t h before sent (Ok r) → Answers s (answer_single s t) h before sent (Ok (outcome_of r))
unfolding Performs Answers answer_single
alone_done s (failed code) h before sent r room p = absurd p
alone_done s (done e) h before sent r room p = (ap outcome_of p.0, record { items = p.1; room = room }, p.2)

pub alone_refused : (s : State) (t : Trial ℤ Effect) (h : Held) (before sent : Sent) (code : ℤ) → HasRoom before → Performs s t h before sent (Err (stops.Refused code))
    → Answers s (answer_single s t) h before sent (Ok (outcomes.Error code))
unfolding Performs Answers answer_single with_error
alone_refused s (failed n) h before sent code room p = (ap outcomes.Error p.0, untold before sent [] room p.1 refl, p.2)
alone_refused s (done e) h before sent code room p = absurd p

pub alone_memory : (s : State) (t : Trial ℤ Effect) (h : Held) (before sent : Sent) (e : Memory) → Performs s t h before sent (Err stops.Memory) → Answers s (answer_single s t) h before sent (Err e)
unfolding Performs Answers answer_single
alone_memory s (failed n) h before sent e p = p
alone_memory s (done d) h before sent e p = p

-- where there is room, an answer that tells no watch is one
pub quiet_answers : (s : State) (a : Answer) (h : Held) (before : Sent) (result : Result Outcome Memory) → HasRoom before → Quietly s a h result → Answers s a h before before result
unfolding Quietly Answers
quiet_answers s a h before (Ok outcome) room q = (q.0, untold before before a.events room refl q.1, q.2)
quiet_answers s a h before (Err e) room q = q

-- and one that changes nothing
pub told_answers : (s : State) (a : Answer) (h : Held) (before : Sent) (outcome : Outcome) → Means h s → HasRoom before → Tells s a outcome → Answers s a h before before (Ok outcome)
unfolding Tells Answers
told_answers s a h before outcome m room t = (t.0, untold before before a.events room refl t.1, subst (Means h) (sym t.2) m)

pub told_sync : (naming : Naming) (at : Moment) (c : ℕ) (s : State) (p : Path) (text : List ℕ) → IsTextOf text p → Tells s (answer naming at c s (sync p)) (outcomes.Path text)
unfolding Tells answer told_only
told_sync naming at c s p text t = (ap outcomes.Path t.spelled, refl, refl)
