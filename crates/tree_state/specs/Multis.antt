-- A multi, as far as it came.
use Rattle.std.specs.Prelude.{◌≡◌, ◌+◌, ℕ, ℤ, pos, List, [], ◌∷◌, ◌++◌, length, replicate, None, Result, Ok, Err, All, Vec}
use Rattle.std.specs.Global.{Global}
use Rattle.std.specs.List.{AllZip}
use Rattle.zk_messages.specs.Refuses.{RefusesOp}
use Rattle.zk_messages.specs.declared.reply.OpResult.{OpResult}
use Rattle.zk_messages.specs.declared.request.Op.{Op}
use Rattle.tree_state.specs.declared.held.Held.{Held}
use Rattle.tree_state.specs.declared.held.NotDone.{NotDone}
use Rattle.tree_state.specs.declared.held.NotDone.TheVariants as stops
use Rattle.tree_state.specs.declared.multi.Stop.{Stop}
use Rattle.tree_state.specs.declared.multi.Stop.TheVariants as ends
use Rattle.tree_state.specs.declared.message.Output.{Output}
use Rattle.tree_state.specs.declared.node.Moment.{Moment}
use Rattle.tree_state.specs.State.{State}
use Rattle.tree_state.specs.Commands.{Change, IsChange}
use Rattle.tree_state.specs.Changes.{Naming, Trial, failed, done, Effect, Effects, perform_all}
use Rattle.tree_state.specs.Trees.{Means, IsMoment, Performs}

-- why a multi stops where its change at this index was not done
unfoldable pub stop_of : NotDone → ℕ → Stop
stop_of (stops.Refused code) index = ends.At index code
stop_of stops.Memory index = ends.Memory

-- the next change was done, and its result stands behind the others, or it was refused
unfoldable pub PerformsNext : {U : Type 0} → State → Trial ℤ Effect → Held → Vec Output Global → Vec Output Global → List OpResult → List OpResult → Result U Stop → Type 0
PerformsNext s t after before sent had results (Ok u) = (r : OpResult) × Performs s t after before sent (Ok r) × (results ≡ had ++ r ∷ [])
PerformsNext s t after before sent had results (Err (ends.At index code)) = (index ≡ length had) × Performs s t after before sent (Err (stops.Refused code))
PerformsNext s t after before sent had results (Err ends.Memory) = Unit {0}

-- what comes of all changes, where those before had these results and events
unfoldable pub after_all : List OpResult → List Output → Trial (List ℤ) Effects → Trial (List ℤ) Effects
after_all results events (failed codes) = failed (replicate (length results) (pos 0) ++ codes)
after_all results events (done more) = done (record { state = more.state; results = results ++ more.results; events = events ++ more.events })

-- the changes before these operations, of so many in all, were done with these results
pub record SoFar (naming : Naming) (at : Moment) (s : State) (changes : List Change) (held : Held) (before sent : Vec Output Global) (results : List OpResult) (rest : List Op) (total : ℕ) : Type 0 where
  pub state : State
  pub events : List Output
  pub left : List Change
  pub means : Means held state
  pub moment : IsMoment state at
  pub allowed : All (λ op. RefusesOp op None) rest
  pub asked : AllZip IsChange rest left
  pub many : total ≡ length results + length rest
  pub told : sent.items ≡ before.items ++ events
  pub same : perform_all naming at s changes ≡ after_all results events (perform_all naming at state left)
