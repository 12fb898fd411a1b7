-- What the machine sends over a run.
use Rattle.std.specs.Prelude.{ℕ, List, [], ◌∷◌, ◌++◌, ◌==◌, if◌then◌else◌}
use Rattle.tree_state.specs.State.{State, start}
use Rattle.tree_state.specs.Changes.{Naming}
use Rattle.tree_state.specs.Step.{Act, step}
use Rattle.tree_state.specs.declared.message.Message.{Message}
use Rattle.tree_state.specs.declared.message.Output.{Output}

-- all outputs of a run from this state, in order
unfoldable pub outputs : Naming → State → List Act → List Output
outputs naming s [] = []
outputs naming s (act ∷ acts) = (step naming s act).outputs ++ outputs naming (step naming s act).state acts

-- the messages among them to a connection
unfoldable pub to_connection : ℕ → List Output → List Message
to_connection c [] = []
to_connection c (o ∷ os) = if o.connection == c then o.message ∷ to_connection c os else to_connection c os

-- all that a run from the start sends to a connection
abbrev pub out : Naming → List Act → ℕ → List Message
out naming acts c = to_connection c (outputs naming start acts)
