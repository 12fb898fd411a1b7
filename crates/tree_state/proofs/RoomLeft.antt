-- An outcome leaves room for its reply, and without memory what was held stays held.
use Rattle.std.proofs.Common.{◌≡◌, Result, Ok, Err, sym, subst}
use Rattle.std.specs.Prelude.{OnOk, OnErr}
use Rattle.jute_core.specs.declared.held.Memory.{Memory}
use Rattle.zk_messages.specs.declared.reply.Outcome.{Outcome}
use Rattle.tree_state.specs.declared.held.Held.{Held}
use Rattle.tree_state.specs.State.{State}
use Rattle.tree_state.specs.Step.{Answer}
use Rattle.tree_state.specs.Trees.{Means, Stays, Answers, HasRoom, LeavesRoom}
use Rattle.tree_state.proofs.Alone.{Sent}

-- an outcome after which there is room leaves room
pub left_room : (s : State) (h : Held) (sent : Sent) (outcome : Outcome) → HasRoom sent → LeavesRoom s h sent (Ok outcome)
unfolding LeavesRoom
left_room s h sent outcome room = room

-- an error after which the state is still meant leaves what was held
pub left_held : (s : State) (h : Held) (sent : Sent) (e : Memory) → Means h s → LeavesRoom s h sent (Err e)
unfolding LeavesRoom
left_held s h sent e m = m

-- what an outcome, and an error, leave
pub room_left : (s : State) (h : Held) (sent : Sent) (outcome : Outcome) → LeavesRoom s h sent (Ok outcome) → HasRoom sent
unfolding LeavesRoom
room_left s h sent outcome l = l

pub held_left : (s : State) (h : Held) (sent : Sent) (e : Memory) → LeavesRoom s h sent (Err e) → Means h s
unfolding LeavesRoom
held_left s h sent e l = l

-- a result of which the two cases are known
pub room_or_held : (s : State) (before after : Held) (old sent : Sent) (result : Result Outcome Memory) → Means before s → HasRoom old → OnOk result (HasRoom old → HasRoom sent) → OnErr result (after ≡ before)
    → LeavesRoom s after sent result
unfolding LeavesRoom
room_or_held s before after old sent (Ok outcome) m room leaves same = leaves room
room_or_held s before after old sent (Err e) m room leaves same = subst (λ (h : Held). Means h s) (sym same) m

-- an answer leaves room
pub answers_leave_room : (s : State) (a : Answer) (h : Held) (before sent : Sent) (result : Result Outcome Memory) → Answers s a h before sent result → LeavesRoom s h sent result
unfolding Answers LeavesRoom
answers_leave_room s a h before sent (Ok outcome) k = k.1.room
answers_leave_room s a h before sent (Err e) m = m

-- what stays held means what it meant
pub stays_means : {T E : Type 0} (r : Result T E) (s : State) (before after : Held) → Means before s → OnErr r (Stays before after) → OnErr r (Means after s)
stays_means (Ok x) s before after m k = tt
stays_means (Err e) s before after m k = k s m
