-- What a tree sends can be sent, step by step.
use Rattle.std.proofs.Common.{ℕ, ℤ, ◌+◌, ◌<◌, ◌≤◌, ◌^◌, [], Option, Some, None, inl, inr, subst, sym, arith}
use Rattle.std.proofs.lemmas.List.Elements.{All-nil, All-cons, All-append}
use Rattle.zk_messages.specs.declared.request.Request.{Request}
use Rattle.zk_messages.proofs.Sizes.{request_size, body_size}
use Rattle.tree_state.specs.declared.node.Moment.{Moment}
use Rattle.tree_state.specs.Nodes.{ephemerals}
use Rattle.tree_state.specs.State.{State, session_of, next_zxid}
use Rattle.tree_state.specs.Commands.{Command, IsCommand, get_children}
use Rattle.tree_state.specs.Changes.{Naming}
use Rattle.tree_state.specs.Step.{Answer, answer, answer_connect, hears, replied, taken, expired, step}
use Rattle.store_side.specs.Fitting.{AllCanBeSent, IsShortState, IsShortNaming, frame_limit, list_length, answer_length, SendsTaken, SendsConnected, SendsExpired, SendsAll}
use Rattle.store_side.proofs.RefusedCodes.{refused_code}
use Rattle.store_side.proofs.ReplyLengths.{reply_can_be_sent, connected_can_be_sent}
use Rattle.store_side.proofs.ShortEvents.{OutputCanBeSent, all_deleted_sent, ephemerals_short}
use Rattle.store_side.proofs.ShortAnswers.{IsShortAnswer, error_short, asked_short}

-- ---- a request

command_short : (naming : Naming) (at : Moment) (c : ℕ) (s : State) (r : Request) (command : Command) → IsShortNaming naming
    → IsShortState s → request_size r + 8 ≤ frame_limit → IsCommand r command → answer_length s command < 2 ^ 31
    → IsShortAnswer (answer naming at c s command)
unfolding answer IsCommand
command_short naming at c s r command h k small (inl is) room =
    subst (λ (x : Command). IsShortAnswer (answer naming at c s x)) (sym is.2) (error_short s is.0 (refused_code r is.0 is.1))
command_short naming at c s r command h k small (inr is) room = asked_short naming at c s r command h k small is.1 room

-- a session that is heard has no part in the nodes
heard_short : (session now : ℤ) (s : State) → IsShortState s → IsShortState (hears session now s)
unfolding hears
heard_short session now s h = record { paths = h.paths; contents = h.contents }

heard_length : (session now : ℤ) (s : State) (command : Command) → answer_length s command < 2 ^ 31
    → answer_length (hears session now s) command < 2 ^ 31
unfolding hears answer_length list_length
heard_length session now s (get_children p watch stat) h = h
heard_length session now s command h = h

-- the events, and then the reply
replied_sent : (c : ℕ) (xid : ℤ) (a : Answer) → IsShortAnswer a → AllCanBeSent (replied c xid a).outputs
unfolding replied
replied_sent c xid a h =
    All-append OutputCanBeSent a.events _ h.told
    (All-cons OutputCanBeSent _ [] (reply_can_be_sent _ h.short h.small) (All-nil OutputCanBeSent))

taken_sent : (naming : Naming) (c : ℕ) (xid : ℤ) (r : Request) (command : Command) (now : ℤ) (s : State) (o : Option ℤ)
    → IsShortNaming naming → IsShortState s → request_size r + 8 ≤ frame_limit → IsCommand r command → answer_length s command < 2 ^ 31
    → AllCanBeSent (taken naming c xid command now s o).outputs
unfolding taken
taken_sent naming c xid r command now s None h k small is room = All-nil OutputCanBeSent
taken_sent naming c xid r command now s (Some session) h k small is room =
    let at : Moment = record { zxid = next_zxid s; time = now; session = session } in
    replied_sent c xid _ (
    command_short naming at c (hears session now s) r command h (heard_short session now s k) small is
    (heard_length session now s command room))

sends_taken : SendsTaken
unfolding step
sends_taken naming s c xid now r command body h k spelled small is room =
    taken_sent naming c xid r command now s (session_of c s.sessions) h k (omega (arith, body_size xid r body spelled)) is room

-- ---- a connect request, and the end of a session

sends_connected : SendsConnected
unfolding step answer_connect
sends_connected naming s c asked given now long = All-cons OutputCanBeSent _ [] (connected_can_be_sent _ long) (All-nil OutputCanBeSent)

sends_expired : SendsExpired
unfolding step expired
sends_expired naming s session now h =
    all_deleted_sent (next_zxid s) (ephemerals session s.nodes) s (ephemerals_short session s.nodes h.paths)

pub all_sent : SendsAll
all_sent = record { taken = sends_taken; connected = sends_connected; expired = sends_expired }
