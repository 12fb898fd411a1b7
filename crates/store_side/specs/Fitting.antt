-- What a tree sends can be sent: its lengths can be written, and each body is that of a frame.
--
-- A request comes in a frame of at most 134,217,728 bytes, and a tree keeps no path of more than 20 bytes above that and no content
-- above it, so that only a child list can be too long to be sent.
use Rattle.std.specs.Prelude.{◌≡◌, ℕ, ℤ, ◌+◌, ◌<◌, ◌≤◌, ◌^◌, List, ◌∷◌, length, Bool, true, Some, All, if◌then◌else◌}
use Rattle.std.specs.Option.{option_map_or}
use Rattle.jute_core.specs.Frames.{FitsFrame}
use Rattle.zk_path.specs.Paths.{IsStem, joined, text_of}
use Rattle.zk_records.specs.declared.connect.ConnectRequest.{ConnectRequest}
use Rattle.zk_messages.specs.Requests.{SpellsRequest}
use Rattle.zk_messages.specs.declared.request.Request.{Request}
use Rattle.tree_state.specs.declared.message.Message.{Message}
use Rattle.tree_state.specs.declared.message.Output.{Output}
use Rattle.tree_state.specs.declared.session.Given.{Given}
use Rattle.tree_state.specs.Nodes.{Path, Node, find, is_there, child_names, size_of}
use Rattle.tree_state.specs.State.{State}
use Rattle.tree_state.specs.Changes.{Naming}
use Rattle.tree_state.specs.Commands.{Command, IsCommand, get_children}
use Rattle.tree_state.specs.Places.{text_limit, content_limit, names_length}
use Rattle.tree_state.specs.Step.{connects, asks, expires, step}
use Rattle.store_side.specs.Messages.{SpellsMessage}
use Rattle.store_side.specs.Sending.{IsSendable}

-- the most bytes of a frame for or from a store
abbrev pub frame_limit : ℕ
frame_limit = 134217728

-- each path's text and each content are as short as a tree keeps them
pub record IsShortState (s : State) : Type 0 where
  pub paths : (p : Path) → is_there s.nodes p ≡ true → length (text_of p) ≤ text_limit
  pub contents : (p : Path) (n : Node) → find s.nodes p ≡ Some n → size_of n.content ≤ content_limit

-- lengths and counts are ints, and the body is that of a frame
pub record CanBeSent (m : Message) : Type 0 where
  pub sendable : IsSendable m
  pub fits : (body : List ℕ) → SpellsMessage m body → FitsFrame body

abbrev pub AllCanBeSent : List Output → Type 0
AllCanBeSent outputs = All (λ o. CanBeSent o.message) outputs

-- how many bytes the answer to a child list has: a header of 16 bytes, a count of 4, the names, and perhaps a Stat of 68
unfoldable pub list_length : State → Path → Bool → ℕ
list_length s p stat = 20 + names_length (child_names p s.nodes) + (if stat then 68 else 0)

-- and 0 for each other answer, and where there is no such node
unfoldable pub answer_length : State → Command → ℕ
answer_length s (get_children p watch stat) = option_map_or (λ node. list_length s p stat) (find s.nodes p) 0
answer_length s command = 0

-- a numbered path is at most 20 bytes longer than its stem
abbrev pub IsShortNaming : Naming → Type 0
IsShortNaming naming = (n : List ℕ) (p : Path) (i : ℕ) (m : List ℕ) → IsStem (n ∷ p) → naming p n i ≡ Some m → length (text_of (m ∷ p)) ≤ length (joined (n ∷ p)) + 20

-- what is sent at a request that came in a frame, unless its answer is a child list that is too long
abbrev pub SendsTaken : Type 0
SendsTaken = (naming : Naming) (s : State) (c : ℕ) (xid now : ℤ) (r : Request) (command : Command) (body : List ℕ)
    → IsShortNaming naming → IsShortState s → SpellsRequest xid r body → length body ≤ frame_limit → IsCommand r command
    → answer_length s command < 2 ^ 31 → AllCanBeSent (step naming s (asks c xid command now)).outputs

-- at a connect request
abbrev pub SendsConnected : Type 0
SendsConnected = (naming : Naming) (s : State) (c : ℕ) (asked : ConnectRequest) (given : Given) (now : ℤ) → length given.password ≡ 16
    → AllCanBeSent (step naming s (connects c asked given now)).outputs

-- and at the end of a session that was not heard in time
abbrev pub SendsExpired : Type 0
SendsExpired = (naming : Naming) (s : State) (session now : ℤ) → IsShortState s → AllCanBeSent (step naming s (expires session now)).outputs

pub record SendsAll : Type 0 where
  pub taken : SendsTaken
  pub connected : SendsConnected
  pub expired : SendsExpired
