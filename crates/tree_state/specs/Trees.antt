-- Which state a tree means, and what its calls do to that state.
use Rattle.std.specs.Prelude.{◌≡◌, ◌≤ℤ◌, ◌<ℤ◌, ◌<◌, ◌+◌, ℕ, suc, ℤ, pos, List, [], ◌∷◌, ◌++◌, replicate, Bool, true, false, Option, Some, None, Result, Ok, Err, All, IfErr, Vec, vec_len, vec_capacity}
use Rattle.std.specs.Global.{Global}
use Rattle.jute_core.specs.declared.held.Memory.{Memory}
use Rattle.zk_path.specs.Paths.{IsStem, joined, text_of, IsTextOf}
use Rattle.zk_messages.specs.declared.reply.OpResult.{OpResult}
use Rattle.zk_messages.specs.declared.reply.Outcome.{Outcome}
use Rattle.zk_messages.specs.declared.request.Request.{Request}
use Rattle.zk_messages.specs.declared.request.Request.TheVariants as requests
use Rattle.tree_state.specs.declared.held.Held.{Held}
use Rattle.tree_state.specs.declared.held.NotDone.{NotDone}
use Rattle.tree_state.specs.declared.held.NotDone.TheVariants as stops
use Rattle.tree_state.specs.declared.multi.Stop.{Stop}
use Rattle.tree_state.specs.declared.multi.Stop.TheVariants as ends
use Rattle.tree_state.specs.declared.message.Output.{Output}
use Rattle.tree_state.specs.declared.node.Moment.{Moment}
use Rattle.tree_state.specs.Nodes.{Path, Node, find, has_children, ephemerals}
use Rattle.tree_state.specs.State.{State, Session, session_of}
use Rattle.tree_state.specs.Commands.{create}
use Rattle.tree_state.specs.Changes.{Naming, Trial, failed, done, Effect, Effects, has_owner, is_at_last, perform, runtime_inconsistency}
use Rattle.tree_state.specs.Step.{Answer, Act, step}
use Rattle.tree_state.specs.Places.{Holds}
use Rattle.tree_state.specs.Sessions.{Keeps}
use Rattle.tree_state.specs.Watches.{Watching}

-- a node belongs to no session or to one that was given so far; one that belongs to a session has no children and is not the root
pub record AreOwned (s : State) : Type 0 where
  pub given : (p : Path) (n : Node) → find s.nodes p ≡ Some n → n.numbers.owner ≤ℤ s.greatest
  pub childless : (p : Path) (n : Node) → find s.nodes p ≡ Some n → (n.numbers.owner ≡ pos 0 → ⊥) → has_children p s.nodes ≡ false
  pub free : (n : Node) → find s.nodes [] ≡ Some n → n.numbers.owner ≡ pos 0

-- the number of a session is above 0 and at most the greatest given
pub record IsGiven (s : State) (x : Session) : Type 0 where
  pub above : pos 1 ≤ℤ x.number
  pub within : x.number ≤ℤ s.greatest

-- what a tree holds means this state
pub record Means (h : Held) (s : State) : Type 0 where
  pub places : Holds h.places s.nodes
  pub sessions : Keeps h.sessions s.sessions (λ session. ephemerals session s.nodes)
  pub owners : AreOwned s
  pub numbers : All (IsGiven s) s.sessions
  pub watches : Watching h.watches s.watches
  pub last : h.last ≡ s.last

-- what was held stays held
abbrev pub Stays : Held → Held → Type 0
Stays before after = (s : State) → Means before s → Means after s

-- after a step these are its outputs, and what is held means the state after it
pub record Does (naming : Naming) (s : State) (act : Act) (after : Held) (outputs : List Output) : Type 0 where
  pub sent : outputs ≡ (step naming s act).outputs
  pub means : Means after (step naming s act).state

-- the connection has no session, and the number is above those of all sessions so far
pub record CanConnect (s : State) (connection : ℕ) (fresh : ℤ) : Type 0 where
  pub free : session_of connection s.sessions ≡ None
  pub positive : pos 1 ≤ℤ fresh
  pub above : s.greatest <ℤ fresh

-- there is room for one more
abbrev pub HasRoom : Vec Output Global → Type 0
HasRoom outputs = vec_len outputs < vec_capacity outputs

-- these events were added, and there is room for a reply after them
pub record AreTold (before after : Vec Output Global) (events : List Output) : Type 0 where
  pub items : after.items ≡ before.items ++ events
  pub room : HasRoom after

-- the answer leaves this outcome, its events are told, and what is held means the state after it; without memory all is as it was
unfoldable pub Answers : State → Answer → Held → Vec Output Global → Vec Output Global → Result Outcome Memory → Type 0
Answers s a after before sent (Ok outcome) = (outcome ≡ a.outcome) × AreTold before sent a.events × Means after a.state
Answers s a after before sent (Err e) = Means after s

-- an outcome leaves room for its reply; without memory what was held stays held
unfoldable pub LeavesRoom : State → Held → Vec Output Global → Result Outcome Memory → Type 0
LeavesRoom s after sent (Ok outcome) = HasRoom sent
LeavesRoom s after sent (Err e) = Means after s

-- a change that is refused tells nothing
abbrev pub RefusesQuietly : Result OpResult NotDone → Vec Output Global → Vec Output Global → Type 0
RefusesQuietly result before sent = IfErr result (λ stop. (code : ℤ) → stop ≡ stops.Refused code → sent ≡ before)

-- the outcome and the state of an answer that tells no watch
unfoldable pub Quietly : State → Answer → Held → Result Outcome Memory → Type 0
Quietly s a after (Ok outcome) = (outcome ≡ a.outcome) × (a.events ≡ []) × Means after a.state
Quietly s a after (Err e) = Means after s

-- the same of an answer that changes nothing
unfoldable pub Tells : State → Answer → Outcome → Type 0
Tells s a outcome = (outcome ≡ a.outcome) × (a.events ≡ []) × (a.state ≡ s)

-- a node that may have one more child
pub record IsParent (s : State) (p : Path) (up : Node) : Type 0 where
  pub there : find s.nodes p ≡ Some up
  pub free : has_owner up ≡ false
  pub room : is_at_last up.numbers.creations ≡ false

-- the checks of create before a name is given: with how many creations it goes on, or the code of an error
unfoldable pub MayCreate : State → Path → Result ℕ ℤ → Type 0
MayCreate s p (Ok creations) = (up : Node) × IsParent s p up × (creations ≡ up.numbers.creations)
MayCreate s p (Err code) = (naming : Naming) (at : Moment) (n : List ℕ) (content : Option (List ℕ)) (sequential ephemeral stat : Bool)
    → perform naming at s (create p n content sequential ephemeral stat) ≡ failed code

-- a change is of a session that was given
pub record IsMoment (s : State) (at : Moment) : Type 0 where
  pub positive : pos 1 ≤ℤ at.session
  pub given : at.session ≤ℤ s.greatest

-- a change was done with its result, its events are added and what is held means the state after it; or it failed with its code,
-- and all is as it was
unfoldable pub Performs : State → Trial ℤ Effect → Held → Vec Output Global → Vec Output Global → Result OpResult NotDone → Type 0
Performs s (failed code) after before sent (Ok result) = ⊥
Performs s (done e) after before sent (Ok result) = (result ≡ e.result) × (sent.items ≡ before.items ++ e.events) × Means after e.state
Performs s (failed code) after before sent (Err (stops.Refused number)) = (number ≡ code) × (sent ≡ before) × Means after s
Performs s (done e) after before sent (Err (stops.Refused number)) = ⊥
Performs s t after before sent (Err stops.Memory) = Means after s

-- the codes of a multi of which one change failed
unfoldable pub failed_codes : ℕ → ℤ → ℕ → List ℤ
failed_codes before code behind = replicate before (pos 0) ++ code ∷ replicate behind runtime_inconsistency

-- so many changes were done one after another, or one of them failed with its code, and those behind it were not tried
unfoldable pub PerformsAll : ℕ → Trial (List ℤ) Effects → Held → Vec Output Global → Vec Output Global → Result (Vec OpResult Global) Stop → Type 0
PerformsAll total (failed codes) after before sent (Ok results) = ⊥
PerformsAll total (done e) after before sent (Ok results) = (results.items ≡ e.results) × (sent.items ≡ before.items ++ e.events) × Means after e.state
PerformsAll total (failed codes) after before sent (Err (ends.At index code)) = (behind : ℕ) × (total ≡ index + suc behind) × (codes ≡ failed_codes index code behind)
PerformsAll total (done e) after before sent (Err (ends.At index code)) = ⊥
PerformsAll total t after before sent (Err ends.Memory) = Unit {0}

-- the naming has the numberer's names of legal stems, and no others
unfoldable pub IsNameOf : (List ℕ → Type 0) → Path → Option (List ℕ) → Type 0
IsNameOf Named p None = (text : List ℕ) → Named text → ⊥
IsNameOf Named p (Some m) = Named (text_of (m ∷ p))

pub record IsNaming (named : List ℕ → ℕ → List ℕ → Type 0) (naming : Naming) : Type 0 where
  pub each : (n : List ℕ) (p : Path) (i : ℕ) → IsStem (n ∷ p) → IsNameOf (named (joined (n ∷ p)) i) p (naming p n i)

-- ---- rows

-- a request other than create, create2 and multi
unfoldable pub IsOther : Request → Type 0
IsOther (requests.Create r) = ⊥
IsOther (requests.Create2 r) = ⊥
IsOther (requests.Multi list) = ⊥
IsOther r = Unit {0}

-- the last component of a new node: the name, or for a sequential node what the naming makes of the stem
unfoldable pub name_at : Naming → Path → List ℕ → Bool → ℕ → Option (List ℕ)
name_at naming p n false creations = Some n
name_at naming p n true creations = naming p n creations

-- and its whole path, if it has a name
unfoldable pub IsNamedTo : Path → Option (List ℕ) → Option (List ℕ) → Type 0
IsNamedTo p None name = name ≡ None
IsNamedTo p (Some text) name = (m : List ℕ) × (name ≡ Some m) × IsTextOf text (m ∷ p)
