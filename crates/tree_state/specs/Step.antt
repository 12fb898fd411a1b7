-- The step of the machine (ZooKeeper Programmer's Guide; the events and their order, and which step draws a zxid, as in
-- DataTree and FinalRequestProcessor of the Java sources of ZooKeeper 3.4, and where these leave it open this project's rule).
use Rattle.std.specs.Prelude.{ℕ, ℤ, pos, List, [], ◌∷◌, ◌++◌, map, Bool, true, false, Option, Some, None, if◌then◌else◌}
use Rattle.std.specs.Int.{int_max, int_min}
use Rattle.std.specs.Ordering.{is_lt, int_cmp, int_eq}
use Rattle.std.specs.Str.{bytes_eq}
use Rattle.zk_path.specs.Paths.{text_of}
use Rattle.zk_records.specs.declared.connect.ConnectRequest.{ConnectRequest}
use Rattle.zk_messages.specs.Refuses.{open_acl}
use Rattle.zk_messages.specs.declared.reply.OpResult.{OpResult}
use Rattle.zk_messages.specs.declared.reply.OpResult.TheVariants as results
use Rattle.zk_messages.specs.declared.reply.Outcome.{Outcome}
use Rattle.zk_messages.specs.declared.reply.Outcome.TheVariants as outcomes
use Rattle.tree_state.specs.declared.message.Message.TheVariants as messages
use Rattle.tree_state.specs.declared.message.Output.{Output}
use Rattle.tree_state.specs.declared.node.Moment.{Moment}
use Rattle.tree_state.specs.declared.session.Given.{Given}
use Rattle.tree_state.specs.Nodes.{Path, Node, Place, find, change, child_names, ephemerals, stat_of}
use Rattle.tree_state.specs.State.{State, Session, Watch, Aspect, on_data, on_children, next_zxid, watching, watching_if, left_of_others, session_of, session_at, change_session, heard_at, moved_to, without_session, without_connection}
use Rattle.tree_state.specs.Commands.{Command, refused, single, multi, set_acl, stat_at, get_content, get_acl, get_children, sync, ping, set_watches, close}
use Rattle.tree_state.specs.Changes.{Trial, failed, done, need, refuse, Naming, Effect, Effects, event_to, is_at_last, is_other_version, with_acl, perform, perform_all, all_deleted, no_node, bad_version, system_error}

-- ---- what a request comes to

pub record Answer : Type 0 where
  pub state : State
  pub outcome : Outcome
  pub events : List Output

unfoldable pub with_error : State → ℤ → Answer
with_error s code = record { state = s; outcome = outcomes.Error code; events = [] }

unfoldable pub told_only : State → Outcome → Answer
told_only s outcome = record { state = s; outcome = outcome; events = [] }

-- an error leaves this state
unfoldable pub or_error : State → Trial ℤ Answer → Answer
or_error s (failed code) = with_error s code
or_error s (done a) = a

-- what a change that was done alone is answered with
unfoldable pub outcome_of : OpResult → Outcome
outcome_of (results.Created path) = outcomes.Path path
outcome_of (results.Created2 path stat) = outcomes.Created2 path stat
outcome_of results.Deleted = outcomes.Empty
outcome_of (results.Changed stat) = outcomes.Stat stat
outcome_of results.Checked = outcomes.Empty
outcome_of (results.Error code) = outcomes.Error code

unfoldable pub answer_single : State → Trial ℤ Effect → Answer
answer_single s (failed code) = with_error s code
answer_single s (done e) = record { state = e.state; outcome = outcome_of e.result; events = e.events }

-- a multi that failed changes nothing, and its answer is no error
unfoldable pub answer_multi : State → Trial (List ℤ) Effects → Answer
answer_multi s (failed codes) = told_only s (outcomes.Multi (map results.Error codes))
answer_multi s (done e) = record { state = e.state; outcome = outcomes.Multi e.results; events = e.events }

unfoldable pub with_watch : Bool → Aspect → Path → ℕ → State → State
with_watch wanted a p c s = record s { watches = watching_if wanted (record { aspect = a; path = p; connection = c }) s.watches }

unfoldable pub names_with : Bool → List Place → Path → Node → Outcome
names_with false es p n = outcomes.Children (Some (child_names p es))
names_with true es p n = outcomes.Children2 (Some (child_names p es)) (stat_of es p n)

-- ---- setWatches: at each path an event, where the node changed since what the client has seen, or a watch

pub data Notice : Type 0 where
  tells : ℤ → Notice
  watches : Notice

unfoldable pub content_notice : ℤ → Option Node → Notice
content_notice seen None = tells (pos 2)
content_notice seen (Some n) = if is_lt (int_cmp seen n.numbers.mzxid) then tells (pos 3) else watches

unfoldable pub exist_notice : Option Node → Notice
exist_notice None = watches
exist_notice (Some n) = tells (pos 1)

unfoldable pub child_notice : ℤ → Option Node → Notice
child_notice seen None = tells (pos 2)
child_notice seen (Some n) = if is_lt (int_cmp seen n.numbers.pzxid) then tells (pos 4) else watches

pub record Noticed : Type 0 where
  pub kept : List Watch
  pub events : List Output

unfoldable pub noticed : Aspect → Path → ℕ → Notice → Noticed → Noticed
noticed a p c (tells kind) t = record { kept = t.kept; events = t.events ++ event_to kind p c ∷ [] }
noticed a p c watches t = record { kept = watching (record { aspect = a; path = p; connection = c }) t.kept; events = t.events }

unfoldable pub all_noticed : (Option Node → Notice) → Aspect → List Place → ℕ → List Path → Noticed → Noticed
all_noticed notice a es c [] t = t
all_noticed notice a es c (p ∷ ps) t = all_noticed notice a es c ps (noticed a p c (notice (find es p)) t)

unfoldable pub with_noticed : State → Noticed → Answer
with_noticed s t = record { state = record s { watches = t.kept }; outcome = outcomes.Empty; events = t.events }

-- ---- the rows of the other requests

-- the session, its connection and the watches of that go
unfoldable pub closed : ℤ → ℕ → State → State
closed session c s = record s { sessions = without_session session s.sessions; watches = left_of_others c s.watches }

unfoldable pub answer : Naming → Moment → ℕ → State → Command → Answer
answer naming at c s (refused code) = with_error s code
answer naming at c s (single change) = answer_single s (perform naming at s change)
answer naming at c s (multi changes) = answer_multi s (perform_all naming at s changes)
answer naming at c s (set_acl p version) = or_error s (
    need (find s.nodes p) no_node λ node.
    refuse (is_other_version version node.numbers.aversion) bad_version (
    refuse (is_at_last node.numbers.aversion) system_error (
    done (told_only (record s { nodes = change p with_acl s.nodes; last = at.zxid }) (outcomes.Stat (stat_of s.nodes p (with_acl node)))))))
answer naming at c s (stat_at p watch) = or_error (with_watch watch on_data p c s) (
    need (find s.nodes p) no_node λ node.
    done (told_only (with_watch watch on_data p c s) (outcomes.Stat (stat_of s.nodes p node))))
answer naming at c s (get_content p watch) = or_error s (
    need (find s.nodes p) no_node λ node.
    done (told_only (with_watch watch on_data p c s) (outcomes.Content node.content (stat_of s.nodes p node))))
answer naming at c s (get_acl p) = or_error s (
    need (find s.nodes p) no_node λ node.
    done (told_only s (outcomes.Acls (Some (open_acl ∷ [])) (stat_of s.nodes p node))))
answer naming at c s (get_children p watch stat) = or_error s (
    need (find s.nodes p) no_node λ node.
    done (told_only (with_watch watch on_children p c s) (names_with stat s.nodes p node)))
answer naming at c s (sync p) = told_only s (outcomes.Path (text_of p))
answer naming at c s ping = told_only s outcomes.Empty
answer naming at c s (set_watches seen contents exist childs) = with_noticed s (
    all_noticed (child_notice seen) on_children s.nodes c childs (
    all_noticed exist_notice on_data s.nodes c exist (
    all_noticed (content_notice seen) on_data s.nodes c contents (record { kept = s.watches; events = [] }))))
answer naming at c s close =
    let e = all_deleted at.zxid (ephemerals at.session s.nodes) s in
    record { state = closed at.session c e.state; outcome = outcomes.Empty; events = e.events }

-- ---- what a connect is given

-- the timeout that is answered, in milliseconds
unfoldable pub clamped : ℤ → ℤ
clamped asked = int_max (pos 4000) (int_min asked (pos 40000))

abbrev pub no_password : List ℕ
no_password = 0 ∷ 0 ∷ 0 ∷ 0 ∷ 0 ∷ 0 ∷ 0 ∷ 0 ∷ 0 ∷ 0 ∷ 0 ∷ 0 ∷ 0 ∷ 0 ∷ 0 ∷ 0 ∷ []

unfoldable pub no_session : Given
no_session = record { session = pos 0; timeout = pos 0; password = no_password }

unfoldable pub is_password_of : Option (List ℕ) → Session → Bool
is_password_of None x = false
is_password_of (Some password) x = bytes_eq x.password password

-- the live session that is asked for goes on where the password is its own
unfoldable pub given_live : ConnectRequest → Option Session → Given
given_live asked None = no_session
given_live asked (Some x) =
    if is_password_of asked.password x then record { session = x.number; timeout = clamped asked.timeout; password = x.password } else no_session

-- who asks for session 0 gets the next one and its password
unfoldable pub given_to : List Session → ConnectRequest → ℤ → List ℕ → Given
given_to xs asked fresh password =
    if int_eq asked.session (pos 0) then record { session = fresh; timeout = clamped asked.timeout; password = password }
    else given_live asked (session_at asked.session xs)

-- ---- steps

-- What the machine takes: a connect request and what it is given; a request of a connection; the loss of a connection;
-- the end of a session that was not heard in time.
pub data Act : Type 0 where
  connects : ℕ → ConnectRequest → Given → ℤ → Act
  asks : ℕ → ℤ → Command → ℤ → Act
  loses : ℕ → Act
  expires : ℤ → ℤ → Act

pub record Next : Type 0 where
  pub state : State
  pub outputs : List Output

unfoldable pub hears : ℤ → ℤ → State → State
hears session now s = record s { sessions = change_session session (heard_at now) s.sessions }

-- the events of a step stand before its reply, which carries the last zxid after the step
unfoldable pub replied : ℕ → ℤ → Answer → Next
replied c xid a = record {
  state = a.state;
  outputs = a.events ++ record { connection = c; message = messages.Reply (record { xid = xid; zxid = a.state.last; outcome = a.outcome }) } ∷ [];
}

-- a request is of the session that its connection has, which is heard by it
unfoldable pub taken : Naming → ℕ → ℤ → Command → ℤ → State → Option ℤ → Next
taken naming c xid command now s None = record { state = s; outputs = [] }
taken naming c xid command now s (Some session) =
    replied c xid (answer naming (record { zxid = next_zxid s; time = now; session = session }) c (hears session now s) command)

-- a new session, which is the greatest
unfoldable pub with_session : Given → ℤ → ℕ → List Session → List Session
with_session given now c xs =
    xs ++ record { number = given.session; timeout = given.timeout; password = given.password; heard = now; connection = Some c } ∷ []

unfoldable pub with_moved : Given → ℤ → ℕ → List Session → List Session
with_moved given now c xs = change_session given.session (moved_to c given.timeout now) xs

unfoldable pub connected_at : Option Session → Given → ℤ → ℕ → State → State
connected_at None given now c s = record s { sessions = with_session given now c s.sessions; greatest = given.session; last = next_zxid s }
connected_at (Some x) given now c s = record s { sessions = with_moved given now c s.sessions; last = next_zxid s }

-- there is no session; or it is live, and moves to this connection; or it is new
unfoldable pub connected : Given → ℤ → ℕ → State → State
connected given now c s = if int_eq given.session (pos 0) then s else connected_at (session_at given.session s.sessions) given now c s

-- the server is not read-only, which an answer says where its request has the field
unfoldable pub read_only_of : Option Bool → Option Bool
read_only_of None = None
read_only_of (Some asked) = Some false

unfoldable pub answer_connect : ℕ → ConnectRequest → Given → Output
answer_connect c asked given = record {
  connection = c;
  message = messages.Connected (record {
    protocol = pos 0;
    timeout = given.timeout;
    session = given.session;
    password = Some given.password;
    read_only = read_only_of asked.read_only;
  });
}

unfoldable pub watches_gone : Option ℕ → List Watch → List Watch
watches_gone None ws = ws
watches_gone (Some c) ws = left_of_others c ws

unfoldable pub connection_at : Option Session → Option ℕ
connection_at None = None
connection_at (Some x) = x.connection

-- the session, the connection that has it and the watches of that go
unfoldable pub ended : ℤ → State → State
ended session s = record s {
  sessions = without_session session s.sessions;
  watches = watches_gone (connection_at (session_at session s.sessions)) s.watches;
}

unfoldable pub lost : ℕ → State → State
lost c s = record s { sessions = map (without_connection c) s.sessions; watches = left_of_others c s.watches }

unfoldable pub expired : ℤ → State → Next
expired session s =
    let e = all_deleted (next_zxid s) (ephemerals session s.nodes) s in
    record { state = ended session e.state; outputs = e.events }

unfoldable pub step : Naming → State → Act → Next
step naming s (connects c asked given now) = record { state = connected given now c s; outputs = answer_connect c asked given ∷ [] }
step naming s (asks c xid command now) = taken naming c xid command now s (session_of c s.sessions)
step naming s (loses c) = record { state = lost c s; outputs = [] }
step naming s (expires session now) = expired session s
