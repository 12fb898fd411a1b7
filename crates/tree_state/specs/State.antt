-- The plain state of the machine (ZooKeeper Programmer's Guide, "ZooKeeper Sessions" and "ZooKeeper Watches").
--
-- It is a map from paths to nodes, the live sessions, a set of watches, the greatest session number given so far, and the
-- last zxid. The map is kept as the list of its nodes in the order in which they were made; the watches, a set, ascend by
-- their connections. There is no cipher, queue, frame or index in it.
use Rattle.std.specs.Prelude.{ℕ, ℤ, pos, ◌+ℤ◌, ◌==◌, ◌&&◌, nat_le, not, List, [], ◌∷◌, map, filter, Bool, true, false, Option, Some, None, if◌then◌else◌}
use Rattle.std.specs.List.{filter_map, list_any}
use Rattle.std.specs.Option.{option_map_or}
use Rattle.std.specs.Ordering.{int_eq}
use Rattle.tree_state.specs.declared.node.Numbers.{Numbers}
use Rattle.tree_state.specs.Nodes.{Path, Place, same_path}

-- what a watch is on: the content of a node and whether it is there, or its children
pub data Aspect : Type 0 where
  on_data : Aspect
  on_children : Aspect

pub record Watch : Type 0 where
  pub aspect : Aspect
  pub path : Path
  pub connection : ℕ

-- a live session: its timeout in milliseconds, the time at which it was last heard, and its connection, if it has one
pub record Session : Type 0 where
  pub number : ℤ
  pub timeout : ℤ
  pub password : List ℕ
  pub heard : ℤ
  pub connection : Option ℕ

pub record State : Type 0 where
  pub nodes : List Place
  pub sessions : List Session
  pub watches : List Watch
  pub greatest : ℤ
  pub last : ℤ

-- ---- the start

unfoldable pub first_numbers : ℕ → Numbers
first_numbers creations = record {
  czxid = pos 0;
  mzxid = pos 0;
  pzxid = pos 0;
  ctime = pos 0;
  mtime = pos 0;
  version = 0;
  creations = creations;
  deletions = 0;
  aversion = 0;
  owner = pos 0;
}

-- there is the root, with null content, which has had so many creations
unfoldable pub start_at : ℕ → State
start_at creations = record {
  nodes = record { path = []; node = record { content = None; numbers = first_numbers creations } } ∷ [];
  sessions = [];
  watches = [];
  greatest = pos 0;
  last = pos 0;
}

abbrev pub start : State
start = start_at 0

unfoldable pub next_zxid : State → ℤ
next_zxid s = s.last +ℤ pos 1

-- ---- watches

unfoldable pub same_aspect : Aspect → Aspect → Bool
same_aspect on_data on_data = true
same_aspect on_data on_children = false
same_aspect on_children on_data = false
same_aspect on_children on_children = true

unfoldable pub is_on : Aspect → Path → Watch → Bool
is_on a p w = same_aspect w.aspect a && same_path w.path p

unfoldable pub is_off : Aspect → Path → Watch → Bool
is_off a p w = not (is_on a p w)

unfoldable pub connection_if_on : Aspect → Path → Watch → Option ℕ
connection_if_on a p w = if is_on a p w then Some w.connection else None

-- the connections that watch, in ascending order
unfoldable pub told : Aspect → Path → List Watch → List ℕ
told a p ws = filter_map (connection_if_on a p) ws

-- the watches that stay when these have fired
unfoldable pub left : Aspect → Path → List Watch → List Watch
left a p ws = filter (is_off a p) ws

unfoldable pub is_of_other : ℕ → Watch → Bool
is_of_other c w = not (w.connection == c)

-- the watches of the other connections
unfoldable pub left_of_others : ℕ → List Watch → List Watch
left_of_others c ws = filter (is_of_other c) ws

unfoldable pub after_lower : Watch → List Watch → List Watch
after_lower w [] = w ∷ []
after_lower w (v ∷ vs) = if nat_le v.connection w.connection then v ∷ after_lower w vs else w ∷ v ∷ vs

unfoldable pub is_same_watch : Watch → Watch → Bool
is_same_watch w v = (v.connection == w.connection) && is_on w.aspect w.path v

-- the watches with this one, once
unfoldable pub watching : Watch → List Watch → List Watch
watching w ws = if list_any (is_same_watch w) ws then ws else after_lower w ws

unfoldable pub watching_if : Bool → Watch → List Watch → List Watch
watching_if wanted w ws = if wanted then watching w ws else ws

-- ---- sessions

unfoldable pub has_connection : ℕ → Session → Bool
has_connection c x = option_map_or (λ d. d == c) x.connection false

-- the session of a connection
unfoldable pub session_of : ℕ → List Session → Option ℤ
session_of c [] = None
session_of c (x ∷ xs) = if has_connection c x then Some x.number else session_of c xs

unfoldable pub is_numbered : ℤ → Session → Bool
is_numbered session x = int_eq x.number session

-- the session with this number, if it is live
unfoldable pub session_at : ℤ → List Session → Option Session
session_at session [] = None
session_at session (x ∷ xs) = if is_numbered session x then Some x else session_at session xs

unfoldable pub changed_session : ℤ → (Session → Session) → Session → Session
changed_session session f x = if is_numbered session x then f x else x

-- the sessions, of which the one with this number is changed
unfoldable pub change_session : ℤ → (Session → Session) → List Session → List Session
change_session session f xs = map (changed_session session f) xs

unfoldable pub heard_at : ℤ → Session → Session
heard_at now x = record x { heard = now }

unfoldable pub moved_to : ℕ → ℤ → ℤ → Session → Session
moved_to c timeout now x = record x { timeout = timeout; heard = now; connection = Some c }

unfoldable pub is_other_session : ℤ → Session → Bool
is_other_session session x = not (is_numbered session x)

unfoldable pub without_session : ℤ → List Session → List Session
without_session session xs = filter (is_other_session session) xs

unfoldable pub without_connection : ℕ → Session → Session
without_connection c x = if has_connection c x then record x { connection = None } else x
