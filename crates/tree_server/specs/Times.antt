-- When the sessions of a store would be up, and what a step does to them.
use Rattle.std.specs.Prelude.{◌≡◌, ◌≢◌, ◌⊎◌, ◌↔◌, ℤ, pos, ◌+ℤ◌, ◌≤ℤ◌, List, map, Option, Some, None, Contains}
use Rattle.tree_state.specs.State.{State, Session, session_of, session_at, change_session, heard_at, without_session, without_connection}
use Rattle.tree_state.specs.Commands.{Command, close}
use Rattle.tree_state.specs.Step.{Act, connects, asks, loses, expires, connected}
use Rattle.store_side.specs.Owed.{IsTime}
use Rattle.tree_server.specs.declared.dues.Due.{Due}

-- the session would be up then
pub record IsDue (xs : List Session) (due : Due) : Type 0 where
  pub one : Session
  pub live : session_at due.session xs ≡ Some one
  pub at : due.at ≡ one.heard +ℤ one.timeout

-- these are the times at which the sessions would be up
abbrev pub AreDues : List Due → List Session → Type 0
AreDues dues xs = (due : Due) → Contains dues due ↔ IsDue xs due

-- a session was heard at a time of the store, and its timeout is one that the store gives
pub record IsTimely (x : Session) : Type 0 where
  pub heard : IsTime x.heard
  pub least : pos 4000 ≤ℤ x.timeout
  pub most : x.timeout ≤ℤ pos 40000

-- ---- what a step does to the sessions

-- a request of a session that is heard, or closes it
unfoldable pub sessions_asked : ℤ → Command → ℤ → List Session → List Session
sessions_asked session close now xs = without_session session xs
sessions_asked session command now xs = change_session session (heard_at now) xs

unfoldable pub sessions_of : Option ℤ → Command → ℤ → List Session → List Session
sessions_of None command now xs = xs
sessions_of (Some session) command now xs = sessions_asked session command now xs

unfoldable pub sessions_after : State → Act → List Session
sessions_after s (connects c asked given now) = (connected given now c s).sessions
sessions_after s (asks c xid command now) = sessions_of (session_of c s.sessions) command now s.sessions
sessions_after s (loses c) = map (without_connection c) s.sessions
sessions_after s (expires session now) = without_session session s.sessions

-- ---- one time more, and one less

-- the time at which the session would be up
unfoldable pub due_of : Session → Due
due_of x = record { at = x.heard +ℤ x.timeout; session = x.number }

-- the old ones and this one
abbrev pub AddsDue : Due → List Due → List Due → Type 0
AddsDue due old new = (d : Due) → Contains new d ↔ ((d ≡ due) ⊎ Contains old d)

-- the old ones but for this one
abbrev pub RemovesDue : Due → List Due → List Due → Type 0
RemovesDue due old new = (d : Due) → Contains new d ↔ ((d ≢ due) × Contains old d)

-- this one is taken out, unless it is the other
abbrev pub LeavesDue : Due → Due → List Due → List Due → Type 0
LeavesDue due other old new = ((due ≡ other) × (new ≡ old)) ⊎ ((due ≢ other) × RemovesDue due old new)
