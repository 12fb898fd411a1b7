-- What is read of the sessions by their times.
use Rattle.std.specs.Prelude.{◌≡◌, ◌↔◌, ◌≤ℤ◌, ℤ, List, Contains}
use Rattle.tree_server.specs.declared.dues.Due.{Due}

-- one of these is of the session, and its time has come
pub record IsUp (dues : List Due) (now session : ℤ) : Type 0 where
  pub due : Due
  pub kept : Contains dues due
  pub of : due.session ≡ session
  pub come : due.at ≤ℤ now

-- these are the sessions whose time has come
abbrev pub AreUp : List Due → ℤ → List ℤ → Type 0
AreUp dues now sessions = (session : ℤ) → Contains sessions session ↔ IsUp dues now session
