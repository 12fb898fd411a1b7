-- The entries that a store owes its sessions.
use Rattle.std.specs.Prelude.{ℕ, ℤ, pos, ◌+◌, ◌^◌, ◌≤ℤ◌, ◌<ℤ◌, List, [], ◌∷◌}
use Rattle.std.specs.Option.{option_map_or}
use Rattle.tree_state.specs.State.{Session}

-- one for the end of the session, and one for the loss of its connection, if it has one
unfoldable pub reserve_of : Session → ℕ
reserve_of x = option_map_or (λ c. 2) x.connection 1

unfoldable pub reserves : List Session → ℕ
reserves [] = 0
reserves (x ∷ xs) = reserve_of x + reserves xs

-- a time of a store, in milliseconds
pub record IsTime (now : ℤ) : Type 0 where
  pub from : pos 0 ≤ℤ now
  pub below : now <ℤ pos (2 ^ 62)
