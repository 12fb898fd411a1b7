-- What the two maps of watches say after one of them has a path or a connection more, or less.
use Rattle.std.specs.Prelude.{◌≡◌, ◌==◌, ◌&&◌, ◌||◌, not, filter, ℕ, List, Bool, String, if◌then◌else◌}
use Rattle.std.specs.BTreeSet.{insert_key}
use Rattle.std.specs.Ordering.{nat_cmp}
use Rattle.std.specs.Global.{Global}
use Rattle.std.specs.List.{list_any}
use Rattle.std.specs.Str.{bytes_eq}
use Rattle.tree_state.specs.declared.watchers.Watchers.{Watchers}
use Rattle.tree_state.specs.Counts.{is_at_text}
use Rattle.tree_state.specs.Watches.{watchers_of, is_watching}

-- the connection is not this one
abbrev pub is_other_connection : ℕ → ℕ → Bool
is_other_connection c d = not (d == c)

-- the path with this text is among those of the connection
pub record IsPathIn (old new : Watchers) (text : List ℕ) (c : ℕ) : Type 0 where
  pub by_path : new.by_path ≡ old.by_path
  pub by_connection : (d : ℕ) (other : List ℕ) → is_watching new d other ≡ (is_watching old d other || (d == c && bytes_eq text other))

-- the path with this text is not among those of the connection
pub record IsPathOut (old new : Watchers) (text : List ℕ) (c : ℕ) : Type 0 where
  pub by_path : new.by_path ≡ old.by_path
  pub by_connection : (d : ℕ) (other : List ℕ) → is_watching new d other ≡ (is_watching old d other && not (d == c && bytes_eq text other))

-- the connection is among those of the path with this text
pub record IsConnectionIn (old new : Watchers) (text : List ℕ) (c : ℕ) : Type 0 where
  pub by_path : (other : List ℕ) → watchers_of new other ≡ (if bytes_eq text other then insert_key nat_cmp (watchers_of old other) c else watchers_of old other)
  pub by_connection : new.by_connection ≡ old.by_connection

-- the connection is not among those of the path with this text
pub record IsConnectionOut (old new : Watchers) (text : List ℕ) (c : ℕ) : Type 0 where
  pub by_path : (other : List ℕ) → watchers_of new other ≡ (if bytes_eq text other then filter (is_other_connection c) (watchers_of old other) else watchers_of old other)
  pub by_connection : new.by_connection ≡ old.by_connection

-- the maps say the same of each path and each connection
pub record IsSeenAs (old new : Watchers) : Type 0 where
  pub by_path : (text : List ℕ) → watchers_of new text ≡ watchers_of old text
  pub by_connection : (d : ℕ) (text : List ℕ) → is_watching new d text ≡ is_watching old d text

-- where the path with this text goes from the connections that are left, all is as where it goes from all of these
pub record LeavesPaths (text : List ℕ) (all : List ℕ) (before : Watchers) (rest : List ℕ) (now : Watchers) : Type 0 where
  pub by_path : now.by_path ≡ before.by_path
  pub by_connection : (d : ℕ) (other : List ℕ) → (is_watching now d other && not (list_any (λ c. c == d) rest && bytes_eq text other))
      ≡ (is_watching before d other && not (list_any (λ c. c == d) all && bytes_eq text other))

-- where the connection goes from the paths that are left, all is as where it goes from all of these
pub record LeavesConnections (c : ℕ) (all : List (String Global)) (before : Watchers) (rest : List (String Global)) (now : Watchers) : Type 0 where
  pub by_connection : now.by_connection ≡ before.by_connection
  pub by_path : (other : List ℕ) → (if list_any (is_at_text other) rest then filter (is_other_connection c) (watchers_of now other) else watchers_of now other)
      ≡ (if list_any (is_at_text other) all then filter (is_other_connection c) (watchers_of before other) else watchers_of before other)
