-- Which sessions two ordered maps keep.
use Rattle.std.specs.Prelude.{◌≡◌, ◌<ℤ◌, ℕ, ℤ, List, [], ◌∷◌, ◌++◌, map, filter, not, Bool, Some, All, String, IfSome, ◌<◌, vec_len, vec_capacity, if◌then◌else◌}
use Rattle.std.specs.BTreeMap.{get}
use Rattle.std.specs.Global.{Global}
use Rattle.std.specs.List.{AllZip}
use Rattle.std.specs.Ordering.{int_cmp, int_eq, nat_cmp}
use Rattle.std.specs.Str.{bytes_eq}
use Rattle.std.specs.String.{string_bytes}
use Rattle.zk_path.specs.Paths.{IsTextOf}
use Rattle.tree_state.specs.declared.session.Session as code
use Rattle.tree_state.specs.declared.session.Sessions.{Sessions}
use Rattle.tree_state.specs.declared.session.LiveSession.{LiveSession}
use Rattle.tree_state.specs.Nodes.{Path, same_path}
use Rattle.tree_state.specs.State.{Session, session_of, session_at}

-- the paths of a session's ephemerals, in the order in which they were made
abbrev pub Owning : Type 0
Owning = ℤ → List Path

unfoldable pub session_at_key : ℤ × code.Session → Session
session_at_key e = record {
  number = e.0;
  timeout = e.1.timeout;
  password = e.1.password;
  heard = e.1.heard;
  connection = e.1.connection;
}

-- each text is that of its path, which is legal
unfoldable pub OwnTexts : List (String Global) → List Path → Type 0
OwnTexts texts ps = AllZip IsTextOf (map string_bytes texts) ps

-- what is shown of a session
unfoldable pub live_of : Session → LiveSession
live_of x = record { timeout = x.timeout; heard = x.heard; connection = x.connection }

abbrev pub OwnsPaths : Owning → ℤ × code.Session → Type 0
OwnsPaths owned e = OwnTexts e.1.ephemerals.items (owned e.0)

-- a connection has one session
abbrev pub IsOnOne : List Session → Type 0
IsOnOne xs = (c : ℕ) (x : Session) (session : ℤ) → session_at session xs ≡ Some x → x.connection ≡ Some c → session_of c xs ≡ Some session

-- the session is live and has this connection
pub record IsLiveOn (xs : List Session) (c : ℕ) (session : ℤ) : Type 0 where
  pub one : Session
  pub live : session_at session xs ≡ Some one
  pub on : one.connection ≡ Some c

-- the maps keep these sessions, in the order of their numbers, and the session of each connection
pub record Keeps (t : Sessions) (xs : List Session) (owned : Owning) : Type 0 where
  pub sessions : map session_at_key t.live.entries ≡ xs
  pub connections : (c : ℕ) → get nat_cmp t.connections c ≡ session_of c xs
  pub one : IsOnOne xs
  pub owns : All (OwnsPaths owned) t.live.entries

-- every session has a number below this one
abbrev pub AreBelow : ℤ → List Session → Type 0
AreBelow session xs = All (λ x. x.number <ℤ session) xs

-- a live session has room for one more
abbrev pub HasRoomFor : ℤ → Sessions → Type 0
HasRoomFor session t = IfSome (get int_cmp t.live session) (λ live. vec_len live.ephemerals < vec_capacity live.ephemerals)

-- the session has made one more
unfoldable pub with_owned : ℤ → Path → Owning → Owning
with_owned session p owned k = if int_eq k session then owned k ++ p ∷ [] else owned k

-- and one of them went
unfoldable pub without_owned : ℤ → Path → Owning → Owning
without_owned session p owned k = if int_eq k session then filter (λ q. not (same_path q p)) (owned k) else owned k

-- the text is not this one
abbrev pub is_other_text : List ℕ → String Global → Bool
is_other_text text other = not (bytes_eq (string_bytes other) text)

-- the session is kept as this one is, in texts of its own
pub record IsCopy (x y : code.Session) : Type 0 where
  pub same : (session : ℤ) → session_at_key (session, y) ≡ session_at_key (session, x)
  pub texts : map string_bytes y.ephemerals.items ≡ map string_bytes x.ephemerals.items
