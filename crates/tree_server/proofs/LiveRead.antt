-- What is read of a live session.
use Rattle.std.proofs.Common.{◌≡◌, ◌≢◌, ℕ, ℤ, pos, ◌+ℤ◌, List, Option, Some, None, Result, IfOk, IfErr, All, w64, FitsSigned, to_z, of_z, sym, ap, ap₂, ◌∙◌, subst, refl}
use Rattle.std.specs.Option.{option_map}
use Rattle.std.proofs.lemmas.Int.{to_z-of_z}
use Rattle.std.proofs.lemmas.Result.{IfOk-weaker, IfErr-weaker}
use Rattle.tree_state.specs.declared.held.Held.{Held}
use Rattle.tree_state.specs.declared.session.LiveSession.{LiveSession}
use Rattle.tree_state.specs.State.{State, Session, session_at}
use Rattle.tree_state.specs.Sessions.{live_of}
use Rattle.tree_state.specs.Trees.{Means}
use Rattle.tree_state.proofs.SessionLists.{number_of}
use Rattle.store_side.specs.declared.entry.Entry.{Entry}
use Rattle.store_side.specs.Owed.{IsTime}
use Rattle.store_side.specs.Past.{Past, state_of}
use Rattle.tree_server.specs.declared.books.Books.{Books}
use Rattle.tree_server.specs.declared.dues.Due.{Due}
use Rattle.tree_server.specs.Machines.{Stands}
use Rattle.tree_server.specs.Times.{IsTimely, due_of}
use Rattle.tree_server.proofs.DuesKept.{timely_at}
use Rattle.tree_server.proofs.Replaced.{due_as_of}

-- a test for session 0, as the code does it
pub is_zero : (z : ℤ) → FitsSigned w64 z → of_z w64 z ≡ 0 → z ≡ pos 0
is_zero z f e = sym (to_z-of_z w64 z f) ∙ ap (to_z w64) e

pub not_zero : (z : ℤ) → (of_z w64 z ≡ 0 → ⊥) → z ≢ pos 0
not_zero z h e = h (ap (of_z w64) e)

-- what is read of the session
pub record IsRead (live : LiveSession) (x : Session) : Type 0 where
  pub connection : live.connection ≡ x.connection
  pub heard : live.heard ≡ x.heard
  pub timeout : live.timeout ≡ x.timeout

read_so : (live : LiveSession) (x : Session) → live ≡ live_of x → IsRead live x
unfolding live_of
read_so live x e = record {
  connection = ap (λ (l : LiveSession). l.connection) e;
  heard = ap (λ (l : LiveSession). l.heard) e;
  timeout =
      ap (λ (l : LiveSession). l.timeout) e;
}

pub is_read : (held : Held) (s : State) (k : ℤ) (o : Option LiveSession) (live : LiveSession) (x : Session) → Means held s
    → ((s : State) → Means held s → o ≡ option_map live_of (session_at k s.sessions)) → o ≡ Some live → session_at k s.sessions ≡ Some x
    → IsRead live x
is_read held s k o live x means reads some at =
    let e : Some live ≡ Some (live_of x) = sym some ∙ reads s means ∙ ap (option_map live_of) at in
    let f : live ≡ live_of x = cc in
    read_so live x f

-- the time at which it would be up, as the code has it
pub read_due : (due : Due) (live : LiveSession) (x : Session) (k : ℤ) (xs : List Session) → session_at k xs ≡ Some x → All IsTimely xs
    → IsRead live x
    → due.session ≡ k → (IsTime live.heard → due.at ≡ live.heard +ℤ live.timeout) → due ≡ due_of x
read_due due live x k xs at timely read session time =
    let t = timely_at k xs x timely at in
    due_as_of due x (session ∙ sym (number_of k xs x at))
    (time (subst IsTime (sym read.heard) t.heard) ∙ ap₂ (λ (h o : ℤ). h +ℤ o) read.heard read.timeout)

-- there is none
pub read_none : (held : Held) (s : State) (k : ℤ) (o : Option LiveSession) → Means held s
    → ((s : State) → Means held s → o ≡ option_map live_of (session_at k s.sessions)) → o ≡ None → session_at k s.sessions ≡ None
read_none held s k o means reads none = go (session_at k s.sessions) (sym none ∙ reads s means)
  where
    go : (x : Option Session) → None ≡ option_map live_of x → x ≡ None
    go None e = refl
    go (Some x) e = absurd cc

-- there is one
found : (held : Held) (s : State) (k : ℤ) (o : Option LiveSession) (live : LiveSession) → Means held s
    → ((s : State) → Means held s → o ≡ option_map live_of (session_at k s.sessions)) → o ≡ Some live
    → (x : Session) × (session_at k s.sessions ≡ Some x)
found held s k o live means reads some = go (session_at k s.sessions) (sym some ∙ reads s means)
  where
    go : (x : Option Session) → Some live ≡ option_map live_of x → (y : Session) × (x ≡ Some y)
    go None e = absurd cc
    go (Some x) e = (x, refl)

-- the session with this number has this connection, or none, and would be up then
pub record IsKnown (k : ℤ) (xs : List Session) (on : Option ℕ) (due : Due) : Type 0 where
  pub one : Session
  pub live : session_at k xs ≡ Some one
  pub has : one.connection ≡ on
  pub is : due ≡ due_of one

pub known : (named : List ℕ → ℕ → List ℕ → Type 0) (keeps : List Entry → Type 0) (room : ℕ) (held : Held) (books : Books) (past : Past)
    (k : ℤ) (o : Option LiveSession) (live : LiveSession)
    (on : Option ℕ) (due : Due) → Stands named keeps room held books past
    → ((s : State) → Means held s → o ≡ option_map live_of (session_at k s.sessions)) → o ≡ Some live
    → live.connection ≡ on → due.session ≡ k → (IsTime live.heard → due.at ≡ live.heard +ℤ live.timeout)
    → IsKnown k (state_of past).sessions on due
known named keeps room held books past k o live on due s reads some has its at =
    let x = found held (state_of past) k o live s.means reads some in
    let r = is_read held (state_of past) k o live x.0 s.means reads some x.1 in
    record {
      one = x.0;
      live = x.1;
      has = sym r.connection ∙ has;
      is =
          read_due due live x.0 k (state_of past).sessions x.1 s.timely r its at;
    }

-- ---- what a last call says, with other facts before it

pub ok_from : {A B : Type 0} (r : Result A B) (P Q : A → Type 0) → IfOk r P → ((x : A) → P x → Q x) → IfOk r Q
ok_from r P Q h f = IfOk-weaker r P Q f h

pub err_from : {A B : Type 0} (r : Result A B) (P Q : B → Type 0) → IfErr r P → ((x : B) → P x → Q x) → IfErr r Q
err_from r P Q h f = IfErr-weaker r P Q f h
