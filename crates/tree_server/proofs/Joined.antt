-- What a connect and a loss make of a state, and what a connect request is given.
use Rattle.std.proofs.Common.{◌≡◌, ◌≢◌, ℕ, ℤ, pos, ◌+ℤ◌, ◌≤ℤ◌, Bool, true, false, cond, List, [], ◌∷◌, map, Option, Some, None, int_eq, refl, sym, ap, ap₂, ◌∙◌, subst, inl, inr, arith}
use Rattle.std.specs.Prelude.{◌==◌}
use Rattle.std.specs.Cmp.{int_eq_equiv}
use Rattle.std.specs.Option.{option_map}
use Rattle.std.proofs.lemmas.Bool.{cases_Bool}
use Rattle.std.proofs.lemmas.Int.{ints, clamps}
use Rattle.zk_records.specs.declared.connect.ConnectRequest.{ConnectRequest}
use Rattle.tree_state.specs.declared.session.Given.{Given}
use Rattle.tree_state.specs.Changes.{Naming}
use Rattle.tree_state.specs.State.{State, Session, has_connection, session_at, is_numbered, changed_session, change_session, moved_to, without_connection, left_of_others, next_zxid}
use Rattle.tree_state.specs.Step.{connects, loses, step, clamped, given_to, given_live, no_session, is_password_of, with_moved, connected_at, connected, lost}
use Rattle.tree_state.proofs.SessionLists.{same_number, number_of, at_changed}
use Rattle.tree_state.proofs.SessionTies.{changed_yes, changed_no, keeps_number, stays}
use Rattle.store_side.specs.Past.{after_all}
use Rattle.tree_server.specs.Times.{due_of}
use Rattle.tree_server.specs.declared.dues.Due.{Due}

-- ---- a connect, by what is given

pub not_zero : (k : ℤ) → k ≢ pos 0 → int_eq k (pos 0) ≡ false
not_zero k h = elim (cases_Bool (int_eq k (pos 0))) [ inl zero ↦ absurd (h (same_number k (pos 0) zero)) | inr other ↦ other ]

-- no session
pub connected_none : (given : Given) (now : ℤ) (c : ℕ) (s : State) → given.session ≡ pos 0 → connected given now c s ≡ s
unfolding connected
connected_none given now c s h =
    ap (λ (k : ℤ). cond (int_eq k (pos 0)) s (connected_at (session_at given.session s.sessions) given now c s)) h
    ∙ ap (λ (b : Bool). cond b s (connected_at (session_at given.session s.sessions) given now c s)) (int_eq_equiv.refl (pos 0))

-- a session, which is live or new
pub connected_is : (given : Given) (now : ℤ) (c : ℕ) (s : State) (o : Option Session) → given.session ≢ pos 0
    → session_at given.session s.sessions ≡ o → connected given now c s ≡ connected_at o given now c s
unfolding connected
connected_is given now c s o some at =
    ap (λ (b : Bool). cond b s (connected_at (session_at given.session s.sessions) given now c s)) (not_zero given.session some)
    ∙ ap (λ (x : Option Session). connected_at x given now c s) at

pub after_connect : (naming : Naming) (s : State) (c : ℕ) (asked : ConnectRequest) (given : Given) (now : ℤ)
    → after_all naming s (connects c asked given now ∷ []) ≡ connected given now c s
unfolding after_all step
after_connect naming s c asked given now = refl

pub after_loss : (naming : Naming) (s : State) (d : ℕ) → after_all naming s (loses d ∷ []) ≡ lost d s
unfolding after_all step
after_loss naming s d = refl

pub after_move : (naming : Naming) (s : State) (c d : ℕ) (asked : ConnectRequest) (given : Given) (now : ℤ)
    → after_all naming s (loses d ∷ connects c asked given now ∷ []) ≡ connected given now c (lost d s)
unfolding after_all step
after_move naming s c d asked given now = refl

-- ---- a loss before a connect, or behind it

off_moved : (c d : ℕ) (timeout now : ℤ) (x : Session) → (c == d) ≡ false → has_connection d (moved_to c timeout now x) ≡ false
unfolding has_connection moved_to
off_moved c d timeout now x h = h

moved_once : (c d : ℕ) (timeout now : ℤ) (x : Session) → moved_to c timeout now (without_connection d x) ≡ moved_to c timeout now x
unfolding moved_to without_connection
moved_once c d timeout now x = go (has_connection d x)
  where
    go : (b : Bool) → moved_to c timeout now (cond b (record x { connection = None }) x) ≡ moved_to c timeout now x
    go true = refl
    go false = refl

lost_numbered : (k : ℤ) (d : ℕ) (x : Session) → is_numbered k (without_connection d x) ≡ is_numbered k x
unfolding is_numbered
lost_numbered k d x = ap (λ (n : ℤ). int_eq n k) (keeps_number d x)

swap_one : (k : ℤ) (c d : ℕ) (timeout now : ℤ) (x : Session) → (c == d) ≡ false
    → without_connection d (changed_session k (moved_to c timeout now) x) ≡ changed_session k (moved_to c timeout now)
    (without_connection d x)
swap_one k c d timeout now x h = elim (cases_Bool (is_numbered k x)) [
  | inl numbered ↦
      ap (without_connection d) (changed_yes k (moved_to c timeout now) x numbered)
      ∙ stays d (moved_to c timeout now x) (off_moved c d timeout now x h)
      ∙ sym (moved_once c d timeout now x)
      ∙ sym (changed_yes k (moved_to c timeout now) (without_connection d x) (lost_numbered k d x ∙ numbered))
  | inr other ↦
      ap (without_connection d) (changed_no k (moved_to c timeout now) x other)
      ∙ sym (changed_no k (moved_to c timeout now) (without_connection d x) (lost_numbered k d x ∙ other))
]

swap_all : (f g : Session → Session) (xs : List Session) → ((x : Session) → f (g x) ≡ g (f x)) → map f (map g xs) ≡ map g (map f xs)
swap_all f g [] h = refl
swap_all f g (x ∷ xs) h = ap₂ (λ (y : Session) (ys : List Session). y ∷ ys) (h x) (swap_all f g xs h)

lost_then_moved : (given : Given) (now : ℤ) (c d : ℕ) (xs : List Session) → (c == d) ≡ false
    → map (without_connection d) (with_moved given now c xs) ≡ with_moved given now c (map (without_connection d) xs)
unfolding with_moved change_session
lost_then_moved given now c d xs h =
    swap_all (without_connection d) (changed_session given.session (moved_to c given.timeout now)) xs
    (λ x. swap_one given.session c d given.timeout now x h)

-- a session is found where its connection is lost
pub at_lost : (d : ℕ) (k : ℤ) (xs : List Session) (x : Session) → session_at k xs ≡ Some x
    → session_at k (map (without_connection d) xs) ≡ Some (without_connection d x)
at_lost d k xs x live = at_changed (without_connection d) (keeps_number d) k xs ∙ ap (option_map (without_connection d)) live

swap_state : (given : Given) (now : ℤ) (c d : ℕ) (s : State) (x y : Session) → (c == d) ≡ false
    → lost d (connected_at (Some x) given now c s) ≡ connected_at (Some y) given now c (lost d s)
unfolding lost connected_at next_zxid
swap_state given now c d s x y h =
    ap (λ (xs : List Session). record s { sessions = xs; watches = left_of_others d s.watches; last = s.last +ℤ pos 1 })
    (lost_then_moved given now c d s.sessions h)

pub lost_at : (d : ℕ) (k : ℤ) (s : State) (x : Session) → session_at k s.sessions ≡ Some x
    → session_at k (lost d s).sessions ≡ Some (without_connection d x)
unfolding lost
lost_at d k s x live = at_lost d k s.sessions x live

-- a live session moves, and the other connection is lost behind that, or before it
pub lost_connected : (given : Given) (now : ℤ) (c d : ℕ) (s : State) (x : Session) → (c == d) ≡ false → given.session ≢ pos 0
    → session_at given.session s.sessions ≡ Some x → lost d (connected given now c s) ≡ connected given now c (lost d s)
lost_connected given now c d s x h some live =
    ap (lost d) (connected_is given now c s (Some x) some live) ∙ swap_state given now c d s x (without_connection d x) h
    ∙ sym (connected_is given now c (lost d s) (Some (without_connection d x)) some (lost_at d given.session s x live))

-- the time of a session whose connection is lost stays
pub lost_due : (d : ℕ) (x : Session) → due_of (without_connection d x) ≡ due_of x
unfolding due_of without_connection
lost_due d x = go (has_connection d x)
  where
    go : (b : Bool)
        → ◌≡◌ {A =
        Due}
        (record {
          at =
              (cond b (record x { connection = None }) x).heard +ℤ (cond b (record x { connection = None }) x).timeout;
          session =
              (cond b (record x { connection = None }) x).number;
        })
        (record { at = x.heard +ℤ x.timeout; session = x.number })
    go true = refl
    go false = refl

-- ---- what is given

-- the timeout is one that the store gives
pub record IsWithin (timeout : ℤ) : Type 0 where
  pub least : pos 4000 ≤ℤ timeout
  pub most : timeout ≤ℤ pos 40000

clamped_within : (z : ℤ) → IsWithin (clamped z)
unfolding clamped
clamped_within z = record { least = omega (arith, ints, clamps); most = omega (arith, ints, clamps) }

-- none, or with such a timeout, and the next one where it is not live
record IsFitting (xs : List Session) (fresh : ℤ) (given : Given) : Type 0 where
  timely : given.session ≢ pos 0 → IsWithin given.timeout
  next : given.session ≢ pos 0 → session_at given.session xs ≡ None → given.session ≡ fresh

no_session_fits : (xs : List Session) (fresh : ℤ) → IsFitting xs fresh no_session
unfolding no_session
no_session_fits xs fresh = record { timely = λ h. absurd (h refl); next = λ h none. absurd (h refl) }

live_fits : (xs : List Session) (asked : ConnectRequest) (fresh : ℤ) (o : Option Session) → session_at asked.session xs ≡ o
    → IsFitting xs fresh (given_live asked o)
unfolding given_live
live_fits xs asked fresh None live = no_session_fits xs fresh
live_fits xs asked fresh (Some x) live = go (is_password_of asked.password x)
  where
    go : (b : Bool)
        → IsFitting xs fresh (cond b (record { session = x.number; timeout = clamped asked.timeout; password = x.password }) no_session)
    go true =
        let l : session_at x.number xs ≡ Some x =
        subst (λ (k : ℤ). session_at k xs ≡ Some x) (sym (number_of asked.session xs x live)) live in
        record { timely = λ h. clamped_within asked.timeout; next = λ h none. absurd cc }
    go false = no_session_fits xs fresh

given_fits : (xs : List Session) (asked : ConnectRequest) (fresh : ℤ) (password : List ℕ)
    → IsFitting xs fresh (given_to xs asked fresh password)
unfolding given_to
given_fits xs asked fresh password = go (int_eq asked.session (pos 0))
  where
    go : (b : Bool)
        → IsFitting xs fresh
        (cond b (record { session = fresh; timeout = clamped asked.timeout; password = password })
        (given_live asked (session_at asked.session xs)))
    go true = record { timely = λ h. clamped_within asked.timeout; next = λ h none. refl }
    go false = live_fits xs asked fresh (session_at asked.session xs) refl

pub given_timely : (xs : List Session) (asked : ConnectRequest) (fresh : ℤ) (password : List ℕ) (given : Given)
    → given ≡ given_to xs asked fresh password
    → given.session ≢ pos 0 → IsWithin given.timeout
given_timely xs asked fresh password given e some = (subst (IsFitting xs fresh) (sym e) (given_fits xs asked fresh password)).timely some

-- a session that is given, and is not live, is the next one
pub given_next : (xs : List Session) (asked : ConnectRequest) (fresh : ℤ) (password : List ℕ) (given : Given)
    → given ≡ given_to xs asked fresh password
    → given.session ≢ pos 0 → session_at given.session xs ≡ None → given.session ≡ fresh
given_next xs asked fresh password given e some none =
    (subst (IsFitting xs fresh) (sym e) (given_fits xs asked fresh password)).next some none

live_lost : (d : ℕ) (asked : ConnectRequest) (o : Option Session)
    → given_live asked (option_map (without_connection d) o) ≡ given_live asked o
unfolding given_live without_connection is_password_of
live_lost d asked None = refl
live_lost d asked (Some x) = go asked.password (has_connection d x)
  where
    go : (p : Option (List ℕ)) (b : Bool)
        → cond (is_password_of p (cond b (record x { connection = None }) x))
        (record {
          session = (cond b (record x { connection = None }) x).number;
          timeout = clamped asked.timeout;
          password =
              (cond b (record x { connection = None }) x).password;
        }) no_session
        ≡ cond (is_password_of p x) (record { session = x.number; timeout = clamped asked.timeout; password = x.password }) no_session
    go None true = refl
    go None false = refl
    go (Some p) true = refl
    go (Some p) false = refl

-- the same is given where a connection is lost
pub given_lost : (d : ℕ) (xs : List Session) (asked : ConnectRequest) (fresh : ℤ) (password : List ℕ)
    → given_to (map (without_connection d) xs) asked fresh password ≡ given_to xs asked fresh password
unfolding given_to
given_lost d xs asked fresh password =
    ap (λ (g : Given). cond (int_eq asked.session (pos 0)) (record {
      session = fresh;
      timeout = clamped asked.timeout;
      password =
          password;
    }) g)
    (ap (given_live asked) (at_changed (without_connection d) (keeps_number d) asked.session xs)
    ∙ live_lost d asked (session_at asked.session xs))
