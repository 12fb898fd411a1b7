-- What is read of a session, what a connect is answered, and what is held after it and after a connection is lost.
use Rattle.std.proofs.Common.{◌≡◌, ◌⊎◌, ℕ, ℤ, ◌<ℤ◌, ◌≤ℤ◌, ◌+ℤ◌, ◌-◌, ◌^◌, pos, Bool, true, false, cond, List, [], ◌∷◌, ◌++◌, map, Option, Some, None, All, int_cmp, int_eq, is_some, option_map, refl, sym, ap, ◌∙◌, subst, inl, inr, arith, FitsSigned, w64, to_z, of_z}
use Rattle.std.specs.BTreeMap.{get}
use Rattle.std.specs.Int.Signed.{≤ℤ_refl, clash_ℤ}
use Rattle.std.specs.Map.{lookup}
use Rattle.std.specs.Option.{option_and}
use Rattle.std.proofs.lemmas.Int.{ints}
use Rattle.std.proofs.lemmas.List.Elements.{All-nil, All-cons, All-head, All-tail}
use Rattle.zk_records.specs.declared.connect.ConnectRequest.{ConnectRequest}
use Rattle.tree_state.specs.declared.held.Held.{Held}
use Rattle.tree_state.specs.declared.message.Message.TheVariants as messages
use Rattle.tree_state.specs.declared.message.Output.{Output}
use Rattle.tree_state.specs.declared.session.Given.{Given}
use Rattle.tree_state.specs.declared.session.Session as code
use Rattle.tree_state.specs.declared.session.Sessions.{Sessions}
use Rattle.tree_state.specs.declared.watches.Watches.{Watches}
use Rattle.tree_state.specs.Nodes.{Path, ephemerals}
use Rattle.tree_state.specs.State.{State, Session, session_at, session_of, changed_session, change_session, has_connection, moved_to, left_of_others, without_connection, is_numbered, next_zxid}
use Rattle.tree_state.specs.Changes.{Naming}
use Rattle.tree_state.specs.Step.{connects, loses, step, connected, connected_at, with_session, with_moved, answer_connect, read_only_of, given_to, given_live, is_password_of, clamped, no_session, lost}
use Rattle.tree_state.specs.Sessions.{Keeps, Owning, AreBelow, session_at_key}
use Rattle.tree_state.specs.Watches.{Watching}
use Rattle.tree_state.specs.Trees.{Means, Does, Stays, CanConnect, AreOwned, IsGiven}
use Rattle.tree_state.proofs.SessionLists.{number_of}
use Rattle.tree_state.proofs.SessionMaps.{is_key, at_key}
use Rattle.tree_state.proofs.SessionsKept.{kept_at}
use Rattle.tree_state.proofs.Owned.{same_number, other_number}
use Rattle.tree_state.proofs.Ended.{above_zero, first_found}

-- ---- what is read of a session (j is a number as the code has it, and k the same in the clause)

pub live_so : (t : Sessions) (j k : ℤ) (xs : List Session) (owned : Owning) → j ≡ k → Keeps t xs owned → is_some (get int_cmp t.live j) ≡ is_some (session_at k xs)
live_so t j k xs owned same keeps =
    sym (ap is_some (at_key j t.live.entries) ∙ mapped (lookup (is_key j) t.live.entries))
    ∙ ap (λ (ys : List Session). is_some (session_at j ys)) keeps.sessions
    ∙ ap (λ (z : ℤ). is_some (session_at z xs)) same
  where
    mapped : (o : Option code.Session) → is_some (option_map (λ (v : code.Session). session_at_key (j, v)) o) ≡ is_some o
    mapped None = refl
    mapped (Some v) = refl

pub heard_so : (t : Sessions) (j k : ℤ) (v : code.Session) (x : Session) (xs : List Session) (owned : Owning) → j ≡ k → Some v ≡ get int_cmp t.live j
    → Keeps t xs owned → session_at k xs ≡ Some x → v.heard ≡ x.heard
unfolding session_at_key
heard_so t j k v x xs owned same h keeps live =
    let kept = kept_at t xs owned j v keeps (sym h) in
    let here : session_at k xs ≡ Some (session_at_key (j, v)) = subst (λ (z : ℤ). session_at z xs ≡ Some (session_at_key (j, v))) same kept in
    let one : x ≡ session_at_key (j, v) = cc in
    ap (λ (y : Session). y.heard) (sym one)

-- ---- the answer

read_only_so : (asked : Option Bool) → option_and asked (Some false) ≡ read_only_of asked
unfolding read_only_of
read_only_so None = refl
read_only_so (Some b) = refl

pub answered : (c : ℕ) (asked : ConnectRequest) (g : Given) (before : List Output) (timeout session : ℤ) (password : List ℕ) (read_only : Option Bool)
    → before ≡ [] → timeout ≡ g.timeout → session ≡ g.session → password ≡ g.password → read_only ≡ option_and asked.read_only (Some false)
    → before ++ record { connection = c; message = messages.Connected (record { protocol = pos 0; timeout = timeout; session = session; password = Some password; read_only = read_only }) } ∷ []
    ≡ answer_connect c asked g ∷ []
unfolding answer_connect
answered c asked g before timeout session password read_only first k l m n = let form = n ∙ read_only_so asked.read_only in cc

-- ---- orders of numbers

at_most : (a b c : ℤ) → a ≤ℤ b → b ≤ℤ c → a ≤ℤ c
at_most a b c h k = grind (arith, ints)

below : (a b c : ℤ) → a ≤ℤ b → b <ℤ c → a <ℤ c
below a b c h k = grind (arith, ints)

no_more : (a b : ℤ) → a <ℤ b → a ≤ℤ b
no_more a b h = grind (arith, ints)

-- ---- who is given a session

-- no session is given, or the next one, or one that is live
abbrev IsGivenTo : List Session → ℤ → Given → Type 0
IsGivenTo xs fresh g = (g.session ≡ pos 0) ⊎ ((g.session ≡ fresh) ⊎ ((x : Session) × (session_at g.session xs ≡ Some x)))

given_so_far : (xs : List Session) (asked : ConnectRequest) (fresh : ℤ) (o : Option Session) → session_at asked.session xs ≡ o → IsGivenTo xs fresh (given_live asked o)
unfolding given_live no_session
given_so_far xs asked fresh None live = inl refl
given_so_far xs asked fresh (Some x) live = go (is_password_of asked.password x)
  where
    go : (b : Bool) → IsGivenTo xs fresh (cond b (record { session = x.number; timeout = clamped asked.timeout; password = x.password }) no_session)
    go true = inr (inr (x, subst (λ (k : ℤ). session_at k xs ≡ Some x) (sym (number_of asked.session xs x live)) live))
    go false = inl refl

is_given_to : (xs : List Session) (asked : ConnectRequest) (fresh : ℤ) (password : List ℕ) → IsGivenTo xs fresh (given_to xs asked fresh password)
unfolding given_to
is_given_to xs asked fresh password = go (int_eq asked.session (pos 0))
  where
    go : (b : Bool) → IsGivenTo xs fresh (cond b (record { session = fresh; timeout = clamped asked.timeout; password = password }) (given_live asked (session_at asked.session xs)))
    go true = inr (inl refl)
    go false = given_so_far xs asked fresh (session_at asked.session xs) refl

-- a session that is given, and is not live, is the next one
is_next : (xs : List Session) (fresh : ℤ) (g : Given) → IsGivenTo xs fresh g → (g.session ≡ pos 0 → ⊥) → session_at g.session xs ≡ None → g.session ≡ fresh
is_next xs fresh g given some none = elim given [
  | inl zero ↦ absurd (some zero)
  | inr other ↦ elim other [ inl next ↦ next | inr live ↦ let found = live.1 in absurd cc ]
]

-- ---- the step

nothing_given : (g : Given) (now : ℤ) (c : ℕ) (s : State) → g.session ≡ pos 0 → connected g now c s ≡ s
unfolding connected
nothing_given g now c s h = ap (λ (b : Bool). cond b s (connected_at (session_at g.session s.sessions) g now c s)) (same_number g.session (pos 0) h)

given_at : (g : Given) (now : ℤ) (c : ℕ) (s : State) (o : Option Session) → (g.session ≡ pos 0 → ⊥) → session_at g.session s.sessions ≡ o → connected g now c s ≡ connected_at o g now c s
unfolding connected
given_at g now c s o some at =
    ap (λ (b : Bool). cond b s (connected_at (session_at g.session s.sessions) g now c s)) (other_number g.session (pos 0) some) ∙ ap (λ (x : Option Session). connected_at x g now c s) at

connects_so : (naming : Naming) (s : State) (c : ℕ) (asked : ConnectRequest) (g : Given) (now : ℤ) (after : Held) (outputs : List Output)
    → outputs ≡ answer_connect c asked g ∷ [] → Means after (connected g now c s) → Does naming s (connects c asked g now) after outputs
unfolding step
connects_so naming s c asked g now after outputs sent means = record { sent = sent; means = means }

-- what is held, with other sessions and another last zxid
abbrev pub with_sessions : Held → Sessions → ℤ → Held
with_sessions held sessions last = record { places = held.places; sessions = sessions; watches = held.watches; last = last }

same_owners : (s : State) (xs : List Session) (greatest last : ℤ) → s.greatest ≤ℤ greatest → AreOwned s → AreOwned (record s { sessions = xs; greatest = greatest; last = last })
same_owners s xs greatest last more h = record {
  given = λ p n found. at_most n.numbers.owner s.greatest greatest (h.given p n found) more;
  childless = h.childless;
  free = h.free;
}

moved_number : (k : ℤ) (c : ℕ) (timeout now : ℤ) (x : Session) → (changed_session k (moved_to c timeout now) x).number ≡ x.number
unfolding changed_session moved_to
moved_number k c timeout now x = go (is_numbered k x)
  where
    go : (b : Bool) → (cond b (record x { timeout = timeout; heard = now; connection = Some c }) x).number ≡ x.number
    go true = refl
    go false = refl

-- the numbers stay given where each session keeps its own
given_each : (s u : State) (f : Session → Session) (xs : List Session) → u.greatest ≡ s.greatest → ((x : Session) → (f x).number ≡ x.number) → All (IsGiven s) xs → All (IsGiven u) (map f xs)
given_each s u f [] same number h = All-nil (IsGiven u)
given_each s u f (x ∷ xs) same number h =
    let first = All-head (IsGiven s) x xs h in
    let above : pos 1 ≤ℤ (f x).number = subst (λ (k : ℤ). pos 1 ≤ℤ k) (sym (number x)) first.above in
    let within : (f x).number ≤ℤ u.greatest = subst (λ (k : ℤ). (f x).number ≤ℤ k) (sym same) (subst (λ (k : ℤ). k ≤ℤ s.greatest) (sym (number x)) first.within) in
    All-cons (IsGiven u) (f x) (map f xs) (record { above = above; within = within }) (given_each s u f xs same number (All-tail (IsGiven s) x xs h))

-- ---- each end of connect

-- no session is given
pub connect_none : (naming : Naming) (s : State) (c : ℕ) (asked : ConnectRequest) (g : Given) (now : ℤ) (before : Held) (outputs : List Output)
    → Means before s → g.session ≡ pos 0 → outputs ≡ answer_connect c asked g ∷ [] → Does naming s (connects c asked g now) before outputs
connect_none naming s c asked g now before outputs means none sent =
    connects_so naming s c asked g now before outputs sent (subst (Means before) (sym (nothing_given g now c s none)) means)

-- a live session moves
connect_moved : (naming : Naming) (s : State) (c : ℕ) (asked : ConnectRequest) (g : Given) (now : ℤ) (before : Held) (sessions : Sessions) (last : ℤ) (x : Session) (outputs : List Output)
    → Means before s → (g.session ≡ pos 0 → ⊥) → session_at g.session s.sessions ≡ Some x → last ≡ before.last +ℤ pos 1 → outputs ≡ answer_connect c asked g ∷ []
    → Keeps sessions (with_moved g now c s.sessions) (λ session. ephemerals session s.nodes)
    → Does naming s (connects c asked g now) (with_sessions before sessions last) outputs
unfolding connected_at with_moved next_zxid change_session
connect_moved naming s c asked g now before sessions last x outputs means some live next sent keeps =
    connects_so naming s c asked g now (with_sessions before sessions last) outputs sent
    (subst (Means (with_sessions before sessions last)) (sym (given_at g now c s (Some x) some live)) (record {
      places = means.places;
      sessions = keeps;
      owners = same_owners s (with_moved g now c s.sessions) s.greatest (next_zxid s) (≤ℤ_refl s.greatest) means.owners;
      numbers = given_each s (connected_at (Some x) g now c s) (changed_session g.session (moved_to c g.timeout now)) s.sessions refl (moved_number g.session c g.timeout now) means.numbers;
      watches = means.watches;
      last = next ∙ ap (λ (z : ℤ). z +ℤ pos 1) means.last;
    }))

are_below : (s : State) (fresh : ℤ) (xs : List Session) → s.greatest <ℤ fresh → All (IsGiven s) xs → All (λ x. x.number <ℤ fresh) xs
are_below s fresh [] more h = All-nil (λ x. x.number <ℤ fresh)
are_below s fresh (x ∷ xs) more h =
    All-cons (λ y. y.number <ℤ fresh) x xs (below x.number s.greatest fresh (All-head (IsGiven s) x xs h).within more) (are_below s fresh xs more (All-tail (IsGiven s) x xs h))

-- a session that comes is above all others, and owns nothing
next_is_new : (s : State) (fresh : ℤ) (before : Held) → Means before s → s.greatest <ℤ fresh → AreBelow fresh s.sessions × (ephemerals fresh s.nodes ≡ [])
next_is_new s fresh before means more = (are_below s fresh s.sessions more means.numbers, none_owned (ephemerals fresh s.nodes) refl)
  where
    none_owned : (ps : List Path) → ephemerals fresh s.nodes ≡ ps → ps ≡ []
    none_owned [] own = refl
    none_owned (p ∷ ps) own =
        let first = first_found fresh s.nodes p ps means.places.apart own in
        let low : fresh ≤ℤ s.greatest = subst (λ (k : ℤ). k ≤ℤ s.greatest) first.owner (means.owners.given p first.node first.found) in
        clash_ℤ more low

-- a session that is not live, and is given, is the next one
opened_next : (naming : Naming) (s : State) (c : ℕ) (asked : ConnectRequest) (fresh : ℤ) (password : List ℕ) (g : Given)
    → g ≡ given_to s.sessions asked fresh password → (g.session ≡ pos 0 → ⊥) → session_at g.session s.sessions ≡ None → g.session ≡ fresh
opened_next naming s c asked fresh password g given some none =
    is_next s.sessions fresh g (subst (IsGivenTo s.sessions fresh) (sym given) (is_given_to s.sessions asked fresh password)) some none

-- a new session comes
connect_opened : (naming : Naming) (s : State) (c : ℕ) (asked : ConnectRequest) (g : Given) (now : ℤ) (before : Held) (sessions : Sessions) (last : ℤ) (outputs : List Output)
    → Means before s → pos 1 ≤ℤ g.session → s.greatest <ℤ g.session → session_at g.session s.sessions ≡ None → last ≡ before.last +ℤ pos 1 → outputs ≡ answer_connect c asked g ∷ []
    → Keeps sessions (with_session g now c s.sessions) (λ session. ephemerals session s.nodes)
    → Does naming s (connects c asked g now) (with_sessions before sessions last) outputs
unfolding connected_at with_session next_zxid
connect_opened naming s c asked g now before sessions last outputs means positive more none next sent keeps =
    connects_so naming s c asked g now (with_sessions before sessions last) outputs sent
    (subst (Means (with_sessions before sessions last)) (sym (given_at g now c s None (above_zero g.session positive) none)) (record {
      places = means.places;
      sessions = keeps;
      owners = same_owners s (with_session g now c s.sessions) g.session (next_zxid s) (no_more s.greatest g.session more) means.owners;
      numbers = all_given s (connected_at None g now c s) (record { number = g.session; timeout = g.timeout; password = g.password; heard = now; connection = Some c })
          (no_more s.greatest g.session more) (record { above = positive; within = ≤ℤ_refl g.session }) s.sessions means.numbers;
      watches = means.watches;
      last = next ∙ ap (λ (z : ℤ). z +ℤ pos 1) means.last;
    }))
  where
    all_given : (s u : State) (y : Session) → s.greatest ≤ℤ u.greatest → IsGiven u y → (xs : List Session) → All (IsGiven s) xs → All (IsGiven u) (xs ++ y ∷ [])
    all_given s u y more new [] h = All-cons (IsGiven u) y [] new (All-nil (IsGiven u))
    all_given s u y more new (x ∷ xs) h =
        let first = All-head (IsGiven s) x xs h in
        All-cons (IsGiven u) x (xs ++ y ∷ []) (record { above = first.above; within = at_most x.number s.greatest u.greatest first.within more }) (all_given s u y more new xs (All-tail (IsGiven s) x xs h))

-- ---- the ends, from what the code finds (j and timed are numbers as the code has them)

-- the next zxid, as the code has it
pub next_last : (a b : ℤ) → a ≡ b → FitsSigned w64 b → b <ℤ pos (2 ^ 63 - 1) → to_z w64 (of_z w64 (to_z w64 (of_z w64 a) +ℤ pos 1)) ≡ b +ℤ pos 1
next_last a b same fits low = subst (λ (z : ℤ). to_z w64 (of_z w64 (to_z w64 (of_z w64 z) +ℤ pos 1)) ≡ b +ℤ pos 1) (sym same) (omega (arith, ints))

-- a session that the test finds
found_live : (k : ℤ) (xs : List Session) → true ≡ is_some (session_at k xs) → (x : Session) × (session_at k xs ≡ Some x)
found_live k xs h = go (session_at k xs) h
  where
    go : (o : Option Session) → true ≡ is_some o → (x : Session) × (o ≡ Some x)
    go None i = absurd cc
    go (Some x) i = (x, refl)

found_none : (k : ℤ) (xs : List Session) → false ≡ is_some (session_at k xs) → session_at k xs ≡ None
found_none k xs h = go (session_at k xs) h
  where
    go : (o : Option Session) → false ≡ is_some o → o ≡ None
    go None i = refl
    go (Some x) i = absurd cc

pub moved_so : (naming : Naming) (s : State) (c : ℕ) (asked : ConnectRequest) (g : Given) (now timed j last : ℤ) (before joined : Held) (sessions : Sessions) (outputs : List Output)
    → Means before s → session_of c s.sessions ≡ None → (g.session ≡ pos 0 → ⊥) → j ≡ g.session → timed ≡ now → true ≡ is_some (session_at j s.sessions) → outputs ≡ answer_connect c asked g ∷ []
    → joined ≡ with_sessions before sessions before.last → last ≡ before.last +ℤ pos 1
    → ((xs : List Session) (owned : Owning) (x : Session) → Keeps before.sessions xs owned → session_of c xs ≡ None → session_at g.session xs ≡ Some x → Keeps sessions (with_moved g timed c xs) owned)
    → Does naming s (connects c asked g now) (with_sessions joined joined.sessions last) outputs
moved_so naming s c asked g now timed j last before joined sessions outputs means free some same at live sent join next moves =
    let found = found_live g.session s.sessions (subst (λ (k : ℤ). true ≡ is_some (session_at k s.sessions)) same live) in
    subst (λ (h : Held). Does naming s (connects c asked g now) (with_sessions h h.sessions last) outputs) (sym join)
    (connect_moved naming s c asked g now before sessions last found.0 outputs means some found.1 next sent
    (subst (λ (z : ℤ). Keeps sessions (with_moved g z c s.sessions) (λ session. ephemerals session s.nodes)) at
    (moves s.sessions (λ session. ephemerals session s.nodes) found.0 means.sessions free found.1)))

pub opened_so : (naming : Naming) (s : State) (c : ℕ) (asked : ConnectRequest) (fresh : ℤ) (password : List ℕ) (g : Given) (now timed j last : ℤ) (before joined : Held) (sessions : Sessions) (outputs : List Output)
    → Means before s → CanConnect s c fresh → g ≡ given_to s.sessions asked fresh password → (g.session ≡ pos 0 → ⊥) → j ≡ g.session → timed ≡ now → false ≡ is_some (session_at j s.sessions)
    → outputs ≡ answer_connect c asked g ∷ [] → joined ≡ with_sessions before sessions before.last → last ≡ before.last +ℤ pos 1
    → ((xs : List Session) (owned : Owning) → Keeps before.sessions xs owned → session_of c xs ≡ None → AreBelow g.session xs → owned g.session ≡ [] → Keeps sessions (with_session g timed c xs) owned)
    → Does naming s (connects c asked g now) (with_sessions joined joined.sessions last) outputs
opened_so naming s c asked fresh password g now timed j last before joined sessions outputs means can given some same at absent sent join next opens =
    let none = found_none g.session s.sessions (subst (λ (k : ℤ). false ≡ is_some (session_at k s.sessions)) same absent) in
    let number = opened_next naming s c asked fresh password g given some none in
    let more = subst (λ (k : ℤ). s.greatest <ℤ k) (sym number) can.above in
    let new = next_is_new s g.session before means more in
    subst (λ (h : Held). Does naming s (connects c asked g now) (with_sessions h h.sessions last) outputs) (sym join)
    (connect_opened naming s c asked g now before sessions last outputs means (subst (λ (k : ℤ). pos 1 ≤ℤ k) (sym number) can.positive) more none next sent
    (subst (λ (z : ℤ). Keeps sessions (with_session g z c s.sessions) (λ session. ephemerals session s.nodes)) at
    (opens s.sessions (λ session. ephemerals session s.nodes) means.sessions can.free new.0 new.1)))

-- want of memory leaves all as it was
pub connect_failed : (before : Held) (sessions : Sessions)
    → ((xs : List Session) (owned : Owning) → Keeps before.sessions xs owned → Keeps sessions xs owned) → Stays before (with_sessions before sessions before.last)
connect_failed before sessions keeps = λ s means. record {
  places = means.places;
  sessions = keeps s.sessions (λ session. ephemerals session s.nodes) means.sessions;
  owners = means.owners;
  numbers = means.numbers;
  watches = means.watches;
  last = means.last;
}

-- ---- a connection is lost

lost_number : (c : ℕ) (x : Session) → (without_connection c x).number ≡ x.number
unfolding without_connection
lost_number c x = go (has_connection c x)
  where
    go : (b : Bool) → (cond b (record x { connection = None }) x).number ≡ x.number
    go true = refl
    go false = refl

pub lose_done : (naming : Naming) (s : State) (c : ℕ) (before : Held) (sessions : Sessions) (watches : Watches) → Means before s
    → Keeps sessions (map (without_connection c) s.sessions) (λ session. ephemerals session s.nodes) → Watching watches (left_of_others c s.watches)
    → Does naming s (loses c) (record { places = before.places; sessions = sessions; watches = watches; last = before.last }) []
unfolding step lost
lose_done naming s c before sessions watches means keeps watching = record {
  sent = refl;
  means = record {
    places = means.places;
    sessions = keeps;
    owners = record { given = means.owners.given; childless = means.owners.childless; free = means.owners.free };
    numbers = given_each s (lost c s) (without_connection c) s.sessions refl (lost_number c) means.numbers;
    watches = watching;
    last = means.last;
  };
}
