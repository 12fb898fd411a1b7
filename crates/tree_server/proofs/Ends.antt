-- The loss of a connection, and the end of a session.
use Rattle.std.proofs.Common.{◌≡◌, ℕ, ℤ, not, false, pos, ◌+◌, ◌<◌, ◌≤◌, ◌^◌, ◌-◌, ◌+ℤ◌, ◌≤ℤ◌, Bool, true, List, [], ◌∷◌, ◌++◌, length, append-nil, min, map, Option, Some, None, All, refl, sym, ap, ap₂, ◌∙◌, subst, arith}
use Rattle.std.specs.Option.{option_map, option_map_or, is_some}
use Rattle.std.proofs.lemmas.Int.{ints}
use Rattle.tree_state.specs.declared.held.Held.{Held}
use Rattle.tree_state.specs.declared.message.Output.{Output}
use Rattle.tree_state.specs.declared.session.LiveSession.{LiveSession}
use Rattle.tree_state.specs.Changes.{Naming}
use Rattle.tree_state.specs.State.{State, Session, session_at, session_of, without_connection, without_session}
use Rattle.tree_state.specs.Step.{Act, loses, expires, step, lost, connection_at}
use Rattle.tree_state.specs.Trees.{Means, Does}
use Rattle.tree_state.specs.Sessions.{live_of}
use Rattle.tree_state.proofs.SessionLists.{AreDistinct}
use Rattle.store_side.specs.declared.entry.Entry.{Entry}
use Rattle.store_side.specs.declared.entry.Entry.TheVariants.{Lost, Expire}
use Rattle.store_side.specs.Acts.{IsAct}
use Rattle.store_side.specs.Calls.{IsLoss}
use Rattle.store_side.specs.Fitting.{AllCanBeSent, IsShortState}
use Rattle.store_side.specs.Orders.{HasLast, IsNext, IsOver, MayCome}
use Rattle.store_side.specs.Owed.{IsTime, reserve_of, reserves}
use Rattle.store_side.specs.Past.{Past, after_all, password_of, state_of}
use Rattle.store_side.proofs.Appended.{after_one, outputs_one, legal_one, no_connect-front, once_lost, once_expire}
use Rattle.store_side.proofs.CanSend.{all_sent}
use Rattle.store_side.proofs.NoTrace.{NoTrace, IsOthers, step_quiet}
use Rattle.store_side.proofs.Zipping.{zips_one}
use Rattle.tree_server.specs.declared.books.Books.{Books}
use Rattle.tree_server.specs.declared.dues.Due.{Due}
use Rattle.tree_server.specs.Machines.{IsCounted, Stands, Expired, added}
use Rattle.tree_server.specs.Offers.{Puts}
use Rattle.tree_server.specs.Times.{AreDues, IsTimely, RemovesDue, sessions_after}
use Rattle.tree_server.proofs.DuesKept.{dues_gone, dues_lost, distinct_gone, distinct_lost, timely_gone, timely_lost}
use Rattle.tree_server.proofs.LiveRead.{is_read, read_due}
use Rattle.tree_server.proofs.Offered.{lost_act, lost_quiet, next_lost, step_lost}
use Rattle.tree_server.proofs.Reserves.{reserve_on, reserve_off, reserves_gone, reserves_lost}
use Rattle.tree_server.proofs.SessionsAfter.{sessions_step, greatest_expired, last_step}
use Rattle.tree_server.proofs.Standing.{Grows, Holding, Booked, Follows, holding, counted_more, stands_more}

-- ---- one entry, behind which less is owed

stands_less : {M : Type 0} (f : M → List ℕ → ℕ → List ℕ → Type 0) (n n' : M) (keeps keeps' : List Entry → Type 0) (room room' : ℕ)
    (held held' : Held) (books books' : Books)
    (past : Past) (entry : Entry) (act : Act) (t : State) (owed : ℕ)
    → n' ≡ n → Stands (f n) keeps room held books past → Grows past (entry ∷ []) (act ∷ [])
    → after_all past.naming (state_of past) (act ∷ []) ≡ t
    → Means held' t → Puts keeps room keeps' room' entry → owed + 1 ≤ books.owed → owed ≡ reserves t.sessions
    → Booked books books' (books.entries + 1) owed books.greatest → t.greatest ≡ (state_of past).greatest
    → (state_of past).last ≤ℤ t.last → t.last ≤ℤ ((state_of past).last +ℤ pos 1)
    → AreDues books'.dues t.sessions → All IsTimely t.sessions → AreDistinct t.sessions
    → Stands (f n') keeps' room' held' books' (added (entry ∷ []) (act ∷ []) past)
stands_less f n n' keeps keeps' room room' held held' books books' past entry act t owed named s g at m puts less owes b e low high dues
    timely distinct =
    let w = s.within in
    let r = s.roomy in
    let c = s.counted in
    let l = s.limit in
    let i = s.small in
    let q = puts.room_left in
    let a = s.greatest in
    let follows : Follows keeps' room' held' books'.dues (past.order ++ entry ∷ []) owed t = record {
      means = m;
      kept = puts.kept (omega arith) past.order (omega arith) s.kept;
      roomy = omega arith;
      owes = owes;
      dues_are = dues;
      timely = timely;
      distinct = distinct;
    } in
    let top : Booked books books' (books.entries + length (entry ∷ [])) owed t.greatest =
    record { key = b.key; limit = b.limit; counts = b.counts; owes = b.owes; tops = b.tops ∙ a ∙ sym e } in
    let k = holding (f n) keeps keeps' room room' held held' books books' past (entry ∷ []) t owed s top follows (omega arith)
    (counted_more t.greatest t.greatest books.entries 1 (subst (λ (y : ℤ). IsCounted y books.entries) (a ∙ sym e) s.given)
    (omega (arith, ints)) (omega (arith, ints)) (omega arith))
    (counted_more (state_of past).last t.last books.entries 1 s.drawn low high (omega arith)) in
    stands_more f n n' keeps keeps' room room' held held' books books' past (entry ∷ []) (act ∷ []) named s g
    (subst (Holding keeps' room' held' books' past (past.order ++ entry ∷ [])) (sym at) k)

-- the books then
less_booked : (books mid books' : Books) (owes owed : ℕ) (dues : List Due) → mid ≡ record books { owed = owes; dues = dues } → owes ≡ owed
    → books' ≡ record mid { entries = min (mid.entries + 1) (2 ^ 64 - 1) } → books.entries + 1 < 2 ^ 64
    → Booked books books' (books.entries + 1) owed books.greatest
less_booked books mid books' owes owed dues m o e small =
    let i : mid.entries ≡ books.entries = ap (λ (b : Books). b.entries) m in
    let n : books'.entries ≡ min (mid.entries + 1) (2 ^ 64 - 1) = ap (λ (b : Books). b.entries) e in
    record {
      key = ap (λ (b : Books). b.passwords) e ∙ ap (λ (b : Books). b.passwords) m;
      limit = ap (λ (b : Books). b.limit) e ∙ ap (λ (b : Books). b.limit) m;
      counts = omega arith;
      owes = ap (λ (b : Books). b.owed) e ∙ ap (λ (b : Books). b.owed) m ∙ o;
      tops = ap (λ (b : Books). b.greatest) e ∙ ap (λ (b : Books). b.greatest) m;
    }

-- ---- a connection is lost

-- nothing more
added_none : (past : Past) → past ≡ added [] [] past
added_none past =
    ap₂ {C = Past} (λ (o : List Entry) (a : List Act). record past { order = o; acts = a }) (sym (append-nil past.order))
    (sym (append-nil past.acts))

no_loss : (past : Past) (c : ℕ) → session_of c (state_of past).sessions ≡ None → IsLoss past c [] []
unfolding IsLoss
no_loss past c none = (refl, λ h. let l = h.live in absurd cc)

-- whether it has a session, as the code tests it
is_none_of : (o : Option ℤ) (r : Bool) → is_some o ≡ not r → r ≡ true → o ≡ None
is_none_of None r e h = refl
is_none_of (Some k) r e h = let f : not r ≡ false = ap not h in absurd cc

is_some_of : (o : Option ℤ) (r : Bool) → is_some o ≡ not r → r ≡ false → (k : ℤ) × (o ≡ Some k)
is_some_of None r e h = let f : not r ≡ true = ap not h in absurd cc
is_some_of (Some k) r e h = (k, refl)

-- the connection has no session
pub lost_none : (named : List ℕ → ℕ → List ℕ → Type 0) (keeps : List Entry → Type 0) (room : ℕ) (held : Held) (books : Books)
    (past : Past) (c : ℕ) (o : Option ℤ) (r : Bool)
    → Stands named keeps room held books past → ((s : State) → Means held s → o ≡ session_of c s.sessions) → is_some o ≡ not r → r ≡ true
    → (entries : List Entry) × (acts : List Act) × IsLoss past c entries acts × (new : Past) × (new ≡ added entries acts past)
    × Stands named keeps room held books new
lost_none named keeps room held books past c o r s reads test none = (
  [],
  [],
  no_loss past c (sym (reads (state_of past) s.means)
      ∙ is_none_of o r test none),
  added [] [] past,
  refl,
  subst (Stands named keeps room held books) (added_none past) s,
)

lost_after : (past : Past) (c : ℕ) → after_all past.naming (state_of past) (loses c ∷ []) ≡ lost c (state_of past)
lost_after past c = after_one past.naming (state_of past) (loses c) ∙ step_lost past.naming (state_of past) c

lost_grows : (named : List ℕ → ℕ → List ℕ → Type 0) (keeps : List Entry → Type 0) (room : ℕ) (held : Held) (books : Books) (past : Past)
    (c : ℕ) (k : ℤ)
    → Stands named keeps room held books past → session_of c (state_of past).sessions ≡ Some k → Grows past (Lost c ∷ []) (loses c ∷ [])
lost_grows named keeps room held books past c k s live = record {
  are_acts = zips_one IsAct (Lost c) (loses c) (lost_act c);
  legal =
      legal_one past.naming (password_of past.key) (state_of past) (Lost c) (loses c)
      (next_lost past.naming (password_of past.key) (state_of past) c k live);
  once = once_lost past.order c s.once;
  quiet =
      λ e none. subst (NoTrace e) (sym (lost_after past c))
      (lost_quiet past.naming e c (state_of past) (s.quiet e (no_connect-front e past.order (Lost c ∷ []) none)));
}

is_loss : (past : Past) (c : ℕ) (k : ℤ) → session_of c (state_of past).sessions ≡ Some k → IsLoss past c (Lost c ∷ []) (loses c ∷ [])
unfolding IsLoss
is_loss past c k live = (record { session = k; live = live }, refl, refl)

-- the connection has a session
pub lost_one : {M : Type 0} (f : M → List ℕ → ℕ → List ℕ → Type 0) (n n' : M) (keeps keeps' : List Entry → Type 0) (room room' : ℕ)
    (held after held' : Held) (books books' : Books)
    (past : Past) (c : ℕ) (o : Option ℤ) (r : Bool) (owes : ℕ)
    → Stands (f n) keeps room held books past → ((s : State) → Means held s → o ≡ session_of c s.sessions) → is_some o ≡ not r → r ≡ false
    → n' ≡ n → ((naming : Naming) (s : State) → Means held s → Does naming s (loses c) after []) → held' ≡ after → owes ≡ books.owed - 1
    → Puts keeps room keeps' room' (Lost c)
    → books' ≡ record books { owed = owes; entries = min (books.entries + 1) (2 ^ 64 - 1) }
    → (entries : List Entry) × (acts : List Act) × IsLoss past c entries acts × (new : Past) × (new ≡ added entries acts past)
    × Stands (f n') keeps' room' held' books' new
unfolding lost
lost_one f n n' keeps keeps' room room' held after held' books books' past c o test owes s reads is some named does same owed puts put =
    let t = state_of past in
    let one = is_some_of o test is some in
    let k = one.0 in
    let live : session_of c t.sessions ≡ Some k = sym (reads t s.means) ∙ one.1 in
    let m : Means held' (lost c t) =
    subst (λ (h : Held). Means h (lost c t)) (sym same)
    (subst (Means after) (step_lost past.naming t c) (does past.naming t s.means).means) in
    let r = reserves_lost c k t.sessions s.distinct s.means.sessions.one live in
    let w = s.within in
    let l = s.limit in
    let i = s.small in
    let a = s.owes in
    let b = less_booked books (record books { owed = owes }) books' owes (books.owed - 1) books.dues refl owed put (omega arith) in (
      Lost c ∷ [],
      loses c ∷ [],
      is_loss past c k live,
      added (Lost c ∷ []) (loses c ∷ []) past,
      refl,
      stands_less f n n' keeps keeps' room room' held held' books books' past (Lost c) (loses c) (lost c t) (books.owed - 1) named s
          (lost_grows (f n) keeps room held books past c k s live) (lost_after past c) m puts (omega arith) (omega arith) b refl
          (omega (arith, ints)) (omega (arith, ints))
          (subst (λ (x : List Due). AreDues x (map (without_connection c) t.sessions)) (sym (ap (λ (x : Books). x.dues) put))
          (dues_lost c t.sessions books.dues s.distinct s.dues))
          (timely_lost c t.sessions s.timely) (distinct_lost c t.sessions s.distinct),
    )

-- ---- a session ends

-- what a tree means is as short as it keeps it
short_state : (held : Held) (s : State) → Means held s → IsShortState s
short_state held s m = record { paths = m.places.short; contents = λ p n found. (m.places.steady p n found).short }

expire_act : (session zxid now : ℤ) → IsAct (Expire session zxid now) (expires session now)
unfolding IsAct
expire_act session zxid now = refl

expire_others : (e : ℕ) (session now : ℤ) → IsOthers e (expires session now)
unfolding IsOthers
expire_others e session now = tt

next_expire : (naming : Naming) (passwords : ℤ → List ℕ) (s : State) (session zxid now : ℤ) → IsOver s session now
    → zxid ≡ (step naming s (expires session now)).state.last
    → IsNext naming passwords s (Expire session zxid now) (expires session now)
unfolding MayCome HasLast
next_expire naming passwords s session zxid now over last = record { may = over; last_is = last }

expire_grows : (named : List ℕ → ℕ → List ℕ → Type 0) (keeps : List Entry → Type 0) (room : ℕ) (held : Held) (books : Books) (past : Past)
    (session zxid now : ℤ)
    → Stands named keeps room held books past → IsOver (state_of past) session now
    → zxid ≡ (step past.naming (state_of past) (expires session now)).state.last
    → Grows past (Expire session zxid now ∷ []) (expires session now ∷ [])
expire_grows named keeps room held books past session zxid now s over last =
    let act = expires session now in
    record {
      are_acts = zips_one IsAct (Expire session zxid now) act (expire_act session zxid now);
      legal =
          legal_one past.naming (password_of past.key) (state_of past) (Expire session zxid now) act
          (next_expire past.naming (password_of past.key) (state_of past) session zxid now over last);
      once = once_expire past.order session zxid now s.once;
      quiet = λ e none. subst (NoTrace e) (sym (after_one past.naming (state_of past) act))
          (step_quiet e past.naming (state_of past) act (expire_others e session now)
          (s.quiet e (no_connect-front e past.order (Expire session zxid now ∷ []) none))).after;
    }

expire_sessions : (naming : Naming) (s : State) (session now : ℤ)
    → (step naming s (expires session now)).state.sessions ≡ without_session session s.sessions
unfolding sessions_after
expire_sessions naming s session now = sessions_step naming s (expires session now)

owes_some : (x : Session) (o : Option ℕ) → x.connection ≡ o → 1 ≤ reserve_of x
owes_some x None e = let i = reserve_off x e in omega arith
owes_some x (Some c) e = let i = reserve_on x c e in omega arith

owes_so : (x : Session) (o : Option ℕ) → o ≡ x.connection → option_map_or (λ c. 2) o 1 ≡ reserve_of x
unfolding reserve_of
owes_so x o e = ap (λ (c : Option ℕ). option_map_or (λ d. 2) c 1) e

-- the connection that had it
ends_on : (k : ℤ) (xs : List Session) (x : Session) (live : LiveSession) → session_at k xs ≡ Some x → live.connection ≡ x.connection
    → live.connection ≡ connection_at (session_at k xs)
unfolding connection_at
ends_on k xs x live at on = on ∙ sym (ap connection_at at)

pub expired_so : {M : Type 0} (f : M → List ℕ → ℕ → List ℕ → Type 0) (n n' : M) (keeps keeps' : List Entry → Type 0) (room room' : ℕ)
    (held after held' : Held) (books books' : Books)
    (past : Past) (session zxid now : ℤ) (sent : List Output) (o : Option LiveSession) (live : LiveSession) (due : Due) (dues : List Due)
    (less owes : ℕ)
    → Stands (f n) keeps room held books past → IsOver (state_of past) session now
    → ((s : State) → Means held s → o ≡ option_map live_of (session_at session s.sessions)) → o ≡ Some live
    → n' ≡ n
    → ((naming : Naming) (s : State) (x : Session) → Means held s → session_at session s.sessions ≡ Some x → Does naming s
    (expires session now) after sent) → held' ≡ after
    → due.session ≡ session → (IsTime live.heard → due.at ≡ live.heard +ℤ live.timeout) → RemovesDue due books.dues dues
    → less ≡ option_map_or (λ c. 2) live.connection 1 → owes ≡ books.owed - less → zxid ≡ after.last
    → Puts keeps room keeps' room' (Expire session zxid now)
    → books' ≡ record books { owed = owes; dues = dues; entries = min (books.entries + 1) (2 ^ 64 - 1) }
    → (new : Past) × Expired past session now sent live.connection new × Stands (f n') keeps' room' held' books' new
expired_so f n n' keeps keeps' room room' held after held' books books' past session zxid now sent o live due dues less owes s over reads
    some named does same its at removes lesser owed last puts put =
    let t = state_of past in
    let x = over.one in
    let act = expires session now in
    let d = does past.naming t x s.means over.live in
    let u = (step past.naming t act).state in
    let m : Means held' u = subst (λ (h : Held). Means h u) (sym same) d.means in
    let read = is_read held t session o live x s.means reads some over.live in
    let is = read_due due live x session t.sessions over.live s.timely read its at in
    let e = expire_sessions past.naming t session now in
    let p = lesser ∙ owes_so x live.connection read.connection in
    let r = reserves_gone session t.sessions x s.distinct over.live in
    let q = owes_some x x.connection refl in
    let v = ap reserves e in
    let w = s.within in
    let l = s.limit in
    let i = s.small in
    let a = s.owes in
    let steps = last_step past.naming t act in
    let h : zxid ≡ u.last = last ∙ d.means.last in
    let b =
    less_booked books (record books { owed = owes; dues = dues }) books' owes (books.owed - less) dues refl owed put (omega arith) in (
      added (Expire session zxid now ∷ []) (act ∷ []) past,
      record {
        zxid = zxid;
        over = over;
        last = h;
        connection_is = ends_on session t.sessions x live over.live read.connection;
        sent_is = d.sent ∙ sym (outputs_one past.naming t act);
        can_send = subst AllCanBeSent (sym d.sent) (all_sent.expired past.naming t session now (short_state held t s.means));
        new_is = refl;
      },
      stands_less f n n' keeps keeps' room room' held held' books books' past (Expire session zxid now) act u (books.owed - less) named s
          (expire_grows (f n) keeps room held books past session zxid now s over h) (after_one past.naming t act) m puts (omega arith)
          (omega arith) b
          (greatest_expired past.naming t session now) steps.0 steps.1
          (subst (AreDues books'.dues) (sym e)
          (subst (λ (y : List Due). AreDues y (without_session session t.sessions)) (sym (ap (λ (y : Books). y.dues) put))
          (dues_gone session t.sessions x books.dues dues s.distinct over.live s.dues
          (subst (λ (y : Due). RemovesDue y books.dues dues) is removes))))
          (subst (All IsTimely) (sym e) (timely_gone session t.sessions s.timely))
          (subst AreDistinct (sym e) (distinct_gone session t.sessions s.distinct)),
    )
