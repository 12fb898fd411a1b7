-- Who has a session keeps it while others' frames are taken.
use Rattle.std.proofs.Common.{◌≡◌, ◌≢◌, ◌⊎◌, ℕ, ℤ, pos, ◌==◌, Bool, true, false, cond, List, [], ◌∷◌, ◌++◌, map, Option, Some, None, int_eq, refl, sym, ap, ap₂, ◌∙◌, subst, inl, inr, append-nil}
use Rattle.std.specs.Option.{option_map, option_or}
use Rattle.std.proofs.lemmas.Bool.{cases_Bool, eqb-true, eq-eqb, both_ways}
use Rattle.zk_messages.specs.declared.request.Request.{Request}
use Rattle.zk_messages.specs.declared.request.Request.TheVariants as requests
use Rattle.tree_state.specs.declared.session.Given.{Given}
use Rattle.tree_state.specs.State.{State, Session, has_connection, session_of, is_numbered, session_at, changed_session, change_session, heard_at, moved_to, without_session, without_connection}
use Rattle.tree_state.specs.Commands.{Command, IsCommand, Asks, close}
use Rattle.tree_state.specs.Changes.{Naming}
use Rattle.tree_state.specs.Step.{Act, connects, asks as asking, loses, expires, step, with_session, with_moved, connected_at, connected}
use Rattle.tree_state.specs.Sessions.{IsOnOne}
use Rattle.tree_state.proofs.SessionLists.{AreDistinct, same_number, own_number, is_number, number_of, has_its, is_on, not_off, at_changed, at_without, at_more, at_first}
use Rattle.tree_state.proofs.SessionTies.{changed_yes, changed_no, keeps_number, stays, loses as loses_it}
use Rattle.store_side.specs.declared.entry.Entry.{Entry}
use Rattle.store_side.specs.declared.entry.Entry.TheVariants.{Connect, Take, Lost, Expire}
use Rattle.store_side.specs.declared.ending.StoreEnding.{StoreEnding}
use Rattle.store_side.specs.declared.ending.StoreEnding.TheVariants as endings
use Rattle.store_side.specs.Zips.{Zips}
use Rattle.store_side.specs.Acts.{AreActs, IsAct}
use Rattle.store_side.specs.Out.{outputs, to_connection}
use Rattle.store_side.specs.Orders.{HasNoConnect, HasSession, IsFree, LegalFrom, MayCome}
use Rattle.store_side.specs.Past.{after_all}
use Rattle.store_side.specs.Calls.{AreFrames, AreRequests, IsMoved, ending_after, ending_by, ending_by_request, lost_first}
use Rattle.store_side.proofs.Appended.{no_connect-append}
use Rattle.store_side.proofs.NoTrace.{IsOthers, NoTrace, QuietNext, no_connection_none, step_quiet}
use Rattle.tree_server.specs.Times.{sessions_after, sessions_asked, sessions_of}
use Rattle.tree_server.proofs.SessionsAfter.{sessions_step}

-- A frame of the connection is taken in this state; the connection that had the session, if one had it, is lost before.
pub record FrameTaken (naming : Naming) (passwords : ℤ → List ℕ) (s : State) (c : ℕ) (now : ℤ) (body : List ℕ) (moved : Option ℕ)
    (frames : List Entry) (acts : List Act) : Type 0 where
  pub spelled : AreFrames c now frames (body ∷ [])
  pub moves : IsMoved s moved frames
  pub are_acts : AreActs (lost_first moved ++ frames) acts
  pub legal : LegalFrom naming passwords s (lost_first moved ++ frames) acts
  pub one : IsOnOne s.sessions
  pub distinct : AreDistinct s.sessions

-- ---- who has a session among these

record Has (xs : List Session) (d : ℕ) : Type 0 where
  session : ℤ
  live : session_of d xs ≡ Some session

-- a live session with this connection is one
has_live : (d : ℕ) (k : ℤ) (xs : List Session) (x : Session) → session_at k xs ≡ Some x → x.connection ≡ Some d → Has xs d
has_live d k xs x live on = go (session_of d xs) refl
  where
    go : (o : Option ℤ) → session_of d xs ≡ o → Has xs d
    go (Some j) e = record { session = j; live = e }
    go None e = absurd (not_off d k xs x live on e)

-- a session of another connection is not on this one
off_other : (c d : ℕ) (x : Session) → d ≢ c → x.connection ≡ Some c → has_connection d x ≡ false
off_other c d x apart on = elim (cases_Bool (has_connection d x)) [
  | inl has ↦ let its = has_its d x has in let same : d ≡ c = cc in absurd (apart same)
  | inr off ↦ off
]

-- ---- each has what it had: sessions that are changed

same_of : (d : ℕ) (f : Session → Session) (xs : List Session) → ((x : Session) → (f x).number ≡ x.number)
    → ((x : Session) → has_connection d (f x) ≡ has_connection d x) → session_of d (map f xs) ≡ session_of d xs
unfolding session_of
same_of d f [] numbers on = refl
same_of d f (x ∷ xs) numbers on =
    ap₂ (λ (b : Bool) (z : ℤ). cond b (Some z) (session_of d (map f xs))) (on x) (numbers x)
    ∙ ap (λ (o : Option ℤ). cond (has_connection d x) (Some x.number) o) (same_of d f xs numbers on)

distinct_changed : (f : Session → Session) (xs : List Session) → ((x : Session) → (f x).number ≡ x.number) → AreDistinct xs
    → AreDistinct (map f xs)
unfolding AreDistinct
distinct_changed f [] numbers d = tt
distinct_changed f (x ∷ xs) numbers d = (
  ap (λ (z : ℤ). session_at z (map f xs)) (numbers x) ∙ at_changed f numbers x.number xs ∙ ap (option_map f) d.0,
  distinct_changed f xs numbers d.1,
)

changed_number : (k : ℤ) (f : Session → Session) → ((x : Session) → (f x).number ≡ x.number) → (x : Session)
    → (changed_session k f x).number ≡ x.number
changed_number k f keeps x = elim (cases_Bool (is_numbered k x)) [
  | inl numbered ↦ ap (λ (y : Session). y.number) (changed_yes k f x numbered) ∙ keeps x
  | inr other ↦ ap (λ (y : Session). y.number) (changed_no k f x other)
]

at_change : (k j : ℤ) (f : Session → Session) (xs : List Session) → ((x : Session) → (f x).number ≡ x.number)
    → session_at j (change_session k f xs) ≡ option_map (changed_session k f) (session_at j xs)
unfolding change_session
at_change k j f xs keeps = at_changed (changed_session k f) (changed_number k f keeps) j xs

-- a session is heard
heard_on : (d : ℕ) (k now : ℤ) (x : Session) → has_connection d (changed_session k (heard_at now) x) ≡ has_connection d x
unfolding has_connection heard_at
heard_on d k now x = elim (cases_Bool (is_numbered k x)) [
  | inl numbered ↦ ap (has_connection d) (changed_yes k (heard_at now) x numbered)
  | inr other ↦ ap (has_connection d) (changed_no k (heard_at now) x other)
]

heard_of : (d : ℕ) (k now : ℤ) (xs : List Session) → session_of d (change_session k (heard_at now) xs) ≡ session_of d xs
unfolding change_session heard_at
heard_of d k now xs =
    same_of d (changed_session k (heard_at now)) xs (changed_number k (heard_at now) (λ x. refl)) (heard_on d k now)

-- a connection is lost
lost_on : (c d : ℕ) → d ≢ c → (x : Session) → has_connection d (without_connection c x) ≡ has_connection d x
lost_on c d apart x = elim (cases_Bool (has_connection c x)) [
  | inl has ↦
      let on = has_its c x has in
      ap (has_connection d) (loses_it c x on) ∙ no_connection_none d x ∙ sym (off_other c d x apart on)
  | inr off ↦ ap (has_connection d) (stays c x off)
]

lost_of : (c d : ℕ) → d ≢ c → (xs : List Session) → session_of d (map (without_connection c) xs) ≡ session_of d xs
lost_of c d apart xs = same_of d (without_connection c) xs (keeps_number c) (lost_on c d apart)

-- a session goes that is another one
gone_has : (d : ℕ) (k j : ℤ) (xs : List Session) → AreDistinct xs → session_of d xs ≡ Some j → j ≢ k → Has (without_session k xs) d
gone_has d k j xs distinct live apart =
    let r = is_on d j xs distinct live in
    let other : int_eq j k ≡ false = elim (cases_Bool (int_eq j k)) [ inl same ↦ absurd (apart (same_number j k same)) | inr e ↦ e ] in
    has_live d j (without_session k xs) r.session (at_without k j xs other ∙ r.live) r.on

-- two connections have two sessions
own_apart : (c d : ℕ) (k j : ℤ) (xs : List Session) → AreDistinct xs → d ≢ c → session_of c xs ≡ Some k → session_of d xs ≡ Some j → j ≢ k
own_apart c d k j xs distinct apart live its same =
    let r = is_on c k xs distinct live in
    let q = is_on d j xs distinct its in
    let at : session_at k xs ≡ Some q.session = subst (λ (z : ℤ). session_at z xs ≡ Some q.session) same q.live in
    let first = r.live in
    let on = r.on in
    let off = q.on in
    let one : d ≡ c = cc in
    apart one

-- a session is opened
abbrev new_session : Given → ℤ → ℕ → Session
new_session given now c =
    record { number = given.session; timeout = given.timeout; password = given.password; heard = now; connection = Some c }

opened_has : (c d : ℕ) (given : Given) (now j : ℤ) (xs : List Session) → AreDistinct xs → session_of d xs ≡ Some j
    → Has (with_session given now c xs) d
unfolding with_session
opened_has c d given now j xs distinct live =
    let r = is_on d j xs distinct live in
    let x = new_session given now c in
    has_live d j (xs ++ x ∷ []) r.session (at_more j x xs ∙ ap (λ (o : Option Session). option_or o (session_at j (x ∷ []))) r.live) r.on

own_opened : (c : ℕ) (given : Given) (now : ℤ) (xs : List Session) → session_at given.session xs ≡ None
    → Has (with_session given now c xs) c
unfolding with_session
own_opened c given now xs new =
    let x = new_session given now c in
    let k = given.session in
    has_live c k (xs ++ x ∷ []) x
    (at_more k x xs ∙ ap (λ (o : Option Session). option_or o (session_at k (x ∷ []))) new ∙ at_first k x [] (own_number x)) refl

-- a session moves that had no connection
moved_has : (c d : ℕ) (given : Given) (now j : ℤ) (x : Session) (xs : List Session) → AreDistinct xs → session_at given.session xs ≡ Some x
    → x.connection ≡ None → session_of d xs ≡ Some j → Has (with_moved given now c xs) d
unfolding with_moved moved_to
moved_has c d given now j x xs distinct at free live =
    let r = is_on d j xs distinct live in
    let k = given.session in
    let f = moved_to c given.timeout now in
    elim (cases_Bool (is_numbered k r.session)) [
      | inl numbered ↦
          let n : j ≡ k = sym (number_of j xs r.session r.live) ∙ is_number k r.session numbered in
          let l : session_at k xs ≡ Some r.session = subst (λ (z : ℤ). session_at z xs ≡ Some r.session) n r.live in
          let on = r.on in
          absurd cc
      | inr other ↦
          has_live d j (change_session k f xs) r.session
          (at_change k j f xs (λ y. refl) ∙ ap (option_map (changed_session k f)) r.live ∙ ap Some (changed_no k f r.session other)) r.on
    ]

own_moved : (c : ℕ) (given : Given) (now : ℤ) (x : Session) (xs : List Session) → session_at given.session xs ≡ Some x
    → Has (with_moved given now c xs) c
unfolding with_moved moved_to
own_moved c given now x xs at =
    let k = given.session in
    let f = moved_to c given.timeout now in
    let numbered : is_numbered k x ≡ true = subst (λ (z : ℤ). is_numbered z x ≡ true) (number_of k xs x at) (own_number x) in
    has_live c k (change_session k f xs) (f x)
    (at_change k k f xs (λ y. refl) ∙ ap (option_map (changed_session k f)) at ∙ ap Some (changed_yes k f x numbered)) refl

-- ---- what a request does to the sessions: it closes its session, or that is heard

close_or_heard : (command : Command)
    → (command ≡ close) ⊎ ((k now : ℤ) (xs : List Session) → sessions_asked k command now xs ≡ change_session k (heard_at now) xs)
unfolding sessions_asked
close_or_heard close = inl refl
close_or_heard command = inr (λ k now xs. refl)

close_gone : (k now : ℤ) (xs : List Session) → sessions_asked k close now xs ≡ without_session k xs
unfolding sessions_asked
close_gone k now xs = refl

-- only a closeSession is asked by one
closes : (r : Request) → IsCommand r close → r ≡ requests.Close
unfolding IsCommand Asks
closes r (inl (code, h, e)) = absurd cc
closes requests.Close (inr h) = refl
closes r (inr h) = absurd h.1

-- a request of another connection
asked_has : (c d : ℕ) (command : Command) (now j : ℤ) (o : Option ℤ) (xs : List Session) → AreDistinct xs → d ≢ c → session_of c xs ≡ o
    → session_of d xs ≡ Some j → Has (sessions_of o command now xs) d
unfolding sessions_of
asked_has c d command now j None xs distinct apart own live = record { session = j; live = live }
asked_has c d command now j (Some k) xs distinct apart own live = elim (close_or_heard command) [
  | inl closing ↦
      let r = gone_has d k j xs distinct live (own_apart c d k j xs distinct apart own live) in
      record {
        session = r.session;
        live = ap (λ (a : Command). session_of d (sessions_asked k a now xs)) closing ∙ ap (session_of d) (close_gone k now xs) ∙ r.live;
      }
  | inr heard ↦ record { session = j; live = ap (session_of d) (heard k now xs) ∙ heard_of d k now xs ∙ live }
]

-- a request of its own that closes nothing
own_asked_has : (c : ℕ) (command : Command) (now j : ℤ) (xs : List Session) → (command ≡ close → ⊥) → session_of c xs ≡ Some j
    → Has (sessions_of (session_of c xs) command now xs) c
unfolding sessions_of
own_asked_has c command now j xs goes_on live = elim (close_or_heard command) [
  | inl closing ↦ absurd (goes_on closing)
  | inr heard ↦ record {
    session = j;
    live =
        ap (λ (o : Option ℤ). session_of c (sessions_of o command now xs)) live ∙ ap (session_of c) (heard j now xs)
        ∙ heard_of c j now xs ∙ live;
  }
]

-- ---- what a connect does to them

connected_at_has : (c d : ℕ) (given : Given) (now j : ℤ) (s : State) (o : Option Session) → session_at given.session s.sessions ≡ o
    → IsFree o → AreDistinct s.sessions → session_of d s.sessions ≡ Some j → Has (connected_at o given now c s).sessions d
unfolding connected_at IsFree
connected_at_has c d given now j s None at free distinct live = opened_has c d given now j s.sessions distinct live
connected_at_has c d given now j s (Some x) at free distinct live = moved_has c d given now j x s.sessions distinct at free live

connected_has : (c d : ℕ) (given : Given) (now j : ℤ) (s : State) → IsFree (session_at given.session s.sessions) → AreDistinct s.sessions
    → session_of d s.sessions ≡ Some j → Has (connected given now c s).sessions d
unfolding connected
connected_has c d given now j s free distinct live = go (int_eq given.session (pos 0))
  where
    go : (b : Bool) → Has (cond b s (connected_at (session_at given.session s.sessions) given now c s)).sessions d
    go true = record { session = j; live = live }
    go false = connected_at_has c d given now j s (session_at given.session s.sessions) refl free distinct live

own_connected_at : (c : ℕ) (given : Given) (now : ℤ) (s : State) (o : Option Session) → session_at given.session s.sessions ≡ o
    → Has (connected_at o given now c s).sessions c
unfolding connected_at
own_connected_at c given now s None at = own_opened c given now s.sessions at
own_connected_at c given now s (Some x) at = own_moved c given now x s.sessions at

own_connected : (c : ℕ) (given : Given) (now : ℤ) (s : State) → int_eq given.session (pos 0) ≡ false
    → Has (connected given now c s).sessions c
unfolding connected
own_connected c given now s given_one =
    subst (λ (b : Bool). Has (cond b s (connected_at (session_at given.session s.sessions) given now c s)).sessions c) (sym given_one)
    (own_connected_at c given now s (session_at given.session s.sessions) refl)

-- ---- steps

after_step : (naming : Naming) (s : State) (act : Act) (d : ℕ) → Has (sessions_after s act) d → HasSession (step naming s act).state d
after_step naming s act d h = record { session = h.session; live = ap (session_of d) (sessions_step naming s act) ∙ h.live }

-- another connection is lost
pub lost_keeps : (naming : Naming) (s : State) (c d : ℕ) → d ≢ c → HasSession s d → HasSession (step naming s (loses c)).state d
unfolding sessions_after
lost_keeps naming s c d apart h =
    after_step naming s (loses c) d (record { session = h.session; live = lost_of c d apart s.sessions ∙ h.live })

lost_distinct : (naming : Naming) (s : State) (c : ℕ) → AreDistinct s.sessions → AreDistinct (step naming s (loses c)).state.sessions
unfolding sessions_after
lost_distinct naming s c h =
    subst AreDistinct (sym (sessions_step naming s (loses c))) (distinct_changed (without_connection c) s.sessions (keeps_number c) h)

-- another session expires
pub expired_keeps : (naming : Naming) (s : State) (session now : ℤ) (d : ℕ) → IsOnOne s.sessions → AreDistinct s.sessions → HasSession s d
    → session_of d s.sessions ≢ Some session → HasSession (step naming s (expires session now)).state d
unfolding sessions_after
expired_keeps naming s session now d one distinct h apart =
    after_step naming s (expires session now) d
    (gone_has d session h.session s.sessions distinct h.live (λ e. apart (h.live ∙ ap Some e)))

pub expired_quiet : (naming : Naming) (s : State) (session now : ℤ) (d : ℕ) → NoTrace d s
    → to_connection d (step naming s (expires session now)).outputs ≡ []
unfolding IsOthers
expired_quiet naming s session now d n = (step_quiet d naming s (expires session now) tt n).outputs_are

-- ---- the entry of a frame

-- it is of this connection
unfoldable IsOf : ℕ → Entry → Type 0
IsOf c (Connect d asked session timeout password zxid now) = d ≡ c
IsOf c (Take d xid request zxid now) = d ≡ c
IsOf c (Lost d) = ⊥
IsOf c (Expire session zxid now) = ⊥

-- others keep what they have
entry_keeps : (naming : Naming) (passwords : ℤ → List ℕ) (s : State) (c d : ℕ) (e : Entry) (act : Act) → IsOf c e → IsAct e act
    → MayCome passwords s e → AreDistinct s.sessions → d ≢ c → HasSession s d → HasSession (step naming s act).state d
unfolding IsOf IsAct MayCome sessions_after
entry_keeps naming passwords s c d (Connect x asked session timeout password zxid now) act of is may distinct apart h =
    let given : Given = record { session = session; timeout = timeout; password = password } in
    subst (λ (a : Act). HasSession (step naming s a).state d) (sym is)
    (after_step naming s (connects x asked given now) d (connected_has x d given now h.session s may.free distinct h.live))
entry_keeps naming passwords s c d (Take x xid request zxid now) act of is may distinct apart h =
    subst (λ (a : Act). HasSession (step naming s a).state d) (sym is.is)
    (after_step naming s (asking x xid is.command now) d
    (asked_has x d is.command now h.session (session_of x s.sessions) s.sessions distinct (λ e. apart (e ∙ of)) refl h.live))
entry_keeps naming passwords s c d (Lost x) act of is may distinct apart h = absurd of
entry_keeps naming passwords s c d (Expire session zxid now) act of is may distinct apart h = absurd of

given_one : (session : ℤ) (e : StoreEnding) (b : Bool) → cond b (Some e) None ≡ None → b ≡ false
given_one session e true h = absurd cc
given_one session e false h = refl

open_request : (r : Request) → ending_by_request r ≡ None → r ≡ requests.Close → ⊥
unfolding ending_by_request
open_request r goes_on closing =
    let e : ending_by_request r ≡ Some endings.SessionClosed = ap ending_by_request closing in cc

-- and so does its own connection, where it does not end by that
entry_has : (naming : Naming) (passwords : ℤ → List ℕ) (s : State) (c : ℕ) (e : Entry) (act : Act) → IsOf c e → IsAct e act
    → MayCome passwords s e → ending_by e ≡ None → HasSession (step naming s act).state c
unfolding IsOf IsAct MayCome sessions_after ending_by
entry_has naming passwords s c (Connect x asked session timeout password zxid now) act of is may goes_on =
    let given : Given = record { session = session; timeout = timeout; password = password } in
    subst (λ (d : ℕ). HasSession (step naming s act).state d) of
    (subst (λ (a : Act). HasSession (step naming s a).state x) (sym is)
    (after_step naming s (connects x asked given now) x
    (own_connected x given now s (given_one session (endings.Expired asked.session) (int_eq session (pos 0)) goes_on))))
entry_has naming passwords s c (Take x xid request zxid now) act of is may goes_on =
    subst (λ (d : ℕ). HasSession (step naming s act).state d) of
    (subst (λ (a : Act). HasSession (step naming s a).state x) (sym is.is)
    (after_step naming s (asking x xid is.command now) x
    (own_asked_has x is.command now may.session s.sessions
    (λ e. open_request request goes_on (closes request (subst (IsCommand request) e is.is_command))) may.live)))
entry_has naming passwords s c (Lost x) act of is may goes_on = absurd of
entry_has naming passwords s c (Expire session zxid now) act of is may goes_on = absurd of

not_same : (a b : ℕ) → a ≢ b → (a == b) ≡ false
not_same a b f = elim (cases_Bool (a == b)) [ inl t ↦ absurd (f (eqb-true a b t)) | inr e ↦ e ]

-- it is another's act
others_act : (c d : ℕ) (e : Entry) (act : Act) → IsOf c e → IsAct e act → d ≢ c → IsOthers d act
unfolding IsOf IsAct IsOthers
others_act c d (Connect x asked session timeout password zxid now) act of is apart =
    subst (IsOthers d) (sym is) (not_same x d (λ e. apart (sym e ∙ of)))
others_act c d (Take x xid request zxid now) act of is apart =
    subst (IsOthers d) (sym is.is) (not_same x d (λ e. apart (sym e ∙ of)))
others_act c d (Lost x) act of is apart = absurd of
others_act c d (Expire session zxid now) act of is apart = absurd of

-- ---- a frame, and the loss before it

-- the state in which the frame itself comes
unfoldable before_frame : Naming → State → Option ℕ → State
before_frame naming s None = s
before_frame naming s (Some x) = (step naming s (loses x)).state

-- the frame is one entry, which is this act in that state
record Parts (naming : Naming) (passwords : ℤ → List ℕ) (s : State) (c : ℕ) (moved : Option ℕ) (frames : List Entry)
    (acts : List Act) : Type 0 where
  entry : Entry
  act : Act
  frames_are : frames ≡ entry ∷ []
  of : IsOf c entry
  is : IsAct entry act
  may : MayCome passwords (before_frame naming s moved) entry
  after : after_all naming s acts ≡ (step naming (before_frame naming s moved) act).state
  sent : outputs naming s acts ≡ (step naming (before_frame naming s moved) act).outputs
  had : (x : ℕ) → moved ≡ Some x → HasSession s x

no_requests : (c : ℕ) (now : ℤ) (es : List Entry) → AreRequests c now es [] → es ≡ []
unfolding AreRequests
no_requests c now [] h = refl
no_requests c now (e ∷ es) h = absurd h

one_frame : (c : ℕ) (now : ℤ) (frames : List Entry) (body : List ℕ) → AreFrames c now frames (body ∷ [])
    → (e : Entry) × (frames ≡ e ∷ []) × IsOf c e
unfolding AreFrames AreRequests IsOf
one_frame c now [] body h = absurd h
one_frame c now (Connect d asked session timeout password zxid at ∷ es) body h = (
  Connect d asked session timeout password zxid at,
  ap (λ (l : List Entry). Connect d asked session timeout password zxid at ∷ l) (no_requests c now es h.3),
  h.0,
)
one_frame c now (Take d xid r zxid at ∷ es) body h =
    (Take d xid r zxid at, ap (λ (l : List Entry). Take d xid r zxid at ∷ l) (no_requests c now es h.3), h.0)
one_frame c now (Lost d ∷ es) body h = absurd h
one_frame c now (Expire session zxid at ∷ es) body h = absurd h

parts_of : (naming : Naming) (passwords : ℤ → List ℕ) (s : State) (c : ℕ) (moved : Option ℕ) (frames : List Entry) (acts : List Act)
    (e : Entry) → frames ≡ e ∷ [] → IsOf c e → Zips IsAct (lost_first moved ++ e ∷ []) acts
    → LegalFrom naming passwords s (lost_first moved ++ e ∷ []) acts → Parts naming passwords s c moved frames acts
unfolding lost_first before_frame Zips LegalFrom after_all outputs IsAct MayCome step
parts_of naming passwords s c None frames [] e is of a l = absurd a
parts_of naming passwords s c None frames (act ∷ []) e is of a l = record {
  entry = e;
  act = act;
  frames_are = is;
  of = of;
  is = a.0;
  may = l.0.may;
  after = refl;
  sent = append-nil (step naming s act).outputs;
  had = λ x h. absurd cc;
}
parts_of naming passwords s c None frames (act ∷ other ∷ acts) e is of a l = absurd a.1
parts_of naming passwords s c (Some x) frames [] e is of a l = absurd a
parts_of naming passwords s c (Some x) frames (loss ∷ []) e is of a l = absurd a.1
parts_of naming passwords s c (Some x) frames (loss ∷ act ∷ []) e is of a l =
    let t = (step naming s (loses x)).state in
    record {
      entry = e;
      act = act;
      frames_are = is;
      of = of;
      is = a.1.0;
      may = subst (λ (b : Act). MayCome passwords (step naming s b).state e) a.0 l.1.0.may;
      after = ap (λ (b : Act). (step naming (step naming s b).state act).state) a.0;
      sent = ap (λ (b : Act). (step naming s b).outputs ++ ((step naming (step naming s b).state act).outputs ++ [])) a.0
          ∙ append-nil (step naming t act).outputs;
      had = λ y h. let same : x ≡ y = cc in subst (HasSession s) same l.0.may;
    }
parts_of naming passwords s c (Some x) frames (loss ∷ act ∷ other ∷ acts) e is of a l = absurd a.1.1

ending_one : (e : Entry) → ending_after (e ∷ []) ≡ None → ending_by e ≡ None
unfolding ending_after
ending_one e h = h

no_move : (s : State) (moved : Option ℕ) (c : ℕ) (xid : ℤ) (r : Request) (zxid at : ℤ) (es : List Entry)
    → IsMoved s moved (Take c xid r zxid at ∷ es) → moved ≡ None
unfolding IsMoved
no_move s None c xid r zxid at es h = refl
no_move s (Some d) c xid r zxid at es h = absurd h

loss_no_connect : (d : ℕ) (moved : Option ℕ) → HasNoConnect d (lost_first moved)
unfolding HasNoConnect lost_first
loss_no_connect d None = tt
loss_no_connect d (Some x) = tt

other_no_connect : (c d : ℕ) (e : Entry) → IsOf c e → d ≢ c → HasNoConnect d (e ∷ [])
unfolding HasNoConnect IsOf
other_no_connect c d (Connect x asked session timeout password zxid now) of apart = (λ e. apart (sym e ∙ of), tt)
other_no_connect c d (Take x xid request zxid now) of apart = tt
other_no_connect c d (Lost x) of apart = tt
other_no_connect c d (Expire session zxid now) of apart = tt

module _ {naming : Naming} {passwords : ℤ → List ℕ} {s : State} {c : ℕ} {now : ℤ} {body : List ℕ} {moved : Option ℕ} {frames : List Entry}
    {acts : List Act} (f : FrameTaken naming passwords s c now body moved frames acts) where
  parts : Parts naming passwords s c moved frames acts
  parts =
      let e = one_frame c now frames body f.spelled in
      parts_of naming passwords s c moved frames acts e.0 e.1 e.2
      (subst (λ (l : List Entry). Zips IsAct (lost_first moved ++ l) acts) e.1 f.are_acts)
      (subst (λ (l : List Entry). LegalFrom naming passwords s (lost_first moved ++ l) acts) e.1 f.legal)

  before_distinct : (o : Option ℕ) → AreDistinct (before_frame naming s o).sessions
  unfolding before_frame
  before_distinct None = f.distinct
  before_distinct (Some x) = lost_distinct naming s x f.distinct

  -- who has another connection than that which is lost
  before_keeps : (d : ℕ) → HasSession s d → (o : Option ℕ) → HasSession (before_frame naming s o) d ⊎ (o ≡ Some d)
  unfolding before_frame
  before_keeps d h None = inl h
  before_keeps d h (Some x) = elim (cases_Bool (d == x)) [
    | inl same ↦ inr (ap Some (sym (eqb-true d x same)))
    | inr other ↦ inl (lost_keeps naming s x d (λ e. both_ways _ other (eq-eqb d x e)) h)
  ]

  after_frame : (d : ℕ) → HasSession (step naming (before_frame naming s moved) parts.act).state d → HasSession (after_all naming s acts) d
  after_frame d h = subst (λ (t : State). HasSession t d) (sym parts.after) h

  -- another connection keeps its session, unless that is the one that moves
  pub others_keep : (d : ℕ) → d ≢ c → HasSession s d → HasSession (after_all naming s acts) d ⊎ (moved ≡ Some d)
  others_keep d apart h = elim (before_keeps d h moved) [
    | inl has ↦
        let p = parts in
        inl (after_frame d (entry_keeps naming passwords _ c d p.entry p.act p.of p.is p.may (before_distinct moved) apart has))
    | inr lost ↦ inr lost
  ]

  -- the connection has a session then, unless it ends by the frame
  pub own_keeps : ending_after frames ≡ None → HasSession (after_all naming s acts) c
  own_keeps goes_on =
      let p = parts in
      after_frame c (entry_has naming passwords _ c p.entry p.act p.of p.is p.may
      (ending_one p.entry (subst (λ (l : List Entry). ending_after l ≡ None) p.frames_are goes_on)))

  -- the connection that had the session is another one
  pub moved_apart : (d : ℕ) → moved ≡ Some d → NoTrace c s → d ≢ c
  moved_apart d lost none same =
      let had = parts.had d lost in
      let live = had.live in
      let off : session_of d s.sessions ≡ None = subst (λ (x : ℕ). session_of x s.sessions ≡ None) (sym same) none.sessions_are in
      absurd cc

  -- no session moves by a request
  pub not_moved : (x : ℕ) (xid : ℤ) (r : Request) (zxid at : ℤ) (es : List Entry) → frames ≡ Take x xid r zxid at ∷ es → moved ≡ None
  not_moved x xid r zxid at es first = no_move s moved x xid r zxid at es (subst (IsMoved s moved) first f.moves)

  -- no other connection connects by it
  pub no_connect_kept : (d : ℕ) → d ≢ c → (es : List Entry) → HasNoConnect d es → HasNoConnect d (es ++ (lost_first moved ++ frames))
  no_connect_kept d apart es h =
      let p = parts in
      no_connect-append d es (lost_first moved ++ frames) h
      (no_connect-append d (lost_first moved) frames (loss_no_connect d moved)
      (subst (HasNoConnect d) (sym p.frames_are) (other_no_connect c d p.entry p.of apart)))

  before_quiet : (d : ℕ) → NoTrace d s → (o : Option ℕ) → NoTrace d (before_frame naming s o)
  unfolding before_frame IsOthers
  before_quiet d n None = n
  before_quiet d n (Some x) = (step_quiet d naming s (loses x) tt n).after

  -- a connection that has no session and no watch is told nothing, and stays so
  quiet_next : (d : ℕ) → d ≢ c → NoTrace d s → QuietNext d (step naming (before_frame naming s moved) parts.act)
  quiet_next d apart n =
      let p = parts in
      step_quiet d naming (before_frame naming s moved) p.act (others_act c d p.entry p.act p.of p.is apart) (before_quiet d n moved)

  pub quiet_told : (d : ℕ) → d ≢ c → NoTrace d s → to_connection d (outputs naming s acts) ≡ []
  quiet_told d apart n = ap (to_connection d) parts.sent ∙ (quiet_next d apart n).outputs_are

  pub quiet_kept : (d : ℕ) → d ≢ c → NoTrace d s → NoTrace d (after_all naming s acts)
  quiet_kept d apart n = subst (NoTrace d) (sym parts.after) (quiet_next d apart n).after
