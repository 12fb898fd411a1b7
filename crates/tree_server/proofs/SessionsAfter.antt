-- What a step does to the sessions, to the greatest session number and to the last zxid.
use Rattle.std.proofs.Common.{◌≡◌, ◌⊎◌, ℕ, ℤ, pos, ◌+ℤ◌, ◌≤ℤ◌, Bool, true, false, cond, not, List, [], ◌∷◌, Option, Some, None, int_eq, refl, sym, ap, ◌∙◌, inl, inr, arith}
use Rattle.std.proofs.lemmas.Int.{ints}
use Rattle.tree_state.specs.declared.node.Moment.{Moment}
use Rattle.tree_state.specs.declared.session.Given.{Given}
use Rattle.tree_state.specs.Nodes.{Path, Node, find, ephemerals}
use Rattle.tree_state.specs.State.{State, Session, session_of, session_at, is_numbered, changed_session, change_session, heard_at, is_other_session, without_session, next_zxid}
use Rattle.tree_state.specs.Commands.{Change, create, delete, set_content, check, Command, refused, single, multi, set_acl, stat_at, get_content, get_acl, get_children, sync, ping, set_watches, close}
use Rattle.tree_state.specs.Changes.{Trial, failed, done, need, refuse, Naming, Effect, Effects, created, deleted, updated, perform, no_effects, after_effect, or_failed, perform_all, all_deleted}
use Rattle.tree_state.specs.Step.{Act, connects, asks, loses, expires, step, taken, replied, expired, Answer, with_error, told_only, or_error, answer_single, answer_multi, with_watch, with_noticed, closed, answer, hears, connected_at, connected, ended, lost}
use Rattle.tree_server.specs.Times.{sessions_asked, sessions_of, sessions_after}

-- ---- what changes leave, where they draw this zxid

record Leaves (z : ℤ) (s t : State) : Type 0 where
  sessions : t.sessions ≡ s.sessions
  greatest : t.greatest ≡ s.greatest
  last : (t.last ≡ s.last) ⊎ (t.last ≡ z)

last_on : (z : ℤ) (s t u : State) → (t.last ≡ s.last) ⊎ (t.last ≡ z) → (u.last ≡ t.last) ⊎ (u.last ≡ z) → (u.last ≡ s.last) ⊎ (u.last ≡ z)
last_on z s t u h (inr drawn) = inr drawn
last_on z s t u (inl same) (inl still) = inl (still ∙ same)
last_on z s t u (inr drawn) (inl still) = inr (still ∙ drawn)

leaves_on : (z : ℤ) (s t u : State) → Leaves z s t → Leaves z t u → Leaves z s u
leaves_on z s t u h k =
    record { sessions = k.sessions ∙ h.sessions; greatest = k.greatest ∙ h.greatest; last = last_on z s t u h.last k.last }

leaves_all : (z : ℤ) (s : State) → Leaves z s s
leaves_all z s = record { sessions = refl; greatest = refl; last = inl refl }

unfoldable LeavesIf : ℤ → State → Trial ℤ Effect → Type 0
LeavesIf z s (failed code) = Unit {0}
LeavesIf z s (done e) = Leaves z s e.state

need_leaves : {A : Type 0} (z : ℤ) (s : State) (o : Option A) (code : ℤ) (f : A → Trial ℤ Effect) → ((x : A) → LeavesIf z s (f x))
    → LeavesIf z s (need o code f)
unfolding need LeavesIf
need_leaves z s None code f h = tt
need_leaves z s (Some x) code f h = h x

refuse_leaves : (z : ℤ) (s : State) (b : Bool) (code : ℤ) (t : Trial ℤ Effect) → LeavesIf z s t → LeavesIf z s (refuse b code t)
unfolding refuse LeavesIf
refuse_leaves z s true code t h = tt
refuse_leaves z s false code t h = h

done_leaves : (z : ℤ) (s : State) (e : Effect) → Leaves z s e.state → LeavesIf z s (done e)
unfolding LeavesIf
done_leaves z s e h = h

created_leaves : (at : Moment) (p : Path) (n : List ℕ) (node : Node) (stat : Bool) (s : State)
    → Leaves at.zxid s (created at p n node stat s).state
unfolding created
created_leaves at p n node stat s = record { sessions = refl; greatest = refl; last = inr refl }

deleted_leaves : (z : ℤ) (p : Path) (s : State) → Leaves z s (deleted z p s).state
unfolding deleted
deleted_leaves z p s = record { sessions = refl; greatest = refl; last = inr refl }

updated_leaves : (at : Moment) (p : Path) (d : Option (List ℕ)) (node : Node) (s : State) → Leaves at.zxid s (updated at p d node s).state
unfolding updated
updated_leaves at p d node s = record { sessions = refl; greatest = refl; last = inr refl }

perform_leaves : (naming : Naming) (at : Moment) (s : State) (change : Change) → LeavesIf at.zxid s (perform naming at s change)
unfolding perform
perform_leaves naming at s (create p n d q e stat) =
    let z = at.zxid in
    need_leaves z s (find s.nodes p) _ _ λ up. refuse_leaves z s _ _ _ (refuse_leaves z s _ _ _ (need_leaves z s _ _ _ λ name.
    refuse_leaves z s _ _ _ (done_leaves z s _ (created_leaves at p name _ stat s))))
perform_leaves naming at s (delete p v) =
    let z = at.zxid in
    need_leaves z s (find s.nodes p) _ _ λ node.
    refuse_leaves z s _ _ _ (refuse_leaves z s _ _ _ (done_leaves z s _ (deleted_leaves z p s)))
perform_leaves naming at s (set_content p d v) =
    let z = at.zxid in
    need_leaves z s (find s.nodes p) _ _ λ node.
    refuse_leaves z s _ _ _ (refuse_leaves z s _ _ _ (done_leaves z s _ (updated_leaves at p d node s)))
perform_leaves naming at s (check p v) =
    let z = at.zxid in
    need_leaves z s (find s.nodes p) _ _ λ node.
    refuse_leaves z s _ _ _ (done_leaves z s _ (record { sessions = refl; greatest = refl; last = inr refl }))

-- ---- several changes under one zxid

unfoldable LeavesAllIf : ℤ → State → Trial (List ℤ) Effects → Type 0
LeavesAllIf z s (failed codes) = Unit {0}
LeavesAllIf z s (done e) = Leaves z s e.state

after_leaves : (z : ℤ) (s : State) (e : Effect) (t : Trial (List ℤ) Effects) → Leaves z s e.state → LeavesAllIf z e.state t
    → LeavesAllIf z s (after_effect e t)
unfolding after_effect LeavesAllIf
after_leaves z s e (failed codes) h k = tt
after_leaves z s e (done more) h k = leaves_on z s e.state more.state h k

or_failed_leaves : (z : ℤ) (s : State) (t : Trial ℤ Effect) (rest : List Change) (next : Effect → Trial (List ℤ) Effects) → LeavesIf z s t
    → ((e : Effect) → LeavesAllIf z e.state (next e)) → LeavesAllIf z s (or_failed t rest next)
unfolding or_failed LeavesIf LeavesAllIf
or_failed_leaves z s (failed code) rest next h k = tt
or_failed_leaves z s (done e) rest next h k = after_leaves z s e (next e) h (k e)

perform_all_leaves : (naming : Naming) (at : Moment) (s : State) (changes : List Change)
    → LeavesAllIf at.zxid s (perform_all naming at s changes)
unfolding perform_all no_effects LeavesAllIf
perform_all_leaves naming at s [] = record { sessions = refl; greatest = refl; last = inr refl }
perform_all_leaves naming at s (x ∷ xs) =
    or_failed_leaves at.zxid s (perform naming at s x) xs _ (perform_leaves naming at s x) (λ e. perform_all_leaves naming at e.state xs)

all_deleted_leaves : (z : ℤ) (ps : List Path) (s : State) → Leaves z s (all_deleted z ps s).state
unfolding all_deleted no_effects
all_deleted_leaves z [] s = record { sessions = refl; greatest = refl; last = inr refl }
all_deleted_leaves z (p ∷ ps) s =
    leaves_on z s (deleted z p s).state _ (deleted_leaves z p s) (all_deleted_leaves z ps (deleted z p s).state)

-- ---- what answers leave

unfoldable LeavesAnswerIf : ℤ → State → Trial ℤ Answer → Type 0
LeavesAnswerIf z s (failed code) = Unit {0}
LeavesAnswerIf z s (done a) = Leaves z s a.state

or_error_leaves : (z : ℤ) (s t : State) (o : Trial ℤ Answer) → Leaves z s t → LeavesAnswerIf z s o → Leaves z s (or_error t o).state
unfolding or_error with_error LeavesAnswerIf
or_error_leaves z s t (failed code) h k = h
or_error_leaves z s t (done a) h k = k

need_answer_leaves : {A : Type 0} (z : ℤ) (s : State) (o : Option A) (code : ℤ) (f : A → Trial ℤ Answer)
    → ((x : A) → LeavesAnswerIf z s (f x)) → LeavesAnswerIf z s (need o code f)
unfolding need LeavesAnswerIf
need_answer_leaves z s None code f h = tt
need_answer_leaves z s (Some x) code f h = h x

refuse_answer_leaves : (z : ℤ) (s : State) (b : Bool) (code : ℤ) (t : Trial ℤ Answer) → LeavesAnswerIf z s t
    → LeavesAnswerIf z s (refuse b code t)
unfolding refuse LeavesAnswerIf
refuse_answer_leaves z s true code t h = tt
refuse_answer_leaves z s false code t h = h

done_answer_leaves : (z : ℤ) (s : State) (a : Answer) → Leaves z s a.state → LeavesAnswerIf z s (done a)
unfolding LeavesAnswerIf
done_answer_leaves z s a h = h

single_leaves : (z : ℤ) (s : State) (t : Trial ℤ Effect) → LeavesIf z s t → Leaves z s (answer_single s t).state
unfolding answer_single with_error LeavesIf
single_leaves z s (failed code) h = leaves_all z s
single_leaves z s (done e) h = h

multi_leaves : (z : ℤ) (s : State) (t : Trial (List ℤ) Effects) → LeavesAllIf z s t → Leaves z s (answer_multi s t).state
unfolding answer_multi told_only LeavesAllIf
multi_leaves z s (failed codes) h = leaves_all z s
multi_leaves z s (done e) h = h

-- ---- what a request leaves of a state in which its session is heard

record LeavesAsked (z now k : ℤ) (command : Command) (s t : State) : Type 0 where
  sessions : t.sessions ≡ sessions_asked k command now s.sessions
  greatest : t.greatest ≡ s.greatest
  last : (t.last ≡ s.last) ⊎ (t.last ≡ z)

-- all that changed of a session that goes is gone with it
gone_once : (k : ℤ) (f : Session → Session) (xs : List Session) → ((x : Session) → (f x).number ≡ x.number)
    → without_session k (change_session k f xs) ≡ without_session k xs
unfolding without_session change_session changed_session is_other_session is_numbered
gone_once k f [] keeps = refl
gone_once k f (x ∷ xs) keeps = go (int_eq x.number k) refl (gone_once k f xs keeps)
  where
    go : (b : Bool) → int_eq x.number k ≡ b → without_session k (change_session k f xs) ≡ without_session k xs
        → cond (not (int_eq (cond b (f x) x).number k)) (cond b (f x) x ∷ without_session k (change_session k f xs))
        (without_session k (change_session k f xs)) ≡ cond (not b) (x ∷ without_session k xs) (without_session k xs)
    go true e ih =
        ap (λ (b : Bool). cond (not b) (f x ∷ without_session k (change_session k f xs)) (without_session k (change_session k f xs)))
        (ap (λ (n : ℤ). int_eq n k) (keeps x) ∙ e) ∙ ih
    go false e ih =
        ap (λ (b : Bool). cond (not b) (x ∷ without_session k (change_session k f xs)) (without_session k (change_session k f xs))) e
        ∙ ap (λ (ys : List Session). x ∷ ys) ih

-- any request but a closeSession
still : (z now k : ℤ) (command : Command) (s t : State)
    → sessions_asked k command now s.sessions ≡ change_session k (heard_at now) s.sessions
    → Leaves z (hears k now s) t → LeavesAsked z now k command s t
unfolding hears
still z now k command s t e h = record { sessions = h.sessions ∙ sym e; greatest = h.greatest; last = h.last }

-- a closeSession
closing : (naming : Naming) (at : Moment) (now : ℤ) (c : ℕ) (s : State)
    → LeavesAsked at.zxid now at.session close s (answer naming at c (hears at.session now s) close).state
unfolding answer closed hears sessions_asked heard_at
closing naming at now c s =
    let t = hears at.session now s in
    let h = all_deleted_leaves at.zxid (ephemerals at.session t.nodes) t in
    let g = gone_once at.session (heard_at now) s.sessions (λ x. refl) in
    record { sessions = ap (without_session at.session) h.sessions ∙ g; greatest = h.greatest; last = h.last }

answer_leaves : (naming : Naming) (at : Moment) (now : ℤ) (c : ℕ) (s : State) (command : Command)
    → LeavesAsked at.zxid now at.session command s (answer naming at c (hears at.session now s) command).state
unfolding answer sessions_asked told_only with_error with_watch with_noticed
answer_leaves naming at now c s (refused code) = still at.zxid now at.session _ s _ refl (leaves_all at.zxid _)
answer_leaves naming at now c s (single change) =
    still at.zxid now at.session _ s _ refl (single_leaves at.zxid _ _ (perform_leaves naming at _ change))
answer_leaves naming at now c s (multi changes) =
    still at.zxid now at.session _ s _ refl (multi_leaves at.zxid _ _ (perform_all_leaves naming at _ changes))
answer_leaves naming at now c s (set_acl p v) =
    let z = at.zxid in let t = hears at.session now s in
    still z now at.session _ s _ refl (or_error_leaves z t t _ (leaves_all z t) (need_answer_leaves z t _ _ _ λ node.
    refuse_answer_leaves z t _ _ _ (refuse_answer_leaves z t _ _ _
    (done_answer_leaves z t _ (record { sessions = refl; greatest = refl; last = inr refl })))))
answer_leaves naming at now c s (stat_at p w) =
    let z = at.zxid in let t = hears at.session now s in
    still z now at.session _ s _ refl
    (or_error_leaves z t _ _ (record { sessions = refl; greatest = refl; last = inl refl }) (need_answer_leaves z t _ _ _ λ node.
    done_answer_leaves z t _ (record { sessions = refl; greatest = refl; last = inl refl })))
answer_leaves naming at now c s (get_content p w) =
    let z = at.zxid in let t = hears at.session now s in
    still z now at.session _ s _ refl (or_error_leaves z t t _ (leaves_all z t) (need_answer_leaves z t _ _ _ λ node.
    done_answer_leaves z t _ (record { sessions = refl; greatest = refl; last = inl refl })))
answer_leaves naming at now c s (get_acl p) =
    let z = at.zxid in let t = hears at.session now s in
    still z now at.session _ s _ refl (or_error_leaves z t t _ (leaves_all z t) (need_answer_leaves z t _ _ _ λ node.
    done_answer_leaves z t _ (leaves_all z t)))
answer_leaves naming at now c s (get_children p w stat) =
    let z = at.zxid in let t = hears at.session now s in
    still z now at.session _ s _ refl (or_error_leaves z t t _ (leaves_all z t) (need_answer_leaves z t _ _ _ λ node.
    done_answer_leaves z t _ (record { sessions = refl; greatest = refl; last = inl refl })))
answer_leaves naming at now c s (sync p) = still at.zxid now at.session _ s _ refl (leaves_all at.zxid _)
answer_leaves naming at now c s ping = still at.zxid now at.session _ s _ refl (leaves_all at.zxid _)
answer_leaves naming at now c s (set_watches seen x y z) =
    still at.zxid now at.session _ s _ refl (record { sessions = refl; greatest = refl; last = inl refl })
answer_leaves naming at now c s close = closing naming at now c s

-- ---- steps

-- what a request leaves, of a connection that has this session, or none
record LeavesTaken (o : Option ℤ) (command : Command) (now : ℤ) (s t : State) : Type 0 where
  sessions : t.sessions ≡ sessions_of o command now s.sessions
  greatest : t.greatest ≡ s.greatest
  last : (t.last ≡ s.last) ⊎ (t.last ≡ s.last +ℤ pos 1)

taken_leaves : (naming : Naming) (c : ℕ) (xid : ℤ) (command : Command) (now : ℤ) (s : State) (o : Option ℤ)
    → LeavesTaken o command now s (taken naming c xid command now s o).state
unfolding taken replied next_zxid sessions_of
taken_leaves naming c xid command now s None = record { sessions = refl; greatest = refl; last = inl refl }
taken_leaves naming c xid command now s (Some k) =
    let h = answer_leaves naming (record { zxid = s.last +ℤ pos 1; time = now; session = k }) now c s command in
    record { sessions = h.sessions; greatest = h.greatest; last = h.last }

-- what the end of a session that was not heard leaves
record LeavesExpired (session : ℤ) (s t : State) : Type 0 where
  sessions : t.sessions ≡ without_session session s.sessions
  greatest : t.greatest ≡ s.greatest
  last : (t.last ≡ s.last) ⊎ (t.last ≡ s.last +ℤ pos 1)

expired_leaves : (session : ℤ) (s : State) → LeavesExpired session s (expired session s).state
unfolding expired ended next_zxid
expired_leaves session s =
    let h = all_deleted_leaves (s.last +ℤ pos 1) (ephemerals session s.nodes) s in
    record { sessions = ap (without_session session) h.sessions; greatest = h.greatest; last = h.last }

-- what a connect makes of the last zxid
connected_last : (given : Given) (now : ℤ) (c : ℕ) (s : State)
    → ((connected given now c s).last ≡ s.last) ⊎ ((connected given now c s).last ≡ s.last +ℤ pos 1)
unfolding connected connected_at next_zxid
connected_last given now c s = go (int_eq given.session (pos 0)) (session_at given.session s.sessions)
  where
    go : (b : Bool) (o : Option Session)
        → ((cond b s (connected_at o given now c s)).last ≡ s.last) ⊎ ((cond b s (connected_at o given now c s)).last ≡ s.last +ℤ pos 1)
    go true o = inl refl
    go false None = inr refl
    go false (Some x) = inr refl

-- the sessions after a step
pub sessions_step : (naming : Naming) (s : State) (act : Act) → (step naming s act).state.sessions ≡ sessions_after s act
unfolding step sessions_after lost
sessions_step naming s (connects c asked given now) = refl
sessions_step naming s (asks c xid command now) = (taken_leaves naming c xid command now s (session_of c s.sessions)).sessions
sessions_step naming s (loses c) = refl
sessions_step naming s (expires session now) = (expired_leaves session s).sessions

-- a request, a loss and an expiry leave the greatest session number
pub greatest_asked : (naming : Naming) (s : State) (c : ℕ) (xid now : ℤ) (command : Command)
    → (step naming s (asks c xid command now)).state.greatest ≡ s.greatest
unfolding step
greatest_asked naming s c xid now command = (taken_leaves naming c xid command now s (session_of c s.sessions)).greatest

pub greatest_lost : (naming : Naming) (s : State) (c : ℕ) → (step naming s (loses c)).state.greatest ≡ s.greatest
unfolding step lost
greatest_lost naming s c = refl

pub greatest_expired : (naming : Naming) (s : State) (session now : ℤ) → (step naming s (expires session now)).state.greatest ≡ s.greatest
unfolding step
greatest_expired naming s session now = (expired_leaves session s).greatest

-- a step draws a zxid, or draws none
draws : (naming : Naming) (s : State) (act : Act)
    → ((step naming s act).state.last ≡ s.last) ⊎ ((step naming s act).state.last ≡ s.last +ℤ pos 1)
unfolding step lost
draws naming s (connects c asked given now) = connected_last given now c s
draws naming s (asks c xid command now) = (taken_leaves naming c xid command now s (session_of c s.sessions)).last
draws naming s (loses c) = inl refl
draws naming s (expires session now) = (expired_leaves session s).last

between : (a b : ℤ) → (b ≡ a) ⊎ (b ≡ a +ℤ pos 1) → (a ≤ℤ b) × (b ≤ℤ (a +ℤ pos 1))
between a b (inl same) = (omega (arith, ints), omega (arith, ints))
between a b (inr next) = (omega (arith, ints), omega (arith, ints))

-- the last zxid is as it was, or the next one
pub last_step : (naming : Naming) (s : State) (act : Act)
    → (s.last ≤ℤ (step naming s act).state.last) × ((step naming s act).state.last ≤ℤ (s.last +ℤ pos 1))
last_step naming s act = between s.last (step naming s act).state.last (draws naming s act)
