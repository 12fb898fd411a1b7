-- A connection that has no session and no watch is told nothing, and stays so while others act.
use Rattle.std.proofs.Common.{◌≡◌, ℕ, ℤ, pos, Bool, true, false, cond, List, [], ◌∷◌, ◌++◌, Option, Some, None, map, filter, refl, ap, ◌∙◌}
use Rattle.std.specs.Prelude.{◌==◌}
use Rattle.std.specs.List.{list_any}
use Rattle.std.specs.Ordering.{int_eq}
use Rattle.zk_messages.specs.declared.reply.Outcome.{Outcome}
use Rattle.tree_state.specs.declared.message.Output.{Output}
use Rattle.tree_state.specs.declared.node.Moment.{Moment}
use Rattle.tree_state.specs.declared.session.Given.{Given}
use Rattle.tree_state.specs.Nodes.{Path, Node, Place, find, ephemerals}
use Rattle.tree_state.specs.State.{State, Session, Watch, Aspect, on_data, on_children, watching_if, has_connection, session_of, is_numbered, changed_session, change_session, heard_at, moved_to, is_other_session, without_session, without_connection, session_at, next_zxid, start, start_at}
use Rattle.tree_state.specs.Commands.{Command, refused, single, multi, set_acl, stat_at, get_content, get_acl, get_children, sync, ping, set_watches, close}
use Rattle.tree_state.specs.Changes.{Trial, failed, done, need, refuse, Naming, Effect, Effects, event_to}
use Rattle.tree_state.specs.Step.{Answer, with_error, told_only, or_error, answer_single, answer_multi, with_watch, Notice, tells, watches, Noticed, noticed, all_noticed, with_noticed, closed, answer, Act, connects, asks as asking, loses, expires, Next, hears, replied, taken, with_session, with_moved, connected_at, connected, answer_connect, watches_gone, ended, lost, expired, step}
use Rattle.store_side.specs.Out.{to_connection}
unfoldable pub use Rattle.store_side.proofs.QuietChanges.{QuietAllIf, QuietIf, is_of}
pub use Rattle.store_side.proofs.QuietChanges.{Quiet, all_deleted_quiet, first_none, nothing_to, others_none, perform_all_quiet, perform_quiet, two_none, watching_none}

-- ---- answers to another connection

-- the connection has no session and no watch
pub record NoTrace (c : ℕ) (s : State) : Type 0 where
  pub watches_are : list_any (is_of c) s.watches ≡ false
  pub sessions_are : session_of c s.sessions ≡ None

-- nor has it after the answer, which tells it nothing
pub record QuietAnswer (c : ℕ) (a : Answer) : Type 0 where
  pub after : NoTrace c a.state
  pub events_are : to_connection c a.events ≡ []

still : (c : ℕ) (s t : State) (events : List Output) → NoTrace c s → Quiet c s t events → NoTrace c t
still c s t events n h = record { watches_are = h.watches_are; sessions_are = ap (session_of c) h.sessions_are ∙ n.sessions_are }

nothing_told : (c : ℕ) (s : State) (outcome : Outcome) → NoTrace c s → QuietAnswer c (told_only s outcome)
unfolding told_only to_connection
nothing_told c s outcome n = record { after = n; events_are = refl }

error_told : (c : ℕ) (s : State) (code : ℤ) → NoTrace c s → QuietAnswer c (with_error s code)
unfolding with_error to_connection
error_told c s code n = record { after = n; events_are = refl }

unfoldable QuietAnswerIf : ℕ → Trial ℤ Answer → Type 0
QuietAnswerIf c (failed code) = Unit {0}
QuietAnswerIf c (done a) = QuietAnswer c a

or_error_quiet : (c : ℕ) (s : State) (t : Trial ℤ Answer) → NoTrace c s → QuietAnswerIf c t → QuietAnswer c (or_error s t)
unfolding or_error QuietAnswerIf
or_error_quiet c s (failed code) n h = error_told c s code n
or_error_quiet c s (done a) n h = h

need_answer : {A : Type 0} (c : ℕ) (o : Option A) (code : ℤ) (f : A → Trial ℤ Answer) → ((x : A) → QuietAnswerIf c (f x)) → QuietAnswerIf c (need o code f)
unfolding need QuietAnswerIf
need_answer c None code f h = tt
need_answer c (Some x) code f h = h x

refuse_answer : (c : ℕ) (b : Bool) (code : ℤ) (t : Trial ℤ Answer) → QuietAnswerIf c t → QuietAnswerIf c (refuse b code t)
unfolding refuse QuietAnswerIf
refuse_answer c true code t h = tt
refuse_answer c false code t h = h

done_answer : (c : ℕ) (s : State) (outcome : Outcome) → NoTrace c s → QuietAnswerIf c (done (told_only s outcome))
unfolding QuietAnswerIf
done_answer c s outcome n = nothing_told c s outcome n

single_quiet : (c : ℕ) (s : State) (t : Trial ℤ Effect) → NoTrace c s → QuietIf c s t → QuietAnswer c (answer_single s t)
unfolding answer_single QuietIf
single_quiet c s (failed code) n h = error_told c s code n
single_quiet c s (done e) n h = record { after = still c s e.state e.events n h; events_are = h.events_are }

multi_quiet : (c : ℕ) (s : State) (t : Trial (List ℤ) Effects) → NoTrace c s → QuietAllIf c s t → QuietAnswer c (answer_multi s t)
unfolding answer_multi QuietAllIf
multi_quiet c s (failed codes) n h = nothing_told c s _ n
multi_quiet c s (done e) n h = record { after = still c s e.state e.events n h; events_are = h.events_are }

watch_if_none : (c : ℕ) (b : Bool) (w : Watch) (ws : List Watch) → is_of c w ≡ false → list_any (is_of c) ws ≡ false → list_any (is_of c) (watching_if b w ws) ≡ false
unfolding watching_if
watch_if_none c true w ws e h = watching_none c w ws e h
watch_if_none c false w ws e h = h

with_watch_none : (c d : ℕ) (b : Bool) (a : Aspect) (p : Path) (s : State) → (d == c) ≡ false → NoTrace c s → NoTrace c (with_watch b a p d s)
unfolding with_watch is_of
with_watch_none c d b a p s e n = record { watches_are = watch_if_none c b (record { aspect = a; path = p; connection = d }) s.watches e n.watches_are; sessions_are = n.sessions_are }

-- the watches and the events of a setWatches
record QuietNoticed (c : ℕ) (t : Noticed) : Type 0 where
  watches_are : list_any (is_of c) t.kept ≡ false
  events_are : to_connection c t.events ≡ []

noticed_quiet : (c d : ℕ) (a : Aspect) (p : Path) (n : Notice) (t : Noticed) → (d == c) ≡ false → QuietNoticed c t → QuietNoticed c (noticed a p d n t)
unfolding noticed event_to is_of
noticed_quiet c d a p (tells kind) t e h = record { watches_are = h.watches_are; events_are = two_none c t.events _ h.events_are (first_none c _ [] e (nothing_to c)) }
noticed_quiet c d a p watches t e h = record { watches_are = watching_none c (record { aspect = a; path = p; connection = d }) t.kept e h.watches_are; events_are = h.events_are }

all_noticed_quiet : (c d : ℕ) (f : Option Node → Notice) (a : Aspect) (es : List Place) (ps : List Path) (t : Noticed) → (d == c) ≡ false → QuietNoticed c t
    → QuietNoticed c (all_noticed f a es d ps t)
unfolding all_noticed
all_noticed_quiet c d f a es [] t e h = h
all_noticed_quiet c d f a es (p ∷ ps) t e h = all_noticed_quiet c d f a es ps _ e (noticed_quiet c d a p (f (find es p)) t e h)

with_noticed_quiet : (c : ℕ) (s : State) (t : Noticed) → NoTrace c s → QuietNoticed c t → QuietAnswer c (with_noticed s t)
unfolding with_noticed
with_noticed_quiet c s t n h = record { after = record { watches_are = h.watches_are; sessions_are = n.sessions_are }; events_are = h.events_are }

-- ---- sessions

none_without : (c : ℕ) (session : ℤ) (xs : List Session) → session_of c xs ≡ None → session_of c (without_session session xs) ≡ None
unfolding session_of without_session
none_without c session [] h = refl
none_without c session (x ∷ xs) h = go (is_other_session session x) (has_connection c x) refl h (none_without c session xs)
  where
    go : (b h : Bool) → has_connection c x ≡ h → cond h (Some x.number) (session_of c xs) ≡ None
        → (session_of c xs ≡ None → session_of c (filter (is_other_session session) xs) ≡ None)
        → session_of c (cond b (x ∷ filter (is_other_session session) xs) (filter (is_other_session session) xs)) ≡ None
    go b true e f ih = absurd cc
    go true false e f ih = ap (λ (t : Bool). cond t (Some x.number) (session_of c (filter (is_other_session session) xs))) e ∙ ih f
    go false false e f ih = ih f

none_changed : (c : ℕ) (f : Session → Session) (xs : List Session) → ((x : Session) → has_connection c x ≡ false → has_connection c (f x) ≡ false)
    → session_of c xs ≡ None → session_of c (map f xs) ≡ None
unfolding session_of
none_changed c f [] k h = refl
none_changed c f (x ∷ xs) k h = go (has_connection c x) refl h (none_changed c f xs k)
  where
    go : (b : Bool) → has_connection c x ≡ b → cond b (Some x.number) (session_of c xs) ≡ None → (session_of c xs ≡ None → session_of c (map f xs) ≡ None)
        → session_of c (f x ∷ map f xs) ≡ None
    go true e j ih = absurd cc
    go false e j ih = ap (λ (t : Bool). cond t (Some (f x).number) (session_of c (map f xs))) (k x e) ∙ ih j

closed_none : (c : ℕ) (session : ℤ) (d : ℕ) (s : State) → NoTrace c s → NoTrace c (closed session d s)
unfolding closed
closed_none c session d s n = record { watches_are = others_none c d s.watches n.watches_are; sessions_are = none_without c session s.sessions n.sessions_are }

-- the answer to a command of another connection
pub answer_quiet : (c d : ℕ) (naming : Naming) (at : Moment) (s : State) (command : Command) → (d == c) ≡ false → NoTrace c s → QuietAnswer c (answer naming at d s command)
unfolding answer
answer_quiet c d naming at s (refused code) e n = error_told c s code n
answer_quiet c d naming at s (single change) e n = single_quiet c s _ n (perform_quiet c naming at s change n.watches_are)
answer_quiet c d naming at s (multi changes) e n = multi_quiet c s _ n (perform_all_quiet c naming at s changes n.watches_are)
answer_quiet c d naming at s (set_acl p v) e n = or_error_quiet c s _ n (need_answer c _ _ _ λ node. refuse_answer c _ _ _ (refuse_answer c _ _ _ (done_answer c _ _ (record { watches_are = n.watches_are; sessions_are = n.sessions_are }))))
answer_quiet c d naming at s (stat_at p w) e n = or_error_quiet c _ _ (with_watch_none c d w on_data p s e n) (need_answer c _ _ _ λ node. done_answer c _ _ (with_watch_none c d w on_data p s e n))
answer_quiet c d naming at s (get_content p w) e n = or_error_quiet c s _ n (need_answer c _ _ _ λ node. done_answer c _ _ (with_watch_none c d w on_data p s e n))
answer_quiet c d naming at s (get_acl p) e n = or_error_quiet c s _ n (need_answer c _ _ _ λ node. done_answer c _ _ n)
answer_quiet c d naming at s (get_children p w stat) e n = or_error_quiet c s _ n (need_answer c _ _ _ λ node. done_answer c _ _ (with_watch_none c d w on_children p s e n))
answer_quiet c d naming at s (sync p) e n = nothing_told c s _ n
answer_quiet c d naming at s ping e n = nothing_told c s _ n
answer_quiet c d naming at s (set_watches seen x y z) e n = with_noticed_quiet c s _ n (
    all_noticed_quiet c d _ on_children s.nodes z _ e (
    all_noticed_quiet c d _ on_data s.nodes y _ e (
    all_noticed_quiet c d _ on_data s.nodes x _ e (record { watches_are = n.watches_are; events_are = nothing_to c }))))
answer_quiet c d naming at s close e n =
    let q = all_deleted_quiet c at.zxid (ephemerals at.session s.nodes) s n.watches_are in
    record { after = closed_none c at.session d _ (still c s _ _ n q); events_are = q.events_are }

-- ---- steps of others

pub record QuietNext (c : ℕ) (n : Next) : Type 0 where
  pub after : NoTrace c n.state
  pub outputs_are : to_connection c n.outputs ≡ []

-- a session that is changed to one that this connection does not have
none_set : (c : ℕ) (session : ℤ) (f : Session → Session) (xs : List Session) → ((x : Session) → has_connection c x ≡ false → has_connection c (f x) ≡ false)
    → session_of c xs ≡ None → session_of c (change_session session f xs) ≡ None
unfolding change_session changed_session
none_set c session f xs k h = none_changed c (changed_session session f) xs (λ x e. go x (is_numbered session x) e) h
  where
    go : (x : Session) (b : Bool) → has_connection c x ≡ false → has_connection c (cond b (f x) x) ≡ false
    go x true e = k x e
    go x false e = e

heard_keeps : (c : ℕ) (now : ℤ) (x : Session) → has_connection c (heard_at now x) ≡ has_connection c x
unfolding has_connection heard_at
heard_keeps c now x = refl

moved_none : (c d : ℕ) (timeout now : ℤ) (x : Session) → (d == c) ≡ false → has_connection c (moved_to d timeout now x) ≡ false
unfolding has_connection moved_to
moved_none c d timeout now x e = e

pub no_connection_none : (c : ℕ) (x : Session) → has_connection c (record x { connection = None }) ≡ false
unfolding has_connection
no_connection_none c x = refl

lost_keeps : (c d : ℕ) (x : Session) → has_connection c x ≡ false → has_connection c (without_connection d x) ≡ false
unfolding without_connection
lost_keeps c d x e = go (has_connection d x)
  where
    go : (b : Bool) → has_connection c (cond b (record x { connection = None }) x) ≡ false
    go true = no_connection_none c x
    go false = e

hears_none : (c : ℕ) (session now : ℤ) (s : State) → NoTrace c s → NoTrace c (hears session now s)
unfolding hears
hears_none c session now s n = record { watches_are = n.watches_are; sessions_are = none_set c session (heard_at now) s.sessions (heard_same c now) n.sessions_are }
  where
    heard_same : (c : ℕ) (now : ℤ) (x : Session) → has_connection c x ≡ false → has_connection c (heard_at now x) ≡ false
    heard_same c now x e = heard_keeps c now x ∙ e

taken_quiet : (c d : ℕ) (naming : Naming) (xid : ℤ) (command : Command) (now : ℤ) (s : State) (o : Option ℤ) → (d == c) ≡ false → NoTrace c s
    → QuietNext c (taken naming d xid command now s o)
unfolding taken replied
taken_quiet c d naming xid command now s None e n = record { after = n; outputs_are = nothing_to c }
taken_quiet c d naming xid command now s (Some session) e n =
    let q = answer_quiet c d naming (record { zxid = next_zxid s; time = now; session = session }) _ command e (hears_none c session now s n) in
    record { after = q.after; outputs_are = two_none c _ _ q.events_are (first_none c _ [] e (nothing_to c)) }

none_more : (c : ℕ) (x : Session) (xs : List Session) → has_connection c x ≡ false → session_of c xs ≡ None → session_of c (xs ++ x ∷ []) ≡ None
unfolding session_of
none_more c x [] e h = ap (λ (b : Bool). cond b (Some x.number) None) e
none_more c x (y ∷ xs) e h = go (has_connection c y) refl h (none_more c x xs e)
  where
    go : (b : Bool) → has_connection c y ≡ b → cond b (Some y.number) (session_of c xs) ≡ None → (session_of c xs ≡ None → session_of c (xs ++ x ∷ []) ≡ None)
        → cond b (Some y.number) (session_of c (xs ++ x ∷ [])) ≡ None
    go true i j ih = absurd cc
    go false i j ih = ih j

fresh_none : (c d : ℕ) (given : Given) (now : ℤ) → (d == c) ≡ false
    → has_connection c (record { number = given.session; timeout = given.timeout; password = given.password; heard = now; connection = Some d }) ≡ false
unfolding has_connection
fresh_none c d given now e = e

connected_at_none : (c d : ℕ) (o : Option Session) (given : Given) (now : ℤ) (s : State) → (d == c) ≡ false → NoTrace c s → NoTrace c (connected_at o given now d s)
unfolding connected_at with_session with_moved
connected_at_none c d None given now s e n = record { watches_are = n.watches_are; sessions_are = none_more c _ s.sessions (fresh_none c d given now e) n.sessions_are }
connected_at_none c d (Some x) given now s e n = record { watches_are = n.watches_are; sessions_are = none_set c given.session (moved_to d given.timeout now) s.sessions (λ y f. moved_none c d given.timeout now y e) n.sessions_are }

connected_none : (c d : ℕ) (given : Given) (now : ℤ) (s : State) → (d == c) ≡ false → NoTrace c s → NoTrace c (connected given now d s)
unfolding connected
connected_none c d given now s e n = go (int_eq given.session (pos 0))
  where
    go : (b : Bool) → NoTrace c (cond b s (connected_at (session_at given.session s.sessions) given now d s))
    go true = n
    go false = connected_at_none c d (session_at given.session s.sessions) given now s e n

gone_none : (c : ℕ) (o : Option ℕ) (ws : List Watch) → list_any (is_of c) ws ≡ false → list_any (is_of c) (watches_gone o ws) ≡ false
unfolding watches_gone
gone_none c None ws h = h
gone_none c (Some d) ws h = others_none c d ws h

ended_none : (c : ℕ) (session : ℤ) (s : State) → NoTrace c s → NoTrace c (ended session s)
unfolding ended
ended_none c session s n = record { watches_are = gone_none c _ s.watches n.watches_are; sessions_are = none_without c session s.sessions n.sessions_are }

lost_none : (c d : ℕ) (s : State) → NoTrace c s → NoTrace c (lost d s)
unfolding lost
lost_none c d s n = record { watches_are = others_none c d s.watches n.watches_are; sessions_are = none_changed c (without_connection d) s.sessions (lost_keeps c d) n.sessions_are }

-- the act is another connection's, or none's
unfoldable pub IsOthers : ℕ → Act → Type 0
IsOthers c (connects d asked given now) = (d == c) ≡ false
IsOthers c (asking d xid command now) = (d == c) ≡ false
IsOthers c (loses d) = Unit {0}
IsOthers c (expires session now) = Unit {0}

-- an act of others
pub step_quiet : (c : ℕ) (naming : Naming) (s : State) (act : Act) → IsOthers c act → NoTrace c s → QuietNext c (step naming s act)
unfolding IsOthers step answer_connect expired
step_quiet c naming s (connects d asked given now) e n = record { after = connected_none c d given now s e n; outputs_are = first_none c _ [] e (nothing_to c) }
step_quiet c naming s (asking d xid command now) e n = taken_quiet c d naming xid command now s (session_of d s.sessions) e n
step_quiet c naming s (loses d) e n = record { after = lost_none c d s n; outputs_are = nothing_to c }
step_quiet c naming s (expires session now) e n =
    let q = all_deleted_quiet c (next_zxid s) (ephemerals session s.nodes) s n.watches_are in
    record { after = ended_none c session _ (still c s _ _ n q); outputs_are = q.events_are }

-- at the start no connection has a session or a watch
pub start_none : (c : ℕ) → NoTrace c start
unfolding start_at session_of
start_none c = record { watches_are = refl; sessions_are = refl }
