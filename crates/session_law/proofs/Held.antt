-- Which session a connection has: only a connect, a loss, an expiry and a closeSession change it.
use Rattle.std.proofs.Common.{◌≡◌, ℕ, ℤ, pos, Bool, true, false, cond, List, [], ◌∷◌, ◌++◌, Option, Some, None, map, filter, refl, sym, ap, subst, ◌∙◌}
use Rattle.std.specs.Prelude.{◌==◌, not}
use Rattle.std.specs.Ordering.{int_eq}
use Rattle.std.proofs.lemmas.Bool.Decides.{Decides-int_eq, not_from_Decides}
use Rattle.tree_state.specs.declared.node.Moment.{Moment}
use Rattle.tree_state.specs.declared.session.Given.{Given}
use Rattle.tree_state.specs.Nodes.{Path, Node, find, ephemerals}
use Rattle.tree_state.specs.State.{State, Session, has_connection, session_of, is_numbered, changed_session, change_session, heard_at, moved_to, is_other_session, without_session, without_connection, session_at, next_zxid}
use Rattle.tree_state.specs.Commands.{Change, create, delete, set_content, check, Command, refused, single, multi, set_acl, stat_at, get_content, get_acl, get_children, sync, ping, set_watches, close}
use Rattle.tree_state.specs.Changes.{Trial, failed, done, need, refuse, Naming, Effect, Effects, created, deleted, updated, perform, no_effects, after_effect, or_failed, perform_all, all_deleted}
use Rattle.tree_state.specs.Step.{Act, connects, asks as asking, loses, expires, step, taken, replied, expired, Answer, with_error, told_only, or_error, answer_single, answer_multi, with_watch, with_noticed, closed, answer, hears, with_session, with_moved, connected_at, connected, ended, lost}
use Rattle.store_side.proofs.NoTrace.{no_connection_none}
use Rattle.sealed_machine.proofs.FirstAnswers.{IsNoConnect}

-- ---- changes leave the sessions as they are

unfoldable KeepsIf : State → Trial ℤ Effect → Type 0
KeepsIf s (failed code) = Unit {0}
KeepsIf s (done e) = e.state.sessions ≡ s.sessions

need_keeps : {A : Type 0} (s : State) (o : Option A) (code : ℤ) (f : A → Trial ℤ Effect) → ((x : A) → KeepsIf s (f x)) → KeepsIf s (need o code f)
unfolding need KeepsIf
need_keeps s None code f h = tt
need_keeps s (Some x) code f h = h x

refuse_keeps : (s : State) (b : Bool) (code : ℤ) (t : Trial ℤ Effect) → KeepsIf s t → KeepsIf s (refuse b code t)
unfolding refuse KeepsIf
refuse_keeps s true code t h = tt
refuse_keeps s false code t h = h

done_keeps : (s : State) (e : Effect) → e.state.sessions ≡ s.sessions → KeepsIf s (done e)
unfolding KeepsIf
done_keeps s e h = h

deleted_keeps : (z : ℤ) (p : Path) (s : State) → (deleted z p s).state.sessions ≡ s.sessions
unfolding deleted
deleted_keeps z p s = refl

created_keeps : (at : Moment) (p : Path) (n : List ℕ) (node : Node) (stat : Bool) (s : State) → (created at p n node stat s).state.sessions ≡ s.sessions
unfolding created
created_keeps at p n node stat s = refl

updated_keeps : (at : Moment) (p : Path) (d : Option (List ℕ)) (node : Node) (s : State) → (updated at p d node s).state.sessions ≡ s.sessions
unfolding updated
updated_keeps at p d node s = refl

perform_keeps : (naming : Naming) (at : Moment) (s : State) (change : Change) → KeepsIf s (perform naming at s change)
unfolding perform
perform_keeps naming at s (create p n d q e stat) = need_keeps s (find s.nodes p) _ _ λ up. refuse_keeps s _ _ _ (refuse_keeps s _ _ _ (need_keeps s _ _ _ λ name. refuse_keeps s _ _ _ (done_keeps s _ (created_keeps at p name _ stat s))))
perform_keeps naming at s (delete p v) = need_keeps s (find s.nodes p) _ _ λ node. refuse_keeps s _ _ _ (refuse_keeps s _ _ _ (done_keeps s _ (deleted_keeps at.zxid p s)))
perform_keeps naming at s (set_content p d v) = need_keeps s (find s.nodes p) _ _ λ node. refuse_keeps s _ _ _ (refuse_keeps s _ _ _ (done_keeps s _ (updated_keeps at p d node s)))
perform_keeps naming at s (check p v) = need_keeps s (find s.nodes p) _ _ λ node. refuse_keeps s _ _ _ (done_keeps s _ refl)

unfoldable KeepsAllIf : State → Trial (List ℤ) Effects → Type 0
KeepsAllIf s (failed codes) = Unit {0}
KeepsAllIf s (done e) = e.state.sessions ≡ s.sessions

after_keeps : (s : State) (e : Effect) (t : Trial (List ℤ) Effects) → e.state.sessions ≡ s.sessions → KeepsAllIf e.state t → KeepsAllIf s (after_effect e t)
unfolding after_effect KeepsAllIf
after_keeps s e (failed codes) h j = tt
after_keeps s e (done more) h j = j ∙ h

or_failed_keeps : (s : State) (t : Trial ℤ Effect) (rest : List Change) (next : Effect → Trial (List ℤ) Effects) → KeepsIf s t → ((e : Effect) → KeepsAllIf e.state (next e)) → KeepsAllIf s (or_failed t rest next)
unfolding or_failed KeepsIf KeepsAllIf
or_failed_keeps s (failed code) rest next h j = tt
or_failed_keeps s (done e) rest next h j = after_keeps s e (next e) h (j e)

perform_all_keeps : (naming : Naming) (at : Moment) (s : State) (changes : List Change) → KeepsAllIf s (perform_all naming at s changes)
unfolding perform_all no_effects KeepsAllIf
perform_all_keeps naming at s [] = refl
perform_all_keeps naming at s (x ∷ xs) = or_failed_keeps s (perform naming at s x) xs _ (perform_keeps naming at s x) (λ e. perform_all_keeps naming at e.state xs)

pub all_deleted_keeps : (z : ℤ) (ps : List Path) (s : State) → (all_deleted z ps s).state.sessions ≡ s.sessions
unfolding all_deleted no_effects
all_deleted_keeps z [] s = refl
all_deleted_keeps z (p ∷ ps) s = all_deleted_keeps z ps (deleted z p s).state ∙ deleted_keeps z p s

-- ---- answers leave the sessions as they are, but for that to a closeSession

unfoldable pub IsNoClose : Command → Type 0
IsNoClose close = ⊥
IsNoClose command = Unit {0}

unfoldable KeepsAnswerIf : State → Trial ℤ Answer → Type 0
KeepsAnswerIf s (failed code) = Unit {0}
KeepsAnswerIf s (done a) = a.state.sessions ≡ s.sessions

or_error_keeps : (s t : State) (o : Trial ℤ Answer) → t.sessions ≡ s.sessions → KeepsAnswerIf s o → (or_error t o).state.sessions ≡ s.sessions
unfolding or_error with_error KeepsAnswerIf
or_error_keeps s t (failed code) e h = e
or_error_keeps s t (done a) e h = h

need_answer_keeps : {A : Type 0} (s : State) (o : Option A) (code : ℤ) (f : A → Trial ℤ Answer) → ((x : A) → KeepsAnswerIf s (f x)) → KeepsAnswerIf s (need o code f)
unfolding need KeepsAnswerIf
need_answer_keeps s None code f h = tt
need_answer_keeps s (Some x) code f h = h x

refuse_answer_keeps : (s : State) (b : Bool) (code : ℤ) (t : Trial ℤ Answer) → KeepsAnswerIf s t → KeepsAnswerIf s (refuse b code t)
unfolding refuse KeepsAnswerIf
refuse_answer_keeps s true code t h = tt
refuse_answer_keeps s false code t h = h

done_answer_keeps : (s : State) (a : Answer) → a.state.sessions ≡ s.sessions → KeepsAnswerIf s (done a)
unfolding KeepsAnswerIf
done_answer_keeps s a h = h

single_keeps : (s : State) (t : Trial ℤ Effect) → KeepsIf s t → (answer_single s t).state.sessions ≡ s.sessions
unfolding answer_single with_error KeepsIf
single_keeps s (failed code) h = refl
single_keeps s (done e) h = h

multi_keeps : (s : State) (t : Trial (List ℤ) Effects) → KeepsAllIf s t → (answer_multi s t).state.sessions ≡ s.sessions
unfolding answer_multi told_only KeepsAllIf
multi_keeps s (failed codes) h = refl
multi_keeps s (done e) h = h

pub answer_keeps : (d : ℕ) (naming : Naming) (at : Moment) (s : State) (command : Command) → IsNoClose command → (answer naming at d s command).state.sessions ≡ s.sessions
unfolding answer IsNoClose told_only with_error with_watch with_noticed
answer_keeps d naming at s (refused code) n = refl
answer_keeps d naming at s (single change) n = single_keeps s _ (perform_keeps naming at s change)
answer_keeps d naming at s (multi changes) n = multi_keeps s _ (perform_all_keeps naming at s changes)
answer_keeps d naming at s (set_acl p v) n = or_error_keeps s s _ refl (need_answer_keeps s _ _ _ λ node. refuse_answer_keeps s _ _ _ (refuse_answer_keeps s _ _ _ (done_answer_keeps s _ refl)))
answer_keeps d naming at s (stat_at p w) n = or_error_keeps s _ _ refl (need_answer_keeps s _ _ _ λ node. done_answer_keeps s _ refl)
answer_keeps d naming at s (get_content p w) n = or_error_keeps s s _ refl (need_answer_keeps s _ _ _ λ node. done_answer_keeps s _ refl)
answer_keeps d naming at s (get_acl p) n = or_error_keeps s s _ refl (need_answer_keeps s _ _ _ λ node. done_answer_keeps s _ refl)
answer_keeps d naming at s (get_children p w stat) n = or_error_keeps s s _ refl (need_answer_keeps s _ _ _ λ node. done_answer_keeps s _ refl)
answer_keeps d naming at s (sync p) n = refl
answer_keeps d naming at s ping n = refl
answer_keeps d naming at s (set_watches seen x y z) n = refl
answer_keeps d naming at s close n = absurd n

-- ---- the sessions that have a connection

-- each session that has connection c is this one
unfoldable pub IsHeld : ℕ → ℤ → List Session → Type 0
IsHeld c n [] = Unit {0}
IsHeld c n (x ∷ xs) = (has_connection c x ≡ true → x.number ≡ n) × IsHeld c n xs

pub held_filtered : (c : ℕ) (n : ℤ) (p : Session → Bool) (xs : List Session) → IsHeld c n xs → IsHeld c n (filter p xs)
unfolding IsHeld
held_filtered c n p [] h = tt
held_filtered c n p (x ∷ xs) h = go (p x) h.0 (held_filtered c n p xs h.1)
  where
    go : (b : Bool) → (has_connection c x ≡ true → x.number ≡ n) → IsHeld c n (filter p xs) → IsHeld c n (cond b (x ∷ filter p xs) (filter p xs))
    go true e ih = (e, ih)
    go false e ih = ih

held_mapped : (c : ℕ) (n : ℤ) (f : Session → Session) (xs : List Session) → ((x : Session) → (has_connection c x ≡ true → x.number ≡ n) → has_connection c (f x) ≡ true → (f x).number ≡ n) → IsHeld c n xs → IsHeld c n (map f xs)
unfolding IsHeld
held_mapped c n f [] k h = tt
held_mapped c n f (x ∷ xs) k h = (k x h.0, held_mapped c n f xs k h.1)

held_changed : (c : ℕ) (n session : ℤ) (f : Session → Session) (xs : List Session) → ((x : Session) → is_numbered session x ≡ true → (has_connection c x ≡ true → x.number ≡ n) → has_connection c (f x) ≡ true → (f x).number ≡ n) → IsHeld c n xs → IsHeld c n (change_session session f xs)
unfolding change_session changed_session
held_changed c n session f xs k h = held_mapped c n (changed_session session f) xs (λ x. go x (is_numbered session x) refl) h
  where
    go : (x : Session) (b : Bool) → is_numbered session x ≡ b → (has_connection c x ≡ true → x.number ≡ n) → has_connection c (cond b (f x) x) ≡ true → (cond b (f x) x).number ≡ n
    go x true i e j = k x i e j
    go x false i e j = e j

held_more : (c : ℕ) (n : ℤ) (x : Session) (xs : List Session) → (has_connection c x ≡ true → x.number ≡ n) → IsHeld c n xs → IsHeld c n (xs ++ x ∷ [])
unfolding IsHeld
held_more c n x [] e h = (e, tt)
held_more c n x (y ∷ xs) e h = (h.0, held_more c n x xs e h.1)

true_false : (b : Bool) → b ≡ true → b ≡ false → ⊥
true_false b e f = absurd cc

pub held_of_none : (c : ℕ) (n : ℤ) (xs : List Session) → session_of c xs ≡ None → IsHeld c n xs
unfolding IsHeld session_of
held_of_none c n [] h = tt
held_of_none c n (x ∷ xs) h = go (has_connection c x) refl h (held_of_none c n xs)
  where
    go : (b : Bool) → has_connection c x ≡ b → cond b (Some x.number) (session_of c xs) ≡ None → (session_of c xs ≡ None → IsHeld c n xs) → (has_connection c x ≡ true → x.number ≡ n) × IsHeld c n xs
    go true e j ih = absurd cc
    go false e j ih = ((λ t. absurd (true_false (has_connection c x) t e)), ih j)

pub held_number : (c : ℕ) (n m : ℤ) (xs : List Session) → IsHeld c n xs → session_of c xs ≡ Some m → m ≡ n
unfolding IsHeld session_of
held_number c n m [] h e = absurd cc
held_number c n m (x ∷ xs) h e = go (has_connection c x) refl h.0 e (held_number c n m xs h.1)
  where
    go : (b : Bool) → has_connection c x ≡ b → (has_connection c x ≡ true → x.number ≡ n) → cond b (Some x.number) (session_of c xs) ≡ Some m → (session_of c xs ≡ Some m → m ≡ n) → m ≡ n
    go true t f j ih = (let same : m ≡ x.number = cc in same) ∙ f t
    go false t f j ih = ih j

not_other : (a b : ℤ) → int_eq a b ≡ false → a ≡ b → ⊥
not_other a b i e = not_from_Decides (int_eq a b) (Decides-int_eq a b) i e

-- where that session goes, no session has the connection
pub none_after : (c : ℕ) (n : ℤ) (xs : List Session) → IsHeld c n xs → session_of c (without_session n xs) ≡ None
unfolding IsHeld session_of without_session is_other_session is_numbered
none_after c n [] h = refl
none_after c n (x ∷ xs) h = go (int_eq x.number n) (has_connection c x) refl refl h.0 (none_after c n xs h.1)
  where
    go : (b d : Bool) → int_eq x.number n ≡ b → has_connection c x ≡ d → (has_connection c x ≡ true → x.number ≡ n) → session_of c (filter (λ y. not (int_eq y.number n)) xs) ≡ None
        → session_of c (cond (not b) (x ∷ filter (λ y. not (int_eq y.number n)) xs) (filter (λ y. not (int_eq y.number n)) xs)) ≡ None
    go true d i e f ih = ih
    go false false i e f ih = ap (λ (t : Bool). cond t (Some x.number) (session_of c (filter (λ y. not (int_eq y.number n)) xs))) e ∙ ih
    go false true i e f ih = absurd (not_other x.number n i (f e))

-- ---- steps

abbrev pub HeldIn : ℕ → ℤ → State → Type 0
HeldIn c n s = IsHeld c n s.sessions

held_as : (c : ℕ) (n : ℤ) (xs ys : List Session) → ys ≡ xs → IsHeld c n xs → IsHeld c n ys
held_as c n xs ys e h = subst (IsHeld c n) (sym e) h

pub hears_held : (c : ℕ) (n session now : ℤ) (s : State) → HeldIn c n s → HeldIn c n (hears session now s)
unfolding hears has_connection heard_at
hears_held c n session now s h = held_changed c n session (heard_at now) s.sessions (λ x i e j. keeps x e j) h
  where
    keeps : (x : Session) → (has_connection c x ≡ true → x.number ≡ n) → has_connection c (heard_at now x) ≡ true → (heard_at now x).number ≡ n
    keeps x e j = e j

pub answer_held : (c d : ℕ) (n : ℤ) (naming : Naming) (at : Moment) (s : State) (command : Command) → IsNoClose command → HeldIn c n s → HeldIn c n (answer naming at d s command).state
answer_held c d n naming at s command i h = held_as c n s.sessions _ (answer_keeps d naming at s command i) h

close_held : (c d : ℕ) (n : ℤ) (naming : Naming) (at : Moment) (s : State) → HeldIn c n s → HeldIn c n (answer naming at d s close).state
unfolding answer closed without_session
close_held c d n naming at s h = held_filtered c n (is_other_session at.session) _ (held_as c n s.sessions _ (all_deleted_keeps at.zxid (ephemerals at.session s.nodes) s) h)

pub any_answer_held : (c d : ℕ) (n : ℤ) (naming : Naming) (at : Moment) (s : State) (command : Command) → HeldIn c n s → HeldIn c n (answer naming at d s command).state
unfolding IsNoClose
any_answer_held c d n naming at s (refused code) h = answer_held c d n naming at s (refused code) tt h
any_answer_held c d n naming at s (single change) h = answer_held c d n naming at s (single change) tt h
any_answer_held c d n naming at s (multi changes) h = answer_held c d n naming at s (multi changes) tt h
any_answer_held c d n naming at s (set_acl p v) h = answer_held c d n naming at s (set_acl p v) tt h
any_answer_held c d n naming at s (stat_at p w) h = answer_held c d n naming at s (stat_at p w) tt h
any_answer_held c d n naming at s (get_content p w) h = answer_held c d n naming at s (get_content p w) tt h
any_answer_held c d n naming at s (get_acl p) h = answer_held c d n naming at s (get_acl p) tt h
any_answer_held c d n naming at s (get_children p w stat) h = answer_held c d n naming at s (get_children p w stat) tt h
any_answer_held c d n naming at s (sync p) h = answer_held c d n naming at s (sync p) tt h
any_answer_held c d n naming at s ping h = answer_held c d n naming at s ping tt h
any_answer_held c d n naming at s (set_watches seen x y z) h = answer_held c d n naming at s (set_watches seen x y z) tt h
any_answer_held c d n naming at s close h = close_held c d n naming at s h

moved_held : (c d : ℕ) (n timeout now : ℤ) (x : Session) → (d == c) ≡ false → has_connection c (moved_to d timeout now x) ≡ true → (moved_to d timeout now x).number ≡ n
unfolding has_connection moved_to
moved_held c d n timeout now x e j = absurd cc

fresh_held : (c d : ℕ) (n : ℤ) (given : Given) (now : ℤ) → (d == c) ≡ false → has_connection c (record { number = given.session; timeout = given.timeout; password = given.password; heard = now; connection = Some d }) ≡ true → given.session ≡ n
unfolding has_connection
fresh_held c d n given now e j = absurd cc

connected_at_held : (c d : ℕ) (n : ℤ) (o : Option Session) (given : Given) (now : ℤ) (s : State) → (d == c) ≡ false → HeldIn c n s → HeldIn c n (connected_at o given now d s)
unfolding connected_at with_session with_moved
connected_at_held c d n None given now s e h = held_more c n _ s.sessions (fresh_held c d n given now e) h
connected_at_held c d n (Some x) given now s e h = held_changed c n given.session (moved_to d given.timeout now) s.sessions (λ y i f j. moved_held c d n given.timeout now y e j) h

connected_held : (c d : ℕ) (n : ℤ) (given : Given) (now : ℤ) (s : State) → (d == c) ≡ false → HeldIn c n s → HeldIn c n (connected given now d s)
unfolding connected
connected_held c d n given now s e h = go (int_eq given.session (pos 0))
  where
    go : (b : Bool) → HeldIn c n (cond b s (connected_at (session_at given.session s.sessions) given now d s))
    go true = h
    go false = connected_at_held c d n (session_at given.session s.sessions) given now s e h

none_has : (c : ℕ) (x : Session) → has_connection c (record x { connection = None }) ≡ true → ⊥
none_has c x j = let f = no_connection_none c x in absurd cc

lost_keeps : (c d : ℕ) (n : ℤ) (x : Session) → (has_connection c x ≡ true → x.number ≡ n) → has_connection c (without_connection d x) ≡ true → (without_connection d x).number ≡ n
unfolding without_connection
lost_keeps c d n x e j = go (has_connection d x) j
  where
    go : (b : Bool) → has_connection c (cond b (record x { connection = None }) x) ≡ true → (cond b (record x { connection = None }) x).number ≡ n
    go true j = absurd (none_has c x j)
    go false j = e j

lost_held : (c d : ℕ) (n : ℤ) (s : State) → HeldIn c n s → HeldIn c n (lost d s)
unfolding lost
lost_held c d n s h = held_mapped c n (without_connection d) s.sessions keeps h
  where
    keeps : (x : Session) → (has_connection c x ≡ true → x.number ≡ n) → has_connection c (without_connection d x) ≡ true → (without_connection d x).number ≡ n
    keeps x e j = lost_keeps c d n x e j

expired_held : (c : ℕ) (n session : ℤ) (s : State) → HeldIn c n s → HeldIn c n (ended session (all_deleted (next_zxid s) (ephemerals session s.nodes) s).state)
unfolding ended without_session
expired_held c n session s h = held_filtered c n (is_other_session session) _ (held_as c n s.sessions _ (all_deleted_keeps (next_zxid s) (ephemerals session s.nodes) s) h)

-- the connection's own connect

own_moved : (c : ℕ) (n timeout now : ℤ) (x : Session) → is_numbered n x ≡ true → (moved_to c timeout now x).number ≡ n
unfolding moved_to is_numbered
own_moved c n timeout now x e = (Decides-int_eq x.number n).0 e

own_connected_at : (c : ℕ) (o : Option Session) (given : Given) (now : ℤ) (s : State) → session_of c s.sessions ≡ None → HeldIn c given.session (connected_at o given now c s)
unfolding connected_at with_session with_moved
own_connected_at c None given now s e = held_more c given.session _ s.sessions (λ j. refl) (held_of_none c given.session s.sessions e)
own_connected_at c (Some x) given now s e = held_changed c given.session given.session (moved_to c given.timeout now) s.sessions (λ y i f j. own_moved c given.session given.timeout now y i) (held_of_none c given.session s.sessions e)

pub own_connected : (c : ℕ) (given : Given) (now : ℤ) (s : State) → session_of c s.sessions ≡ None → HeldIn c given.session (connected given now c s)
unfolding connected
own_connected c given now s e = go (int_eq given.session (pos 0))
  where
    go : (b : Bool) → HeldIn c given.session (cond b s (connected_at (session_at given.session s.sessions) given now c s))
    go true = held_of_none c given.session s.sessions e
    go false = own_connected_at c (session_at given.session s.sessions) given now s e

taken_held : (c d : ℕ) (n : ℤ) (naming : Naming) (xid : ℤ) (command : Command) (now : ℤ) (s : State) (o : Option ℤ) → HeldIn c n s → HeldIn c n (taken naming d xid command now s o).state
unfolding taken replied
taken_held c d n naming xid command now s None h = h
taken_held c d n naming xid command now s (Some session) h = any_answer_held c d n naming _ _ command (hears_held c n session now s h)

-- each act but a connect of this connection
pub step_held : (c : ℕ) (n : ℤ) (naming : Naming) (s : State) (act : Act) → IsNoConnect c act → HeldIn c n s → HeldIn c n (step naming s act).state
unfolding IsNoConnect step expired
step_held c n naming s (connects d asked given now) e h = connected_held c d n given now s e h
step_held c n naming s (asking d xid command now) e h = taken_held c d n naming xid command now s (session_of d s.sessions) h
step_held c n naming s (loses d) e h = lost_held c d n s h
step_held c n naming s (expires session now) e h = expired_held c n session s h
