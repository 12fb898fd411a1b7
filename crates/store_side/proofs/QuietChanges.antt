-- A change tells a connection that has no watch nothing, leaves no watch of it, and no session.
use Rattle.std.proofs.Common.{◌≡◌, ℕ, ℤ, pos, Bool, true, false, cond, List, [], ◌∷◌, ◌++◌, Option, Some, None, filter, refl, ap, ◌∙◌}
use Rattle.std.specs.Prelude.{◌==◌, ◌||◌, nat_le}
use Rattle.std.specs.List.{list_any, filter_map, cons_option}
use Rattle.tree_state.specs.declared.message.Output.{Output}
use Rattle.tree_state.specs.declared.node.Moment.{Moment}
use Rattle.tree_state.specs.Nodes.{Path, Node, find}
use Rattle.tree_state.specs.State.{State, Watch, Aspect, on_data, on_children, is_on, connection_if_on, told, left, left_of_others, after_lower, is_same_watch, watching}
use Rattle.tree_state.specs.Commands.{Change, create, delete, set_content, check}
use Rattle.tree_state.specs.Changes.{Trial, failed, done, need, refuse, Naming, Effect, Effects, event_to, events_to, creation_events, left_by_creation, end_events, deletion_events, left_by_deletion, content_events, created, deleted, updated, perform, no_effects, after_effect, or_failed, perform_all, all_deleted}
use Rattle.store_side.specs.Out.{to_connection}
use Rattle.store_side.proofs.Appended.{to_connection-append}

-- ---- lists

either_false : (a b : Bool) → (a || b) ≡ false → (a ≡ false) × (b ≡ false)
either_false true b h = absurd cc
either_false false b h = (refl, h)

both_false : (a b : Bool) → a ≡ false → b ≡ false → (a || b) ≡ false
both_false a b e f = ap (λ (x : Bool). x || b) e ∙ f

none_filtered : {A : Type 0} (q p : A → Bool) (xs : List A) → list_any q xs ≡ false → list_any q (filter p xs) ≡ false
none_filtered q p [] h = refl
none_filtered q p (x ∷ xs) h = go (p x) (either_false (q x) (list_any q xs) h) (none_filtered q p xs (either_false (q x) (list_any q xs) h).1)
  where
    go : (b : Bool) → (q x ≡ false) × (list_any q xs ≡ false) → list_any q (filter p xs) ≡ false → list_any q (cond b (x ∷ filter p xs) (filter p xs)) ≡ false
    go true e ih = both_false (q x) (list_any q (filter p xs)) e.0 ih
    go false e ih = ih

-- ---- watches

unfoldable pub is_of : ℕ → Watch → Bool
is_of c w = w.connection == c

unfoldable pub is_one : ℕ → ℕ → Bool
is_one c d = d == c

told_none : (c : ℕ) (a : Aspect) (p : Path) (ws : List Watch) → list_any (is_of c) ws ≡ false → list_any (is_one c) (told a p ws) ≡ false
unfolding told connection_if_on is_of is_one
told_none c a p [] h = refl
told_none c a p (w ∷ ws) h = go (is_on a p w) (either_false _ _ h).0 (told_none c a p ws (either_false _ _ h).1)
  where
    go : (b : Bool) → (w.connection == c) ≡ false → list_any (λ d. d == c) (filter_map (connection_if_on a p) ws) ≡ false
        → list_any (λ d. d == c) (cons_option (cond b (Some w.connection) None) (filter_map (connection_if_on a p) ws)) ≡ false
    go true e ih = both_false _ _ e ih
    go false e ih = ih

pub nothing_to : (c : ℕ) → to_connection c [] ≡ []
unfolding to_connection
nothing_to c = refl

pub first_none : (c : ℕ) (o : Output) (os : List Output) → (o.connection == c) ≡ false → to_connection c os ≡ [] → to_connection c (o ∷ os) ≡ []
unfolding to_connection
first_none c o os e f = ap (λ (b : Bool). cond b (o.message ∷ to_connection c os) (to_connection c os)) e ∙ f

pub events_none : (c : ℕ) (kind : ℤ) (p : Path) (cs : List ℕ) → list_any (is_one c) cs ≡ false → to_connection c (events_to kind p cs) ≡ []
unfolding events_to event_to to_connection is_one
events_none c kind p [] h = refl
events_none c kind p (d ∷ cs) h =
    let e = either_false (d == c) (list_any (λ x. x == c) cs) h in
    let f = events_none c kind p cs e.1 in
    first_none c _ _ e.0 f

pub two_none : (c : ℕ) (os us : List Output) → to_connection c os ≡ [] → to_connection c us ≡ [] → to_connection c (os ++ us) ≡ []
two_none c os us e f = to_connection-append c os us ∙ (λ i. e i ++ f i)

left_none : (c : ℕ) (a : Aspect) (p : Path) (ws : List Watch) → list_any (is_of c) ws ≡ false → list_any (is_of c) (left a p ws) ≡ false
unfolding left
left_none c a p ws h = none_filtered (is_of c) _ ws h

pub others_none : (c d : ℕ) (ws : List Watch) → list_any (is_of c) ws ≡ false → list_any (is_of c) (left_of_others d ws) ≡ false
unfolding left_of_others
others_none c d ws h = none_filtered (is_of c) _ ws h

after_none : (c : ℕ) (w : Watch) (ws : List Watch) → is_of c w ≡ false → list_any (is_of c) ws ≡ false → list_any (is_of c) (after_lower w ws) ≡ false
unfolding after_lower
after_none c w [] e h = both_false _ _ e refl
after_none c w (v ∷ vs) e h = go (nat_le v.connection w.connection) (either_false (is_of c v) (list_any (is_of c) vs) h) (after_none c w vs e (either_false (is_of c v) (list_any (is_of c) vs) h).1)
  where
    go : (b : Bool) → (is_of c v ≡ false) × (list_any (is_of c) vs ≡ false) → list_any (is_of c) (after_lower w vs) ≡ false
        → list_any (is_of c) (cond b (v ∷ after_lower w vs) (w ∷ v ∷ vs)) ≡ false
    go true f ih = both_false (is_of c v) _ f.0 ih
    go false f ih = both_false (is_of c w) _ e (both_false (is_of c v) _ f.0 f.1)

pub watching_none : (c : ℕ) (w : Watch) (ws : List Watch) → is_of c w ≡ false → list_any (is_of c) ws ≡ false → list_any (is_of c) (watching w ws) ≡ false
unfolding watching
watching_none c w ws e h = go (list_any (is_same_watch w) ws)
  where
    go : (b : Bool) → list_any (is_of c) (cond b ws (after_lower w ws)) ≡ false
    go true = h
    go false = after_none c w ws e h

-- ---- effects

-- a change tells the connection nothing, leaves no watch of it, and no session
pub record Quiet (c : ℕ) (s t : State) (events : List Output) : Type 0 where
  pub watches_are : list_any (is_of c) t.watches ≡ false
  pub sessions_are : t.sessions ≡ s.sessions
  pub events_are : to_connection c events ≡ []

unfoldable pub QuietIf : ℕ → State → Trial ℤ Effect → Type 0
QuietIf c s (failed code) = Unit {0}
QuietIf c s (done e) = Quiet c s e.state e.events

need_quiet : {A : Type 0} (c : ℕ) (s : State) (o : Option A) (code : ℤ) (f : A → Trial ℤ Effect) → ((x : A) → QuietIf c s (f x)) → QuietIf c s (need o code f)
unfolding need QuietIf
need_quiet c s None code f h = tt
need_quiet c s (Some x) code f h = h x

refuse_quiet : (c : ℕ) (s : State) (b : Bool) (code : ℤ) (t : Trial ℤ Effect) → QuietIf c s t → QuietIf c s (refuse b code t)
unfolding refuse QuietIf
refuse_quiet c s true code t h = tt
refuse_quiet c s false code t h = h

done_quiet : (c : ℕ) (s : State) (e : Effect) → Quiet c s e.state e.events → QuietIf c s (done e)
unfolding QuietIf
done_quiet c s e h = h

created_quiet : (c : ℕ) (at : Moment) (p : Path) (n : List ℕ) (node : Node) (stat : Bool) (s : State) → list_any (is_of c) s.watches ≡ false
    → Quiet c s (created at p n node stat s).state (created at p n node stat s).events
unfolding created left_by_creation creation_events
created_quiet c at p n node stat s h = record {
  watches_are = left_none c on_children p _ (left_none c on_data (n ∷ p) s.watches h);
  sessions_are = refl;
  events_are = two_none c _ _ (events_none c (pos 1) (n ∷ p) _ (told_none c on_data (n ∷ p) s.watches h)) (events_none c (pos 4) p _ (told_none c on_children p s.watches h));
}

pub deleted_quiet : (c : ℕ) (z : ℤ) (p : Path) (s : State) → list_any (is_of c) s.watches ≡ false → Quiet c s (deleted z p s).state (deleted z p s).events
unfolding deleted left_by_deletion deletion_events end_events
deleted_quiet c z p s h = record {
  watches_are = left_none c on_children _ _ (left_none c on_children p _ (left_none c on_data p s.watches h));
  sessions_are = refl;
  events_are = two_none c _ _ (two_none c _ _ (events_none c (pos 2) p _ (told_none c on_data p s.watches h)) (events_none c (pos 2) p _ (none_filtered (is_one c) _ (told on_children p s.watches) (told_none c on_children p s.watches h))))
      (events_none c (pos 4) _ _ (told_none c on_children _ _ (left_none c on_children p s.watches h)));
}

updated_quiet : (c : ℕ) (at : Moment) (p : Path) (d : Option (List ℕ)) (node : Node) (s : State) → list_any (is_of c) s.watches ≡ false
    → Quiet c s (updated at p d node s).state (updated at p d node s).events
unfolding updated content_events
updated_quiet c at p d node s h = record { watches_are = left_none c on_data p s.watches h; sessions_are = refl; events_are = events_none c (pos 3) p _ (told_none c on_data p s.watches h) }

same_quiet : (c : ℕ) (s t : State) → t.watches ≡ s.watches → t.sessions ≡ s.sessions → list_any (is_of c) s.watches ≡ false → Quiet c s t []
unfolding to_connection
same_quiet c s t e f h = record { watches_are = ap (list_any (is_of c)) e ∙ h; sessions_are = f; events_are = refl }

pub perform_quiet : (c : ℕ) (naming : Naming) (at : Moment) (s : State) (change : Change) → list_any (is_of c) s.watches ≡ false → QuietIf c s (perform naming at s change)
unfolding perform
perform_quiet c naming at s (create p n d q e stat) h =
    need_quiet c s (find s.nodes p) _ _ λ up. refuse_quiet c s _ _ _ (refuse_quiet c s _ _ _ (need_quiet c s _ _ _ λ name. refuse_quiet c s _ _ _ (done_quiet c s _ (created_quiet c at p name _ stat s h))))
perform_quiet c naming at s (delete p v) h = need_quiet c s (find s.nodes p) _ _ λ node. refuse_quiet c s _ _ _ (refuse_quiet c s _ _ _ (done_quiet c s _ (deleted_quiet c at.zxid p s h)))
perform_quiet c naming at s (set_content p d v) h = need_quiet c s (find s.nodes p) _ _ λ node. refuse_quiet c s _ _ _ (refuse_quiet c s _ _ _ (done_quiet c s _ (updated_quiet c at p d node s h)))
perform_quiet c naming at s (check p v) h = need_quiet c s (find s.nodes p) _ _ λ node. refuse_quiet c s _ _ _ (done_quiet c s _ (same_quiet c s _ refl refl h))

unfoldable pub QuietAllIf : ℕ → State → Trial (List ℤ) Effects → Type 0
QuietAllIf c s (failed codes) = Unit {0}
QuietAllIf c s (done e) = Quiet c s e.state e.events

after_quiet : (c : ℕ) (s : State) (e : Effect) (t : Trial (List ℤ) Effects) → Quiet c s e.state e.events → QuietAllIf c e.state t → QuietAllIf c s (after_effect e t)
unfolding after_effect QuietAllIf
after_quiet c s e (failed codes) h j = tt
after_quiet c s e (done more) h j = record { watches_are = j.watches_are; sessions_are = j.sessions_are ∙ h.sessions_are; events_are = two_none c e.events more.events h.events_are j.events_are }

or_failed_quiet : (c : ℕ) (s : State) (t : Trial ℤ Effect) (rest : List Change) (next : Effect → Trial (List ℤ) Effects) → QuietIf c s t
    → ((e : Effect) → list_any (is_of c) e.state.watches ≡ false → QuietAllIf c e.state (next e)) → QuietAllIf c s (or_failed t rest next)
unfolding or_failed QuietIf QuietAllIf
or_failed_quiet c s (failed code) rest next h j = tt
or_failed_quiet c s (done e) rest next h j = after_quiet c s e (next e) h (j e h.watches_are)

pub perform_all_quiet : (c : ℕ) (naming : Naming) (at : Moment) (s : State) (changes : List Change) → list_any (is_of c) s.watches ≡ false → QuietAllIf c s (perform_all naming at s changes)
unfolding perform_all no_effects QuietAllIf
perform_all_quiet c naming at s [] h = same_quiet c s _ refl refl h
perform_all_quiet c naming at s (x ∷ xs) h = or_failed_quiet c s (perform naming at s x) xs _ (perform_quiet c naming at s x h) (λ e g. perform_all_quiet c naming at e.state xs g)

pub all_deleted_quiet : (c : ℕ) (z : ℤ) (ps : List Path) (s : State) → list_any (is_of c) s.watches ≡ false → Quiet c s (all_deleted z ps s).state (all_deleted z ps s).events
unfolding all_deleted no_effects
all_deleted_quiet c z [] s h = same_quiet c s _ refl refl h
all_deleted_quiet c z (p ∷ ps) s h =
    let e = deleted_quiet c z p s h in
    let m = all_deleted_quiet c z ps (deleted z p s).state e.watches_are in
    record { watches_are = m.watches_are; sessions_are = m.sessions_are ∙ e.sessions_are; events_are = two_none c _ _ e.events_are m.events_are }
