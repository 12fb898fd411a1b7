-- The nodes of a session that ends go one after another: what is there meanwhile, and at the end.
use Rattle.std.proofs.Common.{◌≡◌, ℕ, ℤ, Bool, true, false, cond, not, List, [], ◌∷◌, ◌++◌, Option, Some, None, String, Global, string_bytes, map, refl, sym, ap, ap₂, subst, subst₂, ◌∙◌, inl, inr, int_eq}
use Rattle.std.specs.Prelude.{All, pos, ◌≤ℤ◌, ◌+ℤ◌}
use Rattle.std.specs.Int.Signed.{clash_ℤ}
use Rattle.std.specs.List.{cons_option, AllZip}
use Rattle.std.proofs.lemmas.Bool.{cases_Bool}
use Rattle.std.proofs.lemmas.List.Elements.{All-nil, All-cons, All-head, All-tail, All-filter}
use Rattle.zk_path.specs.Paths.{IsTextOf}
use Rattle.tree_state.specs.declared.held.Held.{Held}
use Rattle.tree_state.specs.declared.message.Output.{Output}
use Rattle.tree_state.specs.declared.node.Moment.{Moment}
use Rattle.tree_state.specs.declared.places.Places.{Places}
use Rattle.tree_state.specs.declared.watches.Watches.{Watches}
use Rattle.tree_state.specs.Nodes.{Path, Node, Place, above, same_path, find, is_there, change, is_elsewhere, remove, has_children, path_if_owned, ephemerals}
use Rattle.tree_state.specs.State.{State, Session, Watch, left_of_others, session_at, is_numbered, is_other_session, without_session, next_zxid}
use Rattle.tree_state.specs.Changes.{Naming, with_deletion, left_by_deletion, deleted, all_deleted, no_effects}
use Rattle.tree_state.specs.Step.{expires, step, ended, expired, watches_gone, connection_at}
use Rattle.tree_state.specs.Places.{IsApart, Holds}
use Rattle.tree_state.specs.Sessions.{Keeps, Owning, OwnTexts}
use Rattle.tree_state.specs.Watches.{Watching}
use Rattle.tree_state.specs.Trees.{Means, Does, AreOwned, IsGiven, IsMoment}
use Rattle.tree_state.proofs.SamePaths.{same_path-true, same_path-from, same_path-sym, same_path-above}
use Rattle.tree_state.proofs.Found.{found_there, find_changed-other, remove_absent, apart_changed}
use Rattle.tree_state.proofs.SessionLists.{none_live, at_first, at_others, number_of}
use Rattle.tree_state.proofs.Owned.{equal_numbers, number_flips, ephemerals_changed, ephemerals_removed-other, keeps_same, owned_changed, owned_removed, given_so}

-- ---- the first of a session's ephemerals

pub owned_here : (k : ℤ) (e : Place) (es : List Place) → int_eq e.node.numbers.owner k ≡ true → ephemerals k (e ∷ es) ≡ e.path ∷ ephemerals k es
unfolding ephemerals path_if_owned
owned_here k e es h = ap (λ (b : Bool). cons_option (cond b (Some e.path) None) (ephemerals k es)) h

pub owned_behind : (k : ℤ) (e : Place) (es : List Place) → int_eq e.node.numbers.owner k ≡ false → ephemerals k (e ∷ es) ≡ ephemerals k es
unfolding ephemerals path_if_owned
owned_behind k e es h = ap (λ (b : Bool). cons_option (cond b (Some e.path) None) (ephemerals k es)) h

removed_here : (e : Place) (es : List Place) (p : Path) → same_path e.path p ≡ true → remove p (e ∷ es) ≡ remove p es
unfolding remove is_elsewhere
removed_here e es p h = ap (λ (b : Bool). cond (not b) (e ∷ remove p es) (remove p es)) h

removed_behind : (e : Place) (es : List Place) (p : Path) → same_path e.path p ≡ false → remove p (e ∷ es) ≡ e ∷ remove p es
unfolding remove is_elsewhere
removed_behind e es p h = ap (λ (b : Bool). cond (not b) (e ∷ remove p es) (remove p es)) h

pub found_here : (e : Place) (es : List Place) (p : Path) → e.path ≡ p → find (e ∷ es) p ≡ Some e.node
unfolding find
found_here e es p h = ap (λ (b : Bool). cond b (Some e.node) (find es p)) (same_path-from e.path p h)

pub found_behind : (e : Place) (es : List Place) (p : Path) → same_path e.path p ≡ false → find (e ∷ es) p ≡ find es p
unfolding find
found_behind e es p h = ap (λ (b : Bool). cond b (Some e.node) (find es p)) h

none_first : (k : ℤ) (p : Path) (ps : List Path) → ephemerals k [] ≡ p ∷ ps → ⊥
unfolding ephemerals
none_first k p ps h = cc

apart_first : (e : Place) (es : List Place) → IsApart (e ∷ es) → is_there es e.path ≡ false
unfolding IsApart
apart_first e es h = h.0

pub apart_rest : (e : Place) (es : List Place) → IsApart (e ∷ es) → IsApart es
unfolding IsApart
apart_rest e es h = h.1

-- of two nodes none stands at the other's path
pub elsewhere : (e : Place) (es : List Place) (p : Path) (n : Node) → IsApart (e ∷ es) → find es p ≡ Some n → same_path e.path p ≡ false
elsewhere e es p n apart found = elim (cases_Bool (same_path e.path p)) [
  | inl i ↦
      let absent = subst (λ (q : Path). is_there es q ≡ false) (same_path-true e.path p i) (apart_first e es apart) in
      let there = found_there p es n found in
      absurd cc
  | inr i ↦ i
]

-- a node that is there, and whose it is
pub record IsOwnedBy (es : List Place) (p : Path) (k : ℤ) : Type 0 where
  pub node : Node
  pub found : find es p ≡ Some node
  pub owner : node.numbers.owner ≡ k

-- a session's first ephemeral is there, and belongs to it
pub first_found : (k : ℤ) (es : List Place) (p : Path) (ps : List Path) → IsApart es → ephemerals k es ≡ p ∷ ps → IsOwnedBy es p k
first_found k [] p ps apart own = absurd (none_first k p ps own)
first_found k (e ∷ es) p ps apart own = elim (cases_Bool (int_eq e.node.numbers.owner k)) [
  | inl i ↦
      let first = sym (owned_here k e es i) ∙ own in
      let here : e.path ≡ p = cc in
      record { node = e.node; found = found_here e es p here; owner = equal_numbers e.node.numbers.owner k i }
  | inr i ↦
      let later = first_found k es p ps (apart_rest e es apart) (sym (owned_behind k e es i) ∙ own) in
      record { node = later.node; found = found_behind e es p (elsewhere e es p later.node apart later.found) ∙ later.found; owner = later.owner }
]

-- when it goes, the others are left
first_goes : (k : ℤ) (es : List Place) (p : Path) (ps : List Path) → IsApart es → ephemerals k es ≡ p ∷ ps → ephemerals k (remove p es) ≡ ps
first_goes k [] p ps apart own = absurd (none_first k p ps own)
first_goes k (e ∷ es) p ps apart own = elim (cases_Bool (int_eq e.node.numbers.owner k)) [
  | inl i ↦
      let first = sym (owned_here k e es i) ∙ own in
      let here : e.path ≡ p = cc in
      let rest : ephemerals k es ≡ ps = cc in
      let absent = subst (λ (q : Path). is_there es q ≡ false) here (apart_first e es apart) in
      ap (ephemerals k) (removed_here e es p (same_path-from e.path p here) ∙ remove_absent p es absent) ∙ rest
  | inr i ↦
      let own_behind = sym (owned_behind k e es i) ∙ own in
      let later = first_found k es p ps (apart_rest e es apart) own_behind in
      ap (ephemerals k) (removed_behind e es p (elsewhere e es p later.node apart later.found)) ∙ owned_behind k e (remove p es) i
      ∙ first_goes k es p ps (apart_rest e es apart) own_behind
]

-- ---- one after another

-- the nodes without the one at the path, which its parent counts
unfoldable pub without : ℤ → Path → List Place → List Place
without z p es = remove p (change (above p) (with_deletion z) es)

unfoldable pub all_gone : ℤ → List Path → List Place → List Place
all_gone z [] es = es
all_gone z (p ∷ ps) es = all_gone z ps (without z p es)

-- the watches that stay when these nodes have gone
unfoldable pub all_fired : List Path → List Watch → List Watch
all_fired [] ws = ws
all_fired (p ∷ ps) ws = all_fired ps (left_by_deletion p ws)

-- the state when these nodes have gone
pub all_deleted_is : (z : ℤ) (ps : List Path) (s : State)
    → (all_deleted z ps s).state ≡ record { nodes = all_gone z ps s.nodes; sessions = s.sessions; watches = all_fired ps s.watches; greatest = s.greatest; last = z }
unfolding all_deleted no_effects all_gone all_fired deleted without
all_deleted_is z [] s = refl
all_deleted_is z (p ∷ ps) s = all_deleted_is z ps (record s { nodes = without z p s.nodes; watches = left_by_deletion p s.watches; last = z })

-- ---- what is there while they go

keeps_owner : (z : ℤ) (n : Node) → (with_deletion z n).numbers.owner ≡ n.numbers.owner
unfolding with_deletion
keeps_owner z n = refl

-- The ephemerals of a session go, and those with these texts are left: what is held meanwhile.
pub record AreLeaving (z session : ℤ) (s : State) (t : Places) (w : Watches) (texts : List (String Global)) : Type 0 where
  pub nodes : List Place
  pub watches : List Watch
  pub holds : Holds t nodes
  pub watching : Watching w watches
  pub own : OwnTexts texts (ephemerals session nodes)
  pub end : all_gone z (ephemerals session nodes) nodes ≡ all_gone z (ephemerals session s.nodes) s.nodes
  pub fired : all_fired (ephemerals session nodes) watches ≡ all_fired (ephemerals session s.nodes) s.watches
  pub others : (k : ℤ) → int_eq k session ≡ false → ephemerals k nodes ≡ ephemerals k s.nodes
  pub owners : AreOwned (record s { nodes = nodes })

-- before the first of them
pub all_left : (z session : ℤ) (s : State) (t : Places) (w : Watches) (texts : List (String Global)) → Holds t s.nodes → Watching w s.watches
    → OwnTexts texts (ephemerals session s.nodes) → AreOwned s → AreLeaving z session s t w texts
all_left z session s t w texts holds watching own owners = record {
  nodes = s.nodes;
  watches = s.watches;
  holds = holds;
  watching = watching;
  own = own;
  end = refl;
  fired = refl;
  others = λ k far. refl;
  owners = owners;
}

owned_after : (s : State) (es : List Place) (p : Path) (z : ℤ) → AreOwned (record s { nodes = es }) → AreOwned (record s { nodes = without z p es })
unfolding without
owned_after s es p z h =
    owned_removed (record s { nodes = change (above p) (with_deletion z) es }) p s.watches s.last
    (owned_changed (record s { nodes = es }) (above p) (with_deletion z) s.watches s.last (keeps_owner z) h)

own_after : (z k : ℤ) (n : List ℕ) (p : Path) (es : List Place) (ps : List Path) → IsApart es → ephemerals k es ≡ (n ∷ p) ∷ ps → ephemerals k (without z (n ∷ p) es) ≡ ps
unfolding without above
own_after z k n p es ps apart own =
    first_goes k (change p (with_deletion z) es) (n ∷ p) ps (apart_changed p (with_deletion z) es apart) (ephemerals_changed k p (with_deletion z) es (keeps_owner z) ∙ own)

others_after : (z k session : ℤ) (n : List ℕ) (p : Path) (es : List Place) → IsApart es → IsOwnedBy es (n ∷ p) session → int_eq k session ≡ false → ephemerals k (without z (n ∷ p) es) ≡ ephemerals k es
unfolding without above
others_after z k session n p es apart first far =
    ephemerals_removed-other k (n ∷ p) (change p (with_deletion z) es) first.node (apart_changed p (with_deletion z) es apart)
    (find_changed-other p (n ∷ p) (with_deletion z) es (same_path-sym (n ∷ p) p (same_path-above n p)) ∙ first.found)
    (subst (λ (j : ℤ). int_eq j k ≡ false) (sym first.owner) (number_flips k session far))
    ∙ ephemerals_changed k p (with_deletion z) es (keeps_owner z)

-- what the removal of a node ensures
abbrev pub Removes : ℤ → List ℕ → Places → Places → Type 0
Removes z text t u = (es : List Place) (n : List ℕ) (p : Path) → Holds t es → IsTextOf text (n ∷ p) → is_there es (n ∷ p) ≡ true → has_children (n ∷ p) es ≡ false
    → Holds u (remove (n ∷ p) (change p (with_deletion z) es))

holds_after : (z : ℤ) (text : List ℕ) (t u : Places) (es : List Place) (n : List ℕ) (p : Path) → Removes z text t u → Holds t es → IsTextOf text (n ∷ p) → is_there es (n ∷ p) ≡ true
    → has_children (n ∷ p) es ≡ false → Holds u (without z (n ∷ p) es)
unfolding without above
holds_after z text t u es n p removes holds named there alone = removes es n p holds named there alone

-- what the loss of a node's watches ensures
abbrev pub Fires : List ℕ → Watches → Watches → Type 0
Fires text v w = (ws : List Watch) (p : Path) (n : List ℕ) → Watching v ws → IsTextOf text (n ∷ p) → Watching w (left_by_deletion (n ∷ p) ws)

one_less : (z : ℤ) (p : Path) (ps : List Path) (es : List Place) → all_gone z (p ∷ ps) es ≡ all_gone z ps (without z p es)
unfolding all_gone
one_less z p ps es = refl

one_fired : (p : Path) (ps : List Path) (ws : List Watch) → all_fired (p ∷ ps) ws ≡ all_fired ps (left_by_deletion p ws)
unfolding all_fired
one_fired p ps ws = refl

-- a session is not session 0
pub above_zero : (session : ℤ) → pos 1 ≤ℤ session → session ≡ pos 0 → ⊥
above_zero session positive zero = clash_ℤ (record { lt = tt }) (subst (λ (k : ℤ). pos 1 ≤ℤ k) zero positive)

one_goes : (z session : ℤ) (s : State) (t u : Places) (v w : Watches) (k : String Global) (ks : List (String Global)) (a : AreLeaving z session s t v (k ∷ ks)) (n : List ℕ) (p : Path) (ps : List Path)
    → pos 1 ≤ℤ session → Removes z (string_bytes k) t u → Fires (string_bytes k) v w → ephemerals session a.nodes ≡ (n ∷ p) ∷ ps → IsTextOf (string_bytes k) (n ∷ p) → OwnTexts ks ps
    → AreLeaving z session s u w ks
one_goes z session s t u v w k ks a n p ps positive removes fires own named rest =
    let first = first_found session a.nodes (n ∷ p) ps a.holds.apart own in
    let alone = a.owners.childless (n ∷ p) first.node first.found (λ zero. above_zero session positive (sym first.owner ∙ zero)) in
    let left = own_after z session n p a.nodes ps a.holds.apart own in
    record {
      nodes = without z (n ∷ p) a.nodes;
      watches = left_by_deletion (n ∷ p) a.watches;
      holds = holds_after z (string_bytes k) t u a.nodes n p removes a.holds named (found_there (n ∷ p) a.nodes first.node first.found) alone;
      watching = fires a.watches p n a.watching named;
      own = subst (OwnTexts ks) (sym left) rest;
      end = ap (λ (qs : List Path). all_gone z qs (without z (n ∷ p) a.nodes)) left ∙ sym (one_less z (n ∷ p) ps a.nodes)
          ∙ ap (λ (qs : List Path). all_gone z qs a.nodes) (sym own) ∙ a.end;
      fired = ap (λ (qs : List Path). all_fired qs (left_by_deletion (n ∷ p) a.watches)) left ∙ sym (one_fired (n ∷ p) ps a.watches)
          ∙ ap (λ (qs : List Path). all_fired qs a.watches) (sym own) ∙ a.fired;
      others = λ j far. others_after z j session n p a.nodes a.holds.apart first far ∙ a.others j far;
      owners = owned_after s a.nodes (n ∷ p) z a.owners;
    }

-- the next of them goes
pub next_goes : (z session : ℤ) (s : State) (t u : Places) (v w : Watches) (k : String Global) (ks : List (String Global)) → pos 1 ≤ℤ session
    → Removes z (string_bytes k) t u → Fires (string_bytes k) v w → AreLeaving z session s t v (k ∷ ks) → AreLeaving z session s u w ks
unfolding OwnTexts
next_goes z session s t u v w k ks positive removes fires a = go (ephemerals session a.nodes) refl a.own
  where
    go : (ps : List Path) → ephemerals session a.nodes ≡ ps → AllZip IsTextOf (map string_bytes (k ∷ ks)) ps → AreLeaving z session s u w ks
    go [] own named = absurd named
    go ([] ∷ ps) own named =
        let first = first_found session a.nodes [] ps a.holds.apart own in
        absurd (above_zero session positive (sym first.owner ∙ a.owners.free first.node first.found))
    go ((n ∷ p) ∷ ps) own named = one_goes z session s t u v w k ks a n p ps positive removes fires own named.0 named.1

-- ---- the end

pub nothing_owned : (ps : List Path) → OwnTexts [] ps → ps ≡ []
unfolding OwnTexts
nothing_owned [] h = refl
nothing_owned (p ∷ ps) h = absurd h

all_others : (session : ℤ) (f g : Owning) (xs : List Session) → ((k : ℤ) → int_eq k session ≡ false → g k ≡ f k) → All (λ x. f x.number ≡ g x.number) (without_session session xs)
unfolding without_session is_other_session is_numbered
all_others session f g [] same = All-nil (λ x. f x.number ≡ g x.number)
all_others session f g (x ∷ xs) same = go (int_eq x.number session) refl (all_others session f g xs same)
  where
    go : (b : Bool) → int_eq x.number session ≡ b → All (λ x. f x.number ≡ g x.number) (without_session session xs)
        → All (λ x. f x.number ≡ g x.number) (cond (not b) (x ∷ without_session session xs) (without_session session xs))
    go true i ih = ih
    go false i ih = All-cons (λ x. f x.number ≡ g x.number) x (without_session session xs) (sym (same x.number i)) ih

ended_is : (z session : ℤ) (ps : List Path) (s : State)
    → ended session (all_deleted z ps s).state ≡ record {
      nodes = all_gone z ps s.nodes;
      sessions = without_session session s.sessions;
      watches = watches_gone (connection_at (session_at session s.sessions)) (all_fired ps s.watches);
      greatest = s.greatest;
      last = z;
    }
unfolding ended
ended_is z session ps s = ap (ended session) (all_deleted_is z ps s)

-- what the loss of the watches of a connection ensures, if there is one
abbrev pub Loses : Option ℕ → Watches → Watches → Type 0
Loses c v w = (ws : List Watch) → Watching v ws → Watching w (watches_gone c ws)

pub lost_none : (c : Option ℕ) (v : Watches) → c ≡ None → Loses c v v
unfolding watches_gone
lost_none c v none = λ ws h. subst (λ (o : Option ℕ). Watching v (watches_gone o ws)) (sym none) h

pub lost_some : (c : Option ℕ) (d : ℕ) (v w : Watches) → c ≡ Some d → ((ws : List Watch) → Watching v ws → Watching w (left_of_others d ws)) → Loses c v w
unfolding watches_gone
lost_some c d v w some loses = λ ws h. subst (λ (o : Option ℕ). Watching w (watches_gone o ws)) (sym some) (loses ws h)

-- when none is left, what is held means the state without the session
pub session_ended : (before after : Held) (at : Moment) (s : State) (v : Watches) (c : Option ℕ) → Means before s → AreLeaving at.zxid at.session s after.places v []
    → Keeps after.sessions (without_session at.session s.sessions) (λ k. ephemerals k s.nodes) → c ≡ connection_at (session_at at.session s.sessions) → Loses c v after.watches
    → after.last ≡ at.zxid
    → Means after (ended at.session (all_deleted at.zxid (ephemerals at.session s.nodes) s).state)
unfolding all_gone all_fired without_session
session_ended before after at s v c means a keeps its loses last =
    let none = nothing_owned (ephemerals at.session a.nodes) a.own in
    let nodes : all_gone at.zxid (ephemerals at.session s.nodes) s.nodes ≡ a.nodes = sym (ap (λ (qs : List Path). all_gone at.zxid qs a.nodes) (sym none) ∙ a.end) in
    let watches : all_fired (ephemerals at.session s.nodes) s.watches ≡ a.watches = sym (ap (λ (qs : List Path). all_fired qs a.watches) (sym none) ∙ a.fired) in
    let state = ended_is at.zxid at.session (ephemerals at.session s.nodes) s
    ∙ ap₂ (λ (es : List Place) (ws : List Watch). record { nodes = es; sessions = without_session at.session s.sessions; watches = watches_gone (connection_at (session_at at.session s.sessions)) ws; greatest = s.greatest; last = at.zxid })
    nodes watches in
    subst (Means after) (sym state) (record {
      places = a.holds;
      sessions = keeps_same after.sessions (without_session at.session s.sessions) (λ k. ephemerals k s.nodes) (λ k. ephemerals k a.nodes)
          (all_others at.session (λ k. ephemerals k s.nodes) (λ k. ephemerals k a.nodes) s.sessions a.others) keeps;
      owners = record { given = a.owners.given; childless = a.owners.childless; free = a.owners.free };
      numbers = given_so s _ (without_session at.session s.sessions) refl (All-filter (is_other_session at.session) (IsGiven s) s.sessions means.numbers);
      watches = subst (λ (o : Option ℕ). Watching after.watches (watches_gone o a.watches)) its (loses a.watches a.watching);
      last = last;
    })

-- ---- the end of a session that was not heard in time

-- a live session was given
live_given : (s : State) (k : ℤ) (xs : List Session) (x : Session) → All (IsGiven s) xs → session_at k xs ≡ Some x → IsGiven s x
live_given s k [] x given live = absurd (none_live k x live)
live_given s k (y ∷ ys) x given live = elim (cases_Bool (is_numbered k y)) [
  | inl numbered ↦ let same : y ≡ x = some_same (sym (at_first k y ys numbered) ∙ live) in subst (IsGiven s) same (All-head (IsGiven s) y ys given)
  | inr other ↦ live_given s k ys x (All-tail (IsGiven s) y ys given) (sym (at_others k y ys other) ∙ live)
]
  where
    some_same : {A : Type 0} {a b : A} → Some a ≡ Some b → a ≡ b
    some_same h = cc

-- the moment at which a live session ends
pub is_moment : (s : State) (x : Session) (session : ℤ) (before : Held) (at : Moment) → Means before s → session_at session s.sessions ≡ Some x
    → at.session ≡ session → IsMoment s at
is_moment s x session before at means live same =
    let given = live_given s session s.sessions x means.numbers live in
    let number = number_of session s.sessions x live ∙ sym same in
    record {
      positive = subst (λ (k : ℤ). pos 1 ≤ℤ k) number given.above;
      given = subst (λ (k : ℤ). k ≤ℤ s.greatest) number given.within;
    }

-- what the end of a session ensures
abbrev pub Ends : Held → Held → Moment → Type 0
Ends before after at = (s : State) (x : Session) → Means before s → IsMoment s at → session_at at.session s.sessions ≡ Some x
    → Means after (ended at.session (all_deleted at.zxid (ephemerals at.session s.nodes) s).state)

-- and what it tells
abbrev pub Sends : Held → Moment → List Output → List Output → Type 0
Sends before at old new = (s : State) (x : Session) → Means before s → IsMoment s at → session_at at.session s.sessions ≡ Some x
    → new ≡ old ++ (all_deleted at.zxid (ephemerals at.session s.nodes) s).events

pub session_expired : (naming : Naming) (s : State) (x : Session) (session now : ℤ) (before after : Held) (at : Moment) (old outputs : List Output)
    → Means before s → session_at session s.sessions ≡ Some x → at.zxid ≡ before.last +ℤ pos 1 → at.session ≡ session → Ends before after at → Sends before at old outputs → old ≡ []
    → Does naming s (expires session now) after outputs
unfolding step expired next_zxid
session_expired naming s x session now before after at old outputs means live next same ends sends empty =
    let moment = is_moment s x session before at means live same in
    let there = subst (λ (k : ℤ). session_at k s.sessions ≡ Some x) (sym same) live in
    let zxid : at.zxid ≡ s.last +ℤ pos 1 = next ∙ ap (λ (z : ℤ). z +ℤ pos 1) means.last in
    record {
      sent = subst₂ (λ (k z : ℤ). outputs ≡ (all_deleted z (ephemerals k s.nodes) s).events) same zxid
          (sends s x means moment there ∙ ap (λ (l : List Output). l ++ (all_deleted at.zxid (ephemerals at.session s.nodes) s).events) empty);
      means = subst₂ (λ (k z : ℤ). Means after (ended k (all_deleted z (ephemerals k s.nodes) s).state)) same zxid (ends s x means moment there);
    }
