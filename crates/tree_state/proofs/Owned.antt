-- What each session owns, and who owns a node, after each change of the nodes.
use Rattle.std.proofs.Common.{◌≡◌, ℕ, ℤ, Bool, true, false, cond, not, List, [], ◌∷◌, ◌++◌, Option, Some, None, map, filter, length, refl, sym, ap, subst, ◌∙◌, inl, inr, append-nil}
use Rattle.std.specs.Prelude.{◌≤ℤ◌, ◌==◌, ◌⊎◌, pos, All}
use Rattle.std.specs.List.{filter_map, cons_option}
use Rattle.std.specs.Ordering.{int_eq}
use Rattle.std.specs.Cmp.{signed_Decides}
use Rattle.std.proofs.lemmas.Bool.{cases_Bool, eqb-true}
use Rattle.std.proofs.lemmas.List.{nil_from_length}
use Rattle.std.proofs.lemmas.List.Elements.{filter_map-append, All-nil, All-cons, All-head, All-tail}
use Rattle.tree_state.specs.declared.session.Session as code
use Rattle.tree_state.specs.declared.session.Sessions.{Sessions}
use Rattle.tree_state.specs.Nodes.{Path, Node, Place, same_path, find, is_there, changed_at, change, add, is_elsewhere, remove, name_of_child, children, has_children, path_if_owned, ephemerals}
use Rattle.tree_state.specs.State.{State, Session, Watch}
use Rattle.tree_state.specs.Sessions.{Owning, session_at_key, OwnTexts, OwnsPaths, Keeps}
use Rattle.tree_state.specs.Places.{IsApart}
use Rattle.tree_state.specs.Trees.{AreOwned, IsGiven}
use Rattle.tree_state.proofs.SamePaths.{same_path-true, same_path-above}
use Rattle.tree_state.proofs.Found.{found_there, there_node, there_changed, find_changed-same, find_changed-other, children_changed, find_added-same, find_added-other, children_added-other, there_removed-same, find_removed-other, remove_absent}

-- a change that leaves a node with its owner
abbrev pub KeepsOwner : (Node → Node) → Type 0
KeepsOwner f = (n : Node) → (f n).numbers.owner ≡ n.numbers.owner

-- the paths other than this one
abbrev pub others : Path → List Path → List Path
others p ps = filter (λ q. not (same_path q p)) ps

-- ---- numbers of sessions

pub same_number : (j k : ℤ) → j ≡ k → int_eq j k ≡ true
same_number j k e = (signed_Decides j k).1 e

pub equal_numbers : (j k : ℤ) → int_eq j k ≡ true → j ≡ k
equal_numbers j k h = (signed_Decides j k).0 h

pub other_number : (j k : ℤ) → (j ≡ k → ⊥) → int_eq j k ≡ false
other_number j k far = elim (cases_Bool (int_eq j k)) [ inl t ↦ absurd (far ((signed_Decides j k).0 t)) | inr t ↦ t ]

pub number_flips : (j k : ℤ) → int_eq j k ≡ false → int_eq k j ≡ false
number_flips j k h = other_number k j (λ e. let t = same_number j k (sym e) in absurd cc)

-- ---- the ephemerals of a session

owned_still : (k : ℤ) (p : Path) (f : Node → Node) (e : Place) → KeepsOwner f → path_if_owned k (changed_at p f e) ≡ path_if_owned k e
unfolding path_if_owned changed_at
owned_still k p f e h = go (same_path e.path p)
  where
    go : (b : Bool) → path_if_owned k (cond b (record { path = e.path; node = f e.node }) e) ≡ path_if_owned k e
    go true = ap (λ (z : ℤ). cond (int_eq z k) (Some e.path) None) (h e.node)
    go false = refl

pub ephemerals_changed : (k : ℤ) (p : Path) (f : Node → Node) (es : List Place) → KeepsOwner f → ephemerals k (change p f es) ≡ ephemerals k es
unfolding change ephemerals
ephemerals_changed k p f [] h = refl
ephemerals_changed k p f (e ∷ es) h =
    ap (λ (o : Option Path). cons_option o (filter_map (path_if_owned k) (map (changed_at p f) es))) (owned_still k p f e h)
    ∙ ap (cons_option (path_if_owned k e)) (ephemerals_changed k p f es h)

added_last : (k : ℤ) (p : Path) (n : Node) (es : List Place) → ephemerals k (add p n es) ≡ ephemerals k es ++ cons_option (cond (int_eq n.numbers.owner k) (Some p) None) []
unfolding ephemerals add path_if_owned
added_last k p n es = filter_map-append (path_if_owned k) es (record { path = p; node = n } ∷ [])

-- the owner of a new node has one more, the last one
pub ephemerals_added-own : (k : ℤ) (p : Path) (n : Node) (es : List Place) → int_eq n.numbers.owner k ≡ true → ephemerals k (add p n es) ≡ ephemerals k es ++ p ∷ []
ephemerals_added-own k p n es h = added_last k p n es ∙ ap (λ (b : Bool). ephemerals k es ++ cons_option (cond b (Some p) None) []) h

pub ephemerals_added-other : (k : ℤ) (p : Path) (n : Node) (es : List Place) → int_eq n.numbers.owner k ≡ false → ephemerals k (add p n es) ≡ ephemerals k es
ephemerals_added-other k p n es h = added_last k p n es ∙ ap (λ (b : Bool). ephemerals k es ++ cons_option (cond b (Some p) None) []) h ∙ append-nil (ephemerals k es)

-- a node that goes is none of them
pub ephemerals_removed : (k : ℤ) (p : Path) (es : List Place) → ephemerals k (remove p es) ≡ others p (ephemerals k es)
unfolding ephemerals remove is_elsewhere path_if_owned
ephemerals_removed k p [] = refl
ephemerals_removed k p (e ∷ es) =
    through (not (same_path e.path p)) ∙ go (same_path e.path p) (int_eq e.node.numbers.owner k) refl (ephemerals_removed k p es)
  where
    through : (b : Bool) → filter_map (path_if_owned k) (cond b (e ∷ filter (is_elsewhere p) es) (filter (is_elsewhere p) es))
        ≡ cond b (cons_option (path_if_owned k e) (filter_map (path_if_owned k) (filter (is_elsewhere p) es))) (filter_map (path_if_owned k) (filter (is_elsewhere p) es))
    through true = refl
    through false = refl

    go : (b c : Bool) → same_path e.path p ≡ b → ephemerals k (remove p es) ≡ others p (ephemerals k es)
        → cond (not b) (cons_option (cond c (Some e.path) None) (ephemerals k (remove p es))) (ephemerals k (remove p es)) ≡ others p (cons_option (cond c (Some e.path) None) (ephemerals k es))
    go true true i ih = ih ∙ sym (ap (λ (b : Bool). cond (not b) (e.path ∷ others p (ephemerals k es)) (others p (ephemerals k es))) i)
    go true false i ih = ih
    go false true i ih = ap (λ (l : List Path). e.path ∷ l) ih ∙ sym (ap (λ (b : Bool). cond (not b) (e.path ∷ others p (ephemerals k es)) (others p (ephemerals k es))) i)
    go false false i ih = ih

-- a session that does not own the node that goes has the same ones
pub ephemerals_removed-other : (k : ℤ) (p : Path) (es : List Place) (n : Node) → IsApart es → find es p ≡ Some n → int_eq n.numbers.owner k ≡ false → ephemerals k (remove p es) ≡ ephemerals k es
unfolding ephemerals remove is_elsewhere path_if_owned find IsApart
ephemerals_removed-other k p [] n apart found far = absurd cc
ephemerals_removed-other k p (e ∷ es) n apart found far = go (same_path e.path p) refl found (ephemerals_removed-other k p es n apart.1)
  where
    go : (b : Bool) → same_path e.path p ≡ b → cond b (Some e.node) (find es p) ≡ Some n → (find es p ≡ Some n → int_eq n.numbers.owner k ≡ false → ephemerals k (remove p es) ≡ ephemerals k es)
        → filter_map (path_if_owned k) (cond (not b) (e ∷ filter (is_elsewhere p) es) (filter (is_elsewhere p) es)) ≡ cons_option (cond (int_eq e.node.numbers.owner k) (Some e.path) None) (ephemerals k es)
    go true i f ih =
        let same : e.node ≡ n = cc in
        let gone : is_there es p ≡ false = subst (λ (r : Path). is_there es r ≡ false) (same_path-true e.path p i) apart.0 in
        ap (ephemerals k) (remove_absent p es gone)
        ∙ sym (ap (λ (b : Bool). cons_option (cond b (Some e.path) None) (ephemerals k es)) (ap (λ (x : Node). int_eq x.numbers.owner k) same ∙ far))
    go false i f ih = ap (cons_option (cond (int_eq e.node.numbers.owner k) (Some e.path) None)) (ih f far)

-- of a path where no node is, no session has any
pub none_owned : (k : ℤ) (p : Path) (es : List Place) → is_there es p ≡ false → others p (ephemerals k es) ≡ ephemerals k es
none_owned k p es h = sym (ephemerals_removed k p es) ∙ ap (ephemerals k) (remove_absent p es h)

-- ---- what a session keeps

owns_same : (f g : Owning) (es : List (ℤ × code.Session)) → All (λ x. f x.number ≡ g x.number) (map session_at_key es) → All (OwnsPaths f) es → All (OwnsPaths g) es
unfolding session_at_key
owns_same f g [] same h = All-nil (OwnsPaths g)
owns_same f g (e ∷ es) same h =
    All-cons (OwnsPaths g) e es
    (subst (OwnTexts e.1.ephemerals.items) (All-head (λ x. f x.number ≡ g x.number) (session_at_key e) (map session_at_key es) same) (All-head (OwnsPaths f) e es h))
    (owns_same f g es (All-tail (λ x. f x.number ≡ g x.number) (session_at_key e) (map session_at_key es) same) (All-tail (OwnsPaths f) e es h))

-- the same paths at each number of a session
pub keeps_same : (t : Sessions) (xs : List Session) (f g : Owning) → All (λ x. f x.number ≡ g x.number) xs → Keeps t xs f → Keeps t xs g
keeps_same t xs f g same h = record {
  sessions = h.sessions;
  connections = h.connections;
  one = h.one;
  owns = owns_same f g t.live.entries (subst (All (λ x. f x.number ≡ g x.number)) (sym h.sessions) same) h.owns;
}

pub at_each : (s : State) (f g : Owning) (xs : List Session) → All (IsGiven s) xs → ((k : ℤ) → pos 1 ≤ℤ k → f k ≡ g k) → All (λ x. f x.number ≡ g x.number) xs
at_each s f g [] given same = All-nil (λ x. f x.number ≡ g x.number)
at_each s f g (x ∷ xs) given same =
    All-cons (λ x. f x.number ≡ g x.number) x xs (same x.number (All-head (IsGiven s) x xs given).above) (at_each s f g xs (All-tail (IsGiven s) x xs given) same)

-- ---- who owns a node

-- a node that is there after a change was there before it, with the same owner
before_change : (p q : Path) (f : Node → Node) (es : List Place) (n : Node) → KeepsOwner f → find (change p f es) q ≡ Some n → (b : Node) × (find es q ≡ Some b) × (n.numbers.owner ≡ b.numbers.owner)
before_change p q f es n keeps h =
    let old = there_node q es (sym (there_changed p q f es) ∙ found_there q (change p f es) n h) in
    elim (cases_Bool (same_path p q)) [
      | inl i ↦
          let here = same_path-true p q i in
          let now : find (change p f es) q ≡ Some (f old.0) =
          subst (λ (r : Path). find (change p f es) r ≡ Some (f old.0)) here (find_changed-same p f old.0 es (subst (λ (r : Path). find es r ≡ Some old.0) (sym here) old.1)) in
          let same : n ≡ f old.0 = cc in
          (old.0, old.1, ap (λ (x : Node). x.numbers.owner) same ∙ keeps old.0)
      | inr i ↦ (n, sym (find_changed-other p q f es i) ∙ h, refl)
    ]

pub childless_so : (p : Path) (es fs : List Place) → children p fs ≡ children p es → has_children p es ≡ false → has_children p fs ≡ false
unfolding has_children
childless_so p es fs same h = ap (λ (ns : List (List ℕ)). not (length ns == 0)) same ∙ h

pub none_childless : (p : Path) (es : List Place) → children p es ≡ [] → has_children p es ≡ false
unfolding has_children
none_childless p es none = ap (λ (ns : List (List ℕ)). not (length ns == 0)) none

childless_none : (p : Path) (es : List Place) → has_children p es ≡ false → children p es ≡ []
unfolding has_children
childless_none p es h = nil_from_length _ (eqb-true _ _ (not_not (length (children p es) == 0) h))
  where
    not_not : (b : Bool) → not b ≡ false → b ≡ true
    not_not true k = refl
    not_not false k = absurd cc

pub owned_changed : (s : State) (p : Path) (f : Node → Node) (ws : List Watch) (z : ℤ) → KeepsOwner f → AreOwned s → AreOwned (record s { nodes = change p f s.nodes; watches = ws; last = z })
owned_changed s p f ws z keeps h = record {
  given = λ q n at_q. let old = before_change p q f s.nodes n keeps at_q in subst (λ (k : ℤ). k ≤ℤ s.greatest) (sym old.2) (h.given q old.0 old.1);
  childless = λ q n at_q owned.
      let old = before_change p q f s.nodes n keeps at_q in
      childless_so q s.nodes (change p f s.nodes) (children_changed p q f s.nodes) (h.childless q old.0 old.1 (λ e. owned (old.2 ∙ e)));
  free = λ n at_root. let old = before_change p [] f s.nodes n keeps at_root in old.2 ∙ h.free old.0 old.1;
}

-- what is there after one more node: that one, or what was there
after_one_more : (s : State) (p q : Path) (node n : Node) → is_there s.nodes p ≡ false → find (add p node s.nodes) q ≡ Some n
    → ((p ≡ q) × (node ≡ n)) ⊎ ((same_path p q ≡ false) × (find s.nodes q ≡ Some n))
after_one_more s p q node n absent h = elim (cases_Bool (same_path p q)) [
  | inl i ↦
      let here = same_path-true p q i in
      let now : find (add p node s.nodes) p ≡ Some n = subst (λ (r : Path). find (add p node s.nodes) r ≡ Some n) (sym here) h in
      let first = find_added-same p node s.nodes absent in
      inl (here, cc)
  | inr i ↦ inr (i, sym (find_added-other p q node s.nodes i) ∙ h)
]

-- a node that stands under one without an owner
pub owned_added : (s : State) (m : List ℕ) (p : Path) (node up : Node) (ws : List Watch) (z : ℤ) → is_there s.nodes (m ∷ p) ≡ false → find s.nodes p ≡ Some up → up.numbers.owner ≡ pos 0
    → node.numbers.owner ≤ℤ s.greatest → children (m ∷ p) s.nodes ≡ [] → AreOwned s → AreOwned (record s { nodes = add (m ∷ p) node s.nodes; watches = ws; last = z })
owned_added s m p node up ws z absent found free low none h = record {
  given = λ q n at_q. elim (after_one_more s (m ∷ p) q node n absent at_q) [
    | inl k ↦ subst (λ (x : Node). x.numbers.owner ≤ℤ s.greatest) k.1 low
    | inr k ↦ h.given q n k.1
  ];
  childless = λ q n at_q owned. elim (after_one_more s (m ∷ p) q node n absent at_q) [
    | inl k ↦ subst (λ (r : Path). has_children r (add (m ∷ p) node s.nodes) ≡ false) k.0
        (none_childless (m ∷ p) (add (m ∷ p) node s.nodes) (children_added-other m p (m ∷ p) node s.nodes (same_path-above m p) ∙ none))
    | inr k ↦ elim (cases_Bool (same_path q p)) [
      | inl i ↦
          let at_p : find s.nodes p ≡ Some n = subst (λ (r : Path). find s.nodes r ≡ Some n) (same_path-true q p i) k.1 in
          let same : up ≡ n = cc in
          absurd (owned (subst (λ (x : Node). x.numbers.owner ≡ pos 0) same free))
      | inr i ↦ childless_so q s.nodes (add (m ∷ p) node s.nodes) (children_added-other m p q node s.nodes i) (h.childless q n k.1 owned)
    ]
  ];
  free = λ n at_root. elim (after_one_more s (m ∷ p) [] node n absent at_root) [
    | inl k ↦ let e = k.0 in absurd cc
    | inr k ↦ h.free n k.1
  ];
}

before_removal : (p q : Path) (es : List Place) (n : Node) → find (remove p es) q ≡ Some n → find es q ≡ Some n
before_removal p q es n h = elim (cases_Bool (same_path p q)) [
  | inl i ↦
      let gone = subst (λ (r : Path). is_there (remove p es) r ≡ false) (same_path-true p q i) (there_removed-same p es) in
      let there = found_there q (remove p es) n h in absurd cc
  | inr i ↦ sym (find_removed-other p q es i) ∙ h
]

some_listed : {B : Type 0} (o : Option B) (ys : List B) → cons_option o ys ≡ [] → (o ≡ None) × (ys ≡ [])
some_listed None ys h = (refl, h)
some_listed (Some y) ys h = absurd cc

none_of_fewer : {A B : Type 0} (g : A → Option B) (test : A → Bool) (xs : List A) → filter_map g xs ≡ [] → filter_map g (filter test xs) ≡ []
none_of_fewer g test [] h = refl
none_of_fewer g test (x ∷ xs) h = let k = some_listed (g x) (filter_map g xs) h in go (test x) k.0 (none_of_fewer g test xs k.1)
  where
    go : (b : Bool) → g x ≡ None → filter_map g (filter test xs) ≡ [] → filter_map g (cond b (x ∷ filter test xs) (filter test xs)) ≡ []
    go true none ih = ap (λ o. cons_option o (filter_map g (filter test xs))) none ∙ ih
    go false none ih = ih

childless_fewer : (p q : Path) (es : List Place) → has_children q es ≡ false → has_children q (remove p es) ≡ false
unfolding children remove
childless_fewer p q es h = none_childless q (remove p es) (none_of_fewer (name_of_child q) (is_elsewhere p) es (childless_none q es h))

pub owned_removed : (s : State) (p : Path) (ws : List Watch) (z : ℤ) → AreOwned s → AreOwned (record s { nodes = remove p s.nodes; watches = ws; last = z })
owned_removed s p ws z h = record {
  given = λ q n at_q. h.given q n (before_removal p q s.nodes n at_q);
  childless = λ q n at_q owned. childless_fewer p q s.nodes (h.childless q n (before_removal p q s.nodes n at_q) owned);
  free = λ n at_root. h.free n (before_removal p [] s.nodes n at_root);
}

-- what is given depends on the greatest number alone
pub given_so : (s u : State) (xs : List Session) → u.greatest ≡ s.greatest → All (IsGiven s) xs → All (IsGiven u) xs
given_so s u [] e h = All-nil (IsGiven u)
given_so s u (x ∷ xs) e h =
    let first = All-head (IsGiven s) x xs h in
    All-cons (IsGiven u) x xs (record { above = first.above; within = subst (λ (k : ℤ). x.number ≤ℤ k) (sym e) first.within }) (given_so s u xs e (All-tail (IsGiven s) x xs h))
