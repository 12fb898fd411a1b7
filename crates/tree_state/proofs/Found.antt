-- What is found after a change, in a list of nodes: at the path, and elsewhere.
use Rattle.std.proofs.Common.{◌≡◌, ℕ, Bool, true, false, cond, not, is_some, List, [], ◌∷◌, ◌++◌, Option, Some, None, map, filter, inl, inr, refl, sym, ap, subst, ◌∙◌}
use Rattle.std.specs.List.{filter_map, cons_option}
use Rattle.std.proofs.lemmas.Bool.{cases_Bool, both_ways}
use Rattle.tree_state.specs.Nodes.{Path, Node, Place, same_path, name_under, find, is_there, changed_at, change, add, is_elsewhere, remove, name_of_child, children}
use Rattle.tree_state.specs.Places.{IsApart}
use Rattle.tree_state.proofs.SamePaths.{same_path-true, same_path-refl}
use Rattle.tree_state.proofs.Reorder.{Shuffles, kept, joined, swapped, same_order, back-Shuffles, apart-Shuffles, absent_behind, absent_first, there_behind}

-- ---- a node is there where one is found

pub there_found : (p : Path) (es : List Place) → is_there es p ≡ is_some (find es p)
unfolding is_there find
there_found p [] = refl
there_found p (e ∷ es) = go (same_path e.path p) (there_found p es)
  where
    go : (b : Bool) → is_there es p ≡ is_some (find es p) → cond b true (is_there es p) ≡ is_some (cond b (Some e.node) (find es p))
    go true h = refl
    go false h = h

pub found_there : (p : Path) (es : List Place) (n : Node) → find es p ≡ Some n → is_there es p ≡ true
found_there p es n h = there_found p es ∙ ap is_some h

pub there_node : (p : Path) (es : List Place) → is_there es p ≡ true → (n : Node) × (find es p ≡ Some n)
there_node p es h = go (find es p) (sym (there_found p es) ∙ h)
  where
    go : (o : Option Node) → is_some o ≡ true → (n : Node) × (o ≡ Some n)
    go None k = absurd cc
    go (Some n) k = (n, refl)

-- ---- after a change of a node

changed_path : (p : Path) (f : Node → Node) (e : Place) → (changed_at p f e).path ≡ e.path
unfolding changed_at
changed_path p f e = go (same_path e.path p)
  where
    go : (b : Bool) → (cond b (record { path = e.path; node = f e.node }) e).path ≡ e.path
    go true = refl
    go false = refl

pub there_changed : (p q : Path) (f : Node → Node) (es : List Place) → is_there (change p f es) q ≡ is_there es q
unfolding change is_there
there_changed p q f [] = refl
there_changed p q f (e ∷ es) =
    ap (λ (r : Path). cond (same_path r q) true (is_there (map (changed_at p f) es) q)) (changed_path p f e)
    ∙ ap (λ (b : Bool). cond (same_path e.path q) true b) (there_changed p q f es)

pub apart_changed : (p : Path) (f : Node → Node) (es : List Place) → IsApart es → IsApart (change p f es)
unfolding change IsApart
apart_changed p f [] h = tt
apart_changed p f (e ∷ es) h =
    (ap (is_there (map (changed_at p f) es)) (changed_path p f e) ∙ absent_still p e.path f es h.0, apart_changed p f es h.1)
  where
    absent_still : (p q : Path) (f : Node → Node) (es : List Place) → is_there es q ≡ false → is_there (map (changed_at p f) es) q ≡ false
    absent_still p q f es h = there_changed p q f es ∙ h

pub change_absent : (p : Path) (f : Node → Node) (es : List Place) → is_there es p ≡ false → change p f es ≡ es
unfolding change is_there changed_at
change_absent p f [] h = refl
change_absent p f (e ∷ es) h = go (same_path e.path p) h (change_absent p f es)
  where
    go : (b : Bool) → cond b true (is_there es p) ≡ false → (is_there es p ≡ false → change p f es ≡ es) → cond b (record { path = e.path; node = f e.node }) e ∷ change p f es ≡ e ∷ es
    go true k m = absurd cc
    go false k m = ap (λ (l : List Place). e ∷ l) (m k)

pub find_changed-same : (p : Path) (f : Node → Node) (n : Node) (es : List Place) → find es p ≡ Some n → find (change p f es) p ≡ Some (f n)
unfolding change find changed_at
find_changed-same p f n [] h = absurd cc
find_changed-same p f n (e ∷ es) h = go (same_path e.path p) refl h (find_changed-same p f n es)
  where
    go : (b : Bool) → same_path e.path p ≡ b → cond b (Some e.node) (find es p) ≡ Some n → (find es p ≡ Some n → find (map (changed_at p f) es) p ≡ Some (f n))
        → find (cond b (record { path = e.path; node = f e.node }) e ∷ map (changed_at p f) es) p ≡ Some (f n)
    go true i k m = let same : e.node ≡ n = cc in ap (λ (b : Bool). cond b (Some (f e.node)) (find (map (changed_at p f) es) p)) i ∙ ap (λ (x : Node). Some (f x)) same
    go false i k m = ap (λ (b : Bool). cond b (Some e.node) (find (map (changed_at p f) es) p)) i ∙ m k

pub find_changed-other : (p q : Path) (f : Node → Node) (es : List Place) → same_path p q ≡ false → find (change p f es) q ≡ find es q
unfolding change find changed_at
find_changed-other p q f [] h = refl
find_changed-other p q f (e ∷ es) h = go (same_path e.path p) refl (find_changed-other p q f es h)
  where
    go : (b : Bool) → same_path e.path p ≡ b → find (map (changed_at p f) es) q ≡ find es q
        → find (cond b (record { path = e.path; node = f e.node }) e ∷ map (changed_at p f) es) q ≡ cond (same_path e.path q) (Some e.node) (find es q)
    go true i m =
        let far : same_path e.path q ≡ false = ap (λ (r : Path). same_path r q) (same_path-true e.path p i) ∙ h in
        ap (λ (b : Bool). cond b (Some (f e.node)) (find (map (changed_at p f) es) q)) far ∙ m ∙ sym (ap (λ (b : Bool). cond b (Some e.node) (find es q)) far)
    go false i m = ap (λ (o : Option Node). cond (same_path e.path q) (Some e.node) o) m

pub children_changed : (p q : Path) (f : Node → Node) (es : List Place) → children q (change p f es) ≡ children q es
unfolding change children name_of_child
children_changed p q f [] = refl
children_changed p q f (e ∷ es) =
    ap (λ (r : Path). cons_option (name_under q r) (filter_map (name_of_child q) (map (changed_at p f) es))) (changed_path p f e)
    ∙ ap (cons_option (name_under q e.path)) (children_changed p q f es)

-- ---- names under a parent

not_under : (m : List ℕ) (p q : Path) → same_path q p ≡ false → name_under q (m ∷ p) ≡ None
unfolding name_under
not_under m p q h = ap (λ (b : Bool). cond b (Some m) None) h

under : (m : List ℕ) (p r : Path) → r ≡ m ∷ p → name_under p r ≡ Some m
unfolding name_under
under m p r e = ap (name_under p) e ∙ ap (λ (b : Bool). cond b (Some m) None) (same_path-refl p)

-- ---- after one more node

pub there_added-same : (p : Path) (n : Node) (es : List Place) → is_there (add p n es) p ≡ true
unfolding add is_there
there_added-same p n [] = ap (λ (b : Bool). cond b true false) (same_path-refl p)
there_added-same p n (e ∷ es) = go (same_path e.path p) (there_added-same p n es)
  where
    go : (b : Bool) → is_there (es ++ record { path = p; node = n } ∷ []) p ≡ true → cond b true (is_there (es ++ record { path = p; node = n } ∷ []) p) ≡ true
    go true h = refl
    go false h = h

pub there_added-other : (p q : Path) (n : Node) (es : List Place) → same_path p q ≡ false → is_there (add p n es) q ≡ is_there es q
unfolding add is_there
there_added-other p q n [] h = ap (λ (b : Bool). cond b true false) h
there_added-other p q n (e ∷ es) h = ap (λ (b : Bool). cond (same_path e.path q) true b) (there_added-other p q n es h)

pub find_added-same : (p : Path) (n : Node) (es : List Place) → is_there es p ≡ false → find (add p n es) p ≡ Some n
unfolding add find
find_added-same p n [] h = ap (λ (b : Bool). cond b (Some n) None) (same_path-refl p)
find_added-same p n (e ∷ es) h =
    ap (λ (b : Bool). cond b (Some e.node) (find (es ++ record { path = p; node = n } ∷ []) p)) (absent_first es e p h) ∙ find_added-same p n es (absent_behind es e p h)

pub find_added-other : (p q : Path) (n : Node) (es : List Place) → same_path p q ≡ false → find (add p n es) q ≡ find es q
unfolding add find
find_added-other p q n [] h = ap (λ (b : Bool). cond b (Some n) None) h
find_added-other p q n (e ∷ es) h = ap (λ (o : Option Node). cond (same_path e.path q) (Some e.node) o) (find_added-other p q n es h)

pub apart_added : (p : Path) (n : Node) (es : List Place) → is_there es p ≡ false → IsApart es → IsApart (add p n es)
unfolding add IsApart
apart_added p n es free h = apart-Shuffles _ _ (back-Shuffles (record { path = p; node = n }) es) (free, h)

more_behind : {A : Type 0} (o : Option A) (xs : List A) (x : A) → cons_option o (xs ++ x ∷ []) ≡ cons_option o xs ++ x ∷ []
more_behind None xs x = refl
more_behind (Some y) xs x = refl

-- the parent has one child more, the last one
pub children_added-same : (m : List ℕ) (p : Path) (n : Node) (es : List Place) → children p (add (m ∷ p) n es) ≡ children p es ++ m ∷ []
unfolding add children name_of_child name_under
children_added-same m p n [] = ap (λ (b : Bool). cons_option (cond b (Some m) None) []) (same_path-refl p)
children_added-same m p n (e ∷ es) =
    ap (cons_option (name_under p e.path)) (children_added-same m p n es) ∙ more_behind (name_under p e.path) (filter_map (name_of_child p) es) m

pub children_added-other : (m : List ℕ) (p q : Path) (n : Node) (es : List Place) → same_path q p ≡ false → children q (add (m ∷ p) n es) ≡ children q es
unfolding add children name_of_child name_under
children_added-other m p q n [] h = ap (λ (b : Bool). cons_option (cond b (Some m) None) []) h
children_added-other m p q n (e ∷ es) h = ap (cons_option (name_under q e.path)) (children_added-other m p q n es h)

pub change_added : (p q : Path) (f : Node → Node) (b : Node) (es : List Place) → same_path q p ≡ false → change p f (add q b es) ≡ add q b (change p f es)
unfolding change add changed_at
change_added p q f b [] h = ap (λ (x : Bool). cond x (record { path = q; node = f b }) (record { path = q; node = b }) ∷ []) h
change_added p q f b (e ∷ es) h = ap (λ (l : List Place). changed_at p f e ∷ l) (change_added p q f b es h)

-- ---- after a node is gone

pub there_removed-same : (p : Path) (es : List Place) → is_there (remove p es) p ≡ false
unfolding remove is_there is_elsewhere
there_removed-same p [] = refl
there_removed-same p (e ∷ es) = go (same_path e.path p) refl (there_removed-same p es)
  where
    go : (b : Bool) → same_path e.path p ≡ b → is_there (filter (is_elsewhere p) es) p ≡ false
        → is_there (cond (not b) (e ∷ filter (is_elsewhere p) es) (filter (is_elsewhere p) es)) p ≡ false
    go true i h = h
    go false i h = ap (λ (b : Bool). cond b true (is_there (filter (is_elsewhere p) es) p)) i ∙ h

pub there_removed-other : (p q : Path) (es : List Place) → same_path p q ≡ false → is_there (remove p es) q ≡ is_there es q
unfolding remove is_there is_elsewhere
there_removed-other p q [] h = refl
there_removed-other p q (e ∷ es) h = go (same_path e.path p) refl (there_removed-other p q es h)
  where
    go : (b : Bool) → same_path e.path p ≡ b → is_there (filter (is_elsewhere p) es) q ≡ is_there es q
        → is_there (cond (not b) (e ∷ filter (is_elsewhere p) es) (filter (is_elsewhere p) es)) q ≡ cond (same_path e.path q) true (is_there es q)
    go true i m =
        let far : same_path e.path q ≡ false = ap (λ (r : Path). same_path r q) (same_path-true e.path p i) ∙ h in
        m ∙ sym (ap (λ (b : Bool). cond b true (is_there es q)) far)
    go false i m = ap (λ (b : Bool). cond (same_path e.path q) true b) m

pub find_removed-other : (p q : Path) (es : List Place) → same_path p q ≡ false → find (remove p es) q ≡ find es q
unfolding remove find is_elsewhere
find_removed-other p q [] h = refl
find_removed-other p q (e ∷ es) h = go (same_path e.path p) refl (find_removed-other p q es h)
  where
    go : (b : Bool) → same_path e.path p ≡ b → find (filter (is_elsewhere p) es) q ≡ find es q
        → find (cond (not b) (e ∷ filter (is_elsewhere p) es) (filter (is_elsewhere p) es)) q ≡ cond (same_path e.path q) (Some e.node) (find es q)
    go true i m =
        let far : same_path e.path q ≡ false = ap (λ (r : Path). same_path r q) (same_path-true e.path p i) ∙ h in
        m ∙ sym (ap (λ (b : Bool). cond b (Some e.node) (find es q)) far)
    go false i m = ap (λ (o : Option Node). cond (same_path e.path q) (Some e.node) o) m

absent_filtered : (test : Place → Bool) (q : Path) (es : List Place) → is_there es q ≡ false → is_there (filter test es) q ≡ false
absent_filtered test q [] h = h
absent_filtered test q (e ∷ es) h = go (test e) (absent_filtered test q es (absent_behind es e q h))
  where
    go : (b : Bool) → is_there (filter test es) q ≡ false → is_there (cond b (e ∷ filter test es) (filter test es)) q ≡ false
    go true m = there_behind (filter test es) e q (absent_first es e q h) ∙ m
    go false m = m

pub apart_removed : (p : Path) (es : List Place) → IsApart es → IsApart (remove p es)
unfolding remove IsApart
apart_removed p [] h = tt
apart_removed p (e ∷ es) h = go (is_elsewhere p e) (apart_removed p es h.1)
  where
    go : (b : Bool) → IsApart (filter (is_elsewhere p) es) → IsApart (cond b (e ∷ filter (is_elsewhere p) es) (filter (is_elsewhere p) es))
    go true m = (absent_filtered (is_elsewhere p) e.path es h.0, m)
    go false m = m

pub remove_absent : (p : Path) (es : List Place) → is_there es p ≡ false → remove p es ≡ es
unfolding remove is_elsewhere
remove_absent p [] h = refl
remove_absent p (e ∷ es) h =
    ap (λ (b : Bool). cond (not b) (e ∷ filter (is_elsewhere p) es) (filter (is_elsewhere p) es)) (absent_first es e p h)
    ∙ ap (λ (l : List Place). e ∷ l) (remove_absent p es (absent_behind es e p h))

pub children_removed-other : (m : List ℕ) (p q : Path) (es : List Place) → same_path q p ≡ false → children q (remove (m ∷ p) es) ≡ children q es
unfolding remove children is_elsewhere name_of_child
children_removed-other m p q [] h = refl
children_removed-other m p q (e ∷ es) h = go (same_path e.path (m ∷ p)) refl (children_removed-other m p q es h)
  where
    none : (r : Path) → r ≡ m ∷ p → name_under q r ≡ None
    none r e = ap (name_under q) e ∙ not_under m p q h

    go : (b : Bool) → same_path e.path (m ∷ p) ≡ b → filter_map (name_of_child q) (filter (is_elsewhere (m ∷ p)) es) ≡ filter_map (name_of_child q) es
        → filter_map (name_of_child q) (cond (not b) (e ∷ filter (is_elsewhere (m ∷ p)) es) (filter (is_elsewhere (m ∷ p)) es)) ≡ cons_option (name_under q e.path) (filter_map (name_of_child q) es)
    go true i k = k ∙ sym (ap (λ (o : Option (List ℕ)). cons_option o (filter_map (name_of_child q) es)) (none e.path (same_path-true e.path (m ∷ p) i)))
    go false i k = ap (cons_option (name_under q e.path)) k

no_node : (m : List ℕ) (p : Path) → is_there [] (m ∷ p) ≡ true → ⊥
unfolding is_there
no_node m p h = cc

first_goes : (m : List ℕ) (p : Path) (e : Place) (es : List Place) → is_there es e.path ≡ false → same_path e.path (m ∷ p) ≡ true
    → Shuffles (children p (e ∷ es)) (m ∷ children p (remove (m ∷ p) (e ∷ es)))
unfolding children remove is_elsewhere name_of_child
first_goes m p e es a i =
    let same = same_path-true e.path (m ∷ p) i in
    let gone = remove_absent (m ∷ p) es (subst (λ (q : Path). is_there es q ≡ false) same a) in
    let here = ap (λ (o : Option (List ℕ)). cons_option o (filter_map (name_of_child p) es)) (under m p e.path same) in
    let left = ap (λ (b : Bool). filter_map (name_of_child p) (cond (not b) (e ∷ filter (is_elsewhere (m ∷ p)) es) (filter (is_elsewhere (m ∷ p)) es))) i ∙ ap (filter_map (name_of_child p)) gone in
    subst (λ (l : List (List ℕ)). Shuffles l (m ∷ filter_map (name_of_child p) (cond (not (same_path e.path (m ∷ p))) (e ∷ filter (is_elsewhere (m ∷ p)) es) (filter (is_elsewhere (m ∷ p)) es)))) (sym here)
    (subst (λ (l : List (List ℕ)). Shuffles (m ∷ filter_map (name_of_child p) es) (m ∷ l)) (sym left) (same_order (m ∷ filter_map (name_of_child p) es)))

behind_name : (o : Option (List ℕ)) (m : List ℕ) (us vs : List (List ℕ)) → Shuffles us (m ∷ vs) → Shuffles (cons_option o us) (m ∷ cons_option o vs)
behind_name None m us vs h = h
behind_name (Some n) m us vs h = joined (n ∷ us) (n ∷ m ∷ vs) (m ∷ n ∷ vs) (kept n us (m ∷ vs) h) (swapped n m vs)

later_goes : (m : List ℕ) (p : Path) (e : Place) (es : List Place) → same_path e.path (m ∷ p) ≡ false → Shuffles (children p es) (m ∷ children p (remove (m ∷ p) es))
    → Shuffles (children p (e ∷ es)) (m ∷ children p (remove (m ∷ p) (e ∷ es)))
unfolding children remove is_elsewhere name_of_child
later_goes m p e es i h =
    let left = ap (λ (b : Bool). filter_map (name_of_child p) (cond (not b) (e ∷ filter (is_elsewhere (m ∷ p)) es) (filter (is_elsewhere (m ∷ p)) es))) i in
    subst (λ (l : List (List ℕ)). Shuffles (cons_option (name_under p e.path) (filter_map (name_of_child p) es)) (m ∷ l)) (sym left)
    (behind_name (name_under p e.path) m _ _ h)

-- a node that goes takes its name from its parent's children
pub children_removed-same : (m : List ℕ) (p : Path) (es : List Place) → IsApart es → is_there es (m ∷ p) ≡ true → Shuffles (children p es) (m ∷ children p (remove (m ∷ p) es))
unfolding IsApart
children_removed-same m p [] a h = absurd (no_node m p h)
children_removed-same m p (e ∷ es) a h = elim (cases_Bool (same_path e.path (m ∷ p))) [
  | inl i ↦ first_goes m p e es a.0 i
  | inr i ↦ later_goes m p e es i (children_removed-same m p es a.1 (sym (there_behind es e (m ∷ p) i) ∙ h))
]

-- what is there after one went was there
pub was_there : (p q : Path) (es : List Place) → is_there (remove p es) q ≡ true → is_there es q ≡ true
was_there p q es h = elim (cases_Bool (same_path p q)) [
  | inl k ↦ absurd (both_ways _ (subst (λ (r : Path). is_there (remove p es) r ≡ false) (same_path-true p q k) (there_removed-same p es)) h)
  | inr k ↦ sym (there_removed-other p q es k) ∙ h
]
