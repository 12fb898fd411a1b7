-- What is told when some nodes go one after another, of which none stands under another: child watches of a parent are told once.
use Rattle.std.proofs.Common.{◌≡◌, ◌||◌, ◌&&◌, ℕ, ℤ, Bool, true, false, cond, not, List, [], ◌∷◌, ◌++◌, Some, None, All, Bor, String, Global, string_bytes, is_eq, nat_cmp, map, filter, length, refl, sym, ap, ap₂, subst, ◌∙◌, inl, inr, int_eq, append-nil, arith}
use Rattle.std.specs.Prelude.{pos, ◌≤ℤ◌, ◌⊎◌, ◌==◌}
use Rattle.std.specs.Cmp.Lexicographic.{slice_cmp}
use Rattle.std.specs.List.{cons_option, filter_map, list_any, AllZip}
use Rattle.std.proofs.lemmas.Bool.{cases_Bool, eqb-true}
use Rattle.std.proofs.lemmas.List.{append_assoc}
use Rattle.std.proofs.lemmas.List.Elements.{All-nil, All-cons, All-head, All-tail}
use Rattle.std.proofs.lemmas.Map.Text.{is_eq-slice_cmp}
use Rattle.std.proofs.lemmas.Slice.Eq.{bytes_eq-Decides}
use Rattle.zk_path.specs.Paths.{text_of, IsTextOf}
use Rattle.tree_state.specs.declared.message.Output.{Output}
use Rattle.tree_state.specs.Nodes.{Path, Place, above, same_path, is_there, children, has_children, ephemerals}
use Rattle.tree_state.specs.State.{State, Aspect, on_data, on_children, Watch, same_aspect, is_on, is_off, connection_if_on, told, left}
use Rattle.tree_state.specs.Changes.{is_not_in, events_to, end_events, deletion_events, left_by_deletion, deleted, all_deleted, no_effects}
use Rattle.tree_state.specs.Places.{IsApart}
use Rattle.tree_state.specs.Sessions.{OwnTexts}
use Rattle.tree_state.specs.Trees.{AreOwned}
use Rattle.tree_state.proofs.SamePaths.{same_path-true, same_path-from, same_path-sym, same_path-above}
use Rattle.tree_state.proofs.PathTexts.{one_path, legal_above}
use Rattle.tree_state.proofs.Found.{found_there, children_removed-same}
use Rattle.tree_state.proofs.Reorder.{length-Shuffles}
use Rattle.tree_state.proofs.Owned.{equal_numbers}
use Rattle.tree_state.proofs.Ended.{IsOwnedBy, owned_here, owned_behind, found_here, found_behind, elsewhere, apart_rest, above_zero, nothing_owned}

-- ---- what is told after others were told

-- of other paths, and of the other aspect, as many are told
pub told_others : (a b : Aspect) (q r : Path) (ws : List Watch) → ((w : Watch) → is_on a q w ≡ true → is_on b r w ≡ false) → told a q (left b r ws) ≡ told a q ws
unfolding left is_off told connection_if_on
told_others a b q r [] apart = refl
told_others a b q r (w ∷ ws) apart = go (is_on a q w) (is_on b r w) refl refl (told_others a b q r ws apart)
  where
    go : (x y : Bool) → is_on a q w ≡ x → is_on b r w ≡ y → told a q (left b r ws) ≡ told a q ws
        → filter_map (connection_if_on a q) (cond (not y) (w ∷ left b r ws) (left b r ws)) ≡ cons_option (cond (is_on a q w) (Some w.connection) None) (told a q ws)
    go x false i j ih = ap (cons_option (cond (is_on a q w) (Some w.connection) None)) ih
    go true true i j ih = let k = apart w i in absurd cc
    go false true i j ih = ih ∙ sym (ap (λ (d : Bool). cons_option (cond d (Some w.connection) None) (told a q ws)) i)

-- and of the same none
pub told_none : (a : Aspect) (q : Path) (ws : List Watch) → told a q (left a q ws) ≡ []
unfolding left is_off told connection_if_on
told_none a q [] = refl
told_none a q (w ∷ ws) = go (is_on a q w) refl (told_none a q ws)
  where
    go : (x : Bool) → is_on a q w ≡ x → told a q (left a q ws) ≡ [] → filter_map (connection_if_on a q) (cond (not x) (w ∷ left a q ws) (left a q ws)) ≡ []
    go true i ih = ih
    go false i ih = ap (λ (d : Bool). cons_option (cond d (Some w.connection) None) (told a q (left a q ws))) i ∙ ih

both_true : (x y : Bool) → (x && y) ≡ true → (x ≡ true) × (y ≡ true)
both_true true y h = (refl, h)
both_true false y h = absurd cc

other_aspect : (a b : Aspect) (q r : Path) (w : Watch) → same_aspect a b ≡ false → is_on a q w ≡ true → is_on b r w ≡ false
unfolding is_on same_aspect
other_aspect a b q r w far on = go a b w.aspect (same_path w.path q) (same_path w.path r) far on
  where
    go : (a b x : Aspect) (y z : Bool) → same_aspect a b ≡ false → (same_aspect x a && y) ≡ true → (same_aspect x b && z) ≡ false
    go on_data on_data x y z h k = absurd cc
    go on_children on_children x y z h k = absurd cc
    go on_data on_children on_data y z h k = refl
    go on_data on_children on_children y z h k = absurd cc
    go on_children on_data on_data y z h k = absurd cc
    go on_children on_data on_children y z h k = refl

then_false : (x y : Bool) → y ≡ false → (x && y) ≡ false
then_false true y h = h
then_false false y h = refl

other_path : (a : Aspect) (q r : Path) (w : Watch) → same_path q r ≡ false → is_on a q w ≡ true → is_on a r w ≡ false
unfolding is_on
other_path a q r w far on =
    let both = both_true (same_aspect w.aspect a) (same_path w.path q) on in
    then_false (same_aspect w.aspect a) (same_path w.path r) (subst (λ (p : Path). same_path p r ≡ false) (sym (same_path-true w.path q both.1)) far)

-- ---- the events of a deletion among others

-- a parent of which a child went before
abbrev is_seen : List Path → Path → Bool
is_seen seen p = list_any (same_path p) seen

-- what is told where child watches of the parents seen are told no more
unfoldable pub gone_events : List Path → List Path → List Watch → List Output
gone_events seen [] ws = []
gone_events seen (p ∷ ps) ws =
    end_events p ws ++ (cond (is_seen seen (above p)) [] (events_to (pos 4) (above p) (told on_children (above p) ws)) ++ gone_events (above p ∷ seen) ps ws)

-- neither path is the other, or under it
pub record IsFar (p q : Path) : Type 0 where
  pub other : same_path q p ≡ false
  pub under : same_path (above q) p ≡ false
  pub over : same_path q (above p) ≡ false

unfoldable pub AreFar : List Path → Type 0
AreFar [] = Unit {0}
AreFar (p ∷ ps) = (same_path (above p) p ≡ false) × All (IsFar p) ps × AreFar ps

-- of a node that is still there as many are told as before the first one went, and of its parent, if no child of it went
record IsTold (seen : List Path) (vs ws : List Watch) (q : Path) : Type 0 where
  content : told on_data q vs ≡ told on_data q ws
  child : told on_children q vs ≡ told on_children q ws
  parent : told on_children (above q) vs ≡ cond (is_seen seen (above q)) [] (told on_children (above q) ws)

all_of : (P Q : Path → Type 0) (ps : List Path) → ((p : Path) → P p → Q p) → All P ps → All Q ps
all_of P Q [] f h = All-nil Q
all_of P Q (p ∷ ps) f h = All-cons Q p ps (f p (All-head P p ps h)) (all_of P Q ps f (All-tail P p ps h))

data_stays : (p q : Path) (vs : List Watch) → same_path q p ≡ false → told on_data q (left_by_deletion p vs) ≡ told on_data q vs
unfolding left_by_deletion same_aspect
data_stays p q vs far =
    told_others on_data on_children q (above p) (left on_children p (left on_data p vs)) (λ w on. other_aspect on_data on_children q (above p) w refl on)
    ∙ told_others on_data on_children q p (left on_data p vs) (λ w on. other_aspect on_data on_children q p w refl on)
    ∙ told_others on_data on_data q p vs (λ w on. other_path on_data q p w far on)

children_stay : (p q : Path) (vs : List Watch) → same_path q p ≡ false → same_path q (above p) ≡ false → told on_children q (left_by_deletion p vs) ≡ told on_children q vs
unfolding left_by_deletion same_aspect
children_stay p q vs far over =
    told_others on_children on_children q (above p) (left on_children p (left on_data p vs)) (λ w on. other_path on_children q (above p) w over on)
    ∙ told_others on_children on_children q p (left on_data p vs) (λ w on. other_path on_children q p w far on)
    ∙ told_others on_children on_data q p vs (λ w on. other_aspect on_children on_data q p w refl on)

none_stays : (p q : Path) (vs : List Watch) → q ≡ above p → told on_children q (left_by_deletion p vs) ≡ []
unfolding left_by_deletion
none_stays p q vs same =
    subst (λ (r : Path). told on_children r (left on_children (above p) (left on_children p (left on_data p vs))) ≡ []) (sym same)
    (told_none on_children (above p) (left on_children p (left on_data p vs)))

next_told : (seen : List Path) (vs ws : List Watch) (p q : Path) → IsFar p q → IsTold seen vs ws q → IsTold (above p ∷ seen) (left_by_deletion p vs) ws q
next_told seen vs ws p q far h = record {
  content = data_stays p q vs far.other ∙ h.content;
  child = children_stay p q vs far.other far.over ∙ h.child;
  parent = elim (cases_Bool (same_path (above q) (above p))) [
    | inl here ↦
        none_stays p (above q) vs (same_path-true (above q) (above p) here)
        ∙ sym (ap (λ (b : Bool). cond (b || is_seen seen (above q)) [] (told on_children (above q) ws)) here)
    | inr there ↦
        children_stay p (above q) vs far.under there ∙ h.parent
        ∙ sym (ap (λ (b : Bool). cond (b || is_seen seen (above q)) [] (told on_children (above q) ws)) there)
  ];
}

all_told : (seen : List Path) (vs ws : List Watch) (p : Path) (qs : List Path) → All (IsFar p) qs → All (IsTold seen vs ws) qs → All (IsTold (above p ∷ seen) (left_by_deletion p vs) ws) qs
all_told seen vs ws p [] far h = All-nil (IsTold (above p ∷ seen) (left_by_deletion p vs) ws)
all_told seen vs ws p (q ∷ qs) far h =
    All-cons (IsTold (above p ∷ seen) (left_by_deletion p vs) ws) q qs
    (next_told seen vs ws p q (All-head (IsFar p) q qs far) (All-head (IsTold seen vs ws) q qs h))
    (all_told seen vs ws p qs (All-tail (IsFar p) q qs far) (All-tail (IsTold seen vs ws) q qs h))

end_so : (p : Path) (vs ws : List Watch) → told on_data p vs ≡ told on_data p ws → told on_children p vs ≡ told on_children p ws → end_events p vs ≡ end_events p ws
unfolding end_events
end_so p vs ws h k =
    ap₂ (λ (cs ds : List ℕ). events_to (pos 2) p cs ++ events_to (pos 2) p (filter (is_not_in cs) ds)) h k

told_if : (p : Path) (b : Bool) (cs : List ℕ) → events_to (pos 4) p (cond b [] cs) ≡ cond b [] (events_to (pos 4) p cs)
unfolding events_to
told_if p true cs = refl
told_if p false cs = refl

deletion_so : (seen : List Path) (vs ws : List Watch) (p : Path) → same_path (above p) p ≡ false → IsTold seen vs ws p
    → deletion_events p vs ≡ end_events p ws ++ cond (is_seen seen (above p)) [] (events_to (pos 4) (above p) (told on_children (above p) ws))
unfolding deletion_events
deletion_so seen vs ws p below h =
    ap₂ (λ (es fs : List Output). es ++ fs) (end_so p vs ws h.content h.child)
    (ap (events_to (pos 4) (above p)) (told_others on_children on_children (above p) p vs (λ w on. other_path on_children (above p) p w below on) ∙ h.parent)
    ∙ told_if (above p) (is_seen seen (above p)) (told on_children (above p) ws))

then_gone : (es fs gs more : List Output) (z : ℤ) (p : Path) (ps : List Path) (s : State) → deletion_events p s.watches ≡ es ++ fs
    → (all_deleted z ps (deleted z p s).state).events ≡ more → (all_deleted z (p ∷ ps) s).events ≡ es ++ (fs ++ more)
unfolding all_deleted deleted
then_gone es fs gs more z p ps s h k = ap₂ (λ (x y : List Output). x ++ y) h k ∙ append_assoc es fs more

gone_so : (z : ℤ) (seen : List Path) (ps : List Path) (s : State) (ws : List Watch) → AreFar ps → All (IsTold seen s.watches ws) ps
    → (all_deleted z ps s).events ≡ gone_events seen ps ws
unfolding gone_events AreFar all_deleted no_effects deleted
gone_so z seen [] s ws far h = refl
gone_so z seen (p ∷ ps) s ws far h =
    then_gone (end_events p ws) (cond (is_seen seen (above p)) [] (events_to (pos 4) (above p) (told on_children (above p) ws))) [] (gone_events (above p ∷ seen) ps ws) z p ps s
    (deletion_so seen s.watches ws p far.0 (All-head (IsTold seen s.watches ws) p ps h))
    (gone_so z (above p ∷ seen) ps (deleted z p s).state ws far.2 (all_told seen s.watches ws p ps far.1 (All-tail (IsTold seen s.watches ws) p ps h)))

none_gone : (ws : List Watch) (ps : List Path) → All (IsTold [] ws ws) ps
none_gone ws [] = All-nil (IsTold [] ws ws)
none_gone ws (p ∷ ps) = All-cons (IsTold [] ws ws) p ps (record { content = refl; child = refl; parent = refl }) (none_gone ws ps)

-- what is told where nodes that are far from each other go
pub gone_is : (z : ℤ) (ps : List Path) (s : State) → AreFar ps → (all_deleted z ps s).events ≡ gone_events [] ps s.watches
gone_is z ps s far = gone_so z [] ps s s.watches far (none_gone s.watches ps)

-- ---- the ephemerals of a session are far from each other

has_child : (m : List ℕ) (p : Path) (es : List Place) → IsApart es → is_there es (m ∷ p) ≡ true → has_children p es ≡ false → ⊥
unfolding has_children
has_child m p es apart there none =
    let count = length-Shuffles _ _ (children_removed-same m p es apart there) in
    let zero : length (children p es) ≡ 0 = eqb-true _ _ (not_not (length (children p es) == 0) none) in
    absurd (omega arith)
  where
    not_not : (b : Bool) → not b ≡ false → b ≡ true
    not_not true k = refl
    not_not false k = absurd cc

owned_later : (k : ℤ) (e : Place) (es : List Place) (p : Path) → IsApart (e ∷ es) → IsOwnedBy es p k → IsOwnedBy (e ∷ es) p k
owned_later k e es p apart h = record {
  node = h.node;
  found = found_behind e es p (elsewhere e es p h.node apart h.found) ∙ h.found;
  owner = h.owner;
}

all_later : (k : ℤ) (e : Place) (es : List Place) → IsApart (e ∷ es) → All (λ p. IsOwnedBy es p k) (ephemerals k es) → All (λ p. IsOwnedBy (e ∷ es) p k) (ephemerals k es)
all_later k e es apart h = all_of (λ p. IsOwnedBy es p k) (λ p. IsOwnedBy (e ∷ es) p k) (ephemerals k es) (λ p own. owned_later k e es p apart own) h

all_owned : (k : ℤ) (es : List Place) → IsApart es → All (λ p. IsOwnedBy es p k) (ephemerals k es)
unfolding ephemerals
all_owned k [] apart = All-nil (λ p. IsOwnedBy [] p k)
all_owned k (e ∷ es) apart =
    let behind = all_later k e es apart (all_owned k es (apart_rest e es apart)) in
    elim (cases_Bool (int_eq e.node.numbers.owner k)) [
      | inl i ↦ subst (All (λ p. IsOwnedBy (e ∷ es) p k)) (sym (owned_here k e es i))
          (All-cons (λ p. IsOwnedBy (e ∷ es) p k) e.path (ephemerals k es)
          (record { node = e.node; found = found_here e es e.path refl; owner = equal_numbers e.node.numbers.owner k i }) behind)
      | inr i ↦ subst (All (λ p. IsOwnedBy (e ∷ es) p k)) (sym (owned_behind k e es i)) behind
    ]

-- what holds of the session's nodes: none is the root or stands under another one
abbrev AreLeaves : ℤ → List Place → Type 0
AreLeaves k es = (p q : Path) → IsOwnedBy es p k → IsOwnedBy es q k → (same_path (above q) p ≡ false) × (same_path (above p) p ≡ false)

far_first : (k : ℤ) (e : Place) (es : List Place) → IsApart (e ∷ es) → AreLeaves k (e ∷ es) → IsOwnedBy (e ∷ es) e.path k → All (IsFar e.path) (ephemerals k es)
far_first k e es apart leaves own =
    all_of (λ q. IsOwnedBy es q k) (IsFar e.path) (ephemerals k es) (λ q h.
    let there = owned_later k e es q apart h in record {
      other = same_path-sym e.path q (elsewhere e es q h.node apart h.found);
      under = (leaves e.path q own there).0;
      over = same_path-sym (above e.path) q (leaves q e.path there own).0;
    }) (all_owned k es (apart_rest e es apart))

all_far : (k : ℤ) (es : List Place) → IsApart es → AreLeaves k es → AreFar (ephemerals k es)
unfolding AreFar ephemerals
all_far k [] apart leaves = tt
all_far k (e ∷ es) apart leaves =
    let rest = all_far k es (apart_rest e es apart) (λ p q h j. leaves p q (owned_later k e es p apart h) (owned_later k e es q apart j)) in
    elim (cases_Bool (int_eq e.node.numbers.owner k)) [
      | inl i ↦
          let own : IsOwnedBy (e ∷ es) e.path k = record { node = e.node; found = found_here e es e.path refl; owner = equal_numbers e.node.numbers.owner k i } in
          subst AreFar (sym (owned_here k e es i)) ((leaves e.path e.path own own).1, far_first k e es apart leaves own, rest)
      | inr i ↦ subst AreFar (sym (owned_behind k e es i)) rest
    ]

not_under : (k : ℤ) (s : State) → IsApart s.nodes → AreOwned s → pos 1 ≤ℤ k → AreLeaves k s.nodes
unfolding above
not_under k s apart owners positive [] q h j = absurd (above_zero k positive (sym h.owner ∙ owners.free h.node h.found))
not_under k s apart owners positive (n ∷ p) [] h j = absurd (above_zero k positive (sym j.owner ∙ owners.free j.node j.found))
not_under k s apart owners positive (n ∷ p) (m ∷ q) h j = (go (cases_Bool (same_path q (n ∷ p))), same_path-sym (n ∷ p) p (same_path-above n p))
  where
    go : (same_path q (n ∷ p) ≡ true) ⊎ (same_path q (n ∷ p) ≡ false) → same_path q (n ∷ p) ≡ false
    go (inl i) =
        let there = found_there (m ∷ q) s.nodes j.node j.found in
        absurd (has_child m (n ∷ p) s.nodes apart (subst (λ (r : Path). is_there s.nodes (m ∷ r) ≡ true) (same_path-true q (n ∷ p) i) there)
        (owners.childless (n ∷ p) h.node h.found (λ zero. above_zero k positive (sym h.owner ∙ zero))))
    go (inr i) = i

pub far_owned : (k : ℤ) (s : State) → IsApart s.nodes → AreOwned s → pos 1 ≤ℤ k → AreFar (ephemerals k s.nodes)
far_owned k s apart owners positive = all_far k s.nodes apart (not_under k s apart owners positive)

-- ---- the telling, one after another

-- the parents that were told, as the set tests them
abbrev pub has_told : List (Bor (List ℕ)) → List ℕ → Bool
has_told parents text = list_any (λ k. is_eq (slice_cmp nat_cmp text k.now)) parents

-- To tell of those with these texts, after those that were told, comes to the same as to tell of all.
pub record AreTelling (ws : List Watch) (ps : List Path) (texts : List (String Global)) (parents : List (Bor (List ℕ))) (before now : List Output) : Type 0 where
  pub seen : List Path
  pub rest : List Path
  pub own : OwnTexts texts rest
  pub far : AreFar rest
  pub kept : (text : List ℕ) (p : Path) → IsTextOf text p → has_told parents text ≡ list_any (same_path p) seen
  pub same : now ++ gone_events seen rest ws ≡ before ++ gone_events [] ps ws

-- before the first of them
pub none_told : (ws : List Watch) (ps : List Path) (texts : List (String Global)) (parents : List (Bor (List ℕ))) (before : List Output) → OwnTexts texts ps → AreFar ps → parents ≡ []
    → AreTelling ws ps texts parents before before
none_told ws ps texts parents before own far empty = record {
  seen = [];
  rest = ps;
  own = own;
  far = far;
  kept = λ text p named. ap (λ (l : List (Bor (List ℕ))). has_told l text) empty;
  same = refl;
}

-- texts are equal where their paths are
same_text : (x y : List ℕ) (p q : Path) → IsTextOf x p → IsTextOf y q → is_eq (slice_cmp nat_cmp x y) ≡ same_path q p
same_text x y p q h k = go (cases_Bool (same_path q p)) (cases_Bool (is_eq (slice_cmp nat_cmp x y)))
  where
    go : (same_path q p ≡ true) ⊎ (same_path q p ≡ false) → (is_eq (slice_cmp nat_cmp x y) ≡ true) ⊎ (is_eq (slice_cmp nat_cmp x y) ≡ false)
        → is_eq (slice_cmp nat_cmp x y) ≡ same_path q p
    go (inl i) j =
        is_eq-slice_cmp x y ∙ (bytes_eq-Decides x y).1 (h.spelled ∙ ap text_of (sym (same_path-true q p i)) ∙ sym k.spelled) ∙ sym i
    go (inr i) (inl j) =
        let same = (bytes_eq-Decides x y).0 (sym (is_eq-slice_cmp x y) ∙ j) in
        let on = same_path-from q p (one_path y q p k (subst (λ (z : List ℕ). IsTextOf z p) same h)) in absurd cc
    go (inr i) (inr j) = j ∙ sym i

-- a parent is told, or was told before
kept_more : (key : Bor (List ℕ)) (r : Path) (parents new : List (Bor (List ℕ))) (seen : List Path) → IsTextOf key.now r
    → ((q : Bor (List ℕ)) → has_told new q.now ≡ cond (is_eq (slice_cmp nat_cmp key.now q.now)) true (has_told parents q.now))
    → ((text : List ℕ) (p : Path) → IsTextOf text p → has_told parents text ≡ is_seen seen p)
    → (text : List ℕ) (p : Path) → IsTextOf text p → has_told new text ≡ list_any (same_path p) (r ∷ seen)
kept_more key r parents new seen spelled updates kept text p named =
    updates (record { ref_ptr = key.ref_ptr; now = text })
    ∙ ap₂ (λ (b c : Bool). cond b true c) (same_text key.now text r p spelled named) (kept text p named)
    ∙ either (same_path p r) (is_seen seen p)
  where
    either : (b c : Bool) → cond b true c ≡ (b || c)
    either true c = refl
    either false c = refl

if_new : (b : Bool) (es : List Output) → cond (not b) es [] ≡ cond b [] es
if_new true es = refl
if_new false es = refl

-- in one order or another
regrouped : (now es fs gs mid after : List Output) → mid ≡ now ++ es → after ≡ mid ++ fs → after ++ gs ≡ now ++ (es ++ (fs ++ gs))
regrouped now es fs gs mid after h k =
    ap (λ (l : List Output). l ++ gs) (k ∙ ap (λ (l : List Output). l ++ fs) h)
    ∙ append_assoc (now ++ es) fs gs ∙ append_assoc now es (fs ++ gs)

one_gone : (seen : List Path) (n : List ℕ) (p : Path) (ps : List Path) (ws : List Watch) (now mid after : List Output) → mid ≡ now ++ end_events (n ∷ p) ws
    → after ≡ mid ++ cond (is_seen seen p) [] (events_to (pos 4) p (told on_children p ws))
    → after ++ gone_events (p ∷ seen) ps ws ≡ now ++ gone_events seen ((n ∷ p) ∷ ps) ws
unfolding gone_events above
one_gone seen n p ps ws now mid after h k =
    regrouped now (end_events (n ∷ p) ws) (cond (is_seen seen p) [] (events_to (pos 4) p (told on_children p ws))) (gone_events (p ∷ seen) ps ws) mid after h k

no_root : (ps : List Path) → AreFar ([] ∷ ps) → ⊥
unfolding AreFar above same_path
no_root ps h = let e = h.0 in absurd cc

far_rest : (p : Path) (ps : List Path) → AreFar (p ∷ ps) → AreFar ps
unfolding AreFar
far_rest p ps h = h.2

-- the next of them is told of, and its parent where it was not
pub one_told : (ws : List Watch) (ps : List Path) (k : String Global) (ks : List (String Global)) (key : Bor (List ℕ)) (parents new : List (Bor (List ℕ))) (before now mid after : List Output) (added : Bool)
    → AreTelling ws ps (k ∷ ks) parents before now → ((p : Path) → IsTextOf (string_bytes k) p → mid ≡ now ++ end_events p ws)
    → ((n : List ℕ) (p : Path) → IsTextOf (string_bytes k) (n ∷ p) → key.now ≡ text_of p) → added ≡ not (has_told parents key.now)
    → ((q : Bor (List ℕ)) → has_told new q.now ≡ cond (is_eq (slice_cmp nat_cmp key.now q.now)) true (has_told parents q.now))
    → ((p : Path) → IsTextOf key.now p → after ≡ mid ++ cond added (events_to (pos 4) p (told on_children p ws)) [])
    → AreTelling ws ps ks new before after
unfolding OwnTexts
one_told ws ps k ks key parents new before now mid after added h ends parts fresh updates tells = go h.rest h.own h.far h.same
  where
    go : (rest : List Path) → AllZip IsTextOf (map string_bytes (k ∷ ks)) rest → AreFar rest → now ++ gone_events h.seen rest ws ≡ before ++ gone_events [] ps ws → AreTelling ws ps ks new before after
    go [] own far same = absurd own
    go ([] ∷ rest) own far same = absurd (no_root rest far)
    go ((n ∷ p) ∷ rest) own far same =
        let spelled : IsTextOf key.now p = record { legal = legal_above n p own.0.legal; spelled = parts n p own.0 } in
        let told_now = tells p spelled ∙ ap (λ (b : Bool). mid ++ cond b (events_to (pos 4) p (told on_children p ws)) []) (fresh ∙ ap not (h.kept key.now p spelled))
        ∙ ap (λ (es : List Output). mid ++ es) (if_new (is_seen h.seen p) (events_to (pos 4) p (told on_children p ws))) in
        record {
          seen = p ∷ h.seen;
          rest = rest;
          own = own.1;
          far = far_rest (n ∷ p) rest far;
          kept = kept_more key p parents new h.seen spelled updates h.kept;
          same = one_gone h.seen n p rest ws now mid after (ends (n ∷ p) own.0) told_now ∙ same;
        }

-- the two ends of the test whether a parent is new
pub tells_new : (added : Bool) (mid after es : List Output) → added ≡ true → after ≡ mid ++ es → after ≡ mid ++ cond added es []
tells_new added mid after es new told = told ∙ ap (λ (b : Bool). mid ++ cond b es []) (sym new)

pub tells_old : (added : Bool) (mid after es : List Output) → added ≡ false → after ≡ mid → after ≡ mid ++ cond added es []
tells_old added mid after es old told = told ∙ sym (append-nil mid) ∙ ap (λ (b : Bool). mid ++ cond b es []) (sym old)

-- when none is left
pub all_are_told : (z : ℤ) (k : ℤ) (s : State) (parents : List (Bor (List ℕ))) (before now : List Output) → IsApart s.nodes → AreOwned s → pos 1 ≤ℤ k
    → AreTelling s.watches (ephemerals k s.nodes) [] parents before now → now ≡ before ++ (all_deleted z (ephemerals k s.nodes) s).events
unfolding gone_events
all_are_told z k s parents before now apart owners positive h =
    sym (append-nil now) ∙ ap (λ (qs : List Path). now ++ gone_events h.seen qs s.watches) (sym (nothing_owned h.rest h.own)) ∙ h.same
    ∙ ap (λ (es : List Output). before ++ es) (sym (gone_is z (ephemerals k s.nodes) s (far_owned k s apart owners positive)))
