-- Watches of one aspect beside those of the other, and the order of all.
use Rattle.std.proofs.Common.{◌≡◌, ◌≤◌, ℕ, ◌==◌, ◌&&◌, not, Bool, true, false, cond, List, [], ◌∷◌, filter, Some, None, All, nat_le, inl, inr, refl, sym, ap, ◌∙◌, arith}
use Rattle.std.specs.List.{filter_map, cons_option, list_any}
use Rattle.std.proofs.lemmas.Bool.{both_ways}
use Rattle.std.proofs.lemmas.Bool.Decides.{leb_tells}
use Rattle.std.proofs.lemmas.List.Elements.{All-cons, All-head, All-nil, All-tail, All-filter}
use Rattle.tree_state.specs.declared.watchers.Watchers.{Watchers}
use Rattle.tree_state.specs.Nodes.{Path, same_path}
use Rattle.tree_state.specs.State.{Aspect, on_data, on_children, Watch, same_aspect, is_on, is_off, connection_if_on, told, left, is_of_other, left_of_others, after_lower, is_same_watch, watching}
use Rattle.tree_state.specs.Watches.{Watched, Ascend, is_other_watch, unwatching}
use Rattle.tree_state.proofs.SamePaths.{same_path-true}

-- ---- what is told of an aspect

first_true : (a b : Bool) → (a && b) ≡ true → a ≡ true
first_true true b h = refl
first_true false b h = absurd cc

second_true : (a b : Bool) → (a && b) ≡ true → b ≡ true
second_true true b h = h
second_true false b h = absurd cc

never_both : (a : Bool) → (a && false) ≡ false
never_both true = refl
never_both false = refl

other_aspect : (x a b : Aspect) → same_aspect a b ≡ false → same_aspect x a ≡ true → same_aspect x b ≡ false
unfolding same_aspect
other_aspect on_data on_data on_data h k = absurd cc
other_aspect on_data on_data on_children h k = refl
other_aspect on_data on_children b h k = absurd cc
other_aspect on_children on_data b h k = absurd cc
other_aspect on_children on_children on_data h k = refl
other_aspect on_children on_children on_children h k = absurd cc

-- what is on one aspect is off another
on_other : (a b : Aspect) (p q : Path) (w : Watch) → same_aspect a b ≡ false → is_on a p w ≡ true → is_on b q w ≡ false
unfolding is_on
on_other a b p q w h k = ap (λ (c : Bool). c && same_path w.path q) (other_aspect w.aspect a b h (first_true (same_aspect w.aspect a) (same_path w.path p) k))

-- and what is on one path is off another
on_elsewhere : (a b : Aspect) (p q : Path) (w : Watch) → same_path p q ≡ false → is_on a p w ≡ true → is_on b q w ≡ false
unfolding is_on
on_elsewhere a b p q w h k =
    ap (λ (c : Bool). same_aspect w.aspect b && c)
    (ap (λ (r : Path). same_path r q) (same_path-true w.path p (second_true (same_aspect w.aspect a) (same_path w.path p) k)) ∙ h)
    ∙ never_both (same_aspect w.aspect b)

-- a filter that keeps what is told
told_past : (a : Aspect) (p : Path) (k : Watch → Bool) (ws : List Watch) → ((w : Watch) → is_on a p w ≡ true → k w ≡ true) → told a p (filter k ws) ≡ told a p ws
unfolding told connection_if_on
told_past a p k [] h = refl
told_past a p k (w ∷ ws) h = go (k w) refl (is_on a p w) refl (told_past a p k ws h)
  where
    go : (b : Bool) → k w ≡ b → (o : Bool) → is_on a p w ≡ o → told a p (filter k ws) ≡ told a p ws
        → filter_map (connection_if_on a p) (cond b (w ∷ filter k ws) (filter k ws)) ≡ cons_option (connection_if_on a p w) (filter_map (connection_if_on a p) ws)
    go true e o f ih = ap (cons_option (connection_if_on a p w)) ih
    go false e true f ih = absurd (both_ways _ e (h w f))
    go false e false f ih = ih ∙ sym (ap (λ (b : Bool). cons_option (cond b (Some w.connection) None) (filter_map (connection_if_on a p) ws)) f)

pub told_left : (a b : Aspect) (p q : Path) (ws : List Watch) → same_aspect a b ≡ false → told a p (left b q ws) ≡ told a p ws
unfolding left is_off
told_left a b p q ws h = told_past a p (λ w. not (is_on b q w)) ws (λ w k. ap not (on_other a b p q w h k))

pub told_elsewhere : (a b : Aspect) (p q : Path) (ws : List Watch) → same_path p q ≡ false → told a p (left b q ws) ≡ told a p ws
unfolding left is_off
told_elsewhere a b p q ws h = told_past a p (λ w. not (is_on b q w)) ws (λ w k. ap not (on_elsewhere a b p q w h k))

told_unwatching : (a : Aspect) (p : Path) (w : Watch) (ws : List Watch) → same_aspect a w.aspect ≡ false → told a p (unwatching w ws) ≡ told a p ws
unfolding unwatching is_other_watch is_same_watch
told_unwatching a p w ws h =
    told_past a p (λ v. not ((v.connection == w.connection) && is_on w.aspect w.path v)) ws
    (λ v k. ap not (ap (λ (b : Bool). (v.connection == w.connection) && b) (on_other a w.aspect p w.path v h k) ∙ never_both (v.connection == w.connection)))

same_aspect-sym : (a b : Aspect) → same_aspect a b ≡ false → same_aspect b a ≡ false
unfolding same_aspect
same_aspect-sym on_data on_data h = h
same_aspect-sym on_data on_children h = refl
same_aspect-sym on_children on_data h = refl
same_aspect-sym on_children on_children h = h

off_other : (a : Aspect) (p : Path) (w : Watch) → same_aspect a w.aspect ≡ false → is_on a p w ≡ false
unfolding is_on
off_other a p w h = ap (λ (b : Bool). b && same_path w.path p) (same_aspect-sym a w.aspect h)

told_after : (a : Aspect) (p : Path) (w : Watch) (ws : List Watch) → is_on a p w ≡ false → told a p (after_lower w ws) ≡ told a p ws
unfolding told connection_if_on after_lower
told_after a p w [] h = ap (λ (b : Bool). cons_option (cond b (Some w.connection) None) []) h
told_after a p w (v ∷ vs) h = go (nat_le v.connection w.connection) (told_after a p w vs h)
  where
    go : (b : Bool) → told a p (after_lower w vs) ≡ told a p vs
        → filter_map (connection_if_on a p) (cond b (v ∷ after_lower w vs) (w ∷ v ∷ vs)) ≡ cons_option (connection_if_on a p v) (filter_map (connection_if_on a p) vs)
    go true ih = ap (cons_option (connection_if_on a p v)) ih
    go false ih = ap (λ (b : Bool). cons_option (cond b (Some w.connection) None) (cons_option (connection_if_on a p v) (filter_map (connection_if_on a p) vs))) h

told_watching : (a : Aspect) (p : Path) (w : Watch) (ws : List Watch) → same_aspect a w.aspect ≡ false → told a p (watching w ws) ≡ told a p ws
unfolding watching
told_watching a p w ws h = go (list_any (is_same_watch w) ws)
  where
    go : (b : Bool) → told a p (cond b ws (after_lower w ws)) ≡ told a p ws
    go true = refl
    go false = told_after a p w ws (off_other a p w h)

-- maps keep what is told alike
kept_past : (t : Watchers) (a : Aspect) (ws vs : List Watch) → ((p : Path) → told a p vs ≡ told a p ws) → Watched t a ws → Watched t a vs
kept_past t a ws vs same h = record {
  by_path = λ text p is. h.by_path text p is ∙ sym (same p);
  by_connection = λ c text p is. h.by_connection c text p is ∙ sym (ap (list_any (λ d. d == c)) (same p));
}

pub kept_left : (t : Watchers) (a b : Aspect) (q : Path) (ws : List Watch) → same_aspect a b ≡ false → Watched t a ws → Watched t a (left b q ws)
kept_left t a b q ws apart h = kept_past t a ws (left b q ws) (λ p. told_left a b p q ws apart) h

pub kept_watching : (t : Watchers) (a : Aspect) (w : Watch) (ws : List Watch) → same_aspect a w.aspect ≡ false → Watched t a ws → Watched t a (watching w ws)
kept_watching t a w ws apart h = kept_past t a ws (watching w ws) (λ p. told_watching a p w ws apart) h

pub kept_unwatching : (t : Watchers) (a : Aspect) (w : Watch) (ws : List Watch) → same_aspect a w.aspect ≡ false → Watched t a ws → Watched t a (unwatching w ws)
kept_unwatching t a w ws apart h = kept_past t a ws (unwatching w ws) (λ p. told_unwatching a p w ws apart) h

-- ---- the order of the connections

ascend_filter : (k : Watch → Bool) (ws : List Watch) → Ascend ws → Ascend (filter k ws)
unfolding Ascend
ascend_filter k [] h = tt
ascend_filter k (w ∷ ws) h = go (k w) (ascend_filter k ws h.1)
  where
    go : (b : Bool) → Ascend (filter k ws) → Ascend (cond b (w ∷ filter k ws) (filter k ws))
    go true ih = (All-filter k (λ v. w.connection ≤ v.connection) ws h.0, ih)
    go false ih = ih

pub ascend_left : (a : Aspect) (p : Path) (ws : List Watch) → Ascend ws → Ascend (left a p ws)
unfolding left
ascend_left a p ws h = ascend_filter (is_off a p) ws h

pub ascend_others : (c : ℕ) (ws : List Watch) → Ascend ws → Ascend (left_of_others c ws)
unfolding left_of_others
ascend_others c ws h = ascend_filter (is_of_other c) ws h

pub ascend_unwatching : (w : Watch) (ws : List Watch) → Ascend ws → Ascend (unwatching w ws)
unfolding unwatching
ascend_unwatching w ws h = ascend_filter (is_other_watch w) ws h

all_after : (P : Watch → Type 0) (w : Watch) (ws : List Watch) → P w → All P ws → All P (after_lower w ws)
unfolding after_lower
all_after P w [] x h = All-cons P w [] x (All-nil P)
all_after P w (v ∷ vs) x h = go (nat_le v.connection w.connection) (all_after P w vs x (All-tail P v vs h))
  where
    go : (b : Bool) → All P (after_lower w vs) → All P (cond b (v ∷ after_lower w vs) (w ∷ v ∷ vs))
    go true ih = All-cons P v (after_lower w vs) (All-head P v vs h) ih
    go false ih = All-cons P w (v ∷ vs) x h

all_above : (m n : ℕ) (ws : List Watch) → m ≤ n → All (λ v. n ≤ v.connection) ws → All (λ v. m ≤ v.connection) ws
all_above m n [] l h = All-nil (λ v. m ≤ v.connection)
all_above m n (w ∷ ws) l h =
    let first : n ≤ w.connection = All-head (λ v. n ≤ v.connection) w ws h in
    All-cons (λ v. m ≤ v.connection) w ws (omega arith) (all_above m n ws l (All-tail (λ v. n ≤ v.connection) w ws h))

ascend_after : (w : Watch) (ws : List Watch) → Ascend ws → Ascend (after_lower w ws)
unfolding Ascend after_lower
ascend_after w [] h = (All-nil (λ v. w.connection ≤ v.connection), tt)
ascend_after w (v ∷ vs) h = go (nat_le v.connection w.connection) refl (ascend_after w vs h.1)
  where
    go : (b : Bool) → nat_le v.connection w.connection ≡ b → Ascend (after_lower w vs) → Ascend (cond b (v ∷ after_lower w vs) (w ∷ v ∷ vs))
    go true e ih =
        let below : v.connection ≤ w.connection = elim (leb_tells v.connection w.connection) [ inl t ↦ t.1 | inr t ↦ absurd (both_ways _ t.0 e) ] in
        (all_after (λ x. v.connection ≤ x.connection) w vs below h.0, ih)
    go false e ih =
        let above : w.connection ≤ v.connection = elim (leb_tells v.connection w.connection) [ inl t ↦ absurd (both_ways _ e t.0) | inr t ↦ omega (arith, t.1) ] in
        (All-cons (λ x. w.connection ≤ x.connection) v vs above (all_above w.connection v.connection vs above h.0), h)

pub ascend_watching : (w : Watch) (ws : List Watch) → Ascend ws → Ascend (watching w ws)
unfolding watching
ascend_watching w ws h = go (list_any (is_same_watch w) ws)
  where
    go : (b : Bool) → Ascend (cond b ws (after_lower w ws))
    go true = h
    go false = ascend_after w ws h
