-- Which connections are told of a path, after watches come and go.
use Rattle.std.proofs.Common.{◌≡◌, ◌≤◌, ◌<◌, ◌==◌, ◌&&◌, ◌||◌, ℕ, Bool, true, false, cond, not, List, [], ◌∷◌, Some, None, Ordering, Less, Equal, Greater, filter, nat_le, nat_cmp, refl, sym, ap, ◌∙◌, inl, inr, subst, arith}
use Rattle.std.specs.Prelude.{All}
use Rattle.std.specs.BTreeSet.{insert_key}
use Rattle.std.specs.Cmp.{nat_cmp_is}
use Rattle.std.specs.List.{list_any, cons_option}
use Rattle.std.specs.Ordering.{is_eq, match_ordering}
use Rattle.std.proofs.lemmas.Bool.{cases_Bool, cases_lt, and_right, and_parts, eqb-false, eqb-true, eq-eqb, ne_eqb, leb-true, leb-false, or_parts}
use Rattle.std.proofs.lemmas.List.Elements.{All-cons, All-head, All-tail, All-weaker}
use Rattle.std.proofs.lemmas.Map.Lookups.{exact_unsigned}
use Rattle.std.proofs.lemmas.Map.Views.{tells_apart}
use Rattle.tree_state.specs.Nodes.{Path, same_path}
use Rattle.tree_state.specs.State.{Aspect, Watch, same_aspect, is_on, is_off, connection_if_on, told, left, is_of_other, left_of_others, after_lower, is_same_watch}
use Rattle.tree_state.specs.Watches.{Ascend, is_other_watch, unwatching}
use Rattle.tree_state.specs.OneWatch.{is_other_connection}
use Rattle.tree_state.proofs.SamePaths.{same_path-true}

-- the list has the connection
abbrev pub has : ℕ → List ℕ → Bool
has c cs = list_any (λ d. d == c) cs

told_first : (a : Aspect) (p : Path) (w : Watch) (ws : List Watch) → told a p (w ∷ ws) ≡ cond (is_on a p w) (w.connection ∷ told a p ws) (told a p ws)
unfolding told connection_if_on
told_first a p w ws = go (is_on a p w) w.connection (told a p ws)
  where
    go : (b : Bool) (c : ℕ) (cs : List ℕ) → cons_option (cond b (Some c) None) cs ≡ cond b (c ∷ cs) cs
    go true c cs = refl
    go false c cs = refl

told_on : (a : Aspect) (p : Path) (w : Watch) (ws : List Watch) → is_on a p w ≡ true → told a p (w ∷ ws) ≡ w.connection ∷ told a p ws
told_on a p w ws h = told_first a p w ws ∙ ap (λ (b : Bool). cond b (w.connection ∷ told a p ws) (told a p ws)) h

told_off : (a : Aspect) (p : Path) (w : Watch) (ws : List Watch) → is_on a p w ≡ false → told a p (w ∷ ws) ≡ told a p ws
told_off a p w ws h = told_first a p w ws ∙ ap (λ (b : Bool). cond b (w.connection ∷ told a p ws) (told a p ws)) h

-- what is told of the later watches decides what is told of all
same_later : (a : Aspect) (p : Path) (w : Watch) (vs ws : List Watch) → told a p vs ≡ told a p ws → told a p (w ∷ vs) ≡ told a p (w ∷ ws)
same_later a p w vs ws h = told_first a p w vs ∙ ap (λ (cs : List ℕ). cond (is_on a p w) (w.connection ∷ cs) cs) h ∙ sym (told_first a p w ws)

-- a watch is on one path
on_one : (a : Aspect) (q p : Path) (w : Watch) → is_on a q w ≡ true → same_path q p ≡ false → is_on a p w ≡ false
unfolding is_on
on_one a q p w h k =
    let same = same_path-true w.path q (and_parts (same_aspect w.aspect a) (same_path w.path q) h).1 in
    and_right (same_aspect w.aspect a) (same_path w.path p) (subst (λ (r : Path). same_path r p ≡ false) (sym same) k)

-- ---- watches have fired

left_first : (a : Aspect) (q : Path) (w : Watch) (ws : List Watch) → left a q (w ∷ ws) ≡ cond (is_on a q w) (left a q ws) (w ∷ left a q ws)
unfolding left is_off
left_first a q w ws = go (is_on a q w) (w ∷ left a q ws) (left a q ws)
  where
    go : (b : Bool) (us vs : List Watch) → cond (not b) us vs ≡ cond b vs us
    go true us vs = refl
    go false us vs = refl

left_on : (a : Aspect) (q : Path) (w : Watch) (ws : List Watch) → is_on a q w ≡ true → left a q (w ∷ ws) ≡ left a q ws
left_on a q w ws h = left_first a q w ws ∙ ap (λ (b : Bool). cond b (left a q ws) (w ∷ left a q ws)) h

left_off : (a : Aspect) (q : Path) (w : Watch) (ws : List Watch) → is_on a q w ≡ false → left a q (w ∷ ws) ≡ w ∷ left a q ws
left_off a q w ws h = left_first a q w ws ∙ ap (λ (b : Bool). cond b (left a q ws) (w ∷ left a q ws)) h

-- none is told of the path whose watches have fired
pub told_fired : (a : Aspect) (p : Path) (ws : List Watch) → told a p (left a p ws) ≡ []
unfolding told left
told_fired a p [] = refl
told_fired a p (w ∷ ws) = elim (cases_Bool (is_on a p w)) [
  | inl on ↦ ap (told a p) (left_on a p w ws on) ∙ told_fired a p ws
  | inr off ↦ ap (told a p) (left_off a p w ws off) ∙ told_off a p w (left a p ws) off ∙ told_fired a p ws
]

pub told_unfired : (a : Aspect) (q p : Path) (ws : List Watch) → same_path q p ≡ false → told a p (left a q ws) ≡ told a p ws
unfolding told left
told_unfired a q p [] h = refl
told_unfired a q p (w ∷ ws) h = elim (cases_Bool (is_on a q w)) [
  | inl on ↦ ap (told a p) (left_on a q w ws on) ∙ told_unfired a q p ws h ∙ sym (told_off a p w ws (on_one a q p w on h))
  | inr off ↦ ap (told a p) (left_off a q w ws off) ∙ same_later a p w (left a q ws) ws (told_unfired a q p ws h)
]

-- ---- the watches of a connection go

filter_other : (c d : ℕ) (cs : List ℕ) → filter (is_other_connection c) (d ∷ cs) ≡ cond (d == c) (filter (is_other_connection c) cs) (d ∷ filter (is_other_connection c) cs)
filter_other c d cs = go (d == c) (d ∷ filter (is_other_connection c) cs) (filter (is_other_connection c) cs)
  where
    go : (b : Bool) (xs ys : List ℕ) → cond (not b) xs ys ≡ cond b ys xs
    go true xs ys = refl
    go false xs ys = refl

others_first : (c : ℕ) (w : Watch) (ws : List Watch) → left_of_others c (w ∷ ws) ≡ cond (w.connection == c) (left_of_others c ws) (w ∷ left_of_others c ws)
unfolding left_of_others is_of_other
others_first c w ws = go (w.connection == c) (w ∷ left_of_others c ws) (left_of_others c ws)
  where
    go : (b : Bool) (us vs : List Watch) → cond (not b) us vs ≡ cond b vs us
    go true us vs = refl
    go false us vs = refl

pub told_others : (a : Aspect) (p : Path) (c : ℕ) (ws : List Watch) → told a p (left_of_others c ws) ≡ filter (is_other_connection c) (told a p ws)
unfolding told left_of_others
told_others a p c [] = refl
told_others a p c (w ∷ ws) =
    ap (told a p) (others_first c w ws)
    ∙ go (w.connection == c) (is_on a p w) refl refl (told_others a p c ws)
    ∙ sym (ap (filter (is_other_connection c)) (told_first a p w ws))
  where
    go : (b o : Bool) → (w.connection == c) ≡ b → is_on a p w ≡ o → told a p (left_of_others c ws) ≡ filter (is_other_connection c) (told a p ws)
        → told a p (cond b (left_of_others c ws) (w ∷ left_of_others c ws)) ≡ filter (is_other_connection c) (cond o (w.connection ∷ told a p ws) (told a p ws))
    go true true h k ih = ih ∙ sym (filter_other c w.connection (told a p ws) ∙ ap (λ (b : Bool). cond b (filter (is_other_connection c) (told a p ws)) (w.connection ∷ filter (is_other_connection c) (told a p ws))) h)
    go true false h k ih = ih
    go false true h k ih =
        told_on a p w (left_of_others c ws) k ∙ ap (λ (cs : List ℕ). w.connection ∷ cs) ih
        ∙ sym (filter_other c w.connection (told a p ws) ∙ ap (λ (b : Bool). cond b (filter (is_other_connection c) (told a p ws)) (w.connection ∷ filter (is_other_connection c) (told a p ws))) h)
    go false false h k ih = told_off a p w (left_of_others c ws) k ∙ ih

-- ---- one watch goes

unwatching_first : (w v : Watch) (ws : List Watch) → unwatching w (v ∷ ws) ≡ cond (is_same_watch w v) (unwatching w ws) (v ∷ unwatching w ws)
unfolding unwatching is_other_watch
unwatching_first w v ws = go (is_same_watch w v) (v ∷ unwatching w ws) (unwatching w ws)
  where
    go : (b : Bool) (us vs : List Watch) → cond (not b) us vs ≡ cond b vs us
    go true us vs = refl
    go false us vs = refl

pub told_unwatched : (w : Watch) (ws : List Watch) → told w.aspect w.path (unwatching w ws) ≡ filter (is_other_connection w.connection) (told w.aspect w.path ws)
unfolding told unwatching is_same_watch
told_unwatched w [] = refl
told_unwatched w (v ∷ ws) =
    ap (told w.aspect w.path) (unwatching_first w v ws)
    ∙ go (v.connection == w.connection) (is_on w.aspect w.path v) refl refl (told_unwatched w ws)
    ∙ sym (ap (filter (is_other_connection w.connection)) (told_first w.aspect w.path v ws))
  where
    rest : List ℕ
    rest = filter (is_other_connection w.connection) (told w.aspect w.path ws)

    go : (b o : Bool) → (v.connection == w.connection) ≡ b → is_on w.aspect w.path v ≡ o → told w.aspect w.path (unwatching w ws) ≡ rest
        → told w.aspect w.path (cond (b && o) (unwatching w ws) (v ∷ unwatching w ws)) ≡ filter (is_other_connection w.connection) (cond o (v.connection ∷ told w.aspect w.path ws) (told w.aspect w.path ws))
    go true true h k ih = ih ∙ sym (filter_other w.connection v.connection (told w.aspect w.path ws) ∙ ap (λ (b : Bool). cond b rest (v.connection ∷ rest)) h)
    go true false h k ih = told_off w.aspect w.path v (unwatching w ws) k ∙ ih
    go false true h k ih =
        told_on w.aspect w.path v (unwatching w ws) k ∙ ap (λ (cs : List ℕ). v.connection ∷ cs) ih
        ∙ sym (filter_other w.connection v.connection (told w.aspect w.path ws) ∙ ap (λ (b : Bool). cond b rest (v.connection ∷ rest)) h)
    go false false h k ih = told_off w.aspect w.path v (unwatching w ws) k ∙ ih

pub told_still : (w : Watch) (p : Path) (ws : List Watch) → same_path w.path p ≡ false → told w.aspect p (unwatching w ws) ≡ told w.aspect p ws
unfolding told unwatching is_same_watch
told_still w p [] h = refl
told_still w p (v ∷ ws) h =
    ap (told w.aspect p) (unwatching_first w v ws)
    ∙ go (v.connection == w.connection) (is_on w.aspect w.path v) refl (told_still w p ws h)
  where
    go : (b o : Bool) → is_on w.aspect w.path v ≡ o → told w.aspect p (unwatching w ws) ≡ told w.aspect p ws
        → told w.aspect p (cond (b && o) (unwatching w ws) (v ∷ unwatching w ws)) ≡ told w.aspect p (v ∷ ws)
    go true true k ih = ih ∙ sym (told_off w.aspect p v ws (on_one w.aspect w.path p v k h))
    go true false k ih = same_later w.aspect p v (unwatching w ws) ws ih
    go false o k ih = same_later w.aspect p v (unwatching w ws) ws ih

-- ---- one watch comes

-- a watch is there where its connection is told
pub same_watch : (w : Watch) (ws : List Watch) → list_any (is_same_watch w) ws ≡ has w.connection (told w.aspect w.path ws)
unfolding told is_same_watch
same_watch w [] = refl
same_watch w (v ∷ ws) = go (v.connection == w.connection) (is_on w.aspect w.path v) refl (same_watch w ws) ∙ sym (ap (has w.connection) (told_first w.aspect w.path v ws))
  where
    go : (b o : Bool) → (v.connection == w.connection) ≡ b → list_any (is_same_watch w) ws ≡ has w.connection (told w.aspect w.path ws)
        → ((b && o) || list_any (is_same_watch w) ws) ≡ has w.connection (cond o (v.connection ∷ told w.aspect w.path ws) (told w.aspect w.path ws))
    go true true h ih = sym (ap (λ (b : Bool). b || has w.connection (told w.aspect w.path ws)) h)
    go true false h ih = ih
    go false true h ih = ih ∙ sym (ap (λ (b : Bool). b || has w.connection (told w.aspect w.path ws)) h)
    go false false h ih = ih

after_first : (w v : Watch) (ws : List Watch) → after_lower w (v ∷ ws) ≡ cond (nat_le v.connection w.connection) (v ∷ after_lower w ws) (w ∷ v ∷ ws)
unfolding after_lower
after_first w v ws = refl

pub told_other : (w : Watch) (p : Path) (ws : List Watch) → same_path w.path p ≡ false → is_on w.aspect w.path w ≡ true → told w.aspect p (after_lower w ws) ≡ told w.aspect p ws
unfolding after_lower
told_other w p [] h on = told_off w.aspect p w [] (on_one w.aspect w.path p w on h)
told_other w p (v ∷ ws) h on = go (nat_le v.connection w.connection) (told_other w p ws h on)
  where
    go : (b : Bool) → told w.aspect p (after_lower w ws) ≡ told w.aspect p ws → told w.aspect p (cond b (v ∷ after_lower w ws) (w ∷ v ∷ ws)) ≡ told w.aspect p (v ∷ ws)
    go true ih = same_later w.aspect p v (after_lower w ws) ws ih
    go false ih = told_off w.aspect p w (v ∷ ws) (on_one w.aspect w.path p w on h)

-- a connection below all those that are told comes first
insert_first : (a : Aspect) (p : Path) (c : ℕ) (ws : List Watch) → All (λ v. c < v.connection) ws → insert_key nat_cmp (told a p ws) c ≡ c ∷ told a p ws
unfolding told
insert_first a p c [] h = refl
insert_first a p c (v ∷ ws) h = elim (cases_Bool (is_on a p v)) [
  | inl on ↦
      ap (λ (cs : List ℕ). insert_key nat_cmp cs c) (told_on a p v ws on)
      ∙ ap (λ (o : Ordering). match_ordering o (c ∷ v.connection ∷ told a p ws) (v.connection ∷ told a p ws) (v.connection ∷ insert_key nat_cmp (told a p ws) c)) (sym (nat_cmp_is c v.connection Less (All-head (λ (u : Watch). c < u.connection) v ws h)))
      ∙ ap (λ (cs : List ℕ). c ∷ cs) (sym (told_on a p v ws on))
  | inr off ↦
      ap (λ (cs : List ℕ). insert_key nat_cmp cs c) (told_off a p v ws off)
      ∙ insert_first a p c ws (All-tail (λ (u : Watch). c < u.connection) v ws h)
      ∙ ap (λ (cs : List ℕ). c ∷ cs) (sym (told_off a p v ws off))
]

all_above : (c : ℕ) (v : Watch) (ws : List Watch) → c < v.connection → All (λ u. v.connection ≤ u.connection) ws → All (λ u. c < u.connection) (v ∷ ws)
all_above c v ws h k = All-cons (λ (u : Watch). c < u.connection) v ws h (All-weaker (λ (u : Watch). v.connection ≤ u.connection) (λ (u : Watch). c < u.connection) (λ u i. omega (arith, h, i)) ws k)

-- a new connection is told at its place
pub told_more : (w : Watch) (ws : List Watch) → is_on w.aspect w.path w ≡ true → Ascend ws → has w.connection (told w.aspect w.path ws) ≡ false
    → told w.aspect w.path (after_lower w ws) ≡ insert_key nat_cmp (told w.aspect w.path ws) w.connection
unfolding after_lower Ascend told
told_more w [] on up new = told_on w.aspect w.path w [] on
told_more w (v ∷ ws) on up new =
    elim (cases_Bool (nat_le v.connection w.connection)) [
      | inl low ↦ ap (told w.aspect w.path) (after_first w v ws ∙ ap (λ (b : Bool). cond b (v ∷ after_lower w ws) (w ∷ v ∷ ws)) low) ∙ (elim (cases_Bool (is_on w.aspect w.path v)) [
        | inl here ↦
            let parts = or_parts _ _ (sym (ap (has w.connection) (told_on w.aspect w.path v ws here)) ∙ new) in
            let apart = eqb-false v.connection w.connection parts.0 in
            let below = leb-true v.connection w.connection low in
            told_on w.aspect w.path v (after_lower w ws) here
            ∙ ap (λ (cs : List ℕ). v.connection ∷ cs) (told_more w ws on up.1 parts.1)
            ∙ sym (ap (λ (cs : List ℕ). insert_key nat_cmp cs w.connection) (told_on w.aspect w.path v ws here)
            ∙ ap (λ (o : Ordering). match_ordering o (w.connection ∷ v.connection ∷ told w.aspect w.path ws) (v.connection ∷ told w.aspect w.path ws) (v.connection ∷ insert_key nat_cmp (told w.aspect w.path ws) w.connection))
            (sym (nat_cmp_is w.connection v.connection Greater (strictly v.connection w.connection below apart))))
        | inr off ↦
            told_off w.aspect w.path v (after_lower w ws) off
            ∙ told_more w ws on up.1 (sym (ap (has w.connection) (told_off w.aspect w.path v ws off)) ∙ new)
            ∙ sym (ap (λ (cs : List ℕ). insert_key nat_cmp cs w.connection) (told_off w.aspect w.path v ws off))
      ])
      | inr high ↦
          ap (told w.aspect w.path) (after_first w v ws ∙ ap (λ (b : Bool). cond b (v ∷ after_lower w ws) (w ∷ v ∷ ws)) high)
          ∙ told_on w.aspect w.path w (v ∷ ws) on
          ∙ sym (insert_first w.aspect w.path w.connection (v ∷ ws) (all_above w.connection v ws (leb-false v.connection w.connection high) up.0))
    ]
  where
    strictly : (a b : ℕ) → a ≤ b → (a ≡ b → ⊥) → a < b
    strictly a b h k = elim (cases_lt a b) [ inl l ↦ l | inr g ↦ absurd (k (omega (arith, h, g))) ]

-- ---- whether a connection is told

pub turned : (c d : ℕ) → (c == d) ≡ (d == c)
turned c d = elim (cases_Bool (c == d)) [
  | inl y ↦ y ∙ sym (eq-eqb d c (sym (eqb-true c d y)))
  | inr n ↦ n ∙ sym (ne_eqb d c (λ e. eqb-false c d n (sym e)))
]

tied : (c x : ℕ) → nat_cmp c x ≡ Equal → c ≡ x
tied c x h = tells_apart exact_unsigned c x (ap is_eq h)

none : (b : Bool) → (b && false) ≡ false
none true = refl
none false = refl

pub has_others : (c d : ℕ) (cs : List ℕ) → has d (filter (is_other_connection c) cs) ≡ (has d cs && not (d == c))
has_others c d [] = refl
has_others c d (x ∷ cs) = ap (has d) (filter_other c x cs) ∙ go (x == c) (x == d) refl refl (has_others c d cs)
  where
    go : (b e : Bool) → (x == c) ≡ b → (x == d) ≡ e → has d (filter (is_other_connection c) cs) ≡ (has d cs && not (d == c))
        → has d (cond b (filter (is_other_connection c) cs) (x ∷ filter (is_other_connection c) cs)) ≡ ((e || has d cs) && not (d == c))
    go true true h k ih =
        let same = eq-eqb d c (sym (eqb-true x d k) ∙ eqb-true x c h) in
        ih ∙ ap (λ (b : Bool). has d cs && not b) same ∙ none (has d cs) ∙ sym (ap not same)
    go true false h k ih = ih
    go false true h k ih =
        let other = ne_eqb d c (λ e. eqb-false x c h (eqb-true x d k ∙ e)) in
        ap (λ (b : Bool). b || has d (filter (is_other_connection c) cs)) k ∙ sym (ap not other)
    go false false h k ih = ap (λ (b : Bool). b || has d (filter (is_other_connection c) cs)) k ∙ ih

plain : (b : Bool) → (b || false) ≡ b
plain true = refl
plain false = refl

exchanged : (a b : Bool) → (a || b) ≡ (b || a)
exchanged true true = refl
exchanged true false = refl
exchanged false true = refl
exchanged false false = refl

twice : (a b : Bool) → (a || b) ≡ ((a || b) || a)
twice true b = refl
twice false true = refl
twice false false = refl

grouped : (a b c : Bool) → (a || (b || c)) ≡ ((a || b) || c)
grouped true b c = refl
grouped false b c = refl

pub has_more : (c d : ℕ) (cs : List ℕ) → has d (insert_key nat_cmp cs c) ≡ (has d cs || (d == c))
has_more c d [] = ap (λ (b : Bool). b || false) (turned c d) ∙ plain (d == c)
has_more c d (x ∷ cs) = go (nat_cmp c x) refl (has_more c d cs)
  where
    go : (o : Ordering) → nat_cmp c x ≡ o → has d (insert_key nat_cmp cs c) ≡ (has d cs || (d == c))
        → has d (match_ordering o (c ∷ x ∷ cs) (x ∷ cs) (x ∷ insert_key nat_cmp cs c)) ≡ (has d (x ∷ cs) || (d == c))
    go Less h ih = ap (λ (b : Bool). b || has d (x ∷ cs)) (turned c d) ∙ exchanged (d == c) (has d (x ∷ cs))
    go Equal h ih =
        let same : c ≡ x = tied c x h in
        ap (λ (b : Bool). b || has d cs) (turned x d ∙ ap (λ (y : ℕ). d == y) (sym same)) ∙ twice (d == c) (has d cs)
        ∙ sym (ap (λ (b : Bool). (b || has d cs) || (d == c)) (turned x d ∙ ap (λ (y : ℕ). d == y) (sym same)))
    go Greater h ih = ap (λ (b : Bool). (x == d) || b) ih ∙ grouped (x == d) (has d cs) (d == c)

-- a connection that is not there is not taken out
pub nothing_less : (c : ℕ) (cs : List ℕ) → has c cs ≡ false → filter (is_other_connection c) cs ≡ cs
nothing_less c [] h = refl
nothing_less c (x ∷ cs) h =
    let parts = or_parts (x == c) (has c cs) h in
    filter_other c x cs ∙ ap (λ (b : Bool). cond b (filter (is_other_connection c) cs) (x ∷ filter (is_other_connection c) cs)) parts.0
    ∙ ap (λ (ds : List ℕ). x ∷ ds) (nothing_less c cs parts.1)
