-- A text is a legal path's or has one first fault, and not both.
use Rattle.std.proofs.Common.{Bool, true, false, bytes_eq, inl, inr, ◌≡◌, ◌≢◌, ℕ, ◌+◌, List, [], ◌∷◌, ◌++◌, length, refl, sym, ap, subst, ◌∙◌, ◌⊎◌, append_assoc}
use Rattle.std.specs.Prelude.{All, IsNone, Some, None, ◌↔◌}
use Rattle.std.proofs.lemmas.List.Elements.{All-nil, All-cons, All-head, All-tail, All-weaker}
use Rattle.std.proofs.lemmas.Bool.{false≢true}
use Rattle.std.proofs.lemmas.Slice.Eq.{bytes_eq-Decides}
use Rattle.zk_path.specs.Paths.{HasNoSlash, IsComponent, IsPath, IsStem, IsStemEnd, joined, text_of, IsPathText, IsStemText}
use Rattle.zk_path.specs.Places.{IsIllegalWithin, IsIllegalLast, IsBadWithin, IsBadPathAt, IsBadStemAt, EndsIn}
use Rattle.zk_path.specs.View.{components}
use Rattle.zk_path.specs.WithDigits.{stem_end_plain}
use Rattle.zk_path.proofs.Components.{components-joined, components_grow, joined_same, joined_begins}

pub plain : (p : List (List ℕ)) → IsPath p → All HasNoSlash p
plain p h = All-weaker IsComponent HasNoSlash (λ n k. k.no_slash) p h

All-inside : (ks : List (List ℕ)) (n : List ℕ) (p : List (List ℕ)) → IsPath (ks ++ n ∷ p) → IsComponent n
All-inside [] n p h = All-head IsComponent n p h
All-inside (k ∷ ks) n p h = All-inside ks n p (All-tail IsComponent k (ks ++ n ∷ p) h)

-- the components of a text with an illegal one before a slash
within_components : (text : List ℕ) (place : ℕ) (h : IsIllegalWithin text place) → (ks : List (List ℕ)) × (k : List ℕ) × (components text ≡ ks ++ k ∷ h.name ∷ h.before)
within_components text place h =
    let g = components_grow (h.name ∷ h.before) h.rest (All-cons HasNoSlash h.name h.before h.whole (plain h.before h.legal)) in
    (g.0, g.1, ap components h.spelled ∙ g.2)

no_illegal_below : (n : List ℕ) (p ks : List (List ℕ)) (k m : List ℕ) (q : List (List ℕ)) → IsPath p → n ∷ p ≡ ks ++ k ∷ m ∷ q → (IsComponent m → ⊥) → ⊥
no_illegal_below n p [] k m q h e bad = let rest : p ≡ m ∷ q = cc in bad (All-head IsComponent m q (subst IsPath rest h))
no_illegal_below n p (l ∷ ks) k m q h e bad =
    let rest : p ≡ ks ++ k ∷ m ∷ q = cc in bad (All-tail_inside ks k m q (subst IsPath rest h))
  where
    All-tail_inside : (js : List (List ℕ)) (j i : List ℕ) (r : List (List ℕ)) → IsPath (js ++ j ∷ i ∷ r) → IsComponent i
    All-tail_inside [] j i r g = All-head IsComponent i r (All-tail IsComponent j (i ∷ r) g)
    All-tail_inside (x ∷ js) j i r g = All-tail_inside js j i r (All-tail IsComponent x (js ++ j ∷ i ∷ r) g)

-- no text ends in legal components and one more, and has an illegal one before a slash
last_not_within : (text n : List ℕ) (p : List (List ℕ)) (place : ℕ) → IsPath p → HasNoSlash n → text ≡ joined (n ∷ p) → IsIllegalWithin text place → ⊥
last_not_within text n p place h k e w =
    let g = within_components text place w in
    no_illegal_below n p g.0 g.1 w.name w.before h (sym (components-joined (n ∷ p) (All-cons HasNoSlash n p k (plain p h))) ∙ sym (ap components e) ∙ g.2) w.illegal

-- the first illegal one of a list is one
one_illegal : (ks : List (List ℕ)) (n : List ℕ) (p ls : List (List ℕ)) (m : List ℕ) (q : List (List ℕ)) → ks ++ n ∷ p ≡ ls ++ m ∷ q → IsPath p → IsPath q → (IsComponent n → ⊥) → (IsComponent m → ⊥) → p ≡ q
one_illegal [] n p [] m q e h k a b = cc
one_illegal [] n p (l ∷ ls) m q e h k a b = let rest : p ≡ ls ++ m ∷ q = cc in absurd (b (All-inside ls m q (subst IsPath rest h)))
one_illegal (j ∷ ks) n p [] m q e h k a b = let rest : q ≡ ks ++ n ∷ p = cc in absurd (a (All-inside ks n p (subst IsPath rest k)))
one_illegal (j ∷ ks) n p (l ∷ ls) m q e h k a b = let rest : ks ++ n ∷ p ≡ ls ++ m ∷ q = cc in one_illegal ks n p ls m q rest h k a b

drop_last : (ks : List (List ℕ)) (k : List ℕ) (r ls : List (List ℕ)) (l : List ℕ) (s : List (List ℕ)) → ks ++ k ∷ r ≡ ls ++ l ∷ s → (ks ++ k ∷ []) ++ r ≡ (ls ++ l ∷ []) ++ s
drop_last ks k r ls l s e = append_assoc ks (k ∷ []) r ∙ e ∙ sym (append_assoc ls (l ∷ []) s)

within_same : (text : List ℕ) (a b : ℕ) → IsIllegalWithin text a → IsIllegalWithin text b → a ≡ b
within_same text a b v w =
    let g = within_components text a v in
    let h = within_components text b w in
    let same = one_illegal (g.0 ++ g.1 ∷ []) v.name v.before (h.0 ++ h.1 ∷ []) w.name w.before (drop_last g.0 g.1 (v.name ∷ v.before) h.0 h.1 (w.name ∷ w.before) (sym g.2 ∙ h.2)) v.legal w.legal v.illegal w.illegal in
    v.found ∙ ap (λ (p : List (List ℕ)). length (joined p) + 1) same ∙ sym w.found

last_same : (L : List ℕ → Type 0) (text : List ℕ) (a b : ℕ) → IsIllegalLast L text a → IsIllegalLast L text b → a ≡ b
last_same L text a b v w =
    let whole : v.name ∷ v.before ≡ w.name ∷ w.before = joined_same (v.name ∷ v.before) (w.name ∷ w.before) (All-cons HasNoSlash v.name v.before v.whole (plain v.before v.legal)) (All-cons HasNoSlash w.name w.before w.whole (plain w.before w.legal)) (sym v.spelled ∙ w.spelled) in
    let same : v.before ≡ w.before = cc in
    v.found ∙ ap (λ (p : List (List ℕ)). length (joined p) + 1) same ∙ sym w.found

-- a text with components is rooted
within_rooted : (text : List ℕ) (a : ℕ) → IsIllegalWithin text a → (rest : List ℕ) × (text ≡ 47 ∷ rest)
within_rooted text a w = let g = joined_begins w.name w.before in (g.0 ++ 47 ∷ w.rest, w.spelled ∙ ap (λ (l : List ℕ). l ++ 47 ∷ w.rest) g.1)

last_rooted : (text n : List ℕ) (p : List (List ℕ)) → text ≡ joined (n ∷ p) → (rest : List ℕ) × (text ≡ 47 ∷ rest)
last_rooted text n p e = let g = joined_begins n p in (g.0, e ∙ g.1)

bad_within_same : (text : List ℕ) (a b : ℕ) → IsBadWithin text a → IsBadWithin text b → a ≡ b
bad_within_same text a b (inl u) (inl v) = u.found ∙ sym v.found
bad_within_same text a b (inl u) (inr w) = let g = within_rooted text b w in absurd (u.no_slash g.0 g.1)
bad_within_same text a b (inr w) (inl u) = let g = within_rooted text a w in absurd (u.no_slash g.0 g.1)
bad_within_same text a b (inr v) (inr w) = within_same text a b v w

last_not_bad_within : (text n : List ℕ) (p : List (List ℕ)) (place : ℕ) → IsPath p → HasNoSlash n → text ≡ joined (n ∷ p) → IsBadWithin text place → ⊥
last_not_bad_within text n p place h k e (inl u) = let g = last_rooted text n p e in u.no_slash g.0 g.1
last_not_bad_within text n p place h k e (inr w) = last_not_within text n p place h k e w

pub bad_same : (L : List ℕ → Type 0) (text : List ℕ) (a b : ℕ) → IsBadWithin text a ⊎ IsIllegalLast L text a → IsBadWithin text b ⊎ IsIllegalLast L text b → a ≡ b
bad_same L text a b (inl u) (inl v) = bad_within_same text a b u v
bad_same L text a b (inl u) (inr v) = absurd (last_not_bad_within text v.name v.before a v.legal v.whole v.spelled u)
bad_same L text a b (inr u) (inl v) = absurd (last_not_bad_within text u.name u.before b u.legal u.whole u.spelled v)
bad_same L text a b (inr u) (inr v) = last_same L text a b u v

legal_not_bad : (L : List ℕ → Type 0) (text n : List ℕ) (p : List (List ℕ)) (place : ℕ) → IsPath p → HasNoSlash n → L n → text ≡ joined (n ∷ p) → IsBadWithin text place ⊎ IsIllegalLast L text place → ⊥
legal_not_bad L text n p place h k l e (inl u) = last_not_bad_within text n p place h k e u
legal_not_bad L text n p place h k l e (inr u) =
    let whole : n ∷ p ≡ u.name ∷ u.before = joined_same (n ∷ p) (u.name ∷ u.before) (All-cons HasNoSlash n p k (plain p h)) (All-cons HasNoSlash u.name u.before u.whole (plain u.before u.legal)) (sym e ∙ u.spelled) in
    let same : n ≡ u.name = cc in
    u.illegal (subst L same l)

pub path_not_bad : (text : List ℕ) (place : ℕ) → IsPathText text → IsBadPathAt text place → ⊥
unfolding text_of
path_not_bad text place ([], h, e) bad = bad.0 e
path_not_bad text place (n ∷ p, h, e) bad =
    let first = All-head IsComponent n p h in
    legal_not_bad IsComponent text n p place (All-tail IsComponent n p h) first.no_slash first e bad.1

pub stem_not_bad : (text : List ℕ) (place : ℕ) → IsStemText text → IsBadStemAt text place → ⊥
stem_not_bad text place ([], h, e) bad = h
stem_not_bad text place (n ∷ p, h, e) bad = legal_not_bad IsStemEnd text n p place h.1 (stem_end_plain n h.0) h.0 e bad

-- the root's text is no other path's
root_apart : (m : List ℕ) (r : List (List ℕ)) → IsPath (m ∷ r) → joined ([] ∷ []) ≡ joined (m ∷ r) → ⊥
root_apart m r g f =
    let whole : [] ∷ [] ≡ m ∷ r = joined_same ([] ∷ []) (m ∷ r) (All-cons HasNoSlash [] [] (All-nil (λ c. c ≢ 47)) (All-nil HasNoSlash)) (plain (m ∷ r) g) f in
    let empty : m ≡ [] = cc in
    (All-head IsComponent m r g).filled empty

pub one_text : (p q : List (List ℕ)) → IsPath p → IsPath q → text_of p ≡ text_of q → p ≡ q
unfolding text_of joined
one_text [] [] h k e = refl
one_text [] (n ∷ q) h k e = absurd (root_apart n q k e)
one_text (n ∷ p) [] h k e = absurd (root_apart n p h (sym e))
one_text (n ∷ p) (m ∷ q) h k e = joined_same (n ∷ p) (m ∷ q) (plain (n ∷ p) h) (plain (m ∷ q) k) e

pub stem_plain : (s : List (List ℕ)) → IsStem s → All HasNoSlash s
stem_plain [] h = absurd h
stem_plain (n ∷ p) h = All-cons HasNoSlash n p (stem_end_plain n h.0) (plain p h.1)

pub one_stem_text : (s t : List (List ℕ)) → IsStem s → IsStem t → joined s ≡ joined t → s ≡ t
one_stem_text s t h k e = joined_same s t (stem_plain s h) (stem_plain t k) e

-- the answers of a check: None where the text is legal, else the place
accepts : {G : Type 0} {B : ℕ → Type 0} → G → ((place : ℕ) → B place → ⊥) → (IsNone {T = ℕ} None ↔ G) × ((place : ℕ) → (None ≡ Some place) ↔ B place)
accepts g good = ((λ _. g, λ _. refl), λ place. (λ e. absurd cc, λ bad. absurd (good place bad)))

refuses : {G : Type 0} {B : ℕ → Type 0} (a : ℕ) → (G → ⊥) → B a → ((b : ℕ) → B b → a ≡ b) → (IsNone (Some a) ↔ G) × ((place : ℕ) → (Some a ≡ Some place) ↔ B place)
refuses {G} {B} a bad here one =
    ((λ e. absurd cc, λ g. absurd (bad g)), λ place. (λ e. let same : a ≡ place = cc in subst B same here, λ other. ap Some (one place other)))

pub path_accepted : (text : List ℕ) → IsPathText text → (IsNone {T = ℕ} None ↔ IsPathText text) × ((place : ℕ) → (None ≡ Some place) ↔ IsBadPathAt text place)
path_accepted text good = accepts good (λ place bad. path_not_bad text place good bad)

pub path_refused : (text : List ℕ) (a : ℕ) → IsBadPathAt text a → (IsNone (Some a) ↔ IsPathText text) × ((place : ℕ) → (Some a ≡ Some place) ↔ IsBadPathAt text place)
path_refused text a bad = refuses a (λ good. path_not_bad text a good bad) bad (λ b other. bad_same IsComponent text a b bad.1 other.1)

pub stem_accepted : (text : List ℕ) → IsStemText text → (IsNone {T = ℕ} None ↔ IsStemText text) × ((place : ℕ) → (None ≡ Some place) ↔ IsBadStemAt text place)
stem_accepted text good = accepts good (λ place bad. stem_not_bad text place good bad)

pub stem_refused : (text : List ℕ) (a : ℕ) → IsBadStemAt text a → (IsNone (Some a) ↔ IsStemText text) × ((place : ℕ) → (Some a ≡ Some place) ↔ IsBadStemAt text place)
stem_refused text a bad = refuses a (λ good. stem_not_bad text a good bad) bad (λ b other. bad_same IsStemEnd text a b bad other)

pub root_is_path : (text : List ℕ) → text ≡ 47 ∷ [] → IsPathText text
unfolding text_of
root_is_path text e = ([], All-nil IsComponent, e)

pub end_is_path : (text name : List ℕ) → EndsIn text name → IsComponent name → IsPathText text
unfolding text_of
end_is_path text name h good = (name ∷ h.before, All-cons IsComponent name h.before good h.legal, h.spelled)

pub end_is_stem : (text name : List ℕ) → EndsIn text name → IsStemEnd name → IsStemText text
end_is_stem text name h good = (name ∷ h.before, (good, h.legal), h.spelled)

-- the test for the root's text
pub is_slash : (r : Bool) (text : List ℕ) → r ≡ bytes_eq text (47 ∷ []) → r ≡ true → text ≡ 47 ∷ []
is_slash r text e t = (bytes_eq-Decides text (47 ∷ [])).0 (sym e ∙ t)

pub is_no_slash : (r : Bool) (text : List ℕ) → r ≡ bytes_eq text (47 ∷ []) → r ≡ false → text ≢ 47 ∷ []
is_no_slash r text e f h = false≢true (sym f ∙ e ∙ (bytes_eq-Decides text (47 ∷ [])).1 h)
