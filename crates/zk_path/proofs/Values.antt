-- Paths as values: what a text that is held says of its components.
use Rattle.std.proofs.Common.{◌≡◌, ◌≢◌, ℕ, ◌<◌, List, [], ◌∷◌, ◌++◌, length, get_or, refl, sym, ap, subst, ◌∙◌, arith}
use Rattle.std.specs.Prelude.{All}
use Rattle.std.proofs.lemmas.List.{append_cancel_right, nil_from_length}
use Rattle.std.proofs.lemmas.List.Elements.{All-head, All-tail}
use Rattle.zk_path.specs.Paths.{HasNoSlash, joined, text_of}
use Rattle.zk_path.specs.View.{components, with_bytes, IsCut}
use Rattle.zk_path.proofs.Components.{components-push, components-joined, joined_begins, no_slashes-components}

-- the text of components is kept as it is
pub is_held : (text : List ℕ) (p : List (List ℕ)) → All HasNoSlash p → text ≡ joined p → joined (components text) ≡ text
is_held text p h e = ap joined (ap components e ∙ components-joined p h) ∙ sym e

pub is_seen : (text : List ℕ) (p : List (List ℕ)) → All HasNoSlash p → text ≡ joined p → components text ≡ p
is_seen text p h e = ap components e ∙ components-joined p h

pub joined-push : (text name : List ℕ) → HasNoSlash name → joined (components text) ≡ text → joined (components (text ++ 47 ∷ name)) ≡ text ++ 47 ∷ name
unfolding joined
joined-push text name h e = ap joined (components-push text name h) ∙ ap (λ (l : List ℕ). l ++ 47 ∷ name) e

pub cut_at : (text above name : List ℕ) → joined (components text) ≡ text → HasNoSlash name → text ≡ above ++ 47 ∷ name → IsCut (components text) above name
unfolding joined
cut_at text above name e h split =
    let whole : components text ≡ name ∷ components above = ap components split ∙ components-push above name h in
    record {
      parts = components above;
      whole = whole;
      upper = sym (append_cancel_right (joined (components above)) above (47 ∷ name) (ap joined (sym whole) ∙ e ∙ split));
      plain = no_slashes-components text;
    }

pub no_cut : (text : List ℕ) → joined (components text) ≡ text → ((i : ℕ) → i < length text → get_or text i 0 ≢ 47) → components text ≡ []
no_cut text e h = no_first (components text) e
  where
    no_first : (p : List (List ℕ)) → joined p ≡ text → p ≡ []
    no_first [] f = refl
    no_first (n ∷ p) f =
        let g = joined_begins n p in
        let first : text ≡ 47 ∷ g.0 = sym f ∙ g.1 in
        absurd (h 0 (subst (λ (l : List ℕ). 0 < length l) (sym first) (omega arith)) (ap (λ (l : List ℕ). get_or l 0 0) first))

pub root_text : (text : List ℕ) → joined (components text) ≡ text → text ≡ [] → text_of (components text) ≡ 47 ∷ []
unfolding text_of components with_bytes
root_text text e h = subst (λ (l : List ℕ). text_of (components l) ≡ 47 ∷ []) (sym h) refl

pub whole_text : (text : List ℕ) → joined (components text) ≡ text → text ≢ [] → text ≡ text_of (components text)
unfolding text_of joined
whole_text text e h = by_first (components text) e
  where
    by_first : (p : List (List ℕ)) → joined p ≡ text → text ≡ text_of p
    by_first [] f = absurd (h (sym f))
    by_first (n ∷ p) f = sym f

pub is_empty_text : (text : List ℕ) → length text ≡ 0 → components text ≡ []
unfolding components with_bytes
is_empty_text text h = ap components (nil_from_length text h)

pub text_is_empty : (text : List ℕ) → joined (components text) ≡ text → components text ≡ [] → length text ≡ 0
unfolding joined
text_is_empty text e h = ap length (sym e) ∙ ap (λ (p : List (List ℕ)). length (joined p)) h

-- what stands above a component is held too
pub upper_plain : {path : List (List ℕ)} {above name : List ℕ} (h : IsCut path above name) → All HasNoSlash h.parts
upper_plain {path} {above} {name} h = All-tail HasNoSlash name h.parts (subst (All HasNoSlash) h.whole h.plain)

pub upper_held : {path : List (List ℕ)} {above name : List ℕ} → IsCut path above name → joined (components above) ≡ above
upper_held {path} {above} {name} h = is_held above h.parts (upper_plain h) h.upper

pub upper_seen : {path : List (List ℕ)} {above name : List ℕ} → IsCut path above name → path ≡ name ∷ components above
upper_seen {path} {above} {name} h = h.whole ∙ ap (λ (p : List (List ℕ)). name ∷ p) (sym (is_seen above h.parts (upper_plain h) h.upper))

pub name_plain : {path : List (List ℕ)} {above name : List ℕ} → IsCut path above name → HasNoSlash name
name_plain {path} {above} {name} h = All-head HasNoSlash name h.parts (subst (All HasNoSlash) h.whole h.plain)
