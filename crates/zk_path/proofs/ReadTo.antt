-- How far a text is read.
use Rattle.std.proofs.Common.{inr, ◌≡◌, ℕ, ◌+◌, ◌-◌, ◌≤◌, List, [], ◌∷◌, ◌++◌, length, get_or, drop, suc, ◌<◌, add-one, refl, sym, ap, subst, ◌∙◌, append_assoc, length-append, arith}
use Rattle.std.specs.Str.{IsUtf8}
use Rattle.std.proofs.lemmas.List.Elements.{All-nil, All-cons}
use Rattle.std.proofs.lemmas.Str.{IsUtf8-drop, IsCharBoundary-after_ascii}
use Rattle.zk_path.specs.Paths.{HasNoSlash, IsComponent, IsPath, joined}
use Rattle.zk_path.specs.Places.{IsIllegalLast, IsBadWithin, EndsIn}

-- legal components and a slash stand before the rest
pub record IsReadTo (text rest : List ℕ) : Type 0 where
  pub before : List (List ℕ)
  pub legal : IsPath before
  pub spelled : text ≡ joined before ++ 47 ∷ rest

pub begins_at : (text rest : List ℕ) → text ≡ 47 ∷ rest → IsReadTo text rest
unfolding joined
begins_at text rest e = record { before = []; legal = All-nil IsComponent; spelled = e }

pub reads_on : {text rest : List ℕ} (name after : List ℕ) → IsReadTo text rest → rest ≡ name ++ 47 ∷ after → IsComponent name → IsReadTo text after
unfolding joined
reads_on {text} {rest} name after h e good = record {
  before = name ∷ h.before;
  legal = All-cons IsComponent name h.before good h.legal;
  spelled = h.spelled ∙ ap (λ (l : List ℕ). joined h.before ++ 47 ∷ l) e ∙ sym (append_assoc (joined h.before) (47 ∷ name) (47 ∷ after));
}

-- the place of what is not read yet
rest_at : (text front rest : List ℕ) → text ≡ front ++ 47 ∷ rest → length text - length rest ≡ length front + 1
rest_at text front rest e = omega (arith, ap length e, length-append front (47 ∷ rest))

pub illegal_here : {text rest : List ℕ} (name after : List ℕ) → IsReadTo text rest → rest ≡ name ++ 47 ∷ after → HasNoSlash name → (IsComponent name → ⊥) → IsBadWithin text (length text - length rest)
unfolding joined
illegal_here {text} {rest} name after h e whole bad = inr (record {
  before = h.before;
  name = name;
  rest = after;
  legal = h.legal;
  whole = whole;
  illegal = bad;
  spelled = h.spelled ∙ ap (λ (l : List ℕ). joined h.before ++ 47 ∷ l) e ∙ sym (append_assoc (joined h.before) (47 ∷ name) (47 ∷ after));
  found = rest_at text (joined h.before) rest h.spelled;
})

pub ends_in : {text rest : List ℕ} → IsReadTo text rest → HasNoSlash rest → EndsIn text rest
unfolding joined
ends_in {text} {rest} h whole = record { before = h.before; legal = h.legal; whole = whole; spelled = h.spelled }

pub illegal_last : (L : List ℕ → Type 0) {text name : List ℕ} → EndsIn text name → (L name → ⊥) → IsIllegalLast L text (length text - length name)
unfolding joined
illegal_last L {text} {name} h bad = record {
  before = h.before;
  name = name;
  legal = h.legal;
  whole = h.whole;
  illegal = bad;
  spelled = h.spelled;
  found = rest_at text (joined h.before) name h.spelled;
}

pub name_within : {text name : List ℕ} → EndsIn text name → length name ≤ length text
unfolding joined
name_within {text} {name} h = omega (arith, ap length h.spelled, length-append (joined h.before) (47 ∷ name))

slash_at : (front rest : List ℕ) → get_or (front ++ 47 ∷ rest) (length front) 0 ≡ 47
slash_at [] rest = refl
slash_at (b ∷ front) rest = slash_at front rest

drop_slash : (front rest : List ℕ) → drop (length front + 1) (front ++ 47 ∷ rest) ≡ rest
drop_slash front rest = rw add-one (past front rest)
  where
    past : (xs ys : List ℕ) → drop (suc (length xs)) (xs ++ 47 ∷ ys) ≡ ys
    past [] ys = refl
    past (x ∷ xs) ys = past xs ys

-- what follows a slash is text
pub text_after : (text front rest : List ℕ) → IsUtf8 text → text ≡ front ++ 47 ∷ rest → IsUtf8 rest
text_after text front rest u e =
    let at : get_or text (length front) 0 < 128 = subst (λ (k : ℕ). k < 128) (sym (ap (λ (l : List ℕ). get_or l (length front) 0) e ∙ slash_at front rest)) (omega arith) in
    let within : length front < length text = omega (arith, ap length e, length-append front (47 ∷ rest)) in
    subst IsUtf8 (ap (drop (length front + 1)) e ∙ drop_slash front rest) (IsUtf8-drop text (length front + 1) u (IsCharBoundary-after_ascii text (length front) u within at))
