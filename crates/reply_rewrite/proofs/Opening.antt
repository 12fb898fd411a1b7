-- Names of children, opened one after another.
use Rattle.std.proofs.Common.{◌≡◌, ◌⊎◌, ◌↔◌, ◌<◌, ◌+◌, ◌≤◌, ℕ, Bool, true, false, IsTrue, List, [], ◌∷◌, length, inl, inr, refl, sym, ap, ◌∙◌, subst, arith}
use Rattle.std.proofs.lemmas.Bool.{cases_lt, false≢true}
use Rattle.std.proofs.lemmas.Slice.Eq.{bytes_eq-Decides}
use Rattle.std.specs.Bool.{Decides}
use Rattle.std.specs.Str.{bytes_eq}
use Rattle.path_seal.specs.Sealed.{Keys, AreKeys, OpensName}
use Rattle.path_seal.proofs.Apart.{name_apart}
use Rattle.reply_rewrite.specs.Children.{IsOneOf, name_at, OpensAt, StandsEarlier, AreGoodBefore, AreOpened, ArePlainNames, IsFirstUnopened, IsFirstDoubled, byte_order}
use Rattle.std.specs.List.Sorted.{IsStrictlySortedBy}
use Rattle.reply_rewrite.specs.Turns.{IsNew, IsKnown}

pub one_name : (k : Keys) (path : List (List ℕ)) (stored n m : List ℕ) → AreKeys k → OpensName k path stored n → OpensName k path stored m → n ≡ m
one_name k path stored n m keys x y = name_apart k path path n m keys.key_bytes x.0.utf8 y.0.utf8 (x.1 ∙ sym y.1)

opens_along : (k : Keys) (path : List (List ℕ)) (a b n : List ℕ) → a ≡ b → OpensName k path a n → OpensName k path b n
opens_along k path a b n e h = subst (λ (c : List ℕ). OpensName k path c n) e h

last_or_before : (i j : ℕ) → j < i + 1 → (j < i) ⊎ (j ≡ i)
last_or_before i j h = by_cases (cases_lt j i)
  where
    by_cases : (j < i) ⊎ (i ≤ j) → (j < i) ⊎ (j ≡ i)
    by_cases (inl l) = inl l
    by_cases (inr g) = inr (omega (arith, h, g))

opens_name : (k : Keys) (path : List (List ℕ)) (stored a b : List ℕ) → a ≡ b → OpensName k path stored a → OpensName k path stored b
opens_name k path stored a b e h = subst (λ (n : List ℕ). OpensName k path stored n) e h

dec_of : {P : Type 0} (r : Bool) → Decides r P → Dec P
dec_of {P} true h = yes (h.0 refl)
dec_of {P} false h = no (λ p. false≢true (h.1 p))

pub dec_same : (xs ys : List ℕ) → Dec (xs ≡ ys)
dec_same xs ys = dec_of (bytes_eq xs ys) (bytes_eq-Decides xs ys)

dec_cons : (name first : List ℕ) (rest : List (List ℕ)) → Dec (name ≡ first) → Dec (IsOneOf name rest) → Dec (IsOneOf name (first ∷ rest))
dec_cons name first rest (yes e) d = yes (inl e)
dec_cons name first rest (no f) (yes h) = yes (inr h)
dec_cons name first rest (no f) (no g) = no neither
  where
    neither : IsOneOf name (first ∷ rest) → ⊥
    neither (inl e) = f e
    neither (inr h) = g h

pub dec_one : (name : List ℕ) (names : List (List ℕ)) → Dec (IsOneOf name names)
dec_one name [] = no (λ h. h)
dec_one name (first ∷ rest) = dec_cons name first rest (dec_same name first) (dec_one name rest)

pub none_good : (k : Keys) (path stored : List (List ℕ)) → AreGoodBefore k path stored 0
none_good k path stored = record { opens = λ index h. absurd (omega (arith, h)); apart = λ index h e. omega (arith, h) }

pub none_opened : (k : Keys) (path stored : List (List ℕ)) → AreOpened k path stored 0 []
none_opened k path stored = record { those = λ name. (λ h. absurd h, λ h. omega (arith, h.1)); counted = refl }

pub good_after : (k : Keys) (path stored : List (List ℕ)) (i : ℕ) → AreGoodBefore k path stored i → OpensAt k path stored i → (StandsEarlier stored i → ⊥) → AreGoodBefore k path stored (i + 1)
good_after k path stored i good h alone = record { opens = opens; apart = apart }
  where
    opens_by : (j : ℕ) → (j < i) ⊎ (j ≡ i) → OpensAt k path stored j
    opens_by j (inl l) = good.opens j l
    opens_by j (inr e) = subst (λ (n : ℕ). OpensAt k path stored n) (sym e) h

    opens : (j : ℕ) → j < i + 1 → OpensAt k path stored j
    opens j l = opens_by j (last_or_before i j l)

    apart_by : (j : ℕ) → (j < i) ⊎ (j ≡ i) → StandsEarlier stored j → ⊥
    apart_by j (inl l) e = good.apart j l e
    apart_by j (inr same) e = alone (subst (λ (n : ℕ). StandsEarlier stored n) same e)

    apart : (j : ℕ) → j < i + 1 → StandsEarlier stored j → ⊥
    apart j l e = apart_by j (last_or_before i j l) e

more_good : (k : Keys) (path stored old new : List (List ℕ)) (i : ℕ) → AreGoodBefore k path stored i → AreOpened k path stored i old → IsNew k path (name_at stored i) old new → AreGoodBefore k path stored (i + 1)
more_good k path stored old new i good opened h = good_after k path stored i good (h.name, h.opened) alone
  where
    alone : StandsEarlier stored i → ⊥
    alone e = h.unknown ((opened.those h.name).1 (e.0, e.1, opens_along k path _ _ h.name (sym e.2) h.opened))

pub more_opened : (k : Keys) (path stored old new : List (List ℕ)) (i : ℕ) → AreKeys k → AreOpened k path stored i old → IsNew k path (name_at stored i) old new → AreOpened k path stored (i + 1) new
more_opened k path stored old new i keys opened h =
    record { those = λ name. (λ one. from name ((h.names name).0 one), λ at. (h.names name).1 (to name at.0 (last_or_before i at.0 at.1) at.2)); counted = h.counted ∙ ap (λ (n : ℕ). n + 1) opened.counted }
  where
    from : (name : List ℕ) → (name ≡ h.name) ⊎ IsOneOf name old → (index : ℕ) × (index < i + 1) × OpensName k path (name_at stored index) name
    from name (inl e) = (i, omega arith, opens_name k path (name_at stored i) h.name name (sym e) h.opened)
    from name (inr one) = let at = (opened.those name).0 one in (at.0, omega (arith, at.1), at.2)

    to : (name : List ℕ) (j : ℕ) → (j < i) ⊎ (j ≡ i) → OpensName k path (name_at stored j) name → (name ≡ h.name) ⊎ IsOneOf name old
    to name j (inl l) x = inr ((opened.those name).1 (j, l, x))
    to name j (inr e) x = inl (one_name k path (name_at stored i) name h.name keys (opens_along k path _ _ name (ap (λ (n : ℕ). name_at stored n) e) x) h.opened)

-- a whole turn
abbrev pub AreOpenedSoFar : Keys → List (List ℕ) → List (List ℕ) → ℕ → List (List ℕ) → Type 0
AreOpenedSoFar k path stored place names = AreGoodBefore k path stored place × AreOpened k path stored place names

pub one_more : (k : Keys) (path stored old new : List (List ℕ)) (i : ℕ) (text : List ℕ) → AreKeys k → AreGoodBefore k path stored i → AreOpened k path stored i old → text ≡ name_at stored i → IsNew k path text old new → AreOpenedSoFar k path stored (i + 1) new
one_more k path stored old new i text keys good opened e h =
    let turn = subst (λ (c : List ℕ). IsNew k path c old new) e h in
    (more_good k path stored old new i good opened turn, more_opened k path stored old new i keys opened turn)

pub known_first : (k : Keys) (path stored old : List (List ℕ)) (i : ℕ) (text : List ℕ) → i < length stored → AreGoodBefore k path stored i → AreOpened k path stored i old → text ≡ name_at stored i → IsKnown k path text old → IsFirstDoubled k path stored i
known_first k path stored old i text within good opened e turn =
    let h = subst (λ (c : List ℕ). IsKnown k path c old) e turn in
    let at = (opened.those h.name).0 h.known in
    record { within = within; before = good; opens = (h.name, h.opened); earlier = (at.0, at.1, sym at.2.1 ∙ h.opened.1) }

pub unopened_first : (k : Keys) (path stored : List (List ℕ)) (i : ℕ) → i < length stored → AreGoodBefore k path stored i → ((name : List ℕ) → OpensName k path (name_at stored i) name → ⊥) → IsFirstUnopened k path stored i
unopened_first k path stored i within good f = record { within = within; before = good; closed = λ h. f h.0 h.1 }

pub is_new : (k : Keys) (path old new : List (List ℕ)) (stored name bytes : List ℕ) (added : Bool) → OpensName k path stored name → bytes ≡ name → added ≡ true → (IsTrue added ↔ (IsOneOf bytes old → ⊥)) → ((other : List ℕ) → IsOneOf other new ↔ ((other ≡ bytes) ⊎ IsOneOf other old)) → (IsTrue added → length new ≡ length old + 1) → IsNew k path stored old new
is_new k path old new stored name bytes added h e same is names count =
    record { name = bytes; opened = opens_name k path stored name bytes (sym e) h; unknown = is.0 same; names = names; counted = count same }

pub is_known : (k : Keys) (path old : List (List ℕ)) (stored name bytes : List ℕ) (added : Bool) → (IsTrue added ↔ (IsOneOf bytes old → ⊥)) → added ≡ false → OpensName k path stored name → bytes ≡ name → IsKnown k path stored old
is_known k path old stored name bytes added is same h e =
    record { name = bytes; opened = opens_name k path stored name bytes (sym e) h; known = by_test (dec_one bytes old) }
  where
    by_test : Dec (IsOneOf bytes old) → IsOneOf bytes old
    by_test (yes one) = one
    by_test (no other) = absurd (false≢true (sym same ∙ is.1 other))

pub plain_names : (k : Keys) (path stored names plain : List (List ℕ)) → AreGoodBefore k path stored (length stored) → AreOpened k path stored (length stored) names → plain ≡ names → IsStrictlySortedBy byte_order plain → ArePlainNames k path stored plain
plain_names k path stored names plain good opened e up =
    record { good = good; opened = subst (λ (l : List (List ℕ)). AreOpened k path stored (length stored) l) (sym e) opened; ascending = up }

pub ruleset opening = (none_good, none_opened, is_new, is_known, plain_names)
