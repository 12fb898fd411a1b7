-- Lists of sessions, of which no two have one number, and the sessions of connections in them.
use Rattle.std.proofs.Common.{◌≡◌, ℕ, ℤ, ◌==◌, Bool, true, false, cond, not, List, [], ◌∷◌, ◌++◌, map, Option, Some, None, All, int_eq, is_eq, Less, ◌<ℤ◌, refl, sym, ap, ap₂, ◌∙◌, subst, inl, inr}
use Rattle.std.specs.Cmp.{signed_Decides, int_eq_equiv, int_cmp_is}
use Rattle.std.specs.Option.{option_map, option_map_or, option_or}
use Rattle.std.proofs.lemmas.Bool.{cases_Bool, eqb-true, eq-eqb, both_ways}
use Rattle.std.proofs.lemmas.List.{map-id}
use Rattle.std.proofs.lemmas.Simd.{map-map}
use Rattle.std.proofs.lemmas.List.Elements.{All-cons, All-head, All-nil, All-tail}
use Rattle.tree_state.specs.State.{Session, has_connection, session_of, is_numbered, session_at, changed_session, change_session, heard_at, is_other_session, without_session, without_connection}
use Rattle.tree_state.specs.Sessions.{IsOnOne, AreBelow}

-- no two sessions have one number
unfoldable pub AreDistinct : List Session → Type 0
AreDistinct [] = Unit {0}
AreDistinct (x ∷ xs) = (session_at x.number xs ≡ None) × AreDistinct xs

-- a session is live and has this connection
pub record IsOn (xs : List Session) (c : ℕ) (k : ℤ) : Type 0 where
  pub session : Session
  pub live : session_at k xs ≡ Some session
  pub on : session.connection ≡ Some c

-- ---- the session with a number

pub same_number : (a b : ℤ) → int_eq a b ≡ true → a ≡ b
same_number a b h = (signed_Decides a b).0 h

pub own_number : (x : Session) → is_numbered x.number x ≡ true
unfolding is_numbered
own_number x = int_eq_equiv.refl x.number

pub is_number : (k : ℤ) (x : Session) → is_numbered k x ≡ true → x.number ≡ k
unfolding is_numbered
is_number k x h = same_number x.number k h

pub at_first : (k : ℤ) (x : Session) (xs : List Session) → is_numbered k x ≡ true → session_at k (x ∷ xs) ≡ Some x
unfolding session_at
at_first k x xs h = ap (λ (b : Bool). cond b (Some x) (session_at k xs)) h

pub at_others : (k : ℤ) (x : Session) (xs : List Session) → is_numbered k x ≡ false → session_at k (x ∷ xs) ≡ session_at k xs
unfolding session_at
at_others k x xs h = ap (λ (b : Bool). cond b (Some x) (session_at k xs)) h

pub none_live : (k : ℤ) (x : Session) → session_at k [] ≡ Some x → ⊥
unfolding session_at
none_live k x h = cc

pub number_of : (k : ℤ) (xs : List Session) (x : Session) → session_at k xs ≡ Some x → x.number ≡ k
number_of k [] x h = absurd (none_live k x h)
number_of k (y ∷ ys) x h = elim (cases_Bool (is_numbered k y)) [
  | inl numbered ↦ let e = at_first k y ys numbered in let n = is_number k y numbered in cc
  | inr other ↦ number_of k ys x (sym (at_others k y ys other) ∙ h)
]

-- a number that no session has
pub others_first : (k : ℤ) (x : Session) (xs : List Session) → session_at k (x ∷ xs) ≡ None → is_numbered k x ≡ false
others_first k x xs h = elim (cases_Bool (is_numbered k x)) [ inl numbered ↦ let e = at_first k x xs numbered in absurd cc | inr other ↦ other ]

pub others_next : (k : ℤ) (x : Session) (xs : List Session) → session_at k (x ∷ xs) ≡ None → session_at k xs ≡ None
others_next k x xs h = sym (at_others k x xs (others_first k x xs h)) ∙ h

-- the numbers of two sessions differ, where one is not live and the other is
pub live_apart : (k j : ℤ) (xs : List Session) (x : Session) → session_at k xs ≡ Some x → session_at j xs ≡ None → int_eq k j ≡ false
live_apart k j xs x h n = elim (cases_Bool (int_eq k j)) [ inl same ↦ let e = same_number k j same in absurd cc | inr other ↦ other ]

-- behind a session with another number the same is found
pub live_behind : (k : ℤ) (x y : Session) (xs : List Session) → session_at x.number xs ≡ None → session_at k xs ≡ Some y → session_at k (x ∷ xs) ≡ Some y
unfolding is_numbered
live_behind k x y xs n h = at_others k x xs (int_eq_equiv.symm x.number k ∙ live_apart k x.number xs y h n) ∙ h

-- what holds of each live session holds of all
pub all_live : (P : Session → Type 0) (xs : List Session) → AreDistinct xs → ((k : ℤ) (x : Session) → session_at k xs ≡ Some x → P x) → All P xs
unfolding AreDistinct
all_live P [] d h = All-nil P
all_live P (x ∷ xs) d h = All-cons P x xs (h x.number x (at_first x.number x xs (own_number x))) (all_live P xs d.1 (λ k y l. h k y (live_behind k x y xs d.0 l)))

-- ---- the session of a connection

pub has_its : (c : ℕ) (x : Session) → has_connection c x ≡ true → x.connection ≡ Some c
unfolding has_connection
has_its c x h = go x.connection h
  where
    go : (o : Option ℕ) → option_map_or (λ d. d == c) o false ≡ true → o ≡ Some c
    go None h = absurd cc
    go (Some d) h = ap Some (eqb-true d c h)

pub its_own : (c : ℕ) (x : Session) → x.connection ≡ Some c → has_connection c x ≡ true
unfolding has_connection
its_own c x h = ap (λ (o : Option ℕ). option_map_or (λ d. d == c) o false) h ∙ eq-eqb c c refl

pub on_first : (c : ℕ) (x : Session) (xs : List Session) → has_connection c x ≡ true → session_of c (x ∷ xs) ≡ Some x.number
unfolding session_of
on_first c x xs h = ap (λ (b : Bool). cond b (Some x.number) (session_of c xs)) h

pub on_others : (c : ℕ) (x : Session) (xs : List Session) → has_connection c x ≡ false → session_of c (x ∷ xs) ≡ session_of c xs
unfolding session_of
on_others c x xs h = ap (λ (b : Bool). cond b (Some x.number) (session_of c xs)) h

pub none_on : (c : ℕ) (k : ℤ) → session_of c [] ≡ Some k → ⊥
unfolding session_of
none_on c k h = cc

pub off_first : (c : ℕ) (x : Session) (xs : List Session) → session_of c (x ∷ xs) ≡ None → has_connection c x ≡ false
off_first c x xs h = elim (cases_Bool (has_connection c x)) [ inl on ↦ let e = on_first c x xs on in absurd cc | inr off ↦ off ]

pub off_next : (c : ℕ) (x : Session) (xs : List Session) → session_of c (x ∷ xs) ≡ None → session_of c xs ≡ None
off_next c x xs h = sym (on_others c x xs (off_first c x xs h)) ∙ h

-- the session of a connection is live and has it
pub is_on : (c : ℕ) (k : ℤ) (xs : List Session) → AreDistinct xs → session_of c xs ≡ Some k → IsOn xs c k
unfolding AreDistinct
is_on c k [] d h = absurd (none_on c k h)
is_on c k (x ∷ xs) d h = elim (cases_Bool (has_connection c x)) [
  | inl on ↦ let e = on_first c x xs on in let n : x.number ≡ k = cc in
      record { session = x; live = at_first k x xs (subst (λ (z : ℤ). is_numbered z x ≡ true) n (own_number x)); on = has_its c x on }
  | inr off ↦ let r = is_on c k xs d.1 (sym (on_others c x xs off) ∙ h) in
      record { session = r.session; live = live_behind k x r.session xs d.0 r.live; on = r.on }
]

-- a live session on a connection is not overlooked
pub not_off : (c : ℕ) (k : ℤ) (xs : List Session) (x : Session) → session_at k xs ≡ Some x → x.connection ≡ Some c → session_of c xs ≡ None → ⊥
not_off c k [] x h on off = none_live k x h
not_off c k (y ∷ ys) x h on off = elim (cases_Bool (is_numbered k y)) [
  | inl numbered ↦ let e = at_first k y ys numbered in let o = off_first c y ys off in let s : y.connection ≡ Some c = cc in both_ways _ o (its_own c y s)
  | inr other ↦ not_off c k ys x (sym (at_others k y ys other) ∙ h) on (off_next c y ys off)
]

-- what a map has of each connection is what the sessions say, and each connection has one
pub record AreTied (g : ℕ → Option ℤ) (xs : List Session) : Type 0 where
  pub same : (c : ℕ) → g c ≡ session_of c xs
  pub one : IsOnOne xs

pub tied : (g : ℕ → Option ℤ) (xs : List Session) → AreDistinct xs
    → ((c : ℕ) (k : ℤ) (x : Session) → session_at k xs ≡ Some x → x.connection ≡ Some c → g c ≡ Some k)
    → ((c : ℕ) (k : ℤ) → g c ≡ Some k → IsOn xs c k) → AreTied g xs
tied g xs d there back = record { same = same; one = λ c x k live on. sym (same c) ∙ there c k x live on }
  where
    go : (c : ℕ) (o : Option ℤ) → session_of c xs ≡ o → (p : Option ℤ) → g c ≡ p → g c ≡ session_of c xs
    go c (Some k) h p e = let r = is_on c k xs d h in there c k r.session r.live r.on ∙ sym h
    go c None h None e = e ∙ sym h
    go c None h (Some k) e = let r = back c k e in absurd (not_off c k xs r.session r.live r.on h)

    same : (c : ℕ) → g c ≡ session_of c xs
    same c = go c (session_of c xs) refl (g c) refl

-- ---- sessions that are changed

pub same_all : (f g : Session → Session) (xs : List Session) → All (λ x. f x ≡ g x) xs → map f xs ≡ map g xs
same_all f g [] h = refl
same_all f g (x ∷ xs) h = ap₂ (λ (y : Session) (ys : List Session). y ∷ ys) (All-head (λ x. f x ≡ g x) x xs h) (same_all f g xs (All-tail (λ x. f x ≡ g x) x xs h))

-- a change that keeps the numbers
pub at_changed : (f : Session → Session) → ((x : Session) → (f x).number ≡ x.number) → (k : ℤ) (xs : List Session)
    → session_at k (map f xs) ≡ option_map f (session_at k xs)
unfolding session_at is_numbered
at_changed f keeps k [] = refl
at_changed f keeps k (x ∷ xs) = ap (λ (z : ℤ). cond (int_eq z k) (Some (f x)) (session_at k (map f xs))) (keeps x) ∙ go (int_eq x.number k) (at_changed f keeps k xs)
  where
    go : (b : Bool) → session_at k (map f xs) ≡ option_map f (session_at k xs) → cond b (Some (f x)) (session_at k (map f xs)) ≡ option_map f (cond b (Some x) (session_at k xs))
    go true ih = refl
    go false ih = ih

-- there is none with the number
pub nothing_changed : (k : ℤ) (f : Session → Session) (xs : List Session) → session_at k xs ≡ None → change_session k f xs ≡ xs
unfolding change_session changed_session
nothing_changed k f [] h = refl
nothing_changed k f (x ∷ xs) h = ap₂ (λ (b : Bool) (ys : List Session). cond b (f x) x ∷ ys) (others_first k x xs h) (nothing_changed k f xs (others_next k x xs h))

pub nothing_lost : (c : ℕ) (xs : List Session) → session_of c xs ≡ None → map (without_connection c) xs ≡ xs
unfolding without_connection
nothing_lost c [] h = refl
nothing_lost c (x ∷ xs) h = ap₂ (λ (b : Bool) (ys : List Session). cond b (record x { connection = None }) x ∷ ys) (off_first c x xs h) (nothing_lost c xs (off_next c x xs h))

pub nothing_gone : (k : ℤ) (xs : List Session) → session_at k xs ≡ None → without_session k xs ≡ xs
unfolding without_session is_other_session
nothing_gone k [] h = refl
nothing_gone k (x ∷ xs) h = ap₂ (λ (b : Bool) (ys : List Session). cond (not b) (x ∷ ys) ys) (others_first k x xs h) (nothing_gone k xs (others_next k x xs h))

-- without a session the others are found
pub at_without : (k j : ℤ) (xs : List Session) → int_eq j k ≡ false → session_at j (without_session k xs) ≡ session_at j xs
unfolding session_at without_session is_other_session is_numbered
at_without k j [] h = refl
at_without k j (x ∷ xs) h = go (int_eq x.number k) refl (at_without k j xs h)
  where
    go : (b : Bool) → int_eq x.number k ≡ b → session_at j (without_session k xs) ≡ session_at j xs
        → session_at j (cond (not b) (x ∷ without_session k xs) (without_session k xs)) ≡ cond (int_eq x.number j) (Some x) (session_at j xs)
    go true e ih = ih ∙ sym (ap (λ (b : Bool). cond b (Some x) (session_at j xs)) (int_eq_equiv.symm x.number j ∙ (let n = same_number x.number k e in subst (λ (z : ℤ). int_eq j z ≡ false) (sym n) h)))
    go false e ih = ap (λ (o : Option Session). cond (int_eq x.number j) (Some x) o) ih

pub gone : (k : ℤ) (xs : List Session) → session_at k (without_session k xs) ≡ None
unfolding session_at without_session is_other_session
gone k [] = refl
gone k (x ∷ xs) = go (is_numbered k x) refl (gone k xs)
  where
    go : (b : Bool) → is_numbered k x ≡ b → session_at k (without_session k xs) ≡ None → session_at k (cond (not b) (x ∷ without_session k xs) (without_session k xs)) ≡ None
    go true e ih = ih
    go false e ih = at_others k x (without_session k xs) e ∙ ih

-- ---- one more session

pub at_more : (k : ℤ) (x : Session) (xs : List Session) → session_at k (xs ++ x ∷ []) ≡ option_or (session_at k xs) (session_at k (x ∷ []))
unfolding session_at
at_more k x [] = refl
at_more k x (y ∷ ys) = go (is_numbered k y) (at_more k x ys)
  where
    go : (b : Bool) → session_at k (ys ++ x ∷ []) ≡ option_or (session_at k ys) (session_at k (x ∷ []))
        → cond b (Some y) (session_at k (ys ++ x ∷ [])) ≡ option_or (cond b (Some y) (session_at k ys)) (session_at k (x ∷ []))
    go true ih = refl
    go false ih = ih

-- a number above all others is new
pub above_all : (k : ℤ) (xs : List Session) → AreBelow k xs → session_at k xs ≡ None
unfolding is_numbered session_at
above_all k [] h = refl
above_all k (x ∷ xs) h =
    at_others k x xs (other_than x.number (All-head (λ y. y.number <ℤ k) x xs h)) ∙ above_all k xs (All-tail (λ y. y.number <ℤ k) x xs h)
  where
    other_than : (z : ℤ) → z <ℤ k → int_eq z k ≡ false
    other_than z below = ap is_eq (sym (int_cmp_is z k Less below))

-- ---- a session that is heard, and then not

heard_one : (k now : ℤ) (x y : Session) → (is_numbered k y ≡ true → y ≡ x) → changed_session k (heard_at x.heard) (changed_session k (heard_at now) y) ≡ y
unfolding changed_session heard_at is_numbered
heard_one k now x y same = go (int_eq y.number k) refl
  where
    go : (b : Bool) → int_eq y.number k ≡ b → changed_session k (heard_at x.heard) (cond b (record y { heard = now }) y) ≡ y
    go true e =
        ap (λ (b : Bool). cond b (record y { heard = x.heard }) (record y { heard = now })) e
        ∙ ap (λ (z : ℤ). record y { heard = z }) (ap (λ (z : Session). z.heard) (sym (same e)))
    go false e = ap (λ (b : Bool). cond b (record y { heard = x.heard }) y) e

-- it was last heard when it was before
pub heard_back : (k now : ℤ) (xs : List Session) (x : Session) → AreDistinct xs → session_at k xs ≡ Some x
    → change_session k (heard_at x.heard) (change_session k (heard_at now) xs) ≡ xs
unfolding change_session
heard_back k now xs x distinct live =
    map-map (changed_session k (heard_at x.heard)) (changed_session k (heard_at now)) xs
    ∙ same_all (λ y. changed_session k (heard_at x.heard) (changed_session k (heard_at now) y)) (λ y. y) xs
    (all_live (λ y. changed_session k (heard_at x.heard) (changed_session k (heard_at now) y) ≡ y) xs distinct (λ j y h. heard_one k now x y (λ numbered.
    let at_k : j ≡ k = sym (number_of j xs y h) ∙ is_number k y numbered in
    some_same y x (sym h ∙ ap (λ (z : ℤ). session_at z xs) at_k ∙ live))))
    ∙ map-id xs
  where
    some_same : (a b : Session) → Some a ≡ Some b → a ≡ b
    some_same a b h = cc

-- ---- the session of a connection is live
