-- Where a session comes, moves, loses its connection or ends, what a map has of each connection stays what the sessions say.
use Rattle.std.proofs.Common.{◌≡◌, ℕ, ℤ, Bool, true, false, cond, List, [], ◌∷◌, ◌++◌, map, Option, Some, None, int_eq, nat_cmp, refl, sym, ap, ◌∙◌, subst, inl, inr}
use Rattle.std.specs.BTreeMap.{is_at}
use Rattle.std.specs.Cmp.{nat_cmp_total, eq_by_cmp_equiv, int_eq_equiv}
use Rattle.std.specs.Option.{option_map, option_or}
use Rattle.std.proofs.lemmas.Bool.{cases_Bool, both_ways}
use Rattle.std.proofs.lemmas.Map.Lookups.{exact_unsigned}
use Rattle.std.proofs.lemmas.Map.Views.{tells_apart}
use Rattle.tree_state.specs.State.{Session, has_connection, session_of, is_numbered, session_at, changed_session, change_session, moved_to, without_session, without_connection}
use Rattle.tree_state.specs.Sessions.{IsOnOne}
use Rattle.tree_state.proofs.SessionLists.{AreDistinct, IsOn, AreTied, tied, same_number, own_number, is_number, number_of, is_on, has_its, its_own, at_changed, at_without, gone, at_more, at_first, at_others, none_live}

-- the test of a connection for another
abbrev pub is_connection : ℕ → ℕ → Bool
is_connection c d = is_at (nat_cmp c) d

pub same_connection : (c d : ℕ) → is_connection c d ≡ true → c ≡ d
same_connection c d h = tells_apart exact_unsigned c d h

pub own_connection : (c : ℕ) → is_connection c c ≡ true
own_connection c = (eq_by_cmp_equiv nat_cmp_total).refl c

pub other_connection : (c d : ℕ) → is_connection c d ≡ false → Some c ≡ Some d → ⊥
other_connection c d h e =
    let s : c ≡ d = cc in
    both_ways _ h (subst (λ (z : ℕ). is_connection c z ≡ true) s (own_connection c))

-- a number that a session has not is none of its
pub other_session : (k j : ℤ) (xs : List Session) (x : Session) → session_at j xs ≡ Some x → is_numbered k x ≡ false → j ≡ k → ⊥
other_session k j xs x live h e =
    let n = number_of j xs x live ∙ e in
    both_ways _ h (subst (λ (z : ℤ). is_numbered z x ≡ true) n (own_number x))

from_map : (f : Session → Session) (o : Option Session) (y : Session) → option_map f o ≡ Some y → (x : Session) × (o ≡ Some x) × (f x ≡ y)
from_map f None y h = absurd cc
from_map f (Some x) y h = (x, refl, cc)

pub changed_yes : (k : ℤ) (f : Session → Session) (x : Session) → is_numbered k x ≡ true → changed_session k f x ≡ f x
unfolding changed_session
changed_yes k f x h = ap (λ (b : Bool). cond b (f x) x) h

pub changed_no : (k : ℤ) (f : Session → Session) (x : Session) → is_numbered k x ≡ false → changed_session k f x ≡ x
unfolding changed_session
changed_no k f x h = ap (λ (b : Bool). cond b (f x) x) h

changed_number : (k : ℤ) (f : Session → Session) → ((x : Session) → (f x).number ≡ x.number) → (x : Session) → (changed_session k f x).number ≡ x.number
changed_number k f keeps x = elim (cases_Bool (is_numbered k x)) [
  | inl numbered ↦ ap (λ (y : Session). y.number) (changed_yes k f x numbered) ∙ keeps x
  | inr other ↦ ap (λ (y : Session). y.number) (changed_no k f x other)
]

changed_connection : (k : ℤ) (f : Session → Session) → ((x : Session) → (f x).connection ≡ x.connection) → (x : Session) → (changed_session k f x).connection ≡ x.connection
changed_connection k f keeps x = elim (cases_Bool (is_numbered k x)) [
  | inl numbered ↦ ap (λ (y : Session). y.connection) (changed_yes k f x numbered) ∙ keeps x
  | inr other ↦ ap (λ (y : Session). y.connection) (changed_no k f x other)
]

-- the session with a number after a change
at_change : (k j : ℤ) (f : Session → Session) (xs : List Session) → ((x : Session) → (f x).number ≡ x.number)
    → session_at j (change_session k f xs) ≡ option_map (changed_session k f) (session_at j xs)
unfolding change_session
at_change k j f xs keeps = at_changed (changed_session k f) (changed_number k f keeps) j xs

-- the session is changed, and has the connection that it had
pub same_ties : (g : ℕ → Option ℤ) (k : ℤ) (f : Session → Session) (xs : List Session) → AreDistinct xs → AreDistinct (change_session k f xs)
    → ((x : Session) → (f x).number ≡ x.number) → ((x : Session) → (f x).connection ≡ x.connection)
    → AreTied g xs → AreTied g (change_session k f xs)
same_ties g k f xs d e numbers connections t = tied g (change_session k f xs) e
    (λ c j y live on.
    let r = from_map (changed_session k f) (session_at j xs) y (sym (at_change k j f xs numbers) ∙ live) in
    t.same c ∙ t.one c r.0 j r.1 (sym (changed_connection k f connections r.0) ∙ ap (λ (z : Session). z.connection) r.2 ∙ on))
    (λ c j h.
    let r = is_on c j xs d (sym (t.same c) ∙ h) in
    record {
      session = changed_session k f r.session;
      live = at_change k j f xs numbers ∙ ap (option_map (changed_session k f)) r.live;
      on = changed_connection k f connections r.session ∙ r.on;
    })

-- the session moves to a connection that had none, and the one that it had has none
pub moved_ties : (g : ℕ → Option ℤ) (k : ℤ) (d : ℕ) (timeout now : ℤ) (x : Session) (xs : List Session)
    → AreDistinct xs → AreDistinct (change_session k (moved_to d timeout now) xs) → IsOnOne xs
    → session_at k xs ≡ Some x → session_of d xs ≡ None
    → g d ≡ Some k → ((c : ℕ) → x.connection ≡ Some c → g c ≡ None)
    → ((c : ℕ) → is_connection d c ≡ false → (x.connection ≡ Some c → ⊥) → g c ≡ session_of c xs)
    → AreTied g (change_session k (moved_to d timeout now) xs)
unfolding moved_to
moved_ties g k d timeout now x xs before after one here free new old others = tied g (change_session k f xs) after there back
  where
    f : Session → Session
    f y = record y { timeout = timeout; heard = now; connection = Some d }

    there : (c : ℕ) (j : ℤ) (y : Session) → session_at j (change_session k f xs) ≡ Some y → y.connection ≡ Some c → g c ≡ Some j
    there c j y live on =
        let r = from_map (changed_session k f) (session_at j xs) y (sym (at_change k j f xs (λ _. refl)) ∙ live) in
        elim (cases_Bool (is_numbered k r.0)) [
          | inl numbered ↦
              let n : j ≡ k = sym (number_of j xs r.0 r.1) ∙ is_number k r.0 numbered in
              let m : f r.0 ≡ y = sym (changed_yes k f r.0 numbered) ∙ r.2 in
              let o : Some d ≡ Some c = ap (λ (z : Session). z.connection) m ∙ on in
              let s : d ≡ c = cc in
              ap g (sym s) ∙ new ∙ ap Some (sym n)
          | inr other ↦
              let m : r.0 ≡ y = sym (changed_no k f r.0 other) ∙ r.2 in
              let o : r.0.connection ≡ Some c = ap (λ (z : Session). z.connection) m ∙ on in
              let its = one c r.0 j r.1 o in
              let apart = other_session k j xs r.0 r.1 other in
              elim (cases_Bool (is_connection d c)) [
                | inl same ↦ let s = same_connection d c same in let n : session_of c xs ≡ None = subst (λ (z : ℕ). session_of z xs ≡ None) s free in absurd cc
                | inr else ↦ others c else (λ h. let i = one c x k here h in let n : j ≡ k = cc in apart n) ∙ its
              ]
        ]

    back : (c : ℕ) (j : ℤ) → g c ≡ Some j → IsOn (change_session k f xs) c j
    back c j h = elim (cases_Bool (is_connection d c)) [
      | inl same ↦
          let s = same_connection d c same in
          let n : k ≡ j = (let e = sym new ∙ ap g s ∙ h in cc) in
          record {
            session = f x;
            live = subst (λ (z : ℤ). session_at z (change_session k f xs) ≡ Some (f x)) n
                (at_change k k f xs (λ _. refl) ∙ ap (option_map (changed_session k f)) here ∙ ap Some (changed_yes k f x (subst (λ (z : ℤ). is_numbered z x ≡ true) (number_of k xs x here) (own_number x))));
            on = ap Some s;
          }
      | inr else ↦
          elim (cases_Bool (has_connection c x)) [
            | inl on ↦ let e = old c (has_its c x on) in absurd cc
            | inr off ↦
                let r = is_on c j xs before (sym (others c else (λ o. both_ways _ off (its_own c x o))) ∙ h) in
                elim (cases_Bool (is_numbered k r.session)) [
                  | inl numbered ↦
                      let n : j ≡ k = sym (number_of j xs r.session r.live) ∙ is_number k r.session numbered in
                      let l : session_at k xs ≡ Some r.session = subst (λ (z : ℤ). session_at z xs ≡ Some r.session) n r.live in
                      let o = r.on in
                      let i : x.connection ≡ Some c = cc in
                      absurd (both_ways _ off (its_own c x i))
                  | inr other ↦ record {
                    session = r.session;
                    live = at_change k j f xs (λ _. refl) ∙ ap (option_map (changed_session k f)) r.live ∙ ap Some (changed_no k f r.session other);
                    on = r.on;
                  }
                ]
          ]
    ]

-- a new session comes to a connection that had none
pub opened_ties : (g : ℕ → Option ℤ) (d : ℕ) (x : Session) (xs : List Session)
    → AreDistinct xs → AreDistinct (xs ++ x ∷ []) → IsOnOne xs
    → session_at x.number xs ≡ None → session_of d xs ≡ None → x.connection ≡ Some d
    → g d ≡ Some x.number → ((c : ℕ) → is_connection d c ≡ false → g c ≡ session_of c xs)
    → AreTied g (xs ++ x ∷ [])
opened_ties g d x xs before after one fresh free on new others = tied g (xs ++ x ∷ []) after there back
  where
    alone : (j : ℤ) (y : Session) → session_at j (x ∷ []) ≡ Some y → (x ≡ y) × (x.number ≡ j)
    alone j y h = elim (cases_Bool (is_numbered j x)) [
      | inl numbered ↦ (let e = at_first j x [] numbered in cc, is_number j x numbered)
      | inr other ↦ absurd (none_live j y (sym (at_others j x [] other) ∙ h))
    ]

    there_from : (c : ℕ) (j : ℤ) (y : Session) (o : Option Session) → session_at j xs ≡ o → option_or o (session_at j (x ∷ [])) ≡ Some y → y.connection ≡ Some c → g c ≡ Some j
    there_from c j y (Some z) h l k =
        let s : z ≡ y = cc in
        let its = one c z j h (ap (λ (u : Session). u.connection) s ∙ k) in
        elim (cases_Bool (is_connection d c)) [
          | inl same ↦ let e = same_connection d c same in let n : session_of c xs ≡ None = subst (λ (u : ℕ). session_of u xs ≡ None) e free in absurd cc
          | inr else ↦ others c else ∙ its
        ]
    there_from c j y None h l k =
        let r = alone j y l in
        let o : Some d ≡ Some c = sym on ∙ ap (λ (u : Session). u.connection) r.0 ∙ k in
        let s : d ≡ c = cc in
        ap g (sym s) ∙ new ∙ ap Some r.1

    there : (c : ℕ) (j : ℤ) (y : Session) → session_at j (xs ++ x ∷ []) ≡ Some y → y.connection ≡ Some c → g c ≡ Some j
    there c j y live k = there_from c j y (session_at j xs) refl (sym (at_more j x xs) ∙ live) k

    back : (c : ℕ) (j : ℤ) → g c ≡ Some j → IsOn (xs ++ x ∷ []) c j
    back c j h = elim (cases_Bool (is_connection d c)) [
      | inl same ↦
          let s = same_connection d c same in
          let n : x.number ≡ j = (let e = sym new ∙ ap g s ∙ h in cc) in
          record {
            session = x;
            live = subst (λ (z : ℤ). session_at z (xs ++ x ∷ []) ≡ Some x) n
                (at_more x.number x xs ∙ ap (λ (o : Option Session). option_or o (session_at x.number (x ∷ []))) fresh ∙ at_first x.number x [] (own_number x));
            on = on ∙ ap Some s;
          }
      | inr else ↦
          let r = is_on c j xs before (sym (others c else) ∙ h) in
          record {
            session = r.session;
            live = at_more j x xs ∙ ap (λ (o : Option Session). option_or o (session_at j (x ∷ []))) r.live;
            on = r.on;
          }
    ]

pub keeps_number : (c : ℕ) (x : Session) → (without_connection c x).number ≡ x.number
unfolding without_connection
keeps_number c x = go (has_connection c x)
  where
    go : (b : Bool) → (cond b (record x { connection = None }) x).number ≡ x.number
    go true = refl
    go false = refl

pub loses : (c : ℕ) (x : Session) → x.connection ≡ Some c → without_connection c x ≡ record x { connection = None }
unfolding without_connection
loses c x h = ap (λ (b : Bool). cond b (record x { connection = None }) x) (its_own c x h)

pub stays : (c : ℕ) (x : Session) → has_connection c x ≡ false → without_connection c x ≡ x
unfolding without_connection
stays c x h = ap (λ (b : Bool). cond b (record x { connection = None }) x) h

-- a connection is lost
pub lost_ties : (g : ℕ → Option ℤ) (d : ℕ) (xs : List Session)
    → AreDistinct xs → AreDistinct (map (without_connection d) xs) → IsOnOne xs
    → g d ≡ None → ((c : ℕ) → is_connection d c ≡ false → g c ≡ session_of c xs)
    → AreTied g (map (without_connection d) xs)
lost_ties g d xs before after one old others = tied g (map (without_connection d) xs) after there back
  where
    there : (c : ℕ) (j : ℤ) (y : Session) → session_at j (map (without_connection d) xs) ≡ Some y → y.connection ≡ Some c → g c ≡ Some j
    there c j y live on =
        let r = from_map (without_connection d) (session_at j xs) y (sym (at_changed (without_connection d) (keeps_number d) j xs) ∙ live) in
        elim (cases_Bool (has_connection d r.0)) [
          | inl has ↦
              let e = sym (loses d r.0 (has_its d r.0 has)) ∙ r.2 in
              let o : None ≡ Some c = ap (λ (u : Session). u.connection) e ∙ on in
              absurd cc
          | inr off ↦
              let e = sym (stays d r.0 off) ∙ r.2 in
              let o : r.0.connection ≡ Some c = ap (λ (u : Session). u.connection) e ∙ on in
              elim (cases_Bool (is_connection d c)) [
                | inl same ↦ absurd (both_ways _ off (its_own d r.0 (o ∙ ap Some (sym (same_connection d c same)))))
                | inr else ↦ others c else ∙ one c r.0 j r.1 o
              ]
        ]

    back : (c : ℕ) (j : ℤ) → g c ≡ Some j → IsOn (map (without_connection d) xs) c j
    back c j h = elim (cases_Bool (is_connection d c)) [
      | inl same ↦ let e : g c ≡ None = subst (λ (u : ℕ). g u ≡ None) (same_connection d c same) old in absurd cc
      | inr else ↦
          let r = is_on c j xs before (sym (others c else) ∙ h) in
          elim (cases_Bool (has_connection d r.session)) [
            | inl has ↦ absurd (other_connection d c else (sym (has_its d r.session has) ∙ r.on))
            | inr off ↦ record {
              session = r.session;
              live = at_changed (without_connection d) (keeps_number d) j xs ∙ ap (option_map (without_connection d)) r.live ∙ ap Some (stays d r.session off);
              on = r.on;
            }
          ]
    ]

-- a session ends, and its connection has none
pub ended_ties : (g : ℕ → Option ℤ) (k : ℤ) (x : Session) (xs : List Session)
    → AreDistinct xs → AreDistinct (without_session k xs) → IsOnOne xs → session_at k xs ≡ Some x
    → ((c : ℕ) → x.connection ≡ Some c → g c ≡ None)
    → ((c : ℕ) → (x.connection ≡ Some c → ⊥) → g c ≡ session_of c xs)
    → AreTied g (without_session k xs)
ended_ties g k x xs before after one here old others = tied g (without_session k xs) after there back
  where
    there : (c : ℕ) (j : ℤ) (y : Session) → session_at j (without_session k xs) ≡ Some y → y.connection ≡ Some c → g c ≡ Some j
    there c j y live on = elim (cases_Bool (int_eq j k)) [
      | inl same ↦ let n : session_at j (without_session k xs) ≡ None = subst (λ (z : ℤ). session_at z (without_session k xs) ≡ None) (sym (same_number j k same)) (gone k xs) in absurd cc
      | inr other ↦
          let its = one c y j (sym (at_without k j xs other) ∙ live) on in
          others c (λ h. let i = one c x k here h in let n : j ≡ k = cc in both_ways _ other (subst (λ (z : ℤ). int_eq j z ≡ true) n (int_eq_equiv.refl j))) ∙ its
    ]

    back : (c : ℕ) (j : ℤ) → g c ≡ Some j → IsOn (without_session k xs) c j
    back c j h = elim (cases_Bool (has_connection c x)) [
      | inl on ↦ let e = old c (has_its c x on) in absurd cc
      | inr off ↦
          let r = is_on c j xs before (sym (others c (λ o. both_ways _ off (its_own c x o))) ∙ h) in
          elim (cases_Bool (int_eq j k)) [
            | inl same ↦
                let l : session_at k xs ≡ Some r.session = subst (λ (z : ℤ). session_at z xs ≡ Some r.session) (same_number j k same) r.live in
                let o = r.on in
                let i : x.connection ≡ Some c = cc in
                absurd (both_ways _ off (its_own c x i))
            | inr other ↦ record { session = r.session; live = at_without k j xs other ∙ r.live; on = r.on }
          ]
    ]
