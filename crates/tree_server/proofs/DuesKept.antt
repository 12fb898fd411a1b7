-- The times at which sessions would be up, after a step; and that no two sessions have one number, and each is timely, as before it.
use Rattle.std.proofs.Common.{◌≡◌, ◌≢◌, ℕ, ℤ, pos, ◌+ℤ◌, ◌≤ℤ◌, Bool, true, false, cond, List, [], ◌∷◌, ◌++◌, map, Option, Some, None, All, int_eq, refl, sym, ap, ap₂, ◌∙◌, subst, inl, inr}
use Rattle.std.specs.Prelude.{Contains}
use Rattle.std.specs.Cmp.{int_eq_equiv}
use Rattle.std.specs.Option.{option_map, option_or}
use Rattle.std.proofs.lemmas.Bool.{cases_Bool, both_ways}
use Rattle.std.proofs.lemmas.List.Elements.{All-append, All-cons, All-filter, All-head, All-nil, All-tail}
use Rattle.tree_state.specs.declared.session.Given.{Given}
use Rattle.tree_state.specs.State.{Session, has_connection, is_numbered, session_at, changed_session, change_session, heard_at, moved_to, is_other_session, without_session, without_connection}
use Rattle.tree_state.specs.Step.{with_session, with_moved}
use Rattle.tree_state.proofs.SessionLists.{AreDistinct, same_number, own_number, is_number, at_first, at_others, none_live, number_of, others_first, others_next, at_changed, at_without, gone, at_more}
use Rattle.tree_state.proofs.SessionTies.{changed_yes, changed_no, keeps_number}
use Rattle.tree_server.specs.declared.dues.Due.{Due}
use Rattle.store_side.specs.Owed.{IsTime}
use Rattle.tree_server.specs.Times.{IsDue, AreDues, IsTimely, due_of, AddsDue, RemovesDue}

-- ---- changes that keep the numbers

changed_keeps : (k : ℤ) (f : Session → Session) → ((x : Session) → (f x).number ≡ x.number) → (x : Session)
    → (changed_session k f x).number ≡ x.number
changed_keeps k f keeps x = elim (cases_Bool (is_numbered k x)) [
  | inl numbered ↦ ap (λ (y : Session). y.number) (changed_yes k f x numbered) ∙ keeps x
  | inr other ↦ ap (λ (y : Session). y.number) (changed_no k f x other)
]

heard_keeps : (now : ℤ) (x : Session) → (heard_at now x).number ≡ x.number
unfolding heard_at
heard_keeps now x = refl

moved_keeps : (c : ℕ) (timeout now : ℤ) (x : Session) → (moved_to c timeout now x).number ≡ x.number
unfolding moved_to
moved_keeps c timeout now x = refl

apart : (j k : ℤ) → int_eq j k ≡ false → j ≡ k → ⊥
apart j k h e = both_ways (int_eq j k) h (ap (int_eq j) (sym e) ∙ int_eq_equiv.refl j)

numbered_at : (k : ℤ) (x : Session) → x.number ≡ k → is_numbered k x ≡ true
numbered_at k x e = subst (λ (z : ℤ). is_numbered z x ≡ true) e (own_number x)

other_at : (j k : ℤ) (x : Session) → x.number ≡ j → int_eq j k ≡ false → is_numbered k x ≡ false
unfolding is_numbered
other_at j k x e h = ap (λ (z : ℤ). int_eq z k) e ∙ h

-- the session that is changed
at_its : (k : ℤ) (f : Session → Session) (xs : List Session) (x : Session) → ((y : Session) → (f y).number ≡ y.number)
    → session_at k xs ≡ Some x → session_at k (change_session k f xs) ≡ Some (f x)
unfolding change_session
at_its k f xs x keeps live =
    at_changed (changed_session k f) (changed_keeps k f keeps) k xs ∙ ap (option_map (changed_session k f)) live
    ∙ ap Some (changed_yes k f x (numbered_at k x (number_of k xs x live)))

-- and the others
at_else : (k j : ℤ) (f : Session → Session) (xs : List Session) → ((y : Session) → (f y).number ≡ y.number) → int_eq j k ≡ false
    → session_at j (change_session k f xs) ≡ session_at j xs
unfolding change_session
at_else k j f xs keeps h = at_changed (changed_session k f) (changed_keeps k f keeps) j xs ∙ go (session_at j xs) refl
  where
    go : (o : Option Session) → session_at j xs ≡ o → option_map (changed_session k f) o ≡ o
    go None e = refl
    go (Some y) e = ap Some (changed_no k f y (other_at j k y (number_of j xs y e) h))

-- ---- the time of one session

pub same_due : (d e : Due) → d.at ≡ e.at → d.session ≡ e.session → d ≡ e
same_due d e h k = ap₂ {C = Due} (λ (a n : ℤ). record { at = a; session = n }) h k

pub due_is : (d : Due) (x : Session) → d.session ≡ x.number → d.at ≡ x.heard +ℤ x.timeout → d ≡ due_of x
unfolding due_of
due_is d x e h = same_due d (record { at = x.heard +ℤ x.timeout; session = x.number }) h e

its_time : (x y : Session) → x ≡ y → x.heard +ℤ x.timeout ≡ y.heard +ℤ y.timeout
its_time x y e = ap (λ (z : Session). z.heard +ℤ z.timeout) e

of_session : (x : Session) → (due_of x).session ≡ x.number
unfolding due_of
of_session x = refl

-- a time of the session with this number is the one of the session
pub its_due : (k : ℤ) (xs : List Session) (x : Session) (d : Due) → session_at k xs ≡ Some x → d.session ≡ k → IsDue xs d → d ≡ due_of x
its_due k xs x d live e h =
    let l : session_at k xs ≡ Some h.one = subst (λ (z : ℤ). session_at z xs ≡ Some h.one) e h.live in
    let s : h.one ≡ x = cc in
    due_is d x (e ∙ sym (number_of k xs x live)) (h.at ∙ its_time h.one x s)

-- a time of another session is another time
other_due : (k : ℤ) (xs : List Session) (x : Session) (d : Due) → session_at k xs ≡ Some x → int_eq d.session k ≡ false → d ≢ due_of x
other_due k xs x d live h e = apart d.session k h (ap (λ (z : Due). z.session) e ∙ of_session x ∙ number_of k xs x live)

due_as : (xs ys : List Session) (d : Due) → session_at d.session ys ≡ session_at d.session xs → IsDue xs d → IsDue ys d
due_as xs ys d e h = record { one = h.one; live = e ∙ h.live; at = h.at }

due_at : (ys : List Session) (k : ℤ) (y : Session) (d : Due) → session_at k ys ≡ Some y → d.session ≡ k → d.at ≡ y.heard +ℤ y.timeout
    → IsDue ys d
due_at ys k y d live e at = record { one = y; live = subst (λ (z : ℤ). session_at z ys ≡ Some y) (sym e) live; at = at }

-- ---- a session has another time

dues_changed : (k : ℤ) (f : Session → Session) (xs : List Session) (x : Session) (due : Due) (old mid new : List Due)
    → ((y : Session) → (f y).number ≡ y.number) → session_at k xs ≡ Some x → due.session ≡ k → due.at ≡ (f x).heard +ℤ (f x).timeout
    → AreDues old xs → AddsDue due old mid → RemovesDue (due_of x) mid new → (due_of x ≢ due) → AreDues new (change_session k f xs)
dues_changed k f xs x due old mid new keeps live its at dues adds removes differs d = (there, back)
  where
    ys : List Session
    ys = change_session k f xs

    here : session_at k ys ≡ Some (f x)
    here = at_its k f xs x keeps live

    there : Contains new d → IsDue ys d
    there h = let r = (removes d).0 h in elim ((adds d).0 r.1) [
      | inl same ↦ subst (λ (z : Due). IsDue ys z) (sym same) (due_at ys k (f x) due here its at)
      | inr was ↦ let i = (dues d).0 was in elim (cases_Bool (int_eq d.session k)) [
        | inl equal ↦ absurd (r.0 (its_due k xs x d live (same_number d.session k equal) i))
        | inr other ↦ due_as xs ys d (at_else k d.session f xs keeps other) i
      ]
    ]

    back : IsDue ys d → Contains new d
    back h = elim (cases_Bool (int_eq d.session k)) [
      | inl equal ↦
          let e = same_number d.session k equal in
          let l : session_at k ys ≡ Some h.one = subst (λ (z : ℤ). session_at z ys ≡ Some h.one) e h.live in
          let m = here in
          let s : h.one ≡ f x = cc in
          let same : d ≡ due = same_due d due (h.at ∙ its_time h.one (f x) s ∙ sym at) (e ∙ sym its) in
          (removes d).1 ((λ i. differs (sym i ∙ same)), (adds d).1 (inl same))
      | inr other ↦
          let was = (dues d).1 (due_as ys xs d (sym (at_else k d.session f xs keeps other)) h) in
          (removes d).1 (other_due k xs x d live other, (adds d).1 (inr was))
    ]

-- a session is heard at another time than before
pub dues_heard : (k now : ℤ) (xs : List Session) (x : Session) (old mid new : List Due) → AreDistinct xs → session_at k xs ≡ Some x
    → AreDues old xs → AddsDue (record { at = now +ℤ x.timeout; session = k }) old mid → RemovesDue (due_of x) mid new
    → (due_of x ≢ record { at = now +ℤ x.timeout; session = k }) → AreDues new (change_session k (heard_at now) xs)
unfolding heard_at
dues_heard k now xs x old mid new distinct live dues adds removes differs =
    dues_changed k (heard_at now) xs x (record { at = now +ℤ x.timeout; session = k }) old mid new
    (λ y. refl) live refl refl dues adds removes differs

-- a session moves, and has another time
pub dues_moved : (given : Given) (now : ℤ) (c : ℕ) (xs : List Session) (x : Session) (old mid new : List Due) → AreDistinct xs
    → session_at given.session xs ≡ Some x
    → AreDues old xs → AddsDue (record { at = now +ℤ given.timeout; session = given.session }) old mid → RemovesDue (due_of x) mid new
    → (due_of x ≢ record { at = now +ℤ given.timeout; session = given.session }) → AreDues new (with_moved given now c xs)
unfolding with_moved moved_to
dues_moved given now c xs x old mid new distinct live dues adds removes differs =
    dues_changed given.session (moved_to c given.timeout now) xs x
    (record { at = now +ℤ given.timeout; session = given.session }) old mid new
    (λ y. refl) live refl refl dues adds removes differs

-- ---- the times stay

dues_mapped : (f : Session → Session) (xs : List Session) (dues : List Due) → ((y : Session) → (f y).number ≡ y.number)
    → ((j : ℤ) (y : Session) → session_at j xs ≡ Some y → (f y).heard +ℤ (f y).timeout ≡ y.heard +ℤ y.timeout) → AreDues dues xs
    → AreDues dues (map f xs)
dues_mapped f xs dues keeps still h d = ((λ i. there ((h d).0 i)), λ i. (h d).1 (back i))
  where
    there : IsDue xs d → IsDue (map f xs) d
    there i = record {
      one = f i.one;
      live = at_changed f keeps d.session xs ∙ ap (option_map f) i.live;
      at = i.at ∙ sym (still d.session i.one i.live);
    }

    from : (o : Option Session) (z : Session) → session_at d.session xs ≡ o → option_map f o ≡ Some z → d.at ≡ z.heard +ℤ z.timeout
        → IsDue xs d
    from None z e l at = absurd cc
    from (Some y) z e l at =
        let s : z ≡ f y = cc in record { one = y; live = e; at = at ∙ its_time z (f y) s ∙ still d.session y e }

    back : IsDue (map f xs) d → IsDue xs d
    back i = from (session_at d.session xs) i.one refl (sym (at_changed f keeps d.session xs) ∙ i.live) i.at

-- a session is changed that has the time which it had
dues_same : (k : ℤ) (f : Session → Session) (xs : List Session) (x : Session) (dues : List Due) → ((y : Session) → (f y).number ≡ y.number)
    → session_at k xs ≡ Some x → (f x).heard +ℤ (f x).timeout ≡ x.heard +ℤ x.timeout → AreDues dues xs
    → AreDues dues (change_session k f xs)
unfolding change_session
dues_same k f xs x dues keeps live same h = dues_mapped (changed_session k f) xs dues (changed_keeps k f keeps) still h
  where
    still : (j : ℤ) (y : Session) → session_at j xs ≡ Some y
        → (changed_session k f y).heard +ℤ (changed_session k f y).timeout ≡ y.heard +ℤ y.timeout
    still j y l = elim (cases_Bool (is_numbered k y)) [
      | inl numbered ↦
          let e : j ≡ k = sym (number_of j xs y l) ∙ is_number k y numbered in
          let m : session_at k xs ≡ Some y = subst (λ (z : ℤ). session_at z xs ≡ Some y) e l in
          let s : x ≡ y = cc in
          its_time _ _ (changed_yes k f y numbered)
          ∙ subst (λ (u : Session). (f u).heard +ℤ (f u).timeout ≡ u.heard +ℤ u.timeout) s same
      | inr other ↦ its_time _ _ (changed_no k f y other)
    ]

-- a session is heard again at the time at which it was heard
pub dues_heard_again : (k now : ℤ) (xs : List Session) (x : Session) (old : List Due) → session_at k xs ≡ Some x → x.heard ≡ now
    → AreDues old xs → AreDues old (change_session k (heard_at now) xs)
unfolding heard_at
dues_heard_again k now xs x old live same dues =
    dues_same k (heard_at now) xs x old (λ y. refl) live (ap (λ (z : ℤ). z +ℤ x.timeout) (sym same)) dues

-- a session moves, and has the time which it had
pub dues_moved_same : (given : Given) (now : ℤ) (c : ℕ) (xs : List Session) (x : Session) (old : List Due)
    → session_at given.session xs ≡ Some x
    → due_of x ≡ record { at = now +ℤ given.timeout; session = given.session } → AreDues old xs → AreDues old (with_moved given now c xs)
unfolding with_moved moved_to due_of
dues_moved_same given now c xs x old live same dues =
    dues_same given.session (moved_to c given.timeout now) xs x old (λ y. refl) live (sym (ap (λ (d : Due). d.at) same)) dues

lost_still : (c : ℕ) (x : Session) → (without_connection c x).heard +ℤ (without_connection c x).timeout ≡ x.heard +ℤ x.timeout
unfolding without_connection
lost_still c x = go (has_connection c x)
  where
    go : (b : Bool)
        → (cond b (record x { connection = None }) x).heard +ℤ (cond b (record x { connection = None }) x).timeout ≡ x.heard +ℤ x.timeout
    go true = refl
    go false = refl

-- a connection is lost
pub dues_lost : (c : ℕ) (xs : List Session) (dues : List Due) → AreDistinct xs → AreDues dues xs
    → AreDues dues (map (without_connection c) xs)
dues_lost c xs dues distinct h = dues_mapped (without_connection c) xs dues (keeps_number c) (λ j y l. lost_still c y) h

-- ---- a session more, and one less

-- one is added with a new number
dues_more : (x : Session) (xs : List Session) (due : Due) (old new : List Due) → session_at x.number xs ≡ None → due.session ≡ x.number
    → due.at ≡ x.heard +ℤ x.timeout → AreDues old xs → AddsDue due old new → AreDues new (xs ++ x ∷ [])
dues_more x xs due old new fresh its at dues adds d = (there, back)
  where
    ys : List Session
    ys = xs ++ x ∷ []

    here : session_at x.number ys ≡ Some x
    here =
        at_more x.number x xs ∙ ap (λ (o : Option Session). option_or o (session_at x.number (x ∷ []))) fresh
        ∙ at_first x.number x [] (own_number x)

    there : Contains new d → IsDue ys d
    there h = elim ((adds d).0 h) [
      | inl same ↦ subst (λ (z : Due). IsDue ys z) (sym same) (due_at ys x.number x due here its at)
      | inr was ↦ let i = (dues d).0 was in
          let l = at_more d.session x xs ∙ ap (λ (o : Option Session). option_or o (session_at d.session (x ∷ []))) i.live in
          record { one = i.one; live = l; at = i.at }
    ]

    from : (o : Option Session) (y : Session) → session_at d.session xs ≡ o → option_or o (session_at d.session (x ∷ [])) ≡ Some y
        → d.at ≡ y.heard +ℤ y.timeout → Contains new d
    from (Some z) y e l i =
        let s : y ≡ z = cc in
        (adds d).1 (inr ((dues d).1 (record { one = z; live = e; at = i ∙ its_time y z s })))
    from None y e l i = elim (cases_Bool (is_numbered d.session x)) [
      | inl numbered ↦
          let f = at_first d.session x [] numbered in
          let s : y ≡ x = cc in
          (adds d).1 (inl (same_due d due (i ∙ its_time y x s ∙ sym at) (sym (is_number d.session x numbered) ∙ sym its)))
      | inr other ↦ absurd (none_live d.session y (sym (at_others d.session x [] other) ∙ l))
    ]

    back : IsDue ys d → Contains new d
    back h = from (session_at d.session xs) h.one refl (sym (at_more d.session x xs) ∙ h.live) h.at

-- a session is opened
pub dues_opened : (given : Given) (now : ℤ) (c : ℕ) (xs : List Session) (old new : List Due) → session_at given.session xs ≡ None
    → AreDues old xs
    → AddsDue (record { at = now +ℤ given.timeout; session = given.session }) old new → AreDues new (with_session given now c xs)
unfolding with_session
dues_opened given now c xs old new fresh dues adds =
    let x : Session =
    record { number = given.session; timeout = given.timeout; password = given.password; heard = now; connection = Some c } in
    dues_more x xs (record { at = now +ℤ given.timeout; session = given.session }) old new fresh refl refl dues adds

-- a session ends
pub dues_gone : (k : ℤ) (xs : List Session) (x : Session) (old new : List Due) → AreDistinct xs → session_at k xs ≡ Some x → AreDues old xs
    → RemovesDue (due_of x) old new → AreDues new (without_session k xs)
dues_gone k xs x old new distinct live dues removes d = (there, back)
  where
    ys : List Session
    ys = without_session k xs

    there : Contains new d → IsDue ys d
    there h = let r = (removes d).0 h in let i = (dues d).0 r.1 in elim (cases_Bool (int_eq d.session k)) [
      | inl equal ↦ absurd (r.0 (its_due k xs x d live (same_number d.session k equal) i))
      | inr other ↦ due_as xs ys d (at_without k d.session xs other) i
    ]

    back : IsDue ys d → Contains new d
    back h = elim (cases_Bool (int_eq d.session k)) [
      | inl equal ↦
          let l : session_at k ys ≡ Some h.one = subst (λ (z : ℤ). session_at z ys ≡ Some h.one) (same_number d.session k equal) h.live in
          let g = gone k xs in
          absurd cc
      | inr other ↦ (removes d).1 (other_due k xs x d live other, (dues d).1 (due_as ys xs d (sym (at_without k d.session xs other)) h))
    ]

-- ---- no two sessions have one number

distinct_mapped : (f : Session → Session) → ((y : Session) → (f y).number ≡ y.number) → (xs : List Session) → AreDistinct xs
    → AreDistinct (map f xs)
unfolding AreDistinct
distinct_mapped f keeps [] d = tt
distinct_mapped f keeps (x ∷ xs) d =
    let none = ap (λ (z : ℤ). session_at z (map f xs)) (keeps x) ∙ at_changed f keeps x.number xs ∙ ap (option_map f) d.0 in
    (none, distinct_mapped f keeps xs d.1)

distinct_more : (x : Session) (xs : List Session) → session_at x.number xs ≡ None → AreDistinct xs → AreDistinct (xs ++ x ∷ [])
unfolding AreDistinct session_at is_numbered
distinct_more x [] fresh d = (refl, tt)
distinct_more x (y ∷ ys) fresh d =
    let none = at_more y.number x ys ∙ ap (λ (o : Option Session). option_or o (session_at y.number (x ∷ []))) d.0
    ∙ at_others y.number x [] (int_eq_equiv.symm x.number y.number ∙ others_first x.number y ys fresh) in
    (none, distinct_more x ys (others_next x.number y ys fresh) d.1)

-- where a session with a new number is opened
pub distinct_opened : (given : Given) (now : ℤ) (c : ℕ) (xs : List Session) → session_at given.session xs ≡ None → AreDistinct xs
    → AreDistinct (with_session given now c xs)
unfolding with_session
distinct_opened given now c xs fresh d =
    let x : Session =
    record { number = given.session; timeout = given.timeout; password = given.password; heard = now; connection = Some c } in
    distinct_more x xs fresh d

-- where one moves
pub distinct_moved : (given : Given) (now : ℤ) (c : ℕ) (xs : List Session) → AreDistinct xs → AreDistinct (with_moved given now c xs)
unfolding with_moved change_session
distinct_moved given now c xs d =
    let f = moved_to c given.timeout now in
    distinct_mapped (changed_session given.session f) (changed_keeps given.session f (moved_keeps c given.timeout now)) xs d

-- where one is heard
pub distinct_heard : (k now : ℤ) (xs : List Session) → AreDistinct xs → AreDistinct (change_session k (heard_at now) xs)
unfolding change_session
distinct_heard k now xs d = distinct_mapped (changed_session k (heard_at now)) (changed_keeps k (heard_at now) (heard_keeps now)) xs d

-- where a connection is lost
pub distinct_lost : (c : ℕ) (xs : List Session) → AreDistinct xs → AreDistinct (map (without_connection c) xs)
distinct_lost c xs d = distinct_mapped (without_connection c) (keeps_number c) xs d

none_without : (k j : ℤ) (xs : List Session) → session_at j xs ≡ None → session_at j (without_session k xs) ≡ None
none_without k j xs h = elim (cases_Bool (int_eq j k)) [
  | inl equal ↦ subst (λ (z : ℤ). session_at z (without_session k xs) ≡ None) (sym (same_number j k equal)) (gone k xs)
  | inr other ↦ at_without k j xs other ∙ h
]

-- and where a session ends
pub distinct_gone : (k : ℤ) (xs : List Session) → AreDistinct xs → AreDistinct (without_session k xs)
unfolding AreDistinct without_session
distinct_gone k [] d = tt
distinct_gone k (x ∷ xs) d = go (is_other_session k x) (none_without k x.number xs d.0) (distinct_gone k xs d.1)
  where
    go : (b : Bool) → session_at x.number (without_session k xs) ≡ None → AreDistinct (without_session k xs)
        → AreDistinct (cond b (x ∷ without_session k xs) (without_session k xs))
    go true none ih = (none, ih)
    go false none ih = ih

-- ---- each session is timely

timely_mapped : (f : Session → Session) → ((y : Session) → IsTimely y → IsTimely (f y)) → (xs : List Session) → All IsTimely xs
    → All IsTimely (map f xs)
timely_mapped f keeps [] h = All-nil IsTimely
timely_mapped f keeps (x ∷ xs) h =
    All-cons IsTimely (f x) (map f xs) (keeps x (All-head IsTimely x xs h)) (timely_mapped f keeps xs (All-tail IsTimely x xs h))

timely_changed : (k : ℤ) (f : Session → Session) (xs : List Session) → ((y : Session) → IsTimely y → IsTimely (f y)) → All IsTimely xs
    → All IsTimely (change_session k f xs)
unfolding change_session
timely_changed k f xs keeps h = timely_mapped (changed_session k f) each xs h
  where
    each : (y : Session) → IsTimely y → IsTimely (changed_session k f y)
    each y t = elim (cases_Bool (is_numbered k y)) [
      | inl numbered ↦ subst IsTimely (sym (changed_yes k f y numbered)) (keeps y t)
      | inr other ↦ subst IsTimely (sym (changed_no k f y other)) t
    ]

-- where a session is opened
pub timely_opened : (given : Given) (now : ℤ) (c : ℕ) (xs : List Session) → IsTime now → pos 4000 ≤ℤ given.timeout
    → given.timeout ≤ℤ pos 40000 → All IsTimely xs → All IsTimely (with_session given now c xs)
unfolding with_session
timely_opened given now c xs time least most h =
    All-append IsTimely xs _ h (All-cons IsTimely _ [] (record { heard = time; least = least; most = most }) (All-nil IsTimely))

-- where one moves
pub timely_moved : (given : Given) (now : ℤ) (c : ℕ) (xs : List Session) → IsTime now → pos 4000 ≤ℤ given.timeout
    → given.timeout ≤ℤ pos 40000 → All IsTimely xs → All IsTimely (with_moved given now c xs)
unfolding with_moved moved_to
timely_moved given now c xs time least most h =
    timely_changed given.session (moved_to c given.timeout now) xs (λ y t. record { heard = time; least = least; most = most }) h

-- where one is heard
pub timely_heard : (k now : ℤ) (xs : List Session) → IsTime now → All IsTimely xs → All IsTimely (change_session k (heard_at now) xs)
unfolding heard_at
timely_heard k now xs time h = timely_changed k (heard_at now) xs (λ y t. record { heard = time; least = t.least; most = t.most }) h

-- where a connection is lost
pub timely_lost : (c : ℕ) (xs : List Session) → All IsTimely xs → All IsTimely (map (without_connection c) xs)
unfolding without_connection
timely_lost c xs h = timely_mapped (without_connection c) (λ y t. go y t (has_connection c y)) xs h
  where
    go : (y : Session) → IsTimely y → (b : Bool) → IsTimely (cond b (record y { connection = None }) y)
    go y t true = record { heard = t.heard; least = t.least; most = t.most }
    go y t false = t

-- and where a session ends
pub timely_gone : (k : ℤ) (xs : List Session) → All IsTimely xs → All IsTimely (without_session k xs)
unfolding without_session
timely_gone k xs h = All-filter (is_other_session k) IsTimely xs h

-- each that is live is timely
pub timely_at : (k : ℤ) (xs : List Session) (x : Session) → All IsTimely xs → session_at k xs ≡ Some x → IsTimely x
timely_at k [] x h live = absurd (none_live k x live)
timely_at k (y ∷ ys) x h live = elim (cases_Bool (is_numbered k y)) [
  | inl numbered ↦ let e = at_first k y ys numbered in let s : y ≡ x = cc in subst IsTimely s (All-head IsTimely y ys h)
  | inr other ↦ timely_at k ys x (All-tail IsTimely y ys h) (sym (at_others k y ys other) ∙ live)
]
