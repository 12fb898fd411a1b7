-- What a store owes its sessions after a step.
use Rattle.std.proofs.Common.{◌≡◌, ℕ, ℤ, ◌+◌, ◌≤◌, Bool, true, false, cond, not, List, [], ◌∷◌, ◌++◌, map, Option, Some, None, refl, sym, ap, ap₂, ◌∙◌, subst, inl, inr, arith}
use Rattle.std.specs.Option.{option_map_or}
use Rattle.std.proofs.lemmas.Bool.{cases_Bool}
use Rattle.tree_state.specs.declared.session.Given.{Given}
use Rattle.tree_state.specs.State.{Session, has_connection, session_of, is_numbered, session_at, changed_session, change_session, heard_at, moved_to, is_other_session, without_session, without_connection}
use Rattle.tree_state.specs.Step.{with_session, with_moved}
use Rattle.tree_state.specs.Sessions.{IsOnOne}
use Rattle.tree_state.proofs.SessionLists.{AreDistinct, is_number, at_first, at_others, none_live, live_behind, has_its, on_first, on_others, none_on, is_on, nothing_changed, nothing_lost, nothing_gone}
use Rattle.tree_state.proofs.SessionTies.{changed_yes, changed_no, stays, loses}
use Rattle.store_side.specs.Owed.{reserve_of, reserves}

-- ---- of one session

-- one that has a connection
pub reserve_on : (x : Session) (c : ℕ) → x.connection ≡ Some c → reserve_of x ≡ 2
unfolding reserve_of
reserve_on x c h = ap (λ (o : Option ℕ). option_map_or (λ d. 2) o 1) h

-- one that has none
pub reserve_off : (x : Session) → x.connection ≡ None → reserve_of x ≡ 1
unfolding reserve_of
reserve_off x h = ap (λ (o : Option ℕ). option_map_or (λ d. 2) o 1) h

reserve_same : (x y : Session) → x.connection ≡ y.connection → reserve_of x ≡ reserve_of y
unfolding reserve_of
reserve_same x y h = ap (λ (o : Option ℕ). option_map_or (λ d. 2) o 1) h

-- ---- of lists

none_owed : reserves [] ≡ 0
unfolding reserves
none_owed = refl

one_more : (x : Session) (xs : List Session) → reserves (x ∷ xs) ≡ reserve_of x + reserves xs
unfolding reserves
one_more x xs = refl

owed_last : (x : Session) (xs : List Session) → reserves (xs ++ x ∷ []) ≡ reserves xs + reserve_of x
owed_last x [] = let e = one_more x [] in let f = none_owed in omega arith
owed_last x (y ∷ ys) = let e = one_more y (ys ++ x ∷ []) in let f = one_more y ys in let ih = owed_last x ys in omega arith

-- a session is changed
changed_first : (k : ℤ) (f : Session → Session) (x : Session) (xs : List Session)
    → change_session k f (x ∷ xs) ≡ changed_session k f x ∷ change_session k f xs
unfolding change_session
changed_first k f x xs = refl

same_head : (k : ℤ) (x y : Session) (xs : List Session) → session_at k (y ∷ xs) ≡ Some x → is_numbered k y ≡ true → y ≡ x
same_head k x y xs h numbered = let e = at_first k y xs numbered in cc

none_else : (k : ℤ) (y : Session) (xs : List Session) → AreDistinct (y ∷ xs) → is_numbered k y ≡ true → session_at k xs ≡ None
unfolding AreDistinct
none_else k y xs d numbered = subst (λ (z : ℤ). session_at z xs ≡ None) (is_number k y numbered) d.0

distinct_rest : (y : Session) (xs : List Session) → AreDistinct (y ∷ xs) → AreDistinct xs
unfolding AreDistinct
distinct_rest y xs d = d.1

reserves_changed : (k : ℤ) (f : Session → Session) (xs : List Session) (x : Session) → AreDistinct xs → session_at k xs ≡ Some x
    → reserves (change_session k f xs) + reserve_of x ≡ reserves xs + reserve_of (f x)
reserves_changed k f [] x d h = absurd (none_live k x h)
reserves_changed k f (y ∷ ys) x d h = elim (cases_Bool (is_numbered k y)) [
  | inl numbered ↦
      let is = same_head k x y ys h numbered in
      let new : change_session k f (y ∷ ys) ≡ f y ∷ ys =
      changed_first k f y ys
      ∙ ap₂ (λ (z : Session) (zs : List Session). z ∷ zs) (changed_yes k f y numbered)
      (nothing_changed k f ys (none_else k y ys d numbered)) in
      let a = ap reserves new ∙ one_more (f y) ys in
      let b = one_more y ys in
      let e = ap reserve_of is in
      let g = ap (λ (z : Session). reserve_of (f z)) is in
      omega arith
  | inr other ↦
      let new : change_session k f (y ∷ ys) ≡ y ∷ change_session k f ys =
      changed_first k f y ys ∙ ap (λ (z : Session). z ∷ change_session k f ys) (changed_no k f y other) in
      let a = ap reserves new ∙ one_more y (change_session k f ys) in
      let b = one_more y ys in
      let ih = reserves_changed k f ys x (distinct_rest y ys d) (sym (at_others k y ys other) ∙ h) in
      omega arith
]

-- a session is opened
pub reserves_opened : (given : Given) (now : ℤ) (c : ℕ) (xs : List Session) → reserves (with_session given now c xs) ≡ reserves xs + 2
unfolding with_session
reserves_opened given now c xs =
    let x : Session =
    record { number = given.session; timeout = given.timeout; password = given.password; heard = now; connection = Some c } in
    owed_last x xs ∙ ap (λ (n : ℕ). reserves xs + n) (reserve_on x c refl)

heard_owed : (k now : ℤ) (x : Session) → reserve_of (changed_session k (heard_at now) x) ≡ reserve_of x
unfolding heard_at
heard_owed k now x = elim (cases_Bool (is_numbered k x)) [
  | inl numbered ↦ ap reserve_of (changed_yes k (heard_at now) x numbered) ∙ reserve_same (record x { heard = now }) x refl
  | inr other ↦ ap reserve_of (changed_no k (heard_at now) x other)
]

nothing_heard : (k now : ℤ) → reserves (change_session k (heard_at now) []) ≡ reserves []
unfolding change_session
nothing_heard k now = refl

-- a session is heard
pub reserves_heard : (k now : ℤ) (xs : List Session) → reserves (change_session k (heard_at now) xs) ≡ reserves xs
reserves_heard k now [] = nothing_heard k now
reserves_heard k now (x ∷ xs) =
    ap reserves (changed_first k (heard_at now) x xs) ∙ one_more (changed_session k (heard_at now) x) (change_session k (heard_at now) xs)
    ∙ ap₂ (λ (m n : ℕ). m + n) (heard_owed k now x) (reserves_heard k now xs) ∙ sym (one_more x xs)

-- a session moves that had no connection
pub reserves_moved : (given : Given) (now : ℤ) (c : ℕ) (xs : List Session) (x : Session) → AreDistinct xs
    → session_at given.session xs ≡ Some x → x.connection ≡ None → reserves (with_moved given now c xs) ≡ reserves xs + 1
unfolding with_moved moved_to
reserves_moved given now c xs x d live off =
    let h = reserves_changed given.session (moved_to c given.timeout now) xs x d live in
    let a = reserve_off x off in
    let b : reserve_of (moved_to c given.timeout now x) ≡ 2 = reserve_on (moved_to c given.timeout now x) c refl in
    omega arith

-- no other session has the connection of the first
off_rest : (c : ℕ) (y : Session) (xs : List Session) → AreDistinct (y ∷ xs) → IsOnOne (y ∷ xs) → has_connection c y ≡ true
    → session_of c xs ≡ None
unfolding AreDistinct
off_rest c y xs d one on = go (session_of c xs) refl
  where
    go : (o : Option ℤ) → session_of c xs ≡ o → session_of c xs ≡ None
    go None e = e
    go (Some j) e =
        let r = is_on c j xs d.1 e in
        let i = one c r.session j (live_behind j y r.session xs d.0 r.live) r.on in
        let f = on_first c y xs on in
        let n : j ≡ y.number = cc in
        let l : session_at y.number xs ≡ Some r.session = subst (λ (z : ℤ). session_at z xs ≡ Some r.session) n r.live in
        let none = d.0 in
        absurd cc

-- nor is there a connection that two of the others have
one_rest : (y : Session) (xs : List Session) → AreDistinct (y ∷ xs) → IsOnOne (y ∷ xs) → IsOnOne xs
unfolding AreDistinct
one_rest y xs d one c x j live on =
    let i = one c x j (live_behind j y x xs d.0 live) on in
    elim (cases_Bool (has_connection c y)) [
      | inl has ↦
          let f = on_first c y xs has in
          let n : j ≡ y.number = cc in
          let l : session_at y.number xs ≡ Some x = subst (λ (z : ℤ). session_at z xs ≡ Some x) n live in
          let none = d.0 in
          absurd cc
      | inr off ↦ sym (on_others c y xs off) ∙ i
    ]

-- a connection is lost
pub reserves_lost : (c : ℕ) (k : ℤ) (xs : List Session) → AreDistinct xs → IsOnOne xs → session_of c xs ≡ Some k
    → reserves (map (without_connection c) xs) + 1 ≡ reserves xs
reserves_lost c k [] d one h = absurd (none_on c k h)
reserves_lost c k (y ∷ ys) d one h = elim (cases_Bool (has_connection c y)) [
  | inl has ↦
      let on = has_its c y has in
      let off : Session = record y { connection = None } in
      let new : map (without_connection c) (y ∷ ys) ≡ off ∷ ys =
      ap₂ (λ (z : Session) (zs : List Session). z ∷ zs) (loses c y on) (nothing_lost c ys (off_rest c y ys d one has)) in
      let a = ap reserves new ∙ one_more off ys in
      let b = one_more y ys in
      let e = reserve_on y c on in
      let g : reserve_of off ≡ 1 = reserve_off off refl in
      omega arith
  | inr off ↦
      let new : map (without_connection c) (y ∷ ys) ≡ y ∷ map (without_connection c) ys =
      ap (λ (z : Session). z ∷ map (without_connection c) ys) (stays c y off) in
      let a = ap reserves new ∙ one_more y (map (without_connection c) ys) in
      let b = one_more y ys in
      let ih = reserves_lost c k ys (distinct_rest y ys d) (one_rest y ys d one) (sym (on_others c y ys off) ∙ h) in
      omega arith
]

gone_first : (k : ℤ) (y : Session) (ys : List Session) → is_numbered k y ≡ true → without_session k (y ∷ ys) ≡ without_session k ys
unfolding without_session is_other_session
gone_first k y ys h = ap (λ (b : Bool). cond (not b) (y ∷ without_session k ys) (without_session k ys)) h

gone_others : (k : ℤ) (y : Session) (ys : List Session) → is_numbered k y ≡ false → without_session k (y ∷ ys) ≡ y ∷ without_session k ys
unfolding without_session is_other_session
gone_others k y ys h = ap (λ (b : Bool). cond (not b) (y ∷ without_session k ys) (without_session k ys)) h

-- a session ends
pub reserves_gone : (k : ℤ) (xs : List Session) (x : Session) → AreDistinct xs → session_at k xs ≡ Some x
    → reserves (without_session k xs) + reserve_of x ≡ reserves xs
reserves_gone k [] x d h = absurd (none_live k x h)
reserves_gone k (y ∷ ys) x d h = elim (cases_Bool (is_numbered k y)) [
  | inl numbered ↦
      let e = ap reserve_of (same_head k x y ys h numbered) in
      let a = ap reserves (gone_first k y ys numbered ∙ nothing_gone k ys (none_else k y ys d numbered)) in
      let b = one_more y ys in
      omega arith
  | inr other ↦
      let a = ap reserves (gone_others k y ys other) ∙ one_more y (without_session k ys) in
      let b = one_more y ys in
      let ih = reserves_gone k ys x (distinct_rest y ys d) (sym (at_others k y ys other) ∙ h) in
      omega arith
]

-- what is owed one of them is owed all
pub reserves_live : (k : ℤ) (xs : List Session) (x : Session) → session_at k xs ≡ Some x → reserve_of x ≤ reserves xs
reserves_live k [] x h = absurd (none_live k x h)
reserves_live k (y ∷ ys) x h = elim (cases_Bool (is_numbered k y)) [
  | inl numbered ↦ let e = ap reserve_of (same_head k x y ys h numbered) in let b = one_more y ys in omega arith
  | inr other ↦ let b = one_more y ys in let ih = reserves_live k ys x (sym (at_others k y ys other) ∙ h) in omega arith
]
