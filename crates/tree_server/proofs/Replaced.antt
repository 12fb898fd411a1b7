-- A time in the place of another one.
use Rattle.std.proofs.Common.{◌≡◌, ◌≢◌, ◌⊎◌, ℕ, ℤ, ◌+ℤ◌, Bool, true, false, List, [], ◌∷◌, ◌++◌, Option, Some, None, int_eq, refl, sym, ap, ap₂, ◌∙◌, subst, inl, inr}
use Rattle.std.specs.Prelude.{◌↔◌, ◌&&◌, not, Contains}
use Rattle.std.specs.Cmp.{int_eq_equiv}
use Rattle.std.proofs.lemmas.Bool.{cases_Bool, both_ways}
use Rattle.std.proofs.lemmas.List.Elements.{Contains-push, Contains-push_cases, Contains-append_left}
use Rattle.tree_state.specs.declared.session.Given.{Given}
use Rattle.tree_state.specs.State.{Session, session_at}
use Rattle.tree_state.specs.Step.{with_session, with_moved}
use Rattle.tree_state.proofs.SessionLists.{AreDistinct, same_number, number_of}
use Rattle.tree_server.specs.declared.dues.Due.{Due}
use Rattle.tree_server.specs.Offers.{Replaces, AreSame, Leaves, TakesBack}
use Rattle.tree_server.specs.Times.{IsDue, AreDues, due_of, AddsDue, RemovesDue}
use Rattle.tree_server.proofs.DuesKept.{dues_moved, dues_moved_same, dues_opened}

-- ---- two times are one, or not

same_due : (d e : Due) → d.at ≡ e.at → d.session ≡ e.session → d ≡ e
same_due d e h k = ap₂ {C = Due} (λ (a n : ℤ). record { at = a; session = n }) h k

unlike : (a b : ℤ) → int_eq a b ≡ false → a ≡ b → ⊥
unlike a b h e = both_ways (int_eq a b) h (ap (int_eq a) (sym e) ∙ int_eq_equiv.refl a)

pub due_or : (d e : Due) → (d ≡ e) ⊎ (d ≢ e)
due_or d e = elim (cases_Bool (int_eq d.at e.at)) [
  | inl at ↦ elim (cases_Bool (int_eq d.session e.session)) [
    | inl session ↦ inl (same_due d e (same_number d.at e.at at) (same_number d.session e.session session))
    | inr other ↦ inr (λ i. unlike d.session e.session other (ap (λ (x : Due). x.session) i))
  ]
  | inr other ↦ inr (λ i. unlike d.at e.at other (ap (λ (x : Due). x.at) i))
]

some_due : (d e : Due) → d ≢ e → Some d ≢ Some e
some_due d e h i = let s : d ≡ e = cc in h s

not_some : (d e : Due) → Some d ≢ Some e → d ≢ e
not_some d e h i = h (ap Some i)

none_due : (d : Due) → Some d ≢ None
none_due d i = absurd cc

-- the time of a live session
is_due : (k : ℤ) (xs : List Session) (x : Session) → session_at k xs ≡ Some x → IsDue xs (due_of x)
unfolding due_of
is_due k xs x live = record { one = x; live = subst (λ (n : ℤ). session_at n xs ≡ Some x) (sym (number_of k xs x live)) live; at = refl }

pub due_as_of : (d : Due) (x : Session) → d.session ≡ x.number → d.at ≡ x.heard +ℤ x.timeout → d ≡ due_of x
unfolding due_of
due_as_of d x e h = same_due d (record { at = x.heard +ℤ x.timeout; session = x.number }) h e

-- the times of the sessions have that of a live one, and no other of it
pub its_own : (k : ℤ) (xs : List Session) (x : Session) (d : Due) → session_at k xs ≡ Some x → d.session ≡ k → IsDue xs d → d ≡ due_of x
its_own k xs x d live e h =
    let l : session_at k xs ≡ Some h.one = subst (λ (n : ℤ). session_at n xs ≡ Some h.one) e h.live in
    let s : h.one ≡ x = cc in
    due_as_of d x (e ∙ sym (number_of k xs x live)) (h.at ∙ ap (λ (y : Session). y.heard +ℤ y.timeout) s)

-- ---- a new session

adds_due : (next : Due) (old new : List Due) → Replaces None next old new → AddsDue next old new
adds_due next old new h d = ((λ i. there ((h d).0 i)), λ i. (h d).1 (back i))
  where
    there : (d ≡ next) ⊎ ((Some d ≢ None) × Contains old d) → (d ≡ next) ⊎ Contains old d
    there (inl same) = inl same
    there (inr was) = inr was.1

    back : (d ≡ next) ⊎ Contains old d → (d ≡ next) ⊎ ((Some d ≢ None) × Contains old d)
    back (inl same) = inl same
    back (inr was) = inr (none_due d, was)

pub dues_new : (given : Given) (now : ℤ) (c : ℕ) (xs : List Session) (old new : List Due) → session_at given.session xs ≡ None
    → AreDues old xs → Replaces None (record { at = now +ℤ given.timeout; session = given.session }) old new
    → AreDues new (with_session given now c xs)
dues_new given now c xs old new fresh dues h =
    dues_opened given now c xs old new fresh dues (adds_due (record { at = now +ℤ given.timeout; session = given.session }) old new h)

-- no session that is new has a time
pub never_due : (given : Given) (next : Due) (xs : List Session) (old : List Due) → next.session ≡ given.session
    → session_at given.session xs ≡ None → AreDues old xs
    → Contains old next ↔ (None ≡ Some next)
never_due given next xs old its none dues = ((λ i. there ((dues next).0 i)), λ e. absurd cc)
  where
    there : IsDue xs next → None ≡ Some next
    there h =
        let l : session_at given.session xs ≡ Some h.one = subst (λ (n : ℤ). session_at n xs ≡ Some h.one) its h.live in
        absurd cc

-- ---- a live session moves

adds_last : (next : Due) (old : List Due) → AddsDue next old (old ++ next ∷ [])
adds_last next old d = (there, back)
  where
    turned : (Contains old d) ⊎ (next ≡ d) → (d ≡ next) ⊎ Contains old d
    turned (inl was) = inr was
    turned (inr same) = inl (sym same)

    there : Contains (old ++ next ∷ []) d → (d ≡ next) ⊎ Contains old d
    there i = turned (Contains-push_cases old next d i)

    back : (d ≡ next) ⊎ Contains old d → Contains (old ++ next ∷ []) d
    back (inl same) = subst (Contains (old ++ next ∷ [])) (sym same) (Contains-push old next)
    back (inr was) = Contains-append_left old (next ∷ []) d was

removes_other : (was next : Due) (old new : List Due) → was ≢ next → Replaces (Some was) next old new
    → RemovesDue was (old ++ next ∷ []) new
removes_other was next old new differs h d = ((λ i. there ((h d).0 i)), λ i. (h d).1 (back i.0 ((adds_last next old d).0 i.1)))
  where
    there : (d ≡ next) ⊎ ((Some d ≢ Some was) × Contains old d) → (d ≢ was) × Contains (old ++ next ∷ []) d
    there (inl same) = ((λ e. differs (sym e ∙ same)), (adds_last next old d).1 (inl same))
    there (inr i) = (not_some d was i.0, (adds_last next old d).1 (inr i.1))

    back : d ≢ was → (d ≡ next) ⊎ Contains old d → (d ≡ next) ⊎ ((Some d ≢ Some was) × Contains old d)
    back e (inl same) = inl same
    back e (inr i) = inr (some_due d was e, i)

same_again : (was next : Due) (old new : List Due) → was ≡ next → Contains old next → Replaces (Some was) next old new → AreSame old new
same_again was next old new same kept h d = ((λ i. there ((h d).0 i)), λ i. (h d).1 (back i (due_or d next)))
  where
    there : (d ≡ next) ⊎ ((Some d ≢ Some was) × Contains old d) → Contains old d
    there (inl e) = subst (Contains old) (sym e) kept
    there (inr i) = i.1

    back : Contains old d → (d ≡ next) ⊎ (d ≢ next) → (d ≡ next) ⊎ ((Some d ≢ Some was) × Contains old d)
    back i (inl e) = inl e
    back i (inr other) = inr (some_due d was (λ e. other (e ∙ same)), i)

as_due : (xs : List Session) (old new : List Due) → AreSame old new → AreDues old xs → AreDues new xs
as_due xs old new same dues d = ((λ i. (dues d).0 ((same d).0 i)), λ i. (same d).1 ((dues d).1 i))

-- the session has another time, or the one that it had
pub dues_put : (given : Given) (now : ℤ) (c : ℕ) (xs : List Session) (x : Session) (was : Due) (old new : List Due) → AreDistinct xs
    → session_at given.session xs ≡ Some x → was ≡ due_of x → AreDues old xs
    → Replaces (Some was) (record { at = now +ℤ given.timeout; session = given.session }) old new → AreDues new (with_moved given now c xs)
dues_put given now c xs x was old new distinct live is dues h = go (due_or was next)
  where
    next : Due
    next = record { at = now +ℤ given.timeout; session = given.session }

    kept : Contains old was
    kept = (dues was).1 (subst (IsDue xs) (sym is) (is_due given.session xs x live))

    go : (was ≡ next) ⊎ (was ≢ next) → AreDues new (with_moved given now c xs)
    go (inl same) =
        as_due (with_moved given now c xs) old new (same_again was next old new same (subst (Contains old) same kept) h)
        (dues_moved_same given now c xs x old live (sym is ∙ same) dues)
    go (inr other) =
        dues_moved given now c xs x old (old ++ next ∷ []) new distinct live dues (adds_last next old)
        (subst (λ (d : Due). RemovesDue d (old ++ next ∷ []) new) is (removes_other was next old new other h)) (λ e. other (is ∙ e))

-- a live session has one time
pub once_due : (given : Given) (next : Due) (xs : List Session) (x : Session) (was : Due) (old : List Due) → next.session ≡ given.session
    → session_at given.session xs ≡ Some x → was ≡ due_of x → AreDues old xs → Contains old next ↔ (Some was ≡ Some next)
once_due given next xs x was old its live is dues = (there, back)
  where
    there : Contains old next → Some was ≡ Some next
    there i = ap Some (is ∙ sym (its_own given.session xs x next live its ((dues next).0 i)))

    back : Some was ≡ Some next → Contains old next
    back e =
        let s : was ≡ next = cc in
        subst (Contains old) s ((dues was).1 (subst (IsDue xs) (sym is) (is_due given.session xs x live)))

-- ---- how a time is put in the place of another one

leave_other : (was next : Due) (old new : List Due) → was ≢ next → RemovesDue was old new → Leaves (Some was) next old new
leave_other was next old new differs h d = ((λ i. let j = (h d).0 i in (inr (some_due d was j.0), j.1)), λ i. (h d).1 (go i.0, i.1))
  where
    go : (d ≡ next) ⊎ (Some d ≢ Some was) → d ≢ was
    go (inl e) = λ f. differs (sym f ∙ e)
    go (inr other) = not_some d was other

back_none : (next : Due) (old new : List Due) → RemovesDue next old new → TakesBack None next old new
back_none next old new h d = ((λ i. let j = (h d).0 i in (inr j.0, j.1)), λ i. (h d).1 (go i.0, i.1))
  where
    go : (None ≡ Some next) ⊎ (d ≢ next) → d ≢ next
    go (inl e) = absurd cc
    go (inr other) = other

back_other : (was next : Due) (old new : List Due) → was ≢ next → RemovesDue next old new → TakesBack (Some was) next old new
back_other was next old new differs h d = ((λ i. let j = (h d).0 i in (inr j.0, j.1)), λ i. (h d).1 (go i.0, i.1))
  where
    go : (Some was ≡ Some next) ⊎ (d ≢ next) → d ≢ next
    go (inl e) = let s : was ≡ next = cc in absurd (differs s)
    go (inr other) = other

-- a test that the code does
unequal : (was next : Due) (r : Bool) → r ≡ not (int_eq was.at next.at && int_eq was.session next.session) → r ≡ true → was ≢ next
unequal was next r is test same =
    let a : int_eq was.at next.at ≡ true = ap (λ (d : Due). int_eq d.at next.at) same ∙ int_eq_equiv.refl next.at in
    let b : int_eq was.session next.session ≡ true = ap (λ (d : Due). int_eq d.session next.session) same
    ∙ int_eq_equiv.refl next.session in
    let e : r ≡ false = is ∙ ap₂ (λ (x y : Bool). not (x && y)) a b in
    absurd cc

pub left_other : (o : Option Due) (was next : Due) (r : Bool) (old new : List Due) → o ≡ Some was
    → r ≡ not (int_eq was.at next.at && int_eq was.session next.session)
    → r ≡ true → RemovesDue was old new → Leaves o next old new
left_other o was next r old new e is test h =
    subst (λ (x : Option Due). Leaves x next old new) (sym e) (leave_other was next old new (unequal was next r is test) h)

pub took_other : (o : Option Due) (was next : Due) (r : Bool) (old new : List Due) → o ≡ Some was
    → r ≡ not (int_eq was.at next.at && int_eq was.session next.session)
    → r ≡ true → RemovesDue next old new → TakesBack o next old new
took_other o was next r old new e is test h =
    subst (λ (x : Option Due). TakesBack x next old new) (sym e) (back_other was next old new (unequal was next r is test) h)

pub took_none : (o : Option Due) (next : Due) (old new : List Due) → o ≡ None → RemovesDue next old new → TakesBack o next old new
took_none o next old new e h = subst (λ (x : Option Due). TakesBack x next old new) (sym e) (back_none next old new h)

-- a time is added, and the one of before taken out
replaced : (was : Option Due) (next : Due) (old mid new : List Due) → AddsDue next old mid → Leaves was next mid new
    → Replaces was next old new
replaced was next old mid new adds leaves d = ((λ i. there ((leaves d).0 i)), λ i. (leaves d).1 (back i))
  where
    there : ((d ≡ next) ⊎ (Some d ≢ was)) × Contains mid d → (d ≡ next) ⊎ ((Some d ≢ was) × Contains old d)
    there i = elim i.0 [
      | inl same ↦ inl same
      | inr other ↦ elim ((adds d).0 i.1) [ inl same ↦ inl same | inr was_in ↦ inr (other, was_in) ]
    ]

    back : (d ≡ next) ⊎ ((Some d ≢ was) × Contains old d) → ((d ≡ next) ⊎ (Some d ≢ was)) × Contains mid d
    back (inl same) = (inl same, (adds d).1 (inl same))
    back (inr i) = (inr i.0, (adds d).1 (inr i.1))

-- a time is added, and taken out again
taken_back : (was : Option Due) (next : Due) (old mid new : List Due) → AddsDue next old mid → TakesBack was next mid new
    → Contains old next ↔ (was ≡ Some next) → AreSame old new
taken_back was next old mid new adds takes before d = ((λ i. there ((takes d).0 i)), λ i. (takes d).1 (back i (due_or d next)))
  where
    there : ((was ≡ Some next) ⊎ (d ≢ next)) × Contains mid d → Contains old d
    there i = elim ((adds d).0 i.1) [
      | inr was_in ↦ was_in
      | inl same ↦ elim i.0 [ inl known ↦ subst (Contains old) (sym same) (before.1 known) | inr other ↦ absurd (other same) ]
    ]

    back : Contains old d → (d ≡ next) ⊎ (d ≢ next) → ((was ≡ Some next) ⊎ (d ≢ next)) × Contains mid d
    back i (inl same) = (inl (before.0 (subst (Contains old) same i)), (adds d).1 (inr i))
    back i (inr other) = (inr other, (adds d).1 (inr i))

-- the same where the code has the next time by its parts
pub replaced_by : (was : Option Due) (due : Due) (at session : ℤ) (old mid new : List Due) → due.session ≡ session → due.at ≡ at
    → AddsDue due old mid → Leaves was due mid new
    → Replaces was (record { at = at; session = session }) old new
replaced_by was due at session old mid new e f adds leaves =
    subst (λ (d : Due). Replaces was d old new) (same_due due (record { at = at; session = session }) f e)
    (replaced was due old mid new adds leaves)

pub taken_back_by : (was : Option Due) (due : Due) (at session : ℤ) (old mid new : List Due) → due.session ≡ session → due.at ≡ at
    → AddsDue due old mid → TakesBack was due mid new
    → Contains old (record { at = at; session = session }) ↔ (was ≡ Some (record { at = at; session = session })) → AreSame old new
taken_back_by was due at session old mid new e f adds takes before =
    let next : Due = record { at = at; session = session } in
    taken_back was due old mid new adds takes
    (subst (λ (d : Due). Contains old d ↔ (was ≡ Some d)) (sym (same_due due next f e)) before)
