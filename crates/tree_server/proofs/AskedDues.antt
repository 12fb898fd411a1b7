-- The times at which the sessions would be up, where one of them sends a request.
use Rattle.std.proofs.Common.{◌≡◌, ℤ, ◌+ℤ◌, List, Some, All, refl, sym, ap, ◌∙◌, subst, inl, inr, arith}
use Rattle.std.specs.Prelude.{Contains}
use Rattle.std.specs.Option.{option_map}
use Rattle.std.proofs.lemmas.Int.{ints}
use Rattle.tree_state.specs.declared.session.LiveSession.{LiveSession}
use Rattle.tree_state.specs.Sessions.{live_of}
use Rattle.tree_state.specs.State.{Session, session_at, change_session, heard_at}
use Rattle.tree_state.proofs.SessionLists.{AreDistinct, number_of}
use Rattle.store_side.specs.Owed.{IsTime}
use Rattle.tree_server.specs.declared.dues.Due.{Due}
use Rattle.tree_server.specs.Times.{IsDue, AreDues, IsTimely, due_of, AddsDue, LeavesDue}
use Rattle.tree_server.proofs.DuesKept.{dues_heard, dues_heard_again, its_due, due_is, same_due, timely_at}

-- ---- what is read of a session that is live

same_live : (x : LiveSession) (y : Session) → Some x ≡ Some (live_of y) → (x.heard ≡ y.heard) × (x.timeout ≡ y.timeout)
unfolding live_of
same_live x y e = (cc, cc)

shown : (k : ℤ) (xs : List Session) (x : Session) (live : LiveSession) → session_at k xs ≡ Some x
    → Some live ≡ option_map live_of (session_at k xs)
    → (live.heard ≡ x.heard) × (live.timeout ≡ x.timeout)
shown k xs x live h e = same_live live x (e ∙ ap (option_map live_of) h)

-- its time
pub its_time : (k : ℤ) (xs : List Session) (x : Session) (live : LiveSession) (due : Due) → All IsTimely xs → session_at k xs ≡ Some x
    → Some live ≡ option_map live_of (session_at k xs) → due.session ≡ k → (IsTime live.heard → due.at ≡ live.heard +ℤ live.timeout)
    → due ≡ due_of x
its_time k xs x live due timely h e its at =
    let l = shown k xs x live h e in
    let t = (timely_at k xs x timely h).heard in
    let a = at (subst IsTime (sym l.0) t) in
    let p = l.0 in
    let q = l.1 in
    due_is due x (its ∙ sym (number_of k xs x h)) cc

-- and the one that it has once it is heard
pub next_time : (k now : ℤ) (xs : List Session) (x : Session) (live : LiveSession) (due : Due) → IsTime now → session_at k xs ≡ Some x
    → Some live ≡ option_map live_of (session_at k xs) → due.session ≡ k → (IsTime now → due.at ≡ now +ℤ live.timeout)
    → due ≡ record { at = now +ℤ x.timeout; session = k }
next_time k now xs x live due time h e its at =
    let l = shown k xs x live h e in
    same_due due (record { at = now +ℤ x.timeout; session = k }) (at time ∙ ap (λ (z : ℤ). now +ℤ z) l.1) its

-- ---- the times after a request

same_heard : (x : Session) (now k : ℤ) → due_of x ≡ record { at = now +ℤ x.timeout; session = k } → x.heard ≡ now
unfolding due_of
same_heard x now k e = let f = ap (λ (d : Due). d.at) e in omega (arith, ints, f)

-- a time that is there already is added
again : (xs : List Session) (due : Due) (old mid : List Due) → IsDue xs due → AreDues old xs → AddsDue due old mid → AreDues mid xs
again xs due old mid i dues adds d = (
  λ h. elim ((adds d).0 h) [ inl same ↦ subst (IsDue xs) (sym same) i | inr was ↦ (dues d).0 was ],
  λ h. (adds d).1 (inr ((dues d).1 h)),
)

own_due : (k : ℤ) (xs : List Session) (x : Session) → session_at k xs ≡ Some x → IsDue xs (due_of x)
unfolding due_of
own_due k xs x h = record { one = x; live = subst (λ (z : ℤ). session_at z xs ≡ Some x) (sym (number_of k xs x h)) h; at = refl }

heard_at_time : (k now : ℤ) (xs : List Session) (x : Session) (old mid new : List Due) → AreDistinct xs → session_at k xs ≡ Some x
    → AreDues old xs
    → AddsDue (record { at = now +ℤ x.timeout; session = k }) old mid
    → LeavesDue (due_of x) (record { at = now +ℤ x.timeout; session = k }) mid new → AreDues new (change_session k (heard_at now) xs)
heard_at_time k now xs x old mid new distinct live dues adds (inl same) =
    let after : Due = record { at = now +ℤ x.timeout; session = k } in
    let i : IsDue xs after = subst (IsDue xs) same.0 (own_due k xs x live) in
    subst (λ (ds : List Due). AreDues ds (change_session k (heard_at now) xs)) (sym same.1)
    (dues_heard_again k now xs x mid live (same_heard x now k same.0) (again xs after old mid i dues adds))
heard_at_time k now xs x old mid new distinct live dues adds (inr differ) =
    dues_heard k now xs x old mid new distinct live dues adds differ.1 differ.0

-- the new time is added, and the old one taken out
pub heard_dues : (k now : ℤ) (xs : List Session) (x : Session) (before after : Due) (old mid new : List Due) → AreDistinct xs
    → session_at k xs ≡ Some x
    → AreDues old xs → before ≡ due_of x → after ≡ record { at = now +ℤ x.timeout; session = k } → AddsDue after old mid
    → LeavesDue before after mid new
    → AreDues new (change_session k (heard_at now) xs)
heard_dues k now xs x before after old mid new distinct live dues b a adds leaves =
    heard_at_time k now xs x old mid new distinct live dues (subst (λ (d : Due). AddsDue d old mid) a adds)
    (subst (λ (d : Due). LeavesDue (due_of x) d mid new) a (subst (λ (d : Due). LeavesDue d after mid new) b leaves))

-- the new time is added, and taken out again
pub dues_back : (k : ℤ) (xs : List Session) (x : Session) (before after : Due) (old mid new : List Due) → session_at k xs ≡ Some x
    → AreDues old xs → before ≡ due_of x → after.session ≡ k → AddsDue after old mid → LeavesDue after before mid new → AreDues new xs
dues_back k xs x before after old mid new live dues b its adds (inl same) d =
    let i : IsDue xs after = subst (IsDue xs) (sym (same.0 ∙ b)) (own_due k xs x live) in
    (subst (λ (ds : List Due). AreDues ds xs) (sym same.1) (again xs after old mid i dues adds)) d
dues_back k xs x before after old mid new live dues b its adds (inr differ) d = (there, back)
  where
    there : Contains new d → IsDue xs d
    there h = let r = (differ.1 d).0 h in elim ((adds d).0 r.1) [ inl same ↦ absurd (r.0 same) | inr was ↦ (dues d).0 was ]

    back : IsDue xs d → Contains new d
    back h =
        let was = (dues d).1 h in
        (differ.1 d).1 ((λ e. differ.0 (its_due k xs x after live its (subst (IsDue xs) e h) ∙ sym b)), (adds d).1 (inr was))
