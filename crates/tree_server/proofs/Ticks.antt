-- Sessions that end one after another.
use Rattle.std.proofs.Common.{◌≡◌, ◌≢◌, ◌⊎◌, ◌↔◌, ℕ, ℤ, ◌<ℤ◌, Bool, true, false, cond, not, List, [], ◌∷◌, ◌++◌, Option, Some, None, All, Contains, int_eq, refl, sym, ap, ◌∙◌, subst, inl, inr, append_assoc, append-nil, arith}
use Rattle.std.specs.Prelude.{◌||◌}
use Rattle.std.specs.List.{list_any}
use Rattle.std.specs.Option.{option_or}
use Rattle.std.proofs.lemmas.Bool.{cases_Bool}
use Rattle.std.proofs.lemmas.Int.{ints}
use Rattle.std.proofs.lemmas.List.{append_cancel_left}
use Rattle.std.proofs.lemmas.List.Elements.{All-cons, All-contains, All-contains_itself, All-nil, All-weaker, Contains-append_cases, Contains-append_left, Contains-append_right}
use Rattle.std.proofs.lemmas.List.Folds.{list_any-append}
use Rattle.tree_state.specs.State.{State, Session, has_connection, is_numbered, is_other_session, session_at, session_of, without_session}
use Rattle.tree_state.specs.Step.{Act, expires}
use Rattle.tree_state.proofs.SessionLists.{at_without, gone, is_number, on_first, on_others}
use Rattle.tree_state.proofs.Owned.{other_number}
use Rattle.store_side.specs.declared.entry.Entry.{Entry}
use Rattle.store_side.specs.declared.entry.Entry.TheVariants.{Connect, Take, Lost, Expire}
use Rattle.store_side.specs.declared.ending.StoreEnding.{StoreEnding}
use Rattle.store_side.specs.declared.ending.StoreEnding.TheVariants as endings
use Rattle.store_side.specs.Orders.{IsOver}
use Rattle.store_side.specs.Past.{Past, Later, state_of}
use Rattle.store_side.specs.Follows.{IsSound}
use Rattle.store_side.specs.Calls.{AreExpired, IsAscending, Ticked, ended_by_expiry, rest_of}
use Rattle.store_side.proofs.Appended.{after_one}
use Rattle.tree_server.specs.Servers.{ExpiresOne}
use Rattle.tree_server.specs.Times.{sessions_after}
use Rattle.tree_server.proofs.SessionsAfter.{sessions_step}
use Rattle.tree_server.proofs.Gains.{HoldsNone, later_more}
use Rattle.tree_server.proofs.LostConnections.{state_more}
use Rattle.tree_server.proofs.ExpiredSessions.{both_none, expired_other}

-- ---- so far

-- From the old past to this one, these sessions of those whose time was up ended, and these are left, which are above them.
pub record TicksTo (now : ℤ) (old mid : Past) (done left : List ℤ) : Type 0 where
  pub later : Later old mid
  pub admitted : mid.admitted ≡ old.admitted
  pub pulled : (d : ℕ) → mid.pulled d ≡ old.pulled d
  pub ascending : IsAscending (done ++ left)
  pub expired : AreExpired now done later.entries
  pub up : (n : ℤ) → Contains done n → IsOver (state_of old) n now
  pub still : (n : ℤ) → Contains left n ↔ IsOver (state_of mid) n now
  pub whole : (n : ℤ) → IsOver (state_of old) n now → Contains done n ⊎ Contains left n
  -- who is live now was so before
  pub live : (n : ℤ) (x : Session) → session_at n (state_of mid).sessions ≡ Some x → session_at n (state_of old).sessions ≡ Some x
  -- a connection whose session did not end has what it had
  pub others : (d : ℕ) → ended_by_expiry done (session_of d (state_of old).sessions) ≡ None
      → session_of d (state_of mid).sessions ≡ session_of d (state_of old).sessions
  pub endings : (d : ℕ) → mid.endings d ≡ option_or (old.endings d) (ended_by_expiry done (session_of d (state_of old).sessions))
  pub rests : (d : ℕ) → mid.rests d ≡ rest_of (mid.endings d) (old.rests d)

-- ---- numbers that ended

none_ended : (o : Option ℤ) → ended_by_expiry [] o ≡ None
unfolding ended_by_expiry
none_ended None = refl
none_ended (Some n) = refl

ended_more : (xs ys : List ℤ) (o : Option ℤ) → ended_by_expiry (xs ++ ys) o ≡ option_or (ended_by_expiry xs o) (ended_by_expiry ys o)
unfolding ended_by_expiry
ended_more xs ys None = refl
ended_more xs ys (Some n) =
    ap (λ (b : Bool). cond b (Some (endings.Expired n)) None) (list_any-append (λ m. int_eq m n) xs ys)
    ∙ go (list_any (λ m. int_eq m n) xs) (list_any (λ m. int_eq m n) ys)
  where
    go : (a b : Bool) → cond (a || b) (Some (endings.Expired n)) None
        ≡ option_or (cond a (Some (endings.Expired n)) None) (cond b (Some (endings.Expired n)) None)
    go true b = refl
    go false b = refl

or_none : (o : Option StoreEnding) → option_or o None ≡ o
or_none None = refl
or_none (Some e) = refl

or_assoc : (o p q : Option StoreEnding) → option_or (option_or o p) q ≡ option_or o (option_or p q)
or_assoc None p q = refl
or_assoc (Some e) p q = refl

-- the second counts only where the first is none
or_second : (o p q : Option StoreEnding) → (o ≡ None → p ≡ q) → option_or o p ≡ option_or o q
or_second None p q h = h refl
or_second (Some e) p q h = refl

none_expired : (now : ℤ) → AreExpired now [] []
unfolding AreExpired
none_expired now = tt

expired_one : (now n zxid : ℤ) → AreExpired now (n ∷ []) (Expire n zxid now ∷ [])
unfolding AreExpired
expired_one now n zxid = (refl, refl, tt)

expired_more : (now : ℤ) (ns ms : List ℤ) (es fs : List Entry) → AreExpired now ns es → AreExpired now ms fs
    → AreExpired now (ns ++ ms) (es ++ fs)
unfolding AreExpired
expired_more now [] ms [] fs h k = k
expired_more now [] ms (e ∷ es) fs h k = absurd h
expired_more now (n ∷ ns) ms [] fs h k = absurd h
expired_more now (n ∷ ns) ms (Expire session zxid at ∷ es) fs h k = (h.0, h.1, expired_more now ns ms es fs h.2 k)
expired_more now (n ∷ ns) ms (Connect c asked session timeout password zxid at ∷ es) fs h k = absurd h
expired_more now (n ∷ ns) ms (Take c xid r zxid at ∷ es) fs h k = absurd h
expired_more now (n ∷ ns) ms (Lost c ∷ es) fs h k = absurd h

rest_twice : (o p : Option StoreEnding) (first mid last : List ℕ) → ((e : StoreEnding) → o ≡ Some e → p ≡ Some e)
    → mid ≡ rest_of o first → last ≡ rest_of p mid → last ≡ rest_of p first
unfolding rest_of
rest_twice None p first mid last stays h k = k ∙ ap (rest_of p) h
rest_twice (Some e) p first mid last stays h k =
    let over = stays e refl in
    k ∙ ap (λ (q : Option StoreEnding). rest_of q mid) over ∙ sym (ap (λ (q : Option StoreEnding). rest_of q first) over)

-- ---- numbers in lists

none_in : (n : ℤ) → Contains [] n → ⊥
none_in n h = All-contains (λ (m : ℤ). ⊥) [] n (All-nil (λ (m : ℤ). ⊥)) h

only_one : (n k : ℤ) → Contains (n ∷ []) k → n ≡ k
only_one n k h = All-contains (λ (m : ℤ). n ≡ m) (n ∷ []) k (All-cons (λ (m : ℤ). n ≡ m) n [] refl (All-nil (λ (m : ℤ). n ≡ m))) h

its_first : (n : ℤ) (ns : List ℤ) → Contains (n ∷ ns) n
its_first n ns = All-contains_itself (n ∷ ns) 0 n (omega arith)

all_front : (P : ℤ → Type 0) (xs ys : List ℤ) → All P (xs ++ ys) → All P xs
all_front P xs ys h =
    All-weaker (Contains xs) P (λ x at. All-contains P (xs ++ ys) x h (Contains-append_left xs ys x at)) xs (All-contains_itself xs)

ascending_front : (xs ys : List ℤ) → IsAscending (xs ++ ys) → IsAscending xs
unfolding IsAscending
ascending_front [] ys h = tt
ascending_front (x ∷ xs) ys h = (all_front (λ y. x <ℤ y) xs ys h.0, ascending_front xs ys h.1)

ascending_back : (xs ys : List ℤ) → IsAscending (xs ++ ys) → IsAscending ys
unfolding IsAscending
ascending_back [] ys h = h
ascending_back (x ∷ xs) ys h = ascending_back xs ys h.1

-- those in front are below
front_below : (xs ys : List ℤ) (n : ℤ) → IsAscending (xs ++ ys) → Contains ys n → All (λ m. m <ℤ n) xs
unfolding IsAscending
front_below [] ys n h at = All-nil (λ m. m <ℤ n)
front_below (x ∷ xs) ys n h at =
    All-cons (λ m. m <ℤ n) x xs (All-contains (λ m. x <ℤ m) (xs ++ ys) n h.0 (Contains-append_right xs ys n at)) (front_below xs ys n h.1 at)

first_below : (n : ℤ) (ns : List ℤ) (k : ℤ) → IsAscending (n ∷ ns) → Contains ns k → n <ℤ k
unfolding IsAscending
first_below n ns k h at = All-contains (λ m. n <ℤ m) ns k h.0 at

above_other : (n k : ℤ) → n <ℤ k → k ≢ n
above_other n k h e = let below : n <ℤ n = subst (λ (z : ℤ). n <ℤ z) e h in omega (arith, ints)

-- ---- sessions

over_at : (s t : State) (n now : ℤ) → ((x : Session) → session_at n s.sessions ≡ Some x → session_at n t.sessions ≡ Some x)
    → IsOver s n now → IsOver t n now
over_at s t n now same h = record { one = h.one; live = same h.one h.live; up = h.up }

gone_first : (k : ℤ) (x : Session) (xs : List Session) → is_numbered k x ≡ true → without_session k (x ∷ xs) ≡ without_session k xs
unfolding without_session is_other_session
gone_first k x xs h = ap (λ (b : Bool). cond (not b) (x ∷ without_session k xs) (without_session k xs)) h

kept_first : (k : ℤ) (x : Session) (xs : List Session) → is_numbered k x ≡ false → without_session k (x ∷ xs) ≡ x ∷ without_session k xs
unfolding without_session is_other_session
kept_first k x xs h = ap (λ (b : Bool). cond (not b) (x ∷ without_session k xs) (without_session k xs)) h

none_left : (k : ℤ) → without_session k [] ≡ []
unfolding without_session
none_left k = refl

-- a connection that has another session, or none, has the same without it
same_without : (k : ℤ) (d : ℕ) (xs : List Session) → session_of d xs ≢ Some k → session_of d (without_session k xs) ≡ session_of d xs
same_without k d [] h = ap (session_of d) (none_left k)
same_without k d (x ∷ xs) h = go (cases_Bool (is_numbered k x)) (cases_Bool (has_connection d x)) (same_without k d xs)
  where
    go : (is_numbered k x ≡ true) ⊎ (is_numbered k x ≡ false) → (has_connection d x ≡ true) ⊎ (has_connection d x ≡ false)
        → (session_of d xs ≢ Some k → session_of d (without_session k xs) ≡ session_of d xs)
        → session_of d (without_session k (x ∷ xs)) ≡ session_of d (x ∷ xs)
    go (inl its) (inl on) ih = absurd (h (on_first d x xs on ∙ ap Some (is_number k x its)))
    go (inl its) (inr off) ih =
        let same = on_others d x xs off in ap (session_of d) (gone_first k x xs its) ∙ ih (λ e. h (same ∙ e)) ∙ sym same
    go (inr other) (inl on) ih =
        ap (session_of d) (kept_first k x xs other) ∙ on_first d x (without_session k xs) on ∙ sym (on_first d x xs on)
    go (inr other) (inr off) ih =
        let same = on_others d x xs off in
        ap (session_of d) (kept_first k x xs other) ∙ on_others d x (without_session k xs) off ∙ ih (λ e. h (same ∙ e)) ∙ sym same

-- ---- no session yet

pub ticks_none : (now : ℤ) (old : Past) (numbers : List ℤ) → IsAscending numbers
    → ((n : ℤ) → Contains numbers n ↔ IsOver (state_of old) n now) → HoldsNone old
    → TicksTo now old (record old { written = true }) [] numbers
unfolding state_of
ticks_none now old numbers ascending over holds = record {
  later = record {
    naming = refl;
    key = refl;
    limit = refl;
    admitted = omega arith;
    entries = [];
    order = sym (append-nil old.order);
    more_acts = [];
    acts = sym (append-nil old.acts);
    more_told = λ d. [];
    told = λ d. sym (append-nil (old.told d));
    more_pulled = λ d. [];
    pulled = λ d. sym (append-nil (old.pulled d));
    more_bytes = λ d. [];
    bytes = λ d. sym (append-nil (old.pulled d ++ old.waiting d));
    endings = λ d e h. h;
  };
  admitted = refl;
  pulled = λ d. refl;
  ascending = ascending;
  expired = none_expired now;
  up = λ n h. absurd (none_in n h);
  still = over;
  whole = λ n h. inr ((over n).1 h);
  live = λ n x h. h;
  others = λ d h. refl;
  endings = λ d. sym (ap (option_or (old.endings d)) (none_ended (session_of d (state_of old).sessions)) ∙ or_none (old.endings d));
  rests = holds;
}

-- ---- one session more

-- the entries of both, one behind another
entries_both : (old mid new : Past) (h : Later old mid) (k : Later mid new) → (later_more h k).entries ≡ h.entries ++ k.entries
entries_both old mid new h k =
    append_cancel_left old.order (later_more h k).entries (h.entries ++ k.entries)
    (sym (later_more h k).order ∙ k.order ∙ ap (λ (l : List Entry). l ++ k.entries) h.order ∙ append_assoc old.order h.entries k.entries)

module _ (now : ℤ) (old mid new : Past) (done left : List ℤ) (n : ℤ) (h : TicksTo now old mid done (n ∷ left))
    (e : ExpiresOne n now mid new) where
  sessions_are : (state_of new).sessions ≡ without_session n (state_of mid).sessions
  unfolding sessions_after
  sessions_are =
      let acts : new.acts ≡ mid.acts ++ expires n now ∷ [] = e.later.acts ∙ ap (λ (l : List Act). mid.acts ++ l) e.acts_are in
      let after = state_more mid new (expires n now ∷ []) e.later.naming acts ∙ after_one mid.naming (state_of mid) (expires n now) in
      ap (λ (s : State). s.sessions) after ∙ sessions_step mid.naming (state_of mid) (expires n now)

  same_at : (k : ℤ) → k ≢ n → session_at k (state_of new).sessions ≡ session_at k (state_of mid).sessions
  same_at k other = ap (session_at k) sessions_are ∙ at_without n k (state_of mid).sessions (other_number k n other)

  -- who is live then is another one
  live_other : (k : ℤ) (x : Session) → session_at k (state_of new).sessions ≡ Some x → k ≢ n
  live_other k x live same =
      let at : session_at n (state_of new).sessions ≡ Some x = subst (λ (z : ℤ). session_at z (state_of new).sessions ≡ Some x) same live in
      let none : session_at n (state_of new).sessions ≡ None = ap (session_at n) sessions_are ∙ gone n (state_of mid).sessions in
      absurd cc

  live_before : (k : ℤ) (x : Session) → session_at k (state_of new).sessions ≡ Some x → session_at k (state_of mid).sessions ≡ Some x
  live_before k x live = sym (same_at k (live_other k x live)) ∙ live

  still_up : (k : ℤ) → Contains left k → IsOver (state_of new) k now
  still_up k at =
      let above = first_below n left k (ascending_back done (n ∷ left) h.ascending) at in
      over_at (state_of mid) (state_of new) k now (λ x live. same_at k (above_other n k above) ∙ live)
      ((h.still k).0 (Contains-append_right (n ∷ []) left k at))

  still_left : (k : ℤ) → IsOver (state_of new) k now → Contains left k
  still_left k over =
      let before = (h.still k).1 (over_at (state_of new) (state_of mid) k now (live_before k) over) in
      elim (Contains-append_cases (n ∷ []) left k before) [
        | inl it ↦ absurd (live_other k over.one over.live (sym (only_one n k it)))
        | inr at ↦ at
      ]

  all_up : (k : ℤ) → Contains (done ++ n ∷ []) k → IsOver (state_of old) k now
  all_up k at = elim (Contains-append_cases done (n ∷ []) k at) [
    | inl before ↦ h.up k before
    | inr it ↦ over_at (state_of mid) (state_of old) k now (h.live k) ((h.still k).0 (Contains-append_left (n ∷ []) left k it))
  ]

  each : (k : ℤ) → IsOver (state_of old) k now → Contains (done ++ n ∷ []) k ⊎ Contains left k
  each k over = elim (h.whole k over) [
    | inl before ↦ inl (Contains-append_left done (n ∷ []) k before)
    | inr at ↦ elim (Contains-append_cases (n ∷ []) left k at) [
      | inl it ↦ inl (Contains-append_right done (n ∷ []) k it)
      | inr behind ↦ inr behind
    ]
  ]

  others_now : (d : ℕ) → ended_by_expiry (done ++ n ∷ []) (session_of d (state_of old).sessions) ≡ None
      → session_of d (state_of new).sessions ≡ session_of d (state_of old).sessions
  others_now d none =
      let o = session_of d (state_of old).sessions in
      let parts = both_none (ended_by_expiry done o) (ended_by_expiry (n ∷ []) o) (sym (ended_more done (n ∷ []) o) ∙ none) in
      let same = h.others d parts.0 in
      let other = expired_other n (session_of d (state_of mid).sessions) (ap (ended_by_expiry (n ∷ [])) same ∙ parts.1) in
      ap (session_of d) sessions_are ∙ same_without n d (state_of mid).sessions other ∙ same

  endings_now : (d : ℕ) → new.endings d ≡ option_or (old.endings d) (ended_by_expiry (done ++ n ∷ []) (session_of d (state_of old).sessions))
  endings_now d =
      let o = session_of d (state_of old).sessions in
      let m = session_of d (state_of mid).sessions in
      let first = ended_by_expiry done o in
      let next = ended_by_expiry (n ∷ []) in
      e.endings_are d
      ∙ ap (λ (x : Option StoreEnding). option_or x (next m)) (h.endings d)
      ∙ or_assoc (old.endings d) first (next m)
      ∙ ap (option_or (old.endings d))
      (or_second first (next m) (next o) (λ none. ap next (h.others d none)) ∙ sym (ended_more done (n ∷ []) o))

  entries_are : h.later.entries ++ Expire n e.zxid now ∷ [] ≡ (later_more h.later e.later).entries
  entries_are = ap (λ (l : List Entry). h.later.entries ++ l) (sym e.entries) ∙ sym (entries_both old mid new h.later e.later)

  pub ticks_more : TicksTo now old new (done ++ n ∷ []) left
  ticks_more = record {
    later = later_more h.later e.later;
    admitted = e.admitted ∙ h.admitted;
    pulled = λ d. e.pulled d ∙ h.pulled d;
    ascending = subst IsAscending (sym (append_assoc done (n ∷ []) left)) h.ascending;
    expired = subst (AreExpired now (done ++ n ∷ [])) entries_are
        (expired_more now done (n ∷ []) h.later.entries (Expire n e.zxid now ∷ []) h.expired (expired_one now n e.zxid));
    up = all_up;
    still = λ k. (still_up k, still_left k);
    whole = each;
    live = λ k x live. h.live k x (live_before k x live);
    others = others_now;
    endings = endings_now;
    rests = λ d.
        rest_twice (mid.endings d) (new.endings d) (old.rests d) (mid.rests d) (new.rests d) (e.later.endings d) (h.rests d) (e.rests d);
  }

-- ---- at last

-- all of them ended
pub ticked_all : (now : ℤ) (old new : Past) (done : List ℤ) → TicksTo now old new done [] → IsSound new → new.written ≡ true
    → Ticked now old new true
ticked_all now old new done h sound written = record {
  later = h.later;
  sound = λ before. sound;
  admitted = h.admitted;
  pulled = h.pulled;
  numbers = done;
  ascending = ascending_front done [] h.ascending;
  expired = h.expired;
  up = h.up;
  first = λ n over. elim (h.whole n over) [ inl at ↦ inl at | inr at ↦ absurd (none_in n at) ];
  endings = h.endings;
  rests = h.rests;
  written = λ all. written;
}

-- or the first of them
pub ticked_front : (now : ℤ) (old new : Past) (done left : List ℤ) → TicksTo now old new done left → IsSound new → Ticked now old new false
ticked_front now old new done left h sound = record {
  later = h.later;
  sound = λ before. sound;
  admitted = h.admitted;
  pulled = h.pulled;
  numbers = done;
  ascending = ascending_front done left h.ascending;
  expired = h.expired;
  up = h.up;
  first = λ n over. elim (h.whole n over) [ inl at ↦ inl at | inr at ↦ inr (refl, front_below done left n h.ascending at) ];
  endings = h.endings;
  rests = h.rests;
  written = λ all. absurd cc;
}
