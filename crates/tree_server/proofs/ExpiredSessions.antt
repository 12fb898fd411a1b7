-- The end of a session leaves a server sound, and what it changes.
use Rattle.std.proofs.Common.{◌≡◌, ◌≢◌, ◌⊎◌, ℕ, ℤ, Bool, false, cond, List, [], ◌∷◌, Option, Some, None, int_eq, refl, sym, ap, subst, ◌∙◌, arith, append_assoc, append-nil, inl, inr}
use Rattle.std.specs.Prelude.{◌==◌, ◌||◌}
use Rattle.std.specs.Option.{option_or}
use Rattle.std.proofs.lemmas.Bool.{cases_Bool, eqb-true, eq-eqb}
use Rattle.tree_state.specs.declared.held.Held.{Held}
use Rattle.tree_state.specs.declared.message.Output.{Output}
use Rattle.tree_state.specs.State.{State, Session, session_at, session_of}
use Rattle.tree_state.specs.Step.{connection_at, expires, step}
use Rattle.tree_state.specs.Sessions.{IsOnOne}
use Rattle.tree_state.proofs.SessionLists.{AreDistinct, same_number, is_on}
use Rattle.tree_state.proofs.Owned.{same_number as numbers_alike}
use Rattle.store_side.specs.declared.entry.Entry.{Entry}
use Rattle.store_side.specs.declared.entry.Entry.TheVariants.{Expire}
use Rattle.store_side.specs.declared.ending.StoreEnding.{StoreEnding}
use Rattle.store_side.specs.declared.ending.StoreEnding.TheVariants as endings
use Rattle.store_side.specs.Out.{to_connection}
use Rattle.store_side.specs.Orders.{HasNoConnect, HasSession}
use Rattle.store_side.specs.Past.{Past, state_of}
use Rattle.store_side.specs.Follows.{IsAdmitted, IsSound}
use Rattle.store_side.specs.Calls.{ended_by_expiry, rest_of}
use Rattle.store_side.proofs.NoTrace.{NoTrace}
use Rattle.store_side.proofs.Appended.{after_one, no_connect-append, no_connect_expire, outputs_one}
use Rattle.store_side.proofs.Sound.{Grows, grown_sound}
use Rattle.tree_server.specs.declared.books.Books.{Books}
use Rattle.tree_server.specs.declared.lines.Lines.{Lines}
use Rattle.tree_server.specs.Machines.{Stands, Expired, added}
use Rattle.tree_server.specs.Connections.{AreLines, SpellEach, told_more}
use Rattle.tree_server.specs.Servers.{Both, ExpiresOne, ended_at, expired_to, with_expired}
use Rattle.tree_server.proofs.SamePast.{stands_same, lines_same}
use Rattle.tree_server.proofs.KeptSessions.{expired_keeps, expired_quiet}
use Rattle.tree_server.proofs.TookFrames.{AreDistinctSessions}
use Rattle.tree_server.proofs.LostConnections.{goes_on_at, not_over, owed_within, state_more}

-- ---- whose side is over

none_or : (o u : Option StoreEnding) → o ≡ None → u ≡ None → option_or o u ≡ None
none_or None u e f = f
none_or (Some x) u e f = e

or_some : (o u : Option StoreEnding) (x : StoreEnding) → o ≡ Some x → option_or o u ≡ Some x
or_some None u x e = absurd cc
or_some (Some y) u x e = e

pub both_none : (o u : Option StoreEnding) → option_or o u ≡ None → (o ≡ None) × (u ≡ None)
both_none None u h = (refl, h)
both_none (Some x) u h = absurd cc

rest_none : (o : Option StoreEnding) (rest : List ℕ) → o ≡ None → rest_of o rest ≡ rest
unfolding rest_of
rest_none None rest e = refl
rest_none (Some x) rest e = absurd cc

its_end : (connection : Option ℕ) (session : ℤ) (d : ℕ) → connection ≡ Some d
    → ended_at connection session d ≡ Some (endings.Expired session)
unfolding ended_at
its_end None session d h = absurd cc
its_end (Some x) session d h =
    let same : d ≡ x = cc in ap (λ (b : Bool). cond b (Some (endings.Expired session)) None) (eq-eqb d x same)

others_stay : (connection : Option ℕ) (session : ℤ) (d : ℕ) → connection ≢ Some d → ended_at connection session d ≡ None
unfolding ended_at
others_stay None session d h = refl
others_stay (Some x) session d h = elim (cases_Bool (d == x)) [
  | inl same ↦ absurd (h (ap Some (sym (eqb-true d x same))))
  | inr other ↦ ap (λ (b : Bool). cond b (Some (endings.Expired session)) None) other
]

its_expiry : (session : ℤ) (o : Option ℤ) → o ≡ Some session → ended_by_expiry (session ∷ []) o ≡ Some (endings.Expired session)
unfolding ended_by_expiry
its_expiry session None h = absurd cc
its_expiry session (Some n) h =
    let same : n ≡ session = cc in
    ap (λ (b : Bool). cond (b || false) (Some (endings.Expired n)) None) (numbers_alike session n (sym same))
    ∙ ap (λ (z : ℤ). Some (endings.Expired z)) same

no_expiry : (session : ℤ) (o : Option ℤ) → o ≢ Some session → ended_by_expiry (session ∷ []) o ≡ None
unfolding ended_by_expiry
no_expiry session None h = refl
no_expiry session (Some n) h = elim (cases_Bool (int_eq session n)) [
  | inl same ↦ absurd (h (ap Some (sym (same_number session n same))))
  | inr other ↦ ap (λ (b : Bool). cond (b || false) (Some (endings.Expired n)) None) other
]

dec_some : (o : Option ℤ) (k : ℤ) → Dec (o ≡ Some k)
dec_some None k = no (λ h. cc)
dec_some (Some n) k = elim (cases_Bool (int_eq n k)) [
  | inl same ↦ yes (ap Some (same_number n k same))
  | inr other ↦ no (λ h. let alike : n ≡ k = cc in let e = numbers_alike n k alike in cc)
]

its_connection : (session : ℤ) (xs : List Session) (one : Session) → session_at session xs ≡ Some one
    → connection_at (session_at session xs) ≡ one.connection
unfolding connection_at
its_connection session xs one live = ap connection_at live

-- a connection is over by the end of the session that it had
ends_alike : (session : ℤ) (xs : List Session) (one : Session) (connection : Option ℕ) (d : ℕ) → IsOnOne xs → AreDistinct xs
    → session_at session xs ≡ Some one → connection ≡ one.connection
    → ended_at connection session d ≡ ended_by_expiry (session ∷ []) (session_of d xs)
ends_alike session xs one connection d on distinct live its = go (dec_some (session_of d xs) session)
  where
    go : Dec (session_of d xs ≡ Some session) → ended_at connection session d ≡ ended_by_expiry (session ∷ []) (session_of d xs)
    go (yes h) =
        let r = is_on d session xs distinct h in
        let there = r.live in
        let has = r.on in
        let same : connection ≡ Some d = cc in
        its_end connection session d same ∙ sym (its_expiry session (session_of d xs) h)
    go (no h) =
        others_stay connection session d (λ e. h (on d one session live (sym its ∙ e))) ∙ sym (no_expiry session (session_of d xs) h)

-- whose side is not over by it has another session, or none
pub expired_other : (session : ℤ) (o : Option ℤ) → ended_by_expiry (session ∷ []) o ≡ None → o ≢ Some session
expired_other session o h e = let f = its_expiry session o e in cc

-- ---- a session that ended

-- from where the server stood a session ended, and what is sent for that was told
pub record IsExpiredTo (named : List ℕ → ℕ → List ℕ → Type 0) (keeps : List Entry → Type 0) (room : ℕ) (held : Held) (books : Books)
    (lines : Lines) (session now : ℤ) (sent : List Output) (connection : Option ℕ) (bytes : ℕ → List ℕ) (written : Bool)
    (past new : Past) : Type 0 where
  pub sound : IsSound past
  pub quiet : (d : ℕ) → HasNoConnect d past.order → NoTrace d (state_of past)
  pub connected : AreDistinctSessions past
  pub apart : (d : ℕ) → connection ≡ Some d → IsAdmitted past d
  pub expired : Expired past session now sent connection new
  pub machine : Stands named keeps room held books new
  pub spelled : SpellEach sent bytes
  pub lines_are : AreLines lines (told_more sent bytes written (with_expired connection session past))

module _ (named : List ℕ → ℕ → List ℕ → Type 0) (keeps : List Entry → Type 0) (room : ℕ) (held : Held) (books : Books) (lines : Lines)
    (session now : ℤ) (sent : List Output) (connection : Option ℕ) (bytes : ℕ → List ℕ) (written : Bool) (past new : Past)
    (t : IsExpiredTo named keeps room held books lines session now sent connection bytes written past new) where
  abbrev to : Past
  to = expired_to (Expire session t.expired.zxid now) (expires session now) sent bytes written connection session past

  abbrev with_entry : Past
  with_entry = added (Expire session t.expired.zxid now ∷ []) (expires session now ∷ []) past

  machine_to : Stands named keeps room held books to
  machine_to = stands_same named keeps room held books with_entry to
      (record { naming = refl; key = refl; limit = refl; order = refl; acts = refl })
      (subst (λ (x : Past). Stands named keeps room held books x) t.expired.new_is t.machine)

  lines_to : AreLines lines to
  unfolding told_more
  lines_to = lines_same lines (told_more sent bytes written (with_expired connection session past)) to
      (record { admitted = refl; waiting = λ d. refl; rests = λ d. refl; endings = λ d. refl; written = refl }) t.lines_are

  pub both_expired : Both named keeps room held books lines to
  both_expired = record { machine = machine_to; lines_are = lines_to }

  ends_to : (d : ℕ) → ended_at connection session d ≡ ended_by_expiry (session ∷ []) (session_of d (state_of past).sessions)
  ends_to d =
      ends_alike session (state_of past).sessions t.expired.over.one connection d t.connected.one t.connected.distinct t.expired.over.live
      (t.expired.connection_is ∙ its_connection session (state_of past).sessions t.expired.over.one t.expired.over.live)

  pub expires_one : ExpiresOne session now past to
  expires_one = record {
    later = record {
      naming = refl;
      key = refl;
      limit = refl;
      admitted = omega arith;
      entries = Expire session t.expired.zxid now ∷ [];
      order = refl;
      more_acts = expires session now ∷ [];
      acts = refl;
      more_told = λ d. to_connection d sent;
      told = λ d. refl;
      more_pulled = λ d. [];
      pulled = λ d. sym (append-nil (past.pulled d));
      more_bytes = bytes;
      bytes = λ d. sym (append_assoc (past.pulled d) (past.waiting d) (bytes d));
      endings = λ d e h. or_some (past.endings d) (ended_at connection session d) e h;
    };
    admitted = refl;
    pulled = λ d. refl;
    zxid = t.expired.zxid;
    entries = refl;
    acts_are = refl;
    endings_are = λ d. ap (option_or (past.endings d)) (ends_to d);
    rests = λ d. refl;
  }

  -- ---- it is sound

  still : (d : ℕ) → HasNoConnect d past.order → HasNoConnect d to.order
  still d h = no_connect-append d past.order (Expire session t.expired.zxid now ∷ []) h (no_connect_expire d session t.expired.zxid now)

  state_to : state_of to ≡ (step past.naming (state_of past) (expires session now)).state
  state_to = state_more past to (expires session now ∷ []) refl refl ∙ after_one past.naming (state_of past) (expires session now)

  -- whose session did not end keeps it
  goes_on : (d : ℕ) → (past.endings d ≡ None) × (ended_at connection session d ≡ None) → HasNoConnect d to.order ⊎ HasSession (state_of to) d
  goes_on d h = elim (goes_on_at past t.sound d h.0) [
    | inl none ↦ inl (still d none)
    | inr has ↦
        inr (subst (λ (s : State). HasSession s d) (sym state_to)
        (expired_keeps past.naming (state_of past) session now d t.connected.one t.connected.distinct has
        (expired_other session (session_of d (state_of past).sessions) (sym (ends_to d) ∙ h.1))))
  ]

  grows : Grows past to (Expire session t.expired.zxid now ∷ []) (expires session now ∷ []) sent bytes
  grows = record {
    naming = refl;
    admitted = refl;
    order = refl;
    acts_are = refl;
    told = λ d. refl;
    pulled = λ d. refl;
    waiting = λ d. refl;
    sent_is = t.expired.sent_is;
    spelled = t.spelled;
  }

  pub sound_expired : IsSound to
  sound_expired = grown_sound past to (Expire session t.expired.zxid now ∷ []) (expires session now ∷ []) sent bytes t.sound grows (record {
    are_acts = machine_to.are_acts;
    steps = machine_to.steps;
    once = machine_to.once;
    goes_on = λ d on. goes_on d (both_none (past.endings d) (ended_at connection session d) (not_over (to.endings d) on));
    within = owed_within named keeps room held books to machine_to;
  }) (λ d apart.
      let outside : IsAdmitted past d → ⊥ = λ i. apart (record { from = i.from; below = i.below }) in
      let before = t.sound.untouched d outside in
      let stays = others_stay connection session d (λ e. outside (t.apart d e)) in
      let on = none_or (past.endings d) (ended_at connection session d) before.goes_on stays in (
        still d before.no_connect,
        ap (to_connection d) (t.expired.sent_is ∙ outputs_one past.naming (state_of past) (expires session now))
            ∙ expired_quiet past.naming (state_of past) session now d (t.quiet d before.no_connect),
        rest_none (to.endings d) (past.rests d) on ∙ before.rest,
        on,
      ))
