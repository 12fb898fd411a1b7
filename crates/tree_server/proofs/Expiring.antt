-- The end of a session whose time is up, told.
use Rattle.std.proofs.Common.{◌≡◌, ℕ, ℤ, Bool, true, List, [], ◌∷◌, Option, Some, None, refl, sym, ap, ◌∙◌}
use Rattle.tree_state.specs.declared.held.Held.{Held}
use Rattle.tree_state.specs.declared.message.Output.{Output}
use Rattle.tree_state.specs.State.{State, Session, session_at}
use Rattle.tree_state.specs.Step.{connection_at, expires}
use Rattle.tree_state.specs.Sessions.{IsOnOne}
use Rattle.store_side.specs.declared.entry.Entry.{Entry}
use Rattle.store_side.specs.declared.entry.Entry.TheVariants.{Expire}
use Rattle.store_side.specs.declared.ending.StoreEnding.{StoreEnding}
use Rattle.store_side.specs.declared.ending.StoreEnding.TheVariants as endings
use Rattle.store_side.specs.Fitting.{AllCanBeSent}
use Rattle.store_side.specs.Orders.{HasSession}
use Rattle.store_side.specs.Out.{to_connection}
use Rattle.store_side.specs.Past.{Past, state_of}
use Rattle.store_side.specs.Follows.{IsAdmitted}
use Rattle.store_side.proofs.Appended.{outputs_one}
use Rattle.store_side.proofs.NoTrace.{NoTrace}
use Rattle.tree_server.specs.declared.books.Books.{Books}
use Rattle.tree_server.specs.declared.lines.Lines.{Lines}
use Rattle.tree_server.specs.Machines.{Stands, Expired}
use Rattle.tree_server.specs.Connections.{AreLines, SpellEach, told_more, with_ending}
use Rattle.tree_server.specs.Servers.{ExpiresOne, ServerStands, ended_at, expired_to, with_expired}
use Rattle.tree_server.proofs.KeptSessions.{expired_quiet}
use Rattle.tree_server.proofs.TookFrames.{inside}
use Rattle.tree_server.proofs.ExpiredSessions.{IsExpiredTo, both_expired, expires_one, sound_expired}
use Rattle.tree_server.proofs.Plain.{plain_sent}
use Rattle.tree_server.proofs.OverLines.{none_over, one_over}

-- ---- its connection is over

pub expired_none : (ls : Lines) (session : ℤ) (past : Past) → AreLines ls past → AreLines ls (with_expired None session past)
unfolding ended_at
expired_none ls session past h = none_over ls past h

pub expired_some : (ls after : Lines) (session : ℤ) (past : Past) (x : ℕ) → AreLines ls past → (past.endings x ≡ None → AreLines after (with_ending x (endings.Expired session) past))
    → ((f : StoreEnding) → past.endings x ≡ Some f → AreLines after past) → AreLines after (with_expired (Some x) session past)
unfolding ended_at
expired_some ls after session past x h ends over = one_over ls after past x (endings.Expired session) h ends over

-- ---- what comes of it

none_some : (x : ℤ) → None ≡ Some x → ⊥
none_some x h = cc

-- who had the session that ended has one
had_session : (s : State) (d : ℕ) (session : ℤ) → IsOnOne s.sessions → connection_at (session_at session s.sessions) ≡ Some d → HasSession s d
unfolding connection_at
had_session s d session one h = go (session_at session s.sessions) refl h
  where
    go : (o : Option Session) → session_at session s.sessions ≡ o → connection_at o ≡ Some d → HasSession s d
    go None e f = absurd cc
    go (Some x) e f = record { session = session; live = one d x session e f }

module _ (named after_named : List ℕ → ℕ → List ℕ → Type 0) (keeps after_keeps : List Entry → Type 0) (room after_room : ℕ) (held after_held : Held) (books after_books : Books)
    (lines ended after_lines : Lines) (session now : ℤ) (sent : List Output) (connection : Option ℕ) (written : Bool) (past new : Past)
    (st : ServerStands named keeps room held books lines past)
    (t : Expired past session now sent connection new) (machine : Stands after_named after_keeps after_room after_held after_books new)
    (ends : ((x : ℕ) → connection ≡ Some x → IsAdmitted past x) → AreLines ended (with_expired connection session past))
    (sends : AreLines ended (with_expired connection session past) → AllCanBeSent sent → ((d : ℕ) → (IsAdmitted past d → ⊥) → to_connection d sent ≡ [])
    → (bytes : ℕ → List ℕ) × SpellEach sent bytes × AreLines after_lines (told_more sent bytes written (with_expired connection session past))) where
  one : IsOnOne (state_of past).sessions
  one = st.both.machine.means.sessions.one

  quiet_outside : (d : ℕ) → (IsAdmitted past d → ⊥) → NoTrace d (state_of past)
  quiet_outside d outside = st.both.machine.quiet d (st.sound.untouched d outside).no_connect

  admitted : (d : ℕ) → connection ≡ Some d → IsAdmitted past d
  admitted d e = inside past d (λ outside.
      let had = had_session (state_of past) d session one (sym t.connection_is ∙ e) in
      none_some had.session (sym (quiet_outside d outside).sessions_are ∙ had.live))

  none_outside : (d : ℕ) → (IsAdmitted past d → ⊥) → to_connection d sent ≡ []
  none_outside d outside =
      ap (to_connection d) (t.sent_is ∙ outputs_one past.naming (state_of past) (expires session now))
      ∙ expired_quiet past.naming (state_of past) session now d (quiet_outside d outside)

  abbrev told : (bytes : ℕ → List ℕ) × SpellEach sent bytes × AreLines after_lines (told_more sent bytes written (with_expired connection session past))
  told = sends (ends admitted) t.can_send none_outside

  is_expired : IsExpiredTo after_named after_keeps after_room after_held after_books after_lines session now sent connection told.0 written past new
  is_expired = record {
    sound = st.sound;
    quiet = st.both.machine.quiet;
    connected = record { one = one; distinct = st.both.machine.distinct };
    apart = admitted;
    expired = t;
    machine = machine;
    spelled = told.1;
    lines_are = told.2;
  }

  pub expires_told : (x : Past) × ExpiresOne session now past x × (x.written ≡ written) × ServerStands after_named after_keeps after_room after_held after_books after_lines x
  unfolding is_expired
  expires_told = (
    expired_to (Expire session t.zxid now) (expires session now) sent told.0 written connection session past,
    expires_one after_named after_keeps after_room after_held after_books after_lines session now sent connection told.0 written past new is_expired,
    refl,
    record {
      both = both_expired after_named after_keeps after_room after_held after_books after_lines session now sent connection told.0 written past new is_expired;
      sound = sound_expired after_named after_keeps after_room after_held after_books after_lines session now sent connection told.0 written past new is_expired;
      plain = plain_sent past (expires session now ∷ []) sent st.plain t.sent_is;
    },
  )

  pub expires_all : written ≡ true → (x : Past) × ExpiresOne session now past x × (x.written ≡ true) × ServerStands after_named after_keeps after_room after_held after_books after_lines x
  expires_all all = (expires_told.0, expires_told.1, expires_told.2 ∙ all, expires_told.3)
