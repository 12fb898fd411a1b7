-- What the parts of a server's calls come to.
use Rattle.std.proofs.Common.{◌≡◌, ◌≢◌, ◌⊎◌, ℕ, ℤ, ◌≤◌, Bool, true, List, [], ◌∷◌, ◌++◌, length, drop, Option, Some, None, Result, Ok, refl, sym, ap, subst, ◌∙◌, inl, inr}
use Rattle.std.specs.Option.{option_map}
use Rattle.zk_frame.specs.Framing.{Framing, IsTooLong}
use Rattle.tree_state.specs.declared.held.Held.{Held}
use Rattle.tree_state.specs.declared.message.Output.{Output}
use Rattle.tree_state.specs.State.{State, Session, session_of, session_at}
use Rattle.tree_state.specs.Step.{connection_at}
use Rattle.tree_state.specs.Sessions.{IsOnOne}
use Rattle.store_side.specs.declared.entry.Entry.{Entry}
use Rattle.store_side.specs.declared.entry.Entry.TheVariants.{Connect, Take, Lost, Expire}
use Rattle.store_side.specs.declared.ending.StoreEnding.{StoreEnding}
use Rattle.store_side.specs.declared.ending.StoreEnding.TheVariants as endings
use Rattle.store_side.specs.Acts.{AreActs}
use Rattle.store_side.specs.Fitting.{AllCanBeSent, frame_limit}
use Rattle.store_side.specs.Orders.{ConnectsOnce, HasNoConnect, HasSession, LegalFrom}
use Rattle.store_side.specs.Out.{to_connection}
use Rattle.store_side.specs.Past.{Past, password_of, state_of}
use Rattle.store_side.specs.Follows.{IsAdmitted, IsSound}
use Rattle.store_side.specs.Calls.{IsMoved, lost_first}
use Rattle.store_side.proofs.NoTrace.{NoTrace}
use Rattle.tree_server.specs.declared.books.Books.{Books}
use Rattle.tree_server.specs.declared.lines.Lines.{Lines}
use Rattle.tree_server.specs.declared.taking.Move.{Move}
use Rattle.tree_server.specs.Machines.{Stands, Took, NotTaken}
use Rattle.tree_server.specs.Connections.{AreLines, IsPart, SpellEach, told_more, with_ending}
use Rattle.tree_server.specs.Servers.{Both, ServerStands, EndsBy, taken, refused, wants, wants_first, EndsAt, by_frame, by_length, for_memory, BeginsFrame, CannotFeed, CutsFrame, KeepsPart, Reaches, TookOne, taken_to, with_moved}
use Rattle.tree_server.proofs.SoundCalls.{sound_ending, sound_written}
use Rattle.tree_server.proofs.SamePast.{stands_same}
use Rattle.tree_server.proofs.Gains.{lines_hold, taken_some}
use Rattle.tree_server.proofs.KeptSessions.{FrameTaken, moved_apart, quiet_told}
use Rattle.tree_server.proofs.StepsWithin.{had_session}
use Rattle.tree_server.proofs.Plain.{plain_sent}
use Rattle.tree_server.proofs.TookFrames.{AreDistinctSessions, IsTaken, both_taken, gained_taken, sound_taken, sound_over, connected_to, inside}
use Rattle.tree_server.proofs.FedFrames.{only_requests, reaches_none, reaches_more}
use Rattle.tree_server.proofs.LostConnections.{goes_on_at}

-- ---- who has connected

none_some : (z : ℤ) → None ≡ Some z → ⊥
none_some z h = cc

-- a connection that goes on and has no session has not connected
pub first_frame : (c : ℕ) (past : Past) → IsSound past → past.endings c ≡ None → session_of c (state_of past).sessions ≡ None → HasNoConnect c past.order
first_frame c past sound on none = go (goes_on_at past sound c on)
  where
    go : HasNoConnect c past.order ⊎ HasSession (state_of past) c → HasNoConnect c past.order
    go (inl h) = h
    go (inr h) = absurd (none_some h.session (sym none ∙ h.live))

-- ---- a frame that was not taken

not_taken_ends : (c : ℕ) (now : ℤ) (body : List ℕ) (past : Past) (e : StoreEnding) → past.written ≡ true → NotTaken past c now body e → EndsBy c now body past past e
not_taken_ends c now body past e written (inl m) = subst (λ (x : StoreEnding). EndsBy c now body past past x) (sym m) wants_first
not_taken_ends c now body past e written (inr r) = refused e r written

module _ (named after_named : List ℕ → ℕ → List ℕ → Type 0) (keeps after_keeps : List Entry → Type 0) (room after_room : ℕ) (held after_held : Held) (books after_books : Books) (lines : Lines) where
  pub not_taken : (c : ℕ) (now : ℤ) (body : List ℕ) (past : Past) (e : StoreEnding) → ServerStands named keeps room held books lines past → IsAdmitted past c → past.written ≡ true → NotTaken past c now body e
      → Stands after_named after_keeps after_room after_held after_books past
      → (new : Past) × EndsBy c now body past new e × Both after_named after_keeps after_room after_held after_books lines new × IsSound (with_ending c e new)
  not_taken c now body past e st admitted written h machine =
      (past, not_taken_ends c now body past e written h, record { machine = machine; lines_are = st.both.lines_are }, sound_ending c e past admitted st.sound)

-- ---- a frame that was taken

distinct_of : (named : List ℕ → ℕ → List ℕ → Type 0) (keeps : List Entry → Type 0) (room : ℕ) (held : Held) (books : Books) (past : Past) → Stands named keeps room held books past → AreDistinctSessions past
distinct_of named keeps room held books past h = record { one = h.means.sessions.one; distinct = h.distinct }

frame_of : (c : ℕ) (now : ℤ) (body : List ℕ) (sent : List Output) (moved : Option Move) (ending : Option StoreEnding) (past new : Past) (t : Took past c now body sent moved ending new) → AreDistinctSessions past
    → FrameTaken past.naming (password_of past.key) (state_of past) c now body t.adds.moved t.adds.frames t.acts
frame_of c now body sent moved ending past new t d = record {
  spelled = t.adds.spelled;
  moves = t.adds.moves;
  are_acts = subst (λ (es : List Entry). AreActs es t.acts) t.adds.entries_are t.adds.are_acts;
  legal = subst (λ (es : List Entry). LegalFrom past.naming (password_of past.key) (state_of past) es t.acts) t.adds.entries_are t.adds.legal;
  one = d.one;
  distinct = d.distinct;
}

moved_is_some : (moved : Option Move) (from : Option ℕ) (m : Move) → option_map (λ (x : Move). x.connection) moved ≡ from → moved ≡ Some m → from ≡ Some m.connection
moved_is_some None from m e f = absurd cc
moved_is_some (Some x) from m e f = sym e ∙ ap (option_map (λ (y : Move). y.connection)) f

no_session : (c : ℕ) (s : State) → NoTrace c s → HasSession s c → ⊥
no_session c s h k = none_some k.session (sym h.sessions_are ∙ k.live)

apart_by_frames : (c : ℕ) (now : ℤ) (body : List ℕ) (sent : List Output) (moved : Option Move) (ending : Option StoreEnding) (past new : Past) (t : Took past c now body sent moved ending new)
    → IsSound past → past.endings c ≡ None → ((d : ℕ) → HasNoConnect d past.order → NoTrace d (state_of past)) → AreDistinctSessions past → ConnectsOnce new.order → (d : ℕ) → t.adds.moved ≡ Some d → d ≢ c
apart_by_frames c now body sent moved ending past new t sound on quiet distinct once d e = go (goes_on_at past sound c on)
  where
    once_here : ConnectsOnce (past.order ++ (lost_first t.adds.moved ++ t.adds.frames))
    once_here = subst (λ (es : List Entry). ConnectsOnce (past.order ++ es)) t.adds.entries_are (subst (λ (p : Past). ConnectsOnce p.order) t.new_is once)

    none_moved : (m : Option ℕ) → m ≡ None → m ≡ Some d → ⊥
    none_moved None f g = absurd cc
    none_moved (Some x) f g = absurd cc

    go : HasNoConnect c past.order ⊎ HasSession (state_of past) c → d ≢ c
    go (inl h) = moved_apart (frame_of c now body sent moved ending past new t distinct) d e (quiet c h)
    go (inr h) = absurd (none_moved t.adds.moved
        (only_requests c now (state_of past) past.order t.adds.moved t.adds.frames (body ∷ []) (λ k. no_session c (state_of past) (quiet c k) h) once_here t.adds.spelled
        (taken_some c now t.adds.frames body t.adds.spelled) t.adds.moves).0 e)

module _ (named after_named : List ℕ → ℕ → List ℕ → Type 0) (keeps after_keeps : List Entry → Type 0) (room after_room : ℕ) (held after_held : Held) (books after_books : Books)
    (lines ended after_lines : Lines) (c : ℕ) (now : ℤ) (body : List ℕ) (sent : List Output) (moved : Option Move) (ending : Option StoreEnding) (written : Bool) (past new : Past)
    (st : ServerStands named keeps room held books lines past) (admitted : IsAdmitted past c) (on : past.endings c ≡ None) (all : past.written ≡ true)
    (t : Took past c now body sent moved ending new) (machine : Stands after_named after_keeps after_room after_held after_books new)
    (ends : ((m : Move) → moved ≡ Some m → IsAdmitted past m.connection) → AreLines ended (with_moved moved past))
    (sends : AreLines ended (with_moved moved past) → past.written ≡ true → AllCanBeSent sent → ((d : ℕ) → (IsAdmitted past d → ⊥) → to_connection d sent ≡ [])
    → (bytes : ℕ → List ℕ) × SpellEach sent bytes × AreLines after_lines (told_more sent bytes written (with_moved moved past))) where
  distinct : AreDistinctSessions past
  distinct = distinct_of named keeps room held books past st.both.machine

  taken_frame : FrameTaken past.naming (password_of past.key) (state_of past) c now body t.adds.moved t.adds.frames t.acts
  taken_frame = frame_of c now body sent moved ending past new t distinct

  moved_admitted : (m : Move) → moved ≡ Some m → IsAdmitted past m.connection
  moved_admitted m e = inside past m.connection (λ outside.
      let from = moved_is_some moved t.adds.moved m t.moved_is e in
      let had = had_session (state_of past) m.connection t.adds.frames distinct.one (subst (λ (o : Option ℕ). IsMoved (state_of past) o t.adds.frames) from t.adds.moves) in
      no_session m.connection (state_of past) (st.both.machine.quiet m.connection (st.sound.untouched m.connection outside).no_connect) had)

  none_outside : (d : ℕ) → (IsAdmitted past d → ⊥) → to_connection d sent ≡ []
  none_outside d outside =
      ap (to_connection d) t.sent_is
      ∙ quiet_told taken_frame d (λ e. outside (subst (λ (x : ℕ). IsAdmitted past x) (sym e) admitted)) (st.both.machine.quiet d (st.sound.untouched d outside).no_connect)

  abbrev told : (bytes : ℕ → List ℕ) × SpellEach sent bytes × AreLines after_lines (told_more sent bytes written (with_moved moved past))
  told = sends (ends moved_admitted) all t.can_send none_outside

  is_taken : IsTaken after_named after_keeps after_room after_held after_books after_lines c now body sent moved ending told.0 written past new
  is_taken = record {
    sound = st.sound;
    admitted = admitted;
    on = on;
    holds = lines_hold lines past st.both.lines_are;
    connected = distinct;
    quiet = st.both.machine.quiet;
    apart = λ m e. (
      apart_by_frames c now body sent moved ending past new t st.sound on st.both.machine.quiet distinct machine.once m.connection (moved_is_some moved t.adds.moved m t.moved_is e),
      moved_admitted m e,
    );
    took = t;
    machine = machine;
    spelled = told.1;
    lines_are = told.2;
  }

  abbrev to : Past
  to = taken_to t.entries t.acts sent told.0 written moved past

  -- the connection goes on
  pub took_one : ending ≡ None → written ≡ true → (after : Past) × TookOne c now body past after × ServerStands after_named after_keeps after_room after_held after_books after_lines after
  unfolding is_taken
  took_one none all_written = (
    to,
    record {
      moved = t.adds.moved;
      frames = t.adds.frames;
      gained = gained_taken after_named after_keeps after_room after_held after_books after_lines c now body sent moved ending told.0 written past new is_taken;
      none = sym t.ending_is ∙ none;
      connected = connected_to after_named after_keeps after_room after_held after_books after_lines c now body sent moved ending told.0 written past new is_taken;
      written = all_written;
    },
    record {
      both = both_taken after_named after_keeps after_room after_held after_books after_lines c now body sent moved ending told.0 written past new is_taken;
      sound = sound_taken after_named after_keeps after_room after_held after_books after_lines c now body sent moved ending told.0 written past new is_taken (sym t.ending_is ∙ none);
      plain = plain_sent past t.acts sent st.plain t.sent_is;
    },
  )

  -- the connection ends by the frame
  pub took_last : (e : StoreEnding) → ending ≡ Some e → written ≡ true
      → (after : Past) × EndsBy c now body past after e × Both after_named after_keeps after_room after_held after_books after_lines after × IsSound (with_ending c e after)
  unfolding is_taken
  took_last e some all_written = (
    to,
    taken e to t.adds.moved t.adds.frames (gained_taken after_named after_keeps after_room after_held after_books after_lines c now body sent moved ending told.0 written past new is_taken) (sym t.ending_is ∙ some) all_written,
    both_taken after_named after_keeps after_room after_held after_books after_lines c now body sent moved ending told.0 written past new is_taken,
    sound_over after_named after_keeps after_room after_held after_books after_lines c now body sent moved ending told.0 written past new is_taken e,
  )

  -- there was no memory to write what it tells
  pub took_untold : (after : Past) × EndsBy c now body past after endings.Memory × Both after_named after_keeps after_room after_held after_books after_lines after × IsSound (with_ending c endings.Memory after)
  unfolding is_taken
  took_untold = (
    to,
    wants to t.adds.moved t.adds.frames (gained_taken after_named after_keeps after_room after_held after_books after_lines c now body sent moved ending told.0 written past new is_taken),
    both_taken after_named after_keeps after_room after_held after_books after_lines c now body sent moved ending told.0 written past new is_taken,
    sound_over after_named after_keeps after_room after_held after_books after_lines c now body sent moved ending told.0 written past new is_taken endings.Memory,
  )

-- ---- bytes that come

cannot_ends : (f : Framing) (piece : List ℕ) (c : ℕ) (now : ℤ) (past : Past) (e : StoreEnding) → f.limit ≡ frame_limit → past.written ≡ true → CannotFeed f piece e → EndsAt c now past (f.held ++ piece) past e
cannot_ends f piece c now past e limit written (inl m) = subst (λ (x : StoreEnding). EndsAt c now past (f.held ++ piece) past x) (sym m) for_memory
cannot_ends f piece c now past e limit written (inr h) =
    subst (λ (x : StoreEnding). EndsAt c now past (f.held ++ piece) past x) (sym h.1) (by_length h.0 (subst (λ (n : ℕ). IsTooLong n (f.held ++ piece) h.0) limit h.2) written)

module _ (named : List ℕ → ℕ → List ℕ → Type 0) (keeps : List Entry → Type 0) (room : ℕ) (held : Held) (books : Books) (lines : Lines) where
  pub not_fed : (f : Framing) (piece : List ℕ) (c : ℕ) (now : ℤ) (past : Past) (e : StoreEnding) → f.limit ≡ frame_limit → CannotFeed f piece e → ServerStands named keeps room held books lines past → IsAdmitted past c
      → past.written ≡ true → (new : Past) × EndsAt c now past (f.held ++ piece) new e × Both named keeps room held books lines new × IsSound (with_ending c e new)
  not_fed f piece c now past e limit h st admitted written = (past, cannot_ends f piece c now past e limit written h, st.both, sound_ending c e past admitted st.sound)

  pub ends_at_frame : (f : Framing) (piece : List ℕ) (c : ℕ) (now : ℤ) (body : List ℕ) (past : Past) (e : StoreEnding) → f.limit ≡ frame_limit → BeginsFrame f piece body
      → ((new : Past) × EndsBy c now body past new e × Both named keeps room held books lines new × IsSound (with_ending c e new))
      → (new : Past) × EndsAt c now past (f.held ++ piece) new e × Both named keeps room held books lines new × IsSound (with_ending c e new)
  ends_at_frame f piece c now body past e limit begins h =
      (h.0, by_frame h.0 e body begins.more begins.begins (subst (λ (n : ℕ). length body ≤ n) limit begins.short) h.1, h.2, h.3)

-- ---- frame after frame

-- so far, from where the server stood
pub record SoFar (named : List ℕ → ℕ → List ℕ → Type 0) (keeps : List Entry → Type 0) (room : ℕ) (held : Held) (books : Books) (lines : Lines) (c : ℕ) (now : ℤ) (past : Past) (bytes left : List ℕ) : Type 0 where
  pub mid : Past
  pub reaches : Reaches c now past mid bytes left
  pub written : mid.written ≡ true
  pub stands : ServerStands named keeps room held books lines mid

still_admitted : (c : ℕ) (now : ℤ) (past mid : Past) (bytes left : List ℕ) → Reaches c now past mid bytes left → IsAdmitted past c → IsAdmitted mid c
still_admitted c now past mid bytes left r admitted = record { from = admitted.from; below = rw r.gained.admitted admitted.below }

module _ (named after_named : List ℕ → ℕ → List ℕ → Type 0) (keeps after_keeps : List Entry → Type 0) (room after_room : ℕ) (held after_held : Held) (books after_books : Books) (lines after_lines : Lines)
    (c : ℕ) (now : ℤ) (past : Past) (acts : AreActs past.order past.acts) (admitted : IsAdmitted past c) (empty : past.rests c ≡ []) (bytes : List ℕ) where
  -- one more
  pub one_further : (f g : Framing) (rest after : List ℕ) (count : ℕ) (body : List ℕ) → after ≡ drop count rest → f.limit ≡ frame_limit → SoFar named keeps room held books lines c now past bytes (f.held ++ rest) → CutsFrame f g rest count body
      → ((p : Past) → ServerStands named keeps room held books lines p → IsAdmitted p c → p.endings c ≡ None → p.rests c ≡ [] → p.written ≡ true
      → (new : Past) × TookOne c now body p new × ServerStands after_named after_keeps after_room after_held after_books after_lines new)
      → SoFar after_named after_keeps after_room after_held after_books after_lines c now past bytes (g.held ++ after)
  one_further f g rest after count body cut limit s cuts takes =
      let t = takes s.mid s.stands (still_admitted c now past s.mid bytes (f.held ++ rest) s.reaches admitted) s.reaches.gained.goes_on (s.reaches.gained.rest ∙ empty) s.written in
      let r = reaches_more c now past s.mid t.0 bytes f g rest count body limit acts s.stands.both.machine.are_acts t.2.both.machine.once cuts s.reaches t.1 in
      record { mid = t.0; reaches = subst (λ (x : List ℕ). Reaches c now past t.0 bytes (g.held ++ x)) (sym cut) r; written = t.1.written; stands = t.2 }

  -- the connection ends at what comes next
  pub ends_further : (left : List ℕ) (e : StoreEnding) → SoFar named keeps room held books lines c now past bytes left
      → ((p : Past) → ServerStands named keeps room held books lines p → IsAdmitted p c → p.endings c ≡ None → p.rests c ≡ [] → p.written ≡ true
      → (new : Past) × EndsAt c now p left new e × Both after_named after_keeps after_room after_held after_books after_lines new × IsSound (with_ending c e new))
      → (mid : Past) × (rest : List ℕ) × AreActs mid.order mid.acts × Reaches c now past mid bytes rest
      × ((new : Past) × EndsAt c now mid rest new e × Both after_named after_keeps after_room after_held after_books after_lines new × IsSound (with_ending c e new))
  ends_further left e s ends =
      (s.mid, left, s.stands.both.machine.are_acts, s.reaches, ends s.mid s.stands (still_admitted c now past s.mid bytes left s.reaches admitted) s.reaches.gained.goes_on (s.reaches.gained.rest ∙ empty) s.written)

abbrev pub counted : ℕ → Result (Option ℕ) StoreEnding
counted n = Ok (Some n)

abbrev pub answered : Option ℕ → Result (Option ℕ) StoreEnding
answered o = Ok o

pub of_some : (o : Option ℕ) (n : ℕ) → o ≡ Some n → answered o ≡ counted n
of_some o n e = ap answered e

pub of_none : (o : Option ℕ) → o ≡ None → answered o ≡ answered None
of_none o e = ap answered e

pub same_count : (a b : ℕ) → counted a ≡ counted b → a ≡ b
same_count a b h = cc

-- ---- the start of a feed, and its end

flushed : (named : List ℕ → ℕ → List ℕ → Type 0) (keeps : List Entry → Type 0) (room : ℕ) (held : Held) (books : Books) (lines after_lines : Lines) (past : Past)
    → ServerStands named keeps room held books lines past → AreLines after_lines (record past { written = true }) → ServerStands named keeps room held books after_lines (record past { written = true })
flushed named keeps room held books lines after_lines past st are = record {
  both = record {
    machine = stands_same named keeps room held books past (record past { written = true }) (record { naming = refl; key = refl; limit = refl; order = refl; acts = refl }) st.both.machine;
    lines_are = are;
  };
  sound = sound_written past true st.sound;
  plain = st.plain;
}

module _ (named : List ℕ → ℕ → List ℕ → Type 0) (keeps : List Entry → Type 0) (room : ℕ) (held : Held) (books : Books) (lines after_lines : Lines) (c : ℕ) (now : ℤ) (past : Past) (bytes : List ℕ)
    (st : ServerStands named keeps room held books lines past) (admitted : IsAdmitted past c) (on : past.endings c ≡ None) where
  pub starts_flushed : AreLines after_lines (record past { written = true }) → SoFar named keeps room held books after_lines c now past bytes bytes
  starts_flushed are = record {
    mid = record past { written = true };
    reaches = reaches_none c now past bytes true on (lines_hold lines past st.both.lines_are);
    written = refl;
    stands = flushed named keeps room held books lines after_lines past st are;
  }

  pub ends_unflushed : AreLines after_lines past
      → (mid : Past) × (left : List ℕ) × AreActs mid.order mid.acts × Reaches c now past mid bytes left
      × ((new : Past) × EndsAt c now mid left new endings.Memory × Both named keeps room held books after_lines new × IsSound (with_ending c endings.Memory new))
  ends_unflushed are = (
    past,
    bytes,
    st.both.machine.are_acts,
    reaches_none c now past bytes past.written on (lines_hold lines past st.both.lines_are),
    (past, for_memory, record { machine = st.both.machine; lines_are = are }, sound_ending c endings.Memory past admitted st.sound),
  )

pub all_taken_now : (named : List ℕ → ℕ → List ℕ → Type 0) (keeps : List Entry → Type 0) (room : ℕ) (held : Held) (books : Books) (lines : Lines) (c : ℕ) (now : ℤ) (past : Past) (bytes : List ℕ) (f g : Framing) (rest : List ℕ)
    → f.limit ≡ frame_limit → SoFar named keeps room held books lines c now past bytes (f.held ++ rest) → KeepsPart f g rest
    → (new : Past) × Reaches c now past new bytes g.held × IsPart g.held × (new.written ≡ true) × ServerStands named keeps room held books lines new
all_taken_now named keeps room held books lines c now past bytes f g rest limit s part =
    let kept : g.held ≡ f.held ++ rest = ap (λ (x : Framing). x.held) part.kept in (
      s.mid,
      subst (λ (x : List ℕ). Reaches c now past s.mid bytes x) (sym kept) s.reaches,
      record { partial = part.partial; within = λ z h. part.within z (subst (λ (n : ℕ). IsTooLong n (f.held ++ rest) z) (sym limit) (subst (λ (x : List ℕ). IsTooLong frame_limit x z) kept h)) },
      s.written,
      s.stands,
    )
