-- A feed over the framer that was taken out of its line is a feed of the line.
use Rattle.std.proofs.Common.{◌≡◌, ℕ, ℤ, true, List, [], ◌++◌, None, Result, Ok, Err, refl, sym, ap, subst, ◌∙◌}
use Rattle.tree_state.specs.declared.held.Held.{Held}
use Rattle.store_side.specs.declared.entry.Entry.{Entry}
use Rattle.store_side.specs.declared.ending.StoreEnding.{StoreEnding}
use Rattle.store_side.specs.declared.ending.StoreEnding.TheVariants as endings
use Rattle.store_side.specs.Acts.{AreActs}
use Rattle.store_side.specs.Past.{Past, state_of}
use Rattle.store_side.specs.Follows.{IsAdmitted, IsSound}
use Rattle.store_side.specs.Calls.{Fed, Stops, rest_of, admitted_one, after_pull, IsLoss, after_loss}
use Rattle.store_side.proofs.SoundCalls.{at_own, at_other, sound_admitted, sound_pulled}
use Rattle.tree_state.specs.Step.{Act}
use Rattle.tree_server.specs.declared.books.Books.{Books}
use Rattle.tree_server.specs.declared.lines.Lines.{Lines}
use Rattle.tree_server.specs.Machines.{Stands, added}
use Rattle.tree_server.specs.Connections.{AreLines, IsPart, with_ending, with_rest}
use Rattle.tree_server.specs.Servers.{Both, ServerStands, EndsAt, by_frame, by_length, for_memory, EndsBy, taken, refused, wants, wants_first, Reaches}
use Rattle.tree_server.proofs.SamePast.{stands_same}
use Rattle.tree_server.proofs.SoundCalls.{sound_rest}
use Rattle.tree_server.proofs.FedFrames.{fed_all, fed_ends}
use Rattle.tree_server.proofs.LostConnections.{lost_both, lost_sound, no_outputs}
use Rattle.tree_server.proofs.Plain.{IsPlain, plain_at, plain_more, plain_quiet}

-- where its line holds nothing, all bytes come with the piece
pub fed_whole : (c : ℕ) (now : ℤ) (held piece : List ℕ) (old new : Past) (answer : Result (Unit {0}) StoreEnding) → IsAdmitted old c → held ≡ old.rests c
    → Fed c now (held ++ piece) (with_rest c [] old) new answer → Fed c now piece old new answer
unfolding state_of
fed_whole c now held piece old new answer admitted same h = record {
  later = record {
    naming = h.later.naming;
    key = h.later.key;
    limit = h.later.limit;
    admitted = h.later.admitted;
    entries = h.later.entries;
    order = h.later.order;
    more_acts = h.later.more_acts;
    acts = h.later.acts;
    more_told = h.later.more_told;
    told = h.later.told;
    more_pulled = h.later.more_pulled;
    pulled = h.later.pulled;
    more_bytes = h.later.more_bytes;
    bytes = h.later.bytes;
    endings = h.later.endings;
  };
  sound = λ before. h.sound (sound_rest c [] old admitted before);
  admitted = h.admitted;
  pulled = h.pulled;
  moved = h.moved;
  frames = h.frames;
  entries = h.entries;
  bodies = h.bodies;
  short = h.short;
  spelled = h.spelled;
  moves = h.moves;
  within = λ before. h.within (sound_rest c [] old admitted before);
  stops = subst (λ (x : List ℕ). Stops new c now h.frames h.bodies x answer) (ap (λ (x : List ℕ). x ++ (held ++ piece)) (at_own c [] old.rests) ∙ ap (λ (x : List ℕ). x ++ piece) same) h.stops;
  ending = h.ending;
  others = h.others;
  rest = h.rest;
  rests = λ d other. h.rests d other ∙ ap (rest_of (new.endings d)) (at_other c d [] old.rests other);
  written = h.written;
}

-- ---- where the server stands

module _ (named : List ℕ → ℕ → List ℕ → Type 0) (keeps : List Entry → Type 0) (room : ℕ) (held : Held) (books : Books) (lines after : Lines) (past : Past) (st : ServerStands named keeps room held books lines past) where
  pub stands_still : AreLines after past → ServerStands named keeps room held books after past
  stands_still are = record { both = record { machine = st.both.machine; lines_are = are }; sound = st.sound; plain = st.plain }

  pub stands_admitted : AreLines after (admitted_one past) → ServerStands named keeps room held books after (admitted_one past)
  stands_admitted are = record {
    both = record { machine = stands_same named keeps room held books past (admitted_one past) (record { naming = refl; key = refl; limit = refl; order = refl; acts = refl }) st.both.machine; lines_are = are };
    sound = sound_admitted past st.sound;
    plain = st.plain;
  }

  pub stands_pulled : (c n : ℕ) → IsAdmitted past c → AreLines after (after_pull c n past) → ServerStands named keeps room held books after (after_pull c n past)
  unfolding after_pull
  stands_pulled c n admitted are = record {
    both = record { machine = stands_same named keeps room held books past (after_pull c n past) (record { naming = refl; key = refl; limit = refl; order = refl; acts = refl }) st.both.machine; lines_are = are };
    sound = sound_pulled past c n st.sound admitted;
    plain = st.plain;
  }

  pub stands_rest : (c : ℕ) (rest : List ℕ) → IsAdmitted past c → AreLines after (with_rest c rest past) → ServerStands named keeps room held books after (with_rest c rest past)
  stands_rest c rest admitted are = record {
    both = record { machine = stands_same named keeps room held books past (with_rest c rest past) (record { naming = refl; key = refl; limit = refl; order = refl; acts = refl }) st.both.machine; lines_are = are };
    sound = sound_rest c rest past admitted st.sound;
    plain = st.plain;
  }

pub stands_ended : (named : List ℕ → ℕ → List ℕ → Type 0) (keeps : List Entry → Type 0) (room : ℕ) (held : Held) (books : Books) (lines after : Lines) (c : ℕ) (e : StoreEnding) (past : Past)
    → Both named keeps room held books lines past → AreLines after (with_ending c e past) → IsSound (with_ending c e past) → IsPlain past → ServerStands named keeps room held books after (with_ending c e past)
stands_ended named keeps room held books lines after c e past both are sound plain = record {
  both = record { machine = stands_same named keeps room held books past (with_ending c e past) (record { naming = refl; key = refl; limit = refl; order = refl; acts = refl }) both.machine; lines_are = are };
  sound = sound;
  plain = plain;
}

-- ---- feed

-- a connection goes on up to what ends it, and no more are admitted
pub record IsOnAt (c : ℕ) (old new : Past) : Type 0 where
  pub on : new.endings c ≡ None
  pub admitted : new.admitted ≡ old.admitted

on_by : (c : ℕ) (now : ℤ) (body : List ℕ) (old new : Past) (e : StoreEnding) → old.endings c ≡ None → EndsBy c now body old new e → IsOnAt c old new
on_by c now body old new e on (taken x n moved frames g fin written) = record { on = g.goes_on; admitted = g.admitted }
on_by c now body old new e on (refused x r written) = record { on = on; admitted = refl }
on_by c now body old new e on (wants n moved frames g) = record { on = g.goes_on; admitted = g.admitted }
on_by c now body old new e on wants_first = record { on = on; admitted = refl }

pub on_at : (c : ℕ) (now : ℤ) (old : Past) (left : List ℕ) (new : Past) (e : StoreEnding) → old.endings c ≡ None → EndsAt c now old left new e → IsOnAt c old new
on_at c now old left new e on (by_frame n x body more begins short h) = on_by c now body old new e on h
on_at c now old left new e on (by_length z h written) = record { on = on; admitted = refl }
on_at c now old left new e on for_memory = record { on = on; admitted = refl }

module _ (named after_named : List ℕ → ℕ → List ℕ → Type 0) (keeps after_keeps : List Entry → Type 0) (room after_room : ℕ) (held after_held : Held) (books after_books : Books) (lines mid_lines after_lines : Lines)
    (c : ℕ) (now : ℤ) (framer : List ℕ) (piece : List ℕ) (past : Past) (st : ServerStands named keeps room held books lines past) (admitted : IsAdmitted past c) (on : past.endings c ≡ None) (same : framer ≡ past.rests c) where
  pub whole_fed : (rest : List ℕ)
      → ((new : Past) × Reaches c now (with_rest c [] past) new (framer ++ piece) rest × IsPart rest × (new.written ≡ true) × ServerStands after_named after_keeps after_room after_held after_books mid_lines new)
      → ((p : Past) → AreLines mid_lines p → IsAdmitted p c → p.endings c ≡ None → IsPart rest → AreLines after_lines (with_rest c rest p))
      → (new : Past) × ServerStands after_named after_keeps after_room after_held after_books after_lines new × Fed c now piece past new (Ok record {})
  whole_fed rest h puts =
      let inside : IsAdmitted h.0 c = record { from = admitted.from; below = rw h.1.gained.admitted admitted.below } in
      let stands = stands_rest after_named after_keeps after_room after_held after_books mid_lines after_lines h.0 h.4 c rest inside (puts h.0 h.4.both.lines_are inside h.1.gained.goes_on h.2) in (
        with_rest c rest h.0,
        stands,
        fed_whole c now framer piece past (with_rest c rest h.0) (Ok record {}) admitted same
            (fed_all c now (framer ++ piece) (with_rest c [] past) h.0 rest (subst (λ (x : List ℕ). Reaches c now (with_rest c [] past) h.0 x rest) (sym (ap (λ (x : List ℕ). x ++ (framer ++ piece)) (at_own c [] past.rests))) h.1) h.2 stands.sound h.3),
      )

  pub whole_over : (e : StoreEnding)
      → ((mid : Past) × (left : List ℕ) × AreActs mid.order mid.acts × Reaches c now (with_rest c [] past) mid (framer ++ piece) left
      × ((new : Past) × EndsAt c now mid left new e × Both after_named after_keeps after_room after_held after_books mid_lines new × IsSound (with_ending c e new)))
      → ((p : Past) → AreLines mid_lines p → IsAdmitted p c → p.endings c ≡ None → AreLines after_lines (with_ending c e p))
      → (new : Past) × ServerStands after_named after_keeps after_room after_held after_books after_lines new × Fed c now piece past new (Err e)
  whole_over e h ends =
      let at = on_at c now h.0 h.1 h.4.0 e h.3.gained.goes_on h.4.1 in
      let inside : IsAdmitted h.4.0 c = record { from = admitted.from; below = rw (at.admitted, h.3.gained.admitted) admitted.below } in
      let stands = stands_ended after_named after_keeps after_room after_held after_books mid_lines after_lines c e h.4.0 h.4.2 (ends h.4.0 h.4.2.lines_are inside at.on) h.4.3
      (plain_at c now h.0 h.1 h.4.0 e h.4.1 (plain_more (with_rest c [] past) h.0 h.3.gained.later h.3.gained.tells st.plain)) in (
        with_ending c e h.4.0,
        stands,
        fed_whole c now framer piece past (with_ending c e h.4.0) (Err e) admitted same
            (fed_ends c now (framer ++ piece) (with_rest c [] past) h.0 h.4.0 h.1 e on st.both.machine.are_acts h.2
            (subst (λ (x : List ℕ). Reaches c now (with_rest c [] past) h.0 x h.1) (sym (ap (λ (x : List ℕ). x ++ (framer ++ piece)) (at_own c [] past.rests))) h.3) h.4.1 h.4.2.machine.once h.4.3),
      )

-- ---- loss

lost_plain : (c : ℕ) (entries : List Entry) (acts : List Act) (past : Past) → IsLoss past c entries acts → IsPlain past → IsPlain (after_loss c entries acts past)
unfolding after_loss
lost_plain c entries acts past loss plain = plain_quiet past acts plain (no_outputs past c entries acts loss)

pub loses_one : (named after_named : List ℕ → ℕ → List ℕ → Type 0) (keeps after_keeps : List Entry → Type 0) (room after_room : ℕ) (held after_held : Held) (books after_books : Books) (lines after : Lines) (c : ℕ) (past : Past)
    → ServerStands named keeps room held books lines past → IsAdmitted past c
    → ((es : List Entry) × (acts : List Act) × IsLoss past c es acts × (new : Past) × (new ≡ added es acts past) × Stands after_named after_keeps after_room after_held after_books new)
    → AreLines after (with_ending c endings.Lost past)
    → (es : List Entry) × (acts : List Act) × IsLoss past c es acts × ServerStands after_named after_keeps after_room after_held after_books after (after_loss c es acts past) × (IsSound past → IsSound (after_loss c es acts past))
loses_one named after_named keeps after_keeps room after_room held after_held books after_books lines after c past st admitted h are =
    let machine = subst (λ (p : Past). Stands after_named after_keeps after_room after_held after_books p) h.4 h.5 in
    let sound = lost_sound after_named after_keeps after_room after_held after_books c h.0 h.1 past st.sound admitted h.2 machine in
    (h.0, h.1, h.2, record { both = lost_both after_named after_keeps after_room after_held after_books after c h.0 h.1 past machine are; sound = sound; plain = lost_plain c h.0 h.1 past h.2 st.plain }, λ before. sound)
