-- The calls that end the sessions whose time is up.
use Rattle.std.proofs.Common.{◌≡◌, ◌⊎◌, ◌↔◌, ℕ, ℤ, ◌<ℤ◌, Bool, true, false, List, [], ◌∷◌, ◌++◌, length, Option, Some, None, Contains, refl, sym, subst, inl, inr, append-nil, arith}
use Rattle.std.proofs.lemmas.List.Elements.{All-contains, All-contains_itself, All-nil}
use Rattle.std.specs.Option.{option_or}
use Rattle.tree_state.specs.declared.held.Held.{Held}
use Rattle.tree_state.specs.State.{session_of}
use Rattle.store_side.specs.declared.entry.Entry.{Entry}
use Rattle.store_side.specs.declared.ending.StoreEnding.{StoreEnding}
use Rattle.store_side.specs.Orders.{IsOver}
use Rattle.store_side.specs.Past.{Past, state_of}
use Rattle.store_side.specs.Follows.{IsSound}
use Rattle.store_side.specs.Calls.{AreExpired, IsAscending, Ticked, ended_by_expiry}
use Rattle.tree_server.specs.declared.books.Books.{Books}
use Rattle.tree_server.specs.declared.lines.Lines.{Lines}
use Rattle.tree_server.specs.Connections.{AreLines}
use Rattle.tree_server.specs.Servers.{ServerStands, ExpiresOne}
use Rattle.tree_server.proofs.Gains.{HoldsNone, lines_hold}
use Rattle.tree_server.proofs.SamePast.{stands_same}
use Rattle.tree_server.proofs.SoundCalls.{sound_written}
use Rattle.tree_server.proofs.Ticks.{TicksTo, ticks_none, ticks_more, ticked_all, ticked_front}

-- so far: where the server stands, the sessions that ended and those that are left
pub record TicksSoFar (named : List ℕ → ℕ → List ℕ → Type 0) (keeps : List Entry → Type 0) (room : ℕ) (held : Held) (books : Books)
    (lines : Lines) (now : ℤ) (past : Past) (left : List ℤ) : Type 0 where
  pub mid : Past
  pub done : List ℤ
  pub ticks : TicksTo now past mid done left
  pub written : mid.written ≡ true
  pub stands : ServerStands named keeps room held books lines mid

-- no number is left where none comes
pub no_numbers : (ns : List ℤ) (n : ℕ) → n ≡ length ns → n ≡ 0 → ns ≡ []
no_numbers [] n h k = refl
no_numbers (x ∷ xs) n h k = absurd (omega (arith, h, k))

-- nothing ends where no session does
none_ended : (o : Option StoreEnding) (session : Option ℤ) → option_or o (ended_by_expiry [] session) ≡ o
unfolding ended_by_expiry
none_ended None None = refl
none_ended None (Some n) = refl
none_ended (Some e) session = refl

-- at once there was no memory
none_ticked : (now : ℤ) (past : Past) (written : Bool) → HoldsNone past → IsSound (record past { written = written })
    → Ticked now past (record past { written = written }) false
unfolding AreExpired IsAscending
none_ticked now past written holds sound = record {
  later = record {
    naming = refl;
    key = refl;
    limit = refl;
    admitted = omega arith;
    entries = [];
    order = sym (append-nil past.order);
    more_acts = [];
    acts = sym (append-nil past.acts);
    more_told = λ d. [];
    told = λ d. sym (append-nil (past.told d));
    more_pulled = λ d. [];
    pulled = λ d. sym (append-nil (past.pulled d));
    more_bytes = λ d. [];
    bytes = λ d. sym (append-nil (past.pulled d ++ past.waiting d));
    endings = λ d e h. h;
  };
  sound = λ before. sound;
  admitted = refl;
  pulled = λ d. refl;
  numbers = [];
  ascending = tt;
  expired = tt;
  up = λ n at. absurd (All-contains (λ (m : ℤ). ⊥) [] n (All-nil (λ (m : ℤ). ⊥)) at);
  first = λ n over. inr (refl, All-nil (λ (m : ℤ). m <ℤ n));
  endings = λ d. sym (none_ended (past.endings d) (session_of d (state_of past).sessions));
  rests = holds;
  written = λ all. absurd cc;
}

module _ (named : List ℕ → ℕ → List ℕ → Type 0) (keeps : List Entry → Type 0) (room : ℕ) (held : Held) (books : Books)
    (lines after_lines : Lines) (now : ℤ) (past : Past)
    (st : ServerStands named keeps room held books lines past) where
  -- where memory was wanting at once, whatever was written
  pub ticks_nothing : (written : Bool) → AreLines after_lines (record past { written = written })
      → (new : Past) × ServerStands named keeps room held books after_lines new × Ticked now past new false
  ticks_nothing written are =
      let new : Past = record past { written = written } in (
        new,
        record {
          both = record {
            machine = stands_same named keeps room held books past new
                (record { naming = refl; key = refl; limit = refl; order = refl; acts = refl }) st.both.machine;
            lines_are = are;
          };
          sound = sound_written past written st.sound;
          plain = st.plain;
        },
        none_ticked now past written (lines_hold lines past st.both.lines_are) (sound_written past written st.sound),
      )

  -- the sessions whose time is up are left
  pub ticks_start : (numbers left : List ℤ) → AreLines after_lines (record past { written = true }) → left ≡ numbers → IsAscending numbers
      → ((n : ℤ) → Contains numbers n ↔ IsOver (state_of past) n now)
      → TicksSoFar named keeps room held books after_lines now past left
  ticks_start numbers left are same ascending over = subst
      (λ (l : List ℤ). TicksSoFar named keeps room held books after_lines now past l) (sym same) (record {
        mid = record past { written = true };
        done = [];
        ticks = ticks_none now past numbers ascending over (lines_hold lines past st.both.lines_are);
        written = refl;
        stands = record {
          both = record {
            machine = stands_same named keeps room held books past (record past { written = true })
                (record { naming = refl; key = refl; limit = refl; order = refl; acts = refl }) st.both.machine;
            lines_are = are;
          };
          sound = sound_written past true st.sound;
          plain = st.plain;
        };
      })

module _ (named after_named : List ℕ → ℕ → List ℕ → Type 0) (keeps after_keeps : List Entry → Type 0) (room after_room : ℕ)
    (held after_held : Held) (books after_books : Books) (lines after_lines : Lines)
    (now : ℤ) (past : Past) (n : ℤ) (from left : List ℤ) (so_far : TicksSoFar named keeps room held books lines now past from)
    (first : from ≡ n ∷ left) where
  ticks : TicksTo now past so_far.mid so_far.done (n ∷ left)
  ticks = subst (λ (l : List ℤ). TicksTo now past so_far.mid so_far.done l) first so_far.ticks

  its_time : IsOver (state_of so_far.mid) n now
  its_time = (ticks.still n).0 (All-contains_itself (n ∷ left) 0 n (omega arith))

  -- the next one ended
  pub ticks_on : ((p : Past) → ServerStands named keeps room held books lines p → p.written ≡ true → IsOver (state_of p) n now
      → (new : Past) × ExpiresOne n now p new ×
      (new.written ≡ true) × ServerStands after_named after_keeps after_room after_held after_books after_lines new)
      → TicksSoFar after_named after_keeps after_room after_held after_books after_lines now past left
  ticks_on ends =
      let e = ends so_far.mid so_far.stands so_far.written its_time in
      record {
        mid = e.0;
        done = so_far.done ++ n ∷ [];
        ticks = ticks_more now past so_far.mid e.0 so_far.done left n ticks e.1;
        written = e.2;
        stands = e.3;
      }

  -- it did not, or what is told of that is not written
  pub ticks_stop : ((p : Past) → ServerStands named keeps room held books lines p → p.written ≡ true → IsOver (state_of p) n now
      → ServerStands after_named after_keeps after_room after_held after_books after_lines p
      ⊎ ((new : Past) × ExpiresOne n now p new × ServerStands after_named after_keeps after_room after_held after_books after_lines new))
      → (new : Past) × ServerStands after_named after_keeps after_room after_held after_books after_lines new × Ticked now past new false
  ticks_stop stops = elim (stops so_far.mid so_far.stands so_far.written its_time) [
    | inl st ↦ (so_far.mid, st, ticked_front now past so_far.mid so_far.done (n ∷ left) ticks st.sound)
    | inr e ↦ (
      e.0,
      e.2,
      ticked_front now past e.0 (so_far.done ++ n ∷ []) left (ticks_more now past so_far.mid e.0 so_far.done left n ticks e.1) e.2.sound,
    )
  ]

-- all of them ended
pub ticks_end : (named : List ℕ → ℕ → List ℕ → Type 0) (keeps : List Entry → Type 0) (room : ℕ) (held : Held) (books : Books)
    (lines : Lines) (now : ℤ) (past : Past) (left : List ℤ)
    → TicksSoFar named keeps room held books lines now past left → left ≡ []
    → (new : Past) × ServerStands named keeps room held books lines new × Ticked now past new true
ticks_end named keeps room held books lines now past left so_far none = (
  so_far.mid,
  so_far.stands,
  ticked_all now past so_far.mid so_far.done
      (subst (λ (l : List ℤ). TicksTo now past so_far.mid so_far.done l) none so_far.ticks) so_far.stands.sound so_far.written,
)
