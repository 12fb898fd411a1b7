-- What is written, held or over of a connection leaves a sound store sound.
use Rattle.std.proofs.Common.{◌≡◌, ℕ, Bool, true, false, cond, List, [], Option, Some, refl}
use Rattle.std.specs.Prelude.{◌==◌, is_some}
use Rattle.store_side.specs.declared.ending.StoreEnding.{StoreEnding}
use Rattle.store_side.specs.Past.{Past}
use Rattle.store_side.specs.Follows.{IsAdmitted, IsSound}
use Rattle.store_side.specs.Calls.{with_at}
use Rattle.store_side.proofs.SoundCalls.{apart_from, at_other, sound_same}
use Rattle.tree_server.specs.Connections.{with_ending, with_rest}

pub sound_written : (p : Past) (written : Bool) → IsSound p → IsSound (record p { written = written })
sound_written p written h = sound_same p (record p { written = written }) (record {
  order = refl;
  acts = refl;
  naming = refl;
  key = refl;
  limit = refl;
  told = λ c. refl;
  bytes = λ c. refl;
  goes_on = λ c on. on;
  outside = λ c apart. record { outside = λ inside. apart (record { from = inside.from; below = inside.below }); told = refl; pulled = refl; waiting = refl; rest = refl; ending = refl };
}) h

pub sound_rest : (c : ℕ) (rest : List ℕ) (p : Past) → IsAdmitted p c → IsSound p → IsSound (with_rest c rest p)
sound_rest c rest p inside h = sound_same p (with_rest c rest p) (record {
  order = refl;
  acts = refl;
  naming = refl;
  key = refl;
  limit = refl;
  told = λ d. refl;
  bytes = λ d. refl;
  goes_on = λ d on. on;
  outside = λ d apart.
      let outside : IsAdmitted p d → ⊥ = λ at. apart (record { from = at.from; below = at.below }) in
      record { outside = outside; told = refl; pulled = refl; waiting = refl; rest = at_other c d rest p.rests (apart_from p c d inside outside); ending = refl };
}) h

still_on : (c d : ℕ) (e : StoreEnding) (f : ℕ → Option StoreEnding) (b : Bool) → is_some (cond b (Some e) (f d)) ≡ false → is_some (f d) ≡ false
still_on c d e f true h = absurd cc
still_on c d e f false h = h

pub sound_ending : (c : ℕ) (e : StoreEnding) (p : Past) → IsAdmitted p c → IsSound p → IsSound (with_ending c e p)
unfolding with_at
sound_ending c e p inside h = sound_same p (with_ending c e p) (record {
  order = refl;
  acts = refl;
  naming = refl;
  key = refl;
  limit = refl;
  told = λ d. refl;
  bytes = λ d. refl;
  goes_on = λ d on. still_on c d e p.endings (d == c) on;
  outside = λ d apart.
      let outside : IsAdmitted p d → ⊥ = λ at. apart (record { from = at.from; below = at.below }) in
      let other = apart_from p c d inside outside in
      record { outside = outside; told = refl; pulled = refl; waiting = refl; rest = at_other c d [] p.rests other; ending = at_other c d (Some e) p.endings other };
}) h
