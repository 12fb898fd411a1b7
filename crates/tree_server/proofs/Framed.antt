-- A frame that is written before its length is known, in whose place four bytes stand till then.
use Rattle.std.proofs.Common.{◌≡◌, ℕ, ℤ, pos, ◌+◌, ◌-◌, ◌≤◌, ◌^◌, min, List, ◌++◌, length, length-append, take, drop, append_assoc, refl, sym, ap, ◌∙◌, subst, to_z, of_z, arith}
use Rattle.std.proofs.lemmas.Int.{to_z-of_z, ints}
use Rattle.std.proofs.lemmas.List.{take_at, drop_at}
use Rattle.std.specs.Int.{w32}
use Rattle.std.specs.Int.RustNames.{FitsSigned}
use Rattle.jute_core.specs.Frames.{frame}
use Rattle.jute_core.specs.Jute.{int, int_bytes}
use Rattle.jute_core.specs.Position.{Adds}
use Rattle.zk_frame.proofs.Prefixes.{frame_length}
use Rattle.zk_messages.specs.Sending.{AddsBytes}
use Rattle.zk_messages.proofs.Sizes.{spelled_size}
use Rattle.tree_state.specs.declared.message.Message.{Message}
use Rattle.store_side.specs.Fitting.{CanBeSent}
use Rattle.store_side.specs.Messages.{SpellsMessage}
use Rattle.store_side.specs.Sending.{AddsFrame}

-- the four bytes and the body stand there
pub length_room : (old begun written : List ℕ) (at : ℕ) (m : Message) → at ≡ length old → Adds old begun int (pos 0)
    → AddsBytes begun written (SpellsMessage m) → at + 4 ≤ length written
length_room old begun written at m e room body =
    omega (
      arith,
      e,
      ap length room.added,
      length-append old room.bytes,
      spelled_size int
          (pos 0) room.bytes room.spelled,
      ap length body.added,
      length-append begun body.bytes,
    )

-- with the length in place
put_length : (old four b written : List ℕ) (at : ℕ) (x : List ℕ) → at ≡ length old → length four ≡ 4 → written ≡ (old ++ four) ++ b
    → (take at written ++ x) ++ drop (at + 4) written ≡ old ++ (x ++ b)
put_length old four b written at x e k w =
    let front : take at written ≡ old = ap (take at) (w ∙ append_assoc old four b) ∙ take_at old (four ++ b) at (sym e) in
    let back : drop (at + 4) written ≡ b = ap (drop (at + 4)) w
    ∙ drop_at (old ++ four) b (at + 4) (omega (arith, length-append old four)) in
    rw (front, back, append_assoc old x b) refl

pub frame_put : (old begun written new : List ℕ) (at end body : ℕ) (z : ℤ) (m : Message) → at ≡ length old → Adds old begun int (pos 0)
    → body ≡ length begun
    → AddsBytes begun written (SpellsMessage m) → end ≡ length written → FitsSigned w32 (pos (end - body)) → z ≡ pos (end - body)
    → new ≡ (take at written ++ int_bytes (to_z w32 (of_z w32 z))) ++ drop (at + 4) written → AddsFrame old new m
unfolding frame
frame_put old begun written new at end body z m e room b put en fits is n =
    let four : length room.bytes ≡ 4 = spelled_size int (pos 0) room.bytes room.spelled in
    let size : end - body ≡ length put.bytes = omega (arith, b, en, ap length put.added, length-append begun put.bytes) in
    let whole : z ≡ pos (length put.bytes) = is ∙ ap pos size in
    let within : FitsSigned w32 (pos (length put.bytes)) = subst (λ (k : ℕ). FitsSigned w32 (pos k)) size fits in
    let back : to_z w32 (of_z w32 z) ≡ pos (length put.bytes) = rw whole (to_z-of_z w32 (pos (length put.bytes)) within) in
    record {
      body = put.bytes;
      spelled = put.is;
      fits = omega (arith, ints, within);
      added = n ∙ ap (λ (y : ℤ). (take at written ++ int_bytes y) ++ drop (at + 4) written) back
          ∙ put_length old room.bytes put.bytes written at (int_bytes (pos (length put.bytes))) e four
          (put.added ∙ ap (λ (l : List ℕ). l ++ put.bytes) room.added);
    }

-- the four bytes and the body, of which there are so many
pub frame_counted : (m : Message) (n size : ℕ) → (CanBeSent m → (body : List ℕ) × SpellsMessage m body × (n ≡ length body))
    → size ≡ min (n + 4) (2 ^ 64 - 1)
    → CanBeSent m → (body : List ℕ) × SpellsMessage m body × (size ≡ length (frame body))
frame_counted m n size counted is can =
    let b = counted can in
    (b.0, b.1, omega (arith, is, b.2, frame_length b.0, can.fits b.0 b.1))
