-- What the prefix of some bytes names.
use Rattle.std.proofs.Common.{◌≡◌, ℕ, ℤ, pos, ◌+◌, ◌<◌, ◌≤◌, ◌^◌, List, [], ◌++◌, length, ap, sym, subst, refl, ◌∙◌, append_assoc, arith, ◌⊎◌, inl, inr, w32}
use Rattle.std.specs.Prelude.{◌<ℤ◌}
use Rattle.std.specs.Int.RustNames.{FitsSigned}
use Rattle.std.proofs.lemmas.Int.{ints}
use Rattle.std.proofs.lemmas.List.{append-nil}
use Rattle.jute_core.specs.Frames.{frame, FitsFrame}
use Rattle.jute_core.specs.Jute.{int_bytes, IsInt}
use Rattle.jute_core.proofs.OneSpelling.{ints_apart}
use Rattle.zk_frame.specs.Framing.{IsWhole, IsTooLong}

-- two ints at the front
pub same_int : (z w : ℤ) (p q x y : List ℕ) → IsInt z p → IsInt w q → p ++ x ≡ q ++ y → (z ≡ w) × (x ≡ y)
same_int z w p q x y f g e = ints_apart z w x y f.0 g.0 (ap (λ (l : List ℕ). l ++ x) (sym f.1) ∙ e ∙ ap (λ (l : List ℕ). l ++ y) g.1)

length_fits : (n : ℕ) → n < 2 ^ 31 → FitsSigned w32 (pos n)
length_fits n h = omega (arith, ints)

pub length_of_int : (z : ℤ) (p : List ℕ) → IsInt z p → length p ≡ 4
length_of_int z p f = ap length f.1

-- the int at the front of a frame
pub frame_int : (body : List ℕ) → FitsFrame body → IsInt (pos (length body)) (int_bytes (pos (length body)))
frame_int body fits = (length_fits (length body) fits, refl)

pub frame_cut : (body x : List ℕ) → frame body ++ x ≡ int_bytes (pos (length body)) ++ (body ++ x)
unfolding frame
frame_cut body x = append_assoc (int_bytes (pos (length body))) body x

pub frame_length : (body : List ℕ) → length (frame body) ≡ length body + 4
unfolding frame
frame_length body = omega arith

-- bytes that begin with an int and with a frame
pub int_of_frame : (z : ℤ) (p x body y : List ℕ) → IsInt z p → FitsFrame body → p ++ x ≡ frame body ++ y → (z ≡ pos (length body)) × (x ≡ body ++ y)
int_of_frame z p x body y f fits e = same_int z (pos (length body)) p (int_bytes (pos (length body))) x (body ++ y) f (frame_int body fits) (e ∙ frame_cut body y)

-- a length within the limit is not beyond it
pub not_beyond : (z : ℤ) (n limit : ℕ) → z ≡ pos n → n ≤ limit → (z <ℤ pos 0) ⊎ (pos limit <ℤ z) → ⊥
not_beyond z n limit e le h = elim (subst (λ (k : ℤ). (k <ℤ pos 0) ⊎ (pos limit <ℤ k)) e h) [
  | inl below ↦ omega (arith, ints, below)
  | inr above ↦ omega (arith, ints, above)
]

-- a whole frame is not too long, whatever follows
pub whole_not_long : (limit : ℕ) (held body piece : List ℕ) (z : ℤ) → IsWhole limit held body → IsTooLong limit (held ++ piece) z → ⊥
whole_not_long limit held body piece z w h =
    let r = int_of_frame z h.prefix h.more body piece h.named w.fits (sym h.begins ∙ ap (λ (l : List ℕ). l ++ piece) w.same) in
    not_beyond z (length body) limit r.0 w.within h.beyond

pub whole_is_open : (limit : ℕ) (held body : List ℕ) (z : ℤ) → IsWhole limit held body → IsTooLong limit held z → ⊥
whole_is_open limit held body z w h = whole_not_long limit held body [] z w (subst (λ (l : List ℕ). IsTooLong limit l z) (sym (append-nil held)) h)

-- what is too long stays so
pub still_too_long : (limit : ℕ) (held piece : List ℕ) (z : ℤ) → IsTooLong limit held z → IsTooLong limit (held ++ piece) z
still_too_long limit held piece z h = record {
  prefix = h.prefix;
  more = h.more ++ piece;
  begins = ap (λ (l : List ℕ). l ++ piece) h.begins ∙ append_assoc h.prefix h.more piece;
  named = h.named;
  beyond = h.beyond;
}

-- in one way
pub one_too_long : (limit : ℕ) (bytes : List ℕ) (z w : ℤ) → IsTooLong limit bytes z → IsTooLong limit bytes w → z ≡ w
one_too_long limit bytes z w h k = (same_int z w h.prefix k.prefix h.more k.more h.named k.named (sym h.begins ∙ k.begins)).0
