-- What a take answers, by the fields before it; the names are those of `Keeping`.
use Rattle.std.proofs.Common.{◌≡◌, ℕ, ℤ, pos, ◌+◌, ◌<◌, ◌≤◌, List, [], ◌∷◌, ◌++◌, length, take, ap, sym, subst, ◌∙◌, arith, length-append, ◌⊎◌, inl, inr}
use Rattle.std.specs.Prelude.{◌<ℤ◌}
use Rattle.std.proofs.lemmas.Int.{ints}
use Rattle.jute_core.specs.Frames.{frame, IsRest}
use Rattle.jute_core.specs.Jute.{IsInt}
use Rattle.zk_frame.specs.Framing.{IsWhole}
use Rattle.zk_frame.specs.Kept.{IsKept}
use Rattle.zk_frame.proofs.Prefixes.{int_of_frame, frame_length}
use Rattle.zk_frame.proofs.Keeping.{all_taken, no_body, held_length}
use Rattle.zk_frame.proofs.Feeding.{room_whole}

-- a partial prefix begins no frame
pub partial_rest : (limit filled : ℕ) (prefix body : List ℕ) → IsKept limit filled prefix body → filled < 4 → IsRest (take filled prefix ++ body)
partial_rest limit filled prefix body k less = λ whole more fits e.
    let none : length body ≡ 0 = ap length (no_body limit filled prefix body k less) in
    omega (arith, none, held_length limit filled prefix body k, ap length e, length-append (frame whole) more, frame_length whole)

all_prefix : (limit filled : ℕ) (prefix body : List ℕ) → IsKept limit filled prefix body → 4 ≤ filled → take filled prefix ≡ prefix
all_prefix limit filled prefix body k full = all_taken filled prefix (omega (arith, k.four, k.within))

-- nor does a length beyond the limit, of which no body is held
pub long_rest : (limit filled : ℕ) (prefix body : List ℕ) (z : ℤ) → IsKept limit filled prefix body → 4 ≤ filled → IsInt z prefix × ((z <ℤ pos 0) ⊎ (pos limit <ℤ z)) → IsRest (take filled prefix ++ body)
long_rest limit filled prefix body z k full h = λ whole more fits e.
    let r = int_of_frame z prefix body whole more h.0 fits (ap (λ (l : List ℕ). l ++ body) (sym (all_prefix limit filled prefix body k full)) ∙ e) in
    let size : length body ≡ length whole + length more = omega (arith, ap length r.1, length-append whole more) in
    elim (subst (λ (w : ℤ). (w <ℤ pos 0) ⊎ (pos limit <ℤ w)) r.0 h.1) [
      | inl below ↦ omega (arith, ints, below)
      | inr above ↦ omega (arith, ints, above, k.bounded, size)
    ]

no_more : (limit filled : ℕ) (prefix body : List ℕ) (size : ℕ) → IsKept limit filled prefix body → IsInt (pos size) prefix → length body ≤ size
no_more limit filled prefix [] size k is = omega arith
no_more limit filled prefix (x ∷ body) size k is = omega (arith, ints, (k.named (pos size) is (omega arith)).0)

-- nor a body that is not whole
pub short_rest : (limit filled : ℕ) (prefix body : List ℕ) (size len : ℕ) → IsKept limit filled prefix body → 4 ≤ filled → IsInt (pos size) prefix × (size ≤ limit) → len ≡ length body → (size ≡ len → ⊥) → IsRest (take filled prefix ++ body)
short_rest limit filled prefix body size len k full is l far = λ whole more fits e.
    let r = int_of_frame (pos size) prefix body whole more is.0 fits (ap (λ (l : List ℕ). l ++ body) (sym (all_prefix limit filled prefix body k full)) ∙ e) in
    let same : size ≡ length whole = let s = r.0 in cc in
    let held : length body ≡ length whole + length more = omega (arith, ap length r.1, length-append whole more) in
    far (omega (arith, l, same, held, no_more limit filled prefix body size k is.0))

-- a whole one waits
pub waits : (limit filled : ℕ) (prefix body : List ℕ) (size : ℕ) → IsKept limit filled prefix body → 4 ≤ filled → IsInt (pos size) prefix × (size ≤ limit) → size ≡ length body → IsWhole limit (take filled prefix ++ body) body
waits limit filled prefix body size k full is same =
    room_whole limit prefix body size filled (all_prefix limit filled prefix body k full) is.0 is.1 (omega arith)
