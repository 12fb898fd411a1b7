-- The clauses of a feed, by what it answers.
use Rattle.std.proofs.Common.{◌≡◌, ℕ, ℤ, ◌≤◌, List, [], ◌++◌, length, Result, Ok, Err, ap, subst, ◌∙◌, pos, take, drop, min, ◌+◌, ◌-◌, ◌<◌, length-drop, ◌⊎◌, inl, inr, arith, refl}
use Rattle.std.specs.Prelude.{◌↔◌, ◌<ℤ◌}
use Rattle.std.proofs.lemmas.List.{append-nil}
use Rattle.jute_core.specs.Jute.{IsInt}
use Rattle.zk_frame.specs.Framing.{Framing, IsTooLong, IsOpen, Waits, Feeds}
use Rattle.zk_frame.specs.declared.framer.FrameFault.{FrameFault}
use Rattle.zk_frame.specs.declared.framer.FrameFault.TheVariants.{TooLong, Memory}
use Rattle.zk_frame.specs.Kept.{kept, IsKept, IsFilled}
use Rattle.zk_frame.proofs.Prefixes.{one_too_long, whole_not_long}
use Rattle.zk_frame.proofs.Feeding.{none_taken_why, open_before, partial_feeds, partial_not_long, partial_not_whole, is_too_long, IsRoom, room_of, room_feeds, room_not_long, waits_takes_none}

abbrev pub taken_answer : ℕ → Result ℕ FrameFault
taken_answer n = Ok n

abbrev pub fault_answer : FrameFault → Result ℕ FrameFault
fault_answer e = Err e

none_if_taken : (old new : Framing) (piece : List ℕ) (n : ℕ) → Feeds old new piece n → ((z : ℤ) → IsTooLong old.limit (old.held ++ piece) z → ⊥) → (Waits old → n ≡ 0) → (taken_answer n ≡ taken_answer 0) ↔ (IsOpen old × ((piece ≡ []) ⊎ Waits old))
none_if_taken old new piece n f far zero = (
  λ e. let z : n ≡ 0 = cc in (open_before old piece far, none_taken_why old new piece (subst (λ (k : ℕ). Feeds old new piece k) z f)),
  λ h. elim h.1 [
    | inl nil ↦ let z : n ≡ 0 = omega (arith, f.within, ap length nil) in ap taken_answer z
    | inr w ↦ ap taken_answer (zero w)
  ],
)

none_if_fault : (old : Framing) (piece : List ℕ) (e : FrameFault) → (IsOpen old → (piece ≡ []) ⊎ Waits old → ⊥) → (fault_answer e ≡ taken_answer 0) ↔ (IsOpen old × ((piece ≡ []) ⊎ Waits old))
none_if_fault old piece e far = (λ h. absurd (cc), λ h. absurd (far h.0 h.1))

too_long_if_taken : (old : Framing) (piece : List ℕ) (n : ℕ) → ((z : ℤ) → IsTooLong old.limit (old.held ++ piece) z → ⊥) → (z : ℤ) → (taken_answer n ≡ fault_answer (TooLong z)) ↔ IsTooLong old.limit (old.held ++ piece) z
too_long_if_taken old piece n far z = (λ h. absurd (cc), λ h. absurd (far z h))

too_long_if_long : (old : Framing) (piece : List ℕ) (w : ℤ) → IsTooLong old.limit (old.held ++ piece) w → (z : ℤ) → (fault_answer (TooLong w) ≡ fault_answer (TooLong z)) ↔ IsTooLong old.limit (old.held ++ piece) z
too_long_if_long old piece w long z = (
  λ e. let same : w ≡ z = cc in subst (λ (k : ℤ). IsTooLong old.limit (old.held ++ piece) k) same long,
  λ h. ap (λ (k : ℤ). fault_answer (TooLong k)) (one_too_long old.limit (old.held ++ piece) w z long h),
)

-- where the prefix is still partial
pub partial_none : (limit filled : ℕ) (prefix q body piece : List ℕ) (taken : ℕ) → IsKept limit filled prefix body → IsFilled filled prefix q piece taken → filled + taken < 4 → (taken_answer taken ≡ taken_answer 0) ↔ (IsOpen (kept limit filled prefix body) × ((piece ≡ []) ⊎ Waits (kept limit filled prefix body)))
partial_none limit filled prefix q body piece taken k f less = none_if_taken (kept limit filled prefix body) (kept limit (filled + taken) q body) piece taken (partial_feeds limit filled prefix q body piece taken k f less) (λ z h. partial_not_long limit filled prefix q body piece taken z k f less h) (λ w. absurd (partial_not_whole limit filled prefix q body piece taken k f less w))

pub partial_long : (limit filled : ℕ) (prefix q body piece : List ℕ) (taken : ℕ) → IsKept limit filled prefix body → IsFilled filled prefix q piece taken → filled + taken < 4 → (z : ℤ) → (taken_answer taken ≡ fault_answer (TooLong z)) ↔ IsTooLong limit ((take filled prefix ++ body) ++ piece) z
partial_long limit filled prefix q body piece taken k f less = too_long_if_taken (kept limit filled prefix body) piece taken (λ z h. partial_not_long limit filled prefix q body piece taken z k f less h)

-- where it names a length beyond the limit
pub long_none : (limit filled : ℕ) (prefix q body piece : List ℕ) (taken : ℕ) (z : ℤ) → IsKept limit filled prefix body → IsFilled filled prefix q piece taken → 4 ≤ filled + taken → IsInt z q × ((z <ℤ pos 0) ⊎ (pos limit <ℤ z)) → (fault_answer (TooLong z) ≡ taken_answer 0) ↔ (IsOpen (kept limit filled prefix body) × ((piece ≡ []) ⊎ Waits (kept limit filled prefix body)))
long_none limit filled prefix q body piece taken z k f full h = none_if_fault (kept limit filled prefix body) piece (TooLong z) (λ going why.
    let long = is_too_long limit filled prefix q body piece taken z k f full h.0 h.1 in
    elim why [
      | inl nil ↦ going z (subst (λ (l : List ℕ). IsTooLong limit l z) (ap (λ (l : List ℕ). (take filled prefix ++ body) ++ l) nil ∙ append-nil (take filled prefix ++ body)) long)
      | inr w ↦ whole_not_long limit (take filled prefix ++ body) w.0 piece z w.1 long
    ])

pub long_long : (limit filled : ℕ) (prefix q body piece : List ℕ) (taken : ℕ) (w : ℤ) → IsKept limit filled prefix body → IsFilled filled prefix q piece taken → 4 ≤ filled + taken → IsInt w q × ((w <ℤ pos 0) ⊎ (pos limit <ℤ w)) → (z : ℤ) → (fault_answer (TooLong w) ≡ fault_answer (TooLong z)) ↔ IsTooLong limit ((take filled prefix ++ body) ++ piece) z
long_long limit filled prefix q body piece taken w k f full h = too_long_if_long (kept limit filled prefix body) piece w (is_too_long limit filled prefix q body piece taken w k f full h.0 h.1)

-- where it names one within the limit
pub room_none : (limit filled : ℕ) (prefix q body piece new : List ℕ) (taken size count : ℕ) → IsKept limit filled prefix body → IsFilled filled prefix q piece taken → IsRoom limit filled q body piece new taken size count → (taken_answer (taken + count) ≡ taken_answer 0) ↔ (IsOpen (kept limit filled prefix body) × ((piece ≡ []) ⊎ Waits (kept limit filled prefix body)))
room_none limit filled prefix q body piece new taken size count k f r = none_if_taken (kept limit filled prefix body) (kept limit (filled + taken) q new) piece (taken + count) (room_feeds limit filled prefix q body piece new taken size count k f r) (λ z h. room_not_long limit filled prefix q body piece taken size z k f r.full r.is r.within h) (λ w. waits_takes_none limit filled prefix q body piece new taken size count k f r w)

pub room_long : (limit filled : ℕ) (prefix q body piece new : List ℕ) (taken size count : ℕ) → IsKept limit filled prefix body → IsFilled filled prefix q piece taken → IsRoom limit filled q body piece new taken size count → (z : ℤ) → (taken_answer (taken + count) ≡ fault_answer (TooLong z)) ↔ IsTooLong limit ((take filled prefix ++ body) ++ piece) z
room_long limit filled prefix q body piece new taken size count k f r = too_long_if_taken (kept limit filled prefix body) piece (taken + count) (λ z h. room_not_long limit filled prefix q body piece taken size z k f r.full r.is r.within h)

-- where there was no memory for the bytes of the body: then some came, and no whole frame waited
pub memory_none : (limit filled : ℕ) (prefix q body piece rest : List ℕ) (taken size len : ℕ) → IsKept limit filled prefix body → IsFilled filled prefix q piece taken → 4 ≤ filled + taken → IsInt (pos size) q × (size ≤ limit) → len ≡ length body → rest ≡ drop taken piece → 0 < min (size - len) (length rest) → (fault_answer Memory ≡ taken_answer 0) ↔ (IsOpen (kept limit filled prefix body) × ((piece ≡ []) ⊎ Waits (kept limit filled prefix body)))
memory_none limit filled prefix q body piece rest taken size len k f full is l back some = none_if_fault (kept limit filled prefix body) piece Memory (λ going why.
    let count = min (size - len) (length rest) in
    let r = room_of limit filled q body piece rest (body ++ take count rest) taken size count len full is l back (refl, refl) in
    elim why [
      | inl nil ↦ omega (arith, some, ap length back, length-drop taken piece, ap length nil)
      | inr w ↦ omega (arith, some, waits_takes_none limit filled prefix q body piece (body ++ take count rest) taken size count k f r w)
    ])
