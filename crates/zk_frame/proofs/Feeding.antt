-- What a feed answers, by the fields before and after it; the names are those of `Keeping`.
use Rattle.std.proofs.Common.{◌≡◌, ℕ, ℤ, pos, ◌+◌, ◌-◌, ◌<◌, ◌≤◌, ◌^◌, min, List, [], ◌∷◌, ◌++◌, length, take, drop, ap, sym, subst, refl, ◌∙◌, append_assoc, arith, length-append, length-drop, ◌⊎◌, inl, inr, w32}
use Rattle.std.specs.Prelude.{◌<ℤ◌, ◌≤ℤ◌}
use Rattle.std.specs.Int.RustNames.{FitsSigned}
use Rattle.std.proofs.lemmas.Int.{ints}
use Rattle.std.proofs.lemmas.List.{take-append-drop, append-nil, length-take, take_at}
use Rattle.std.proofs.Math.Seq.{take-add}
use Rattle.jute_core.specs.Frames.{frame}
use Rattle.jute_core.specs.Jute.{int_bytes, IsInt}
use Rattle.jute_core.proofs.OneSpelling.{fronts_apart}
use Rattle.zk_frame.specs.Framing.{Framing, IsWhole, IsTooLong, IsOpen, Waits, Feeds}
use Rattle.zk_frame.specs.Kept.{kept, IsKept, IsFilled}
use Rattle.zk_frame.proofs.Prefixes.{same_int, length_of_int, frame_length, not_beyond, still_too_long}
use Rattle.zk_frame.proofs.Keeping.{empty, all_taken, no_body, held_length, none_taken, same_prefix, prefix_in}

frame_fits : (n : ℕ) → n < 2 ^ 31 → FitsSigned w32 (pos n)
frame_fits n h = omega (arith, ints)

abbrev framing : ℕ → List ℕ → Framing
framing limit held = record { limit = limit; held = held }

-- the prefix is still partial: all of the piece was taken
pub partial_feeds : (limit filled : ℕ) (prefix q body piece : List ℕ) (taken : ℕ) → IsKept limit filled prefix body → IsFilled filled prefix q piece taken → filled + taken < 4 → Feeds (kept limit filled prefix body) (kept limit (filled + taken) q body) piece taken
partial_feeds limit filled prefix q body piece taken k f less = record {
  within = omega (arith, f.count);
  added = ap (framing limit) (sym (prefix_in limit filled prefix q body piece taken k f));
  stops = λ more. absurd (omega (arith, f.count));
}

pub partial_not_long : (limit filled : ℕ) (prefix q body piece : List ℕ) (taken : ℕ) (z : ℤ) → IsKept limit filled prefix body → IsFilled filled prefix q piece taken → filled + taken < 4 → IsTooLong limit ((take filled prefix ++ body) ++ piece) z → ⊥
partial_not_long limit filled prefix q body piece taken z k f less h =
    let four : length h.prefix ≡ 4 = length_of_int z h.prefix h.named in
    let none : length body ≡ 0 = ap length (no_body limit filled prefix body k (omega arith)) in
    omega (arith, f.count, four, none, held_length limit filled prefix body k, ap length h.begins, length-append (take filled prefix ++ body) piece, length-append h.prefix h.more)

-- the prefix is whole: it is the front of all bytes
pub prefix_front : (limit filled : ℕ) (prefix q body piece : List ℕ) (taken : ℕ) → IsKept limit filled prefix body → IsFilled filled prefix q piece taken → 4 ≤ filled + taken → (take filled prefix ++ body) ++ piece ≡ q ++ (body ++ drop taken piece)
prefix_front limit filled prefix q body piece taken k f full =
    let all : take (filled + taken) q ≡ q = all_taken (filled + taken) q (omega (arith, f.four, f.count, k.within)) in
    ap (λ (l : List ℕ). (take filled prefix ++ body) ++ l) (sym (take-append-drop taken piece))
    ∙ sym (append_assoc (take filled prefix ++ body) (take taken piece) (drop taken piece))
    ∙ ap (λ (l : List ℕ). l ++ drop taken piece) (prefix_in limit filled prefix q body piece taken k f ∙ ap (λ (l : List ℕ). l ++ body) all)
    ∙ append_assoc q body (drop taken piece)

-- and names a length beyond the limit: then there is no body
pub long_no_body : (limit filled : ℕ) (prefix q body piece : List ℕ) (taken : ℕ) (z : ℤ) → IsKept limit filled prefix body → IsFilled filled prefix q piece taken → IsInt z q → (z <ℤ pos 0) ⊎ (pos limit <ℤ z) → body ≡ []
long_no_body limit filled prefix q body piece taken z k f is beyond = empty body (λ some.
    let n = k.named z (subst (λ (l : List ℕ). IsInt z l) (same_prefix filled prefix q piece taken k.four f (k.whole some)) is) some in
    elim beyond [
      | inl below ↦ omega (arith, ints, below, n.0)
      | inr above ↦ omega (arith, ints, above, n.1)
    ])

pub is_too_long : (limit filled : ℕ) (prefix q body piece : List ℕ) (taken : ℕ) (z : ℤ) → IsKept limit filled prefix body → IsFilled filled prefix q piece taken → 4 ≤ filled + taken → IsInt z q → (z <ℤ pos 0) ⊎ (pos limit <ℤ z) → IsTooLong limit ((take filled prefix ++ body) ++ piece) z
is_too_long limit filled prefix q body piece taken z k f full is beyond = record {
  prefix = q;
  more = body ++ drop taken piece;
  begins = prefix_front limit filled prefix q body piece taken k f full;
  named = is;
  beyond = beyond;
}

-- its four bytes are held
pub long_holds : (limit filled : ℕ) (prefix q body piece : List ℕ) (taken : ℕ) (z : ℤ) → IsKept limit filled prefix body → IsFilled filled prefix q piece taken → 4 ≤ filled + taken → IsInt z q → (z <ℤ pos 0) ⊎ (pos limit <ℤ z) → kept limit (filled + taken) q body ≡ framing limit (take 4 ((take filled prefix ++ body) ++ piece))
long_holds limit filled prefix q body piece taken z k f full is beyond =
    let none : body ≡ [] = long_no_body limit filled prefix q body piece taken z k f is beyond in
    let all : take (filled + taken) q ≡ q = all_taken (filled + taken) q (omega (arith, f.four, f.count, k.within)) in
    let left : take (filled + taken) q ++ body ≡ q = ap (λ (l : List ℕ). take (filled + taken) q ++ l) none ∙ append-nil (take (filled + taken) q) ∙ all in
    let right : take 4 ((take filled prefix ++ body) ++ piece) ≡ q = ap (take 4) (prefix_front limit filled prefix q body piece taken k f full) ∙ take_at q (body ++ drop taken piece) 4 f.four in
    ap (framing limit) (left ∙ sym right)

-- it names a length within the limit, and bytes of the body were taken
pub record IsRoom (limit filled : ℕ) (q body piece new : List ℕ) (taken size count : ℕ) : Type 0 where
  pub full : 4 ≤ filled + taken
  pub is : IsInt (pos size) q
  pub within : size ≤ limit
  pub counted : count ≡ min (size - length body) (length (drop taken piece))
  pub added : new ≡ body ++ take count (drop taken piece)

pub room_of : (limit filled : ℕ) (q body piece rest new : List ℕ) (taken size count len : ℕ) → 4 ≤ filled + taken → IsInt (pos size) q × (size ≤ limit) → len ≡ length body → rest ≡ drop taken piece → (count ≡ min (size - len) (length rest)) × (new ≡ body ++ take count rest) → IsRoom limit filled q body piece new taken size count
room_of limit filled q body piece rest new taken size count len full is l back h = record {
  full = full;
  is = is.0;
  within = is.1;
  counted = omega (arith, h.0, l, ap length back);
  added = h.1 ∙ ap (λ (r : List ℕ). body ++ take count r) back;
}

pub no_more_than : (limit filled : ℕ) (prefix q body piece : List ℕ) (taken size : ℕ) → IsKept limit filled prefix body → IsFilled filled prefix q piece taken → IsInt (pos size) q → length body ≤ size
no_more_than limit filled prefix q [] piece taken size k f is = omega arith
no_more_than limit filled prefix q (x ∷ body) piece taken size k f is =
    let n = k.named (pos size) (subst (λ (l : List ℕ). IsInt (pos size) l) (same_prefix filled prefix q piece taken k.four f (k.whole (omega arith))) is) (omega arith) in
    omega (arith, ints, n.0)

new_length : (limit filled : ℕ) (q body piece new : List ℕ) (taken size count : ℕ) → IsRoom limit filled q body piece new taken size count → length new ≡ length body + count
new_length limit filled q body piece new taken size count r = omega (arith, ap length r.added, length-append body (take count (drop taken piece)), length-take count (drop taken piece), r.counted)

pub room_kept : (limit filled : ℕ) (prefix q body piece new : List ℕ) (taken size count : ℕ) → IsKept limit filled prefix body → IsFilled filled prefix q piece taken → IsRoom limit filled q body piece new taken size count → IsKept limit (filled + taken) q new
room_kept limit filled prefix q body piece new taken size count k f r =
    let before : length body ≤ size = no_more_than limit filled prefix q body piece taken size k f r.is in
    let after : length new ≡ length body + count = new_length limit filled q body piece new taken size count r in
    let in_size : length new ≤ size = omega (arith, r.counted) in
    record {
      four = f.four;
      within = omega (arith, f.count, k.within);
      bounded = omega (arith, r.within);
      whole = λ some. omega (arith, f.count, k.within, r.full);
      named = λ z is some.
          let e : z ≡ pos size = (same_int z (pos size) q q [] [] is r.is refl).0 in
          let fits : (pos (length new) ≤ℤ pos size) × (pos size ≤ℤ pos limit) = (omega (arith, ints), omega (arith, ints, r.within)) in
          subst (λ (w : ℤ). (pos (length new) ≤ℤ w) × (w ≤ℤ pos limit)) (sym e) fits;
    }

-- a length and so many bytes are a frame
pub room_whole : (limit : ℕ) (q new : List ℕ) (size m : ℕ) → take m q ≡ q → IsInt (pos size) q → size ≤ limit → length new ≡ size → IsWhole limit (take m q ++ new) new
unfolding frame
room_whole limit q new size m all is within e = record {
  fits = omega (arith, ints, is.0);
  within = omega arith;
  same = ap (λ (l : List ℕ). l ++ new) (all ∙ is.1 ∙ ap (λ (n : ℕ). int_bytes (pos n)) (sym e));
}

pub room_feeds : (limit filled : ℕ) (prefix q body piece new : List ℕ) (taken size count : ℕ) → IsKept limit filled prefix body → IsFilled filled prefix q piece taken → IsRoom limit filled q body piece new taken size count → Feeds (kept limit filled prefix body) (kept limit (filled + taken) q new) piece (taken + count)
room_feeds limit filled prefix q body piece new taken size count k f r =
    let before : length body ≤ size = no_more_than limit filled prefix q body piece taken size k f r.is in
    let after : length new ≡ length body + count = new_length limit filled q body piece new taken size count r in
    let all : take (filled + taken) q ≡ q = all_taken (filled + taken) q (omega (arith, f.four, f.count, k.within, r.full)) in
    let held : take (filled + taken) q ++ new ≡ (take filled prefix ++ body) ++ take (taken + count) piece =
    ap (λ (l : List ℕ). take (filled + taken) q ++ l) r.added
    ∙ sym (append_assoc (take (filled + taken) q) body (take count (drop taken piece)))
    ∙ ap (λ (l : List ℕ). l ++ take count (drop taken piece)) (sym (prefix_in limit filled prefix q body piece taken k f))
    ∙ append_assoc (take filled prefix ++ body) (take taken piece) (take count (drop taken piece))
    ∙ ap (λ (l : List ℕ). (take filled prefix ++ body) ++ l) (sym (take-add taken count piece)) in
    record {
      within = omega (arith, f.count, r.counted, length-drop taken piece);
      added = ap (framing limit) held;
      stops = λ more.
          let size_is : length new ≡ size = omega (arith, f.count, r.counted, length-drop taken piece) in
          (new, room_whole limit q new size (filled + taken) all r.is r.within size_is);
    }

pub room_not_long : (limit filled : ℕ) (prefix q body piece : List ℕ) (taken size : ℕ) (z : ℤ) → IsKept limit filled prefix body → IsFilled filled prefix q piece taken → 4 ≤ filled + taken → IsInt (pos size) q → size ≤ limit → IsTooLong limit ((take filled prefix ++ body) ++ piece) z → ⊥
room_not_long limit filled prefix q body piece taken size z k f full is within h =
    let e : z ≡ pos size = (same_int z (pos size) h.prefix q h.more (body ++ drop taken piece) h.named is (sym h.begins ∙ prefix_front limit filled prefix q body piece taken k f full)).0 in
    not_beyond z size limit e within h.beyond

-- a feed that takes nothing
pub none_taken_why : (old new : Framing) (piece : List ℕ) → Feeds old new piece 0 → (piece ≡ []) ⊎ Waits old
none_taken_why old new [] f = inl refl
none_taken_why old new (x ∷ piece) f =
    let same : new ≡ old = f.added ∙ ap (framing old.limit) (append-nil old.held) in
    inr (subst (λ (g : Framing). Waits g) same (f.stops (omega arith)))

pub open_before : (old : Framing) (piece : List ℕ) → ((z : ℤ) → IsTooLong old.limit (old.held ++ piece) z → ⊥) → IsOpen old
open_before old piece far = λ z h. far z (still_too_long old.limit old.held piece z h)

waits_full : (limit filled : ℕ) (prefix body whole : List ℕ) → IsKept limit filled prefix body → IsWhole limit (take filled prefix ++ body) whole → filled ≡ 4 → (filled ≡ 4) × IsInt (pos (length whole)) prefix × (length body ≡ length whole)
unfolding frame
waits_full limit filled prefix body whole k w full =
    let all : take filled prefix ≡ prefix = all_taken filled prefix (omega (arith, k.four)) in
    let e : prefix ++ body ≡ int_bytes (pos (length whole)) ++ whole = ap (λ (l : List ℕ). l ++ body) (sym all) ∙ w.same in
    let r = fronts_apart prefix (int_bytes (pos (length whole))) body whole k.four e in
    (full, (frame_fits (length whole) w.fits, r.0), ap length r.1)

-- where a whole frame waits, its prefix and body are those kept
pub waits_kept : (limit filled : ℕ) (prefix body whole : List ℕ) → IsKept limit filled prefix body → IsWhole limit (take filled prefix ++ body) whole → (filled ≡ 4) × IsInt (pos (length whole)) prefix × (length body ≡ length whole)
waits_kept limit filled prefix [] whole k w =
    let held : filled ≡ length whole + 4 = omega (arith, held_length limit filled prefix [] k, ap length w.same, frame_length whole) in
    let full : filled ≡ 4 = omega (arith, k.within) in
    waits_full limit filled prefix [] whole k w full
waits_kept limit filled prefix (x ∷ body) whole k w = waits_full limit filled prefix (x ∷ body) whole k w (k.whole (omega arith))

-- a partial prefix is no whole frame
pub partial_not_whole : (limit filled : ℕ) (prefix q body piece : List ℕ) (taken : ℕ) → IsKept limit filled prefix body → IsFilled filled prefix q piece taken → filled + taken < 4 → Waits (kept limit filled prefix body) → ⊥
partial_not_whole limit filled prefix q body piece taken k f less w = omega (arith, (waits_kept limit filled prefix body w.0 k w.1).0)

-- where a frame waits, a feed takes nothing
pub waits_takes_none : (limit filled : ℕ) (prefix q body piece new : List ℕ) (taken size count : ℕ) → IsKept limit filled prefix body → IsFilled filled prefix q piece taken → IsRoom limit filled q body piece new taken size count → Waits (kept limit filled prefix body) → taken + count ≡ 0
waits_takes_none limit filled prefix q body piece new taken size count k f r w =
    let p = waits_kept limit filled prefix body w.0 k w.1 in
    let none : taken ≡ 0 = none_taken filled prefix q piece taken f p.0 in
    let is : IsInt (pos size) prefix = subst (λ (l : List ℕ). IsInt (pos size) l) (same_prefix filled prefix q piece taken k.four f p.0) r.is in
    let e : pos size ≡ pos (length w.0) = (same_int (pos size) (pos (length w.0)) prefix prefix [] [] is p.1 refl).0 in
    let n : size ≡ length w.0 = cc in
    omega (arith, r.counted, p.2)
