-- The first part of whole frames is whole frames and a part of one, and bytes are such in one way.
use Rattle.std.proofs.Common.{◌≡◌, ◌≢◌, ◌≤◌, ◌<◌, ℕ, List, [], ◌∷◌, ◌++◌, length, refl, sym, ap, subst, ◌∙◌, arith, append_assoc, length-append, inl, inr}
use Rattle.std.specs.Prelude.{All}
use Rattle.std.proofs.lemmas.Bool.{cases_lt}
use Rattle.std.proofs.lemmas.List.Elements.{All-nil, All-cons, All-head, All-tail}
use Rattle.jute_core.specs.Frames.{frame, FitsFrame, IsRest, Stream}
use Rattle.jute_core.proofs.OneStream.{one_frame}
use Rattle.entry_session.specs.Sides.{bytes_of}
use Rattle.session_law.proofs.Pieces.{AreWhole, frame_filled}

-- ---- bytes in two parts

pub record Longer (a b x z : List ℕ) : Type 0 where
  pub more : List ℕ
  pub first : x ≡ a ++ more
  pub last : b ≡ more ++ z

cut_longer : (a b x z : List ℕ) → a ++ b ≡ x ++ z → length a ≤ length x → Longer a b x z
cut_longer [] b x z e h = record { more = x; first = refl; last = e }
cut_longer (p ∷ a) b [] z e h = absurd (omega (arith, h))
cut_longer (p ∷ a) b (q ∷ x) z e h =
    let same : p ≡ q = cc in
    let tail : a ++ b ≡ x ++ z = cc in
    let l = cut_longer a b x z tail (omega (arith, h)) in
    record { more = l.more; first = (λ i. sym same i ∷ l.first i); last = l.last }

-- ---- a first part of frames

pub rest_of_none : IsRest []
rest_of_none body more fits e = frame_filled body more (sym e)

pub record HasStream (bytes : List ℕ) : Type 0 where
  pub bodies : List (List ℕ)
  pub rest : List ℕ
  pub stream : Stream bodies rest bytes

empty_first : (x z : List ℕ) → [] ≡ x ++ z → x ≡ []
empty_first [] z e = refl
empty_first (q ∷ x) z e = absurd cc

-- bytes that are shorter than the frame with which they go on are a part of it
part_of : (b more x z : List ℕ) → FitsFrame b → frame b ++ more ≡ x ++ z → length x < length (frame b) → IsRest x
part_of b more x z fits e short body after fits_body cut =
    let other : frame b ++ more ≡ frame body ++ (after ++ z) = e ∙ ap (λ (l : List ℕ). l ++ z) cut ∙ append_assoc (frame body) after z in
    let same = (one_frame b body more (after ++ z) fits fits_body other).0 in
    absurd (omega (arith, short, ap length cut, length-append (frame body) after, ap (λ (l : List ℕ). length (frame l)) same))

pub prefix_stream : (up : List (List ℕ)) (x z : List ℕ) → AreWhole up → bytes_of up ≡ x ++ z → HasStream x
unfolding AreWhole
prefix_stream [] x z w e = record {
  bodies = [];
  rest = [];
  stream = record { whole = empty_first x z e; each = All-nil FitsFrame; partial = rest_of_none };
}
prefix_stream (b ∷ bs) x z w e = elim (cases_lt (length x) (length (frame b))) [
  | inl short ↦ record {
    bodies = [];
    rest = x;
    stream = record { whole = refl; each = All-nil FitsFrame; partial = part_of b (bytes_of bs) x z w.0 e short };
  }
  | inr long ↦
      let l = cut_longer (frame b) (bytes_of bs) x z e (omega (arith, long)) in
      let s = prefix_stream bs l.more z w.1 l.last in
      record {
        bodies = b ∷ s.bodies;
        rest = s.rest;
        stream = record {
          whole = l.first ∙ ap (λ (r : List ℕ). frame b ++ r) s.stream.whole ∙ sym (append_assoc (frame b) (bytes_of s.bodies) s.rest);
          each = All-cons FitsFrame b s.bodies w.0 s.stream.each;
          partial = s.stream.partial;
        };
      }
]

-- ---- in one way

-- the frames behind those with which the bytes begin
pub record StreamBehind (all bodies : List (List ℕ)) (rest left : List ℕ) : Type 0 where
  pub more : List (List ℕ)
  pub cut : all ≡ bodies ++ more
  pub stream : Stream more rest left

pub stream_behind : (bodies all : List (List ℕ)) (rest bytes left : List ℕ) → Stream all rest bytes → AreWhole bodies → bytes ≡ bytes_of bodies ++ left
    → StreamBehind all bodies rest left
unfolding AreWhole
stream_behind [] all rest bytes left s w e = record { more = all; cut = refl; stream = subst (Stream all rest) e s }
stream_behind (b ∷ bs) [] rest bytes left s w e =
    absurd (s.partial b (bytes_of bs ++ left) w.0 (sym s.whole ∙ e ∙ append_assoc (frame b) (bytes_of bs) left))
stream_behind (b ∷ bs) (a ∷ as_) rest bytes left s w e =
    let fits = All-head FitsFrame a as_ s.each in
    let both = one_frame a b (bytes_of as_ ++ rest) (bytes_of bs ++ left) fits w.0
    (sym (append_assoc (frame a) (bytes_of as_) rest) ∙ sym s.whole ∙ e ∙ append_assoc (frame b) (bytes_of bs) left) in
    let t = stream_behind bs as_ rest (bytes_of as_ ++ rest) left
    (record { whole = refl; each = All-tail FitsFrame a as_ s.each; partial = s.partial }) w.1 both.1 in
    record { more = t.more; cut = (λ i. both.0 i ∷ t.cut i); stream = t.stream }

-- where no whole frame begins the bytes, there is none
pub none_behind : (more : List (List ℕ)) (rest left : List ℕ) → Stream more rest left → IsRest left → (more ≡ []) × (left ≡ rest)
none_behind [] rest left s partial = (refl, s.whole)
none_behind (b ∷ bs) rest left s partial =
    absurd (partial b (bytes_of bs ++ rest) (All-head FitsFrame b bs s.each) (s.whole ∙ append_assoc (frame b) (bytes_of bs) rest))
