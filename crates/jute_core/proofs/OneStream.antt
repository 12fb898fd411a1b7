-- A list of bytes is a stream of frames in one way.
use Rattle.std.proofs.Common.{◌≡◌, ℕ, List, [], ◌∷◌, ◌++◌, refl, sym, ◌∙◌, append_assoc}
use Rattle.std.specs.List.{flat_map, All}
use Rattle.std.proofs.lemmas.List.Elements.{All-head, All-tail}
use Rattle.jute_core.specs.Frames.{frame, FitsFrame, IsRest}
use Rattle.jute_core.specs.Jute.{IsSized}
use Rattle.jute_core.specs.Laws.{HasOneStream}
use Rattle.jute_core.proofs.OneSpelling.{sized_apart}

-- a frame is the spelling of a buffer
pub frame_is_sized : (body : List ℕ) → FitsFrame body → IsSized body (frame body)
unfolding frame
frame_is_sized body fits = (_, (fits, refl), refl)

-- two frames at the front
pub one_frame : (a b x y : List ℕ) → FitsFrame a → FitsFrame b → frame a ++ x ≡ frame b ++ y → (a ≡ b) × (x ≡ y)
one_frame a b x y f g e =
    let r = sized_apart a b (frame a) (frame b) x y (frame_is_sized a f) (frame_is_sized b g) e in
    (r.0, r.2)

streams_apart : (fs gs : List (List ℕ)) (r s : List ℕ) → All FitsFrame fs → All FitsFrame gs → IsRest r → IsRest s → flat_map frame fs ++ r ≡ flat_map frame gs ++ s → (fs ≡ gs) × (r ≡ s)
streams_apart [] [] r s p q h k e = (refl, e)
streams_apart [] (g ∷ gs) r s p q h k e = absurd (h g (flat_map frame gs ++ s) (All-head FitsFrame g gs q) (e ∙ append_assoc (frame g) (flat_map frame gs) s))
streams_apart (f ∷ fs) [] r s p q h k e = absurd (k f (flat_map frame fs ++ r) (All-head FitsFrame f fs p) (sym e ∙ append_assoc (frame f) (flat_map frame fs) r))
streams_apart (f ∷ fs) (g ∷ gs) r s p q h k e =
    let u = one_frame f g (flat_map frame fs ++ r) (flat_map frame gs ++ s) (All-head FitsFrame f fs p) (All-head FitsFrame g gs q) (sym (append_assoc (frame f) (flat_map frame fs) r) ∙ e ∙ append_assoc (frame g) (flat_map frame gs) s) in
    let v = streams_apart fs gs r s (All-tail FitsFrame f fs p) (All-tail FitsFrame g gs q) h k u.1 in
    (cc, v.1)

pub one_stream : (b : List ℕ) → HasOneStream b
one_stream b fs gs r s p q = streams_apart fs gs r s p.each q.each p.partial q.partial (sym p.whole ∙ q.whole)
