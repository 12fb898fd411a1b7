-- Frames that are counted.
use Rattle.std.proofs.Common.{◌≡◌, ℕ, ◌+◌, ◌<◌, ◌≤◌, List, [], ◌∷◌, ◌++◌, length, length-append, drop, refl, sym, ap, ◌∙◌, append_assoc, arith, All}
use Rattle.std.specs.List.{flat_map}
use Rattle.std.proofs.lemmas.List.{drop_all}
use Rattle.std.proofs.lemmas.List.Elements.{All-cons, All-nil}
use Rattle.jute_core.specs.Frames.{FitsFrame, IsRest, Stream, frame}
use Rattle.zk_frame.proofs.Prefixes.{frame_length}
use Rattle.replay_cli.specs.Summary.{with_body, with_bodies, with_received}
use Rattle.replay_cli.specs.declared.tally.Tally.{Tally}

-- bytes that begin with no frame are a rest
pub no_frames : (bytes : List ℕ) → IsRest bytes → Stream [] bytes bytes
no_frames bytes rest = record { whole = refl; each = All-nil FitsFrame; partial = rest }

-- a frame, and a stream behind it
pub more_frames : (body more bytes : List ℕ) (bodies : List (List ℕ)) (rest : List ℕ) → FitsFrame body → bytes ≡ frame body ++ more → Stream bodies rest more → Stream (body ∷ bodies) rest bytes
more_frames body more bytes bodies rest fits cut s = record {
  whole = cut ∙ ap (λ (l : List ℕ). frame body ++ l) s.whole ∙ sym (append_assoc (frame body) (flat_map frame bodies) rest);
  each = All-cons FitsFrame body bodies fits s.each;
  partial = s.partial;
}

-- what was counted of bytes, where these are left and this was counted by then
pub record Counts (received left : List ℕ) (before now : Tally) : Type 0 where
  pub goes_on : (bodies : List (List ℕ)) (rest : List ℕ) → Stream bodies rest left → (all : List (List ℕ)) × Stream all rest received × (with_received before all ≡ with_bodies now bodies)

pub first_frame : (received body left : List ℕ) (t : Tally) → FitsFrame body → received ≡ frame body ++ left → Counts received left t t
unfolding with_received
first_frame received body left t fits cut = record { goes_on = λ bodies rest s. (body ∷ bodies, more_frames body left received bodies rest fits cut s, refl) }

pub next_frame : (received left body more : List ℕ) (t now after : Tally) → Counts received left t now → FitsFrame body → left ≡ frame body ++ more → after ≡ with_body now body → Counts received more t after
unfolding with_bodies
next_frame received left body more t now after c fits cut is = record {
  goes_on = λ bodies rest s.
      let so = c.goes_on (body ∷ bodies) rest (more_frames body more left bodies rest fits cut s) in
      (so.0, so.1, so.2 ∙ ap (λ (x : Tally). with_bodies x bodies) (sym is));
}

pub last_frame : (received left : List ℕ) (t now : Tally) → Counts received left t now → IsRest left → (all : List (List ℕ)) × (rest : List ℕ) × Stream all rest received × (now ≡ with_received t all)
unfolding with_bodies
last_frame received left t now c rest = let so = c.goes_on [] left (no_frames left rest) in (so.0, left, so.1, sym so.2)

pub no_frame : (received : List ℕ) (t : Tally) → IsRest received → (all : List (List ℕ)) × (rest : List ℕ) × Stream all rest received × (t ≡ with_received t all)
unfolding with_received
no_frame received t rest = ([], received, no_frames received rest, refl)

pub shorter : (left body more : List ℕ) → left ≡ frame body ++ more → length more < length left
shorter left body more cut = omega (arith, ap length cut, length-append (frame body) more, frame_length body)

pub code_behind : (body : List ℕ) → length body < 12 → drop 12 body ≡ []
code_behind body short = drop_all 12 body (omega (arith, short))
