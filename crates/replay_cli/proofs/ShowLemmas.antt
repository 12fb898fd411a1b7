-- Frames that are shown, one after another.
use Rattle.std.proofs.Common.{◌≡◌, ℕ, ◌+◌, ◌-◌, ◌<◌, ◌≤◌, List, [], ◌∷◌, ◌++◌, length, refl, sym, ap, subst, ◌∙◌, append_assoc, arith, length-append, Some, None}
use Rattle.std.specs.Prelude.{◌==◌, Bool}
use Rattle.jute_core.specs.Frames.{frame}
use Rattle.zk_frame.proofs.Prefixes.{frame_length}
use Rattle.replay_cli.specs.declared.show.Frame.{Frame}
use Rattle.replay_cli.specs.declared.show.Ending.{Ending}
use Rattle.replay_cli.specs.Show.{IsFrame, IsEnding, AreFrames, frame_text, ending_text, frames_text, ShowsFrom}
use Rattle.replay_cli.specs.Showing.{AddsLine}

-- a frame in front is its bytes, and four for the length
pub frame_size : (first : Bool) (f : Frame) (more left : List ℕ) → IsFrame first f more left → length left ≡ 4 + f.size + length more
frame_size first f more left is = omega (arith, ap length is.begins.cut, frame_length is.begins.body, length-append (frame is.begins.body) more, is.size_is)

pub shows_more : (number place : ℕ) (f : Frame) (more bytes text : List ℕ) → IsFrame (number == 0) f more bytes → ShowsFrom (number + 1) (place + 4 + f.size) more text
    → ShowsFrom number place bytes (frame_text number place f ++ text)
unfolding AreFrames frames_text
shows_more number place f more bytes text is h = record {
  frames = f ∷ h.frames;
  ending = h.ending;
  are = (more, is, h.are);
  text_is = ap (λ (l : List ℕ). frame_text number place f ++ l) h.text_is;
}

pub shows_end : (number place : ℕ) (ending : Ending) (bytes : List ℕ) → IsEnding (number == 0) ending bytes → ShowsFrom number place bytes (ending_text ending)
unfolding AreFrames frames_text
shows_end number place ending bytes is = record { frames = []; ending = ending; are = is; text_is = refl }

-- To show the bytes comes to the same as to have printed these lines, and to show what is left behind so many frames
pub record SameShow (bytes : List ℕ) (number : ℕ) (left printed : List ℕ) : Type 0 where
  pub within : number + length left ≤ length bytes
  pub on : (text : List ℕ) → ShowsFrom number (length bytes - length left) left text → ShowsFrom 0 0 bytes (printed ++ text)

pub same_start : (bytes printed : List ℕ) → printed ≡ [] → SameShow bytes 0 bytes printed
same_start bytes printed none = record {
  within = omega arith;
  on = λ text h. subst (λ (l : List ℕ). ShowsFrom 0 0 bytes (l ++ text)) (sym none) (subst (λ (place : ℕ). ShowsFrom 0 place bytes text) (omega arith) h);
}

pub same_more : (bytes : List ℕ) (number : ℕ) (left more old new : List ℕ) → AddsLine number (length bytes - length left) left old new (Some more) → SameShow bytes number left old
    → SameShow bytes (number + 1) more new
same_more bytes number left more old new adds same =
    let f = adds.0 in
    let size = frame_size (number == 0) f more left adds.1 in
    let within = same.within in
    record {
      within = omega (arith, size, within);
      on = λ text h.
          let here : length bytes - length more ≡ length bytes - length left + 4 + f.size = omega (arith, size, within) in
          let moved = subst (λ (p : ℕ). ShowsFrom (number + 1) p more text) here h in
          subst (λ (l : List ℕ). ShowsFrom 0 0 bytes l)
          (sym (append_assoc old (frame_text number (length bytes - length left) f) text) ∙ ap (λ (l : List ℕ). l ++ text) (sym adds.2))
          (same.on _ (shows_more number (length bytes - length left) f more left text adds.1 moved));
    }

pub same_end : (bytes : List ℕ) (number : ℕ) (left old new : List ℕ) → AddsLine number (length bytes - length left) left old new None → SameShow bytes number left old → ShowsFrom 0 0 bytes new
same_end bytes number left old new adds same =
    subst (λ (l : List ℕ). ShowsFrom 0 0 bytes l) (sym adds.2) (same.on _ (shows_end number (length bytes - length left) adds.0 left adds.1))

pub shorter : (number place : ℕ) (left more old new : List ℕ) → AddsLine number place left old new (Some more) → length more < length left
shorter number place left more old new adds = let size = frame_size (number == 0) adds.0 more left adds.1 in omega (arith, size)
