-- A frame is spelled as a buffer is.
use Rattle.std.proofs.Common.{◌≡◌, ℕ, List, ◌++◌, Some, ap, ◌∙◌}
use Rattle.jute_core.specs.Frames.{frame}
use Rattle.jute_core.specs.Jute.{Spells, buffer}
use Rattle.jute_core.specs.Position.{Adds}

pub adds_frame : (old new body : List ℕ) → Adds old new buffer (Some body) → new ≡ old ++ frame body
unfolding Spells frame
adds_frame old new body p = p.added ∙ ap (λ (l : List ℕ). old ++ l) (p.spelled.2 ∙ ap (λ (l : List ℕ). l ++ body) p.spelled.1.1)
