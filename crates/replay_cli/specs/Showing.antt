-- How bytes are shown, frame by frame.
use Rattle.std.specs.Prelude.{◌≡◌, ℕ, ◌==◌, List, ◌++◌, Bool, Option, Some, None}
use Rattle.replay_cli.specs.declared.show.Frame.{Frame}
use Rattle.replay_cli.specs.declared.show.Ending.{Ending}
use Rattle.replay_cli.specs.declared.show.Next.{Next}
use Rattle.replay_cli.specs.declared.show.Next.TheVariants.{Whole, End}
use Rattle.replay_cli.specs.Show.{IsFrame, IsEnding, frame_text, ending_text}

-- what stands in front of the bytes
abbrev pub IsNext : Bool → List ℕ → Next → Type 0
IsNext first bytes (Whole f more) = IsFrame first f more.now bytes
IsNext first bytes (End ending) = IsEnding first ending bytes

-- a line was added: of a frame, behind which bytes are left, or the last one
abbrev pub AddsLine : ℕ → ℕ → List ℕ → List ℕ → List ℕ → Option (List ℕ) → Type 0
AddsLine number place bytes old new (Some more) = (f : Frame) × IsFrame (number == 0) f more bytes × (new ≡ old ++ frame_text number place f)
AddsLine number place bytes old new None = (ending : Ending) × IsEnding (number == 0) ending bytes × (new ≡ old ++ ending_text ending)
