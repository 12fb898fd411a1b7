-- What a command that was read says of its words.
use Rattle.std.specs.Prelude.{◌≡◌}
use Rattle.replay_cli.specs.Words.{Words, word, IsReplay, IsHostile, IsShow, IsStress}
use Rattle.replay_cli.specs.declared.words.Command.{Command}
use Rattle.replay_cli.specs.declared.words.Command.TheVariants.{Replay, Hostile, Show, Stress}

abbrev pub IsCommand : Words → Command → Type 0
IsCommand words (Replay key script) = IsReplay words × (key.now ≡ word words 1) × (script.now ≡ word words 2)
IsCommand words (Hostile key script) = IsHostile words × (key.now ≡ word words 1) × (script.now ≡ word words 2)
IsCommand words (Show file) = IsShow words × (file.now ≡ word words 1)
IsCommand words (Stress seed sessions steps) = IsStress words seed sessions steps
