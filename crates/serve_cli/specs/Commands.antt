-- What a command that was read says of its words.
use Rattle.std.specs.Prelude.{◌≡◌}
use Rattle.replay_cli.specs.Words.{Words, word}
use Rattle.serve_cli.specs.Words.{IsProxy, IsStore}
use Rattle.serve_cli.specs.declared.words.Command.{Command}
use Rattle.serve_cli.specs.declared.words.Command.TheVariants.{Proxy, Store}

abbrev pub IsCommand : Words → Command → Type 0
IsCommand words (Proxy key boot listen store) = IsProxy words boot × (key.now ≡ word words 1) × (listen.now ≡ word words 3)
    × (store.now ≡ word words 4)
IsCommand words (Store key listen) = IsStore words × (key.now ≡ word words 1) × (listen.now ≡ word words 2)
