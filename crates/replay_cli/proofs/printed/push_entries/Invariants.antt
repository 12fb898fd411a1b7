use Rattle.std.proofs.Common.{◌≡◌, ◌++◌, take}
use Rattle.std.specs.Prelude.{string_bytes}
use Rattle.replay_cli.specs.Printed.{entries_text}
use Rattle.replay_cli.proofs.printed.push_entries.Given as goal

abbrev pub invariant-loop-entry : goal.invariant-loop-entry
invariant-loop-entry l = string_bytes l.into ≡ string_bytes l.initial.into ++ entries_text (take l.entry-index l.order)
