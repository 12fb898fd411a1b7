use Rattle.std.proofs.Common.{rules, tests}
use Rattle.std.proofs.lemmas.Fn.{filter_same}
use Rattle.relay_io.specs.MemoryLines.{gives_bytes}
use Rattle.relay_io.proofs.memory_line.given.Goals as goal

pub returns : goal.returns
returns c = filter_same _ gives_bytes _ (λ x b f h. search (rules, tests)) _ _ c.retain.ensures.filtered
