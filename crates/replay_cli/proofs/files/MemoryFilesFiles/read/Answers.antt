use Rattle.std.proofs.Common.{inl, rules}
use Rattle.replay_cli.proofs.files.MemoryFilesFiles.read.Goals as goal

pub returns-then-contains-clause-state : goal.returns-then-contains-clause-state
returns-then-contains-clause-state c = (inl (search rules), search rules)
