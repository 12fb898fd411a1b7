use Rattle.std.proofs.Common.{◌≡◌, ◌++◌, take}
use Rattle.std.specs.Prelude.{string_bytes}
use Rattle.audit_board.specs.Findings.{findings_text}
use Rattle.replay_cli.proofs.printed.push_findings.Given as goal

abbrev pub invariant-loop-finding : goal.invariant-loop-finding
invariant-loop-finding l = string_bytes l.into ≡ string_bytes l.initial.into ++ findings_text (take l.finding-index l.findings)
