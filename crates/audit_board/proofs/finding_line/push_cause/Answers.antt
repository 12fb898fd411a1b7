use Rattle.std.proofs.Common.{refl, append_assoc}
use Rattle.audit_board.proofs.finding_line.push_cause.Goals as goal

pub returns-in-MultiCount-clause-text : goal.returns-in-MultiCount-clause-text
returns-in-MultiCount-clause-text c =
    rw (c.in-MultiCount.is, c.push_count-in-MultiCount-2.ensures.text, c.push_count-in-MultiCount.ensures.text) (simp append_assoc)

pub returns-in-MultiKind-clause-text : goal.returns-in-MultiKind-clause-text
returns-in-MultiKind-clause-text c = rw (c.in-MultiKind.is, c.push_count-in-MultiKind.ensures.text) refl
