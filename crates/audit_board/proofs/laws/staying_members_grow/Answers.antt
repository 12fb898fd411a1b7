use Rattle.audit_board.proofs.GrowingLemmas.{staying_members_grow}
use Rattle.audit_board.proofs.laws.staying_members_grow.Goals as goal

pub returns : goal.returns
returns g c = staying_members_grow _ _
