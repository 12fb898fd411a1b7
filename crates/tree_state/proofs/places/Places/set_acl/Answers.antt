use Rattle.std.proofs.Common.{sym}
use Rattle.tree_state.proofs.Kept.{acl_counted, not_missing}
use Rattle.tree_state.proofs.places.Places.set_acl.Goals as goal

pub returns-in-Some : goal.returns-in-Some
returns-in-Some c = λ es p node h k found low. acl_counted c.args.self.now _ es c.args.path.now p node c.in-Some.node.now c.count_acl.new.self h k found low
    (sym c.in-Some.ensures.value) c.count_acl.ensures.plain c.count_acl.ensures.names (c.get_mut.follows.holds c.count_acl.new.self).0

pub returns-in_default : goal.returns-in_default
returns-in_default c = λ es p node h k found low. absurd (not_missing c.args.self.now es c.args.path.now p node h k found (sym c.in_default.ensures.value))
