use Rattle.std.proofs.Common.{sym}
use Rattle.tree_state.proofs.Kept.{content_changed, not_missing}
use Rattle.tree_state.proofs.places.Places.set_content.Goals as goal

pub returns-in-Some : goal.returns-in-Some
returns-in-Some c = λ es p node h k found low short. content_changed c.args.self.now _ es c.args.path.now p node c.args.at.now c.args.content c.in-Some.node.now c.set_content.new.self h k found low short
    (sym c.in-Some.ensures.value) c.set_content.ensures.plain c.set_content.ensures.names (c.get_mut.follows.holds c.set_content.new.self).0

pub returns-in_default : goal.returns-in_default
returns-in_default c = λ es p node h k found low short. absurd (not_missing c.args.self.now es c.args.path.now p node h k found (sym c.in_default.ensures.value))
