use Rattle.std.proofs.Common.{List, String, Global, w64, sym, subst}
use Rattle.std.proofs.lemmas.Int.{to_z-of_z}
use Rattle.tree_state.specs.Sessions.{OwnTexts}
use Rattle.tree_state.proofs.SessionsEnded.{ended_paths}
use Rattle.tree_state.proofs.SessionsKept.{must_be_found}
use Rattle.tree_state.proofs.session.Sessions.ephemerals.Goals as goal

pub returns-in-Some : goal.returns-in-Some
returns-in-Some c = λ xs owned x keeps live.
    subst (λ (texts : List (String Global)). OwnTexts texts (owned c.args.session)) (sym c.as_slice.ensures.value)
    (ended_paths c.args.self.now _ c.args.session c.in-Some.live.now xs owned (to_z-of_z w64 c.args.session c.ranges.session) c.in-Some.ensures.value keeps)

pub returns-in-None : goal.returns-in-None
returns-in-None c = λ xs owned x keeps live.
    absurd (must_be_found c.args.self.now _ c.args.session x xs owned (to_z-of_z w64 c.args.session c.ranges.session) c.in-None.ensures.value keeps live)
