use Rattle.std.proofs.Common.{FitsSigned, w64, rules, ◌∙◌}
use Rattle.std.proofs.lemmas.Int.{to_z-of_z}
use Rattle.tree_state.specs.Nodes.{ephemerals}
use Rattle.tree_state.proofs.held.Held.copy.Goals as goal

pub returns : goal.returns
returns c = λ s means.
    let f : FitsSigned w64 c.args.self.now.last = search rules in
    record {
      places = c.in_ok-copy.ensures s.nodes means.places;
      sessions = c.in_ok-copy-2.ensures s.sessions (λ session. ephemerals session s.nodes) means.sessions;
      owners = means.owners;
      numbers = means.numbers;
      watches = c.in_ok-copy-3.ensures s.watches means.watches;
      last = to_z-of_z w64 c.args.self.now.last f ∙ means.last;
    }
