use Rattle.std.proofs.Common.{List, refl, sym, subst, rules, w64, FitsSigned}
use Rattle.std.proofs.lemmas.Int.{to_z-of_z}
use Rattle.tree_state.specs.declared.message.Output.{Output}
use Rattle.tree_state.specs.Step.{expires}
use Rattle.tree_state.specs.Trees.{Does}
use Rattle.tree_state.proofs.Connected.{next_last}
use Rattle.tree_state.proofs.Ended.{session_expired}
use Rattle.tree_state.proofs.held.Held.expire.Goals as goal

pub returns : goal.returns
returns c = record {
  step = λ naming s x means live.
      let f : FitsSigned w64 c.args.self.now.last = search rules in
      subst (λ (outputs : List Output). Does naming s (expires c.args.session c.args.now) c.end_session.new.self outputs) (sym c.of.ensures)
      (session_expired naming s x c.args.session c.args.now c.args.self.now c.end_session.new.self _ c.new-outputs.result.items c.end_session.new.outputs.items means live
      (next_last c.args.self.now.last c.args.self.now.last refl f c.requires.last) (to_z-of_z w64 c.args.session c.ranges.session)
      c.in_ok-end_session.ensures.ended c.in_ok-end_session.ensures.events c.new-outputs.ensures.items);
  memory = tt;
}
