use Rattle.std.proofs.Common.{ℕ, List, None, length, drop}
use Rattle.std.specs.Prelude.{◌↔◌, All}
use Rattle.std.specs.List.{AllZip}
use Rattle.zk_messages.specs.Refuses.{RefusesOp}
use Rattle.tree_state.specs.Commands.{Change, IsChange}
use Rattle.tree_state.specs.State.{State}
use Rattle.tree_state.specs.Changes.{Naming}
use Rattle.tree_state.specs.Multis.{SoFar}
use Rattle.tree_state.specs.Trees.{Means, IsMoment, IsNaming}
use Rattle.tree_state.proofs.held.Held.perform_all.Given as goal

abbrev pub invariant-loop-op : goal.invariant-loop-op
invariant-loop-op g l = record {
  names : (stem : List ℕ) (number : ℕ) (text : List ℕ) → g.N.Numberer.named l.numberer stem number text ↔ g.N.Numberer.named l.fn.numberer stem number text;
  done : (naming : Naming) (s : State) (changes : List Change) → Means l.fn.self s → IsMoment s l.at → IsNaming (g.N.Numberer.named l.fn.numberer) naming → All (λ op. RefusesOp op None) l.ops → AllZip IsChange l.ops changes
      → SoFar naming l.at s changes l.self l.fn.outputs l.outputs l.results.items (drop l.op-index l.ops) (length l.ops);
}
