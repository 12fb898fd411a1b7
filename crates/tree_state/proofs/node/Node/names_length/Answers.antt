use Rattle.std.proofs.Common.{rules, length, ap, arith}
use Rattle.std.specs.Map.Iter.{deref}
use Rattle.std.proofs.lemmas.Map.Iter.{rest_more}
use Rattle.tree_state.proofs.Copied.{one_counted, all_counted}
use Rattle.tree_state.proofs.node.Node.names_length.Goals as goal

pub loop-name-init : goal.loop-name-init
loop-name-init c = search rules

pub loop-name-preserved : goal.loop-name-preserved
loop-name-preserved c = (
  rw (c.saturating_add-length.ensures, c.saturating_add.ensures) (one_counted _ _ _ c.loop-name.name-iterator c.next.new.self c.in-Some.name.now c.loop-name.invariant.0
      (rest_more deref c.loop-name.name-iterator c.next.new.self c.next.result c.in-Some.name c.in-Some.is c.next.ensures.steps) (ap length c.as_str.ensures.value)),
  omega arith,
)

pub returns : goal.returns
returns c = all_counted c.loop-name.length c.args.self.now.names.keys c.loop-name.name-iterator c.loop-name.invariant.1 c.loop-name.invariant.0 c.in-None.ensures.steps.0
