use Rattle.std.proofs.Common.{◌∙◌, rules}
use Rattle.std.specs.Map.Iter.{deref}
use Rattle.std.proofs.lemmas.Map.Iter.{rest_more}
use Rattle.tree_state.proofs.Copied.{one_copied, all_copied}
use Rattle.tree_state.proofs.node.Node.child_names.Goals as goal

pub loop-name-init : goal.loop-name-init
loop-name-init c = search rules

pub loop-name-preserved : goal.loop-name-preserved
loop-name-preserved c =
    rw (c.in_ok-push.ensures.items) (one_copied _ _ c.loop-name.name-iterator c.next.new.self c.in-Some.name.now c.in_ok-copy_of.field-0 c.loop-name.invariant
    (rest_more deref c.loop-name.name-iterator c.next.new.self c.next.result c.in-Some.name c.in-Some.is c.next.ensures.steps) (c.in_ok-copy_of.ensures ∙ c.deref.ensures))

pub returns : goal.returns
returns c = c.of.ensures ∙ all_copied _ _ c.loop-name.name-iterator c.loop-name.invariant c.in-None.ensures.steps.0
