use Rattle.std.specs.Map.Iter.{deref_pair}
use Rattle.std.proofs.lemmas.Map.Iter.{rest_more}
use Rattle.tree_state.proofs.CopiedMaps.{none_copied, entries_copied}
use Rattle.tree_state.proofs.CopiedPlaces.{IsEntryCopy, place_copied, copy_holds}
use Rattle.tree_state.proofs.places.Places.copy.Goals as goal

pub loop-path-init : goal.loop-path-init
loop-path-init c = none_copied IsEntryCopy c.new-nodes.result.entries c.into_iter-path-iterator.result c.args.self.now.nodes.entries c.new-nodes.ensures.empty c.into_iter-path-iterator.ensures.into_iter_gives.0

pub loop-path-preserved-in_ok-insert : goal.loop-path-preserved-in_ok-insert
loop-path-preserved-in_ok-insert c = place_copied c.loop-path.nodes.entries c.insert.new.self.entries c.loop-path.path-iterator c.next.new.self c.args.self.now.nodes.entries
    (c.in-Some.path.now, c.in-Some.node.now) c.in_ok-to_string.field-0 c.in_ok-copy.field-0 c.into_iter-path-iterator.ensures.into_iter_gives.5
    (rest_more deref_pair c.loop-path.path-iterator c.next.new.self c.next.result (c.in-Some.path, c.in-Some.node) c.in-Some.is c.next.ensures.steps)
    c.in_ok-to_string.ensures.ok c.in_ok-copy.ensures.plain c.in_ok-copy.ensures.names c.in_ok-insert.ensures.entries c.loop-path.invariant

pub loop-path-preserved : goal.loop-path-preserved
loop-path-preserved c = place_copied c.loop-path.nodes.entries c.insert.new.self.entries c.loop-path.path-iterator c.next.new.self c.args.self.now.nodes.entries
    (c.in-Some.path.now, c.in-Some.node.now) c.in_ok-to_string.field-0 c.in_ok-copy.field-0 c.into_iter-path-iterator.ensures.into_iter_gives.5
    (rest_more deref_pair c.loop-path.path-iterator c.next.new.self c.next.result (c.in-Some.path, c.in-Some.node) c.in-Some.is c.next.ensures.steps)
    c.in_ok-to_string.ensures.ok c.in_ok-copy.ensures.plain c.in_ok-copy.ensures.names c.in_ok-insert.ensures.entries c.loop-path.invariant

pub returns : goal.returns
returns c = copy_holds c.args.self.now (record { nodes = c.loop-path.nodes })
    (entries_copied IsEntryCopy c.loop-path.nodes.entries c.loop-path.path-iterator c.args.self.now.nodes.entries c.in-None.ensures.steps.0 c.loop-path.invariant)
