use Rattle.tree_state.proofs.Root.{root_holds}
use Rattle.tree_state.proofs.places.Places.new.Goals as goal

pub returns : goal.returns
returns c = root_holds _ c.new-nodes.result.entries c.in_ok-to_string.field-0 c.root.result c.args.creations c.in_ok-to_string.ensures.ok c.root.ensures c.requires
    c.new-nodes.ensures.empty c.in_ok-insert.ensures.entries
