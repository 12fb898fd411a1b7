use Rattle.std.proofs.Common.{List, drop}
use Rattle.tree_state.specs.declared.message.Output.{Output}
use Rattle.tree_state.specs.Commands.{AreTextsOf}
use Rattle.tree_state.specs.Nodes.{Path, Place}
use Rattle.tree_state.specs.State.{Watch}
use Rattle.tree_state.specs.Step.{Noticed}
use Rattle.tree_state.specs.Places.{Holds}
use Rattle.tree_state.specs.Noticing.{AreNoticed, list_noticed}
use Rattle.tree_state.proofs.Notices.{Ahead}
use Rattle.tree_state.proofs.noticing.notice_list.Given as goal

abbrev pub invariant-loop-path : goal.invariant-loop-path
invariant-loop-path l =
    (es : List Place) (start : List Watch) (told : List Output) (t : Noticed) (ps : List Path) → Holds l.places es → AreTextsOf l.fn.paths ps
    → AreNoticed l.asker.connection start told t l.fn.watches l.fn.added.items l.fn.outputs.items
    → Ahead l.asker.connection start told l.interest l.asker.seen es (drop l.path-index l.path-items) (list_noticed l.interest l.asker.seen es l.asker.connection ps t)
    l.watches l.added.items l.outputs.items
