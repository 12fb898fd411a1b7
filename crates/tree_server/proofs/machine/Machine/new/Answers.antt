use Rattle.std.proofs.Common.{sym, subst}
use Rattle.tree_state.specs.Trees.{IsNaming}
use Rattle.tree_server.proofs.Fresh.{stands_fresh}
use Rattle.tree_server.proofs.machine.Machine.new.Goals as goal

pub returns : goal.returns
returns g c = λ naming nm kept.
    stands_fresh _ (g.J.Keeping.keeps c.args.journal) _ _ c.new-2.result naming c.args.passwords c.args.limit c.new-2.ensures
    (subst (λ n. IsNaming (g.N.Numberer.named n) naming) (sym c.in_ok-new.ensures.numberer) nm) c.in_ok-new.ensures.start kept c.requires
