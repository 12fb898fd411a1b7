use Rattle.reply_rewrite.specs.Children.{AreGoodBefore, AreOpened}
use Rattle.reply_rewrite.proofs.children.opened_set.Given as goal

abbrev pub invariant-loop-index : goal.invariant-loop-index
invariant-loop-index l = record { good : AreGoodBefore l.keys l.path l.stored l.index; opened : AreOpened l.keys l.path l.stored l.index l.names }
