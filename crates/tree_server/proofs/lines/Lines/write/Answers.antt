use Rattle.std.proofs.Common.{◌∙◌, refl, arith}
use Rattle.tree_server.proofs.Telling.{write_none, write_more, write_stop, write_all}
use Rattle.tree_server.proofs.lines.Lines.write.Goals as goal

pub loop-self-init : goal.loop-self-init
loop-self-init c = write_none _

pub loop-self-preserved : goal.loop-self-preserved
loop-self-preserved c =
    write_more _ _ _ _ _ c.loop-self.invariant (record {
      same = c.as_slice.ensures;
      within =
          omega (arith, c.len.ensures, c.loop-self-test.true);
      is = c.index-as_slice-self.is;
    })
    c.in_ok-tell.ensures.ok refl refl

pub returns-in_err-tell-clause-writes : goal.returns-in_err-tell-clause-writes
returns-in_err-tell-clause-writes c = write_stop _ _ _ c.loop-self.invariant c.in_err-tell.ensures.err refl refl

pub returns-clause-writes : goal.returns-clause-writes
returns-clause-writes c =
    write_all _ _ _ c.loop-self.invariant (omega (arith, c.len.ensures, c.loop-self-test.false)) refl (c.of.ensures ∙ c.new.ensures.items)
