use Rattle.std.proofs.Common.{ap, length, refl, arith}
use Rattle.tree_server.proofs.Telling.{hold_none, hold_more, hold_all}
use Rattle.tree_server.proofs.lines.Lines.hold_rest.Goals as goal

pub loop-place-init : goal.loop-place-init
loop-place-init c = hold_none _

pub loop-place-preserved : goal.loop-place-preserved
loop-place-preserved c =
    hold_more _ _ _ _ _ _ c.loop-place.invariant
    (record {
      same = c.as_slice.ensures;
      within = omega (
        arith,
        c.len-place-end.ensures,
        c.loop-place-test.true,
        ap length
            c.loop-place.invariant.unwritten,
      );
      is = c.index-as_slice-place.is;
    })
    c.hold.ensures refl refl

pub returns : goal.returns
returns c = hold_all _ _ _ c.loop-place.invariant (omega (arith, c.len-place-end.ensures, c.loop-place-test.false))
