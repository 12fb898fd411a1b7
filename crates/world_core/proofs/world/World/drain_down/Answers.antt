use Rattle.std.proofs.Common.{refl}
use Rattle.world_core.specs.Steps.{Down}
use Rattle.world_core.specs.declared.amount.Amount.{Amount as PlainAmount}
use Rattle.world_core.proofs.SoundCalls.{stays_down}
use Rattle.world_core.proofs.KeptCalls.{gone_all, gone_none, gone_on}
use Rattle.world_core.proofs.world.World.drain_down.Goals as goal

pub loop-connection-init : goal.loop-connection-init
loop-connection-init g c = λ k boot m st. gone_none (λ c. Down k boot c PlainAmount.All) _ k boot _ _ _ m st (c.count-count.ensures k boot m st.kept) refl

pub loop-connection-preserved : goal.loop-connection-preserved
loop-connection-preserved g c = λ k boot m st. gone_on (λ c. Down k boot c PlainAmount.All) _ _ k boot _ _ _ _ _ m (c.loop-connection.invariant k boot m st) c.loop-connection-test.true refl
    (λ n sn a. c.in_ok-pass_down.ensures k boot n sn a)
    (λ n o sn a p. (stays_down k boot n o _ PlainAmount.All sn.sound a p).admitted)

pub returns : goal.returns
returns g c = λ k boot m st. gone_all (λ c. Down k boot c PlainAmount.All) _ k boot _ _ _ m (c.loop-connection.invariant k boot m st) c.loop-connection-test.false
