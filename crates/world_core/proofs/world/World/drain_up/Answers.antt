use Rattle.std.proofs.Common.{refl}
use Rattle.world_core.specs.Steps.{Up}
use Rattle.world_core.specs.declared.amount.Amount.{Amount as PlainAmount}
use Rattle.world_core.proofs.SoundCalls.{stays_up}
use Rattle.world_core.proofs.KeptCalls.{gone_all, gone_none, gone_on}
use Rattle.world_core.proofs.world.World.drain_up.Goals as goal

pub loop-connection-init : goal.loop-connection-init
loop-connection-init g c = λ k boot m st. gone_none (λ c. Up k boot c PlainAmount.All PlainAmount.All) _ k boot _ _ _ m st (c.count-count.ensures k boot m st.kept) refl

pub loop-connection-preserved : goal.loop-connection-preserved
loop-connection-preserved g c = λ k boot m st. gone_on (λ c. Up k boot c PlainAmount.All PlainAmount.All) _ _ k boot _ _ _ _ _ m (c.loop-connection.invariant k boot m st) c.loop-connection-test.true refl
    (λ n sn a. c.in_ok-pass_up.ensures k boot n sn a)
    (λ n o sn a p. (stays_up k boot n o _ PlainAmount.All PlainAmount.All sn.sound a p).admitted)

pub returns : goal.returns
returns g c = λ k boot m st. gone_all (λ c. Up k boot c PlainAmount.All PlainAmount.All) _ k boot _ _ _ m (c.loop-connection.invariant k boot m st) c.loop-connection-test.false
