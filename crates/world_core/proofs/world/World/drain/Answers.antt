use Rattle.world_core.proofs.KeptCalls.{drained}
use Rattle.world_core.proofs.world.World.drain.Goals as goal

pub returns : goal.returns
returns g c = λ k boot m st.
    let u = c.in_ok-drain_up.ensures k boot m st in
    drained _ k boot _ m u.0 st.sound u.1 (c.in_ok-drain_down.ensures k boot u.0 u.2)
