use Rattle.std.proofs.Common.{FitsSigned, refl, w64}
use Rattle.std.proofs.lemmas.Int.{to_z-of_z}
use Rattle.world_core.specs.Steps.{timed}
use Rattle.world_core.proofs.KeptCalls.{kept_timed}
use Rattle.world_core.proofs.world.World.time.Goals as goal

pub returns : goal.returns
returns g c = λ k boot m st.
    let n : FitsSigned w64 c.args.now = c.ranges.now in
    (timed c.args.now m, refl, kept_timed _ k boot m c.args.now c.args.self.now.clients _ st refl refl (simp to_z-of_z at c.at-self.ensures))
