use Rattle.std.proofs.Common.{FitsSigned, ap, rules, w64}
use Rattle.std.specs.Prelude.{is_ok}
use Rattle.std.proofs.lemmas.Int.{to_z-of_z}
use Rattle.world_core.proofs.KeptCalls.{kept_ticked}
use Rattle.world_core.proofs.world.World.tick.Goals as goal

pub returns : goal.returns
returns g c = λ k boot m st.
    let n : FitsSigned w64 c.milliseconds.result = search rules in
    kept_ticked _ (g.S.StoreSide.stands c.tick.new.self) k boot m c.args.self.now.clients c.milliseconds.result _ st c.milliseconds.ensures.same (ap is_ok c.in_ok-tick.was)
    ((simp to_z-of_z at c.tick.ensures) m.past st.store_stands)
