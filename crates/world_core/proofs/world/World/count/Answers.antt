use Rattle.world_core.proofs.world.World.count.Goals as goal

pub returns : goal.returns
returns g c = λ k boot m st. c.count.ensures k boot m st.kept
