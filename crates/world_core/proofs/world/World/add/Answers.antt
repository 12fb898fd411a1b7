use Rattle.std.proofs.Common.{refl}
use Rattle.world_core.specs.Steps.{added}
use Rattle.world_core.proofs.SoundStores.{sound_added}
use Rattle.world_core.proofs.KeptCalls.{next_fresh, next_unpulled}
use Rattle.world_core.proofs.world.World.add.Goals as goal

pub returns : goal.returns
returns g c = record {
  number = λ k boot m st.
      let h = c.in-Ok.ensures.number m.past st.store_stands in (
        added m,
        (h.0, refl),
        record {
          store_stands = h.1;
          kept = c.in_ok-add.ensures k boot m st.kept h.0 (next_fresh k boot m c.in-Ok.number st.sound h.0) (next_unpulled k boot m c.in-Ok.number st.sound h.0);
          sound = sound_added k boot m st.sound;
        },
      );
}
