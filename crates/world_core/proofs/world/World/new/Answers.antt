use Rattle.std.proofs.Common.{arith}
use Rattle.world_core.proofs.SoundOpening.{sound_opening}
use Rattle.world_core.proofs.world.World.new.Goals as goal

pub returns : goal.returns
returns g c = λ past st new sound names. record {
  store_stands = st;
  kept = c.new.ensures past new.admitted;
  sound = sound_opening c.args.keys c.args.boot past c.are_keys.ensures (omega (arith, c.epoch.ensures)) names sound new;
}
