use Rattle.std.proofs.Common.{◌∙◌, ap}
use Rattle.std.specs.Option.{option_copied}
use Rattle.world_core.proofs.KeptCalls.{read_at, read_none}
use Rattle.world_core.proofs.world.World.handed_up.Goals as goal

pub returns-in-Some : goal.returns-in-Some
returns-in-Some g c = λ k boot m st a.
    c.handed.ensures ∙ (read_at _ k boot m c.args.connection _ c.in-Some.found.now _ st c.get.ensures (ap option_copied c.in-Some.is)).handed

pub returns-in-None : goal.returns-in-None
returns-in-None g c = λ k boot m st a. absurd (read_none _ k boot m c.args.connection _ _ st a c.get.ensures (ap option_copied c.in-None.is))
