use Rattle.std.proofs.Common.{◌∙◌, ap}
use Rattle.std.specs.Option.{option_copied}
use Rattle.world_core.proofs.KeptCalls.{read_at, read_none}
use Rattle.world_core.proofs.world.World.ending.Goals as goal

pub returns-in_err-get : goal.returns-in_err-get
returns-in_err-get g c = λ k boot m st a. absurd (read_none _ k boot m c.args.connection _ _ st a c.get.ensures (ap option_copied c.in_err-get.was))

pub returns : goal.returns
returns g c = λ k boot m st a.
    c.ending.ensures ∙ (read_at _ k boot m c.args.connection _ c.in_ok-get.field-0.now _ st c.get.ensures (ap option_copied c.in_ok-get.was)).at.ending
