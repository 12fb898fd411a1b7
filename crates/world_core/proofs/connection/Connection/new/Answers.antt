use Rattle.std.proofs.Common.{refl}
use Rattle.world_core.proofs.ConnectionKeeps.{keeps_fresh}
use Rattle.world_core.proofs.connection.Connection.new.Goals as goal

pub returns : goal.returns
returns c = λ k boot number keys boot_is number_is at.
    keeps_fresh k boot number _ keys boot_is number_is at c.new.ensures.items refl c.new-2.ensures.items refl c.new-3.ensures.items refl
