use Rattle.std.proofs.Common.{[], ap}
use Rattle.path_seal.specs.Sealed.{Keys}
use Rattle.path_seal.proofs.Forms.{hashed_is}
use Rattle.path_seal.proofs.under.hashed_to.Goals as goal

pub returns : goal.returns
returns c =
    hashed_is _ c.args.keys.now.salt _ c.args.above.now (ap (λ (k : Keys). k.salt) c.keys.view_is)
    (c.update-3.ensures _ (c.update-2.ensures _ (c.update.ensures [] c.new-hashed.ensures)))
