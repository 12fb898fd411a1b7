-- How a request ends its connection.
use Rattle.std.proofs.Common.{◌≡◌, ◌≢◌, Some, None, refl, sym, ap}
use Rattle.zk_messages.specs.declared.request.Request.{Request}
use Rattle.zk_messages.specs.declared.request.Request.TheVariants as requests
use Rattle.store_side.specs.declared.ending.StoreEnding.TheVariants as endings
use Rattle.store_side.specs.Calls.{ending_by_request}

pub ends_close : (r : Request) → r ≡ requests.Close → Some endings.SessionClosed ≡ ending_by_request r
unfolding ending_by_request
ends_close r e = ap ending_by_request (sym e)

pub ends_other : (r : Request) → r ≢ requests.Close → None ≡ ending_by_request r
unfolding ending_by_request
ends_other requests.Close n = absurd (n refl)
ends_other r n = refl
