-- The parts of a short request.
use Rattle.std.proofs.Common.{◌≡◌, All, Bool, true, false, List, subst}
use Rattle.zk_records.specs.declared.create.CreateRequest.{CreateRequest}
use Rattle.zk_messages.specs.Short.{IsShort, IsShortContent, HasShortOpParts, HasShortParts}
use Rattle.zk_messages.specs.declared.request.Op.{Op}
use Rattle.zk_messages.specs.declared.request.Request.{Request}
use Rattle.zk_messages.specs.declared.request.Request.TheVariants as requests
use Rattle.tree_state.proofs.Answering.{creation}

pub short_create : (r : Request) (w : Bool) (x : CreateRequest) → r ≡ creation w x → HasShortParts r → IsShort x.path × IsShortContent x.content
unfolding HasShortParts
short_create r false x e h = subst HasShortParts e h
short_create r true x e h = subst HasShortParts e h

pub short_multi : (r : Request) (list : List Op) → r ≡ requests.Multi list → HasShortParts r → All HasShortOpParts list
unfolding HasShortParts
short_multi r list e h = subst HasShortParts e h
