use Rattle.world_core.proofs.ConnectionLists.{connection_read}
use Rattle.world_core.proofs.clients.Clients.get.Goals as goal

pub returns : goal.returns
returns c = connection_read c.args.self.now.connections c.deref.result.now c.args.connection c.place.result c.get.result c.deref.ensures.value c.place.ensures
    c.get.ensures.lookup.0 c.get.ensures.lookup.1
