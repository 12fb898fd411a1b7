use Rattle.world_core.proofs.ConnectionLists.{none_kept}
use Rattle.world_core.proofs.clients.Clients.new.Goals as goal

pub returns : goal.returns
returns c = λ past admitted. none_kept c.args.keys c.args.boot _ past c.new.ensures c.start.ensures c.new-2.ensures.items admitted
