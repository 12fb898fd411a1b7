use Rattle.tree_server.proofs.Framed.{frame_counted}
use Rattle.tree_server.proofs.sending.frame_length.Goals as goal

pub returns : goal.returns
returns c = frame_counted _ _ _ c.message_length.ensures c.saturating_add.ensures
