use Rattle.zk_path.proofs.Numbered.{is_numbered}
use Rattle.zk_path.proofs.laws.numbered_stem.Goals as goal

pub returns : goal.returns
returns c = is_numbered
