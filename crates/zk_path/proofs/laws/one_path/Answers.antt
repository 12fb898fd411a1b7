use Rattle.zk_path.proofs.Judged.{one_text}
use Rattle.zk_path.proofs.laws.one_path.Goals as goal

pub returns : goal.returns
returns c = one_text
