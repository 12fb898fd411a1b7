use Rattle.zk_path.proofs.Judged.{one_stem_text}
use Rattle.zk_path.proofs.laws.one_stem.Goals as goal

pub returns : goal.returns
returns c = one_stem_text
