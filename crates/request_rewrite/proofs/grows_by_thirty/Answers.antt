use Rattle.request_rewrite.proofs.Growth.{grows_by_thirty}
use Rattle.request_rewrite.proofs.grows_by_thirty.Goals as goal

pub returns : goal.returns
returns c = grows_by_thirty
