use Rattle.request_rewrite.proofs.Once.{veiled_once}
use Rattle.request_rewrite.proofs.veiled_once.Goals as goal

pub returns : goal.returns
returns c = veiled_once
