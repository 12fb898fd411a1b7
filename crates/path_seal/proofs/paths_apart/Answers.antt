use Rattle.path_seal.proofs.Apart.{path_apart}
use Rattle.path_seal.proofs.paths_apart.Goals as goal

pub returns : goal.returns
returns c = path_apart
