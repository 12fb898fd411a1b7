use Rattle.path_seal.proofs.Apart.{stems_are_apart}
use Rattle.path_seal.proofs.stems_apart.Goals as goal

pub returns : goal.returns
returns c = stems_are_apart
