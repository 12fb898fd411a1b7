use Rattle.request_rewrite.proofs.Written.{writable_when_veiled}
use Rattle.request_rewrite.proofs.writable_when_veiled.Goals as goal

pub returns : goal.returns
returns c = writable_when_veiled
