use Rattle.std.proofs.lemmas.List.{append-nil}
use Rattle.gcm_mode.proofs.sealing.seal_absorbed.Goals as goal

pub returns-clause-long : goal.returns-clause-long
returns-clause-long c = λ aad held n. rw (append-nil c.args.plain.now) at (c.append_sealed.ensures.long aad held n)
