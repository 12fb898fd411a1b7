use Rattle.gcm_mode.proofs.sealing.seal.Goals as goal

pub returns-clause-long : goal.returns-clause-long
returns-clause-long c = c.seal_absorbed.ensures.long c.args.aad.now c.absorbed.ensures
