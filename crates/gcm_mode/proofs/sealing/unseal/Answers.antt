use Rattle.gcm_mode.proofs.sealing.unseal.Goals as goal

pub returns-clause-long : goal.returns-clause-long
returns-clause-long c = c.unseal_absorbed.ensures.long c.args.aad.now c.absorbed.ensures
