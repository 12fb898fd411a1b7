use Rattle.gcm_mode.proofs.sealing.seal_pieces.Goals as goal

pub returns-clause-long : goal.returns-clause-long
returns-clause-long c = c.append_sealed.ensures.long c.args.aad.now c.absorbed.ensures
