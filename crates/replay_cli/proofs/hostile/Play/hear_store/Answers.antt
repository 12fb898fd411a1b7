use Rattle.std.proofs.Common.{refl}
use Rattle.replay_cli.proofs.PlayLemmas.{store_heard}
use Rattle.replay_cli.proofs.hostile.Play.hear_store.Goals as goal

pub returns : goal.returns
returns c = store_heard c.answered.result _ _ _ _ c.from_store.ensures.answer c.from_store.ensures.takes c.from_store.ensures.ended c.from_store.ensures.same refl c.answered.ensures
