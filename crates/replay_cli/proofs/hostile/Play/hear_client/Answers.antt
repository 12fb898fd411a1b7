use Rattle.std.proofs.Common.{refl}
use Rattle.replay_cli.proofs.PlayLemmas.{client_heard}
use Rattle.replay_cli.proofs.hostile.Play.hear_client.Goals as goal

pub returns : goal.returns
returns c = client_heard c.answered.result _ _ _ _ c.from_client.ensures.answer c.from_client.ensures.takes c.from_client.ensures.ended c.from_client.ensures.same refl refl c.answered.ensures
