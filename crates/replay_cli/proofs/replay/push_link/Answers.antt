use Rattle.std.proofs.Common.{◌++◌, ◌∙◌}
use Rattle.replay_cli.specs.Worlds.{connection_text}
use Rattle.std.specs.Prelude.{string_bytes}
use Rattle.replay_cli.proofs.replay.push_link.Goals as goal

pub returns : goal.returns
returns g c = λ keys m stands inside.
    c.in_ok-push_connection.ensures
    ∙ (λ i. string_bytes c.args.into.now
    ++ connection_text c.args.number (c.ending.ensures keys 0 m stands inside i) (c.store_ending.ensures keys 0 m stands inside i)
    (c.received.ensures keys 0 m stands inside i) (c.handed_up.ensures keys 0 m stands inside i))
