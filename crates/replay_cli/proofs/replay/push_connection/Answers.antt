use Rattle.std.proofs.Common.{append_assoc}
use Rattle.replay_cli.specs.Worlds.{connection_text}
use Rattle.replay_cli.proofs.replay.push_connection.Goals as goal

pub returns : goal.returns
unfolding connection_text
returns c =
    rw (
      c.in_ok-push_line-3.ensures,
      c.in_ok-push_line-2.ensures,
      c.in_ok-end_line-2.ensures,
      c.in_ok-push_store.ensures,
      c.in_ok-push_field-2.ensures,
      c.in_ok-end_line.ensures,
      c.in_ok-push_session.ensures,
      c.in_ok-push_field.ensures,
      c.in_ok-push_line.ensures,
      c.as_str.ensures.value,
      c.as_str-2.ensures.value,
      c.as_str-3.ensures.value,
      c.in_ok-number.ensures.ok,
      c.in_ok-received.ensures,
      c.in_ok-handed.ensures,
    )
    (simp append_assoc)
