use Rattle.std.proofs.Common.{refl}
use Rattle.replay_cli.proofs.show.next_in.Goals as goal

pub returns-in-Ok-read_item : goal.returns-in-Ok-read_item
returns-in-Ok-read_item c = record {
  begins = record {
    body = c.in-Ok.parts.0.now;
    short = c.in-Ok.ensures.whole.0;
    spelled = c.in-Ok-read_item.ensures.read;
    cut = c.in-Ok.ensures.whole.1;
  };
  size_is = refl;
}
