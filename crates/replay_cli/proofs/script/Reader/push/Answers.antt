use Rattle.std.proofs.Common.{ap, sym, ◌∙◌}
use Rattle.replay_cli.specs.Script.{opened, opened_by}
use Rattle.replay_cli.proofs.GrammarLemmas.{opened_small}
use Rattle.replay_cli.proofs.ReadingLemmas.{counted_more}
use Rattle.replay_cli.proofs.script.Reader.push.Goals as goal

pub returns : goal.returns
returns c =
    let small = opened_small c.args.event _ c.requires.counted.1 c.requires.may in
    let items = c.in_ok-push.ensures.items in
    let counted = ap opened items ∙ counted_more opened_by c.args.self.now.events.items c.args.event in
    (items, (rw (c.opened_by.ensures, c.requires.counted.0) (sym counted), rw c.opened_by.ensures small))
