use Rattle.std.proofs.Common.{◌∙◌}
use Rattle.tree_server.proofs.OneLine.{no_lines}
use Rattle.tree_server.proofs.lines.Lines.new.Goals as goal

pub returns : goal.returns
returns c = λ naming key limit. no_lines _ naming key limit c.new.ensures.items (c.of.ensures ∙ c.new-2.ensures.items)
