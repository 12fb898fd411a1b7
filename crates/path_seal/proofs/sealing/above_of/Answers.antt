use Rattle.std.proofs.Common.{◌≡◌, ℕ, List, [], sym, ap, ◌∙◌}
use Rattle.std.proofs.lemmas.Bool.{iff_false}
use Rattle.zk_path.specs.Paths.{joined}
use Rattle.path_seal.proofs.Texts.{joined_text}
use Rattle.path_seal.proofs.sealing.above_of.Goals as goal

root_is : (p : List (List ℕ)) → p ≡ [] → [] ≡ joined p
unfolding joined
root_is p e = ap joined (sym e)

pub returns-then-is_root-clause-value : goal.returns-then-is_root-clause-value
returns-then-is_root-clause-value c = root_is c.args.path.now (c.is_root.ensures.0 c.if-is_root.true)

pub returns-else-is_root-clause-value : goal.returns-else-is_root-clause-value
returns-else-is_root-clause-value c = c.text.ensures.text ∙ sym (joined_text c.args.path.now (iff_false c.is_root.ensures c.if-is_root.false))
