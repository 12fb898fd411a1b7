use Rattle.std.proofs.Common.{List, ℕ, sym, subst}
use Rattle.zk_path.specs.Paths.{IsTextOf}
use Rattle.tree_state.proofs.Changed.{tells_path, tells_stat}
use Rattle.tree_state.proofs.held.Held.creation.Goals as goal

pub returns-then-stat : goal.returns-then-stat
returns-then-stat c = λ s p node m t found.
    tells_stat c.args.stat c.args.path _ s.nodes p node c.if-stat.true t.spelled (c.changed-stat.ensures s p node m (subst (λ (x : List ℕ). IsTextOf x p) (sym c.as_str.ensures) t) found)

pub returns : goal.returns
returns c = λ s p node m t found. tells_path c.args.stat c.args.path s.nodes p node c.if-stat.false t.spelled
