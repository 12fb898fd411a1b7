use Rattle.std.proofs.Common.{List, ℕ, sym, subst}
use Rattle.zk_path.specs.Paths.{IsTextOf}
use Rattle.tree_server.proofs.AnswerLengths.{names_counted}
use Rattle.tree_server.proofs.machine.Machine.list_length.Goals as goal

pub returns-in-Some : goal.returns-in-Some
returns-in-Some g c = λ s p m t.
    names_counted s p c.in-Some.names c.args.more c.saturating_add.result
    (c.in-Some.ensures s p m (subst (λ (x : List ℕ). IsTextOf x p) (sym c.as_str.ensures) t)) c.saturating_add.ensures
