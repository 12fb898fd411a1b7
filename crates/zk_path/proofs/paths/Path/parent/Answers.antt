use Rattle.std.proofs.Common.{◌≡◌, ℕ, List, Some, sym, ap, ◌∙◌, subst}
use Rattle.zk_path.specs.Paths.{joined, parent_of}
use Rattle.zk_path.specs.View.{components}
use Rattle.zk_path.proofs.Values.{upper_held, upper_seen}
use Rattle.zk_path.proofs.paths.Path.parent.Goals as goal

pub invariant_of-result : goal.invariant_of-result
invariant_of-result c =
    subst (λ (t : List ℕ). joined (components t) ≡ t) (sym c.in_ok-held.ensures.ok) (upper_held c.in-Some.ensures)

pub returns : goal.returns
returns c =
    ap (λ (t : List ℕ). Some (components t)) c.in_ok-held.ensures.ok ∙ sym (ap parent_of (upper_seen c.in-Some.ensures))
