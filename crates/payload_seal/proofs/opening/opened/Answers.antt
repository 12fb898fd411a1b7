use Rattle.std.proofs.Common.{sym, ◌∙◌}
use Rattle.std.proofs.lemmas.Bool.{false≢true}
use Rattle.payload_seal.proofs.Parts.{right_tag}
use Rattle.payload_seal.proofs.opening.opened.Goals as goal

pub returns-else-branch-clause-none : goal.returns-else-branch-clause-none
returns-else-branch-clause-none c plain h =
    let right = c.in_ok-unseal_under.ensures.tag.1 (right_tag c.in-Some.ensures h) in
    absurd (false≢true (sym c.if-branch.false ∙ right))
