use Rattle.std.proofs.Common.{sym, ◌∙◌, length, ap}
use Rattle.std.proofs.lemmas.Bool.{eqb-true, eqb-false}
use Rattle.std.proofs.lemmas.List.{nil_from_length}
use Rattle.zk_path.proofs.Components.{no_slashes-components}
use Rattle.zk_path.proofs.Values.{root_text, whole_text}
use Rattle.zk_path.proofs.paths.Path.text.Goals as goal

pub returns-then-is_empty-clause-text : goal.returns-then-is_empty-clause-text
returns-then-is_empty-clause-text c =
    let size = c.self.inside.held.bytes.ok.0 in
    rw (← c.self.view_is) (sym (root_text _ c.self.invariant (nil_from_length _ (sym size ∙ eqb-true _ _ (sym c.is_empty.ensures ∙ c.if-is_empty.true)))))

pub returns-then-is_empty-clause-parts : goal.returns-then-is_empty-clause-parts
returns-then-is_empty-clause-parts c = rw (← c.self.view_is) (no_slashes-components _)

pub returns-clause-text : goal.returns-clause-text
returns-clause-text c =
    let size = c.self.inside.held.bytes.ok.0 in
    rw (← c.self.view_is)
    (c.as_str.ensures.value ∙ whole_text _ c.self.invariant (λ e. eqb-false _ _ (sym c.is_empty.ensures ∙ c.if-is_empty.false) (size ∙ ap length e)))

pub returns-clause-parts : goal.returns-clause-parts
returns-clause-parts c = rw (← c.self.view_is) (no_slashes-components _)
