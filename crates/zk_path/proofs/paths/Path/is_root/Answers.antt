use Rattle.std.proofs.Common.{sym, ◌∙◌}
use Rattle.std.proofs.lemmas.Bool.{eqb-true, eq-eqb}
use Rattle.zk_path.proofs.Values.{is_empty_text, text_is_empty}
use Rattle.zk_path.proofs.paths.Path.is_root.Goals as goal

pub returns : goal.returns
returns c =
    let size = c.self.inside.held.bytes.ok.0 in
    rw (← c.self.view_is) (
      λ e. is_empty_text _ (sym size ∙ eqb-true _ _ (sym c.is_empty.ensures ∙ e)),
      λ e. c.is_empty.ensures ∙ eq-eqb _ _ (size ∙ text_is_empty _ c.self.invariant e),
    )
