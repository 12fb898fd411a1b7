use Rattle.std.proofs.Common.{◌≡◌, ℕ, List, ◌∷◌, ◌++◌, length, sym, ap, subst, ◌∙◌, arith}
use Rattle.std.proofs.lemmas.Bool.{eqb-false}
use Rattle.zk_path.specs.Paths.{IsPathText}
use Rattle.path_seal.proofs.Opened.{none_iff, one_component}
use Rattle.path_seal.proofs.opening.is_component.Goals as goal

pub returns : goal.returns
returns c =
    let slash = c.in_ok-push.ensures.bytes ∙ (λ i. c.in_ok-text.ensures.bytes i ++ c.in_ok-push.ensures.ascii (omega arith) i) in
    let text : c.as_str.result.now ≡ 47 ∷ c.args.name.now = c.as_str.ensures.value ∙ c.in_ok-push_str.ensures.bytes ∙ ap (λ (l : List ℕ). l ++ c.args.name.now) slash in
    let none = none_iff _ _ c.is_none.ensures in
    let one = one_component c.args.name.now (λ e. eqb-false _ _ (sym c.is_empty.ensures ∙ c.if-is_empty.false) (ap length e)) c.requires.no_slash in (
      λ t. one.0 (subst IsPathText text (c.check_path.ensures.legal.0 (none.0 t))),
      λ h. none.1 (c.check_path.ensures.legal.1 (subst IsPathText (sym text) (one.1 h))),
    )
