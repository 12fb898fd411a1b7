use Rattle.std.proofs.Common.{sym, ap, ◌∙◌, length}
use Rattle.std.proofs.lemmas.Bool.{eqb-true, eqb-false}
use Rattle.std.proofs.lemmas.List.{nil_from_length}
use Rattle.path_seal.proofs.Texts.{root_text, other_text}
use Rattle.path_seal.proofs.sealing.parent_text.Goals as goal

pub returns-then-is_empty : goal.returns-then-is_empty
returns-then-is_empty c p e =
    root_text c.args.above.now p (nil_from_length _ (eqb-true _ _ (sym c.is_empty.ensures ∙ c.if-is_empty.true))) e

pub returns-else-is_empty : goal.returns-else-is_empty
returns-else-is_empty c p e =
    other_text c.args.above.now p (λ none. eqb-false _ _ (sym c.is_empty.ensures ∙ c.if-is_empty.false) (ap length none)) e
