use Rattle.std.proofs.Common.{◌∷◌, [], sym, ap, subst, ◌∙◌, ◌^◌, length, arith}
use Rattle.std.proofs.lemmas.Bool.{eqb-true, eqb-false}
use Rattle.std.proofs.lemmas.List.{nil_from_length}
use Rattle.gcm_mode.specs.Absorbed.{IsAbsorbed}
use Rattle.zk_path.specs.Paths.{text_of}
use Rattle.path_seal.proofs.Texts.{root_ahead, other_ahead, text_short}
use Rattle.path_seal.proofs.under.ahead_of.Goals as goal

pub returns-then-is_empty : goal.returns-then-is_empty
returns-then-is_empty c p e h =
    subst (IsAbsorbed c.args.keys.now.key c.args.text) (root_ahead c.args.above.now p (nil_from_length _ (eqb-true _ _ (sym c.is_empty.ensures ∙ c.if-is_empty.true))) e) h

pub returns : goal.returns
returns c p e h =
    let short = text_short p (2 ^ 28) (omega (arith, ap length e, c.requires)) (omega arith) in
    subst (IsAbsorbed c.args.keys.now.key c.absorb.new.self) (other_ahead c.args.above.now p (λ none. eqb-false _ _ (sym c.is_empty.ensures ∙ c.if-is_empty.false) (ap length none)) e)
    ((rw c.key.ensures.value at c.absorb.ensures) (text_of p) h (omega (arith, short)))
