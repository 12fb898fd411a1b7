use Rattle.std.proofs.Common.{ℕ, ◌++◌, ◌∙◌, ap, unsigned_abs, w32}
use Rattle.std.proofs.lemmas.Int.{to_z-of_z}
use Rattle.zk_path.specs.Numbers.{ten_digits}
use Rattle.zk_path.proofs.Numbered.{push_digit, all_digits}
use Rattle.zk_path.proofs.numbers.PlainNumbererNumberer.number.Goals as goal

pub loop-digit-preserved : goal.loop-digit-preserved
loop-digit-preserved c =
    push_digit c.args.stem.now _ _ _ c.loop-digit.digit-index _ _ c.digits-digit-items.ensures c.loop-digit.invariant c.loop-digit-test.true c.from.ensures c.in_ok-push.ensures.bytes

pub returns-clause-named : goal.returns-clause-named
returns-clause-named c =
    let number = ap unsigned_abs (to_z-of_z w32 c.args.number c.ranges.number) in
    c.of.ensures ∙ all_digits c.args.stem.now _ _ _ _ c.digits-digit-items.ensures c.loop-digit.invariant c.loop-digit-test.false ∙ ap (λ (i : ℕ). c.args.stem.now ++ ten_digits i) number
