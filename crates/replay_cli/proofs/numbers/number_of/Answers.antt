use Rattle.std.proofs.Common.{◌≡◌, ℕ, List, length, ap, sym, ◌∙◌, subst, arith, get_or}
use Rattle.std.specs.Str.{IsUtf8}
use Rattle.std.specs.Fmt.{decimal}
use Rattle.std.proofs.lemmas.Bool.Decides.{nat_tests}
use Rattle.std.proofs.lemmas.Fmt.{parse-decimal}
use Rattle.replay_cli.proofs.NumberLemmas.{decimal_some, decimal_first, decimal_padded, decimal_utf8, parsed_decimal}
use Rattle.replay_cli.proofs.numbers.number_of.Goals as goal

pub returns-then-is_empty-clause-none : goal.returns-then-is_empty-clause-none
returns-then-is_empty-clause-none c = λ n le e.
    let some = decimal_some n (omega arith) in
    let same = ap length e in
    grind (arith, nat_tests)

pub returns-then-text-eq43-clause-none : goal.returns-then-text-eq43-clause-none
returns-then-text-eq43-clause-none c = λ n le e.
    let first = decimal_first n (omega arith) in
    let same = ap (λ (t : List ℕ). get_or t 0 0) e in
    omega (arith, first, same, c.if-text-eq43.true)

pub returns-then-text-gt1-clause-none : goal.returns-then-text-gt1-clause-none
returns-then-text-gt1-clause-none c = λ n le e.
    let same = ap (λ (t : List ℕ). get_or t 0 0) e in
    let long = ap length e in
    decimal_padded n (omega arith) (sym same ∙ c.if-text-eq48.true) (omega (arith, long, c.if-text-gt1.true))

pub returns-in_default-clause-none : goal.returns-in_default-clause-none
returns-in_default-clause-none c = λ n le e.
    c.in_default.ensures.cases.0 (subst IsUtf8 (sym e) (decimal_utf8 n (omega arith)))

pub returns-in_default-parse-clause-none : goal.returns-in_default-parse-clause-none
returns-in_default-parse-clause-none c = λ n le e.
    let text : c.in-Ok.digits.now ≡ decimal n = c.in-Ok.ensures.cases.0 ∙ e in
    c.in_default-parse.not-Ok n (parse-decimal 64 n c.in-Ok.digits.now c.parse.result (omega arith) (omega arith) text c.parse.ensures.value.0)

pub returns-then-number-most-clause-found : goal.returns-then-number-most-clause-found
returns-then-number-most-clause-found c =
    let v = rw c.in-Ok.ensures.cases.0 at c.in-Ok-parse.ensures.value.0 in
    (c.if-number-most.true, parsed_decimal c.args.text.now c.in-Ok-parse.number v.0.0 v.0.1 v.1 c.if-text-eq43.false (λ z. grind (arith, z, c.else-text-eq48.either)))

pub returns-else-number-most-clause-none : goal.returns-else-number-most-clause-none
returns-else-number-most-clause-none c = λ n le e.
    let text : c.in-Ok.digits.now ≡ decimal n = c.in-Ok.ensures.cases.0 ∙ e in
    let there = parse-decimal 64 n c.in-Ok.digits.now c.parse.result (omega arith) (omega arith) text c.parse.ensures.value.0 in
    let same : c.in-Ok-parse.number ≡ n = cc (there, c.in-Ok-parse.is) in
    omega (arith, c.if-number-most.false)
