use Rattle.std.proofs.Common.{◌≡◌, refl, sym, ◌∙◌, rules, arith}
use Rattle.std.proofs.lemmas.List.{take_all}
use Rattle.aes_block.specs.Columns.{words_of}
use Rattle.aes_block.proofs.Columns.{one_word, back_more}
use Rattle.aes_block.proofs.schedule.words.Goals as goal

pub loop-i-init : goal.loop-i-init
unfolding words_of
loop-i-init c = record { size = refl; filled = refl; back = λ j lt. absurd (omega arith) }

pub loop-i-preserved : goal.loop-i-preserved
loop-i-preserved c = record {
  size = search rules;
  filled = one_word c.loop-i.words c.args.bytes.now c.loop-i.i c.word.result c.loop-i.invariant.filled c.word.ensures.of (omega (arith, c.loop-i.invariant.size));
  back = back_more c.loop-i.words c.args.bytes.now c.loop-i.i c.word.result (omega (arith, c.loop-i.invariant.size)) c.loop-i.invariant.back c.word.ensures.back;
}

pub returns-clause-of : goal.returns-clause-of
returns-clause-of c =
    let done : c.loop-i.i ≡ 44 = omega arith in
    sym (take_all 44 c.loop-i.words (omega (arith, c.loop-i.invariant.size))) ∙ rw done at c.loop-i.invariant.filled

pub returns-clause-back : goal.returns-clause-back
returns-clause-back c = λ j lt. c.loop-i.invariant.back j (omega arith)
