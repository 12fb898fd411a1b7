use Rattle.std.proofs.Common.{◌∙◌, ap, arith}
use Rattle.rand_chacha.specs.ChaCha.{of_seed}
use Rattle.replay_cli.proofs.WorkloadLemmas.{drawn_next, no_steps, one_step}
use Rattle.replay_cli.proofs.workload.push_steps.Goals as goal

pub loop-step-init : goal.loop-step-init
loop-step-init c = (omega arith, c.from_seed-generator.ensures ∙ ap of_seed c.seed_bytes.ensures, no_steps _ _ _)

pub loop-step-preserved : goal.loop-step-preserved
loop-step-preserved c =
    let drawn = c.loop-step.invariant.1 in
    let so = c.loop-step.invariant.2 in (
      omega (arith, c.loop-step-test.true),
      drawn_next _ _ _ _ _ drawn c.three_words-words.ensures,
      one_step _ _ _ _ _ _ _ _ _ drawn c.three_words-words.ensures so c.in_ok-push_step.ensures,
    )
