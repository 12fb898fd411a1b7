use Rattle.std.proofs.Common.{◌≡◌, ◌+◌, List, ℕ, ap, sym, ◌∙◌, arith}
use Rattle.aes_block.specs.Aes.{Aes, after_rounds, add_round_key, mix_columns, shift_rows, sub_bytes, cipher, expanded}
use Rattle.aes_block.proofs.Columns.{after_more}
use Rattle.aes_block.proofs.key.Key.encrypt.Goals as goal

pub loop-n-init : goal.loop-n-init
unfolding after_rounds
loop-n-init c = c.first_state-state.ensures ∙ ap (add_round_key c.args.block) (c.self.invariant.1 0 (omega arith))

pub loop-n-preserved : goal.loop-n-preserved
loop-n-preserved c =
    c.middle_round-next.ensures
    ∙ (λ i. add_round_key (mix_columns (shift_rows (sub_bytes (c.loop-n.invariant i)))) (c.self.invariant.1 (c.loop-n.n + 1) (omega arith) i))
    ∙ sym (after_more (expanded c.self.inside.key 40) c.args.block c.loop-n.n)

pub returns : goal.returns
unfolding Aes
returns c =
    let done : c.loop-n.n ≡ 9 = omega arith in
    c.last_round.ensures
    ∙ (λ i. add_round_key (shift_rows (sub_bytes ((rw done at c.loop-n.invariant) i))) (c.self.invariant.1 10 (omega arith) i))
    ∙ ap (λ (k : List ℕ). cipher (expanded k 40) c.args.block) c.self.view_is
