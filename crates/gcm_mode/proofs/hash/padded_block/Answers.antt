use Rattle.std.proofs.Common.{◌++◌, ◌∙◌, List, ℕ, take, drop, replicate, ap}
use Rattle.gcm_mode.proofs.Hashing.{padded_is}
use Rattle.gcm_mode.proofs.hash.padded_block.Goals as goal

pub returns : goal.returns
returns c =
    ap (λ (l : List ℕ). l ++ drop c.min-size.result (replicate 16 0)) c.copy_from_slice.ensures.after
    ∙ padded_is c.split_at.result.1.now c.min-size.result c.min-size.ensures
    ∙ ap (λ (l : List ℕ). take 16 (l ++ replicate 16 0)) c.split_at.ensures.back
