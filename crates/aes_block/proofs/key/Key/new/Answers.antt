use Rattle.std.proofs.Common.{◌≡◌, List, ℕ, length, ap, ◌∙◌, rules}
use Rattle.aes_block.specs.Aes.{round_key}
use Rattle.aes_block.specs.Columns.{words_of}
use Rattle.aes_block.proofs.Columns.{round_is}
use Rattle.aes_block.proofs.key.Key.new.Goals as goal

pub invariant_of-result : goal.invariant_of-result
invariant_of-result c =
    let len : length c.expand.result ≡ 176 = search rules in (
      c.words-words.ensures.of ∙ ap (λ (b : List ℕ). words_of b 44) c.expand.ensures,
      λ n lt. round_is c.words-words.result c.expand.result n lt len c.words-words.ensures.back ∙ ap (λ (b : List ℕ). round_key b n) c.expand.ensures,
    )
