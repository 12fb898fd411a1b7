use Rattle.std.proofs.Common.{rules, ℕ, List, take, drop, ap, ◌∙◌, arith}
use Rattle.payload_seal.proofs.Opened.{reads_plain, first_item}
use Rattle.payload_seal.proofs.plain.Plain.of.Goals as goal

pub returns : goal.returns
returns c =
    let bytes = c.args.bytes.items in
    reads_plain bytes c.bytes_at-digest.result _ c.index-flag.result.now (first_item bytes c.index-flag.result.now (omega (arith, c.requires)) (search rules))
    (c.bytes_at-digest.ensures ∙ ap (λ (l : List ℕ). take 32 (drop 1 l)) c.as_slice.ensures.value) c.without_head.ensures c.requires
