use Rattle.std.proofs.Common.{rules, ◌≡◌, ℕ, ◌-◌, take, length, ap, ◌∙◌, arith}
use Rattle.std.specs.List.{copy_within}
use Rattle.payload_seal.proofs.Opened.{moved}
use Rattle.payload_seal.proofs.plain.without_head.Goals as goal

pub returns : goal.returns
returns c =
    let bytes = c.args.bytes.items in
    let size : c.args.bytes.len ≡ length bytes = search rules in
    let left : c.len.result - 33 ≡ length bytes - 33 = omega (arith, c.len.ensures, c.copy_within.ensures.len, size) in
    c.truncate.ensures.items ∙ (λ i. take (left i) (c.copy_within.ensures.items i)) ∙ ap (λ (n : ℕ). take (length bytes - 33) (copy_within bytes 33 n 0)) size ∙ moved 33 bytes c.requires
