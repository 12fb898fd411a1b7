use Rattle.std.proofs.Common.{ℕ, List, ◌++◌, ap, ◌∙◌, refl}
use Rattle.std.specs.Option.{option_copied}
use Rattle.payload_seal.proofs.Opened.{is_sealed, content_bytes}
use Rattle.payload_seal.proofs.sealing.seal_data.Goals as goal

pub returns : goal.returns
returns c =
    is_sealed c.args.keys.now c.args.iv _ c.of.result c.head_of-head.result c.unwrap_or-bytes.result.now c.args.path.now c.args.sequential (option_copied c.args.content)
    (c.in_ok-extend_from_slice.ensures.items ∙ ap (λ (l : List ℕ). l ++ c.args.iv) c.in_ok-payload.ensures.items)
    (c.of.ensures ∙ c.in_ok-seal_under.ensures)
    c.head_of-head.ensures
    (content_bytes c.args.content _ c.unwrap_or-bytes.result c.unwrap_or-bytes.ensures refl)
