use Rattle.std.proofs.Common.{List, ℕ, ◌++◌, ◌∙◌, ap, Err}
use Rattle.zk_path.specs.Paths.{text_of}
use Rattle.path_seal.proofs.Forms.{bytes_are, none_passed}
use Rattle.path_seal.proofs.under.NamesUnder.seal_bytes.Goals as goal

pub unreachable-requires : goal.unreachable-requires
unreachable-requires c =
    let one = c.requires.parent in
    none_passed (text_of one.path) c.args.name.now _ one.short c.requires.name
    (((rw c.key.ensures.value at c.seal_absorbed.ensures.long) (text_of one.path) one.under.text _).0 (c.in-Err-TooLong.is ∙ ap Err c.in-Err-TooLong.field-0-is))

pub returns-in-Ok : goal.returns-in-Ok
returns-in-Ok c p h =
    bytes_are c.args.keys.now _ _ _ c.args.name.now p (c.iv_of-iv.ensures c.args.keys.now p h)
    (c.in_ok-extend_from_slice.ensures.items ∙ ap (λ (l : List ℕ). l ++ c.iv_of-iv.result) c.clear.ensures.items)
    ((rw c.key.ensures.value at c.in-Ok.ensures.ok) (text_of p) h.text)
