use Rattle.std.proofs.Common.{◌≡◌, length, drop, sym, subst, ◌∙◌, arith}
use Rattle.std.specs.Str.{IsUtf8}
use Rattle.std.proofs.lemmas.List.{take_at}
use Rattle.path_seal.proofs.LowerCase.{lower_utf8, when_ok}
use Rattle.path_seal.proofs.hex_text.push_hex.Goals as goal

pub unreachable-requires-in-Err : goal.unreachable-requires-in-Err
unreachable-requires-in-Err c =
    let out = c.encode_to_slice.new.output in
    let size : length out ≡ c.resize.new.self.len = omega arith in
    let digits = c.as_slice.ensures.value ∙ take_at out (drop (length out) c.resize.new.self.items) c.resize.new.self.len size ∙ when_ok _ _ c.encode_to_slice.ensures.written (sym c.is_err.ensures.value ∙ c.if-is_err.false) in
    c.in-Err.ensures.cases.0 (subst IsUtf8 (sym digits) (lower_utf8 c.args.bytes.now))
