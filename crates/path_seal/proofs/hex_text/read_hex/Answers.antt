use Rattle.std.proofs.Common.{◌≡◌, ◌/◌, length, drop, true, false, sym, ap, ◌∙◌, arith}
use Rattle.std.proofs.lemmas.Bool.{iff_false}
use Rattle.std.proofs.lemmas.List.{take_at}
use Rattle.hex.specs.Hex.{encode_lower}
use Rattle.path_seal.proofs.LowerCase.{upper_spells_none, decoded, refused, spells_back, spells_one, spells_none}
use Rattle.path_seal.proofs.hex_text.read_hex.Goals as goal

pub returns-then-has_upper-clause-none : goal.returns-then-has_upper-clause-none
returns-then-has_upper-clause-none c told b h e = upper_spells_none b c.args.text.now (c.has_upper.ensures.0 c.if-has_upper.true) e

pub returns-clause-spelled : goal.returns-clause-spelled
returns-clause-spelled c told =
    let out = c.decode_to_slice.new.out in
    let right : c.is_ok.result ≡ true = cc in
    let size : length out ≡ c.resize.new.self.len = omega arith in
    let whole = take_at out (drop (length out) c.resize.new.self.items) c.resize.new.self.len size in
    ap encode_lower whole ∙ spells_back c.args.text.now out _ (iff_false c.has_upper.ensures c.if-has_upper.false) (decoded _ _ out c.decode_to_slice.ensures.value (sym c.is_ok.ensures.value ∙ right))

pub returns-clause-one : goal.returns-clause-one
returns-clause-one c told b h e =
    let out = c.decode_to_slice.new.out in
    let right : c.is_ok.result ≡ true = cc in
    let size : length out ≡ c.resize.new.self.len = omega arith in
    let whole = take_at out (drop (length out) c.resize.new.self.items) c.resize.new.self.len size in
    whole ∙ spells_one c.args.text.now out b _ (decoded _ _ out c.decode_to_slice.ensures.value (sym c.is_ok.ensures.value ∙ right)) h e

pub returns-clause-none : goal.returns-clause-none
returns-clause-none c told b h e =
    let out = c.decode_to_slice.new.out in
    let wrong : c.is_ok.result ≡ false = cc in
    let half : length c.as_mut_slice.result.now ≡ length c.args.text.now / 2 = omega (arith, c.in_ok-resize.ensures.len) in
    let fault = refused _ _ out c.decode_to_slice.ensures.value (sym c.is_ok.ensures.value ∙ wrong) in
    spells_none c.args.text.now b _ fault.0 half fault.1 h e
