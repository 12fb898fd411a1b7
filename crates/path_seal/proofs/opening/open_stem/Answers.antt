use Rattle.std.proofs.Common.{Err, sym, ap, length, ◌∙◌, arith}
use Rattle.zk_path.proofs.Judged.{stem_not_bad}
use Rattle.path_seal.proofs.Opened.{stem_sealed_of, plain_of_short, opened_stem, stem_opens}
use Rattle.path_seal.proofs.opening.open_stem.Goals as goal

pub returns-in_default-clause-none : goal.returns-in_default-clause-none
returns-in_default-clause-none c s o = (rw c.in_default.is at c.in_ok-plain.ensures.none) s (stem_sealed_of c.args.keys.now c.args.text.now s o)

pub read_stem-requires : goal.read_stem-requires
read_stem-requires c =
    let h = rw c.in-Some.is at c.in_ok-plain.ensures.some in
    omega (arith, plain_of_short h, ap length c.as_str.ensures.value, c.requires)

pub returns-in-Ok-clause-some : goal.returns-in-Ok-clause-some
returns-in-Ok-clause-some c =
    let h = rw c.in-Some.is at c.in_ok-plain.ensures.some in
    stem_opens c.in-Ok.stem h c.in-Ok.ensures.ok.0 (sym c.as_str.ensures.value ∙ c.in-Ok.ensures.ok.1)

pub returns-in-Err-BadPath-clause-none : goal.returns-in-Err-BadPath-clause-none
returns-in-Err-BadPath-clause-none c s o =
    let h = rw c.in-Some.is at c.in_ok-plain.ensures.some in
    stem_not_bad c.as_str.result.now c.in-Err-BadPath.field-0-0 (s, o.0, c.as_str.ensures.value ∙ opened_stem s h o) ((c.in-Err-BadPath.ensures.bad c.in-Err-BadPath.field-0-0).0 (ap Err c.in-Err-BadPath.field-0-is))
