use Rattle.std.proofs.Common.{Err, sym, ap, length, ◌∙◌, arith}
use Rattle.std.proofs.lemmas.Bool.{iff_false}
use Rattle.zk_path.proofs.Judged.{is_slash, is_no_slash, path_not_bad}
use Rattle.path_seal.proofs.Opened.{root_opens, path_sealed_of, plain_of_short, opened_path, path_opens, not_root}
use Rattle.path_seal.proofs.opening.open_path.Goals as goal

pub returns-then-eq-clause-some : goal.returns-then-eq-clause-some
returns-then-eq-clause-some c = root_opens c.args.keys.now c.args.text.now _ c.root.ensures (is_slash _ c.args.text.now c.eq.ensures c.if-eq.true)

pub returns-in_default-clause-none : goal.returns-in_default-clause-none
returns-in_default-clause-none c p o =
    (rw c.in_default.is at c.in_ok-plain.ensures.none) p (path_sealed_of c.args.keys.now c.args.text.now p (is_no_slash _ c.args.text.now c.eq.ensures c.if-eq.false) o)

pub read_path-requires : goal.read_path-requires
read_path-requires c =
    let h = rw c.in-Some.is at c.in_ok-plain.ensures.some in
    omega (arith, plain_of_short h, ap length c.as_str.ensures.value, c.requires)

pub returns-then-is_root-clause-none : goal.returns-then-is_root-clause-none
returns-then-is_root-clause-none c p o =
    let h = rw c.in-Some.is at c.in_ok-plain.ensures.some in
    let found = opened_path p h (is_no_slash _ c.args.text.now c.eq.ensures c.if-eq.false) o in
    not_root _ p _ (c.is_root.ensures.0 c.if-is_root.true) (sym c.as_str.ensures.value ∙ c.in-Ok.ensures.ok.1) o.0 found.0 found.1

pub returns-in-Ok-clause-some : goal.returns-in-Ok-clause-some
returns-in-Ok-clause-some c =
    let h = rw c.in-Some.is at c.in_ok-plain.ensures.some in
    path_opens c.in-Ok.path h c.in-Ok.ensures.ok.0 (sym c.as_str.ensures.value ∙ c.in-Ok.ensures.ok.1) (iff_false c.is_root.ensures c.if-is_root.false)

pub returns-in-Err-BadPath-clause-none : goal.returns-in-Err-BadPath-clause-none
returns-in-Err-BadPath-clause-none c p o =
    let h = rw c.in-Some.is at c.in_ok-plain.ensures.some in
    let found = opened_path p h (is_no_slash _ c.args.text.now c.eq.ensures c.if-eq.false) o in
    path_not_bad c.as_str.result.now c.in-Err-BadPath.field-0-0 (p, o.0, c.as_str.ensures.value ∙ found.1) ((c.in-Err-BadPath.ensures.bad c.in-Err-BadPath.field-0-0).0 (ap Err c.in-Err-BadPath.field-0-is))
