use Rattle.std.proofs.Common.{refl}
use Rattle.zk_path.proofs.Judged.{is_slash, is_no_slash}
use Rattle.zk_path.proofs.ReadTexts.{bad_answer, no_bad_answer, memory_is_no_place, ok_is_no_place, root_kept, path_kept}
use Rattle.zk_path.proofs.paths.read_path.Goals as goal

pub returns-in-Some-clause-bad : goal.returns-in-Some-clause-bad
returns-in-Some-clause-bad c = bad_answer c.in-Some.place c.in-Some.ensures.place

pub returns-then-eq-clause-ok : goal.returns-then-eq-clause-ok
returns-then-eq-clause-ok c = root_kept c.args.text.now _ c.root.ensures (is_slash _ c.args.text.now c.eq.ensures c.if-eq.true)

pub returns-in_err-from_str-clause-bad : goal.returns-in_err-from_str-clause-bad
returns-in_err-from_str-clause-bad c = no_bad_answer _ c.in_default.ensures.place (memory_is_no_place _ c.from_residual.ensures.1)

pub invariant_of-result : goal.invariant_of-result
invariant_of-result c =
    (path_kept c.args.text.now _ (c.in_default.ensures.legal.0 refl) (is_no_slash _ c.args.text.now c.eq.ensures c.if-eq.false) c.in_ok-from_str.ensures.ok).0

pub returns-clause-ok : goal.returns-clause-ok
returns-clause-ok c =
    (path_kept c.args.text.now _ (c.in_default.ensures.legal.0 refl) (is_no_slash _ c.args.text.now c.eq.ensures c.if-eq.false) c.in_ok-from_str.ensures.ok).1

pub returns-clause-bad : goal.returns-clause-bad
returns-clause-bad c = no_bad_answer _ c.in_default.ensures.place (ok_is_no_place _)
