use Rattle.std.proofs.Common.{inl, inr}
use Rattle.std.proofs.lemmas.Bool.{iff_false}
use Rattle.zk_path.specs.Paths.{IsStemEnd}
use Rattle.zk_path.proofs.ReadTo.{illegal_last, name_within}
use Rattle.zk_path.proofs.Judged.{stem_accepted, stem_refused, end_is_stem}
use Rattle.zk_path.proofs.check.check_stem.Goals as goal

pub overflow_sub-result : goal.overflow_sub-result
overflow_sub-result c = name_within c.in-Ok.ensures

pub returns-in-Ok : goal.returns-in-Ok
returns-in-Ok c =
    let told = stem_accepted c.args.text.now (end_is_stem c.args.text.now c.in-Ok.name.now c.in-Ok.ensures (c.is_stem_end.ensures.0 c.if-is_stem_end.true)) in
    record { legal = told.0; place = told.1 }

pub returns-in-Ok-2 : goal.returns-in-Ok-2
returns-in-Ok-2 c =
    let bad = illegal_last IsStemEnd c.in-Ok.ensures (iff_false c.is_stem_end.ensures c.if-is_stem_end.false) in
    let told = stem_refused c.args.text.now _ (inr bad) in
    record { legal = told.0; place = told.1 }

pub returns-in-Err : goal.returns-in-Err
returns-in-Err c =
    let told = stem_refused c.args.text.now c.in-Err.place (inl c.in-Err.ensures) in
    record { legal = told.0; place = told.1 }
