use Rattle.std.proofs.Common.{inl, inr}
use Rattle.std.proofs.lemmas.Bool.{iff_false}
use Rattle.zk_path.specs.Paths.{IsComponent}
use Rattle.zk_path.proofs.ReadTo.{illegal_last, name_within}
use Rattle.zk_path.proofs.Judged.{path_accepted, path_refused, root_is_path, end_is_path, is_slash, is_no_slash}
use Rattle.zk_path.proofs.check.check_path.Goals as goal

pub returns-then-eq : goal.returns-then-eq
returns-then-eq c =
    let told = path_accepted c.args.text.now (root_is_path c.args.text.now (is_slash _ c.args.text.now c.eq.ensures c.if-eq.true)) in
    record { legal = told.0; place = told.1 }

pub overflow_sub-result : goal.overflow_sub-result
overflow_sub-result c = name_within c.in-Ok.ensures

pub returns-in-Ok : goal.returns-in-Ok
returns-in-Ok c =
    let told = path_accepted c.args.text.now (end_is_path c.args.text.now c.in-Ok.name.now c.in-Ok.ensures (c.is_component.ensures.0 c.if-is_component.true)) in
    record { legal = told.0; place = told.1 }

pub returns-in-Ok-2 : goal.returns-in-Ok-2
returns-in-Ok-2 c =
    let bad = illegal_last IsComponent c.in-Ok.ensures (iff_false c.is_component.ensures c.if-is_component.false) in
    let told = path_refused c.args.text.now _ (is_no_slash _ c.args.text.now c.eq.ensures c.if-eq.false, inr bad) in
    record { legal = told.0; place = told.1 }

pub returns-in-Err : goal.returns-in-Err
returns-in-Err c =
    let told = path_refused c.args.text.now c.in-Err.place (is_no_slash _ c.args.text.now c.eq.ensures c.if-eq.false, inl c.in-Err.ensures) in
    record { legal = told.0; place = told.1 }
