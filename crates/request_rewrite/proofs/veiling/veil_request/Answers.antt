use Rattle.std.proofs.Common.{◌≡◌, Err, rules}
use Rattle.request_rewrite.proofs.Whole.{taken_counted, err_spent, ok_spent}
use Rattle.request_rewrite.proofs.veiling.veil_request.Goals as goal

pub returns-in_err-form-clause-spent : goal.returns-in_err-form-clause-spent
returns-in_err-form-clause-spent c =
    let same : c.from_residual.result ≡ Err c.in_err-form.field-0.0 = search rules in
    err_spent _ _ _ _ _ c.in_err-form.was same c.form_of.ensures.spent c.form_of.ensures.memory

pub returns-clause-taken : goal.returns-clause-taken
returns-clause-taken c = taken_counted _ _ _ _ c.in_ok-form.ensures.counted c.advance.ensures

pub returns-clause-spent : goal.returns-clause-spent
returns-clause-spent c = ok_spent _ _ _ _ c.in_ok-form.ensures.counted c.in_ok-form.ensures.left
