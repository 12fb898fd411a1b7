use Rattle.std.proofs.Common.{append_assoc, rules, arith, w32, w64}
use Rattle.std.specs.Int.RustNames.{FitsSigned}
use Rattle.std.proofs.lemmas.Int.{to_z-of_z, ints}
use Rattle.replay_cli.proofs.printed.push_entry.Goals as goal

pub returns-in_ok-end_line-in-Connect : goal.returns-in_ok-end_line-in-Connect
returns-in_ok-end_line-in-Connect c =
    let session : FitsSigned w64 c.in-Connect.session = search rules in
    let timeout : FitsSigned w32 c.in-Connect.timeout = search rules in
    let wider : FitsSigned w64 c.in-Connect.timeout = omega (arith, ints, timeout) in
    let zxid : FitsSigned w64 c.in-Connect.zxid = search rules in
    let now : FitsSigned w64 c.in-Connect.now = search rules in
    rw (
      c.in-Connect.is,
      c.in_ok-end_line-in-Connect.ensures,
      c.in_ok-push_number-in-Connect-4.ensures,
      c.in_ok-push_number-in-Connect-3.ensures,
      c.in_ok-push_field-in-Connect-2.ensures,
      c.in_ok-push_number-in-Connect-2.ensures,
      c.in_ok-push_number-in-Connect.ensures,
      c.in_ok-push_field-in-Connect.ensures,
      c.as_str.ensures.value,
      c.as_str-in-Connect.ensures.value,
      c.in_ok-number-in-Connect.ensures.ok,
      c.in_ok-password-in-Connect.ensures,
      c.as_slice.ensures,
    ) (simp (to_z-of_z, append_assoc))

pub returns-in_ok-end_line-in-Take : goal.returns-in_ok-end_line-in-Take
returns-in_ok-end_line-in-Take c =
    let xid : FitsSigned w32 c.in-Take.xid = search rules in
    let wider : FitsSigned w64 c.in-Take.xid = omega (arith, ints, xid) in
    let zxid : FitsSigned w64 c.in-Take.zxid = search rules in
    let now : FitsSigned w64 c.in-Take.now = search rules in
    rw (
      c.in-Take.is,
      c.in_ok-end_line-in-Take.ensures,
      c.in_ok-push_number-in-Take-3.ensures,
      c.in_ok-push_number-in-Take-2.ensures,
      c.in_ok-push_number-in-Take.ensures,
      c.in_ok-push_field-in-Take.ensures,
      c.as_str-in-Take.ensures.value,
      c.in_ok-number-in-Take.ensures.ok,
    ) (simp (to_z-of_z, append_assoc))
