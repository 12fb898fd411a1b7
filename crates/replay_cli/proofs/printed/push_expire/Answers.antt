use Rattle.std.proofs.Common.{append_assoc, rules, w64}
use Rattle.std.specs.Int.RustNames.{FitsSigned}
use Rattle.std.proofs.lemmas.Int.{to_z-of_z}
use Rattle.replay_cli.proofs.printed.push_expire.Goals as goal

pub returns : goal.returns
returns c =
    let session : FitsSigned w64 c.args.session = search rules in
    let zxid : FitsSigned w64 c.args.zxid = search rules in
    let now : FitsSigned w64 c.args.now = search rules in
    rw (c.in_ok-end_line.ensures, c.in_ok-push_number-3.ensures, c.in_ok-push_number-2.ensures, c.in_ok-push_number.ensures) (simp (to_z-of_z, append_assoc))
