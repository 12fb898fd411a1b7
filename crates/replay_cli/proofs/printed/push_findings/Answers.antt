use Rattle.std.proofs.Common.{◌++◌, List, ℕ, pos, take, get_or, ap, sym, ◌∙◌, append_assoc}
use Rattle.std.specs.Prelude.{string_bytes}
use Rattle.std.proofs.lemmas.List.{take_more}
use Rattle.payload_seal.specs.declared.opening.Flaw.TheVariants.{Short}
use Rattle.reply_rewrite.specs.declared.finding.Cause.TheVariants.{Payload}
use Rattle.reply_rewrite.specs.declared.finding.Finding.{Finding}
use Rattle.audit_board.specs.Findings.{finding_text, findings_text}
use Rattle.replay_cli.proofs.FindingLemmas.{findings_more, no_findings}
use Rattle.replay_cli.proofs.printed.push_findings.Goals as goal

pub loop-finding-init : goal.loop-finding-init
loop-finding-init c = no_findings _

pub loop-finding-preserved : goal.loop-finding-preserved
loop-finding-preserved c =
    let none : Finding = record { connection = 0; reply = 0; xid = pos 0; cause = Payload (Short 0) } in
    let before = take c.loop-finding.finding-index c.args.findings.now in
    let finding = get_or c.args.findings.now c.loop-finding.finding-index none in
    let more = take_more c.args.findings.now c.loop-finding.finding-index none c.loop-finding-test.true in
    c.in_ok-push_finding.ensures ∙ ap (λ (l : List ℕ). l ++ finding_text finding) c.loop-finding.invariant
    ∙ append_assoc _ (findings_text before) (finding_text finding)
    ∙ ap (λ (l : List ℕ). string_bytes c.args.into.now ++ l) (sym (ap findings_text more ∙ findings_more before finding))
