-- Printed findings that are joined.
use Rattle.std.proofs.Common.{◌≡◌, ℕ, List, [], ◌∷◌, ◌++◌, sym, ap, ◌∙◌, append_assoc}
use Rattle.std.proofs.lemmas.List.{append-nil}
use Rattle.reply_rewrite.specs.declared.finding.Finding.{Finding}
use Rattle.audit_board.specs.Findings.{finding_text, findings_text}

pub findings_more : (findings : List Finding) (finding : Finding) → findings_text (findings ++ finding ∷ []) ≡ findings_text findings ++ finding_text finding
unfolding findings_text
findings_more [] finding = append-nil (finding_text finding)
findings_more (first ∷ findings) finding =
    ap (λ (l : List ℕ). finding_text first ++ l) (findings_more findings finding) ∙ sym (append_assoc (finding_text first) (findings_text findings) (finding_text finding))

pub no_findings : (before : List ℕ) → before ≡ before ++ findings_text []
unfolding findings_text
no_findings before = sym (append-nil before)
