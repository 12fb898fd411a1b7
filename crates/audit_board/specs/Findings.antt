-- How findings are printed.
use Rattle.std.specs.Prelude.{ℕ, List, [], ◌∷◌, ◌++◌, codes}
use Rattle.std.specs.Fmt.{decimal, signed_decimal}
use Rattle.hex.specs.Hex.{encode_lower}
use Rattle.payload_seal.specs.declared.opening.Flaw.{Flaw}
use Rattle.payload_seal.specs.declared.opening.Flaw.TheVariants as flaws
use Rattle.reply_rewrite.specs.declared.finding.Cause.{Cause}
use Rattle.reply_rewrite.specs.declared.finding.Cause.TheVariants as causes
use Rattle.reply_rewrite.specs.declared.finding.Finding.{Finding}
use Rattle.audit_board.specs.Fields.{field, line_feed}

-- what is wrong with a payload
abbrev pub flaw_text : Flaw → List ℕ
flaw_text (flaws.Short length) = field (codes "payload short ") (decimal length)
flaw_text (flaws.UnknownEpoch epoch) = field (codes "payload unknown-epoch ") (decimal epoch)
flaw_text flaws.BadTag = field (codes "payload bad-tag") []
flaw_text (flaws.BadFlag flag) = field (codes "payload bad-flag ") (decimal flag)
flaw_text (flaws.WrongPath sealed asked) = field (codes "payload wrong-path ") (encode_lower sealed) ++ field (codes " ") (encode_lower asked)

abbrev pub cause_text : Cause → List ℕ
cause_text (causes.Payload flaw) = flaw_text flaw
cause_text (causes.Length stored) = field (codes "length ") (signed_decimal stored)
cause_text causes.NullChildren = field (codes "null-children") []
cause_text (causes.Child index) = field (codes "child ") (decimal index)
cause_text (causes.Doubled index) = field (codes "doubled ") (decimal index)
cause_text causes.Created = field (codes "created") []
cause_text causes.SyncPath = field (codes "sync-path") []
cause_text causes.Acl = field (codes "acl") []
cause_text (causes.MultiCount asked got) = field (codes "multi-count ") (decimal asked) ++ field (codes " ") (decimal got)
cause_text (causes.MultiKind index) = field (codes "multi-kind ") (decimal index)
cause_text (causes.MultiCreated index) = field (codes "multi-created ") (decimal index)
cause_text (causes.MultiLength index) = field (codes "multi-length ") (decimal index)

-- the line of a finding
abbrev pub finding_text : Finding → List ℕ
finding_text finding =
    field (codes "finding ") (decimal finding.connection)
    ++ field (codes " reply ") (decimal finding.reply)
    ++ field (codes " xid ") (signed_decimal finding.xid)
    ++ field (codes " ") []
    ++ cause_text finding.cause
    ++ line_feed

unfoldable pub findings_text : List Finding → List ℕ
findings_text [] = []
findings_text (finding ∷ findings) = finding_text finding ++ findings_text findings
