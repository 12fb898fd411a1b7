-- How the reason of a refusal is printed.
use Rattle.std.specs.Prelude.{ℕ, List, ◌++◌, codes}
use Rattle.std.specs.Fmt.{decimal}
use Rattle.jute_core.specs.declared.cursor.Reason.{Reason}
use Rattle.jute_core.specs.declared.cursor.Reason.TheVariants.{Short, BadLength, BadBool, BadUtf8, Trailing, BadType, BadXid, BadHeader}
use Rattle.jute_core.specs.declared.cursor.Refusal.{Refusal}
use Rattle.audit_board.specs.Fields.{field}

unfoldable pub reason_name : Reason → List ℕ
reason_name Short = codes "short"
reason_name BadLength = codes "bad-length"
reason_name BadBool = codes "bad-bool"
reason_name BadUtf8 = codes "bad-utf8"
reason_name Trailing = codes "trailing"
reason_name BadType = codes "bad-type"
reason_name BadXid = codes "bad-xid"
reason_name BadHeader = codes "bad-header"

-- what was malformed, where, and why
abbrev pub refusal_text : List ℕ → Refusal → List ℕ
refusal_text word refusal = field word (decimal refusal.place) ++ field (codes " ") (reason_name refusal.reason)
