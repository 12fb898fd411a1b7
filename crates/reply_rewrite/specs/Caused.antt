-- Why an answer has no plain form.
use Rattle.reply_rewrite.specs.declared.finding.Cause.{Cause}
use Rattle.reply_rewrite.specs.declared.finding.NotPlain.{NotPlain}
use Rattle.reply_rewrite.specs.declared.finding.NotPlain.TheVariants.{Caused, Memory}

-- this is wrong with it, or there was no memory
abbrev pub IsCausedBy : (Cause → Type 0) → NotPlain → Type 0
IsCausedBy Is (Caused cause) = Is cause
IsCausedBy Is Memory = Unit {0}
