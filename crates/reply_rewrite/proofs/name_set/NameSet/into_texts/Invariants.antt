use Rattle.std.proofs.Common.{◌≡◌, map, string_bytes}
use Rattle.reply_rewrite.proofs.name_set.NameSet.into_texts.Given as goal

abbrev pub invariant-loop-name : goal.invariant-loop-name
invariant-loop-name l = l.texts.items ≡ map string_bytes l.yielded
