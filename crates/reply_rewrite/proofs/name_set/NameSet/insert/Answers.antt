use Rattle.std.proofs.Common.{string_bytes}
use Rattle.reply_rewrite.proofs.Sets.{added_one, inserted, counted}
use Rattle.reply_rewrite.proofs.name_set.NameSet.insert.Goals as goal

pub returns-clause-added : goal.returns-clause-added
returns-clause-added c = rw (← c.self.view_is) (added_one string_bytes c.args.name c.self.inside.held.keys _ c.in_ok-added.ensures.added)

pub returns-clause-names : goal.returns-clause-names
returns-clause-names c = rw (← c.self.view_is) (inserted string_bytes c.args.name c.self.inside.held.keys _ c.in_ok-added.ensures.keys)

pub returns-clause-counted : goal.returns-clause-counted
returns-clause-counted c = rw (← c.self.view_is) (counted c.self.inside.held.keys _ _ c.in_ok-added.ensures.len)
