use Rattle.std.proofs.Common.{◌∙◌, w64}
use Rattle.std.proofs.lemmas.Int.{to_z-of_z}
use Rattle.tree_state.proofs.Connected.{live_so}
use Rattle.tree_state.proofs.session.Sessions.is_live.Goals as goal

pub returns : goal.returns
returns c = λ xs owned keeps. c.contains_key.ensures ∙ live_so c.args.self.now _ c.args.session xs owned (to_z-of_z w64 c.args.session c.ranges.session) keeps
