use Rattle.std.proofs.Common.{[]}
use Rattle.std.proofs.lemmas.List.Elements.{All-nil}
use Rattle.zk_path.specs.Paths.{HasNoSlash, joined}
use Rattle.zk_path.proofs.Values.{is_held, is_seen}
use Rattle.zk_path.proofs.paths.Path.root.Goals as goal

pub invariant_of-result : goal.invariant_of-result
unfolding joined
invariant_of-result c = is_held _ [] (All-nil HasNoSlash) c.new.ensures.bytes

pub returns : goal.returns
unfolding joined
returns c = is_seen _ [] (All-nil HasNoSlash) c.new.ensures.bytes
