-- What the reader of a result passes behind its header.
use Rattle.std.specs.Prelude.{◌≡◌, ℕ, List}
use Rattle.jute_core.specs.Jute.{ustring, pair}
use Rattle.jute_core.specs.Position.{Position, Passes}
use Rattle.zk_records.specs.Stats.{stat, stat_fields}
use Rattle.zk_records.specs.declared.stat.Stat.{Stat}
use Rattle.zk_messages.specs.declared.kind.OpKind.{OpKind}
use Rattle.zk_messages.specs.declared.kind.OpKind.TheVariants as kinds
use Rattle.zk_messages.specs.declared.reply.OpResult.{OpResult}
use Rattle.zk_messages.specs.declared.reply.OpResult.TheVariants as op_results

-- the result of an operation of this type, where it was done
abbrev pub IsDone : OpKind → Position → Position → OpResult → Type 0
IsDone kinds.Create old new r = (path : List ℕ) × (r ≡ op_results.Created path) × Passes old new ustring path
IsDone kinds.Delete old new r = (r ≡ op_results.Deleted) × (new ≡ old)
IsDone kinds.SetContent old new r = (s : Stat) × (r ≡ op_results.Changed s) × Passes old new stat (stat_fields s)
IsDone kinds.Check old new r = (r ≡ op_results.Checked) × (new ≡ old)
IsDone kinds.Create2 old new r = (path : List ℕ) × (s : Stat) × (r ≡ op_results.Created2 path s) × Passes old new (pair ustring stat) (path, stat_fields s)
