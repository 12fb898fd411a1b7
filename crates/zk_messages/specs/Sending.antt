-- Messages that can be written, and what writing one appends.
use Rattle.std.specs.Prelude.{◌≡◌, ◌≢◌, ℕ, pos, ◌<◌, ◌^◌, List, ◌++◌, length, IfSome, All}
use Rattle.jute_core.specs.Lists.{AreShort}
use Rattle.zk_records.specs.Acls.{AreShortAcls}
use Rattle.zk_records.specs.Requests.{IsShortCreate, IsShortSetContent, IsShortSetAcl, IsShortSetWatches}
use Rattle.zk_messages.specs.declared.request.Op.{Op}
use Rattle.zk_messages.specs.declared.request.Op.TheVariants as ops
use Rattle.zk_messages.specs.declared.request.Request.{Request}
use Rattle.zk_messages.specs.declared.request.Request.TheVariants as requests
use Rattle.zk_messages.specs.declared.reply.OpResult.{OpResult}
use Rattle.zk_messages.specs.declared.reply.OpResult.TheVariants as op_results
use Rattle.zk_messages.specs.declared.reply.Outcome.{Outcome}
use Rattle.zk_messages.specs.declared.reply.Outcome.TheVariants as outcomes

-- bytes that are so were added at the end
pub record AddsBytes (old new : List ℕ) (Is : List ℕ → Type 0) : Type 0 where
  pub bytes : List ℕ
  pub is : Is bytes
  pub added : new ≡ old ++ bytes

-- the lengths and counts of a message are ints
abbrev pub IsShortOp : Op → Type 0
IsShortOp (ops.Create r) = IsShortCreate r
IsShortOp (ops.Delete r) = length r.path < 2 ^ 31
IsShortOp (ops.SetContent r) = IsShortSetContent r
IsShortOp (ops.Check r) = length r.path < 2 ^ 31
IsShortOp (ops.Create2 r) = IsShortCreate r

abbrev pub IsShortRequest : Request → Type 0
IsShortRequest (requests.Create r) = IsShortCreate r
IsShortRequest (requests.Delete r) = length r.path < 2 ^ 31
IsShortRequest (requests.Exists r) = length r.path < 2 ^ 31
IsShortRequest (requests.GetContent r) = length r.path < 2 ^ 31
IsShortRequest (requests.SetContent r) = IsShortSetContent r
IsShortRequest (requests.GetAcl r) = length r.path < 2 ^ 31
IsShortRequest (requests.SetAcl r) = IsShortSetAcl r
IsShortRequest (requests.GetChildren r) = length r.path < 2 ^ 31
IsShortRequest (requests.GetChildren2 r) = length r.path < 2 ^ 31
IsShortRequest (requests.Sync r) = length r.path < 2 ^ 31
IsShortRequest requests.Ping = Unit {0}
IsShortRequest (requests.Multi list) = All IsShortOp list
IsShortRequest (requests.SetWatches r) = IsShortSetWatches r
IsShortRequest (requests.Auth body) = Unit {0}
IsShortRequest requests.Close = Unit {0}
IsShortRequest (requests.Create2 r) = IsShortCreate r
IsShortRequest (requests.Unknown kind body) = Unit {0}

abbrev pub IsShortResult : OpResult → Type 0
IsShortResult (op_results.Created path) = length path < 2 ^ 31
IsShortResult op_results.Deleted = Unit {0}
IsShortResult (op_results.Changed stat) = Unit {0}
IsShortResult op_results.Checked = Unit {0}
IsShortResult (op_results.Error code) = Unit {0}
IsShortResult (op_results.Created2 path stat) = length path < 2 ^ 31

-- and the code of an error is not 0
abbrev pub IsShortOutcome : Outcome → Type 0
IsShortOutcome (outcomes.Error code) = code ≢ pos 0
IsShortOutcome outcomes.Empty = Unit {0}
IsShortOutcome (outcomes.Path path) = length path < 2 ^ 31
IsShortOutcome (outcomes.Stat stat) = Unit {0}
IsShortOutcome (outcomes.Content content stat) = IfSome content (λ b. length b < 2 ^ 31)
IsShortOutcome (outcomes.Acls list stat) = IfSome list AreShortAcls
IsShortOutcome (outcomes.Children names) = IfSome names AreShort
IsShortOutcome (outcomes.Children2 names stat) = IfSome names AreShort
IsShortOutcome (outcomes.Multi list) = All IsShortResult list
IsShortOutcome (outcomes.Created2 path stat) = length path < 2 ^ 31
