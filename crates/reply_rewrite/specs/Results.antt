-- The results of a multi.
use Rattle.std.specs.Prelude.{◌≡◌, ◌≢◌, ◌⊎◌, ℕ, ◌+◌, Bool, true, false, List, [], ◌∷◌, length}
use Rattle.path_seal.specs.Sealed.{Keys}
use Rattle.request_queue.specs.declared.asked.AskedOp.{AskedOp}
use Rattle.request_queue.specs.declared.asked.AskedOp.TheVariants as ops
use Rattle.zk_messages.specs.declared.reply.OpResult.{OpResult}
use Rattle.zk_messages.specs.declared.reply.OpResult.TheVariants as op_results
use Rattle.reply_rewrite.specs.Names.{IsCreated, IsSomeCreated, IsNotCreated}
use Rattle.reply_rewrite.specs.Stats.{IsPlainStat, HasNoLength}
use Rattle.reply_rewrite.specs.declared.finding.Cause.{Cause}
use Rattle.reply_rewrite.specs.declared.finding.Cause.TheVariants as causes

-- a multi failed where its first result is an error
abbrev pub is_failed : List OpResult → Bool
is_failed (op_results.Error code ∷ rest) = true
is_failed stored = false

-- all results of a multi that failed are errors; in each other one they are of their operations' kinds
unfoldable pub HasKind : Bool → AskedOp → OpResult → Type 0
HasKind true op (op_results.Error code) = Unit {0}
HasKind false (ops.Create path sequential) (op_results.Created text) = Unit {0}
HasKind false (ops.Create2 path sequential) (op_results.Created2 text stored) = Unit {0}
HasKind false ops.Delete op_results.Deleted = Unit {0}
HasKind false (ops.SetContent path) (op_results.Changed stored) = Unit {0}
HasKind false ops.Check op_results.Checked = Unit {0}
HasKind failed op stored = ⊥

-- what a client is told in place of the result of an operation
unfoldable pub IsPlainResult : Keys → Bool → AskedOp → OpResult → OpResult → Type 0
IsPlainResult k true op (op_results.Error code) plain = plain ≡ op_results.Error code
IsPlainResult k false (ops.Create path sequential) (op_results.Created text) (op_results.Created plain) = IsCreated k path sequential text plain
IsPlainResult k false (ops.Create2 path sequential) (op_results.Created2 text stored) (op_results.Created2 plain stat) = IsCreated k path sequential text plain × IsPlainStat path stored stat
IsPlainResult k false ops.Delete op_results.Deleted op_results.Deleted = Unit {0}
IsPlainResult k false (ops.SetContent path) (op_results.Changed stored) (op_results.Changed plain) = IsPlainStat path stored plain
IsPlainResult k false ops.Check op_results.Checked op_results.Checked = Unit {0}
IsPlainResult k failed op stored plain = ⊥

-- operation by operation, in order
unfoldable pub ArePlainResults : Keys → Bool → List AskedOp → List OpResult → List OpResult → Type 0
ArePlainResults k failed [] [] [] = Unit {0}
ArePlainResults k failed (op ∷ ops) (s ∷ stored) (p ∷ plain) = IsPlainResult k failed op s p × ArePlainResults k failed ops stored plain
ArePlainResults k failed ops stored plain = ⊥

-- the store tells of a node that was not asked for
unfoldable pub IsOtherCreated : Keys → Bool → AskedOp → OpResult → Type 0
IsOtherCreated k false (ops.Create path sequential) (op_results.Created text) = IsNotCreated k path sequential text
IsOtherCreated k false (ops.Create2 path sequential) (op_results.Created2 text stored) = IsNotCreated k path sequential text
IsOtherCreated k failed op stored = ⊥

-- the store tells a length that no payload there has, of a node that was asked for
unfoldable pub IsOtherLength : Keys → Bool → AskedOp → OpResult → Type 0
IsOtherLength k false (ops.Create2 path sequential) (op_results.Created2 text stored) = IsSomeCreated k path sequential text × HasNoLength path stored
IsOtherLength k false (ops.SetContent path) (op_results.Changed stored) = HasNoLength path stored
IsOtherLength k failed op stored = ⊥

-- what is wrong with the result at an index
unfoldable pub IsCauseAt : Keys → Bool → ℕ → AskedOp → OpResult → Cause → Type 0
IsCauseAt k failed index op stored (causes.MultiKind at) = (at ≡ index) × (HasKind failed op stored → ⊥)
IsCauseAt k failed index op stored (causes.MultiCreated at) = (at ≡ index) × IsOtherCreated k failed op stored
IsCauseAt k failed index op stored (causes.MultiLength at) = (at ≡ index) × IsOtherLength k failed op stored
IsCauseAt k failed index op stored cause = ⊥

-- the first of these results of which something is wrong has the index, or a later one: those before it have plain forms
unfoldable pub IsFirstCause : Keys → Bool → ℕ → List AskedOp → List OpResult → Cause → Type 0
IsFirstCause k failed index (op ∷ ops) (s ∷ stored) cause =
    IsCauseAt k failed index op s cause ⊎ ((plain : OpResult) × IsPlainResult k failed op s plain × IsFirstCause k failed (index + 1) ops stored cause)
IsFirstCause k failed index ops stored cause = ⊥

-- another number of results than of operations
abbrev pub IsOtherCount : List AskedOp → List OpResult → Cause → Type 0
IsOtherCount ops stored cause = (length ops ≢ length stored) × (cause ≡ causes.MultiCount (length ops) (length stored))

-- the first thing that is wrong with the results
abbrev pub IsResultsCause : Keys → List AskedOp → List OpResult → Cause → Type 0
IsResultsCause k ops stored cause = IsOtherCount ops stored cause ⊎ ((length ops ≡ length stored) × IsFirstCause k (is_failed stored) 0 ops stored cause)
