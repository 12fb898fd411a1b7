-- What a client is told in place of what a store answered.
use Rattle.std.specs.Prelude.{◌≡◌, ◌⊎◌, ℤ, negsuc, Option, Some, None}
use Rattle.path_seal.specs.Sealed.{Opens}
use Rattle.payload_seal.specs.declared.keys.EntryKeys.{EntryKeys}
use Rattle.request_queue.specs.declared.asked.Asked.{Asked}
use Rattle.request_queue.specs.declared.asked.Asked.TheVariants as asks
use Rattle.zk_messages.specs.Refuses.{IsOpen}
use Rattle.zk_messages.specs.Replies.{HasShape}
use Rattle.zk_messages.specs.declared.reply.Outcome.{Outcome}
use Rattle.zk_messages.specs.declared.reply.Outcome.TheVariants as outcomes
use Rattle.zk_messages.specs.declared.reply.Reply.{Reply}
use Rattle.reply_rewrite.specs.Children.{IsPlainList, IsListCause, IsGoodList}
use Rattle.reply_rewrite.specs.Names.{IsCreated, IsSomeCreated, IsNotCreated, IsSynced}
use Rattle.reply_rewrite.specs.Results.{ArePlainResults, IsResultsCause, is_failed}
use Rattle.reply_rewrite.specs.Shapes.{shape_for}
use Rattle.reply_rewrite.specs.Stats.{IsPlainStat, HasBadLength, IsPlainContent, HasFlaw, HasOtherLength}
use Rattle.reply_rewrite.specs.declared.finding.Cause.{Cause}
use Rattle.reply_rewrite.specs.declared.finding.Cause.TheVariants as causes

-- the proxy refused the request
abbrev pub IsRefused : Asked → Type 0
IsRefused (asks.Refused code) = Unit {0}
IsRefused asked = ⊥

-- the store answered with an error
abbrev pub IsFailure : Outcome → Type 0
IsFailure (outcomes.Error code) = Unit {0}
IsFailure stored = ⊥

-- the code of an answer that is none to the request: marshalling error
abbrev pub marshalling_error : ℤ
marshalling_error = negsuc 4

-- what a client is told, in plain text, in place of what the store answered
unfoldable pub IsPlain : EntryKeys → Asked → Outcome → Outcome → Type 0
IsPlain k asks.Empty outcomes.Empty outcomes.Empty = Unit {0}
IsPlain k asks.Close outcomes.Empty outcomes.Empty = Unit {0}
IsPlain k (asks.Create path sequential) (outcomes.Path text) (outcomes.Path plain) = IsCreated k.names path sequential text plain
IsPlain k (asks.Create2 path sequential) (outcomes.Created2 text stored) (outcomes.Created2 plain stat) = IsCreated k.names path sequential text plain × IsPlainStat path stored stat
IsPlain k (asks.StatOf path) (outcomes.Stat stored) (outcomes.Stat plain) = IsPlainStat path stored plain
IsPlain k (asks.Content path) (outcomes.Content payload stored) (outcomes.Content content plain) = IsPlainContent k.payloads path payload stored content plain
IsPlain k (asks.AclOf path) (outcomes.Acls acls stored) (outcomes.Acls same plain) = IsOpen acls × (same ≡ acls) × IsPlainStat path stored plain
IsPlain k (asks.Children path) (outcomes.Children list) (outcomes.Children names) = IsPlainList k.names path list names
IsPlain k (asks.Children2 path) (outcomes.Children2 list stored) (outcomes.Children2 names plain) = IsPlainList k.names path list names × IsPlainStat path stored plain
IsPlain k (asks.SyncOf path) (outcomes.Path text) (outcomes.Path plain) = IsSynced k.names path text plain
IsPlain k (asks.Multi ops) (outcomes.Multi stored) (outcomes.Multi plain) = ArePlainResults k.names (is_failed stored) ops stored plain
IsPlain k asked stored plain = ⊥

-- the first thing that is wrong with what the store answered
unfoldable pub IsCauseOf : EntryKeys → Asked → Outcome → Cause → Type 0
IsCauseOf k (asks.Create path sequential) (outcomes.Path text) causes.Created = IsNotCreated k.names path sequential text
IsCauseOf k (asks.Create2 path sequential) (outcomes.Created2 text stored) causes.Created = IsNotCreated k.names path sequential text
IsCauseOf k (asks.Create2 path sequential) (outcomes.Created2 text stored) (causes.Length told) = IsSomeCreated k.names path sequential text × HasBadLength path stored told
IsCauseOf k (asks.StatOf path) (outcomes.Stat stored) (causes.Length told) = HasBadLength path stored told
IsCauseOf k (asks.Content path) (outcomes.Content payload stored) (causes.Payload flaw) = HasFlaw k.payloads path payload flaw
IsCauseOf k (asks.Content path) (outcomes.Content payload stored) (causes.Length told) = HasOtherLength k.payloads path payload stored told
IsCauseOf k (asks.AclOf path) (outcomes.Acls acls stored) causes.Acl = IsOpen acls → ⊥
IsCauseOf k (asks.AclOf path) (outcomes.Acls acls stored) (causes.Length told) = IsOpen acls × HasBadLength path stored told
IsCauseOf k (asks.Children path) (outcomes.Children list) cause = IsListCause k.names path list cause
IsCauseOf k (asks.Children2 path) (outcomes.Children2 list stored) (causes.Length told) = IsGoodList k.names path list × HasBadLength path stored told
IsCauseOf k (asks.Children2 path) (outcomes.Children2 list stored) cause = IsListCause k.names path list cause
IsCauseOf k (asks.SyncOf path) (outcomes.Path text) causes.SyncPath = Opens k.names text path → ⊥
IsCauseOf k (asks.Multi ops) (outcomes.Multi stored) cause = IsResultsCause k.names ops stored cause
IsCauseOf k asked stored cause = ⊥

-- plain text and no cause, or a marshalling error and the cause
abbrev pub Tells : EntryKeys → Asked → Outcome → Outcome → Option Cause → Type 0
Tells k asked stored told cause = ((cause ≡ None) × IsPlain k asked stored told)
    ⊎ ((c : Cause) × (cause ≡ Some c) × IsCauseOf k asked stored c × (told ≡ outcomes.Error marshalling_error))

-- an error of the store is passed on
unfoldable pub AdmitsStored : EntryKeys → Asked → Outcome → Outcome → Option Cause → Type 0
AdmitsStored k asked (outcomes.Error code) told cause = (told ≡ outcomes.Error code) × (cause ≡ None)
AdmitsStored k asked stored told cause = Tells k asked stored told cause

-- the answer to a stand-in becomes the code of the refusal, whatever it is
unfoldable pub AdmitsOutcome : EntryKeys → Asked → Outcome → Outcome → Option Cause → Type 0
AdmitsOutcome k (asks.Refused code) stored told cause = (told ≡ outcomes.Error code) × (cause ≡ None)
AdmitsOutcome k asked stored told cause = AdmitsStored k asked stored told cause

-- the reply that is passed on, and what was wrong with the store's, which has the shape of an answer to the request
pub record Admits (k : EntryKeys) (asked : Asked) (stored told : Reply) (cause : Option Cause) : Type 0 where
  pub shaped : HasShape (shape_for asked) stored.outcome
  pub same_xid : told.xid ≡ stored.xid
  pub same_zxid : told.zxid ≡ stored.zxid
  pub outcome : AdmitsOutcome k asked stored.outcome told.outcome cause
