-- Answers whose Stat has a bad length, and lists of children.
use Rattle.std.proofs.Common.{ℕ, ℤ, Bool, List, Option, Some, None}
use Rattle.path_seal.specs.Sealed.{Keys}
use Rattle.payload_seal.specs.declared.keys.EntryKeys.{EntryKeys}
use Rattle.request_queue.specs.declared.asked.Asked.TheVariants as asks
use Rattle.zk_messages.specs.Refuses.{IsOpen}
use Rattle.zk_messages.specs.declared.reply.Outcome.TheVariants as outcomes
use Rattle.zk_records.specs.declared.acl.Acl.{Acl}
use Rattle.zk_records.specs.declared.stat.Stat.{Stat}
use Rattle.reply_rewrite.specs.Admits.{IsCauseOf}
use Rattle.reply_rewrite.specs.Caused.{IsCausedBy}
use Rattle.reply_rewrite.proofs.OneRow.{good_list}
use Rattle.reply_rewrite.specs.Children.{IsPlainList, IsListCause}
use Rattle.reply_rewrite.specs.Names.{IsCreated}
use Rattle.reply_rewrite.specs.Stats.{IsLengthCause, IsContentCause}
use Rattle.reply_rewrite.specs.declared.finding.Cause.{Cause}
use Rattle.reply_rewrite.specs.declared.finding.Cause.TheVariants as causes
use Rattle.reply_rewrite.specs.declared.finding.NotPlain.{NotPlain}
use Rattle.reply_rewrite.specs.declared.finding.NotPlain.TheVariants.{Caused, Memory}

caused_as : (P Q : Cause → Type 0) (e : NotPlain) → ((c : Cause) → P c → Q c) → IsCausedBy P e → IsCausedBy Q e
caused_as P Q (Caused c) f h = f c h
caused_as P Q Memory f h = tt

stat_cause : (k : EntryKeys) (path : List (List ℕ)) (stored : Stat) (c : Cause) → IsLengthCause path stored c → IsCauseOf k (asks.StatOf path) (outcomes.Stat stored) c
unfolding IsCauseOf
stat_cause k path stored (causes.Length told) h = h
stat_cause k path stored c h = absurd h

pub stat_caused : (k : EntryKeys) (path : List (List ℕ)) (stored : Stat) (e : NotPlain) → IsCausedBy (IsLengthCause path stored) e → IsCausedBy (IsCauseOf k (asks.StatOf path) (outcomes.Stat stored)) e
stat_caused k path stored e h = caused_as (IsLengthCause path stored) (IsCauseOf k (asks.StatOf path) (outcomes.Stat stored)) e (stat_cause k path stored) h

pub content_cause : (k : EntryKeys) (path : List (List ℕ)) (payload : Option (List ℕ)) (stored : Stat) (c : Cause) → IsContentCause k.payloads path payload stored c → IsCauseOf k (asks.Content path) (outcomes.Content payload stored) c
unfolding IsCauseOf
content_cause k path payload stored (causes.Payload flaw) h = h
content_cause k path payload stored (causes.Length told) h = h
content_cause k path payload stored c h = absurd h

pub content_caused : (k : EntryKeys) (path : List (List ℕ)) (payload : Option (List ℕ)) (stored : Stat) (e : NotPlain) → IsCausedBy (IsContentCause k.payloads path payload stored) e → IsCausedBy (IsCauseOf k (asks.Content path) (outcomes.Content payload stored)) e
content_caused k path payload stored e h = caused_as (IsContentCause k.payloads path payload stored) (IsCauseOf k (asks.Content path) (outcomes.Content payload stored)) e (content_cause k path payload stored) h

acl_cause : (k : EntryKeys) (path : List (List ℕ)) (acls : Option (List Acl)) (stored : Stat) → IsOpen acls → (c : Cause) → IsLengthCause path stored c → IsCauseOf k (asks.AclOf path) (outcomes.Acls acls stored) c
unfolding IsCauseOf
acl_cause k path acls stored is (causes.Length told) h = (is, h)
acl_cause k path acls stored is c h = absurd h

pub acl_caused : (k : EntryKeys) (path : List (List ℕ)) (acls : Option (List Acl)) (stored : Stat) (e : NotPlain) → IsCausedBy (IsLengthCause path stored) e → IsOpen acls → IsCausedBy (IsCauseOf k (asks.AclOf path) (outcomes.Acls acls stored)) e
acl_caused k path acls stored e h is = caused_as (IsLengthCause path stored) (IsCauseOf k (asks.AclOf path) (outcomes.Acls acls stored)) e (acl_cause k path acls stored is) h

create2_cause : (k : EntryKeys) (path : List (List ℕ)) (sequential : Bool) (text made : List ℕ) (stored : Stat) → IsCreated k.names path sequential text made → (c : Cause) → IsLengthCause path stored c → IsCauseOf k (asks.Create2 path sequential) (outcomes.Created2 text stored) c
unfolding IsCauseOf
create2_cause k path sequential text made stored is (causes.Length told) h = ((made, is), h)
create2_cause k path sequential text made stored is c h = absurd h

pub create2_caused : (k : EntryKeys) (path : List (List ℕ)) (sequential : Bool) (text made : List ℕ) (stored : Stat) (e : NotPlain) → IsCausedBy (IsLengthCause path stored) e → IsCreated k.names path sequential text made → IsCausedBy (IsCauseOf k (asks.Create2 path sequential) (outcomes.Created2 text stored)) e
create2_caused k path sequential text made stored e h is =
    caused_as (IsLengthCause path stored) (IsCauseOf k (asks.Create2 path sequential) (outcomes.Created2 text stored)) e (create2_cause k path sequential text made stored is) h

children2_cause : (k : EntryKeys) (path : List (List ℕ)) (list names : Option (List (List ℕ))) (stored : Stat) → IsPlainList k.names path list names → (c : Cause) → IsLengthCause path stored c → IsCauseOf k (asks.Children2 path) (outcomes.Children2 list stored) c
unfolding IsCauseOf
children2_cause k path list names stored plain (causes.Length told) h = (good_list k.names path list names plain, h)
children2_cause k path list names stored plain c h = absurd h

pub children2_caused : (k : EntryKeys) (path : List (List ℕ)) (list names : Option (List (List ℕ))) (stored : Stat) (e : NotPlain) → IsCausedBy (IsLengthCause path stored) e → IsPlainList k.names path list names → IsCausedBy (IsCauseOf k (asks.Children2 path) (outcomes.Children2 list stored)) e
children2_caused k path list names stored e h plain = caused_as (IsLengthCause path stored) (IsCauseOf k (asks.Children2 path) (outcomes.Children2 list stored)) e (children2_cause k path list names stored plain) h

no_length : (k : Keys) (path : List (List ℕ)) (list : Option (List (List ℕ))) (told : ℤ) → IsListCause k path list (causes.Length told) → ⊥
unfolding IsListCause
no_length k path None told h = cc
no_length k path (Some stored) told h = h

pub list_cause : (k : EntryKeys) (path : List (List ℕ)) (list : Option (List (List ℕ))) (stored : Stat) (c : Cause) → IsListCause k.names path list c → IsCauseOf k (asks.Children2 path) (outcomes.Children2 list stored) c
unfolding IsCauseOf
list_cause k path list stored (causes.Length told) h = absurd (no_length k.names path list told h)
list_cause k path list stored c h = h

pub list_caused : (k : EntryKeys) (path : List (List ℕ)) (list : Option (List (List ℕ))) (stored : Stat) (e : NotPlain) → IsCausedBy (IsListCause k.names path list) e → IsCausedBy (IsCauseOf k (asks.Children2 path) (outcomes.Children2 list stored)) e
list_caused k path list stored e h = caused_as (IsListCause k.names path list) (IsCauseOf k (asks.Children2 path) (outcomes.Children2 list stored)) e (list_cause k path list stored) h

pub ruleset answers = (stat_caused, content_caused, acl_caused, create2_caused, children2_caused, list_caused)
