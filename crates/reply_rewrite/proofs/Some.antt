-- At least one reply is passed on.
use Rattle.std.proofs.Common.{◌⊎◌, ℕ, Bool, List, Option, Some, None, inl, inr, refl}
use Rattle.zk_path.specs.Paths.{text_of}
use Rattle.path_seal.specs.Sealed.{AreKeys, Opens}
use Rattle.payload_seal.specs.declared.keys.EntryKeys.{EntryKeys}
use Rattle.request_queue.specs.declared.asked.Asked.{Asked}
use Rattle.request_queue.specs.declared.asked.Asked.TheVariants as asks
use Rattle.request_queue.specs.declared.asked.AskedOp.{AskedOp}
use Rattle.zk_messages.specs.Refuses.{IsOpen}
use Rattle.zk_messages.specs.Replies.{HasShape}
use Rattle.zk_messages.specs.declared.reply.OpResult.{OpResult}
use Rattle.zk_messages.specs.declared.reply.Outcome.{Outcome}
use Rattle.zk_messages.specs.declared.reply.Outcome.TheVariants as outcomes
use Rattle.zk_messages.specs.declared.reply.Reply.{Reply}
use Rattle.zk_records.specs.declared.acl.Acl.{Acl}
use Rattle.zk_records.specs.declared.stat.Stat.{Stat}
use Rattle.reply_rewrite.proofs.Answering.{content_cause, list_cause}
use Rattle.reply_rewrite.proofs.Decided.{created_judged, dec_opens, dec_open_acls}
use Rattle.reply_rewrite.proofs.Judging.{ContentOrCause, stat_judged, content_judged, list_judged, results_judged}
use Rattle.reply_rewrite.proofs.OneRow.{good_list}
use Rattle.reply_rewrite.specs.Admits.{IsPlain, IsCauseOf, Tells, AdmitsStored, AdmitsOutcome, Admits, marshalling_error}
use Rattle.reply_rewrite.specs.Children.{IsPlainList, IsListCause}
use Rattle.reply_rewrite.specs.Names.{IsCreated, IsNotCreated}
use Rattle.reply_rewrite.specs.Results.{is_failed, ArePlainResults, IsResultsCause}
use Rattle.reply_rewrite.specs.Shapes.{shape_for}
use Rattle.reply_rewrite.specs.Stats.{IsPlainStat, HasBadLength}
use Rattle.reply_rewrite.specs.declared.finding.Cause.{Cause}
use Rattle.reply_rewrite.specs.declared.finding.Cause.TheVariants as causes

-- an answer has a plain form, or a cause
IsAnswered : EntryKeys → Asked → Outcome → Type 0
IsAnswered k asked stored = ((told : Outcome) × IsPlain k asked stored told) ⊎ ((c : Cause) × IsCauseOf k asked stored c)

answered_create : (k : EntryKeys) (path : List (List ℕ)) (sequential : Bool) (text : List ℕ) → ((plain : List ℕ) × IsCreated k.names path sequential text plain) ⊎ IsNotCreated k.names path sequential text → IsAnswered k (asks.Create path sequential) (outcomes.Path text)
unfolding IsAnswered IsPlain IsCauseOf
answered_create k path sequential text (inl h) = inl (outcomes.Path h.0, h.1)
answered_create k path sequential text (inr f) = inr (causes.Created, f)

answered_sync : (k : EntryKeys) (path : List (List ℕ)) (text : List ℕ) → Dec (Opens k.names text path) → IsAnswered k (asks.SyncOf path) (outcomes.Path text)
unfolding IsAnswered IsPlain IsCauseOf
answered_sync k path text (yes h) = inl (outcomes.Path (text_of path), record { opened = h; spelled = refl })
answered_sync k path text (no f) = inr (causes.SyncPath, f)

answered_create2 : (k : EntryKeys) (path : List (List ℕ)) (sequential : Bool) (text : List ℕ) (stored : Stat) → ((plain : List ℕ) × IsCreated k.names path sequential text plain) ⊎ IsNotCreated k.names path sequential text → ((plain : Stat) × IsPlainStat path stored plain) ⊎ HasBadLength path stored stored.length → IsAnswered k (asks.Create2 path sequential) (outcomes.Created2 text stored)
unfolding IsAnswered IsPlain IsCauseOf
answered_create2 k path sequential text stored (inr f) s = inr (causes.Created, f)
answered_create2 k path sequential text stored (inl h) (inl s) = inl (outcomes.Created2 h.0 s.0, (h.1, s.1))
answered_create2 k path sequential text stored (inl h) (inr bad) = inr (causes.Length stored.length, (h, bad))

answered_stat : (k : EntryKeys) (path : List (List ℕ)) (stored : Stat) → ((plain : Stat) × IsPlainStat path stored plain) ⊎ HasBadLength path stored stored.length → IsAnswered k (asks.StatOf path) (outcomes.Stat stored)
unfolding IsAnswered IsPlain IsCauseOf
answered_stat k path stored (inl h) = inl (outcomes.Stat h.0, h.1)
answered_stat k path stored (inr bad) = inr (causes.Length stored.length, bad)

answered_content : (k : EntryKeys) (path : List (List ℕ)) (payload : Option (List ℕ)) (stored : Stat) → ContentOrCause k.payloads path payload stored → IsAnswered k (asks.Content path) (outcomes.Content payload stored)
unfolding IsAnswered IsPlain
answered_content k path payload stored (inl h) = inl (outcomes.Content h.0 h.1, h.2)
answered_content k path payload stored (inr c) = inr (c.0, content_cause k path payload stored c.0 c.1)

answered_acl : (k : EntryKeys) (path : List (List ℕ)) (acls : Option (List Acl)) (stored : Stat) → Dec (IsOpen acls) → ((plain : Stat) × IsPlainStat path stored plain) ⊎ HasBadLength path stored stored.length → IsAnswered k (asks.AclOf path) (outcomes.Acls acls stored)
unfolding IsAnswered IsPlain IsCauseOf
answered_acl k path acls stored (no f) s = inr (causes.Acl, f)
answered_acl k path acls stored (yes is) (inl h) = inl (outcomes.Acls acls h.0, (is, refl, h.1))
answered_acl k path acls stored (yes is) (inr bad) = inr (causes.Length stored.length, (is, bad))

answered_children : (k : EntryKeys) (path : List (List ℕ)) (list : Option (List (List ℕ))) → ((names : Option (List (List ℕ))) × IsPlainList k.names path list names) ⊎ ((c : Cause) × IsListCause k.names path list c) → IsAnswered k (asks.Children path) (outcomes.Children list)
unfolding IsAnswered IsPlain IsCauseOf
answered_children k path list (inl h) = inl (outcomes.Children h.0, h.1)
answered_children k path list (inr c) = inr c

answered_children2 : (k : EntryKeys) (path : List (List ℕ)) (list : Option (List (List ℕ))) (stored : Stat) → ((names : Option (List (List ℕ))) × IsPlainList k.names path list names) ⊎ ((c : Cause) × IsListCause k.names path list c) → ((plain : Stat) × IsPlainStat path stored plain) ⊎ HasBadLength path stored stored.length → IsAnswered k (asks.Children2 path) (outcomes.Children2 list stored)
unfolding IsAnswered IsPlain IsCauseOf
answered_children2 k path list stored (inr c) s = inr (c.0, list_cause k path list stored c.0 c.1)
answered_children2 k path list stored (inl h) (inl s) = inl (outcomes.Children2 h.0 s.0, (h.1, s.1))
answered_children2 k path list stored (inl h) (inr bad) = inr (causes.Length stored.length, (good_list k.names path list h.0 h.1, bad))

answered_multi : (k : EntryKeys) (ops : List AskedOp) (stored : List OpResult) → ((plain : List OpResult) × ArePlainResults k.names (is_failed stored) ops stored plain) ⊎ ((c : Cause) × IsResultsCause k.names ops stored c) → IsAnswered k (asks.Multi ops) (outcomes.Multi stored)
unfolding IsAnswered IsPlain IsCauseOf
answered_multi k ops stored (inl h) = inl (outcomes.Multi h.0, h.1)
answered_multi k ops stored (inr c) = inr c

told_of : (k : EntryKeys) (asked : Asked) (stored : Outcome) → IsAnswered k asked stored → (told : Outcome) × (cause : Option Cause) × Tells k asked stored told cause
unfolding IsAnswered
told_of k asked stored (inl h) = (h.0, None, inl (refl, h.1))
told_of k asked stored (inr c) = (outcomes.Error marshalling_error, Some c.0, inr (c.0, refl, c.1, refl))

stored_told : (k : EntryKeys) (asked : Asked) (stored : Outcome) → AreKeys k.names → HasShape (shape_for asked) stored → (told : Outcome) × (cause : Option Cause) × AdmitsOutcome k asked stored told cause
unfolding AdmitsOutcome AdmitsStored IsAnswered IsPlain
stored_told k (asks.Refused code) stored keys h = (outcomes.Error code, None, (refl, refl))
stored_told k asks.Empty (outcomes.Error code) keys h = (outcomes.Error code, None, (refl, refl))
stored_told k asks.Close (outcomes.Error code) keys h = (outcomes.Error code, None, (refl, refl))
stored_told k (asks.Create path sequential) (outcomes.Error code) keys h = (outcomes.Error code, None, (refl, refl))
stored_told k (asks.Create2 path sequential) (outcomes.Error code) keys h = (outcomes.Error code, None, (refl, refl))
stored_told k (asks.StatOf path) (outcomes.Error code) keys h = (outcomes.Error code, None, (refl, refl))
stored_told k (asks.Content path) (outcomes.Error code) keys h = (outcomes.Error code, None, (refl, refl))
stored_told k (asks.AclOf path) (outcomes.Error code) keys h = (outcomes.Error code, None, (refl, refl))
stored_told k (asks.Children path) (outcomes.Error code) keys h = (outcomes.Error code, None, (refl, refl))
stored_told k (asks.Children2 path) (outcomes.Error code) keys h = (outcomes.Error code, None, (refl, refl))
stored_told k (asks.SyncOf path) (outcomes.Error code) keys h = (outcomes.Error code, None, (refl, refl))
stored_told k (asks.Multi ops) (outcomes.Error code) keys h = (outcomes.Error code, None, (refl, refl))
stored_told k asks.Empty outcomes.Empty keys h = told_of k asks.Empty outcomes.Empty (inl (outcomes.Empty, tt))
stored_told k asks.Close outcomes.Empty keys h = told_of k asks.Close outcomes.Empty (inl (outcomes.Empty, tt))
stored_told k (asks.Create path sequential) (outcomes.Path text) keys h = told_of k (asks.Create path sequential) (outcomes.Path text) (answered_create k path sequential text (created_judged k.names path sequential text))
stored_told k (asks.Create2 path sequential) (outcomes.Created2 text stored) keys h = told_of k (asks.Create2 path sequential) (outcomes.Created2 text stored) (answered_create2 k path sequential text stored (created_judged k.names path sequential text) (stat_judged path stored))
stored_told k (asks.StatOf path) (outcomes.Stat stored) keys h = told_of k (asks.StatOf path) (outcomes.Stat stored) (answered_stat k path stored (stat_judged path stored))
stored_told k (asks.Content path) (outcomes.Content payload stored) keys h = told_of k (asks.Content path) (outcomes.Content payload stored) (answered_content k path payload stored (content_judged k.payloads path payload stored))
stored_told k (asks.AclOf path) (outcomes.Acls acls stored) keys h = told_of k (asks.AclOf path) (outcomes.Acls acls stored) (answered_acl k path acls stored (dec_open_acls acls) (stat_judged path stored))
stored_told k (asks.Children path) (outcomes.Children list) keys h = told_of k (asks.Children path) (outcomes.Children list) (answered_children k path list (list_judged k.names path list keys))
stored_told k (asks.Children2 path) (outcomes.Children2 list stored) keys h = told_of k (asks.Children2 path) (outcomes.Children2 list stored) (answered_children2 k path list stored (list_judged k.names path list keys) (stat_judged path stored))
stored_told k (asks.SyncOf path) (outcomes.Path text) keys h = told_of k (asks.SyncOf path) (outcomes.Path text) (answered_sync k path text (dec_opens k.names text path))
stored_told k (asks.Multi ops) (outcomes.Multi stored) keys h = told_of k (asks.Multi ops) (outcomes.Multi stored) (answered_multi k ops stored (results_judged k.names ops stored))
stored_told k asked stored keys h = absurd h

pub at_least_one : (k : EntryKeys) (asked : Asked) (stored : Reply) → AreKeys k.names → HasShape (shape_for asked) stored.outcome → (told : Reply) × (cause : Option Cause) × Admits k asked stored told cause
at_least_one k asked stored keys h =
    let x = stored_told k asked stored.outcome keys h in
    (record stored { outcome = x.0 }, x.1, record { shaped = h; same_xid = refl; same_zxid = refl; outcome = x.2 })
