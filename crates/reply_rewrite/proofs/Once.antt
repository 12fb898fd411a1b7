-- At most one reply is passed on.
use Rattle.std.proofs.Common.{◌≡◌, ℕ, ℤ, Bool, List, Option, Some, inl, inr, refl, sym, ap, ◌∙◌}
use Rattle.path_seal.specs.Sealed.{AreKeys}
use Rattle.payload_seal.proofs.Judged.{judged_once}
use Rattle.payload_seal.specs.Payload.{content_of}
use Rattle.payload_seal.specs.declared.keys.EntryKeys.{EntryKeys}
use Rattle.request_queue.specs.declared.asked.Asked.{Asked}
use Rattle.request_queue.specs.declared.asked.Asked.TheVariants as asks
use Rattle.zk_messages.specs.declared.reply.Outcome.{Outcome}
use Rattle.zk_messages.specs.declared.reply.Outcome.TheVariants as outcomes
use Rattle.zk_messages.specs.declared.reply.Reply.{Reply}
use Rattle.zk_records.specs.declared.acl.Acl.{Acl}
use Rattle.zk_records.specs.declared.stat.Stat.{Stat}
use Rattle.reply_rewrite.proofs.OneRow.{one_created, created_or_not, one_stat, stat_or_bad, one_content, content_or_flaw, content_or_other, one_list, good_list_or_not, one_list_cause, good_list}
use Rattle.reply_rewrite.proofs.OneResults.{one_results, results_or_cause, one_results_cause}
use Rattle.reply_rewrite.specs.Admits.{IsPlain, IsCauseOf, Tells, AdmitsStored, AdmitsOutcome, Admits}
use Rattle.reply_rewrite.specs.declared.finding.Cause.{Cause}
use Rattle.reply_rewrite.specs.declared.finding.Cause.TheVariants as causes

-- ---- one plain form

content_pair : (d e : Option (List ℕ)) (a b : Stat) → d ≡ e → a ≡ b → outcomes.Content d a ≡ outcomes.Content e b
content_pair d e a b f g = (λ i. outcomes.Content (f i) (g i))

acls_pair : (d e : Option (List Acl)) (a b : Stat) → d ≡ e → a ≡ b → outcomes.Acls d a ≡ outcomes.Acls e b
acls_pair d e a b f g = (λ i. outcomes.Acls (f i) (g i))

children_pair : (d e : Option (List (List ℕ))) (a b : Stat) → d ≡ e → a ≡ b → outcomes.Children2 d a ≡ outcomes.Children2 e b
children_pair d e a b f g = (λ i. outcomes.Children2 (f i) (g i))

created2_pair : (x y : List ℕ) (a b : Stat) → x ≡ y → a ≡ b → outcomes.Created2 x a ≡ outcomes.Created2 y b
created2_pair x y a b f g = (λ i. outcomes.Created2 (f i) (g i))

one_plain : (k : EntryKeys) (asked : Asked) (stored a b : Outcome) → AreKeys k.names → IsPlain k asked stored a → IsPlain k asked stored b → a ≡ b
unfolding IsPlain
one_plain k asks.Empty outcomes.Empty outcomes.Empty outcomes.Empty keys x y = refl
one_plain k asks.Empty outcomes.Empty outcomes.Empty b keys x y = absurd y
one_plain k asks.Close outcomes.Empty outcomes.Empty outcomes.Empty keys x y = refl
one_plain k asks.Close outcomes.Empty outcomes.Empty b keys x y = absurd y
one_plain k (asks.Create path sequential) (outcomes.Path text) (outcomes.Path a) (outcomes.Path b) keys x y = ap outcomes.Path (one_created k.names path sequential text a b keys x y)
one_plain k (asks.Create path sequential) (outcomes.Path text) (outcomes.Path a) b keys x y = absurd y
one_plain k (asks.Create2 path sequential) (outcomes.Created2 text stored) (outcomes.Created2 p a) (outcomes.Created2 q b) keys x y =
    created2_pair p q a b (one_created k.names path sequential text p q keys x.0 y.0) (one_stat path stored a b x.1 y.1)
one_plain k (asks.Create2 path sequential) (outcomes.Created2 text stored) (outcomes.Created2 p a) b keys x y = absurd y
one_plain k (asks.StatOf path) (outcomes.Stat stored) (outcomes.Stat a) (outcomes.Stat b) keys x y = ap outcomes.Stat (one_stat path stored a b x y)
one_plain k (asks.StatOf path) (outcomes.Stat stored) (outcomes.Stat a) b keys x y = absurd y
one_plain k (asks.Content path) (outcomes.Content payload stored) (outcomes.Content d a) (outcomes.Content e b) keys x y =
    content_pair d e a b (one_content k.payloads path (content_of payload) d e x.accepted y.accepted) (one_stat path stored a b x.stat y.stat)
one_plain k (asks.Content path) (outcomes.Content payload stored) (outcomes.Content d a) b keys x y = absurd y
one_plain k (asks.AclOf path) (outcomes.Acls acls stored) (outcomes.Acls d a) (outcomes.Acls e b) keys x y = acls_pair d e a b (x.1 ∙ sym y.1) (one_stat path stored a b x.2 y.2)
one_plain k (asks.AclOf path) (outcomes.Acls acls stored) (outcomes.Acls d a) b keys x y = absurd y
one_plain k (asks.Children path) (outcomes.Children list) (outcomes.Children a) (outcomes.Children b) keys x y = ap outcomes.Children (one_list k.names path list a b x y)
one_plain k (asks.Children path) (outcomes.Children list) (outcomes.Children a) b keys x y = absurd y
one_plain k (asks.Children2 path) (outcomes.Children2 list stored) (outcomes.Children2 d a) (outcomes.Children2 e b) keys x y =
    children_pair d e a b (one_list k.names path list d e x.0 y.0) (one_stat path stored a b x.1 y.1)
one_plain k (asks.Children2 path) (outcomes.Children2 list stored) (outcomes.Children2 d a) b keys x y = absurd y
one_plain k (asks.SyncOf path) (outcomes.Path text) (outcomes.Path a) (outcomes.Path b) keys x y = ap outcomes.Path (x.spelled ∙ sym y.spelled)
one_plain k (asks.SyncOf path) (outcomes.Path text) (outcomes.Path a) b keys x y = absurd y
one_plain k (asks.Multi ops) (outcomes.Multi stored) (outcomes.Multi a) (outcomes.Multi b) keys x y = ap outcomes.Multi (one_results k.names _ ops stored a b keys x y)
one_plain k (asks.Multi ops) (outcomes.Multi stored) (outcomes.Multi a) b keys x y = absurd y
one_plain k asked stored a b keys x y = absurd x

-- ---- one cause

stat_causes : (k : EntryKeys) (path : List (List ℕ)) (stored : Stat) (c d : Cause) → IsCauseOf k (asks.StatOf path) (outcomes.Stat stored) c → IsCauseOf k (asks.StatOf path) (outcomes.Stat stored) d → c ≡ d
unfolding IsCauseOf
stat_causes k path stored (causes.Length a) (causes.Length b) x y = ap causes.Length (x.is_told ∙ sym y.is_told)
stat_causes k path stored (causes.Length a) d x y = absurd y
stat_causes k path stored c d x y = absurd x

content_causes : (k : EntryKeys) (path : List (List ℕ)) (payload : Option (List ℕ)) (stored : Stat) (c d : Cause) → IsCauseOf k (asks.Content path) (outcomes.Content payload stored) c → IsCauseOf k (asks.Content path) (outcomes.Content payload stored) d → c ≡ d
unfolding IsCauseOf
content_causes k path payload stored (causes.Payload f) (causes.Payload g) x y = ap causes.Payload (judged_once.one_flaw k.payloads path (content_of payload) f g x y)
content_causes k path payload stored (causes.Payload f) (causes.Length b) x y = absurd (content_or_flaw k.payloads path payload y.content f y.accepted x)
content_causes k path payload stored (causes.Payload f) d x y = absurd y
content_causes k path payload stored (causes.Length a) (causes.Payload g) x y = absurd (content_or_flaw k.payloads path payload x.content g x.accepted y)
content_causes k path payload stored (causes.Length a) (causes.Length b) x y = ap causes.Length (x.is_told ∙ sym y.is_told)
content_causes k path payload stored (causes.Length a) d x y = absurd y
content_causes k path payload stored c d x y = absurd x

acl_causes : (k : EntryKeys) (path : List (List ℕ)) (acls : Option (List Acl)) (stored : Stat) (c d : Cause) → IsCauseOf k (asks.AclOf path) (outcomes.Acls acls stored) c → IsCauseOf k (asks.AclOf path) (outcomes.Acls acls stored) d → c ≡ d
unfolding IsCauseOf
acl_causes k path acls stored causes.Acl causes.Acl x y = refl
acl_causes k path acls stored causes.Acl (causes.Length b) x y = absurd (x y.0)
acl_causes k path acls stored causes.Acl d x y = absurd y
acl_causes k path acls stored (causes.Length a) causes.Acl x y = absurd (y x.0)
acl_causes k path acls stored (causes.Length a) (causes.Length b) x y = ap causes.Length (x.1.is_told ∙ sym y.1.is_told)
acl_causes k path acls stored (causes.Length a) d x y = absurd y
acl_causes k path acls stored c d x y = absurd x

children2_causes : (k : EntryKeys) (path : List (List ℕ)) (list : Option (List (List ℕ))) (stored : Stat) (c d : Cause) → IsCauseOf k (asks.Children2 path) (outcomes.Children2 list stored) c → IsCauseOf k (asks.Children2 path) (outcomes.Children2 list stored) d → c ≡ d
unfolding IsCauseOf
children2_causes k path list stored (causes.Length a) (causes.Length b) x y = ap causes.Length (x.1.is_told ∙ sym y.1.is_told)
children2_causes k path list stored (causes.Length a) d x y = absurd (good_list_or_not k.names path list d x.0 y)
children2_causes k path list stored c (causes.Length b) x y = absurd (good_list_or_not k.names path list c y.0 x)
children2_causes k path list stored c d x y = one_list_cause k.names path list c d x y

create_causes : (k : EntryKeys) (path : List (List ℕ)) (sequential : Bool) (text : List ℕ) (c d : Cause) → IsCauseOf k (asks.Create path sequential) (outcomes.Path text) c → IsCauseOf k (asks.Create path sequential) (outcomes.Path text) d → c ≡ d
unfolding IsCauseOf
create_causes k path sequential text causes.Created causes.Created x y = refl
create_causes k path sequential text causes.Created d x y = absurd y
create_causes k path sequential text c d x y = absurd x

create2_causes : (k : EntryKeys) (path : List (List ℕ)) (sequential : Bool) (text : List ℕ) (stored : Stat) (c d : Cause) → IsCauseOf k (asks.Create2 path sequential) (outcomes.Created2 text stored) c → IsCauseOf k (asks.Create2 path sequential) (outcomes.Created2 text stored) d → c ≡ d
unfolding IsCauseOf
create2_causes k path sequential text stored causes.Created causes.Created x y = refl
create2_causes k path sequential text stored causes.Created (causes.Length b) x y = absurd (created_or_not k.names path sequential text y.0.0 y.0.1 x)
create2_causes k path sequential text stored causes.Created d x y = absurd y
create2_causes k path sequential text stored (causes.Length a) causes.Created x y = absurd (created_or_not k.names path sequential text x.0.0 x.0.1 y)
create2_causes k path sequential text stored (causes.Length a) (causes.Length b) x y = ap causes.Length (x.1.is_told ∙ sym y.1.is_told)
create2_causes k path sequential text stored (causes.Length a) d x y = absurd y
create2_causes k path sequential text stored c d x y = absurd x

sync_causes : (k : EntryKeys) (path : List (List ℕ)) (text : List ℕ) (c d : Cause) → IsCauseOf k (asks.SyncOf path) (outcomes.Path text) c → IsCauseOf k (asks.SyncOf path) (outcomes.Path text) d → c ≡ d
unfolding IsCauseOf
sync_causes k path text causes.SyncPath causes.SyncPath x y = refl
sync_causes k path text causes.SyncPath d x y = absurd y
sync_causes k path text c d x y = absurd x

one_cause : (k : EntryKeys) (asked : Asked) (stored : Outcome) (c d : Cause) → IsCauseOf k asked stored c → IsCauseOf k asked stored d → c ≡ d
unfolding IsCauseOf
one_cause k (asks.Create path sequential) (outcomes.Path text) c d x y = create_causes k path sequential text c d x y
one_cause k (asks.Create2 path sequential) (outcomes.Created2 text stored) c d x y = create2_causes k path sequential text stored c d x y
one_cause k (asks.StatOf path) (outcomes.Stat stored) c d x y = stat_causes k path stored c d x y
one_cause k (asks.Content path) (outcomes.Content payload stored) c d x y = content_causes k path payload stored c d x y
one_cause k (asks.AclOf path) (outcomes.Acls acls stored) c d x y = acl_causes k path acls stored c d x y
one_cause k (asks.Children path) (outcomes.Children list) c d x y = one_list_cause k.names path list c d x y
one_cause k (asks.Children2 path) (outcomes.Children2 list stored) c d x y = children2_causes k path list stored c d x y
one_cause k (asks.SyncOf path) (outcomes.Path text) c d x y = sync_causes k path text c d x y
one_cause k (asks.Multi ops) (outcomes.Multi stored) c d x y = one_results_cause k.names ops stored c d x y
one_cause k asked stored c d x y = absurd x

-- ---- not both

plain_or_cause : (k : EntryKeys) (asked : Asked) (stored told : Outcome) (c : Cause) → IsPlain k asked stored told → IsCauseOf k asked stored c → ⊥
unfolding IsPlain IsCauseOf
plain_or_cause k (asks.Create path sequential) (outcomes.Path text) (outcomes.Path plain) causes.Created x y = created_or_not k.names path sequential text plain x y
plain_or_cause k (asks.Create path sequential) (outcomes.Path text) (outcomes.Path plain) c x y = y
plain_or_cause k (asks.Create2 path sequential) (outcomes.Created2 text stored) (outcomes.Created2 made plain) causes.Created x y = created_or_not k.names path sequential text made x.0 y
plain_or_cause k (asks.Create2 path sequential) (outcomes.Created2 text stored) (outcomes.Created2 made plain) (causes.Length told) x y = stat_or_bad path stored plain told x.1 y.1
plain_or_cause k (asks.Create2 path sequential) (outcomes.Created2 text stored) (outcomes.Created2 made plain) c x y = y
plain_or_cause k (asks.StatOf path) (outcomes.Stat stored) (outcomes.Stat plain) (causes.Length told) x y = stat_or_bad path stored plain told x y
plain_or_cause k (asks.StatOf path) (outcomes.Stat stored) (outcomes.Stat plain) c x y = y
plain_or_cause k (asks.Content path) (outcomes.Content payload stored) (outcomes.Content content plain) (causes.Payload flaw) x y = content_or_flaw k.payloads path payload content flaw x.accepted y
plain_or_cause k (asks.Content path) (outcomes.Content payload stored) (outcomes.Content content plain) (causes.Length told) x y = content_or_other k.payloads path payload stored content plain told x y
plain_or_cause k (asks.Content path) (outcomes.Content payload stored) (outcomes.Content content plain) c x y = y
plain_or_cause k (asks.AclOf path) (outcomes.Acls acls stored) (outcomes.Acls same plain) causes.Acl x y = y x.0
plain_or_cause k (asks.AclOf path) (outcomes.Acls acls stored) (outcomes.Acls same plain) (causes.Length told) x y = stat_or_bad path stored plain told x.2 y.1
plain_or_cause k (asks.AclOf path) (outcomes.Acls acls stored) (outcomes.Acls same plain) c x y = y
plain_or_cause k (asks.Children path) (outcomes.Children list) (outcomes.Children names) c x y = good_list_or_not k.names path list c (good_list k.names path list names x) y
plain_or_cause k (asks.Children2 path) (outcomes.Children2 list stored) (outcomes.Children2 names plain) (causes.Length told) x y = stat_or_bad path stored plain told x.1 y.1
plain_or_cause k (asks.Children2 path) (outcomes.Children2 list stored) (outcomes.Children2 names plain) c x y = good_list_or_not k.names path list c (good_list k.names path list names x.0) y
plain_or_cause k (asks.SyncOf path) (outcomes.Path text) (outcomes.Path plain) causes.SyncPath x y = y x.opened
plain_or_cause k (asks.SyncOf path) (outcomes.Path text) (outcomes.Path plain) c x y = y
plain_or_cause k (asks.Multi ops) (outcomes.Multi stored) (outcomes.Multi plain) c x y = results_or_cause k.names ops stored plain c x y
plain_or_cause k asks.Empty outcomes.Empty told c x y = y
plain_or_cause k asks.Close outcomes.Empty told c x y = y
plain_or_cause k asked stored told c x y = x

-- ---- the whole reply

tells_once : (k : EntryKeys) (asked : Asked) (stored o p : Outcome) (c d : Option Cause) → AreKeys k.names → Tells k asked stored o c → Tells k asked stored p d → (o ≡ p) × (c ≡ d)
tells_once k asked stored o p c d keys (inl x) (inl y) = (one_plain k asked stored o p keys x.1 y.1, x.0 ∙ sym y.0)
tells_once k asked stored o p c d keys (inl x) (inr y) = absurd (plain_or_cause k asked stored o y.0 x.1 y.2)
tells_once k asked stored o p c d keys (inr x) (inl y) = absurd (plain_or_cause k asked stored p x.0 y.1 x.2)
tells_once k asked stored o p c d keys (inr x) (inr y) = (x.3 ∙ sym y.3, x.1 ∙ ap Some (one_cause k asked stored x.0 y.0 x.2 y.2) ∙ sym y.1)

stored_once : (k : EntryKeys) (asked : Asked) (stored o p : Outcome) (c d : Option Cause) → AreKeys k.names → AdmitsStored k asked stored o c → AdmitsStored k asked stored p d → (o ≡ p) × (c ≡ d)
unfolding AdmitsStored
stored_once k asked (outcomes.Error code) o p c d keys x y = (x.0 ∙ sym y.0, x.1 ∙ sym y.1)
stored_once k asked stored o p c d keys x y = tells_once k asked stored o p c d keys x y

outcome_once : (k : EntryKeys) (asked : Asked) (stored o p : Outcome) (c d : Option Cause) → AreKeys k.names → AdmitsOutcome k asked stored o c → AdmitsOutcome k asked stored p d → (o ≡ p) × (c ≡ d)
unfolding AdmitsOutcome
outcome_once k (asks.Refused code) stored o p c d keys x y = (x.0 ∙ sym y.0, x.1 ∙ sym y.1)
outcome_once k asked stored o p c d keys x y = stored_once k asked stored o p c d keys x y

reply_of : ℤ → ℤ → Outcome → Reply
reply_of xid zxid outcome = record { xid = xid; zxid = zxid; outcome = outcome }

same_reply : (a b : Reply) → a.xid ≡ b.xid → a.zxid ≡ b.zxid → a.outcome ≡ b.outcome → a ≡ b
unfolding reply_of
same_reply a b e f g = (λ i. reply_of (e i) (f i) (g i))

pub at_most_one : (k : EntryKeys) (asked : Asked) (stored a b : Reply) (c d : Option Cause) → AreKeys k.names → Admits k asked stored a c → Admits k asked stored b d → (a ≡ b) × (c ≡ d)
at_most_one k asked stored a b c d keys x y =
    let both = outcome_once k asked stored.outcome a.outcome b.outcome c d keys x.outcome y.outcome in
    (same_reply a b (x.same_xid ∙ sym y.same_xid) (x.same_zxid ∙ sym y.same_zxid) both.0, both.1)
