-- What is told has the shape of an answer to the request, and can be written where the store's answer can.
use Rattle.std.proofs.Common.{◌≡◌, ◌≢◌, ◌<◌, ◌≤◌, ◌^◌, ℕ, ℤ, pos, Bool, true, false, List, [], ◌∷◌, ◌++◌, length, Option, Some, None, inl, inr, refl, sym, ap, subst, arith, length-append}
use Rattle.std.specs.Prelude.{All, IfSome}
use Rattle.std.proofs.lemmas.List.Elements.{All-nil, All-cons, All-head, All-tail}
use Rattle.jute_core.specs.Lists.{AreShort}
use Rattle.zk_path.specs.Paths.{text_of}
use Rattle.path_seal.specs.Sealed.{Keys, SealPath, sealed}
use Rattle.path_seal.proofs.NameBytes.{length-SealName, joined_shorter}
use Rattle.payload_seal.specs.Payload.{Accepts, content_of}
use Rattle.payload_seal.proofs.Parts.{opened_size}
use Rattle.payload_seal.specs.declared.keys.EntryKeys.{EntryKeys}
use Rattle.request_queue.specs.Asking.{IsAsked}
use Rattle.request_queue.specs.declared.asked.Asked.{Asked}
use Rattle.request_queue.specs.declared.asked.Asked.TheVariants as asks
use Rattle.request_queue.specs.declared.asked.AskedOp.{AskedOp}
use Rattle.request_queue.specs.declared.asked.AskedOp.TheVariants as ops
use Rattle.zk_messages.specs.Replies.{HasShape}
use Rattle.zk_messages.specs.Sending.{IsShortOutcome, IsShortResult}
use Rattle.zk_messages.specs.declared.reply.OpResult.{OpResult}
use Rattle.zk_messages.specs.declared.reply.OpResult.TheVariants as op_results
use Rattle.zk_messages.specs.declared.reply.Outcome.{Outcome}
use Rattle.zk_messages.specs.declared.reply.Outcome.TheVariants as outcomes
use Rattle.zk_messages.specs.declared.reply.Shape.{Shape}
use Rattle.reply_rewrite.specs.Admits.{IsPlain, Tells, AdmitsStored, AdmitsOutcome, marshalling_error}
use Rattle.reply_rewrite.specs.Children.{IsOneOf, name_at, ArePlainNames, IsPlainList}
use Rattle.reply_rewrite.specs.Laws.{IsPassedOn}
use Rattle.reply_rewrite.specs.Names.{IsCreated, IsSynced}
use Rattle.reply_rewrite.specs.Results.{IsPlainResult, ArePlainResults}
use Rattle.reply_rewrite.specs.Shapes.{shape_for}
use Rattle.reply_rewrite.specs.declared.finding.Cause.{Cause}

-- ---- shapes

error_shaped : (shape : Shape) (told : Outcome) (code : ℤ) → told ≡ outcomes.Error code → HasShape shape told
error_shaped shape told code e = subst (λ (o : Outcome). HasShape shape o) (sym e) tt

plain_shaped : (k : EntryKeys) (asked : Asked) (stored told : Outcome) → IsPlain k asked stored told → HasShape (shape_for asked) told
unfolding IsPlain
plain_shaped k asks.Empty outcomes.Empty outcomes.Empty h = tt
plain_shaped k asks.Close outcomes.Empty outcomes.Empty h = tt
plain_shaped k (asks.Create path sequential) (outcomes.Path text) (outcomes.Path plain) h = tt
plain_shaped k (asks.Create2 path sequential) (outcomes.Created2 text stored) (outcomes.Created2 made plain) h = tt
plain_shaped k (asks.StatOf path) (outcomes.Stat stored) (outcomes.Stat plain) h = tt
plain_shaped k (asks.Content path) (outcomes.Content payload stored) (outcomes.Content content plain) h = tt
plain_shaped k (asks.AclOf path) (outcomes.Acls acls stored) (outcomes.Acls same plain) h = tt
plain_shaped k (asks.Children path) (outcomes.Children list) (outcomes.Children names) h = tt
plain_shaped k (asks.Children2 path) (outcomes.Children2 list stored) (outcomes.Children2 names plain) h = tt
plain_shaped k (asks.SyncOf path) (outcomes.Path text) (outcomes.Path plain) h = tt
plain_shaped k (asks.Multi ops) (outcomes.Multi stored) (outcomes.Multi plain) h = tt
plain_shaped k asked stored told h = absurd h

tells_shaped : (k : EntryKeys) (asked : Asked) (stored told : Outcome) (cause : Option Cause) → Tells k asked stored told cause → HasShape (shape_for asked) told
tells_shaped k asked stored told cause (inl h) = plain_shaped k asked stored told h.1
tells_shaped k asked stored told cause (inr h) = error_shaped (shape_for asked) told marshalling_error h.3

stored_shaped : (k : EntryKeys) (asked : Asked) (stored told : Outcome) (cause : Option Cause) → AdmitsStored k asked stored told cause → HasShape (shape_for asked) told
unfolding AdmitsStored
stored_shaped k asked (outcomes.Error code) told cause h = error_shaped (shape_for asked) told code h.0
stored_shaped k asked stored told cause h = tells_shaped k asked stored told cause h

outcome_shaped : (k : EntryKeys) (asked : Asked) (stored told : Outcome) (cause : Option Cause) → AdmitsOutcome k asked stored told cause → HasShape (shape_for asked) told
unfolding AdmitsOutcome
outcome_shaped k (asks.Refused code) stored told cause h = error_shaped (shape_for (asks.Refused code)) told code h.0
outcome_shaped k asked stored told cause h = stored_shaped k asked stored told cause h

-- ---- lengths

pub path_shorter : (k : Keys) (p : List (List ℕ)) → length (text_of p) ≤ length (SealPath k p)
unfolding text_of sealed
path_shorter k [] = omega arith
path_shorter k (n ∷ p) = joined_shorter k (n ∷ p)

created_short : (k : Keys) (asked : List (List ℕ)) (sequential : Bool) (text plain : List ℕ) → IsCreated k asked sequential text plain → length text < 2 ^ 31 → length plain < 2 ^ 31
created_short k asked sequential text plain h l = omega (arith, l, ap length h.spelled, ap length h.opened.1, path_shorter k h.path)

synced_short : (k : Keys) (path : List (List ℕ)) (text plain : List ℕ) → IsSynced k path text plain → length text < 2 ^ 31 → length plain < 2 ^ 31
synced_short k path text plain h l = omega (arith, l, ap length h.spelled, ap length h.opened.1, path_shorter k path)

pub accepted_shorter : (keys path : List (List ℕ)) (payload : List ℕ) (content : Option (List ℕ)) → Accepts keys path payload content → length (content_of content) ≤ length payload
accepted_shorter keys path payload content h =
    let one_more : length (h.digest ++ content_of content) < length payload = omega (arith, opened_size h.opened) in
    omega (arith, one_more, length-append h.digest (content_of content))

payload_short : (payload : Option (List ℕ)) → IfSome payload (λ b. length b < 2 ^ 31) → length (content_of payload) < 2 ^ 31
payload_short None h = omega arith
payload_short (Some bytes) h = h

content_short : (keys path : List (List ℕ)) (payload content : Option (List ℕ)) → Accepts keys path (content_of payload) content → IfSome payload (λ b. length b < 2 ^ 31) → IfSome content (λ b. length b < 2 ^ 31)
content_short keys path payload None h l = tt
content_short keys path payload (Some bytes) h l = omega (arith, accepted_shorter keys path (content_of payload) (Some bytes) h, payload_short payload l)

all_of : (P : List ℕ → Type 0) (xs : List (List ℕ)) → ((q : List ℕ) → IsOneOf q xs → P q) → All P xs
all_of P [] f = All-nil P
all_of P (x ∷ xs) f = All-cons P x xs (f x (inl refl)) (all_of P xs (λ q h. f q (inr h)))

names_short : (k : Keys) (path stored plain : List (List ℕ)) → ArePlainNames k path stored plain → AreShort stored → AreShort plain
names_short k path stored plain h short = record { few = omega (arith, h.opened.counted, short.few); each = all_of (λ t. length t < 2 ^ 31) plain each }
  where
    each : (q : List ℕ) → IsOneOf q plain → length q < 2 ^ 31
    each q one =
        let at = (h.opened.those q).0 one in
        let is : length (name_at stored at.0) < 2 ^ 31 = short.each at.0 [] at.1 in
        omega (arith, is, length-SealName k path q, ap length at.2.1)

list_short : (k : Keys) (path : List (List ℕ)) (list names : Option (List (List ℕ))) → IsPlainList k path list names → IfSome list AreShort → IfSome names AreShort
unfolding IsPlainList
list_short k path (Some stored) (Some plain) h l = names_short k path stored plain h l
list_short k path list None h l = tt
list_short k path None (Some plain) h l = absurd h

result_short : (k : Keys) (failed : Bool) (op : AskedOp) (s p : OpResult) → IsPlainResult k failed op s p → IsShortResult s → IsShortResult p
unfolding IsPlainResult
result_short k true op (op_results.Error code) p h l = subst IsShortResult (sym h) tt
result_short k true op s p h l = absurd h
result_short k false (ops.Create path sequential) (op_results.Created text) (op_results.Created plain) h l = created_short k path sequential text plain h l
result_short k false (ops.Create2 path sequential) (op_results.Created2 text stored) (op_results.Created2 made plain) h l = created_short k path sequential text made h.0 l
result_short k false ops.Delete op_results.Deleted op_results.Deleted h l = tt
result_short k false (ops.SetContent path) (op_results.Changed stored) (op_results.Changed plain) h l = tt
result_short k false ops.Check op_results.Checked op_results.Checked h l = tt
result_short k false op s p h l = absurd h

results_short : (k : Keys) (failed : Bool) (ops : List AskedOp) (stored plain : List OpResult) → ArePlainResults k failed ops stored plain → All IsShortResult stored → All IsShortResult plain
unfolding ArePlainResults
results_short k failed [] [] [] h l = All-nil IsShortResult
results_short k failed [] [] (p ∷ plain) h l = absurd h
results_short k failed [] (s ∷ stored) plain h l = absurd h
results_short k failed (op ∷ ops) [] plain h l = absurd h
results_short k failed (op ∷ ops) (s ∷ stored) [] h l = absurd h
results_short k failed (op ∷ ops) (s ∷ stored) (p ∷ plain) h l =
    All-cons IsShortResult p plain (result_short k failed op s p h.0 (All-head IsShortResult s stored l)) (results_short k failed ops stored plain h.1 (All-tail IsShortResult s stored l))

plain_short : (k : EntryKeys) (asked : Asked) (stored told : Outcome) → IsPlain k asked stored told → IsShortOutcome stored → IsShortOutcome told
unfolding IsPlain
plain_short k asks.Empty outcomes.Empty outcomes.Empty h l = tt
plain_short k asks.Close outcomes.Empty outcomes.Empty h l = tt
plain_short k (asks.Create path sequential) (outcomes.Path text) (outcomes.Path plain) h l = created_short k.names path sequential text plain h l
plain_short k (asks.Create2 path sequential) (outcomes.Created2 text stored) (outcomes.Created2 made plain) h l = created_short k.names path sequential text made h.0 l
plain_short k (asks.StatOf path) (outcomes.Stat stored) (outcomes.Stat plain) h l = tt
plain_short k (asks.Content path) (outcomes.Content payload stored) (outcomes.Content content plain) h l = content_short k.payloads path payload content h.accepted l
plain_short k (asks.AclOf path) (outcomes.Acls acls stored) (outcomes.Acls same plain) h l = subst (λ a. IsShortOutcome (outcomes.Acls a plain)) (sym h.1) l
plain_short k (asks.Children path) (outcomes.Children list) (outcomes.Children names) h l = list_short k.names path list names h l
plain_short k (asks.Children2 path) (outcomes.Children2 list stored) (outcomes.Children2 names plain) h l = list_short k.names path list names h.0 l
plain_short k (asks.SyncOf path) (outcomes.Path text) (outcomes.Path plain) h l = synced_short k.names path text plain h l
plain_short k (asks.Multi ops) (outcomes.Multi stored) (outcomes.Multi plain) h l = results_short k.names _ ops stored plain h l
plain_short k asked stored told h l = absurd h

error_short : (told : Outcome) (code : ℤ) → told ≡ outcomes.Error code → code ≢ pos 0 → IsShortOutcome told
error_short told code e f = subst IsShortOutcome (sym e) f

not_zero : marshalling_error ≢ pos 0
not_zero e = cc

tells_short : (k : EntryKeys) (asked : Asked) (stored told : Outcome) (cause : Option Cause) → Tells k asked stored told cause → IsShortOutcome stored → IsShortOutcome told
tells_short k asked stored told cause (inl h) l = plain_short k asked stored told h.1 l
tells_short k asked stored told cause (inr h) l = error_short told marshalling_error h.3 not_zero

stored_short : (k : EntryKeys) (asked : Asked) (stored told : Outcome) (cause : Option Cause) → AdmitsStored k asked stored told cause → IsShortOutcome stored → IsShortOutcome told
unfolding AdmitsStored
stored_short k asked (outcomes.Error code) told cause h l = error_short told code h.0 l
stored_short k asked stored told cause h l = tells_short k asked stored told cause h l

outcome_short : (k : EntryKeys) (asked : Asked) (stored told : Outcome) (cause : Option Cause) → AdmitsOutcome k asked stored told cause → IsAsked asked → IsShortOutcome stored → IsShortOutcome told
unfolding AdmitsOutcome
outcome_short k (asks.Refused code) stored told cause h a l = error_short told code h.0 a
outcome_short k asked stored told cause h a l = stored_short k asked stored told cause h l

pub passed_on : IsPassedOn
passed_on = record {
  shaped = λ k asked stored told cause h. outcome_shaped k asked stored.outcome told.outcome cause h.outcome;
  writable = λ k asked stored told cause h a l. outcome_short k asked stored.outcome told.outcome cause h.outcome a l;
}
