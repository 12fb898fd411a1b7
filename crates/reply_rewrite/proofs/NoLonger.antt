-- What is passed on is no longer than what the store answered.
use Rattle.std.proofs.Common.{◌≡◌, ◌⊎◌, ◌<◌, ◌≤◌, ◌+◌, ℕ, suc, Bool, true, false, List, [], ◌∷◌, length, Option, Some, None, inl, inr, refl, sym, ap, ◌∙◌, arith, length-append}
use Rattle.std.specs.Prelude.{sum_by}
use Rattle.std.proofs.lemmas.List.Sums.{sum_by-cons}
use Rattle.jute_core.specs.Jute.{Each, int, buffer, ustring, pair, vector}
use Rattle.path_seal.specs.Sealed.{Keys, SealName, OpensName}
use Rattle.path_seal.proofs.NameBytes.{length-SealName}
use Rattle.payload_seal.specs.Payload.{Accepts, content_of}
use Rattle.payload_seal.specs.declared.keys.EntryKeys.{EntryKeys}
use Rattle.request_queue.specs.declared.asked.Asked.{Asked}
use Rattle.request_queue.specs.declared.asked.Asked.TheVariants as asks
use Rattle.request_queue.specs.declared.asked.AskedOp.{AskedOp}
use Rattle.request_queue.specs.declared.asked.AskedOp.TheVariants as ops
use Rattle.zk_records.specs.Acls.{acls, acls_fields}
use Rattle.zk_records.specs.Headers.{reply_header}
use Rattle.zk_records.specs.Stats.{stat, stat_fields}
use Rattle.zk_messages.proofs.Sizes.{size, spelled_size}
use Rattle.zk_messages.specs.Forms.{SpellsForm}
use Rattle.zk_messages.specs.Multi.{SpellsResult, SpellsResults, multi_header}
use Rattle.zk_messages.specs.Replies.{SpellsOutcome, SpellsReply}
use Rattle.zk_messages.specs.declared.reply.OpResult.{OpResult}
use Rattle.zk_messages.specs.declared.reply.OpResult.TheVariants as op_results
use Rattle.zk_messages.specs.declared.reply.Outcome.{Outcome}
use Rattle.zk_messages.specs.declared.reply.Outcome.TheVariants as outcomes
use Rattle.zk_messages.specs.declared.reply.Reply.{Reply}
use Rattle.zk_messages.specs.declared.reply.Shape.{Shape}
use Rattle.zk_messages.specs.declared.reply.Shape.TheVariants as shapes
use Rattle.reply_rewrite.proofs.PassedOn.{path_shorter, accepted_shorter}
use Rattle.reply_rewrite.specs.Admits.{IsPlain, Tells, AdmitsStored, AdmitsOutcome}
use Rattle.reply_rewrite.specs.Children.{IsOneOf, name_at, StandsEarlier, ArePlainNames, IsPlainList}
use Rattle.reply_rewrite.specs.Laws.{IsNoLongerWhenPlain}
use Rattle.reply_rewrite.specs.Names.{IsCreated, IsSynced}
use Rattle.reply_rewrite.specs.Results.{IsPlainResult, ArePlainResults}
use Rattle.reply_rewrite.specs.declared.finding.Cause.{Cause}

-- ---- how many bytes spell an outcome

abbrev result_size : OpResult → ℕ
result_size (op_results.Created text) = 9 + size ustring text
result_size op_results.Deleted = 9
result_size (op_results.Changed s) = 9 + size stat (stat_fields s)
result_size op_results.Checked = 9
result_size (op_results.Error code) = 13
result_size (op_results.Created2 text s) = 9 + (size ustring text + size stat (stat_fields s))

result_spelled_size : (r : OpResult) (b : List ℕ) → SpellsResult r b → length b ≡ result_size r
unfolding SpellsResult
result_spelled_size (op_results.Created text) b h = spelled_size (pair multi_header ustring) _ b h
result_spelled_size op_results.Deleted b h = spelled_size multi_header _ b h
result_spelled_size (op_results.Changed s) b h = spelled_size (pair multi_header stat) _ b h
result_spelled_size op_results.Checked b h = spelled_size multi_header _ b h
result_spelled_size (op_results.Error code) b h = spelled_size (pair multi_header int) _ b h
result_spelled_size (op_results.Created2 text s) b h = spelled_size (pair multi_header (pair ustring stat)) _ b h

each_result_size : (list : List OpResult) (b : List ℕ) → Each SpellsResult list b → length b ≡ sum_by result_size list
each_result_size [] b h = ap length h
each_result_size (r ∷ list) b h =
    omega (arith, ap length h.4, length-append h.0 h.1, result_spelled_size r h.0 h.2, each_result_size list h.1 h.3, sum_by-cons result_size r list)

results_spelled_size : (list : List OpResult) (b : List ℕ) → SpellsResults list b → length b ≡ sum_by result_size list + 9
results_spelled_size list b h = omega (
  arith,
  ap length h.cut,
  length-append h.items h.last,
  each_result_size list h.items h.each,
  spelled_size multi_header _ h.last h.ended,
)

abbrev outcome_size : Outcome → ℕ
outcome_size (outcomes.Error code) = 0
outcome_size outcomes.Empty = 0
outcome_size (outcomes.Path text) = size ustring text
outcome_size (outcomes.Stat s) = size stat (stat_fields s)
outcome_size (outcomes.Content content s) = size buffer content + size stat (stat_fields s)
outcome_size (outcomes.Acls list s) = size acls (acls_fields list) + size stat (stat_fields s)
outcome_size (outcomes.Children names) = size (vector ustring) names
outcome_size (outcomes.Children2 names s) = size (vector ustring) names + size stat (stat_fields s)
outcome_size (outcomes.Multi list) = sum_by result_size list + 9
outcome_size (outcomes.Created2 text s) = size ustring text + size stat (stat_fields s)

outcome_spelled_size : (shape : Shape) (o : Outcome) (b : List ℕ) → SpellsOutcome shape o b → length b ≡ outcome_size o
unfolding SpellsOutcome SpellsForm
outcome_spelled_size shape (outcomes.Error code) b h = ap length h.1
outcome_spelled_size shapes.Empty outcomes.Empty b h = ap length h
outcome_spelled_size shapes.Path (outcomes.Path text) b h = spelled_size ustring text b h
outcome_spelled_size shapes.Stat (outcomes.Stat s) b h = spelled_size stat (stat_fields s) b h
outcome_spelled_size shapes.Content (outcomes.Content content s) b h = spelled_size (pair buffer stat) (content, stat_fields s) b h
outcome_spelled_size shapes.Acls (outcomes.Acls list s) b h = spelled_size (pair acls stat) (acls_fields list, stat_fields s) b h
outcome_spelled_size shapes.Children (outcomes.Children names) b h = spelled_size (vector ustring) names b h
outcome_spelled_size shapes.Children2 (outcomes.Children2 names s) b h = spelled_size (pair (vector ustring) stat) (names, stat_fields s) b h
outcome_spelled_size shapes.Multi (outcomes.Multi list) b h = results_spelled_size list b h
outcome_spelled_size shapes.Created2 (outcomes.Created2 text s) b h = spelled_size (pair ustring stat) (text, stat_fields s) b h
outcome_spelled_size shape o b h = absurd h

-- ---- texts and contents

created_shorter : (k : Keys) (asked : List (List ℕ)) (sequential : Bool) (text plain : List ℕ) → IsCreated k asked sequential text plain → length plain ≤ length text
created_shorter k asked sequential text plain h = omega (arith, ap length h.spelled, ap length h.opened.1, path_shorter k h.path)

synced_shorter : (k : Keys) (path : List (List ℕ)) (text plain : List ℕ) → IsSynced k path text plain → length plain ≤ length text
synced_shorter k path text plain h = omega (arith, ap length h.spelled, ap length h.opened.1, path_shorter k path)

buffer_size : (content : Option (List ℕ)) → size buffer content ≡ length (content_of content) + 4
buffer_size None = refl
buffer_size (Some bytes) = refl

content_shorter : (keys path : List (List ℕ)) (payload content : Option (List ℕ)) → Accepts keys path (content_of payload) content → size buffer content ≤ size buffer payload
content_shorter keys path payload content h = omega (arith, buffer_size content, buffer_size payload, accepted_shorter keys path (content_of payload) content h)

-- ---- names of children: each stored one opens to another one of the plain, of which there are as many

-- a list without one of its items
record Without (n : List ℕ) (plain left : List (List ℕ)) : Type 0 where
  counted : length plain ≡ suc (length left)
  summed : sum_by (size ustring) plain ≡ size ustring n + sum_by (size ustring) left
  others : (q : List ℕ) → IsOneOf q plain → (q ≡ n) ⊎ IsOneOf q left

first_gone : (n p q : List ℕ) (ps : List (List ℕ)) → n ≡ p → IsOneOf q (p ∷ ps) → (q ≡ n) ⊎ IsOneOf q ps
first_gone n p q ps e (inl f) = inl (f ∙ sym e)
first_gone n p q ps e (inr h) = inr h

later_gone : (n p q : List ℕ) (ps left : List (List ℕ)) → (IsOneOf q ps → (q ≡ n) ⊎ IsOneOf q left) → IsOneOf q (p ∷ ps) → (q ≡ n) ⊎ IsOneOf q (p ∷ left)
later_gone n p q ps left f (inl e) = inr (inl e)
later_gone n p q ps left f (inr h) = behind (f h)
  where
    behind : (q ≡ n) ⊎ IsOneOf q left → (q ≡ n) ⊎ IsOneOf q (p ∷ left)
    behind (inl e) = inl e
    behind (inr g) = inr (inr g)

without : (n : List ℕ) (plain : List (List ℕ)) → IsOneOf n plain → (left : List (List ℕ)) × Without n plain left
without n [] h = absurd h
without n (p ∷ ps) (inl e) =
    (ps, record { counted = refl; summed = omega (arith, sum_by-cons (size ustring) p ps, ap length e); others = λ q h. first_gone n p q ps e h })
without n (p ∷ ps) (inr h) =
    let w = without n ps h in (
      p ∷ w.0,
      record {
        counted = omega (arith, w.1.counted);
        summed = omega (arith, w.1.summed, sum_by-cons (size ustring) p ps, sum_by-cons (size ustring) p w.0);
        others = λ q g. later_gone n p q ps w.0 (w.1.others q) g;
      },
    )

-- the stored name opens to one of these
record OpensIn (k : Keys) (path : List (List ℕ)) (stored : List ℕ) (plain : List (List ℕ)) : Type 0 where
  name : List ℕ
  opens : OpensName k path stored name
  one : IsOneOf name plain

opens_in_left : (k : Keys) (path : List (List ℕ)) (s n other : List ℕ) (plain left : List (List ℕ)) → OpensName k path s n → Without n plain left → (other ≡ s → ⊥) → OpensIn k path other plain → OpensIn k path other left
opens_in_left k path s n other plain left o w apart h = pick (w.others h.name h.one)
  where
    pick : (h.name ≡ n) ⊎ IsOneOf h.name left → OpensIn k path other left
    pick (inl e) = absurd (apart (sym h.opens.1 ∙ ap (SealName k path) e ∙ o.1))
    pick (inr one) = record { name = h.name; opens = h.opens; one = one }

names_sum : (k : Keys) (path stored plain : List (List ℕ)) → ((i : ℕ) → i < length stored → OpensIn k path (name_at stored i) plain) → ((i : ℕ) → i < length stored → StandsEarlier stored i → ⊥) → length plain ≡ length stored
    → sum_by (size ustring) plain ≤ sum_by (size ustring) stored
names_sum k path [] [] f g e = omega arith
names_sum k path [] (p ∷ ps) f g e = absurd (omega (arith, e))
names_sum k path (s ∷ rest) plain f g e =
    let h = f 0 (omega arith) in
    let w = without h.name plain h.one in
    let left = names_sum k path rest w.0
    (λ i l. opens_in_left k path s h.name (name_at rest i) plain w.0 h.opens w.1 (λ same. g (suc i) (omega (arith, l)) (0, omega arith, sym same)) (f (suc i) (omega (arith, l))))
    (λ i l x. g (suc i) (omega (arith, l)) (suc x.0, omega (arith, x.1), x.2))
    (omega (arith, e, w.1.counted)) in
    omega (arith, left, w.1.summed, sum_by-cons (size ustring) s rest, ap length h.opens.1, length-SealName k path h.name)

names_shorter : (k : Keys) (path stored plain : List (List ℕ)) → ArePlainNames k path stored plain → sum_by (size ustring) plain ≤ sum_by (size ustring) stored
names_shorter k path stored plain h = names_sum k path stored plain opens h.good.apart h.opened.counted
  where
    opens : (i : ℕ) → i < length stored → OpensIn k path (name_at stored i) plain
    opens i l = let o = h.good.opens i l in record { name = o.0; opens = o.1; one = (h.opened.those o.0).1 (i, l, o.1) }

list_shorter : (k : Keys) (path : List (List ℕ)) (list names : Option (List (List ℕ))) → IsPlainList k path list names → size (vector ustring) names ≤ size (vector ustring) list
unfolding IsPlainList
list_shorter k path (Some stored) (Some plain) h = omega (arith, names_shorter k path stored plain h)
list_shorter k path (Some stored) None h = absurd h
list_shorter k path None names h = absurd h

-- ---- results of a multi

result_shorter : (k : Keys) (failed : Bool) (op : AskedOp) (s p : OpResult) → IsPlainResult k failed op s p → result_size p ≤ result_size s
unfolding IsPlainResult
result_shorter k true op (op_results.Error code) p h = omega (arith, ap result_size h)
result_shorter k true op s p h = absurd h
result_shorter k false (ops.Create path sequential) (op_results.Created text) (op_results.Created plain) h = omega (arith, created_shorter k path sequential text plain h)
result_shorter k false (ops.Create2 path sequential) (op_results.Created2 text stored) (op_results.Created2 made plain) h = omega (arith, created_shorter k path sequential text made h.0)
result_shorter k false ops.Delete op_results.Deleted op_results.Deleted h = omega arith
result_shorter k false (ops.SetContent path) (op_results.Changed stored) (op_results.Changed plain) h = omega arith
result_shorter k false ops.Check op_results.Checked op_results.Checked h = omega arith
result_shorter k false op s p h = absurd h

results_shorter : (k : Keys) (failed : Bool) (ops : List AskedOp) (stored plain : List OpResult) → ArePlainResults k failed ops stored plain → sum_by result_size plain ≤ sum_by result_size stored
unfolding ArePlainResults
results_shorter k failed [] [] [] h = omega arith
results_shorter k failed [] [] (p ∷ plain) h = absurd h
results_shorter k failed [] (s ∷ stored) plain h = absurd h
results_shorter k failed (op ∷ ops) [] plain h = absurd h
results_shorter k failed (op ∷ ops) (s ∷ stored) [] h = absurd h
results_shorter k failed (op ∷ ops) (s ∷ stored) (p ∷ plain) h =
    omega (arith, result_shorter k failed op s p h.0, results_shorter k failed ops stored plain h.1, sum_by-cons result_size p plain, sum_by-cons result_size s stored)

-- ---- outcomes

plain_no_longer : (k : EntryKeys) (asked : Asked) (stored told : Outcome) → IsPlain k asked stored told → outcome_size told ≤ outcome_size stored
unfolding IsPlain
plain_no_longer k asks.Empty outcomes.Empty outcomes.Empty h = omega arith
plain_no_longer k asks.Close outcomes.Empty outcomes.Empty h = omega arith
plain_no_longer k (asks.Create path sequential) (outcomes.Path text) (outcomes.Path plain) h = omega (arith, created_shorter k.names path sequential text plain h)
plain_no_longer k (asks.Create2 path sequential) (outcomes.Created2 text stored) (outcomes.Created2 made plain) h = omega (arith, created_shorter k.names path sequential text made h.0)
plain_no_longer k (asks.StatOf path) (outcomes.Stat stored) (outcomes.Stat plain) h = omega arith
plain_no_longer k (asks.Content path) (outcomes.Content payload stored) (outcomes.Content content plain) h = omega (arith, content_shorter k.payloads path payload content h.accepted)
plain_no_longer k (asks.AclOf path) (outcomes.Acls list stored) (outcomes.Acls same plain) h = omega (arith, ap (λ a. size acls (acls_fields a)) h.1)
plain_no_longer k (asks.Children path) (outcomes.Children list) (outcomes.Children names) h = list_shorter k.names path list names h
plain_no_longer k (asks.Children2 path) (outcomes.Children2 list stored) (outcomes.Children2 names plain) h = omega (arith, list_shorter k.names path list names h.0)
plain_no_longer k (asks.SyncOf path) (outcomes.Path text) (outcomes.Path plain) h = omega (arith, synced_shorter k.names path text plain h)
plain_no_longer k (asks.Multi ops) (outcomes.Multi stored) (outcomes.Multi plain) h = omega (arith, results_shorter k.names _ ops stored plain h)
plain_no_longer k asked stored told h = absurd h

tells_no_longer : (k : EntryKeys) (asked : Asked) (stored told : Outcome) (cause : Option Cause) → Tells k asked stored told cause → outcome_size told ≤ outcome_size stored
tells_no_longer k asked stored told cause (inl h) = plain_no_longer k asked stored told h.1
tells_no_longer k asked stored told cause (inr h) = omega (arith, ap outcome_size h.3)

stored_no_longer : (k : EntryKeys) (asked : Asked) (stored told : Outcome) (cause : Option Cause) → AdmitsStored k asked stored told cause → outcome_size told ≤ outcome_size stored
unfolding AdmitsStored
stored_no_longer k asked (outcomes.Error code) told cause h = omega (arith, ap outcome_size h.0)
stored_no_longer k asked stored told cause h = tells_no_longer k asked stored told cause h

outcome_no_longer : (k : EntryKeys) (asked : Asked) (stored told : Outcome) (cause : Option Cause) → AdmitsOutcome k asked stored told cause → outcome_size told ≤ outcome_size stored
unfolding AdmitsOutcome
outcome_no_longer k (asks.Refused code) stored told cause h = omega (arith, ap outcome_size h.0)
outcome_no_longer k asked stored told cause h = stored_no_longer k asked stored told cause h

-- ---- replies

reply_size : (shape : Shape) (r : Reply) (body : List ℕ) → SpellsReply shape r body → length body ≡ outcome_size r.outcome + 16
reply_size shape r body h =
    omega (arith, ap length h.cut, length-append h.header h.rest, spelled_size reply_header _ h.header h.head, outcome_spelled_size shape r.outcome h.rest h.tail)

pub no_longer : IsNoLongerWhenPlain
no_longer k asked stored told cause a b admits x y =
    omega (arith, reply_size _ stored a x, reply_size _ told b y, outcome_no_longer k asked stored.outcome told.outcome cause admits.outcome)
