-- Each part of an answer has a plain form or a cause.
use Rattle.std.proofs.Common.{◌≡◌, ◌⊎◌, ◌<◌, ◌≤◌, ◌+◌, ℕ, zero, suc, ℤ, pos, Bool, true, false, List, [], ◌∷◌, length, Option, Some, None, inl, inr, refl, sym, ◌∙◌, arith, add-one}
use Rattle.std.specs.BTreeSet.{insert_key}
use Rattle.std.specs.List.Sorted.{IsStrictlySortedBy}
use Rattle.path_seal.specs.Sealed.{Keys, AreKeys}
use Rattle.payload_seal.proofs.Judged.{judged_once}
use Rattle.payload_seal.specs.Payload.{Accepts, content_of}
use Rattle.payload_seal.specs.declared.opening.Flaw.{Flaw}
use Rattle.request_queue.specs.declared.asked.AskedOp.{AskedOp}
use Rattle.request_queue.specs.declared.asked.AskedOp.TheVariants as ops
use Rattle.zk_messages.specs.declared.reply.OpResult.{OpResult}
use Rattle.zk_messages.specs.declared.reply.OpResult.TheVariants as op_results
use Rattle.zk_records.specs.declared.stat.Stat.{Stat}
use Rattle.reply_rewrite.proofs.Decided.{created_judged, length_judged, dec_length, dec_opens_at, dec_earlier, dec_number}
use Rattle.reply_rewrite.proofs.Opening.{none_good, none_opened, good_after, more_opened}
use Rattle.reply_rewrite.proofs.Sets.{inserted_name, inserted_ascends, inserted_count}
use Rattle.reply_rewrite.specs.Children.{IsOneOf, byte_order, name_at, OpensAt, StandsEarlier, AreGoodBefore, AreOpened, IsPlainList, IsListCause, IsNamesCause}
use Rattle.reply_rewrite.specs.Names.{IsCreated, IsNotCreated}
use Rattle.reply_rewrite.specs.Results.{is_failed, HasKind, IsPlainResult, ArePlainResults, IsOtherCreated, IsOtherLength, IsCauseAt, IsFirstCause, IsResultsCause}
use Rattle.reply_rewrite.specs.Stats.{IsPlainLength, IsPlainStat, HasBadLength, IsPlainContent, HasFlaw, IsContentCause}
use Rattle.reply_rewrite.specs.Turns.{IsNew}
use Rattle.reply_rewrite.specs.declared.finding.Cause.{Cause}
use Rattle.reply_rewrite.specs.declared.finding.Cause.TheVariants as causes

-- ---- Stats and contents

stat_with : (path : List (List ℕ)) (stored : Stat) (plain : ℤ) → IsPlainLength path stored.length plain → (s : Stat) × IsPlainStat path stored s
stat_with path stored plain h = (record stored { length = plain }, record { plain_length = h; same_rest = refl })

pub stat_judged : (path : List (List ℕ)) (stored : Stat) → ((plain : Stat) × IsPlainStat path stored plain) ⊎ HasBadLength path stored stored.length
stat_judged path stored = by_length (length_judged path stored.length)
  where
    by_length : ((plain : ℤ) × IsPlainLength path stored.length plain) ⊎ ((plain : ℤ) → IsPlainLength path stored.length plain → ⊥) → ((plain : Stat) × IsPlainStat path stored plain) ⊎ HasBadLength path stored stored.length
    by_length (inl h) = inl (stat_with path stored h.0 h.1)
    by_length (inr f) = inr (record { is_told = refl; unfit = f })

abbrev pub ContentOrCause : List (List ℕ) → List (List ℕ) → Option (List ℕ) → Stat → Type 0
ContentOrCause keys path payload stored =
    ((content : Option (List ℕ)) × (plain : Stat) × IsPlainContent keys path payload stored content plain) ⊎ ((c : Cause) × IsContentCause keys path payload stored c)

content_by_length : (keys path : List (List ℕ)) (payload : Option (List ℕ)) (stored : Stat) (content : Option (List ℕ)) → Accepts keys path (content_of payload) content → Dec (IsPlainLength path stored.length (pos (length (content_of content)))) → ContentOrCause keys path payload stored
content_by_length keys path payload stored content h (yes fits) =
    inl (content, record stored { length = pos (length (content_of content)) }, record { accepted = h; stat = record { plain_length = fits; same_rest = refl }; fits = refl })
content_by_length keys path payload stored content h (no f) = inr (causes.Length stored.length, record { content = content; accepted = h; is_told = refl; unfit = f })

pub content_judged : (keys path : List (List ℕ)) (payload : Option (List ℕ)) (stored : Stat) → ContentOrCause keys path payload stored
content_judged keys path payload stored = by_payload (judged_once.one_of keys path (content_of payload))
  where
    by_payload : ((d : Option (List ℕ)) × Accepts keys path (content_of payload) d) ⊎ ((f : Flaw) × HasFlaw keys path payload f) → ContentOrCause keys path payload stored
    by_payload (inl h) = content_by_length keys path payload stored h.0 h.1 (dec_length path stored.length (pos (length (content_of h.0))))
    by_payload (inr h) = inr (causes.Payload h.0, h.1)

-- ---- names of children

next_place : (k : Keys) (path stored : List (List ℕ)) (i : ℕ) → i < length stored → AreGoodBefore k path stored i → Dec (OpensAt k path stored i) → Dec (StandsEarlier stored i) → AreGoodBefore k path stored (suc i) ⊎ ((c : Cause) × IsNamesCause k path stored c)
next_place k path stored i within good (no closed) e = inr (causes.Child i, record { within = within; before = good; closed = closed })
next_place k path stored i within good (yes opens) (yes earlier) = inr (causes.Doubled i, record { within = within; before = good; opens = opens; earlier = earlier })
next_place k path stored i within good (yes opens) (no apart) = inl (rw (← add-one) (good_after k path stored i good opens apart))

names_judged : (k : Keys) (path stored : List (List ℕ)) (n : ℕ) → n ≤ length stored → AreGoodBefore k path stored n ⊎ ((c : Cause) × IsNamesCause k path stored c)
names_judged k path stored zero h = inl (none_good k path stored)
names_judged k path stored (suc n) h = next (names_judged k path stored n (omega (arith, h)))
  where
    next : AreGoodBefore k path stored n ⊎ ((c : Cause) × IsNamesCause k path stored c) → AreGoodBefore k path stored (suc n) ⊎ ((c : Cause) × IsNamesCause k path stored c)
    next (inr cause) = inr cause
    next (inl good) = next_place k path stored n (omega (arith, h)) good (dec_opens_at k path stored n) (dec_earlier stored n)

good_below : (k : Keys) (path stored : List (List ℕ)) (m n : ℕ) → m ≤ n → AreGoodBefore k path stored n → AreGoodBefore k path stored m
good_below k path stored m n h good = record { opens = λ i l. good.opens i (omega (arith, l, h)); apart = λ i l. good.apart i (omega (arith, l, h)) }

new_name : (k : Keys) (path stored names : List (List ℕ)) (i : ℕ) → AreGoodBefore k path stored (suc i) → AreOpened k path stored i names → (at : OpensAt k path stored i) → IsNew k path (name_at stored i) names (insert_key byte_order names at.0)
new_name k path stored names i good opened at =
    record { name = at.0; opened = at.1; unknown = unknown; names = inserted_name at.0 names; counted = inserted_count at.0 names unknown }
  where
    unknown : IsOneOf at.0 names → ⊥
    unknown one =
        let earlier = (opened.those at.0).0 one in
        good.apart i (omega arith) (earlier.0, earlier.1, sym earlier.2.1 ∙ at.1.1)

opened_names : (k : Keys) (path stored : List (List ℕ)) (n : ℕ) → AreKeys k → AreGoodBefore k path stored n → (names : List (List ℕ)) × AreOpened k path stored n names × IsStrictlySortedBy byte_order names
unfolding IsStrictlySortedBy
opened_names k path stored zero keys good = ([], none_opened k path stored, tt)
opened_names k path stored (suc n) keys good = next (opened_names k path stored n keys (good_below k path stored n (suc n) (omega arith) good)) (good.opens n (omega arith))
  where
    next : (names : List (List ℕ)) × AreOpened k path stored n names × IsStrictlySortedBy byte_order names → OpensAt k path stored n → (names : List (List ℕ)) × AreOpened k path stored (suc n) names × IsStrictlySortedBy byte_order names
    next h at = (insert_key byte_order h.0 at.0, rw (← add-one) (more_opened k path stored h.0 _ n keys h.1 (new_name k path stored h.0 n good h.1 at)), inserted_ascends at.0 h.0 h.2)

pub list_judged : (k : Keys) (path : List (List ℕ)) (list : Option (List (List ℕ))) → AreKeys k → ((names : Option (List (List ℕ))) × IsPlainList k path list names) ⊎ ((c : Cause) × IsListCause k path list c)
unfolding IsPlainList IsListCause
list_judged k path None keys = inr (causes.NullChildren, refl)
list_judged k path (Some stored) keys = by_names (names_judged k path stored (length stored) (omega arith))
  where
    by_names : AreGoodBefore k path stored (length stored) ⊎ ((c : Cause) × IsNamesCause k path stored c) → ((names : Option (List (List ℕ))) × IsPlainList k path (Some stored) names) ⊎ ((c : Cause) × IsListCause k path (Some stored) c)
    by_names (inl good) = let h = opened_names k path stored (length stored) keys good in inl (Some h.0, record { good = good; opened = h.1; ascending = h.2 })
    by_names (inr cause) = inr cause

-- ---- results of a multi

ResultOrCause : Keys → Bool → ℕ → AskedOp → OpResult → Type 0
ResultOrCause k failed i op s = ((plain : OpResult) × IsPlainResult k failed op s plain) ⊎ ((c : Cause) × IsCauseAt k failed i op s c)

created_result : (k : Keys) (i : ℕ) (path : List (List ℕ)) (sequential : Bool) (text : List ℕ) → ((plain : List ℕ) × IsCreated k path sequential text plain) ⊎ IsNotCreated k path sequential text → ResultOrCause k false i (ops.Create path sequential) (op_results.Created text)
unfolding ResultOrCause IsPlainResult IsCauseAt IsOtherCreated
created_result k i path sequential text (inl h) = inl (op_results.Created h.0, h.1)
created_result k i path sequential text (inr f) = inr (causes.MultiCreated i, (refl, f))

created2_result : (k : Keys) (i : ℕ) (path : List (List ℕ)) (sequential : Bool) (text : List ℕ) (stored : Stat) → ((plain : List ℕ) × IsCreated k path sequential text plain) ⊎ IsNotCreated k path sequential text → ((plain : Stat) × IsPlainStat path stored plain) ⊎ HasBadLength path stored stored.length → ResultOrCause k false i (ops.Create2 path sequential) (op_results.Created2 text stored)
unfolding ResultOrCause IsPlainResult IsCauseAt IsOtherCreated IsOtherLength
created2_result k i path sequential text stored (inr f) s = inr (causes.MultiCreated i, (refl, f))
created2_result k i path sequential text stored (inl h) (inl s) = inl (op_results.Created2 h.0 s.0, (h.1, s.1))
created2_result k i path sequential text stored (inl h) (inr bad) = inr (causes.MultiLength i, (refl, (h, bad.unfit)))

changed_result : (k : Keys) (i : ℕ) (path : List (List ℕ)) (stored : Stat) → ((plain : ℤ) × IsPlainLength path stored.length plain) ⊎ ((plain : ℤ) → IsPlainLength path stored.length plain → ⊥) → ResultOrCause k false i (ops.SetContent path) (op_results.Changed stored)
unfolding ResultOrCause IsPlainResult IsCauseAt IsOtherLength
changed_result k i path stored (inl h) = let plain = stat_with path stored h.0 h.1 in inl (op_results.Changed plain.0, plain.1)
changed_result k i path stored (inr f) = inr (causes.MultiLength i, (refl, f))

other_kind : (k : Keys) (failed : Bool) (i : ℕ) (op : AskedOp) (s : OpResult) → (HasKind failed op s → ⊥) → ResultOrCause k failed i op s
unfolding ResultOrCause IsCauseAt
other_kind k failed i op s f = inr (causes.MultiKind i, (refl, f))

result_judged : (k : Keys) (failed : Bool) (i : ℕ) (op : AskedOp) (s : OpResult) → ResultOrCause k failed i op s
unfolding ResultOrCause IsPlainResult HasKind
result_judged k true i op (op_results.Error code) = inl (op_results.Error code, refl)
result_judged k true i op (op_results.Created text) = other_kind k true i op (op_results.Created text) (λ h. h)
result_judged k true i op (op_results.Created2 text stored) = other_kind k true i op (op_results.Created2 text stored) (λ h. h)
result_judged k true i op op_results.Deleted = other_kind k true i op op_results.Deleted (λ h. h)
result_judged k true i op (op_results.Changed stored) = other_kind k true i op (op_results.Changed stored) (λ h. h)
result_judged k true i op op_results.Checked = other_kind k true i op op_results.Checked (λ h. h)
result_judged k false i (ops.Create path sequential) (op_results.Created text) = created_result k i path sequential text (created_judged k path sequential text)
result_judged k false i (ops.Create2 path sequential) (op_results.Created2 text stored) = created2_result k i path sequential text stored (created_judged k path sequential text) (stat_judged path stored)
result_judged k false i ops.Delete op_results.Deleted = inl (op_results.Deleted, tt)
result_judged k false i (ops.SetContent path) (op_results.Changed stored) = changed_result k i path stored (length_judged path stored.length)
result_judged k false i ops.Check op_results.Checked = inl (op_results.Checked, tt)
result_judged k false i op s = other_kind k false i op s (λ h. h)

ResultsOrCause : Keys → Bool → ℕ → List AskedOp → List OpResult → Type 0
ResultsOrCause k failed i ops stored = ((plain : List OpResult) × ArePlainResults k failed ops stored plain) ⊎ ((c : Cause) × IsFirstCause k failed i ops stored c)

first_and_rest : (k : Keys) (failed : Bool) (i : ℕ) (op : AskedOp) (ops : List AskedOp) (s : OpResult) (stored : List OpResult) → ResultOrCause k failed i op s → ResultsOrCause k failed (i + 1) ops stored → ResultsOrCause k failed i (op ∷ ops) (s ∷ stored)
unfolding ResultOrCause ResultsOrCause ArePlainResults IsFirstCause
first_and_rest k failed i op ops s stored (inr c) rest = inr (c.0, inl c.1)
first_and_rest k failed i op ops s stored (inl h) (inr c) = inr (c.0, inr (h.0, h.1, c.1))
first_and_rest k failed i op ops s stored (inl h) (inl rest) = inl (h.0 ∷ rest.0, (h.1, rest.1))

each_judged : (k : Keys) (failed : Bool) (i : ℕ) (ops : List AskedOp) (stored : List OpResult) → length ops ≡ length stored → ResultsOrCause k failed i ops stored
unfolding ResultsOrCause ArePlainResults
each_judged k failed i [] [] e = inl ([], tt)
each_judged k failed i [] (s ∷ stored) e = absurd (omega (arith, e))
each_judged k failed i (op ∷ ops) [] e = absurd (omega (arith, e))
each_judged k failed i (op ∷ ops) (s ∷ stored) e = first_and_rest k failed i op ops s stored (result_judged k failed i op s) (each_judged k failed (i + 1) ops stored (omega (arith, e)))

counted : (k : Keys) (ops : List AskedOp) (stored : List OpResult) → Dec (length ops ≡ length stored) → ((plain : List OpResult) × ArePlainResults k (is_failed stored) ops stored plain) ⊎ ((c : Cause) × IsResultsCause k ops stored c)
unfolding ResultsOrCause
counted k ops stored (no f) = inr (causes.MultiCount (length ops) (length stored), inl (f, refl))
counted k ops stored (yes e) = by_each (each_judged k (is_failed stored) 0 ops stored e)
  where
    by_each : ((plain : List OpResult) × ArePlainResults k (is_failed stored) ops stored plain) ⊎ ((c : Cause) × IsFirstCause k (is_failed stored) 0 ops stored c) → ((plain : List OpResult) × ArePlainResults k (is_failed stored) ops stored plain) ⊎ ((c : Cause) × IsResultsCause k ops stored c)
    by_each (inl h) = inl h
    by_each (inr c) = inr (c.0, inr (e, c.1))

pub results_judged : (k : Keys) (ops : List AskedOp) (stored : List OpResult) → ((plain : List OpResult) × ArePlainResults k (is_failed stored) ops stored plain) ⊎ ((c : Cause) × IsResultsCause k ops stored c)
results_judged k ops stored = counted k ops stored (dec_number (length ops) (length stored))
