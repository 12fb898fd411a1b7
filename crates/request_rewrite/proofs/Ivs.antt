-- The IVs of a request, one after another.
use Rattle.std.proofs.Common.{◌≡◌, ◌≤◌, ◌<◌, ◌+◌, ◌^◌, ℕ, suc, List, [], ◌∷◌, ◌++◌, length, take, take_all, get_or, refl, sym, ap, ◌∙◌, subst, arith, append_assoc, add-one, add-zero}
use Rattle.std.specs.Prelude.{sum_by}
use Rattle.std.specs.List.{AllZip}
use Rattle.std.proofs.lemmas.List.{append-nil, take_more}
use Rattle.std.proofs.lemmas.List.Sums.{sum_by-cons, sum_by_more, sum_by_more_le}
use Rattle.std.proofs.lemmas.Slice.Zip.{all_zipped_more}
use Rattle.payload_seal.specs.Ivs.{Ivs}
use Rattle.payload_seal.specs.Keys.{epoch_of}
use Rattle.payload_seal.specs.declared.keys.EntryKeys.{EntryKeys}
use Rattle.zk_records.specs.declared.node.SetContentRequest.{SetContentRequest}
use Rattle.request_queue.specs.declared.asked.AskedOp.{AskedOp}
use Rattle.zk_messages.specs.declared.request.Op.{Op}
use Rattle.zk_messages.specs.declared.request.Op.TheVariants as ops
use Rattle.request_rewrite.specs.Asks.{AsksOp}
use Rattle.request_rewrite.specs.Ivs.{IsForGreatest, ivs_from, iv_after, payloads_of_op, ivs_of_op}
use Rattle.request_rewrite.specs.Veil.{VeilsSetContent, VeilsOp, VeilsOps}

pub one_iv : (s : Ivs) → ivs_from s 1 ≡ iv_after s 0 ∷ []
unfolding ivs_from
one_iv s = refl

pub no_iv : (s : Ivs) → ivs_from s 0 ≡ []
unfolding ivs_from
no_iv s = refl

-- there is a key for the epoch of an IV of the source
pub epoch_known : (keys : List (List ℕ)) (s : Ivs) (i : ℕ) (iv : List ℕ) → IsForGreatest keys s → iv ≡ iv_after s i → epoch_of iv < length keys
epoch_known keys s i iv greatest at =
    let first : epoch_of iv ≡ s.epoch = ap epoch_of at in
    omega (arith, greatest, first)

-- an operation has one payload at most
few : (op : Op) → payloads_of_op op ≤ 1
unfolding payloads_of_op
few (ops.Create r) = omega arith
few (ops.Create2 r) = omega arith
few (ops.Delete r) = omega arith
few (ops.SetContent r) = omega arith
few (ops.Check r) = omega arith

pub few_payloads : (list : List Op) → sum_by payloads_of_op list ≤ length list
few_payloads [] = omega arith
few_payloads (op ∷ list) =
    let split = sum_by-cons payloads_of_op op list in
    let size : length (op ∷ list) ≡ suc (length list) = refl in
    omega (arith, split, size, few op, few_payloads list)

pub payloads_fit : (list : List Op) → length list < 2 ^ 63 → sum_by payloads_of_op list < 2 ^ 64
payloads_fit list h = omega (arith, h, few_payloads list)

-- the IVs of the operations so far, and of the next one
more_ivs : (s : Ivs) (used : ℕ) (op : Op) → ivs_from s (used + payloads_of_op op) ≡ ivs_from s used ++ ivs_of_op s used op
unfolding ivs_from payloads_of_op ivs_of_op
more_ivs s used (ops.Create r) = ap (ivs_from s) (add-one used)
more_ivs s used (ops.Create2 r) = ap (ivs_from s) (add-one used)
more_ivs s used (ops.Delete r) = ap (ivs_from s) (add-zero used) ∙ sym (append-nil (ivs_from s used))
more_ivs s used (ops.SetContent r) = ap (ivs_from s) (add-one used)
more_ivs s used (ops.Check r) = ap (ivs_from s) (add-zero used) ∙ sym (append-nil (ivs_from s used))

-- one operation more
one_more : (k : EntryKeys) (a b : List (List ℕ)) (rs vs : List Op) (r v : Op) → VeilsOps k a rs vs → VeilsOp k b r v → VeilsOps k (a ++ b) (rs ++ r ∷ []) (vs ++ v ∷ [])
unfolding VeilsOps
one_more k a b [] [] r v e h = (b, [], h, refl, ap (λ (l : List (List ℕ)). l ++ b) e ∙ sym (append-nil b))
one_more k a b [] (w ∷ vs) r v e h = absurd e
one_more k a b (q ∷ rs) [] r v e h = absurd e
one_more k a b (q ∷ rs) (w ∷ vs) r v e h =
    (e.0, e.1 ++ b, e.2, one_more k e.1 b rs vs r v e.3 h, ap (λ (l : List (List ℕ)). l ++ b) e.4 ∙ append_assoc e.0 e.1 b)

-- a setData among the operations
pub content_op : (k : EntryKeys) (s : Ivs) (used : ℕ) (iv : List ℕ) (op : Op) (r v : SetContentRequest) → op ≡ ops.SetContent r → iv ≡ iv_after s used → VeilsSetContent k (iv ∷ []) r v → VeilsOp k (ivs_of_op s used op) op (ops.SetContent v)
unfolding VeilsOp ivs_of_op
content_op k s used iv op r v is at h =
    subst (λ (o : Op). VeilsOp k (ivs_of_op s used o) o (ops.SetContent v)) (sym is) (subst (λ (i : List ℕ). VeilsSetContent k (i ∷ []) r v) at h)

-- what a loop over the operations keeps
pub record SoFar (k : EntryKeys) (s : Ivs) (rs vs : List Op) (asked : List AskedOp) (used : ℕ) : Type 0 where
  pub counted : used ≡ sum_by payloads_of_op rs
  pub veiled : VeilsOps k (ivs_from s used) rs vs
  pub kept : AllZip AsksOp rs asked

pub at_start : (k : EntryKeys) (s : Ivs) → SoFar k s [] [] [] 0
unfolding VeilsOps ivs_from
at_start k s = record { counted = refl; veiled = refl; kept = tt }

next : (k : EntryKeys) (s : Ivs) (rs vs : List Op) (asked : List AskedOp) (used : ℕ) (r v : Op) (asks : AskedOp) → SoFar k s rs vs asked used → VeilsOp k (ivs_of_op s used r) r v → AsksOp r asks → sum_by payloads_of_op (rs ++ r ∷ []) ≡ sum_by payloads_of_op rs + payloads_of_op r → SoFar k s (rs ++ r ∷ []) (vs ++ v ∷ []) (asked ++ asks ∷ []) (used + payloads_of_op r)
next k s rs vs asked used r v asks h op is more = record {
  counted = omega (arith, h.counted, more);
  veiled = subst (λ (ivs : List (List ℕ)). VeilsOps k ivs (rs ++ r ∷ []) (vs ++ v ∷ [])) (sym (more_ivs s used r)) (one_more k _ _ rs vs r v h.veiled op);
  kept = all_zipped_more AsksOp rs asked r asks h.kept is;
}

pub one_op_more : (k : EntryKeys) (s : Ivs) (rs vs : List Op) (asked : List AskedOp) (used i : ℕ) (r v : Op) (asks : AskedOp) → i < length rs → r ≡ get_or rs i r → SoFar k s (take i rs) vs asked used → VeilsOp k (ivs_of_op s used r) r v → AsksOp r asks → SoFar k s (take (i + 1) rs) (vs ++ v ∷ []) (asked ++ asks ∷ []) (used + payloads_of_op r)
one_op_more k s rs vs asked used i r v asks less at h op is =
    let split : take (i + 1) rs ≡ take i rs ++ r ∷ [] = take_more rs i r less ∙ ap (λ (x : Op). take i rs ++ x ∷ []) (sym at) in
    let more = ap (sum_by payloads_of_op) (sym split) ∙ sum_by_more payloads_of_op rs i r less ∙ ap (λ (x : Op). sum_by payloads_of_op (take i rs) + payloads_of_op x) (sym at) in
    subst (λ (l : List Op). SoFar k s l (vs ++ v ∷ []) (asked ++ asks ∷ []) (used + payloads_of_op r)) (sym split) (next k s (take i rs) vs asked used r v asks h op is more)

-- so many IVs are there
pub enough : (k : EntryKeys) (s : Ivs) (rs vs : List Op) (asked : List AskedOp) (used i : ℕ) (r : Op) → i < length rs → r ≡ get_or rs i r → SoFar k s (take i rs) vs asked used → used + payloads_of_op r ≤ sum_by payloads_of_op rs
enough k s rs vs asked used i r less at h = omega (arith, h.counted, sum_by_more_le payloads_of_op rs i r less, ap payloads_of_op at)

pub at_end : (k : EntryKeys) (s : Ivs) (rs vs : List Op) (asked : List AskedOp) (used i : ℕ) → length rs ≤ i → SoFar k s (take i rs) vs asked used → SoFar k s rs vs asked used
at_end k s rs vs asked used i le h = subst (λ (l : List Op). SoFar k s l vs asked used) (take_all i rs le) h
