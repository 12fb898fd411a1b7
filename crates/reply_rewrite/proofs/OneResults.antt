-- The results of a multi have one plain form or one cause.
use Rattle.std.proofs.Common.{◌≡◌, ℕ, ◌+◌, Bool, true, false, List, [], ◌∷◌, length, inl, inr, refl, sym, ap, ◌∙◌, arith}
use Rattle.path_seal.specs.Sealed.{Keys, AreKeys}
use Rattle.request_queue.specs.declared.asked.AskedOp.{AskedOp}
use Rattle.request_queue.specs.declared.asked.AskedOp.TheVariants as ops
use Rattle.zk_messages.specs.declared.reply.OpResult.{OpResult}
use Rattle.zk_messages.specs.declared.reply.OpResult.TheVariants as op_results
use Rattle.zk_records.specs.declared.stat.Stat.{Stat}
use Rattle.reply_rewrite.proofs.OneRow.{one_created, created_or_not, one_stat}
use Rattle.reply_rewrite.specs.Results.{is_failed, HasKind, IsPlainResult, ArePlainResults, IsOtherCreated, IsOtherLength, IsCauseAt, IsFirstCause, IsResultsCause}
use Rattle.reply_rewrite.specs.declared.finding.Cause.{Cause}
use Rattle.reply_rewrite.specs.declared.finding.Cause.TheVariants as causes

failed_result : (k : Keys) (op : AskedOp) (s a b : OpResult) → IsPlainResult k true op s a → IsPlainResult k true op s b → a ≡ b
unfolding IsPlainResult
failed_result k op (op_results.Error code) a b x y = x ∙ sym y
failed_result k op s a b x y = absurd x

created2_pair : (x y : List ℕ) (a b : Stat) → x ≡ y → a ≡ b → op_results.Created2 x a ≡ op_results.Created2 y b
created2_pair x y a b f g = (λ i. op_results.Created2 (f i) (g i))

done_result : (k : Keys) (op : AskedOp) (s a b : OpResult) → AreKeys k → IsPlainResult k false op s a → IsPlainResult k false op s b → a ≡ b
unfolding IsPlainResult
done_result k (ops.Create path sequential) (op_results.Created text) (op_results.Created a) (op_results.Created b) keys x y = ap op_results.Created (one_created k path sequential text a b keys x y)
done_result k (ops.Create path sequential) (op_results.Created text) (op_results.Created a) b keys x y = absurd y
done_result k (ops.Create2 path sequential) (op_results.Created2 text stored) (op_results.Created2 p a) (op_results.Created2 q b) keys x y =
    created2_pair p q a b (one_created k path sequential text p q keys x.0 y.0) (one_stat path stored a b x.1 y.1)
done_result k (ops.Create2 path sequential) (op_results.Created2 text stored) (op_results.Created2 p a) b keys x y = absurd y
done_result k ops.Delete op_results.Deleted op_results.Deleted op_results.Deleted keys x y = refl
done_result k ops.Delete op_results.Deleted op_results.Deleted b keys x y = absurd y
done_result k (ops.SetContent path) (op_results.Changed stored) (op_results.Changed a) (op_results.Changed b) keys x y = ap op_results.Changed (one_stat path stored a b x y)
done_result k (ops.SetContent path) (op_results.Changed stored) (op_results.Changed a) b keys x y = absurd y
done_result k ops.Check op_results.Checked op_results.Checked op_results.Checked keys x y = refl
done_result k ops.Check op_results.Checked op_results.Checked b keys x y = absurd y
done_result k op s a b keys x y = absurd x

one_result : (k : Keys) (failed : Bool) (op : AskedOp) (s a b : OpResult) → AreKeys k → IsPlainResult k failed op s a → IsPlainResult k failed op s b → a ≡ b
one_result k true op s a b keys x y = failed_result k op s a b x y
one_result k false op s a b keys x y = done_result k op s a b keys x y

pub one_results : (k : Keys) (failed : Bool) (ops : List AskedOp) (stored a b : List OpResult) → AreKeys k → ArePlainResults k failed ops stored a → ArePlainResults k failed ops stored b → a ≡ b
unfolding ArePlainResults
one_results k failed [] [] [] [] keys x y = refl
one_results k failed [] [] [] (q ∷ b) keys x y = absurd y
one_results k failed [] [] (p ∷ a) b keys x y = absurd x
one_results k failed [] (s ∷ stored) a b keys x y = absurd x
one_results k failed (op ∷ ops) [] a b keys x y = absurd x
one_results k failed (op ∷ ops) (s ∷ stored) [] b keys x y = absurd x
one_results k failed (op ∷ ops) (s ∷ stored) (p ∷ a) [] keys x y = absurd y
one_results k failed (op ∷ ops) (s ∷ stored) (p ∷ a) (q ∷ b) keys x y =
    let first = one_result k failed op s p q keys x.0 y.0 in
    let rest = one_results k failed ops stored a b keys x.1 y.1 in
    (λ i. first i ∷ rest i)

pub same_length : (k : Keys) (failed : Bool) (ops : List AskedOp) (stored plain : List OpResult) → ArePlainResults k failed ops stored plain → length ops ≡ length stored
unfolding ArePlainResults
same_length k failed [] [] plain x = refl
same_length k failed [] (s ∷ stored) plain x = absurd x
same_length k failed (op ∷ ops) [] plain x = absurd x
same_length k failed (op ∷ ops) (s ∷ stored) [] x = absurd x
same_length k failed (op ∷ ops) (s ∷ stored) (p ∷ plain) x = omega (arith, same_length k failed ops stored plain x.1)

-- ---- causes

kind_of_created : (k : Keys) (failed : Bool) (op : AskedOp) (s : OpResult) → IsOtherCreated k failed op s → HasKind failed op s
unfolding IsOtherCreated HasKind
kind_of_created k true op s h = absurd h
kind_of_created k false (ops.Create path sequential) (op_results.Created text) h = tt
kind_of_created k false (ops.Create2 path sequential) (op_results.Created2 text stored) h = tt
kind_of_created k false op s h = absurd h

kind_of_length : (k : Keys) (failed : Bool) (op : AskedOp) (s : OpResult) → IsOtherLength k failed op s → HasKind failed op s
unfolding IsOtherLength HasKind
kind_of_length k true op s h = absurd h
kind_of_length k false (ops.Create2 path sequential) (op_results.Created2 text stored) h = tt
kind_of_length k false (ops.SetContent path) (op_results.Changed stored) h = tt
kind_of_length k false op s h = absurd h

created_or_length : (k : Keys) (failed : Bool) (op : AskedOp) (s : OpResult) → IsOtherCreated k failed op s → IsOtherLength k failed op s → ⊥
unfolding IsOtherCreated IsOtherLength
created_or_length k true op s x y = x
created_or_length k false (ops.Create path sequential) s x y = y
created_or_length k false (ops.Create2 path sequential) (op_results.Created2 text stored) x y = created_or_not k path sequential text y.0.0 y.0.1 x
created_or_length k false (ops.Create2 path sequential) s x y = y
created_or_length k false op s x y = x

one_cause_at : (k : Keys) (failed : Bool) (i : ℕ) (op : AskedOp) (s : OpResult) (c d : Cause) → IsCauseAt k failed i op s c → IsCauseAt k failed i op s d → c ≡ d
unfolding IsCauseAt
one_cause_at k failed i op s (causes.MultiKind a) (causes.MultiKind b) x y = ap causes.MultiKind (x.0 ∙ sym y.0)
one_cause_at k failed i op s (causes.MultiKind a) (causes.MultiCreated b) x y = absurd (x.1 (kind_of_created k failed op s y.1))
one_cause_at k failed i op s (causes.MultiKind a) (causes.MultiLength b) x y = absurd (x.1 (kind_of_length k failed op s y.1))
one_cause_at k failed i op s (causes.MultiKind a) d x y = absurd y
one_cause_at k failed i op s (causes.MultiCreated a) (causes.MultiKind b) x y = absurd (y.1 (kind_of_created k failed op s x.1))
one_cause_at k failed i op s (causes.MultiCreated a) (causes.MultiCreated b) x y = ap causes.MultiCreated (x.0 ∙ sym y.0)
one_cause_at k failed i op s (causes.MultiCreated a) (causes.MultiLength b) x y = absurd (created_or_length k failed op s x.1 y.1)
one_cause_at k failed i op s (causes.MultiCreated a) d x y = absurd y
one_cause_at k failed i op s (causes.MultiLength a) (causes.MultiKind b) x y = absurd (y.1 (kind_of_length k failed op s x.1))
one_cause_at k failed i op s (causes.MultiLength a) (causes.MultiCreated b) x y = absurd (created_or_length k failed op s y.1 x.1)
one_cause_at k failed i op s (causes.MultiLength a) (causes.MultiLength b) x y = ap causes.MultiLength (x.0 ∙ sym y.0)
one_cause_at k failed i op s (causes.MultiLength a) d x y = absurd y
one_cause_at k failed i op s c d x y = absurd x

kind_of_plain : (k : Keys) (failed : Bool) (op : AskedOp) (s p : OpResult) → IsPlainResult k failed op s p → HasKind failed op s
unfolding IsPlainResult HasKind
kind_of_plain k true op (op_results.Error code) p x = tt
kind_of_plain k true op s p x = absurd x
kind_of_plain k false (ops.Create path sequential) (op_results.Created text) p x = tt
kind_of_plain k false (ops.Create2 path sequential) (op_results.Created2 text stored) p x = tt
kind_of_plain k false ops.Delete op_results.Deleted p x = tt
kind_of_plain k false (ops.SetContent path) (op_results.Changed stored) p x = tt
kind_of_plain k false ops.Check op_results.Checked p x = tt
kind_of_plain k false op s p x = absurd x

plain_or_created : (k : Keys) (failed : Bool) (op : AskedOp) (s p : OpResult) → IsPlainResult k failed op s p → IsOtherCreated k failed op s → ⊥
unfolding IsPlainResult IsOtherCreated
plain_or_created k true op s p x y = y
plain_or_created k false (ops.Create path sequential) (op_results.Created text) (op_results.Created plain) x y = created_or_not k path sequential text plain x y
plain_or_created k false (ops.Create path sequential) (op_results.Created text) p x y = x
plain_or_created k false (ops.Create2 path sequential) (op_results.Created2 text stored) (op_results.Created2 made plain) x y = created_or_not k path sequential text made x.0 y
plain_or_created k false (ops.Create2 path sequential) (op_results.Created2 text stored) p x y = x
plain_or_created k false op s p x y = y

plain_or_length : (k : Keys) (failed : Bool) (op : AskedOp) (s p : OpResult) → IsPlainResult k failed op s p → IsOtherLength k failed op s → ⊥
unfolding IsPlainResult IsOtherLength
plain_or_length k true op s p x y = y
plain_or_length k false (ops.Create2 path sequential) (op_results.Created2 text stored) (op_results.Created2 made plain) x y = y.1 plain.length x.1.plain_length
plain_or_length k false (ops.Create2 path sequential) (op_results.Created2 text stored) p x y = x
plain_or_length k false (ops.SetContent path) (op_results.Changed stored) (op_results.Changed plain) x y = y plain.length x.plain_length
plain_or_length k false (ops.SetContent path) (op_results.Changed stored) p x y = x
plain_or_length k false op s p x y = y

plain_or_cause : (k : Keys) (failed : Bool) (i : ℕ) (op : AskedOp) (s p : OpResult) (c : Cause) → IsPlainResult k failed op s p → IsCauseAt k failed i op s c → ⊥
unfolding IsCauseAt
plain_or_cause k failed i op s p (causes.MultiKind at) x y = y.1 (kind_of_plain k failed op s p x)
plain_or_cause k failed i op s p (causes.MultiCreated at) x y = plain_or_created k failed op s p x y.1
plain_or_cause k failed i op s p (causes.MultiLength at) x y = plain_or_length k failed op s p x y.1
plain_or_cause k failed i op s p c x y = y

results_or_first : (k : Keys) (failed : Bool) (i : ℕ) (ops : List AskedOp) (stored plain : List OpResult) (c : Cause) → ArePlainResults k failed ops stored plain → IsFirstCause k failed i ops stored c → ⊥
unfolding ArePlainResults IsFirstCause
results_or_first k failed i [] stored plain c x y = y
results_or_first k failed i (op ∷ ops) [] plain c x y = y
results_or_first k failed i (op ∷ ops) (s ∷ stored) [] c x y = x
results_or_first k failed i (op ∷ ops) (s ∷ stored) (p ∷ plain) c x (inl at) = plain_or_cause k failed i op s p c x.0 at
results_or_first k failed i (op ∷ ops) (s ∷ stored) (p ∷ plain) c x (inr later) = results_or_first k failed (i + 1) ops stored plain c x.1 later.2

one_first : (k : Keys) (failed : Bool) (i : ℕ) (ops : List AskedOp) (stored : List OpResult) (c d : Cause) → IsFirstCause k failed i ops stored c → IsFirstCause k failed i ops stored d → c ≡ d
unfolding IsFirstCause
one_first k failed i [] stored c d x y = absurd x
one_first k failed i (op ∷ ops) [] c d x y = absurd x
one_first k failed i (op ∷ ops) (s ∷ stored) c d (inl x) (inl y) = one_cause_at k failed i op s c d x y
one_first k failed i (op ∷ ops) (s ∷ stored) c d (inl x) (inr y) = absurd (plain_or_cause k failed i op s y.0 c y.1 x)
one_first k failed i (op ∷ ops) (s ∷ stored) c d (inr x) (inl y) = absurd (plain_or_cause k failed i op s x.0 d x.1 y)
one_first k failed i (op ∷ ops) (s ∷ stored) c d (inr x) (inr y) = one_first k failed (i + 1) ops stored c d x.2 y.2

pub one_results_cause : (k : Keys) (ops : List AskedOp) (stored : List OpResult) (c d : Cause) → IsResultsCause k ops stored c → IsResultsCause k ops stored d → c ≡ d
one_results_cause k ops stored c d (inl x) (inl y) = x.1 ∙ sym y.1
one_results_cause k ops stored c d (inl x) (inr y) = absurd (x.0 y.0)
one_results_cause k ops stored c d (inr x) (inl y) = absurd (y.0 x.0)
one_results_cause k ops stored c d (inr x) (inr y) = one_first k (is_failed stored) 0 ops stored c d x.1 y.1

pub results_or_cause : (k : Keys) (ops : List AskedOp) (stored plain : List OpResult) (c : Cause) → ArePlainResults k (is_failed stored) ops stored plain → IsResultsCause k ops stored c → ⊥
results_or_cause k ops stored plain c x (inl y) = y.0 (same_length k (is_failed stored) ops stored plain x)
results_or_cause k ops stored plain c x (inr y) = results_or_first k (is_failed stored) 0 ops stored plain c x y.1
