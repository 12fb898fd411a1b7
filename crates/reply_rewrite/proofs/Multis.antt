-- The results of a multi, one after another.
use Rattle.std.proofs.Common.{◌≡◌, ◌<◌, ◌+◌, ℕ, zero, suc, Bool, List, [], ◌∷◌, ◌++◌, length, take, get_or, inl, inr, refl, subst, arith, add-one}
use Rattle.path_seal.specs.Sealed.{Keys}
use Rattle.request_queue.specs.declared.asked.AskedOp.{AskedOp}
use Rattle.zk_messages.specs.declared.reply.OpResult.{OpResult}
use Rattle.reply_rewrite.specs.Results.{IsPlainResult, ArePlainResults, IsCauseAt, IsFirstCause}
use Rattle.reply_rewrite.specs.Caused.{IsCausedBy}
use Rattle.reply_rewrite.specs.declared.finding.Cause.{Cause}
use Rattle.reply_rewrite.specs.declared.finding.NotPlain.{NotPlain}
use Rattle.reply_rewrite.specs.declared.finding.NotPlain.TheVariants.{Caused, Memory}

pub none_plain : (k : Keys) (failed : Bool) (made : List OpResult) → made ≡ [] → ArePlainResults k failed [] [] made
unfolding ArePlainResults
none_plain k failed [] e = tt
none_plain k failed (p ∷ made) e = cc

one_plain : (k : Keys) (failed : Bool) (o op : AskedOp) (s r p : OpResult) → op ≡ o → r ≡ s → IsPlainResult k failed op r p → IsPlainResult k failed o s p
one_plain k failed o op s r p e f h = subst (λ (x : AskedOp). IsPlainResult k failed x s p) e (subst (λ (x : OpResult). IsPlainResult k failed op x p) f h)

more : (k : Keys) (failed : Bool) (ops : List AskedOp) (stored made : List OpResult) (i : ℕ) (op : AskedOp) (r p : OpResult) → i < length ops → i < length stored → op ≡ get_or ops i op → r ≡ get_or stored i r → ArePlainResults k failed (take i ops) (take i stored) made → IsPlainResult k failed op r p → ArePlainResults k failed (take (suc i) ops) (take (suc i) stored) (made ++ p ∷ [])
unfolding ArePlainResults
more k failed [] stored made i op r p a b e f h g = absurd (omega (arith, a))
more k failed (o ∷ ops) [] made i op r p a b e f h g = absurd (omega (arith, b))
more k failed (o ∷ ops) (s ∷ stored) [] zero op r p a b e f h g = (one_plain k failed o op s r p e f g, tt)
more k failed (o ∷ ops) (s ∷ stored) (q ∷ made) zero op r p a b e f h g = absurd h
more k failed (o ∷ ops) (s ∷ stored) [] (suc i) op r p a b e f h g = absurd h
more k failed (o ∷ ops) (s ∷ stored) (q ∷ made) (suc i) op r p a b e f h g = (h.0, more k failed ops stored made i op r p (omega (arith, a)) (omega (arith, b)) e f h.1 g)

pub more_plain : (k : Keys) (failed : Bool) (ops : List AskedOp) (stored made : List OpResult) (i : ℕ) (op : AskedOp) (r p : OpResult) → i < length ops → i < length stored → op ≡ get_or ops i op → r ≡ get_or stored i r → ArePlainResults k failed (take i ops) (take i stored) made → IsPlainResult k failed op r p → ArePlainResults k failed (take (i + 1) ops) (take (i + 1) stored) (made ++ p ∷ [])
more_plain k failed ops stored made i op r p a b e f h g = rw (add-one) (more k failed ops stored made i op r p a b e f h g)

one_cause : (k : Keys) (failed : Bool) (m n : ℕ) (o op : AskedOp) (s r : OpResult) (cause : Cause) → m ≡ n → op ≡ o → r ≡ s → IsCauseAt k failed m op r cause → IsCauseAt k failed n o s cause
one_cause k failed m n o op s r cause d e f h =
    subst (λ (i : ℕ). IsCauseAt k failed i o s cause) d (subst (λ (x : AskedOp). IsCauseAt k failed m x s cause) e (subst (λ (x : OpResult). IsCauseAt k failed m op x cause) f h))

cause_from : (k : Keys) (failed : Bool) (at : ℕ) (ops : List AskedOp) (stored made : List OpResult) (i : ℕ) (op : AskedOp) (r : OpResult) (cause : Cause) → i < length ops → i < length stored → op ≡ get_or ops i op → r ≡ get_or stored i r → ArePlainResults k failed (take i ops) (take i stored) made → IsCauseAt k failed (at + i) op r cause → IsFirstCause k failed at ops stored cause
unfolding ArePlainResults IsFirstCause
cause_from k failed at [] stored made i op r cause a b e f h g = absurd (omega (arith, a))
cause_from k failed at (o ∷ ops) [] made i op r cause a b e f h g = absurd (omega (arith, b))
cause_from k failed at (o ∷ ops) (s ∷ stored) made zero op r cause a b e f h g = inl (one_cause k failed (at + 0) at o op s r cause (omega arith) e f g)
cause_from k failed at (o ∷ ops) (s ∷ stored) [] (suc i) op r cause a b e f h g = absurd h
cause_from k failed at (o ∷ ops) (s ∷ stored) (q ∷ made) (suc i) op r cause a b e f h g =
    inr (q, h.0, cause_from k failed (at + 1) ops stored made i op r cause (omega (arith, a)) (omega (arith, b)) e f h.1 (one_cause k failed (at + suc i) (at + 1 + i) op op r r cause (omega arith) refl refl g))

pub first_cause : (k : Keys) (failed : Bool) (ops : List AskedOp) (stored made : List OpResult) (i : ℕ) (op : AskedOp) (r : OpResult) (cause : Cause) → i < length ops → i < length stored → op ≡ get_or ops i op → r ≡ get_or stored i r → ArePlainResults k failed (take i ops) (take i stored) made → IsCauseAt k failed i op r cause → IsFirstCause k failed 0 ops stored cause
first_cause k failed ops stored made i op r cause a b e f h g = cause_from k failed 0 ops stored made i op r cause a b e f h (one_cause k failed i (0 + i) op op r r cause (omega arith) refl refl g)

pub caused_first : (k : Keys) (failed : Bool) (ops : List AskedOp) (stored made : List OpResult) (i : ℕ) (op : AskedOp) (r : OpResult) (e : NotPlain) → IsCausedBy (IsCauseAt k failed i op r) e → i < length ops → i < length stored → op ≡ get_or ops i op → r ≡ get_or stored i r → ArePlainResults k failed (take i ops) (take i stored) made → IsCausedBy (IsFirstCause k failed 0 ops stored) e
caused_first k failed ops stored made i op r (Caused cause) g a b f h plain = first_cause k failed ops stored made i op r cause a b f h plain g
caused_first k failed ops stored made i op r Memory g a b f h plain = tt

pub ruleset multis = (none_plain, more_plain, caused_first)
