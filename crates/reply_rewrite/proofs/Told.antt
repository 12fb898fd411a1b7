-- What a client is told.
use Rattle.std.proofs.Common.{◌≡◌, ℤ, Option, Some, None, inl, inr, refl, sym, subst}
use Rattle.payload_seal.specs.declared.keys.EntryKeys.{EntryKeys}
use Rattle.request_queue.specs.declared.asked.Asked.{Asked}
use Rattle.request_queue.specs.declared.asked.Asked.TheVariants as asks
use Rattle.zk_messages.specs.declared.reply.Outcome.{Outcome}
use Rattle.zk_messages.specs.declared.reply.Outcome.TheVariants as outcomes
use Rattle.reply_rewrite.specs.Admits.{IsRefused, IsFailure, IsPlain, IsCauseOf, Tells, AdmitsStored, AdmitsOutcome, marshalling_error}
use Rattle.reply_rewrite.specs.declared.finding.Cause.{Cause}

pub refused_told : (k : EntryKeys) (asked : Asked) (stored told : Outcome) (code : ℤ) → asked ≡ asks.Refused code → told ≡ outcomes.Error code → AdmitsOutcome k asked stored told None
unfolding AdmitsOutcome
refused_told k asked stored told code e h = subst (λ (a : Asked). AdmitsOutcome k a stored told None) (sym e) (h, refl)

-- a request that was not refused
told_if_allowed : (k : EntryKeys) (asked : Asked) (stored told : Outcome) (cause : Option Cause) → (IsRefused asked → ⊥) → AdmitsStored k asked stored told cause → AdmitsOutcome k asked stored told cause
unfolding AdmitsOutcome
told_if_allowed k (asks.Refused code) stored told cause f h = absurd (f tt)
told_if_allowed k asked stored told cause f h = h

told_if_done : (k : EntryKeys) (asked : Asked) (stored told : Outcome) (cause : Option Cause) → (IsFailure stored → ⊥) → Tells k asked stored told cause → AdmitsStored k asked stored told cause
unfolding AdmitsStored
told_if_done k asked (outcomes.Error code) told cause f h = absurd (f tt)
told_if_done k asked stored told cause f h = h

pub failure_told : (k : EntryKeys) (asked : Asked) (stored told : Outcome) (code : ℤ) → (IsRefused asked → ⊥) → stored ≡ outcomes.Error code → told ≡ outcomes.Error code → AdmitsOutcome k asked stored told None
unfolding AdmitsStored
failure_told k asked stored told code f e h = told_if_allowed k asked stored told None f (subst (λ (s : Outcome). AdmitsStored k asked s told None) (sym e) (h, refl))

pub plain_told : (k : EntryKeys) (asked : Asked) (stored told : Outcome) → (IsRefused asked → ⊥) → (IsFailure stored → ⊥) → IsPlain k asked stored told → AdmitsOutcome k asked stored told None
plain_told k asked stored told f g h = told_if_allowed k asked stored told None f (told_if_done k asked stored told None g (inl (refl, h)))

pub cause_told : (k : EntryKeys) (asked : Asked) (stored told : Outcome) (cause : Cause) → (IsRefused asked → ⊥) → (IsFailure stored → ⊥) → IsCauseOf k asked stored cause → told ≡ outcomes.Error marshalling_error → AdmitsOutcome k asked stored told (Some cause)
cause_told k asked stored told cause f g h e = told_if_allowed k asked stored told (Some cause) f (told_if_done k asked stored told (Some cause) g (inr (cause, refl, h, e)))

pub ruleset told = (refused_told, failure_told, plain_told, cause_told)
