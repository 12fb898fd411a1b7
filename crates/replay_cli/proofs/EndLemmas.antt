-- What a run that stops says, and when it does not stop.
use Rattle.std.proofs.Common.{◌≡◌, ◌<◌, inl, inr, ◌⊎◌, ℕ, List, [], refl, sym, ap, subst, arith}
use Rattle.std.specs.Prelude.{codes, Option}
use Rattle.jute_core.specs.Faults.{Wrote}
use Rattle.replay_cli.specs.declared.stops.Stop.{Stop}
use Rattle.replay_cli.specs.declared.stops.Stop.TheVariants as stops
use Rattle.replay_cli.specs.declared.stops.Status.{Status}
use Rattle.replay_cli.specs.declared.stops.Status.TheVariants.{Done, WriteFault, Memory, HostFault, NumbersUsed}
use Rattle.replay_cli.specs.Told.{Told}
use Rattle.replay_cli.specs.Printed.{line}
use Rattle.replay_cli.specs.Words.{Words, IsKeyed, IsFileOf, Fits}
use Rattle.replay_cli.specs.Sinks.{ReportsFault, FailsToReport}
use Rattle.replay_cli.specs.Run.{HasLong, HasBadKey, HasBadLine}
use Rattle.replay_cli.specs.Stops.{Because, exit_status, status_of, complaint_of, IsUnread, IsLine, Complains}

unread_file : (words : Words) (read : ℕ) (failed : Option ℕ) (name : List ℕ) → IsUnread words read failed name → IsFileOf words name
unread_file words read failed name (inl (keyed, inl key)) = inl (keyed, inl key.0)
unread_file words read failed name (inl (keyed, inr script)) = inl (keyed, inr script.0)
unread_file words read failed name (inr show) = inr (show.0, show.1)

long_file : (words : Words) (told : List ℕ → Told) (name : List ℕ) → HasLong words told name → IsFileOf words name
long_file words told name (inl (keyed, (inl key, long))) = inl (keyed, inl key)
long_file words told name (inl (keyed, (inr script, long))) = inl (keyed, inr script.0)
long_file words told name (inr show) = inr (show.0, show.1)

line_keyed : (words : Words) (told : List ℕ → Told) (number : ℕ) → HasBadLine words told number → IsKeyed words
line_keyed words told number (inl bad) = inl bad.0
line_keyed words told number (inr bad) = inr bad.0

stop_complains : (stop : Stop) (words : Words) (told : List ℕ → Told) (read : ℕ) (failed : Option ℕ) (R : Type 0) (before after : Option (List ℕ))
    → Because stop (Fits words → ⊥) (λ name. IsUnread words read failed name × R) (HasLong words told) (HasBadKey words told) (HasBadLine words told)
    → Wrote before after (complaint_of stop) → Complains words (status_of stop) before after
stop_complains stops.BadWords words told read failed R before after why wrote = wrote
stop_complains (stops.Unread name) words told read failed R before after why wrote = (name.now, unread_file words read failed name.now why.0, wrote)
stop_complains (stops.TooLong name) words told read failed R before after why wrote = (name.now, long_file words told name.now why, wrote)
stop_complains (stops.KeyMalformed size) words told read failed R before after why wrote = (size, why.0, wrote)
stop_complains (stops.ScriptMalformed number) words told read failed R before after why wrote = (number, line_keyed words told number why, wrote)
stop_complains stops.Memory words told read failed R before after why wrote = wrote
stop_complains stops.HostFault words told read failed R before after why wrote = absurd why
stop_complains stops.NumbersUsed words told read failed R before after why wrote = absurd why

-- what stands on the standard error after a stop
pub complains : (stop : Stop) (words : Words) (told : List ℕ → Told) (read : ℕ) (failed : Option ℕ) (R : Type 0) (result : Status) (before after : Option (List ℕ))
    → Because stop (Fits words → ⊥) (λ name. IsUnread words read failed name × R) (HasLong words told) (HasBadKey words told) (HasBadLine words told)
    → (result ≡ status_of stop) ⊎ (result ≡ Memory) ⊎ (result ≡ WriteFault) → (result ≡ status_of stop → Wrote before after (complaint_of stop))
    → (result ≡ Memory → Wrote before after (line (codes "no memory") [])) → Complains words result before after
complains stop words told read failed R result before after why (inl e) stopped memory =
    subst (λ (s : Status). Complains words s before after) (sym e) (stop_complains stop words told read failed R before after why (stopped e))
complains stop words told read failed R result before after why (inr (inl m)) stopped memory = subst (λ (s : Status). Complains words s before after) (sym m) (memory m)
complains stop words told read failed R result before after why (inr (inr w)) stopped memory = subst (λ (s : Status). Complains words s before after) (sym w) tt

is_line : (stop : Stop) (words : Words) (told : List ℕ → Told) (read : ℕ) (failed : Option ℕ) (R : Type 0)
    → Because stop (Fits words → ⊥) (λ name. IsUnread words read failed name × R) (HasLong words told) (HasBadKey words told) (HasBadLine words told) → IsLine words (complaint_of stop)
is_line stops.BadWords words told read failed R why = inl refl
is_line (stops.Unread name) words told read failed R why = inr (inr (inl (name.now, unread_file words read failed name.now why.0, inl refl)))
is_line (stops.TooLong name) words told read failed R why = inr (inr (inl (name.now, long_file words told name.now why, inr refl)))
is_line (stops.KeyMalformed size) words told read failed R why = inr (inr (inr (size, why.0, inl refl)))
is_line (stops.ScriptMalformed number) words told read failed R why = inr (inr (inr (number, line_keyed words told number why, inr refl)))
is_line stops.Memory words told read failed R why = inr (inl refl)
is_line stops.HostFault words told read failed R why = absurd why
is_line stops.NumbersUsed words told read failed R why = absurd why

-- a write that failed was one of a line of the command
pub reports_line : (stop : Stop) (words : Words) (told : List ℕ → Told) (read : ℕ) (failed : Option ℕ) (R : Type 0) (faults later : ℕ) (before after : Option (List ℕ))
    → Because stop (Fits words → ⊥) (λ name. IsUnread words read failed name × R) (HasLong words told) (HasBadKey words told) (HasBadLine words told)
    → (text : List ℕ) × ((text ≡ complaint_of stop) ⊎ (text ≡ line (codes "no memory") [])) × FailsToReport faults later before after text
    → ReportsFault faults later before after ⊎ ((text : List ℕ) × IsLine words text × FailsToReport faults later before after text)
reports_line stop words told read failed R faults later before after why (text, inl e, fails) = inr (text, subst (IsLine words) (sym e) (is_line stop words told read failed R why), fails)
reports_line stop words told read failed R faults later before after why (text, inr e, fails) = inr (text, subst (IsLine words) (sym e) (inr (inl refl)), fails)

-- where nothing fails and no cause holds, only memory can be wanting
pub completes : (stop : Stop) (words : Words) (told : List ℕ → Told) (read : ℕ) (failed : Option ℕ) (R W : Type 0) (result : Status)
    → Because stop (Fits words → ⊥) (λ name. IsUnread words read failed name × R) (HasLong words told) (HasBadKey words told) (HasBadLine words told)
    → (result ≡ status_of stop) ⊎ (result ≡ Memory) ⊎ (result ≡ WriteFault) → (result ≡ WriteFault → W) → Fits words
    → ((name : List ℕ) → HasLong words told name → ⊥) → ((size : ℕ) → HasBadKey words told size → ⊥) → ((number : ℕ) → HasBadLine words told number → ⊥) → (R → ⊥) → (W → ⊥)
    → (result ≡ Done) ⊎ (result ≡ Memory)
completes stop words told read failed R W result why (inr (inl m)) fault reads long key script read_well write_well = inr m
completes stop words told read failed R W result why (inr (inr w)) fault reads long key script read_well write_well = absurd (write_well (fault w))
completes stops.BadWords words told read failed R W result why (inl e) fault reads long key script read_well write_well = absurd (why reads)
completes (stops.Unread name) words told read failed R W result why (inl e) fault reads long key script read_well write_well = absurd (read_well why.1)
completes (stops.TooLong name) words told read failed R W result why (inl e) fault reads long key script read_well write_well = absurd (long name.now why)
completes (stops.KeyMalformed size) words told read failed R W result why (inl e) fault reads long key script read_well write_well = absurd (key size why)
completes (stops.ScriptMalformed number) words told read failed R W result why (inl e) fault reads long key script read_well write_well = absurd (script number why)
completes stops.Memory words told read failed R W result why (inl e) fault reads long key script read_well write_well = inr e
completes stops.HostFault words told read failed R W result why (inl e) fault reads long key script read_well write_well = absurd why
completes stops.NumbersUsed words told read failed R W result why (inl e) fault reads long key script read_well write_well = absurd why

below : (result status : Status) → exit_status status < 9 → (result ≡ status) ⊎ (result ≡ Memory) ⊎ (result ≡ WriteFault) → exit_status result < 9
below result status small (inl e) = omega (arith, ap exit_status e, small)
below result status small (inr (inl e)) = omega (arith, ap exit_status e)
below result status small (inr (inr e)) = omega (arith, ap exit_status e)

own_status : (stop : Stop) (bad : Type 0) (unread long : List ℕ → Type 0) (key script : ℕ → Type 0) → Because stop bad unread long key script → exit_status (status_of stop) < 9
own_status stops.BadWords bad unread long key script why = omega arith
own_status (stops.Unread name) bad unread long key script why = omega arith
own_status (stops.TooLong name) bad unread long key script why = omega arith
own_status (stops.KeyMalformed size) bad unread long key script why = omega arith
own_status (stops.ScriptMalformed number) bad unread long key script why = omega arith
own_status stops.Memory bad unread long key script why = omega arith
own_status stops.HostFault bad unread long key script why = absurd why
own_status stops.NumbersUsed bad unread long key script why = absurd why

-- a command that serves nobody has no status of a host
pub serves_nobody : (stop : Stop) (bad : Type 0) (unread long : List ℕ → Type 0) (key script : ℕ → Type 0) (result : Status) → Because stop bad unread long key script
    → (result ≡ status_of stop) ⊎ (result ≡ Memory) ⊎ (result ≡ WriteFault) → (result ≡ HostFault → ⊥) × (result ≡ NumbersUsed → ⊥)
serves_nobody stop bad unread long key script result why status =
    let small = below result (status_of stop) (own_status stop bad unread long key script why) status in
    (λ e. omega (arith, ap exit_status e, small), λ e. omega (arith, ap exit_status e, small))
