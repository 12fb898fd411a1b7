-- Why a run stops, and what it says of that.
use Rattle.std.specs.Prelude.{◌≡◌, ◌⊎◌, ℕ, List, [], ◌++◌, codes, Option, Some}
use Rattle.std.specs.Fmt.{decimal}
use Rattle.jute_core.specs.Faults.{Wrote}
use Rattle.replay_cli.specs.declared.stops.Stop.{Stop}
use Rattle.replay_cli.specs.declared.stops.Stop.TheVariants as stops
use Rattle.replay_cli.specs.declared.stops.Status.{Status}
use Rattle.replay_cli.specs.declared.stops.Status.TheVariants.{Done, BadWords, ReadFault, KeyMalformed, ScriptMalformed, InputTooLong, WriteFault, Memory, HostFault, NumbersUsed}
use Rattle.audit_board.specs.Fields.{field}
use Rattle.replay_cli.specs.Printed.{line}
use Rattle.audit_board.specs.Counts.{next}
use Rattle.replay_cli.specs.Words.{Words, word, IsKeyed, IsShow, IsFileOf}

abbrev pub exit_status : Status → ℕ
exit_status Done = 0
exit_status BadWords = 2
exit_status ReadFault = 3
exit_status KeyMalformed = 4
exit_status ScriptMalformed = 5
exit_status WriteFault = 6
exit_status Memory = 7
exit_status InputTooLong = 8
exit_status HostFault = 9
exit_status NumbersUsed = 10

-- A cause for each stop but want of memory: a file that was not read, or is too long, is told by its name, a malformed key by its size,
-- and a malformed script by the number of its first bad line. The last two are those of a command that serves.
abbrev pub BecauseServing : Stop → Type 0 → (List ℕ → Type 0) → (List ℕ → Type 0) → (ℕ → Type 0) → (ℕ → Type 0) → Type 0 → Type 0 → Type 0
BecauseServing stops.BadWords bad unread long key script host numbers = bad
BecauseServing (stops.Unread name) bad unread long key script host numbers = unread name.now
BecauseServing (stops.TooLong name) bad unread long key script host numbers = long name.now
BecauseServing (stops.KeyMalformed size) bad unread long key script host numbers = key size
BecauseServing (stops.ScriptMalformed number) bad unread long key script host numbers = script number
BecauseServing stops.Memory bad unread long key script host numbers = Unit {0}
BecauseServing stops.HostFault bad unread long key script host numbers = host
BecauseServing stops.NumbersUsed bad unread long key script host numbers = numbers

-- of a command that serves nobody
abbrev pub Because : Stop → Type 0 → (List ℕ → Type 0) → (List ℕ → Type 0) → (ℕ → Type 0) → (ℕ → Type 0) → Type 0
Because stop bad unread long key script = BecauseServing stop bad unread long key script ⊥ ⊥

-- of a file that is read
abbrev pub BecauseOfFile : Stop → (List ℕ → Type 0) → (List ℕ → Type 0) → Type 0
BecauseOfFile stop unread long = Because stop ⊥ unread long (λ size. ⊥) (λ number. ⊥)

-- of a script that was read
abbrev pub BecauseOfScript : Stop → (ℕ → Type 0) → Type 0
BecauseOfScript stop script = Because stop ⊥ (λ name. ⊥) (λ name. ⊥) (λ size. ⊥) script

abbrev pub status_of : Stop → Status
status_of stops.BadWords = BadWords
status_of (stops.Unread name) = ReadFault
status_of (stops.TooLong name) = InputTooLong
status_of (stops.KeyMalformed size) = KeyMalformed
status_of (stops.ScriptMalformed number) = ScriptMalformed
status_of stops.Memory = Memory
status_of stops.HostFault = HostFault
status_of stops.NumbersUsed = NumbersUsed

abbrev pub unread_line : List ℕ → List ℕ
unread_line name = line (codes "cannot read ") name

abbrev pub too_long_line : List ℕ → List ℕ
too_long_line name = line name (codes " is longer than 268435456 bytes")

abbrev pub bad_key_line : ℕ → List ℕ
bad_key_line size = field (codes "key of ") (decimal size) ++ line (codes " bytes") []

abbrev pub bad_script_line : ℕ → List ℕ
bad_script_line number = line (codes "script line ") (decimal number)

-- the line of a stop on the standard error
abbrev pub complaint_of : Stop → List ℕ
complaint_of stops.BadWords = line (codes "bad words") []
complaint_of (stops.Unread name) = unread_line name.now
complaint_of (stops.TooLong name) = too_long_line name.now
complaint_of (stops.KeyMalformed size) = bad_key_line size
complaint_of (stops.ScriptMalformed number) = bad_script_line number
complaint_of stops.Memory = line (codes "no memory") []
complaint_of stops.HostFault = line (codes "host fault") []
complaint_of stops.NumbersUsed = line (codes "connection numbers used") []

-- The file whose read failed last, of a key and a script: the key, of which the read has this number, or the script, whose read is the
-- next one.
abbrev pub IsUnreadOf : List ℕ → List ℕ → ℕ → Option ℕ → List ℕ → Type 0
IsUnreadOf key script read failed name = ((name ≡ key) × (failed ≡ Some read)) ⊎ ((name ≡ script) × (failed ≡ Some (next read)))

-- the file of the command whose read failed last, where its first read has this number
abbrev pub IsUnread : Words → ℕ → Option ℕ → List ℕ → Type 0
IsUnread words read failed name = (IsKeyed words × IsUnreadOf (word words 1) (word words 2) read failed name)
    ⊎ (IsShow words × (name ≡ word words 1) × (failed ≡ Some read))

-- the text is the line of a status on the standard error, of a file of the command where it names one
abbrev pub IsLine : Words → List ℕ → Type 0
IsLine words text = (text ≡ line (codes "bad words") [])
    ⊎ (text ≡ line (codes "no memory") [])
    ⊎ ((name : List ℕ) × IsFileOf words name × ((text ≡ unread_line name) ⊎ (text ≡ too_long_line name)))
    ⊎ ((n : ℕ) × IsKeyed words × ((text ≡ bad_key_line n) ⊎ (text ≡ bad_script_line n)))

-- what stands on the standard error after each status, where it is known; after a write fault `ReportsFault` says it
abbrev pub Complains : Words → Status → Option (List ℕ) → Option (List ℕ) → Type 0
Complains words Done before after = after ≡ before
Complains words BadWords before after = Wrote before after (line (codes "bad words") [])
Complains words ReadFault before after = (name : List ℕ) × IsFileOf words name × Wrote before after (unread_line name)
Complains words InputTooLong before after = (name : List ℕ) × IsFileOf words name × Wrote before after (too_long_line name)
Complains words KeyMalformed before after = (size : ℕ) × IsKeyed words × Wrote before after (bad_key_line size)
Complains words ScriptMalformed before after = (number : ℕ) × IsKeyed words × Wrote before after (bad_script_line number)
Complains words Memory before after = Wrote before after (line (codes "no memory") [])
Complains words HostFault before after = ⊥
Complains words NumbersUsed before after = ⊥
Complains words WriteFault before after = Unit {0}
