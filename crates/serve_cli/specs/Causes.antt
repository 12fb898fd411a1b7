-- Why serving stops, and what stands on the standard error then.
use Rattle.std.specs.Prelude.{◌≡◌, ◌⊎◌, ◌+◌, ◌≤◌, ℕ, List, [], ◌++◌, length, codes, true, Option}
use Rattle.jute_core.specs.Faults.{Rose, Wrote}
use Rattle.replay_cli.specs.Printed.{line}
use Rattle.replay_cli.specs.Run.{IsKey, IsTooLong, MayBe}
use Rattle.replay_cli.specs.Stops.{Because, BecauseServing, status_of, complaint_of, unread_line, too_long_line, bad_key_line}
use Rattle.replay_cli.specs.Told.{Told}
use Rattle.replay_cli.specs.Words.{Words, word}
use Rattle.replay_cli.specs.declared.stops.Status.{Status}
use Rattle.replay_cli.specs.declared.stops.Status.TheVariants as statuses
use Rattle.replay_cli.specs.declared.stops.Stop.{Stop}
use Rattle.replay_cli.specs.declared.stops.Stop.TheVariants as stops
use Rattle.serve_cli.specs.Hosts.{HostTold}
use Rattle.serve_cli.specs.Serving.{numbers}
use Rattle.serve_cli.specs.Words.{Fits, IsSomeProxy, IsStore, IsServedLine}
use Rattle.serve_cli.specs.declared.ending.End.{End}
use Rattle.serve_cli.specs.declared.ending.End.TheVariants as ends

-- Key files

-- a key file of a store has 48 bytes: the name key and the salt
abbrev pub IsCounterKey : List ℕ → Type 0
IsCounterKey bytes = length bytes ≡ 48

-- the file may hold so many bytes, which are no key file of this kind
abbrev pub HoldsOther : (List ℕ → Type 0) → Told → ℕ → Type 0
HoldsOther IsKind file size = MayBe file (λ bytes. (IsKind bytes → ⊥) × (size ≡ length bytes))

-- the key file of the command may hold so many bytes, which are no key of it
abbrev pub HasBadKey : Words → Told → ℕ → Type 0
HasBadKey words file size = (IsSomeProxy words × HoldsOther IsKey file size) ⊎ (IsStore words × HoldsOther IsCounterKey file size)

-- the key file of the command may hold a key of it
abbrev pub HasKey : Words → Told → Type 0
HasKey words file = (IsSomeProxy words × MayBe file IsKey) ⊎ (IsStore words × MayBe file IsCounterKey)

-- A stop at a key file of this name and kind, of which this is told: it was not read, and the count of faults rose; or it is too long;
-- or it is of another kind.
abbrev pub StopsAtKey : (List ℕ → Type 0) → List ℕ → Told → ℕ → ℕ → Stop → Type 0
StopsAtKey IsKind key file before now stop = Because stop ⊥ (λ name. (name ≡ key) × Rose before now) (λ name. (name ≡ key) × IsTooLong file) (HoldsOther IsKind file) (λ number. ⊥)

-- Ends of serving

-- the cause of a stop; any other end comes under a key, and what the host did is said apart
abbrev pub Ends : Type 0 → (List ℕ → Type 0) → (List ℕ → Type 0) → (ℕ → Type 0) → Type 0 → End → Type 0
Ends bad unread long key keyed (ends.Stopped stop) = BecauseServing stop bad unread long key (λ number. ⊥) keyed keyed
Ends bad unread long key keyed end = keyed

-- under a key file of this name and kind
abbrev pub EndsUnder : (List ℕ → Type 0) → List ℕ → Told → ℕ → ℕ → End → Type 0
EndsUnder IsKind key file before now end = Ends ⊥ (λ name. (name ≡ key) × Rose before now) (λ name. (name ≡ key) × IsTooLong file) (HoldsOther IsKind file) (MayBe file IsKind) end

-- for the command that the words name
abbrev pub EndsFor : Words → (List ℕ → Told) → ℕ → ℕ → End → Type 0
EndsFor words told before now end = Ends (Fits words → ⊥) (λ name. Fits words × (name ≡ word words 1) × Rose before now)
    (λ name. Fits words × (name ≡ word words 1) × IsTooLong (told (word words 1))) (HasBadKey words (told (word words 1)))
    (HasKey words (told (word words 1))) end

-- What is said

-- a text of this kind, which is the line that says what is served
abbrev pub SaidLine : (List ℕ → Type 0) → Option (List ℕ) → Option (List ℕ) → Type 0
SaidLine IsLine old new = (text : List ℕ) × IsLine text × Wrote old new text

-- before a stop nothing was said, but that line where serving had begun
abbrev pub SaidBefore : (List ℕ → Type 0) → Stop → Option (List ℕ) → Option (List ℕ) → Type 0
SaidBefore IsLine stops.HostFault old new = (new ≡ old) ⊎ SaidLine IsLine old new
SaidBefore IsLine stops.Memory old new = (new ≡ old) ⊎ SaidLine IsLine old new
SaidBefore IsLine stops.NumbersUsed old new = SaidLine IsLine old new
SaidBefore IsLine stop old new = new ≡ old

-- what the standard error took up to an end of serving, or that it failed
abbrev pub Said : (List ℕ → Type 0) → End → Option (List ℕ) → Option (List ℕ) → ℕ → ℕ → Type 0
Said IsLine ends.Done old new before now = SaidLine IsLine old new
Said IsLine (ends.Stopped stop) old new before now = SaidBefore IsLine stop old new
Said IsLine ends.Unsaid old new before now = Rose before now

-- A stop was told as the line of its status, or that there was no memory for it; or the count of faults rose.
pub record Complained (stop : Stop) (old new : Option (List ℕ)) (before now : ℕ) (status : Status) : Type 0 where
  pub is : (status ≡ status_of stop) ⊎ (status ≡ statuses.Memory) ⊎ (status ≡ statuses.WriteFault)
  pub stopped : status ≡ status_of stop → Wrote old new (complaint_of stop)
  pub memory : status ≡ statuses.Memory → Wrote old new (line (codes "no memory") [])
  pub fault : status ≡ statuses.WriteFault → Rose before now

-- how an end of serving is told: nothing more is said where no more clients came, or where nothing could be said
abbrev pub Ended : End → Option (List ℕ) → Option (List ℕ) → ℕ → ℕ → Status → Type 0
Ended ends.Done old new before now status = (status ≡ statuses.Done) × (new ≡ old)
Ended (ends.Stopped stop) old new before now status = Complained stop old new before now status
Ended ends.Unsaid old new before now status = (status ≡ statuses.WriteFault) × (before ≤ now)

-- The standard error took the last line of a status, and before it nothing, or the line that says what is served.
abbrev pub Says : Words → Option (List ℕ) → Option (List ℕ) → List ℕ → Type 0
Says words old new last = (text : List ℕ) × ((text ≡ []) ⊎ IsServedLine words text) × Wrote old new (text ++ last)

-- What a status says: of the words, the files and their faults, the host, and the standard error and its faults.
pub record Scene : Type 0 where
  pub words : Words
  pub told : List ℕ → Told
  pub files_before : ℕ
  pub files_now : ℕ
  pub host_before : HostTold
  pub host_now : HostTold
  pub err_before : Option (List ℕ)
  pub err_now : Option (List ℕ)
  pub faults_before : ℕ
  pub faults_now : ℕ

abbrev pub Serves : Scene → Status → Type 0
Serves s statuses.Done = (s.host_now.ended ≡ true) × HasKey s.words (s.told (word s.words 1)) × SaidLine (IsServedLine s.words) s.err_before s.err_now
Serves s statuses.BadWords = (Fits s.words → ⊥) × Wrote s.err_before s.err_now (line (codes "bad words") [])
Serves s statuses.ReadFault = Fits s.words × Rose s.files_before s.files_now × Wrote s.err_before s.err_now (unread_line (word s.words 1))
Serves s statuses.InputTooLong = Fits s.words × IsTooLong (s.told (word s.words 1)) × Wrote s.err_before s.err_now (too_long_line (word s.words 1))
Serves s statuses.KeyMalformed = (size : ℕ) × HasBadKey s.words (s.told (word s.words 1)) size × Wrote s.err_before s.err_now (bad_key_line size)
Serves s statuses.ScriptMalformed = ⊥
Serves s statuses.HostFault = Rose s.host_before.faults s.host_now.faults × HasKey s.words (s.told (word s.words 1))
    × Says s.words s.err_before s.err_now (line (codes "host fault") [])
Serves s statuses.NumbersUsed = (s.host_now.accepted ≡ s.host_before.accepted + numbers) × HasKey s.words (s.told (word s.words 1))
    × Says s.words s.err_before s.err_now (line (codes "connection numbers used") [])
Serves s statuses.WriteFault = Rose s.faults_before s.faults_now
Serves s statuses.Memory = Says s.words s.err_before s.err_now (line (codes "no memory") [])
