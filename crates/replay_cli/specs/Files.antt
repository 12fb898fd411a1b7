-- Reading files by their names.
use Rattle.std.specs.Prelude.{◌≡◌, ◌⊎◌, ℕ, ◌<◌, ◌≤◌, List, ◌++◌, length, IsTrue, IsFalse, Option, Some, None, Result, Ok, Err}
use Rattle.std.specs.List.{find}
use Rattle.std.specs.Io.KnownBytes.{Consumes, IsAtEnd}
use Rattle.std.specs.Str.{bytes_eq}
use Rattle.audit_board.specs.Counts.{next, is_listed}
use Rattle.replay_cli.specs.Told.{Told, untold, missing, holds, Agrees}
use Rattle.replay_cli.specs.declared.files.FileFault.{FileFault}
use Rattle.replay_cli.specs.declared.files.FileFault.TheVariants.{Failed, TooLong, Memory}
use Rattle.replay_cli.specs.declared.files.NamedFile.{NamedFile}
use Rattle.replay_cli.specs.declared.files.Part.{Part}
use Rattle.replay_cli.specs.declared.files.Part.TheVariants as parts

-- so many bytes of the file, which has more than the limit, were seen
abbrev pub IsSeen : Told → ℕ → Type 0
IsSeen untold seen = Unit {0}
IsSeen missing seen = ⊥
IsSeen (holds all) seen = seen ≤ length all

-- What a read within a limit answers: all the bytes, which are not more than the limit, or that they are more.
abbrev pub ReadsFile : Told → ℕ → Result (List ℕ) FileFault → Type 0
ReadsFile told limit (Ok bytes) = (length bytes ≤ limit) × Agrees told bytes
ReadsFile told limit (Err (TooLong seen)) = (limit < seen) × IsSeen told seen
ReadsFile told limit (Err Failed) = Unit {0}
ReadsFile told limit (Err Memory) = Unit {0}

abbrev pub told_of : Option NamedFile → Told
told_of None = missing
told_of (Some file) = holds file.bytes

-- the first file of a name counts
abbrev pub first_named : List NamedFile → List ℕ → Option NamedFile
first_named files name = find (λ file. bytes_eq file.name name) files

abbrev pub told_under : List NamedFile → List ℕ → Told
told_under files name = told_of (first_named files name)

-- the number of the last read that failed, if one did: this one, where it failed
abbrev pub FailsAs : {T : Type 0} → Option ℕ → Option ℕ → ℕ → Result T FileFault → Type 0
FailsAs old new read (Ok _) = new ≡ old
FailsAs old new read (Err Failed) = new ≡ Some read
FailsAs old new read (Err (TooLong _)) = new ≡ old
FailsAs old new read (Err Memory) = new ≡ old

-- Files in memory: the files, the numbers of the reads that fail, the reads and the faults so far, the number of the
-- last read that failed, and how often memory was short.
pub record FilesState : Type 0 where
  pub files : List NamedFile
  pub fails : List ℕ
  pub calls : ℕ
  pub faults : ℕ
  pub failed : Option ℕ
  pub short : ℕ

-- the read of this number is not listed
abbrev pub IsUnlisted : FilesState → Type 0
IsUnlisted files = IsFalse (is_listed files.fails files.calls)

-- What a read does to files in memory: one that is listed fails, another one only where no file has the name, and
-- `short` counts want of memory alone.
abbrev pub ReadsIn : {T : Type 0} → List ℕ → FilesState → FilesState → Result T FileFault → Type 0
ReadsIn name old new (Ok _) = IsUnlisted old × (new ≡ record old { calls = next old.calls })
ReadsIn name old new (Err (TooLong _)) = IsUnlisted old × (new ≡ record old { calls = next old.calls })
ReadsIn name old new (Err Memory) = IsUnlisted old
    × (new ≡ record old { calls = next old.calls; short = next old.short })
ReadsIn name old new (Err Failed) = (IsTrue (is_listed old.fails old.calls) ⊎ (first_named old.files name ≡ None))
    × (new ≡ record old { calls = next old.calls; faults = next old.faults; failed = Some old.calls })

-- Readers of bytes

-- what a reader has left, where it is known
abbrev pub told_left : Option (List ℕ) → Told
told_left None = untold
told_left (Some bytes) = holds bytes

-- what a read of the next part gave: bytes that the reader had in front, or its end
abbrev pub GivesPart : Part → List ℕ → List ℕ → Option (List ℕ) → Option (List ℕ) → Type 0
GivesPart parts.More old new left more = (part : List ℕ) × (new ≡ old ++ part) × Consumes left more part
GivesPart parts.End old new left more = (new ≡ old) × IsAtEnd left
GivesPart parts.Failed old new left more = Unit {0}
GivesPart parts.Memory old new left more = Unit {0}
