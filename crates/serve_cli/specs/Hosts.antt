-- What a host tells of the connections that came to it.
use Rattle.std.specs.Prelude.{◌≡◌, ◌⊎◌, ℕ, ◌+◌, ◌≤◌, List, [], ◌∷◌, ◌++◌, Bool, true, false, Option, Some, None}
use Rattle.jute_core.specs.Faults.{Rose}
use Rattle.payload_seal.specs.declared.keys.EntryKeys.{EntryKeys}
use Rattle.serve_cli.specs.declared.host.Accepted.{Accepted}
use Rattle.serve_cli.specs.declared.host.Accepted.TheVariants.{One, Skipped, NoMore, Failed}

-- How many connections were accepted, how many jobs were started, and how many clients were skipped; whether no more come; how often the
-- host failed.
pub record HostTold : Type 0 where
  pub accepted : ℕ
  pub started : ℕ
  pub skipped : ℕ
  pub ended : Bool
  pub faults : ℕ

abbrev pub told_all : ℕ → ℕ → ℕ → Bool → ℕ → HostTold
told_all accepted started skipped ended faults = record { accepted = accepted; started = started; skipped = skipped; ended = ended; faults = faults }

-- a host that always takes more clients
abbrev pub told_of : ℕ → ℕ → ℕ → ℕ → HostTold
told_of accepted started skipped faults = told_all accepted started skipped false faults

-- No job was started, and no count fell. So many connections were accepted so far, and this tells whether more come.
pub record StartsNone (old new : HostTold) (accepted : ℕ) (ended : Bool) : Type 0 where
  pub accepted_is : new.accepted ≡ accepted
  pub ended_is : new.ended ≡ ended
  pub started_stays : new.started ≡ old.started
  pub skipped_later : old.skipped ≤ new.skipped
  pub faults_later : old.faults ≤ new.faults

-- nothing was accepted or started either
abbrev pub Rests : HostTold → HostTold → Type 0
Rests old new = StartsNone old new old.accepted old.ended

-- What an accept gave: one more connection, or a client that was skipped, or word that no more come, or a failure.
abbrev pub Accepts : {T : Type 0} → Accepted T → HostTold → HostTold → Type 0
Accepts (One pair) old new = StartsNone old new (old.accepted + 1) old.ended
Accepts Skipped old new = Rests old new × Rose old.skipped new.skipped
Accepts NoMore old new = StartsNone old new old.accepted true
Accepts Failed old new = Rests old new × Rose old.faults new.faults

-- One more job was started, nothing was accepted, and no count fell.
pub record StartsOne (old new : HostTold) : Type 0 where
  pub accepted_stays : new.accepted ≡ old.accepted
  pub ended_stays : new.ended ≡ old.ended
  pub started_one : new.started ≡ old.started + 1
  pub skipped_later : old.skipped ≤ new.skipped
  pub faults_later : old.faults ≤ new.faults
