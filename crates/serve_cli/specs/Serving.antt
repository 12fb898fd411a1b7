-- What serving came to: the connections that were accepted, why no more are taken, and what is said.
use Rattle.std.specs.Prelude.{◌≡◌, ◌≢◌, ◌⊎◌, ℕ, zero, suc, ◌+◌, ◌≤◌, ◌<◌, List, [], ◌∷◌, ◌++◌, codes, Bool, true, false, Option, Some, Result, Ok, Err}
use Rattle.jute_core.specs.Faults.{Rose, Wrote, WroteFront}
use Rattle.payload_seal.specs.declared.keys.EntryKeys.{EntryKeys}
use Rattle.serve_cli.specs.Hosts.{HostTold}
use Rattle.serve_cli.specs.declared.closing.Close.{Close}
use Rattle.serve_cli.specs.declared.closing.Close.TheVariants.{NoMore, NumbersUsed, HostFault, Memory}

-- how many connections there are numbers for
abbrev pub numbers : ℕ
numbers = 4294967295

-- From the host before to the host after: so many connections were accepted, each went into a job, and no count fell.
pub record Joined (old new : HostTold) (count : ℕ) : Type 0 where
  pub accepted : new.accepted ≡ old.accepted + count
  pub started : new.started ≡ old.started + count
  pub skipped_later : old.skipped ≤ new.skipped
  pub faults_later : old.faults ≤ new.faults

-- the same while more are taken: there are numbers left, and the host has not ended, where it had not
pub record Taking (old new : HostTold) (count : ℕ) : Type 0 where
  pub joined : Joined old new count
  pub below : count < numbers
  pub ended : new.ended ≡ old.ended

-- the same where no more are taken, and why: there are no more, or no numbers for more, or the host failed, or there was no memory
abbrev pub ClosedBy : Close → HostTold → HostTold → ℕ → Type 0
ClosedBy NoMore old new count = (count < numbers) × (new.ended ≡ true)
ClosedBy NumbersUsed old new count = (count ≡ numbers) × (new.ended ≡ old.ended)
ClosedBy HostFault old new count = (count < numbers) × (new.ended ≡ old.ended) × Rose old.faults new.faults
ClosedBy Memory old new count = (count < numbers) × (new.ended ≡ old.ended)

pub record Closed (old new : HostTold) (count : ℕ) (close : Close) : Type 0 where
  pub joined : Joined old new count
  pub by : ClosedBy close old new count

-- One turn: the connection of a client went into a job, or the client was skipped, or no more are taken.
abbrev pub Turned : HostTold → HostTold → Result Bool Close → Type 0
Turned old new (Ok true) = Joined old new 1 × (new.ended ≡ old.ended)
Turned old new (Ok false) = Joined old new 0 × (new.ended ≡ old.ended)
Turned old new (Err NoMore) = Joined old new 0 × (new.ended ≡ true)
Turned old new (Err NumbersUsed) = ⊥
Turned old new (Err HostFault) = Joined old new 0 × (new.ended ≡ old.ended) × Rose old.faults new.faults
Turned old new (Err Memory) = Joined old new 0 × (new.ended ≡ old.ended)
