-- Sinks in memory, and what is tried on a sink that failed.
use Rattle.std.specs.Prelude.{◌≡◌, ℕ, ◌++◌, List, [], IsFalse, Option, Result, Ok, Err, if◌then◌else◌}
use Rattle.audit_board.specs.Counts.{next, is_listed}

-- the bytes taken, the calls so far, the numbers of the calls that fail, and the counts of faults: of all, and of those for want of memory
pub record SinkState : Type 0 where
  pub taken : List ℕ
  pub calls : ℕ
  pub fails : List ℕ
  pub faults : ℕ
  pub short : ℕ

-- What a write does to a sink in memory: a call that is listed fails, another one only for want of memory, and neither
-- then takes anything.
abbrev pub Writes : {T E : Type 0} → List ℕ → SinkState → SinkState → Result T E → Type 0
Writes piece old new (Ok _) = IsFalse (is_listed old.fails old.calls)
    × (new ≡ record old { taken = old.taken ++ piece; calls = next old.calls })
Writes piece old new (Err _) = new ≡ record old {
  calls = next old.calls;
  faults = next old.faults;
  short = (if is_listed old.fails old.calls then old.short else next old.short);
}
