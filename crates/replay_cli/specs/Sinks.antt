-- What is tried on a sink that failed.
use Rattle.std.specs.Prelude.{ℕ, List, [], codes, Option}
use Rattle.jute_core.specs.Faults.{Rose, Wrote, WroteFront}
use Rattle.replay_cli.specs.Printed.{line}

-- the line that is tried where a write failed
abbrev pub fault_line : List ℕ
fault_line = line (codes "cannot write") []

-- A front of that line was taken: all of it, where the count of faults did not rise.
pub record ReportsFault (faults faults_after : ℕ) (taken taken_after : Option (List ℕ)) : Type 0 where
  pub front : WroteFront taken taken_after fault_line
  pub whole : (Rose faults faults_after → ⊥) → Wrote taken taken_after fault_line

-- The write of this text failed and took a front of it, and then a front of that line was taken.
pub record FailsToReport (faults faults_after : ℕ) (taken taken_after : Option (List ℕ)) (text : List ℕ) : Type 0 where
  pub faults_between : ℕ
  pub taken_between : Option (List ℕ)
  pub rose : Rose faults faults_between
  pub front : WroteFront taken taken_between text
  pub reports : ReportsFault faults_between faults_after taken_between taken_after
