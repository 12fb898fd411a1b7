-- Laws for whoever uses a store.
use Rattle.std.specs.Prelude.{ℕ}
use Rattle.store_side.specs.Past.{Past}
use Rattle.store_side.specs.Follows.{IsAdmitted, IsSound}
use Rattle.store_side.specs.Calls.{admitted_one, after_pull}

-- a sound store stays so where it admits a connection
abbrev pub AdmittingIsSound : Type 0
AdmittingIsSound = (past : Past) → IsSound past → IsSound (admitted_one past)

-- and where bytes of one are pulled
abbrev pub PullingIsSound : Type 0
PullingIsSound = (past : Past) (c n : ℕ) → IsSound past → IsAdmitted past c → IsSound (after_pull c n past)
