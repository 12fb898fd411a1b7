-- IVs of payloads, 96 bits each: this project's own use of the deterministic construction (NIST SP 800-38D, 8.2.1).
--
-- The fixed field is the epoch of the key, the number of the boot and that of the connection; the invocation field is the
-- number of the payload.
use Rattle.std.specs.Prelude.{ℕ, ◌<◌, ◌≤◌, ◌^◌, List, ◌∷◌, ◌++◌, drop}
use Rattle.std.specs.Int.{w32, to_be_bytes}

-- the IV of payload j of a connection, counted from 0: a byte of the epoch, three of the boot, four of the connection, four of j
abbrev pub payload_iv : ℕ → ℕ → ℕ → ℕ → List ℕ
payload_iv epoch boot connection j =
    epoch ∷ (drop 1 (to_be_bytes w32 boot) ++ (to_be_bytes w32 connection ++ to_be_bytes w32 j))

-- what a source keeps: `count` payloads have their IVs
pub record Ivs : Type 0 where
  pub epoch : ℕ
  pub boot : ℕ
  pub connection : ℕ
  pub count : ℕ

pub record AreIvs (s : Ivs) : Type 0 where
  pub epoch_fits : s.epoch < 2 ^ 8
  pub boot_fits : s.boot < 2 ^ 24
  pub count_fits : s.count ≤ 2 ^ 32
