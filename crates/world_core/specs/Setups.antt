-- What all sessions of a world have.
use Rattle.std.specs.Prelude.{ℕ}
use Rattle.payload_seal.specs.declared.keys.EntryKeys.{EntryKeys}

-- their keys, and the number of the boot in which they seal
pub record Sealing : Type 0 where
  pub keys : EntryKeys
  pub boot : ℕ
