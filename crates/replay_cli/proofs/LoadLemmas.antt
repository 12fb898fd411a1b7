-- Keys and scripts that were loaded.
use Rattle.std.proofs.Common.{◌≡◌, ℕ, ◌+◌, ◌*◌, List, length, take, drop, subst}
use Rattle.payload_seal.specs.Keys.{IsKeyFileSize, payload_keys}
use Rattle.payload_seal.specs.declared.keys.EntryKeys.{EntryKeys}
use Rattle.replay_cli.specs.Told.{Told}
use Rattle.replay_cli.specs.Hostile.{IsKeysOf}
use Rattle.replay_cli.specs.Run.{MayHold, MayBe, IsKey}

-- the keys that were read stand in what the key file may hold
pub key_is : (told : Told) (file bytes : List ℕ) (keys : EntryKeys) → MayHold told bytes → file ≡ bytes → IsKeyFileSize (length file) → keys.names.key ≡ take 16 file → keys.names.salt ≡ take 32 (drop 32 file)
    → ((n : ℕ) → length file ≡ 64 + 16 * n → keys.payloads ≡ payload_keys file n) → MayBe told (λ b. IsKey b × IsKeysOf b keys)
key_is told file bytes keys held same size name salt payloads =
    let may : MayHold told file → MayBe told (λ b. IsKey b × IsKeysOf b keys) = λ h. (file, h, (size, record { name_key = name; salt = salt; payloads = payloads })) in
    subst (λ (b : List ℕ). MayHold told b → MayBe told (λ b. IsKey b × IsKeysOf b keys)) same may held
