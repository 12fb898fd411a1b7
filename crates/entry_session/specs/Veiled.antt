-- What a session hands up: each item veiled, with IVs counted from the start of the connection.
use Rattle.std.specs.Prelude.{◌≡◌, ℕ, ◌+◌, ◌<◌, ◌≤◌, ◌^◌, List, [], ◌∷◌, Bool, true, false}
use Rattle.payload_seal.specs.declared.keys.EntryKeys.{EntryKeys}
use Rattle.zk_messages.specs.Items.{IsItem}
use Rattle.zk_messages.specs.declared.request.Item.{Item}
use Rattle.entry_session.specs.ClientTurns.{PayloadsIn, VeilsItem, source_at}

-- the item brings the number sealed above what a connection may seal
pub record IsSpent (sealed : ℕ) (i : Item) : Type 0 where
  pub count : ℕ
  pub payloads : PayloadsIn i count
  pub beyond : 2 ^ 32 < sealed + count

-- the item is veiled, and so many payloads are sealed after it
pub record IsVeiledTo (k : EntryKeys) (boot c sealed : ℕ) (i v : Item) (after : ℕ) : Type 0 where
  pub count : ℕ
  pub payloads : PayloadsIn i count
  pub within : sealed + count ≤ 2 ^ 32
  pub veils : VeilsItem k (source_at k boot c sealed) count i v
  pub after_is : after ≡ sealed + count

-- where so many payloads were sealed before: item by item, up to the first one for which too few IVs are left
unfoldable pub VeilsFrom : EntryKeys → ℕ → ℕ → ℕ → List Item → List Item → Type 0
VeilsFrom k boot c sealed [] vs = vs ≡ []
VeilsFrom k boot c sealed (i ∷ is) [] = IsSpent sealed i
VeilsFrom k boot c sealed (i ∷ is) (v ∷ vs) = (after : ℕ) × IsVeiledTo k boot c sealed i v after × VeilsFrom k boot c after is vs

-- these items, a body each; the first is another kind than the others
unfoldable pub SpellsItems : Bool → List Item → List (List ℕ) → Type 0
SpellsItems first [] [] = Unit {0}
SpellsItems first [] (b ∷ bs) = ⊥
SpellsItems first (i ∷ is) [] = ⊥
SpellsItems first (i ∷ is) (b ∷ bs) = IsItem first i b × SpellsItems false is bs

-- the bodies handed up for these items of connection c, in the boot
pub record Veiled (k : EntryKeys) (boot c : ℕ) (is : List Item) (bodies : List (List ℕ)) : Type 0 where
  pub veiled : List Item
  pub each : VeilsFrom k boot c 0 is veiled
  pub spelled : SpellsItems true veiled bodies
