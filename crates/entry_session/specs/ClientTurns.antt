-- What a session does at a frame of its client.
use Rattle.std.specs.Prelude.{◌≡◌, ℕ, ◌+◌, ◌-◌, ◌<◌, ◌≤◌, ◌^◌, List, [], ◌∷◌, ◌++◌, length, Bool, true, false}
use Rattle.jute_core.specs.declared.cursor.Refusal.{Refusal}
use Rattle.payload_seal.specs.Ivs.{Ivs}
use Rattle.payload_seal.specs.declared.keys.EntryKeys.{EntryKeys}
use Rattle.request_queue.specs.Weights.{limit}
use Rattle.zk_records.specs.Connect.{RefusedConnect}
use Rattle.zk_messages.specs.Items.{IsItem}
use Rattle.zk_messages.specs.Sent.{is_first}
use Rattle.zk_messages.specs.Requests.{RefusedRequest}
use Rattle.zk_messages.specs.declared.request.Item.{Item}
use Rattle.zk_messages.specs.declared.request.Item.TheVariants as items
use Rattle.request_rewrite.specs.Ivs.{ivs_from, PayloadsOf}
use Rattle.request_rewrite.specs.Veil.{Veil}
use Rattle.entry_session.specs.Stands.{Stand, ends, weight, weight_of}
use Rattle.entry_session.specs.declared.ending.Ending.TheVariants.{ClientMalformed, QueueFull, IvSpent}

-- how many payloads of the item are sealed
unfoldable pub PayloadsIn : Item → ℕ → Type 0
PayloadsIn (items.Asks asked) n = n ≡ 0
PayloadsIn (items.Requests xid r) n = PayloadsOf r n

-- a connect request goes up as it was sent; a request keeps its xid, and takes its n IVs from the source
unfoldable pub VeilsItem : EntryKeys → Ivs → ℕ → Item → Item → Type 0
VeilsItem k source n (items.Asks asked) v = v ≡ items.Asks asked
VeilsItem k source n (items.Requests xid r) (items.Requests number v) = (number ≡ xid) × Veil k (ivs_from source n) r v
VeilsItem k source n i v = ⊥

-- new payloads are sealed under the key of this epoch
abbrev pub greatest_epoch : EntryKeys → ℕ
greatest_epoch k = length k.payloads - 1

-- the source of the IVs of connection c in a boot, where so many payloads were sealed
abbrev pub source_at : EntryKeys → ℕ → ℕ → ℕ → Ivs
source_at k boot c sealed = record { epoch = greatest_epoch k; boot = boot; connection = c; count = sealed }

-- the body is no item of the kind that may come: first a connect request, then requests
unfoldable pub RefusedItem : Bool → List ℕ → Refusal → Type 0
RefusedItem true body refusal = RefusedConnect body refusal.place refusal.reason
RefusedItem false body refusal = RefusedRequest body refusal.place refusal.reason

-- there is room for one more to wait
unfoldable pub HasRoom : Stand → Item → ℕ → Type 0
HasRoom s (items.Asks asked) size = Unit {0}
HasRoom s (items.Requests xid r) size = weight s + weight_of size ≤ limit

-- The frame is refused, the queue has no room for it, too few IVs are left for it, or it goes up veiled: the first of these that fits.
pub data ClientTurn (k : EntryKeys) (boot c : ℕ) (old : Stand) (body : List ℕ) : Stand → Type 0 where
  malformed_frame : (refusal : Refusal) → RefusedItem (is_first old.items) body refusal → ClientTurn k boot c old body (ends old (ClientMalformed refusal))
  full_queue : (i : Item) → IsItem (is_first old.items) i body → (HasRoom old i (length body) → ⊥) → ClientTurn k boot c old body (ends old (QueueFull (weight old + weight_of (length body))))
  spent_ivs : (i : Item) (n : ℕ) → IsItem (is_first old.items) i body → HasRoom old i (length body) → PayloadsIn i n → 2 ^ 32 < old.sealed + n → ClientTurn k boot c old body (ends old IvSpent)
  handed_up : (i v : Item) (n : ℕ) (out : List ℕ) → IsItem (is_first old.items) i body → HasRoom old i (length body) → PayloadsIn i n → old.sealed + n ≤ 2 ^ 32
      → VeilsItem k (source_at k boot c old.sealed) n i v → IsItem (is_first old.items) v out
      → ClientTurn k boot c old body (record old { items = old.items ++ i ∷ []; sizes = old.sizes ++ length body ∷ []; sealed = old.sealed + n; up = old.up ++ out ∷ [] })
