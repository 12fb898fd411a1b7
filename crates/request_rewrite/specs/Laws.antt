-- Laws of veiled forms.
use Rattle.std.specs.Prelude.{◌≡◌, ◌≤◌, ◌*◌, ◌^◌, ℕ, ℤ, List, length, All}
use Rattle.payload_seal.specs.declared.keys.EntryKeys.{EntryKeys}
use Rattle.request_queue.specs.Short.{HasShortPath}
use Rattle.request_queue.specs.declared.asked.Asked.{Asked}
use Rattle.zk_messages.specs.Kinds.{kind_of}
use Rattle.zk_messages.specs.Requests.{IsKind, MayHave, SpellsRequest, number_of}
use Rattle.zk_messages.specs.Sending.{IsShortRequest}
use Rattle.zk_messages.specs.Sent.{client_limit}
use Rattle.zk_messages.specs.Short.{HasShortParts}
use Rattle.zk_messages.specs.declared.request.Op.{Op}
use Rattle.zk_messages.specs.declared.request.Request.{Request}
use Rattle.zk_messages.specs.declared.request.Request.TheVariants as requests
use Rattle.request_rewrite.specs.Asks.{Asks}
use Rattle.request_rewrite.specs.Ivs.{PayloadsOf}
use Rattle.request_rewrite.specs.Veil.{Veil}

-- a request has one number of payloads to seal, and under keys and IVs one veiled form
pub record IsVeiledOnce : Type 0 where
  pub one_number : (r : Request) (m n : ℕ) → PayloadsOf r m → PayloadsOf r n → m ≡ n
  pub one_form : (k : EntryKeys) (ivs : List (List ℕ)) (r v w : Request) → Veil k ivs r v → Veil k ivs r w → v ≡ w

-- what is handed up for a body has at most 30 times its bytes, with IVs of 12 bytes
abbrev pub GrowsByThirty : Type 0
GrowsByThirty =
    (k : EntryKeys) (ivs : List (List ℕ)) (xid : ℤ) (r v : Request) (a b : List ℕ) → All (λ iv. length iv ≡ 12) ivs
    → Veil k ivs r v → SpellsRequest xid r a → SpellsRequest xid v b → length b ≤ 30 * length a

-- the request can be written with this xid, and each of its texts and buffers has at most 2 ^ 27 bytes
pub record IsWritable (xid : ℤ) (r : Request) : Type 0 where
  pub known : IsKind (number_of r) (kind_of r)
  pub may : MayHave xid (number_of r)
  pub short : IsShortRequest r
  pub short_parts : HasShortParts r

-- so is what is handed up for a body within the client's limit, with IVs of 12 bytes
abbrev pub IsWritableWhenVeiled : Type 0
IsWritableWhenVeiled =
    (k : EntryKeys) (ivs : List (List ℕ)) (xid : ℤ) (r v : Request) (body : List ℕ) → All (λ iv. length iv ≡ 12) ivs
    → Veil k ivs r v → length body ≤ client_limit → SpellsRequest xid r body → IsWritable xid v

-- a multi has no more operations than its body has bytes, and what is kept of a request that was read from a body of at most
-- 2 ^ 27 bytes is short
pub record IsShortWhenAsked : Type 0 where
  pub few : (xid : ℤ) (list : List Op) (body : List ℕ) → SpellsRequest xid (requests.Multi list) body → length list ≤ length body
  pub short : (xid : ℤ) (r : Request) (asked : Asked) (body : List ℕ) → length body ≤ 2 ^ 27
      → SpellsRequest xid r body → Asks r asked → HasShortPath asked
