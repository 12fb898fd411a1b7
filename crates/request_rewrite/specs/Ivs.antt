-- The IVs that a request takes: one for each of its payloads.
use Rattle.std.specs.Prelude.{◌≡◌, ◌⊎◌, ℕ, zero, suc, ℤ, ◌+◌, List, [], ◌∷◌, ◌++◌, Some, None, length, sum_by}
use Rattle.payload_seal.specs.Ivs.{Ivs, payload_iv}
use Rattle.zk_messages.specs.Refuses.{Refuses}
use Rattle.zk_messages.specs.declared.request.Op.{Op}
use Rattle.zk_messages.specs.declared.request.Op.TheVariants as ops
use Rattle.zk_messages.specs.declared.request.Request.{Request}
use Rattle.zk_messages.specs.declared.request.Request.TheVariants as requests

-- the source gives IVs for the greatest epoch of the keys
abbrev pub IsForGreatest : List (List ℕ) → Ivs → Type 0
IsForGreatest keys source = source.epoch + 1 ≡ length keys

-- the IV that a source gives after so many more
abbrev pub iv_after : Ivs → ℕ → List ℕ
iv_after source index = payload_iv source.epoch source.boot source.connection (source.count + index)

-- the next n IVs of a source, in order
unfoldable pub ivs_from : Ivs → ℕ → List (List ℕ)
ivs_from source zero = []
ivs_from source (suc n) = ivs_from source n ++ iv_after source n ∷ []

-- a create, a create2 and a setData have a payload
unfoldable pub payloads_of_op : Op → ℕ
payloads_of_op (ops.Create r) = 1
payloads_of_op (ops.Create2 r) = 1
payloads_of_op (ops.Delete r) = 0
payloads_of_op (ops.SetContent r) = 1
payloads_of_op (ops.Check r) = 0

-- how many payloads a request has, those of a multi's operations too
unfoldable pub payloads_of : Request → ℕ
payloads_of (requests.Create r) = 1
payloads_of (requests.Create2 r) = 1
payloads_of (requests.SetContent r) = 1
payloads_of (requests.Multi list) = sum_by payloads_of_op list
payloads_of r = 0

-- how many of them are sealed: none of a refused request
abbrev pub PayloadsOf : Request → ℕ → Type 0
PayloadsOf r n = ((code : ℤ) × Refuses r (Some code) × (n ≡ 0)) ⊎ (Refuses r None × (n ≡ payloads_of r))

-- the IVs of an operation, of which the first comes after so many
unfoldable pub ivs_of_op : Ivs → ℕ → Op → List (List ℕ)
ivs_of_op source index (ops.Create r) = iv_after source index ∷ []
ivs_of_op source index (ops.Create2 r) = iv_after source index ∷ []
ivs_of_op source index (ops.Delete r) = []
ivs_of_op source index (ops.SetContent r) = iv_after source index ∷ []
ivs_of_op source index (ops.Check r) = []
