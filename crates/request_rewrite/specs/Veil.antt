-- What a store is handed in place of what a client asked: each name and each payload sealed, and all else as it was.
use Rattle.std.specs.Prelude.{◌≡◌, ◌⊎◌, ℕ, ℤ, Bool, false, List, [], ◌∷◌, ◌++◌, Some, None, codes}
use Rattle.path_seal.specs.Sealed.{Keys}
use Rattle.payload_seal.specs.Payload.{SealData}
use Rattle.payload_seal.specs.declared.keys.EntryKeys.{EntryKeys}
use Rattle.watch_rewrite.specs.Watches.{SealsText, VeilsWatches}
use Rattle.zk_records.specs.declared.create.CreateRequest.{CreateRequest}
use Rattle.zk_records.specs.declared.node.CheckRequest.{CheckRequest}
use Rattle.zk_records.specs.declared.node.DeleteRequest.{DeleteRequest}
use Rattle.zk_records.specs.declared.node.PathOnly.{PathOnly}
use Rattle.zk_records.specs.declared.node.SetContentRequest.{SetContentRequest}
use Rattle.zk_records.specs.declared.path_watch.PathWatch.{PathWatch}
use Rattle.zk_records.specs.declared.set_acl.SetAclRequest.{SetAclRequest}
use Rattle.zk_messages.specs.Refuses.{Refuses, RefusesOp}
use Rattle.zk_messages.specs.declared.request.Op.{Op}
use Rattle.zk_messages.specs.declared.request.Op.TheVariants as ops
use Rattle.zk_messages.specs.declared.request.Request.{Request}
use Rattle.zk_messages.specs.declared.request.Request.TheVariants as requests
use Rattle.request_rewrite.specs.Names.{IsNameOf, SealNameOf}

-- of a create or a create2 the path or the stem is sealed, and the content for it under the one IV; null is sealed too
pub record VeilsCreate (k : EntryKeys) (ivs : List (List ℕ)) (r v : CreateRequest) : Type 0 where
  pub sequential : Bool
  pub path : List (List ℕ)
  pub iv : List ℕ
  pub named : IsNameOf r.flags r.path sequential path
  pub one_iv : ivs ≡ iv ∷ []
  pub sealed_path : v.path ≡ SealNameOf k.names sequential path
  pub sealed_content : v.content ≡ Some (SealData k.payloads iv path sequential r.content)
  pub same_acls : v.acls ≡ r.acls
  pub same_flags : v.flags ≡ r.flags

-- the same of a setData
pub record VeilsSetContent (k : EntryKeys) (ivs : List (List ℕ)) (r v : SetContentRequest) : Type 0 where
  pub iv : List ℕ
  pub text : SealsText k.names r.path v.path
  pub one_iv : ivs ≡ iv ∷ []
  pub sealed_content : v.content ≡ Some (SealData k.payloads iv text.path false r.content)
  pub same_version : v.version ≡ r.version

-- the path alone is sealed
pub record VeilsDelete (k : Keys) (r v : DeleteRequest) : Type 0 where
  pub text : SealsText k r.path v.path
  pub same_version : v.version ≡ r.version

pub record VeilsCheck (k : Keys) (r v : CheckRequest) : Type 0 where
  pub text : SealsText k r.path v.path
  pub same_version : v.version ≡ r.version

pub record VeilsPathWatch (k : Keys) (r v : PathWatch) : Type 0 where
  pub text : SealsText k r.path v.path
  pub same_watch : v.watch ≡ r.watch

pub record VeilsPathOnly (k : Keys) (r v : PathOnly) : Type 0 where
  pub text : SealsText k r.path v.path

pub record VeilsSetAcl (k : Keys) (r v : SetAclRequest) : Type 0 where
  pub text : SealsText k r.path v.path
  pub same_acls : v.acls ≡ r.acls
  pub same_version : v.version ≡ r.version

-- an operation of a multi, and the IVs that it takes
unfoldable pub VeilsOp : EntryKeys → List (List ℕ) → Op → Op → Type 0
VeilsOp k ivs (ops.Create r) (ops.Create v) = VeilsCreate k ivs r v
VeilsOp k ivs (ops.Create2 r) (ops.Create2 v) = VeilsCreate k ivs r v
VeilsOp k ivs (ops.Delete r) (ops.Delete v) = VeilsDelete k.names r v × (ivs ≡ [])
VeilsOp k ivs (ops.SetContent r) (ops.SetContent v) = VeilsSetContent k ivs r v
VeilsOp k ivs (ops.Check r) (ops.Check v) = VeilsCheck k.names r v × (ivs ≡ [])
VeilsOp k ivs r v = ⊥

-- operation by operation, each with its own of the IVs, in order
unfoldable pub VeilsOps : EntryKeys → List (List ℕ) → List Op → List Op → Type 0
VeilsOps k ivs [] [] = ivs ≡ []
VeilsOps k ivs (r ∷ rs) (v ∷ vs) = (first rest : List (List ℕ)) × VeilsOp k first r v × VeilsOps k rest rs vs × (ivs ≡ first ++ rest)
VeilsOps k ivs rs vs = ⊥

-- the request with each name and each payload sealed, under exactly these IVs, in order
unfoldable pub Veils : EntryKeys → List (List ℕ) → Request → Request → Type 0
Veils k ivs (requests.Create r) (requests.Create v) = VeilsCreate k ivs r v
Veils k ivs (requests.Create2 r) (requests.Create2 v) = VeilsCreate k ivs r v
Veils k ivs (requests.Delete r) (requests.Delete v) = VeilsDelete k.names r v × (ivs ≡ [])
Veils k ivs (requests.Exists r) (requests.Exists v) = VeilsPathWatch k.names r v × (ivs ≡ [])
Veils k ivs (requests.GetContent r) (requests.GetContent v) = VeilsPathWatch k.names r v × (ivs ≡ [])
Veils k ivs (requests.SetContent r) (requests.SetContent v) = VeilsSetContent k ivs r v
Veils k ivs (requests.GetAcl r) (requests.GetAcl v) = VeilsPathOnly k.names r v × (ivs ≡ [])
Veils k ivs (requests.SetAcl r) (requests.SetAcl v) = VeilsSetAcl k.names r v × (ivs ≡ [])
Veils k ivs (requests.GetChildren r) (requests.GetChildren v) = VeilsPathWatch k.names r v × (ivs ≡ [])
Veils k ivs (requests.GetChildren2 r) (requests.GetChildren2 v) = VeilsPathWatch k.names r v × (ivs ≡ [])
Veils k ivs (requests.Sync r) (requests.Sync v) = VeilsPathOnly k.names r v × (ivs ≡ [])
Veils k ivs requests.Ping requests.Ping = ivs ≡ []
Veils k ivs (requests.Multi rs) (requests.Multi vs) = VeilsOps k ivs rs vs
Veils k ivs (requests.SetWatches r) (requests.SetWatches v) = VeilsWatches k.names r v × (ivs ≡ [])
Veils k ivs requests.Close requests.Close = ivs ≡ []
Veils k ivs r v = ⊥

-- an operation that no rule refuses
abbrev pub IsAllowedOp : Op → Type 0
IsAllowedOp op = RefusesOp op None

-- what goes to the store in place of a refused request, so that its answer keeps its turn: it names nothing and leaves no watch
abbrev pub stand_in : Request
stand_in = requests.Exists (record { path = codes "/"; watch = false })

-- a refused request becomes the stand-in, and takes no IV; each other one is veiled
unfoldable pub Veil : EntryKeys → List (List ℕ) → Request → Request → Type 0
Veil k ivs r v = ((code : ℤ) × Refuses r (Some code) × (v ≡ stand_in) × (ivs ≡ [])) ⊎ (Refuses r None × Veils k ivs r v)
