-- What a request asks, as far as its reply depends on it: each path the one that the client named.
use Rattle.std.specs.Prelude.{◌≡◌, ◌⊎◌, ℕ, ℤ, List, Some, None}
use Rattle.std.specs.List.{AllZip}
use Rattle.zk_path.specs.Paths.{IsTextOf}
use Rattle.zk_messages.specs.Refuses.{Refuses}
use Rattle.zk_messages.specs.declared.request.Op.{Op}
use Rattle.zk_messages.specs.declared.request.Op.TheVariants as ops
use Rattle.zk_messages.specs.declared.request.Request.{Request}
use Rattle.zk_messages.specs.declared.request.Request.TheVariants as requests
use Rattle.request_queue.specs.declared.asked.Asked.{Asked}
use Rattle.request_queue.specs.declared.asked.Asked.TheVariants as asks
use Rattle.request_queue.specs.declared.asked.AskedOp.{AskedOp}
use Rattle.request_queue.specs.declared.asked.AskedOp.TheVariants as op_asks
use Rattle.payload_seal.specs.declared.keys.EntryKeys.{EntryKeys}
use Rattle.request_rewrite.specs.Names.{IsNameOf}
use Rattle.request_rewrite.specs.Veil.{Veils}

-- what an operation of a multi asks
unfoldable pub AsksOp : Op → AskedOp → Type 0
AsksOp (ops.Create r) (op_asks.Create path sequential) = IsNameOf r.flags r.path sequential path
AsksOp (ops.Create2 r) (op_asks.Create2 path sequential) = IsNameOf r.flags r.path sequential path
AsksOp (ops.Delete r) op_asks.Delete = Unit {0}
AsksOp (ops.SetContent r) (op_asks.SetContent path) = IsTextOf r.path path
AsksOp (ops.Check r) op_asks.Check = Unit {0}
AsksOp r asked = ⊥

-- what a request asks that is not refused
unfoldable pub AsksPlain : Request → Asked → Type 0
AsksPlain (requests.Create r) (asks.Create path sequential) = IsNameOf r.flags r.path sequential path
AsksPlain (requests.Create2 r) (asks.Create2 path sequential) = IsNameOf r.flags r.path sequential path
AsksPlain (requests.Delete r) asks.Empty = Unit {0}
AsksPlain (requests.Exists r) (asks.StatOf path) = IsTextOf r.path path
AsksPlain (requests.GetContent r) (asks.Content path) = IsTextOf r.path path
AsksPlain (requests.SetContent r) (asks.StatOf path) = IsTextOf r.path path
AsksPlain (requests.GetAcl r) (asks.AclOf path) = IsTextOf r.path path
AsksPlain (requests.SetAcl r) (asks.StatOf path) = IsTextOf r.path path
AsksPlain (requests.GetChildren r) (asks.Children path) = IsTextOf r.path path
AsksPlain (requests.GetChildren2 r) (asks.Children2 path) = IsTextOf r.path path
AsksPlain (requests.Sync r) (asks.SyncOf path) = IsTextOf r.path path
AsksPlain requests.Ping asks.Empty = Unit {0}
AsksPlain (requests.Multi rs) (asks.Multi asked) = AllZip AsksOp rs asked
AsksPlain (requests.SetWatches r) asks.Empty = Unit {0}
AsksPlain requests.Close asks.Close = Unit {0}
AsksPlain r asked = ⊥

-- what a request asks: a refused one its code
unfoldable pub Asks : Request → Asked → Type 0
Asks r asked = ((code : ℤ) × Refuses r (Some code) × (asked ≡ asks.Refused code)) ⊎ (Refuses r None × AsksPlain r asked)

-- both forms of a request that is not refused: what the store is handed, and what is kept for the reply
pub record Turns (k : EntryKeys) (ivs : List (List ℕ)) (r v : Request) (asked : Asked) : Type 0 where
  pub veiled : Veils k ivs r v
  pub kept : AsksPlain r asked
