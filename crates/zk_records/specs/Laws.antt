-- A body is one connect record, or it is refused with one place and reason.
use Rattle.std.specs.Prelude.{◌≡◌, ℕ, List}
use Rattle.jute_core.specs.declared.cursor.Reason.{Reason}
use Rattle.zk_records.specs.Connect.{SpellsConnect, RefusedConnect, SpellsConnected}
use Rattle.zk_records.specs.declared.connect.ConnectRequest.{ConnectRequest}
use Rattle.zk_records.specs.declared.connect.ConnectResponse.{ConnectResponse}

abbrev pub IsOneRequest : List ℕ → Type 0
IsOneRequest body = (r s : ConnectRequest) → SpellsConnect r body → SpellsConnect s body → r ≡ s

abbrev pub IsRequestOrRefused : List ℕ → Type 0
IsRequestOrRefused body = (r : ConnectRequest) (place : ℕ) (reason : Reason) → SpellsConnect r body → RefusedConnect body place reason → ⊥

abbrev pub HasOneRefusal : List ℕ → Type 0
HasOneRefusal body = (p q : ℕ) (r s : Reason) → RefusedConnect body p r → RefusedConnect body q s → (p ≡ q) × (r ≡ s)

abbrev pub IsOneResponse : List ℕ → Type 0
IsOneResponse body = (r s : ConnectResponse) → SpellsConnected r body → SpellsConnected s body → r ≡ s
