-- What writing a message appends.
use Rattle.std.proofs.Common.{ℕ, List, Result, Ok, Err}
use Rattle.std.specs.Prelude.{OnOk}
use Rattle.jute_core.specs.Jute.{Jute, Value, Spells}
use Rattle.jute_core.specs.Position.{Appends}
use Rattle.jute_core.specs.declared.held.Memory.{Memory}
use Rattle.zk_messages.specs.Sending.{AddsBytes}

-- a value that was appended, as bytes that its spellings are
pub value_added : (r : Result Unit Memory) (old new : List ℕ) (t : Jute) (v : Value t) (Is : List ℕ → Type 0) → ((b : List ℕ) → Spells t v b → Is b) → Appends old new t v r → OnOk r (AddsBytes old new Is)
value_added (Ok x) old new t v Is f p = record { bytes = p.bytes; is = f p.bytes p.spelled; added = p.added }
value_added (Err e) old new t v Is f p = tt
