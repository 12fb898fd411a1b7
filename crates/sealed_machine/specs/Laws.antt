-- Laws of the machine on both sides.
use Rattle.std.specs.Prelude.{◌≡◌, ◌≤◌, ◌↔◌, ℕ, List, length, All}
use Rattle.path_seal.specs.Sealed.{Keys, AreKeys}
use Rattle.payload_seal.specs.declared.keys.EntryKeys.{EntryKeys}
use Rattle.request_queue.specs.declared.asked.Asked.{Asked}
use Rattle.request_rewrite.specs.Asks as kept
use Rattle.request_rewrite.specs.Veil.{Veil}
use Rattle.counter_enclave.specs.Enclave.{IsSealedName}
use Rattle.zk_messages.specs.declared.request.Request.{Request}
use Rattle.tree_state.specs.declared.message.Message.{Message}
use Rattle.tree_state.specs.State.{start}
use Rattle.tree_state.specs.Changes.{Naming}
use Rattle.tree_state.specs.Commands.{Command, IsCommand}
use Rattle.tree_state.specs.Plain.{plain}
use Rattle.tree_state.specs.Step.{Act}
use Rattle.tree_state.specs.Trees.{IsNaming}
use Rattle.store_side.specs.Follows.{Shown}
use Rattle.store_side.specs.Acts.{AreActs}
use Rattle.store_side.specs.Orders.{FitsOutput}
use Rattle.store_side.specs.Out.{outputs, out}
use Rattle.store_side.specs.declared.entry.Entry.{Entry}
use Rattle.store_side.specs.Zips.{Zips}
use Rattle.sealed_machine.specs.Veils.{IsIvOf, VeilsCommand, asked_of}
use Rattle.store_side.specs.Messages.{Messages}
use Rattle.sealed_machine.specs.Runs.{VeilsAct, InStep, Question, AreAnswerable, Talks, all_asked}

-- there is a naming with exactly the names of an enclave
abbrev pub HasSealedNaming : Type 0
HasSealedNaming = (k : Keys) → AreKeys k → (naming : Naming) × IsNaming (IsSealedName k) naming

-- the veiled form of a request asks for the sealed form of what the request asks for
abbrev pub VeilsWhatIsAsked : Type 0
VeilsWhatIsAsked =
    (k : EntryKeys) (ivs : List (List ℕ)) (r v : Request) (a b : Command) → AreKeys k.names → All (IsIvOf k.payloads) ivs
    → Veil k ivs r v → IsCommand r a → IsCommand v b → VeilsCommand k a b

-- what is kept of a request for its reply is what its command asks, and only that
abbrev pub KeepsWhatIsAsked : Type 0
KeepsWhatIsAsked = (r : Request) (a : Command) (asked : Asked) → IsCommand r a → kept.Asks r asked ↔ (asked ≡ asked_of a)

-- where a store with the names of an enclave takes the sealed forms of some acts, its state stays the sealed form of the plain
-- machine's; and what the plain machine sends to a connection stands message by message beside what the store tells it
pub record StaysInStep : Type 0 where
  pub states : (k : EntryKeys) (naming : Naming) (acts sealed_acts : List Act) → AreKeys k.names → IsNaming (IsSealedName k.names) naming
      → Zips (VeilsAct k) acts sealed_acts → InStep k naming start start acts sealed_acts
  pub messages : (k : EntryKeys) (naming : Naming) (acts sealed_acts : List Act) (c : ℕ) (told : List Message) → AreKeys k.names → IsNaming (IsSealedName k.names) naming
      → Zips (VeilsAct k) acts sealed_acts → Shown (out naming sealed_acts c) told → Talks k (all_asked c start acts) (out plain acts c) told

-- where what a store tells can be written, a frame for each message, so can what the plain machine sends, in no more bytes; and
-- then each answer of the plain machine fits a frame
pub record FitsPlain : Type 0 where
  pub messages : (k : EntryKeys) (asked : List Question) (ms told : List Message) (bytes : List ℕ) → AreKeys k.names → AreAnswerable asked
      → Talks k asked ms told → Messages told bytes → (plain_bytes : List ℕ) × Messages ms plain_bytes × (length plain_bytes ≤ length bytes)
  pub answers : (k : EntryKeys) (naming : Naming) (order : List Entry) (acts sealed_acts : List Act) (told : ℕ → List Message) (bytes : ℕ → List ℕ) → AreKeys k.names
      → IsNaming (IsSealedName k.names) naming
      → AreActs order acts → Zips (VeilsAct k) acts sealed_acts → ((c : ℕ) → Shown (out naming sealed_acts c) (told c)) → ((c : ℕ) → Messages (told c) (bytes c))
      → All FitsOutput (outputs plain start acts)
