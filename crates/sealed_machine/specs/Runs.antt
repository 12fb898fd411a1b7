-- Runs on both sides, act by act, and what they send to one connection.
use Rattle.std.specs.Int.{w32}
use Rattle.std.specs.Int.RustNames.{FitsSigned}
use Rattle.std.specs.Prelude.{◌≡◌, ◌≢◌, ℕ, ℤ, pos, List, [], ◌∷◌, ◌++◌, ◌==◌, Bool, true, false, Option, Some, None}
use Rattle.payload_seal.specs.declared.keys.EntryKeys.{EntryKeys}
use Rattle.request_queue.specs.declared.asked.Asked.{Asked}
use Rattle.request_queue.specs.declared.asked.Asked.TheVariants as asks
use Rattle.zk_records.specs.declared.connect.ConnectResponse.{ConnectResponse}
use Rattle.zk_messages.specs.declared.reply.Event.{Event}
use Rattle.zk_messages.specs.declared.reply.Reply.{Reply}
use Rattle.reply_rewrite.specs.Admits.{Admits}
use Rattle.watch_rewrite.specs.Events.{IsPlainEvent}
use Rattle.tree_state.specs.declared.message.Message.{Message}
use Rattle.tree_state.specs.declared.message.Message.TheVariants as messages
use Rattle.tree_state.specs.State.{State, session_of}
use Rattle.tree_state.specs.Changes.{Naming}
use Rattle.tree_state.specs.Step.{Act, asks as asking, step}
use Rattle.tree_state.specs.Plain.{plain}
use Rattle.sealed_machine.specs.Seals.{IsSealedState}
use Rattle.sealed_machine.specs.Veils.{VeilsCommand, asked_of}
use Rattle.store_side.specs.Follows.{ShowsReply}
use Rattle.sealed_machine.specs.Opens.{SealedNext}

-- a request goes on veiled, and all else is the same
unfoldable pub VeilsAct : EntryKeys → Act → Act → Type 0
VeilsAct k (asking c xid a now) (asking d other b then_) = (c ≡ d) × (xid ≡ other) × VeilsCommand k a b × (now ≡ then_)
VeilsAct k (asking c xid a now) g = ⊥
VeilsAct k f g = f ≡ g

-- what a reply of the act answers; an act that is no request has none
unfoldable pub act_asked : Act → Asked
act_asked (asking c xid a now) = asked_of a
act_asked f = asks.Empty

-- act by act both sides stay in step
unfoldable pub InStep : EntryKeys → Naming → State → State → List Act → List Act → Type 0
InStep k naming s t [] [] = IsSealedState k s t
InStep k naming s t [] (g ∷ gs) = ⊥
InStep k naming s t (f ∷ fs) [] = ⊥
InStep k naming s t (f ∷ fs) (g ∷ gs) =
    SealedNext k (act_asked f) (step plain s f) (step naming t g) × InStep k naming (step plain s f).state (step naming t g).state fs gs

-- ---- one connection

-- what a reply answers: with which xid it was asked, and what
pub record Question : Type 0 where
  pub xid : ℤ
  pub asked : Asked

-- a refusal's code can stand in a reply: it is an int, and not 0
unfoldable pub IsAnswerable : Asked → Type 0
IsAnswerable (asks.Refused code) = (code ≢ pos 0) × FitsSigned w32 code
IsAnswerable asked = Unit {0}

unfoldable pub AreAnswerable : List Question → Type 0
AreAnswerable [] = Unit {0}
AreAnswerable (q ∷ questions) = IsAnswerable q.asked × AreAnswerable questions

unfoldable pub asked_if : Bool → Question → List Question
asked_if true q = q ∷ []
asked_if false q = []

unfoldable pub asked_with : ℕ → ℕ → Question → Option ℤ → List Question
asked_with c d q None = []
asked_with c d q (Some session) = asked_if (d == c) q

-- what the connection asks in the act; only what is asked in a session is answered
unfoldable pub asked_in : ℕ → State → Act → List Question
asked_in c s (asking d xid a now) = asked_with c d (record { xid = xid; asked = asked_of a }) (session_of d s.sessions)
asked_in c s f = []

-- all that the connection asks in a run
unfoldable pub all_asked : ℕ → State → List Act → List Question
all_asked c s [] = []
all_asked c s (f ∷ fs) = asked_in c s f ++ all_asked c (step plain s f).state fs

-- the plain messages, and those of the store's machine: each event opens to the plain one, and the n-th reply answers the n-th
-- thing asked: a client is told the plain reply, in whatever order the store tells the names of a child list
pub data Matches (k : EntryKeys) : List Question → List Message → List Message → Type 0 where
  nothing : Matches k [] [] []
  seen_event : (e f : Event) (asked : List Question) (ms ns : List Message) → IsPlainEvent k.names f e → Matches k asked ms ns
      → Matches k asked (messages.Event e ∷ ms) (messages.Event f ∷ ns)
  seen_reply : (q : Question) (r f : Reply) (asked : List Question) (ms ns : List Message) → r.xid ≡ q.xid
      → ((told : Reply) → ShowsReply f told → Admits k q.asked told r None) → Matches k asked ms ns
      → Matches k (q ∷ asked) (messages.Reply r ∷ ms) (messages.Reply f ∷ ns)
  seen_session : (r : ConnectResponse) (asked : List Question) (ms ns : List Message) → Matches k asked ms ns
      → Matches k asked (messages.Connected r ∷ ms) (messages.Connected r ∷ ns)

-- the same of what the store tells in place of its machine's messages
pub data Talks (k : EntryKeys) : List Question → List Message → List Message → Type 0 where
  silent : Talks k [] [] []
  told_event : (e f : Event) (asked : List Question) (ms ns : List Message) → IsPlainEvent k.names f e → Talks k asked ms ns
      → Talks k asked (messages.Event e ∷ ms) (messages.Event f ∷ ns)
  told_reply : (q : Question) (r f : Reply) (asked : List Question) (ms ns : List Message) → r.xid ≡ q.xid → Admits k q.asked f r None → Talks k asked ms ns
      → Talks k (q ∷ asked) (messages.Reply r ∷ ms) (messages.Reply f ∷ ns)
  told_session : (r : ConnectResponse) (asked : List Question) (ms ns : List Message) → Talks k asked ms ns
      → Talks k asked (messages.Connected r ∷ ms) (messages.Connected r ∷ ns)

-- no answer to a connect request is among them
unfoldable pub HasNoConnected : List Message → Type 0
HasNoConnected [] = Unit {0}
HasNoConnected (messages.Connected r ∷ ms) = ⊥
HasNoConnected (messages.Event e ∷ ms) = HasNoConnected ms
HasNoConnected (messages.Reply r ∷ ms) = HasNoConnected ms
