-- What the plain machine sends to one connection in an act that is no connect of it has no answer to a connect request.
use Rattle.std.proofs.Common.{◌≡◌, ℕ, ℤ, Bool, true, false, cond, List, [], ◌∷◌, ◌++◌, Option, Some, None, sym, subst}
use Rattle.std.specs.Prelude.{◌==◌}
use Rattle.path_seal.specs.Sealed.{AreKeys}
use Rattle.payload_seal.specs.declared.keys.EntryKeys.{EntryKeys}
use Rattle.counter_enclave.specs.Enclave.{IsSealedName}
use Rattle.tree_state.specs.declared.message.Message.{Message}
use Rattle.tree_state.specs.declared.message.Message.TheVariants as messages
use Rattle.tree_state.specs.declared.message.Output.{Output}
use Rattle.tree_state.specs.State.{State, session_of}
use Rattle.tree_state.specs.Trees.{IsNaming}
use Rattle.tree_state.specs.Plain.{plain}
use Rattle.tree_state.specs.Changes.{Naming}
use Rattle.tree_state.specs.Commands.{Command}
use Rattle.zk_messages.specs.declared.reply.Reply.{Reply}
use Rattle.tree_state.specs.State.{next_zxid}
use Rattle.tree_state.specs.Step.{Act, connects, asks as asking, loses, expires, taken, replied, answer_connect, expired, step}
use Rattle.store_side.specs.Out.{to_connection}
use Rattle.sealed_machine.specs.Runs.{HasNoConnected}
use Rattle.store_side.proofs.Zipping.{Zips}
use Rattle.sealed_machine.proofs.SealedStates.{IsSealedState, ephemerals_zip}
use Rattle.sealed_machine.proofs.SealedMultis.{all_deleted_sealed}
use Rattle.sealed_machine.proofs.SealedSteps.{VeilsAct, answered}
use Rattle.store_side.proofs.Appended.{to_connection-append}
use Rattle.store_side.proofs.NoTrace.{first_none, nothing_to}
use Rattle.sealed_machine.proofs.SealedChanges.{OpensEvent, OpensOutput}
use Rattle.sealed_machine.proofs.SealedAnswers.{VeilsCommand}

-- of two lists of messages
pub quiet-append : (a b : List Message) → HasNoConnected a → HasNoConnected b → HasNoConnected (a ++ b)
unfolding HasNoConnected
quiet-append [] b h j = j
quiet-append (messages.Connected r ∷ a) b h j = absurd h
quiet-append (messages.Event e ∷ a) b h j = quiet-append a b h j
quiet-append (messages.Reply r ∷ a) b h j = quiet-append a b h j

quiet_first : (b : Bool) (m : Message) (ms : List Message) → HasNoConnected (m ∷ []) → HasNoConnected ms → HasNoConnected (cond b (m ∷ ms) ms)
quiet_first true m ms h j = quiet-append (m ∷ []) ms h j
quiet_first false m ms h j = j

event_quiet : (k : EntryKeys) (m n : Message) → OpensEvent k.names m n → HasNoConnected (m ∷ [])
unfolding OpensEvent HasNoConnected
event_quiet k (messages.Event e) n h = tt
event_quiet k (messages.Reply r) n h = absurd h
event_quiet k (messages.Connected r) n h = absurd h

events_quiet : (k : EntryKeys) (c : ℕ) (os us : List Output) → Zips (OpensOutput k.names) os us → HasNoConnected (to_connection c os)
unfolding Zips to_connection HasNoConnected
events_quiet k c [] us h = tt
events_quiet k c (o ∷ os) [] h = absurd h
events_quiet k c (o ∷ os) (u ∷ us) h = quiet_first (o.connection == c) o.message (to_connection c os) (event_quiet k o.message u.message h.0.event) (events_quiet k c os us h.1)

nothing_quiet : (c : ℕ) → HasNoConnected (to_connection c [])
unfolding to_connection HasNoConnected
nothing_quiet c = tt

reply_quiet : (c d : ℕ) (r : Reply) → HasNoConnected (to_connection c (record { connection = d; message = messages.Reply r } ∷ []))
unfolding to_connection HasNoConnected
reply_quiet c d r = go (d == c)
  where
    go : (b : Bool) → HasNoConnected (cond b (messages.Reply r ∷ []) [])
    go true = tt
    go false = tt

empty_quiet : HasNoConnected []
unfolding HasNoConnected
empty_quiet = tt

-- no connect request of this connection
unfoldable pub IsNoConnect : ℕ → Act → Type 0
IsNoConnect c (connects d asked given now) = (d == c) ≡ false
IsNoConnect c f = Unit {0}

-- ---- the steps after the connect

module _ (k : EntryKeys) (w : AreKeys k.names) (naming : Naming) (names : IsNaming (IsSealedName k.names) naming) where
  taken_is_quiet : (c d : ℕ) (xid : ℤ) (a b : Command) (now : ℤ) (s t : State) (o : Option ℤ) → VeilsCommand k a b → IsSealedState k s t
      → HasNoConnected (to_connection c (taken plain d xid a now s o).outputs)
  unfolding taken replied
  taken_is_quiet c d xid a b now s t None v h = nothing_quiet c
  taken_is_quiet c d xid a b now s t (Some session) v h =
      let x = answered k w naming names d a b now session s t v h in
      subst HasNoConnected (sym (to_connection-append c _ _)) (quiet-append _ _ (events_quiet k c _ _ x.events) (reply_quiet c d _))

  -- of an act that is no connect of this connection
  pub step_is_quiet : (c : ℕ) (s t : State) (f g : Act) → IsNoConnect c f → VeilsAct k f g → IsSealedState k s t → HasNoConnected (to_connection c (step plain s f).outputs)
  unfolding VeilsAct step IsNoConnect answer_connect expired
  step_is_quiet c s t (asking d xid a now) (asking e y b then_) i v h = taken_is_quiet c d xid a b now s t (session_of d s.sessions) v.2 h
  step_is_quiet c s t (asking d xid a now) g i v h = absurd v
  step_is_quiet c s t (connects d asked given now) g i v h = subst HasNoConnected (sym (first_none c _ [] i (nothing_to c))) (empty_quiet)
  step_is_quiet c s t (loses d) g i v h = nothing_quiet c
  step_is_quiet c s t (expires session now) g i v h =
      let e = all_deleted_sealed k w (next_zxid s) _ _ s t (ephemerals_zip k w session s.nodes t.nodes h.nodes) h in
      events_quiet k c _ _ e.events
