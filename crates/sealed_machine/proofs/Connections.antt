-- Connection by connection: the n-th reply answers the n-th thing asked, and every message is the plain one, sealed.
use Rattle.std.proofs.Common.{◌≡◌, ℕ, ℤ, Bool, true, false, cond, List, [], ◌∷◌, ◌++◌, Option, Some, None, refl, sym, ap, subst, ◌∙◌}
use Rattle.std.specs.Prelude.{◌==◌}
use Rattle.path_seal.specs.Sealed.{AreKeys}
use Rattle.payload_seal.specs.declared.keys.EntryKeys.{EntryKeys}
use Rattle.zk_records.specs.declared.connect.ConnectRequest.{ConnectRequest}
use Rattle.zk_records.specs.declared.connect.ConnectResponse.{ConnectResponse}
use Rattle.zk_messages.specs.declared.reply.Reply.{Reply}
use Rattle.reply_rewrite.specs.Admits.{Admits}
use Rattle.counter_enclave.specs.Enclave.{IsSealedName}
use Rattle.tree_state.specs.declared.message.Message.{Message}
use Rattle.tree_state.specs.declared.message.Message.TheVariants as messages
use Rattle.tree_state.specs.declared.message.Output.{Output}
use Rattle.tree_state.specs.declared.session.Given.{Given}
use Rattle.tree_state.specs.State.{State, start, session_of}
use Rattle.tree_state.specs.Trees.{IsNaming}
use Rattle.tree_state.specs.Plain.{plain}
use Rattle.tree_state.specs.Commands.{Command}
use Rattle.tree_state.specs.Changes.{Naming}
use Rattle.tree_state.specs.Step.{Answer, Act, connects, asks as asking, loses, expires, Next, replied, taken, answer_connect, expired, step}
use Rattle.store_side.specs.Out.{outputs, to_connection, out}
unfoldable pub use Rattle.store_side.specs.Follows.{ShowsMessage}
unfoldable pub use Rattle.sealed_machine.specs.Runs.{asked_if, asked_with, asked_in, all_asked}
pub use Rattle.sealed_machine.specs.Runs.{Question}
pub use Rattle.sealed_machine.specs.Runs.{Matches, nothing, seen_event, seen_reply, seen_session, Talks, silent, told_event, told_reply, told_session}
pub use Rattle.store_side.specs.Follows.{Shown}
use Rattle.store_side.proofs.Appended.{to_connection-append}
use Rattle.store_side.proofs.Zipping.{Zips}
use Rattle.sealed_machine.proofs.SealedStates.{IsSealedState}
use Rattle.tree_state.specs.Nodes.{ephemerals}
use Rattle.tree_state.specs.State.{next_zxid}
use Rattle.tree_state.specs.Changes.{all_deleted}
use Rattle.sealed_machine.proofs.SealedStates.{ephemerals_zip}
use Rattle.sealed_machine.proofs.SealedMultis.{all_deleted_sealed}
use Rattle.sealed_machine.proofs.SealedChanges.{OpensEvent, OpensOutput}
use Rattle.sealed_machine.proofs.SealedAnswers.{VeilsCommand, asked_of, SealedAnswer}
use Rattle.sealed_machine.proofs.SealedSteps.{ShowsReply, VeilsAct, answered, reply_opens, next_sealed, step_sealed, start_sealed}

pub Matches-append : (k : EntryKeys) (a b : List Question) (ms ns us vs : List Message) → Matches k a ms ns → Matches k b us vs → Matches k (a ++ b) (ms ++ us) (ns ++ vs)
Matches-append k a b ms ns us vs nothing j = j
Matches-append k a b ms ns us vs (seen_event e f a' ms' ns' s h) j = seen_event e f _ _ _ s (Matches-append k a' b ms' ns' us vs h j)
Matches-append k a b ms ns us vs (seen_reply c r f a' ms' ns' x s h) j = seen_reply c r f _ _ _ x s (Matches-append k a' b ms' ns' us vs h j)
Matches-append k a b ms ns us vs (seen_session r a' ms' ns' h) j = seen_session r _ _ _ (Matches-append k a' b ms' ns' us vs h j)

module _ (k : EntryKeys) (w : AreKeys k.names) where
  event_first : (b c : Bool) (m n : Message) (ms ns : List Message) → b ≡ c → OpensEvent k.names m n → Matches k [] ms ns → Matches k [] (cond b (m ∷ ms) ms) (cond c (n ∷ ns) ns)
  unfolding OpensEvent
  event_first true true (messages.Event e) (messages.Event f) ms ns x s h = seen_event e f [] ms ns s h
  event_first true true (messages.Event e) n ms ns x s h = absurd s
  event_first true true m n ms ns x s h = absurd s
  event_first true false m n ms ns x s h = absurd cc
  event_first false true m n ms ns x s h = absurd cc
  event_first false false m n ms ns x s h = h

  -- events answer nothing, and each opens to the plain one
  pub events_match : (c : ℕ) (os us : List Output) → Zips (OpensOutput k.names) os us → Matches k [] (to_connection c os) (to_connection c us)
  unfolding Zips to_connection
  events_match c [] [] h = nothing
  events_match c [] (u ∷ us) h = absurd h
  events_match c (o ∷ os) [] h = absurd h
  events_match c (o ∷ os) (u ∷ us) h =
      event_first (o.connection == c) (u.connection == c) o.message u.message _ _ (ap (λ (d : ℕ). d == c) h.0.connection) h.0.event (events_match c os us h.1)

  reply_at : (b : Bool) (q : Question) (r f : Reply) → r.xid ≡ q.xid → ((told : Reply) → ShowsReply f told → Admits k q.asked told r None)
      → Matches k (asked_if b q) (cond b (messages.Reply r ∷ []) []) (cond b (messages.Reply f ∷ []) [])
  unfolding asked_if
  reply_at true q r f e h = seen_reply q r f [] [] [] e h nothing
  reply_at false q r f e h = nothing

  session_at : (b : Bool) (r : ConnectResponse) → Matches k [] (cond b (messages.Connected r ∷ []) []) (cond b (messages.Connected r ∷ []) [])
  session_at true r = seen_session r [] [] [] nothing
  session_at false r = nothing

  nothing_zips : Zips (OpensOutput k.names) [] []
  unfolding Zips
  nothing_zips = tt

  to_one : (c d : ℕ) (m : Message) → to_connection c (record { connection = d; message = m } ∷ []) ≡ cond (d == c) (m ∷ []) []
  unfolding to_connection
  to_one c d m = refl

  replied_match : (c d : ℕ) (xid : ℤ) (command : Command) (a b : Answer) → SealedAnswer k command a b
      → Matches k (asked_if (d == c) (record { xid = xid; asked = asked_of command })) (to_connection c (replied d xid a).outputs) (to_connection c (replied d xid b).outputs)
  unfolding replied
  replied_match c d xid command a b h =
      let r : Reply = record { xid = xid; zxid = a.state.last; outcome = a.outcome } in
      let f : Reply = record { xid = xid; zxid = b.state.last; outcome = b.outcome } in
      let m : List Output = record { connection = d; message = messages.Reply r } ∷ [] in
      let n : List Output = record { connection = d; message = messages.Reply f } ∷ [] in
      let ms = to_connection-append c a.events m ∙ ap (λ (l : List Message). to_connection c a.events ++ l) (to_one c d (messages.Reply r)) in
      let ns = to_connection-append c b.events n ∙ ap (λ (l : List Message). to_connection c b.events ++ l) (to_one c d (messages.Reply f)) in
      let both = Matches-append k [] (asked_if (d == c) (record { xid = xid; asked = asked_of command })) _ _ _ _ (events_match c a.events b.events h.events)
      (reply_at (d == c) (record { xid = xid; asked = asked_of command }) r f refl (reply_opens k w command xid a b h)) in
      subst (λ (l : List Message). Matches k (asked_if (d == c) (record { xid = xid; asked = asked_of command })) l (to_connection c (b.events ++ n))) (sym ms)
      (subst (λ (l : List Message). Matches k (asked_if (d == c) (record { xid = xid; asked = asked_of command })) (to_connection c a.events ++ cond (d == c) (messages.Reply r ∷ []) []) l) (sym ns) both)

  module _ (naming : Naming) (names : IsNaming (IsSealedName k.names) naming) where
    taken_match : (c d : ℕ) (xid : ℤ) (a b : Command) (now : ℤ) (s t : State) (o : Option ℤ) → VeilsCommand k a b → IsSealedState k s t
        → Matches k (asked_with c d (record { xid = xid; asked = asked_of a }) o) (to_connection c (taken plain d xid a now s o).outputs) (to_connection c (taken naming d xid b now t o).outputs)
    unfolding taken asked_with
    taken_match c d xid a b now s t None v h = events_match c [] [] nothing_zips
    taken_match c d xid a b now s t (Some session) v h = replied_match c d xid a _ _ (answered k w naming names d a b now session s t v h)

    asks_match : (c d e : ℕ) (x y : ℤ) (a b : Command) (now then_ : ℤ) (s t : State) → d ≡ e → x ≡ y → VeilsCommand k a b → now ≡ then_ → IsSealedState k s t
        → Matches k (asked_with c d (record { xid = x; asked = asked_of a }) (session_of d s.sessions)) (to_connection c (step plain s (asking d x a now)).outputs) (to_connection c (step naming t (asking e y b then_)).outputs)
    unfolding step
    asks_match c d e x y a b now then_ s t i f v g h =
        let goal : taken naming d x b now t (session_of d s.sessions) ≡ taken naming e y b then_ t (session_of e t.sessions) = (λ j. taken naming (i j) (f j) b (g j) t (session_of (i j) (h.sessions j))) in
        subst (λ (n : Next). Matches k (asked_with c d (record { xid = x; asked = asked_of a }) (session_of d s.sessions)) (to_connection c (taken plain d x a now s (session_of d s.sessions)).outputs) (to_connection c n.outputs)) goal
        (taken_match c d x a b now s t (session_of d s.sessions) v h)

    connects_match : (c d : ℕ) (asked : ConnectRequest) (given : Given) (now : ℤ) (s t : State)
        → Matches k [] (to_connection c (step plain s (connects d asked given now)).outputs) (to_connection c (step naming t (connects d asked given now)).outputs)
    unfolding step to_connection answer_connect
    connects_match c d asked given now s t = session_at (d == c) _

    loses_match : (c d : ℕ) (s t : State) → Matches k [] (to_connection c (step plain s (loses d)).outputs) (to_connection c (step naming t (loses d)).outputs)
    unfolding step
    loses_match c d s t = events_match c [] [] nothing_zips

    expires_match : (c : ℕ) (session now : ℤ) (s t : State) → IsSealedState k s t
        → Matches k [] (to_connection c (step plain s (expires session now)).outputs) (to_connection c (step naming t (expires session now)).outputs)
    unfolding step expired
    expires_match c session now s t h =
        let e = all_deleted_sealed k w (next_zxid s) _ _ s t (ephemerals_zip k w session s.nodes t.nodes h.nodes) h in
        subst (λ (z : ℤ). Matches k [] (to_connection c (all_deleted (next_zxid s) (ephemerals session s.nodes) s).events) (to_connection c (all_deleted z (ephemerals session t.nodes) t).events)) (next_sealed k w s t h)
        (events_match c _ _ e.events)

    along : (c : ℕ) (s t : State) (f g : Act) → f ≡ g → Matches k [] (to_connection c (step plain s f).outputs) (to_connection c (step naming t f).outputs)
        → Matches k [] (to_connection c (step plain s f).outputs) (to_connection c (step naming t g).outputs)
    along c s t f g e h = subst (λ (x : Act). Matches k [] (to_connection c (step plain s f).outputs) (to_connection c (step naming t x).outputs)) e h

    -- an act on both sides, as one connection sees it
    pub step_match : (c : ℕ) (s t : State) (f g : Act) → VeilsAct k f g → IsSealedState k s t
        → Matches k (asked_in c s f) (to_connection c (step plain s f).outputs) (to_connection c (step naming t g).outputs)
    unfolding VeilsAct asked_in
    step_match c s t (asking d x a now) (asking e y b then_) v h = asks_match c d e x y a b now then_ s t v.0 v.1 v.2 v.3 h
    step_match c s t (asking d x a now) g v h = absurd v
    step_match c s t (connects d asked given now) g v h = along c s t _ g v (connects_match c d asked given now s t)
    step_match c s t (loses d) g v h = along c s t _ g v (loses_match c d s t)
    step_match c s t (expires session now) g v h = along c s t _ g v (expires_match c session now s t h)

    -- over a run: every reply of the store answers the next thing asked, and opens to the plain one
    pub run_match : (c : ℕ) (fs gs : List Act) (s t : State) → Zips (VeilsAct k) fs gs → IsSealedState k s t
        → Matches k (all_asked c s fs) (to_connection c (outputs plain s fs)) (to_connection c (outputs naming t gs))
    unfolding outputs all_asked Zips
    run_match c [] [] s t v h = events_match c [] [] nothing_zips
    run_match c [] (g ∷ gs) s t v h = absurd v
    run_match c (f ∷ fs) [] s t v h = absurd v
    run_match c (f ∷ fs) (g ∷ gs) s t v h =
        let n = step_sealed k w naming names s t f g v.0 h in
        let j = Matches-append k _ _ _ _ _ _ (step_match c s t f g v.0 h) (run_match c fs gs _ _ v.1 n.state) in
        subst (λ (l : List Message). Matches k (asked_in c s f ++ all_asked c (step plain s f).state fs) l (to_connection c ((step naming t g).outputs ++ outputs naming (step naming t g).state gs))) (sym (to_connection-append c (step plain s f).outputs (outputs plain (step plain s f).state fs)))
        (subst (λ (l : List Message). Matches k (asked_in c s f ++ all_asked c (step plain s f).state fs) (to_connection c (step plain s f).outputs ++ to_connection c (outputs plain (step plain s f).state fs)) l) (sym (to_connection-append c (step naming t g).outputs (outputs naming (step naming t g).state gs))) j)

    -- a run from the start
    pub all_match : (c : ℕ) (fs gs : List Act) → Zips (VeilsAct k) fs gs → Matches k (all_asked c start fs) (out plain fs c) (out naming gs c)
    all_match c fs gs v = run_match c fs gs start start v (start_sealed k)

-- what a store tells in place of its machine's messages
pub all_told : (k : EntryKeys) (asked : List Question) (ms ns told : List Message) → Matches k asked ms ns → Shown ns told → Talks k asked ms told
unfolding Zips ShowsMessage
all_told k asked ms ns [] nothing s = silent
all_told k asked ms ns (t ∷ told) nothing s = absurd s
all_told k asked ms ns [] (seen_event e f a ms' ns' i h) s = absurd s
all_told k asked ms ns (t ∷ told) (seen_event e f a ms' ns' i h) s = subst (λ (x : Message). Talks k a (messages.Event e ∷ ms') (x ∷ told)) (sym s.0) (told_event e f a ms' told i (all_told k a ms' ns' told h s.1))
all_told k asked ms ns [] (seen_reply c r f a ms' ns' x i h) s = absurd s
all_told k asked ms ns (messages.Reply t ∷ told) (seen_reply c r f a ms' ns' x i h) s = told_reply c r t a ms' told x (i t s.0) (all_told k a ms' ns' told h s.1)
all_told k asked ms ns (t ∷ told) (seen_reply c r f a ms' ns' x i h) s = absurd s.0
all_told k asked ms ns [] (seen_session r a ms' ns' h) s = absurd s
all_told k asked ms ns (t ∷ told) (seen_session r a ms' ns' h) s = subst (λ (x : Message). Talks k a (messages.Connected r ∷ ms') (x ∷ told)) (sym s.0) (told_session r a ms' told (all_told k a ms' ns' told h s.1))
