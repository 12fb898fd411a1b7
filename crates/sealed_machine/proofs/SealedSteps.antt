-- The step on both sides, and the run.
use Rattle.std.proofs.Common.{◌≡◌, ℕ, ℤ, pos, List, [], ◌∷◌, Option, Some, None, map, refl, sym, ap, subst, ◌∙◌}
use Rattle.std.specs.Prelude.{◌+ℤ◌}
use Rattle.std.specs.Ordering.{int_eq}
use Rattle.path_seal.specs.Sealed.{AreKeys}
use Rattle.payload_seal.specs.declared.keys.EntryKeys.{EntryKeys}
use Rattle.request_queue.specs.declared.asked.Asked.{Asked}
use Rattle.request_queue.specs.declared.asked.Asked.TheVariants as asks
use Rattle.zk_records.specs.declared.connect.ConnectRequest.{ConnectRequest}
use Rattle.zk_messages.specs.declared.reply.Reply.{Reply}
use Rattle.reply_rewrite.specs.Admits.{Admits}
use Rattle.counter_enclave.specs.Enclave.{IsSealedName}
use Rattle.tree_state.specs.declared.message.Message.{Message}
use Rattle.tree_state.specs.declared.message.Message.TheVariants as messages
use Rattle.tree_state.specs.declared.message.Output.{Output}
use Rattle.tree_state.specs.declared.session.Given.{Given}
use Rattle.tree_state.specs.Nodes.{ephemerals}
use Rattle.tree_state.specs.State.{State, Session, Watch, start, start_at, next_zxid, session_of, session_at, change_session, heard_at, without_session, without_connection}
use Rattle.tree_state.specs.Places.{IsApart}
use Rattle.tree_state.specs.Nodes.{is_there}
use Rattle.tree_state.specs.Trees.{IsNaming}
use Rattle.tree_state.specs.Plain.{plain}
use Rattle.tree_state.specs.Commands.{Command}
use Rattle.tree_state.specs.Changes.{Naming, all_deleted}
use Rattle.tree_state.specs.Step.{Answer, answer, Act, connects, asks as asking, loses, expires, Next, hears, replied, taken, with_session, with_moved, connected_at, connected, answer_connect, watches_gone, connection_at, ended, lost, expired, step}
unfoldable pub use Rattle.sealed_machine.specs.Opens.{OpensMessage}
pub use Rattle.store_side.specs.Follows.{ShowsReply}
pub use Rattle.sealed_machine.specs.Opens.{Answers, SealedNext}
unfoldable pub use Rattle.sealed_machine.specs.Runs.{VeilsAct, act_asked, InStep}
use Rattle.store_side.proofs.Zipping.{Zips, zips_none, zips_one, zips_append, choose}
use Rattle.sealed_machine.proofs.SealedPaths.{root_seals}
use Rattle.sealed_machine.proofs.SealedStates.{Holds, SealedWatch, IsSealedState, ephemerals_zip, others_zip}
use Rattle.sealed_machine.proofs.SealedChanges.{OpensEvent, OpensOutput, SealedEffects}
use Rattle.sealed_machine.proofs.SealedMultis.{all_deleted_sealed}
use Rattle.sealed_machine.proofs.SealedAnswers.{VeilsCommand, asked_of, SealedAnswer, answer_sealed}

module _ (k : EntryKeys) (w : AreKeys k.names) where
  an_event : (a : Asked) (m n : Message) → OpensEvent k.names m n → OpensMessage k a m n
  unfolding OpensEvent OpensMessage
  an_event a (messages.Event x) (messages.Event y) h = h
  an_event a (messages.Event x) n h = absurd h
  an_event a m n h = absurd h

  -- events answer nothing
  pub all_events : (a : Asked) (os us : List Output) → Zips (OpensOutput k.names) os us → Zips (Answers k a) os us
  unfolding Zips
  all_events a [] [] h = tt
  all_events a [] (u ∷ us) h = absurd h
  all_events a (o ∷ os) [] h = absurd h
  all_events a (o ∷ os) (u ∷ us) h = (record { connection = h.0.connection; message = an_event a o.message u.message h.0.event }, all_events a os us h.1)

  -- whatever a store tells of its reply, the plain reply is admitted in its place
  pub reply_opens : (c : Command) (xid : ℤ) (a b : Answer) → SealedAnswer k c a b → (told : Reply) → ShowsReply (record { xid = xid; zxid = b.state.last; outcome = b.outcome }) told
      → Admits k (asked_of c) told (record { xid = xid; zxid = a.state.last; outcome = a.outcome }) None
  reply_opens c xid a b h told s = let o = h.outcome told.outcome s.outcome in
      record { shaped = o.shaped; same_xid = sym s.same_xid; same_zxid = h.state.last ∙ sym s.same_zxid; outcome = o.admitted }

  -- a reply behind the events of its command
  pub replied_sealed : (command : Command) (c : ℕ) (xid : ℤ) (a b : Answer) → SealedAnswer k command a b → SealedNext k (asked_of command) (replied c xid a) (replied c xid b)
  unfolding replied OpensMessage
  replied_sealed command c xid a b h = record {
    state = h.state;
    outputs = zips_append (Answers k (asked_of command)) _ _ _ _ (all_events (asked_of command) a.events b.events h.events)
        (zips_one (Answers k (asked_of command)) _ _ (record { connection = refl; message = reply_opens command xid a b h }));
  }

  -- a session is heard
  pub hears_sealed : (session now : ℤ) (s t : State) → IsSealedState k s t → IsSealedState k (hears session now s) (hears session now t)
  unfolding hears
  hears_sealed session now s t h = record { nodes = h.nodes; apart = h.apart; sessions = ap (change_session session (heard_at now)) h.sessions; watches = h.watches; greatest = h.greatest; last = h.last }

  -- the next zxid is the same
  pub next_sealed : (s t : State) → IsSealedState k s t → next_zxid s ≡ next_zxid t
  unfolding next_zxid
  next_sealed s t h = ap (λ (l : ℤ). l +ℤ pos 1) h.last

  module _ (naming : Naming) (names : IsNaming (IsSealedName k.names) naming) where
    -- what a command does in a session
    pub answered : (c : ℕ) (a b : Command) (now session : ℤ) (s t : State) → VeilsCommand k a b → IsSealedState k s t
        → SealedAnswer k a (answer plain (record { zxid = next_zxid s; time = now; session = session }) c (hears session now s) a) (answer naming (record { zxid = next_zxid t; time = now; session = session }) c (hears session now t) b)
    answered c a b now session s t v h =
        subst (λ (z : ℤ). SealedAnswer k a (answer plain (record { zxid = next_zxid s; time = now; session = session }) c (hears session now s) a) (answer naming (record { zxid = z; time = now; session = session }) c (hears session now t) b)) (next_sealed s t h)
        (answer_sealed k w naming names (record { zxid = next_zxid s; time = now; session = session }) c _ _ a b v (hears_sealed session now s t h))

    -- a request is answered in a session, and else dropped
    pub taken_sealed : (c : ℕ) (xid : ℤ) (a b : Command) (now : ℤ) (s t : State) (o : Option ℤ) → VeilsCommand k a b → IsSealedState k s t
        → SealedNext k (asked_of a) (taken plain c xid a now s o) (taken naming c xid b now t o)
    unfolding taken
    taken_sealed c xid a b now s t None v h = record { state = h; outputs = zips_none (Answers k (asked_of a)) }
    taken_sealed c xid a b now s t (Some session) v h = replied_sealed a c xid _ _ (answered c a b now session s t v h)

    asks_sealed : (c d : ℕ) (x y : ℤ) (a b : Command) (now then_ : ℤ) (s t : State) → c ≡ d → x ≡ y → VeilsCommand k a b → now ≡ then_ → IsSealedState k s t
        → SealedNext k (asked_of a) (step plain s (asking c x a now)) (step naming t (asking d y b then_))
    unfolding step
    asks_sealed c d x y a b now then_ s t e f v g h =
        let goal : taken naming c x b now t (session_of c s.sessions) ≡ taken naming d y b then_ t (session_of d t.sessions) = (λ i. taken naming (e i) (f i) b (g i) t (session_of (e i) (h.sessions i))) in
        subst (λ (n : Next). SealedNext k (asked_of a) (taken plain c x a now s (session_of c s.sessions)) n) goal (taken_sealed c x a b now s t (session_of c s.sessions) v h)

    connected_at_sealed : (o : Option Session) (given : Given) (now : ℤ) (c : ℕ) (s t : State) → IsSealedState k s t
        → IsSealedState k (connected_at o given now c s) (connected_at o given now c t)
    unfolding connected_at
    connected_at_sealed None given now c s t h = record { nodes = h.nodes; apart = h.apart; sessions = ap (with_session given now c) h.sessions; watches = h.watches; greatest = refl; last = next_sealed s t h }
    connected_at_sealed (Some x) given now c s t h = record { nodes = h.nodes; apart = h.apart; sessions = ap (with_moved given now c) h.sessions; watches = h.watches; greatest = h.greatest; last = next_sealed s t h }

    connected_sealed : (given : Given) (now : ℤ) (c : ℕ) (s t : State) → IsSealedState k s t → IsSealedState k (connected given now c s) (connected given now c t)
    unfolding connected
    connected_sealed given now c s t h =
        choose (IsSealedState k) (int_eq given.session (pos 0)) (int_eq given.session (pos 0)) s _ t _ refl (λ x. h)
        (λ x. subst (λ (o : Option Session). IsSealedState k (connected_at (session_at given.session s.sessions) given now c s) (connected_at o given now c t)) (ap (session_at given.session) h.sessions)
        (connected_at_sealed (session_at given.session s.sessions) given now c s t h))

    gone_each : (o : Option ℕ) (us vs : List Watch) → Zips (SealedWatch k.names) us vs → Zips (SealedWatch k.names) (watches_gone o us) (watches_gone o vs)
    unfolding watches_gone
    gone_each None us vs h = h
    gone_each (Some c) us vs h = others_zip k w c us vs h

    ended_sealed : (session : ℤ) (s t : State) → IsSealedState k s t → IsSealedState k (ended session s) (ended session t)
    unfolding ended
    ended_sealed session s t h = record {
      nodes = h.nodes;
      apart = h.apart;
      sessions = ap (without_session session) h.sessions;
      watches = subst (λ (o : Option ℕ). Zips (SealedWatch k.names) (watches_gone (connection_at (session_at session s.sessions)) s.watches) (watches_gone o t.watches))
          (ap (λ (xs : List Session). connection_at (session_at session xs)) h.sessions) (gone_each (connection_at (session_at session s.sessions)) s.watches t.watches h.watches);
      greatest = h.greatest;
      last = h.last;
    }

    expired_sealed : (a : Asked) (session : ℤ) (s t : State) → IsSealedState k s t → SealedNext k a (expired session s) (expired session t)
    unfolding expired
    expired_sealed a session s t h =
        let e = all_deleted_sealed k w (next_zxid s) _ _ s t (ephemerals_zip k w session s.nodes t.nodes h.nodes) h in
        let m : SealedEffects k [] (all_deleted (next_zxid s) (ephemerals session s.nodes) s) (all_deleted (next_zxid t) (ephemerals session t.nodes) t) =
        subst (λ (z : ℤ). SealedEffects k [] (all_deleted (next_zxid s) (ephemerals session s.nodes) s) (all_deleted z (ephemerals session t.nodes) t)) (next_sealed s t h) e in
        record { state = ended_sealed session _ _ m.state; outputs = all_events a _ _ m.events }

    lost_sealed : (c : ℕ) (s t : State) → IsSealedState k s t → IsSealedState k (lost c s) (lost c t)
    unfolding lost
    lost_sealed c s t h = record { nodes = h.nodes; apart = h.apart; sessions = ap (λ (xs : List Session). map (without_connection c) xs) h.sessions; watches = others_zip k w c s.watches t.watches h.watches; greatest = h.greatest; last = h.last }

    connects_sealed : (a : Asked) (c : ℕ) (asked : ConnectRequest) (given : Given) (now : ℤ) (s t : State) → IsSealedState k s t
        → SealedNext k a (step plain s (connects c asked given now)) (step naming t (connects c asked given now))
    unfolding step answer_connect OpensMessage
    connects_sealed a c asked given now s t h = record { state = connected_sealed given now c s t h; outputs = zips_one (Answers k a) _ _ (record { connection = refl; message = refl }) }

    loses_sealed : (a : Asked) (c : ℕ) (s t : State) → IsSealedState k s t → SealedNext k a (step plain s (loses c)) (step naming t (loses c))
    unfolding step
    loses_sealed a c s t h = record { state = lost_sealed c s t h; outputs = zips_none (Answers k a) }

    expires_sealed : (a : Asked) (session now : ℤ) (s t : State) → IsSealedState k s t → SealedNext k a (step plain s (expires session now)) (step naming t (expires session now))
    unfolding step
    expires_sealed a session now s t h = expired_sealed a session s t h

    along : (a : Asked) (s t : State) (f g : Act) → f ≡ g → SealedNext k a (step plain s f) (step naming t f) → SealedNext k a (step plain s f) (step naming t g)
    along a s t f g e h = subst (λ (x : Act). SealedNext k a (step plain s f) (step naming t x)) e h

    -- an act and its sealed form
    pub step_sealed : (s t : State) (f g : Act) → VeilsAct k f g → IsSealedState k s t → SealedNext k (act_asked f) (step plain s f) (step naming t g)
    unfolding VeilsAct act_asked
    step_sealed s t (asking c x a now) (asking d y b then_) v h = asks_sealed c d x y a b now then_ s t v.0 v.1 v.2 v.3 h
    step_sealed s t (asking c x a now) g v h = absurd v
    step_sealed s t (connects c asked given now) g v h = along asks.Empty s t _ g v (connects_sealed asks.Empty c asked given now s t h)
    step_sealed s t (loses c) g v h = along asks.Empty s t _ g v (loses_sealed asks.Empty c s t h)
    step_sealed s t (expires session now) g v h = along asks.Empty s t _ g v (expires_sealed asks.Empty session now s t h)

    -- the two runs stay in step
    pub run_sealed : (fs gs : List Act) (s t : State) → Zips (VeilsAct k) fs gs → IsSealedState k s t → InStep k naming s t fs gs
    unfolding InStep Zips
    run_sealed [] [] s t v h = h
    run_sealed [] (g ∷ gs) s t v h = absurd v
    run_sealed (f ∷ fs) [] s t v h = absurd v
    run_sealed (f ∷ fs) (g ∷ gs) s t v h = let n = step_sealed s t f g v.0 h in (n, run_sealed fs gs _ _ v.1 n.state)

-- the start is sealed to itself
pub start_sealed : (k : EntryKeys) → IsSealedState k start start
unfolding start_at Zips Holds IsApart is_there
start_sealed k = record { nodes = (record { path = root_seals k.names; node = record { content = (refl, refl); numbers = refl } }, tt); apart = (refl, tt); sessions = refl; watches = tt; greatest = refl; last = refl }
