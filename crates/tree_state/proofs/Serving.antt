-- The command of a request is the one of its row, and is answered as the row is.
use Rattle.std.proofs.Common.{◌≡◌, ℕ, ℤ, Bool, true, false, List, [], ◌∷◌, ◌++◌, Option, Some, None, Result, Ok, Err, refl, sym, ap, subst, ◌∙◌}
use Rattle.std.specs.Prelude.{IfOk, IsErrAnd}
use Rattle.jute_core.specs.declared.held.Bytes.{Bytes}
use Rattle.zk_path.specs.Paths.{IsTextOf}
use Rattle.zk_records.specs.declared.create.CreateRequest.{CreateRequest}
use Rattle.zk_records.specs.declared.set_watches.SetWatches.{SetWatches}
use Rattle.zk_messages.specs.declared.request.Op.{Op}
use Rattle.zk_records.specs.declared.node.DeleteRequest.{DeleteRequest}
use Rattle.zk_records.specs.declared.node.PathOnly.{PathOnly}
use Rattle.zk_records.specs.declared.node.SetContentRequest.{SetContentRequest}
use Rattle.zk_records.specs.declared.path_watch.PathWatch.{PathWatch}
use Rattle.zk_records.specs.declared.set_acl.SetAclRequest.{SetAclRequest}
use Rattle.zk_messages.specs.Refuses.{Refuses}
use Rattle.zk_messages.specs.declared.reply.Outcome.{Outcome}
use Rattle.zk_messages.specs.declared.reply.Outcome.TheVariants as outcomes
use Rattle.zk_messages.specs.declared.request.Request.{Request}
use Rattle.zk_messages.specs.declared.request.Request.TheVariants as requests
use Rattle.jute_core.specs.declared.held.Memory.{Memory}
use Rattle.tree_state.specs.declared.held.Held.{Held}
use Rattle.tree_state.specs.declared.node.Moment.{Moment}
use Rattle.tree_state.specs.Nodes.{Path, ephemerals}
use Rattle.tree_state.specs.State.{State, Session, Watch, left_of_others, session_at, without_session}
use Rattle.tree_state.specs.Commands.{Command, Asks, AreTextsOf, single, set_acl, stat_at, get_content, get_acl, get_children, sync, ping, set_watches, close, delete, set_content}
use Rattle.tree_state.specs.Changes.{Naming, perform, deleted, no_effects, all_deleted}
use Rattle.tree_state.specs.Step.{Answer, answer, answer_single, told_only, closed, ended, watches_gone, connection_at}
use Rattle.tree_state.specs.Trees.{Means, Answers, HasRoom, Tells, IsOther}
use Rattle.tree_state.proofs.Answering.{creation}
use Rattle.tree_state.proofs.Alone.{Sent, untold, told_answers}
use Rattle.tree_state.proofs.BelowRoot.{below_root}

-- ---- the command of each request

pub record IsWatchOf (r : PathWatch) (row : Path → Bool → Command) (command : Command) : Type 0 where
  pub path : Path
  pub text : IsTextOf r.path path
  pub is : command ≡ row path r.watch

pub asks_stat : (r : PathWatch) (command : Command) → Asks (requests.Exists r) command → IsWatchOf r stat_at command
unfolding Asks
asks_stat r (stat_at p b) h = record { path = p; text = h.0; is = ap (stat_at p) (sym h.1) }
asks_stat r command h = absurd h

pub asks_content : (r : PathWatch) (command : Command) → Asks (requests.GetContent r) command → IsWatchOf r get_content command
unfolding Asks
asks_content r (get_content p b) h = record { path = p; text = h.0; is = ap (get_content p) (sym h.1) }
asks_content r command h = absurd h

pub asks_names : (r : PathWatch) (command : Command) → Asks (requests.GetChildren r) command → IsWatchOf r (λ p b. get_children p b false) command
unfolding Asks
asks_names r (get_children p b stat) h = record { path = p; text = h.0; is = ap (λ (x : Bool). get_children p x stat) (sym h.1) ∙ ap (λ (x : Bool). get_children p r.watch x) h.2 }
asks_names r command h = absurd h

pub asks_names_stat : (r : PathWatch) (command : Command) → Asks (requests.GetChildren2 r) command → IsWatchOf r (λ p b. get_children p b true) command
unfolding Asks
asks_names_stat r (get_children p b stat) h = record { path = p; text = h.0; is = ap (λ (x : Bool). get_children p x stat) (sym h.1) ∙ ap (λ (x : Bool). get_children p r.watch x) h.2 }
asks_names_stat r command h = absurd h

pub asks_acl : (r : PathOnly) (command : Command) → Asks (requests.GetAcl r) command → (p : Path) × IsTextOf r.path p × (command ≡ get_acl p)
unfolding Asks
asks_acl r (get_acl p) h = (p, h, refl)
asks_acl r command h = absurd h

pub asks_sync : (r : PathOnly) (command : Command) → Asks (requests.Sync r) command → (p : Path) × IsTextOf r.path p × (command ≡ sync p)
unfolding Asks
asks_sync r (sync p) h = (p, h, refl)
asks_sync r command h = absurd h

pub asks_set_acl : (r : SetAclRequest) (command : Command) → Asks (requests.SetAcl r) command → (p : Path) × IsTextOf r.path p × (command ≡ set_acl p r.version)
unfolding Asks
asks_set_acl r (set_acl p v) h = (p, h.0, ap (set_acl p) (sym h.1))
asks_set_acl r command h = absurd h

pub asks_delete : (r : DeleteRequest) (command : Command) → Asks (requests.Delete r) command → (p : Path) × IsTextOf r.path p × (command ≡ single (delete p r.version))
unfolding Asks
asks_delete r (single (delete p v)) h = (p, h.0, ap (λ (x : ℤ). single (delete p x)) (sym h.1))
asks_delete r command h = absurd h

pub asks_set_content : (r : SetContentRequest) (command : Command) → Asks (requests.SetContent r) command → (p : Path) × IsTextOf r.path p × (command ≡ single (set_content p r.content r.version))
unfolding Asks
asks_set_content r (single (set_content p d v)) h =
    (p, h.0, ap (λ (x : ℤ). single (set_content p d x)) (sym h.2) ∙ ap (λ (x : Option (List ℕ)). single (set_content p x r.version)) (sym h.1))
asks_set_content r command h = absurd h

pub asks_ping : (command : Command) → Asks requests.Ping command → command ≡ ping
unfolding Asks
asks_ping ping h = refl
asks_ping command h = absurd h

pub asks_close : (command : Command) → Asks requests.Close command → command ≡ close
unfolding Asks
asks_close close h = refl
asks_close command h = absurd h

pub record IsWatches (r : SetWatches) (command : Command) : Type 0 where
  pub contents : List Path
  pub exist : List Path
  pub childs : List Path
  pub content_texts : AreTextsOf r.content_paths contents
  pub exist_texts : AreTextsOf r.exist_paths exist
  pub child_texts : AreTextsOf r.child_paths childs
  pub is : command ≡ set_watches r.seen contents exist childs

pub asks_watches : (r : SetWatches) (command : Command) → Asks (requests.SetWatches r) command → IsWatches r command
unfolding Asks
asks_watches r (set_watches seen a b d) h = record {
  contents = a;
  exist = b;
  childs = d;
  content_texts = h.1;
  exist_texts = h.2;
  child_texts = h.3;
  is = ap (λ (z : ℤ). set_watches z a b d) (sym h.0);
}
asks_watches r command h = absurd h

-- ---- each request by its row

-- a command is answered so
abbrev pub Row : Naming → Moment → ℕ → State → Held → Sent → Sent → Result Outcome Memory → Command → Type 0
Row naming at c s h before sent result command = Answers s (answer naming at c s command) h before sent result

-- without memory all is as it was
pub out_of_memory : (s : State) (a : Answer) (h after : Held) (before sent : Sent) (result : Result Outcome Memory) (P : Memory → Type 0) → Means h s → after ≡ h → IsErrAnd result P → Answers s a after before sent result
unfolding Answers
out_of_memory s a h after before sent (Ok outcome) P m same e = absurd e
out_of_memory s a h after before sent (Err e) P m same i = subst (λ (x : Held). Means x s) (sym same) m

-- what is told of a path by a call that may lack memory
pub told_row : (row : Path → Command) (text : List ℕ) (naming : Naming) (at : Moment) (c : ℕ) (s : State) (h : Held) (before : Sent) (p : Path) (result : Result Outcome Memory) → Means h s → HasRoom before → IsTextOf text p
    → IfOk result (λ o. (naming' : Naming) (at' : Moment) (c' : ℕ) (s' : State) (p' : Path) → Means h s' → IsTextOf text p' → Tells s' (answer naming' at' c' s' (row p')) o)
    → Row naming at c s h before before result (row p)
unfolding Answers
told_row row text naming at c s h before p (Ok o) m room t f = told_answers s _ h before o m room (f naming at c s p m t)
told_row row text naming at c s h before p (Err e) m room t f = m

-- a request that may ask for a watch
served : (naming : Naming) (at : Moment) (c : ℕ) (s : State) (h : Held) (before sent : Sent) (r : PathWatch) (row : Path → Bool → Command) (command : Command) (result : Result Outcome Memory) → IsWatchOf r row command
    → ((p : Path) → IsTextOf r.path p → Row naming at c s h before sent result (row p r.watch)) → Row naming at c s h before sent result command
served naming at c s h before sent r row command result a t = subst (Row naming at c s h before sent result) (sym a.is) (t a.path a.text)

pub serve_stat : (naming : Naming) (at : Moment) (c : ℕ) (s : State) (h : Held) (before sent : Sent) (r : PathWatch) (command : Command) (result : Result Outcome Memory) → Asks (requests.Exists r) command
    → ((p : Path) → IsTextOf r.path p → Row naming at c s h before sent result (stat_at p r.watch)) → Row naming at c s h before sent result command
serve_stat naming at c s h before sent r command result a t = served naming at c s h before sent r stat_at command result (asks_stat r command a) t

pub serve_content : (naming : Naming) (at : Moment) (c : ℕ) (s : State) (h : Held) (before sent : Sent) (r : PathWatch) (command : Command) (result : Result Outcome Memory) → Asks (requests.GetContent r) command
    → ((p : Path) → IsTextOf r.path p → Row naming at c s h before sent result (get_content p r.watch)) → Row naming at c s h before sent result command
serve_content naming at c s h before sent r command result a t = served naming at c s h before sent r get_content command result (asks_content r command a) t

pub serve_names : (naming : Naming) (at : Moment) (c : ℕ) (s : State) (h : Held) (before sent : Sent) (r : PathWatch) (command : Command) (result : Result Outcome Memory) → Asks (requests.GetChildren r) command
    → ((p : Path) → IsTextOf r.path p → Row naming at c s h before sent result (get_children p r.watch false)) → Row naming at c s h before sent result command
serve_names naming at c s h before sent r command result a t = served naming at c s h before sent r (λ p b. get_children p b false) command result (asks_names r command a) t

pub serve_names_stat : (naming : Naming) (at : Moment) (c : ℕ) (s : State) (h : Held) (before sent : Sent) (r : PathWatch) (command : Command) (result : Result Outcome Memory) → Asks (requests.GetChildren2 r) command
    → ((p : Path) → IsTextOf r.path p → Row naming at c s h before sent result (get_children p r.watch true)) → Row naming at c s h before sent result command
serve_names_stat naming at c s h before sent r command result a t = served naming at c s h before sent r (λ p b. get_children p b true) command result (asks_names_stat r command a) t

pub serve_acl : (naming : Naming) (at : Moment) (c : ℕ) (s : State) (h : Held) (before sent : Sent) (r : PathOnly) (command : Command) (result : Result Outcome Memory) → Asks (requests.GetAcl r) command
    → ((p : Path) → IsTextOf r.path p → Row naming at c s h before sent result (get_acl p)) → Row naming at c s h before sent result command
serve_acl naming at c s h before sent r command result a t =
    let k = asks_acl r command a in
    subst (Row naming at c s h before sent result) (sym k.2) (t k.0 k.1)

pub serve_sync : (naming : Naming) (at : Moment) (c : ℕ) (s : State) (h : Held) (before sent : Sent) (r : PathOnly) (command : Command) (result : Result Outcome Memory) → Asks (requests.Sync r) command
    → ((p : Path) → IsTextOf r.path p → Row naming at c s h before sent result (sync p)) → Row naming at c s h before sent result command
serve_sync naming at c s h before sent r command result a t =
    let k = asks_sync r command a in
    subst (Row naming at c s h before sent result) (sym k.2) (t k.0 k.1)

pub serve_set_acl : (naming : Naming) (at : Moment) (c : ℕ) (s : State) (h : Held) (before sent : Sent) (r : SetAclRequest) (command : Command) (result : Result Outcome Memory) → Asks (requests.SetAcl r) command
    → ((p : Path) → IsTextOf r.path p → Row naming at c s h before sent result (set_acl p r.version)) → Row naming at c s h before sent result command
serve_set_acl naming at c s h before sent r command result a t =
    let k = asks_set_acl r command a in
    subst (Row naming at c s h before sent result) (sym k.2) (t k.0 k.1)

pub serve_ping : (naming : Naming) (at : Moment) (c : ℕ) (s : State) (h : Held) (before : Sent) (command : Command) → Means h s → HasRoom before → Asks requests.Ping command → Row naming at c s h before before (Ok outcomes.Empty) command
unfolding answer Answers told_only
serve_ping naming at c s h before command m room a = subst (Row naming at c s h before before (Ok outcomes.Empty)) (sym (asks_ping command a)) (refl, untold before before [] room refl refl, m)

pub serve_set_content : (naming : Naming) (at : Moment) (c : ℕ) (s : State) (h : Held) (before sent : Sent) (r : SetContentRequest) (command : Command) (result : Result Outcome Memory) → Asks (requests.SetContent r) command
    → ((p : Path) → IsTextOf r.path p → Answers s (answer_single s (perform naming at s (set_content p r.content r.version))) h before sent result) → Row naming at c s h before sent result command
unfolding answer
serve_set_content naming at c s h before sent r command result a t =
    let k = asks_set_content r command a in
    subst (Row naming at c s h before sent result) (sym k.2) (t k.0 k.1)

pub serve_set_watches : (naming : Naming) (at : Moment) (c : ℕ) (s : State) (h : Held) (before sent : Sent) (r : SetWatches) (command : Command) (result : Result Outcome Memory) → Asks (requests.SetWatches r) command
    → ((x y z : List Path) → AreTextsOf r.content_paths x → AreTextsOf r.exist_paths y → AreTextsOf r.child_paths z → Row naming at c s h before sent result (set_watches r.seen x y z)) → Row naming at c s h before sent result command
serve_set_watches naming at c s h before sent r command result a t =
    let k = asks_watches r command a in
    subst (Row naming at c s h before sent result) (sym k.is) (t k.contents k.exist k.childs k.content_texts k.exist_texts k.child_texts)

pub serve_delete : (naming : Naming) (at : Moment) (c : ℕ) (s : State) (h : Held) (before sent : Sent) (r : DeleteRequest) (command : Command) (result : Result Outcome Memory) → Refuses (requests.Delete r) None → Asks (requests.Delete r) command
    → ((n : List ℕ) (p : Path) → IsTextOf r.path (n ∷ p) → Answers s (answer_single s (perform naming at s (delete (n ∷ p) r.version))) h before sent result) → Row naming at c s h before sent result command
unfolding answer Refuses
serve_delete naming at c s h before sent r command result f a t =
    let k = asks_delete r command a in
    let u = below_root r.path k.0 k.1 f in
    subst (Row naming at c s h before sent result) (sym (k.2 ∙ ap (λ (p : Path). single (delete p r.version)) u.2))
    (t u.0 u.1 (subst (IsTextOf r.path) u.2 k.1))

pub synced : (naming : Naming) (at : Moment) (c : ℕ) (s : State) (h : Held) (before : Sent) (p : Path) (text : List ℕ) (result : Result Outcome Memory) → Means h s → HasRoom before → IsTextOf text p
    → IfOk result (λ o. (naming' : Naming) (at' : Moment) (c' : ℕ) (s' : State) (p' : Path) → IsTextOf text p' → Tells s' (answer naming' at' c' s' (sync p')) o)
    → Row naming at c s h before before result (sync p)
unfolding Answers
synced naming at c s h before p text (Ok o) m room t f = told_answers s _ h before o m room (f naming at c s p t)
synced naming at c s h before p text (Err e) m room t f = m

-- ---- close

-- no session goes with the ephemerals
sessions_stay : (z : ℤ) (ps : List Path) (s : State) → (all_deleted z ps s).state.sessions ≡ s.sessions
unfolding all_deleted no_effects deleted
sessions_stay z [] s = refl
sessions_stay z (p ∷ ps) s = sessions_stay z ps (deleted z p s).state

-- the connection that the session has is the one that asks
its_watches : (k : ℤ) (c : ℕ) (x : Session) (xs : List Session) (ws : List Watch) → session_at k xs ≡ Some x → x.connection ≡ Some c → watches_gone (connection_at (session_at k xs)) ws ≡ left_of_others c ws
unfolding watches_gone connection_at
its_watches k c x xs ws live on =
    ap (λ (o : Option Session). watches_gone (connection_at o) ws) live ∙ ap (λ (o : Option ℕ). watches_gone o ws) on

pub ended_closed : (k : ℤ) (c : ℕ) (x : Session) (z : ℤ) (ps : List Path) (s : State) → session_at k s.sessions ≡ Some x → x.connection ≡ Some c
    → ended k (all_deleted z ps s).state ≡ closed k c (all_deleted z ps s).state
unfolding ended closed
ended_closed k c x z ps s live on =
    let u : State = (all_deleted z ps s).state in
    let there : session_at k u.sessions ≡ Some x = ap (session_at k) (sessions_stay z ps s) ∙ live in
    ap (λ (ws : List Watch). record u { sessions = without_session k u.sessions; watches = ws }) (its_watches k c x u.sessions u.watches there on)

-- the session, its connection and its ephemerals go
pub serve_close : (naming : Naming) (at : Moment) (c : ℕ) (s : State) (x : Session) (h : Held) (before sent : Sent) (command : Command) → session_at at.session s.sessions ≡ Some x → x.connection ≡ Some c → Asks requests.Close command
    → Means h (ended at.session (all_deleted at.zxid (ephemerals at.session s.nodes) s).state) → sent.items ≡ before.items ++ (all_deleted at.zxid (ephemerals at.session s.nodes) s).events → HasRoom sent
    → Row naming at c s h before sent (Ok outcomes.Empty) command
unfolding Answers answer
serve_close naming at c s x h before sent command live on a m events room =
    subst (Row naming at c s h before sent (Ok outcomes.Empty)) (sym (asks_close command a))
    (refl, record { items = events; room = room }, subst (Means h) (ended_closed at.session c x at.zxid (ephemerals at.session s.nodes) s live on) m)

-- ---- requests that no row is asked for

pub not_create : (r : Request) (w : Bool) (x : CreateRequest) → r ≡ creation w x → IsOther r → ⊥
unfolding IsOther
not_create r false x e h = subst IsOther e h
not_create r true x e h = subst IsOther e h

pub not_multi : (r : Request) (x : List Op) → r ≡ requests.Multi x → IsOther r → ⊥
unfolding IsOther
not_multi r x e h = subst IsOther e h

none_is_some : {A : Type 0} (a : A) → None ≡ Some a → ⊥
none_is_some a h = absurd cc

pub not_auth : (r : Request) (x : Bytes) → r ≡ requests.Auth x → Refuses r None → ⊥
unfolding Refuses
not_auth r x e h = none_is_some _ (subst (λ (q : Request). Refuses q None) e h)

pub not_unknown : (r : Request) (k : ℤ) (x : Bytes) → r ≡ requests.Unknown k x → Refuses r None → ⊥
unfolding Refuses
not_unknown r k x e h = none_is_some _ (subst (λ (q : Request). Refuses q None) e h)
