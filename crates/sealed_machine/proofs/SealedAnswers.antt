-- The answers to commands on both sides.
use Rattle.std.proofs.Common.{◌≡◌, ℕ, ℤ, pos, ◌+◌, Bool, false, List, [], ◌∷◌, Option, Some, None, map, refl, sym, ap, subst}
use Rattle.path_seal.specs.Sealed.{AreKeys}
use Rattle.payload_seal.specs.declared.keys.EntryKeys.{EntryKeys}
use Rattle.request_queue.specs.declared.asked.Asked.TheVariants as asks
use Rattle.zk_records.specs.declared.stat.Stat.{Stat}
use Rattle.zk_messages.specs.declared.reply.OpResult.TheVariants as results
use Rattle.zk_messages.specs.declared.reply.Outcome.TheVariants as outcomes
use Rattle.reply_rewrite.specs.Admits.{IsRefused}
use Rattle.reply_rewrite.specs.Stats.{IsPlainStat, IsPlainContent}
use Rattle.counter_enclave.specs.Enclave.{IsSealedName}
use Rattle.tree_state.specs.declared.node.Numbers.{Numbers}
use Rattle.tree_state.specs.declared.node.Moment.{Moment}
use Rattle.tree_state.specs.Nodes.{Path, Node, Place, find, size_of, stat_of}
use Rattle.tree_state.specs.State.{State, Aspect, on_data, on_children, without_session, watching_if}
use Rattle.tree_state.specs.Trees.{IsNaming}
use Rattle.tree_state.specs.Plain.{plain}
use Rattle.tree_state.specs.Commands.{Change, Command, refused, single, multi, set_acl, stat_at, get_content, get_acl, get_children, sync, ping, set_watches, close}
use Rattle.tree_state.specs.Changes.{Trial, failed, done, need, Naming, Effect, Effects, is_at_last, is_other_version, with_acl, no_node, bad_version, system_error}
use Rattle.tree_state.specs.Step.{Answer, with_error, told_only, or_error, answer_single, answer_multi, with_watch, closed, answer}
use Rattle.tree_state.proofs.Found.{apart_changed}
unfoldable pub use Rattle.sealed_machine.specs.Veils.{IsBelow, VeilsCommand, change_asked, asked_of}
unfoldable pub use Rattle.store_side.specs.Follows.{Shows}
pub use Rattle.sealed_machine.specs.Opens.{Opens, SealedAnswer}
use Rattle.store_side.proofs.Zipping.{Zips, zips_none}
use Rattle.sealed_machine.proofs.SealedStates.{Holds, Seals, SealedNode, SealedWatch, IsSealedState, found, Keeps, change_zips, ephemerals_zip, stats, others_zip, watching_if_zips}
use Rattle.sealed_machine.proofs.SealedChanges.{Alike, need_alike, refuse_alike, done_alike, op_asked, OpensOutput, SealedEffect, perform_sealed}
use Rattle.sealed_machine.proofs.SealedMultis.{AlikeAll, perform_all_sealed, all_deleted_sealed}
use Rattle.sealed_machine.proofs.OpenOutcomes.{Shows, error_opens, refused_opens, empty_opens, close_opens, stat_opens, content_opens, acl_opens, sync_opens, multi_opens, failed_plain, done_plain, names_open, single_opens, change_not_refused, children_not_refused}
use Rattle.sealed_machine.proofs.SealedNotices.{set_watches_sealed}

module _ (k : EntryKeys) (w : AreKeys k.names) where
  -- ---- reads

  or_error_alike : (c : Command) (s t : State) (o u : Trial ℤ Answer) → IsSealedState k s t → (IsRefused (asked_of c) → ⊥) → Alike (SealedAnswer k c) o u
      → SealedAnswer k c (or_error s o) (or_error t u)
  unfolding Alike or_error with_error
  or_error_alike c s t (failed a) (failed b) h f g = record { state = h; outcome = subst (λ (x : ℤ). Opens k (asked_of c) (outcomes.Error a) (outcomes.Error x)) g (error_opens k (asked_of c) a f); events = zips_none (OpensOutput k.names) }
  or_error_alike c s t (failed a) (done b) h f g = absurd g
  or_error_alike c s t (done a) (failed b) h f g = absurd g
  or_error_alike c s t (done a) (done b) h f g = g

  watched : (a b : Bool) (r : Aspect) (p q : Path) (c : ℕ) (s t : State) → a ≡ b → Seals k.names p q → IsSealedState k s t → IsSealedState k (with_watch a r p c s) (with_watch b r q c t)
  unfolding with_watch
  watched a b r p q c s t e sp h = record {
    nodes = h.nodes;
    apart = h.apart;
    sessions = h.sessions;
    watches = subst (λ (x : Bool). Zips (SealedWatch k.names) (watching_if a (record { aspect = r; path = p; connection = c }) s.watches) (watching_if x (record { aspect = r; path = q; connection = c }) t.watches)) e
        (watching_if_zips k w a (record { aspect = r; path = p; connection = c }) (record { aspect = r; path = q; connection = c }) (record { aspect = refl; path = sp; connection = refl }) s.watches t.watches h.watches);
    greatest = h.greatest;
    last = h.last;
  }

  stat_sealed : (naming other : Naming) (at : Moment) (c : ℕ) (s t : State) (p q : Path) (a b : Bool) → Seals k.names p q → a ≡ b → IsSealedState k s t
      → SealedAnswer k (stat_at p a) (answer naming at c s (stat_at p a)) (answer other at c t (stat_at q b))
  unfolding answer asked_of told_only
  stat_sealed naming other at c s t p q a b sp e h =
      let R = SealedAnswer k (stat_at p a) in
      let x = watched a b on_data p q c s t e sp h in
      or_error_alike (stat_at p a) _ _ _ _ x (λ f. f) (
      need_alike (SealedNode k p) R (find s.nodes p) (find t.nodes q) no_node _ _ (found k w p q sp s.nodes t.nodes h.nodes) λ n m j.
      done_alike ℤ R _ _ (record { state = x; outcome = stat_opens k p _ _ (stats k w p q n m sp j s.nodes t.nodes h.nodes); events = zips_none (OpensOutput k.names) }))

  plain_content : (p : Path) (d y : Option (List ℕ)) (a b : Stat) → IsBelow p → Holds k.payloads p d y → a.length ≡ pos (size_of d) → IsPlainStat p b a → IsPlainContent k.payloads p y b d a
  unfolding IsBelow Holds size_of
  plain_content [] d y a b f h e j = absurd f
  plain_content (n ∷ p) d None a b f h e j = absurd h
  plain_content (n ∷ p) None (Some payload) a b f h e j = record { accepted = h; stat = j; fits = e }
  plain_content (n ∷ p) (Some c) (Some payload) a b f h e j = record { accepted = h; stat = j; fits = e }

  stat_length : (es : List Place) (p : Path) (n : Node) → (stat_of es p n).length ≡ pos (size_of n.content)
  unfolding stat_of
  stat_length es p n = refl

  content_sealed : (naming other : Naming) (at : Moment) (c : ℕ) (s t : State) (p q : Path) (a b : Bool) → Seals k.names p q → a ≡ b → IsBelow p → IsSealedState k s t
      → SealedAnswer k (get_content p a) (answer naming at c s (get_content p a)) (answer other at c t (get_content q b))
  unfolding answer asked_of told_only
  content_sealed naming other at c s t p q a b sp e below h =
      let R = SealedAnswer k (get_content p a) in
      let x = watched a b on_data p q c s t e sp h in
      or_error_alike (get_content p a) _ _ _ _ h (λ f. f) (
      need_alike (SealedNode k p) R (find s.nodes p) (find t.nodes q) no_node _ _ (found k w p q sp s.nodes t.nodes h.nodes) λ n m j.
      done_alike ℤ R _ _ (record {
        state = x;
        outcome = content_opens k p _ _ _ _ (plain_content p n.content m.content _ _ below j.content (stat_length s.nodes p n) (stats k w p q n m sp j s.nodes t.nodes h.nodes));
        events = zips_none (OpensOutput k.names);
      }))

  acl_sealed : (naming other : Naming) (at : Moment) (c : ℕ) (s t : State) (p q : Path) → Seals k.names p q → IsSealedState k s t
      → SealedAnswer k (get_acl p) (answer naming at c s (get_acl p)) (answer other at c t (get_acl q))
  unfolding answer asked_of told_only
  acl_sealed naming other at c s t p q sp h =
      let R = SealedAnswer k (get_acl p) in
      or_error_alike (get_acl p) _ _ _ _ h (λ f. f) (
      need_alike (SealedNode k p) R (find s.nodes p) (find t.nodes q) no_node _ _ (found k w p q sp s.nodes t.nodes h.nodes) λ n m j.
      done_alike ℤ R _ _ (record { state = h; outcome = acl_opens k p _ _ (stats k w p q n m sp j s.nodes t.nodes h.nodes); events = zips_none (OpensOutput k.names) }))

  children_sealed : (naming other : Naming) (at : Moment) (c : ℕ) (s t : State) (p q : Path) (a b : Bool) (stat : Bool) → Seals k.names p q → a ≡ b → IsSealedState k s t
      → SealedAnswer k (get_children p a stat) (answer naming at c s (get_children p a stat)) (answer other at c t (get_children q b stat))
  unfolding answer told_only
  children_sealed naming other at c s t p q a b stat sp e h =
      let R = SealedAnswer k (get_children p a stat) in
      let x = watched a b on_children p q c s t e sp h in
      or_error_alike (get_children p a stat) _ _ _ _ h (children_not_refused p a stat) (
      need_alike (SealedNode k p) R (find s.nodes p) (find t.nodes q) no_node _ _ (found k w p q sp s.nodes t.nodes h.nodes) λ n m j.
      done_alike ℤ R _ _ (record { state = x; outcome = names_open k w p q a stat s t n m sp h j; events = zips_none (OpensOutput k.names) }))

  -- ---- changes

  with_acl_keeps : (p : Path) → Keeps k w p with_acl with_acl
  unfolding with_acl Keeps
  with_acl_keeps p n m h = record { content = h.content; numbers = (λ i. record (h.numbers i) { aversion = (h.numbers i).aversion + 1 }) }

  with_acl_at : (p : Path) (n m : Node) → SealedNode k p n m → SealedNode k p (with_acl n) (with_acl m)
  unfolding Keeps
  with_acl_at p n m h = with_acl_keeps p n m h

  aversions : (v u : ℤ) (p : Path) (n m : Node) → v ≡ u → SealedNode k p n m → is_other_version v n.numbers.aversion ≡ is_other_version u m.numbers.aversion
  aversions v u p n m e x = let f = x.numbers in cc

  set_acl_sealed : (naming other : Naming) (at : Moment) (c : ℕ) (s t : State) (p q : Path) (v u : ℤ) → Seals k.names p q → v ≡ u → IsSealedState k s t
      → SealedAnswer k (set_acl p v) (answer naming at c s (set_acl p v)) (answer other at c t (set_acl q u))
  unfolding answer asked_of told_only
  set_acl_sealed naming other at c s t p q v u sp e h =
      let R = SealedAnswer k (set_acl p v) in
      or_error_alike (set_acl p v) _ _ _ _ h (λ f. f) (
      need_alike (SealedNode k p) R (find s.nodes p) (find t.nodes q) no_node _ _ (found k w p q sp s.nodes t.nodes h.nodes) λ n m j.
      refuse_alike R _ _ bad_version _ _ (aversions v u p n m e j) (λ o.
      refuse_alike R _ _ system_error _ _ (ap (λ (z : Numbers). is_at_last z.aversion) j.numbers) (λ l.
      done_alike ℤ R _ _ (record {
        state = record { nodes = change_zips k w p q with_acl with_acl sp (with_acl_keeps p) s.nodes t.nodes h.nodes; apart = apart_changed p with_acl s.nodes h.apart; sessions = h.sessions; watches = h.watches; greatest = h.greatest; last = refl };
        outcome = stat_opens k p _ _ (stats k w p q (with_acl n) (with_acl m) sp (with_acl_at p n m j) s.nodes t.nodes h.nodes);
        events = zips_none (OpensOutput k.names);
      }))))

  single_alike : (c : Change) (s t : State) (o u : Trial ℤ Effect) → IsSealedState k s t → Alike (SealedEffect k c) o u → SealedAnswer k (single c) (answer_single s o) (answer_single t u)
  unfolding Alike answer_single with_error asked_of
  single_alike c s t (failed a) (failed b) h g = record { state = h; outcome = subst (λ (x : ℤ). Opens k (change_asked c) (outcomes.Error a) (outcomes.Error x)) g (error_opens k (change_asked c) a (change_not_refused c)); events = zips_none (OpensOutput k.names) }
  single_alike c s t (failed a) (done b) h g = absurd g
  single_alike c s t (done a) (failed b) h g = absurd g
  single_alike c s t (done a) (done b) h g = record { state = g.state; outcome = single_opens k c b.result a.result g.result; events = g.events }

  multi_alike : (cs : List Change) (s t : State) (o u : Trial (List ℤ) Effects) → IsSealedState k s t → AlikeAll k cs o u → SealedAnswer k (multi cs) (answer_multi s o) (answer_multi t u)
  unfolding AlikeAll answer_multi told_only asked_of
  multi_alike cs s t (failed a) (failed b) h g = record {
    state = h;
    outcome = subst (λ (x : List ℤ). Opens k (asks.Multi (map op_asked cs)) (outcomes.Multi (map results.Error a)) (outcomes.Multi (map results.Error x))) g.0 (multi_opens k cs _ _ (failed_plain k cs a g.1));
    events = zips_none (OpensOutput k.names);
  }
  multi_alike cs s t (failed a) (done b) h g = absurd g
  multi_alike cs s t (done a) (failed b) h g = absurd g
  multi_alike cs s t (done a) (done b) h g = record { state = g.state; outcome = multi_opens k cs a.results b.results (done_plain k cs a b g); events = g.events }

  close_sealed : (naming other : Naming) (at : Moment) (c : ℕ) (s t : State) → IsSealedState k s t → SealedAnswer k close (answer naming at c s close) (answer other at c t close)
  unfolding answer closed asked_of
  close_sealed naming other at c s t h =
      let e = all_deleted_sealed k w at.zxid _ _ s t (ephemerals_zip k w at.session s.nodes t.nodes h.nodes) h in
      record {
        state = record { nodes = e.state.nodes; apart = e.state.apart; sessions = ap (without_session at.session) e.state.sessions; watches = others_zip k w c _ _ e.state.watches; greatest = e.state.greatest; last = e.state.last };
        outcome = close_opens k;
        events = e.events;
      }

  -- ---- refused

  still : (a : Aspect) (q : Path) (c : ℕ) (s t : State) → IsSealedState k s t → IsSealedState k s (with_watch false a q c t)
  unfolding with_watch watching_if
  still a q c s t h = record { nodes = h.nodes; apart = h.apart; sessions = h.sessions; watches = h.watches; greatest = h.greatest; last = h.last }

  whatever : (c : ℕ) (s t : State) (code : ℤ) (q : Path) (o : Option Node) → IsSealedState k s t
      → SealedAnswer k (refused code) (with_error s code)
      (or_error (with_watch false on_data q c t) (need o no_node (λ node. done (told_only (with_watch false on_data q c t) (outcomes.Stat (stat_of t.nodes q node))))))
  unfolding or_error need with_error told_only asked_of
  whatever c s t code q None h = record { state = still on_data q c s t h; outcome = refused_opens k code _ tt; events = zips_none (OpensOutput k.names) }
  whatever c s t code q (Some node) h = record { state = still on_data q c s t h; outcome = refused_opens k code _ tt; events = zips_none (OpensOutput k.names) }

  refused_sealed : (naming other : Naming) (at : Moment) (c : ℕ) (s t : State) (code : ℤ) (q : Path) (watch : Bool) → watch ≡ false → IsSealedState k s t
      → SealedAnswer k (refused code) (answer naming at c s (refused code)) (answer other at c t (stat_at q watch))
  unfolding answer
  refused_sealed naming other at c s t code q watch e h =
      subst (λ (b : Bool). SealedAnswer k (refused code) (answer naming at c s (refused code)) (answer other at c t (stat_at q b))) (sym e) (whatever c s t code q (find t.nodes q) h)

  same_stat : (naming other : Naming) (at : Moment) (c : ℕ) (s t : State) (p q : Path) (a b x y : Bool) → x ≡ y
      → SealedAnswer k (get_children p a x) (answer naming at c s (get_children p a x)) (answer other at c t (get_children q b x))
      → SealedAnswer k (get_children p a x) (answer naming at c s (get_children p a x)) (answer other at c t (get_children q b y))
  same_stat naming other at c s t p q a b x y e h = subst (λ (z : Bool). SealedAnswer k (get_children p a x) (answer naming at c s (get_children p a x)) (answer other at c t (get_children q b z))) e h

  -- a command and its sealed form
  pub answer_sealed : (naming : Naming) → IsNaming (IsSealedName k.names) naming → (at : Moment) (c : ℕ) (s t : State) (a b : Command) → VeilsCommand k a b
      → IsSealedState k s t → SealedAnswer k a (answer plain at c s a) (answer naming at c t b)
  unfolding VeilsCommand answer asked_of told_only
  answer_sealed naming names at c s t (refused code) (stat_at q watch) v h = refused_sealed plain naming at c s t code q watch v.1 h
  answer_sealed naming names at c s t (single x) (single y) v h = single_alike x s t _ _ h (perform_sealed k w naming names at s t x y v h)
  answer_sealed naming names at c s t (multi xs) (multi ys) v h = multi_alike xs s t _ _ h (perform_all_sealed k w naming names at xs ys s t v h)
  answer_sealed naming names at c s t (set_acl p v) (set_acl q u) x h = set_acl_sealed plain naming at c s t p q v u x.0 x.1 h
  answer_sealed naming names at c s t (stat_at p a) (stat_at q b) v h = stat_sealed plain naming at c s t p q a b v.0 v.1 h
  answer_sealed naming names at c s t (get_content p a) (get_content q b) v h = content_sealed plain naming at c s t p q a b v.0 v.1 v.2 h
  answer_sealed naming names at c s t (get_acl p) (get_acl q) v h = acl_sealed plain naming at c s t p q v h
  answer_sealed naming names at c s t (get_children p a x) (get_children q b y) v h = same_stat plain naming at c s t p q a b x y v.2 (children_sealed plain naming at c s t p q a b x v.0 v.1 h)
  answer_sealed naming names at c s t (sync p) (sync q) v h = record { state = h; outcome = sync_opens k p q v; events = zips_none (OpensOutput k.names) }
  answer_sealed naming names at c s t ping ping v h = record { state = h; outcome = empty_opens k; events = zips_none (OpensOutput k.names) }
  answer_sealed naming names at c s t (set_watches seen a b d) (set_watches then_ a' b' d') v h = set_watches_sealed k w plain naming at c s t seen then_ a b d a' b' d' v.0 v.1 v.2 v.3 h
  answer_sealed naming names at c s t close close v h = close_sealed plain naming at c s t h
  answer_sealed naming names at c s t a b v h = absurd v
