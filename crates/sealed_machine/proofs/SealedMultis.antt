-- Several changes on both sides, and nodes that go.
use Rattle.std.proofs.Common.{◌≡◌, suc, ℤ, pos, true, false, List, [], ◌∷◌, length, map, refl, ap, arith}
use Rattle.path_seal.specs.Sealed.{Keys, AreKeys}
use Rattle.payload_seal.specs.declared.keys.EntryKeys.{EntryKeys}
use Rattle.request_queue.specs.declared.asked.AskedOp.{AskedOp}
use Rattle.request_queue.specs.declared.asked.AskedOp.TheVariants as op_asks
use Rattle.zk_messages.specs.declared.reply.OpResult.{OpResult}
use Rattle.zk_messages.specs.declared.reply.OpResult.TheVariants as results
use Rattle.reply_rewrite.specs.Results.{is_failed, IsPlainResult, ArePlainResults}
use Rattle.counter_enclave.specs.Enclave.{IsSealedName}
use Rattle.tree_state.specs.declared.node.Moment.{Moment}
use Rattle.tree_state.specs.Nodes.{Path}
use Rattle.tree_state.specs.State.{State}
use Rattle.tree_state.specs.Trees.{IsNaming}
use Rattle.tree_state.specs.Plain.{plain}
use Rattle.tree_state.specs.Commands.{Change}
use Rattle.tree_state.specs.Changes.{Trial, failed, done, Naming, Effect, Effects, no_effects, after_effect, or_failed, perform_all, all_deleted, runtime_inconsistency}
use Rattle.store_side.proofs.Zipping.{Zips, zips_append}
use Rattle.sealed_machine.proofs.SealedStates.{Seals, IsSealedState}
use Rattle.sealed_machine.proofs.SealedChanges.{Alike, VeilsChange, op_asked, OpensOutput, SealedEffect, SealedEffects, perform_sealed, deleted_sealed}

-- the codes of a multi that failed, one for each change, or what was done
unfoldable pub AlikeAll : EntryKeys → List Change → Trial (List ℤ) Effects → Trial (List ℤ) Effects → Type 0
AlikeAll k cs (failed a) (failed b) = (a ≡ b) × (length a ≡ length cs)
AlikeAll k cs (failed a) (done f) = ⊥
AlikeAll k cs (done e) (failed b) = ⊥
AlikeAll k cs (done e) (done f) = SealedEffects k cs e f

module _ (k : EntryKeys) (w : AreKeys k.names) where
  after_alike : (c : Change) (cs : List Change) (e f : Effect) (o u : Trial (List ℤ) Effects) → SealedEffect k c e f → AlikeAll k cs o u
      → AlikeAll k (c ∷ cs) (after_effect e o) (after_effect f u)
  unfolding AlikeAll after_effect ArePlainResults
  after_alike c cs e f (failed a) (failed b) h g = (ap (λ (x : List ℤ). pos 0 ∷ x) g.0, ap suc g.1)
  after_alike c cs e f (failed a) (done b) h g = absurd g
  after_alike c cs e f (done a) (failed b) h g = absurd g
  after_alike c cs e f (done a) (done b) h g = record {
    state = g.state;
    results = (h.result, g.results);
    events = zips_append (OpensOutput k.names) _ _ _ _ h.events g.events;
  }

  same_rest : (cs ds : List Change) → Zips (VeilsChange k) cs ds → map (λ _. runtime_inconsistency) cs ≡ map (λ _. runtime_inconsistency) ds
  unfolding Zips
  same_rest [] [] h = refl
  same_rest [] (d ∷ ds) h = absurd h
  same_rest (c ∷ cs) [] h = absurd h
  same_rest (c ∷ cs) (d ∷ ds) h = ap (λ (l : List ℤ). runtime_inconsistency ∷ l) (same_rest cs ds h.1)

  rest_length : (cs : List Change) → length (map (λ _. runtime_inconsistency) cs) ≡ length cs
  rest_length [] = refl
  rest_length (c ∷ cs) = ap suc (rest_length cs)

  or_failed_alike : (c : Change) (cs ds : List Change) (o u : Trial ℤ Effect) (f g : Effect → Trial (List ℤ) Effects) → Zips (VeilsChange k) cs ds
      → Alike (SealedEffect k c) o u → ((x y : Effect) → SealedEffect k c x y → AlikeAll k cs (f x) (g y))
      → AlikeAll k (c ∷ cs) (or_failed o cs f) (or_failed u ds g)
  unfolding Alike or_failed AlikeAll
  or_failed_alike c cs ds (failed a) (failed b) f g z h j = ((λ i. h i ∷ same_rest cs ds z i), ap suc (rest_length cs))
  or_failed_alike c cs ds (failed a) (done b) f g z h j = absurd h
  or_failed_alike c cs ds (done a) (failed b) f g z h j = absurd h
  or_failed_alike c cs ds (done a) (done b) f g z h j = after_alike c cs a b (f a) (g b) h (j a b h)

  nothing_done : (at : Moment) (s t : State) → IsSealedState k s t → AlikeAll k [] (done (no_effects (record s { last = at.zxid }))) (done (no_effects (record t { last = at.zxid })))
  unfolding AlikeAll no_effects ArePlainResults Zips
  nothing_done at s t h = record {
    state = record { nodes = h.nodes; apart = h.apart; sessions = h.sessions; watches = h.watches; greatest = h.greatest; last = refl };
    results = tt;
    events = tt;
  }

  -- the changes of a multi, one after another, or the codes of those that were not done
  pub perform_all_sealed : (naming : Naming) → IsNaming (IsSealedName k.names) naming → (at : Moment) (cs ds : List Change) (s t : State) → Zips (VeilsChange k) cs ds → IsSealedState k s t
      → AlikeAll k cs (perform_all plain at s cs) (perform_all naming at t ds)
  unfolding perform_all Zips
  perform_all_sealed naming names at [] [] s t z h = nothing_done at s t h
  perform_all_sealed naming names at [] (d ∷ ds) s t z h = absurd z
  perform_all_sealed naming names at (c ∷ cs) [] s t z h = absurd z
  perform_all_sealed naming names at (c ∷ cs) (d ∷ ds) s t z h =
      or_failed_alike c cs ds _ _ _ _ z.1 (perform_sealed k w naming names at s t c d z.0 h) (λ e f x. perform_all_sealed naming names at cs ds e.state f.state z.1 x.state)

  -- nodes that go, one after another
  pub all_deleted_sealed : (z : ℤ) (ps qs : List Path) (s t : State) → Zips (Seals k.names) ps qs → IsSealedState k s t → SealedEffects k [] (all_deleted z ps s) (all_deleted z qs t)
  unfolding all_deleted no_effects Zips ArePlainResults
  all_deleted_sealed z [] [] s t x h = record { state = record { nodes = h.nodes; apart = h.apart; sessions = h.sessions; watches = h.watches; greatest = h.greatest; last = refl }; results = tt; events = tt }
  all_deleted_sealed z [] (q ∷ qs) s t x h = absurd x
  all_deleted_sealed z (p ∷ ps) [] s t x h = absurd x
  all_deleted_sealed z (p ∷ ps) (q ∷ qs) s t x h =
      let e = deleted_sealed k w z (pos 0) p q s t x.0 h in
      let m = all_deleted_sealed z ps qs _ _ x.1 e.state in
      record { state = m.state; results = tt; events = zips_append (OpensOutput k.names) _ _ _ _ e.events m.events }

-- ---- the results of a multi

-- a multi that failed has the same codes on both sides
pub failed_results : (k : Keys) (cs : List Change) (codes : List ℤ) → length codes ≡ length cs → ArePlainResults k true (map op_asked cs) (map results.Error codes) (map results.Error codes)
unfolding ArePlainResults IsPlainResult
failed_results k [] [] e = tt
failed_results k [] (c ∷ codes) e = absurd (omega (arith, e))
failed_results k (d ∷ cs) [] e = absurd (omega (arith, e))
failed_results k (d ∷ cs) (c ∷ codes) e = (refl, failed_results k cs codes (omega (arith, e)))

-- and that is told as it is
pub all_failed : (k : Keys) (cs : List Change) (codes : List ℤ) → length codes ≡ length cs
    → ArePlainResults k (is_failed (map results.Error codes)) (map op_asked cs) (map results.Error codes) (map results.Error codes)
unfolding ArePlainResults
all_failed k [] [] e = tt
all_failed k [] (c ∷ codes) e = absurd (omega (arith, e))
all_failed k (d ∷ cs) [] e = absurd (omega (arith, e))
all_failed k (d ∷ cs) (c ∷ codes) e = failed_results k (d ∷ cs) (c ∷ codes) e

no_error : (k : Keys) (op : AskedOp) (code : ℤ) (a : OpResult) → IsPlainResult k false op (results.Error code) a → ⊥
unfolding IsPlainResult
no_error k (op_asks.Create path q) code a h = h
no_error k (op_asks.Create2 path q) code a h = h
no_error k op_asks.Delete code a h = h
no_error k (op_asks.SetContent path) code a h = h
no_error k op_asks.Check code a h = h

-- a multi that was done has no error among its results
pub all_done : (k : Keys) (ops : List AskedOp) (stored told : List OpResult) → ArePlainResults k false ops stored told → ArePlainResults k (is_failed stored) ops stored told
unfolding ArePlainResults
all_done k [] [] [] h = h
all_done k (op ∷ ops) (results.Error code ∷ stored) (p ∷ told) h = absurd (no_error k op code p h.0)
all_done k (op ∷ ops) (results.Created text ∷ stored) (p ∷ told) h = h
all_done k (op ∷ ops) (results.Created2 text stat ∷ stored) (p ∷ told) h = h
all_done k (op ∷ ops) (results.Deleted ∷ stored) (p ∷ told) h = h
all_done k (op ∷ ops) (results.Changed stat ∷ stored) (p ∷ told) h = h
all_done k (op ∷ ops) (results.Checked ∷ stored) (p ∷ told) h = h
all_done k ops stored told h = absurd h
