-- The answers to setWatches on both sides.
use Rattle.std.proofs.Common.{◌≡◌, ℕ, ℤ, pos, Bool, true, false, cond, List, [], ◌∷◌, Option, Some, None, refl, ap, subst, arith}
use Rattle.std.specs.Prelude.{if◌then◌else◌}
use Rattle.std.proofs.lemmas.Int.{ints}
use Rattle.std.specs.Ordering.{int_cmp, is_lt}
use Rattle.path_seal.specs.Sealed.{AreKeys}
use Rattle.payload_seal.specs.declared.keys.EntryKeys.{EntryKeys}
use Rattle.watch_rewrite.specs.Events.{IsNodeKind}
use Rattle.tree_state.specs.declared.node.Numbers.{Numbers}
use Rattle.tree_state.specs.declared.node.Moment.{Moment}
use Rattle.tree_state.specs.Nodes.{Path, Node, Place, find}
use Rattle.tree_state.specs.State.{State, Aspect, on_data, on_children}
use Rattle.tree_state.specs.Commands.{set_watches}
use Rattle.tree_state.specs.Changes.{Naming}
use Rattle.tree_state.specs.Step.{Notice, tells, watches, content_notice, exist_notice, child_notice, Noticed, noticed, all_noticed, with_noticed, answer}
unfoldable pub use Rattle.sealed_machine.specs.Veils.{asked_of}
unfoldable pub use Rattle.store_side.specs.Follows.{Shows}
pub use Rattle.sealed_machine.specs.Opens.{SealedNoticed, SealedAnswer}
use Rattle.store_side.proofs.Zipping.{Zips, Both, zips_none, zips_one, zips_append}
use Rattle.sealed_machine.proofs.SealedStates.{Seals, SealedNode, SealedPlace, IsSealedState, found, watching_zips}
use Rattle.sealed_machine.proofs.SealedChanges.{OpensOutput, one_event}
use Rattle.sealed_machine.proofs.OpenOutcomes.{empty_opens}

module _ (k : EntryKeys) (w : AreKeys k.names) where
  contents_agree : (seen : ℤ) (p : Path) (o u : Option Node) → Both (SealedNode k p) o u → content_notice seen o ≡ content_notice seen u
  unfolding content_notice Both
  contents_agree seen p None None h = refl
  contents_agree seen p None (Some m) h = absurd h
  contents_agree seen p (Some n) None h = absurd h
  contents_agree seen p (Some n) (Some m) h = ap (λ (x : Numbers). if is_lt (int_cmp seen x.mzxid) then tells (pos 3) else watches) h.numbers

  exists_agree : (p : Path) (o u : Option Node) → Both (SealedNode k p) o u → exist_notice o ≡ exist_notice u
  unfolding exist_notice Both
  exists_agree p None None h = refl
  exists_agree p None (Some m) h = absurd h
  exists_agree p (Some n) None h = absurd h
  exists_agree p (Some n) (Some m) h = refl

  childs_agree : (seen : ℤ) (p : Path) (o u : Option Node) → Both (SealedNode k p) o u → child_notice seen o ≡ child_notice seen u
  unfolding child_notice Both
  childs_agree seen p None None h = refl
  childs_agree seen p None (Some m) h = absurd h
  childs_agree seen p (Some n) None h = absurd h
  childs_agree seen p (Some n) (Some m) h = ap (λ (x : Numbers). if is_lt (int_cmp seen x.pzxid) then tells (pos 4) else watches) h.numbers

  -- the kind of an event of a node
  unfoldable IsTold : Notice → Type 0
  IsTold (tells kind) = IsNodeKind kind
  IsTold watches = Unit {0}

  content_told : (seen : ℤ) (o : Option Node) → IsTold (content_notice seen o)
  unfolding content_notice IsTold
  content_told seen None = (omega (arith, ints), omega (arith, ints))
  content_told seen (Some n) = go (is_lt (int_cmp seen n.numbers.mzxid))
    where
      go : (b : Bool) → IsTold (cond b (tells (pos 3)) watches)
      go true = (omega (arith, ints), omega (arith, ints))
      go false = tt

  exist_told : (o : Option Node) → IsTold (exist_notice o)
  unfolding exist_notice IsTold
  exist_told None = tt
  exist_told (Some n) = (omega (arith, ints), omega (arith, ints))

  child_told : (seen : ℤ) (o : Option Node) → IsTold (child_notice seen o)
  unfolding child_notice IsTold
  child_told seen None = (omega (arith, ints), omega (arith, ints))
  child_told seen (Some n) = go (is_lt (int_cmp seen n.numbers.pzxid))
    where
      go : (b : Bool) → IsTold (cond b (tells (pos 4)) watches)
      go true = (omega (arith, ints), omega (arith, ints))
      go false = tt

  noticed_sealed : (r : Aspect) (p q : Path) (c : ℕ) (a : Notice) (x y : Noticed) → IsTold a → Seals k.names p q → SealedNoticed k.names x y
      → SealedNoticed k.names (noticed r p c a x) (noticed r q c a y)
  unfolding noticed IsTold
  noticed_sealed r p q c (tells kind) x y is s h = record { watches = h.watches; events = zips_append (OpensOutput k.names) _ _ _ _ h.events (zips_one (OpensOutput k.names) _ _ (one_event k w kind p q c c is s refl)) }
  noticed_sealed r p q c watches x y is s h = record { watches = watching_zips k w _ _ (record { aspect = refl; path = s; connection = refl }) _ _ h.watches; events = h.events }

  all_noticed_sealed : (f : Option Node → Notice) (r : Aspect) (es fs : List Place) (c : ℕ) (ps qs : List Path) (x y : Noticed) → ((o : Option Node) → IsTold (f o))
      → ((p : Path) (o u : Option Node) → Both (SealedNode k p) o u → f o ≡ f u)
      → Zips (SealedPlace k) es fs → Zips (Seals k.names) ps qs → SealedNoticed k.names x y → SealedNoticed k.names (all_noticed f r es c ps x) (all_noticed f r fs c qs y)
  unfolding all_noticed Zips
  all_noticed_sealed f r es fs c [] [] x y is a z s h = h
  all_noticed_sealed f r es fs c [] (q ∷ qs) x y is a z s h = absurd s
  all_noticed_sealed f r es fs c (p ∷ ps) [] x y is a z s h = absurd s
  all_noticed_sealed f r es fs c (p ∷ ps) (q ∷ qs) x y is a z s h =
      let e = a p (find es p) (find fs q) (found k w p q s.0 es fs z) in
      all_noticed_sealed f r es fs c ps qs _ _ is a z s.1
      (subst (λ (n : Notice). SealedNoticed k.names (noticed r p c (f (find es p)) x) (noticed r q c n y)) e (noticed_sealed r p q c (f (find es p)) x y (is (find es p)) s.0 h))

  pub set_watches_sealed : (naming other : Naming) (at : Moment) (c : ℕ) (s t : State) (seen then_ : ℤ) (a b d a' b' d' : List Path) → seen ≡ then_
      → Zips (Seals k.names) a a' → Zips (Seals k.names) b b' → Zips (Seals k.names) d d' → IsSealedState k s t
      → SealedAnswer k (set_watches seen a b d) (answer naming at c s (set_watches seen a b d)) (answer other at c t (set_watches then_ a' b' d'))
  unfolding answer with_noticed asked_of
  set_watches_sealed naming other at c s t seen then_ a b d a' b' d' e za zb zd h =
      let n = all_noticed_sealed (child_notice seen) on_children s.nodes t.nodes c d d' _ _ (child_told seen) (childs_agree seen) h.nodes zd (
      all_noticed_sealed exist_notice on_data s.nodes t.nodes c b b' _ _ exist_told exists_agree h.nodes zb (
      all_noticed_sealed (content_notice seen) on_data s.nodes t.nodes c a a' (record { kept = s.watches; events = [] }) (record { kept = t.watches; events = [] }) (content_told seen) (contents_agree seen) h.nodes za
      (record { watches = h.watches; events = zips_none (OpensOutput k.names) }))) in
      subst (λ (x : ℤ). SealedAnswer k (set_watches seen a b d) (answer naming at c s (set_watches seen a b d)) (answer other at c t (set_watches x a' b' d'))) e (record {
        state = record { nodes = h.nodes; apart = h.apart; sessions = h.sessions; watches = n.watches; greatest = h.greatest; last = h.last };
        outcome = empty_opens k;
        events = n.events;
      })
