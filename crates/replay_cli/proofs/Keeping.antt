-- What all that happens to a world leaves of its store as it was.
use Rattle.std.proofs.Common.{◌≡◌, ℕ, zero, suc, ℤ, ◌+◌, List, [], ◌∷◌, refl, ap, ◌∙◌, Bool, true, false, Option, None, Some, Result}
use Rattle.payload_seal.specs.declared.keys.EntryKeys.{EntryKeys}
use Rattle.tree_state.specs.Step.{Act}
use Rattle.store_side.specs.Past.{Past}
use Rattle.store_side.specs.Calls.{Fed, Ticked, after_loss, after_pull}
use Rattle.store_side.specs.declared.entry.Entry.{Entry}
use Rattle.store_side.specs.declared.ending.StoreEnding.{StoreEnding}
use Rattle.entry_session.specs.declared.ending.Ending.{Ending}
use Rattle.world_core.specs.declared.amount.Amount.{Amount}
use Rattle.world_core.specs.Moments.{Moment}
use Rattle.world_core.specs.Steps.{BringsIf, Down as GoDown, Drains, ForEach, LeavesIf, LosesIf, Spot, TakesIf, UnlessCut, Up as GoUp, spot_of}
use Rattle.replay_cli.specs.Script.{opened_by}
use Rattle.replay_cli.specs.Worlds.{Happens}
use Rattle.replay_cli.specs.declared.script.Event.{Event}
use Rattle.replay_cli.specs.declared.script.Event.TheVariants.{Open, Send, Up, Down, Cut, Time, Tick, Drain}

-- each call of a store but `admit` leaves this of its past
pub record IsKept {A : Type 0} (f : Past → A) : Type 0 where
  pub fed : (c : ℕ) (now : ℤ) (piece : List ℕ) (old new : Past) (answer : Result (Unit {0}) StoreEnding) → Fed c now piece old new answer → f new ≡ f old
  pub lost : (c : ℕ) (entries : List Entry) (acts : List Act) (past : Past) → f (after_loss c entries acts past) ≡ f past
  pub pulled : (c count : ℕ) (past : Past) → f (after_pull c count past) ≡ f past
  pub ticked : (now : ℤ) (old new : Past) (all : Bool) → Ticked now old new all → f new ≡ f old

module _ {A : Type 0} (f : Past → A) (kept : IsKept f) where
  takes_keeps : (e : Option StoreEnding) (c : ℕ) (now : ℤ) (piece : List ℕ) (old new : Past) → TakesIf e c now piece old new → f new ≡ f old
  unfolding TakesIf
  takes_keeps None c now piece old new h = kept.fed c now piece old new h.0 h.1
  takes_keeps (Some e) c now piece old new h = ap f h

  loses_keeps : (e : Option StoreEnding) (c : ℕ) (old new : Past) → LosesIf e c old new → f new ≡ f old
  unfolding LosesIf
  loses_keeps None c old new h = ap f h.3 ∙ kept.lost c h.0 h.1 old
  loses_keeps (Some e) c old new h = ap f h

  leaves_keeps : (e : Option Ending) (unfed : List ℕ) (c : ℕ) (old new : Past) → LeavesIf e unfed c old new → f new ≡ f old
  unfolding LeavesIf
  leaves_keeps None unfed c old new h = ap f h
  leaves_keeps (Some e) (b ∷ bs) c old new h = ap f h
  leaves_keeps (Some e) [] c old new h = loses_keeps (old.endings c) c old new h

  brings_keeps : (e : Option Ending) (k : EntryKeys) (boot c : ℕ) (amount : Amount) (old new : Spot) → BringsIf e k boot c amount old new → f new.past ≡ f old.past
  unfolding BringsIf
  brings_keeps None k boot c amount old new h = ap f h.past ∙ kept.pulled c _ old.past
  brings_keeps (Some e) k boot c amount old new h = ap (λ (s : Spot). f s.past) h

  -- what is left at a spot is left in the world
  at_spot : (cut : Bool) (c : ℕ) (P : Spot → Spot → Type 0) (m n : Moment) → (m.links c).cut ≡ cut → UnlessCut c P m n
      → ((s : Spot) → P (spot_of c m) s → f s.past ≡ f m.past) → f n.past ≡ f m.past
  at_spot true c P m n is u keeps = ap (λ (x : Moment). f x.past) (u.cut is)
  at_spot false c P m n is u keeps = let h = u.whole is in ap (λ (x : Moment). f x.past) h.2 ∙ keeps h.0 h.1

  up_keeps : (k : EntryKeys) (boot c : ℕ) (first second : Amount) (m n : Moment) → GoUp k boot c first second m n → f n.past ≡ f m.past
  up_keeps k boot c first second m n u = at_spot _ c _ m n refl u (λ s h. leaves_keeps _ _ c _ _ h.leaves.past ∙ takes_keeps _ c _ _ _ _ h.feeds.takes)

  down_keeps : (k : EntryKeys) (boot c : ℕ) (amount : Amount) (m n : Moment) → GoDown k boot c amount m n → f n.past ≡ f m.past
  down_keeps k boot c amount m n u = at_spot _ c _ m n refl u (λ s h. leaves_keeps _ _ c _ _ h.leaves.past ∙ brings_keeps _ k boot c amount _ _ h.brings)

  each_keeps : (P : ℕ → Moment → Moment → Type 0) (c count : ℕ) (m n : Moment) → ((d : ℕ) (x y : Moment) → P d x y → f y.past ≡ f x.past) → ForEach P c count m n → f n.past ≡ f m.past
  unfolding ForEach
  each_keeps P c zero m n keeps h = ap (λ (x : Moment). f x.past) h
  each_keeps P c (suc count) m n keeps h = each_keeps P (c + 1) count h.0 n keeps h.2 ∙ keeps c m h.0 h.1

  drain_keeps : (k : EntryKeys) (boot : ℕ) (m n : Moment) → Drains k boot m n → f n.past ≡ f m.past
  drain_keeps k boot m n h =
      each_keeps _ 1 _ h.half n (λ d x y down. down_keeps k boot d _ x y down) h.down ∙ each_keeps _ 1 _ m h.half (λ d x y up. up_keeps k boot d _ _ x y up) h.up

  -- and so does all that opens no connection
  pub happens_keeps : (k : EntryKeys) (event : Event) (m n : Moment) → opened_by event ≡ 0 → Happens k event m n → f n.past ≡ f m.past
  unfolding Happens
  happens_keeps k Open m n none h = absurd cc
  happens_keeps k (Send c bytes) m n none h = at_spot _ c _ m n refl h (λ s sends. ap f sends.past)
  happens_keeps k (Up c first second) m n none h = up_keeps k 0 c _ _ m n h
  happens_keeps k (Down c limit) m n none h = down_keeps k 0 c _ m n h
  happens_keeps k (Cut c) m n none h = at_spot _ c _ m n refl h (λ s cuts. loses_keeps _ c _ _ cuts.loses)
  happens_keeps k (Time now) m n none h = ap (λ (x : Moment). f x.past) h
  happens_keeps k Tick m n none h = kept.ticked _ m.past n.past true h.ticked
  happens_keeps k Drain m n none h = drain_keeps k 0 m n h
