-- The loss of a connection leaves a server sound.
use Rattle.std.proofs.Common.{◌≡◌, ◌≢◌, ◌⊎◌, ℕ, ◌≤◌, Bool, true, false, cond, List, [], ◌∷◌, ◌++◌, Option, Some, None, refl, sym, ap, subst, ◌∙◌, arith, append-nil, inl, inr}
use Rattle.std.specs.Prelude.{◌==◌, is_some}
use Rattle.std.proofs.lemmas.Bool.{both_ways, eq-eqb}
use Rattle.tree_state.specs.declared.held.Held.{Held}
use Rattle.tree_state.specs.declared.message.Message.{Message}
use Rattle.tree_state.specs.State.{State, start}
use Rattle.tree_state.specs.Step.{Act, step}
use Rattle.store_side.specs.declared.entry.Entry.{Entry}
use Rattle.store_side.specs.declared.ending.StoreEnding.{StoreEnding}
use Rattle.store_side.specs.declared.ending.StoreEnding.TheVariants as endings
use Rattle.store_side.specs.Messages.{Messages}
use Rattle.store_side.specs.Out.{outputs, to_connection}
use Rattle.store_side.specs.Orders.{HasNoConnect, HasSession}
use Rattle.store_side.specs.Past.{Past, after_all, state_of}
use Rattle.store_side.specs.Follows.{IsAdmitted, IsSound, owed}
use Rattle.store_side.specs.Calls.{IsLoss, after_loss, with_at}
use Rattle.store_side.proofs.Appended.{after_all-append, no_connect-append}
use Rattle.store_side.proofs.Told.{messages_none}
use Rattle.store_side.proofs.Sound.{Grows, grown_sound}
use Rattle.store_side.proofs.SoundCalls.{at_other}
use Rattle.tree_server.specs.declared.books.Books.{Books}
use Rattle.tree_server.specs.declared.lines.Lines.{Lines}
use Rattle.tree_server.specs.Machines.{Stands, added}
use Rattle.tree_server.specs.Connections.{AreLines, with_ending}
use Rattle.tree_server.specs.Servers.{Both}
use Rattle.tree_server.proofs.SamePast.{stands_same, lines_same}
use Rattle.tree_server.proofs.KeptSessions.{lost_keeps}

-- ---- a past that stands some acts further

state_is : (past : Past) → state_of past ≡ after_all past.naming start past.acts
unfolding state_of
state_is past = refl

pub state_more : (old new : Past) (acts : List Act) → new.naming ≡ old.naming → new.acts ≡ old.acts ++ acts
    → state_of new ≡ after_all old.naming (state_of old) acts
unfolding state_of
state_more old new acts naming more =
    (λ i. after_all (naming i) start (more i)) ∙ after_all-append old.naming start old.acts acts

-- a connection that goes on has a session, or has not connected yet
pub goes_on_at : (past : Past) → IsSound past → (d : ℕ) → past.endings d ≡ None → HasNoConnect d past.order ⊎ HasSession (state_of past) d
unfolding state_of
goes_on_at past sound d on = sound.follows.goes_on d (ap is_some on)

-- what a machine owes is within its limit
pub owed_within : (named : List ℕ → ℕ → List ℕ → Type 0) (keeps : List Entry → Type 0) (room : ℕ) (held : Held) (books : Books) (past : Past)
    → Stands named keeps room held books past → owed past ≤ past.limit
owed_within named keeps room held books past h = omega (arith, h.counted, h.owes, h.within, h.limit)

pub not_over : (o : Option StoreEnding) → is_some o ≡ false → o ≡ None
not_over None h = refl
not_over (Some e) h = absurd cc

-- ---- what a loss adds

pub no_outputs : (past : Past) (c : ℕ) (entries : List Entry) (acts : List Act) → IsLoss past c entries acts
    → [] ≡ outputs past.naming (state_of past) acts
unfolding IsLoss outputs step
no_outputs past c [] acts h = sym (ap (outputs past.naming (state_of past)) h.0)
no_outputs past c (e ∷ es) acts h = sym (ap (outputs past.naming (state_of past)) h.2)

no_connect : (past : Past) (c : ℕ) (entries : List Entry) (acts : List Act) → IsLoss past c entries acts
    → (d : ℕ) → HasNoConnect d entries
unfolding IsLoss HasNoConnect
no_connect past c [] acts h d = tt
no_connect past c (e ∷ es) acts h d = subst (HasNoConnect d) (sym h.1) tt

-- the others keep their sessions
others_keep : (past : Past) (c : ℕ) (entries : List Entry) (acts : List Act) → IsLoss past c entries acts
    → (d : ℕ) → d ≢ c → HasSession (state_of past) d → HasSession (after_all past.naming (state_of past) acts) d
unfolding IsLoss after_all
others_keep past c [] acts h d other has =
    subst (λ (xs : List Act). HasSession (after_all past.naming (state_of past) xs) d) (sym h.0) has
others_keep past c (e ∷ es) acts h d other has =
    subst (λ (xs : List Act). HasSession (after_all past.naming (state_of past) xs) d) (sym h.2)
    (lost_keeps past.naming (state_of past) c d other has)

nothing_to : (d : ℕ) → to_connection d [] ≡ []
unfolding to_connection
nothing_to d = refl

-- only the others go on
on_other : (c d : ℕ) (e : StoreEnding) (f : ℕ → Option StoreEnding) → is_some (with_at c (Some e) f d) ≡ false → (d ≢ c) × (f d ≡ None)
unfolding with_at
on_other c d e f h = go (d == c) refl h
  where
    go : (b : Bool) → (d == c) ≡ b → is_some (cond b (Some e) (f d)) ≡ false → (d ≢ c) × (f d ≡ None)
    go true at h = absurd cc
    go false at h = (λ same. both_ways _ at (eq-eqb d c same), not_over (f d) h)

-- ---- a loss

module _ (named : List ℕ → ℕ → List ℕ → Type 0) (keeps : List Entry → Type 0) (room : ℕ) (held : Held) (books : Books) where
  stands_lost : (c : ℕ) (entries : List Entry) (acts : List Act) (past : Past) → Stands named keeps room held books (added entries acts past)
      → Stands named keeps room held books (after_loss c entries acts past)
  unfolding after_loss
  stands_lost c entries acts past h =
      stands_same named keeps room held books (added entries acts past) (after_loss c entries acts past)
      (record { naming = refl; key = refl; limit = refl; order = refl; acts = refl }) h

  pub lost_both : (lines : Lines) (c : ℕ) (entries : List Entry) (acts : List Act) (past : Past)
      → Stands named keeps room held books (added entries acts past) → AreLines lines (with_ending c endings.Lost past)
      → Both named keeps room held books lines (after_loss c entries acts past)
  unfolding after_loss
  lost_both lines c entries acts past h k = record {
    machine = stands_lost c entries acts past h;
    lines_are = lines_same lines (with_ending c endings.Lost past) (after_loss c entries acts past)
        (record { admitted = refl; waiting = λ d. refl; rests = λ d. refl; endings = λ d. refl; written = refl }) k;
  }

  pub lost_sound : (c : ℕ) (entries : List Entry) (acts : List Act) (past : Past) → IsSound past → IsAdmitted past c
      → IsLoss past c entries acts → Stands named keeps room held books (added entries acts past) → IsSound (after_loss c entries acts past)
  unfolding after_loss
  lost_sound c entries acts past sound inside loss stands = grown_sound past new entries acts [] (λ d. []) sound grows (record {
    are_acts = h.are_acts;
    steps = h.steps;
    once = h.once;
    goes_on = λ d on. goes_on d (on_other c d endings.Lost past.endings on);
    within = owed_within named keeps room held books new h;
  }) (λ d apart.
      let outside : IsAdmitted past d → ⊥ = λ i. apart (record { from = i.from; below = i.below }) in
      let before = sound.untouched d outside in
      let other : d ≢ c = λ same. outside (subst (IsAdmitted past) (sym same) inside) in (
        still d before.no_connect,
        nothing_to d,
        at_other c d [] past.rests other ∙ before.rest,
        at_other c d (Some endings.Lost) past.endings other ∙ before.goes_on,
      ))
    where
      new : Past
      new = after_loss c entries acts past

      h : Stands named keeps room held books new
      h = stands_lost c entries acts past stands

      grows : Grows past new entries acts [] (λ d. [])
      grows = record {
        naming = refl;
        admitted = refl;
        order = refl;
        acts_are = refl;
        told = λ d. sym (ap (λ (l : List Message). past.told d ++ l) (nothing_to d) ∙ append-nil (past.told d));
        pulled = λ d. refl;
        waiting = λ d. sym (append-nil (past.waiting d));
        sent_is = no_outputs past c entries acts loss;
        spelled = λ d. subst (λ (l : List Message). Messages l []) (sym (nothing_to d)) messages_none;
      }

      still : (d : ℕ) → HasNoConnect d past.order → HasNoConnect d new.order
      still d k = no_connect-append d past.order entries k (no_connect past c entries acts loss d)

      goes_on : (d : ℕ) → (d ≢ c) × (past.endings d ≡ None) → HasNoConnect d new.order ⊎ HasSession (state_of new) d
      goes_on d k = elim (goes_on_at past sound d k.1) [
        | inl none ↦ inl (still d none)
        | inr has ↦
            inr (subst (λ (s : State). HasSession s d) (sym (state_more past new acts refl refl))
            (others_keep past c entries acts loss d k.0 has))
      ]
