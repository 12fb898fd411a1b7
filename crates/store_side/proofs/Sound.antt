-- A store that is sound stays so, when it takes more and tells what its machine sends for that.
use Rattle.std.proofs.Common.{◌≡◌, ◌⊎◌, ℕ, ℤ, ◌≤◌, Bool, true, false, List, [], ◌∷◌, ◌++◌, Option, Some, None, All, refl, sym, ap, subst, ◌∙◌, append_assoc, append-nil}
use Rattle.std.proofs.lemmas.List.Elements.{All-append, All-nil}
use Rattle.tree_state.specs.declared.message.Message.{Message}
use Rattle.tree_state.specs.declared.message.Output.{Output}
use Rattle.tree_state.specs.Changes.{Naming}
use Rattle.tree_state.specs.State.{State, start}
use Rattle.tree_state.specs.Step.{Act}
use Rattle.store_side.specs.Zips.{Zips}
use Rattle.store_side.specs.declared.entry.Entry.{Entry}
use Rattle.store_side.specs.declared.ending.StoreEnding.{StoreEnding}
use Rattle.store_side.specs.Acts.{AreActs}
use Rattle.store_side.specs.Messages.{Messages}
use Rattle.store_side.specs.Out.{outputs, to_connection, out}
use Rattle.store_side.specs.Orders.{ConnectsOnce, FitsOutput, HasNoConnect, HasSession, Legal, LegalFrom}
use Rattle.store_side.specs.Past.{Past, after_all, is_over, password_of, state_of}
use Rattle.store_side.specs.Follows.{Follows, IsAdmitted, IsSound, IsUntouched, ShowsMessage, Shown, owed}
use Rattle.store_side.proofs.Zipping.{zips_append}
use Rattle.store_side.proofs.Appended.{to_connection-append, outputs-append}
use Rattle.store_side.proofs.Told.{HaveBytes, all_fit, messages-append, shown_same}

-- these entries, which are these acts, were taken, and what is sent for them was told as these bytes
pub record Grows (old new : Past) (entries : List Entry) (acts : List Act) (sent : List Output) (bytes : ℕ → List ℕ) : Type 0 where
  pub naming : new.naming ≡ old.naming
  pub admitted : new.admitted ≡ old.admitted
  pub order : new.order ≡ old.order ++ entries
  pub acts_are : new.acts ≡ old.acts ++ acts
  pub told : (c : ℕ) → new.told c ≡ old.told c ++ to_connection c sent
  pub pulled : (c : ℕ) → new.pulled c ≡ old.pulled c
  pub waiting : (c : ℕ) → new.waiting c ≡ old.waiting c ++ bytes c
  pub sent_is : sent ≡ outputs old.naming (state_of old) acts
  pub spelled : (c : ℕ) → Messages (to_connection c sent) (bytes c)

-- what the machine and the lines say of the new past
pub record IsLegal (new : Past) : Type 0 where
  pub are_acts : AreActs new.order new.acts
  pub steps : LegalFrom new.naming (password_of new.key) start new.order new.acts
  pub once : ConnectsOnce new.order
  pub goes_on : (c : ℕ) → is_over new c ≡ false → HasNoConnect c new.order ⊎ HasSession (state_of new) c
  pub within : owed new ≤ new.limit

-- nothing is of a connection that was not admitted
abbrev pub IsStillUntouched : Past → List Output → Type 0
IsStillUntouched new sent = (c : ℕ) → (IsAdmitted new c → ⊥) → HasNoConnect c new.order × (to_connection c sent ≡ []) × (new.rests c ≡ []) × (new.endings c ≡ None)

-- what a run sends to a connection, and what more acts send
pub out_grown : (naming : Naming) (acts more : List Act) (c : ℕ) → out naming (acts ++ more) c ≡ out naming acts c ++ to_connection c (outputs naming (after_all naming start acts) more)
out_grown naming acts more c =
    ap (to_connection c) (outputs-append naming start acts more) ∙ to_connection-append c (outputs naming start acts) (outputs naming (after_all naming start acts) more)

state_is : (past : Past) → state_of past ≡ after_all past.naming start past.acts
unfolding state_of
state_is past = refl

no_bytes : (ms : List Message) (bytes : List ℕ) → ms ≡ [] → Messages ms bytes → bytes ≡ []
unfolding Messages
no_bytes [] bytes e h = h
no_bytes (m ∷ ms) bytes e h = absurd cc

module _ (old new : Past) (entries : List Entry) (acts : List Act) (sent : List Output) (bytes : ℕ → List ℕ) (sound : IsSound old) (g : Grows old new entries acts sent bytes) where
  sends : sent ≡ outputs old.naming (after_all old.naming start old.acts) acts
  sends = g.sent_is ∙ ap (λ (s : State). outputs old.naming s acts) (state_is old)

  shown : (c : ℕ) → Shown (out new.naming new.acts c) (new.told c)
  shown c =
      let sides : Shown (out old.naming old.acts c ++ to_connection c sent) (old.told c ++ to_connection c sent) =
      zips_append ShowsMessage (out old.naming old.acts c) (to_connection c sent) (old.told c) (to_connection c sent) (sound.follows.shown c) (shown_same (to_connection c sent)) in
      let machine : out new.naming new.acts c ≡ out old.naming old.acts c ++ to_connection c sent =
      rw (g.naming, g.acts_are) (out_grown old.naming old.acts acts c ∙ sym (ap (λ (l : List Output). out old.naming old.acts c ++ to_connection c l) sends)) in
      rw (machine, g.told c) sides

  spelled : (c : ℕ) → Messages (new.told c) (new.pulled c ++ new.waiting c)
  spelled c =
      let both : Messages (old.told c ++ to_connection c sent) ((old.pulled c ++ old.waiting c) ++ bytes c) =
      messages-append (old.told c) (to_connection c sent) (old.pulled c ++ old.waiting c) (bytes c) (sound.follows.spelled c) (g.spelled c) in
      rw (g.told c, g.pulled c, g.waiting c) (subst (λ (x : List ℕ). Messages (old.told c ++ to_connection c sent) x) (append_assoc (old.pulled c) (old.waiting c) (bytes c)) both)

  fit : All FitsOutput (outputs new.naming start new.acts)
  fit =
      let sent_fit : All FitsOutput sent = all_fit sent (λ c. (bytes c, g.spelled c)) in
      let every : All FitsOutput (outputs old.naming start old.acts ++ sent) = All-append FitsOutput (outputs old.naming start old.acts) sent sound.follows.legal.answers_fit sent_fit in
      let machine : outputs new.naming start new.acts ≡ outputs old.naming start old.acts ++ sent =
      rw (g.naming, g.acts_are) (outputs-append old.naming start old.acts acts ∙ sym (ap (λ (l : List Output). outputs old.naming start old.acts ++ l) sends)) in
      rw machine every

  not_before : (c : ℕ) → (IsAdmitted new c → ⊥) → IsAdmitted old c → ⊥
  not_before c apart inside = apart (record { from = inside.from; below = rw g.admitted inside.below })

  pub grown_sound : IsLegal new → IsStillUntouched new sent → IsSound new
  unfolding state_of
  grown_sound legal none = record {
    follows = record {
      legal = record { are_acts = legal.are_acts; steps = legal.steps; once = legal.once; answers_fit = fit };
      shown = shown;
      spelled = spelled;
      goes_on = legal.goes_on;
    };
    within = legal.within;
    untouched = λ c apart.
        let before = sound.untouched c (not_before c apart) in
        let now = none c apart in
        record {
          no_connect = now.0;
          told = g.told c ∙ ap (λ (x : List Message). x ++ to_connection c sent) before.told ∙ now.1;
          pulled = g.pulled c ∙ before.pulled;
          waiting = g.waiting c ∙ ap (λ (x : List ℕ). x ++ bytes c) before.waiting ∙ no_bytes (to_connection c sent) (bytes c) now.1 (g.spelled c);
          rest = now.2;
          goes_on = now.3;
        };
  }
