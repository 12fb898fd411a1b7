-- Each answer of the plain machine fits a frame where what a store tells was written.
use Rattle.std.proofs.Common.{◌≡◌, ℕ, Bool, true, false, cond, List, [], ◌∷◌, refl}
use Rattle.std.specs.Prelude.{All, ◌==◌}
use Rattle.std.proofs.lemmas.List.Elements.{All-nil, All-cons, All-head, All-tail}
use Rattle.std.proofs.lemmas.Bool.{eq-eqb}
use Rattle.tree_state.specs.declared.message.Message.{Message}
use Rattle.tree_state.specs.declared.message.Message.TheVariants as messages
use Rattle.tree_state.specs.declared.message.Output.{Output}
use Rattle.tree_state.specs.State.{start}
use Rattle.jute_core.specs.Frames.{FitsFrame}
use Rattle.tree_state.specs.Plain.{plain}
use Rattle.store_side.specs.Messages.{SpellsMessage, Messages}
use Rattle.store_side.specs.Orders.{FitsAnswer, FitsOutput}
use Rattle.store_side.specs.Out.{to_connection, outputs, out}
use Rattle.sealed_machine.specs.Laws.{FitsPlain}
use Rattle.sealed_machine.specs.Runs.{all_asked}
use Rattle.sealed_machine.proofs.ShorterReplies.{fits_plain}
use Rattle.sealed_machine.proofs.Connections.{all_match, all_told}
use Rattle.sealed_machine.proofs.RefusalCodes.{all_answerable}

-- what was written fits
fits_one : (m : Message) (body : List ℕ) → SpellsMessage m body → FitsFrame body → FitsAnswer m
unfolding FitsAnswer
fits_one (messages.Event e) body s f = tt
fits_one (messages.Reply r) body s f = (body, s, f)
fits_one (messages.Connected r) body s f = (body, s, f)

each_fits : (ms : List Message) (bytes : List ℕ) → Messages ms bytes → All FitsAnswer ms
unfolding Messages
each_fits [] bytes h = All-nil FitsAnswer
each_fits (m ∷ ms) bytes (body, more, spelled, fits, cut, rest) = All-cons FitsAnswer m ms (fits_one m body spelled fits) (each_fits ms more rest)

-- what goes to each connection is all that is sent
first_to : (b : Bool) (m : Message) (ms : List Message) → b ≡ true → All FitsAnswer (cond b (m ∷ ms) ms) → FitsAnswer m
first_to true m ms e h = All-head FitsAnswer m ms h
first_to false m ms e h = absurd cc

later_to : (b : Bool) (m : Message) (ms : List Message) → All FitsAnswer (cond b (m ∷ ms) ms) → All FitsAnswer ms
later_to true m ms h = All-tail FitsAnswer m ms h
later_to false m ms h = h

all_outputs : (os : List Output) → ((c : ℕ) → All FitsAnswer (to_connection c os)) → All FitsOutput os
unfolding to_connection
all_outputs [] h = All-nil FitsOutput
all_outputs (o ∷ os) h =
    All-cons FitsOutput o os (first_to (o.connection == o.connection) o.message (to_connection o.connection os) (eq-eqb o.connection o.connection refl) (h o.connection))
    (all_outputs os (λ c. later_to (o.connection == c) o.message (to_connection c os) (h c)))

pub plain_fits : FitsPlain
plain_fits = record {
  messages = fits_plain;
  answers = λ k naming order acts sealed_acts told bytes w names are v shown spelled. all_outputs (outputs plain start acts) (λ c.
      let t = all_told k _ _ _ (told c) (all_match k w naming names c acts sealed_acts v) (shown c) in
      let r = fits_plain k (all_asked c start acts) (out plain acts c) (told c) (bytes c) w (all_answerable c start order acts are) t (spelled c) in
      each_fits (out plain acts c) r.0 r.1);
}
