-- What a store tells stays what its machine sends, when more is sent.
use Rattle.std.proofs.Common.{◌≡◌, ◌≢◌, ℕ, ℤ, Bool, true, false, cond, List, [], ◌∷◌, ◌++◌, Option, Some, None, All, refl, sym, ap, subst, ◌∙◌, append_assoc}
use Rattle.std.specs.Prelude.{◌==◌}
use Rattle.std.proofs.Common.{rules}
use Rattle.std.proofs.lemmas.List.Elements.{All-append, All-cons, All-nil}
use Rattle.jute_core.specs.Frames.{frame, FitsFrame}
use Rattle.zk_messages.specs.declared.reply.Outcome.{Outcome}
use Rattle.zk_messages.specs.declared.reply.Outcome.TheVariants as outcomes
use Rattle.tree_state.specs.declared.message.Message.{Message}
use Rattle.tree_state.specs.declared.message.Message.TheVariants as messages
use Rattle.tree_state.specs.declared.message.Output.{Output}
use Rattle.tree_state.specs.Shuffles.{Shuffles, nothing, kept}
use Rattle.store_side.specs.Zips.{Zips}
use Rattle.store_side.specs.Messages.{Messages, SpellsMessage}
use Rattle.store_side.specs.Out.{to_connection}
use Rattle.store_side.specs.Orders.{FitsAnswer, FitsOutput}
use Rattle.store_side.specs.Follows.{Shows, ShowsMessage, ShowsReply, Shown}
use Rattle.store_side.specs.Fitting.{CanBeSent, AllCanBeSent}

shuffles_same : {A : Type 0} (xs : List A) → Shuffles xs xs
shuffles_same [] = nothing
shuffles_same (x ∷ xs) = kept x xs xs (shuffles_same xs)

shows_outcome : (o : Outcome) → Shows o o
unfolding Shows
shows_outcome (outcomes.Children (Some names)) = (names, refl, shuffles_same names)
shows_outcome (outcomes.Children None) = refl
shows_outcome (outcomes.Children2 (Some names) stat) = (names, refl, shuffles_same names)
shows_outcome (outcomes.Children2 None stat) = refl
shows_outcome (outcomes.Error code) = refl
shows_outcome outcomes.Empty = refl
shows_outcome (outcomes.Path p) = refl
shows_outcome (outcomes.Stat s) = refl
shows_outcome (outcomes.Content c s) = refl
shows_outcome (outcomes.Acls a s) = refl
shows_outcome (outcomes.Multi l) = refl
shows_outcome (outcomes.Created2 p s) = refl

-- a message may be told as it is
pub shows_same : (m : Message) → ShowsMessage m m
unfolding ShowsMessage
shows_same (messages.Connected r) = refl
shows_same (messages.Reply r) = record { same_xid = refl; same_zxid = refl; outcome = shows_outcome r.outcome }
shows_same (messages.Event e) = refl

pub shown_same : (ms : List Message) → Shown ms ms
unfolding Zips
shown_same [] = tt
shown_same (m ∷ ms) = (shows_same m, shown_same ms)

-- bytes of more messages stand behind those of the first
pub messages-append : (ms ns : List Message) (b c : List ℕ) → Messages ms b → Messages ns c → Messages (ms ++ ns) (b ++ c)
unfolding Messages
messages-append [] ns b c h k = subst (λ (x : List ℕ). Messages ns x) (sym (ap (λ (y : List ℕ). y ++ c) h)) k
messages-append (m ∷ ms) ns b c h k =
    (h.0, h.1 ++ c, h.2, h.3, ap (λ (y : List ℕ). y ++ c) h.4 ∙ append_assoc (frame h.0) h.1 c, messages-append ms ns h.1 c h.5 k)

pub messages_none : Messages [] []
unfolding Messages
messages_none = refl

-- a body of the message that is a frame's
abbrev pub HasBody : Message → Type 0
HasBody m = (body : List ℕ) × SpellsMessage m body × FitsFrame body

fits_by_body : (m : Message) → HasBody m → FitsAnswer m
unfolding FitsAnswer
fits_by_body (messages.Connected r) h = h
fits_by_body (messages.Reply r) h = h
fits_by_body (messages.Event e) h = tt

-- what goes to each connection has bytes
abbrev pub HaveBytes : List Output → Type 0
HaveBytes os = (c : ℕ) → (bytes : List ℕ) × Messages (to_connection c os) bytes

same_connection : (c : ℕ) → (c == c) ≡ true
same_connection c = search rules

first_body : (o : Output) (os : List Output) (bytes : List ℕ) (b : Bool) → b ≡ true → Messages (cond b (o.message ∷ to_connection o.connection os) (to_connection o.connection os)) bytes → HasBody o.message
unfolding Messages
first_body o os bytes true e h = (h.0, h.2, h.3)
first_body o os bytes false e h = absurd cc

rest_bytes : (c : ℕ) (o : Output) (os : List Output) (bytes : List ℕ) (b : Bool) → Messages (cond b (o.message ∷ to_connection c os) (to_connection c os)) bytes
    → (more : List ℕ) × Messages (to_connection c os) more
unfolding Messages
rest_bytes c o os bytes true h = (h.1, h.5)
rest_bytes c o os bytes false h = (bytes, h)

-- so each of them is a frame's
pub all_fit : (os : List Output) → HaveBytes os → All FitsOutput os
unfolding to_connection
all_fit [] h = All-nil FitsOutput
all_fit (o ∷ os) h =
    All-cons FitsOutput o os
    (fits_by_body o.message (first_body o os (h o.connection).0 (o.connection == o.connection) (same_connection o.connection) (h o.connection).1))
    (all_fit os (λ c. rest_bytes c o os (h c).0 (o.connection == c) (h c).1))
