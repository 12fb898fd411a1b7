-- Orders, runs and what they send, one behind another.
use Rattle.std.proofs.Common.{◌≡◌, ◌≢◌, ℕ, ℤ, Bool, true, false, cond, List, [], ◌∷◌, ◌++◌, refl, sym, ap, append_assoc, append-nil}
use Rattle.std.specs.Prelude.{◌==◌}
use Rattle.zk_records.specs.declared.connect.ConnectRequest.{ConnectRequest}
use Rattle.zk_messages.specs.declared.request.Request.{Request}
use Rattle.tree_state.specs.declared.message.Message.{Message}
use Rattle.tree_state.specs.declared.message.Output.{Output}
use Rattle.tree_state.specs.State.{State, start}
use Rattle.tree_state.specs.Changes.{Naming}
use Rattle.tree_state.specs.Step.{Act, step}
use Rattle.store_side.specs.Acts.{AreActs, IsAct}
use Rattle.store_side.specs.Out.{outputs, to_connection}
use Rattle.store_side.specs.Orders.{IsNext, LegalFrom, HasNoConnect, ConnectsOnce}
use Rattle.store_side.specs.Past.{Past, after_all, state_of}
use Rattle.store_side.specs.declared.entry.Entry.{Entry}
use Rattle.store_side.specs.declared.entry.Entry.TheVariants.{Connect, Take, Lost, Expire}
use Rattle.store_side.proofs.Zipping.{zips_append}

-- what goes to a connection, of two lists of outputs
pub to_connection-append : (c : ℕ) (os us : List Output) → to_connection c (os ++ us) ≡ to_connection c os ++ to_connection c us
unfolding to_connection
to_connection-append c [] us = refl
to_connection-append c (o ∷ os) us = go (o.connection == c) (to_connection-append c os us)
  where
    go : (b : Bool) → to_connection c (os ++ us) ≡ to_connection c os ++ to_connection c us
        → cond b (o.message ∷ to_connection c (os ++ us)) (to_connection c (os ++ us)) ≡ cond b (o.message ∷ to_connection c os) (to_connection c os) ++ to_connection c us
    go true h = ap (λ (l : List Message). o.message ∷ l) h
    go false h = h

-- ---- runs

pub after_all-append : (naming : Naming) (s : State) (xs ys : List Act) → after_all naming s (xs ++ ys) ≡ after_all naming (after_all naming s xs) ys
unfolding after_all
after_all-append naming s [] ys = refl
after_all-append naming s (a ∷ xs) ys = after_all-append naming (step naming s a).state xs ys

pub outputs-append : (naming : Naming) (s : State) (xs ys : List Act) → outputs naming s (xs ++ ys) ≡ outputs naming s xs ++ outputs naming (after_all naming s xs) ys
unfolding after_all outputs
outputs-append naming s [] ys = refl
outputs-append naming s (a ∷ xs) ys = rw (outputs-append naming (step naming s a).state xs ys) (simp append_assoc)

-- one act
pub after_one : (naming : Naming) (s : State) (a : Act) → after_all naming s (a ∷ []) ≡ (step naming s a).state
unfolding after_all
after_one naming s a = refl

pub outputs_one : (naming : Naming) (s : State) (a : Act) → outputs naming s (a ∷ []) ≡ (step naming s a).outputs
unfolding outputs
outputs_one naming s a = append-nil (step naming s a).outputs

-- two acts
pub after_two : (naming : Naming) (s : State) (a b : Act) → after_all naming s (a ∷ b ∷ []) ≡ (step naming (step naming s a).state b).state
unfolding after_all
after_two naming s a b = refl

pub outputs_two : (naming : Naming) (s : State) (a b : Act) → outputs naming s (a ∷ b ∷ []) ≡ (step naming s a).outputs ++ (step naming (step naming s a).state b).outputs
unfolding outputs
outputs_two naming s a b = rw (append-nil (step naming (step naming s a).state b).outputs) refl

-- the state of a past with more acts
pub state_of-append : (past : Past) (es : List Entry) (xs : List Act)
    → state_of (record past { order = past.order ++ es; acts = past.acts ++ xs }) ≡ after_all past.naming (state_of past) xs
unfolding state_of
state_of-append past es xs = after_all-append past.naming start past.acts xs

-- ---- orders

pub legal-append : (naming : Naming) (passwords : ℤ → List ℕ) (s : State) (es fs : List Entry) (xs ys : List Act)
    → LegalFrom naming passwords s es xs → LegalFrom naming passwords (after_all naming s xs) fs ys → LegalFrom naming passwords s (es ++ fs) (xs ++ ys)
unfolding LegalFrom after_all
legal-append naming passwords s [] fs [] ys h k = k
legal-append naming passwords s [] fs (a ∷ xs) ys h k = absurd h
legal-append naming passwords s (e ∷ es) fs [] ys h k = absurd h
legal-append naming passwords s (e ∷ es) fs (a ∷ xs) ys h k = (h.0, legal-append naming passwords (step naming s a).state es fs xs ys h.1 k)

pub legal_one : (naming : Naming) (passwords : ℤ → List ℕ) (s : State) (e : Entry) (a : Act)
    → IsNext naming passwords s e a → LegalFrom naming passwords s (e ∷ []) (a ∷ [])
unfolding LegalFrom
legal_one naming passwords s e a h = (h, tt)

pub legal_two : (naming : Naming) (passwords : ℤ → List ℕ) (s : State) (e f : Entry) (a b : Act)
    → IsNext naming passwords s e a → IsNext naming passwords (step naming s a).state f b → LegalFrom naming passwords s (e ∷ f ∷ []) (a ∷ b ∷ [])
unfolding LegalFrom
legal_two naming passwords s e f a b h k = (h, (k, tt))

pub acts-append : (es fs : List Entry) (xs ys : List Act) → AreActs es xs → AreActs fs ys → AreActs (es ++ fs) (xs ++ ys)
acts-append es fs xs ys h k = zips_append IsAct es fs xs ys h k

pub no_connect-append : (c : ℕ) (es fs : List Entry) → HasNoConnect c es → HasNoConnect c fs → HasNoConnect c (es ++ fs)
unfolding HasNoConnect
no_connect-append c [] fs h k = k
no_connect-append c (Connect d asked session timeout password zxid now ∷ es) fs h k = (h.0, no_connect-append c es fs h.1 k)
no_connect-append c (Take d xid request zxid now ∷ es) fs h k = no_connect-append c es fs h k
no_connect-append c (Lost d ∷ es) fs h k = no_connect-append c es fs h k
no_connect-append c (Expire session zxid now ∷ es) fs h k = no_connect-append c es fs h k

pub no_connect-front : (c : ℕ) (es fs : List Entry) → HasNoConnect c (es ++ fs) → HasNoConnect c es
unfolding HasNoConnect
no_connect-front c [] fs h = tt
no_connect-front c (Connect d asked session timeout password zxid now ∷ es) fs h = (h.0, no_connect-front c es fs h.1)
no_connect-front c (Take d xid request zxid now ∷ es) fs h = no_connect-front c es fs h
no_connect-front c (Lost d ∷ es) fs h = no_connect-front c es fs h
no_connect-front c (Expire session zxid now ∷ es) fs h = no_connect-front c es fs h

pub no_connect-back : (c : ℕ) (es fs : List Entry) → HasNoConnect c (es ++ fs) → HasNoConnect c fs
unfolding HasNoConnect
no_connect-back c [] fs h = h
no_connect-back c (Connect d asked session timeout password zxid now ∷ es) fs h = no_connect-back c es fs h.1
no_connect-back c (Take d xid request zxid now ∷ es) fs h = no_connect-back c es fs h
no_connect-back c (Lost d ∷ es) fs h = no_connect-back c es fs h
no_connect-back c (Expire session zxid now ∷ es) fs h = no_connect-back c es fs h

-- no entry that is no connect is one of a connection
pub no_connect_take : (c d : ℕ) (xid : ℤ) (request : Request) (zxid now : ℤ) → HasNoConnect c (Take d xid request zxid now ∷ [])
unfolding HasNoConnect
no_connect_take c d xid request zxid now = tt

pub no_connect_lost : (c d : ℕ) → HasNoConnect c (Lost d ∷ [])
unfolding HasNoConnect
no_connect_lost c d = tt

pub no_connect_expire : (c : ℕ) (session zxid now : ℤ) → HasNoConnect c (Expire session zxid now ∷ [])
unfolding HasNoConnect
no_connect_expire c session zxid now = tt

-- entries with no connect behind those where each connection connects once
pub once_quiet : (es fs : List Entry) → ConnectsOnce es → ((c : ℕ) → HasNoConnect c fs) → ConnectsOnce fs → ConnectsOnce (es ++ fs)
unfolding ConnectsOnce
once_quiet [] fs h q k = k
once_quiet (Connect d asked session timeout password zxid now ∷ es) fs h q k = (no_connect-append d es fs h.0 (q d), once_quiet es fs h.1 q k)
once_quiet (Take d xid request zxid now ∷ es) fs h q k = once_quiet es fs h q k
once_quiet (Lost d ∷ es) fs h q k = once_quiet es fs h q k
once_quiet (Expire session zxid now ∷ es) fs h q k = once_quiet es fs h q k

pub once_take : (es : List Entry) (d : ℕ) (xid : ℤ) (request : Request) (zxid now : ℤ) → ConnectsOnce es → ConnectsOnce (es ++ Take d xid request zxid now ∷ [])
unfolding ConnectsOnce
once_take es d xid request zxid now h = once_quiet es (Take d xid request zxid now ∷ []) h (λ c. no_connect_take c d xid request zxid now) tt

pub once_lost : (es : List Entry) (d : ℕ) → ConnectsOnce es → ConnectsOnce (es ++ Lost d ∷ [])
unfolding ConnectsOnce
once_lost es d h = once_quiet es (Lost d ∷ []) h (λ c. no_connect_lost c d) tt

pub once_expire : (es : List Entry) (session zxid now : ℤ) → ConnectsOnce es → ConnectsOnce (es ++ Expire session zxid now ∷ [])
unfolding ConnectsOnce
once_expire es session zxid now h = once_quiet es (Expire session zxid now ∷ []) h (λ c. no_connect_expire c session zxid now) tt

-- entries whose connects are of one connection, which has not connected before
pub once-append : (c : ℕ) (es fs : List Entry) → HasNoConnect c es → ((d : ℕ) → d ≢ c → HasNoConnect d fs) → ConnectsOnce es → ConnectsOnce fs
    → ConnectsOnce (es ++ fs)
unfolding ConnectsOnce HasNoConnect
once-append c [] fs n q h k = k
once-append c (Connect d asked session timeout password zxid now ∷ es) fs n q h k =
    (no_connect-append d es fs h.0 (q d n.0), once-append c es fs n.1 q h.1 k)
once-append c (Take d xid request zxid now ∷ es) fs n q h k = once-append c es fs n q h k
once-append c (Lost d ∷ es) fs n q h k = once-append c es fs n q h k
once-append c (Expire session zxid now ∷ es) fs n q h k = once-append c es fs n q h k

other : (c d : ℕ) → d ≢ c → c ≢ d
other c d h e = h (sym e)

pub once_connect : (es : List Entry) (c : ℕ) (asked : ConnectRequest) (session timeout : ℤ) (password : List ℕ) (zxid now : ℤ) → HasNoConnect c es → ConnectsOnce es
    → ConnectsOnce (es ++ Connect c asked session timeout password zxid now ∷ [])
unfolding ConnectsOnce HasNoConnect
once_connect es c asked session timeout password zxid now n h =
    once-append c es (Connect c asked session timeout password zxid now ∷ []) n (λ d o. (other c d o, tt)) h (tt, tt)

-- the same behind the loss of the connection that had the session
pub once_moved : (es : List Entry) (x c : ℕ) (asked : ConnectRequest) (session timeout : ℤ) (password : List ℕ) (zxid now : ℤ) → HasNoConnect c es → ConnectsOnce es
    → ConnectsOnce (es ++ Lost x ∷ Connect c asked session timeout password zxid now ∷ [])
unfolding ConnectsOnce HasNoConnect
once_moved es x c asked session timeout password zxid now n h =
    once-append c es (Lost x ∷ Connect c asked session timeout password zxid now ∷ []) n (λ d o. (other c d o, tt)) h (tt, tt)
