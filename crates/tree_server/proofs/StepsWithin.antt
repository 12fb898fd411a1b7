-- The entries of a frame keep a store within its limit one by one.
use Rattle.std.proofs.Common.{◌≡◌, ℕ, ℤ, ◌+◌, ◌≤◌, List, [], ◌∷◌, ◌++◌, length, length-append, map, Option, Some, None, refl, ap, subst, sym, ◌∙◌, arith}
use Rattle.tree_state.specs.Changes.{Naming}
use Rattle.tree_state.specs.State.{State, Session, session_at, without_connection}
use Rattle.tree_state.specs.Step.{Act, connection_at, loses, step}
use Rattle.tree_state.specs.Sessions.{IsOnOne}
use Rattle.tree_state.proofs.SessionLists.{AreDistinct}
use Rattle.store_side.specs.declared.entry.Entry.{Entry}
use Rattle.store_side.specs.declared.entry.Entry.TheVariants.{Connect, Take, Lost, Expire}
use Rattle.store_side.specs.Acts.{AreActs, IsAct}
use Rattle.store_side.specs.Zips.{Zips}
use Rattle.store_side.specs.Owed.{reserves}
use Rattle.store_side.specs.Orders.{HasSession}
use Rattle.store_side.specs.Past.{after_all}
use Rattle.store_side.specs.Calls.{AreFrames, AreRequests, IsMoved, StaysWithin, lost_first}
use Rattle.store_side.proofs.Within.{within_one}
use Rattle.tree_server.specs.Times.{sessions_after}
use Rattle.tree_server.proofs.KeptSessions.{FrameTaken}
use Rattle.tree_server.proofs.Reserves.{reserves_lost}
use Rattle.tree_server.proofs.SessionsAfter.{sessions_step}

-- who had the session that moved has a session
pub had_session : (s : State) (d : ℕ) (frames : List Entry) → IsOnOne s.sessions → IsMoved s (Some d) frames → HasSession s d
unfolding IsMoved connection_at
had_session s d [] one h = absurd h
had_session s d (Connect c asked session timeout password zxid now ∷ es) one h = go (session_at session s.sessions) refl h
  where
    go : (o : Option Session) → session_at session s.sessions ≡ o → connection_at o ≡ Some d → HasSession s d
    go None e f = absurd cc
    go (Some x) e f = record { session = session; live = one d x session e f }
had_session s d (Take c xid r zxid now ∷ es) one h = absurd h
had_session s d (Lost c ∷ es) one h = absurd h
had_session s d (Expire session zxid now ∷ es) one h = absurd h

-- one frame is one entry
no_entry : (c : ℕ) (now : ℤ) (body : List ℕ) → AreFrames c now [] (body ∷ []) → ⊥
unfolding AreFrames AreRequests
no_entry c now body h = h

one_entry : (c : ℕ) (now : ℤ) (body : List ℕ) (e f : Entry) (es : List Entry) → AreFrames c now (e ∷ f ∷ es) (body ∷ []) → ⊥
unfolding AreFrames AreRequests
one_entry c now body (Connect d asked session timeout password zxid at) f es h = h.3
one_entry c now body (Take d xid r zxid at) f es h = h.3
one_entry c now body (Lost d) f es h = h
one_entry c now body (Expire session zxid at) f es h = h

-- a loss takes one off what is owed
loss_owed : (naming : Naming) (s : State) (d : ℕ) → AreDistinct s.sessions → IsOnOne s.sessions → HasSession s d
    → reserves (step naming s (loses d)).state.sessions + 1 ≡ reserves s.sessions
unfolding sessions_after
loss_owed naming s d distinct one has =
    ap (λ (xs : List Session). reserves xs + 1) (sessions_step naming s (loses d)) ∙ reserves_lost d has.session s.sessions distinct one has.live

-- so the entry of the loss is within the limit where the store was
within_two : (naming : Naming) (limit count : ℕ) (s : State) (d : ℕ) (e : Entry) (acts : List Act) → AreActs (Lost d ∷ e ∷ []) acts
    → AreDistinct s.sessions → IsOnOne s.sessions → HasSession s d
    → count + reserves s.sessions ≤ limit → count + 2 + reserves (after_all naming s acts).sessions ≤ limit
    → StaysWithin naming limit count s acts
unfolding StaysWithin after_all Zips IsAct
within_two naming limit count s d e [] h distinct one has before now = absurd h
within_two naming limit count s d e (a ∷ []) h distinct one has before now = absurd h.1
within_two naming limit count s d e (a ∷ b ∷ []) h distinct one has before now =
    let owed : reserves (step naming s a).state.sessions + 1 ≡ reserves s.sessions =
    ap (λ (x : Act). reserves (step naming s x).state.sessions + 1) h.0 ∙ loss_owed naming s d distinct one has in
    (omega (arith, owed, before), (omega (arith, now), tt))
within_two naming limit count s d e (a ∷ b ∷ c ∷ acts) h distinct one has before now = absurd h.1.1

pub taken_within : (naming : Naming) (passwords : ℤ → List ℕ) (s : State) (c : ℕ) (now : ℤ) (body : List ℕ) (moved : Option ℕ)
    (frames : List Entry) (acts : List Act) (limit : ℕ) (order : List Entry)
    → FrameTaken naming passwords s c now body moved frames acts → length order + reserves s.sessions ≤ limit
    → length (order ++ (lost_first moved ++ frames)) + reserves (after_all naming s acts).sessions ≤ limit
    → StaysWithin naming limit (length order) s acts
unfolding lost_first
taken_within naming passwords s c now body moved [] acts limit order f before after = absurd (no_entry c now body f.spelled)
taken_within naming passwords s c now body None (e ∷ []) acts limit order f before after =
    let size = length-append order (e ∷ []) in
    within_one naming limit (length order) s e acts f.are_acts (omega (arith, size, after))
taken_within naming passwords s c now body (Some d) (e ∷ []) acts limit order f before after =
    let size = length-append order (Lost d ∷ e ∷ []) in
    within_two naming limit (length order) s d e acts f.are_acts f.distinct f.one (had_session s d (e ∷ []) f.one f.moves) before
    (omega (arith, size, after))
taken_within naming passwords s c now body moved (e ∷ g ∷ es) acts limit order f before after =
    absurd (one_entry c now body e g es f.spelled)
