-- A frame of a connection that has a session was not taken.
use Rattle.std.proofs.Common.{◌≡◌, ◌≢◌, ℕ, ℤ, ◌+◌, ◌<◌, ◌≤◌, ◌^◌, List, [], ◌∷◌, length, length-append, Some, Result, Ok, Err, IfErr, IsErrAnd, refl, sym, ap, subst, inl, inr, arith}
use Rattle.zk_messages.specs.Requests.{RefusedRequest, SpellsRequest}
use Rattle.zk_messages.specs.Short.{HasShortParts}
use Rattle.zk_messages.specs.declared.request.Request.{Request}
use Rattle.zk_messages.specs.declared.request.Request.TheVariants as requests
use Rattle.zk_messages.proofs.ShortParts.{short_when_read}
use Rattle.tree_state.specs.declared.held.Held.{Held}
use Rattle.tree_state.specs.Commands.{Command, IsCommand, close}
use Rattle.tree_state.specs.State.{State, session_of}
use Rattle.tree_state.specs.Step.{asks as asking, step}
use Rattle.store_side.specs.declared.ending.StoreEnding.{StoreEnding}
use Rattle.store_side.specs.declared.entry.Entry.{Entry}
use Rattle.store_side.specs.declared.entry.Entry.TheVariants.{Take}
use Rattle.store_side.specs.Calls.{IsRefused, full, no_request, owed_after, too_much}
use Rattle.store_side.specs.Fitting.{answer_length, frame_limit}
use Rattle.store_side.specs.Owed.{reserves}
use Rattle.store_side.specs.Past.{Past, state_of}
use Rattle.store_side.proofs.Appended.{after_one}
use Rattle.tree_server.specs.declared.books.Books.{Books}
use Rattle.tree_server.specs.Asking.{CannotTake, IsUnread}
use Rattle.tree_server.specs.Asking.{full as no_room, too_much as too_long}
use Rattle.tree_server.specs.Machines.{NotTaken, Stands}
use Rattle.tree_server.proofs.AskedSessions.{closing, heard_sessions, not_closing}
use Rattle.tree_server.proofs.RequestEntries.{would_take}
use Rattle.tree_server.proofs.Reserves.{reserves_heard}

-- what holds of an error that was passed on
pub if_err : {A E : Type 0} (r : Result A E) (e : E) (P : E → Type 0) → IsErrAnd r (λ y. y ≡ e) → P e → IfErr r P
if_err (Ok x) e P h k = tt
if_err (Err y) e P h k = subst P (sym h) k

-- a request that was read has short parts
pub short_parts : (xid : ℤ) (r : Request) (body : List ℕ) → length body ≤ frame_limit → SpellsRequest xid r body → HasShortParts r
short_parts xid r body short spelled = short_when_read xid r body (omega (arith, short)) spelled

-- it is no request
pub not_read : (past : Past) (c : ℕ) (k now : ℤ) (body : List ℕ) (e : StoreEnding) → session_of c (state_of past).sessions ≡ Some k
    → IsUnread body RefusedRequest e
    → NotTaken past c now body e
not_read past c k now body e on (inl memory) = inl memory
not_read past c k now body e on (inr h) =
    inr (subst (IsRefused past c now body) (sym h.1) (no_request h.0 (record { session = k; live = on }) h.2))

-- a closeSession is answered with no list
close_short : (s : State) (command : Command) → command ≡ close → answer_length s command ≡ 0
unfolding answer_length
close_short s command e = ap (answer_length s) e

open_still : (s : State) (r : Request) (command : Command) → IsCommand r command → 2 ^ 31 ≤ answer_length s command → r ≢ requests.Close
open_still s r command a long e = let z = close_short s command (closing r command a e) in absurd (omega (arith, z, long))

-- how many entries there would be
owed_one : (past : Past) (c : ℕ) (k xid zxid now : ℤ) (r : Request) (command : Command) → session_of c (state_of past).sessions ≡ Some k
    → command ≢ close
    → owed_after past (Take c xid r zxid now ∷ []) (asking c xid command now ∷ []) ≡ length past.order + 1 + reserves
    (state_of past).sessions
unfolding owed_after
owed_one past c k xid zxid now r command on other =
    let s = state_of past in
    let act = asking c xid command now in
    let a = ap (λ (t : State). reserves t.sessions) (after_one past.naming s act) in
    let b = ap reserves (heard_sessions past.naming s c k xid now command on other) in
    let d = reserves_heard k now s.sessions in
    let l = length-append past.order (Take c xid r zxid now ∷ []) in
    omega (arith, a, b, d, l)

-- there is no room for its entry, or its answer is too long
pub not_taken : (named : List ℕ → ℕ → List ℕ → Type 0) (keeps : List Entry → Type 0) (room : ℕ) (held : Held) (books : Books) (past : Past)
    (c : ℕ) (k xid now : ℤ) (r : Request)
    (body : List ℕ) (e : StoreEnding)
    → Stands named keeps room held books past → session_of c (state_of past).sessions ≡ Some k → SpellsRequest xid r body
    → CannotTake books (state_of past) r e
    → NotTaken past c now body e
not_taken named keeps room held books past c k xid now r body e h on spelled (no_room command a other none) =
    let zxid = (step past.naming (state_of past) (asking c xid command now)).state.last in
    let n = owed_one past c k xid zxid now r command on (not_closing r command a other) in
    inr (full (Take c xid r zxid now ∷ []) (asking c xid command now ∷ [])
    (would_take past c k xid zxid now r command body spelled a on refl)
    (omega (arith, n, none, h.counted, h.owes, h.limit)))
not_taken named keeps room held books past c k xid now r body e h on spelled (too_long size command a long size_is place) =
    let small : books.limit < 2 ^ 63 = subst (λ (n : ℕ). n < 2 ^ 63) (sym h.limit) h.small in
    let p = place (open_still (state_of past) r command a long) small in
    inr (too_much size (record { session = k; live = on }) (record {
      xid = xid;
      request = r;
      command = command;
      spelled = spelled;
      is_command = a;
      long = long;
      size_is = size_is;
      room = omega (arith, p, h.counted, h.owes, h.limit);
    }))
