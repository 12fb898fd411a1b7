-- What turns leave as it was.
use Rattle.std.proofs.Common.{◌≡◌, ℕ, zero, suc, ℤ, List, [], ◌∷◌, Option, Some, None, refl, sym, subst}
use Rattle.payload_seal.specs.declared.keys.EntryKeys.{EntryKeys}
use Rattle.zk_records.specs.declared.connect.ConnectRequest.{ConnectRequest}
use Rattle.zk_messages.specs.declared.request.Item.{Item}
use Rattle.zk_messages.specs.declared.request.Item.TheVariants as items
use Rattle.request_queue.specs.declared.asked.Asked.{Asked}
use Rattle.entry_session.specs.Heard.{Heard}
use Rattle.entry_session.specs.Stands.{Stand, ends}
use Rattle.entry_session.specs.StoreTurns.{UnaskedTurn, ConnectTurn, EventTurn, ReplyTurn, LaterTurn, StoreTurn}
use Rattle.entry_session.specs.StoreTurns.{cut_short, nothing_open, connected, other_form, malformed_event, bad_event, opened_event}
use Rattle.entry_session.specs.StoreTurns.{other_xid, malformed_reply, handed_down, no_first_int, an_event, none_waits, a_reply}
use Rattle.entry_session.specs.Runs.{TurnOf, TurnIf}
use Rattle.entry_session.specs.declared.ending.Ending.{Ending}

-- a session that hears something had not ended
pub record Goes (k : EntryKeys) (boot c : ℕ) (old : Stand) (h : Heard) (new : Stand) : Type 0 where
  pub going : old.ending ≡ None
  pub turn : TurnOf k boot c old h new

goes_by : (k : EntryKeys) (boot c : ℕ) (o : Option Ending) (old : Stand) (h : Heard) (new : Stand) → old.ending ≡ o → TurnIf k boot c o old h new → Goes k boot c old h new
unfolding TurnIf
goes_by k boot c (Some e) old h new i t = absurd t
goes_by k boot c None old h new i t = record { going = i; turn = t }

pub goes : (k : EntryKeys) (boot c : ℕ) (old : Stand) (h : Heard) (new : Stand) → TurnIf k boot c old.ending old h new → Goes k boot c old h new
goes k boot c old h new t = goes_by k boot c old.ending old h new refl t

pub some_none : {A : Type 0} (a : A) → Some a ≡ None → ⊥
some_none a e = cc

-- what was sent, and what was handed up of it
pub record SameUp (old new : Stand) : Type 0 where
  pub items_are : new.items ≡ old.items
  pub up_is : new.up ≡ old.up
  pub sealed_is : new.sealed ≡ old.sealed

same : (s : Stand) → SameUp s s
same s = record { items_are = refl; up_is = refl; sealed_is = refl }

up_along : (old new s : Stand) → new ≡ s → SameUp old s → SameUp old new
up_along old new s e h = subst (SameUp old) (sym e) h

ends_same : (old : Stand) (e : Ending) → SameUp old (ends old e)
ends_same old e = record { items_are = refl; up_is = refl; sealed_is = refl }

-- an ending leaves it
pub end_up : (old new : Stand) (e : Ending) → new ≡ ends old e → SameUp old new
end_up old new e i = up_along old new (ends old e) i (ends_same old e)

unasked_up : (old : Stand) (body : List ℕ) (new : Stand) → UnaskedTurn old body new → SameUp old new
unasked_up old body new (cut_short f) = record { items_are = refl; up_is = refl; sealed_is = refl }
unasked_up old body new (nothing_open z f) = record { items_are = refl; up_is = refl; sealed_is = refl }

connect_up : (asked : ConnectRequest) (old : Stand) (body : List ℕ) (new : Stand) → ConnectTurn asked old body new → SameUp old new
connect_up asked old body new (connected r f g) = record { items_are = refl; up_is = refl; sealed_is = refl }
connect_up asked old body new (other_form refusal f) = record { items_are = refl; up_is = refl; sealed_is = refl }

event_up : (k : EntryKeys) (old : Stand) (body : List ℕ) (new : Stand) → EventTurn k old body new → SameUp old new
event_up k old body new (malformed_event refusal f) = record { items_are = refl; up_is = refl; sealed_is = refl }
event_up k old body new (bad_event e flaw f g) = record { items_are = refl; up_is = refl; sealed_is = refl }
event_up k old body new (opened_event e p out f g h) = record { items_are = refl; up_is = refl; sealed_is = refl }

reply_up : (k : EntryKeys) (c : ℕ) (xid : ℤ) (asked : Asked) (old : Stand) (body : List ℕ) (new : Stand) → ReplyTurn k c xid asked old body new → SameUp old new
reply_up k c xid asked old body new (other_xid z f g) = record { items_are = refl; up_is = refl; sealed_is = refl }
reply_up k c xid asked old body new (malformed_reply refusal f g) = record { items_are = refl; up_is = refl; sealed_is = refl }
reply_up k c xid asked old body new (handed_down stored told cause out f g h i) = record { items_are = refl; up_is = refl; sealed_is = refl }

later_up : (k : EntryKeys) (c : ℕ) (old : Stand) (body : List ℕ) (new : Stand) → LaterTurn k c old body new → SameUp old new
later_up k c old body new (no_first_int f e) = end_up old new _ e
later_up k c old body new (an_event f t) = event_up k old body new t
later_up k c old body new (none_waits z f g i e) = end_up old new _ e
later_up k c old body new (a_reply z xid q asked f g i a t) = reply_up k c xid asked old body new t

-- a frame of the store leaves it
pub store_up : (k : EntryKeys) (c : ℕ) (old : Stand) (body : List ℕ) (new : Stand) (is : List Item) (n : ℕ) → StoreTurn k c old body new is n → SameUp old new
unfolding StoreTurn
store_up k c old body new [] n t = unasked_up old body new t
store_up k c old body new (items.Asks asked ∷ is) zero t = connect_up asked old body new t
store_up k c old body new (items.Asks asked ∷ is) (suc n) t = later_up k c old body new t
store_up k c old body new (items.Requests xid q ∷ is) n t = later_up k c old body new t
