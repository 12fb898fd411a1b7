-- Nothing that a session hears ends it for want of memory.
use Rattle.std.proofs.Common.{◌≡◌, ℕ, zero, suc, ℤ, List, [], ◌∷◌, Option, Some, None, sym, subst}
use Rattle.payload_seal.specs.declared.keys.EntryKeys.{EntryKeys}
use Rattle.zk_records.specs.declared.connect.ConnectRequest.{ConnectRequest}
use Rattle.zk_messages.specs.declared.request.Item.{Item}
use Rattle.zk_messages.specs.declared.request.Item.TheVariants as items
use Rattle.request_queue.specs.declared.asked.Asked.{Asked}
use Rattle.request_queue.specs.declared.asked.Asked.TheVariants as asks
use Rattle.entry_session.specs.ClientTurns.{ClientTurn, malformed_frame, full_queue, spent_ivs, handed_up}
use Rattle.entry_session.specs.Heard.{Heard, from_client, from_store, bad_client, bad_store, given}
use Rattle.entry_session.specs.Laws.{NeverWantsMemory}
use Rattle.entry_session.specs.Runs.{IsGivenEnding, TurnOf, Ran}
use Rattle.entry_session.specs.Stands.{Stand, ends}
use Rattle.entry_session.specs.StoreTurns.{ending_by, UnaskedTurn, ConnectTurn, EventTurn, ReplyTurn, LaterTurn, StoreTurn}
use Rattle.entry_session.specs.StoreTurns.{cut_short, nothing_open, connected, other_form, malformed_event, bad_event, opened_event}
use Rattle.entry_session.specs.StoreTurns.{other_xid, malformed_reply, handed_down, no_first_int, an_event, none_waits, a_reply}
use Rattle.entry_session.specs.declared.ending.Ending.{Ending}
use Rattle.entry_session.specs.declared.ending.Ending.TheVariants as endings
use Rattle.entry_session.proofs.Turns.{goes}

-- an ending, if there is one, that is not want of memory
unfoldable IsOther : Option Ending → Type 0
IsOther (Some endings.Memory) = ⊥
IsOther o = Unit {0}

goes_on : (o : Option Ending) → o ≡ None → IsOther o
unfolding IsOther
goes_on o e = subst IsOther (sym e) tt

given_other : (e : Ending) → IsGivenEnding e → IsOther (Some e)
unfolding IsGivenEnding IsOther
given_other endings.Memory h = h
given_other e h = tt

ends_other : (old new : Stand) (e : Ending) → new ≡ ends old e → IsOther (Some e) → IsOther new.ending
ends_other old new e i h = subst (λ (s : Stand). IsOther s.ending) (sym i) h

client_other : (k : EntryKeys) (boot c : ℕ) (old : Stand) (body : List ℕ) (new : Stand) → old.ending ≡ None → ClientTurn k boot c old body new → IsOther new.ending
unfolding IsOther
client_other k boot c old body new going (malformed_frame refusal f) = tt
client_other k boot c old body new going (full_queue i f g) = tt
client_other k boot c old body new going (spent_ivs i n f g p m) = tt
client_other k boot c old body new going (handed_up i v n out f g p m q o) = goes_on old.ending going

unasked_other : (old : Stand) (body : List ℕ) (new : Stand) → UnaskedTurn old body new → IsOther new.ending
unfolding IsOther
unasked_other old body new (cut_short f) = tt
unasked_other old body new (nothing_open z f) = tt

connect_other : (asked : ConnectRequest) (old : Stand) (body : List ℕ) (new : Stand) → old.ending ≡ None → ConnectTurn asked old body new → IsOther new.ending
unfolding IsOther
connect_other asked old body new going (connected r f g) = goes_on old.ending going
connect_other asked old body new going (other_form refusal f) = tt

event_other : (k : EntryKeys) (old : Stand) (body : List ℕ) (new : Stand) → old.ending ≡ None → EventTurn k old body new → IsOther new.ending
unfolding IsOther
event_other k old body new going (malformed_event refusal f) = tt
event_other k old body new going (bad_event e flaw f g) = tt
event_other k old body new going (opened_event e p out f g h) = goes_on old.ending going

closed_other : (asked : Asked) → IsOther (ending_by asked)
unfolding ending_by IsOther
closed_other asks.Close = tt
closed_other asked = tt

reply_other : (k : EntryKeys) (c : ℕ) (xid : ℤ) (asked : Asked) (old : Stand) (body : List ℕ) (new : Stand) → ReplyTurn k c xid asked old body new → IsOther new.ending
unfolding IsOther
reply_other k c xid asked old body new (other_xid z f g) = tt
reply_other k c xid asked old body new (malformed_reply refusal f g) = tt
reply_other k c xid asked old body new (handed_down stored told cause out f g h i) = closed_other asked

later_other : (k : EntryKeys) (c : ℕ) (old : Stand) (body : List ℕ) (new : Stand) → old.ending ≡ None → LaterTurn k c old body new → IsOther new.ending
unfolding IsOther
later_other k c old body new going (no_first_int f e) = ends_other old new _ e tt
later_other k c old body new going (an_event f t) = event_other k old body new going t
later_other k c old body new going (none_waits z f g i e) = ends_other old new _ e tt
later_other k c old body new going (a_reply z xid q asked f g i a t) = reply_other k c xid asked old body new t

store_other : (k : EntryKeys) (c : ℕ) (old : Stand) (body : List ℕ) (new : Stand) (is : List Item) (n : ℕ) → old.ending ≡ None → StoreTurn k c old body new is n → IsOther new.ending
unfolding StoreTurn
store_other k c old body new [] n going t = unasked_other old body new t
store_other k c old body new (items.Asks asked ∷ is) zero going t = connect_other asked old body new going t
store_other k c old body new (items.Asks asked ∷ is) (suc n) going t = later_other k c old body new going t
store_other k c old body new (items.Requests xid q ∷ is) n going t = later_other k c old body new going t

turn_other : (k : EntryKeys) (boot c : ℕ) (old : Stand) (h : Heard) (new : Stand) → old.ending ≡ None → TurnOf k boot c old h new → IsOther new.ending
unfolding TurnOf IsOther
turn_other k boot c old (from_client body) new going t = client_other k boot c old body new going t.1
turn_other k boot c old (from_store body) new going t = store_other k c old body new old.items old.answered going t.1
turn_other k boot c old (bad_client z) new going t = ends_other old new _ t.1 tt
turn_other k boot c old (bad_store z) new going t = ends_other old new _ t.1 tt
turn_other k boot c old (given e) new going t = ends_other old new e t.1 (given_other e t.0)

other : (k : EntryKeys) (boot c : ℕ) (hs : List Heard) (s : Stand) → Ran k boot c hs s → IsOther s.ending
unfolding Ran IsOther
other k boot c [] s e = subst (λ (t : Stand). IsOther t.ending) (sym e) tt
other k boot c (h ∷ hs) s (old, ran, t) = let g = goes k boot c old h s t in turn_other k boot c old h s g.going g.turn

pub never_wants_memory : NeverWantsMemory
unfolding IsOther
never_wants_memory k boot c hs s ran e = subst IsOther e (other k boot c hs s ran)
