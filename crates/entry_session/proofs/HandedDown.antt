-- For each frame of the store one frame is handed down, but for one that ends the session.
use Rattle.std.proofs.Common.{◌≡◌, ℕ, zero, suc, ℤ, List, [], ◌∷◌, ◌++◌, Option, Some, None, length, refl, sym, ap, subst, ◌∙◌, arith, length-append}
use Rattle.payload_seal.specs.declared.keys.EntryKeys.{EntryKeys}
use Rattle.zk_records.specs.declared.connect.ConnectRequest.{ConnectRequest}
use Rattle.zk_messages.specs.declared.request.Item.{Item}
use Rattle.zk_messages.specs.declared.request.Item.TheVariants as items
use Rattle.request_queue.specs.declared.asked.Asked.{Asked}
use Rattle.request_queue.specs.declared.asked.Asked.TheVariants as asks
use Rattle.entry_session.specs.ClientTurns.{ClientTurn, malformed_frame, full_queue, spent_ivs, handed_up}
use Rattle.entry_session.specs.Heard.{Heard, from_client, from_store, bad_client, bad_store, given, store_frames}
use Rattle.entry_session.specs.Laws.{IsStopped, HandsDown, HandsDownOneForOne}
use Rattle.entry_session.specs.Runs.{IsGivenEnding, TurnOf, Ran}
use Rattle.entry_session.specs.Stands.{Stand, fresh, ends}
use Rattle.entry_session.specs.StoreTurns.{ending_by, UnaskedTurn, ConnectTurn, EventTurn, ReplyTurn, LaterTurn, StoreTurn}
use Rattle.entry_session.specs.StoreTurns.{cut_short, nothing_open, connected, other_form, malformed_event, bad_event, opened_event}
use Rattle.entry_session.specs.StoreTurns.{other_xid, malformed_reply, handed_down, no_first_int, an_event, none_waits, a_reply}
use Rattle.entry_session.specs.declared.ending.Ending.{Ending}
use Rattle.entry_session.specs.declared.ending.Ending.TheVariants as endings
use Rattle.entry_session.proofs.Turns.{goes}

not_stopped : (o : Option Ending) → o ≡ None → IsStopped o → ⊥
unfolding IsStopped
not_stopped o e h = subst IsStopped e h

one_more : {A : Type 0} (xs : List A) (x : A) → length (xs ++ x ∷ []) ≡ suc (length xs)
one_more xs x = omega (arith, length-append xs (x ∷ []))

-- what a frame of the store gave
pub data Gives (old new : Stand) : Type 0 where
  gives_none : new.down ≡ old.down → IsStopped new.ending → Gives old new
  gives_one : length new.down ≡ suc (length old.down) → (IsStopped new.ending → ⊥) → Gives old new

stops_at : (old new : Stand) (e : Ending) → new ≡ ends old e → IsStopped (Some e) → Gives old new
stops_at old new e i h = gives_none (ap (λ (s : Stand). s.down) i) (subst (λ (s : Stand). IsStopped s.ending) (sym i) h)

unasked_gives : (old : Stand) (body : List ℕ) (new : Stand) → UnaskedTurn old body new → Gives old new
unfolding IsStopped
unasked_gives old body new (cut_short f) = gives_none refl tt
unasked_gives old body new (nothing_open z f) = gives_none refl tt

connect_gives : (asked : ConnectRequest) (old : Stand) (body : List ℕ) (new : Stand) → old.ending ≡ None → ConnectTurn asked old body new → Gives old new
unfolding IsStopped
connect_gives asked old body new going (connected r f g) = gives_one (one_more old.down body) (not_stopped old.ending going)
connect_gives asked old body new going (other_form refusal f) = gives_none refl tt

event_gives : (k : EntryKeys) (old : Stand) (body : List ℕ) (new : Stand) → old.ending ≡ None → EventTurn k old body new → Gives old new
unfolding IsStopped
event_gives k old body new going (malformed_event refusal f) = gives_none refl tt
event_gives k old body new going (bad_event e flaw f g) = gives_none refl tt
event_gives k old body new going (opened_event e p out f g h) = gives_one (one_more old.down out) (not_stopped old.ending going)

closed_or_none : (asked : Asked) → IsStopped (ending_by asked) → ⊥
unfolding ending_by IsStopped
closed_or_none asks.Close h = h
closed_or_none asked h = h

reply_gives : (k : EntryKeys) (c : ℕ) (xid : ℤ) (asked : Asked) (old : Stand) (body : List ℕ) (new : Stand) → ReplyTurn k c xid asked old body new → Gives old new
unfolding IsStopped
reply_gives k c xid asked old body new (other_xid z f g) = gives_none refl tt
reply_gives k c xid asked old body new (malformed_reply refusal f g) = gives_none refl tt
reply_gives k c xid asked old body new (handed_down stored told cause out f g h i) = gives_one (one_more old.down out) (closed_or_none asked)

later_gives : (k : EntryKeys) (c : ℕ) (old : Stand) (body : List ℕ) (new : Stand) → old.ending ≡ None → LaterTurn k c old body new → Gives old new
unfolding IsStopped
later_gives k c old body new going (no_first_int f e) = stops_at old new _ e tt
later_gives k c old body new going (an_event f t) = event_gives k old body new going t
later_gives k c old body new going (none_waits z f g i e) = stops_at old new _ e tt
later_gives k c old body new going (a_reply z xid q asked f g i a t) = reply_gives k c xid asked old body new t

-- a frame of the store gives one, or ends the session
pub store_gives : (k : EntryKeys) (c : ℕ) (old : Stand) (body : List ℕ) (new : Stand) (is : List Item) (n : ℕ) → old.ending ≡ None → StoreTurn k c old body new is n → Gives old new
unfolding StoreTurn
store_gives k c old body new [] n going t = unasked_gives old body new t
store_gives k c old body new (items.Asks asked ∷ is) zero going t = connect_gives asked old body new going t
store_gives k c old body new (items.Asks asked ∷ is) (suc n) going t = later_gives k c old body new going t
store_gives k c old body new (items.Requests xid q ∷ is) n going t = later_gives k c old body new going t

-- nothing was handed down, and the session was not stopped
record Same (old new : Stand) : Type 0 where
  down_is : new.down ≡ old.down
  goes_on : IsStopped new.ending → ⊥

ends_same : (old new : Stand) (e : Ending) → new ≡ ends old e → (IsStopped (Some e) → ⊥) → Same old new
ends_same old new e i h = record { down_is = ap (λ (s : Stand). s.down) i; goes_on = λ x. h (subst (λ (s : Stand). IsStopped s.ending) i x) }

client_same : (k : EntryKeys) (boot c : ℕ) (old : Stand) (body : List ℕ) (new : Stand) → old.ending ≡ None → ClientTurn k boot c old body new → Same old new
unfolding IsStopped
client_same k boot c old body new going (malformed_frame refusal f) = record { down_is = refl; goes_on = λ h. h }
client_same k boot c old body new going (full_queue i f g) = record { down_is = refl; goes_on = λ h. h }
client_same k boot c old body new going (spent_ivs i n f g p l) = record { down_is = refl; goes_on = λ h. h }
client_same k boot c old body new going (handed_up i v n out f g p l q o) = record { down_is = refl; goes_on = not_stopped old.ending going }

given_stops : (e : Ending) → IsGivenEnding e → IsStopped (Some e) → ⊥
unfolding IsGivenEnding IsStopped
given_stops endings.ClientEnd g h = h
given_stops endings.StoreEnd g h = h
given_stops endings.ClientFault g h = h
given_stops endings.StoreFault g h = h
given_stops endings.Turns g h = h
given_stops e g h = absurd g

-- before, while the session went on
record Counted (hs : List Heard) (s : Stand) : Type 0 where
  going : s.ending ≡ None
  count : length s.down ≡ length (store_frames hs)

all_down : (hs more : List Heard) (old new : Stand) → store_frames more ≡ store_frames hs → Counted hs old → Same old new → HandsDown more new
all_down hs more old new e x s = record {
  stopped = λ h. absurd (s.goes_on h);
  others = λ h. ap length s.down_is ∙ x.count ∙ sym (ap length e);
}

store_down : (hs : List Heard) (body : List ℕ) (old new : Stand) → Counted hs old → Gives old new → HandsDown (from_store body ∷ hs) new
unfolding store_frames
store_down hs body old new x (gives_none e h) = record { stopped = λ i. omega (arith, ap length e, x.count, one_more (store_frames hs) body); others = λ i. absurd (i h) }
store_down hs body old new x (gives_one e h) = record { stopped = λ i. absurd (h i); others = λ i. omega (arith, e, x.count, one_more (store_frames hs) body) }

turn_down : (k : EntryKeys) (boot c : ℕ) (hs : List Heard) (old : Stand) (h : Heard) (new : Stand) → TurnOf k boot c old h new → Counted hs old → HandsDown (h ∷ hs) new
unfolding TurnOf store_frames IsStopped
turn_down k boot c hs old (from_client body) new t x = all_down hs (from_client body ∷ hs) old new refl x (client_same k boot c old body new x.going t.1)
turn_down k boot c hs old (from_store body) new t x = store_down hs body old new x (store_gives k c old body new old.items old.answered x.going t.1)
turn_down k boot c hs old (bad_client z) new t x = all_down hs (bad_client z ∷ hs) old new refl x (ends_same old new _ t.1 (λ h. h))
turn_down k boot c hs old (bad_store z) new t x = all_down hs (bad_store z ∷ hs) old new refl x (ends_same old new _ t.1 (λ h. h))
turn_down k boot c hs old (given e) new t x = all_down hs (given e ∷ hs) old new refl x (ends_same old new e t.1 (given_stops e t.0))

fresh_down : (s : Stand) → s ≡ fresh → HandsDown [] s
unfolding IsStopped store_frames
fresh_down s e = subst (HandsDown []) (sym e) (record { stopped = λ h. absurd h; others = λ h. refl })

pub hands_down : HandsDownOneForOne
unfolding Ran
hands_down k boot c [] s e = fresh_down s e
hands_down k boot c (h ∷ hs) s (old, ran, t) =
    let g = goes k boot c old h s t in
    turn_down k boot c hs old h s g.turn (record { going = g.going; count = (hands_down k boot c hs old ran).others (not_stopped old.ending g.going) })
