-- No frame gives a session an ending that only its caller may give.
use Rattle.std.proofs.Common.{◌≡◌, ℕ, zero, suc, ℤ, List, [], ◌∷◌, ◌++◌, Option, Some, None, refl, sym, subst}
use Rattle.payload_seal.specs.declared.keys.EntryKeys.{EntryKeys}
use Rattle.zk_records.specs.declared.connect.ConnectRequest.{ConnectRequest}
use Rattle.zk_messages.specs.declared.request.Item.{Item}
use Rattle.zk_messages.specs.declared.request.Item.TheVariants as items
use Rattle.request_queue.specs.declared.asked.Asked.{Asked}
use Rattle.request_queue.specs.declared.asked.Asked.TheVariants as asks
use Rattle.entry_session.specs.ClientTurns.{ClientTurn, malformed_frame, full_queue, spent_ivs, handed_up}
use Rattle.entry_session.specs.Heard.{Heard, from_client, from_store, bad_client, bad_store, given}
use Rattle.entry_session.specs.Calls.{AreOfClient, AreOfStore}
use Rattle.entry_session.specs.Runs.{IsGivenEnding, TurnOf, TurnIf, Ran}
use Rattle.entry_session.specs.Stands.{Stand, ends}
use Rattle.entry_session.specs.StoreTurns.{ending_by, UnaskedTurn, ConnectTurn, EventTurn, ReplyTurn, LaterTurn, StoreTurn}
use Rattle.entry_session.specs.StoreTurns.{cut_short, nothing_open, connected, other_form, malformed_event, bad_event, opened_event}
use Rattle.entry_session.specs.StoreTurns.{other_xid, malformed_reply, handed_down, no_first_int, an_event, none_waits, a_reply}
use Rattle.entry_session.specs.declared.ending.Ending.{Ending}
use Rattle.entry_session.specs.declared.ending.Ending.TheVariants as endings

-- an ending, if there is one, that no caller may give
unfoldable pub IsOwn : Option Ending → Type 0
IsOwn (Some endings.ClientEnd) = ⊥
IsOwn (Some endings.StoreEnd) = ⊥
IsOwn (Some endings.ClientFault) = ⊥
IsOwn (Some endings.StoreFault) = ⊥
IsOwn (Some endings.Turns) = ⊥
IsOwn o = Unit {0}

goes_on : (o : Option Ending) → o ≡ None → IsOwn o
unfolding IsOwn
goes_on o e = subst IsOwn (sym e) tt

ends_own : (old new : Stand) (e : Ending) → new ≡ ends old e → IsOwn (Some e) → IsOwn new.ending
ends_own old new e i h = subst (λ (s : Stand). IsOwn s.ending) (sym i) h

client_own : (k : EntryKeys) (boot c : ℕ) (old : Stand) (body : List ℕ) (new : Stand) → old.ending ≡ None → ClientTurn k boot c old body new → IsOwn new.ending
unfolding IsOwn
client_own k boot c old body new going (malformed_frame refusal f) = tt
client_own k boot c old body new going (full_queue i f g) = tt
client_own k boot c old body new going (spent_ivs i n f g p m) = tt
client_own k boot c old body new going (handed_up i v n out f g p m q o) = goes_on old.ending going

unasked_own : (old : Stand) (body : List ℕ) (new : Stand) → UnaskedTurn old body new → IsOwn new.ending
unfolding IsOwn
unasked_own old body new (cut_short f) = tt
unasked_own old body new (nothing_open z f) = tt

connect_own : (asked : ConnectRequest) (old : Stand) (body : List ℕ) (new : Stand) → old.ending ≡ None → ConnectTurn asked old body new → IsOwn new.ending
unfolding IsOwn
connect_own asked old body new going (connected r f g) = goes_on old.ending going
connect_own asked old body new going (other_form refusal f) = tt

event_own : (k : EntryKeys) (old : Stand) (body : List ℕ) (new : Stand) → old.ending ≡ None → EventTurn k old body new → IsOwn new.ending
unfolding IsOwn
event_own k old body new going (malformed_event refusal f) = tt
event_own k old body new going (bad_event e flaw f g) = tt
event_own k old body new going (opened_event e p out f g h) = goes_on old.ending going

closed_own : (asked : Asked) → IsOwn (ending_by asked)
unfolding ending_by IsOwn
closed_own asks.Close = tt
closed_own asked = tt

reply_own : (k : EntryKeys) (c : ℕ) (xid : ℤ) (asked : Asked) (old : Stand) (body : List ℕ) (new : Stand) → ReplyTurn k c xid asked old body new → IsOwn new.ending
unfolding IsOwn
reply_own k c xid asked old body new (other_xid z f g) = tt
reply_own k c xid asked old body new (malformed_reply refusal f g) = tt
reply_own k c xid asked old body new (handed_down stored told cause out f g h i) = closed_own asked

later_own : (k : EntryKeys) (c : ℕ) (old : Stand) (body : List ℕ) (new : Stand) → old.ending ≡ None → LaterTurn k c old body new → IsOwn new.ending
unfolding IsOwn
later_own k c old body new going (no_first_int f e) = ends_own old new _ e tt
later_own k c old body new going (an_event f t) = event_own k old body new going t
later_own k c old body new going (none_waits z f g i e) = ends_own old new _ e tt
later_own k c old body new going (a_reply z xid q asked f g i a t) = reply_own k c xid asked old body new t

store_own : (k : EntryKeys) (c : ℕ) (old : Stand) (body : List ℕ) (new : Stand) (is : List Item) (n : ℕ) → old.ending ≡ None → StoreTurn k c old body new is n → IsOwn new.ending
unfolding StoreTurn
store_own k c old body new [] n going t = unasked_own old body new t
store_own k c old body new (items.Asks asked ∷ is) zero going t = connect_own asked old body new going t
store_own k c old body new (items.Asks asked ∷ is) (suc n) going t = later_own k c old body new going t
store_own k c old body new (items.Requests xid q ∷ is) n going t = later_own k c old body new going t

-- frames and bad lengths alone were heard
unfoldable pub AreFrames : List Heard → Type 0
AreFrames [] = Unit {0}
AreFrames (from_client body ∷ hs) = AreFrames hs
AreFrames (from_store body ∷ hs) = AreFrames hs
AreFrames (bad_client z ∷ hs) = AreFrames hs
AreFrames (bad_store z ∷ hs) = AreFrames hs
AreFrames (given e ∷ hs) = ⊥

pub frames_none : AreFrames []
unfolding AreFrames
frames_none = tt

pub frames_of_client : (more hs : List Heard) → AreOfClient more → AreFrames hs → AreFrames (more ++ hs)
unfolding AreFrames AreOfClient
frames_of_client [] hs m f = f
frames_of_client (from_client body ∷ more) hs m f = frames_of_client more hs m f
frames_of_client (bad_client z ∷ more) hs m f = frames_of_client more hs m f
frames_of_client (from_store body ∷ more) hs m f = absurd m
frames_of_client (bad_store z ∷ more) hs m f = absurd m
frames_of_client (given e ∷ more) hs m f = absurd m

pub frames_of_store : (more hs : List Heard) → AreOfStore more → AreFrames hs → AreFrames (more ++ hs)
unfolding AreFrames AreOfStore
frames_of_store [] hs m f = f
frames_of_store (from_store body ∷ more) hs m f = frames_of_store more hs m f
frames_of_store (bad_store z ∷ more) hs m f = frames_of_store more hs m f
frames_of_store (from_client body ∷ more) hs m f = absurd m
frames_of_store (bad_client z ∷ more) hs m f = absurd m
frames_of_store (given e ∷ more) hs m f = absurd m

turn_own : (k : EntryKeys) (boot c : ℕ) (o : Option Ending) (old : Stand) (h : Heard) (hs : List Heard) (new : Stand) → old.ending ≡ o → AreFrames (h ∷ hs) → TurnIf k boot c o old h new → IsOwn new.ending
unfolding TurnIf TurnOf IsOwn AreFrames
turn_own k boot c (Some e) old h hs new going f t = absurd t
turn_own k boot c None old (from_client body) hs new going f t = client_own k boot c old body new going t.1
turn_own k boot c None old (from_store body) hs new going f t = store_own k c old body new old.items old.answered going t.1
turn_own k boot c None old (bad_client z) hs new going f t = ends_own old new _ t.1 tt
turn_own k boot c None old (bad_store z) hs new going f t = ends_own old new _ t.1 tt
turn_own k boot c None old (given e) hs new going f t = absurd f

-- where a session heard frames alone, its ending is its own
pub own_ending : (k : EntryKeys) (boot c : ℕ) (hs : List Heard) (s : Stand) → Ran k boot c hs s → AreFrames hs → IsOwn s.ending
unfolding Ran IsOwn
own_ending k boot c [] s e f = subst (λ (t : Stand). IsOwn t.ending) (sym e) tt
own_ending k boot c (h ∷ hs) s (old, ran, t) f = turn_own k boot c old.ending old h hs s refl f t

pub not_client_end : (o : Option Ending) → IsOwn o → o ≡ Some endings.ClientEnd → ⊥
unfolding IsOwn
not_client_end o h e = subst IsOwn e h

pub not_store_end : (o : Option Ending) → IsOwn o → o ≡ Some endings.StoreEnd → ⊥
unfolding IsOwn
not_store_end o h e = subst IsOwn e h

pub not_client_fault : (o : Option Ending) → IsOwn o → o ≡ Some endings.ClientFault → ⊥
unfolding IsOwn
not_client_fault o h e = subst IsOwn e h

pub not_store_fault : (o : Option Ending) → IsOwn o → o ≡ Some endings.StoreFault → ⊥
unfolding IsOwn
not_store_fault o h e = subst IsOwn e h

pub not_turns : (o : Option Ending) → IsOwn o → o ≡ Some endings.Turns → ⊥
unfolding IsOwn
not_turns o h e = subst IsOwn e h
