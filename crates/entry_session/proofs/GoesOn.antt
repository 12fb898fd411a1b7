-- A session that hears more goes on from where it stood.
use Rattle.std.proofs.Common.{◌≡◌, ℕ, zero, suc, ℤ, List, [], ◌∷◌, ◌++◌, Option, refl, sym, subst, ap, ◌∙◌, append_assoc, append-nil}
use Rattle.payload_seal.specs.declared.keys.EntryKeys.{EntryKeys}
use Rattle.zk_records.specs.declared.connect.ConnectRequest.{ConnectRequest}
use Rattle.zk_messages.specs.declared.request.Item.{Item}
use Rattle.zk_messages.specs.declared.request.Item.TheVariants as items
use Rattle.request_queue.specs.declared.asked.Asked.{Asked}
use Rattle.reply_rewrite.specs.declared.finding.Finding.{Finding}
use Rattle.entry_session.specs.ClientTurns.{ClientTurn, malformed_frame, full_queue, spent_ivs, handed_up}
use Rattle.entry_session.specs.Heard.{Heard, from_client, from_store, bad_client, bad_store, given}
use Rattle.entry_session.specs.Laws.{Continues, GoesOn}
use Rattle.entry_session.specs.Runs.{TurnOf, Ran}
use Rattle.entry_session.specs.Stands.{Stand, ends}
use Rattle.entry_session.specs.StoreTurns.{UnaskedTurn, ConnectTurn, EventTurn, ReplyTurn, LaterTurn, StoreTurn}
use Rattle.entry_session.specs.StoreTurns.{cut_short, nothing_open, connected, other_form, malformed_event, bad_event, opened_event}
use Rattle.entry_session.specs.StoreTurns.{other_xid, malformed_reply, handed_down, no_first_int, an_event, none_waits, a_reply}
use Rattle.entry_session.specs.declared.ending.Ending.{Ending}
use Rattle.entry_session.proofs.Turns.{goes}

same : {A : Type 0} (xs : List A) → Continues xs xs
same xs = record { more = []; is = sym (append-nil xs) }

adds : {A : Type 0} (xs more : List A) → Continues (xs ++ more) xs
adds xs more = record { more = more; is = refl }

further : {A : Type 0} (xs ys zs : List A) → Continues ys xs → Continues zs ys → Continues zs xs
further xs ys zs h i = record { more = h.more ++ i.more; is = i.is ∙ ap (λ (l : List _). l ++ i.more) h.is ∙ append_assoc xs h.more i.more }

-- all of what a session came to stays
record Keeps (old new : Stand) : Type 0 where
  items : Continues new.items old.items
  up : Continues new.up old.up
  down : Continues new.down old.down
  findings : Continues new.findings old.findings

ending_keeps : (old : Stand) (e : Ending) → Keeps old (ends old e)
ending_keeps old e = record { items = same old.items; up = same old.up; down = same old.down; findings = same old.findings }

stops_keeping : (old new : Stand) (e : Ending) → new ≡ ends old e → Keeps old new
stops_keeping old new e i = subst (Keeps old) (sym i) (ending_keeps old e)

client_keeps : (k : EntryKeys) (boot c : ℕ) (old : Stand) (body : List ℕ) (new : Stand) → ClientTurn k boot c old body new → Keeps old new
client_keeps k boot c old body new (malformed_frame refusal f) = ending_keeps old _
client_keeps k boot c old body new (full_queue i f g) = ending_keeps old _
client_keeps k boot c old body new (spent_ivs i n f g p m) = ending_keeps old _
client_keeps k boot c old body new (handed_up i v n out f g p m q o) =
    record { items = adds old.items (i ∷ []); up = adds old.up (out ∷ []); down = same old.down; findings = same old.findings }

unasked_keeps : (old : Stand) (body : List ℕ) (new : Stand) → UnaskedTurn old body new → Keeps old new
unasked_keeps old body new (cut_short f) = ending_keeps old _
unasked_keeps old body new (nothing_open z f) = ending_keeps old _

-- a frame handed down, and what was found
more_down : (old : Stand) (n : ℕ) (down : List (List ℕ)) (findings : List Finding) (e : Option Ending)
    → Keeps old (record old { answered = n; down = old.down ++ down; findings = old.findings ++ findings; ending = e })
more_down old n down findings e = record { items = same old.items; up = same old.up; down = adds old.down down; findings = adds old.findings findings }

connect_keeps : (asked : ConnectRequest) (old : Stand) (body : List ℕ) (new : Stand) → ConnectTurn asked old body new → Keeps old new
connect_keeps asked old body new (connected r f g) = record { items = same old.items; up = same old.up; down = adds old.down (body ∷ []); findings = same old.findings }
connect_keeps asked old body new (other_form refusal f) = ending_keeps old _

event_keeps : (k : EntryKeys) (old : Stand) (body : List ℕ) (new : Stand) → EventTurn k old body new → Keeps old new
event_keeps k old body new (malformed_event refusal f) = ending_keeps old _
event_keeps k old body new (bad_event e flaw f g) = ending_keeps old _
event_keeps k old body new (opened_event e p out f g h) = record { items = same old.items; up = same old.up; down = adds old.down (out ∷ []); findings = same old.findings }

reply_keeps : (k : EntryKeys) (c : ℕ) (xid : ℤ) (asked : Asked) (old : Stand) (body : List ℕ) (new : Stand) → ReplyTurn k c xid asked old body new → Keeps old new
reply_keeps k c xid asked old body new (other_xid z f g) = ending_keeps old _
reply_keeps k c xid asked old body new (malformed_reply refusal f g) = ending_keeps old _
reply_keeps k c xid asked old body new (handed_down stored told cause out f g h i) = more_down old _ (out ∷ []) _ _

later_keeps : (k : EntryKeys) (c : ℕ) (old : Stand) (body : List ℕ) (new : Stand) → LaterTurn k c old body new → Keeps old new
later_keeps k c old body new (no_first_int f e) = stops_keeping old new _ e
later_keeps k c old body new (an_event f t) = event_keeps k old body new t
later_keeps k c old body new (none_waits z f g i e) = stops_keeping old new _ e
later_keeps k c old body new (a_reply z xid q asked f g i a t) = reply_keeps k c xid asked old body new t

store_keeps : (k : EntryKeys) (c : ℕ) (old : Stand) (body : List ℕ) (new : Stand) (is : List Item) (n : ℕ) → StoreTurn k c old body new is n → Keeps old new
unfolding StoreTurn
store_keeps k c old body new [] n t = unasked_keeps old body new t
store_keeps k c old body new (items.Asks asked ∷ is) zero t = connect_keeps asked old body new t
store_keeps k c old body new (items.Asks asked ∷ is) (suc n) t = later_keeps k c old body new t
store_keeps k c old body new (items.Requests xid q ∷ is) n t = later_keeps k c old body new t

turn_keeps : (k : EntryKeys) (boot c : ℕ) (old : Stand) (h : Heard) (new : Stand) → TurnOf k boot c old h new → Keeps old new
unfolding TurnOf
turn_keeps k boot c old (from_client body) new t = client_keeps k boot c old body new t.1
turn_keeps k boot c old (from_store body) new t = store_keeps k c old body new old.items old.answered t.1
turn_keeps k boot c old (bad_client z) new t = stops_keeping old new _ t.1
turn_keeps k boot c old (bad_store z) new t = stops_keeping old new _ t.1
turn_keeps k boot c old (given e) new t = stops_keeping old new _ t.1

pub goes_on : GoesOn
unfolding Ran
goes_on k boot c [] hs t r = record { s = t; ran = r; items = same t.items; up = same t.up; down = same t.down; findings = same t.findings }
goes_on k boot c (h ∷ more) hs t r =
    let before = goes_on k boot c more hs r.0 r.1 in
    let turn = turn_keeps k boot c r.0 h t (goes k boot c r.0 h t r.2).turn in
    record {
      s = before.s;
      ran = before.ran;
      items = further before.s.items r.0.items t.items before.items turn.items;
      up = further before.s.up r.0.up t.up before.up turn.up;
      down = further before.s.down r.0.down t.down before.down turn.down;
      findings = further before.s.findings r.0.findings t.findings before.findings turn.findings;
    }
