-- Events of a line, one after another.
use Rattle.std.proofs.Common.{◌≡◌, ◌⊎◌, inl, inr, ℕ, ℤ, ◌+◌, ◌<◌, ◌≤◌, List, [], ◌∷◌, ◌++◌, length, refl, sym, ap, subst, ◌∙◌, arith}
use Rattle.std.specs.Prelude.{Option, Some, None, Result, Ok, Err, true, false, Bool}
use Rattle.std.proofs.lemmas.List.{append_assoc, append-nil, length-append}
use Rattle.atomic_table.specs.Seated.{TableId}
use Rattle.jute_core.specs.Faults.{Rose, Wrote, WroteFront}
use Rattle.store_side.specs.declared.ending.StoreEnding.{StoreEnding}
use Rattle.store_side.specs.declared.ending.StoreEnding.TheVariants as stores
use Rattle.tree_hall.specs.declared.act.Act.TheVariants.{Admit, Feed, Pull, Lose, Tick}
use Rattle.tree_hall.specs.declared.act.Answer.TheVariants.{Admitted, Fed, Gone, Ticked}
use Rattle.tree_hall.specs.declared.view.Item.{Item}
use Rattle.tree_hall.specs.declared.pass.Pass.{Pass}
use Rattle.tree_hall.specs.Histories.{item}
use Rattle.tree_hall.specs.Passes.{IsPassOf, number_of, calls_of}
use Rattle.relay_io.specs.declared.line.LineEvent.{LineEvent}
use Rattle.relay_io.specs.declared.line.LineEvent.TheVariants as events
use Rattle.relay_io.specs.declared.line.LineWhat.{LineWhat}
use Rattle.relay_io.specs.declared.pulling.Cut.{Cut}
use Rattle.relay_io.specs.declared.pulling.Cut.TheVariants.{Unwritten, NoMemory}
use Rattle.relay_io.specs.declared.serving.ServeEnding.{ServeEnding}
use Rattle.relay_io.specs.declared.serving.ServeEnding.TheVariants as ends
use Rattle.relay_io.specs.Sides.{HasRisen}
use Rattle.relay_io.specs.Lines.{LineTold, GrewBy}
use Rattle.relay_io.specs.Served.{answer_of, answer_to, is_unwritten, TookPulled, Served, Acts, Rounds, Last, Round, fed, ticked, no_round, one_round, not_admitted, admitted}
use Rattle.relay_io.specs.Served.{line_ended, line_failed, turns_used, no_buffer, no_piece, feed_refused, feed_refused_cut, tick_refused, feed_cut, tick_cut, admit_of, lose_of}
use Rattle.relay_io.specs.Serving.{Did, Handed, Pulls, Does, Turned, SoFar, Ran, told_feed, piece_result}
use Rattle.relay_io.proofs.Writing.{wrote_nothing, wrote_both, front_behind, rose_later}
use Rattle.relay_io.proofs.Handing.{did_none, did_both}

-- ---- what is done for one event

-- the store's ending is answered, or want of memory
kind_of : (e : StoreEnding) → (answer_of e ≡ ends.Memory) ⊎ (answer_of e ≡ ends.Store e)
kind_of (stores.Malformed r) = inr refl
kind_of (stores.TooLong l) = inr refl
kind_of (stores.AheadOfUs s l) = inr refl
kind_of (stores.Expired s) = inr refl
kind_of (stores.Moved s) = inr refl
kind_of stores.SessionClosed = inr refl
kind_of stores.Lost = inr refl
kind_of stores.JournalFull = inr refl
kind_of (stores.AnswerTooLong l) = inr refl
kind_of stores.NumbersUsed = inr refl
kind_of stores.Memory = inl refl

-- an answer as an error
abbrev failing : (T : Type 0) → ServeEnding → Result T ServeEnding
failing T a = Err a

no_fault_at : {T : Type 0} (e : StoreEnding) (a : ServeEnding) → (a ≡ ends.Memory) ⊎ (a ≡ ends.Store e) → failing T a ≡ Err ends.LineFault → ⊥
no_fault_at e a (inl m) is = absurd (cc)
no_fault_at e a (inr s) is = absurd (cc)

no_turns_at : {T : Type 0} (e : StoreEnding) (a : ServeEnding) → (a ≡ ends.Memory) ⊎ (a ≡ ends.Store e) → failing T a ≡ Err ends.Turns → ⊥
no_turns_at e a (inl m) is = absurd (cc)
no_turns_at e a (inr s) is = absurd (cc)

-- the pass that does the next calls has the number of the first one
did_behind : {T : Type 0} (table : TableId) (c : ℕ) (old mid new : Pass) (before after : LineTold) (call : Item) (r : Result T Cut) (h : Handed table c mid new before after r)
    → Did table old mid (call ∷ []) → Did table old new (call ∷ h.calls)
did_behind table c old mid new before after call r h did = did_both table old mid new (call ∷ []) h.calls did h.did

pulls_of : {T : Type 0} (table : TableId) (c : ℕ) (old mid new : Pass) (before after : LineTold) (r : Result T Cut) (calls : List Item) (given : List ℕ) → number_of mid ≡ number_of old
    → Pulls (number_of mid) c calls given r → Pulls (number_of old) c calls given r
pulls_of table c old mid new before after r calls given same h = subst (λ (n : ℕ). Pulls n c calls given r) same h

-- want of memory for the piece
pub does_no_piece : (table : TableId) (c : ℕ) (p : Pass) (l : LineTold) (at : ℤ) (bytes : List ℕ) → IsPassOf table p
    → Does {T = Unit {0}} table c p p l l (events.Bytes at bytes) (Err ends.Memory)
does_no_piece table c p l at bytes h = record {
  calls = [];
  given = [];
  cut = false;
  did = did_none table p h;
  comes = no_piece at bytes;
  took = wrote_nothing l.written;
  unheard = refl;
  line_fault = λ is. absurd (cc);
  not_turns = λ is. absurd (cc);
  later = omega arith;
}

-- want of memory for a tick
pub does_no_tick : (table : TableId) (c : ℕ) (old new : Pass) (l : LineTold) (at : ℤ) → Did table old new (item (number_of old) (Tick at) (Err stores.Memory) ∷ [])
    → Does {T = Unit {0}} table c old new l l (events.Idle at) (Err ends.Memory)
does_no_tick table c old new l at did = record {
  calls = item (number_of old) (Tick at) (Err stores.Memory) ∷ [];
  given = [];
  cut = false;
  did = did;
  comes = tick_refused at;
  took = wrote_nothing l.written;
  unheard = refl;
  line_fault = λ is. absurd (cc);
  not_turns = λ is. absurd (cc);
  later = omega arith;
}

-- a write that failed is a fault
cut_fault : {T U : Type 0} (table : TableId) (c : ℕ) (mid new : Pass) (before after : LineTold) (cut : Cut) → Handed {T = U} table c mid new before after (Err cut)
    → failing T (answer_to cut) ≡ Err ends.LineFault → Rose before.faults after.faults
cut_fault table c mid new before after Unwritten h is = h.took.0
cut_fault table c mid new before after NoMemory h is = absurd (cc)

cut_no_turns : {T : Type 0} (cut : Cut) → failing T (answer_to cut) ≡ Err ends.Turns → ⊥
cut_no_turns Unwritten is = absurd (cc)
cut_no_turns NoMemory is = absurd (cc)

-- a piece that was fed, with what was handed down for it
pub does_piece : (table : TableId) (c : ℕ) (old mid new : Pass) (before after : LineTold) (at : ℤ) (bytes : List ℕ) (fed_as : Result (Unit {0}) StoreEnding) (r : Result (Unit {0}) Cut)
    → Did table old mid (item (number_of old) (Feed c at bytes) (told_feed fed_as) ∷ []) → Handed table c mid new before after r
    → Does table c old new before after (events.Bytes at bytes) (piece_result fed_as r)
does_piece table c old mid new before after at bytes (Ok x) (Ok y) did h = record {
  calls = item (number_of old) (Feed c at bytes) (Ok Fed) ∷ h.calls;
  given = h.given;
  cut = false;
  did = did_behind table c old mid new before after _ (Ok y) h did;
  comes = (events.Bytes at bytes, refl, fed at bytes h.given h.calls (pulls_of table c old mid new before after (Ok y) h.calls h.given did.number h.pulls), refl);
  took = h.took;
  unheard = h.heard;
  line_fault = λ is. absurd (cc);
  not_turns = λ is. absurd (cc);
  later = h.later;
}
does_piece table c old mid new before after at bytes (Ok x) (Err cut) did h = record {
  calls = item (number_of old) (Feed c at bytes) (Ok Fed) ∷ h.calls;
  given = h.given;
  cut = is_unwritten cut;
  did = did_behind table c old mid new before after _ (Err cut) h did;
  comes = feed_cut at bytes h.given h.calls cut (pulls_of {T = Unit {0}} table c old mid new before after (Err cut) h.calls h.given did.number h.pulls);
  took = h.took;
  unheard = h.heard;
  line_fault = cut_fault table c mid new before after cut h;
  not_turns = cut_no_turns cut;
  later = h.later;
}
does_piece table c old mid new before after at bytes (Err e) (Ok y) did h = record {
  calls = item (number_of old) (Feed c at bytes) (Err e) ∷ h.calls;
  given = h.given;
  cut = false;
  did = did_behind table c old mid new before after _ (Ok y) h did;
  comes = feed_refused at bytes h.given h.calls e (pulls_of table c old mid new before after (Ok y) h.calls h.given did.number h.pulls);
  took = h.took;
  unheard = h.heard;
  line_fault = λ is. absurd (no_fault_at e (answer_of e) (kind_of e) is);
  not_turns = no_turns_at e (answer_of e) (kind_of e);
  later = h.later;
}
does_piece table c old mid new before after at bytes (Err e) (Err cut) did h = record {
  calls = item (number_of old) (Feed c at bytes) (Err e) ∷ h.calls;
  given = h.given;
  cut = is_unwritten cut;
  did = did_behind table c old mid new before after _ (Err cut) h did;
  comes = feed_refused_cut at bytes h.given h.calls e cut (pulls_of {T = Unit {0}} table c old mid new before after (Err cut) h.calls h.given did.number h.pulls);
  took = h.took;
  unheard = h.heard;
  line_fault = λ is. absurd (no_fault_at e (answer_of e) (kind_of e) is);
  not_turns = no_turns_at e (answer_of e) (kind_of e);
  later = h.later;
}

-- a tick, with what was handed down for it
pub does_tick : (table : TableId) (c : ℕ) (old mid new : Pass) (before after : LineTold) (at : ℤ) (r : Result (Unit {0}) Cut)
    → Did table old mid (item (number_of old) (Tick at) (Ok Ticked) ∷ []) → Handed table c mid new before after r
    → Does table c old new before after (events.Idle at) (piece_result (Ok tt) r)
does_tick table c old mid new before after at (Ok y) did h = record {
  calls = item (number_of old) (Tick at) (Ok Ticked) ∷ h.calls;
  given = h.given;
  cut = false;
  did = did_behind table c old mid new before after _ (Ok y) h did;
  comes = (events.Idle at, refl, ticked at h.given h.calls (pulls_of table c old mid new before after (Ok y) h.calls h.given did.number h.pulls), refl);
  took = h.took;
  unheard = h.heard;
  line_fault = λ is. absurd (cc);
  not_turns = λ is. absurd (cc);
  later = h.later;
}
does_tick table c old mid new before after at (Err cut) did h = record {
  calls = item (number_of old) (Tick at) (Ok Ticked) ∷ h.calls;
  given = h.given;
  cut = is_unwritten cut;
  did = did_behind table c old mid new before after _ (Err cut) h did;
  comes = tick_cut at h.given h.calls cut (pulls_of {T = Unit {0}} table c old mid new before after (Err cut) h.calls h.given did.number h.pulls);
  took = h.took;
  unheard = h.heard;
  line_fault = cut_fault table c mid new before after cut h;
  not_turns = cut_no_turns cut;
  later = h.later;
}

-- ---- an event that was heard

grew_none_by : (a b : Option (List LineEvent)) → b ≡ a → GrewBy a b []
grew_none_by None b h = tt
grew_none_by (Some x) b h = h ∙ ap Some (sym (append-nil x))

pub grew_both_by : (a b c : Option (List LineEvent)) (first more : List LineEvent) → GrewBy a b first → GrewBy b c more → GrewBy a c (first ++ more)
grew_both_by None b c first more h k = tt
grew_both_by (Some x) b c first more h k =
    let l : GrewBy (Some (x ++ first)) c more = subst (λ (b : Option (List LineEvent)). GrewBy b c more) h k in
    l ∙ ap Some (append_assoc x first more)

-- what the line took, where nothing was written when the event was heard
took_from : (old heard new : LineTold) (given : List ℕ) (cut : Bool) → heard.written ≡ old.written → heard.faults ≡ old.faults → TookPulled heard new given cut → TookPulled old new given cut
took_from old heard new given false w f h = subst (λ (o : Option (List ℕ)). Wrote o new.written given) w h
took_from old heard new given true w f h = (subst (λ (n : ℕ). Rose n new.faults) f h.0, subst (λ (o : Option (List ℕ)). WroteFront o new.written given) w h.1)

-- an event was heard, and this was done for it
pub turned_by : {T : Type 0} (table : TableId) (c : ℕ) (old new : Pass) (before heard after : LineTold) (event : LineEvent) (r : Result T ServeEnding)
    → GrewBy before.events heard.events (event ∷ []) → heard.faults ≡ before.faults → heard.written ≡ before.written → Does table c old new heard after event r
    → Turned table c old new before after r
turned_by table c old new before heard after event r grew faults written d = record {
  heard = event ∷ [];
  calls = d.calls;
  given = d.given;
  cut = d.cut;
  grew = subst (λ (o : Option (List LineEvent)). GrewBy before.events o (event ∷ [])) (sym d.unheard) grew;
  did = d.did;
  comes = d.comes;
  took = took_from before heard after d.given d.cut written faults d.took;
  line_fault = λ is. subst (λ (n : ℕ). Rose n after.faults) faults (d.line_fault is);
  not_turns = d.not_turns;
  later = let l = d.later in omega (arith, faults, l);
}

-- the line ended
pub turned_end : (table : TableId) (c : ℕ) (p : Pass) (before heard : LineTold) (at : ℤ) → IsPassOf table p → GrewBy before.events heard.events (events.End at ∷ []) → heard.faults ≡ before.faults
    → heard.written ≡ before.written → Turned {T = Unit {0}} table c p p before heard (Err ends.LineEnd)
turned_end table c p before heard at h grew faults written = record {
  heard = events.End at ∷ [];
  calls = [];
  given = [];
  cut = false;
  grew = grew;
  did = did_none table p h;
  comes = line_ended at;
  took = subst (λ (o : Option (List ℕ)). Wrote before.written o []) (sym written) (wrote_nothing before.written);
  line_fault = λ is. absurd (cc);
  not_turns = λ is. absurd (cc);
  later = omega (arith, faults);
}

-- the line failed
pub turned_failed : (table : TableId) (c : ℕ) (p : Pass) (before heard : LineTold) → IsPassOf table p → GrewBy before.events heard.events [] → HasRisen before.faults heard.faults
    → heard.written ≡ before.written → Turned {T = Unit {0}} table c p p before heard (Err ends.LineFault)
turned_failed table c p before heard h grew faults written = record {
  heard = [];
  calls = [];
  given = [];
  cut = false;
  grew = grew;
  did = did_none table p h;
  comes = line_failed;
  took = subst (λ (o : Option (List ℕ)). Wrote before.written o []) (sym written) (wrote_nothing before.written);
  line_fault = λ is. faults.rose;
  not_turns = λ is. absurd (cc);
  later = faults.later;
}

-- ---- events, one after another

-- what was written behind what was written before
took_behind : (old mid new : LineTold) (given more : List ℕ) (cut : Bool) → Wrote old.written mid.written given → old.faults ≤ mid.faults → TookPulled mid new more cut
    → TookPulled old new (given ++ more) cut
took_behind old mid new given more false w later h = wrote_both old.written mid.written new.written given more w h
took_behind old mid new given more true w later h = (rose_later old.faults mid.faults new.faults later h.0, front_behind old.written mid.written new.written given more w h.1)

-- with no cut, all was written
all_written : (old new : LineTold) (given : List ℕ) (cut : Bool) → cut ≡ false → TookPulled old new given cut → Wrote old.written new.written given
all_written old new given cut is h = subst (λ (b : Bool). TookPulled old new given b) is h

pub so_far_none : (table : TableId) (c : ℕ) (p : Pass) (l : LineTold) → IsPassOf table p → SoFar table c p p l l 0
so_far_none table c p l h = record {
  heard = [];
  calls = [];
  given = [];
  counted = refl;
  grew = grew_none_by l.events l.events refl;
  did = did_none table p h;
  rounds = no_round;
  wrote = wrote_nothing l.written;
  later = omega arith;
}

-- one more event was served in full
pub so_far_more : {T : Type 0} (table : TableId) (c : ℕ) (old mid new : Pass) (before now after : LineTold) (count : ℕ) (x : T) → SoFar table c old mid before now count
    → Turned table c mid new now after (Ok x) → SoFar table c old new before after (count + 1)
so_far_more table c old mid new before now after count x s t =
    let grew = subst (λ (es : List LineEvent). GrewBy now.events after.events es) t.comes.1 t.grew in
    let round = subst (λ (n : ℕ). Round n c t.comes.0 t.calls t.given) s.did.number t.comes.2 in
    let wrote = all_written now after t.given t.cut t.comes.3 t.took in
    let l = length-append s.heard (t.comes.0 ∷ []) in
    let n = s.counted in
    let a = s.later in
    let b = t.later in
    record {
      heard = s.heard ++ t.comes.0 ∷ [];
      calls = s.calls ++ t.calls;
      given = s.given ++ t.given;
      counted = omega (arith, l, n);
      grew = grew_both_by before.events now.events after.events s.heard (t.comes.0 ∷ []) s.grew grew;
      did = did_both table old mid new s.calls t.calls s.did t.did;
      rounds = one_round s.heard t.comes.0 s.calls t.calls s.given t.given s.rounds round;
      wrote = wrote_both before.written now.written after.written s.given t.given s.wrote wrote;
      later = omega (arith, a, b);
    }

-- at most one event is heard at the end
last_is_short : (by c : ℕ) (heard : List LineEvent) (calls : List Item) (given : List ℕ) (cut : Bool) (e : ServeEnding) → Last by c heard calls given cut e → length heard ≤ 1
last_is_short by c heard calls given cut e (line_ended at) = omega arith
last_is_short by c heard calls given cut e line_failed = omega arith
last_is_short by c heard calls given cut e turns_used = omega arith
last_is_short by c heard calls given cut e no_buffer = omega arith
last_is_short by c heard calls given cut e (no_piece at bytes) = omega arith
last_is_short by c heard calls given cut e (feed_refused at bytes gs cs s p) = omega arith
last_is_short by c heard calls given cut e (feed_refused_cut at bytes gs cs s k p) = omega arith
last_is_short by c heard calls given cut e (tick_refused at) = omega arith
last_is_short by c heard calls given cut e (feed_cut at bytes gs cs k p) = omega arith
last_is_short by c heard calls given cut e (tick_cut at gs cs k p) = omega arith

-- an event ended the connection
pub ran_to : {T : Type 0} (turns : ℕ) (table : TableId) (c : ℕ) (old mid new : Pass) (before now after : LineTold) (count : ℕ) (e : ServeEnding) → count < turns
    → SoFar table c old mid before now count → Turned {T = T} table c mid new now after (Err e) → Ran turns table c old new before after e
ran_to turns table c old mid new before now after count e below s t =
    let l = length-append s.heard t.heard in
    let n = s.counted in
    let k = last_is_short _ c t.heard t.calls t.given t.cut e t.comes in
    let a = s.later in
    let b = t.later in
    record {
      heard = s.heard;
      end = t.heard;
      rounds = s.calls;
      last = t.calls;
      given = s.given;
      more = t.given;
      cut = t.cut;
      grew = grew_both_by before.events now.events after.events s.heard t.heard s.grew t.grew;
      within = omega (arith, l, n, k, below);
      did = did_both table old mid new s.calls t.calls s.did t.did;
      were_rounds = s.rounds;
      was_last = subst (λ (n : ℕ). Last n c t.heard t.calls t.given t.cut e) s.did.number t.comes;
      spent = λ is. absurd (omega (arith, n, below, is));
      took = took_behind before now after s.given t.given t.cut s.wrote s.later t.took;
      line_fault = λ is. rose_later before.faults now.faults after.faults s.later (t.line_fault (ap Err is));
      all_turns = λ is. absurd (t.not_turns (ap Err is));
      later = omega (arith, a, b);
    }

-- all turns were used
pub ran_all : (turns : ℕ) (table : TableId) (c : ℕ) (old new : Pass) (before after : LineTold) (count : ℕ) → count ≡ turns → SoFar table c old new before after count
    → Ran turns table c old new before after ends.Turns
ran_all turns table c old new before after count all s =
    let n = s.counted in
    let l = length-append s.heard [] in
    record {
      heard = s.heard;
      end = [];
      rounds = s.calls;
      last = [];
      given = s.given;
      more = [];
      cut = false;
      grew = subst (λ (es : List LineEvent). GrewBy before.events after.events es) (sym (append-nil s.heard)) s.grew;
      within = omega (arith, l, n, all);
      did = subst (λ (xs : List Item). Did table old new xs) (sym (append-nil s.calls)) s.did;
      were_rounds = s.rounds;
      was_last = turns_used;
      spent = λ is. inl refl;
      took = subst (λ (bs : List ℕ). Wrote before.written after.written bs) (sym (append-nil s.given)) s.wrote;
      line_fault = λ is. absurd (cc);
      all_turns = λ is. omega (arith, l, n, all);
      later = s.later;
    }

-- no memory for the buffer
pub ran_nowhere : (turns : ℕ) (table : TableId) (c : ℕ) (p : Pass) (l : LineTold) → IsPassOf table p → Ran turns table c p p l l ends.Memory
ran_nowhere turns table c p l h = record {
  heard = [];
  end = [];
  rounds = [];
  last = [];
  given = [];
  more = [];
  cut = false;
  grew = grew_none_by l.events l.events refl;
  within = omega arith;
  did = did_none table p h;
  were_rounds = no_round;
  was_last = no_buffer;
  spent = λ is. inr refl;
  took = wrote_nothing l.written;
  line_fault = λ is. absurd (cc);
  all_turns = λ is. absurd (cc);
  later = omega arith;
}

-- ---- the whole connection

no_fault_is : (e : StoreEnding) (a : ServeEnding) → (a ≡ ends.Memory) ⊎ (a ≡ ends.Store e) → a ≡ ends.LineFault → ⊥
no_fault_is e a (inl m) is = absurd (cc)
no_fault_is e a (inr s) is = absurd (cc)

no_turns_is : (e : StoreEnding) (a : ServeEnding) → (a ≡ ends.Memory) ⊎ (a ≡ ends.Store e) → a ≡ ends.Turns → ⊥
no_turns_is e a (inl m) is = absurd (cc)
no_turns_is e a (inr s) is = absurd (cc)

-- the connection was not admitted
pub served_none : (turns by : ℕ) (l : LineTold) (e : StoreEnding) → Served turns by l l (item by Admit (Err e) ∷ []) (answer_of e)
served_none turns by l e = record {
  heard = [];
  given = [];
  cut = false;
  grew = grew_none_by l.events l.events refl;
  within = omega arith;
  acts = not_admitted e;
  took = wrote_nothing l.written;
  line_fault = λ is. absurd (no_fault_is e (answer_of e) (kind_of e) is);
  all_turns = λ is. absurd (no_turns_is e (answer_of e) (kind_of e) is);
  later = omega arith;
}

-- the calls of a connection that was admitted and lost
pub calls_all : (turns : ℕ) (table : TableId) (c : ℕ) (old first mid new : Pass) (before after : LineTold) (e : ServeEnding) → Did table old first (admit_of (number_of old) c ∷ [])
    → (r : Ran turns table c first mid before after e) → Did table mid new (lose_of (number_of mid) c ∷ [])
    → Did table old new (admit_of (number_of old) c ∷ (r.rounds ++ r.last) ++ lose_of (number_of old) c ∷ [])
calls_all turns table c old first mid new before after e a r l =
    let lost = subst (λ (n : ℕ). Did table mid new (lose_of n c ∷ [])) (r.did.number ∙ a.number) l in
    did_both table old mid new (admit_of (number_of old) c ∷ r.rounds ++ r.last) (lose_of (number_of old) c ∷ [])
    (did_both table old first mid (admit_of (number_of old) c ∷ []) (r.rounds ++ r.last) a r.did) lost

pub served_all : (turns : ℕ) (table : TableId) (c by : ℕ) (first mid : Pass) (before after : LineTold) (e : ServeEnding) → number_of first ≡ by
    → (r : Ran turns table c first mid before after e) → Served turns by before after (admit_of by c ∷ (r.rounds ++ r.last) ++ lose_of by c ∷ []) e
served_all turns table c by first mid before after e same r = record {
  heard = r.heard ++ r.end;
  given = r.given ++ r.more;
  cut = r.cut;
  grew = r.grew;
  within = r.within;
  acts = admitted c r.heard r.end r.rounds r.last r.given r.more r.cut e
      (subst (λ (n : ℕ). Rounds n c r.heard r.rounds r.given) same r.were_rounds)
      (subst (λ (n : ℕ). Last n c r.end r.last r.more r.cut e) same r.was_last) r.spent;
  took = r.took;
  line_fault = r.line_fault;
  all_turns = r.all_turns;
  later = r.later;
}
