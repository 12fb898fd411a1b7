-- How serving a connection goes on, act by act and event by event.
use Rattle.std.specs.Prelude.{◌≡◌, ◌⊎◌, ◌≤◌, ◌+◌, ℕ, ℤ, Bool, true, false, List, [], ◌∷◌, ◌++◌, length, Result, Ok, Err}
use Rattle.atomic_table.specs.Seated.{TableId}
use Rattle.jute_core.specs.Faults.{Rose, Wrote}
use Rattle.store_side.specs.declared.ending.StoreEnding.{StoreEnding}
use Rattle.store_side.specs.declared.ending.StoreEnding.TheVariants as stores
use Rattle.tree_hall.specs.declared.act.Answer.{Answer}
use Rattle.tree_hall.specs.declared.act.Answer.TheVariants.{Admitted, Fed, Pulled, Ticked}
use Rattle.tree_hall.specs.declared.view.Item.{Item}
use Rattle.tree_hall.specs.declared.pass.Pass.{Pass}
use Rattle.tree_hall.specs.Histories.{HasAdmitted}
use Rattle.tree_hall.specs.Passes.{IsPassOf, number_of, seen_by, calls_of}
use Rattle.relay_io.specs.declared.line.LineEvent.{LineEvent}
use Rattle.relay_io.specs.declared.serving.ServeEnding.{ServeEnding}
use Rattle.relay_io.specs.declared.serving.ServeEnding.TheVariants as ends
use Rattle.relay_io.specs.declared.pulling.Cut.{Cut}
use Rattle.relay_io.specs.Lines.{LineTold, GrewBy}
use Rattle.relay_io.specs.Served.{FullPulls, PullsAll, PullsSome, answer_of, answer_to, is_unwritten, Round, Rounds, Last, TookPulled}

-- A pass of the hall with this table did these calls, and still knows each connection that was admitted.
pub record Did (table : TableId) (old new : Pass) (calls : List Item) : Type 0 where
  pub is_pass : IsPassOf table new
  pub number : number_of new ≡ number_of old
  pub called : calls_of new ≡ calls_of old ++ calls
  pub knows : (c : ℕ) → HasAdmitted (seen_by old) c → HasAdmitted (seen_by new) c

-- how each act is answered, as a result of its own
abbrev pub told_admit : Result ℕ StoreEnding → Result Answer StoreEnding
told_admit (Ok c) = Ok (Admitted c)
told_admit (Err e) = Err e

abbrev pub told_feed : Result (Unit {0}) StoreEnding → Result Answer StoreEnding
told_feed (Ok _) = Ok Fed
told_feed (Err e) = Err e

abbrev pub told_pull : {E : Type 0} → Result (List ℕ) E → Result Answer StoreEnding
told_pull (Ok bytes) = Ok (Pulled bytes)
told_pull (Err _) = Err stores.Memory

abbrev pub told_tick : {E : Type 0} → Result (Unit {0}) E → Result Answer StoreEnding
told_tick (Ok _) = Ok Ticked
told_tick (Err _) = Err stores.Memory

-- whether a write of what was pulled failed
abbrev pub was_cut : {T : Type 0} → Result T Cut → Bool
was_cut (Ok _) = false
was_cut (Err cut) = is_unwritten cut

abbrev pub Pulls : {T : Type 0} → ℕ → ℕ → List Item → List ℕ → Result T Cut → Type 0
Pulls by c calls given (Ok _) = PullsAll by c calls given
Pulls by c calls given (Err cut) = PullsSome by c calls given cut

-- What waited was pulled and written, or that was cut short.
pub record Handed {T : Type 0} (table : TableId) (c : ℕ) (old new : Pass) (before after : LineTold) (result : Result T Cut) : Type 0 where
  pub calls : List Item
  pub given : List ℕ
  pub did : Did table old new calls
  pub pulls : Pulls (number_of old) c calls given result
  pub took : TookPulled before after given (was_cut result)
  pub heard : after.events ≡ before.events
  pub later : before.faults ≤ after.faults

-- full pulls so far, and all that they gave was written
pub record Handing (table : TableId) (c : ℕ) (old new : Pass) (before after : LineTold) : Type 0 where
  pub calls : List Item
  pub given : List ℕ
  pub did : Did table old new calls
  pub pulls : FullPulls (number_of old) c calls given
  pub wrote : Wrote before.written after.written given
  pub heard : after.events ≡ before.events
  pub later : before.faults ≤ after.faults

-- the event and its calls, behind which the connection goes on; or what ended it
abbrev pub Comes : {T : Type 0} → ℕ → ℕ → List LineEvent → List Item → List ℕ → Bool → Result T ServeEnding → Type 0
Comes by c heard calls given cut (Ok _) = (event : LineEvent) × (heard ≡ event ∷ []) × Round by c event calls given × (cut ≡ false)
Comes by c heard calls given cut (Err e) = Last by c heard calls given cut e

-- What was done for an event that was heard: `before` is the line behind it.
pub record Does {T : Type 0} (table : TableId) (c : ℕ) (old new : Pass) (before after : LineTold) (event : LineEvent) (result : Result T ServeEnding) : Type 0 where
  pub calls : List Item
  pub given : List ℕ
  pub cut : Bool
  pub did : Did table old new calls
  pub comes : Comes (number_of old) c (event ∷ []) calls given cut result
  pub took : TookPulled before after given cut
  pub unheard : after.events ≡ before.events
  pub line_fault : result ≡ Err ends.LineFault → Rose before.faults after.faults
  pub not_turns : result ≡ Err ends.Turns → ⊥
  pub later : before.faults ≤ after.faults

-- how a piece, or an idle moment, came out: by the store's answer and then by what was handed down
abbrev pub piece_result : Result (Unit {0}) StoreEnding → Result (Unit {0}) Cut → Result (Unit {0}) ServeEnding
piece_result (Err e) handed = Err (answer_of e)
piece_result (Ok _) (Err cut) = Err (answer_to cut)
piece_result (Ok _) (Ok _) = Ok tt

-- What one event came to, once it was heard: `before` is the line before it was heard.
pub record Turned {T : Type 0} (table : TableId) (c : ℕ) (old new : Pass) (before after : LineTold) (result : Result T ServeEnding) : Type 0 where
  pub heard : List LineEvent
  pub calls : List Item
  pub given : List ℕ
  pub cut : Bool
  pub grew : GrewBy before.events after.events heard
  pub did : Did table old new calls
  pub comes : Comes (number_of old) c heard calls given cut result
  pub took : TookPulled before after given cut
  pub line_fault : result ≡ Err ends.LineFault → Rose before.faults after.faults
  pub not_turns : result ≡ Err ends.Turns → ⊥
  pub later : before.faults ≤ after.faults

-- so many events were served in full
pub record SoFar (table : TableId) (c : ℕ) (old new : Pass) (before after : LineTold) (count : ℕ) : Type 0 where
  pub heard : List LineEvent
  pub calls : List Item
  pub given : List ℕ
  pub counted : length heard ≡ count
  pub grew : GrewBy before.events after.events heard
  pub did : Did table old new calls
  pub rounds : Rounds (number_of old) c heard calls given
  pub wrote : Wrote before.written after.written given
  pub later : before.faults ≤ after.faults

-- an admitted connection was served for so many turns
pub record Ran (turns : ℕ) (table : TableId) (c : ℕ) (old new : Pass) (before after : LineTold) (answer : ServeEnding) : Type 0 where
  pub heard : List LineEvent
  pub end : List LineEvent
  pub rounds : List Item
  pub last : List Item
  pub given : List ℕ
  pub more : List ℕ
  pub cut : Bool
  pub grew : GrewBy before.events after.events (heard ++ end)
  pub within : length (heard ++ end) ≤ turns
  pub did : Did table old new (rounds ++ last)
  pub were_rounds : Rounds (number_of old) c heard rounds given
  pub was_last : Last (number_of old) c end last more cut answer
  pub spent : length heard ≡ turns → (answer ≡ ends.Turns) ⊎ (answer ≡ ends.Memory)
  pub took : TookPulled before after (given ++ more) cut
  pub line_fault : answer ≡ ends.LineFault → Rose before.faults after.faults
  pub all_turns : answer ≡ ends.Turns → length (heard ++ end) ≡ turns
  pub later : before.faults ≤ after.faults
