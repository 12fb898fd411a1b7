-- Lines in memory: which events come, and what is left of them.
use Rattle.std.proofs.Common.{◌≡◌, ◌<◌, ◌∷◌, [], ◌++◌, ℕ, suc, ℤ, pos, List, Option, Some, None, length, drop, Bool, true, false, nat_lt, ltb-true, lt-ltb, IsTrue, if◌then◌else◌, All, refl, subst, arith, length-drop, to_z, of_z, w64}
use Rattle.std.specs.Prelude.{◌&&◌}
use Rattle.std.specs.List.{list_all, slice_get}
use Rattle.std.proofs.lemmas.Int.{ints, to_z-of_z}
use Rattle.std.proofs.lemmas.List.Elements.{filter_passes, All-filter, All-cons}
use Rattle.std.proofs.lemmas.List.Sums.{list_all-from_AllPass}
use Rattle.store_side.specs.Owed.{IsTime}
use Rattle.relay_io.specs.declared.line.LineEvent.{LineEvent}
use Rattle.relay_io.specs.declared.line.LineEvent.TheVariants.{Bytes, End, Idle}
use Rattle.relay_io.specs.declared.line.LineWhat.{LineWhat}
use Rattle.relay_io.specs.declared.line.LineWhat.TheVariants as answers
use Rattle.relay_io.specs.Lines.{LineCounts, line_events}
use Rattle.relay_io.specs.MemoryLines.{LineState, line_told, time_of, gives_bytes, given, first_of, others_of, with_others, HearsAt}
use Rattle.relay_io.specs.Sides.{HasRisen}

abbrev AreTimed : List LineEvent → Type 0
AreTimed events = All (λ event. IsTime (time_of event)) events

-- what stays of the events that a line is made of
pub is_given : (events : List LineEvent) → AreTimed events → IsTime (pos 0) × IsTrue (list_all gives_bytes (given events)) × AreTimed (given events)
is_given events timed = (
  record { from = omega (arith, ints); below = omega (arith, ints) },
  list_all-from_AllPass gives_bytes (given events) (filter_passes gives_bytes events),
  All-filter gives_bytes (λ event. IsTime (time_of event)) events timed,
)

-- a time comes back from the 64 bits that it is passed by
pub time_back : (at : ℤ) → IsTime at → to_z w64 (of_z w64 at) ≡ at
time_back at timely = to_z-of_z w64 at (omega (arith, ints))

-- a failure counts as it should, where the count was as before
pub line_fails : (old mid new : LineState) (what : LineWhat) → what ≡ answers.Failed → mid.faults ≡ old.faults → HasRisen mid.faults new.faults → LineCounts what (line_told old) (line_told new)
line_fails old mid new what failed same risen = rw failed (rw same at risen)

-- what a look at the front gave is the front
pub front_is : (events : List LineEvent) (event : LineEvent) → Some event ≡ slice_get events 0 → events ≡ event ∷ drop 1 events
front_is [] event h = cc
front_is (x ∷ xs) event h = cc

second : (a b : Bool) → (a && b) ≡ true → b ≡ true
second true b h = h
second false b h = cc

joined : (a b : Bool) → a ≡ true → b ≡ true → (a && b) ≡ true
joined a b p q = rw p q

full_cut : (room : ℕ) (at : ℤ) (bytes : List ℕ) (rest : List LineEvent) (longer : Bool) → nat_lt room (length bytes) ≡ longer → list_all gives_bytes rest ≡ true
    → list_all gives_bytes (with_others (if longer then Some (Bytes at (drop room bytes)) else None) rest) ≡ true
full_cut room at bytes rest true longer full =
    let behind : room < length bytes = ltb-true room (length bytes) longer in
    joined (nat_lt 0 (length (drop room bytes))) (list_all gives_bytes rest) (lt-ltb 0 (length (drop room bytes)) (omega (arith, length-drop room bytes))) full
full_cut room at bytes rest false longer full = full

full_behind : (room : ℕ) (event : LineEvent) (rest : List LineEvent) → list_all gives_bytes (event ∷ rest) ≡ true → list_all gives_bytes (with_others (others_of room event) rest) ≡ true
full_behind room (Bytes at bytes) rest full = full_cut room at bytes rest (nat_lt room (length bytes)) refl (second (gives_bytes (Bytes at bytes)) (list_all gives_bytes rest) full)
full_behind room (End at) rest full = full
full_behind room (Idle at) rest full = full

timed_rest : (event : LineEvent) (rest : List LineEvent) → AreTimed (event ∷ rest) → AreTimed rest
timed_rest event rest timed = λ k d lt. timed (suc k) d (omega arith)

timed_cut : (room : ℕ) (at : ℤ) (bytes : List ℕ) (rest : List LineEvent) (longer : Bool) → IsTime at → AreTimed rest
    → AreTimed (with_others (if longer then Some (Bytes at (drop room bytes)) else None) rest)
timed_cut room at bytes rest true time timed = All-cons (λ event. IsTime (time_of event)) (Bytes at (drop room bytes)) rest time timed
timed_cut room at bytes rest false time timed = timed

timed_behind : (room : ℕ) (event : LineEvent) (rest : List LineEvent) → AreTimed (event ∷ rest) → AreTimed (with_others (others_of room event) rest)
timed_behind room (Bytes at bytes) rest timed =
    timed_cut room at bytes rest (nat_lt room (length bytes)) (timed 0 (Bytes at bytes) (omega arith)) (timed_rest (Bytes at bytes) rest timed)
timed_behind room (End at) rest timed = timed_rest (End at) rest timed
timed_behind room (Idle at) rest timed = timed_rest (Idle at) rest timed

head_timed : (event : LineEvent) (rest : List LineEvent) → AreTimed (event ∷ rest) → IsTime (time_of event)
head_timed event rest timed = timed 0 event (omega arith)

-- what holds of a line behind an event that was heard
pub stays : (room : ℕ) (before after : List LineEvent) (event : LineEvent) (others : Option LineEvent) (at : ℤ)
    → before ≡ event ∷ drop 1 before → at ≡ time_of event → others ≡ others_of room event → after ≡ with_others others (drop 1 before)
    → IsTrue (list_all gives_bytes before) → AreTimed before
    → IsTime (to_z w64 (of_z w64 at)) × IsTrue (list_all gives_bytes after) × AreTimed after
stays room before after event others at front is cut left full timed =
    let f = subst (λ (xs : List LineEvent). IsTrue (list_all gives_bytes xs)) front full in
    let t = subst AreTimed front timed in
    let time : IsTime at = rw is (head_timed event (drop 1 before) t) in (
      rw (time_back at time) time,
      rw (left, cut) (full_behind room event (drop 1 before) f),
      rw (left, cut) (timed_behind room event (drop 1 before) t),
    )

time_first : (room : ℕ) (event : LineEvent) → time_of (first_of room event) ≡ time_of event
time_first room (Bytes at bytes) = refl
time_first room (End at) = refl
time_first room (Idle at) = refl

hears_front : (room : ℕ) (old : LineState) (event : LineEvent) (rest : List LineEvent) (buffer : List ℕ) (what : LineWhat)
    → old.left ≡ event ∷ rest → line_events (time_of (first_of room event)) what buffer ≡ first_of room event ∷ []
    → HearsAt room old (record old { left = with_others (others_of room event) rest; heard = old.heard ++ first_of room event ∷ []; last = time_of event }) buffer (time_of event) what
hears_front room old event rest buffer what front told = record {
  time = rw front refl;
  told = rw front (rw (time_first room event) at told);
  state = rw front refl;
}

-- an event was heard, where it was taken from the front
pub hears : (room : ℕ) (old : LineState) (event first : LineEvent) (others : Option LineEvent) (left heard : List LineEvent) (buffer : List ℕ) (at : ℤ) (what : LineWhat)
    → old.left ≡ event ∷ drop 1 old.left → AreTimed old.left → at ≡ time_of event → first ≡ first_of room event → others ≡ others_of room event
    → left ≡ with_others others (drop 1 old.left) → heard ≡ old.heard ++ first ∷ [] → line_events (time_of first) what buffer ≡ first ∷ []
    → HearsAt room old (record old { left = left; heard = heard; last = to_z w64 (of_z w64 at) }) buffer (to_z w64 (of_z w64 at)) what
hears room old event first others left heard buffer at what front timed is cut over behind more told =
    let t = subst AreTimed front timed in
    let time : IsTime at = rw is (head_timed event (drop 1 old.left) t) in
    rw (time_back at time, is, behind, over, more, cut) (hears_front room old event (drop 1 old.left) buffer what front (rw cut at told))
