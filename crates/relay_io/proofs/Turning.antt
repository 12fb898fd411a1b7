-- One more turn of a relay.
use Rattle.std.proofs.Common.{◌≡◌, ◌⊎◌, inl, inr, ℕ, ◌+◌, ◌<◌, ◌≤◌, List, [], ◌∷◌, ◌++◌, length, refl, sym, ap, subst, ◌∙◌, arith}
use Rattle.std.specs.Prelude.{Option, Some, None, Result, Ok, Err}
use Rattle.std.proofs.lemmas.Grind.{flat_map-append}
use Rattle.std.proofs.lemmas.List.{append-nil, length-append}
use Rattle.jute_core.specs.Faults.{Rose, Wrote, WroteFront}
use Rattle.jute_core.specs.Frames.{frame}
use Rattle.reply_rewrite.specs.declared.finding.Finding.{Finding}
use Rattle.entry_session.specs.Stands.{Stand}
use Rattle.entry_session.specs.Sides.{bytes_of}
use Rattle.entry_session.specs.Kept.{Kept}
use Rattle.entry_session.specs.declared.ending.Ending.{Ending}
use Rattle.entry_session.specs.declared.ending.Ending.TheVariants as endings
use Rattle.relay_io.specs.declared.duo.DuoEvent.{DuoEvent}
use Rattle.relay_io.specs.declared.duo.DuoEvent.TheVariants as events
use Rattle.relay_io.specs.Sides.{Sides, Grew, HasRisen, WritesNothing, ClientStays, StoreStays}
use Rattle.relay_io.specs.Scenes.{Line, Scene, opening, ended, Passes, Leads}
use Rattle.relay_io.specs.Relayed.{TellsAll, StoreTook, ClientTook, StoreCut, ClientCut, through_all, in_part, Relayed}
use Rattle.relay_io.specs.Relayed.{ended_so, store_unwritten, client_unwritten, client_unheard, store_unheard, turns_used, out_of_memory}
use Rattle.relay_io.specs.Turns.{IsAt, SoFar, After, ToStore, ToStoreFront, ToClient, ToClientFront}
use Rattle.relay_io.specs.Turns.{StopsUp, up_ended, up_unwritten, up_in_part, GoesUp, WentUp, StopsDown, down_ended, down_unwritten, down_in_part, GoesDown, WentDown}
use Rattle.relay_io.proofs.Passing.{passes_more}
use Rattle.relay_io.proofs.Reasons.{Ended, relayed_so}
use Rattle.relay_io.proofs.Telling.{tells_both}
use Rattle.relay_io.proofs.Writing.{wrote_nothing, wrote_both, front_behind, grew_both, grew_none, rose_later}

-- ---- one side

-- bytes behind those before
took_more : (a b c d : Option (List ℕ)) (bodies gained all : List (List ℕ)) → Wrote a b (bytes_of bodies) → c ≡ b → Wrote c d (bytes_of gained) → all ≡ bodies ++ gained → Wrote a d (bytes_of all)
took_more a b c d bodies gained all w same more is =
    let both = wrote_both a b d (bytes_of bodies) (bytes_of gained) w (subst (λ (o : Option (List ℕ)). Wrote o d (bytes_of gained)) same more) in
    subst (λ (bytes : List ℕ). Wrote a d bytes) (sym (flat_map-append frame bodies gained) ∙ ap bytes_of (sym is)) both

took_front : (a b c d : Option (List ℕ)) (bodies gained all : List (List ℕ)) → Wrote a b (bytes_of bodies) → c ≡ b → WroteFront c d (bytes_of gained) → all ≡ bodies ++ gained → WroteFront a d (bytes_of all)
took_front a b c d bodies gained all w same more is =
    let both = front_behind a b d (bytes_of bodies) (bytes_of gained) w (subst (λ (o : Option (List ℕ)). WroteFront o d (bytes_of gained)) same more) in
    subst (λ (bytes : List ℕ). WroteFront a d bytes) (sym (flat_map-append frame bodies gained) ∙ ap bytes_of (sym is)) both

took_same : (a b c : Option (List ℕ)) (bodies all : List (List ℕ)) → Wrote a b (bytes_of bodies) → c ≡ b → all ≡ bodies → Wrote a c (bytes_of all)
took_same a b c bodies all w same is =
    subst (λ (o : Option (List ℕ)). Wrote a o (bytes_of all)) (sym same) (subst (λ (bs : List (List ℕ)). Wrote a b (bytes_of bs)) (sym is) w)

-- events behind those before
grew_more : (a b c d : Option (List DuoEvent)) (heard more : List DuoEvent) → Grew a b heard → Grew b c more → d ≡ c → Grew a d (heard ++ more)
grew_more a b c d heard more g h same = subst (λ (o : Option (List DuoEvent)). Grew a o (heard ++ more)) (sym same) (grew_both a b c heard more g h)

rose_behind : (a b c d : ℕ) → a ≤ b → c ≡ b → Rose c d → Rose a d
rose_behind a b c d h same r = rose_later a b d h (subst (λ (n : ℕ). Rose n d) same r)

one_more : (heard : List DuoEvent) (event : DuoEvent) (count : ℕ) → length heard ≡ count → length (heard ++ event ∷ []) ≡ count + 1
one_more heard event count is = let l = length-append heard (event ∷ []) in omega (arith, l, is)

within_more : (heard : List DuoEvent) (event : DuoEvent) (count turns : ℕ) → length heard ≡ count → count < turns → length (heard ++ event ∷ []) ≤ turns
within_more heard event count turns is below = let l = one_more heard event count is in omega (arith, l, below)

-- ---- an event of which nothing is written

-- What waiting for both sides left: this was heard, nothing was written, and the counts stay.
pub record Waits (old mid : Sides) (more : List DuoEvent) : Type 0 where
  pub grew : Grew old.events mid.events more
  pub unwritten : WritesNothing old mid
  pub client_faults : mid.client_faults ≡ old.client_faults
  pub store_faults : mid.store_faults ≡ old.store_faults

pub idle_turn : {B : Type 0} (line : Line) (count : ℕ) (start old mid : Sides) (Told : B → Finding → B → Type 0) (before board : B) (kept : Kept)
    → SoFar line start old Told before board count kept → Waits old mid (events.Idle ∷ []) → SoFar line start mid Told before board (count + 1) kept
idle_turn line count start old mid Told before board kept s w = record {
  heard = s.heard ++ events.Idle ∷ [];
  scene = s.scene;
  counted = one_more s.heard events.Idle count s.counted;
  passes = passes_more line opening s.scene s.scene s.heard events.Idle s.passes s.goes_on refl;
  goes_on = s.goes_on;
  at = s.at;
  grew = grew_more start.events old.events mid.events mid.events s.heard (events.Idle ∷ []) s.grew w.grew refl;
  store = took_same start.to_store old.to_store mid.to_store s.scene.stand.up s.scene.stand.up s.store w.unwritten.to_store refl;
  client = took_same start.to_client old.to_client mid.to_client s.scene.stand.down s.scene.stand.down s.client w.unwritten.to_client refl;
  told = s.told;
  client_later = omega (arith, s.client_later, w.client_faults);
  store_later = omega (arith, s.store_later, w.store_faults);
}

pub end_turn : {B : Type 0} (line : Line) (turns count : ℕ) (start old mid : Sides) (Told : B → Finding → B → Type 0) (before board : B) (kept : Kept) (event : DuoEvent) (by : Ending)
    → count < turns → SoFar line start old Told before board count kept → Waits old mid (event ∷ []) → ((scene : Scene) → Leads line scene event (ended scene by)) → Relayed line turns start mid Told before board by
end_turn line turns count start old mid Told before board kept event by below s w leads = relayed_so line turns start mid Told before board by (record {
  heard = s.heard ++ event ∷ [];
  scene = ended s.scene by;
  grew = grew_more start.events old.events mid.events mid.events s.heard (event ∷ []) s.grew w.grew refl;
  within = within_more s.heard event count turns s.counted below;
  came = through_all by (passes_more line opening s.scene (ended s.scene by) s.heard event s.passes s.goes_on (leads s.scene));
  ends = ended_so by refl (inl (took_same start.to_store old.to_store mid.to_store s.scene.stand.up s.scene.stand.up s.store w.unwritten.to_store refl))
      (inl (took_same start.to_client old.to_client mid.to_client s.scene.stand.down s.scene.stand.down s.client w.unwritten.to_client refl));
  told = s.told;
  client_later = omega (arith, s.client_later, w.client_faults);
  store_later = omega (arith, s.store_later, w.store_faults);
})

still : (a b c : Option (List DuoEvent)) (heard : List DuoEvent) → Grew a b heard → Grew b c [] → Grew a c heard
still a b c heard g h = subst (λ (hs : List DuoEvent). Grew a c hs) (append-nil heard) (grew_both a b c heard [] g h)

pub client_unheard_turn : {B : Type 0} (line : Line) (turns count : ℕ) (start old mid : Sides) (Told : B → Finding → B → Type 0) (before board : B) (kept : Kept)
    → count < turns → SoFar line start old Told before board count kept → Grew old.events mid.events [] → WritesNothing old mid → HasRisen old.client_faults mid.client_faults × (mid.store_faults ≡ old.store_faults)
    → Relayed line turns start mid Told before board endings.ClientFault
client_unheard_turn line turns count start old mid Told before board kept below s grew none counts = relayed_so line turns start mid Told before board endings.ClientFault (record {
  heard = s.heard;
  scene = s.scene;
  grew = still start.events old.events mid.events s.heard s.grew grew;
  within = omega (arith, s.counted, below);
  came = through_all endings.ClientFault s.passes;
  ends = client_unheard s.goes_on (omega (arith, s.counted, below)) (rose_later start.client_faults old.client_faults mid.client_faults s.client_later counts.0.rose)
      (took_same start.to_store old.to_store mid.to_store s.scene.stand.up s.scene.stand.up s.store none.to_store refl)
      (took_same start.to_client old.to_client mid.to_client s.scene.stand.down s.scene.stand.down s.client none.to_client refl);
  told = s.told;
  client_later = let l = counts.0.later in omega (arith, s.client_later, l);
  store_later = let l = counts.1 in omega (arith, s.store_later, l);
})

pub store_unheard_turn : {B : Type 0} (line : Line) (turns count : ℕ) (start old mid : Sides) (Told : B → Finding → B → Type 0) (before board : B) (kept : Kept)
    → count < turns → SoFar line start old Told before board count kept → Grew old.events mid.events [] → WritesNothing old mid → (mid.client_faults ≡ old.client_faults) × HasRisen old.store_faults mid.store_faults
    → Relayed line turns start mid Told before board endings.StoreFault
store_unheard_turn line turns count start old mid Told before board kept below s grew none counts = relayed_so line turns start mid Told before board endings.StoreFault (record {
  heard = s.heard;
  scene = s.scene;
  grew = still start.events old.events mid.events s.heard s.grew grew;
  within = omega (arith, s.counted, below);
  came = through_all endings.StoreFault s.passes;
  ends = store_unheard s.goes_on (omega (arith, s.counted, below)) (rose_later start.store_faults old.store_faults mid.store_faults s.store_later counts.1.rose)
      (took_same start.to_store old.to_store mid.to_store s.scene.stand.up s.scene.stand.up s.store none.to_store refl)
      (took_same start.to_client old.to_client mid.to_client s.scene.stand.down s.scene.stand.down s.client none.to_client refl);
  told = s.told;
  client_later = let l = counts.0 in omega (arith, s.client_later, l);
  store_later = let l = counts.1.later in omega (arith, s.store_later, l);
})

-- ---- a piece of the client

-- what became of the store's side
store_side : (start old mid new : Sides) (s next : Stand) (gained : List (List ℕ)) → StoreTook start old s → mid.to_store ≡ old.to_store → start.store_faults ≤ old.store_faults → mid.store_faults ≡ old.store_faults → next.up ≡ s.up ++ gained
    → ToStore mid new gained ⊎ ToStoreFront mid new gained → StoreTook start new next ⊎ StoreCut start new next
store_side start old mid new s next gained took same later faults is (inl w) = inl (took_more start.to_store old.to_store mid.to_store new.to_store s.up gained next.up took same w is)
store_side start old mid new s next gained took same later faults is (inr w) = inr (record {
  rose = rose_behind start.store_faults old.store_faults mid.store_faults new.store_faults later faults w.rose;
  front = took_front start.to_store old.to_store mid.to_store new.to_store s.up gained next.up took same w.front is;
})

store_cut : (start old mid new : Sides) (s next : Stand) (gained : List (List ℕ)) → StoreTook start old s → mid.to_store ≡ old.to_store → start.store_faults ≤ old.store_faults → mid.store_faults ≡ old.store_faults → next.up ≡ s.up ++ gained
    → ToStoreFront mid new gained → StoreCut start new next
store_cut start old mid new s next gained took same later faults is w = record {
  rose = rose_behind start.store_faults old.store_faults mid.store_faults new.store_faults later faults w.rose;
  front = took_front start.to_store old.to_store mid.to_store new.to_store s.up gained next.up took same w.front is;
}

up_stopped : {B : Type 0} (line : Line) (turns count : ℕ) (start old mid new : Sides) (Told : B → Finding → B → Type 0) (before board : B) (kept : Kept) (piece : List ℕ) (e : Ending)
    → count < turns → (s : SoFar line start old Told before board count kept) → Waits old mid (events.Client piece ∷ []) → mid.store_faults ≤ new.store_faults → ClientStays mid new
    → StopsUp line s.scene piece mid new e → Relayed line turns start new Told before board e
up_stopped {B} line turns count start old mid new Told before board kept piece answer below s w later stays (up_ended e next gained hears ending gains written) = relayed_so line turns start new Told before board e (record {
  heard = s.heard ++ events.Client piece ∷ [];
  scene = next;
  grew = grew_more start.events old.events mid.events new.events s.heard (events.Client piece ∷ []) s.grew w.grew stays.events;
  within = within_more s.heard (events.Client piece) count turns s.counted below;
  came = through_all e (passes_more line opening s.scene next s.heard (events.Client piece) s.passes s.goes_on hears);
  ends = ended_so e ending (store_side start old mid new s.scene.stand next.stand gained s.store w.unwritten.to_store s.store_later w.store_faults gains.up written)
      (inl (took_same start.to_client old.to_client new.to_client s.scene.stand.down next.stand.down s.client (stays.to_client ∙ w.unwritten.to_client) gains.down));
  told = subst (λ (fs : List Finding). TellsAll Told before fs board) (sym gains.findings) s.told;
  client_later = let a = stays.client_faults in omega (arith, s.client_later, w.client_faults, a);
  store_later = omega (arith, s.store_later, w.store_faults, later);
})
up_stopped {B} line turns count start old mid new Told before board kept piece e below s w later stays (up_unwritten next gained hears none gains written) = relayed_so line turns start new Told before board endings.StoreFault (record {
  heard = s.heard ++ events.Client piece ∷ [];
  scene = next;
  grew = grew_more start.events old.events mid.events new.events s.heard (events.Client piece ∷ []) s.grew w.grew stays.events;
  within = within_more s.heard (events.Client piece) count turns s.counted below;
  came = through_all endings.StoreFault (passes_more line opening s.scene next s.heard (events.Client piece) s.passes s.goes_on hears);
  ends = store_unwritten none (store_cut start old mid new s.scene.stand next.stand gained s.store w.unwritten.to_store s.store_later w.store_faults gains.up written)
      (took_same start.to_client old.to_client new.to_client s.scene.stand.down next.stand.down s.client (stays.to_client ∙ w.unwritten.to_client) gains.down);
  told = subst (λ (fs : List Finding). TellsAll Told before fs board) (sym gains.findings) s.told;
  client_later = let a = stays.client_faults in omega (arith, s.client_later, w.client_faults, a);
  store_later = omega (arith, s.store_later, w.store_faults, later);
})
up_stopped {B} line turns count start old mid new Told before board kept piece e below s w later stays (up_in_part next gained hears gains written) = relayed_so line turns start new Told before board endings.Memory (record {
  heard = s.heard ++ events.Client piece ∷ [];
  scene = next;
  grew = grew_more start.events old.events mid.events new.events s.heard (events.Client piece ∷ []) s.grew w.grew stays.events;
  within = within_more s.heard (events.Client piece) count turns s.counted below;
  came = in_part s.heard (events.Client piece) s.scene refl s.passes s.goes_on hears;
  ends = out_of_memory hears.goes_on (store_side start old mid new s.scene.stand next.stand gained s.store w.unwritten.to_store s.store_later w.store_faults gains.up written)
      (took_same start.to_client old.to_client new.to_client s.scene.stand.down next.stand.down s.client (stays.to_client ∙ w.unwritten.to_client) gains.down);
  told = subst (λ (fs : List Finding). TellsAll Told before fs board) (sym gains.findings) s.told;
  client_later = let a = stays.client_faults in omega (arith, s.client_later, w.client_faults, a);
  store_later = omega (arith, s.store_later, w.store_faults, later);
})

up_goes : {B : Type 0} (line : Line) (count : ℕ) (start old mid new : Sides) (Told : B → Finding → B → Type 0) (before board : B) (kept after : Kept) (piece : List ℕ)
    → (s : SoFar line start old Told before board count kept) → Waits old mid (events.Client piece ∷ []) → mid.store_faults ≤ new.store_faults → ClientStays mid new
    → GoesUp line s.scene piece mid new after → SoFar line start new Told before board (count + 1) after
up_goes line count start old mid new Told before board kept after piece s w later stays u = record {
  heard = s.heard ++ events.Client piece ∷ [];
  scene = u.next;
  counted = one_more s.heard (events.Client piece) count s.counted;
  passes = passes_more line opening s.scene u.next s.heard (events.Client piece) s.passes s.goes_on u.hears;
  goes_on = u.goes_on;
  at = u.at;
  grew = grew_more start.events old.events mid.events new.events s.heard (events.Client piece ∷ []) s.grew w.grew stays.events;
  store = took_more start.to_store old.to_store mid.to_store new.to_store s.scene.stand.up u.gained u.next.stand.up s.store w.unwritten.to_store u.written u.gains.up;
  client = took_same start.to_client old.to_client new.to_client s.scene.stand.down u.next.stand.down s.client (stays.to_client ∙ w.unwritten.to_client) u.gains.down;
  told = subst (λ (fs : List Finding). TellsAll Told before fs board) (sym u.gains.findings) s.told;
  client_later = let a = stays.client_faults in omega (arith, s.client_later, w.client_faults, a);
  store_later = omega (arith, s.store_later, w.store_faults, later);
}

pub up_turn : {B : Type 0} (line : Line) (turns count : ℕ) (start old mid new : Sides) (Told : B → Finding → B → Type 0) (before board : B) (kept after : Kept) (piece : List ℕ) (r : Result (Unit {0}) Ending)
    → count < turns → SoFar line start old Told before board count kept → Waits old mid (events.Client piece ∷ []) → mid.store_faults ≤ new.store_faults → ClientStays mid new
    → ((line : Line) (scene : Scene) → IsAt line scene kept → scene.stand.ending ≡ None → WentUp line scene piece mid new after r) → After line turns start new Told before board count after r
up_turn line turns count start old mid new Told before board kept after piece (Ok x) below s w later stays went = up_goes line count start old mid new Told before board kept after piece s w later stays (went line s.scene s.at s.goes_on)
up_turn line turns count start old mid new Told before board kept after piece (Err e) below s w later stays went = up_stopped line turns count start old mid new Told before board kept piece e below s w later stays (went line s.scene s.at s.goes_on)

-- ---- a piece of the store

client_side : (start old mid new : Sides) (s next : Stand) (gained : List (List ℕ)) → ClientTook start old s → mid.to_client ≡ old.to_client → start.client_faults ≤ old.client_faults → mid.client_faults ≡ old.client_faults → next.down ≡ s.down ++ gained
    → ToClient mid new gained ⊎ ToClientFront mid new gained → ClientTook start new next ⊎ ClientCut start new next
client_side start old mid new s next gained took same later faults is (inl w) = inl (took_more start.to_client old.to_client mid.to_client new.to_client s.down gained next.down took same w is)
client_side start old mid new s next gained took same later faults is (inr w) = inr (record {
  rose = rose_behind start.client_faults old.client_faults mid.client_faults new.client_faults later faults w.rose;
  front = took_front start.to_client old.to_client mid.to_client new.to_client s.down gained next.down took same w.front is;
})

client_cut : (start old mid new : Sides) (s next : Stand) (gained : List (List ℕ)) → ClientTook start old s → mid.to_client ≡ old.to_client → start.client_faults ≤ old.client_faults → mid.client_faults ≡ old.client_faults → next.down ≡ s.down ++ gained
    → ToClientFront mid new gained → ClientCut start new next
client_cut start old mid new s next gained took same later faults is w = record {
  rose = rose_behind start.client_faults old.client_faults mid.client_faults new.client_faults later faults w.rose;
  front = took_front start.to_client old.to_client mid.to_client new.to_client s.down gained next.down took same w.front is;
}

told_more : {B : Type 0} (Told : B → Finding → B → Type 0) (before board after : B) (old found all : List Finding) → TellsAll Told before old board → TellsAll Told board found after → all ≡ old ++ found → TellsAll Told before all after
told_more {B} Told before board after old found all t u is = subst (λ (fs : List Finding). TellsAll Told before fs after) (sym is) (tells_both Told before board after old found t u)

no_more_bytes : (bodies : List (List ℕ)) → bodies ≡ bodies ++ []
no_more_bytes bodies = sym (append-nil bodies)

down_stopped : {B : Type 0} (line : Line) (turns count : ℕ) (start old mid new : Sides) (Told : B → Finding → B → Type 0) (before board told : B) (kept : Kept) (piece : List ℕ) (e : Ending)
    → count < turns → (s : SoFar line start old Told before board count kept) → Waits old mid (events.Store piece ∷ []) → mid.client_faults ≤ new.client_faults → StoreStays mid new
    → StopsDown line s.scene piece mid new Told board told e → Relayed line turns start new Told before told e
down_stopped {B} line turns count start old mid new Told before board told kept piece answer below s w later stays (down_ended e next gained found hears ending gains written tells) = relayed_so line turns start new Told before told e (record {
  heard = s.heard ++ events.Store piece ∷ [];
  scene = next;
  grew = grew_more start.events old.events mid.events new.events s.heard (events.Store piece ∷ []) s.grew w.grew stays.events;
  within = within_more s.heard (events.Store piece) count turns s.counted below;
  came = through_all e (passes_more line opening s.scene next s.heard (events.Store piece) s.passes s.goes_on hears);
  ends = ended_so e ending (inl (took_same start.to_store old.to_store new.to_store s.scene.stand.up next.stand.up s.store (stays.to_store ∙ w.unwritten.to_store) gains.up))
      (client_side start old mid new s.scene.stand next.stand gained s.client w.unwritten.to_client s.client_later w.client_faults gains.down written);
  told = told_more Told before board told s.scene.stand.findings found next.stand.findings s.told tells gains.findings;
  client_later = omega (arith, s.client_later, w.client_faults, later);
  store_later = let a = stays.store_faults in omega (arith, s.store_later, w.store_faults, a);
})
down_stopped {B} line turns count start old mid new Told before board told kept piece e below s w later stays (down_unwritten next gained found hears none gains written tells) = relayed_so line turns start new Told before told endings.ClientFault (record {
  heard = s.heard ++ events.Store piece ∷ [];
  scene = next;
  grew = grew_more start.events old.events mid.events new.events s.heard (events.Store piece ∷ []) s.grew w.grew stays.events;
  within = within_more s.heard (events.Store piece) count turns s.counted below;
  came = through_all endings.ClientFault (passes_more line opening s.scene next s.heard (events.Store piece) s.passes s.goes_on hears);
  ends = client_unwritten none (took_same start.to_store old.to_store new.to_store s.scene.stand.up next.stand.up s.store (stays.to_store ∙ w.unwritten.to_store) gains.up)
      (client_cut start old mid new s.scene.stand next.stand gained s.client w.unwritten.to_client s.client_later w.client_faults gains.down written);
  told = told_more Told before board told s.scene.stand.findings found next.stand.findings s.told tells gains.findings;
  client_later = omega (arith, s.client_later, w.client_faults, later);
  store_later = let a = stays.store_faults in omega (arith, s.store_later, w.store_faults, a);
})
down_stopped {B} line turns count start old mid new Told before board told kept piece e below s w later stays (down_in_part written tells) = relayed_so line turns start new Told before told endings.Memory (record {
  heard = s.heard ++ events.Store piece ∷ [];
  scene = s.scene;
  grew = grew_more start.events old.events mid.events new.events s.heard (events.Store piece ∷ []) s.grew w.grew stays.events;
  within = within_more s.heard (events.Store piece) count turns s.counted below;
  came = in_part s.heard (events.Store piece) s.scene refl s.passes s.goes_on refl;
  ends = out_of_memory s.goes_on (inl (took_same start.to_store old.to_store new.to_store s.scene.stand.up s.scene.stand.up s.store (stays.to_store ∙ w.unwritten.to_store) refl))
      (took_more start.to_client old.to_client mid.to_client new.to_client s.scene.stand.down [] s.scene.stand.down s.client w.unwritten.to_client written (no_more_bytes s.scene.stand.down));
  told = subst (λ (b : B). TellsAll Told before s.scene.stand.findings b) (sym tells) s.told;
  client_later = omega (arith, s.client_later, w.client_faults, later);
  store_later = let a = stays.store_faults in omega (arith, s.store_later, w.store_faults, a);
})

down_goes : {B : Type 0} (line : Line) (count : ℕ) (start old mid new : Sides) (Told : B → Finding → B → Type 0) (before board told : B) (kept after : Kept) (piece : List ℕ)
    → (s : SoFar line start old Told before board count kept) → Waits old mid (events.Store piece ∷ []) → mid.client_faults ≤ new.client_faults → StoreStays mid new
    → GoesDown line s.scene piece mid new Told board told after → SoFar line start new Told before told (count + 1) after
down_goes line count start old mid new Told before board told kept after piece s w later stays u = record {
  heard = s.heard ++ events.Store piece ∷ [];
  scene = u.next;
  counted = one_more s.heard (events.Store piece) count s.counted;
  passes = passes_more line opening s.scene u.next s.heard (events.Store piece) s.passes s.goes_on u.hears;
  goes_on = u.goes_on;
  at = u.at;
  grew = grew_more start.events old.events mid.events new.events s.heard (events.Store piece ∷ []) s.grew w.grew stays.events;
  store = took_same start.to_store old.to_store new.to_store s.scene.stand.up u.next.stand.up s.store (stays.to_store ∙ w.unwritten.to_store) u.gains.up;
  client = took_more start.to_client old.to_client mid.to_client new.to_client s.scene.stand.down u.gained u.next.stand.down s.client w.unwritten.to_client u.written u.gains.down;
  told = told_more Told before board told s.scene.stand.findings u.found u.next.stand.findings s.told u.told u.gains.findings;
  client_later = omega (arith, s.client_later, w.client_faults, later);
  store_later = let a = stays.store_faults in omega (arith, s.store_later, w.store_faults, a);
}

pub down_turn : {B : Type 0} (line : Line) (turns count : ℕ) (start old mid new : Sides) (Told : B → Finding → B → Type 0) (before board told : B) (kept after : Kept) (piece : List ℕ) (r : Result (Unit {0}) Ending)
    → count < turns → SoFar line start old Told before board count kept → Waits old mid (events.Store piece ∷ []) → mid.client_faults ≤ new.client_faults → StoreStays mid new
    → ((line : Line) (scene : Scene) → IsAt line scene kept → scene.stand.ending ≡ None → WentDown line scene piece mid new Told board told after r) → After line turns start new Told before told count after r
down_turn line turns count start old mid new Told before board told kept after piece (Ok x) below s w later stays went = down_goes line count start old mid new Told before board told kept after piece s w later stays (went line s.scene s.at s.goes_on)
down_turn line turns count start old mid new Told before board told kept after piece (Err e) below s w later stays went = down_stopped line turns count start old mid new Told before board told kept piece e below s w later stays (went line s.scene s.at s.goes_on)

-- ---- the start and the end

pub at_start : {B : Type 0} (line : Line) (sides : Sides) (Told : B → Finding → B → Type 0) (board : B) (kept : Kept) → IsAt line opening kept → SoFar line sides sides Told board board 0 kept
at_start line sides Told board kept at = record {
  heard = [];
  scene = opening;
  counted = refl;
  passes = refl;
  goes_on = refl;
  at = at;
  grew = grew_none sides.events sides.events refl;
  store = wrote_nothing sides.to_store;
  client = wrote_nothing sides.to_client;
  told = refl;
  client_later = omega arith;
  store_later = omega arith;
}

pub no_buffer : {B : Type 0} (line : Line) (turns : ℕ) (sides : Sides) (Told : B → Finding → B → Type 0) (board : B) → Relayed line turns sides sides Told board board endings.Memory
no_buffer line turns sides Told board = relayed_so line turns sides sides Told board board endings.Memory (record {
  heard = [];
  scene = opening;
  grew = grew_none sides.events sides.events refl;
  within = omega arith;
  came = through_all endings.Memory refl;
  ends = out_of_memory refl (inl (wrote_nothing sides.to_store)) (wrote_nothing sides.to_client);
  told = refl;
  client_later = omega arith;
  store_later = omega arith;
})

pub all_heard : {B : Type 0} (line : Line) (turns count : ℕ) (start now : Sides) (Told : B → Finding → B → Type 0) (before board : B) (kept : Kept) → count ≡ turns → SoFar line start now Told before board count kept
    → Relayed line turns start now Told before board endings.Turns
all_heard line turns count start now Told before board kept all s = relayed_so line turns start now Told before board endings.Turns (record {
  heard = s.heard;
  scene = s.scene;
  grew = s.grew;
  within = omega (arith, s.counted, all);
  came = through_all endings.Turns s.passes;
  ends = turns_used s.goes_on (s.counted ∙ all) s.store s.client;
  told = s.told;
  client_later = s.client_later;
  store_later = s.store_later;
})
