-- Events that happen to a world, one after another.
use Rattle.std.proofs.Common.{◌≡◌, ℕ, ℤ, pos, ◌+◌, ◌<◌, List, [], ◌∷◌, ◌++◌, length, take, drop, get_or, refl, sym, ap, subst, ◌∙◌, append_assoc, arith, inl, inr, true}
use Rattle.std.specs.Int.{w64}
use Rattle.std.proofs.lemmas.Int.{ints}
use Rattle.std.specs.Int.RustNames.{FitsSigned}
use Rattle.std.proofs.lemmas.List.{take_more, take-append-drop}
use Rattle.payload_seal.specs.declared.keys.EntryKeys.{EntryKeys}
use Rattle.world_core.specs.Moments.{Moment, IsSoundMoment}
use Rattle.world_core.specs.Steps.{IsAllDrained}
use Rattle.world_core.proofs.Drained.{leaves_nothing}
use Rattle.replay_cli.specs.Lines.{SaysBy}
use Rattle.replay_cli.specs.Script.{event_text, MayStand, opened, opened_by}
use Rattle.replay_cli.specs.Worlds.{AllHappen, Happens, MayFollow, MayHappen, ends_in_drain}
use Rattle.replay_cli.proofs.Admitting.{all_admit}
use Rattle.replay_cli.specs.declared.script.Event.{Event}
use Rattle.replay_cli.specs.declared.script.Event.TheVariants.{Open, Send, Up, Down, Cut, Time, Tick, Drain}

pub none_happen : (k : EntryKeys) (m : Moment) → AllHappen k [] m m
unfolding AllHappen
none_happen k m = refl

-- one more happens
pub more_happen : (k : EntryKeys) (events : List Event) (event : Event) (m n p : Moment) → AllHappen k events m n → Happens k event n p → AllHappen k (events ++ event ∷ []) m p
unfolding AllHappen
more_happen k [] event m n p all one = (p, subst (λ (x : Moment). Happens k event x p) all one, refl)
more_happen k (first ∷ events) event m n p all one = (all.0, all.1, more_happen k events event all.0 n p all.2 one)

-- what may stand in a script may happen
may_happen : (count : ℕ) (event : Event) → MayStand count event → MayHappen count event
may_happen count Open may = tt
may_happen count (Send c bytes) may = may.0
may_happen count (Up c first second) may = may.0
may_happen count (Down c limit) may = may.0
may_happen count (Cut c) may = may
may_happen count (Time now) may = may
may_happen count Tick may = tt
may_happen count Drain may = tt

-- the events that a script says may follow one another
pub may_follow : (count : ℕ) (lines : List (List ℕ)) (events : List Event) → SaysBy event_text MayStand opened_by count lines events → MayFollow count events
unfolding MayFollow
may_follow count [] events says = subst (MayFollow count) (sym says) tt
may_follow count (line ∷ more) events (inl skipped) = may_follow count more events skipped.1
may_follow count (line ∷ more) events (inr (event, rest, is, text, may, says)) =
    subst (MayFollow count) (sym is) (may_happen count event may, may_follow (count + opened_by event) more rest says)

-- each one may stand where it does
pub may_stand : (count : ℕ) (front : List Event) (event : Event) (rest : List Event) → MayFollow count (front ++ event ∷ rest) → MayHappen (count + opened front) event
unfolding MayFollow
may_stand count [] event rest may = subst (λ (n : ℕ). MayHappen n event) (omega arith) may.0
may_stand count (first ∷ front) event rest may =
    subst (λ (n : ℕ). MayHappen n event) (omega arith) (may_stand (count + opened_by first) front event rest may.1)

ends_one : (event : Event) → ends_in_drain (event ∷ []) ≡ true → event ≡ Drain
unfolding ends_in_drain
ends_one Drain is = refl
ends_one Open is = absurd cc
ends_one (Send c bytes) is = absurd cc
ends_one (Up c first second) is = absurd cc
ends_one (Down c limit) is = absurd cc
ends_one (Cut c) is = absurd cc
ends_one (Time now) is = absurd cc
ends_one Tick is = absurd cc

ends_behind : (first second : Event) (events : List Event) → ends_in_drain (first ∷ second ∷ events) ≡ ends_in_drain (second ∷ events)
unfolding ends_in_drain
ends_behind Drain second events = refl
ends_behind Open second events = refl
ends_behind (Send c bytes) second events = refl
ends_behind (Up c x y) second events = refl
ends_behind (Down c limit) second events = refl
ends_behind (Cut c) second events = refl
ends_behind (Time now) second events = refl
ends_behind Tick second events = refl

-- the last event is the last one
ends_last : (events : List Event) (event : Event) → ends_in_drain (events ++ event ∷ []) ≡ true → event ≡ Drain
ends_last [] event is = ends_one event is
ends_last (first ∷ []) event is = ends_one event (sym (ends_behind first event []) ∙ is)
ends_last (first ∷ second ∷ events) event is = ends_last (second ∷ events) event (sym (ends_behind first second (events ++ event ∷ [])) ∙ is)

drain_leaves : (k : EntryKeys) (m n : Moment) → IsSoundMoment k 0 m → Happens k Drain m n → IsAllDrained n
unfolding Happens
drain_leaves k m n sound drains = leaves_nothing k 0 m n sound drains

-- where the last event is a drain nothing is left
pub drained_last : (k : EntryKeys) (events : List Event) (event : Event) (m n : Moment) → IsSoundMoment k 0 m → Happens k event m n → ends_in_drain (events ++ event ∷ []) ≡ true → IsAllDrained n
drained_last k events event m n sound happens is = drain_leaves k m n sound (subst (λ (e : Event). Happens k e m n) (ends_last events event is) happens)

-- ---- event by event

no_drain : ends_in_drain [] ≡ true → ⊥
unfolding ends_in_drain
no_drain is = absurd cc

pub none_drained : (n : Moment) → ends_in_drain [] ≡ true → IsAllDrained n
none_drained n is = absurd (no_drain is)

pub upto : (events : List Event) (i : ℕ) (event : Event) → i < length events → event ≡ get_or events i event → take (i + 1) events ≡ take i events ++ event ∷ []
upto events i event within is = take_more events i event within ∙ ap (λ (e : Event). take i events ++ e ∷ []) (sym is)

-- an event of those that may follow one another may stand where it does
pub may_at : (events : List Event) (i : ℕ) (event : Event) → i < length events → event ≡ get_or events i event → MayFollow 0 events → MayHappen (0 + opened (take i events)) event
may_at events i event within is may =
    let cut : events ≡ take i events ++ event ∷ drop (i + 1) events
    = sym (take-append-drop (i + 1) events) ∙ ap (λ (l : List Event). l ++ drop (i + 1) events) (upto events i event within is)
    ∙ append_assoc (take i events) (event ∷ []) (drop (i + 1) events) in
    may_stand 0 (take i events) event (drop (i + 1) events) (subst (MayFollow 0) cut may)

pub may_here : (keys : EntryKeys) (events : List Event) (event : Event) (m n : Moment) → m.past.admitted ≡ 0 → AllHappen keys events m n → MayHappen (0 + opened events) event
    → MayHappen n.past.admitted event
may_here keys events event m n zero all may =
    let count = all_admit keys events m n all in
    let same : 0 + opened events ≡ n.past.admitted = omega (arith, count, zero) in
    subst (λ (x : ℕ). MayHappen x event) same may

-- a time of a script is one of a store
pub fits_time : (opened : ℕ) (now : ℤ) → MayHappen opened (Time now) → FitsSigned w64 now
fits_time opened now may = let at : now ≡ pos may.0 = may.1 in let below = may.2 in subst (FitsSigned w64) (sym at) (omega (arith, ints, below))
