-- What follows from why a relay ended.
use Rattle.std.proofs.Common.{◌≡◌, ◌⊎◌, ◌↔◌, inl, inr, ℕ, ◌+◌, ◌<◌, ◌≤◌, List, [], ◌∷◌, ◌++◌, length, refl, sym, ap, subst, ◌∙◌, arith}
use Rattle.std.specs.Prelude.{Option, Some, None}
use Rattle.jute_core.specs.Faults.{Rose}
use Rattle.reply_rewrite.specs.declared.finding.Finding.{Finding}
use Rattle.entry_session.specs.Stands.{Stand}
use Rattle.entry_session.specs.declared.ending.Ending.{Ending}
use Rattle.entry_session.specs.declared.ending.Ending.TheVariants as endings
use Rattle.relay_io.specs.declared.duo.DuoEvent.{DuoEvent}
use Rattle.relay_io.specs.declared.duo.DuoEvent.TheVariants as events
use Rattle.relay_io.specs.Sides.{Sides, Grew}
use Rattle.relay_io.specs.Scenes.{Line, Scene, opening, Passes, LeadsInPart}
use Rattle.relay_io.specs.Relayed.{TellsAll, IsLast, Came, through_all, in_part, AnswersSpent, Relayed}
use Rattle.relay_io.specs.Relayed.{Ends, ended_so, store_unwritten, client_unwritten, client_unheard, store_unheard, turns_used, out_of_memory}
use Rattle.relay_io.proofs.OwnEndings.{not_client_end, not_store_end, not_client_fault, not_store_fault, not_turns}
use Rattle.relay_io.proofs.Passing.{both_ways, some_is, FromMid, passes_last, last_same, HowFar, by_frames, by_client, by_store, how_far_it_came}

-- endings that callers give, and want of memory, told apart
abbrev kind : Ending → ℕ
kind endings.ClientEnd = 1
kind endings.StoreEnd = 2
kind endings.ClientFault = 3
kind endings.StoreFault = 4
kind endings.Turns = 5
kind endings.Memory = 6
kind e = 0

other_ending : (e f : Ending) (s : Stand) → s.ending ≡ Some e → e ≡ f → s.ending ≡ Some f
other_ending e f s is same = is ∙ ap Some same

-- an ending of the session is answered
pub answers_ending : (turns : ℕ) (old new : Sides) (heard : List DuoEvent) (s : Stand) (answer : Ending) → Ends turns old new heard s answer → (e : Ending) → s.ending ≡ Some e → answer ≡ e
answers_ending turns old new heard s answer (ended_so f is a b) e so = some_is s.ending f e is so
answers_ending turns old new heard s answer (store_unwritten n a b) e so = absurd (both_ways s.ending e so n)
answers_ending turns old new heard s answer (client_unwritten n a b) e so = absurd (both_ways s.ending e so n)
answers_ending turns old new heard s answer (client_unheard n l r a b) e so = absurd (both_ways s.ending e so n)
answers_ending turns old new heard s answer (store_unheard n l r a b) e so = absurd (both_ways s.ending e so n)
answers_ending turns old new heard s answer (turns_used n l a b) e so = absurd (both_ways s.ending e so n)
answers_ending turns old new heard s answer (out_of_memory n a b) e so = absurd (both_ways s.ending e so n)

-- where it is one that only the end of a side gives, that was heard last
client_end_last : (heard : List DuoEvent) (scene : Scene) → HowFar heard scene → scene.stand.ending ≡ Some endings.ClientEnd → IsLast events.ClientEnd heard
client_end_last heard scene (by_frames own) e = absurd (not_client_end scene.stand.ending own e)
client_end_last heard scene (by_client l f) e = l
client_end_last heard scene (by_store l f) e = absurd (omega (arith, ap kind (some_is scene.stand.ending endings.StoreEnd endings.ClientEnd f e)))

store_end_last : (heard : List DuoEvent) (scene : Scene) → HowFar heard scene → scene.stand.ending ≡ Some endings.StoreEnd → IsLast events.StoreEnd heard
store_end_last heard scene (by_frames own) e = absurd (not_store_end scene.stand.ending own e)
store_end_last heard scene (by_store l f) e = l
store_end_last heard scene (by_client l f) e = absurd (omega (arith, ap kind (some_is scene.stand.ending endings.ClientEnd endings.StoreEnd f e)))

-- and these are none that events give
no_client_fault : (heard : List DuoEvent) (scene : Scene) → HowFar heard scene → scene.stand.ending ≡ Some endings.ClientFault → ⊥
no_client_fault heard scene (by_frames own) e = not_client_fault scene.stand.ending own e
no_client_fault heard scene (by_client l f) e = omega (arith, ap kind (some_is scene.stand.ending endings.ClientEnd endings.ClientFault f e))
no_client_fault heard scene (by_store l f) e = omega (arith, ap kind (some_is scene.stand.ending endings.StoreEnd endings.ClientFault f e))

no_store_fault : (heard : List DuoEvent) (scene : Scene) → HowFar heard scene → scene.stand.ending ≡ Some endings.StoreFault → ⊥
no_store_fault heard scene (by_frames own) e = not_store_fault scene.stand.ending own e
no_store_fault heard scene (by_client l f) e = omega (arith, ap kind (some_is scene.stand.ending endings.ClientEnd endings.StoreFault f e))
no_store_fault heard scene (by_store l f) e = omega (arith, ap kind (some_is scene.stand.ending endings.StoreEnd endings.StoreFault f e))

no_turns : (heard : List DuoEvent) (scene : Scene) → HowFar heard scene → scene.stand.ending ≡ Some endings.Turns → ⊥
no_turns heard scene (by_frames own) e = not_turns scene.stand.ending own e
no_turns heard scene (by_client l f) e = omega (arith, ap kind (some_is scene.stand.ending endings.ClientEnd endings.Turns f e))
no_turns heard scene (by_store l f) e = omega (arith, ap kind (some_is scene.stand.ending endings.StoreEnd endings.Turns f e))

-- What is known of a relay at its end, from which all else follows.
pub record Ended {B : Type 0} (line : Line) (turns : ℕ) (old new : Sides) (Told : B → Finding → B → Type 0) (before after : B) (answer : Ending) : Type 0 where
  pub heard : List DuoEvent
  pub scene : Scene
  pub grew : Grew old.events new.events heard
  pub within : length heard ≤ turns
  pub came : Came line heard scene answer
  pub ends : Ends turns old new heard scene.stand answer
  pub told : TellsAll Told before scene.stand.findings after
  pub client_later : old.client_faults ≤ new.client_faults
  pub store_later : old.store_faults ≤ new.store_faults

-- an answer other than want of memory came through all events
came_through : (line : Line) (heard : List DuoEvent) (scene : Scene) (answer : Ending) → (answer ≡ endings.Memory → ⊥) → Came line heard scene answer → Passes line opening heard scene
came_through line heard scene answer n (through_all e p) = p
came_through line heard scene answer n (in_part before event mid h p g l) = absurd (n refl)

how_far_with : (line : Line) (heard : List DuoEvent) (scene : Scene) (answer : Ending) → (answer ≡ endings.Memory → ⊥) → Came line heard scene answer → HowFar heard scene
how_far_with line heard scene answer n c = how_far_it_came line scene heard (came_through line heard scene answer n c)

-- what an answer of this kind says, where the session gave it: at which event it came
client_end_ends : (line : Line) (turns : ℕ) (old new : Sides) (heard : List DuoEvent) (scene : Scene) (answer : Ending) → Came line heard scene answer → Ends turns old new heard scene.stand answer → answer ≡ endings.ClientEnd
    → IsLast events.ClientEnd heard
client_end_ends line turns old new heard scene answer c (ended_so f is a b) same =
    client_end_last heard scene (how_far_with line heard scene f (λ m. omega (arith, ap kind (sym m ∙ same))) c) (other_ending f endings.ClientEnd scene.stand is same)
client_end_ends line turns old new heard scene answer c (store_unwritten n a b) same = absurd (omega (arith, ap kind same))
client_end_ends line turns old new heard scene answer c (client_unwritten n a b) same = absurd (omega (arith, ap kind same))
client_end_ends line turns old new heard scene answer c (client_unheard n l r a b) same = absurd (omega (arith, ap kind same))
client_end_ends line turns old new heard scene answer c (store_unheard n l r a b) same = absurd (omega (arith, ap kind same))
client_end_ends line turns old new heard scene answer c (turns_used n l a b) same = absurd (omega (arith, ap kind same))
client_end_ends line turns old new heard scene answer c (out_of_memory n a b) same = absurd (omega (arith, ap kind same))

store_end_ends : (line : Line) (turns : ℕ) (old new : Sides) (heard : List DuoEvent) (scene : Scene) (answer : Ending) → Came line heard scene answer → Ends turns old new heard scene.stand answer → answer ≡ endings.StoreEnd
    → IsLast events.StoreEnd heard
store_end_ends line turns old new heard scene answer c (ended_so f is a b) same =
    store_end_last heard scene (how_far_with line heard scene f (λ m. omega (arith, ap kind (sym m ∙ same))) c) (other_ending f endings.StoreEnd scene.stand is same)
store_end_ends line turns old new heard scene answer c (store_unwritten n a b) same = absurd (omega (arith, ap kind same))
store_end_ends line turns old new heard scene answer c (client_unwritten n a b) same = absurd (omega (arith, ap kind same))
store_end_ends line turns old new heard scene answer c (client_unheard n l r a b) same = absurd (omega (arith, ap kind same))
store_end_ends line turns old new heard scene answer c (store_unheard n l r a b) same = absurd (omega (arith, ap kind same))
store_end_ends line turns old new heard scene answer c (turns_used n l a b) same = absurd (omega (arith, ap kind same))
store_end_ends line turns old new heard scene answer c (out_of_memory n a b) same = absurd (omega (arith, ap kind same))

client_fault_rose : (line : Line) (turns : ℕ) (old new : Sides) (heard : List DuoEvent) (scene : Scene) (answer : Ending) → Came line heard scene answer → Ends turns old new heard scene.stand answer → answer ≡ endings.ClientFault
    → Rose old.client_faults new.client_faults
client_fault_rose line turns old new heard scene answer c (ended_so f is a b) same =
    absurd (no_client_fault heard scene (how_far_with line heard scene f (λ m. omega (arith, ap kind (sym m ∙ same))) c) (other_ending f endings.ClientFault scene.stand is same))
client_fault_rose line turns old new heard scene answer c (client_unwritten n a b) same = b.rose
client_fault_rose line turns old new heard scene answer c (client_unheard n l r a b) same = r
client_fault_rose line turns old new heard scene answer c (store_unwritten n a b) same = absurd (omega (arith, ap kind same))
client_fault_rose line turns old new heard scene answer c (store_unheard n l r a b) same = absurd (omega (arith, ap kind same))
client_fault_rose line turns old new heard scene answer c (turns_used n l a b) same = absurd (omega (arith, ap kind same))
client_fault_rose line turns old new heard scene answer c (out_of_memory n a b) same = absurd (omega (arith, ap kind same))

store_fault_rose : (line : Line) (turns : ℕ) (old new : Sides) (heard : List DuoEvent) (scene : Scene) (answer : Ending) → Came line heard scene answer → Ends turns old new heard scene.stand answer → answer ≡ endings.StoreFault
    → Rose old.store_faults new.store_faults
store_fault_rose line turns old new heard scene answer c (ended_so f is a b) same =
    absurd (no_store_fault heard scene (how_far_with line heard scene f (λ m. omega (arith, ap kind (sym m ∙ same))) c) (other_ending f endings.StoreFault scene.stand is same))
store_fault_rose line turns old new heard scene answer c (store_unwritten n a b) same = a.rose
store_fault_rose line turns old new heard scene answer c (store_unheard n l r a b) same = r
store_fault_rose line turns old new heard scene answer c (client_unwritten n a b) same = absurd (omega (arith, ap kind same))
store_fault_rose line turns old new heard scene answer c (client_unheard n l r a b) same = absurd (omega (arith, ap kind same))
store_fault_rose line turns old new heard scene answer c (turns_used n l a b) same = absurd (omega (arith, ap kind same))
store_fault_rose line turns old new heard scene answer c (out_of_memory n a b) same = absurd (omega (arith, ap kind same))

turns_were_used : (line : Line) (turns : ℕ) (old new : Sides) (heard : List DuoEvent) (scene : Scene) (answer : Ending) → Came line heard scene answer → Ends turns old new heard scene.stand answer → answer ≡ endings.Turns
    → (length heard ≡ turns) × (scene.stand.ending ≡ None)
turns_were_used line turns old new heard scene answer c (ended_so f is a b) same =
    absurd (no_turns heard scene (how_far_with line heard scene f (λ m. omega (arith, ap kind (sym m ∙ same))) c) (other_ending f endings.Turns scene.stand is same))
turns_were_used line turns old new heard scene answer c (turns_used n l a b) same = (l, n)
turns_were_used line turns old new heard scene answer c (store_unwritten n a b) same = absurd (omega (arith, ap kind same))
turns_were_used line turns old new heard scene answer c (client_unwritten n a b) same = absurd (omega (arith, ap kind same))
turns_were_used line turns old new heard scene answer c (client_unheard n l r a b) same = absurd (omega (arith, ap kind same))
turns_were_used line turns old new heard scene answer c (store_unheard n l r a b) same = absurd (omega (arith, ap kind same))
turns_were_used line turns old new heard scene answer c (out_of_memory n a b) same = absurd (omega (arith, ap kind same))

-- where the turns are used and the session goes on
spent_so : (turns : ℕ) (old new : Sides) (heard : List DuoEvent) (s : Stand) (answer : Ending) → Ends turns old new heard s answer → length heard ≡ turns → s.ending ≡ None → AnswersSpent old new s answer
spent_so turns old new heard s answer (ended_so f is a b) used n = absurd (both_ways s.ending f is n)
spent_so turns old new heard s answer (store_unwritten m a b) used n = a
spent_so turns old new heard s answer (client_unwritten m a b) used n = b
spent_so turns old new heard s answer (client_unheard m l r a b) used n = absurd (omega arith)
spent_so turns old new heard s answer (store_unheard m l r a b) used n = absurd (omega arith)
spent_so turns old new heard s answer (turns_used m l a b) used n = tt
spent_so turns old new heard s answer (out_of_memory m a b) used n = tt

-- an end of a side that was heard last is answered
mid_ends : (line : Line) (event : DuoEvent) (mid scene : Scene) (before heard after : List DuoEvent) (e : DuoEvent) → LeadsInPart line mid event scene → heard ≡ before ++ event ∷ [] → heard ≡ after ++ e ∷ [] → LeadsInPart line mid e scene
mid_ends line event mid scene before heard after e l h k = subst (λ (v : DuoEvent). LeadsInPart line mid v scene) (last_same before after event e (sym h ∙ k)) l

client_end_answers : (line : Line) (turns : ℕ) (old new : Sides) (heard : List DuoEvent) (scene : Scene) (answer : Ending) → Came line heard scene answer → Ends turns old new heard scene.stand answer → IsLast events.ClientEnd heard
    → answer ≡ endings.ClientEnd
client_end_answers line turns old new heard scene answer (through_all a p) es l =
    let m = passes_last line opening scene l.0 events.ClientEnd (subst (λ (hs : List DuoEvent). Passes line opening hs scene) l.1 p) in
    answers_ending turns old new heard scene.stand a es endings.ClientEnd (ap (λ (s : Scene). s.stand.ending) m.leads)
client_end_answers line turns old new heard scene answer (in_part before event mid h p g part) es l = absurd (mid_ends line event mid scene before heard l.0 events.ClientEnd part h l.1)

store_end_answers : (line : Line) (turns : ℕ) (old new : Sides) (heard : List DuoEvent) (scene : Scene) (answer : Ending) → Came line heard scene answer → Ends turns old new heard scene.stand answer → IsLast events.StoreEnd heard
    → answer ≡ endings.StoreEnd
store_end_answers line turns old new heard scene answer (through_all a p) es l =
    let m = passes_last line opening scene l.0 events.StoreEnd (subst (λ (hs : List DuoEvent). Passes line opening hs scene) l.1 p) in
    answers_ending turns old new heard scene.stand a es endings.StoreEnd (ap (λ (s : Scene). s.stand.ending) m.leads)
store_end_answers line turns old new heard scene answer (in_part before event mid h p g part) es l = absurd (mid_ends line event mid scene before heard l.0 events.StoreEnd part h l.1)

pub relayed_so : {B : Type 0} (line : Line) (turns : ℕ) (old new : Sides) (Told : B → Finding → B → Type 0) (before after : B) (answer : Ending) → Ended line turns old new Told before after answer → Relayed line turns old new Told before after answer
relayed_so line turns old new Told before after answer d = record {
  heard = d.heard;
  scene = d.scene;
  grew = d.grew;
  within = d.within;
  came = d.came;
  ends = d.ends;
  told = d.told;
  ended_first = answers_ending turns old new d.heard d.scene.stand answer d.ends;
  client_end = (client_end_ends line turns old new d.heard d.scene answer d.came d.ends, client_end_answers line turns old new d.heard d.scene answer d.came d.ends);
  store_end = (store_end_ends line turns old new d.heard d.scene answer d.came d.ends, store_end_answers line turns old new d.heard d.scene answer d.came d.ends);
  client_fault = client_fault_rose line turns old new d.heard d.scene answer d.came d.ends;
  store_fault = store_fault_rose line turns old new d.heard d.scene answer d.came d.ends;
  all_turns = turns_were_used line turns old new d.heard d.scene answer d.came d.ends;
  spent = spent_so turns old new d.heard d.scene.stand answer d.ends;
  client_later = d.client_later;
  store_later = d.store_later;
}
