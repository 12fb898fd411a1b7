-- One more event, and the ends of both sides.
use Rattle.std.proofs.Common.{◌≡◌, ◌⊎◌, inl, inr, ℕ, List, [], ◌∷◌, ◌++◌, refl, sym, ap, subst, ◌∙◌}
use Rattle.std.specs.Prelude.{Option, Some, None, Result, Ok, Err}
use Rattle.payload_seal.specs.declared.keys.EntryKeys.{EntryKeys}
use Rattle.entry_session.specs.Heard.{Heard}
use Rattle.entry_session.specs.Stands.{Stand, fresh}
use Rattle.entry_session.specs.Runs.{Ran}
use Rattle.entry_session.specs.Calls.{answer_of}
use Rattle.entry_session.specs.declared.ending.Ending.{Ending}
use Rattle.entry_session.specs.declared.ending.Ending.TheVariants as endings
use Rattle.relay_io.specs.declared.duo.DuoEvent.{DuoEvent}
use Rattle.relay_io.specs.declared.duo.DuoEvent.TheVariants as events
use Rattle.relay_io.specs.Scenes.{Line, Scene, opening, ended, Leads, LeadsInPart, Passes, RanOn}
use Rattle.relay_io.specs.Relayed.{IsLast}
use Rattle.relay_io.proofs.OwnEndings.{IsOwn, AreFrames, frames_none, frames_of_client, frames_of_store, own_ending}

pub some_none : {A : Type 0} (a : A) → Some a ≡ None → ⊥
some_none a e = cc

pub both_ways : (o : Option Ending) (e : Ending) → o ≡ Some e → o ≡ None → ⊥
both_ways o e f g = some_none e (sym f ∙ g)

pub some_is : (o : Option Ending) (e f : Ending) → o ≡ Some e → o ≡ Some f → e ≡ f
some_is o e f p q = cc

ok_err : {A E : Type 0} (a : A) (e : E) → Ok a ≡ Err e → ⊥
ok_err a e h = cc

-- an answer of a session's call tells its ending
pub ending_of_ok : (o : Option Ending) (answer : Result (Unit {0}) Ending) → answer ≡ answer_of o → answer ≡ Ok record {} → o ≡ None
unfolding answer_of
ending_of_ok None answer is ok = refl
ending_of_ok (Some e) answer is ok = absurd (ok_err record {} e (sym ok ∙ is))

pub ending_of_err : (o : Option Ending) (answer : Result (Unit {0}) Ending) (e : Ending) → answer ≡ answer_of o → answer ≡ Err e → o ≡ Some e
unfolding answer_of
ending_of_err None answer e is err = absurd (ok_err record {} e (sym is ∙ err))
ending_of_err (Some f) answer e is err = cc

-- the session is that of the line
pub ran_on : (line : Line) (keys : EntryKeys) (boot c : ℕ) (hs : List Heard) (s : Stand) → keys ≡ line.keys → boot ≡ line.boot → c ≡ line.connection → Ran keys boot c hs s → RanOn line hs s
ran_on line keys boot c hs s p q r ran =
    subst (λ (n : ℕ). Ran line.keys line.boot n hs s) r (subst (λ (n : ℕ). Ran line.keys n c hs s) q (subst (λ (ks : EntryKeys). Ran ks boot c hs s) p ran))

-- ---- lists of events

pub passes_more : (line : Line) (old mid new : Scene) (heard : List DuoEvent) (event : DuoEvent) → Passes line old heard mid → mid.stand.ending ≡ None → Leads line mid event new → Passes line old (heard ++ event ∷ []) new
passes_more line old mid new [] event p n l =
    (new, ap (λ (s : Scene). s.stand.ending) (sym p) ∙ n, subst (λ (s : Scene). Leads line s event new) p l, refl)
passes_more line old mid new (e ∷ es) event p n l = (p.0, p.1, p.2, passes_more line p.0 mid new es event p.3 n l)

-- where the last event led from
pub record FromMid (line : Line) (event : DuoEvent) (new : Scene) : Type 0 where
  pub mid : Scene
  pub goes_on : mid.stand.ending ≡ None
  pub leads : Leads line mid event new

pub passes_last : (line : Line) (old new : Scene) (before : List DuoEvent) (event : DuoEvent) → Passes line old (before ++ event ∷ []) new → FromMid line event new
passes_last line old new [] event p = record { mid = old; goes_on = p.1; leads = subst (λ (s : Scene). Leads line old event s) (sym p.3) p.2 }
passes_last line old new (e ∷ es) event p = passes_last line p.0 new es event p.3

-- the last of a list is one event
nil_cons : (e : DuoEvent) (es : List DuoEvent) → [] ≡ e ∷ es → ⊥
nil_cons e es h = cc

heads : (a b : DuoEvent) (xs ys : List DuoEvent) → a ∷ xs ≡ b ∷ ys → a ≡ b
heads a b xs ys h = cc

tails : (a b : DuoEvent) (xs ys : List DuoEvent) → a ∷ xs ≡ b ∷ ys → xs ≡ ys
tails a b xs ys h = cc

pub last_same : (xs ys : List DuoEvent) (a b : DuoEvent) → xs ++ a ∷ [] ≡ ys ++ b ∷ [] → a ≡ b
last_same [] [] a b h = heads a b [] [] h
last_same [] (y ∷ []) a b h = absurd (nil_cons b [] (tails a y [] (b ∷ []) h))
last_same [] (y ∷ (z ∷ ys)) a b h = absurd (nil_cons z (ys ++ b ∷ []) (tails a y [] (z ∷ ys ++ b ∷ []) h))
last_same (x ∷ []) [] a b h = absurd (nil_cons a [] (sym (tails x b (a ∷ []) [] h)))
last_same (x ∷ (z ∷ xs)) [] a b h = absurd (nil_cons z (xs ++ a ∷ []) (sym (tails x b (z ∷ xs ++ a ∷ []) [] h)))
last_same (x ∷ xs) (y ∷ ys) a b h = last_same xs ys a b (tails x y (xs ++ a ∷ []) (ys ++ b ∷ []) h)

later_last : (event first : DuoEvent) (more : List DuoEvent) → IsLast event more → IsLast event (first ∷ more)
later_last event first more l = (first ∷ l.0, ap (λ (es : List DuoEvent). first ∷ es) l.1)

-- ---- the ends of both sides

-- The session has no ending but one of its own, or the last event was the end of a side, by which the session ended.
pub data HowFar (heard : List DuoEvent) (s : Scene) : Type 0 where
  by_frames : IsOwn s.stand.ending → HowFar heard s
  by_client : IsLast events.ClientEnd heard → s.stand.ending ≡ Some endings.ClientEnd → HowFar heard s
  by_store : IsLast events.StoreEnd heard → s.stand.ending ≡ Some endings.StoreEnd → HowFar heard s

later_far : (first : DuoEvent) (more : List DuoEvent) (s : Scene) → HowFar more s → HowFar (first ∷ more) s
later_far first more s (by_frames f) = by_frames f
later_far first more s (by_client l e) = by_client (later_last events.ClientEnd first more l) e
later_far first more s (by_store l e) = by_store (later_last events.StoreEnd first more l) e

-- after an ending there is no more
far_client : (line : Line) (next new : Scene) (more : List DuoEvent) → next.stand.ending ≡ Some endings.ClientEnd → Passes line next more new → HowFar (events.ClientEnd ∷ more) new
far_client line next new [] e p = by_client ([], refl) (ap (λ (s : Scene). s.stand.ending) p ∙ e)
far_client line next new (f ∷ fs) e p = absurd (both_ways next.stand.ending endings.ClientEnd e p.1)

far_store : (line : Line) (next new : Scene) (more : List DuoEvent) → next.stand.ending ≡ Some endings.StoreEnd → Passes line next more new → HowFar (events.StoreEnd ∷ more) new
far_store line next new [] e p = by_store ([], refl) (ap (λ (s : Scene). s.stand.ending) p ∙ e)
far_store line next new (f ∷ fs) e p = absurd (both_ways next.stand.ending endings.StoreEnd e p.1)

pub how_far : (line : Line) (old new : Scene) (heard : List DuoEvent) → AreFrames old.heard → RanOn line old.heard old.stand → Passes line old heard new → HowFar heard new
how_far line old new [] f r p =
    by_frames (subst (λ (s : Scene). IsOwn s.stand.ending) (sym p) (own_ending line.keys line.boot line.connection old.heard old.stand r f))
how_far line old new (events.Client piece ∷ more) f r p =
    later_far (events.Client piece) more new (how_far line p.0 new more (subst AreFrames (sym p.2.heard) (frames_of_client p.2.more old.heard p.2.of_client f)) p.2.ran p.3)
how_far line old new (events.Store piece ∷ more) f r p =
    later_far (events.Store piece) more new (how_far line p.0 new more (subst AreFrames (sym p.2.heard) (frames_of_store p.2.more old.heard p.2.of_store f)) p.2.ran p.3)
how_far line old new (events.ClientEnd ∷ more) f r p = far_client line p.0 new more (ap (λ (s : Scene). s.stand.ending) p.2) p.3
how_far line old new (events.StoreEnd ∷ more) f r p = far_store line p.0 new more (ap (λ (s : Scene). s.stand.ending) p.2) p.3
how_far line old new (events.Idle ∷ more) f r p =
    later_far events.Idle more new (how_far line p.0 new more (subst (λ (s : Scene). AreFrames s.heard) (sym p.2) f) (subst (λ (s : Scene). RanOn line s.heard s.stand) (sym p.2) r) p.3)

opening_ran : (line : Line) → RanOn line opening.heard opening.stand
unfolding Ran
opening_ran line = refl

-- from the start
pub how_far_it_came : (line : Line) (scene : Scene) (heard : List DuoEvent) → Passes line opening heard scene → HowFar heard scene
how_far_it_came line scene heard p = how_far line opening scene heard frames_none (opening_ran line) p
