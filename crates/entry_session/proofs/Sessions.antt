-- What the calls of a session answer.
use Rattle.std.proofs.Common.{◌≡◌, ℕ, ◌+◌, List, [], ◌∷◌, ◌++◌, length, Result, Ok, Err, Option, Some, None, refl, sym, ap, subst, ◌∙◌, arith, length-append, sum_by}
use Rattle.std.specs.Prelude.{unwrap_or}
use Rattle.std.specs.Result.{result_err}
use Rattle.jute_core.specs.Frames.{frame, IsRest}
use Rattle.payload_seal.specs.declared.keys.EntryKeys.{EntryKeys}
use Rattle.request_queue.specs.Weights.{weight}
use Rattle.reply_rewrite.specs.declared.finding.Finding.{Finding}
use Rattle.zk_frame.specs.Framing.{Framing}
use Rattle.zk_frame.proofs.Prefixes.{length_of_int}
use Rattle.entry_session.specs.Heard.{Heard, given}
use Rattle.entry_session.specs.Stands.{Stand, fresh, ends}
use Rattle.entry_session.specs.Stands.{weight as weight_at}
use Rattle.entry_session.specs.Runs.{Ran, TurnOf, IsGivenEnding}
use Rattle.entry_session.specs.Kept.{Going, Kept, At, IsGoing, IsOfOne, IsPart, IsInPhase, AreWaiting, fresh_going}
use Rattle.entry_session.specs.Calls.{TakesFromClient, TakesFromStore, WantsAtClient, answer_of}
use Rattle.entry_session.specs.Pieces.{GoesOn, EndsUp, EndsDown}
use Rattle.entry_session.specs.declared.ending.Ending.{Ending}
use Rattle.entry_session.specs.declared.ending.Ending.TheVariants.{Memory}
use Rattle.entry_session.proofs.ClientLoop.{goes_on_at, takes_from_client, wants_from_client}
use Rattle.entry_session.proofs.ClientSide.{weight_is}
use Rattle.entry_session.proofs.StoreLoop.{takes_from_store}
use Rattle.entry_session.proofs.Taking.{answer_some, failed, turn_if}
use Rattle.entry_session.proofs.Turns.{some_none}

-- ---- nothing heard

nothing_is_rest : IsRest []
unfolding frame
nothing_is_rest body more fits e = cc

four_of_none : (prefix more : List ℕ) → [] ≡ prefix ++ more → length prefix ≡ 4 → ⊥
four_of_none prefix more e f = let g = ap length e in let h = length-append prefix more in omega (arith, f, g, h)

no_part : (limit : ℕ) → IsPart limit []
no_part limit = record { partial = nothing_is_rest; within = λ z long. four_of_none long.prefix long.more long.begins (length_of_int z long.prefix long.named) }

fresh_goes : (k : EntryKeys) (boot c : ℕ) → IsGoing (fresh_going k boot c) fresh
unfolding IsInPhase AreWaiting
fresh_goes k boot c = record { phase = (refl, refl); sized = refl; within = omega arith; waiting = tt; sealed = refl; replies = refl }

fresh_at : (k : EntryKeys) (boot c : ℕ) → At (record { going = fresh_going k boot c; client = []; store = []; ending = None }) [] [] [] fresh
unfolding Ran
fresh_at k boot c = record {
  ran = refl;
  ending = refl;
  going = λ _. fresh_goes k boot c;
  client = λ _. refl;
  store = λ _. refl;
  client_part = λ _. no_part _;
  store_part = λ _. no_part _;
}

abbrev kept_of : Going → List ℕ → List ℕ → Option Ending → Kept
kept_of going client store ending = record { going = going; client = client; store = store; ending = ending }

pub starts : (k : EntryKeys) (boot c m n : ℕ) (going : Going) (client store : Framing) → going ≡ fresh_going k boot c → client ≡ record { limit = m; held = [] } → store ≡ record { limit = n; held = [] }
    → At (kept_of going client.held store.held None) [] [] [] fresh
starts k boot c m n going client store e f g =
    subst (λ (x : Kept). At x [] [] [] fresh) (λ i. kept_of (sym e i) (sym f i).held (sym g i).held None) (fresh_at k boot c)

-- ---- an ending that is given

given_turn : (k : EntryKeys) (boot c : ℕ) (s : Stand) (e : Ending) → IsGivenEnding e → TurnOf k boot c s (given e) (ends s e)
unfolding TurnOf
given_turn k boot c s e g = (g, refl)

given_ran : (k : EntryKeys) (boot c : ℕ) (hs : List Heard) (s : Stand) (e : Ending) → IsGivenEnding e → s.ending ≡ None → Ran k boot c hs s → Ran k boot c (given e ∷ hs) (ends s e)
unfolding Ran
given_ran k boot c hs s e g n r = (s, r, turn_if k boot c s.ending s (given e) (ends s e) n (given_turn k boot c s e g))

ends_given : (old : Kept) (e : Ending) (hs : List Heard) (client store : List ℕ) (s : Stand) → IsGivenEnding e → At old hs client store s → s.ending ≡ None → At (record old { ending = Some e }) (given e ∷ hs) client store (ends s e)
ends_given old e hs client store s g at n = record {
  ran = given_ran old.going.keys old.going.ivs.boot old.going.ivs.connection hs s e g n at.ran;
  ending = refl;
  going = λ h. absurd (some_none e h);
  client = λ h. absurd (some_none e h);
  store = λ h. absurd (some_none e h);
  client_part = λ h. absurd (some_none e h);
  store_part = λ h. absurd (some_none e h);
}

pub ends_by : (going : Going) (client store : List ℕ) (ending : Option Ending) (old : Kept) (by first : Ending) → kept_of going client store ending ≡ old → IsGivenEnding by → first ≡ unwrap_or ending by
    → (hs : List Heard) (client_rest store_rest : List ℕ) (s : Stand) → At old hs client_rest store_rest s → s.ending ≡ None → At (kept_of going client store (Some first)) (given by ∷ hs) client_rest store_rest (ends s by)
ends_by going client store ending old by first is g chosen =
    subst (λ (k : Kept). (hs : List Heard) (client_rest store_rest : List ℕ) (s : Stand) → At k hs client_rest store_rest s → s.ending ≡ None → At (kept_of going client store (Some first)) (given by ∷ hs) client_rest store_rest (ends s by)) is
    (λ hs client_rest store_rest s at n.
    let e : first ≡ by = chosen ∙ ap (λ (o : Option Ending). unwrap_or o by) (at.ending ∙ n) in
    subst (λ (x : Ending). At (kept_of going client store (Some x)) (given by ∷ hs) client_rest store_rest (ends s by)) (sym e)
    (ends_given (kept_of going client store ending) by hs client_rest store_rest s g at n))

-- ---- what is held

pub holds : (going : Going) (client store : List ℕ) (ending : Option Ending) (kept : Kept) (a b w : ℕ) → kept_of going client store ending ≡ kept → a ≡ length client → b ≡ length store → w ≡ sum_by weight going.queue
    → (hs : List Heard) (client_rest store_rest : List ℕ) (s : Stand) → At kept hs client_rest store_rest s → s.ending ≡ None → a + b + w ≡ length client_rest + length store_rest + weight_at s
holds going client store ending kept a b w is e f g =
    subst (λ (k : Kept). (hs : List Heard) (client_rest store_rest : List ℕ) (s : Stand) → At k hs client_rest store_rest s → s.ending ≡ None → a + b + w ≡ length client_rest + length store_rest + weight_at s) is
    (λ hs client_rest store_rest s at n.
    let x = ap length (at.client n) in
    let y = ap length (at.store n) in
    let z = weight_is going s (at.going n) in
    omega (arith, e, f, g, x, y, z))

-- ---- a piece

told : (taken : Result (Unit {0}) Ending) → taken ≡ answer_of (result_err taken)
unfolding answer_of
told (Ok u) = refl
told (Err e) = refl

-- what is kept of an answer tells it
pub tells : (taken : Result (Unit {0}) Ending) (o : Option Ending) → o ≡ result_err taken → taken ≡ answer_of o
tells taken o e = told taken ∙ ap answer_of (sym e)

pub tells_again : (kept old : Kept) (e : Ending) → kept ≡ old → kept.ending ≡ Some e → failed e ≡ answer_of old.ending
tells_again kept old e is ended = answer_some old.ending e (ap (λ (k : Kept). k.ending) (sym is) ∙ ended)

out_of_memory : answer_of (Some Memory) ≡ failed Memory
unfolding answer_of
out_of_memory = refl

pub client_takes : (going now : Going) (client store held : List ℕ) (ending o : Option Ending) (old : Kept) (taken : Result (Unit {0}) Ending) (piece up end : List ℕ)
    → kept_of going client store ending ≡ old → o ≡ result_err taken → IsOfOne going now
    → ((taken ≡ Err Memory → ⊥) → (hs : List Heard) (s : Stand) → GoesOn going hs s → EndsUp going now taken hs s (client ++ piece) held up end)
    → (o ≡ Some Memory → ⊥) → (hs : List Heard) (client_rest store_rest : List ℕ) (s : Stand) → At old hs client_rest store_rest s → s.ending ≡ None
    → TakesFromClient old (kept_of now held store o) hs client_rest store_rest s piece up end
client_takes going now client store held ending o old taken piece up end is told one takes out_of =
    subst (λ (k : Kept). (hs : List Heard) (client_rest store_rest : List ℕ) (s : Stand) → At k hs client_rest store_rest s → s.ending ≡ None → TakesFromClient k (kept_of now held store o) hs client_rest store_rest s piece up end) is
    (λ hs client_rest store_rest s at n.
    let old = kept_of going client store ending in
    takes_from_client old (kept_of now held store o) taken hs client_rest store_rest s piece up end one refl (tells taken o told) at n
    (takes (λ m. out_of (told ∙ ap result_err m)) hs s (goes_on_at old hs client_rest store_rest s at n)))

pub client_wants : (going : Going) (client store : List ℕ) (ending o : Option Ending) (old : Kept) (taken : Result (Unit {0}) Ending) (piece up end : List ℕ)
    → kept_of going client store ending ≡ old → o ≡ result_err taken
    → (taken ≡ Err Memory → (hs : List Heard) (s : Stand) → GoesOn going hs s → WantsAtClient going hs client s piece up end)
    → o ≡ Some Memory → (hs : List Heard) (client_rest store_rest : List ℕ) (s : Stand) → At old hs client_rest store_rest s → s.ending ≡ None
    → WantsAtClient old.going hs client_rest s piece up end
client_wants going client store ending o old taken piece up end is told wants out_of =
    subst (λ (k : Kept). (hs : List Heard) (client_rest store_rest : List ℕ) (s : Stand) → At k hs client_rest store_rest s → s.ending ≡ None → WantsAtClient k.going hs client_rest s piece up end) is
    (λ hs client_rest store_rest s at n.
    let old = kept_of going client store ending in
    wants_from_client old hs client_rest store_rest s piece up end at n
    (wants (tells taken o told ∙ ap answer_of out_of ∙ out_of_memory) hs s (goes_on_at old hs client_rest store_rest s at n)))

pub store_takes : (going now : Going) (client store held : List ℕ) (ending o : Option Ending) (old : Kept) (taken : Result (Unit {0}) Ending) (piece down end : List ℕ) (fs fe : List Finding)
    → kept_of going client store ending ≡ old → o ≡ result_err taken → IsOfOne going now
    → ((taken ≡ Err Memory → ⊥) → (hs : List Heard) (s : Stand) → GoesOn going hs s → EndsDown going now taken hs s (store ++ piece) held down end fs fe)
    → (o ≡ Some Memory → ⊥) → (hs : List Heard) (client_rest store_rest : List ℕ) (s : Stand) → At old hs client_rest store_rest s → s.ending ≡ None
    → TakesFromStore old (kept_of now client held o) hs client_rest store_rest s piece down end fs fe
store_takes going now client store held ending o old taken piece down end fs fe is told one takes out_of =
    subst (λ (k : Kept). (hs : List Heard) (client_rest store_rest : List ℕ) (s : Stand) → At k hs client_rest store_rest s → s.ending ≡ None → TakesFromStore k (kept_of now client held o) hs client_rest store_rest s piece down end fs fe) is
    (λ hs client_rest store_rest s at n.
    let old = kept_of going client store ending in
    takes_from_store old (kept_of now client held o) taken hs client_rest store_rest s piece down end fs fe one refl (tells taken o told) at n
    (takes (λ m. out_of (told ∙ ap result_err m)) hs s (goes_on_at old hs client_rest store_rest s at n)))

pub store_wants_at : (going : Going) (client store : List ℕ) (ending o : Option Ending) (old : Kept) (taken : Result (Unit {0}) Ending) (down end : List ℕ) (fs fe : List Finding)
    → kept_of going client store ending ≡ old → o ≡ result_err taken
    → (taken ≡ Err Memory → (hs : List Heard) (s : Stand) → GoesOn going hs s → (end ≡ down) × (fe ≡ fs))
    → o ≡ Some Memory → (hs : List Heard) (client_rest store_rest : List ℕ) (s : Stand) → At old hs client_rest store_rest s → s.ending ≡ None → (end ≡ down) × (fe ≡ fs)
store_wants_at going client store ending o old taken down end fs fe is told wants out_of =
    subst (λ (k : Kept). (hs : List Heard) (client_rest store_rest : List ℕ) (s : Stand) → At k hs client_rest store_rest s → s.ending ≡ None → (end ≡ down) × (fe ≡ fs)) is
    (λ hs client_rest store_rest s at n. wants (tells taken o told ∙ ap answer_of out_of ∙ out_of_memory) hs s (goes_on_at (kept_of going client store ending) hs client_rest store_rest s at n))
