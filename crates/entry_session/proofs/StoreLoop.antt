-- A piece of the store's bytes, taken frame by frame.
use Rattle.std.proofs.Common.{◌≡◌, inl, inr, ℕ, ℤ, ◌≤◌, List, [], ◌∷◌, ◌++◌, length, drop, Result, Ok, Err, Option, Some, None, refl, sym, ap, subst, ◌∙◌, append_assoc, append-nil}
use Rattle.std.proofs.lemmas.Grind.{flat_map-append}
use Rattle.jute_core.specs.Frames.{frame}
use Rattle.payload_seal.specs.declared.keys.EntryKeys.{EntryKeys}
use Rattle.zk_frame.specs.Framing.{Framing, IsTooLong}
use Rattle.reply_rewrite.specs.declared.finding.Finding.{Finding}
use Rattle.entry_session.specs.Heard.{Heard, from_store, bad_store, store_frames, bad_of_store}
use Rattle.entry_session.specs.Stands.{Stand, ends}
use Rattle.entry_session.specs.StoreTurns.{StoreTurn}
use Rattle.entry_session.specs.Runs.{Ran, TurnOf, store_limit}
use Rattle.entry_session.specs.Sides.{EndsAtStore, bytes_of}
use Rattle.entry_session.specs.Kept.{Going, Kept, At, IsGoing, IsOfOne}
use Rattle.entry_session.specs.Calls.{HearsStore, GoesDown, AreOfStore, TakesFromStore, WantsAtStore, answer_of}
use Rattle.entry_session.specs.Frames.{CannotFeedStore}
use Rattle.entry_session.specs.Pieces.{GoesOn, BeginsFrame, HearsAtStore, HeardStore, NoneOfStore, FailsStore, NextOfStore, at_store_frame, at_store_length, ReachesDown, EndsDown}
use Rattle.entry_session.specs.declared.ending.Ending.{Ending}
use Rattle.entry_session.specs.declared.ending.Ending.TheVariants.{StoreTooLong, Memory}
use Rattle.entry_session.proofs.Turns.{store_up, some_none}
use Rattle.entry_session.proofs.Taking.{answer_none, answer_some, bytes_more, cut_frame, err_some, none_named, not_none, ok_none, one_ending, ran_along, turn_if}

turn_along : (k l : EntryKeys) (c d : ℕ) (r : Stand) (body : List ℕ) (t : Stand) → l ≡ k → d ≡ c → StoreTurn l d r body t r.items r.answered → StoreTurn k c r body t r.items r.answered
turn_along k l c d r body t e g h = subst (λ (x : EntryKeys). StoreTurn x c r body t r.items r.answered) e (subst (λ (x : ℕ). StoreTurn l x r body t r.items r.answered) g h)

-- ---- what was handed down

no_more_down : (old : Going) (hs : List Heard) (s : Stand) (down : List ℕ) (findings : List Finding) → Ran old.keys old.ivs.boot old.ivs.connection hs s → GoesDown old hs [] s s down down findings findings
unfolding AreOfStore
no_more_down old hs s down findings r = record {
  ran = r;
  of_store = tt;
  gained = [];
  handed = sym (append-nil s.down);
  added = sym (append-nil down);
  found = [];
  findings_are = sym (append-nil s.findings);
  findings_added = sym (append-nil findings);
  up = refl;
}

frame_more_down : (old now new : Going) (answer : Result (Unit {0}) Ending) (hs more : List Heard) (s r : Stand) (body down mid end : List ℕ) (fs fm fe : List Finding)
    → IsOfOne old now → GoesDown old hs more s r down mid fs fm → r.ending ≡ None → length body ≤ store_limit → (h : HearsStore now new answer r body mid end fm fe) → GoesDown old hs (from_store body ∷ more) s h.t down end fs fe
unfolding AreOfStore Ran TurnOf
frame_more_down old now new answer hs more s r body down mid end fs fm fe one g n short h =
    let turn = turn_along old.keys now.keys old.ivs.connection now.ivs.connection r body h.t one.keys one.connection h.turn in
    let d = store_up now.keys now.ivs.connection r body h.t r.items r.answered h.turn in
    record {
      ran = (r, g.ran, turn_if old.keys old.ivs.boot old.ivs.connection r.ending r (from_store body) h.t n (short, turn));
      of_store = g.of_store;
      gained = g.gained ++ h.gained;
      handed = h.handed ∙ ap (λ (l : List (List ℕ)). l ++ h.gained) g.handed ∙ append_assoc s.down g.gained h.gained;
      added = h.added ∙ ap (λ (l : List ℕ). l ++ bytes_of h.gained) g.added ∙ append_assoc down (bytes_of g.gained) (bytes_of h.gained) ∙ ap (λ (l : List ℕ). down ++ l) (sym (flat_map-append frame g.gained h.gained));
      found = g.found ++ h.found;
      findings_are = h.findings_are ∙ ap (λ (l : List Finding). l ++ h.found) g.findings_are ∙ append_assoc s.findings g.found h.found;
      findings_added = h.findings_added ∙ ap (λ (l : List Finding). l ++ h.found) g.findings_added ∙ append_assoc fs g.found h.found;
      up = d.up_is ∙ g.up;
    }

length_more_down : (old : Going) (hs more : List Heard) (s r : Stand) (z : ℤ) (bytes down mid : List ℕ) (fs fm : List Finding)
    → GoesDown old hs more s r down mid fs fm → r.ending ≡ None → IsTooLong store_limit bytes z → GoesDown old hs (bad_store z ∷ more) s (ends r (StoreTooLong z)) down mid fs fm
unfolding AreOfStore Ran TurnOf
length_more_down old hs more s r z bytes down mid fs fm g n long = record {
  ran = (r, g.ran, turn_if old.keys old.ivs.boot old.ivs.connection r.ending r (bad_store z) (ends r (StoreTooLong z)) n (long.beyond, refl));
  of_store = g.of_store;
  gained = g.gained;
  handed = g.handed;
  added = g.added;
  found = g.found;
  findings_are = g.findings_are;
  findings_added = g.findings_added;
  up = g.up;
}

same_down : (old : Going) (hs more : List Heard) (s t : Stand) (down mid end : List ℕ) (fs fm fe : List Finding) → end ≡ mid → fe ≡ fm → GoesDown old hs more s t down mid fs fm → GoesDown old hs more s t down end fs fe
same_down old hs more s t down mid end fs fm fe e f g =
    subst (λ (x : List ℕ). GoesDown old hs more s t down x fs fe) (sym e) (subst (λ (x : List Finding). GoesDown old hs more s t down mid fs x) (sym f) g)

-- ---- turns

pub store_none : (old : Going) (hs : List Heard) (s : Stand) (bytes down : List ℕ) (findings : List Finding) → GoesOn old hs s → ReachesDown old old hs s bytes bytes down down findings findings
unfolding bad_of_store store_frames
store_none old hs s bytes down findings g = record { more = []; t = s; goes_down = no_more_down old hs s down findings g.ran; goes_on = g.goes_on; going = g.going; unnamed = refl; cut = refl }

short_of : (f : Framing) (body : List ℕ) → f.limit ≡ store_limit → length body ≤ f.limit → length body ≤ store_limit
short_of f body e h = subst (λ (n : ℕ). length body ≤ n) e h

store_more : (f g : Framing) (old now new : Going) (hs : List Heard) (s : Stand) (bytes rest down mid end : List ℕ) (fs fm fe : List Finding) (count : ℕ)
    → IsOfOne old now → f.limit ≡ store_limit → HeardStore f g now new rest mid end fm fe count → ReachesDown old now hs s bytes (f.held ++ rest) down mid fs fm → ReachesDown old new hs s bytes (g.held ++ drop count rest) down end fs fe
unfolding bad_of_store store_frames
store_more f g old now new hs s bytes rest down mid end fs fm fe count one limit heard r =
    let h = heard.hears r.t r.going r.goes_on in
    let n = ok_none h.t.ending h.turned.answered in
    record {
      more = from_store heard.body ∷ r.more;
      t = h.t;
      goes_down = frame_more_down old now new (Ok record {}) hs r.more s r.t heard.body down mid end fs fm fe one r.goes_down r.goes_on (short_of f heard.body limit heard.cuts.short) h;
      goes_on = n;
      going = h.turned.going n;
      unnamed = refl;
      cut = r.cut ∙ ap (λ (l : List ℕ). bytes_of (store_frames r.more) ++ l) (cut_frame f g rest count heard.body heard.cuts) ∙ bytes_more (store_frames r.more) heard.body (g.held ++ drop count rest);
    }

pub store_after : (f g : Framing) (old now new : Going) (hs : List Heard) (s : Stand) (bytes rest after down mid end : List ℕ) (fs fm fe : List Finding) (count : ℕ) → after ≡ drop count rest
    → IsOfOne old now → f.limit ≡ store_limit → HeardStore f g now new rest mid end fm fe count → ReachesDown old now hs s bytes (f.held ++ rest) down mid fs fm → ReachesDown old new hs s bytes (g.held ++ after) down end fs fe
store_after f g old now new hs s bytes rest after down mid end fs fm fe count e one limit h r =
    subst (λ (l : List ℕ). ReachesDown old new hs s bytes (g.held ++ l) down end fs fe) (sym e) (store_more f g old now new hs s bytes rest down mid end fs fm fe count one limit h r)

pub store_part : (f g : Framing) (old now new : Going) (hs : List Heard) (s : Stand) (bytes rest down mid end : List ℕ) (fs fm fe : List Finding)
    → f.limit ≡ store_limit → NoneOfStore f g now new rest mid end fm fe → ReachesDown old now hs s bytes (f.held ++ rest) down mid fs fm → EndsDown old new (Ok record {}) hs s bytes g.held down end fs fe
store_part f g old now new hs s bytes rest down mid end fs fm fe limit none r =
    let k = none.keeps in
    record {
      more = r.more;
      t = r.t;
      goes_down = same_down old hs r.more s r.t down mid end fs fm fe none.down_is none.findings_are r.goes_down;
      answered = answer_none r.t.ending r.goes_on;
      going = λ _. subst (λ (x : Going). IsGoing x r.t) (sym none.going) r.going;
      side = record {
        rest = f.held ++ rest;
        whole = r.cut;
        named = none_named (bad_of_store r.more) (λ z. IsTooLong store_limit (f.held ++ rest) z) r.unnamed;
        partial = λ _. k.part.partial;
        within = λ _ z long. k.part.within z (subst (λ (n : ℕ). IsTooLong n (f.held ++ rest) z) (sym limit) long);
      };
      kept = λ _. ap (λ (x : Framing). x.held) k.kept;
    }

ends_here : (o : Option Ending) (e : Ending) (body : List ℕ) (hs : List Heard) → o ≡ Some e → EndsAtStore o (from_store body ∷ hs)
unfolding EndsAtStore
ends_here None e body hs h = absurd (some_none e (sym h))
ends_here (Some d) e body hs h = tt

ends_there : (e : Ending) (z : ℤ) (hs : List Heard) → EndsAtStore (Some e) (bad_store z ∷ hs)
unfolding EndsAtStore
ends_there e z hs = tt

ends_frame : (f : Framing) (old now new : Going) (e : Ending) (hs : List Heard) (s : Stand) (bytes rest held down mid end body : List ℕ) (fs fm fe : List Finding)
    → IsOfOne old now → f.limit ≡ store_limit → BeginsFrame f rest body → HearsAtStore now new (Err e) body mid end fm fe → ReachesDown old now hs s bytes (f.held ++ rest) down mid fs fm → EndsDown old new (Err e) hs s bytes held down end fs fe
unfolding bad_of_store store_frames
ends_frame f old now new e hs s bytes rest held down mid end body fs fm fe one limit b hears r =
    let h = hears r.t r.going r.goes_on in
    let n = err_some h.t.ending e h.turned.answered in
    let here = ends_here h.t.ending e body r.more n in
    record {
      more = from_store body ∷ r.more;
      t = h.t;
      goes_down = frame_more_down old now new (Err e) hs r.more s r.t body down mid end fs fm fe one r.goes_down r.goes_on (short_of f body limit b.short) h;
      answered = h.turned.answered;
      going = h.turned.going;
      side = record {
        rest = b.more;
        whole = r.cut ∙ ap (λ (l : List ℕ). bytes_of (store_frames r.more) ++ l) b.begins ∙ bytes_more (store_frames r.more) body b.more;
        named = tt;
        partial = λ not. absurd (not here);
        within = λ not. absurd (not here);
      };
      kept = λ none. absurd (not_none h.t.ending e n none);
    }

ends_length : (f : Framing) (old now new : Going) (e : Ending) (hs : List Heard) (s : Stand) (bytes rest held down mid end : List ℕ) (fs fm fe : List Finding) (z : ℤ)
    → f.limit ≡ store_limit → e ≡ StoreTooLong z → IsTooLong f.limit (f.held ++ rest) z → end ≡ mid → fe ≡ fm → ReachesDown old now hs s bytes (f.held ++ rest) down mid fs fm → EndsDown old new (Err e) hs s bytes held down end fs fe
unfolding bad_of_store store_frames
ends_length f old now new e hs s bytes rest held down mid end fs fm fe z limit is long same alike r =
    let far = subst (λ (n : ℕ). IsTooLong n (f.held ++ rest) z) limit long in
    let t = ends r.t (StoreTooLong z) in
    let here = ends_there (StoreTooLong z) z r.more in
    record {
      more = bad_store z ∷ r.more;
      t = t;
      goes_down = same_down old hs (bad_store z ∷ r.more) s t down mid end fs fm fe same alike (length_more_down old hs r.more s r.t z (f.held ++ rest) down mid fs fm r.goes_down r.goes_on far);
      answered = answer_some (Some (StoreTooLong z)) e (ap Some (sym is));
      going = λ none. absurd (some_none (StoreTooLong z) none);
      side = record {
        rest = f.held ++ rest;
        whole = r.cut;
        named = far;
        partial = λ not. absurd (not here);
        within = λ not. absurd (not here);
      };
      kept = λ none. absurd (some_none (StoreTooLong z) none);
    }

pub store_failed : (f : Framing) (old now new : Going) (e : Ending) (hs : List Heard) (s : Stand) (bytes rest held down mid end : List ℕ) (fs fm fe : List Finding)
    → IsOfOne old now → f.limit ≡ store_limit → FailsStore f now new rest mid end fm fe e → ReachesDown old now hs s bytes (f.held ++ rest) down mid fs fm → EndsDown old new (Err e) hs s bytes held down end fs fe
store_failed f old now new e hs s bytes rest held down mid end fs fm fe one limit (at_store_frame body b hears) r = ends_frame f old now new e hs s bytes rest held down mid end body fs fm fe one limit b hears r
store_failed f old now new e hs s bytes rest held down mid end fs fm fe one limit (at_store_length z is long g same alike) r = ends_length f old now new e hs s bytes rest held down mid end fs fm fe z limit is long same alike r

pub store_wants : (old now : Going) (hs : List Heard) (s : Stand) (held piece left down mid end : List ℕ) (fs fm fe : List Finding) → (end ≡ mid) × (fe ≡ fm) → ReachesDown old now hs s (held ++ piece) left down mid fs fm → WantsAtStore old hs held s piece down end fs fe
store_wants old now hs s held piece left down mid end fs fm fe same r = record {
  more = r.more;
  t = r.t;
  goes_down = same_down old hs r.more s r.t down mid end fs fm fe same.0 same.1 r.goes_down;
  goes_on = r.goes_on;
  left = left;
  cut = r.cut;
}

pub store_unfed : (f : Framing) (old : Going) (piece down : List ℕ) (findings : List Finding) (e : Ending) → (e ≡ Memory → ⊥) → CannotFeedStore f piece e → FailsStore f old old piece down down findings findings e
store_unfed f old piece down findings e out_of (inl m) = absurd (out_of m)
store_unfed f old piece down findings e out_of (inr (z, is, long)) = at_store_length z is long refl refl refl

pub store_heard : (f g : Framing) (old new : Going) (piece down more_down : List ℕ) (findings more_findings : List Finding) (o : Option ℕ) (n : ℕ) → o ≡ Some n → NextOfStore f g old new piece down more_down findings more_findings (Ok o) → HeardStore f g old new piece down more_down findings more_findings n
store_heard f g old new piece down more_down findings more_findings o n e h = subst (λ (x : Option ℕ). NextOfStore f g old new piece down more_down findings more_findings (Ok x)) e h

pub store_heard_none : (f g : Framing) (old new : Going) (piece down more_down : List ℕ) (findings more_findings : List Finding) (o : Option ℕ) → o ≡ None → NextOfStore f g old new piece down more_down findings more_findings (Ok o) → NoneOfStore f g old new piece down more_down findings more_findings
store_heard_none f g old new piece down more_down findings more_findings o e h = subst (λ (x : Option ℕ). NextOfStore f g old new piece down more_down findings more_findings (Ok x)) e h

-- ---- the session

no_end : (o : Option Ending) (hs : List Heard) → o ≡ None → EndsAtStore o hs → ⊥
unfolding EndsAtStore
no_end None hs h there = there
no_end (Some e) hs h there = some_none e h

pub takes_from_store : (old new : Kept) (answer : Result (Unit {0}) Ending) (hs : List Heard) (client store : List ℕ) (s : Stand) (piece down end : List ℕ) (fs fe : List Finding)
    → IsOfOne old.going new.going → new.client ≡ old.client → answer ≡ answer_of new.ending → At old hs client store s → s.ending ≡ None
    → EndsDown old.going new.going answer hs s (old.store ++ piece) new.store down end fs fe → TakesFromStore old new hs client store s piece down end fs fe
takes_from_store old new answer hs client store s piece down end fs fe one same answered at n e = record {
  more = e.more;
  t = e.t;
  goes_down = e.goes_down;
  side = record {
    rest = e.side.rest;
    whole = ap (λ (l : List ℕ). l ++ piece) (sym (at.store n)) ∙ e.side.whole;
    named = e.side.named;
    partial = e.side.partial;
    within = e.side.within;
  };
  at = record {
    ran = ran_along old.going.keys new.going.keys old.going.ivs.boot new.going.ivs.boot old.going.ivs.connection new.going.ivs.connection (e.more ++ hs) e.t one.keys one.boot one.connection e.goes_down.ran;
    ending = one_ending new.ending e.t.ending (sym answered ∙ e.answered);
    going = e.going;
    client = λ h. same ∙ at.client n;
    store = e.kept;
    client_part = λ h. at.client_part n;
    store_part = λ h. record { partial = e.side.partial (no_end e.t.ending e.more h); within = e.side.within (no_end e.t.ending e.more h) };
  };
}
