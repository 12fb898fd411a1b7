-- A piece of the client's bytes, taken frame by frame.
use Rattle.std.proofs.Common.{◌≡◌, inl, inr, ℕ, ℤ, ◌≤◌, List, [], ◌∷◌, ◌++◌, length, drop, Result, Ok, Err, Option, Some, None, refl, sym, ap, subst, ◌∙◌, append_assoc, append-nil}
use Rattle.std.proofs.lemmas.Grind.{flat_map-append}
use Rattle.jute_core.specs.Frames.{frame}
use Rattle.payload_seal.specs.declared.keys.EntryKeys.{EntryKeys}
use Rattle.zk_frame.specs.Framing.{Framing, IsTooLong}
use Rattle.zk_messages.specs.Sent.{client_limit}
use Rattle.entry_session.specs.Heard.{Heard, from_client, bad_client, client_frames, bad_of_client}
use Rattle.entry_session.specs.Stands.{Stand, ends}
use Rattle.entry_session.specs.ClientTurns.{ClientTurn, malformed_frame, full_queue, spent_ivs, handed_up}
use Rattle.entry_session.specs.Runs.{Ran, TurnOf}
use Rattle.entry_session.specs.Sides.{EndsAtClient, bytes_of}
use Rattle.entry_session.specs.Kept.{Going, Kept, At, IsGoing, IsOfOne}
use Rattle.entry_session.specs.Calls.{HearsClient, GoesUp, AreOfClient, TakesFromClient, WantsAtClient, answer_of}
use Rattle.entry_session.specs.Frames.{CannotFeed}
use Rattle.entry_session.specs.Pieces.{GoesOn, BeginsFrame, HearsAtClient, HeardClient, NoneOfClient, FailsClient, NextOfClient, at_frame, at_length, ReachesUp, EndsUp}
use Rattle.entry_session.specs.declared.ending.Ending.{Ending}
use Rattle.entry_session.specs.declared.ending.Ending.TheVariants.{ClientTooLong, Memory}
use Rattle.entry_session.proofs.Turns.{some_none}
use Rattle.entry_session.proofs.Taking.{answer_none, answer_some, bytes_more, cut_frame, err_some, none_named, not_none, ok_none, one_ending, ran_along, turn_if}

turn_along : (k l : EntryKeys) (a b c d : ℕ) (r : Stand) (body : List ℕ) (t : Stand) → l ≡ k → b ≡ a → d ≡ c → ClientTurn l b d r body t → ClientTurn k a c r body t
turn_along k l a b c d r body t e f g h = subst (λ (x : EntryKeys). ClientTurn x a c r body t) e (subst (λ (x : ℕ). ClientTurn l x c r body t) f (subst (λ (x : ℕ). ClientTurn l b x r body t) g h))

-- what a frame of the client leaves
record SameDown (old new : Stand) : Type 0 where
  down_is : new.down ≡ old.down
  findings_is : new.findings ≡ old.findings

client_down : (k : EntryKeys) (boot c : ℕ) (old : Stand) (body : List ℕ) (new : Stand) → ClientTurn k boot c old body new → SameDown old new
client_down k boot c old body new (malformed_frame refusal f) = record { down_is = refl; findings_is = refl }
client_down k boot c old body new (full_queue i f g) = record { down_is = refl; findings_is = refl }
client_down k boot c old body new (spent_ivs i n f g p b) = record { down_is = refl; findings_is = refl }
client_down k boot c old body new (handed_up i v n out f g p w x y) = record { down_is = refl; findings_is = refl }

-- ---- what was handed up
no_more_up : (old : Going) (hs : List Heard) (s : Stand) (up : List ℕ) → Ran old.keys old.ivs.boot old.ivs.connection hs s → GoesUp old hs [] s s up up
unfolding AreOfClient
no_more_up old hs s up r = record { ran = r; of_client = tt; gained = []; handed = sym (append-nil s.up); added = sym (append-nil up); down = refl; findings = refl }

frame_more_up : (old now new : Going) (answer : Result (Unit {0}) Ending) (hs more : List Heard) (s r : Stand) (body up mid end : List ℕ)
    → IsOfOne old now → GoesUp old hs more s r up mid → r.ending ≡ None → length body ≤ client_limit → (h : HearsClient now new answer r body mid end) → GoesUp old hs (from_client body ∷ more) s h.t up end
unfolding AreOfClient Ran TurnOf
frame_more_up old now new answer hs more s r body up mid end one g n short h =
    let turn = turn_along old.keys now.keys old.ivs.boot now.ivs.boot old.ivs.connection now.ivs.connection r body h.t one.keys one.boot one.connection h.turn in
    let d = client_down now.keys now.ivs.boot now.ivs.connection r body h.t h.turn in
    record {
      ran = (r, g.ran, turn_if old.keys old.ivs.boot old.ivs.connection r.ending r (from_client body) h.t n (short, turn));
      of_client = g.of_client;
      gained = g.gained ++ h.gained;
      handed = h.handed ∙ ap (λ (l : List (List ℕ)). l ++ h.gained) g.handed ∙ append_assoc s.up g.gained h.gained;
      added = h.added ∙ ap (λ (l : List ℕ). l ++ bytes_of h.gained) g.added ∙ append_assoc up (bytes_of g.gained) (bytes_of h.gained) ∙ ap (λ (l : List ℕ). up ++ l) (sym (flat_map-append frame g.gained h.gained));
      down = d.down_is ∙ g.down;
      findings = d.findings_is ∙ g.findings;
    }

length_more_up : (old : Going) (hs more : List Heard) (s r : Stand) (z : ℤ) (bytes up mid : List ℕ)
    → GoesUp old hs more s r up mid → r.ending ≡ None → IsTooLong client_limit bytes z → GoesUp old hs (bad_client z ∷ more) s (ends r (ClientTooLong z)) up mid
unfolding AreOfClient Ran TurnOf
length_more_up old hs more s r z bytes up mid g n long = record {
  ran = (r, g.ran, turn_if old.keys old.ivs.boot old.ivs.connection r.ending r (bad_client z) (ends r (ClientTooLong z)) n (long.beyond, refl));
  of_client = g.of_client;
  gained = g.gained;
  handed = g.handed;
  added = g.added;
  down = g.down;
  findings = g.findings;
}

-- ---- turns
pub reaches_none : (old : Going) (hs : List Heard) (s : Stand) (bytes up : List ℕ) → GoesOn old hs s → ReachesUp old old hs s bytes bytes up up
unfolding bad_of_client client_frames
reaches_none old hs s bytes up g = record { more = []; t = s; goes_up = no_more_up old hs s up g.ran; goes_on = g.goes_on; going = g.going; unnamed = refl; cut = refl }

short_of : (f : Framing) (body : List ℕ) → f.limit ≡ client_limit → length body ≤ f.limit → length body ≤ client_limit
short_of f body e h = subst (λ (n : ℕ). length body ≤ n) e h

pub reaches_more : (f g : Framing) (old now new : Going) (hs : List Heard) (s : Stand) (bytes rest up mid end : List ℕ) (count : ℕ)
    → IsOfOne old now → f.limit ≡ client_limit → HeardClient f g now new rest mid end count → ReachesUp old now hs s bytes (f.held ++ rest) up mid → ReachesUp old new hs s bytes (g.held ++ drop count rest) up end
unfolding bad_of_client client_frames
reaches_more f g old now new hs s bytes rest up mid end count one limit heard r =
    let h = heard.hears r.t r.going r.goes_on in
    let n = ok_none h.t.ending h.turned.answered in
    record {
      more = from_client heard.body ∷ r.more;
      t = h.t;
      goes_up = frame_more_up old now new (Ok record {}) hs r.more s r.t heard.body up mid end one r.goes_up r.goes_on (short_of f heard.body limit heard.cuts.short) h;
      goes_on = n;
      going = h.turned.going n;
      unnamed = refl;
      cut = r.cut ∙ ap (λ (l : List ℕ). bytes_of (client_frames r.more) ++ l) (cut_frame f g rest count heard.body heard.cuts) ∙ bytes_more (client_frames r.more) heard.body (g.held ++ drop count rest);
    }

pub ends_part : (f g : Framing) (old now new : Going) (hs : List Heard) (s : Stand) (bytes rest up mid end : List ℕ)
    → f.limit ≡ client_limit → NoneOfClient f g now new rest mid end → ReachesUp old now hs s bytes (f.held ++ rest) up mid → EndsUp old new (Ok record {}) hs s bytes g.held up end
ends_part f g old now new hs s bytes rest up mid end limit none r =
    let k = none.keeps in
    record {
      more = r.more;
      t = r.t;
      goes_up = subst (λ (x : List ℕ). GoesUp old hs r.more s r.t up x) (sym none.up_is) r.goes_up;
      answered = answer_none r.t.ending r.goes_on;
      going = λ _. subst (λ (x : Going). IsGoing x r.t) (sym none.going) r.going;
      side = record {
        rest = f.held ++ rest;
        whole = r.cut;
        named = none_named (bad_of_client r.more) (λ z. IsTooLong client_limit (f.held ++ rest) z) r.unnamed;
        partial = λ _. k.part.partial;
        within = λ _ z long. k.part.within z (subst (λ (n : ℕ). IsTooLong n (f.held ++ rest) z) (sym limit) long);
      };
      kept = λ _. ap (λ (x : Framing). x.held) k.kept;
    }

ends_here : (o : Option Ending) (e : Ending) (body : List ℕ) (hs : List Heard) → o ≡ Some e → EndsAtClient o (from_client body ∷ hs)
unfolding EndsAtClient
ends_here None e body hs h = absurd (some_none e (sym h))
ends_here (Some d) e body hs h = tt

ends_there : (e : Ending) (z : ℤ) (hs : List Heard) → EndsAtClient (Some e) (bad_client z ∷ hs)
unfolding EndsAtClient
ends_there e z hs = tt

ends_frame : (f : Framing) (old now new : Going) (e : Ending) (hs : List Heard) (s : Stand) (bytes rest held up mid end body : List ℕ)
    → IsOfOne old now → f.limit ≡ client_limit → BeginsFrame f rest body → HearsAtClient now new (Err e) body mid end → ReachesUp old now hs s bytes (f.held ++ rest) up mid → EndsUp old new (Err e) hs s bytes held up end
unfolding bad_of_client client_frames
ends_frame f old now new e hs s bytes rest held up mid end body one limit b hears r =
    let h = hears r.t r.going r.goes_on in
    let n = err_some h.t.ending e h.turned.answered in
    let here = ends_here h.t.ending e body r.more n in
    record {
      more = from_client body ∷ r.more;
      t = h.t;
      goes_up = frame_more_up old now new (Err e) hs r.more s r.t body up mid end one r.goes_up r.goes_on (short_of f body limit b.short) h;
      answered = h.turned.answered;
      going = h.turned.going;
      side = record {
        rest = b.more;
        whole = r.cut ∙ ap (λ (l : List ℕ). bytes_of (client_frames r.more) ++ l) b.begins ∙ bytes_more (client_frames r.more) body b.more;
        named = tt;
        partial = λ not. absurd (not here);
        within = λ not. absurd (not here);
      };
      kept = λ none. absurd (not_none h.t.ending e n none);
    }

ends_length : (f : Framing) (old now new : Going) (e : Ending) (hs : List Heard) (s : Stand) (bytes rest held up mid end : List ℕ) (z : ℤ)
    → f.limit ≡ client_limit → e ≡ ClientTooLong z → IsTooLong f.limit (f.held ++ rest) z → end ≡ mid → ReachesUp old now hs s bytes (f.held ++ rest) up mid → EndsUp old new (Err e) hs s bytes held up end
unfolding bad_of_client client_frames
ends_length f old now new e hs s bytes rest held up mid end z limit is long same r =
    let far = subst (λ (n : ℕ). IsTooLong n (f.held ++ rest) z) limit long in
    let t = ends r.t (ClientTooLong z) in
    let here = ends_there (ClientTooLong z) z r.more in
    record {
      more = bad_client z ∷ r.more;
      t = t;
      goes_up = subst (λ (x : List ℕ). GoesUp old hs (bad_client z ∷ r.more) s t up x) (sym same) (length_more_up old hs r.more s r.t z (f.held ++ rest) up mid r.goes_up r.goes_on far);
      answered = answer_some (Some (ClientTooLong z)) e (ap Some (sym is));
      going = λ none. absurd (some_none (ClientTooLong z) none);
      side = record {
        rest = f.held ++ rest;
        whole = r.cut;
        named = far;
        partial = λ not. absurd (not here);
        within = λ not. absurd (not here);
      };
      kept = λ none. absurd (some_none (ClientTooLong z) none);
    }

pub ends_failed : (f : Framing) (old now new : Going) (e : Ending) (hs : List Heard) (s : Stand) (bytes rest held up mid end : List ℕ)
    → IsOfOne old now → f.limit ≡ client_limit → FailsClient f now new rest mid end e → ReachesUp old now hs s bytes (f.held ++ rest) up mid → EndsUp old new (Err e) hs s bytes held up end
ends_failed f old now new e hs s bytes rest held up mid end one limit (at_frame body b hears) r = ends_frame f old now new e hs s bytes rest held up mid end body one limit b hears r
ends_failed f old now new e hs s bytes rest held up mid end one limit (at_length z is long g same) r = ends_length f old now new e hs s bytes rest held up mid end z limit is long same r

pub wants_here : (old now : Going) (hs : List Heard) (s : Stand) (held piece left up mid end : List ℕ) → end ≡ mid → ReachesUp old now hs s (held ++ piece) left up mid → WantsAtClient old hs held s piece up end
wants_here old now hs s held piece left up mid end same r = record {
  more = r.more;
  t = r.t;
  goes_up = subst (λ (x : List ℕ). GoesUp old hs r.more s r.t up x) (sym same) r.goes_up;
  goes_on = r.goes_on;
  left = left;
  cut = r.cut;
}

pub feed_failed : (f : Framing) (old : Going) (piece up : List ℕ) (e : Ending) → (e ≡ Memory → ⊥) → CannotFeed f piece e → FailsClient f old old piece up up e
feed_failed f old piece up e out_of (inl m) = absurd (out_of m)
feed_failed f old piece up e out_of (inr (z, is, long)) = at_length z is long refl refl

pub heard_at : (f g : Framing) (old new : Going) (piece up more_up : List ℕ) (o : Option ℕ) (n : ℕ) → o ≡ Some n → NextOfClient f g old new piece up more_up (Ok o) → HeardClient f g old new piece up more_up n
heard_at f g old new piece up more_up o n e h = subst (λ (x : Option ℕ). NextOfClient f g old new piece up more_up (Ok x)) e h

pub none_at : (f g : Framing) (old new : Going) (piece up more_up : List ℕ) (o : Option ℕ) → o ≡ None → NextOfClient f g old new piece up more_up (Ok o) → NoneOfClient f g old new piece up more_up
none_at f g old new piece up more_up o e h = subst (λ (x : Option ℕ). NextOfClient f g old new piece up more_up (Ok x)) e h

pub reaches_after : (f g : Framing) (old now new : Going) (hs : List Heard) (s : Stand) (bytes rest after up mid end : List ℕ) (count : ℕ) → after ≡ drop count rest
    → IsOfOne old now → f.limit ≡ client_limit → HeardClient f g now new rest mid end count → ReachesUp old now hs s bytes (f.held ++ rest) up mid → ReachesUp old new hs s bytes (g.held ++ after) up end
reaches_after f g old now new hs s bytes rest after up mid end count e one limit h r =
    subst (λ (l : List ℕ). ReachesUp old new hs s bytes (g.held ++ l) up end) (sym e) (reaches_more f g old now new hs s bytes rest up mid end count one limit h r)

-- ---- the session
pub goes_on_at : (old : Kept) (hs : List Heard) (client store : List ℕ) (s : Stand) → At old hs client store s → s.ending ≡ None → GoesOn old.going hs s
goes_on_at old hs client store s at n = record { ran = at.ran; goes_on = n; going = at.going n }

no_end : (o : Option Ending) (hs : List Heard) → o ≡ None → EndsAtClient o hs → ⊥
unfolding EndsAtClient
no_end None hs h there = there
no_end (Some e) hs h there = some_none e h

pub takes_from_client : (old new : Kept) (answer : Result (Unit {0}) Ending) (hs : List Heard) (client store : List ℕ) (s : Stand) (piece up end : List ℕ)
    → IsOfOne old.going new.going → new.store ≡ old.store → answer ≡ answer_of new.ending → At old hs client store s → s.ending ≡ None
    → EndsUp old.going new.going answer hs s (old.client ++ piece) new.client up end → TakesFromClient old new hs client store s piece up end
takes_from_client old new answer hs client store s piece up end one same answered at n e =
    record {
      more = e.more;
      t = e.t;
      goes_up = e.goes_up;
      side = record {
        rest = e.side.rest;
        whole = ap (λ (l : List ℕ). l ++ piece) (sym (at.client n)) ∙ e.side.whole;
        named = e.side.named;
        partial = e.side.partial;
        within = e.side.within;
      };
      at = record {
        ran = ran_along old.going.keys new.going.keys old.going.ivs.boot new.going.ivs.boot old.going.ivs.connection new.going.ivs.connection (e.more ++ hs) e.t one.keys one.boot one.connection e.goes_up.ran;
        ending = one_ending new.ending e.t.ending (sym answered ∙ e.answered);
        going = e.going;
        client = e.kept;
        store = λ h. same ∙ at.store n;
        client_part = λ h. record { partial = e.side.partial (no_end e.t.ending e.more h); within = e.side.within (no_end e.t.ending e.more h) };
        store_part = λ h. at.store_part n;
      };
    }

pub wants_from_client : (old : Kept) (hs : List Heard) (client store : List ℕ) (s : Stand) (piece up end : List ℕ)
    → At old hs client store s → s.ending ≡ None → WantsAtClient old.going hs old.client s piece up end → WantsAtClient old.going hs client s piece up end
wants_from_client old hs client store s piece up end at n w = record {
  more = w.more;
  t = w.t;
  goes_up = w.goes_up;
  goes_on = w.goes_on;
  left = w.left;
  cut = ap (λ (l : List ℕ). l ++ piece) (sym (at.client n)) ∙ w.cut;
}
