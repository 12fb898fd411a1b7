-- A frame of the store: from what is kept to where a session stands.
use Rattle.std.proofs.Common.{◌≡◌, ◌↔◌, ℕ, suc, negsuc, ◌-◌, ◌≤◌, ◌<◌, ◌^◌, min, max, Bool, true, false, IsTrue, List, [], ◌∷◌, ◌++◌, Option, Some, None, Result, Ok, Err, IfOk, IfErr, IsErrAnd, MatchResult, length, drop, refl, sym, ap, subst, ◌∙◌, arith, append-nil}
use Rattle.jute_core.specs.Frames.{frame, FitsFrame}
use Rattle.jute_core.specs.Jute.{Refused, int}
use Rattle.jute_core.specs.Records.{IfRefused}
use Rattle.jute_core.specs.declared.cursor.Reason.{Reason}
use Rattle.jute_core.specs.declared.cursor.Refusal.{Refusal}
use Rattle.jute_core.specs.declared.not_read.NotRead.{NotRead}
use Rattle.jute_core.specs.declared.not_read.NotRead.TheVariants as unread
use Rattle.path_seal.specs.Sealed.{Keys}
use Rattle.payload_seal.specs.declared.keys.EntryKeys.{EntryKeys}
use Rattle.zk_records.specs.Connect.{SpellsConnected, RefusedConnected}
use Rattle.zk_records.specs.declared.connect.ConnectRequest.{ConnectRequest}
use Rattle.zk_records.specs.declared.connect.ConnectResponse.{ConnectResponse}
use Rattle.zk_messages.specs.Reading.{FailsBody}
use Rattle.zk_messages.specs.Replies.{SpellsEvent, RefusedEvent, BeginsWithInt}
use Rattle.zk_messages.specs.Sending.{AddsBytes}
use Rattle.zk_messages.specs.declared.reply.Event.{Event}
use Rattle.zk_messages.specs.declared.request.Item.{Item}
use Rattle.zk_messages.specs.declared.request.Item.TheVariants as items
use Rattle.watch_rewrite.proofs.Shorter.{shorter_when_plain}
use Rattle.watch_rewrite.specs.Events.{IsPlainEvent, IsFlawIn}
use Rattle.watch_rewrite.specs.declared.event.NotEvent.{NotEvent}
use Rattle.watch_rewrite.specs.declared.event.NotEvent.TheVariants as unheard
use Rattle.reply_rewrite.specs.declared.finding.Finding.{Finding}
use Rattle.entry_session.specs.Stands.{Stand, ends}
use Rattle.entry_session.specs.StoreTurns.{is_none, UnaskedTurn, ConnectTurn, LaterTurn, StoreTurn}
use Rattle.entry_session.specs.StoreTurns.{too_short, cut_short, nothing_open, connected, other_form, malformed_event, bad_event, opened_event, no_first_int, an_event}
use Rattle.entry_session.specs.Runs.{store_limit}
use Rattle.entry_session.specs.Sides.{bytes_of}
use Rattle.entry_session.specs.Kept.{Going, IsGoing, IsAskedFirst, IsInPhase, AreWaiting}
use Rattle.entry_session.specs.Calls.{answer_of, HearsStore}
use Rattle.entry_session.specs.StoreSteps.{ending_unread, ending_unheard, IsRefusedBy, EndsUnasked, HearsIn}
use Rattle.entry_session.specs.declared.ending.Ending.{Ending}
use Rattle.entry_session.specs.declared.ending.Ending.TheVariants.{StoreMalformed, NothingOpen, BadEvent, Memory}
use Rattle.entry_session.specs.declared.progress.Phase.{Phase}
use Rattle.entry_session.specs.declared.progress.Phase.TheVariants.{Unasked, Asked, Connected}
use Rattle.entry_session.proofs.Turns.{some_none}

-- ---- phases

in_unasked : (is : List Item) (n : ℕ) (p : Phase) → p ≡ Unasked → IsInPhase is n p → (is ≡ []) × (n ≡ 0)
unfolding IsInPhase
in_unasked is n p e h = subst (λ (q : Phase). IsInPhase is n q) e h

in_asked : (is : List Item) (n : ℕ) (p : Phase) (older : Bool) → p ≡ Asked older → IsInPhase is n p → IsAskedFirst is older × (n ≡ 0)
unfolding IsInPhase
in_asked is n p older e h = subst (λ (q : Phase). IsInPhase is n q) e h

pub in_connected : (is : List Item) (n : ℕ) (p : Phase) → p ≡ Connected → IsInPhase is n p → (older : Bool) × (m : ℕ) × IsAskedFirst is older × (n ≡ suc m)
unfolding IsInPhase
in_connected is n p e h = subst (λ (q : Phase). IsInPhase is n q) e h

pub connected_from : (is : List Item) (n : ℕ) (older : Bool) (m : ℕ) → IsAskedFirst is older → n ≡ suc m → IsInPhase is n Connected
unfolding IsInPhase
connected_from is n older m h e = (older, m, h, e)

-- ---- turns, by what was sent and answered

unasked_turn : (k : EntryKeys) (c : ℕ) (s : Stand) (body : List ℕ) (t : Stand) (is : List Item) (n : ℕ) → is ≡ [] → UnaskedTurn s body t → StoreTurn k c s body t is n
unfolding StoreTurn
unasked_turn k c s body t is n e h = subst (λ (l : List Item). StoreTurn k c s body t l n) (sym e) h

connect_turn : (k : EntryKeys) (c : ℕ) (s : Stand) (body : List ℕ) (t : Stand) (is : List Item) (n : ℕ) (asked : ConnectRequest) (more : List Item) → is ≡ items.Asks asked ∷ more → n ≡ 0 → ConnectTurn asked s body t → StoreTurn k c s body t is n
unfolding StoreTurn
connect_turn k c s body t is n asked more e f h =
    subst (λ (l : List Item). StoreTurn k c s body t l n) (sym e) (subst (λ (m : ℕ). StoreTurn k c s body t (items.Asks asked ∷ more) m) (sym f) h)

pub later_turn : (k : EntryKeys) (c : ℕ) (s : Stand) (body : List ℕ) (t : Stand) (is : List Item) (n : ℕ) (asked : ConnectRequest) (more : List Item) (m : ℕ) → is ≡ items.Asks asked ∷ more → n ≡ suc m → LaterTurn k c s body t → StoreTurn k c s body t is n
unfolding StoreTurn
later_turn k c s body t is n asked more m e f h =
    subst (λ (l : List Item). StoreTurn k c s body t l n) (sym e) (subst (λ (l : ℕ). StoreTurn k c s body t (items.Asks asked ∷ more) l) (sym f) h)

-- ---- a session that ends, and one that goes on

pub ends_here : (old : Going) (s : Stand) (body down : List ℕ) (fs : List Finding) (e : Ending) → StoreTurn old.keys old.ivs.connection s body (ends s e) s.items s.answered → HearsStore old old (Err e) s body down down fs fs
unfolding answer_of
ends_here old s body down fs e turn = record {
  t = ends s e;
  turn = turn;
  turned = record { answered = refl; going = λ h. absurd (some_none e h) };
  gained = [];
  handed = sym (append-nil s.down);
  added = sym (append-nil down);
  found = [];
  findings_are = sym (append-nil s.findings);
  findings_added = sym (append-nil fs);
}

pub one_frame : (down more body : List ℕ) → more ≡ down ++ frame body → more ≡ down ++ bytes_of (body ∷ [])
one_frame down more body h = h ∙ ap (λ (l : List ℕ). down ++ l) (sym (append-nil (frame body)))

pub goes_on : (o : Option Ending) → o ≡ None → Ok record {} ≡ answer_of o
unfolding answer_of
goes_on o e = ap answer_of (sym e)

-- ---- frames that are not read

clash : {A : Type 0} (x : A) (e : Ending) → Ok x ≡ Err e → ⊥
clash {A} x e h = cc

err_is : {A : Type 0} (m : Result A Ending) (d e : Ending) → IsErrAnd m (λ y. y ≡ d) → m ≡ Err e → e ≡ d
err_is {A} (Ok x) d e h i = absurd h
err_is {A} (Err y) d e h i = let same : y ≡ e = cc in sym same ∙ h

-- the answer of a `?`
is_err : (r : Result (Unit {0}) Ending) (e : Ending) → IsErrAnd r (λ y. y ≡ e) → Err e ≡ r
is_err (Ok x) e h = absurd h
is_err (Err y) e h = ap Err (sym h)

pub answered_by : (r : Result (Unit {0}) Ending) (e : Ending) (phase : Phase) (old new : Going) (body down more : List ℕ) (fs more_fs : List Finding) → IsErrAnd r (λ y. y ≡ e)
    → HearsIn phase old new (Err e) body down more fs more_fs → HearsIn phase old new r body down more fs more_fs
answered_by r e phase old new body down more fs more_fs i h = subst (λ (x : Result (Unit {0}) Ending). HearsIn phase old new x body down more fs more_fs) (is_err r e i) h

pub not_read : {A : Type 0} (r : Result A NotRead) (m : Result A Ending) (e : Ending) (Is : ℕ → Reason → Type 0) → IfErr r (λ x. IfRefused x (λ refusal. Is refusal.place refusal.reason))
    → MatchResult r (λ x. m ≡ Ok x) (λ x. IsErrAnd m (λ y. y ≡ ending_unread x)) → m ≡ Err e → IsRefusedBy Is e
not_read {A} (Ok x) m e Is h i j = absurd (clash x e (sym i ∙ j))
not_read {A} (Err (unread.Refused refusal)) m e Is h i j = subst (IsRefusedBy Is) (sym (err_is m (StoreMalformed refusal) e i j)) h
not_read {A} (Err unread.Memory) m e Is h i j = subst (IsRefusedBy Is) (sym (err_is m Memory e i j)) tt

pub of_body : {A : Type 0} (r : Result A NotRead) (body : List ℕ) (Is : List ℕ → ℕ → Reason → Type 0) → IfErr r (FailsBody body Is) → IfErr r (λ x. IfRefused x (λ refusal. Is body refusal.place refusal.reason))
of_body {A} (Ok x) body Is h = tt
of_body {A} (Err x) body Is h = h.refused

pub is_read : {A : Type 0} (P : A → Type 0) (r : Result A NotRead) (m : Result A Ending) (x : A) → IfOk r P → MatchResult r (λ y. m ≡ Ok y) (λ y. IsErrAnd m (λ z. z ≡ ending_unread y)) → m ≡ Ok x → P x
is_read {A} P (Ok y) m x h i j = let same : y ≡ x = cc in subst P same h
is_read {A} P (Err y) (Ok z) x h i j = absurd i
is_read {A} P (Err y) (Err z) x h i j = absurd (clash x z (sym j))

-- ---- before the connect request

pub unasked_ends : (old : Going) (s : Stand) (body down : List ℕ) (fs : List Finding) (e : Ending) → old.phase ≡ Unasked → IsGoing old s → EndsUnasked body e → HearsStore old old (Err e) s body down down fs fs
unasked_ends old s body down fs (StoreMalformed refusal) p g h =
    let at = in_unasked s.items s.answered old.phase p g.phase in
    ends_here old s body down fs (StoreMalformed refusal)
    (subst (λ (r : Refusal). StoreTurn old.keys old.ivs.connection s body (ends s (StoreMalformed r)) s.items s.answered) (sym h.1)
    (unasked_turn old.keys old.ivs.connection s body _ s.items s.answered at.0 (cut_short h.0)))
unasked_ends old s body down fs (NothingOpen z) p g h =
    let at = in_unasked s.items s.answered old.phase p g.phase in
    ends_here old s body down fs (NothingOpen z) (unasked_turn old.keys old.ivs.connection s body _ s.items s.answered at.0 (nothing_open z h))
unasked_ends old s body down fs e p g h = absurd h

-- ---- the answer to it

pub connect_refused : (old : Going) (older : Bool) (body down : List ℕ) (fs : List Finding) (e : Ending) → IsRefusedBy (RefusedConnected older body) e → HearsIn (Asked older) old old (Err e) body down down fs fs
connect_refused old older body down fs (StoreMalformed refusal) h = λ f s g none p.
    let at = in_asked s.items s.answered old.phase older p g.phase in
    ends_here old s body down fs (StoreMalformed refusal)
    (connect_turn old.keys old.ivs.connection s body _ s.items s.answered at.0.asked at.0.more at.0.first at.1
    (other_form refusal (subst (λ (b : Bool). RefusedConnected b body refusal.place refusal.reason) (sym at.0.form) h)))
connect_refused old older body down fs Memory h = λ f s g none p. absurd (f refl)
connect_refused old older body down fs e h = absurd h

form_is : {A : Type 0} (o : Option A) (older : Bool) → IsTrue older ↔ (o ≡ None) → is_none o ≡ older
unfolding is_none
form_is {A} None true h = refl
form_is {A} None false h = sym (h.1 refl)
form_is {A} (Some x) true h = absurd (some_none x (h.0 refl))
form_is {A} (Some x) false h = refl

pub connect_told : (old : Going) (older : Bool) (body down more : List ℕ) (fs : List Finding) (r : ConnectResponse) → SpellsConnected r body → IsTrue older ↔ (r.read_only ≡ None) → more ≡ down ++ frame body
    → HearsIn (Asked older) old (record old { phase = Connected }) (Ok record {}) body down more fs fs
connect_told old older body down more fs r spelled form added = λ f s g none p.
    let at = in_asked s.items s.answered old.phase older p g.phase in
    record {
      t = record s { answered = 1; down = s.down ++ body ∷ [] };
      turn = connect_turn old.keys old.ivs.connection s body _ s.items s.answered at.0.asked at.0.more at.0.first at.1 (connected r spelled (form_is r.read_only older form ∙ sym at.0.form));
      turned = record {
        answered = goes_on s.ending none;
        going = λ h. record {
          phase = connected_from s.items 1 older 0 at.0 refl;
          sized = g.sized;
          within = omega (arith, ap length at.0.first);
          waiting = subst (λ (n : ℕ). AreWaiting (drop (max n 1) s.items) (drop (max n 1) s.sizes) old.queue) at.1 g.waiting;
          sealed = g.sealed;
          replies = g.replies ∙ ap (λ (n : ℕ). min (n - 1) (2 ^ 64 - 1)) at.1;
        };
      };
      gained = body ∷ [];
      handed = refl;
      added = one_frame down more body added;
      found = [];
      findings_are = sym (append-nil s.findings);
      findings_added = sym (append-nil fs);
    }

-- ---- a frame after that

pub later_ends : (old : Going) (body down : List ℕ) (fs : List Finding) (e : Ending) → ((s : Stand) → (e ≡ Memory → ⊥) → IsGoing old s → old.phase ≡ Connected → LaterTurn old.keys old.ivs.connection s body (ends s e))
    → HearsIn Connected old old (Err e) body down down fs fs
later_ends old body down fs e turn = λ f s g none p.
    let at = in_connected s.items s.answered old.phase p g.phase in
    ends_here old s body down fs e
    (later_turn old.keys old.ivs.connection s body (ends s e) s.items s.answered at.2.asked at.2.more at.1 at.2.first at.3 (turn s (λ i. f (ap Err i)) g p))

-- the first int is cut short
pub cut_off : (body : List ℕ) (refusal : Refusal) → Refused int 0 body refusal.place refusal.reason → (length body < 4) × (refusal ≡ too_short)
unfolding Refused
cut_off body refusal h = (h.0, (λ i. record { place = h.1 i; reason = h.2 i }))

pub later_short : (old : Going) (body down : List ℕ) (fs : List Finding) (refusal : Refusal) → Refused int 0 body refusal.place refusal.reason → HearsIn Connected old old (Err (StoreMalformed refusal)) body down down fs fs
later_short old body down fs refusal h =
    let short = cut_off body refusal h in
    later_ends old body down fs (StoreMalformed refusal) (λ s f g p. no_first_int short.0 (ap (λ (r : Refusal). ends s (StoreMalformed r)) short.1))

-- ---- events

pub event_refused : (old : Going) (body down : List ℕ) (fs : List Finding) (e : Ending) → BeginsWithInt body (negsuc 0) → IsRefusedBy (RefusedEvent body) e → HearsIn Connected old old (Err e) body down down fs fs
event_refused old body down fs (StoreMalformed refusal) b h = later_ends old body down fs (StoreMalformed refusal) (λ s f g p. an_event b (malformed_event refusal h))
event_refused old body down fs Memory b h = later_ends old body down fs Memory (λ s f g p. absurd (f refl))
event_refused old body down fs e b h = absurd h

pub event_flawed : (old : Going) (body down : List ℕ) (fs : List Finding) (event : Event) (fault : NotEvent) → BeginsWithInt body (negsuc 0) → SpellsEvent event body → IsFlawIn old.keys.names event fault
    → HearsIn Connected old old (Err (ending_unheard fault)) body down down fs fs
event_flawed old body down fs event (unheard.Bad flaw) b h i = later_ends old body down fs (BadEvent flaw) (λ s f g p. an_event b (bad_event event flaw h i))
event_flawed old body down fs event unheard.Memory b h i = later_ends old body down fs Memory (λ s f g p. absurd (f refl))

pub event_told : (old : Going) (body out down more : List ℕ) (fs : List Finding) (event plain : Event) → BeginsWithInt body (negsuc 0) → SpellsEvent event body → IsPlainEvent old.keys.names event plain → SpellsEvent plain out → more ≡ down ++ frame out
    → HearsIn Connected old old (Ok record {}) body down more fs fs
event_told old body out down more fs event plain b spelled opened written added = λ f s g none p.
    let at = in_connected s.items s.answered old.phase p g.phase in
    record {
      t = record s { down = s.down ++ out ∷ [] };
      turn = later_turn old.keys old.ivs.connection s body _ s.items s.answered at.2.asked at.2.more at.1 at.2.first at.3 (an_event b (opened_event event plain out spelled opened written));
      turned = record {
        answered = goes_on s.ending none;
        going = λ h. record { phase = g.phase; sized = g.sized; within = g.within; waiting = g.waiting; sealed = g.sealed; replies = g.replies };
      };
      gained = out ∷ [];
      handed = refl;
      added = one_frame down more out added;
      found = [];
      findings_are = sym (append-nil s.findings);
      findings_added = sym (append-nil fs);
    }

-- an event and what is told for it fit a frame
pub event_short : (event : Event) (body : List ℕ) → length body ≤ store_limit → SpellsEvent event body → length event.path ≤ 134217700
event_short event body l h = omega (arith, l, shorter_when_plain.within event body h)

pub plain_short : (k : Keys) (event plain : Event) (body : List ℕ) → length body ≤ store_limit → SpellsEvent event body → IsPlainEvent k event plain → length plain.path ≤ 134217700
plain_short k event plain body l h i = omega (arith, event_short event body l h, shorter_when_plain.shorter k event plain i)

pub event_fits : (k : Keys) (event plain : Event) (body out : List ℕ) → length body ≤ store_limit → SpellsEvent event body → IsPlainEvent k event plain → SpellsEvent plain out → FitsFrame out
event_fits k event plain body out l h i w = omega (arith, plain_short k event plain body l h i, shorter_when_plain.within plain out w)

-- what was written to an empty vector, behind a reference
pub written : (old new slice : List ℕ) (Is : List ℕ → Type 0) → old ≡ [] → AddsBytes old new Is → slice ≡ new → Is slice
written old new slice Is e h i = subst Is (ap (λ (l : List ℕ). l ++ h.bytes) (sym e) ∙ sym h.added ∙ sym i) h.is
