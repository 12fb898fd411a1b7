-- A frame of the client.
use Rattle.std.proofs.Common.{◌≡◌, ℕ, zero, suc, ℤ, ◌+◌, ◌*◌, ◌<◌, ◌≤◌, ◌^◌, max, inl, inr, ◌↔◌, Bool, true, false, List, [], ◌∷◌, ◌++◌, length, drop, Result, Ok, Err, Option, Some, None, refl, sym, ap, subst, ◌∙◌, arith, append-nil, length-append, sum_by}
use Rattle.std.specs.Prelude.{All, is_some, not, OnOk, IfErr}
use Rattle.std.proofs.lemmas.Bool.{false≢true}
use Rattle.std.proofs.lemmas.List.{drop-append-le}
use Rattle.std.proofs.lemmas.List.Sums.{sum_by-cons}
use Rattle.std.proofs.lemmas.List.Elements.{All-nil, All-cons, All-append}
use Rattle.jute_core.specs.Frames.{frame}
use Rattle.payload_seal.specs.Ivs.{Ivs, payload_iv}
use Rattle.payload_seal.specs.declared.keys.EntryKeys.{EntryKeys}
use Rattle.request_queue.specs.Short.{HasShortPath}
use Rattle.request_queue.specs.Weights.{limit, weight}
use Rattle.request_queue.specs.declared.pending.Pending.{Pending}
use Rattle.zk_records.specs.Connect.{SpellsConnect, RefusedConnect}
use Rattle.zk_records.specs.declared.connect.ConnectRequest.{ConnectRequest}
use Rattle.zk_messages.specs.Items.{IsItem}
use Rattle.zk_messages.specs.Requests.{SpellsRequest, RefusedRequest}
use Rattle.zk_messages.specs.Sending.{AddsBytes}
use Rattle.zk_messages.specs.Sent.{client_limit, is_first}
use Rattle.zk_messages.specs.Short.{HasShortParts}
use Rattle.zk_messages.specs.declared.request.Item.{Item}
use Rattle.zk_messages.specs.declared.request.Item.TheVariants as items
use Rattle.zk_messages.specs.declared.request.Request.{Request}
use Rattle.zk_messages.proofs.ShortParts.{short_when_read}
use Rattle.request_rewrite.specs.Asks.{Asks}
use Rattle.request_rewrite.specs.Ivs.{IsForGreatest, ivs_from, iv_after, PayloadsOf}
use Rattle.request_rewrite.specs.Laws.{IsWritable}
use Rattle.request_rewrite.specs.Veil.{Veil}
use Rattle.request_rewrite.specs.declared.veiling.NotVeiled.{NotVeiled}
use Rattle.request_rewrite.specs.declared.veiling.NotVeiled.TheVariants as veils
use Rattle.request_rewrite.proofs.Growth.{grows_by_thirty}
use Rattle.request_rewrite.proofs.Written.{writable_when_veiled, short_when_asked}
use Rattle.entry_session.specs.Stands.{Stand, ends, weight_of}
use Rattle.entry_session.specs.Stands.{weight as weight_at}
use Rattle.entry_session.specs.ClientTurns.{ClientTurn, malformed_frame, full_queue, spent_ivs, handed_up, RefusedItem, HasRoom, PayloadsIn, VeilsItem, source_at, greatest_epoch}
use Rattle.entry_session.specs.StoreTurns.{is_none}
use Rattle.entry_session.specs.Kept.{Going, IsGoing, IsOfOne, IsWaiting, AreWaiting, IsAskedFirst, IsInPhase, IsSourceOf, AreShort}
use Rattle.entry_session.specs.Calls.{HearsClient}
use Rattle.entry_session.specs.Frames.{not_veiled, IsFrameOf, IsLater, IsRead, IsMalformed, HandsUp, CannotHandUp}
use Rattle.entry_session.specs.declared.ending.Ending.{Ending}
use Rattle.entry_session.specs.declared.ending.Ending.TheVariants.{Memory, ClientMalformed, QueueFull, IvSpent}
use Rattle.entry_session.specs.declared.progress.Phase.{Phase}
use Rattle.entry_session.specs.declared.progress.Phase.TheVariants as phases
use Rattle.entry_session.proofs.Taking.{answer_none, answer_some}
use Rattle.entry_session.proofs.Turns.{some_none}

-- ---- handing a request up

twelve : (epoch boot c j : ℕ) → length (payload_iv epoch boot c j) ≡ 12
twelve epoch boot c j = refl

ivs_twelve : (s : Ivs) (n : ℕ) → All (λ iv. length iv ≡ 12) (ivs_from s n)
unfolding ivs_from
ivs_twelve s zero = All-nil (λ iv. length iv ≡ 12)
ivs_twelve s (suc n) = All-append (λ iv. length iv ≡ 12) (ivs_from s n) (iv_after s n ∷ []) (ivs_twelve s n) (All-cons (λ iv. length iv ≡ 12) (iv_after s n) [] (twelve s.epoch s.boot s.connection (s.count + n)) (All-nil (λ iv. length iv ≡ 12)))

within_limit : (body : List ℕ) → length body ≤ client_limit → length body ≤ 2 ^ 27
within_limit body h = omega (arith, h)

pub read_short : (xid : ℤ) (r : Request) (bytes : ℕ) → IsRead xid r bytes → HasShortParts r
read_short xid r bytes h = short_when_read xid r h.body (within_limit h.body h.short) h.spelled

pub writable_at : (k : EntryKeys) (s : Ivs) (n : ℕ) (xid number : ℤ) (r v : Request) (bytes : ℕ) → number ≡ xid → IsRead xid r bytes → Veil k (ivs_from s n) r v → IsWritable number v
writable_at k s n xid number r v bytes e h w = subst (λ (z : ℤ). IsWritable z v) (sym e) (writable_when_veiled k (ivs_from s n) xid r v h.body (ivs_twelve s n) w h.short h.spelled)

grown : (a b : ℕ) → a ≤ client_limit → b ≤ 30 * a → b < 2 ^ 31
grown a b f g = omega (arith, f, g)

pub fits_at : (k : EntryKeys) (s : Ivs) (n : ℕ) (xid number : ℤ) (r v : Request) (bytes : ℕ) → number ≡ xid → IsRead xid r bytes → Veil k (ivs_from s n) r v → (out : List ℕ) → SpellsRequest number v out → length out < 2 ^ 31
fits_at k s n xid number r v bytes e h w out f =
    grown (length h.body) (length out) h.short (grows_by_thirty k (ivs_from s n) xid r v h.body out (ivs_twelve s n) w h.spelled (subst (λ (z : ℤ). SpellsRequest z v out) e f))

abbrev going_of : EntryKeys → Ivs → Phase → List Pending → ℕ → Going
going_of k s phase queue replies = record { keys = k; ivs = s; phase = phase; queue = queue; replies = replies }

veil_failed_at : {T : Type 0} (veiled : Result T NotVeiled) (fault : NotVeiled) (old : Going) (r : Request) → veiled ≡ Err fault
    → ((n : ℕ) → PayloadsOf r n → (veiled ≡ Err veils.Spent) ↔ (2 ^ 32 < old.ivs.count + n)) → ((n : ℕ) × PayloadsOf r n) → CannotHandUp old r (not_veiled fault)
veil_failed_at veiled veils.Memory old r e spent counted = inl refl
veil_failed_at veiled veils.Spent old r e spent counted = inr (refl, (counted.0, counted.1, (spent counted.0 counted.1).0 e))

pub veil_failed : {T : Type 0} (veiled : Result T NotVeiled) (fault : NotVeiled) (k : EntryKeys) (s : Ivs) (phase : Phase) (q : List Pending) (replies : ℕ) (old : Going) (r : Request) → going_of k s phase q replies ≡ old → veiled ≡ Err fault
    → ((n : ℕ) → PayloadsOf r n → (veiled ≡ Err veils.Spent) ↔ (2 ^ 32 < s.count + n)) → ((n : ℕ) × PayloadsOf r n) → CannotHandUp old r (not_veiled fault)
veil_failed veiled fault k s phase q replies old r v e spent counted = subst (λ (o : Going). CannotHandUp o r (not_veiled fault)) v (veil_failed_at veiled fault (going_of k s phase q replies) r e spent counted)

not_err : {T E : Type 0} (x : T) (e : E) → Ok x ≡ Err e → ⊥
not_err x e h = cc

not_below : (m n : ℕ) → (m < n → ⊥) → n ≤ m
not_below m n h = omega (arith, h)

pub left_over : {T : Type 0} (veiled : Result T NotVeiled) (x : T) (m n : ℕ) → veiled ≡ Ok x → ((veiled ≡ Err veils.Spent) ↔ (m < n)) → n ≤ m
left_over veiled x m n e spent = not_below m n (λ h. not_err x veils.Spent (sym e ∙ spent.1 h))

same_going : (k : EntryKeys) (s t : Ivs) (phase : Phase) (q r : List Pending) (replies : ℕ) → s ≡ t → q ≡ r → going_of k s phase q replies ≡ going_of k t phase r replies
same_going k s t phase q r replies e f = (λ i. going_of k (e i) phase (f i) replies)

pub handed : (k : EntryKeys) (s t : Ivs) (phase : Phase) (q queue : List Pending) (replies : ℕ) (old : Going) (xid : ℤ) (r v : Request) (bytes : ℕ) (p : Pending) (up more_up : List ℕ) (n : ℕ)
    → going_of k s phase q replies ≡ old → IsForGreatest k.payloads s → PayloadsOf r n → s.count + n ≤ 2 ^ 32 → Veil k (ivs_from s n) r v
    → t ≡ record s { count = s.count + n } → queue ≡ q ++ p ∷ [] → AddsBytes up more_up (IsFrameOf p.xid v) → Asks r p.asked → p.xid ≡ xid → p.bytes ≡ bytes
    → HandsUp old (going_of k t phase queue replies) xid r bytes up more_up
handed k s t phase q queue replies old xid r v bytes p up more_up n e g paid left w taken queued added asks x b =
    subst (λ (o : Going). HandsUp o (going_of k t phase queue replies) xid r bytes up more_up) e record {
      count = n;
      payloads = paid;
      greatest = g;
      left = left;
      veiled = v;
      veils = w;
      added = subst (λ (z : ℤ). AddsBytes up more_up (IsFrameOf z v)) x added;
      pending = p;
      asked = asks;
      xid_is = x;
      bytes_are = b;
      new_is = same_going k t (record s { count = s.count + n }) phase queue (q ++ p ∷ []) replies taken queued;
    }

pub same_one : (k : EntryKeys) (s t : Ivs) (phase other : Phase) (q queue : List Pending) (replies : ℕ) (old : Going) (n : ℕ)
    → going_of k s phase q replies ≡ old → t ≡ record s { count = n } → IsOfOne old (going_of k t other queue replies)
same_one k s t phase other q queue replies old n e taken =
    subst (λ (o : Going). IsOfOne o (going_of k t other queue replies)) e record { keys = refl; boot = ap (λ (i : Ivs). i.boot) taken; connection = ap (λ (i : Ivs). i.connection) taken }

pub taken_source : (keys : List (List ℕ)) (s t : Ivs) (n : ℕ) → t ≡ record s { count = n } → n ≤ 2 ^ 32 → IsSourceOf keys s → IsSourceOf keys t
taken_source keys s t n e left g = subst (IsSourceOf keys) (sym e) record { greatest = g.greatest; left = left }

pub taken_connection : (s t : Ivs) (n c : ℕ) → t ≡ record s { count = n } → s.connection ≡ c → t.connection ≡ c
taken_connection s t n c e g = ap (λ (i : Ivs). i.connection) e ∙ g

pub asked_short : (xid : ℤ) (r : Request) (bytes : ℕ) (q queue : List Pending) (p : Pending) → IsRead xid r bytes → Asks r p.asked → queue ≡ q ++ p ∷ [] → AreShort q → AreShort queue
asked_short xid r bytes q queue p h asks e short =
    subst AreShort (sym e) (All-append (λ x. HasShortPath x.asked) q (p ∷ []) short (All-cons (λ x. HasShortPath x.asked) p [] (short_when_asked.short xid r p.asked h.body (within_limit h.body h.short) h.spelled asks) (All-nil (λ x. HasShortPath x.asked))))

-- ---- what waits

waiting_more : (is : List Item) (sizes : List ℕ) (ps : List Pending) (i : Item) (size : ℕ) (p : Pending) → AreWaiting is sizes ps → IsWaiting i size p → AreWaiting (is ++ i ∷ []) (sizes ++ size ∷ []) (ps ++ p ∷ [])
unfolding AreWaiting
waiting_more [] [] [] i size p h w = (w, tt)
waiting_more [] [] (q ∷ qs) i size p h w = absurd h
waiting_more [] (z ∷ zs) [] i size p h w = absurd h
waiting_more [] (z ∷ zs) (q ∷ qs) i size p h w = absurd h
waiting_more (j ∷ js) [] [] i size p h w = absurd h
waiting_more (j ∷ js) [] (q ∷ qs) i size p h w = absurd h
waiting_more (j ∷ js) (z ∷ zs) [] i size p h w = absurd h
waiting_more (j ∷ js) (z ∷ zs) (q ∷ qs) i size p h w = (h.0, waiting_more js zs qs i size p h.1 w)

one_weight : (z b x y : ℕ) → b ≡ z → x ≡ y → (z + 64) + x ≡ (b + 64) + y
one_weight z b x y e f = omega (arith, e, f)

pub weigh : (is : List Item) (sizes : List ℕ) (ps : List Pending) → AreWaiting is sizes ps → sum_by weight_of sizes ≡ sum_by weight ps
unfolding AreWaiting
weigh [] [] [] h = refl
weigh [] [] (q ∷ qs) h = absurd h
weigh [] (z ∷ zs) [] h = absurd h
weigh [] (z ∷ zs) (q ∷ qs) h = absurd h
weigh (j ∷ js) [] [] h = absurd h
weigh (j ∷ js) [] (q ∷ qs) h = absurd h
weigh (j ∷ js) (z ∷ zs) [] h = absurd h
weigh (j ∷ js) (z ∷ zs) (q ∷ qs) h = sum_by-cons weight_of z zs ∙ one_weight z q.bytes (sum_by weight_of zs) (sum_by weight qs) h.0.bytes (weigh js zs qs h.1) ∙ sym (sum_by-cons weight q qs)

-- the oldest that waits is one of them, or the next one
one_within : (a n : ℕ) → a ≤ n → 1 ≤ n → max a 1 ≤ n
one_within a n f g = omega (arith, f, g)

pub waits_more : (old : Going) (s : Stand) (i : Item) (size : ℕ) (p : Pending) → IsGoing old s → 1 ≤ length s.items → IsWaiting i size p
    → AreWaiting (drop (max s.answered 1) (s.items ++ i ∷ [])) (drop (max s.answered 1) (s.sizes ++ size ∷ [])) (old.queue ++ p ∷ [])
waits_more old s i size p g one w =
    let n = max s.answered 1 in
    let f = one_within s.answered (length s.items) g.within one in
    let h = subst (λ (m : ℕ). max s.answered 1 ≤ m) (sym g.sized) f in
    let m = waiting_more (drop n s.items) (drop n s.sizes) old.queue i size p g.waiting w in
    subst (λ (l : List Item). AreWaiting l (drop n (s.sizes ++ size ∷ [])) (old.queue ++ p ∷ [])) (sym (drop-append-le n s.items (i ∷ []) f))
    (subst (λ (l : List ℕ). AreWaiting (drop n s.items ++ i ∷ []) l (old.queue ++ p ∷ [])) (sym (drop-append-le n s.sizes (size ∷ []) h)) m)

list_not : (j : Item) (js : List Item) → j ∷ js ≡ [] → ⊥
list_not j js e = cc

waits_first : (a : ℕ) (is : List Item) (sizes : List ℕ) (i : Item) (size : ℕ) (q : List Pending) → a ≡ 0 → is ≡ [] → length sizes ≡ length is
    → AreWaiting (drop (max a 1) is) (drop (max a 1) sizes) q → AreWaiting (drop (max a 1) (is ++ i ∷ [])) (drop (max a 1) (sizes ++ size ∷ [])) q
waits_first zero [] [] i size q e f g h = h
waits_first zero [] (z ∷ zs) i size q e f g h = absurd (omega (arith, g))
waits_first zero (j ∷ js) sizes i size q e f g h = absurd (list_not j js f)
waits_first (suc a) is sizes i size q e f g h = absurd (omega (arith, e))

-- the code's test for the older form
pub none_is : {A : Type 0} (o : Option A) (b : Bool) → is_some o ≡ not b → is_none o ≡ b
unfolding is_none
none_is None true e = refl
none_is None false e = absurd (false≢true e)
none_is (Some a) true e = absurd (false≢true (sym e))
none_is (Some a) false e = refl

-- ---- phases

-- a connect request came before
record IsLaterOn (is : List Item) : Type 0 where
  later : is_first is ≡ false
  one : 1 ≤ length is

first_asked : (is : List Item) (older : Bool) → IsAskedFirst is older → IsLaterOn is
first_asked is older h = subst IsLaterOn (sym h.first) record { later = refl; one = omega arith }

later_on : (is : List Item) (answered : ℕ) (phase : Phase) → IsLater phase → IsInPhase is answered phase → IsLaterOn is
unfolding IsInPhase
later_on is answered phases.Unasked l h = absurd l
later_on is answered (phases.Asked older) l h = first_asked is older h.0
later_on is answered phases.Connected l h = first_asked is h.0 h.2

asked_more : (is : List Item) (older : Bool) (i : Item) → IsAskedFirst is older → IsAskedFirst (is ++ i ∷ []) older
asked_more is older i h = record { asked = h.asked; more = h.more ++ i ∷ []; first = ap (λ (l : List Item). l ++ i ∷ []) h.first; form = h.form }

phase_more : (is : List Item) (answered : ℕ) (phase : Phase) (i : Item) → IsLater phase → IsInPhase is answered phase → IsInPhase (is ++ i ∷ []) answered phase
unfolding IsInPhase
phase_more is answered phases.Unasked i l h = absurd l
phase_more is answered (phases.Asked older) i l h = (asked_more is older i h.0, h.1)
phase_more is answered phases.Connected i l h = (h.0, h.1, asked_more is h.0 i h.2, h.3)

unasked : (is : List Item) (answered : ℕ) (phase : Phase) → phase ≡ phases.Unasked → IsInPhase is answered phase → (is ≡ []) × (answered ≡ 0)
unfolding IsInPhase
unasked is answered phase e h = subst (λ (p : Phase). IsInPhase is answered p) e h

-- ---- endings

pub ended_up : (old new : Going) (e end : Ending) (s : Stand) (body up more_up : List ℕ) → e ≡ end → more_up ≡ up → ClientTurn old.keys old.ivs.boot old.ivs.connection s body (ends s end) → HearsClient old new (Err e) s body up more_up
ended_up old new e end s body up more_up is same turn = record {
  t = ends s end;
  turn = turn;
  turned = record { answered = answer_some (Some end) e (ap Some (sym is)); going = λ n. absurd (some_none end n) };
  gained = [];
  handed = sym (append-nil s.up);
  added = same ∙ sym (append-nil up);
}

pub connect_refused : (old new : Going) (e : Ending) (s : Stand) (body up : List ℕ) → IsGoing old s → old.phase ≡ phases.Unasked → (e ≡ Memory → ⊥) → IsMalformed body RefusedConnect e → HearsClient old new (Err e) s body up up
unfolding RefusedItem
connect_refused old new e s body up g is out_of (inl m) = absurd (out_of m)
connect_refused old new e s body up g is out_of (inr (refusal, end, f)) =
    let none = unasked s.items s.answered old.phase is g.phase in
    ended_up old new e (ClientMalformed refusal) s body up up end refl
    (malformed_frame refusal (subst (λ (l : List Item). RefusedItem (is_first l) body refusal) (sym none.0) f))

pub request_refused : (old new : Going) (e : Ending) (s : Stand) (body up : List ℕ) → IsGoing old s → IsLater old.phase → (e ≡ Memory → ⊥) → IsMalformed body RefusedRequest e → HearsClient old new (Err e) s body up up
unfolding RefusedItem
request_refused old new e s body up g is out_of (inl m) = absurd (out_of m)
request_refused old new e s body up g is out_of (inr (refusal, end, f)) =
    let l = later_on s.items s.answered old.phase is g.phase in
    ended_up old new e (ClientMalformed refusal) s body up up end refl
    (malformed_frame refusal (subst (λ (b : Bool). RefusedItem b body refusal) (sym l.later) f))

pub weight_is : (old : Going) (s : Stand) → IsGoing old s → weight_at s ≡ sum_by weight old.queue
weight_is old s g = weigh (drop (max s.answered 1) s.items) (drop (max s.answered 1) s.sizes) old.queue g.waiting

a_request : (s : Stand) (xid : ℤ) (r : Request) (body : List ℕ) → is_first s.items ≡ false → SpellsRequest xid r body → IsItem (is_first s.items) (items.Requests xid r) body
a_request s xid r body e f = subst (λ (b : Bool). IsItem b (items.Requests xid r) body) (sym e) f

too_heavy : (w v n bytes : ℕ) → w ≡ v → bytes ≡ n → limit < v + (bytes + 64) → w + (n + 64) ≤ limit → ⊥
too_heavy w v n bytes e f g h = omega (arith, e, f, g, h)

light : (w v n bytes : ℕ) → w ≡ v → bytes ≡ n → v + (bytes + 64) ≤ limit → w + (n + 64) ≤ limit
light w v n bytes e f g = omega (arith, e, f, g)

same_weight : (w v n bytes : ℕ) → w ≡ v → bytes ≡ n → v + (bytes + 64) ≡ w + (n + 64)
same_weight w v n bytes e f = omega (arith, e, f)

pub queue_full : (old new : Going) (e : Ending) (s : Stand) (xid : ℤ) (r : Request) (bytes : ℕ) (body up : List ℕ) → IsGoing old s → IsLater old.phase → SpellsRequest xid r body → bytes ≡ length body
    → e ≡ QueueFull (sum_by weight old.queue + weight_of bytes) → limit < sum_by weight old.queue + weight_of bytes → HearsClient old new (Err e) s body up up
unfolding HasRoom
queue_full old new e s xid r bytes body up g is f size end heavy =
    let l = later_on s.items s.answered old.phase is g.phase in
    let w = weight_is old s g in
    ended_up old new e (QueueFull (weight_at s + weight_of (length body))) s body up up (end ∙ ap QueueFull (same_weight (weight_at s) (sum_by weight old.queue) (length body) bytes w size)) refl
    (full_queue (items.Requests xid r) (a_request s xid r body l.later f) (too_heavy (weight_at s) (sum_by weight old.queue) (length body) bytes w size heavy))

has_room : (old : Going) (s : Stand) (xid : ℤ) (r : Request) (bytes : ℕ) (body : List ℕ) → IsGoing old s → bytes ≡ length body → sum_by weight old.queue + weight_of bytes ≤ limit → HasRoom s (items.Requests xid r) (length body)
unfolding HasRoom
has_room old s xid r bytes body g size room = light (weight_at s) (sum_by weight old.queue) (length body) bytes (weight_is old s g) size room

along : (a b n : ℕ) → a ≡ b → 2 ^ 32 < a + n → 2 ^ 32 < b + n
along a b n e h = omega (arith, e, h)

pub not_handed : (old new : Going) (e : Ending) (s : Stand) (xid : ℤ) (r : Request) (bytes : ℕ) (body up more_up : List ℕ) → IsGoing old s → IsLater old.phase → SpellsRequest xid r body → bytes ≡ length body
    → sum_by weight old.queue + weight_of bytes ≤ limit → (e ≡ Memory → ⊥) → CannotHandUp old r e → more_up ≡ up → HearsClient old new (Err e) s body up more_up
unfolding PayloadsIn
not_handed old new e s xid r bytes body up more_up g is f size room out_of (inl m) same = absurd (out_of m)
not_handed old new e s xid r bytes body up more_up g is f size room out_of (inr (end, (n, paid, beyond))) same =
    let l = later_on s.items s.answered old.phase is g.phase in
    ended_up old new e IvSpent s body up more_up end same
    (spent_ivs (items.Requests xid r) n (a_request s xid r body l.later f) (has_room old s xid r bytes body g size room) paid (along old.ivs.count s.sealed n g.sealed beyond))

-- ---- what goes up

more_sized : (sizes : List ℕ) (is : List Item) (size : ℕ) (i : Item) → length sizes ≡ length is → length (sizes ++ size ∷ []) ≡ length (is ++ i ∷ [])
more_sized sizes is size i e = let p = length-append sizes (size ∷ []) in let q = length-append is (i ∷ []) in omega (arith, e, p, q)

more_within : (a : ℕ) (is : List Item) (i : Item) → a ≤ length is → a ≤ length (is ++ i ∷ [])
more_within a is i h = let q = length-append is (i ∷ []) in omega (arith, h, q)

source_is : (k : EntryKeys) (i : Ivs) (sealed : ℕ) → IsForGreatest k.payloads i → i.count ≡ sealed → i ≡ source_at k i.boot i.connection sealed
source_is k i sealed g e =
    let f : i.epoch ≡ greatest_epoch k = omega (arith, g) in
    (λ j. record { epoch = f j; boot = i.boot; connection = i.connection; count = e j })

sealed_more : (a b n : ℕ) → a ≡ b → a + n ≤ 2 ^ 32 → b + n ≤ 2 ^ 32
sealed_more a b n e h = omega (arith, e, h)

count_more : (a b n : ℕ) → a ≡ b → a + n ≡ b + n
count_more a b n e = omega (arith, e)

pub request_handed : (old new : Going) (s : Stand) (xid : ℤ) (r : Request) (bytes : ℕ) (body up more_up : List ℕ) → IsGoing old s → s.ending ≡ None → IsLater old.phase → SpellsRequest xid r body → length body ≤ client_limit → bytes ≡ length body
    → sum_by weight old.queue + weight_of bytes ≤ limit → HandsUp old new xid r bytes up more_up → HearsClient old new (Ok record {}) s body up more_up
unfolding PayloadsIn VeilsItem
request_handed old new s xid r bytes body up more_up g none is f short size room h =
    let l = later_on s.items s.answered old.phase is g.phase in
    let i = items.Requests xid r in
    let frame_is = h.added.is in
    let out = frame_is.body in
    let source = source_is old.keys old.ivs s.sealed h.greatest g.sealed in
    let t = record s { items = s.items ++ i ∷ []; sizes = s.sizes ++ length body ∷ []; sealed = s.sealed + h.count; up = s.up ++ out ∷ [] } in
    let waits : IsWaiting i (length body) h.pending = record {
      request = r;
      is = ap (λ (z : ℤ). items.Requests z r) (sym h.xid_is);
      bytes = h.bytes_are ∙ size;
      asks = h.asked;
      short = short_when_asked.short xid r h.pending.asked body (within_limit body short) f h.asked;
    } in
    record {
      t = t;
      turn = handed_up i (items.Requests xid h.veiled) h.count out (a_request s xid r body l.later f) (has_room old s xid r bytes body g size room) h.payloads (sealed_more old.ivs.count s.sealed h.count g.sealed h.left)
          (refl, subst (λ (x : Ivs). Veil old.keys (ivs_from x h.count) r h.veiled) source h.veils) (a_request s xid h.veiled out l.later frame_is.spelled);
      turned = record {
        answered = answer_none s.ending none;
        going = λ _. subst (λ (x : Going). IsGoing x t) (sym h.new_is) record {
          phase = phase_more s.items s.answered old.phase i is g.phase;
          sized = more_sized s.sizes s.items (length body) i g.sized;
          within = more_within s.answered s.items i g.within;
          waiting = waits_more old s i (length body) h.pending g l.one waits;
          sealed = count_more old.ivs.count s.sealed h.count g.sealed;
          replies = g.replies;
        };
      };
      gained = out ∷ [];
      handed = refl;
      added = h.added.added ∙ ap (λ (x : List ℕ). up ++ x) (frame_is.framed ∙ sym (append-nil (frame out)));
    }

pub connect_handed : (old new : Going) (s : Stand) (asked : ConnectRequest) (older : Bool) (body up more_up : List ℕ) → IsGoing old s → s.ending ≡ None → old.phase ≡ phases.Unasked → SpellsConnect asked body → is_none asked.read_only ≡ older
    → old.ivs.count ≤ 2 ^ 32 → new ≡ record old { phase = phases.Asked older } → more_up ≡ up ++ frame body → HearsClient old new (Ok record {}) s body up more_up
unfolding PayloadsIn VeilsItem HasRoom IsInPhase
connect_handed old new s asked older body up more_up g none is f form left new_is added =
    let first = unasked s.items s.answered old.phase is g.phase in
    let i = items.Asks asked in
    let spelled : IsItem (is_first s.items) i body = subst (λ (l : List Item). IsItem (is_first l) i body) (sym first.0) f in
    let t = record s { items = s.items ++ i ∷ []; sizes = s.sizes ++ length body ∷ []; sealed = s.sealed + 0; up = s.up ++ body ∷ [] } in
    record {
      t = t;
      turn = handed_up i i 0 body spelled tt refl (omega (arith, left, g.sealed)) refl spelled;
      turned = record {
        answered = answer_none s.ending none;
        going = λ _. subst (λ (x : Going). IsGoing x t) (sym new_is) record {
          phase = (record { asked = asked; more = []; first = ap (λ (l : List Item). l ++ i ∷ []) first.0; form = form }, first.1);
          sized = more_sized s.sizes s.items (length body) i g.sized;
          within = more_within s.answered s.items i g.within;
          waiting = waits_first s.answered s.items s.sizes i (length body) old.queue first.1 first.0 g.sized g.waiting;
          sealed = g.sealed ∙ omega arith;
          replies = g.replies;
        };
      };
      gained = body ∷ [];
      handed = refl;
      added = added ∙ ap (λ (x : List ℕ). up ++ x) (sym (append-nil (frame body)));
    }

pub request_answered : (old new : Going) (answer : Result (Unit {0}) Ending) (s : Stand) (xid : ℤ) (r : Request) (bytes : ℕ) (body up more_up : List ℕ) → IsGoing old s → s.ending ≡ None → IsLater old.phase → SpellsRequest xid r body → length body ≤ client_limit → bytes ≡ length body
    → sum_by weight old.queue + weight_of bytes ≤ limit → (answer ≡ Err Memory → ⊥) → OnOk answer (HandsUp old new xid r bytes up more_up) → IfErr answer (λ e. CannotHandUp old r e × (more_up ≡ up)) → HearsClient old new answer s body up more_up
request_answered old new (Ok u) s xid r bytes body up more_up g none is f short size room out_of ok err = request_handed old new s xid r bytes body up more_up g none is f short size room ok
request_answered old new (Err e) s xid r bytes body up more_up g none is f short size room out_of ok err = not_handed old new e s xid r bytes body up more_up g is f size room (λ m. out_of (ap Err m)) err.0 err.1
