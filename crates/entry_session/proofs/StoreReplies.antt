-- The reply to the request that has waited longest.
use Rattle.std.proofs.Common.{◌≡◌, ◌≢◌, ◌↔◌, ℕ, zero, suc, ℤ, negsuc, ◌+◌, ◌-◌, ◌≤◌, ◌<◌, ◌^◌, min, max, List, [], ◌∷◌, ◌++◌, Option, Some, None, IfSome, IsNone, slice_get, Result, Ok, Err, IfErr, IsErrAnd, FitsSigned, w32, of_z, to_z, length, drop, refl, sym, ap, subst, ◌∙◌, arith}
use Rattle.std.proofs.lemmas.Int.{to_z-of_z}
use Rattle.std.specs.Borrow.{Bor}
use Rattle.std.specs.Option.{option_copied}
use Rattle.std.proofs.lemmas.List.Elements.{All-head, All-tail}
use Rattle.jute_core.specs.Frames.{FitsFrame}
use Rattle.payload_seal.specs.declared.keys.EntryKeys.{EntryKeys}
use Rattle.request_queue.specs.Short.{HasShortPath}
use Rattle.request_queue.specs.declared.asked.Asked.{Asked}
use Rattle.request_queue.specs.declared.asked.Asked.TheVariants as asks
use Rattle.request_queue.specs.declared.pending.Pending.{Pending}
use Rattle.zk_messages.proofs.ReadIsShort.{reply_short as reply_read_short}
use Rattle.zk_messages.specs.Replies.{HasShape, SpellsReply, RefusedReply, IsReply, BeginsWithInt}
use Rattle.zk_messages.specs.Sending.{IsShortOutcome}
use Rattle.zk_messages.specs.declared.reply.Reply.{Reply}
use Rattle.zk_messages.specs.declared.reply.Shape.{Shape}
use Rattle.zk_messages.specs.declared.request.Item.{Item}
use Rattle.reply_rewrite.proofs.NoLonger.{no_longer}
use Rattle.reply_rewrite.proofs.PassedOn.{passed_on}
use Rattle.reply_rewrite.proofs.WhenRead.{short_when_read}
use Rattle.reply_rewrite.specs.Shapes.{shape_for}
use Rattle.reply_rewrite.specs.Short.{HasShortParts}
use Rattle.reply_rewrite.specs.declared.finding.Cause.{Cause}
use Rattle.reply_rewrite.specs.declared.finding.Finding.{Finding}
use Rattle.entry_session.specs.Stands.{Stand, ends}
use Rattle.entry_session.specs.StoreTurns.{item_at, ending_by, found, ReplyTurn, LaterTurn, none_waits, a_reply, other_xid, malformed_reply, handed_down}
use Rattle.entry_session.specs.Runs.{store_limit}
use Rattle.entry_session.specs.Kept.{Going, IsInPhase, IsWaiting, AreWaiting, AreShort, oldest}
use Rattle.entry_session.specs.Calls.{answer_of}
use Rattle.entry_session.specs.StoreSteps.{IsRefusedBy, EndsReply, IsAnswer, AddsFrame, listed, HearsIn}
use Rattle.entry_session.specs.declared.ending.Ending.{Ending}
use Rattle.entry_session.specs.declared.ending.Ending.TheVariants.{StoreMalformed, WrongXid, NothingOpen, Memory}
use Rattle.entry_session.specs.declared.progress.Phase.TheVariants.{Connected}
use Rattle.entry_session.specs.declared.store.Answer.{Answer}
use Rattle.entry_session.proofs.Reading.{one_int, reply_begins}
use Rattle.entry_session.proofs.Turns.{some_none}
use Rattle.entry_session.proofs.StoreSide.{in_connected, connected_from, later_turn, later_ends, one_frame}

-- ---- what waits

none_there : (is : List Item) (n : ℕ) → drop n is ≡ [] → item_at is n ≡ None
unfolding item_at
none_there [] n e = refl
none_there (i ∷ is) zero e = absurd (omega (arith, ap length e))
none_there (i ∷ is) (suc n) e = none_there is n e

one_there : (is : List Item) (n : ℕ) (i : Item) (rest : List Item) → drop n is ≡ i ∷ rest → item_at is n ≡ Some i
unfolding item_at
one_there [] zero i rest e = absurd (omega (arith, ap length e))
one_there [] (suc n) i rest e = absurd (omega (arith, ap length e))
one_there (x ∷ is) zero i rest e = first x i is rest e
  where
    first : (x i : Item) (is rest : List Item) → x ∷ is ≡ i ∷ rest → Some x ≡ Some i
    first x i is rest e = cc
one_there (x ∷ is) (suc n) i rest e = one_there is n i rest e

within_there : {A : Type 0} (xs : List A) (n : ℕ) (x : A) (rest : List A) → drop n xs ≡ x ∷ rest → n + 1 ≤ length xs
within_there {A} [] zero x rest e = absurd (omega (arith, ap length e))
within_there {A} [] (suc n) x rest e = absurd (omega (arith, ap length e))
within_there {A} (y ∷ xs) zero x rest e = omega arith
within_there {A} (y ∷ xs) (suc n) x rest e = omega (arith, within_there xs n x rest e)

same_rest : {A : Type 0} (x y : A) (xs ys : List A) → x ∷ xs ≡ y ∷ ys → xs ≡ ys
same_rest {A} x y xs ys e = cc

rest_there : {A : Type 0} (xs : List A) (n : ℕ) (x : A) (rest : List A) → drop n xs ≡ x ∷ rest → drop (suc n) xs ≡ rest
rest_there {A} [] zero x rest e = absurd (omega (arith, ap length e))
rest_there {A} [] (suc n) x rest e = absurd (omega (arith, ap length e))
rest_there {A} (y ∷ xs) zero x rest e = same_rest y x xs rest e
rest_there {A} (y ∷ xs) (suc n) x rest e = rest_there xs n x rest e

none_wait : (is : List Item) (sizes : List ℕ) → AreWaiting is sizes [] → is ≡ []
unfolding AreWaiting
none_wait [] [] h = refl
none_wait [] (size ∷ sizes) h = absurd h
none_wait (i ∷ is) [] h = absurd h
none_wait (i ∷ is) (size ∷ sizes) h = absurd h

record IsNext (is : List Item) (sizes : List ℕ) (p : Pending) (ps : List Pending) : Type 0 where
  item : Item
  more : List Item
  size : ℕ
  more_sizes : List ℕ
  items_are : is ≡ item ∷ more
  sizes_are : sizes ≡ size ∷ more_sizes
  waits : IsWaiting item size p
  others : AreWaiting more more_sizes ps

one_waits : (is : List Item) (sizes : List ℕ) (p : Pending) (ps : List Pending) → AreWaiting is sizes (p ∷ ps) → IsNext is sizes p ps
unfolding AreWaiting
one_waits [] [] p ps h = absurd h
one_waits [] (size ∷ sizes) p ps h = absurd h
one_waits (i ∷ is) [] p ps h = absurd h
one_waits (i ∷ is) (size ∷ sizes) p ps h = record { item = i; more = is; size = size; more_sizes = sizes; items_are = refl; sizes_are = refl; waits = h.0; others = h.1 }

-- from the connect response on the oldest request is the one at the count of the answers
waiting_at : (s : Stand) (queue : List Pending) (m : ℕ) → s.answered ≡ suc m → AreWaiting (drop (oldest s) s.items) (drop (oldest s) s.sizes) queue → AreWaiting (drop s.answered s.items) (drop s.answered s.sizes) queue
waiting_at s queue m e h =
    let same : max s.answered 1 ≡ s.answered = omega (arith, e) in
    subst (λ (n : ℕ). AreWaiting (drop n s.items) (drop n s.sizes) queue) same h

-- ---- frames that are no reply to it

same_nothing : (s : Stand) (z xid : ℤ) → z ≡ xid → ends s (NothingOpen z) ≡ ends s (NothingOpen xid)
same_nothing s z xid e = ap (λ (x : ℤ). ends s (NothingOpen x)) e

stops : (k : EntryKeys) (c : ℕ) (s : Stand) (body : List ℕ) (xid : ℤ) (queue : List Pending) (e : Ending) → (e ≡ Memory → ⊥) → AreWaiting (drop s.answered s.items) (drop s.answered s.sizes) queue → BeginsWithInt body xid → xid ≢ negsuc 0
    → EndsReply queue xid body e → LaterTurn k c s body (ends s e)
unfolding EndsReply
stops k c s body xid [] (NothingOpen z) f w b n h =
    none_waits xid b n (none_there s.items s.answered (none_wait (drop s.answered s.items) (drop s.answered s.sizes) w)) (same_nothing s z xid h)
stops k c s body xid [] Memory f w b n h = absurd (f refl)
stops k c s body xid [] e f w b n h = absurd h
stops k c s body xid (p ∷ ps) (WrongXid expected got) f w b n h =
    let next = one_waits (drop s.answered s.items) (drop s.answered s.sizes) p ps w in
    let item = one_there s.items s.answered next.item next.more next.items_are ∙ ap Some next.waits.is in
    a_reply xid p.xid next.waits.request p.asked b n item next.waits.asks (turned expected got h.0 h.1 (other_xid xid b h.2))
  where
    turned : (y z : ℤ) → y ≡ p.xid → z ≡ xid → ReplyTurn k c p.xid p.asked s body (ends s (WrongXid p.xid xid)) → ReplyTurn k c p.xid p.asked s body (ends s (WrongXid y z))
    turned y z i j t = subst (λ (u : ℤ). ReplyTurn k c p.xid p.asked s body (ends s (WrongXid u z))) (sym i) (subst (λ (u : ℤ). ReplyTurn k c p.xid p.asked s body (ends s (WrongXid p.xid u))) (sym j) t)
stops k c s body xid (p ∷ ps) (StoreMalformed refusal) f w b n h =
    let next = one_waits (drop s.answered s.items) (drop s.answered s.sizes) p ps w in
    let item = one_there s.items s.answered next.item next.more next.items_are ∙ ap Some next.waits.is in
    a_reply xid p.xid next.waits.request p.asked b n item next.waits.asks (malformed_reply refusal (subst (BeginsWithInt body) h.0 b) h.1)
stops k c s body xid (p ∷ ps) Memory f w b n h = absurd (f refl)
stops k c s body xid (p ∷ ps) e f w b n h = absurd h

pub reply_ends : (old : Going) (xid : ℤ) (body down : List ℕ) (fs : List Finding) (e : Ending) → BeginsWithInt body xid → xid ≢ negsuc 0 → EndsReply old.queue xid body e → HearsIn Connected old old (Err e) body down down fs fs
reply_ends old xid body down fs e b n h =
    later_ends old body down fs e
    (λ s f g p. let at = in_connected s.items s.answered old.phase p g.phase in stops old.keys old.ivs.connection s body xid old.queue e f (waiting_at s old.queue at.1 at.3 g.waiting) b n h)

-- the oldest request, as a queue shows it
pub front_is : (r : Option (Bor Pending)) (b : Bor Pending) (queue : List Pending) → r ≡ Some b → option_copied r ≡ slice_get queue 0 → (left : List Pending) × (queue ≡ b.now ∷ left)
front_is r b [] i h =
    let same : Some b.now ≡ None = ap option_copied (sym i) ∙ h in
    absurd (some_none b.now same)
front_is r b (q ∷ qs) i h =
    let same : Some b.now ≡ Some q = ap option_copied (sym i) ∙ h in
    let first : b.now ≡ q = cc in
    (qs, ap (λ (x : Pending). x ∷ qs) (sym first))

pub nothing_waits : (r : Option (Bor Pending)) (queue : List Pending) (z xid : ℤ) (body : List ℕ) → r ≡ None → IsNone r ↔ (queue ≡ []) → z ≡ xid → EndsReply queue xid body (NothingOpen z)
unfolding EndsReply
nothing_waits r queue z xid body i h e =
    let empty : queue ≡ [] = h.0 (subst IsNone (sym i) refl) in
    subst (λ (q : List Pending). EndsReply q xid body (NothingOpen z)) (sym empty) e

pub other_waits : (queue left : List Pending) (p : Pending) (y z xid : ℤ) (body : List ℕ) → queue ≡ p ∷ left → y ≡ p.xid → z ≡ xid → xid ≢ p.xid → EndsReply queue xid body (WrongXid y z)
unfolding EndsReply
other_waits queue left p y z xid body q e f n = subst (λ (l : List Pending). EndsReply l xid body (WrongXid y z)) (sym q) (e, f, n)

pub reply_refused : (queue left : List Pending) (p : Pending) (xid : ℤ) (body : List ℕ) (e : Ending) → queue ≡ p ∷ left → xid ≡ p.xid → IsRefusedBy (RefusedReply (shape_for p.asked) body) e → EndsReply queue xid body e
unfolding EndsReply
reply_refused queue left p xid body (StoreMalformed refusal) q e h = subst (λ (l : List Pending). EndsReply l xid body (StoreMalformed refusal)) (sym q) (e, h)
reply_refused queue left p xid body Memory q e h = subst (λ (l : List Pending). EndsReply l xid body Memory) (sym q) tt
reply_refused queue left p xid body e q f h = absurd h

pub memory_ends : (queue : List Pending) (xid : ℤ) (body : List ℕ) → EndsReply queue xid body Memory
unfolding EndsReply
memory_ends [] xid body = tt
memory_ends (p ∷ ps) xid body = tt

pub front_short : (queue left : List Pending) (p : Pending) → queue ≡ p ∷ left → AreShort queue → HasShortPath p.asked
front_short queue left p e h = All-head (λ q. HasShortPath q.asked) p left (subst AreShort e h)

pub rest_short : (queue left : List Pending) (p : Pending) → queue ≡ p ∷ left → AreShort queue → AreShort left
rest_short queue left p e h = All-tail (λ q. HasShortPath q.asked) p left (subst AreShort e h)

pub same_int : (x y : ℤ) → FitsSigned w32 x → FitsSigned w32 y → of_z w32 x ≡ of_z w32 y → x ≡ y
same_int x y f g e = sym (to_z-of_z w32 x f) ∙ ap (to_z w32) e ∙ to_z-of_z w32 y g

-- what a `?` answers with
pub if_err : {A : Type 0} (r : Result A Ending) (e : Ending) (P : Ending → Type 0) → IsErrAnd r (λ y. y ≡ e) → P e → IfErr r P
if_err {A} (Ok x) e P i h = tt
if_err {A} (Err y) e P i h = subst P (sym i) h

-- ---- the reply

pub found_none : (c n : ℕ) (xid : ℤ) (cause : Option Cause) → cause ≡ None → [] ≡ found c n xid cause
unfolding found
found_none c n xid cause e = ap (found c n xid) (sym e)

pub found_one : (c d n : ℕ) (x y : ℤ) (cause : Option Cause) (k : Cause) → cause ≡ Some k → d ≡ c → n < 2 ^ 64 → x ≡ y → record { connection = d; reply = n; xid = x; cause = k } ∷ [] ≡ found c n y cause
unfolding found
found_one c d n x y cause k e f l g =
    let count : n ≡ min n (2 ^ 64 - 1) = omega (arith, l) in
    (λ i. record { connection = f i; reply = count i; xid = g i; cause = k } ∷ []) ∙ ap (found c n y) (sym e)

same_found : (c m n : ℕ) (x y : ℤ) (cause : Option Cause) → min m (2 ^ 64 - 1) ≡ min n (2 ^ 64 - 1) → x ≡ y → found c m x cause ≡ found c n y cause
unfolding found
same_found c m n x y None e f = refl
same_found c m n x y (Some cause) e f = (λ i. record { connection = c; reply = e i; xid = f i; cause = cause } ∷ [])

-- what is told, and where that leaves the session
pub reply_told : (old : Going) (left : List Pending) (count : ℕ) (xid : ℤ) (body down more : List ℕ) (fs more_fs : List Finding) (a : Answer) (answer : Result (Unit {0}) Ending) → BeginsWithInt body xid → xid ≢ negsuc 0
    → (h : IsAnswer old.keys old.queue xid body a) → left ≡ h.left → count ≡ min (old.replies + 1) (2 ^ 64 - 1) → AddsFrame down more (IsReply a.told) → more_fs ≡ fs ++ found old.ivs.connection old.replies xid a.cause → answer ≡ answer_of a.ending
    → HearsIn Connected old (record old { queue = left; replies = count }) answer body down more fs more_fs
reply_told old left count xid body down more fs more_fs a answer b n h is counted adds lists ending = λ f s g none p.
    let at = in_connected s.items s.answered old.phase p g.phase in
    let waiting = subst (λ (q : List Pending). AreWaiting (drop s.answered s.items) (drop s.answered s.sizes) q) h.waited (waiting_at s old.queue at.1 at.3 g.waiting) in
    let next = one_waits (drop s.answered s.items) (drop s.answered s.sizes) h.pending h.left waiting in
    let item = one_there s.items s.answered next.item next.more next.items_are ∙ ap Some next.waits.is in
    let same_xid = one_int body h.stored.xid xid (reply_begins (shape_for h.pending.asked) h.stored body h.spelled) b ∙ h.xid_is in
    let told = adds.is (shape_for h.pending.asked) (passed_on.shaped old.keys h.pending.asked h.stored a.told a.cause h.admits) in
    let replies : min old.replies (2 ^ 64 - 1) ≡ min (s.answered - 1) (2 ^ 64 - 1) = omega (arith, g.replies) in
    let later = ap suc at.3 in
    record {
      t = record s { answered = s.answered + 1; down = s.down ++ adds.body ∷ []; findings = s.findings ++ found old.ivs.connection (s.answered - 1) h.pending.xid a.cause; ending = ending_by h.pending.asked };
      turn = later_turn old.keys old.ivs.connection s body _ s.items s.answered at.2.asked at.2.more at.1 at.2.first at.3
          (a_reply xid h.pending.xid next.waits.request h.pending.asked b n item next.waits.asks (handed_down h.stored a.told a.cause adds.body same_xid h.spelled h.admits told));
      turned = record {
        answered = ending ∙ ap answer_of h.ending_is;
        going = λ e. record {
          phase = subst (λ q. IsInPhase s.items (s.answered + 1) q) (sym p) (connected_from s.items (s.answered + 1) at.0 (suc at.1) at.2 (omega (arith, at.3)));
          sized = g.sized;
          within = within_there s.items s.answered next.item next.more next.items_are;
          waiting = waiting_on s left at.1 at.3 h.left next.item next.more next.size next.more_sizes next.items_are next.sizes_are is next.others;
          sealed = g.sealed;
          replies = omega (arith, counted, g.replies, at.3);
        };
      };
      gained = adds.body ∷ [];
      handed = refl;
      added = one_frame down more adds.body adds.added;
      found = found old.ivs.connection (s.answered - 1) h.pending.xid a.cause;
      findings_are = refl;
      findings_added = lists ∙ ap (λ (l : List Finding). fs ++ l) (same_found old.ivs.connection old.replies (s.answered - 1) xid h.pending.xid a.cause replies h.xid_is);
    }
  where
    waiting_on : (s : Stand) (left : List Pending) (m : ℕ) → s.answered ≡ suc m → (ps : List Pending) (i : Item) (is : List Item) (size : ℕ) (sizes : List ℕ) → drop s.answered s.items ≡ i ∷ is → drop s.answered s.sizes ≡ size ∷ sizes → left ≡ ps → AreWaiting is sizes ps
        → AreWaiting (drop (max (s.answered + 1) 1) s.items) (drop (max (s.answered + 1) 1) s.sizes) left
    waiting_on s left m e ps i is size sizes f j l w =
        let same : suc s.answered ≡ max (s.answered + 1) 1 = omega arith in
        subst (λ (n : ℕ). AreWaiting (drop n s.items) (drop n s.sizes) left) same
        (subst (λ (q : List Pending). AreWaiting (drop (suc s.answered) s.items) (drop (suc s.answered) s.sizes) q) (sym l)
        (subst (λ (x : List Item). AreWaiting x (drop (suc s.answered) s.sizes) ps) (sym (rest_there s.items s.answered i is f))
        (subst (λ (x : List ℕ). AreWaiting is x ps) (sym (rest_there s.sizes s.answered size sizes j)) w)))

-- the same answer, by what a call is told of it
pub answer_along : (g now : Going) (z xid : ℤ) (body : List ℕ) (a : Answer) → g ≡ now → z ≡ xid → IsAnswer now.keys now.queue z body a → IsAnswer g.keys g.queue xid body a
answer_along g now z xid body a e f h = subst (λ (y : ℤ). IsAnswer g.keys g.queue y body a) f (subst (λ (k : Going). IsAnswer k.keys k.queue z body a) (sym e) h)

pub finding_added : (fs more : List Finding) (one : Option Finding) (c d n : ℕ) (z xid : ℤ) (cause : Option Cause) → more ≡ fs ++ listed one → listed one ≡ found d n z cause → c ≡ d → z ≡ xid → more ≡ fs ++ found c n xid cause
finding_added fs more one c d n z xid cause e f g i = e ∙ ap (λ (l : List Finding). fs ++ l) (f ∙ ap (λ (m : ℕ). found m n z cause) (sym g) ∙ ap (λ (y : ℤ). found c n y cause) i)

-- what is left of a queue whose oldest request was taken out
pub popped : (r : Option Pending) (queue new left : List Pending) (p : Pending) → queue ≡ p ∷ left → IfSome r (λ q. queue ≡ q ∷ new) → IsNone r ↔ (queue ≡ []) → new ≡ left
popped None queue new left p e h i = absurd (omega (arith, ap length e, ap length (i.0 refl)))
popped (Some q) queue new left p e h i = same_rest q p new left (sym h ∙ e)

pub stops_with : (o : Option Ending) (e : Ending) → o ≡ Some e → Err e ≡ answer_of o
unfolding answer_of
stops_with o e i = ap answer_of (sym i)

no_memory : (asked : Asked) → answer_of (ending_by asked) ≡ Err Memory → ⊥
unfolding answer_of ending_by
no_memory asks.Close h = cc
no_memory asked h = cc

pub never_wants : (asked : Asked) (o : Option Ending) (answer : Result (Unit {0}) Ending) → o ≡ ending_by asked → answer ≡ answer_of o → answer ≡ Err Memory → ⊥
never_wants asked o answer e i j = no_memory asked (ap answer_of (sym e) ∙ sym i ∙ j)

-- ---- what writing and opening it ask for

pub reply_shaped : (shape : Shape) (r : Reply) (body : List ℕ) → length body ≤ store_limit → SpellsReply shape r body → HasShape shape r.outcome
reply_shaped shape r body l h = (short_when_read shape r body (omega (arith, l)) h).0

pub reply_parts : (shape : Shape) (r : Reply) (body : List ℕ) → length body ≤ store_limit → SpellsReply shape r body → HasShortParts r.outcome
reply_parts shape r body l h = (short_when_read shape r body (omega (arith, l)) h).1

pub answer_short : (k : EntryKeys) (queue : List Pending) (xid : ℤ) (body : List ℕ) (a : Answer) → IsAnswer k queue xid body a → IsShortOutcome a.told.outcome
answer_short k queue xid body a h = passed_on.writable k h.pending.asked h.stored a.told a.cause h.admits h.asked (reply_read_short (shape_for h.pending.asked) h.stored body h.spelled)

pub answer_fits : (k : EntryKeys) (queue : List Pending) (xid : ℤ) (body : List ℕ) (a : Answer) → length body ≤ store_limit → IsAnswer k queue xid body a → (out : List ℕ) → IsReply a.told out → FitsFrame out
answer_fits k queue xid body a l h out is =
    let told = is (shape_for h.pending.asked) (passed_on.shaped k h.pending.asked h.stored a.told a.cause h.admits) in
    omega (arith, l, no_longer k h.pending.asked h.stored a.told a.cause body out h.admits h.spelled told)
