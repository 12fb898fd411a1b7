-- What was heard leads to one stand.
use Rattle.std.proofs.Common.{◌≡◌, ℕ, zero, suc, ℤ, negsuc, ◌+◌, ◌-◌, List, [], ◌∷◌, ◌++◌, Option, Some, None, refl, sym, ap, subst, ◌∙◌}
use Rattle.path_seal.specs.Sealed.{AreKeys}
use Rattle.payload_seal.specs.declared.keys.EntryKeys.{EntryKeys}
use Rattle.zk_records.specs.declared.connect.ConnectRequest.{ConnectRequest}
use Rattle.zk_messages.specs.Replies.{SpellsReply, SpellsEvent, BeginsWithInt}
use Rattle.zk_messages.specs.declared.reply.Event.{Event}
use Rattle.zk_messages.specs.declared.reply.Reply.{Reply}
use Rattle.zk_messages.specs.declared.request.Item.{Item}
use Rattle.zk_messages.specs.declared.request.Item.TheVariants as items
use Rattle.zk_messages.specs.declared.request.Request.{Request}
use Rattle.zk_messages.proofs.OneEvent.{one_event, one_event_spelling, event_or_refused}
use Rattle.zk_messages.proofs.OnePlace.{one_reply_refusal, one_event_refusal}
use Rattle.zk_messages.proofs.OneReply.{one_reply, one_reply_spelling, reply_or_refused}
use Rattle.request_queue.specs.declared.asked.Asked.{Asked}
use Rattle.request_rewrite.specs.Asks.{Asks}
use Rattle.reply_rewrite.specs.Admits.{Admits}
use Rattle.reply_rewrite.specs.Shapes.{shape_for}
use Rattle.reply_rewrite.specs.declared.finding.Cause.{Cause}
use Rattle.reply_rewrite.proofs.Once.{at_most_one}
use Rattle.watch_rewrite.specs.Events.{IsPlainEvent, IsFlawOf}
use Rattle.watch_rewrite.proofs.Judged.{judged_once}
use Rattle.entry_session.specs.Heard.{Heard, from_client, from_store, bad_client, bad_store, given}
use Rattle.entry_session.specs.Laws.{LeadsToOne}
use Rattle.entry_session.specs.Runs.{TurnOf, Ran}
use Rattle.entry_session.specs.Stands.{Stand, ends}
use Rattle.entry_session.specs.StoreTurns.{item_at, ending_by, found, UnaskedTurn, ConnectTurn, EventTurn, ReplyTurn, LaterTurn, StoreTurn}
use Rattle.entry_session.specs.StoreTurns.{cut_short, nothing_open, connected, other_form, malformed_event, bad_event, opened_event}
use Rattle.entry_session.specs.StoreTurns.{other_xid, malformed_reply, handed_down, no_first_int, an_event, none_waits, a_reply, is_none}
use Rattle.entry_session.specs.declared.ending.Ending.TheVariants.{StoreMalformed, WrongXid, NothingOpen, BadEvent}
use Rattle.entry_session.proofs.OneItem.{same_refusal, one_asked}
use Rattle.entry_session.proofs.OneTurn.{one_client}
use Rattle.entry_session.proofs.Reading.{long_enough, one_int, reply_begins, connected_or_refused, one_connected_refusal}
use Rattle.entry_session.proofs.Turns.{goes, some_none}

one_unasked : (old : Stand) (body : List ℕ) (s t : Stand) → UnaskedTurn old body s → UnaskedTurn old body t → s ≡ t
one_unasked old body s t (cut_short f) (cut_short g) = refl
one_unasked old body s t (cut_short f) (nothing_open z g) = absurd (long_enough body z g f)
one_unasked old body s t (nothing_open z f) (cut_short g) = absurd (long_enough body z f g)
one_unasked old body s t (nothing_open y f) (nothing_open z g) = ap (λ x. ends old (NothingOpen x)) (one_int body y z f g)

one_connect : (asked : ConnectRequest) (old : Stand) (body : List ℕ) (s t : Stand) → ConnectTurn asked old body s → ConnectTurn asked old body t → s ≡ t
one_connect asked old body s t (connected r f g) (connected q h i) = refl
one_connect asked old body s t (connected r f g) (other_form refusal h) = absurd (connected_or_refused r asked.read_only body refusal.place refusal.reason f g h)
one_connect asked old body s t (other_form refusal h) (connected r f g) = absurd (connected_or_refused r asked.read_only body refusal.place refusal.reason f g h)
one_connect asked old body s t (other_form r f) (other_form q g) =
    ap (λ x. ends old (StoreMalformed x)) (same_refusal r q (one_connected_refusal (is_none asked.read_only) body r.place q.place r.reason q.reason f g))

-- ---- events

same_out : (old : Stand) (x y : List ℕ) → x ≡ y → record old { down = old.down ++ x ∷ [] } ≡ record old { down = old.down ++ y ∷ [] }
same_out old x y e = (λ i. record old { down = old.down ++ e i ∷ [] })

one_event_turn : (k : EntryKeys) → AreKeys k.names → (old : Stand) (body : List ℕ) (s t : Stand) → EventTurn k old body s → EventTurn k old body t → s ≡ t
one_event_turn k w old body s t (malformed_event r f) (malformed_event q g) = ap (λ x. ends old (StoreMalformed x)) (same_refusal r q (one_event_refusal body r.place q.place r.reason q.reason f g))
one_event_turn k w old body s t (malformed_event r f) (bad_event e flaw g h) = absurd (event_or_refused body e r.place r.reason g f)
one_event_turn k w old body s t (malformed_event r f) (opened_event e p out g h i) = absurd (event_or_refused body e r.place r.reason g f)
one_event_turn k w old body s t (bad_event e flaw g h) (malformed_event r f) = absurd (event_or_refused body e r.place r.reason g f)
one_event_turn k w old body s t (bad_event e a f g) (bad_event d b h i) =
    ap (λ x. ends old (BadEvent x)) (judged_once.one_flaw k.names d a b (subst (λ (y : Event). IsFlawOf k.names y a) (one_event body e d f h) g) i)
one_event_turn k w old body s t (bad_event e a f g) (opened_event d p out h i j) =
    absurd (judged_once.not_both k.names d p a i (subst (λ (y : Event). IsFlawOf k.names y a) (one_event body e d f h) g))
one_event_turn k w old body s t (opened_event e p out g h i) (malformed_event r f) = absurd (event_or_refused body e r.place r.reason g f)
one_event_turn k w old body s t (opened_event d p out h i j) (bad_event e a f g) =
    absurd (judged_once.not_both k.names d p a i (subst (λ (y : Event). IsFlawOf k.names y a) (one_event body e d f h) g))
one_event_turn k w old body s t (opened_event d p x f g h) (opened_event e q y i j l) =
    let plain = judged_once.one_plain k.names e p q w (subst (λ (v : Event). IsPlainEvent k.names v p) (one_event body d e f i) g) j in
    same_out old x y (one_event_spelling q x y (subst (λ (v : Event). SpellsEvent v x) plain h) l)

-- ---- replies

-- the stand after a reply
abbrev told_with : ℕ → ℤ → Asked → Stand → List ℕ → Option Cause → Stand
told_with c xid asked old out cause = record old { answered = old.answered + 1; down = old.down ++ out ∷ []; findings = old.findings ++ found c (old.answered - 1) xid cause; ending = ending_by asked }

same_told : (c : ℕ) (xid : ℤ) (asked : Asked) (old : Stand) (x y : List ℕ) (a b : Option Cause) → x ≡ y → a ≡ b → told_with c xid asked old x a ≡ told_with c xid asked old y b
same_told c xid asked old x y a b e f = (λ i. told_with c xid asked old (e i) (f i))

begins_at : (asked : Asked) (r : Reply) (body : List ℕ) (xid : ℤ) → r.xid ≡ xid → SpellsReply (shape_for asked) r body → BeginsWithInt body xid
begins_at asked r body xid e h = subst (BeginsWithInt body) e (reply_begins (shape_for asked) r body h)

one_reply_turn : (k : EntryKeys) → AreKeys k.names → (c : ℕ) (xid : ℤ) (asked : Asked) (old : Stand) (body : List ℕ) (s t : Stand) → ReplyTurn k c xid asked old body s → ReplyTurn k c xid asked old body t → s ≡ t
one_reply_turn k w c xid asked old body s t (other_xid y f g) (other_xid z h i) = ap (λ x. ends old (WrongXid xid x)) (one_int body y z f h)
one_reply_turn k w c xid asked old body s t (other_xid y f g) (malformed_reply q h i) = absurd (g (one_int body y xid f h))
one_reply_turn k w c xid asked old body s t (other_xid y f g) (handed_down a b d out h i j l) = absurd (g (one_int body y xid f (begins_at asked a body xid h i)))
one_reply_turn k w c xid asked old body s t (malformed_reply r f g) (other_xid y h i) = absurd (i (one_int body y xid h f))
one_reply_turn k w c xid asked old body s t (malformed_reply r f g) (malformed_reply q h i) =
    ap (λ x. ends old (StoreMalformed x)) (same_refusal r q (one_reply_refusal (shape_for asked) body r.place q.place r.reason q.reason g i))
one_reply_turn k w c xid asked old body s t (malformed_reply r f g) (handed_down a b d out h i j l) = absurd (reply_or_refused (shape_for asked) body a r.place r.reason i g)
one_reply_turn k w c xid asked old body s t (handed_down a b d out h i j l) (other_xid y f g) = absurd (g (one_int body y xid f (begins_at asked a body xid h i)))
one_reply_turn k w c xid asked old body s t (handed_down a b d out h i j l) (malformed_reply r f g) = absurd (reply_or_refused (shape_for asked) body a r.place r.reason i g)
one_reply_turn k w c xid asked old body s t (handed_down a told d x f g h i) (handed_down b other e y j l m n) =
    let stored = one_reply (shape_for asked) body a b g l in
    let both = at_most_one k asked b told other d e w (subst (λ (r : Reply). Admits k asked r told d) stored h) m in
    same_told c xid asked old x y d e (one_reply_spelling (shape_for asked) other x y (subst (λ (r : Reply). SpellsReply (shape_for asked) r x) both.0 i) n) both.1

-- ---- after the connect request was answered

item_here : (is : List Item) (n : ℕ) (i : Item) → item_at is n ≡ None → item_at is n ≡ Some i → ⊥
item_here is n i e f = some_none i (sym f ∙ e)

same_xid : (y z : ℤ) (a b : Request) → Some (items.Requests y a) ≡ Some (items.Requests z b) → y ≡ z
same_xid y z a b e = cc

same_request : (y z : ℤ) (a b : Request) → Some (items.Requests y a) ≡ Some (items.Requests z b) → a ≡ b
same_request y z a b e = cc

module _ (k : EntryKeys) (w : AreKeys k.names) (c : ℕ) (old : Stand) (body : List ℕ) where
  both_replies : (y z : ℤ) (a b : Request) (p q : Asked) (s t : Stand) → item_at old.items old.answered ≡ Some (items.Requests y a) → item_at old.items old.answered ≡ Some (items.Requests z b) → Asks a p → Asks b q
      → ReplyTurn k c y p old body s → ReplyTurn k c z q old body t → s ≡ t
  both_replies y z a b p q s t e f h j x v =
      let here = sym e ∙ f in
      let asked = one_asked b p q (subst (λ (r : Request). Asks r p) (same_request y z a b here) h) j in
      one_reply_turn k w c z q old body s t (subst (λ (l : Asked). ReplyTurn k c z l old body s) asked (subst (λ (l : ℤ). ReplyTurn k c l p old body s) (same_xid y z a b here) x)) v

  one_later : (s t : Stand) → LaterTurn k c old body s → LaterTurn k c old body t → s ≡ t
  one_later s t (no_first_int f e) (no_first_int g h) = e ∙ sym h
  one_later s t (no_first_int f e) (an_event g h) = absurd (long_enough body (negsuc 0) g f)
  one_later s t (no_first_int f e) (none_waits z g h i j) = absurd (long_enough body z g f)
  one_later s t (no_first_int f e) (a_reply z x r a g h i j l) = absurd (long_enough body z g f)
  one_later s t (an_event g h) (no_first_int f e) = absurd (long_enough body (negsuc 0) g f)
  one_later s t (an_event f g) (an_event h i) = one_event_turn k w old body s t g i
  one_later s t (an_event f g) (none_waits z h i j l) = absurd (i (one_int body z (negsuc 0) h f))
  one_later s t (an_event f g) (a_reply z x r a h i j l m) = absurd (i (one_int body z (negsuc 0) h f))
  one_later s t (none_waits z g h i j) (no_first_int f e) = absurd (long_enough body z g f)
  one_later s t (none_waits z g h i j) (an_event f e) = absurd (h (one_int body z (negsuc 0) g f))
  one_later s t (none_waits y f g h i) (none_waits z j l m n) = i ∙ ap (λ x. ends old (NothingOpen x)) (one_int body y z f j) ∙ sym n
  one_later s t (none_waits y f g h i) (a_reply z x r a j l m n o) = absurd (item_here old.items old.answered _ h m)
  one_later s t (a_reply z x r a g h i j l) (no_first_int f e) = absurd (long_enough body z g f)
  one_later s t (a_reply z x r a g h i j l) (an_event f e) = absurd (h (one_int body z (negsuc 0) g f))
  one_later s t (a_reply z x r a j l m n o) (none_waits y f g h i) = absurd (item_here old.items old.answered _ h m)
  one_later s t (a_reply z x r a f g h i j) (a_reply y v q b l m n o p) = both_replies x v r q a b s t h n i o j p

  one_store : (s t : Stand) (is : List Item) (n : ℕ) → StoreTurn k c old body s is n → StoreTurn k c old body t is n → s ≡ t
  unfolding StoreTurn
  one_store s t [] n x y = one_unasked old body s t x y
  one_store s t (items.Asks asked ∷ is) zero x y = one_connect asked old body s t x y
  one_store s t (items.Asks asked ∷ is) (suc n) x y = one_later s t x y
  one_store s t (items.Requests xid q ∷ is) n x y = one_later s t x y

one_turn : (k : EntryKeys) → AreKeys k.names → (boot c : ℕ) (old : Stand) (h : Heard) (s t : Stand) → TurnOf k boot c old h s → TurnOf k boot c old h t → s ≡ t
unfolding TurnOf
one_turn k w boot c old (from_client body) s t x y = one_client k boot c old body s t x.1 y.1
one_turn k w boot c old (from_store body) s t x y = one_store k w c old body s t old.items old.answered x.1 y.1
one_turn k w boot c old (bad_client z) s t x y = x.1 ∙ sym y.1
one_turn k w boot c old (bad_store z) s t x y = x.1 ∙ sym y.1
one_turn k w boot c old (given e) s t x y = x.1 ∙ sym y.1

pub leads_to_one : LeadsToOne
unfolding Ran
leads_to_one k boot c [] s t w e f = e ∙ sym f
leads_to_one k boot c (h ∷ hs) s t w (a, ran, x) (b, other, y) =
    let before = leads_to_one k boot c hs a b w ran other in
    one_turn k w boot c b h s t (subst (λ (o : Stand). TurnOf k boot c o h s) before (goes k boot c a h s x).turn) (goes k boot c b h t y).turn
