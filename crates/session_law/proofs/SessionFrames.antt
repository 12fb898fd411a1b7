-- What a frame of an honest store leaves of where a session stands.
use Rattle.std.proofs.Common.{◌≡◌, ℕ, zero, suc, ℤ, negsuc, ◌+◌, ◌-◌, ◌<◌, ◌≤◌, List, [], ◌∷◌, ◌++◌, Option, Some, None, length, refl, sym, ap, subst, ◌∙◌, arith, length-append}
use Rattle.path_seal.specs.Sealed.{AreKeys}
use Rattle.payload_seal.specs.declared.keys.EntryKeys.{EntryKeys}
use Rattle.zk_records.specs.Connect.{SpellsConnected}
use Rattle.zk_records.specs.declared.connect.ConnectRequest.{ConnectRequest}
use Rattle.zk_records.specs.declared.connect.ConnectResponse.{ConnectResponse}
use Rattle.zk_messages.specs.Replies.{SpellsReply, IsReply, SpellsEvent, BeginsWithInt}
use Rattle.zk_messages.specs.declared.reply.Event.{Event}
use Rattle.zk_messages.specs.declared.reply.Reply.{Reply}
use Rattle.zk_messages.specs.declared.request.Item.{Item}
use Rattle.zk_messages.specs.declared.request.Item.TheVariants as items
use Rattle.zk_messages.specs.declared.request.Request.{Request}
use Rattle.zk_messages.proofs.OneEvent.{one_event, event_or_refused}
use Rattle.zk_messages.proofs.OneReply.{one_reply, reply_or_refused}
use Rattle.request_queue.specs.declared.asked.Asked.{Asked}
use Rattle.request_queue.specs.declared.asked.Asked.TheVariants as asks
use Rattle.request_rewrite.specs.Asks.{Asks}
use Rattle.reply_rewrite.specs.Admits.{Admits}
use Rattle.reply_rewrite.specs.Shapes.{shape_for}
use Rattle.reply_rewrite.specs.declared.finding.Cause.{Cause}
use Rattle.reply_rewrite.specs.declared.finding.Finding.{Finding}
use Rattle.reply_rewrite.proofs.Once.{at_most_one}
use Rattle.reply_rewrite.proofs.PassedOn.{passed_on}
use Rattle.watch_rewrite.specs.Events.{IsPlainEvent, IsFlawOf}
use Rattle.watch_rewrite.proofs.Judged.{judged_once}
use Rattle.tree_state.specs.declared.message.Message.{Message}
use Rattle.tree_state.specs.declared.message.Message.TheVariants as messages
use Rattle.store_side.specs.Messages.{SpellsMessage}
use Rattle.store_side.specs.Zips.{Zips}
use Rattle.store_side.proofs.Zipping.{zips_append, zips_one}
use Rattle.sealed_machine.specs.Runs.{Question, Talks, HasNoConnected}
use Rattle.entry_session.specs.Heard.{Heard, from_store, client_frames, store_frames}
use Rattle.entry_session.specs.Stands.{Stand}
use Rattle.entry_session.specs.StoreTurns.{item_at, ending_by, found, IsOfForm, ConnectTurn, EventTurn, ReplyTurn, LaterTurn, StoreTurn}
use Rattle.entry_session.specs.StoreTurns.{connected, other_form, malformed_event, bad_event, opened_event}
use Rattle.entry_session.specs.StoreTurns.{other_xid, malformed_reply, handed_down, no_first_int, an_event, none_waits, a_reply}
use Rattle.entry_session.specs.declared.ending.Ending.TheVariants as endings
use Rattle.entry_session.proofs.OneItem.{one_asked}
use Rattle.entry_session.proofs.Reading.{long_enough, one_int, reply_begins, event_begins, is_reply, connected_or_refused}
use Rattle.entry_session.proofs.Turns.{some_none}
use Rattle.session_law.specs.Law.{IsHonestEnd}
use Rattle.session_law.proofs.Answered.{IsAnswer, answers}
use Rattle.session_law.proofs.Words.{SpellsFront, AreAsked, IsBegun}
use Rattle.session_law.proofs.SessionMessages.{answers-append, same_backs, next_spelled, item_front, Of, asked_at, stands_at, is_close, EventCame, ReplyCame, Came, came_event, came_reply, came_session, came, first_is, rest_is, moved}
use Rattle.session_law.proofs.SessionMessages.{is_answer, reply_answers, spells_response, spells_event, spells_reply, response_spelled, event_spelled, reply_spelled, no_connected_rest, not_connected}
use Rattle.session_law.proofs.SessionMessages.{one_answer, reply_answer, event_answer, begins_asked, not_begun, event_or_response, reply_or_response}
use Rattle.session_law.proofs.SessionStands.{At, Reached, IsClosed, one_more, at_first, at_later, later_at}

-- where the session stood at a frame of the store, and the message that the frame spells
pub record AtFrame (k : EntryKeys) (r : ConnectResponse) (qs : List Question) (ms ns : List Message) (hs : List Heard) (old : Stand) (body : List ℕ) (final : List Item) : Type 0 where
  before : Reached k r qs ms ns hs old
  going : old.ending ≡ None
  one : Message
  rest : List Message
  left_is : before.left ≡ one ∷ rest
  spelled : SpellsMessage one body
  room : IsAnswer one → old.answered < length old.items
  begun : IsBegun r qs final
  more : List Item
  final_is : final ≡ old.items ++ more

pub at_frame : (k : EntryKeys) (r : ConnectResponse) (qs : List Question) (ms ns : List Message) (hs : List Heard) (old : Stand) (body : List ℕ) (final more : List Item) → Reached k r qs ms ns hs old → old.ending ≡ None
    → SpellsFront (messages.Connected r ∷ ns) (store_frames hs ++ body ∷ []) → ((done left : List Message) (n : Message) → messages.Connected r ∷ ns ≡ done ++ n ∷ left → length done ≡ length (store_frames hs) → IsAnswer n → answers done < length (client_frames hs))
    → IsBegun r qs final → final ≡ old.items ++ more → AtFrame k r qs ms ns hs old body final
at_frame k r qs ms ns hs old body final more x going sp behind begun fin =
    let n = next_spelled (messages.Connected r ∷ ns) (store_frames hs) body sp in
    let left = same_backs x.done n.done x.left (n.one ∷ n.left) (x.come ∙ sym n.count) (sym x.told_is ∙ n.whole) in
    record {
      before = x;
      going = going;
      one = n.one;
      rest = n.left;
      left_is = left;
      spelled = n.spelled;
      room = λ a. let lt = behind x.done n.left n.one (x.told_is ∙ ap (λ l. x.done ++ l) left) x.come a in omega (arith, lt, x.counted, x.sent going);
      begun = begun;
      more = more;
      final_is = fin;
    }

-- the message came, and the plain one was handed down
record Onward (k : EntryKeys) (r : ConnectResponse) (qs : List Question) (ms ns : List Message) (hs : List Heard) (old : Stand) (body : List ℕ) (final : List Item) (x : AtFrame k r qs ms ns hs old body final) (answered open_ : List Question) (plain : Message) (more : List Message) (out : List ℕ) (new : Stand) : Type 0 where
  asked_is : qs ≡ answered ++ open_
  plain_is : x.before.plain_left ≡ plain ∷ more
  talks : Talks k open_ more x.rest
  at : At r ns answered x.rest new.answered
  counted : new.answered ≡ old.answered + answers (x.one ∷ [])
  within : new.answered ≤ length old.items
  spelled : SpellsMessage plain out
  items_are : new.items ≡ old.items
  down_is : new.down ≡ old.down ++ out ∷ []
  none : new.findings ≡ []
  honest : IsHonestEnd new.ending
  closed : new.ending ≡ Some endings.Closed → IsClosed answered (x.before.plain_done ++ plain ∷ []) (x.before.done ++ x.one ∷ []) new

-- after the connect request was answered: so many requests were
record IsLater (k : EntryKeys) (r : ConnectResponse) (qs : List Question) (ms ns : List Message) (hs : List Heard) (old : Stand) (body : List ℕ) (final : List Item) (x : AtFrame k r qs ms ns hs old body final) (m : ℕ) : Type 0 where
  quiet : HasNoConnected x.before.left
  next : old.answered ≡ suc m
  count : m ≡ length x.before.answered

module _ (k : EntryKeys) (w : AreKeys k.names) (c : ℕ) (r : ConnectResponse) (qs : List Question) (ms ns : List Message) (hs : List Heard) (old : Stand) (body : List ℕ) (final : List Item) where
  onward : (x : AtFrame k r qs ms ns hs old body final) (answered open_ : List Question) (plain : Message) (more : List Message) (out : List ℕ) (new : Stand) → Onward k r qs ms ns hs old body final x answered open_ plain more out new → Reached k r qs ms ns (from_store body ∷ hs) new
  unfolding store_frames client_frames
  onward x answered open_ plain more out new o = record {
    answered = answered;
    open_ = open_;
    plain_done = x.before.plain_done ++ plain ∷ [];
    plain_left = more;
    done = x.before.done ++ x.one ∷ [];
    left = x.rest;
    asked_is = o.asked_is;
    plain_is = moved _ x.before.plain_done x.before.plain_left plain more x.before.plain_is o.plain_is;
    told_is = moved _ x.before.done x.before.left x.one x.rest x.before.told_is x.left_is;
    talks = o.talks;
    at = o.at;
    counted = omega (arith, answers-append x.before.done (x.one ∷ []), x.before.counted, o.counted);
    within = subst (λ (l : List Item). new.answered ≤ length l) (sym o.items_are) o.within;
    come = omega (arith, x.before.come, one_more x.before.done x.one, one_more (store_frames hs) body);
    sent = λ e. ap length o.items_are ∙ x.before.sent x.going;
    down = subst (λ (l : List (List ℕ)). Zips SpellsMessage (x.before.plain_done ++ plain ∷ []) l) (sym o.down_is) (zips_append SpellsMessage _ _ _ _ x.before.down (zips_one SpellsMessage plain out o.spelled));
    none = o.none;
    honest = o.honest;
    closed = o.closed;
  }

  not_closed : {A : Type 0} → AtFrame k r qs ms ns hs old body final → old.ending ≡ Some endings.Closed → A
  not_closed x e = absurd (some_none endings.Closed (sym e ∙ x.going))

  -- ---- the answer to the connect request

  connect_onward : (x : AtFrame k r qs ms ns hs old body final) (more : List Message) → HasNoConnected x.rest → x.before.answered ≡ [] → x.one ≡ messages.Connected r → x.before.plain_left ≡ messages.Connected r ∷ more → Talks k x.before.open_ more x.rest → SpellsConnected r body → old.answered ≡ 0 → 1 ≤ length old.items
      → Reached k r qs ms ns (from_store body ∷ hs) (record old { answered = 1; down = old.down ++ body ∷ [] })
  connect_onward x more quiet none one plain talks spelled an some = onward x x.before.answered x.before.open_ (messages.Connected r) more body (record old { answered = 1; down = old.down ++ body ∷ [] }) (record {
    asked_is = x.before.asked_is;
    plain_is = plain;
    talks = talks;
    at = later_at r ns x.before.answered x.rest 1 quiet (ap (λ (l : List Question). suc (length l)) (sym none));
    counted = omega (arith, an, one_answer r x.one one);
    within = some;
    spelled = response_spelled r body spelled;
    items_are = refl;
    down_is = refl;
    none = x.before.none;
    honest = x.before.honest;
    closed = not_closed x;
  })

  same_response : (a : ConnectResponse) → messages.Connected a ≡ messages.Connected r → a ≡ r
  same_response a e = cc

  connect_by : (asked : ConnectRequest) (new : Stand) (x : AtFrame k r qs ms ns hs old body final) → HasNoConnected x.rest → x.before.answered ≡ [] → x.one ≡ messages.Connected r → SpellsConnected r body → IsOfForm asked r → old.answered ≡ 0 → 1 ≤ length old.items
      → ConnectTurn asked old body new → Came k x.before.open_ x.before.plain_left x.one x.rest → Reached k r qs ms ns (from_store body ∷ hs) new
  connect_by asked new x quiet none one spelled form an some (other_form refusal no_form) n = absurd (connected_or_refused r asked.read_only body refusal.place refusal.reason spelled form no_form)
  connect_by asked new x quiet none one spelled form an some (connected a s i) (came_event e f more n) = absurd (event_or_response f r (sym n.told_is ∙ one))
  connect_by asked new x quiet none one spelled form an some (connected a s i) (came_reply q b f others more n) = absurd (reply_or_response f r (sym n.told_is ∙ one))
  connect_by asked new x quiet none one spelled form an some (connected a s i) (came_session e more n) =
      let same = same_response e (sym n.told_is ∙ one) in
      connect_onward x more quiet none one (n.plain_is ∙ ap (λ (y : ConnectResponse). messages.Connected y ∷ more) same) n.talks spelled an some

  connect_turn : HasNoConnected ns → (asked : ConnectRequest) (is : List Item) (new : Stand) (x : AtFrame k r qs ms ns hs old body final) → old.items ≡ items.Asks asked ∷ is → old.answered ≡ 0 → ConnectTurn asked old body new → Reached k r qs ms ns (from_store body ∷ hs) new
  connect_turn no_more asked is new x it an t =
      let at = at_first r ns x.before.answered x.before.left old.answered an x.before.at in
      let one : x.one ≡ messages.Connected r = first_is (messages.Connected r) x.one ns x.rest (sym at.0 ∙ x.left_is) in
      let rest : ns ≡ x.rest = rest_is (messages.Connected r) x.one ns x.rest (sym at.0 ∙ x.left_is) in
      let form = (begins_asked r qs asked is x.more final (x.final_is ∙ ap (λ (l : List Item). l ++ x.more) it) x.begun).0 in
      connect_by asked new x (subst HasNoConnected rest no_more) at.1 one (spells_response r x.one body one x.spelled) form an (subst (λ (l : List Item). 1 ≤ length l) (sym it) (omega arith)) t
      (came k x.before.open_ x.before.plain_left x.before.left x.one x.rest x.before.talks x.left_is)

  -- ---- an event, which opens to the plain one

  quiet_rest : (x : AtFrame k r qs ms ns hs old body final) (m : ℕ) → IsLater k r qs ms ns hs old body final x m → HasNoConnected x.rest
  quiet_rest x m l = no_connected_rest x.one x.rest (subst HasNoConnected x.left_is l.quiet)

  event_onward : (x : AtFrame k r qs ms ns hs old body final) (m : ℕ) (l : IsLater k r qs ms ns hs old body final x m) (e f : Event) (more : List Message) (out : List ℕ) → EventCame k x.before.open_ x.before.plain_left x.one x.rest e f more → SpellsEvent e out
      → Reached k r qs ms ns (from_store body ∷ hs) (record old { down = old.down ++ out ∷ [] })
  event_onward x m l e f more out n spelled = onward x x.before.answered x.before.open_ (messages.Event e) more out (record old { down = old.down ++ out ∷ [] }) (record {
    asked_is = x.before.asked_is;
    plain_is = n.plain_is;
    talks = n.talks;
    at = later_at r ns x.before.answered x.rest old.answered (quiet_rest x m l) (omega (arith, l.next, l.count));
    counted = omega (arith, event_answer f x.one n.told_is);
    within = x.before.within;
    spelled = event_spelled e out spelled;
    items_are = refl;
    down_is = refl;
    none = x.before.none;
    honest = x.before.honest;
    closed = not_closed x;
  })

  event_turn : (x : AtFrame k r qs ms ns hs old body final) (m : ℕ) (l : IsLater k r qs ms ns hs old body final x m) (e f : Event) (more : List Message) (new : Stand) → EventCame k x.before.open_ x.before.plain_left x.one x.rest e f more → SpellsEvent f body
      → EventTurn k old body new → Reached k r qs ms ns (from_store body ∷ hs) new
  event_turn x m l e f more new n spelled (malformed_event refusal no_event) = absurd (event_or_refused body f refusal.place refusal.reason spelled no_event)
  event_turn x m l e f more new n spelled (bad_event g flaw s no_good) =
      let same : g ≡ f = one_event body g f s spelled in
      absurd (judged_once.not_both k.names f e flaw n.opens (subst (λ (y : Event). IsFlawOf k.names y flaw) same no_good))
  event_turn x m l e f more new n spelled (opened_event g told out s opened o) =
      let same : g ≡ f = one_event body g f s spelled in
      let plain_same : told ≡ e = judged_once.one_plain k.names f told e w (subst (λ (y : Event). IsPlainEvent k.names y told) same opened) n.opens in
      event_onward x m l e f more out n (subst (λ (y : Event). SpellsEvent y out) plain_same o)

  -- ---- a reply, which is admitted to the plain one

  honest_by : (a : Asked) → IsHonestEnd (ending_by a)
  unfolding ending_by IsHonestEnd
  honest_by asks.Close = tt
  honest_by a = tt

  no_findings : (before : ℕ) (xid : ℤ) (xs : List Finding) (o : Option Cause) → xs ≡ [] → o ≡ None → xs ++ found c before xid o ≡ []
  unfolding found
  no_findings before xid xs None e f = subst (λ (l : List Finding). l ++ [] ≡ []) (sym e) refl
  no_findings before xid xs (Some cause) e f = absurd cc

  -- only a close ends the session so
  close_ends : (a : Asked) → ending_by a ≡ Some endings.Closed → a ≡ asks.Close
  unfolding ending_by
  close_ends asks.Close e = refl
  close_ends a e = absurd (some_none endings.Closed (sym e))

  is_closed : (x : AtFrame k r qs ms ns hs old body final) (q : Question) (a f : Reply) (o : Of q old.items old.answered) (new : Stand) → new.items ≡ old.items → new.answered ≡ old.answered + 1 → x.one ≡ messages.Reply f → q.asked ≡ asks.Close
      → IsClosed (x.before.answered ++ q ∷ []) (x.before.plain_done ++ messages.Reply a ∷ []) (x.before.done ++ x.one ∷ []) new
  is_closed x q a f o new same next one close =
      let s = stands_at old.items old.answered (items.Requests q.xid o.request) o.at in
      let it = is_close o.request (subst (λ (y : Asked). Asks o.request y) close o.asks) in
      record {
        before = s.before;
        xid = q.xid;
        after = s.after;
        items_are = same ∙ s.is_at ∙ ap (λ (y : Request). s.before ++ items.Requests q.xid y ∷ s.after) it;
        count = omega (arith, next, s.count);
        asked_before = x.before.answered;
        last = q;
        asked_are = refl;
        closes = close;
        told_before = x.before.done;
        stored = f;
        told_are = ap (λ (y : Message). x.before.done ++ y ∷ []) one;
        plain_before = x.before.plain_done;
        reply = a;
        plain_are = refl;
      }

  -- the stand after a reply
  abbrev replied : Question → List ℕ → Option Cause → Stand
  replied q out cause = record old { answered = old.answered + 1; down = old.down ++ out ∷ []; findings = old.findings ++ found c (old.answered - 1) q.xid cause; ending = ending_by q.asked }

  reply_onward : (x : AtFrame k r qs ms ns hs old body final) (m : ℕ) (l : IsLater k r qs ms ns hs old body final x m) (q : Question) (a f : Reply) (others : List Question) (more : List Message) (out : List ℕ) (cause : Option Cause) → ReplyCame k x.before.open_ x.before.plain_left x.one x.rest q a f others more → Of q old.items old.answered → IsReply a out → cause ≡ None
      → Reached k r qs ms ns (from_store body ∷ hs) (replied q out cause)
  reply_onward x m l q a f others more out cause n of spelled clean = onward x (x.before.answered ++ q ∷ []) others (messages.Reply a) more out (replied q out cause) (record {
    asked_is = moved _ x.before.answered x.before.open_ q others x.before.asked_is n.open_is;
    plain_is = n.plain_is;
    talks = n.talks;
    at = later_at r ns (x.before.answered ++ q ∷ []) x.rest (old.answered + 1) (quiet_rest x m l) (omega (arith, l.next, l.count, one_more x.before.answered q));
    counted = omega (arith, reply_answer f x.one n.told_is);
    within = omega (arith, x.room (reply_answers f x.one n.told_is));
    spelled = reply_spelled a out spelled;
    items_are = refl;
    down_is = refl;
    none = no_findings (old.answered - 1) q.xid old.findings cause x.before.none clean;
    honest = honest_by q.asked;
    closed = λ e. is_closed x q a f of (replied q out cause) refl refl n.told_is (close_ends q.asked e);
  })

  -- in the shape of its question
  shaped_reply : (q : Question) (a f : Reply) → Admits k q.asked f a None → IsReply f body → SpellsReply (shape_for q.asked) f body
  shaped_reply q a f h spelled = spelled (shape_for q.asked) h.shaped

  reply_turn : (x : AtFrame k r qs ms ns hs old body final) (m : ℕ) (l : IsLater k r qs ms ns hs old body final x m) (q : Question) (a f : Reply) (others : List Question) (more : List Message) (new : Stand) → ReplyCame k x.before.open_ x.before.plain_left x.one x.rest q a f others more → Of q old.items old.answered → IsReply f body
      → ReplyTurn k c q.xid q.asked old body new → Reached k r qs ms ns (from_store body ∷ hs) new
  reply_turn x m l q a f others more new n of spelled (other_xid z b no_xid) =
      absurd (no_xid (one_int body z f.xid b (reply_begins (shape_for q.asked) f body (shaped_reply q a f n.admits spelled)) ∙ sym n.admits.same_xid ∙ n.same_xid))
  reply_turn x m l q a f others more new n of spelled (malformed_reply refusal b no_reply) =
      absurd (reply_or_refused (shape_for q.asked) body f refusal.place refusal.reason (shaped_reply q a f n.admits spelled) no_reply)
  reply_turn x m l q a f others more new n of spelled (handed_down g told cause out i s admitted t) =
      let same : g ≡ f = one_reply (shape_for q.asked) body g f s (shaped_reply q a f n.admits spelled) in
      let both = at_most_one k q.asked f told a cause None w (subst (λ (y : Reply). Admits k q.asked y told cause) same admitted) n.admits in
      let plain : SpellsReply (shape_for q.asked) a out = subst (λ (y : Reply). SpellsReply (shape_for q.asked) y out) both.0 t in
      reply_onward x m l q a f others more out cause n of (is_reply (shape_for q.asked) a out (passed_on.shaped k q.asked f a None n.admits) plain) both.1

  -- ---- the request that the next reply answers

  item_of : (x : AtFrame k r qs ms ns hs old body final) (m : ℕ) (l : IsLater k r qs ms ns hs old body final x m) (q : Question) (others : List Question) (asked : ConnectRequest) (is : List Item) → old.items ≡ items.Asks asked ∷ is → x.before.open_ ≡ q ∷ others → suc m < length old.items → Of q is m
  item_of x m l q others asked is it open_is lt =
      let inside : m < length is = omega (arith, lt, ap length it) in
      let rest = (begins_asked r qs asked is x.more final (x.final_is ∙ ap (λ (y : List Item). y ++ x.more) it) x.begun).1 in
      let all : qs ≡ x.before.answered ++ q ∷ others = x.before.asked_is ∙ ap (λ (y : List Question). x.before.answered ++ y) open_is in
      let o = asked_at x.before.answered q others (is ++ x.more) (subst (λ (y : List Question). AreAsked y (is ++ x.more)) all rest) (omega (arith, inside, l.count, length-append is x.more)) in
      record { request = o.request; at = sym (item_front is x.more m inside) ∙ ap (item_at (is ++ x.more)) l.count ∙ o.at; other = o.other; asks = o.asks }

  next_of : (q : Question) (asked : ConnectRequest) (is : List Item) (m : ℕ) → old.items ≡ items.Asks asked ∷ is → old.answered ≡ suc m → Of q is m → Of q old.items old.answered
  unfolding item_at
  next_of q asked is m it an o = record { request = o.request; at = (λ j. item_at (it j) (an j)) ∙ o.at; other = o.other; asks = o.asks }

  same_xid : (y z : ℤ) (a b : Request) → Some (items.Requests y a) ≡ Some (items.Requests z b) → y ≡ z
  same_xid y z a b e = cc

  same_request : (y z : ℤ) (a b : Request) → Some (items.Requests y a) ≡ Some (items.Requests z b) → a ≡ b
  same_request y z a b e = cc

  -- ---- a frame after the connect request was answered

  later_reply : (x : AtFrame k r qs ms ns hs old body final) (m : ℕ) (l : IsLater k r qs ms ns hs old body final x m) (q : Question) (a f : Reply) (others : List Question) (more : List Message) (new : Stand) → ReplyCame k x.before.open_ x.before.plain_left x.one x.rest q a f others more → Of q old.items old.answered → IsReply f body → BeginsWithInt body f.xid
      → LaterTurn k c old body new → Reached k r qs ms ns (from_store body ∷ hs) new
  later_reply x m l q a f others more new n of spelled begins (no_first_int few e) = absurd (long_enough body f.xid begins few)
  later_reply x m l q a f others more new n of spelled begins (an_event b t) = absurd (of.other (sym n.same_xid ∙ n.admits.same_xid ∙ one_int body f.xid (negsuc 0) begins b))
  later_reply x m l q a f others more new n of spelled begins (none_waits z b other i e) = absurd (some_none _ (sym of.at ∙ i))
  later_reply x m l q a f others more new n of spelled begins (a_reply z number wanted kept b other i ask t) =
      let here = sym i ∙ of.at in
      let kept_same : kept ≡ q.asked = one_asked of.request kept q.asked (subst (λ (y : Request). Asks y kept) (same_request number q.xid wanted of.request here) ask) of.asks in
      let t' : ReplyTurn k c q.xid kept old body new = subst (λ (y : ℤ). ReplyTurn k c y kept old body new) (same_xid number q.xid wanted of.request here) t in
      reply_turn x m l q a f others more new n of spelled (subst (λ (y : Asked). ReplyTurn k c q.xid y old body new) kept_same t')

  later_event : (x : AtFrame k r qs ms ns hs old body final) (m : ℕ) (l : IsLater k r qs ms ns hs old body final x m) (e f : Event) (more : List Message) (new : Stand) → EventCame k x.before.open_ x.before.plain_left x.one x.rest e f more → SpellsEvent f body → BeginsWithInt body (negsuc 0)
      → LaterTurn k c old body new → Reached k r qs ms ns (from_store body ∷ hs) new
  later_event x m l e f more new n spelled begins (no_first_int few i) = absurd (long_enough body (negsuc 0) begins few)
  later_event x m l e f more new n spelled begins (an_event b t) = event_turn x m l e f more new n spelled t
  later_event x m l e f more new n spelled begins (none_waits z b other i g) = absurd (other (one_int body z (negsuc 0) b begins))
  later_event x m l e f more new n spelled begins (a_reply z number wanted kept b other i ask t) = absurd (other (one_int body z (negsuc 0) b begins))

  later_by : (x : AtFrame k r qs ms ns hs old body final) (m : ℕ) (l : IsLater k r qs ms ns hs old body final x m) (asked : ConnectRequest) (is : List Item) (new : Stand) → old.items ≡ items.Asks asked ∷ is → LaterTurn k c old body new → Came k x.before.open_ x.before.plain_left x.one x.rest → Reached k r qs ms ns (from_store body ∷ hs) new
  later_by x m l asked is new it t (came_event e f more n) =
      let spelled = spells_event f x.one body n.told_is x.spelled in
      later_event x m l e f more new n spelled (event_begins f body spelled) t
  later_by x m l asked is new it t (came_reply q a f others more n) =
      let spelled = spells_reply f x.one body n.told_is x.spelled in
      let of = item_of x m l q others asked is it n.open_is (omega (arith, x.room (reply_answers f x.one n.told_is), l.next)) in
      later_reply x m l q a f others more new n (next_of q asked is m it l.next of) spelled (reply_begins (shape_for q.asked) f body (shaped_reply q a f n.admits spelled)) t
  later_by x m l asked is new it t (came_session a more n) = absurd (not_connected x.one x.rest a n.told_is (subst HasNoConnected x.left_is l.quiet))

  later_turn : (asked : ConnectRequest) (is : List Item) (m : ℕ) (new : Stand) (x : AtFrame k r qs ms ns hs old body final) → old.items ≡ items.Asks asked ∷ is → old.answered ≡ suc m → LaterTurn k c old body new → Reached k r qs ms ns (from_store body ∷ hs) new
  later_turn asked is m new x it an t =
      let at = at_later r ns x.before.answered x.before.left old.answered m an x.before.at in
      later_by x m (record { quiet = at.0; next = an; count = at.1 }) asked is new it t (came k x.before.open_ x.before.plain_left x.before.left x.one x.rest x.before.talks x.left_is)

  -- ---- a frame of the store

  pub store_turn : HasNoConnected ns → (is : List Item) (m : ℕ) (new : Stand) (x : AtFrame k r qs ms ns hs old body final) → old.items ≡ is → old.answered ≡ m → StoreTurn k c old body new is m → Reached k r qs ms ns (from_store body ∷ hs) new
  unfolding StoreTurn
  store_turn quiet [] zero new x it an t =
      let at = at_first r ns x.before.answered x.before.left old.answered an x.before.at in
      let one : x.one ≡ messages.Connected r = first_is (messages.Connected r) x.one ns x.rest (sym at.0 ∙ x.left_is) in
      absurd (omega (arith, x.room (is_answer r x.one one), ap length it))
  store_turn quiet [] (suc m) new x it an t = absurd (omega (arith, x.before.within, an, ap length it))
  store_turn quiet (items.Asks asked ∷ is) zero new x it an t = connect_turn quiet asked is new x it an t
  store_turn quiet (items.Asks asked ∷ is) (suc m) new x it an t = later_turn asked is m new x it an t
  store_turn quiet (items.Requests xid request ∷ is) m new x it an t = absurd (not_begun r qs xid request is x.more final (x.final_is ∙ ap (λ (l : List Item). l ++ x.more) it) x.begun)
