-- The messages and the items of one connection: which come next, and which are done.
use Rattle.std.proofs.Common.{◌≡◌, ◌≢◌, ℕ, zero, suc, ℤ, negsuc, ◌+◌, ◌<◌, List, [], ◌∷◌, ◌++◌, Some, None, inl, inr, length, refl, sym, ap, subst, ◌∙◌, arith, append_assoc}
use Rattle.payload_seal.specs.declared.keys.EntryKeys.{EntryKeys}
use Rattle.zk_records.specs.Connect.{SpellsConnected}
use Rattle.zk_records.specs.declared.connect.ConnectRequest.{ConnectRequest}
use Rattle.zk_records.specs.declared.connect.ConnectResponse.{ConnectResponse}
use Rattle.zk_messages.specs.Replies.{IsReply, SpellsEvent}
use Rattle.zk_messages.specs.declared.reply.Event.{Event}
use Rattle.zk_messages.specs.declared.reply.Reply.{Reply}
use Rattle.zk_messages.specs.declared.request.Item.{Item}
use Rattle.zk_messages.specs.declared.request.Item.TheVariants as items
use Rattle.zk_messages.specs.declared.request.Request.{Request}
use Rattle.zk_messages.specs.declared.request.Request.TheVariants as requests
use Rattle.request_queue.specs.declared.asked.Asked.TheVariants as asks
use Rattle.request_rewrite.specs.Asks.{Asks, AsksPlain}
use Rattle.reply_rewrite.specs.Admits.{Admits}
use Rattle.watch_rewrite.specs.Events.{IsPlainEvent}
use Rattle.tree_state.specs.declared.message.Message.{Message}
use Rattle.tree_state.specs.declared.message.Message.TheVariants as messages
use Rattle.store_side.specs.Messages.{SpellsMessage}
use Rattle.sealed_machine.specs.Runs.{Question, Talks, silent, told_event, told_reply, told_session, HasNoConnected}
use Rattle.entry_session.specs.StoreTurns.{item_at, IsOfForm}
use Rattle.session_law.proofs.Answered.{IsAnswer, answers}
use Rattle.session_law.proofs.Words.{SpellsFront, AreAsked, IsBegun}

-- ---- lists

pub same_backs : {A : Type 0} (a b x y : List A) → length a ≡ length b → a ++ x ≡ b ++ y → x ≡ y
same_backs [] [] x y e f = f
same_backs [] (c ∷ b) x y e f = absurd (omega (arith, e))
same_backs (c ∷ a) [] x y e f = absurd (omega (arith, e))
same_backs (c ∷ a) (d ∷ b) x y e f = same_backs a b x y (omega (arith, e)) (let g : a ++ x ≡ b ++ y = cc in g)

-- the message that a last frame spells
pub record Next (ns : List Message) (bodies : List (List ℕ)) (body : List ℕ) : Type 0 where
  pub done : List Message
  pub one : Message
  pub left : List Message
  pub whole : ns ≡ done ++ one ∷ left
  pub count : length done ≡ length bodies
  pub spelled : SpellsMessage one body

pub next_spelled : (ns : List Message) (bodies : List (List ℕ)) (body : List ℕ) → SpellsFront ns (bodies ++ body ∷ []) → Next ns bodies body
unfolding SpellsFront
next_spelled [] [] body h = absurd h
next_spelled (n ∷ ns) [] body h = record { done = []; one = n; left = ns; whole = refl; count = refl; spelled = h.0 }
next_spelled [] (b ∷ bodies) body h = absurd h
next_spelled (n ∷ ns) (b ∷ bodies) body h =
    let r = next_spelled ns bodies body h.1 in
    record { done = n ∷ r.done; one = r.one; left = r.left; whole = ap (λ (l : List Message). n ∷ l) r.whole; count = ap suc r.count; spelled = r.spelled }

pub before_spelled : (ns : List Message) (bodies : List (List ℕ)) (body : List ℕ) → SpellsFront ns (bodies ++ body ∷ []) → SpellsFront ns bodies
unfolding SpellsFront
before_spelled ns [] body h = tt
before_spelled [] (b ∷ bodies) body h = absurd h
before_spelled (n ∷ ns) (b ∷ bodies) body h = (h.0, before_spelled ns bodies body h.1)

pub answers-append : (a b : List Message) → answers (a ++ b) ≡ answers a + answers b
unfolding answers
answers-append [] b = omega arith
answers-append (messages.Event e ∷ a) b = answers-append a b
answers-append (messages.Reply r ∷ a) b = omega (arith, answers-append a b)
answers-append (messages.Connected r ∷ a) b = omega (arith, answers-append a b)

-- the items at a place
pub item_front : (is more : List Item) (n : ℕ) → n < length is → item_at (is ++ more) n ≡ item_at is n
unfolding item_at
item_front [] more n lt = absurd (omega (arith, lt))
item_front (i ∷ is) more zero lt = refl
item_front (i ∷ is) more (suc n) lt = item_front is more n (omega (arith, lt))

pub item_within : (is : List Item) (n : ℕ) (i : Item) → item_at is n ≡ Some i → n < length is
unfolding item_at
item_within [] n i e = absurd cc
item_within (j ∷ is) zero i e = omega arith
item_within (j ∷ is) (suc n) i e = omega (arith, item_within is n i e)

-- the request that a question is of
pub record Of (q : Question) (is : List Item) (n : ℕ) : Type 0 where
  pub request : Request
  pub at : item_at is n ≡ Some (items.Requests q.xid request)
  pub other : q.xid ≢ negsuc 0
  pub asks : Asks request q.asked

pub asked_at : (done : List Question) (q : Question) (left : List Question) (is : List Item) → AreAsked (done ++ q ∷ left) is → length done < length is → Of q is (length done)
unfolding AreAsked item_at
asked_at [] q left [] h lt = absurd h
asked_at [] q left (items.Asks a ∷ is) h lt = absurd h
asked_at [] q left (items.Requests xid r ∷ is) h lt = record { request = r; at = (λ i. Some (items.Requests (h.0 i) r)); other = subst (λ (z : ℤ). z ≢ negsuc 0) h.0 h.1; asks = h.2 }
asked_at (p ∷ done) q left [] h lt = absurd h
asked_at (p ∷ done) q left (items.Asks a ∷ is) h lt = absurd h
asked_at (p ∷ done) q left (items.Requests xid r ∷ is) h lt = let o = asked_at done q left is h.3 (omega (arith, lt)) in record { request = o.request; at = o.at; other = o.other; asks = o.asks }

-- an item at a place, between those before it and those after it
pub record Stands (is : List Item) (n : ℕ) (i : Item) : Type 0 where
  pub before : List Item
  pub after : List Item
  pub is_at : is ≡ before ++ i ∷ after
  pub count : length before ≡ n

pub stands_at : (is : List Item) (n : ℕ) (i : Item) → item_at is n ≡ Some i → Stands is n i
unfolding item_at
stands_at [] n i e = absurd cc
stands_at (j ∷ is) zero i e = record { before = []; after = is; is_at = (let same : j ≡ i = cc in ap (λ (x : Item). x ∷ is) same); count = refl }
stands_at (j ∷ is) (suc n) i e = let s = stands_at is n i e in record { before = j ∷ s.before; after = s.after; is_at = ap (λ (l : List Item). j ∷ l) s.is_at; count = ap suc s.count }

refused_or_close : (code : ℤ) → asks.Close ≡ asks.Refused code → ⊥
refused_or_close code e = cc

plain_close : (r : Request) → AsksPlain r asks.Close → r ≡ requests.Close
unfolding AsksPlain
plain_close requests.Close h = refl
plain_close r h = absurd h

-- what asks a close is a closeSession
pub is_close : (r : Request) → Asks r asks.Close → r ≡ requests.Close
unfolding Asks
is_close r (inl (code, h, e)) = absurd (refused_or_close code e)
is_close r (inr (ok, h)) = plain_close r h

-- ---- what comes next

-- an event came, which opens to the plain one
pub record EventCame (k : EntryKeys) (open_ : List Question) (plain : List Message) (n : Message) (rest : List Message) (e f : Event) (more : List Message) : Type 0 where
  pub told_is : n ≡ messages.Event f
  pub plain_is : plain ≡ messages.Event e ∷ more
  pub opens : IsPlainEvent k.names f e
  pub talks : Talks k open_ more rest

-- a reply came, which is admitted to the plain one for the question that is open the longest
pub record ReplyCame (k : EntryKeys) (open_ : List Question) (plain : List Message) (n : Message) (rest : List Message) (q : Question) (a f : Reply) (others : List Question) (more : List Message) : Type 0 where
  pub told_is : n ≡ messages.Reply f
  pub plain_is : plain ≡ messages.Reply a ∷ more
  pub open_is : open_ ≡ q ∷ others
  pub same_xid : a.xid ≡ q.xid
  pub admits : Admits k q.asked f a None
  pub talks : Talks k others more rest

-- the answer to a connect request came
pub record SessionCame (k : EntryKeys) (open_ : List Question) (plain : List Message) (n : Message) (rest : List Message) (a : ConnectResponse) (more : List Message) : Type 0 where
  pub told_is : n ≡ messages.Connected a
  pub plain_is : plain ≡ messages.Connected a ∷ more
  pub talks : Talks k open_ more rest

pub data Came (k : EntryKeys) (open_ : List Question) (plain : List Message) (n : Message) (rest : List Message) : Type 0 where
  came_event : (e f : Event) (more : List Message) → EventCame k open_ plain n rest e f more → Came k open_ plain n rest
  came_reply : (q : Question) (a f : Reply) (others : List Question) (more : List Message) → ReplyCame k open_ plain n rest q a f others more → Came k open_ plain n rest
  came_session : (a : ConnectResponse) (more : List Message) → SessionCame k open_ plain n rest a more → Came k open_ plain n rest

pub first_is : (m n : Message) (ms ns : List Message) → m ∷ ms ≡ n ∷ ns → n ≡ m
first_is m n ms ns e = cc

pub rest_is : (m n : Message) (ms ns : List Message) → m ∷ ms ≡ n ∷ ns → ms ≡ ns
rest_is m n ms ns e = cc

talks_on : (k : EntryKeys) (qs : List Question) (ms : List Message) (m n : Message) (ns rest : List Message) → m ∷ ns ≡ n ∷ rest → Talks k qs ms ns → Talks k qs ms rest
talks_on k qs ms m n ns rest e h = subst (λ (l : List Message). Talks k qs ms l) (rest_is m n ns rest e) h

-- what comes next is one of these
pub came : (k : EntryKeys) (open_ : List Question) (plain left : List Message) (n : Message) (rest : List Message) → Talks k open_ plain left → left ≡ n ∷ rest → Came k open_ plain n rest
came k open_ plain left n rest silent e = absurd cc
came k open_ plain left n rest (told_event a b qs ms ns i h) e =
    came_event a b ms (record { told_is = first_is (messages.Event b) n ns rest e; plain_is = refl; opens = i; talks = talks_on k qs ms (messages.Event b) n ns rest e h })
came k open_ plain left n rest (told_reply q a b qs ms ns x i h) e =
    came_reply q a b qs ms (record { told_is = first_is (messages.Reply b) n ns rest e; plain_is = refl; open_is = refl; same_xid = x; admits = i; talks = talks_on k qs ms (messages.Reply b) n ns rest e h })
came k open_ plain left n rest (told_session a qs ms ns h) e =
    came_session a ms (record { told_is = first_is (messages.Connected a) n ns rest e; plain_is = refl; talks = talks_on k qs ms (messages.Connected a) n ns rest e h })

-- a list of which one more is done
pub moved : {A : Type 0} (all done left : List A) (x : A) (rest : List A) → all ≡ done ++ left → left ≡ x ∷ rest → all ≡ (done ++ x ∷ []) ++ rest
moved all done left x rest e f = e ∙ ap (λ l. done ++ l) f ∙ sym (append_assoc done (x ∷ []) rest)

-- ---- what a message is

pub is_answer : (r : ConnectResponse) (n : Message) → n ≡ messages.Connected r → IsAnswer n
unfolding IsAnswer
is_answer r n e = subst IsAnswer (sym e) tt

pub reply_answers : (r : Reply) (n : Message) → n ≡ messages.Reply r → IsAnswer n
unfolding IsAnswer
reply_answers r n e = subst IsAnswer (sym e) tt

pub spells_response : (r : ConnectResponse) (n : Message) (body : List ℕ) → n ≡ messages.Connected r → SpellsMessage n body → SpellsConnected r body
unfolding SpellsMessage
spells_response r n body e h = subst (λ (m : Message). SpellsMessage m body) e h

pub spells_event : (f : Event) (n : Message) (body : List ℕ) → n ≡ messages.Event f → SpellsMessage n body → SpellsEvent f body
unfolding SpellsMessage
spells_event f n body e h = subst (λ (m : Message). SpellsMessage m body) e h

pub spells_reply : (f : Reply) (n : Message) (body : List ℕ) → n ≡ messages.Reply f → SpellsMessage n body → IsReply f body
unfolding SpellsMessage
spells_reply f n body e h = subst (λ (m : Message). SpellsMessage m body) e h

pub response_spelled : (r : ConnectResponse) (body : List ℕ) → SpellsConnected r body → SpellsMessage (messages.Connected r) body
unfolding SpellsMessage
response_spelled r body h = h

pub event_spelled : (e : Event) (body : List ℕ) → SpellsEvent e body → SpellsMessage (messages.Event e) body
unfolding SpellsMessage
event_spelled e body h = h

pub reply_spelled : (r : Reply) (body : List ℕ) → IsReply r body → SpellsMessage (messages.Reply r) body
unfolding SpellsMessage
reply_spelled r body h = h

pub no_connected_rest : (n : Message) (rest : List Message) → HasNoConnected (n ∷ rest) → HasNoConnected rest
unfolding HasNoConnected
no_connected_rest (messages.Connected r) rest h = absurd h
no_connected_rest (messages.Event e) rest h = h
no_connected_rest (messages.Reply r) rest h = h

pub not_connected : (n : Message) (rest : List Message) (a : ConnectResponse) → n ≡ messages.Connected a → HasNoConnected (n ∷ rest) → ⊥
unfolding HasNoConnected
not_connected n rest a e h = subst (λ (m : Message). HasNoConnected (m ∷ rest)) e h

pub one_answer : (r : ConnectResponse) (n : Message) → n ≡ messages.Connected r → answers (n ∷ []) ≡ 1
unfolding answers
one_answer r n e = subst (λ (m : Message). answers (m ∷ []) ≡ 1) (sym e) refl

pub reply_answer : (r : Reply) (n : Message) → n ≡ messages.Reply r → answers (n ∷ []) ≡ 1
unfolding answers
reply_answer r n e = subst (λ (m : Message). answers (m ∷ []) ≡ 1) (sym e) refl

pub event_answer : (f : Event) (n : Message) → n ≡ messages.Event f → answers (n ∷ []) ≡ 0
unfolding answers
event_answer f n e = subst (λ (m : Message). answers (m ∷ []) ≡ 0) (sym e) refl

-- what sent first is a connect request of the form of its answer, and what follows was asked
pub begins_asked : (r : ConnectResponse) (qs : List Question) (asked : ConnectRequest) (is more final : List Item) → final ≡ (items.Asks asked ∷ is) ++ more → IsBegun r qs final → IsOfForm asked r × AreAsked qs (is ++ more)
unfolding IsBegun
begins_asked r qs asked is more final e h = subst (IsBegun r qs) e h

pub not_begun : (r : ConnectResponse) (qs : List Question) (xid : ℤ) (request : Request) (is more final : List Item) → final ≡ (items.Requests xid request ∷ is) ++ more → IsBegun r qs final → ⊥
unfolding IsBegun
not_begun r qs xid request is more final e h = subst (IsBegun r qs) e h

pub event_or_response : (g : Event) (r : ConnectResponse) → messages.Event g ≡ messages.Connected r → ⊥
event_or_response g r e = cc

pub reply_or_response : (g : Reply) (r : ConnectResponse) → messages.Reply g ≡ messages.Connected r → ⊥
reply_or_response g r e = cc
