-- Where one session stands that hears the messages of an honest store, and what the frames of its client leave of that.
use Rattle.std.proofs.Common.{◌≡◌, ℕ, zero, suc, ℤ, ◌+◌, ◌≤◌, List, [], ◌∷◌, ◌++◌, Some, None, length, refl, sym, ap, subst, ◌∙◌, arith, length-append}
use Rattle.payload_seal.specs.declared.keys.EntryKeys.{EntryKeys}
use Rattle.zk_records.specs.declared.connect.ConnectResponse.{ConnectResponse}
use Rattle.zk_messages.specs.declared.reply.Reply.{Reply}
use Rattle.zk_messages.specs.declared.request.Item.{Item}
use Rattle.zk_messages.specs.declared.request.Item.TheVariants as items
use Rattle.zk_messages.specs.declared.request.Request.TheVariants as requests
use Rattle.request_queue.specs.declared.asked.Asked.TheVariants as asks
use Rattle.tree_state.specs.declared.message.Message.{Message}
use Rattle.tree_state.specs.declared.message.Message.TheVariants as messages
use Rattle.store_side.specs.Messages.{SpellsMessage}
use Rattle.store_side.specs.Zips.{Zips}
use Rattle.sealed_machine.specs.Runs.{Question, Talks, told_session, HasNoConnected}
use Rattle.entry_session.specs.ClientTurns.{ClientTurn, malformed_frame, full_queue, spent_ivs, handed_up}
use Rattle.entry_session.specs.Heard.{Heard, from_client, client_frames, store_frames}
use Rattle.entry_session.specs.Stands.{Stand, fresh, ends}
use Rattle.entry_session.specs.declared.ending.Ending.{Ending}
use Rattle.entry_session.specs.declared.ending.Ending.TheVariants as endings
use Rattle.entry_session.proofs.Turns.{some_none}
use Rattle.session_law.specs.Law.{IsHonestEnd}
use Rattle.session_law.proofs.Answered.{answers}

-- before the connect request is answered, and after
unfoldable pub At : ConnectResponse → List Message → List Question → List Message → ℕ → Type 0
At r ns done left zero = (left ≡ messages.Connected r ∷ ns) × (done ≡ [])
At r ns done left (suc n) = HasNoConnected left × (n ≡ length done)

-- A closed session: the last of the items that were answered is a closeSession, it was asked last, and its reply came last.
pub record IsClosed (answered : List Question) (plain_done done : List Message) (s : Stand) : Type 0 where
  pub before : List Item
  pub xid : ℤ
  pub after : List Item
  pub items_are : s.items ≡ before ++ items.Requests xid requests.Close ∷ after
  pub count : s.answered ≡ suc (length before)
  pub asked_before : List Question
  pub last : Question
  pub asked_are : answered ≡ asked_before ++ last ∷ []
  pub closes : last.asked ≡ asks.Close
  pub told_before : List Message
  pub stored : Reply
  pub told_are : done ≡ told_before ++ messages.Reply stored ∷ []
  pub plain_before : List Message
  pub reply : Reply
  pub plain_are : plain_done ≡ plain_before ++ messages.Reply reply ∷ []

-- The messages that came and those to come, on both sides, and the questions that were answered and those that are open.
pub record Reached (k : EntryKeys) (r : ConnectResponse) (qs : List Question) (ms ns : List Message) (hs : List Heard) (s : Stand) : Type 0 where
  pub answered : List Question
  pub open_ : List Question
  pub plain_done : List Message
  pub plain_left : List Message
  pub done : List Message
  pub left : List Message
  pub asked_is : qs ≡ answered ++ open_
  pub plain_is : messages.Connected r ∷ ms ≡ plain_done ++ plain_left
  pub told_is : messages.Connected r ∷ ns ≡ done ++ left
  pub talks : Talks k open_ plain_left left
  pub at : At r ns answered left s.answered
  pub counted : answers done ≡ s.answered
  pub within : s.answered ≤ length s.items
  pub come : length done ≡ length (store_frames hs)
  pub sent : s.ending ≡ None → length s.items ≡ length (client_frames hs)
  pub down : Zips SpellsMessage plain_done s.down
  pub none : s.findings ≡ []
  pub honest : IsHonestEnd s.ending
  pub closed : s.ending ≡ Some endings.Closed → IsClosed answered plain_done done s

pub one_more : {A : Type 0} (xs : List A) (x : A) → length (xs ++ x ∷ []) ≡ length xs + 1
one_more xs x = length-append xs (x ∷ [])

pub reached_at : (k : EntryKeys) (r : ConnectResponse) (qs : List Question) (ms ns : List Message) (hs : List Heard) (s t : Stand) → t ≡ s → Reached k r qs ms ns hs s → Reached k r qs ms ns hs t
reached_at k r qs ms ns hs s t e x = subst (λ (u : Stand). Reached k r qs ms ns hs u) (sym e) x

-- before anything was heard
pub begins : (k : EntryKeys) (r : ConnectResponse) (qs : List Question) (ms ns : List Message) → Talks k qs ms ns → Reached k r qs ms ns [] fresh
unfolding At store_frames client_frames answers Zips IsHonestEnd
begins k r qs ms ns h = record {
  answered = [];
  open_ = qs;
  plain_done = [];
  plain_left = messages.Connected r ∷ ms;
  done = [];
  left = messages.Connected r ∷ ns;
  asked_is = refl;
  plain_is = refl;
  told_is = refl;
  talks = told_session r qs ms ns h;
  at = (refl, refl);
  counted = refl;
  within = omega arith;
  come = refl;
  sent = λ e. refl;
  down = tt;
  none = refl;
  honest = tt;
  closed = λ e. absurd (some_none _ (sym e));
}

-- an ending that no frame of the store brought
pub with_end : (k : EntryKeys) (r : ConnectResponse) (qs : List Question) (ms ns : List Message) (hs : List Heard) (old : Stand) (e : Ending) (h : Heard) → IsHonestEnd (Some e) → (e ≡ endings.Closed → ⊥) → store_frames (h ∷ hs) ≡ store_frames hs
    → Reached k r qs ms ns hs old → Reached k r qs ms ns (h ∷ hs) (ends old e)
with_end k r qs ms ns hs old e h honest other same x = record {
  answered = x.answered;
  open_ = x.open_;
  plain_done = x.plain_done;
  plain_left = x.plain_left;
  done = x.done;
  left = x.left;
  asked_is = x.asked_is;
  plain_is = x.plain_is;
  told_is = x.told_is;
  talks = x.talks;
  at = x.at;
  counted = x.counted;
  within = x.within;
  come = x.come ∙ sym (ap length same);
  sent = λ f. absurd (some_none e f);
  down = x.down;
  none = x.none;
  honest = honest;
  closed = λ f. absurd (other (some_same e endings.Closed f));
}
  where
    some_same : (a b : Ending) → Some a ≡ Some b → a ≡ b
    some_same a b e = cc

-- a frame of the client
pub client_turn : (k : EntryKeys) (boot c : ℕ) (r : ConnectResponse) (qs : List Question) (ms ns : List Message) (hs : List Heard) (old : Stand) (body : List ℕ) (new : Stand) → old.ending ≡ None → ClientTurn k boot c old body new → Reached k r qs ms ns hs old → Reached k r qs ms ns (from_client body ∷ hs) new
unfolding IsHonestEnd store_frames client_frames
client_turn k boot c r qs ms ns hs old body new none (malformed_frame refusal f) x = with_end k r qs ms ns hs old (endings.ClientMalformed refusal) (from_client body) tt (λ e. absurd cc) refl x
client_turn k boot c r qs ms ns hs old body new none (full_queue i f g) x = with_end k r qs ms ns hs old (endings.QueueFull _) (from_client body) tt (λ e. absurd cc) refl x
client_turn k boot c r qs ms ns hs old body new none (spent_ivs i n f g p l) x = with_end k r qs ms ns hs old endings.IvSpent (from_client body) tt (λ e. absurd cc) refl x
client_turn k boot c r qs ms ns hs old body new none (handed_up i v n out f g p l q o) x = record {
  answered = x.answered;
  open_ = x.open_;
  plain_done = x.plain_done;
  plain_left = x.plain_left;
  done = x.done;
  left = x.left;
  asked_is = x.asked_is;
  plain_is = x.plain_is;
  told_is = x.told_is;
  talks = x.talks;
  at = x.at;
  counted = x.counted;
  within = omega (arith, x.within, one_more old.items i);
  come = x.come;
  sent = λ e. omega (arith, x.sent none, one_more old.items i, one_more (client_frames hs) body);
  down = x.down;
  none = x.none;
  honest = x.honest;
  closed = λ e. absurd (some_none endings.Closed (sym e ∙ none));
}

-- ---- how far the answers are

pub at_first : (r : ConnectResponse) (ns : List Message) (answered : List Question) (left : List Message) (m : ℕ) → m ≡ 0 → At r ns answered left m → (left ≡ messages.Connected r ∷ ns) × (answered ≡ [])
unfolding At
at_first r ns answered left zero e h = h
at_first r ns answered left (suc m) e h = absurd (omega (arith, e))

pub at_later : (r : ConnectResponse) (ns : List Message) (answered : List Question) (left : List Message) (m n : ℕ) → m ≡ suc n → At r ns answered left m → HasNoConnected left × (n ≡ length answered)
unfolding At
at_later r ns answered left zero n e h = absurd (omega (arith, e))
at_later r ns answered left (suc m) n e h = (h.0, omega (arith, e, h.1))

pub later_at : (r : ConnectResponse) (ns : List Message) (answered : List Question) (left : List Message) (m : ℕ) → HasNoConnected left → m ≡ suc (length answered) → At r ns answered left m
unfolding At
later_at r ns answered left zero h e = absurd (omega (arith, e))
later_at r ns answered left (suc m) h e = (h, omega (arith, e))
