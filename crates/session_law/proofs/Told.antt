-- What a session of an orderly connection handed down.
use Rattle.std.proofs.Common.{◌≡◌, ℕ, List, [], ◌∷◌, ◌++◌, Some, length, refl, sym, ap, subst, ◌∙◌}
use Rattle.path_seal.specs.Sealed.{AreKeys}
use Rattle.payload_seal.specs.declared.keys.EntryKeys.{EntryKeys}
use Rattle.request_queue.specs.declared.asked.Asked.TheVariants as asks
use Rattle.zk_records.specs.declared.connect.ConnectResponse.{ConnectResponse}
use Rattle.zk_messages.specs.declared.reply.Event.{Event}
use Rattle.zk_messages.specs.declared.reply.Reply.{Reply}
use Rattle.tree_state.specs.declared.message.Message.{Message}
use Rattle.tree_state.specs.declared.message.Message.TheVariants as messages
use Rattle.tree_state.specs.State.{start}
use Rattle.tree_state.specs.Plain.{plain}
use Rattle.tree_state.specs.Step.{Act}
use Rattle.store_side.specs.Messages.{SpellsMessage, Messages}
use Rattle.store_side.specs.Out.{out}
use Rattle.store_side.proofs.Zipping.{Zips}
use Rattle.sealed_machine.specs.Runs.{Question, Talks, silent, told_event, told_reply, told_session, all_asked, HasNoConnected}
use Rattle.entry_session.specs.declared.ending.Ending.TheVariants as endings
use Rattle.entry_session.specs.Heard.{Heard, store_frames, bad_of_store}
use Rattle.entry_session.specs.Runs.{Ran, store_limit}
use Rattle.entry_session.specs.Sides.{IsSide, EndsAtStore}
use Rattle.entry_session.specs.Stands.{Stand}
use Rattle.session_law.specs.Law.{IsHonestEnd}
use Rattle.session_law.proofs.Answered.{AnswersBehind}
use Rattle.session_law.proofs.Words.{IsOrderly, unheard, heard}
use Rattle.session_law.proofs.SessionStands.{Reached}
use Rattle.session_law.proofs.SessionUnheard.{Unheard, unheard as unheard_session}
use Rattle.session_law.proofs.OneSession.{reached, none_left}

-- ---- what was told

-- a closed session: the last that it asked, of what was answered, is a closeSession
pub record IsLastClosed (k : EntryKeys) (qs : List Question) (left : List Message) : Type 0 where
  pub before : List Question
  pub last : Question
  pub open_ : List Question
  pub closes : last.asked ≡ asks.Close
  pub asked : qs ≡ (before ++ last ∷ []) ++ open_
  pub to_come : List Message
  pub talks : Talks k open_ left to_come

-- of the plain messages and of those that the store told, with what was heard
pub record IsTold (k : EntryKeys) (qs : List Question) (plain_messages told : List Message) (hs : List Heard) (s : Stand) : Type 0 where
  pub done : List Message
  pub left : List Message
  pub front : plain_messages ≡ done ++ left
  pub down : Zips SpellsMessage done s.down
  pub none : s.findings ≡ []
  pub honest : IsHonestEnd s.ending
  pub all : length told ≡ length (store_frames hs) → left ≡ []
  pub closed : s.ending ≡ Some endings.Closed → IsLastClosed k qs left

-- ---- a session to which nothing came

told_nothing : (k : EntryKeys) (qs : List Question) (ms told : List Message) → Talks k qs ms told → ms ≡ [] → told ≡ []
told_nothing k qs ms told silent e = refl
told_nothing k qs ms told (told_event a b q ms' ns' i t) e = absurd cc
told_nothing k qs ms told (told_reply q a b qs' ms' ns' x i t) e = absurd cc
told_nothing k qs ms told (told_session a q ms' ns' t) e = absurd cc

unheard_told : (k : EntryKeys) (qs : List Question) (ms told : List Message) (hs : List Heard) (s : Stand) → ms ≡ [] → Unheard s → IsTold k qs ms told hs s
unfolding Zips
unheard_told k qs ms told hs s e h = record {
  done = [];
  left = [];
  front = e;
  down = subst (λ (l : List (List ℕ)). Zips SpellsMessage [] l) (sym h.down) tt;
  none = h.none;
  honest = h.honest;
  all = λ f. refl;
  closed = λ f. absurd (h.not_closed f);
}

-- ---- a session that was answered

-- what the store tells, where the plain machine first answers the connect request
record Begins (k : EntryKeys) (r : ConnectResponse) (qs : List Question) (ms told : List Message) : Type 0 where
  rest : List Message
  told_is : told ≡ messages.Connected r ∷ rest
  talks : Talks k qs ms rest
  quiet : HasNoConnected rest

quiet_told : (k : EntryKeys) (qs : List Question) (ms ns : List Message) → Talks k qs ms ns → HasNoConnected ms → HasNoConnected ns
unfolding HasNoConnected
quiet_told k qs ms ns silent h = h
quiet_told k qs ms ns (told_event e f a ms' ns' i t) h = quiet_told k a ms' ns' t h
quiet_told k qs ms ns (told_reply q r f a ms' ns' x i t) h = quiet_told k a ms' ns' t h
quiet_told k qs ms ns (told_session r a ms' ns' t) h = absurd h

event_first : (a : Event) (r : ConnectResponse) (ms' ms : List Message) → messages.Event a ∷ ms' ≡ messages.Connected r ∷ ms → ⊥
event_first a r ms' ms e = cc

reply_first : (a : Reply) (r : ConnectResponse) (ms' ms : List Message) → messages.Reply a ∷ ms' ≡ messages.Connected r ∷ ms → ⊥
reply_first a r ms' ms e = cc

response_first : (a r : ConnectResponse) (ms' ms : List Message) → messages.Connected a ∷ ms' ≡ messages.Connected r ∷ ms → a ≡ r
response_first a r ms' ms e = cc

messages_rest : (a r : ConnectResponse) (ms' ms : List Message) → messages.Connected a ∷ ms' ≡ messages.Connected r ∷ ms → ms' ≡ ms
messages_rest a r ms' ms e = cc

begins_with : (k : EntryKeys) (r : ConnectResponse) (qs : List Question) (all ms told : List Message) → Talks k qs all told → all ≡ messages.Connected r ∷ ms → HasNoConnected ms → Begins k r qs ms told
begins_with k r qs all ms told silent e h = absurd cc
begins_with k r qs all ms told (told_event a b q ms' ns' i t) e h = absurd (event_first a r ms' ms e)
begins_with k r qs all ms told (told_reply q a b qs' ms' ns' x i t) e h = absurd (reply_first a r ms' ms e)
begins_with k r qs all ms told (told_session a q ms' ns' t) e h =
    let same : a ≡ r = response_first a r ms' ms e in
    let rest : ms' ≡ ms = messages_rest a r ms' ms e in
    record {
      rest = ns';
      told_is = ap (λ (x : ConnectResponse). messages.Connected x ∷ ns') same;
      talks = subst (λ (l : List Message). Talks k q l ns') rest t;
      quiet = quiet_told k q ms' ns' t (subst HasNoConnected (sym rest) h);
    }

reached_told : (k : EntryKeys) (r : ConnectResponse) (qs : List Question) (ms ns all told : List Message) (hs : List Heard) (s : Stand) → all ≡ messages.Connected r ∷ ms → told ≡ messages.Connected r ∷ ns → Reached k r qs ms ns hs s → IsTold k qs all told hs s
reached_told k r qs ms ns all told hs s e f x = record {
  done = x.plain_done;
  left = x.plain_left;
  front = e ∙ x.plain_is;
  down = x.down;
  none = x.none;
  honest = x.honest;
  all = λ count. (none_left k r qs ms ns hs s x (sym (ap length f) ∙ count)).1;
  closed = λ g. let h = x.closed g in record {
    before = h.asked_before;
    last = h.last;
    open_ = x.open_;
    closes = h.closes;
    asked = x.asked_is ∙ ap (λ (l : List Question). l ++ x.open_) h.asked_are;
    to_come = x.left;
    talks = x.talks;
  };
}

-- what each session of an orderly connection was told, over what the store told and what of its bytes was pulled
pub orderly_told : (k : EntryKeys) (boot c : ℕ) → AreKeys k.names → (acts : List Act) (told : List Message) (hs : List Heard) (s : Stand) (pulled waiting : List ℕ) → Talks k (all_asked c start acts) (out plain acts c) told → Ran k boot c hs s → Messages told (pulled ++ waiting)
    → IsSide store_limit (store_frames hs) (bad_of_store hs) (EndsAtStore s.ending hs) pulled → AnswersBehind told hs → IsOrderly c acts s.items → IsTold k (all_asked c start acts) (out plain acts c) told hs s
orderly_told k boot c w acts told hs s pulled waiting t ran spelled side behind (unheard e) =
    unheard_told k (all_asked c start acts) (out plain acts c) told hs s e (unheard_session k boot c told hs s pulled waiting (told_nothing k _ _ told t e) ran spelled side)
orderly_told k boot c w acts told hs s pulled waiting t ran spelled side behind (heard r ms e quiet begun) =
    let b = begins_with k r _ _ ms told t e quiet in
    reached_told k r (all_asked c start acts) ms b.rest (out plain acts c) told hs s e b.told_is
    (reached k boot c w r (all_asked c start acts) ms b.rest told hs s pulled waiting b.told_is b.talks b.quiet ran begun spelled side behind)
