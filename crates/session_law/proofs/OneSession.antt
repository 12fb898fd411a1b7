-- One session over the messages of an honest store: it hands down the first of the plain ones, and finds nothing.
use Rattle.std.proofs.Common.{◌≡◌, ℕ, suc, ℤ, pos, ◌<ℤ◌, List, [], ◌∷◌, ◌++◌, Some, None, length, refl, sym, ap, subst, ◌∙◌, arith, length-append, append_assoc, append-nil}
use Rattle.path_seal.specs.Sealed.{AreKeys}
use Rattle.payload_seal.specs.declared.keys.EntryKeys.{EntryKeys}
use Rattle.zk_records.specs.declared.connect.ConnectResponse.{ConnectResponse}
use Rattle.zk_messages.specs.declared.request.Item.{Item}
use Rattle.tree_state.specs.declared.message.Message.{Message}
use Rattle.tree_state.specs.declared.message.Message.TheVariants as messages
use Rattle.store_side.specs.Messages.{Messages}
use Rattle.sealed_machine.specs.Runs.{Question, Talks, silent, told_event, told_reply, told_session, HasNoConnected}
use Rattle.entry_session.specs.ClientTurns.{ClientTurn, malformed_frame, full_queue, spent_ivs, handed_up}
use Rattle.entry_session.specs.Heard.{Heard, from_client, from_store, bad_client, bad_store, given, store_frames, bad_of_store}
use Rattle.entry_session.specs.Runs.{IsGivenEnding, store_limit, TurnOf, Ran}
use Rattle.entry_session.specs.Sides.{IsSide, EndsAtStore}
use Rattle.entry_session.specs.Stands.{Stand, fresh}
use Rattle.entry_session.specs.declared.ending.Ending.{Ending}
use Rattle.entry_session.specs.declared.ending.Ending.TheVariants as endings
use Rattle.entry_session.proofs.Turns.{SameUp, goes, some_none, end_up, store_up}
use Rattle.session_law.specs.Law.{IsHonestEnd}
use Rattle.session_law.proofs.Answered.{AnswersBehind}
use Rattle.session_law.proofs.Words.{SpellsFront, IsBegun}
use Rattle.session_law.proofs.SessionMessages.{before_spelled}
use Rattle.session_law.proofs.SessionStands.{Reached, reached_at, begins, with_end, client_turn}
use Rattle.session_law.proofs.SessionFrames.{at_frame, store_turn}
use Rattle.session_law.proofs.SessionSides.{whole_frames, front_spelled, honest_length}

-- ---- what was sent before stays in front

Grown : Stand → Stand → Type 0
Grown old new = (more : List Item) × (new.items ≡ old.items ++ more)

not_grown : (old new : Stand) → SameUp old new → Grown old new
unfolding Grown
not_grown old new e = ([], e.items_are ∙ sym (append-nil old.items))

client_grown : (k : EntryKeys) (boot c : ℕ) (old : Stand) (body : List ℕ) (new : Stand) → ClientTurn k boot c old body new → Grown old new
unfolding Grown
client_grown k boot c old body new (malformed_frame refusal f) = ([], sym (append-nil old.items))
client_grown k boot c old body new (full_queue i f g) = ([], sym (append-nil old.items))
client_grown k boot c old body new (spent_ivs i n f g p l) = ([], sym (append-nil old.items))
client_grown k boot c old body new (handed_up i v n out f g p l q o) = (i ∷ [], refl)

turn_grown : (k : EntryKeys) (boot c : ℕ) (old : Stand) (h : Heard) (new : Stand) → TurnOf k boot c old h new → Grown old new
unfolding TurnOf
turn_grown k boot c old (from_client body) new t = client_grown k boot c old body new t.1
turn_grown k boot c old (from_store body) new t = not_grown old new (store_up k c old body new old.items old.answered t.1)
turn_grown k boot c old (bad_client z) new t = not_grown old new (end_up old new _ t.1)
turn_grown k boot c old (bad_store z) new t = not_grown old new (end_up old new _ t.1)
turn_grown k boot c old (given e) new t = not_grown old new (end_up old new e t.1)

grown_on : (old new : Stand) (final more : List Item) → Grown old new → final ≡ new.items ++ more → (rest : List Item) × (final ≡ old.items ++ rest)
unfolding Grown
grown_on old new final more g e = (g.0 ++ more, e ∙ ap (λ (l : List Item). l ++ more) g.1 ∙ append_assoc old.items g.0 more)

-- ---- endings

-- a session that goes on heard no bad length of the store
pub no_bad : (k : EntryKeys) (boot c : ℕ) (hs : List Heard) (s : Stand) (z : ℤ) → Ran k boot c hs s → s.ending ≡ None → bad_of_store hs ≡ Some z → ⊥
unfolding Ran TurnOf bad_of_store
no_bad k boot c [] s z ran going e = some_none z (sym e)
no_bad k boot c (bad_store y ∷ hs) s z (old, ran, t) going e = some_none _ (sym (ap (λ (x : Stand). x.ending) (goes k boot c old (bad_store y) s t).turn.1) ∙ going)
no_bad k boot c (from_client body ∷ hs) s z ran going e = some_none z (sym e)
no_bad k boot c (from_store body ∷ hs) s z ran going e = some_none z (sym e)
no_bad k boot c (bad_client y ∷ hs) s z ran going e = some_none z (sym e)
no_bad k boot c (given n ∷ hs) s z ran going e = some_none z (sym e)

pub given_honest : (e : Ending) → IsGivenEnding e → IsHonestEnd (Some e)
unfolding IsGivenEnding IsHonestEnd
given_honest endings.ClientEnd g = g
given_honest endings.StoreEnd g = g
given_honest endings.ClientFault g = g
given_honest endings.StoreFault g = g
given_honest endings.Turns g = g
given_honest e g = absurd g

pub given_open : (e : Ending) → IsGivenEnding e → e ≡ endings.Closed → ⊥
unfolding IsGivenEnding
given_open e g i = subst IsGivenEnding i g

-- ---- the session

module _ (k : EntryKeys) (boot c : ℕ) (w : AreKeys k.names) (r : ConnectResponse) (qs : List Question) (ms ns : List Message) (quiet : HasNoConnected ns) (final : List Item) (begun : IsBegun r qs final) where
  turn_reached : (hs : List Heard) (old : Stand) (h : Heard) (new : Stand) (more : List Item) → final ≡ old.items ++ more → SpellsFront (messages.Connected r ∷ ns) (store_frames (h ∷ hs)) → AnswersBehind (messages.Connected r ∷ ns) (h ∷ hs)
      → ((z : ℤ) → bad_of_store (h ∷ hs) ≡ Some z → pos store_limit <ℤ z) → old.ending ≡ None → TurnOf k boot c old h new → Reached k r qs ms ns hs old → Reached k r qs ms ns (h ∷ hs) new
  unfolding TurnOf AnswersBehind store_frames bad_of_store IsHonestEnd
  turn_reached hs old (from_client body) new more fin sp behind long going t x = client_turn k boot c r qs ms ns hs old body new going t.1 x
  turn_reached hs old (from_store body) new more fin sp behind long going t x =
      store_turn k w c r qs ms ns hs old body final quiet old.items old.answered new (at_frame k r qs ms ns hs old body final more x going sp behind.0 begun fin) refl refl t.1
  turn_reached hs old (bad_client z) new more fin sp behind long going t x = reached_at k r qs ms ns (bad_client z ∷ hs) _ new t.1 (with_end k r qs ms ns hs old (endings.ClientTooLong z) (bad_client z) tt (λ e. absurd cc) refl x)
  turn_reached hs old (bad_store z) new more fin sp behind long going t x = reached_at k r qs ms ns (bad_store z ∷ hs) _ new t.1 (with_end k r qs ms ns hs old (endings.StoreTooLong z) (bad_store z) (long z refl) (λ e. absurd cc) refl x)
  turn_reached hs old (given e) new more fin sp behind long going t x = reached_at k r qs ms ns (given e ∷ hs) _ new t.1 (with_end k r qs ms ns hs old e (given e) (given_honest e t.0) (given_open e t.0) refl x)

  behind_before : (h : Heard) (hs : List Heard) → AnswersBehind (messages.Connected r ∷ ns) (h ∷ hs) → AnswersBehind (messages.Connected r ∷ ns) hs
  unfolding AnswersBehind
  behind_before (from_client body) hs b = b
  behind_before (from_store body) hs b = b.1
  behind_before (bad_client z) hs b = b
  behind_before (bad_store z) hs b = b
  behind_before (given e) hs b = b

  front_before : (h : Heard) (hs : List Heard) → SpellsFront (messages.Connected r ∷ ns) (store_frames (h ∷ hs)) → SpellsFront (messages.Connected r ∷ ns) (store_frames hs)
  unfolding store_frames
  front_before (from_client body) hs b = b
  front_before (from_store body) hs b = before_spelled _ (store_frames hs) body b
  front_before (bad_client z) hs b = b
  front_before (bad_store z) hs b = b
  front_before (given e) hs b = b

  -- whatever the session heard, of these messages and of its client, it stands where the plain messages lead it
  pub one_session : Talks k qs ms ns → (hs : List Heard) (s : Stand) (more : List Item) → Ran k boot c hs s → SpellsFront (messages.Connected r ∷ ns) (store_frames hs) → AnswersBehind (messages.Connected r ∷ ns) hs
      → ((z : ℤ) → bad_of_store hs ≡ Some z → pos store_limit <ℤ z) → final ≡ s.items ++ more → Reached k r qs ms ns hs s
  unfolding Ran
  one_session talks [] s more ran sp behind long fin = reached_at k r qs ms ns [] fresh s ran (begins k r qs ms ns talks)
  one_session talks (h ∷ hs) s more (old, ran, t) sp behind long fin =
      let g = goes k boot c old h s t in
      let n = grown_on old s final more (turn_grown k boot c old h s g.turn) fin in
      turn_reached hs old h s n.0 n.1 sp behind long g.going g.turn
      (one_session talks hs old n.0 ran (front_before h hs sp) (behind_before h hs behind) (λ z e. absurd (no_bad k boot c hs old z ran g.going e)) n.1)

-- the same from the bytes of the store's side
pub reached : (k : EntryKeys) (boot c : ℕ) → AreKeys k.names → (r : ConnectResponse) (qs : List Question) (ms ns told : List Message) (hs : List Heard) (s : Stand) (pulled waiting : List ℕ) → told ≡ messages.Connected r ∷ ns → Talks k qs ms ns → HasNoConnected ns
    → Ran k boot c hs s → IsBegun r qs s.items → Messages told (pulled ++ waiting) → IsSide store_limit (store_frames hs) (bad_of_store hs) (EndsAtStore s.ending hs) pulled → AnswersBehind told hs → Reached k r qs ms ns hs s
reached k boot c w r qs ms ns told hs s pulled waiting is talks quiet ran begun spelled side behind =
    let whole = whole_frames k boot c hs s ran in
    one_session k boot c w r qs ms ns quiet s.items begun talks hs s [] ran
    (subst (λ (l : List Message). SpellsFront l (store_frames hs)) is (front_spelled told (store_frames hs) (bad_of_store hs) (EndsAtStore s.ending hs) pulled waiting whole spelled side))
    (subst (λ (l : List Message). AnswersBehind l hs) is behind)
    (honest_length told (store_frames hs) (bad_of_store hs) (EndsAtStore s.ending hs) pulled waiting whole spelled side)
    (sym (append-nil s.items))

-- ---- all of them

as_long : (k : EntryKeys) (qs : List Question) (ms ns : List Message) → Talks k qs ms ns → length ms ≡ length ns
as_long k qs ms ns silent = refl
as_long k qs ms ns (told_event e f a ms' ns' i t) = ap suc (as_long k a ms' ns' t)
as_long k qs ms ns (told_reply q r f a ms' ns' x i t) = ap suc (as_long k a ms' ns' t)
as_long k qs ms ns (told_session r a ms' ns' t) = ap suc (as_long k a ms' ns' t)

empty_left : {A : Type 0} (xs : List A) → length xs ≡ 0 → xs ≡ []
empty_left [] e = refl
empty_left (x ∷ xs) e = absurd (omega (arith, e))

-- where it heard as many frames as there are messages, none is left on either side
pub none_left : (k : EntryKeys) (r : ConnectResponse) (qs : List Question) (ms ns : List Message) (hs : List Heard) (s : Stand) (x : Reached k r qs ms ns hs s) → length (messages.Connected r ∷ ns) ≡ length (store_frames hs) → (x.left ≡ []) × (x.plain_left ≡ [])
none_left k r qs ms ns hs s x all =
    let none : length x.left ≡ 0 = omega (arith, ap length x.told_is, length-append x.done x.left, x.come, all) in
    (empty_left x.left none, empty_left x.plain_left (as_long k x.open_ x.plain_left x.left x.talks ∙ none))
