-- Frames of the store come after what it had taken when it sent them; so each answer comes after what it answers.
use Rattle.std.proofs.Common.{◌≡◌, ◌≤◌, ◌<◌, ℕ, suc, ℤ, ◌+◌, List, [], ◌∷◌, ◌++◌, length, refl, sym, ap, subst, ◌∙◌, arith}
use Rattle.std.specs.Prelude.{map}
use Rattle.path_seal.specs.Sealed.{AreKeys}
use Rattle.payload_seal.specs.declared.keys.EntryKeys.{EntryKeys}
use Rattle.counter_enclave.specs.Enclave.{IsSealedName}
use Rattle.tree_state.specs.declared.message.Message.{Message}
use Rattle.tree_state.specs.declared.message.Message.TheVariants as messages
use Rattle.tree_state.specs.State.{State}
use Rattle.tree_state.specs.Trees.{IsNaming}
use Rattle.tree_state.specs.Plain.{plain}
use Rattle.tree_state.specs.Changes.{Naming}
use Rattle.tree_state.specs.Step.{Act, connects, asks as asking, loses, expires, step}
use Rattle.store_side.specs.Out.{outputs, to_connection}
use Rattle.store_side.specs.Follows.{ShowsMessage}
use Rattle.store_side.proofs.Zipping.{Zips}
use Rattle.sealed_machine.specs.Runs.{Question, Matches, nothing, seen_event, seen_reply, seen_session}
use Rattle.sealed_machine.proofs.Connections.{step_match}
use Rattle.store_side.proofs.Appended.{to_connection-append}
use Rattle.sealed_machine.proofs.SealedStates.{IsSealedState}
use Rattle.sealed_machine.proofs.SealedSteps.{VeilsAct, step_sealed}
use Rattle.entry_session.specs.Heard.{Heard, from_client, from_store, bad_client, bad_store, given}
use Rattle.session_law.specs.Law.{sent_by, taken_at, AreBehind}
use Rattle.session_law.proofs.Answered.{answers, IsAnswer, AnswersBehind}
use Rattle.session_law.proofs.AnswersEach.{step_answers}
use Rattle.session_law.proofs.Orders.{Entry, IsAct, LegalFrom}

-- each answer among the messages has a count above the number of answers before it, of which there are `a` before the list
unfoldable OnTime : ℕ → List ℕ → List Message → Type 0
OnTime a [] [] = Unit {0}
OnTime a [] (m ∷ ms) = ⊥
OnTime a (n ∷ ns) [] = ⊥
OnTime a (n ∷ ns) (messages.Event e ∷ ms) = OnTime a ns ms
OnTime a (n ∷ ns) (messages.Reply r ∷ ms) = (a < n) × OnTime (suc a) ns ms
OnTime a (n ∷ ns) (messages.Connected r ∷ ms) = (a < n) × OnTime (suc a) ns ms

-- with one count for all
same_count : (a n : ℕ) (ms : List Message) → a + answers ms ≤ n → OnTime a (map (λ (m : Message). n) ms) ms
unfolding OnTime answers
same_count a n [] h = tt
same_count a n (messages.Event e ∷ ms) h = same_count a n ms h
same_count a n (messages.Reply r ∷ ms) h = (omega (arith, h), same_count (suc a) n ms (omega (arith, h)))
same_count a n (messages.Connected r ∷ ms) h = (omega (arith, h), same_count (suc a) n ms (omega (arith, h)))

one_later : (a b : ℕ) → a + suc b ≡ suc a + b
one_later a b = omega arith

none_later : (a : ℕ) → a + 0 ≡ a
none_later a = omega arith

both_on_time : (a : ℕ) (ns ps : List ℕ) (ms us : List Message) → OnTime a ns ms → OnTime (a + answers ms) ps us → OnTime a (ns ++ ps) (ms ++ us)
unfolding OnTime answers
both_on_time a [] ps [] us h j = subst (λ (n : ℕ). OnTime n ps us) (none_later a) j
both_on_time a [] ps (m ∷ ms) us h j = absurd h
both_on_time a (n ∷ ns) ps [] us h j = absurd h
both_on_time a (n ∷ ns) ps (messages.Event e ∷ ms) us h j = both_on_time a ns ps ms us h j
both_on_time a (n ∷ ns) ps (messages.Reply r ∷ ms) us h j = (h.0, both_on_time (suc a) ns ps ms us h.1 (subst (λ (n : ℕ). OnTime n ps us) (one_later a (answers ms)) j))
both_on_time a (n ∷ ns) ps (messages.Connected r ∷ ms) us h j = (h.0, both_on_time (suc a) ns ps ms us h.1 (subst (λ (n : ℕ). OnTime n ps us) (one_later a (answers ms)) j))

-- a run tells each answer when its question was taken
run_on_time : (c : ℕ) (naming : Naming) (passwords : ℤ → List ℕ) (es : List Entry) (fs : List Act) (s : State) (n a : ℕ) → Zips IsAct es fs → LegalFrom naming passwords s es fs → a ≤ n
    → OnTime a (taken_at naming s c n fs) (to_connection c (outputs naming s fs))
unfolding Zips LegalFrom outputs taken_at to_connection OnTime
run_on_time c naming passwords [] [] s n a z l le = tt
run_on_time c naming passwords [] (f ∷ fs) s n a z l le = absurd z
run_on_time c naming passwords (e ∷ es) [] s n a z l le = absurd z
run_on_time c naming passwords (e ∷ es) (f ∷ fs) s n a z l le =
    let ms = to_connection c (step naming s f).outputs in
    let same : answers ms ≡ sent_by c f = step_answers c naming passwords s e f z.0 l.0.may in
    subst (OnTime a (map (λ (m : Message). n + sent_by c f) ms ++ taken_at naming (step naming s f).state c (n + sent_by c f) fs)) (sym (to_connection-append c (step naming s f).outputs (outputs naming (step naming s f).state fs)))
    (both_on_time a _ _ ms _ (same_count a (n + sent_by c f) ms (omega (arith, le, same)))
    (run_on_time c naming passwords es fs (step naming s f).state (n + sent_by c f) (a + answers ms) z.1 l.1 (omega (arith, le, same))))

-- and so does a store that shows these
shown_on_time : (a : ℕ) (ns : List ℕ) (ms told : List Message) → Zips ShowsMessage ms told → OnTime a ns ms → OnTime a ns told
unfolding Zips ShowsMessage OnTime
shown_on_time a ns [] [] z h = h
shown_on_time a ns [] (t ∷ told) z h = absurd z
shown_on_time a ns (m ∷ ms) [] z h = absurd z
shown_on_time a [] (m ∷ ms) (t ∷ told) z h = absurd h
shown_on_time a (n ∷ ns) (messages.Event e ∷ ms) (t ∷ told) z h = subst (λ (x : Message). OnTime a (n ∷ ns) (x ∷ told)) (sym z.0) (shown_on_time a ns ms told z.1 h)
shown_on_time a (n ∷ ns) (messages.Connected r ∷ ms) (t ∷ told) z h = subst (λ (x : Message). OnTime a (n ∷ ns) (x ∷ told)) (sym z.0) (h.0, shown_on_time (suc a) ns ms told z.1 h.1)
shown_on_time a (n ∷ ns) (messages.Reply r ∷ ms) (messages.Reply t ∷ told) z h = (h.0, shown_on_time (suc a) ns ms told z.1 h.1)
shown_on_time a (n ∷ ns) (messages.Reply r ∷ ms) (messages.Event t ∷ told) z h = absurd z.0
shown_on_time a (n ∷ ns) (messages.Reply r ∷ ms) (messages.Connected t ∷ told) z h = absurd z.0

-- the count of one answer
record CountOf (a : ℕ) (ns : List ℕ) (done : List Message) : Type 0 where
  before : List ℕ
  n : ℕ
  after : List ℕ
  is : ns ≡ before ++ n ∷ after
  many : length before ≡ length done
  above : a + answers done < n

next_count : (a b n : ℕ) (ns : List ℕ) (d : Message) (done : List Message) → b + answers done ≡ a + answers (d ∷ done) → CountOf b ns done → CountOf a (n ∷ ns) (d ∷ done)
next_count a b n ns d done e x = record { before = n ∷ x.before; n = x.n; after = x.after; is = ap (λ (l : List ℕ). n ∷ l) x.is; many = ap suc x.many; above = omega (arith, e, x.above) }

first_count : (a n : ℕ) (ns : List ℕ) → a < n → CountOf a (n ∷ ns) []
unfolding answers
first_count a n ns h = record { before = []; n = n; after = ns; is = refl; many = refl; above = omega (arith, h) }

count_of : (a : ℕ) (ns : List ℕ) (done : List Message) (m : Message) (left : List Message) → OnTime a ns (done ++ m ∷ left) → IsAnswer m → CountOf a ns done
unfolding OnTime IsAnswer answers
count_of a [] [] m left h i = absurd h
count_of a (n ∷ ns) [] (messages.Event e) left h i = absurd i
count_of a (n ∷ ns) [] (messages.Reply r) left h i = first_count a n ns h.0
count_of a (n ∷ ns) [] (messages.Connected r) left h i = first_count a n ns h.0
count_of a [] (d ∷ done) m left h i = absurd h
count_of a (n ∷ ns) (messages.Event e ∷ done) m left h i = next_count a a n ns (messages.Event e) done refl (count_of a ns done m left h i)
count_of a (n ∷ ns) (messages.Reply r ∷ done) m left h i = next_count a (suc a) n ns (messages.Reply r) done (sym (one_later a (answers done))) (count_of (suc a) ns done m left h.1 i)
count_of a (n ∷ ns) (messages.Connected r ∷ done) m left h i = next_count a (suc a) n ns (messages.Connected r) done (sym (one_later a (answers done))) (count_of (suc a) ns done m left h.1 i)

answers_behind : (counts : List ℕ) (told : List Message) (hs : List Heard) → OnTime 0 counts told → AreBehind counts hs → AnswersBehind told hs
unfolding AreBehind AnswersBehind
answers_behind counts told [] h b = tt
answers_behind counts told (from_store body ∷ hs) h b = (
  (λ done left m e same answer.
      let p = count_of 0 counts done m left (subst (OnTime 0 counts) e h) answer in
      omega (arith, b.0 p.before p.after p.n p.is (p.many ∙ same), p.above)),
  answers_behind counts told hs h b.1,
)
answers_behind counts told (from_client body ∷ hs) h b = answers_behind counts told hs h b
answers_behind counts told (bad_client z ∷ hs) h b = answers_behind counts told hs h b
answers_behind counts told (bad_store z ∷ hs) h b = answers_behind counts told hs h b
answers_behind counts told (given e ∷ hs) h b = answers_behind counts told hs h b

pub told_behind : (c : ℕ) (naming : Naming) (passwords : ℤ → List ℕ) (es : List Entry) (fs : List Act) (s : State) (told : List Message) (hs : List Heard) → Zips IsAct es fs → LegalFrom naming passwords s es fs
    → Zips ShowsMessage (to_connection c (outputs naming s fs)) told → AreBehind (taken_at naming s c 0 fs) hs → AnswersBehind told hs
told_behind c naming passwords es fs s told hs z l shown b =
    answers_behind _ told hs (shown_on_time 0 _ _ told shown (run_on_time c naming passwords es fs s 0 0 z l (omega arith))) b

-- ---- both machines send each message at the same act

same_sent : (k : EntryKeys) (c : ℕ) (f g : Act) → VeilsAct k f g → sent_by c f ≡ sent_by c g
unfolding VeilsAct sent_by
same_sent k c (asking d xid a now) (asking e other b then_) v = ap (λ (n : ℕ). sent_by c (asking n xid a now)) v.0
same_sent k c (asking d xid a now) (connects e asked session then_) v = absurd v
same_sent k c (asking d xid a now) (loses e) v = absurd v
same_sent k c (asking d xid a now) (expires session then_) v = absurd v
same_sent k c (connects d asked session now) g v = ap (sent_by c) v
same_sent k c (loses d) g v = ap (sent_by c) v
same_sent k c (expires session now) g v = ap (sent_by c) v

same_counts : (k : EntryKeys) (n : ℕ) (asked : List Question) (ms ns : List Message) → Matches k asked ms ns → map (λ (m : Message). n) ms ≡ map (λ (m : Message). n) ns
same_counts k n asked ms ns nothing = refl
same_counts k n asked ms ns (seen_event e f a ms' ns' i h) = ap (λ (l : List ℕ). n ∷ l) (same_counts k n a ms' ns' h)
same_counts k n asked ms ns (seen_reply q r f a ms' ns' x i h) = ap (λ (l : List ℕ). n ∷ l) (same_counts k n a ms' ns' h)
same_counts k n asked ms ns (seen_session r a ms' ns' h) = ap (λ (l : List ℕ). n ∷ l) (same_counts k n a ms' ns' h)

module _ (k : EntryKeys) (w : AreKeys k.names) (naming : Naming) (names : IsNaming (IsSealedName k.names) naming) where
  pub same_taken : (c : ℕ) (fs gs : List Act) (s t : State) (n : ℕ) → Zips (VeilsAct k) fs gs → IsSealedState k s t → taken_at plain s c n fs ≡ taken_at naming t c n gs
  unfolding Zips taken_at
  same_taken c [] [] s t n v h = refl
  same_taken c [] (g ∷ gs) s t n v h = absurd v
  same_taken c (f ∷ fs) [] s t n v h = absurd v
  same_taken c (f ∷ fs) (g ∷ gs) s t n v h =
      let next = step_sealed k w naming names s t f g v.0 h in
      let first = same_counts k (n + sent_by c f) _ _ _ (step_match k w naming names c s t f g v.0 h) in
      let rest = same_taken c fs gs _ _ (n + sent_by c f) v.1 next.state in
      (λ i. first i ++ rest i) ∙ ap (λ (m : ℕ). map (λ (x : Message). n + m) (to_connection c (step naming t g).outputs) ++ taken_at naming (step naming t g).state c (n + m) gs) (same_sent k c f g v.0)
