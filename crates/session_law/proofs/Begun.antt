-- Over a legal order each connection is told first the answer to its connect request, and then answers to what it asked.
use Rattle.std.proofs.Common.{◌≡◌, ◌≢◌, ℕ, ℤ, pos, negsuc, Bool, true, false, cond, List, [], ◌∷◌, ◌++◌, Option, Some, None, inl, inr, refl, sym, ap, subst, ◌∙◌}
use Rattle.std.specs.Prelude.{◌==◌}
use Rattle.std.proofs.lemmas.Bool.{cases_Bool, eqb-true, eq-eqb}
use Rattle.path_seal.specs.Sealed.{AreKeys}
use Rattle.payload_seal.specs.declared.keys.EntryKeys.{EntryKeys}
use Rattle.zk_records.specs.declared.connect.ConnectRequest.{ConnectRequest}
use Rattle.zk_records.specs.declared.connect.ConnectResponse.{ConnectResponse}
use Rattle.zk_messages.specs.declared.request.Item.{Item}
use Rattle.zk_messages.specs.declared.request.Item.TheVariants as items
use Rattle.zk_messages.specs.declared.request.Request.{Request}
use Rattle.counter_enclave.specs.Enclave.{IsSealedName}
use Rattle.tree_state.specs.declared.message.Message.{Message}
use Rattle.tree_state.specs.declared.message.Message.TheVariants as messages
use Rattle.tree_state.specs.declared.session.Given.{Given}
use Rattle.tree_state.specs.State.{State, session_of}
use Rattle.tree_state.specs.Trees.{IsNaming}
use Rattle.tree_state.specs.Plain.{plain}
use Rattle.tree_state.specs.Changes.{Naming}
use Rattle.tree_state.specs.Commands.{Command, IsCommand}
use Rattle.tree_state.specs.Step.{Act, connects, asks as asking, loses, expires, answer_connect, read_only_of, step}
use Rattle.store_side.specs.Out.{outputs, to_connection}
use Rattle.sealed_machine.specs.Runs.{Question}
use Rattle.entry_session.specs.StoreTurns.{is_none, IsOfForm}
use Rattle.session_law.proofs.Words.{AreAsked}
use Rattle.sealed_machine.specs.Runs.{HasNoConnected}
use Rattle.store_side.proofs.Zipping.{Zips}
use Rattle.sealed_machine.proofs.SealedStates.{IsSealedState}
use Rattle.sealed_machine.proofs.SealedSteps.{VeilsAct, step_sealed}
use Rattle.sealed_machine.proofs.Connections.{asked_if, asked_with, asked_in, all_asked}
use Rattle.store_side.proofs.Appended.{to_connection-append}
use Rattle.store_side.proofs.NoTrace.{nothing_to, NoTrace, IsOthers, step_quiet}
use Rattle.sealed_machine.proofs.KeptRequests.{command_kept}
use Rattle.sealed_machine.proofs.FirstAnswers.{quiet-append, IsNoConnect, step_is_quiet}
use Rattle.session_law.proofs.Orders.{Entry, Connect, Take, Lost, Expire, IsAct, IsAsked, MayCome, HasSession, LegalFrom, HasNoConnect, ConnectsOnce}
use Rattle.session_law.proofs.Filling.{items_in}
use Rattle.sealed_machine.proofs.SealedAnswers.{asked_of}

-- ---- numbers

pub flipped : (a b : ℕ) → (a == b) ≡ (b == a)
flipped a b = elim (cases_Bool (a == b)) [
  | inl t ↦ t ∙ sym (eq-eqb b a (sym (eqb-true a b t)))
  | inr f ↦ elim (cases_Bool (b == a)) [
    | inl t ↦ let x = eq-eqb a b (sym (eqb-true b a t)) in absurd cc
    | inr g ↦ f ∙ sym g
  ]
]

pub not_same : (a b : ℕ) → a ≢ b → (a == b) ≡ false
not_same a b f = elim (cases_Bool (a == b)) [ inl t ↦ absurd (f (eqb-true a b t)) | inr e ↦ e ]

-- ---- xids

-- no request has the xid of events
unfoldable pub XidsFit : List Item → Type 0
XidsFit [] = Unit {0}
XidsFit (items.Asks asked ∷ is) = XidsFit is
XidsFit (items.Requests xid r ∷ is) = (xid ≢ negsuc 0) × XidsFit is

fit_rest : (b : Bool) (i : Item) (is : List Item) → XidsFit (cond b (i ∷ is) is) → XidsFit is
unfolding XidsFit
fit_rest true (items.Asks asked) is h = h
fit_rest true (items.Requests xid r) is h = h.1
fit_rest false i is h = h

-- ---- what was asked

take_asked : (b : Bool) (xid : ℤ) (r : Request) (a : Command) (qs : List Question) (is : List Item) → IsCommand r a → XidsFit (cond b (items.Requests xid r ∷ is) is) → AreAsked qs is
    → AreAsked (asked_if b (record { xid = xid; asked = asked_of a }) ++ qs) (cond b (items.Requests xid r ∷ is) is)
unfolding XidsFit AreAsked asked_if
take_asked true xid r a qs is h f j = (refl, f.0, command_kept r a h, j)
take_asked false xid r a qs is h f j = j

take_in : (c d : ℕ) (xid : ℤ) (r : Request) (a : Command) (now session : ℤ) (s : State) (qs : List Question) (is : List Item) → session_of d s.sessions ≡ Some session → IsCommand r a → XidsFit (cond (c == d) (items.Requests xid r ∷ is) is) → AreAsked qs is
    → AreAsked (asked_in c s (asking d xid a now) ++ qs) (cond (c == d) (items.Requests xid r ∷ is) is)
unfolding asked_in asked_with
take_in c d xid r a now session s qs is live h f j =
    subst (λ (o : Option ℤ). AreAsked (asked_with c d (record { xid = xid; asked = asked_of a }) o ++ qs) (cond (c == d) (items.Requests xid r ∷ is) is)) (sym live)
    (subst (λ (b : Bool). AreAsked (asked_if b (record { xid = xid; asked = asked_of a }) ++ qs) (cond (c == d) (items.Requests xid r ∷ is) is)) (flipped c d)
    (take_asked (c == d) xid r a qs is h f j))

pub other_items : (b : Bool) (i : Item) (is : List Item) → b ≡ false → cond b (i ∷ is) is ≡ is
other_items true i is e = absurd cc
other_items false i is e = refl

-- the head of an order that has no connect of this connection
head_asked : (c : ℕ) (passwords : ℤ → List ℕ) (s : State) (e : Entry) (es : List Entry) (f : Act) (qs : List Question) → HasNoConnect c (e ∷ es) → IsAct e f → MayCome passwords s e → XidsFit (items_in c (e ∷ es)) → AreAsked qs (items_in c es) → AreAsked (asked_in c s f ++ qs) (items_in c (e ∷ es))
unfolding HasNoConnect IsAct MayCome items_in asked_in
head_asked c passwords s (Take d xid r zxid now) es f qs n a m x j =
    subst (λ (g : Act). AreAsked (asked_in c s g ++ qs) (cond (c == d) (items.Requests xid r ∷ items_in c es) (items_in c es))) (sym a.is) (take_in c d xid r a.command now m.session s qs (items_in c es) m.live a.is_command x j)
head_asked c passwords s (Connect d asked session timeout password zxid now) es f qs n a m x j =
    subst (λ (g : Act). AreAsked (asked_in c s g ++ qs) (cond (c == d) (items.Asks asked ∷ items_in c es) (items_in c es))) (sym a)
    (subst (λ (l : List Item). AreAsked qs l) (sym (other_items (c == d) (items.Asks asked) (items_in c es) (flipped c d ∙ not_same d c n.0))) j)
head_asked c passwords s (Lost d) es f qs n a m x j = subst (λ (g : Act). AreAsked (asked_in c s g ++ qs) (items_in c es)) (sym a) j
head_asked c passwords s (Expire session zxid now) es f qs n a m x j = subst (λ (g : Act). AreAsked (asked_in c s g ++ qs) (items_in c es)) (sym a) j

rest_fit : (c : ℕ) (e : Entry) (es : List Entry) → XidsFit (items_in c (e ∷ es)) → XidsFit (items_in c es)
unfolding items_in
rest_fit c (Take d xid r zxid now) es x = fit_rest (c == d) (items.Requests xid r) (items_in c es) x
rest_fit c (Connect d asked session timeout password zxid now) es x = fit_rest (c == d) (items.Asks asked) (items_in c es) x
rest_fit c (Lost d) es x = x
rest_fit c (Expire session zxid now) es x = x

pub no_connect_act : (c : ℕ) (e : Entry) (es : List Entry) (f : Act) → HasNoConnect c (e ∷ es) → IsAct e f → IsNoConnect c f
unfolding HasNoConnect IsAct IsNoConnect
no_connect_act c (Take d xid r zxid now) es f n a = subst (IsNoConnect c) (sym a.is) tt
no_connect_act c (Connect d asked session timeout password zxid now) es f n a = subst (IsNoConnect c) (sym a) (not_same d c n.0)
no_connect_act c (Lost d) es f n a = subst (IsNoConnect c) (sym a) tt
no_connect_act c (Expire session zxid now) es f n a = subst (IsNoConnect c) (sym a) tt

pub no_connect_rest : (c : ℕ) (e : Entry) (es : List Entry) → HasNoConnect c (e ∷ es) → HasNoConnect c es
unfolding HasNoConnect
no_connect_rest c (Take d xid r zxid now) es n = n
no_connect_rest c (Connect d asked session timeout password zxid now) es n = n.1
no_connect_rest c (Lost d) es n = n
no_connect_rest c (Expire session zxid now) es n = n

pub once_rest : (e : Entry) (es : List Entry) → ConnectsOnce (e ∷ es) → ConnectsOnce es
unfolding ConnectsOnce
once_rest (Take d xid r zxid now) es n = n
once_rest (Connect d asked session timeout password zxid now) es n = n.1
once_rest (Lost d) es n = n
once_rest (Expire session zxid now) es n = n

-- ---- after the connect

pub record After (c : ℕ) (s : State) (es : List Entry) (fs : List Act) : Type 0 where
  pub asked : AreAsked (all_asked c s fs) (items_in c es)
  pub quiet : HasNoConnected (to_connection c (outputs plain s fs))

after_nothing : (c : ℕ) (s : State) → After c s [] []
unfolding all_asked outputs items_in AreAsked to_connection HasNoConnected
after_nothing c s = record { asked = tt; quiet = tt }

after_more : (c : ℕ) (s : State) (e : Entry) (es : List Entry) (f : Act) (fs : List Act) → (AreAsked (all_asked c (step plain s f).state fs) (items_in c es) → AreAsked (asked_in c s f ++ all_asked c (step plain s f).state fs) (items_in c (e ∷ es))) → HasNoConnected (to_connection c (step plain s f).outputs) → After c (step plain s f).state es fs → After c s (e ∷ es) (f ∷ fs)
unfolding all_asked outputs
after_more c s e es f fs head quiet a = record { asked = head a.asked; quiet = subst HasNoConnected (sym (to_connection-append c (step plain s f).outputs (outputs plain (step plain s f).state fs))) (quiet-append _ _ quiet a.quiet) }

module _ (k : EntryKeys) (w : AreKeys k.names) (naming : Naming) (names : IsNaming (IsSealedName k.names) naming) (passwords : ℤ → List ℕ) (c : ℕ) where
  after : (es : List Entry) (fs gs : List Act) (s t : State) → HasNoConnect c es → Zips IsAct es fs → Zips (VeilsAct k) fs gs → LegalFrom plain passwords s es fs → IsSealedState k s t → XidsFit (items_in c es) → After c s es fs
  unfolding Zips LegalFrom
  after [] [] gs s t n a v l h x = after_nothing c s
  after [] (f ∷ fs) gs s t n a v l h x = absurd a
  after (e ∷ es) [] gs s t n a v l h x = absurd a
  after (e ∷ es) (f ∷ fs) [] s t n a v l h x = absurd v
  after (e ∷ es) (f ∷ fs) (g ∷ gs) s t n a v l h x =
      let m = step_sealed k w naming names s t f g v.0 h in
      after_more c s e es f fs (λ j. head_asked c passwords s e es f _ n a.0 l.0.may x j) (step_is_quiet k w naming names c s t f g (no_connect_act c e es f n a.0) v.0 h)
      (after es fs gs _ _ (no_connect_rest c e es n) a.1 v.1 l.1 m.state (rest_fit c e es x))

-- ---- from before it

-- where a connection stands that has no trace: nothing comes to it; or first the answer to its connect request
pub data Phase (c : ℕ) (s : State) (es : List Entry) (fs : List Act) : Type 0 where
  none_yet : to_connection c (outputs plain s fs) ≡ [] → Phase c s es fs
  begun : (asked : ConnectRequest) (is : List Item) (r : ConnectResponse) (ms : List Message) → items_in c es ≡ items.Asks asked ∷ is → IsOfForm asked r → to_connection c (outputs plain s fs) ≡ messages.Connected r ∷ ms → HasNoConnected ms → AreAsked (all_asked c s fs) is → Phase c s es fs

lift : (c : ℕ) (s : State) (e : Entry) (es : List Entry) (f : Act) (fs : List Act) → to_connection c (step plain s f).outputs ≡ [] → items_in c (e ∷ es) ≡ items_in c es → asked_in c s f ≡ [] → Phase c (step plain s f).state es fs → Phase c s (e ∷ es) (f ∷ fs)
unfolding outputs all_asked
lift c s e es f fs quiet same none (none_yet h) = none_yet (to_connection-append c (step plain s f).outputs _ ∙ (λ i. quiet i ++ h i))
lift c s e es f fs quiet same none (begun asked is r ms i form o q a) =
    begun asked is r ms (same ∙ i) form (to_connection-append c (step plain s f).outputs _ ∙ (λ j. quiet j ++ o j)) q (subst (λ (l : List Question). AreAsked (l ++ all_asked c (step plain s f).state fs) is) (sym none) a)

no_session : (c d : ℕ) (s : State) → NoTrace c s → HasSession s d → (d == c) ≡ true → ⊥
no_session c d s n m t = none_live m.session (sym m.live ∙ ap (λ (x : ℕ). session_of x s.sessions) (eqb-true d c t) ∙ n.sessions_are)
  where
    none_live : (z : ℤ) → Some z ≡ None → ⊥
    none_live z e = cc

pub asked_other : (c d : ℕ) (q : Question) (o : Option ℤ) → (d == c) ≡ false → asked_with c d q o ≡ []
unfolding asked_with asked_if
asked_other c d q None e = refl
asked_other c d q (Some z) e = ap (λ (b : Bool). asked_if b q) e

-- of an entry that is not this connection's
pub others_act : (c : ℕ) (passwords : ℤ → List ℕ) (s : State) (e : Entry) (f : Act) → NoTrace c s → IsAct e f → MayCome passwords s e → IsNoConnect c f → IsOthers c f
unfolding IsAct MayCome IsNoConnect IsOthers
others_act c passwords s (Take d xid r zxid now) f n a m i = subst (IsOthers c) (sym a.is) (elim (cases_Bool (d == c)) [ inl t ↦ absurd (no_session c d s n m t) | inr e ↦ e ])
others_act c passwords s (Connect d asked session timeout password zxid now) f n a m i = subst (IsOthers c) (sym a) (subst (IsNoConnect c) a i)
others_act c passwords s (Lost d) f n a m i = subst (IsOthers c) (sym a) tt
others_act c passwords s (Expire session zxid now) f n a m i = subst (IsOthers c) (sym a) tt

-- it asks nothing and has no item
pub others_asked : (c : ℕ) (s : State) (f : Act) → IsOthers c f → asked_in c s f ≡ []
unfolding IsOthers asked_in asked_with asked_if
others_asked c s (asking d xid a now) i = go (session_of d s.sessions)
  where
    go : (o : Option ℤ) → asked_with c d (record { xid = xid; asked = asked_of a }) o ≡ []
    go o = asked_other c d (record { xid = xid; asked = asked_of a }) o i
others_asked c s (connects d asked given now) i = refl
others_asked c s (loses d) i = refl
others_asked c s (expires session now) i = refl

pub others_items : (c : ℕ) (e : Entry) (es : List Entry) (f : Act) → IsAct e f → IsOthers c f → items_in c (e ∷ es) ≡ items_in c es
unfolding IsAct IsOthers items_in
others_items c (Take d xid r zxid now) es f a i = other_items (c == d) _ (items_in c es) (flipped c d ∙ subst (IsOthers c) a.is i)
others_items c (Connect d asked session timeout password zxid now) es f a i = other_items (c == d) _ (items_in c es) (flipped c d ∙ subst (IsOthers c) a i)
others_items c (Lost d) es f a i = refl
others_items c (Expire session zxid now) es f a i = refl

pub own_items : (b : Bool) (i : Item) (is : List Item) → b ≡ true → cond b (i ∷ is) is ≡ i ∷ is
own_items true i is e = refl
own_items false i is e = absurd cc

-- the response to a connect request
abbrev response_of : ConnectRequest → Given → ConnectResponse
response_of asked given = record { protocol = pos 0; timeout = given.timeout; session = given.session; password = Some given.password; read_only = read_only_of asked.read_only }

form_of : (asked : ConnectRequest) (given : Given) → IsOfForm asked (response_of asked given)
unfolding is_none read_only_of
form_of asked given = go asked.read_only
  where
    go : (o : Option Bool) → is_none (read_only_of o) ≡ is_none o
    go None = refl
    go (Some b) = refl

own_output : (c d : ℕ) (asked : ConnectRequest) (given : Given) (now : ℤ) (s : State) → (d == c) ≡ true → to_connection c (step plain s (connects d asked given now)).outputs ≡ messages.Connected (response_of asked given) ∷ []
unfolding step answer_connect to_connection
own_output c d asked given now s e = ap (λ (b : Bool). cond b (messages.Connected (response_of asked given) ∷ []) []) e

-- the entry is the connection's own connect
begins : (c d : ℕ) (asked : ConnectRequest) (given : Given) (zxid now : ℤ) (s : State) (es : List Entry) (f : Act) (fs : List Act) → (d == c) ≡ true → f ≡ connects d asked given now → After c (step plain s f).state es fs → Phase c s (Connect d asked given.session given.timeout given.password zxid now ∷ es) (f ∷ fs)
unfolding outputs all_asked items_in asked_in
begins c d asked given zxid now s es f fs t e a =
    begun asked (items_in c es) (response_of asked given) (to_connection c (outputs plain (step plain s f).state fs)) (own_items (c == d) _ (items_in c es) (flipped c d ∙ t)) (form_of asked given)
    (to_connection-append c (step plain s f).outputs _ ∙ ap (λ (l : List Message). l ++ to_connection c (outputs plain (step plain s f).state fs)) (ap (λ (g : Act). to_connection c (step plain s g).outputs) e ∙ own_output c d asked given now s t))
    a.quiet (subst (λ (l : List Question). AreAsked (l ++ all_asked c (step plain s f).state fs) (items_in c es)) (sym (ap (asked_in c s) e)) a.asked)

connect_no : (c d : ℕ) (asked : ConnectRequest) (given : Given) (now : ℤ) (f : Act) → f ≡ connects d asked given now → (d == c) ≡ false → IsNoConnect c f
unfolding IsNoConnect
connect_no c d asked given now f a e = subst (IsNoConnect c) (sym a) e

take_no : (c d : ℕ) (xid : ℤ) (r : Request) (now : ℤ) (f : Act) → IsAsked d xid r now f → IsNoConnect c f
unfolding IsNoConnect
take_no c d xid r now f a = subst (IsNoConnect c) (sym a.is) tt

lost_no : (c d : ℕ) (f : Act) → f ≡ loses d → IsNoConnect c f
unfolding IsNoConnect
lost_no c d f a = subst (IsNoConnect c) (sym a) tt

expire_no : (c : ℕ) (session now : ℤ) (f : Act) → f ≡ expires session now → IsNoConnect c f
unfolding IsNoConnect
expire_no c session now f a = subst (IsNoConnect c) (sym a) tt

choose_entry : (c : ℕ) (passwords : ℤ → List ℕ) (s : State) (e : Entry) (es : List Entry) (f : Act) (fs : List Act) → NoTrace c s → ConnectsOnce (e ∷ es) → IsAct e f → MayCome passwords s e → (IsOthers c f → Phase c s (e ∷ es) (f ∷ fs)) → (HasNoConnect c es → After c (step plain s f).state es fs) → Phase c s (e ∷ es) (f ∷ fs)
unfolding ConnectsOnce IsAct
choose_entry c passwords s (Connect d asked session timeout password zxid now) es f fs n o a m others own =
    elim (cases_Bool (d == c)) [
      | inl t ↦ begins c d asked (record { session = session; timeout = timeout; password = password }) zxid now s es f fs t a (own (subst (λ (x : ℕ). HasNoConnect x es) (eqb-true d c t) o.0))
      | inr e ↦ others (others_act c passwords s (Connect d asked session timeout password zxid now) f n a m (connect_no c d asked _ now f a e))
    ]
choose_entry c passwords s (Take d xid r zxid now) es f fs n o a m others own = others (others_act c passwords s (Take d xid r zxid now) f n a m (take_no c d xid r now f a))
choose_entry c passwords s (Lost d) es f fs n o a m others own = others (others_act c passwords s (Lost d) f n a m (lost_no c d f a))
choose_entry c passwords s (Expire session zxid now) es f fs n o a m others own = others (others_act c passwords s (Expire session zxid now) f n a m (expire_no c session now f a))

module _ (k : EntryKeys) (w : AreKeys k.names) (naming : Naming) (names : IsNaming (IsSealedName k.names) naming) (passwords : ℤ → List ℕ) (c : ℕ) where
  pub before : (es : List Entry) (fs gs : List Act) (s t : State) → NoTrace c s → ConnectsOnce es → Zips IsAct es fs → Zips (VeilsAct k) fs gs → LegalFrom plain passwords s es fs → IsSealedState k s t → XidsFit (items_in c es) → Phase c s es fs
  unfolding Zips LegalFrom outputs
  before [] [] gs s t n o a v l h x = none_yet (nothing_to c)
  before [] (f ∷ fs) gs s t n o a v l h x = absurd a
  before (e ∷ es) [] gs s t n o a v l h x = absurd a
  before (e ∷ es) (f ∷ fs) [] s t n o a v l h x = absurd v
  before (e ∷ es) (f ∷ fs) (g ∷ gs) s t n o a v l h x =
      let m = step_sealed k w naming names s t f g v.0 h in
      choose_entry c passwords s e es f fs n o a.0 l.0.may
      (λ i. let q = step_quiet c plain s f i n in
      lift c s e es f fs q.outputs_are (others_items c e es f a.0 i) (others_asked c s f i) (before es fs gs _ _ q.after (once_rest e es o) a.1 v.1 l.1 m.state (rest_fit c e es x)))
      (λ none. after k w naming names passwords c es fs gs _ _ none a.1 v.1 l.1 m.state (rest_fit c e es x))
