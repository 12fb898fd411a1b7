-- The entries that a feed adds, as items of their connection.
use Rattle.std.proofs.Common.{◌≡◌, ◌≢◌, ℕ, ℤ, Bool, true, false, cond, List, [], ◌∷◌, ◌++◌, Option, Some, None, refl, sym, ap, subst, ◌∙◌, append_assoc, rules}
use Rattle.std.specs.Prelude.{◌==◌}
use Rattle.std.proofs.lemmas.Bool.{eqb-true}
use Rattle.std.proofs.lemmas.List.{append-nil}
use Rattle.zk_messages.specs.Items.{IsItem}
use Rattle.zk_messages.specs.declared.request.Item.{Item}
use Rattle.zk_messages.specs.declared.request.Item.TheVariants as items
use Rattle.zk_messages.specs.declared.request.Request.{Request}
use Rattle.zk_records.specs.declared.connect.ConnectRequest.{ConnectRequest}
use Rattle.tree_state.specs.Changes.{Naming}
use Rattle.tree_state.specs.State.{State, start}
use Rattle.tree_state.specs.Step.{Act, step}
use Rattle.store_side.specs.Acts.{IsAct}
use Rattle.store_side.specs.Calls.{AreFrames, AreRequests, lost_first}
use Rattle.store_side.specs.Fill.{items_in}
use Rattle.store_side.specs.Orders.{ConnectsOnce, HasNoConnect, LegalFrom}
use Rattle.store_side.specs.Zips.{Zips}
use Rattle.store_side.specs.declared.entry.Entry.{Entry}
use Rattle.store_side.specs.declared.entry.Entry.TheVariants.{Connect, Take, Lost, Expire}
use Rattle.store_side.proofs.NoTrace.{NoTrace, start_none, step_quiet}
use Rattle.store_side.proofs.Appended.{no_connect-append, no_connect-back, no_connect-front}
use Rattle.entry_session.specs.Veiled.{SpellsItems}
use Rattle.session_law.proofs.Begun.{no_connect_act, no_connect_rest, others_act, others_items, own_items, other_items}
use Rattle.world_core.proofs.SoundStores.{items-append}

-- ---- a connection that has not connected has no item, and the other way round

no_items_of : (c : ℕ) (naming : Naming) (passwords : ℤ → List ℕ) (es : List Entry) (fs : List Act) (s : State) → NoTrace c s → HasNoConnect c es → Zips IsAct es fs
    → LegalFrom naming passwords s es fs → items_in c es ≡ []
unfolding Zips LegalFrom items_in
no_items_of c naming passwords [] [] s n h z l = refl
no_items_of c naming passwords [] (f ∷ fs) s n h z l = refl
no_items_of c naming passwords (e ∷ es) [] s n h z l = absurd z
no_items_of c naming passwords (e ∷ es) (f ∷ fs) s n h z l =
    let other = others_act c passwords s e f n z.0 l.0.may (no_connect_act c e es f h z.0) in
    others_items c e es f z.0 other
    ∙ no_items_of c naming passwords es fs (step naming s f).state (step_quiet c naming s f other n).after (no_connect_rest c e es h) z.1 l.1

own : (c d : ℕ) → d ≡ c → (c == d) ≡ true
own c d same = search rules

apart_by : (b : Bool) (i : Item) (is : List Item) → cond b (i ∷ is) is ≡ [] → (b ≡ false) × (is ≡ [])
apart_by true i is e = absurd cc
apart_by false i is e = (refl, e)

not_own : (c d : ℕ) → (c == d) ≡ false → d ≢ c
not_own c d other same = let t : (c == d) ≡ true = own c d same in absurd cc

no_connect_of : (c : ℕ) (es : List Entry) → items_in c es ≡ [] → HasNoConnect c es
unfolding items_in HasNoConnect
no_connect_of c [] e = tt
no_connect_of c (Connect d asked session timeout password zxid now ∷ es) e =
    let p = apart_by (c == d) _ (items_in c es) e in
    (not_own c d p.0, no_connect_of c es p.1)
no_connect_of c (Take d xid request zxid now ∷ es) e = no_connect_of c es (apart_by (c == d) _ (items_in c es) e).1
no_connect_of c (Lost d ∷ es) e = no_connect_of c es e
no_connect_of c (Expire session zxid now ∷ es) e = no_connect_of c es e

-- ---- the frames of a feed

requests_spelled : (c : ℕ) (now : ℤ) (es : List Entry) (bs : List (List ℕ)) → AreRequests c now es bs → SpellsItems false (items_in c es) bs
unfolding AreRequests items_in SpellsItems
requests_spelled c now [] [] h = tt
requests_spelled c now [] (b ∷ bs) h = absurd h
requests_spelled c now (e ∷ es) [] h = absurd h
requests_spelled c now (Take d xid r zxid at ∷ es) (b ∷ bs) h =
    subst (λ (is : List Item). SpellsItems false is (b ∷ bs)) (sym (own_items (c == d) (items.Requests xid r) (items_in c es) (own c d h.0)))
    (h.2, requests_spelled c now es bs h.3)
requests_spelled c now (Connect d asked session timeout password zxid at ∷ es) (b ∷ bs) h = absurd h
requests_spelled c now (Lost d ∷ es) (b ∷ bs) h = absurd h
requests_spelled c now (Expire session zxid at ∷ es) (b ∷ bs) h = absurd h

requests_no_connect : (c x : ℕ) (now : ℤ) (es : List Entry) (bs : List (List ℕ)) → AreRequests c now es bs → HasNoConnect x es
unfolding AreRequests HasNoConnect
requests_no_connect c x now [] [] h = tt
requests_no_connect c x now [] (b ∷ bs) h = absurd h
requests_no_connect c x now (e ∷ es) [] h = absurd h
requests_no_connect c x now (Take d xid r zxid at ∷ es) (b ∷ bs) h = requests_no_connect c x now es bs h.3
requests_no_connect c x now (Connect d asked session timeout password zxid at ∷ es) (b ∷ bs) h = absurd h
requests_no_connect c x now (Lost d ∷ es) (b ∷ bs) h = absurd h
requests_no_connect c x now (Expire session zxid at ∷ es) (b ∷ bs) h = absurd h

-- requests alone, or a connect request and then requests
pub data Frames (c : ℕ) (now : ℤ) (frames : List Entry) (bs : List (List ℕ)) : Type 0 where
  requests_alone : AreRequests c now frames bs → Frames c now frames bs
  connect_first : (es : List Entry) (asked : ConnectRequest) (session timeout zxid : ℤ) (password : List ℕ) (at : ℤ) → frames ≡ Connect c asked session timeout password zxid at ∷ es
      → SpellsItems true (items_in c frames) bs → Frames c now frames bs

frames_are : (c : ℕ) (now : ℤ) (frames : List Entry) (bs : List (List ℕ)) → AreFrames c now frames bs → Frames c now frames bs
unfolding AreFrames items_in SpellsItems
frames_are c now [] bs h = requests_alone h
frames_are c now (Connect d asked session timeout password zxid at ∷ es) [] h = absurd h
frames_are c now (Connect d asked session timeout password zxid at ∷ es) (b ∷ bs) h =
    connect_first es asked session timeout zxid password at (ap (λ (x : ℕ). Connect x asked session timeout password zxid at ∷ es) h.0)
    (subst (λ (is : List Item). SpellsItems true is (b ∷ bs)) (sym (own_items (c == d) (items.Asks asked) (items_in c es) (own c d h.0)))
    (h.2, requests_spelled c now es bs h.3))
frames_are c now (Take d xid r zxid at ∷ es) bs h = requests_alone h
frames_are c now (Lost d ∷ es) bs h = absurd h
frames_are c now (Expire session zxid at ∷ es) bs h = absurd h

-- they are of no other connection
others_none : (c d : ℕ) → d ≢ c → (x : ℕ) → x ≡ c → (d == x) ≡ false
others_none c d apart x same = let not : d ≢ x = λ e. apart (e ∙ same) in search rules

requests_others : (c d : ℕ) (now : ℤ) (es : List Entry) (bs : List (List ℕ)) → d ≢ c → AreRequests c now es bs → items_in d es ≡ []
unfolding AreRequests items_in
requests_others c d now [] [] apart h = refl
requests_others c d now [] (b ∷ bs) apart h = absurd h
requests_others c d now (e ∷ es) [] apart h = absurd h
requests_others c d now (Take x xid r zxid at ∷ es) (b ∷ bs) apart h =
    other_items (d == x) (items.Requests xid r) (items_in d es) (others_none c d apart x h.0) ∙ requests_others c d now es bs apart h.3
requests_others c d now (Connect x asked session timeout password zxid at ∷ es) (b ∷ bs) apart h = absurd h
requests_others c d now (Lost x ∷ es) (b ∷ bs) apart h = absurd h
requests_others c d now (Expire session zxid at ∷ es) (b ∷ bs) apart h = absurd h

frames_others : (c d : ℕ) (now : ℤ) (es : List Entry) (bs : List (List ℕ)) → d ≢ c → AreFrames c now es bs → items_in d es ≡ []
unfolding AreFrames items_in
frames_others c d now [] bs apart h = refl
frames_others c d now (Connect x asked session timeout password zxid at ∷ es) [] apart h = absurd h
frames_others c d now (Connect x asked session timeout password zxid at ∷ es) (b ∷ bs) apart h =
    other_items (d == x) (items.Asks asked) (items_in d es) (others_none c d apart x h.0) ∙ requests_others c d now es bs apart h.3
frames_others c d now (Take x xid r zxid at ∷ es) bs apart h = requests_others c d now (Take x xid r zxid at ∷ es) bs apart h
frames_others c d now (Lost x ∷ es) bs apart h = absurd h
frames_others c d now (Expire session zxid at ∷ es) bs apart h = absurd h

lost_items : (d : ℕ) (moved : Option ℕ) → items_in d (lost_first moved) ≡ []
unfolding items_in lost_first
lost_items d None = refl
lost_items d (Some x) = refl

lost_no_connect : (d : ℕ) (moved : Option ℕ) → HasNoConnect d (lost_first moved)
unfolding HasNoConnect lost_first
lost_no_connect d None = tt
lost_no_connect d (Some x) = tt

pub fed_others : (c d : ℕ) (now : ℤ) (moved : Option ℕ) (frames : List Entry) (bs : List (List ℕ)) → d ≢ c → AreFrames c now frames bs
    → items_in d (lost_first moved ++ frames) ≡ []
fed_others c d now moved frames bs apart h =
    items-append d (lost_first moved) frames ∙ (λ i. lost_items d moved i ++ frames_others c d now frames bs apart h i)

-- ---- behind the items before

joins : (is js : List Item) (bs cs : List (List ℕ)) → SpellsItems false is bs → SpellsItems false js cs → SpellsItems false (is ++ js) (bs ++ cs)
unfolding SpellsItems
joins [] js [] cs h g = g
joins [] js (b ∷ bs) cs h g = absurd h
joins (i ∷ is) js [] cs h g = absurd h
joins (i ∷ is) js (b ∷ bs) cs h g = (h.0, joins is js bs cs h.1 g)

joins_first : (i : Item) (is js : List Item) (bs cs : List (List ℕ)) → SpellsItems true (i ∷ is) bs → SpellsItems false js cs → SpellsItems true ((i ∷ is) ++ js) (bs ++ cs)
unfolding SpellsItems
joins_first i is js [] cs h g = absurd h
joins_first i is js (b ∷ bs) cs h g = (h.0, joins is js bs cs h.1 g)

joins_none : (js : List Item) (bs cs : List (List ℕ)) → SpellsItems true [] bs → SpellsItems true js cs → SpellsItems true js (bs ++ cs)
unfolding SpellsItems
joins_none js [] cs h g = g
joins_none js (b ∷ bs) cs h g = absurd h

alone : (is : List Item) (bs : List (List ℕ)) → is ≡ [] → SpellsItems false is bs → SpellsItems true is bs
unfolding SpellsItems
alone [] [] e h = tt
alone [] (b ∷ bs) e h = absurd h
alone (i ∷ is) bs e h = absurd cc

-- a connect before which there is one of the same connection
once_before : (c : ℕ) (es rest : List Entry) (asked : ConnectRequest) (session timeout zxid : ℤ) (password : List ℕ) (at : ℤ)
    → ConnectsOnce (es ++ Connect c asked session timeout password zxid at ∷ rest) → HasNoConnect c es
unfolding ConnectsOnce HasNoConnect
once_before c [] rest asked session timeout zxid password at o = tt
once_before c (Connect d asked_d session_d timeout_d password_d zxid_d now_d ∷ es) rest asked session timeout zxid password at o = (
  (λ same. (no_connect-back d es (Connect c asked session timeout password zxid at ∷ rest) o.0).0 (sym same)),
  once_before c es rest asked session timeout zxid password at o.1,
)
once_before c (Take d xid request zxid_d now ∷ es) rest asked session timeout zxid password at o = once_before c es rest asked session timeout zxid password at o
once_before c (Lost d ∷ es) rest asked session timeout zxid password at o = once_before c es rest asked session timeout zxid password at o
once_before c (Expire n zxid_d now ∷ es) rest asked session timeout zxid password at o = once_before c es rest asked session timeout zxid password at o

-- An order, and the frames of a feed that stand behind it, perhaps behind a loss.
module _ (c : ℕ) (now : ℤ) (naming : Naming) (passwords : ℤ → List ℕ) (es : List Entry) (gs : List Act) (moved : Option ℕ) (frames : List Entry) (fs : List Act)
    (once : ConnectsOnce (es ++ (lost_first moved ++ frames))) (acts : Zips IsAct (es ++ (lost_first moved ++ frames)) fs)
    (legal : LegalFrom naming passwords start (es ++ (lost_first moved ++ frames)) fs) (old_acts : Zips IsAct es gs) (old_legal : LegalFrom naming passwords start es gs) where
  all_items : items_in c (es ++ (lost_first moved ++ frames)) ≡ items_in c es ++ items_in c frames
  all_items = items-append c es (lost_first moved ++ frames) ∙ ap (λ (l : List Item). items_in c es ++ l)
      (items-append c (lost_first moved) frames ∙ ap (λ (l : List Item). l ++ items_in c frames) (lost_items c moved))

  -- requests come behind a connect request alone
  requests_behind : (bodies bs : List (List ℕ)) (is : List Item) → items_in c es ≡ is → SpellsItems true is bodies → AreRequests c now frames bs
      → SpellsItems true (is ++ items_in c frames) (bodies ++ bs)
  requests_behind bodies bs [] none spelled h =
      let quiet = no_connect-append c es (lost_first moved ++ frames) (no_connect_of c es none)
      (no_connect-append c (lost_first moved) frames (lost_no_connect c moved) (requests_no_connect c c now frames bs h)) in
      let nothing : items_in c frames ≡ []
      = sym (ap (λ (l : List Item). l ++ items_in c frames) none) ∙ sym all_items
      ∙ no_items_of c naming passwords (es ++ (lost_first moved ++ frames)) fs start (start_none c) quiet acts legal in
      joins_none (items_in c frames) bodies bs spelled (alone (items_in c frames) bs nothing (requests_spelled c now frames bs h))
  requests_behind bodies bs (i ∷ is) some spelled h = joins_first i is (items_in c frames) bodies bs spelled (requests_spelled c now frames bs h)

  -- and a connect request behind nothing
  connect_behind : (bodies bs : List (List ℕ)) → HasNoConnect c es → SpellsItems true (items_in c es) bodies → SpellsItems true (items_in c frames) bs
      → SpellsItems true (items_in c es ++ items_in c frames) (bodies ++ bs)
  connect_behind bodies bs quiet spelled h =
      let none = no_items_of c naming passwords es gs start (start_none c) quiet old_acts old_legal in
      subst (λ (is : List Item). SpellsItems true (is ++ items_in c frames) (bodies ++ bs)) (sym none)
      (joins_none (items_in c frames) bodies bs (subst (λ (is : List Item). SpellsItems true is bodies) none spelled) h)

  fed_by : (bodies bs : List (List ℕ)) → SpellsItems true (items_in c es) bodies → Frames c now frames bs
      → SpellsItems true (items_in c es ++ items_in c frames) (bodies ++ bs)
  fed_by bodies bs spelled (requests_alone h) = requests_behind bodies bs (items_in c es) refl spelled h
  fed_by bodies bs spelled (connect_first rest asked session timeout zxid password at is h) =
      let same : es ++ (lost_first moved ++ frames) ≡ (es ++ lost_first moved) ++ Connect c asked session timeout password zxid at ∷ rest
      = sym (append_assoc es (lost_first moved) frames) ∙ ap (λ (l : List Entry). (es ++ lost_first moved) ++ l) is in
      let before = once_before c (es ++ lost_first moved) rest asked session timeout zxid password at (subst ConnectsOnce same once) in
      connect_behind bodies bs (no_connect-front c es (lost_first moved) before) spelled h

  pub fed_spelled : (bodies bs : List (List ℕ)) → SpellsItems true (items_in c es) bodies → AreFrames c now frames bs
      → SpellsItems true (items_in c (es ++ (lost_first moved ++ frames))) (bodies ++ bs)
  fed_spelled bodies bs spelled h =
      subst (λ (is : List Item). SpellsItems true is (bodies ++ bs)) (sym all_items) (fed_by bodies bs spelled (frames_are c now frames bs h))
