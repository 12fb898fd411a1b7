-- A store sends nothing before it took what it answers: no count of what was taken is above what the order holds, or above what came.
use Rattle.std.proofs.Common.{◌≡◌, ◌≤◌, ℕ, suc, ◌+◌, Bool, true, false, cond, List, [], ◌∷◌, ◌++◌, length, refl, ap, ◌∙◌, arith, length-append}
use Rattle.std.specs.Prelude.{All, map, ◌==◌, ◌*◌}
use Rattle.std.proofs.lemmas.List.Elements.{All-nil, All-cons, All-head, All-tail, All-append}
use Rattle.std.proofs.lemmas.Slice.Zip.{AllZip-long}
use Rattle.payload_seal.specs.declared.keys.EntryKeys.{EntryKeys}
use Rattle.zk_messages.specs.declared.request.Item.{Item}
use Rattle.tree_state.specs.declared.message.Message.{Message}
use Rattle.tree_state.specs.Changes.{Naming}
use Rattle.tree_state.specs.State.{State}
use Rattle.tree_state.specs.Step.{Act, step}
use Rattle.store_side.specs.Acts.{IsAct}
use Rattle.store_side.specs.Fill.{items_in}
use Rattle.store_side.specs.Out.{to_connection}
use Rattle.store_side.specs.Past.{Past}
use Rattle.store_side.specs.Zips.{Zips}
use Rattle.store_side.specs.declared.entry.Entry.{Entry}
use Rattle.store_side.specs.declared.entry.Entry.TheVariants.{Connect, Take, Lost, Expire}
use Rattle.entry_session.specs.Heard.{Heard, client_frames}
use Rattle.entry_session.specs.Runs.{Ran}
use Rattle.entry_session.specs.Stands.{Stand}
use Rattle.entry_session.specs.Veiled.{SpellsItems}
use Rattle.entry_session.proofs.Thirtyfold.{hands_up_thirtyfold}
use Rattle.session_law.specs.Law.{Connection, IsJoined, sent_by, taken_at}
use Rattle.session_law.proofs.Begun.{flipped}
use Rattle.session_law.proofs.Joined.{cut_of}

-- ---- in a list

same_below : (n b : ℕ) (ms : List Message) → n ≤ b → All (λ x. x ≤ b) (map (λ (m : Message). n) ms)
same_below n b [] h = All-nil (λ x. x ≤ b)
same_below n b (m ∷ ms) h = All-cons (λ x. x ≤ b) n _ h (same_below n b ms h)

-- what holds of each holds of one
pub of_one : {A : Type 0} (P : A → Type 0) (done left : List A) (x : A) → All P (done ++ x ∷ left) → P x
of_one P [] left x h = All-head P x left h
of_one P (d ∷ done) left x h = of_one P done left x (All-tail P d (done ++ x ∷ left) h)

-- ---- in an order

one_more : (c d : ℕ) (i : Item) (is : List Item) → cond (d == c) 1 0 + length is ≡ length (cond (c == d) (i ∷ is) is)
one_more c d i is = ap (λ (b : Bool). cond b 1 0 + length is) (flipped d c) ∙ go (c == d)
  where
    go : (b : Bool) → cond b 1 0 + length is ≡ length (cond b (i ∷ is) is)
    go true = omega arith
    go false = omega arith

none_more : (n : ℕ) → 0 + n ≡ n
none_more n = omega arith

-- an act of the connection is of one of its items
act_items : (c : ℕ) (e : Entry) (es : List Entry) (f : Act) → IsAct e f → sent_by c f + length (items_in c es) ≡ length (items_in c (e ∷ es))
unfolding IsAct sent_by items_in
act_items c (Connect d asked session timeout password zxid now) es f a =
    ap (λ (g : Act). sent_by c g + length (items_in c es)) a ∙ one_more c d _ (items_in c es)
act_items c (Take d xid r zxid now) es f a = ap (λ (g : Act). sent_by c g + length (items_in c es)) a.is ∙ one_more c d _ (items_in c es)
act_items c (Lost d) es f a = ap (λ (g : Act). sent_by c g + length (items_in c es)) a ∙ none_more (length (items_in c es))
act_items c (Expire session zxid now) es f a = ap (λ (g : Act). sent_by c g + length (items_in c es)) a ∙ none_more (length (items_in c es))

pub counts_below : (naming : Naming) (c : ℕ) (es : List Entry) (fs : List Act) (s : State) (n b : ℕ) → Zips IsAct es fs → n + length (items_in c es) ≤ b
    → All (λ x. x ≤ b) (taken_at naming s c n fs)
unfolding Zips taken_at
counts_below naming c [] [] s n b z h = All-nil (λ x. x ≤ b)
counts_below naming c [] (f ∷ fs) s n b z h = absurd z
counts_below naming c (e ∷ es) [] s n b z h = absurd z
counts_below naming c (e ∷ es) (f ∷ fs) s n b z h =
    let one = act_items c e es f z.0 in
    All-append (λ x. x ≤ b) _ _ (same_below (n + sent_by c f) b (to_connection c (step naming s f).outputs) (omega (arith, one, h)))
    (counts_below naming c es fs (step naming s f).state (n + sent_by c f) b z.1 (omega (arith, one, h)))

-- ---- at a connection

as_many_items : (first : Bool) (is : List Item) (bodies : List (List ℕ)) → SpellsItems first is bodies → length is ≡ length bodies
unfolding SpellsItems
as_many_items first [] [] h = refl
as_many_items first [] (b ∷ bodies) h = absurd h
as_many_items first (i ∷ is) [] h = absurd h
as_many_items first (i ∷ is) (b ∷ bodies) h = ap suc (as_many_items false is bodies h.1)

-- each frame that was handed up was one of the client
up_within : (k : EntryKeys) (boot c : ℕ) (hs : List Heard) (s : Stand) → Ran k boot c hs s → length s.up ≤ length (client_frames hs)
up_within k boot c hs s ran =
    let h = hands_up_thirtyfold k boot c hs s ran in
    omega (arith, AllZip-long (λ (body out : List ℕ). length out ≤ 30 * length body) h.heard s.up h.each, ap length h.first, length-append h.heard h.others)

-- what the store took of a connection came from its client
pub taken_came : (k : EntryKeys) (boot c : ℕ) (past : Past) (x : Connection) (items : List Item) (under_way unfed : List ℕ)
    → IsJoined k boot c past x items under_way unfed
    → length (items_in c past.order) ≤ length (client_frames x.heard)
taken_came k boot c past x items under_way unfed j =
    let cut = cut_of k boot c past x items under_way unfed j in
    omega (
      arith,
      as_many_items true (items_in c past.order) j.bodies j.spelled,
      ap length cut.cut,
      length-append (j.bodies ++ j.more) cut.rest,
      length-append j.bodies j.more,
      up_within k boot c x.heard x.stand j.ran,
    )
