-- The filled order: what the clients sent in place of what the store was handed.
use Rattle.std.proofs.Common.{◌≡◌, ℕ, zero, suc, ℤ, ◌+◌, Bool, true, false, cond, List, [], ◌∷◌, ◌++◌, length, refl, sym, ap, subst, ◌∙◌, arith}
use Rattle.std.specs.Prelude.{All, ◌<◌, ◌==◌}
use Rattle.std.proofs.lemmas.Bool.{eqb-true, eq-eqb}
use Rattle.std.proofs.lemmas.List.Elements.{All-nil, All-cons, All-append}
use Rattle.payload_seal.specs.Ivs.{Ivs, payload_iv}
use Rattle.payload_seal.specs.declared.keys.EntryKeys.{EntryKeys}
use Rattle.zk_records.specs.declared.connect.ConnectRequest.{ConnectRequest}
use Rattle.zk_messages.specs.declared.request.Item.{Item}
use Rattle.zk_messages.specs.declared.request.Item.TheVariants as items
use Rattle.zk_messages.specs.declared.request.Request.{Request}
use Rattle.entry_session.proofs.OneItem.{one_item}
use Rattle.request_rewrite.specs.Ivs.{ivs_from, iv_after}
use Rattle.sealed_machine.specs.Veils.{IsIvOf}
use Rattle.entry_session.specs.ClientTurns.{VeilsItem, source_at, greatest_epoch}
unfoldable pub use Rattle.entry_session.specs.Veiled.{SpellsItems}
unfoldable pub use Rattle.entry_session.proofs.HandedUp.{VeilsUpTo}
unfoldable pub use Rattle.store_side.specs.Fill.{FillsEntry, Fills, left_after, items_in}
use Rattle.store_side.specs.Fill.{without_first}
use Rattle.store_side.proofs.Zipping.{Zips}
use Rattle.session_law.proofs.Orders.{Entry, Connect, Take, Lost, Expire, IsVeiled, VeilsEntry}

-- ---- an item, and its sealed form

unfoldable pub SealsItem : EntryKeys → Item → Item → Type 0
SealsItem k (items.Asks asked) v = v ≡ items.Asks asked
SealsItem k (items.Requests xid r) (items.Requests number v) = (number ≡ xid) × IsVeiled k r v
SealsItem k i v = ⊥

twelve : (epoch boot c j : ℕ) → length (payload_iv epoch boot c j) ≡ 12
twelve epoch boot c j = refl

pub ivs_twelve : (s : Ivs) (n : ℕ) → All (λ iv. length iv ≡ 12) (ivs_from s n)
unfolding ivs_from
ivs_twelve s zero = All-nil (λ iv. length iv ≡ 12)
ivs_twelve s (suc n) = All-append (λ iv. length iv ≡ 12) (ivs_from s n) (iv_after s n ∷ []) (ivs_twelve s n) (All-cons (λ iv. length iv ≡ 12) (iv_after s n) [] (twelve s.epoch s.boot s.connection (s.count + n)) (All-nil (λ iv. length iv ≡ 12)))

one_known : (keys : List (List ℕ)) (epoch boot c j : ℕ) → epoch < length keys → IsIvOf keys (payload_iv epoch boot c j)
one_known keys epoch boot c j h = record { size = refl; known = h }

ivs_known : (keys : List (List ℕ)) (s : Ivs) (n : ℕ) → s.epoch < length keys → All (IsIvOf keys) (ivs_from s n)
unfolding ivs_from
ivs_known keys s zero h = All-nil (IsIvOf keys)
ivs_known keys s (suc n) h = All-append (IsIvOf keys) (ivs_from s n) (iv_after s n ∷ []) (ivs_known keys s n h) (All-cons (IsIvOf keys) (iv_after s n) [] (one_known keys s.epoch s.boot s.connection (s.count + n) h) (All-nil (IsIvOf keys)))

greatest_known : (k : EntryKeys) → 0 < length k.payloads → greatest_epoch k < length k.payloads
greatest_known k h = omega (arith, h)

seals_item : (k : EntryKeys) (boot c sealed n : ℕ) (i v : Item) → 0 < length k.payloads → VeilsItem k (source_at k boot c sealed) n i v → SealsItem k i v
unfolding VeilsItem SealsItem
seals_item k boot c sealed n (items.Asks asked) v some h = h
seals_item k boot c sealed n (items.Requests xid r) (items.Requests number v) some h = (h.0, record { ivs = ivs_from (source_at k boot c sealed) n; are_ivs = ivs_known k.payloads (source_at k boot c sealed) n (greatest_known k some); veil = h.1 })
seals_item k boot c sealed n (items.Requests xid r) v some h = absurd h

-- what was veiled with its IVs counted is sealed item by item
pub all_sealed : (k : EntryKeys) (boot c sealed end : ℕ) (is vs : List Item) → 0 < length k.payloads → VeilsUpTo k boot c sealed is vs end → Zips (SealsItem k) is vs
unfolding VeilsUpTo Zips
all_sealed k boot c sealed end [] [] some h = tt
all_sealed k boot c sealed end [] (v ∷ vs) some h = absurd h
all_sealed k boot c sealed end (i ∷ is) [] some h = absurd h
all_sealed k boot c sealed end (i ∷ is) (v ∷ vs) some h = (seals_item k boot c sealed h.1.count i v some h.1.veils, all_sealed k boot c h.0 end is vs some h.2)

-- ---- what the store took of what was handed up

-- items that the front of the bodies spells are the front of those that all spell
pub taken_front : (first : Bool) (taken vs : List Item) (bodies more : List (List ℕ)) → SpellsItems first taken bodies → SpellsItems first vs (bodies ++ more) → (rest : List Item) × (vs ≡ taken ++ rest)
unfolding SpellsItems
taken_front first [] vs [] more h j = (vs, refl)
taken_front first [] vs (b ∷ bodies) more h j = absurd h
taken_front first (t ∷ taken) vs [] more h j = absurd h
taken_front first (t ∷ taken) [] (b ∷ bodies) more h j = absurd j
taken_front first (t ∷ taken) (v ∷ vs) (b ∷ bodies) more h j =
    let one = one_item first v t b j.0 h.0 in
    let r = taken_front false taken vs bodies more h.1 j.1 in
    (r.0, (λ i. one i ∷ r.1 i))

-- ---- the filled order

left_zips : (k : EntryKeys) (b : Bool) (is vs : List Item) → Zips (SealsItem k) is vs → Zips (SealsItem k) (cond b (without_first is) is) (cond b (without_first vs) vs)
unfolding Zips
left_zips k true [] [] h = tt
left_zips k true [] (v ∷ vs) h = absurd h
left_zips k true (i ∷ is) [] h = absurd h
left_zips k true (i ∷ is) (v ∷ vs) h = h.1
left_zips k false is vs h = h

left_front : (b : Bool) (i : Item) (is vs more : List Item) → vs ≡ cond b (i ∷ is) is ++ more → cond b (without_first vs) vs ≡ is ++ more
left_front true i is vs more e = ap without_first e
left_front false i is vs more e = e

pub own_front : (b : Bool) (i : Item) (is vs more : List Item) → b ≡ true → vs ≡ cond b (i ∷ is) is ++ more → vs ≡ i ∷ (is ++ more)
own_front true i is vs more t e = e
own_front false i is vs more t e = absurd cc

-- what each connection sent, and its sealed form, of which what the order has is the front
pub record IsFilled (k : EntryKeys) (order : List Entry) (sent veiled : ℕ → List Item) : Type 0 where
  pub seals : (c : ℕ) → Zips (SealsItem k) (sent c) (veiled c)
  pub front : (c : ℕ) → (more : List Item) × (veiled c ≡ items_in c order ++ more)

first_of : (x : Item) (xs ys : List Item) (y : Item) → x ∷ xs ≡ y ∷ ys → x ≡ y
first_of x xs ys y e = cc

asks_or_requests : (a : ConnectRequest) (xid : ℤ) (v : Request) → items.Asks a ≡ items.Requests xid v → ⊥
asks_or_requests a xid v e = cc

same_requests : (xid other : ℤ) (a b : Request) → items.Requests xid a ≡ items.Requests other b → (xid ≡ other) × (a ≡ b)
same_requests xid other a b e = (xid_of xid other a b e, request_of xid other a b e)
  where
    xid_of : (xid other : ℤ) (a b : Request) → items.Requests xid a ≡ items.Requests other b → xid ≡ other
    xid_of xid other a b e = cc

    request_of : (xid other : ℤ) (a b : Request) → items.Requests xid a ≡ items.Requests other b → a ≡ b
    request_of xid other a b e = cc

pub request_first : (k : EntryKeys) (is vs rest : List Item) (xid : ℤ) (v : Request) → Zips (SealsItem k) is vs → vs ≡ items.Requests xid v ∷ rest → (r : Request) × (others : List Item) × (is ≡ items.Requests xid r ∷ others) × IsVeiled k r v
unfolding Zips SealsItem
request_first k [] [] rest xid v h e = absurd cc
request_first k [] (x ∷ vs) rest xid v h e = absurd h
request_first k (i ∷ is) [] rest xid v h e = absurd h
request_first k (items.Asks a ∷ is) (x ∷ vs) rest xid v h e = absurd (asks_or_requests a xid v (sym h.0 ∙ first_of x vs rest (items.Requests xid v) e))
request_first k (items.Requests number r ∷ is) (items.Asks a ∷ vs) rest xid v h e = absurd h.0
request_first k (items.Requests number r ∷ is) (items.Requests other u ∷ vs) rest xid v h e =
    let same = same_requests other xid u v (first_of (items.Requests other u) vs rest (items.Requests xid v) e) in
    (r, is, (λ j. items.Requests ((sym h.0.0 ∙ same.0) j) r ∷ is), subst (λ (q : Request). IsVeiled k r q) same.1 h.0.1)

pub asks_first : (k : EntryKeys) (is vs rest : List Item) (asked : ConnectRequest) → Zips (SealsItem k) is vs → vs ≡ items.Asks asked ∷ rest → (others : List Item) × (is ≡ items.Asks asked ∷ others)
unfolding Zips SealsItem
asks_first k [] [] rest asked h e = absurd cc
asks_first k [] (x ∷ vs) rest asked h e = absurd h
asks_first k (i ∷ is) [] rest asked h e = absurd h
asks_first k (items.Asks a ∷ is) (x ∷ vs) rest asked h e = (is, (λ j. (sym h.0 ∙ first_of x vs rest (items.Asks asked) e) j ∷ is))
asks_first k (items.Requests number r ∷ is) (items.Asks a ∷ vs) rest asked h e = absurd h.0
asks_first k (items.Requests number r ∷ is) (items.Requests other u ∷ vs) rest asked h e = absurd (asks_or_requests asked other u (sym (first_of (items.Requests other u) vs rest (items.Asks asked) e)))

take_veils : (k : EntryKeys) (c : ℕ) (xid : ℤ) (r v : Request) (zxid now : ℤ) → IsVeiled k r v → VeilsEntry k (Take c xid r zxid now) (Take c xid v zxid now)
unfolding VeilsEntry
take_veils k c xid r v zxid now h = (refl, refl, h, refl, refl)

pub rest_filled : (k : EntryKeys) (e : Entry) (es : List Entry) (sent veiled : ℕ → List Item) → IsFilled k (e ∷ es) sent veiled → IsFilled k es (left_after e sent) (left_after e veiled)
unfolding left_after items_in
rest_filled k (Take d xid v zxid now) es sent veiled h = record {
  seals = λ c. left_zips k (c == d) (sent c) (veiled c) (h.seals c);
  front = λ c. ((h.front c).0, left_front (c == d) (items.Requests xid v) (items_in c es) (veiled c) (h.front c).0 (h.front c).1);
}
rest_filled k (Connect d asked session timeout password zxid now) es sent veiled h = record {
  seals = λ c. left_zips k (c == d) (sent c) (veiled c) (h.seals c);
  front = λ c. ((h.front c).0, left_front (c == d) (items.Asks asked) (items_in c es) (veiled c) (h.front c).0 (h.front c).1);
}
rest_filled k (Lost d) es sent veiled h = record { seals = h.seals; front = h.front }
rest_filled k (Expire session zxid now) es sent veiled h = record { seals = h.seals; front = h.front }

-- the entry filled, and what it has of each connection beside what the entries after it have
pub record OneFilled (k : EntryKeys) (e : Entry) (sent : ℕ → List Item) : Type 0 where
  pub entry : Entry
  pub fills : FillsEntry e sent entry
  pub veils : VeilsEntry k entry e
  pub first : (c : ℕ) (fs : List Entry) (more : List Item) → left_after e sent c ≡ items_in c fs ++ more → sent c ≡ items_in c (entry ∷ fs) ++ more

rest_back : (b : Bool) (i : Item) (own others is more : List Item) → (b ≡ true → own ≡ i ∷ others) → cond b (without_first own) own ≡ is ++ more → own ≡ cond b (i ∷ is) is ++ more
rest_back true i own others is more f e = f refl ∙ ap (λ (l : List Item). i ∷ l) (sym (ap without_first (f refl)) ∙ e)
rest_back false i own others is more f e = e

sent_at : (c d : ℕ) (sent : ℕ → List Item) (l : List Item) → (c == d) ≡ true → sent d ≡ l → sent c ≡ l
sent_at c d sent l t e = ap sent (eqb-true c d t) ∙ e

one_filled : (k : EntryKeys) (e : Entry) (es : List Entry) (sent veiled : ℕ → List Item) → IsFilled k (e ∷ es) sent veiled → OneFilled k e sent
unfolding items_in left_after FillsEntry VeilsEntry
one_filled k (Take d xid v zxid now) es sent veiled h =
    let f = h.front d in
    let own = own_front (d == d) (items.Requests xid v) (items_in d es) (veiled d) f.0 (eq-eqb d d refl) f.1 in
    let r = request_first k (sent d) (veiled d) _ xid v (h.seals d) own in
    record {
      entry = Take d xid r.0 zxid now;
      fills = (xid, r.0, r.1, r.2, refl);
      veils = take_veils k d xid r.0 v zxid now r.3;
      first = λ c fs more ih. rest_back (c == d) (items.Requests xid r.0) (sent c) r.1 (items_in c fs) more (λ t. sent_at c d sent _ t r.2) ih;
    }
one_filled k (Connect d asked session timeout password zxid now) es sent veiled h =
    let f = h.front d in
    let own = own_front (d == d) (items.Asks asked) (items_in d es) (veiled d) f.0 (eq-eqb d d refl) f.1 in
    let r = asks_first k (sent d) (veiled d) _ asked (h.seals d) own in
    record {
      entry = Connect d asked session timeout password zxid now;
      fills = (asked, r.0, r.1, refl);
      veils = refl;
      first = λ c fs more ih. rest_back (c == d) (items.Asks asked) (sent c) r.0 (items_in c fs) more (λ t. sent_at c d sent _ t r.1) ih;
    }
one_filled k (Lost d) es sent veiled h = record { entry = Lost d; fills = refl; veils = refl; first = λ c fs more ih. ih }
one_filled k (Expire session zxid now) es sent veiled h = record { entry = Expire session zxid now; fills = refl; veils = refl; first = λ c fs more ih. ih }

-- the order filled: its requests veiled are the store's, and it has of each connection the first of what it sent
pub record Filled (k : EntryKeys) (order : List Entry) (sent : ℕ → List Item) : Type 0 where
  pub plain_order : List Entry
  pub fills : Fills order sent plain_order
  pub veils : Zips (VeilsEntry k) plain_order order
  pub front : (c : ℕ) → (more : List Item) × (sent c ≡ items_in c plain_order ++ more)

pub fill_all : (k : EntryKeys) (order : List Entry) (sent veiled : ℕ → List Item) → IsFilled k order sent veiled → Filled k order sent
unfolding Fills Zips items_in
fill_all k [] sent veiled h = record { plain_order = []; fills = tt; veils = tt; front = λ c. (sent c, refl) }
fill_all k (e ∷ es) sent veiled h =
    let one = one_filled k e es sent veiled h in
    let rest = fill_all k es (left_after e sent) (left_after e veiled) (rest_filled k e es sent veiled h) in
    record {
      plain_order = one.entry ∷ rest.plain_order;
      fills = (one.fills, rest.fills);
      veils = (one.veils, rest.veils);
      front = λ c. ((rest.front c).0, one.first c rest.plain_order (rest.front c).0 (rest.front c).1);
    }

-- ---- with more items than entries

more_after : (b : Bool) (is more own : List Item) (i : Item) (others : List Item) → (b ≡ true → is ≡ i ∷ others) → own ≡ is ++ more → cond b (without_first own) own ≡ cond b (without_first is) is ++ more
more_after true is more own i others f e = ap without_first (e ∙ ap (λ (l : List Item). l ++ more) (f refl)) ∙ ap (λ (l : List Item). without_first l ++ more) (sym (f refl))
more_after false is more own i others f e = e

fills_rest : (e : Entry) (sent whole more : ℕ → List Item) (f : Entry) → FillsEntry e sent f → ((c : ℕ) → whole c ≡ sent c ++ more c) → (c : ℕ) → left_after e whole c ≡ left_after e sent c ++ more c
unfolding FillsEntry left_after
fills_rest (Connect d asked session timeout password zxid now) sent whole more f (p, others, own, is) h c = more_after (c == d) (sent c) (more c) (whole c) (items.Asks p) others (λ t. sent_at c d sent _ t own) (h c)
fills_rest (Take d xid request zxid now) sent whole more f (number, p, others, own, is) h c = more_after (c == d) (sent c) (more c) (whole c) (items.Requests number p) others (λ t. sent_at c d sent _ t own) (h c)
fills_rest (Lost d) sent whole more f is h c = h c
fills_rest (Expire session zxid now) sent whole more f is h c = h c

fills_first : (e : Entry) (sent whole more : ℕ → List Item) (f : Entry) → FillsEntry e sent f → ((c : ℕ) → whole c ≡ sent c ++ more c) → FillsEntry e whole f
unfolding FillsEntry
fills_first (Connect d asked session timeout password zxid now) sent whole more f (p, others, own, is) h = (p, others ++ more d, h d ∙ ap (λ (l : List Item). l ++ more d) own, is)
fills_first (Take d xid request zxid now) sent whole more f (number, p, others, own, is) h = (number, p, others ++ more d, h d ∙ ap (λ (l : List Item). l ++ more d) own, is)
fills_first (Lost d) sent whole more f is h = is
fills_first (Expire session zxid now) sent whole more f is h = is

-- to fill with more items than there are entries gives the same order
pub fills_more : (es : List Entry) (sent whole more : ℕ → List Item) (fs : List Entry) → Fills es sent fs → ((c : ℕ) → whole c ≡ sent c ++ more c) → Fills es whole fs
unfolding Fills
fills_more [] sent whole more [] h e = tt
fills_more [] sent whole more (f ∷ fs) h e = absurd h
fills_more (x ∷ es) sent whole more [] h e = absurd h
fills_more (x ∷ es) sent whole more (f ∷ fs) h e = (fills_first x sent whole more f h.0 e, fills_more es (left_after x sent) (left_after x whole) more fs h.1 (fills_rest x sent whole more f h.0 e))

-- a filled order has as many items of each connection as the store's
more_items : (b : Bool) (i v : Item) (is vs : List Item) → length is ≡ length vs → length (cond b (i ∷ is) is) ≡ length (cond b (v ∷ vs) vs)
more_items true i v is vs e = ap suc e
more_items false i v is vs e = e

pub same_number : (k : EntryKeys) (c : ℕ) (es fs : List Entry) → Zips (VeilsEntry k) es fs → length (items_in c es) ≡ length (items_in c fs)
unfolding Zips VeilsEntry items_in
same_number k c [] [] h = refl
same_number k c [] (f ∷ fs) h = absurd h
same_number k c (e ∷ es) [] h = absurd h
same_number k c (Take d xid r zxid now ∷ es) (Take d' x' v' z' n' ∷ fs) h = subst (λ (x : ℕ). length (items_in c (Take d xid r zxid now ∷ es)) ≡ length (items_in c (Take x x' v' z' n' ∷ fs))) h.0.0 (more_items (c == d) (items.Requests xid r) (items.Requests x' v') (items_in c es) (items_in c fs) (same_number k c es fs h.1))
same_number k c (Take d xid r zxid now ∷ es) (f ∷ fs) h = absurd h.0
same_number k c (Connect d asked session timeout password zxid now ∷ es) (f ∷ fs) h = subst (λ (x : Entry). length (items_in c (Connect d asked session timeout password zxid now ∷ es)) ≡ length (items_in c (x ∷ fs))) h.0 (more_items (c == d) (items.Asks asked) (items.Asks asked) (items_in c es) (items_in c fs) (same_number k c es fs h.1))
same_number k c (Lost d ∷ es) (f ∷ fs) h = subst (λ (x : Entry). length (items_in c es) ≡ length (items_in c (x ∷ fs))) h.0 (same_number k c es fs h.1)
same_number k c (Expire session zxid now ∷ es) (f ∷ fs) h = subst (λ (x : Entry). length (items_in c es) ≡ length (items_in c (x ∷ fs))) h.0 (same_number k c es fs h.1)
