-- A frame of a client leads to one stand.
use Rattle.std.proofs.Common.{◌≡◌, ℕ, ◌+◌, ◌<◌, ◌≤◌, ◌^◌, List, [], ◌∷◌, ◌++◌, length, refl, sym, ap, subst, ◌∙◌, arith}
use Rattle.jute_core.specs.declared.cursor.Refusal.{Refusal}
use Rattle.payload_seal.specs.Ivs.{Ivs}
use Rattle.payload_seal.specs.declared.keys.EntryKeys.{EntryKeys}
use Rattle.zk_messages.specs.Items.{IsItem}
use Rattle.zk_messages.specs.Sent.{is_first}
use Rattle.zk_messages.specs.declared.request.Item.{Item}
use Rattle.zk_messages.specs.declared.request.Item.TheVariants as items
use Rattle.request_rewrite.specs.Ivs.{ivs_from}
use Rattle.request_rewrite.proofs.Once.{veiled_once}
use Rattle.entry_session.specs.ClientTurns.{PayloadsIn, VeilsItem, source_at, RefusedItem, HasRoom, ClientTurn, malformed_frame, full_queue, spent_ivs, handed_up}
use Rattle.entry_session.specs.Stands.{Stand, ends}
use Rattle.entry_session.specs.declared.ending.Ending.TheVariants.{ClientMalformed}
use Rattle.entry_session.proofs.OneItem.{one_item, one_body, item_or_refused, one_item_refusal}

one_count : (i : Item) (m n : ℕ) → PayloadsIn i m → PayloadsIn i n → m ≡ n
unfolding PayloadsIn
one_count (items.Asks asked) m n p q = p ∙ sym q
one_count (items.Requests xid r) m n p q = veiled_once.one_number r m n p q

one_veil : (k : EntryKeys) (source : Ivs) (n : ℕ) (i v w : Item) → VeilsItem k source n i v → VeilsItem k source n i w → v ≡ w
unfolding VeilsItem
one_veil k source n (items.Asks asked) v w p q = p ∙ sym q
one_veil k source n (items.Requests xid r) (items.Requests a v) (items.Requests b w) p q =
    let number = p.0 ∙ sym q.0 in
    let form = veiled_once.one_form k (ivs_from source n) r v w p.1 q.1 in
    (λ i. items.Requests (number i) (form i))
one_veil k source n (items.Requests xid r) (items.Requests a v) (items.Asks asked) p q = absurd q
one_veil k source n (items.Requests xid r) (items.Asks asked) w p q = absurd p

-- the stand after an item that was handed up
abbrev sent_with : Stand → Item → ℕ → ℕ → List ℕ → Stand
sent_with old i size n out = record old { items = old.items ++ i ∷ []; sizes = old.sizes ++ size ∷ []; sealed = old.sealed + n; up = old.up ++ out ∷ [] }

same_sent : (old : Stand) (i j : Item) (size m n : ℕ) (x y : List ℕ) → i ≡ j → m ≡ n → x ≡ y → sent_with old i size m x ≡ sent_with old j size n y
same_sent old i j size m n x y e f g = (λ l. sent_with old (e l) size (f l) (g l))

both_up : (k : EntryKeys) (boot c : ℕ) (old : Stand) (body : List ℕ) (i j v w : Item) (m n : ℕ) (x y : List ℕ) → i ≡ j → PayloadsIn i m → PayloadsIn j n → VeilsItem k (source_at k boot c old.sealed) m i v → VeilsItem k (source_at k boot c old.sealed) n j w
    → IsItem (is_first old.items) v x → IsItem (is_first old.items) w y → sent_with old i (length body) m x ≡ sent_with old j (length body) n y
both_up k boot c old body i j v w m n x y e p q h g s t =
    let count = one_count j m n (subst (λ (l : Item). PayloadsIn l m) e p) q in
    let h' : VeilsItem k (source_at k boot c old.sealed) n j v = subst (λ (l : Item). VeilsItem k (source_at k boot c old.sealed) n l v) e (subst (λ (l : ℕ). VeilsItem k (source_at k boot c old.sealed) l i v) count h) in
    let form = one_veil k (source_at k boot c old.sealed) n j v w h' g in
    same_sent old i j (length body) m n x y e count (one_body (is_first old.items) w x y (subst (λ (l : Item). IsItem (is_first old.items) l x) form s) t)

spent_or_not : (old : Stand) (i j : Item) (m n : ℕ) → i ≡ j → PayloadsIn i m → PayloadsIn j n → 2 ^ 32 < old.sealed + m → old.sealed + n ≤ 2 ^ 32 → ⊥
spent_or_not old i j m n e p q l h = omega (arith, one_count j m n (subst (λ (l : Item). PayloadsIn l m) e p) q, l, h)

no_room : (old : Stand) (i j : Item) (size : ℕ) → i ≡ j → HasRoom old i size → (HasRoom old j size → ⊥) → ⊥
no_room old i j size e h f = f (subst (λ (l : Item). HasRoom old l size) e h)

module _ (k : EntryKeys) (boot c : ℕ) (old : Stand) (body : List ℕ) where
  the_item : (i j : Item) → IsItem (is_first old.items) i body → IsItem (is_first old.items) j body → i ≡ j
  the_item i j f g = one_item (is_first old.items) i j body f g

  not_refused : (i : Item) (r : Refusal) → IsItem (is_first old.items) i body → RefusedItem (is_first old.items) body r → ⊥
  not_refused i r f g = item_or_refused (is_first old.items) i body r f g

  pub one_client : (s t : Stand) → ClientTurn k boot c old body s → ClientTurn k boot c old body t → s ≡ t
  one_client s t (malformed_frame r f) (malformed_frame q g) = ap (λ x. ends old (ClientMalformed x)) (one_item_refusal (is_first old.items) body r q f g)
  one_client s t (malformed_frame r f) (full_queue j g h) = absurd (not_refused j r g f)
  one_client s t (malformed_frame r f) (spent_ivs j n g h p l) = absurd (not_refused j r g f)
  one_client s t (malformed_frame r f) (handed_up j w n y g h p l q o) = absurd (not_refused j r g f)
  one_client s t (full_queue i f h) (malformed_frame q g) = absurd (not_refused i q f g)
  one_client s t (full_queue i f h) (full_queue j g l) = refl
  one_client s t (full_queue i f h) (spent_ivs j n g l p m) = absurd (no_room old j i (length body) (the_item j i g f) l h)
  one_client s t (full_queue i f h) (handed_up j w n y g l p m q o) = absurd (no_room old j i (length body) (the_item j i g f) l h)
  one_client s t (spent_ivs i n f h p l) (malformed_frame q g) = absurd (not_refused i q f g)
  one_client s t (spent_ivs i n f h p l) (full_queue j g m) = absurd (no_room old i j (length body) (the_item i j f g) h m)
  one_client s t (spent_ivs i n f h p l) (spent_ivs j m g r q o) = refl
  one_client s t (spent_ivs i n f h p l) (handed_up j w m y g r q o u x) = absurd (spent_or_not old i j n m (the_item i j f g) p q l o)
  one_client s t (handed_up i v n x f h p l q o) (malformed_frame r g) = absurd (not_refused i r f g)
  one_client s t (handed_up i v n x f h p l q o) (full_queue j g m) = absurd (no_room old i j (length body) (the_item i j f g) h m)
  one_client s t (handed_up i v n x f h p l q o) (spent_ivs j m g r u w) = absurd (spent_or_not old j i m n (the_item j i g f) u p w l)
  one_client s t (handed_up i v n x f h p l q o) (handed_up j w m y g r u a b d) = both_up k boot c old body i j v w n m x y (the_item i j f g) p u q b o d
