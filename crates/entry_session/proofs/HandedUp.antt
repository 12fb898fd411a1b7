-- What a session handed up is what it was sent, veiled with the IVs of its source.
use Rattle.std.proofs.Common.{◌≡◌, ℕ, ◌+◌, ◌≤◌, ◌^◌, Bool, true, false, cond, List, [], ◌∷◌, ◌++◌, refl, sym, subst, arith}
use Rattle.payload_seal.specs.declared.keys.EntryKeys.{EntryKeys}
use Rattle.zk_messages.specs.Items.{IsItem}
use Rattle.zk_messages.specs.Sent.{is_first}
use Rattle.zk_messages.specs.declared.request.Item.{Item}
use Rattle.entry_session.specs.ClientTurns.{ClientTurn, malformed_frame, full_queue, spent_ivs, handed_up}
use Rattle.entry_session.specs.Heard.{Heard, from_client, from_store, bad_client, bad_store, given}
use Rattle.entry_session.specs.Laws.{HandsUpVeiled}
use Rattle.entry_session.specs.Runs.{TurnOf, Ran}
use Rattle.entry_session.specs.Stands.{Stand, fresh}
use Rattle.entry_session.specs.Veiled.{IsVeiledTo, VeilsFrom, SpellsItems}
use Rattle.entry_session.proofs.Turns.{SameUp, goes, end_up, store_up}

-- item by item, up to this number of payloads sealed
unfoldable pub VeilsUpTo : EntryKeys → ℕ → ℕ → ℕ → List Item → List Item → ℕ → Type 0
VeilsUpTo k boot c sealed [] [] end = sealed ≡ end
VeilsUpTo k boot c sealed [] (v ∷ vs) end = ⊥
VeilsUpTo k boot c sealed (i ∷ is) [] end = ⊥
VeilsUpTo k boot c sealed (i ∷ is) (v ∷ vs) end = (after : ℕ) × IsVeiledTo k boot c sealed i v after × VeilsUpTo k boot c after is vs end

one_veiled : (k : EntryKeys) (boot c sealed end next : ℕ) (is vs : List Item) (i v : Item) → VeilsUpTo k boot c sealed is vs end → IsVeiledTo k boot c end i v next → VeilsUpTo k boot c sealed (is ++ i ∷ []) (vs ++ v ∷ []) next
unfolding VeilsUpTo
one_veiled k boot c sealed end next [] [] i v h j = (next, subst (λ (n : ℕ). IsVeiledTo k boot c n i v next) (sym h) j, refl)
one_veiled k boot c sealed end next [] (x ∷ vs) i v h j = absurd h
one_veiled k boot c sealed end next (x ∷ is) [] i v h j = absurd h
one_veiled k boot c sealed end next (x ∷ is) (y ∷ vs) i v h j = (h.0, h.1, one_veiled k boot c h.0 end next is vs i v h.2 j)

pub whole_veiled : (k : EntryKeys) (boot c sealed end : ℕ) (is vs : List Item) → VeilsUpTo k boot c sealed is vs end → VeilsFrom k boot c sealed is vs
unfolding VeilsUpTo VeilsFrom
whole_veiled k boot c sealed end [] [] h = refl
whole_veiled k boot c sealed end [] (v ∷ vs) h = absurd h
whole_veiled k boot c sealed end (i ∷ is) [] h = absurd h
whole_veiled k boot c sealed end (i ∷ is) (v ∷ vs) h = (h.0, h.1, whole_veiled k boot c h.0 end is vs h.2)

later_kind : (is : List Item) (i : Item) (b : List ℕ) → IsItem false i b → IsItem (cond (is_first is) false false) i b
later_kind [] i b h = h
later_kind (x ∷ is) i b h = h

-- one item more
pub spells_one : (first : Bool) (is : List Item) (bs : List (List ℕ)) (i : Item) (b : List ℕ) → SpellsItems first is bs → IsItem (cond (is_first is) first false) i b → SpellsItems first (is ++ i ∷ []) (bs ++ b ∷ [])
unfolding SpellsItems
spells_one first [] [] i b h j = (j, tt)
spells_one first [] (x ∷ bs) i b h j = absurd h
spells_one first (x ∷ is) [] i b h j = absurd h
spells_one first (x ∷ is) (y ∷ bs) i b h j = (h.0, spells_one false is bs i b h.1 (later_kind is i b j))

-- what was handed up, and how many payloads were sealed
pub record HandedUp (k : EntryKeys) (boot c : ℕ) (s : Stand) : Type 0 where
  pub veiled : List Item
  pub each : VeilsUpTo k boot c 0 s.items veiled s.sealed
  pub spelled : SpellsItems true veiled s.up
  pub within : s.sealed ≤ 2 ^ 32

same_kind : (k : EntryKeys) (boot c sealed end : ℕ) (is vs : List Item) (v : Item) (b : List ℕ) → VeilsUpTo k boot c sealed is vs end → IsItem (is_first is) v b → IsItem (cond (is_first vs) true false) v b
unfolding VeilsUpTo
same_kind k boot c sealed end [] [] v b h j = j
same_kind k boot c sealed end [] (x ∷ vs) v b h j = absurd h
same_kind k boot c sealed end (i ∷ is) [] v b h j = absurd h
same_kind k boot c sealed end (i ∷ is) (x ∷ vs) v b h j = j

client_handed : (k : EntryKeys) (boot c : ℕ) (old : Stand) (body : List ℕ) (new : Stand) → HandedUp k boot c old → ClientTurn k boot c old body new → HandedUp k boot c new
client_handed k boot c old body new h (malformed_frame refusal f) = record { veiled = h.veiled; each = h.each; spelled = h.spelled; within = h.within }
client_handed k boot c old body new h (full_queue i f g) = record { veiled = h.veiled; each = h.each; spelled = h.spelled; within = h.within }
client_handed k boot c old body new h (spent_ivs i n f g p l) = record { veiled = h.veiled; each = h.each; spelled = h.spelled; within = h.within }
client_handed k boot c old body new h (handed_up i v n out f g p l q o) = record {
  veiled = h.veiled ++ v ∷ [];
  each = one_veiled k boot c 0 old.sealed (old.sealed + n) old.items h.veiled i v h.each (record { count = n; payloads = p; within = l; veils = q; after_is = refl });
  spelled = spells_one true h.veiled old.up v out h.spelled (same_kind k boot c 0 old.sealed old.items h.veiled v out h.each o);
  within = l;
}

handed_along : (k : EntryKeys) (boot c : ℕ) (old new : Stand) → SameUp old new → HandedUp k boot c old → HandedUp k boot c new
handed_along k boot c old new e h = record {
  veiled = h.veiled;
  each = subst (λ (l : List Item). VeilsUpTo k boot c 0 l h.veiled new.sealed) (sym e.items_are) (subst (λ (n : ℕ). VeilsUpTo k boot c 0 old.items h.veiled n) (sym e.sealed_is) h.each);
  spelled = subst (λ (l : List (List ℕ)). SpellsItems true h.veiled l) (sym e.up_is) h.spelled;
  within = subst (λ (n : ℕ). n ≤ 2 ^ 32) (sym e.sealed_is) h.within;
}

turn_handed : (k : EntryKeys) (boot c : ℕ) (old : Stand) (h : Heard) (new : Stand) → TurnOf k boot c old h new → HandedUp k boot c old → HandedUp k boot c new
unfolding TurnOf
turn_handed k boot c old (from_client body) new t x = client_handed k boot c old body new x t.1
turn_handed k boot c old (from_store body) new t x = handed_along k boot c old new (store_up k c old body new old.items old.answered t.1) x
turn_handed k boot c old (bad_client z) new t x = handed_along k boot c old new (end_up old new _ t.1) x
turn_handed k boot c old (bad_store z) new t x = handed_along k boot c old new (end_up old new _ t.1) x
turn_handed k boot c old (given e) new t x = handed_along k boot c old new (end_up old new e t.1) x

fresh_handed : (k : EntryKeys) (boot c : ℕ) → HandedUp k boot c fresh
unfolding VeilsUpTo SpellsItems
fresh_handed k boot c = record { veiled = []; each = refl; spelled = tt; within = omega arith }

pub handed : (k : EntryKeys) (boot c : ℕ) (hs : List Heard) (s : Stand) → Ran k boot c hs s → HandedUp k boot c s
unfolding Ran
handed k boot c [] s e = subst (HandedUp k boot c) (sym e) (fresh_handed k boot c)
handed k boot c (h ∷ hs) s (old, ran, t) = turn_handed k boot c old h s (goes k boot c old h s t).turn (handed k boot c hs old ran)

pub hands_up_veiled : HandsUpVeiled
hands_up_veiled k boot c hs s ran = let h = handed k boot c hs s ran in record { veiled = h.veiled; each = whole_veiled k boot c 0 s.sealed s.items h.veiled h.each; spelled = h.spelled }
