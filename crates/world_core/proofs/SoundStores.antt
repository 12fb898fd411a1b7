-- A moment stays sound where the store admits a connection, loses one, or ends sessions, and as time passes.
use Rattle.std.proofs.Common.{◌≡◌, ◌<◌, ℕ, ℤ, Bool, true, false, cond, List, [], ◌∷◌, ◌++◌, length, Option, Some, None, refl, sym, ap, subst, ◌∙◌, arith}
use Rattle.std.proofs.lemmas.List.{append-nil}
use Rattle.std.specs.Prelude.{is_some, ◌==◌}
use Rattle.std.proofs.lemmas.Bool.{cases_Bool, eqb-true}
use Rattle.path_seal.specs.Sealed.{AreKeys}
use Rattle.payload_seal.specs.declared.keys.EntryKeys.{EntryKeys}
use Rattle.zk_messages.specs.declared.request.Item.{Item}
use Rattle.counter_enclave.specs.Enclave.{IsSealedName}
use Rattle.tree_state.specs.Changes.{Naming}
use Rattle.tree_state.specs.Trees.{IsNaming}
use Rattle.tree_state.specs.Step.{Act}
use Rattle.store_side.specs.Past.{Past, Later, is_over}
use Rattle.store_side.specs.Follows.{IsSound, IsAdmitted}
use Rattle.store_side.specs.Calls.{AreExpired, IsLoss, admitted_one, after_loss, rest_of, with_at}
use Rattle.store_side.specs.Fill.{items_in}
use Rattle.store_side.specs.declared.ending.StoreEnding.{StoreEnding}
use Rattle.store_side.specs.declared.ending.StoreEnding.TheVariants as endings
use Rattle.store_side.specs.declared.entry.Entry.{Entry}
use Rattle.store_side.specs.declared.entry.Entry.TheVariants.{Connect, Take, Lost, Expire}
use Rattle.store_side.proofs.SoundCalls.{sound_admitted}
use Rattle.session_law.specs.Law.{IsJoined}
use Rattle.world_core.specs.Moments.{Link, Moment, IsSoundAt, IsSoundMoment, connection_of}
use Rattle.world_core.specs.Steps.{LosesIf, Ticks, added, timed}
use Rattle.world_core.proofs.SoundSpots.{IsSoundLink, at_link, link_of}
use Rattle.world_core.proofs.SoundPasts.{sound_later}

-- ---- items

one : (b : Bool) (i : Item) (is js : List Item) {whole : List Item} → whole ≡ is ++ js → cond b (i ∷ whole) whole ≡ cond b (i ∷ is) is ++ js
one true i is js e = ap (λ (l : List Item). i ∷ l) e
one false i is js e = e

-- the items of an order, and of more entries behind it
pub items-append : (c : ℕ) (es fs : List Entry) → items_in c (es ++ fs) ≡ items_in c es ++ items_in c fs
unfolding items_in
items-append c [] fs = refl
items-append c (Connect d asked session timeout password zxid now ∷ es) fs = one (c == d) _ (items_in c es) (items_in c fs) (items-append c es fs)
items-append c (Take d xid request zxid now ∷ es) fs = one (c == d) _ (items_in c es) (items_in c fs) (items-append c es fs)
items-append c (Lost d ∷ es) fs = items-append c es fs
items-append c (Expire session zxid now ∷ es) fs = items-append c es fs

expired_items : (c : ℕ) (now : ℤ) (numbers : List ℤ) (es : List Entry) → AreExpired now numbers es → items_in c es ≡ []
unfolding AreExpired items_in
expired_items c now [] [] h = refl
expired_items c now [] (e ∷ es) h = absurd h
expired_items c now (n ∷ ns) [] h = absurd h
expired_items c now (n ∷ ns) (Expire session zxid at ∷ es) h = expired_items c now ns es h.2
expired_items c now (n ∷ ns) (Connect d asked session timeout password zxid at ∷ es) h = absurd h
expired_items c now (n ∷ ns) (Take d xid r zxid at ∷ es) h = absurd h
expired_items c now (n ∷ ns) (Lost d ∷ es) h = absurd h

-- entries that hold no item of the connection
pub no_items : (c : ℕ) (es fs all : List Entry) → all ≡ es ++ fs → items_in c fs ≡ [] → items_in c all ≡ items_in c es
no_items c es fs all cut none = ap (items_in c) cut ∙ items-append c es fs ∙ ap (λ (l : List Item). items_in c es ++ l) none ∙ append-nil (items_in c es)

-- ---- small facts

pub kept : (o : Option StoreEnding) (rest : List ℕ) → is_some o ≡ false → rest_of o rest ≡ rest
unfolding rest_of
kept None rest none = refl
kept (Some e) rest none = absurd cc

same_parts : (k : EntryKeys) (boot : ℕ) (m n : Moment) → n.links ≡ m.links → IsSoundMoment k boot (record m { past = n.past }) → IsSoundMoment k boot n
same_parts k boot m n links h = record {
  keys = h.keys;
  some = h.some;
  names = h.names;
  past = h.past;
  each = λ c. at_link k boot n c (m.links c) (ap (λ (f : ℕ → Link). f c) links) (link_of k boot (record m { past = n.past }) c (h.each c));
  untouched = λ c out. ap (λ (f : ℕ → Link). f c) links ∙ h.untouched c out;
}

lost_admitted : (c : ℕ) (p : Past) (es : List Entry) (acts : List Act) → (after_loss c es acts p).admitted ≡ p.admitted
unfolding after_loss
lost_admitted c p es acts = refl

lost_pulled : (c d : ℕ) (p : Past) (es : List Entry) (acts : List Act) → (after_loss c es acts p).pulled d ≡ p.pulled d
unfolding after_loss
lost_pulled c d p es acts = refl

lost_order : (c : ℕ) (p : Past) (es : List Entry) (acts : List Act) → (after_loss c es acts p).order ≡ p.order ++ es
unfolding after_loss
lost_order c p es acts = refl

lost_rests : (c d : ℕ) (p : Past) (es : List Entry) (acts : List Act) → is_over (after_loss c es acts p) d ≡ false → (after_loss c es acts p).rests d ≡ p.rests d
unfolding after_loss with_at
lost_rests c d p es acts none = go (d == c) none
  where
    go : (b : Bool) → is_some (cond b (Some endings.Lost) (p.endings d)) ≡ false → cond b [] (p.rests d) ≡ p.rests d
    go true none = absurd cc
    go false none = refl

over_stays : (c d : ℕ) (p : Past) → p.endings c ≡ None → (e : StoreEnding) → p.endings d ≡ Some e → with_at c (Some endings.Lost) p.endings d ≡ Some e
unfolding with_at
over_stays c d p none e is = go (d == c) (eqb-true d c)
  where
    go : (b : Bool) → (b ≡ true → d ≡ c) → cond b (Some endings.Lost) (p.endings d) ≡ Some e
    go true same = let at_c : p.endings c ≡ Some e = sym (ap p.endings (same refl)) ∙ is in absurd cc
    go false same = is

admitted_joined : (k : EntryKeys) (boot c : ℕ) (p : Past) (l : Link) (items : List Item) → IsJoined k boot c p (connection_of l) items l.under_way l.unfed
    → IsJoined k boot c (admitted_one p) (connection_of l) items l.under_way l.unfed
admitted_joined k boot c p l items j = record {
  ran = j.ran;
  is_sent = j.is_sent;
  came = j.came;
  piped = j.piped;
  client_side = j.client_side;
  store_side = j.store_side;
  up = j.up;
  bodies = j.bodies;
  more = j.more;
  partial = j.partial;
  stream = j.stream;
  spelled = j.spelled;
  none_left = j.none_left;
}

admitted_at : (k : EntryKeys) (boot : ℕ) (m : Moment) (c : ℕ) → IsSoundAt k boot m c → IsSoundAt k boot (added m) c
unfolding admitted_joined
admitted_at k boot m c h = record {
  items = h.items;
  joined = admitted_joined k boot c m.past (m.links c) h.items h.joined;
  behind = h.behind;
  rest = h.rest;
  cut = h.cut;
}

-- ---- a connection is admitted, and time passes

pub sound_added : (k : EntryKeys) (boot : ℕ) (m : Moment) → IsSoundMoment k boot m → IsSoundMoment k boot (added m)
sound_added k boot m h = record {
  keys = h.keys;
  some = h.some;
  names = h.names;
  past = sound_admitted m.past h.past;
  each = λ c. admitted_at k boot m c (h.each c);
  untouched = λ c out. h.untouched c (λ at. out (record { from = at.from; below = omega (arith, at.below) }));
}

pub sound_timed : (k : EntryKeys) (boot : ℕ) (m : Moment) (now : ℤ) → IsSoundMoment k boot m → IsSoundMoment k boot (timed now m)
sound_timed k boot m now h = record {
  keys = h.keys;
  some = h.some;
  names = h.names;
  past = h.past;
  each = λ c. record { items = (h.each c).items; joined = (h.each c).joined; behind = (h.each c).behind; rest = (h.each c).rest; cut = (h.each c).cut };
  untouched = h.untouched;
}

-- ---- the store goes on, and takes nothing of any connection

pub record TakesNothing (old new : Past) : Type 0 where
  pub sound : IsSound new
  pub later : Later old new
  pub admitted : new.admitted ≡ old.admitted
  pub pulled : (c : ℕ) → new.pulled c ≡ old.pulled c
  pub items : (c : ℕ) → items_in c new.order ≡ items_in c old.order
  pub rests : (c : ℕ) → is_over new c ≡ false → new.rests c ≡ old.rests c

pub sound_with : (k : EntryKeys) (boot : ℕ) (m : Moment) (new : Past) → IsSoundMoment k boot m → TakesNothing m.past new → IsSoundMoment k boot (record m { past = new })
sound_with k boot m new h t = record {
  keys = h.keys;
  some = h.some;
  names = subst (λ (x : Naming). IsNaming (IsSealedName k.names) x) (sym t.later.naming) h.names;
  past = t.sound;
  each = λ c. at_link k boot (record m { past = new }) c (m.links c) refl
      (sound_later k boot c m.past new (m.links c) h.past t.later (t.pulled c) (t.items c) (t.rests c) (link_of k boot m c (h.each c)));
  untouched = λ c out. h.untouched c (λ at. out (record { from = at.from; below = rw t.admitted at.below }));
}

-- ---- sessions end

pub sound_ticks : (k : EntryKeys) (boot : ℕ) (m n : Moment) → IsSoundMoment k boot m → Ticks m n → IsSoundMoment k boot n
sound_ticks k boot m n h t =
    let x = t.ticked in
    let nothing : TakesNothing m.past n.past = record {
      sound = x.sound h.past;
      later = x.later;
      admitted = x.admitted;
      pulled = x.pulled;
      items = λ c. no_items c m.past.order x.later.entries n.past.order x.later.order (expired_items c m.now x.numbers x.later.entries x.expired);
      rests = λ c none. x.rests c ∙ kept (n.past.endings c) (m.past.rests c) none;
    } in
    same_parts k boot m n t.links (sound_with k boot m n.past h nothing)

-- ---- a connection is lost

loss_items : (c d : ℕ) (p : Past) (es : List Entry) (acts : List Act) → IsLoss p c es acts → items_in d es ≡ []
unfolding IsLoss items_in
loss_items c d p [] acts h = refl
loss_items c d p (e ∷ es) acts h = ap (items_in d) h.1

loss_later : (c : ℕ) (p : Past) (es : List Entry) (acts : List Act) → p.endings c ≡ None → Later p (after_loss c es acts p)
unfolding after_loss
loss_later c p es acts none = record {
  naming = refl;
  key = refl;
  limit = refl;
  admitted = omega arith;
  entries = es;
  order = refl;
  more_acts = acts;
  acts = refl;
  more_told = λ d. [];
  told = λ d. sym (append-nil (p.told d));
  more_pulled = λ d. [];
  pulled = λ d. sym (append-nil (p.pulled d));
  more_bytes = λ d. [];
  bytes = λ d. sym (append-nil (p.pulled d ++ p.waiting d));
  endings = λ d e is. over_stays c d p none e is;
}

lost_by : (k : EntryKeys) (boot : ℕ) (m : Moment) (c : ℕ) (new : Past) (o : Option StoreEnding) → m.past.endings c ≡ o → IsSoundMoment k boot m
    → LosesIf o c m.past new → IsSoundMoment k boot (record m { past = new })
unfolding LosesIf
lost_by k boot m c new None none h (entries, acts, loss, is, sound) =
    sound_with k boot m new h (record {
      sound = sound h.past;
      later = subst (λ (p : Past). Later m.past p) (sym is) (loss_later c m.past entries acts none);
      admitted = ap (λ (p : Past). p.admitted) is ∙ lost_admitted c m.past entries acts;
      pulled = λ d. ap (λ (p : Past). p.pulled d) is ∙ lost_pulled c d m.past entries acts;
      items = λ d. no_items d m.past.order entries new.order (ap (λ (p : Past). p.order) is ∙ lost_order c m.past entries acts) (loss_items c d m.past entries acts loss);
      rests = λ d going. ap (λ (p : Past). p.rests d) is ∙ lost_rests c d m.past entries acts (sym (ap (λ (p : Past). is_over p d) is) ∙ going);
    })
lost_by k boot m c new (Some e) over h is = subst (λ (p : Past). IsSoundMoment k boot (record m { past = p })) (sym is) h

pub sound_loses : (k : EntryKeys) (boot : ℕ) (m : Moment) (c : ℕ) (new : Past) → IsSoundMoment k boot m → IsAdmitted m.past c
    → LosesIf (m.past.endings c) c m.past new → IsSoundMoment k boot (record m { past = new })
sound_loses k boot m c new h inside x = lost_by k boot m c new (m.past.endings c) refl h x
