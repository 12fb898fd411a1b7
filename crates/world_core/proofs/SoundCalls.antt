-- Each call leaves a sound moment sound.
use Rattle.std.proofs.Common.{◌≡◌, ℕ, ℤ, ◌+◌, ◌<◌, ◌≤◌, zero, suc, true, List, [], ◌∷◌, None, Some, Option, refl, sym, ap, subst, ◌∙◌, arith, inl, inr}
use Rattle.std.proofs.lemmas.Bool.{cases_Bool}
use Rattle.payload_seal.specs.declared.keys.EntryKeys.{EntryKeys}
use Rattle.store_side.specs.declared.ending.StoreEnding.{StoreEnding}
use Rattle.store_side.specs.Past.{Past}
use Rattle.store_side.specs.Follows.{IsAdmitted}
use Rattle.store_side.specs.Calls.{after_loss, after_pull}
use Rattle.entry_session.specs.Runs.{IsGivenEnding}
use Rattle.entry_session.specs.declared.ending.Ending.{Ending}
use Rattle.entry_session.specs.declared.ending.Ending.TheVariants as endings
use Rattle.world_core.specs.declared.amount.Amount.{Amount}
use Rattle.world_core.specs.declared.amount.Amount.TheVariants.{All}
use Rattle.world_core.specs.Moments.{IsSoundMoment, Link, Moment}
use Rattle.world_core.specs.Steps.{BringsIf, Cuts, Down, Feeds, ForEach, GoesDown, GoesUp, Leaves, LeavesIf, LosesIf, Sends, Spot, TakesIf, UnlessCut, Up, ended, ended_by, over, over_by, spot_of, with_spot}
use Rattle.world_core.proofs.SoundSpots.{at_other, at_own, spot_again, spot_own}
use Rattle.world_core.proofs.SentItems.{spell_items}
use Rattle.world_core.proofs.SoundLinks.{sound_comes, sound_cut_mark, sound_ended, sound_over, sound_sends}
use Rattle.world_core.proofs.SoundBrings.{sound_brings}
use Rattle.world_core.proofs.SoundFeeds.{sound_feeds}
use Rattle.world_core.proofs.SoundStores.{sound_loses}

-- ---- the store elsewhere

-- it admitted no connection, and none was pulled but this one
pub record SameElsewhere (c : ℕ) (old new : Past) : Type 0 where
  pub admitted : new.admitted ≡ old.admitted
  pub pulled : (d : ℕ) → (d ≡ c → ⊥) → new.pulled d ≡ old.pulled d

same_past : (c : ℕ) (old new : Past) → new ≡ old → SameElsewhere c old new
same_past c old new e = record { admitted = ap (λ (p : Past). p.admitted) e; pulled = λ d h. ap (λ (p : Past). p.pulled d) e }

then_same : (c : ℕ) (old mid new : Past) → SameElsewhere c old mid → SameElsewhere c mid new → SameElsewhere c old new
then_same c old mid new a b = record { admitted = b.admitted ∙ a.admitted; pulled = λ d h. b.pulled d h ∙ a.pulled d h }

same_takes : (o : Option StoreEnding) (c : ℕ) (now : ℤ) (piece : List ℕ) (old new : Past) → TakesIf o c now piece old new → SameElsewhere c old new
unfolding TakesIf
same_takes None c now piece old new t = record { admitted = t.1.admitted; pulled = λ d h. t.1.pulled d }
same_takes (Some e) c now piece old new t = same_past c old new t

lost_same : (c : ℕ) (old new : Past) (entries : _) (acts : _) → new ≡ after_loss c entries acts old → SameElsewhere c old new
unfolding after_loss
lost_same c old new entries acts e = record { admitted = ap (λ (p : Past). p.admitted) e; pulled = λ d h. ap (λ (p : Past). p.pulled d) e }

pub same_loses : (o : Option StoreEnding) (c : ℕ) (old new : Past) → LosesIf o c old new → SameElsewhere c old new
unfolding LosesIf
same_loses None c old new l = lost_same c old new l.0 l.1 l.3
same_loses (Some e) c old new l = same_past c old new l

same_leaves : (o : Option Ending) (unfed : List ℕ) (c : ℕ) (old new : Past) → LeavesIf o unfed c old new → SameElsewhere c old new
unfolding LeavesIf
same_leaves None unfed c old new l = same_past c old new l
same_leaves (Some e) (b ∷ bs) c old new l = same_past c old new l
same_leaves (Some e) [] c old new l = same_loses (old.endings c) c old new l

pulled_same : (c n : ℕ) (old new : Past) → new ≡ after_pull c n old → SameElsewhere c old new
unfolding after_pull
pulled_same c n old new e = record {
  admitted = ap (λ (p : Past). p.admitted) e;
  pulled = λ d h. ap (λ (p : Past). p.pulled d) e ∙ at_other c d _ old.pulled h;
}

same_brings : (o : Option Ending) (k : EntryKeys) (boot c : ℕ) (amount : Amount) (old new : Spot) → BringsIf o k boot c amount old new → SameElsewhere c old.past new.past
unfolding BringsIf
same_brings None k boot c amount old new b = pulled_same c _ old.past new.past b.past
same_brings (Some e) k boot c amount old new b = same_past c old.past new.past (ap (λ (s : Spot). s.past) b)

still_in : (c : ℕ) (old new : Past) → SameElsewhere c old new → IsAdmitted old c → IsAdmitted new c
still_in c old new s a = record { from = a.from; below = omega (arith, a.below, s.admitted) }

-- ---- calls on one connection

-- where a call leads this connection, the moment is sound, and the others stand as before
pub record SoundAfter (k : EntryKeys) (boot : ℕ) (m : Moment) (c : ℕ) (s : Spot) : Type 0 where
  pub sound : IsSoundMoment k boot (with_spot c s m)
  pub same : SameElsewhere c m.past s.past

leaves_if : (o : Option Ending) (unfed : List ℕ) (k : EntryKeys) (boot : ℕ) (m : Moment) (c : ℕ) (new : Past) → IsSoundMoment k boot m → IsAdmitted m.past c
    → LeavesIf o unfed c m.past new → IsSoundMoment k boot (record m { past = new })
unfolding LeavesIf
leaves_if None unfed k boot m c new h a l = subst (λ (p : Past). IsSoundMoment k boot (record m { past = p })) (sym l) h
leaves_if (Some e) (b ∷ bs) k boot m c new h a l = subst (λ (p : Past). IsSoundMoment k boot (record m { past = p })) (sym l) h
leaves_if (Some e) [] k boot m c new h a l = sound_loses k boot m c new h a l

sound_leaves : (k : EntryKeys) (boot : ℕ) (m : Moment) (c : ℕ) (s n : Spot) → IsAdmitted m.past c → SoundAfter k boot m c s → Leaves c s n → SoundAfter k boot m c n
sound_leaves k boot m c s n a h l =
    let same = same_leaves s.link.stand.ending s.link.unfed c s.past n.past l.past in
    record {
      sound = subst (λ (x : Link). IsSoundMoment k boot (with_spot c (record { past = n.past; link = x }) m)) (sym l.link)
          (leaves_if s.link.stand.ending s.link.unfed k boot (with_spot c s m) c n.past h.sound (still_in c m.past s.past h.same a) l.past);
      same = then_same c m.past s.past n.past h.same same;
    }

pub sound_up : (k : EntryKeys) (boot : ℕ) (m : Moment) (c : ℕ) (first second : Amount) (n : Spot) → IsSoundMoment k boot m → IsAdmitted m.past c
    → GoesUp k boot c m.now first second (spot_of c m) n → SoundAfter k boot m c n
sound_up k boot m c first second n h a u =
    let s : Spot = record { past = m.past; link = u.link } in
    let one = sound_comes k boot m c first u.link h a u.comes in
    let feeds = subst (λ (x : Spot). Feeds c m.now second x u.fed) (sym (spot_own c s m)) u.feeds in
    let two = sound_feeds k boot (with_spot c s m) c second u.fed one a feeds in
    sound_leaves k boot m c u.fed n a (record {
      sound = subst (IsSoundMoment k boot) (spot_again c u.fed s m) two;
      same = same_takes (m.past.endings c) c m.now _ m.past u.fed.past u.feeds.takes;
    }) u.leaves

pub sound_down : (k : EntryKeys) (boot : ℕ) (m : Moment) (c : ℕ) (amount : Amount) (n : Spot) → IsSoundMoment k boot m → IsAdmitted m.past c
    → GoesDown k boot c amount (spot_of c m) n → SoundAfter k boot m c n
sound_down k boot m c amount n h a d =
    let s : Spot = d.brought in
    let one = sound_brings k boot m c amount s h a d.brings in
    let same = same_brings (m.links c).stand.ending k boot c amount (spot_of c m) s d.brings in
    let two = sound_over k boot (with_spot c s m) c (s.past.endings c) (s.past.waiting c) one (still_in c m.past s.past same a) in
    let three = subst (λ (l : Link). IsSoundMoment k boot (with_spot c (record { past = s.past; link = over_by (s.past.endings c) (s.past.waiting c) l }) (with_spot c s m))) (at_own c s.link m.links) two in
    sound_leaves k boot m c (over c s) n a (record {
      sound = subst (IsSoundMoment k boot) (spot_again c (over c s) s m) three;
      same = same;
    }) d.leaves

pub has_ending : (o : Option Ending) (e : Ending) (l : Link) → o ≡ l.stand.ending → (ended_by o e l).stand.ending ≡ None → ⊥
unfolding ended_by
has_ending None e l is h = absurd cc
has_ending (Some f) e l is h = absurd cc

pub sound_cut : (k : EntryKeys) (boot : ℕ) (m : Moment) (c : ℕ) (n : Spot) → IsSoundMoment k boot m → IsAdmitted m.past c
    → Cuts c (spot_of c m) n → SoundAfter k boot m c n
unfolding IsGivenEnding
sound_cut k boot m c n h a x =
    let l : Link = ended endings.ClientEnd (m.links c) in
    let s : Spot = record { past = m.past; link = l } in
    let t : Spot = record { past = m.past; link = record l { cut = true } } in
    let is : l ≡ (with_spot c s m).links c = sym (at_own c l m.links) in
    let one = sound_ended k boot m c endings.ClientEnd tt h a in
    let over = subst (λ (y : Link). y.stand.ending ≡ None → ⊥) is (has_ending (m.links c).stand.ending endings.ClientEnd (m.links c) refl) in
    let two = sound_cut_mark k boot (with_spot c s m) c over one a in
    let three = subst (λ (y : Link). IsSoundMoment k boot (with_spot c (record { past = m.past; link = record y { cut = true } }) (with_spot c s m))) (sym is) two in
    let four = subst (IsSoundMoment k boot) (spot_again c t s m) three in
    let five = sound_loses k boot (with_spot c t m) c n.past four a x.loses in
    record {
      sound = subst (λ (y : Link). IsSoundMoment k boot (with_spot c (record { past = n.past; link = y }) m)) (sym x.link) five;
      same = same_loses (m.past.endings c) c m.past n.past x.loses;
    }

pub sound_send : (k : EntryKeys) (boot : ℕ) (m : Moment) (c : ℕ) (bytes : List ℕ) (n : Spot) → IsSoundMoment k boot m → IsAdmitted m.past c
    → Sends bytes (spot_of c m) n → SoundAfter k boot m c n
sound_send k boot m c bytes n h a x = record { sound = sound_sends spell_items k boot m c bytes n h a x; same = same_past c m.past n.past x.past }

-- ---- unless it was cut

-- what is left sound, and with as many connections
pub record StaysSound (k : EntryKeys) (boot : ℕ) (m n : Moment) : Type 0 where
  pub sound : IsSoundMoment k boot n
  pub admitted : n.past.admitted ≡ m.past.admitted

stays_at : (k : EntryKeys) (boot : ℕ) (m n : Moment) (c : ℕ) (s : Spot) → SoundAfter k boot m c s → n ≡ with_spot c s m → StaysSound k boot m n
stays_at k boot m n c s h e = record { sound = subst (IsSoundMoment k boot) (sym e) h.sound; admitted = ap (λ (x : Moment). x.past.admitted) e ∙ h.same.admitted }

stays_same : (k : EntryKeys) (boot : ℕ) (m n : Moment) → IsSoundMoment k boot m → n ≡ m → StaysSound k boot m n
stays_same k boot m n h e = record { sound = subst (IsSoundMoment k boot) (sym e) h; admitted = ap (λ (x : Moment). x.past.admitted) e }

sound_unless : (k : EntryKeys) (boot : ℕ) (m n : Moment) (c : ℕ) (P : Spot → Spot → Type 0) → IsSoundMoment k boot m
    → ((s : Spot) → P (spot_of c m) s → SoundAfter k boot m c s) → UnlessCut c P m n → StaysSound k boot m n
sound_unless k boot m n c P h each u = elim (cases_Bool (m.links c).cut) [
  | inl t ↦ stays_same k boot m n h (u.cut t)
  | inr f ↦ let w = u.whole f in stays_at k boot m n c w.0 (each w.0 w.1) w.2
]

pub stays_up : (k : EntryKeys) (boot : ℕ) (m n : Moment) (c : ℕ) (first second : Amount) → IsSoundMoment k boot m → IsAdmitted m.past c → Up k boot c first second m n → StaysSound k boot m n
stays_up k boot m n c first second h a u = sound_unless k boot m n c (GoesUp k boot c m.now first second) h (λ s. sound_up k boot m c first second s h a) u

pub stays_down : (k : EntryKeys) (boot : ℕ) (m n : Moment) (c : ℕ) (amount : Amount) → IsSoundMoment k boot m → IsAdmitted m.past c → Down k boot c amount m n → StaysSound k boot m n
stays_down k boot m n c amount h a d = sound_unless k boot m n c (GoesDown k boot c amount) h (λ s. sound_down k boot m c amount s h a) d

-- ---- each in order

then_stays : (k : EntryKeys) (boot : ℕ) (m n o : Moment) → StaysSound k boot m n → StaysSound k boot n o → StaysSound k boot m o
then_stays k boot m n o h g = record { sound = g.sound; admitted = g.admitted ∙ h.admitted }

-- of the connections from c on, where j are left
stays_each : (k : EntryKeys) (boot c j : ℕ) (P : ℕ → Moment → Moment → Type 0) (m n : Moment) → IsSoundMoment k boot m → 0 < c → c + j ≤ m.past.admitted + 1
    → ((d : ℕ) (x y : Moment) → IsSoundMoment k boot x → IsAdmitted x.past d → P d x y → StaysSound k boot x y)
    → ForEach P c j m n → StaysSound k boot m n
unfolding ForEach
stays_each k boot c zero P m n h from below step each = stays_same k boot m n h each
stays_each k boot c (suc j) P m n h from below step each =
    let one = step c m each.0 h (record { from = from; below = omega (arith, below) }) each.1 in
    then_stays k boot m each.0 n one (stays_each k boot (c + 1) j P each.0 n one.sound (omega arith) (omega (arith, below, one.admitted)) step each.2)

pub each_up : (k : EntryKeys) (boot : ℕ) (m n : Moment) → IsSoundMoment k boot m → ForEach (λ c. Up k boot c All All) 1 m.past.admitted m n → StaysSound k boot m n
each_up k boot m n h each = stays_each k boot 1 m.past.admitted (λ c. Up k boot c All All) m n h (omega arith) (omega arith) (λ d x y s a u. stays_up k boot x y d All All s a u) each

pub each_down : (k : EntryKeys) (boot : ℕ) (m n : Moment) → IsSoundMoment k boot m → ForEach (λ c. Down k boot c All) 1 m.past.admitted m n → StaysSound k boot m n
each_down k boot m n h each = stays_each k boot 1 m.past.admitted (λ c. Down k boot c All) m n h (omega arith) (omega arith) (λ d x y s a u. stays_down k boot x y d All s a u) each
