-- What is left once a world is drained.
use Rattle.std.proofs.Common.{◌≡◌, ◌⊎◌, ℕ, ◌+◌, ◌<◌, ◌≤◌, zero, suc, ℤ, List, [], ◌∷◌, length, None, Some, Option, refl, sym, ap, subst, ◌∙◌, arith, inl, inr}
use Rattle.std.proofs.lemmas.Bool.{cases_Bool, cases_eq, cases_lt}
use Rattle.std.proofs.Math.Seq.{drop-length}
use Rattle.payload_seal.specs.declared.keys.EntryKeys.{EntryKeys}
use Rattle.store_side.specs.declared.ending.StoreEnding.{StoreEnding}
use Rattle.store_side.specs.Past.{Past}
use Rattle.store_side.specs.Follows.{IsAdmitted}
use Rattle.store_side.specs.Calls.{after_loss, after_pull}
use Rattle.entry_session.specs.declared.ending.Ending.{Ending}
use Rattle.entry_session.specs.declared.ending.Ending.TheVariants as endings
use Rattle.world_core.specs.declared.amount.Amount.TheVariants.{All}
use Rattle.world_core.specs.Laws.{LeavesNothing}
use Rattle.world_core.specs.Moments.{IsSoundMoment, Link, Moment}
use Rattle.world_core.specs.Steps.{BringsIf, ComesIf, Down, Drains, ForEach, GoesDown, GoesUp, IsDrained, LeavesIf, LosesIf, Spot, UnlessCut, Up, count_of, left_of, over, over_by, spot_of, with_fed, with_spot}
use Rattle.world_core.proofs.SoundSpots.{at_other, at_own}
use Rattle.world_core.proofs.SoundCalls.{StaysSound, each_down, each_up, has_ending, stays_down, stays_up}

-- ---- what is left at one connection

-- nothing goes up any more, where the session goes on
abbrev IsUp : Link → Type 0
IsUp l = l.stand.ending ≡ None → (l.under_way ≡ []) × (l.unfed ≡ [])

-- nor waits anything, and the store's side goes on too
abbrev IsDown : Link → List ℕ → Option StoreEnding → Type 0
IsDown l waiting o = l.stand.ending ≡ None → (l.under_way ≡ []) × (l.unfed ≡ []) × (waiting ≡ []) × (o ≡ None)

all_left : (bytes : List ℕ) → left_of All bytes ≡ []
unfolding count_of
all_left bytes = drop-length bytes

not_both : {A : Type 0} (o : Option A) (e : A) → Some e ≡ o → o ≡ None → ⊥
not_both o e h n = absurd cc

same_end : (l new : Link) → new ≡ l → new.stand.ending ≡ None → l.stand.ending ≡ None
same_end l new e on = ap (λ (x : Link). x.stand.ending) (sym e) ∙ on

all_come : (o : Option Ending) (k : EntryKeys) (boot c : ℕ) (l new : Link) → o ≡ l.stand.ending → ComesIf o k boot c All l new → new.stand.ending ≡ None → new.under_way ≡ []
unfolding ComesIf
all_come None k boot c l new is x on = x.under_way ∙ all_left l.under_way
all_come (Some e) k boot c l new is x on = absurd (not_both l.stand.ending e is (same_end l new x on))

all_up : (k : EntryKeys) (boot c : ℕ) (now : ℤ) (s n : Spot) → GoesUp k boot c now All All s n → IsUp n.link
all_up k boot c now s n u =
    let fed : IsUp (with_fed All u.link) = λ on. (all_come s.link.stand.ending k boot c s.link u.link refl u.comes on, all_left u.link.unfed) in
    subst (λ (l : Link). IsUp l) (sym (u.leaves.link ∙ u.feeds.link)) fed

pulled_all : (c : ℕ) (old new : Past) → new ≡ after_pull c (count_of All (length (old.waiting c))) old → new.waiting c ≡ []
unfolding after_pull
pulled_all c old new e = ap (λ (p : Past). p.waiting c) e ∙ at_own c (left_of All (old.waiting c)) old.waiting ∙ all_left (old.waiting c)

-- where it goes on behind what was brought, all was brought
record IsBroughtAll (c : ℕ) (s b : Spot) : Type 0 where
  pub on : s.link.stand.ending ≡ None
  pub waiting : b.past.waiting c ≡ []
  pub under_way : b.link.under_way ≡ s.link.under_way
  pub unfed : b.link.unfed ≡ s.link.unfed

all_brought : (o : Option Ending) (k : EntryKeys) (boot c : ℕ) (s b : Spot) → o ≡ s.link.stand.ending → BringsIf o k boot c All s b → b.link.stand.ending ≡ None → IsBroughtAll c s b
unfolding BringsIf
all_brought None k boot c s b is x on = record { on = sym is; waiting = pulled_all c s.past b.past x.past; under_way = x.hears.under_way; unfed = x.hears.unfed }
all_brought (Some e) k boot c s b is x on = absurd (not_both s.link.stand.ending e is (same_end s.link b.link (ap (λ (t : Spot). t.link) x) on))

over_on : (o : Option StoreEnding) (waiting : List ℕ) (l : Link) → (over_by o waiting l).stand.ending ≡ None → l.stand.ending ≡ None
unfolding over_by
over_on None waiting l on = on
over_on (Some e) (b ∷ bs) l on = on
over_on (Some e) [] l on = absurd (has_ending l.stand.ending endings.StoreEnd l refl on)

-- then the store's side is not over, and nothing ended
not_over : (o : Option StoreEnding) (waiting : List ℕ) (l : Link) → waiting ≡ [] → (over_by o waiting l).stand.ending ≡ None → (o ≡ None) × (over_by o waiting l ≡ l)
unfolding over_by
not_over None waiting l none on = (refl, refl)
not_over (Some e) (b ∷ bs) l none on = absurd cc
not_over (Some e) [] l none on = absurd (has_ending l.stand.ending endings.StoreEnd l refl on)

stays_there : (o : Option Ending) (unfed : List ℕ) (c : ℕ) (old new : Past) → o ≡ None → LeavesIf o unfed c old new → new ≡ old
unfolding LeavesIf
stays_there None unfed c old new on l = l
stays_there (Some e) unfed c old new on l = absurd cc

all_down : (k : EntryKeys) (boot c : ℕ) (s n : Spot) → GoesDown k boot c All s n → IsUp s.link → IsDown n.link (n.past.waiting c) (n.past.endings c)
all_down k boot c s n d up on =
    let b = d.brought in
    let at : (over c b).link.stand.ending ≡ None = same_end (over c b).link n.link d.leaves.link on in
    let all = all_brought s.link.stand.ending k boot c s b refl d.brings (over_on (b.past.endings c) (b.past.waiting c) b.link at) in
    let over = not_over (b.past.endings c) (b.past.waiting c) b.link all.waiting at in
    let link : n.link ≡ b.link = d.leaves.link ∙ over.1 in
    let past : n.past ≡ b.past = stays_there _ _ c b.past n.past at d.leaves.past in
    let before = up all.on in (
      ap (λ (l : Link). l.under_way) link ∙ all.under_way ∙ before.0,
      ap (λ (l : Link). l.unfed) link ∙ all.unfed ∙ before.1,
      ap (λ (p : Past). p.waiting c) past ∙ all.waiting,
      ap (λ (p : Past). p.endings c) past ∙ over.0,
    )

-- ---- the others

pub other_link : (c d : ℕ) (P : Spot → Spot → Type 0) (m n : Moment) → (c ≡ d → ⊥) → UnlessCut d P m n → n.links c ≡ m.links c
other_link c d P m n apart u = elim (cases_Bool (m.links d).cut) [
  | inl t ↦ ap (λ (x : Moment). x.links c) (u.cut t)
  | inr f ↦ let w = u.whole f in ap (λ (x : Moment). x.links c) w.2 ∙ at_other d c w.0.link m.links apart
]

-- what waits for connection c, and whether the store's side of it is over
record SameWaiting (c : ℕ) (old new : Past) : Type 0 where
  pub waiting : new.waiting c ≡ old.waiting c
  pub ending : new.endings c ≡ old.endings c

waits_same : (c : ℕ) (old new : Past) → new ≡ old → SameWaiting c old new
waits_same c old new e = record { waiting = ap (λ (p : Past). p.waiting c) e; ending = ap (λ (p : Past). p.endings c) e }

waits_on : (c : ℕ) (old mid new : Past) → SameWaiting c old mid → SameWaiting c mid new → SameWaiting c old new
waits_on c old mid new a b = record { waiting = b.waiting ∙ a.waiting; ending = b.ending ∙ a.ending }

other_lost : (o : Option StoreEnding) (c d : ℕ) (old new : Past) → (c ≡ d → ⊥) → LosesIf o d old new → SameWaiting c old new
unfolding LosesIf after_loss
other_lost None c d old new apart l = record {
  waiting = ap (λ (p : Past). p.waiting c) l.3;
  ending = ap (λ (p : Past). p.endings c) l.3 ∙ at_other d c _ old.endings apart;
}
other_lost (Some e) c d old new apart l = waits_same c old new l

other_left : (o : Option Ending) (unfed : List ℕ) (c d : ℕ) (old new : Past) → (c ≡ d → ⊥) → LeavesIf o unfed d old new → SameWaiting c old new
unfolding LeavesIf
other_left None unfed c d old new apart l = waits_same c old new l
other_left (Some e) (b ∷ bs) c d old new apart l = waits_same c old new l
other_left (Some e) [] c d old new apart l = other_lost (old.endings d) c d old new apart l

other_pulled : (c d n : ℕ) (old new : Past) → (c ≡ d → ⊥) → new ≡ after_pull d n old → SameWaiting c old new
unfolding after_pull
other_pulled c d n old new apart e = record {
  waiting = ap (λ (p : Past). p.waiting c) e ∙ at_other d c _ old.waiting apart;
  ending = ap (λ (p : Past). p.endings c) e;
}

other_brought : (o : Option Ending) (k : EntryKeys) (boot c d : ℕ) (s b : Spot) → (c ≡ d → ⊥) → BringsIf o k boot d All s b → SameWaiting c s.past b.past
unfolding BringsIf
other_brought None k boot c d s b apart x = other_pulled c d _ s.past b.past apart x.past
other_brought (Some e) k boot c d s b apart x = waits_same c s.past b.past (ap (λ (t : Spot). t.past) x)

other_spot : (k : EntryKeys) (boot c d : ℕ) (s n : Spot) → (c ≡ d → ⊥) → GoesDown k boot d All s n → SameWaiting c s.past n.past
other_spot k boot c d s n apart x =
    waits_on c s.past x.brought.past n.past (other_brought s.link.stand.ending k boot c d s x.brought apart x.brings)
    (other_left _ _ c d x.brought.past n.past apart x.leaves.past)

other_waiting : (k : EntryKeys) (boot c d : ℕ) (m n : Moment) → (c ≡ d → ⊥) → Down k boot d All m n → SameWaiting c m.past n.past
other_waiting k boot c d m n apart u = elim (cases_Bool (m.links d).cut) [
  | inl t ↦ waits_same c m.past n.past (ap (λ (x : Moment). x.past) (u.cut t))
  | inr f ↦
      let w = u.whole f in
      waits_on c m.past w.0.past n.past (other_spot k boot c d (spot_of d m) w.0 apart w.1) (waits_same c w.0.past n.past (ap (λ (x : Moment). x.past) w.2))
]

-- ---- each call

up_here : (k : EntryKeys) (boot c : ℕ) (m n : Moment) → IsSoundMoment k boot m → Up k boot c All All m n → IsUp (n.links c)
up_here k boot c m n h u = elim (cases_Bool (m.links c).cut) [
  | inl t ↦ λ on. absurd ((h.each c).cut t (same_end (m.links c) (n.links c) (ap (λ (x : Moment). x.links c) (u.cut t)) on))
  | inr f ↦
      let w = u.whole f in
      subst (λ (l : Link). IsUp l) (sym (ap (λ (x : Moment). x.links c) w.2 ∙ at_own c w.0.link m.links)) (all_up k boot c m.now (spot_of c m) w.0 w.1)
]

-- nothing is left of connection c
abbrev IsDownAt : ℕ → Moment → Type 0
IsDownAt c m = IsDown (m.links c) (m.past.waiting c) (m.past.endings c)

down_here : (k : EntryKeys) (boot c : ℕ) (m n : Moment) → IsSoundMoment k boot m → IsUp (m.links c) → Down k boot c All m n → IsDownAt c n
down_here k boot c m n h up u = elim (cases_Bool (m.links c).cut) [
  | inl t ↦ λ on. absurd ((h.each c).cut t (same_end (m.links c) (n.links c) (ap (λ (x : Moment). x.links c) (u.cut t)) on))
  | inr f ↦
      let w = u.whole f in
      let here : IsDownAt c (with_spot c w.0 m) =
      subst (λ (l : Link). IsDown l (w.0.past.waiting c) (w.0.past.endings c)) (sym (at_own c w.0.link m.links)) (all_down k boot c (spot_of c m) w.0 w.1 up) in
      subst (IsDownAt c) (sym w.2) here
]

down_elsewhere : (k : EntryKeys) (boot c d : ℕ) (m n : Moment) → (c ≡ d → ⊥) → IsDownAt c m → Down k boot d All m n → IsDownAt c n
down_elsewhere k boot c d m n apart here u =
    let same = other_waiting k boot c d m n apart u in
    let link = other_link c d (GoesDown k boot d All) m n apart u in
    λ on.
    let before = here (same_end (m.links c) (n.links c) link on) in
    (ap (λ (l : Link). l.under_way) link ∙ before.0, ap (λ (l : Link). l.unfed) link ∙ before.1, same.waiting ∙ before.2, same.ending ∙ before.3)

up_elsewhere : (c d : ℕ) (P : Spot → Spot → Type 0) (m n : Moment) → (c ≡ d → ⊥) → IsUp (m.links c) → UnlessCut d P m n → IsUp (n.links c)
up_elsewhere c d P m n apart here u = subst (λ (l : Link). IsUp l) (sym (other_link c d P m n apart u)) here

-- ---- one after another

-- what later calls keep
module _ (c : ℕ) (P : ℕ → Moment → Moment → Type 0) (Q : Moment → Type 0) (keep : (d : ℕ) (x y : Moment) → (c ≡ d → ⊥) → Q x → P d x y → Q y) where
  kept_behind : (a j : ℕ) (m n : Moment) → c < a → Q m → ForEach P a j m n → Q n
  unfolding ForEach
  kept_behind a zero m n behind q each = subst Q (sym each) q
  kept_behind a (suc j) m n behind q each =
      kept_behind (a + 1) j each.0 n (omega (arith, behind)) (keep a m each.0 (λ e. omega (arith, behind, e)) q each.1) each.2

-- what the call of c comes to, from what the calls before it keep
module _ (k : EntryKeys) (boot c : ℕ) (P : ℕ → Moment → Moment → Type 0) (Before Q : Moment → Type 0)
    (stays : (d : ℕ) (x y : Moment) → IsSoundMoment k boot x → IsAdmitted x.past d → P d x y → StaysSound k boot x y)
    (here : (x y : Moment) → IsSoundMoment k boot x → Before x → P c x y → Q y)
    (ahead : (d : ℕ) (x y : Moment) → (c ≡ d → ⊥) → Before x → P d x y → Before y)
    (keep : (d : ℕ) (x y : Moment) → (c ≡ d → ⊥) → Q x → P d x y → Q y) where
  comes_to : (a j : ℕ) (m n : Moment) → IsSoundMoment k boot m → 0 < a → a + j ≤ m.past.admitted + 1 → a ≤ c → c < a + j → Before m → ForEach P a j m n → Q n
  unfolding ForEach
  comes_to a zero m n h from within below above b each = absurd (omega (arith, below, above))
  comes_to a (suc j) m n h from within below above b each = elim (cases_eq c a) [
    | inl e ↦ kept_behind c P Q keep (a + 1) j each.0 n (omega (arith, e)) (here m each.0 h b (subst (λ (d : ℕ). P d m each.0) (sym e) each.1)) each.2
    | inr apart ↦
        let one = stays a m each.0 h (record { from = from; below = omega (arith, within) }) each.1 in
        comes_to (a + 1) j each.0 n one.sound (omega arith) (omega (arith, within, one.admitted)) (omega (arith, apart, below)) (omega (arith, above)) (ahead a m each.0 apart b each.1) each.2
  ]

drained_at : (k : EntryKeys) (boot c : ℕ) (m n : Moment) → IsSoundMoment k boot m → Drains k boot m n → IsAdmitted m.past c → IsDownAt c n
drained_at k boot c m n h d a =
    let half = each_up k boot m d.half h d.up in
    let up : IsUp (d.half.links c) = comes_to k boot c (λ x. Up k boot x All All) (λ x. Unit {0}) (λ x. IsUp (x.links c)) (λ x y z s i u. stays_up k boot y z x All All s i u)
    (λ x y s b u. up_here k boot c x y s u) (λ x y z apart b u. b) (λ x y z apart q u. up_elsewhere c x (GoesUp k boot x y.now All All) y z apart q u)
    1 m.past.admitted m d.half h (omega arith) (omega arith) (omega (arith, a.from)) (omega (arith, a.below)) tt d.up in
    comes_to k boot c (λ x. Down k boot x All) (λ x. IsUp (x.links c)) (IsDownAt c) (λ x y z s i u. stays_down k boot y z x All s i u)
    (λ x y s b u. down_here k boot c x y s b u) (λ x y z apart b u. up_elsewhere c x (GoesDown k boot x All) y z apart b u) (λ x y z apart q u. down_elsewhere k boot c x y z apart q u)
    1 m.past.admitted d.half n half.sound (omega arith) (omega (arith, half.admitted)) (omega (arith, a.from)) (omega (arith, a.below)) up d.down

-- ---- each connection

admitted_or_not : (p : Past) (c : ℕ) → IsAdmitted p c ⊎ (IsAdmitted p c → ⊥)
admitted_or_not p zero = inr (λ a. omega (arith, a.from))
admitted_or_not p (suc c) = elim (cases_lt p.admitted (suc c)) [
  | inl over ↦ inr (λ a. omega (arith, over, a.below))
  | inr within ↦ inl (record { from = omega arith; below = omega (arith, within) })
]

untouched_at : (k : EntryKeys) (boot c : ℕ) (m : Moment) → IsSoundMoment k boot m → (IsAdmitted m.past c → ⊥) → IsDrained m c
untouched_at k boot c m h out =
    let link = h.untouched c out in
    let past = h.past.untouched c out in
    record { under_way = ap (λ (l : Link). l.under_way) link; unfed = ap (λ (l : Link). l.unfed) link; waiting = past.waiting; goes_on = past.goes_on }

pub leaves_nothing : LeavesNothing
leaves_nothing k boot m n h d c on =
    let half = each_up k boot m d.half h d.up in
    let end = each_down k boot d.half n half.sound (subst (λ (j : ℕ). ForEach (λ x. Down k boot x All) 1 j d.half n) (sym half.admitted) d.down) in
    elim (admitted_or_not m.past c) [
      | inl a ↦ let r = drained_at k boot c m n h d a on in record { under_way = r.0; unfed = r.1; waiting = r.2; goes_on = r.3 }
      | inr out ↦ untouched_at k boot c n end.sound (λ a. out (record { from = a.from; below = omega (arith, a.below, half.admitted, end.admitted) }))
    ]
