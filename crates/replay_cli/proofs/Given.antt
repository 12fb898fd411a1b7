-- What the clients of a world sent is what the events gave them before a cut.
use Rattle.std.proofs.Common.{◌≡◌, ℕ, zero, suc, ℤ, ◌+◌, List, [], ◌∷◌, ◌++◌, take, drop, min, length, refl, sym, ap, subst, ◌∙◌, append_assoc, rules, Bool, true, false, Option, None, Some, inl, inr}
use Rattle.std.specs.Prelude.{◌==◌, if◌then◌else◌}
use Rattle.std.proofs.lemmas.Bool.{cases_Bool, eqb-true}
use Rattle.std.proofs.lemmas.List.{append-nil, take-append-drop}
use Rattle.payload_seal.specs.declared.keys.EntryKeys.{EntryKeys}
use Rattle.store_side.specs.declared.ending.StoreEnding.{StoreEnding}
use Rattle.entry_session.specs.declared.ending.Ending.{Ending}
use Rattle.entry_session.specs.declared.ending.Ending.TheVariants as endings
use Rattle.world_core.specs.declared.amount.Amount.{Amount}
use Rattle.world_core.specs.Moments.{Link, Moment, sent_by}
use Rattle.world_core.specs.Steps.{BringsIf, ComesIf, Cut as CutOff, Down as GoDown, Drains, ForEach, Sent, Spot, UnlessCut, Up as GoUp, count_of, ended_by, over_by, spot_of, with_spot}
use Rattle.world_core.proofs.Drained.{other_link}
use Rattle.world_core.proofs.SoundSpots.{at_own}
use Rattle.replay_cli.specs.Worlds.{AllHappen, Happens, sent_to}
use Rattle.replay_cli.specs.declared.script.Event.{Event}
use Rattle.replay_cli.specs.declared.script.Event.TheVariants.{Open, Send, Up, Down, Cut, Time, Tick, Drain}

-- the client sent nothing more, and was not cut
record IsSame (old new : Link) : Type 0 where
  sent : sent_by new ≡ sent_by old
  cut : new.cut ≡ old.cut

same_link : (old new : Link) → new ≡ old → IsSame old new
same_link old new e = record { sent = ap sent_by e; cut = ap (λ (l : Link). l.cut) e }

then_same : (x y z : Link) → IsSame x y → IsSame y z → IsSame x z
then_same x y z a b = record { sent = b.sent ∙ a.sent; cut = b.cut ∙ a.cut }

-- ---- one connection

comes_same : (e : Option Ending) (k : EntryKeys) (boot c : ℕ) (amount : Amount) (old new : Link) → ComesIf e k boot c amount old new → IsSame old new
unfolding ComesIf
comes_same None k boot c amount old new h =
    let n = count_of amount (length old.under_way) in
    record {
      sent = (λ i. h.came i ++ h.under_way i) ∙ append_assoc old.came (take n old.under_way) (drop n old.under_way)
          ∙ ap (λ (l : List ℕ). old.came ++ l) (take-append-drop n old.under_way);
      cut = h.cut;
    }
comes_same (Some e) k boot c amount old new h = same_link old new h

brings_same : (e : Option Ending) (k : EntryKeys) (boot c : ℕ) (amount : Amount) (old new : Spot) → BringsIf e k boot c amount old new → IsSame old.link new.link
unfolding BringsIf
brings_same None k boot c amount old new h = record { sent = (λ i. h.hears.came i ++ h.hears.under_way i); cut = h.hears.cut }
brings_same (Some e) k boot c amount old new h = same_link old.link new.link (ap (λ (s : Spot). s.link) h)

ended_same : (o : Option Ending) (e : Ending) (l : Link) → IsSame l (ended_by o e l)
unfolding ended_by
ended_same None e l = record { sent = refl; cut = refl }
ended_same (Some first) e l = record { sent = refl; cut = refl }

over_same : (o : Option StoreEnding) (waiting : List ℕ) (l : Link) → IsSame l (over_by o waiting l)
unfolding over_by
over_same None waiting l = record { sent = refl; cut = refl }
over_same (Some e) (b ∷ bs) l = record { sent = refl; cut = refl }
over_same (Some e) [] l = ended_same l.stand.ending endings.StoreEnd l

-- ---- a world, at one of its connections

at_link : (c : ℕ) (P : Spot → Spot → Type 0) (m n : Moment) → (m.links c).cut ≡ false → UnlessCut c P m n → (s : Spot) × P (spot_of c m) s × (n.links c ≡ s.link)
at_link c P m n is u = let h = u.whole is in (h.0, h.1, ap (λ (x : Moment). x.links c) h.2 ∙ at_own c h.0.link m.links)

cut_link : (c : ℕ) (P : Spot → Spot → Type 0) (m n : Moment) → (m.links c).cut ≡ true → UnlessCut c P m n → n.links c ≡ m.links c
cut_link c P m n is u = ap (λ (x : Moment). x.links c) (u.cut is)

apart : (x y : ℕ) → (x == y) ≡ false → x ≡ y → ⊥
apart x y f e = let own : (x == y) ≡ true = search rules in absurd cc

-- what leaves one connection so leaves each so
spot_same : (c d : ℕ) (P : Spot → Spot → Type 0) (m n : Moment) → UnlessCut d P m n → ((s : Spot) → P (spot_of d m) s → IsSame (m.links d) s.link) → IsSame (m.links c) (n.links c)
spot_same c d P m n u keeps = elim (cases_Bool (c == d)) [
  | inl t ↦
      let same : d ≡ c = sym (eqb-true c d t) in
      let own : IsSame (m.links d) (n.links d) = elim (cases_Bool (m.links d).cut) [
        | inl is ↦ same_link _ _ (cut_link d P m n is u)
        | inr is ↦ let h = at_link d P m n is u in subst (λ (l : Link). IsSame (m.links d) l) (sym h.2) (keeps h.0 h.1)
      ] in
      subst (λ (x : ℕ). IsSame (m.links x) (n.links x)) same own
  | inr f ↦ same_link _ _ (other_link c d P m n (apart c d f) u)
]

up_same : (k : EntryKeys) (boot c d : ℕ) (first second : Amount) (m n : Moment) → GoUp k boot d first second m n → IsSame (m.links c) (n.links c)
up_same k boot c d first second m n u =
    spot_same c d _ m n u (λ s h.
    let come = comes_same _ k boot d first (m.links d) h.link h.comes in
    let feed : IsSame h.link h.fed.link = subst (λ (l : Link). IsSame h.link l) (sym h.feeds.link) (record { sent = refl; cut = refl }) in
    then_same _ _ _ (then_same _ _ _ come feed) (same_link h.fed.link s.link h.leaves.link))

down_same : (k : EntryKeys) (boot c d : ℕ) (amount : Amount) (m n : Moment) → GoDown k boot d amount m n → IsSame (m.links c) (n.links c)
down_same k boot c d amount m n u =
    spot_same c d _ m n u (λ s h.
    let b = h.brought in
    let bring = brings_same _ k boot d amount (spot_of d m) b h.brings in
    let over = over_same (b.past.endings d) (b.past.waiting d) b.link in
    then_same _ _ _ (then_same _ _ _ bring over) (same_link _ s.link h.leaves.link))

each_same : (c d count : ℕ) (P : ℕ → Moment → Moment → Type 0) (m n : Moment) → ((e : ℕ) (x y : Moment) → P e x y → IsSame (x.links c) (y.links c)) → ForEach P d count m n
    → IsSame (m.links c) (n.links c)
unfolding ForEach
each_same c d zero P m n keeps h = same_link _ _ (ap (λ (x : Moment). x.links c) h)
each_same c d (suc count) P m n keeps h = then_same _ _ _ (keeps d m h.0 h.1) (each_same c (d + 1) count P h.0 n keeps h.2)

drain_same : (k : EntryKeys) (boot c : ℕ) (m n : Moment) → Drains k boot m n → IsSame (m.links c) (n.links c)
drain_same k boot c m n h = then_same _ _ _
    (each_same c 1 _ _ m h.half (λ e x y up. up_same k boot c e _ _ x y up) h.up) (each_same c 1 _ _ h.half n (λ e x y down. down_same k boot c e _ x y down) h.down)

-- ---- event by event

if_other : {A : Type 0} (d c : ℕ) (x y : A) → (d == c) ≡ false → (if d == c then x else y) ≡ y
if_other d c x y f = ap (λ (b : Bool). if b then x else y) f

if_own : {A : Type 0} (d c : ℕ) (x y : A) → (d == c) ≡ true → (if d == c then x else y) ≡ x
if_own d c x y t = ap (λ (b : Bool). if b then x else y) t

turned : (d c : ℕ) → (d == c) ≡ false → c ≡ d → ⊥
turned d c f e = apart d c f (sym e)

-- a connection that was cut sends nothing more
cut_stays : (k : EntryKeys) (c : ℕ) (event : Event) (m n : Moment) → (m.links c).cut ≡ true → Happens k event m n → IsSame (m.links c) (n.links c)
unfolding Happens
cut_stays k c Open m n is h = same_link _ _ (ap (λ (x : Moment). x.links c) h)
cut_stays k c (Send d bytes) m n is h = elim (cases_Bool (d == c)) [
  | inl t ↦ same_link _ _ (cut_link c _ m n is (subst (λ (x : ℕ). Sent x bytes m n) (eqb-true d c t) h))
  | inr f ↦ same_link _ _ (other_link c d _ m n (turned d c f) h)
]
cut_stays k c (Up d first second) m n is h = up_same k 0 c d _ _ m n h
cut_stays k c (Down d limit) m n is h = down_same k 0 c d _ m n h
cut_stays k c (Cut d) m n is h = elim (cases_Bool (d == c)) [
  | inl t ↦ same_link _ _ (cut_link c _ m n is (subst (λ (x : ℕ). CutOff x m n) (eqb-true d c t) h))
  | inr f ↦ same_link _ _ (other_link c d _ m n (turned d c f) h)
]
cut_stays k c (Time now) m n is h = same_link _ _ (ap (λ (x : Moment). x.links c) h)
cut_stays k c Tick m n is h = same_link _ _ (ap (λ (f : ℕ → Link). f c) h.links)
cut_stays k c Drain m n is h = drain_same k 0 c m n h

all_stay : (k : EntryKeys) (c : ℕ) (events : List Event) (m n : Moment) → (m.links c).cut ≡ true → AllHappen k events m n → sent_by (n.links c) ≡ sent_by (m.links c)
unfolding AllHappen
all_stay k c [] m n is h = ap (λ (x : Moment). sent_by (x.links c)) h
all_stay k c (event ∷ events) m n is h =
    let one = cut_stays k c event m h.0 is h.1 in
    all_stay k c events h.0 n (one.cut ∙ is) h.2 ∙ one.sent

sends_link : (c : ℕ) (bytes : List ℕ) (m n : Moment) → (m.links c).cut ≡ false → Sent c bytes m n
    → ((n.links c).cut ≡ false) × (sent_by (n.links c) ≡ sent_by (m.links c) ++ bytes)
sends_link c bytes m n is h =
    let at = at_link c _ m n is h in
    let l = m.links c in
    let link : n.links c ≡ record l { under_way = l.under_way ++ bytes } = at.2 ∙ at.1.link in (
      ap (λ (x : Link). x.cut) link ∙ is,
      ap sent_by link ∙ sym (append_assoc l.came l.under_way bytes),
    )

cuts_link : (c : ℕ) (m n : Moment) → (m.links c).cut ≡ false → CutOff c m n → ((n.links c).cut ≡ true) × (sent_by (n.links c) ≡ sent_by (m.links c))
cuts_link c m n is h =
    let at = at_link c _ m n is h in
    let l = m.links c in
    let e = ended_same l.stand.ending endings.ClientEnd l in
    let link = at.2 ∙ at.1.link in
    (ap (λ (x : Link). x.cut) link, ap sent_by link ∙ e.sent)

-- the same events follow where nothing was sent and nothing was cut
goes_on : (k : EntryKeys) (c : ℕ) (events : List Event) (m next n : Moment) → (m.links c).cut ≡ false → IsSame (m.links c) (next.links c)
    → ((next.links c).cut ≡ false → sent_by (n.links c) ≡ sent_by (next.links c) ++ sent_to c events) → sent_by (n.links c) ≡ sent_by (m.links c) ++ sent_to c events
goes_on k c events m next n is one rest = rest (one.cut ∙ is) ∙ ap (λ (l : List ℕ). l ++ sent_to c events) one.sent

-- what a client sent by then, and what the events give it
pub all_given : (k : EntryKeys) (c : ℕ) (events : List Event) (m n : Moment) → (m.links c).cut ≡ false → AllHappen k events m n
    → sent_by (n.links c) ≡ sent_by (m.links c) ++ sent_to c events
unfolding AllHappen Happens sent_to
all_given k c [] m n is h = ap (λ (x : Moment). sent_by (x.links c)) h ∙ sym (append-nil (sent_by (m.links c)))
all_given k c (Open ∷ events) m n is h = goes_on k c events m h.0 n is (same_link _ _ (ap (λ (x : Moment). x.links c) h.1)) (λ so. all_given k c events h.0 n so h.2)
all_given k c (Send d bytes ∷ events) m n is h = elim (cases_Bool (d == c)) [
  | inl t ↦
      let one = sends_link c bytes m h.0 is (subst (λ (x : ℕ). Sent x bytes m h.0) (eqb-true d c t) h.1) in
      all_given k c events h.0 n one.0 h.2 ∙ ap (λ (l : List ℕ). l ++ sent_to c events) one.1 ∙ append_assoc (sent_by (m.links c)) bytes (sent_to c events)
      ∙ ap (λ (l : List ℕ). sent_by (m.links c) ++ l) (sym (if_own d c (bytes ++ sent_to c events) (sent_to c events) t))
  | inr f ↦
      goes_on k c events m h.0 n is (same_link _ _ (other_link c d _ m h.0 (turned d c f) h.1)) (λ so. all_given k c events h.0 n so h.2)
      ∙ ap (λ (l : List ℕ). sent_by (m.links c) ++ l) (sym (if_other d c (bytes ++ sent_to c events) (sent_to c events) f))
]
all_given k c (Up d first second ∷ events) m n is h = goes_on k c events m h.0 n is (up_same k 0 c d _ _ m h.0 h.1) (λ so. all_given k c events h.0 n so h.2)
all_given k c (Down d limit ∷ events) m n is h = goes_on k c events m h.0 n is (down_same k 0 c d _ m h.0 h.1) (λ so. all_given k c events h.0 n so h.2)
all_given k c (Cut d ∷ events) m n is h = elim (cases_Bool (d == c)) [
  | inl t ↦
      let one = cuts_link c m h.0 is (subst (λ (x : ℕ). CutOff x m h.0) (eqb-true d c t) h.1) in
      all_stay k c events h.0 n one.0 h.2 ∙ one.1 ∙ sym (append-nil (sent_by (m.links c)))
      ∙ ap (λ (l : List ℕ). sent_by (m.links c) ++ l) (sym (if_own d c [] (sent_to c events) t))
  | inr f ↦
      goes_on k c events m h.0 n is (same_link _ _ (other_link c d _ m h.0 (turned d c f) h.1)) (λ so. all_given k c events h.0 n so h.2)
      ∙ ap (λ (l : List ℕ). sent_by (m.links c) ++ l) (sym (if_other d c [] (sent_to c events) f))
]
all_given k c (Time now ∷ events) m n is h = goes_on k c events m h.0 n is (same_link _ _ (ap (λ (x : Moment). x.links c) h.1)) (λ so. all_given k c events h.0 n so h.2)
all_given k c (Tick ∷ events) m n is h = goes_on k c events m h.0 n is (same_link _ _ (ap (λ (f : ℕ → Link). f c) h.1.links)) (λ so. all_given k c events h.0 n so h.2)
all_given k c (Drain ∷ events) m n is h = goes_on k c events m h.0 n is (drain_same k 0 c m h.0 h.1) (λ so. all_given k c events h.0 n so h.2)
