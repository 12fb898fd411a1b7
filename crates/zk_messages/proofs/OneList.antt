-- Values one after another and then an end: they are so in one way, and read or refused.
use Rattle.std.proofs.Common.{◌≡◌, ℕ, ◌+◌, List, [], ◌∷◌, ◌++◌, length, refl, sym, ap, ◌∙◌, append_assoc}
use Rattle.jute_core.specs.Jute.{Each}
use Rattle.jute_core.specs.declared.cursor.Reason.{Reason}
use Rattle.zk_messages.specs.Reading.{Ended, RefusedAmong}
use Rattle.jute_core.proofs.SameSpelling.{each_same}

-- no spelling begins another, and each is of one value
abbrev pub AreApart : {V : Type 0} → (V → List ℕ → Type 0) → Type 0
AreApart {V} R = (v w : V) (a b x y : List ℕ) → R v a → R w b → a ++ x ≡ b ++ y → (v ≡ w) × (a ≡ b) × (x ≡ y)

-- a value has one spelling
abbrev pub AreOne : {V : Type 0} → (V → List ℕ → Type 0) → Type 0
AreOne {V} R = (v : V) (a b : List ℕ) → R v a → R v b → a ≡ b

-- what begins with a value is not refused
abbrev pub AreRead : {V : Type 0} → (V → List ℕ → Type 0) → (ℕ → List ℕ → ℕ → Reason → Type 0) → Type 0
AreRead {V} R F = (v : V) (at : ℕ) (b x y : List ℕ) (place : ℕ) (reason : Reason) → R v b → x ≡ b ++ y → F at x place reason → ⊥

-- no end begins another
abbrev pub EndsApart : (List ℕ → Type 0) → Type 0
EndsApart E = (a b x y : List ℕ) → E a → E b → a ++ x ≡ b ++ y → (a ≡ b) × (x ≡ y)

-- what begins with a value does not begin with an end
abbrev pub AreNoEnds : {V : Type 0} → (V → List ℕ → Type 0) → (List ℕ → Type 0) → Type 0
AreNoEnds {V} R E = (v : V) (a b x y : List ℕ) → R v a → E b → a ++ x ≡ b ++ y → ⊥

-- and what begins with an end is not refused
abbrev pub EndsRead : (List ℕ → Type 0) → (ℕ → List ℕ → ℕ → Reason → Type 0) → Type 0
EndsRead E F = (at : ℕ) (b x y : List ℕ) (place : ℕ) (reason : Reason) → E b → x ≡ b ++ y → F at x place reason → ⊥

-- more bytes behind those that are cut
pub behind : (a b c d : List ℕ) → d ≡ a ++ b → d ++ c ≡ a ++ (b ++ c)
behind a b c d e = ap (λ (l : List ℕ). l ++ c) e ∙ append_assoc a b c

items_apart : {V : Type 0} (R : V → List ℕ → Type 0) (E : List ℕ → Type 0) → AreApart R → AreNoEnds R E → EndsApart E
    → (vs ws : List V) (i j k l x y : List ℕ) → Each R vs i → Each R ws j → E k → E l → i ++ (k ++ x) ≡ j ++ (l ++ y) → (vs ≡ ws) × (i ++ k ≡ j ++ l) × (x ≡ y)
items_apart R E one none last [] [] i j k l x y p q f g e =
    let r = last k l x y f g (ap (λ (m : List ℕ). m ++ (k ++ x)) (sym p) ∙ e ∙ ap (λ (m : List ℕ). m ++ (l ++ y)) q) in
    (refl, ap (λ (m : List ℕ). m ++ k) p ∙ r.0 ∙ ap (λ (m : List ℕ). m ++ l) (sym q), r.1)
items_apart R E one none last [] (w ∷ ws) i j k l x y p q f g e =
    absurd (none w q.0 k (q.1 ++ (l ++ y)) x q.2 f (sym (behind q.0 q.1 (l ++ y) j q.4) ∙ sym e ∙ ap (λ (m : List ℕ). m ++ (k ++ x)) p))
items_apart R E one none last (v ∷ vs) [] i j k l x y p q f g e =
    absurd (none v p.0 l (p.1 ++ (k ++ x)) y p.2 g (sym (behind p.0 p.1 (k ++ x) i p.4) ∙ e ∙ ap (λ (m : List ℕ). m ++ (l ++ y)) q))
items_apart R E one none last (v ∷ vs) (w ∷ ws) i j k l x y p q f g e =
    let u = one v w p.0 q.0 (p.1 ++ (k ++ x)) (q.1 ++ (l ++ y)) p.2 q.2 (sym (behind p.0 p.1 (k ++ x) i p.4) ∙ e ∙ behind q.0 q.1 (l ++ y) j q.4) in
    let r = items_apart R E one none last vs ws p.1 q.1 k l x y p.3 q.3 f g u.2 in
    let same : i ++ k ≡ j ++ l = behind p.0 p.1 k i p.4 ∙ ap (λ (m : List ℕ). m ++ (p.1 ++ k)) u.1 ∙ ap (λ (m : List ℕ). q.0 ++ m) r.1 ∙ sym (behind q.0 q.1 l j q.4) in
    (cc, same, r.2)

pub ended_apart : {V : Type 0} (R : V → List ℕ → Type 0) (E : List ℕ → Type 0) → AreApart R → AreNoEnds R E → EndsApart E → AreApart (Ended R E)
ended_apart R E one none last vs ws a b x y p q e =
    let r = items_apart R E one none last vs ws p.items q.items p.last q.last x y p.each q.each p.ended q.ended (sym (behind p.items p.last x a p.cut) ∙ e ∙ behind q.items q.last y b q.cut) in
    (r.0, p.cut ∙ r.1 ∙ sym q.cut, r.2)

pub ended_same : {V : Type 0} (R : V → List ℕ → Type 0) (E : List ℕ → Type 0) → AreOne R → ((a b : List ℕ) → E a → E b → a ≡ b) → AreOne (Ended R E)
ended_same R E one last vs a b p q =
    p.cut ∙ ap (λ (l : List ℕ). l ++ p.last) (each_same R one vs p.items q.items p.each q.each) ∙ ap (λ (l : List ℕ). q.items ++ l) (last p.last q.last p.ended q.ended) ∙ sym q.cut

items_read : {V : Type 0} (R : V → List ℕ → Type 0) (E : List ℕ → Type 0) (F : ℕ → List ℕ → ℕ → Reason → Type 0) → AreApart R → AreNoEnds R E → AreRead R F → EndsRead E F
    → (vs ws : List V) (i j k l x : List ℕ) (at place : ℕ) (reason : Reason) → Each R vs i → Each R ws j → E k → F at l place reason → i ++ (k ++ x) ≡ j ++ l → ⊥
items_read R E F one none item last [] [] i j k l x at place reason p q f g e =
    last at k l x place reason f (sym (ap (λ (m : List ℕ). m ++ (k ++ x)) (sym p) ∙ e ∙ ap (λ (m : List ℕ). m ++ l) q)) g
items_read R E F one none item last [] (w ∷ ws) i j k l x at place reason p q f g e =
    none w q.0 k (q.1 ++ l) x q.2 f (sym (behind q.0 q.1 l j q.4) ∙ sym e ∙ ap (λ (m : List ℕ). m ++ (k ++ x)) p)
items_read R E F one none item last (v ∷ vs) [] i j k l x at place reason p q f g e =
    item v at p.0 l (p.1 ++ (k ++ x)) place reason p.2 (sym (ap (λ (m : List ℕ). m ++ l) q) ∙ sym e ∙ behind p.0 p.1 (k ++ x) i p.4) g
items_read R E F one none item last (v ∷ vs) (w ∷ ws) i j k l x at place reason p q f g e =
    let u = one v w p.0 q.0 (p.1 ++ (k ++ x)) (q.1 ++ l) p.2 q.2 (sym (behind p.0 p.1 (k ++ x) i p.4) ∙ e ∙ behind q.0 q.1 l j q.4) in
    items_read R E F one none item last vs ws p.1 q.1 k l x at place reason p.3 q.3 f g u.2

pub ended_read : {V : Type 0} (R : V → List ℕ → Type 0) (E : List ℕ → Type 0) (F : ℕ → List ℕ → ℕ → Reason → Type 0) → AreApart R → AreNoEnds R E → AreRead R F → EndsRead E F → AreRead (Ended R E) (RefusedAmong R F)
ended_read R E F one none item last vs at b x y place reason p e h =
    items_read R E F one none item last vs h.before p.items h.items p.last h.left y (at + length h.items) place reason p.each h.each p.ended h.next (sym (behind p.items p.last y b p.cut) ∙ sym e ∙ h.cut)
