-- A refusal has one place and one reason.
use Rattle.std.proofs.Common.{◌≡◌, ℕ, ℤ, zero, suc, ◌+◌, List, ◌++◌, length, sym, ap, subst, ◌∙◌, append_assoc, arith, length-append, inl, inr}
use Rattle.jute_core.specs.Jute.{Jute, int, long, boolean, buffer, ustring, count, pair, vector, IsInt, IsNull, IsSized, Spells, Refused, IsShort, IsBadCount, IsCut, FirstRefused}
use Rattle.jute_core.specs.Laws.{HasOneRefusal}
use Rattle.jute_core.specs.declared.cursor.Reason.{Reason}
use Rattle.jute_core.proofs.OneSpelling.{one_spelling, lengths_apart, null_apart}
use Rattle.jute_core.proofs.ReadOrRefused.{read_or_refused, length_not_bad, null_not_bad, sized_not_cut, null_not_cut}

short_not_int : (z : ℤ) (at : ℕ) (b x y : List ℕ) (place : ℕ) (reason : Reason) → IsShort 4 at b place reason → IsInt z x → b ≡ x ++ y → ⊥
short_not_int z at b x y place reason short is e =
    let l : length x ≡ 4 = ap length is.1 in
    omega (arith, short.0, ap length e, length-append x y)

bad_counts : (at : ℕ) (b : List ℕ) (p q : ℕ) (r s : Reason) → IsBadCount at b p r → IsBadCount at b q s → (p ≡ q) × (r ≡ s)
bad_counts at b p q r s h k = elim h [
  | inl short ↦ elim k [
    | inl other ↦ (short.1 ∙ sym other.1, short.2 ∙ sym other.2)
    | inr bad ↦ absurd (short_not_int bad.0 at b bad.1 bad.2 p r short bad.3 bad.4)
  ]
  | inr bad ↦ elim k [
    | inl short ↦ absurd (short_not_int bad.0 at b bad.1 bad.2 q s short bad.3 bad.4)
    | inr other ↦ (bad.6 ∙ sym other.6, bad.7 ∙ sym other.7)
  ]
]

bad_not_cut : (at : ℕ) (b : List ℕ) (p q : ℕ) (r s : Reason) → IsBadCount at b p r → IsCut at b q s → ⊥
bad_not_cut at b p q r s bad cut = length_not_bad cut.0 at cut.1 b cut.2 p r cut.3 cut.4 bad

sized_not_bad : (v : List ℕ) (at : ℕ) (b x y : List ℕ) (place : ℕ) (reason : Reason) → IsSized v b → x ≡ b ++ y → IsBadCount at x place reason → ⊥
sized_not_bad v at b x y place reason is e bad =
    length_not_bad (length v) at is.0 x (v ++ y) place reason is.1 (e ∙ ap (λ (l : List ℕ). l ++ y) is.2 ∙ append_assoc is.0 v y) bad

null_not_sized : (v a b x y c : List ℕ) → IsNull a → IsSized v b → c ≡ a ++ x → c ≡ b ++ y → ⊥
null_not_sized v a b x y c null is e f = null_apart (length v) a is.0 x (v ++ y) null is.1 (sym e ∙ f ∙ ap (λ (l : List ℕ). l ++ y) is.2 ∙ append_assoc is.0 v y)

-- the rows of a text exclude one another
texts : (at : ℕ) (b : List ℕ) (p q : ℕ) (r s : Reason) → Refused ustring at b p r → Refused ustring at b q s → (p ≡ q) × (r ≡ s)
unfolding Refused
texts at b p q r s h k = elim h [
  | inl bad ↦ elim k [
    | inl other ↦ bad_counts at b p q r s bad other
    | inr k ↦ elim k [
      | inl cut ↦ absurd (bad_not_cut at b p q r s bad cut)
      | inr k ↦ elim k [
        | inl null ↦ absurd (null_not_bad at null.0 b null.1 p r null.2 null.3 bad)
        | inr no_text ↦ absurd (sized_not_bad no_text.0 at no_text.1 b no_text.2 p r no_text.3 no_text.4 bad)
      ]
    ]
  ]
  | inr h ↦ elim h [
    | inl cut ↦ elim k [
      | inl bad ↦ absurd (bad_not_cut at b q p s r bad cut)
      | inr k ↦ elim k [
        | inl other ↦ (cut.6 ∙ sym other.6, cut.7 ∙ sym other.7)
        | inr k ↦ elim k [
          | inl null ↦ absurd (null_not_cut at null.0 b null.1 p r null.2 null.3 cut)
          | inr no_text ↦ absurd (sized_not_cut no_text.0 at no_text.1 b no_text.2 p r no_text.3 no_text.4 cut)
        ]
      ]
    ]
    | inr h ↦ elim h [
      | inl null ↦ elim k [
        | inl bad ↦ absurd (null_not_bad at null.0 b null.1 q s null.2 null.3 bad)
        | inr k ↦ elim k [
          | inl cut ↦ absurd (null_not_cut at null.0 b null.1 q s null.2 null.3 cut)
          | inr k ↦ elim k [
            | inl other ↦ (null.4 ∙ sym other.4, null.5 ∙ sym other.5)
            | inr no_text ↦ absurd (null_not_sized no_text.0 null.0 no_text.1 null.1 no_text.2 b null.2 no_text.3 null.3 no_text.4)
          ]
        ]
      ]
      | inr no_text ↦ elim k [
        | inl bad ↦ absurd (sized_not_bad no_text.0 at no_text.1 b no_text.2 q s no_text.3 no_text.4 bad)
        | inr k ↦ elim k [
          | inl cut ↦ absurd (sized_not_cut no_text.0 at no_text.1 b no_text.2 q s no_text.3 no_text.4 cut)
          | inr k ↦ elim k [
            | inl null ↦ absurd (null_not_sized no_text.0 null.0 no_text.1 null.1 no_text.2 b null.2 no_text.3 null.3 no_text.4)
            | inr other ↦ (no_text.6 ∙ sym other.6, no_text.7 ∙ sym other.7)
          ]
        ]
      ]
    ]
  ]
]

-- one after another
first_refused : {V : Type 0} (R : V → List ℕ → Type 0) (F : ℕ → List ℕ → ℕ → Reason → Type 0)
    → ((v w : V) (a b x y : List ℕ) → R v a → R w b → a ++ x ≡ b ++ y → (v ≡ w) × (a ≡ b) × (x ≡ y))
    → ((v : V) (at : ℕ) (b x y : List ℕ) (place : ℕ) (reason : Reason) → R v b → x ≡ b ++ y → F at x place reason → ⊥)
    → ((at : ℕ) (b : List ℕ) (p q : ℕ) (r s : Reason) → F at b p r → F at b q s → (p ≡ q) × (r ≡ s))
    → (n at : ℕ) (b : List ℕ) (p q : ℕ) (r s : Reason) → FirstRefused R F n at b p r → FirstRefused R F n at b q s → (p ≡ q) × (r ≡ s)
first_refused R F one apart once zero at b p q r s h k = absurd h
first_refused R F one apart once (suc n) at b p q r s h k = elim h [
  | inl first ↦ elim k [
    | inl other ↦ once at b p q r s first other
    | inr later ↦ absurd (apart later.0 at later.1 b later.2 p r later.3 later.4 first)
  ]
  | inr later ↦ elim k [
    | inl first ↦ absurd (apart later.0 at later.1 b later.2 q s later.3 later.4 first)
    | inr other ↦
        let u = one later.0 other.0 later.1 other.1 later.2 other.2 later.3 other.3 (sym later.4 ∙ other.4) in
        let moved = subst (λ (x : List ℕ). FirstRefused R F n (at + length x) other.2 q s) (sym u.1) other.5 in
        first_refused R F one apart once n (at + length later.1) later.2 p q r s later.5 (subst (λ (y : List ℕ). FirstRefused R F n (at + length later.1) y q s) (sym u.2) moved)
  ]
]

pub one_refusal : (t : Jute) → HasOneRefusal t
unfolding Refused
one_refusal int at b p q r s h k = (h.1 ∙ sym k.1, h.2 ∙ sym k.2)
one_refusal long at b p q r s h k = (h.1 ∙ sym k.1, h.2 ∙ sym k.2)
one_refusal boolean at b p q r s h k = elim h [
  | inl short ↦ elim k [
    | inl other ↦ (short.1 ∙ sym other.1, short.2 ∙ sym other.2)
    | inr bad ↦ absurd (omega (arith, short.0, ap length bad.2))
  ]
  | inr bad ↦ elim k [
    | inl short ↦ absurd (omega (arith, short.0, ap length bad.2))
    | inr other ↦ (bad.4 ∙ sym other.4, bad.5 ∙ sym other.5)
  ]
]
one_refusal buffer at b p q r s h k = elim h [
  | inl bad ↦ elim k [ inl other ↦ bad_counts at b p q r s bad other | inr cut ↦ absurd (bad_not_cut at b p q r s bad cut) ]
  | inr cut ↦ elim k [ inl bad ↦ absurd (bad_not_cut at b q p s r bad cut) | inr other ↦ (cut.6 ∙ sym other.6, cut.7 ∙ sym other.7) ]
]
one_refusal ustring at b p q r s h k = texts at b p q r s h k
one_refusal count at b p q r s h k = bad_counts at b p q r s h k
one_refusal (pair t u) at b p q r s h k = elim h [
  | inl first ↦ elim k [
    | inl other ↦ one_refusal t at b p q r s first other
    | inr later ↦ absurd (read_or_refused t later.0 at later.1 b later.2 p r later.3 later.4 first)
  ]
  | inr later ↦ elim k [
    | inl first ↦ absurd (read_or_refused t later.0 at later.1 b later.2 q s later.3 later.4 first)
    | inr other ↦
        let m = one_spelling t later.0 other.0 later.1 other.1 later.2 other.2 later.3 other.3 (sym later.4 ∙ other.4) in
        let moved = subst (λ (x : List ℕ). Refused u (at + length x) other.2 q s) (sym m.1) other.5 in
        one_refusal u (at + length later.1) later.2 p q r s later.5 (subst (λ (y : List ℕ). Refused u (at + length later.1) y q s) (sym m.2) moved)
  ]
]
one_refusal (vector t) at b p q r s h k = elim h [
  | inl bad ↦ elim k [
    | inl other ↦ bad_counts at b p q r s bad other
    | inr later ↦ absurd (length_not_bad later.0 at later.1 b later.2 p r later.3 later.4 bad)
  ]
  | inr later ↦ elim k [
    | inl bad ↦ absurd (length_not_bad later.0 at later.1 b later.2 q s later.3 later.4 bad)
    | inr other ↦
        let m = lengths_apart later.0 other.0 later.1 other.1 later.2 other.2 later.3 other.3 (sym later.4 ∙ other.4) in
        let counted = subst (λ (n : ℕ). FirstRefused (Spells t) (Refused t) n (at + 4) other.2 q s) (sym m.0) other.5 in
        first_refused (Spells t) (Refused t) (one_spelling t) (read_or_refused t) (one_refusal t) later.0 (at + 4) later.2 p q r s later.5 (subst (λ (y : List ℕ). FirstRefused (Spells t) (Refused t) later.0 (at + 4) y q s) (sym m.2) counted)
  ]
]
