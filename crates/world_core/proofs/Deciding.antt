-- What can be decided of a list of bytes.
use Rattle.std.proofs.Common.{◌≡◌, ◌<◌, ◌+◌, ℕ, zero, suc, List, [], ◌∷◌, ◌++◌, length, take, drop, refl, sym, subst, arith, length-append}
use Rattle.std.specs.Str.{bytes_eq}
use Rattle.std.proofs.lemmas.List.{take_at, drop_at, take-append-drop}
use Rattle.std.proofs.lemmas.Slice.Eq.{bytes_eq-Decides}
use Rattle.zk_path.proofs.Stable.{dec_of}
use Rattle.path_seal.proofs.Decided.{dec_both, dec_below}
use Rattle.jute_core.specs.Jute.{Each}

pub dec_from : {P Q : Type 0} → (P → Q) → (Q → P) → Dec P → Dec Q
dec_from {P} {Q} f g (yes p) = yes (f p)
dec_from {P} {Q} f g (no h) = no (λ q. h (g q))

pub dec_same : (xs ys : List ℕ) → Dec (xs ≡ ys)
dec_same xs ys = dec_of (bytes_eq xs ys) (bytes_eq-Decides xs ys)

-- the bytes are two parts of which this holds
pub record Parts (R : List ℕ → List ℕ → Type 0) (b : List ℕ) : Type 0 where
  pub front : List ℕ
  pub back : List ℕ
  pub held : R front back
  pub cut : b ≡ front ++ back

parts_at : (R : List ℕ → List ℕ → Type 0) (b x y : List ℕ) → R x y → b ≡ x ++ y → R (take (length x) b) (drop (length x) b)
parts_at R b x y h e =
    subst (λ (l : List ℕ). R (take (length x) l) (drop (length x) l)) (sym e)
    (subst (λ (l : List ℕ). R (take (length x) (x ++ y)) l) (sym (drop_at x y (length x) refl)) (subst (λ (l : List ℕ). R l y) (sym (take_at x y (length x) refl)) h))

part_within : (b x y : List ℕ) → b ≡ x ++ y → length x < length b + 1
part_within b x y e = subst (λ (l : List ℕ). length x < length l + 1) (sym e) (omega (arith, length-append x y))

pub dec_parts : (R : List ℕ → List ℕ → Type 0) → ((x y : List ℕ) → Dec (R x y)) → (b : List ℕ) → Dec (Parts R b)
dec_parts R d b =
    dec_from (λ h. record { front = take h.0 b; back = drop h.0 b; held = h.2; cut = sym (take-append-drop h.0 b) })
    (λ h. (length h.front, part_within b h.front h.back h.cut, parts_at R b h.front h.back h.held h.cut))
    (dec_below (λ i. R (take i b) (drop i b)) (λ i. d (take i b) (drop i b)) (length b + 1))

-- they are n values, one after another
pub record Values {V : Type 0} (R : V → List ℕ → Type 0) (n : ℕ) (b : List ℕ) : Type 0 where
  pub list : List V
  pub counted : length list ≡ n
  pub each : Each R list b

no_values : {V : Type 0} (R : V → List ℕ → Type 0) (b : List ℕ) (vs : List V) → length vs ≡ 0 → Each R vs b → b ≡ []
no_values R b [] e h = h
no_values R b (v ∷ vs) e h = absurd (omega (arith, e))

-- the first and the others
abbrev First : {V : Type 0} → (V → List ℕ → Type 0) → ℕ → List ℕ → List ℕ → Type 0
First {V} R n x y = ((v : V) × R v x) × Values R n y

first_value : {V : Type 0} (R : V → List ℕ → Type 0) (n : ℕ) (b : List ℕ) (vs : List V) → length vs ≡ suc n → Each R vs b → Parts (First R n) b
first_value R n b [] e h = absurd (omega (arith, e))
first_value R n b (v ∷ vs) e h =
    record { front = h.0; back = h.1; held = ((v, h.2), record { list = vs; counted = omega (arith, e); each = h.3 }); cut = h.4 }

pub dec_values : {V : Type 0} (R : V → List ℕ → Type 0) → ((b : List ℕ) → Dec ((v : V) × R v b)) → (n : ℕ) (b : List ℕ) → Dec (Values R n b)
dec_values {V} R d zero b = dec_from (λ e. record { list = []; counted = refl; each = e }) (λ h. no_values R b h.list h.counted h.each) (dec_same b [])
dec_values {V} R d (suc n) b =
    dec_from (λ h. record { list = h.held.0.0 ∷ h.held.1.list; counted = omega (arith, h.held.1.counted); each = (h.front, h.back, h.held.0.1, h.held.1.each, h.cut) })
    (λ h. first_value R n b h.list h.counted h.each)
    (dec_parts (First R n) (λ x y. dec_both (d x) (dec_values R d n y)) b)
