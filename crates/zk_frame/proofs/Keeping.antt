-- A framer's fields before and after a call. The names are those of the fields: the limit, how much
-- of the prefix is filled, the prefix, the body; q is the prefix after `taken` bytes of the piece
-- were put into it.
use Rattle.std.proofs.Common.{◌≡◌, ℕ, ◌+◌, ◌<◌, List, [], ◌∷◌, ◌++◌, length, take, drop, ap, sym, subst, refl, ◌∙◌, arith, length-append}
use Rattle.std.proofs.lemmas.List.{append-nil, length-take, take_at}
use Rattle.std.proofs.Math.Seq.{take-add}
use Rattle.jute_core.specs.Jute.{IsInt}
use Rattle.zk_frame.specs.Kept.{kept, IsKept, IsFilled}

pub empty : (b : List ℕ) → (0 < length b → ⊥) → b ≡ []
empty [] h = refl
empty (x ∷ b) h = absurd (h (omega arith))

pub all_taken : (n : ℕ) (b : List ℕ) → length b ≡ n → take n b ≡ b
all_taken n b e = sym (ap (take n) (append-nil b)) ∙ take_at b [] n e

-- before the prefix is whole there is no body
pub no_body : (limit filled : ℕ) (prefix body : List ℕ) → IsKept limit filled prefix body → filled < 4 → body ≡ []
no_body limit filled prefix body k less = empty body (λ some. omega (arith, k.whole some))

pub held_length : (limit filled : ℕ) (prefix body : List ℕ) → IsKept limit filled prefix body → length (take filled prefix ++ body) ≡ filled + length body
held_length limit filled prefix body k = omega (arith, length-append (take filled prefix) body, length-take filled prefix, k.four, k.within)

-- a whole prefix gets no more bytes
pub none_taken : (filled : ℕ) (prefix q piece : List ℕ) (taken : ℕ) → IsFilled filled prefix q piece taken → filled ≡ 4 → taken ≡ 0
none_taken filled prefix q piece taken f full = omega (arith, f.count, full)

pub same_prefix : (filled : ℕ) (prefix q piece : List ℕ) (taken : ℕ) → length prefix ≡ 4 → IsFilled filled prefix q piece taken → filled ≡ 4 → q ≡ prefix
same_prefix filled prefix q piece taken four f full =
    let none : taken ≡ 0 = none_taken filled prefix q piece taken f full in
    let nil : take taken piece ≡ [] = ap (λ (n : ℕ). take n piece) none in
    let left : take (filled + taken) q ≡ q = all_taken (filled + taken) q (omega (arith, f.four)) in
    let right : take filled prefix ≡ prefix = all_taken filled prefix (omega arith) in
    sym left ∙ f.added ∙ ap (λ (l : List ℕ). take filled prefix ++ l) nil ∙ append-nil (take filled prefix) ∙ right

-- the bytes taken follow those held
pub prefix_in : (limit filled : ℕ) (prefix q body piece : List ℕ) (taken : ℕ) → IsKept limit filled prefix body → IsFilled filled prefix q piece taken → (take filled prefix ++ body) ++ take taken piece ≡ take (filled + taken) q ++ body
prefix_in limit filled prefix q [] piece taken k f = ap (λ (l : List ℕ). l ++ take taken piece) (append-nil (take filled prefix)) ∙ sym f.added ∙ sym (append-nil (take (filled + taken) q))
prefix_in limit filled prefix q (x ∷ body) piece taken k f =
    let none : taken ≡ 0 = none_taken filled prefix q piece taken f (k.whole (omega arith)) in
    let nil : take taken piece ≡ [] = ap (λ (n : ℕ). take n piece) none in
    ap (λ (l : List ℕ). (take filled prefix ++ (x ∷ body)) ++ l) nil ∙ append-nil (take filled prefix ++ (x ∷ body)) ∙ ap (λ (l : List ℕ). l ++ (x ∷ body)) (sym (f.added ∙ ap (λ (l : List ℕ). take filled prefix ++ l) nil ∙ append-nil (take filled prefix)))

-- the fields are right after the prefix was filled
pub kept_prefix : (limit filled : ℕ) (prefix q body piece : List ℕ) (taken : ℕ) → IsKept limit filled prefix body → IsFilled filled prefix q piece taken → IsKept limit (filled + taken) q body
kept_prefix limit filled prefix q body piece taken k f = record {
  four = f.four;
  within = omega (arith, f.count, k.within);
  bounded = k.bounded;
  whole = λ some. omega (arith, none_taken filled prefix q piece taken f (k.whole some), k.whole some);
  named = λ z is some. k.named z (subst (λ (l : List ℕ). IsInt z l) (same_prefix filled prefix q piece taken k.four f (k.whole some)) is) some;
}

-- and after it was emptied again
pub kept_again : (limit filled : ℕ) (prefix q body piece : List ℕ) (taken : ℕ) → IsKept limit filled prefix body → IsFilled filled prefix q piece taken → IsKept limit filled q body
kept_again limit filled prefix q body piece taken k f = record {
  four = f.four;
  within = k.within;
  bounded = k.bounded;
  whole = k.whole;
  named = λ z is some. k.named z (subst (λ (l : List ℕ). IsInt z l) (same_prefix filled prefix q piece taken k.four f (k.whole some)) is) some;
}

-- then it holds what it held
pub same_again : (limit filled : ℕ) (prefix q body piece : List ℕ) (taken : ℕ) → IsKept limit filled prefix body → IsFilled filled prefix q piece taken → kept limit filled q body ≡ kept limit filled prefix body
same_again limit filled prefix q body piece taken k f =
    let l : length (take filled prefix) ≡ filled = omega (arith, length-take filled prefix, k.four, k.within) in
    let left : take filled (take (filled + taken) q) ≡ take filled q = ap (take filled) (take-add filled taken q) ∙ take_at (take filled q) (take taken (drop filled q)) filled (omega (arith, length-take filled q, f.four, k.within)) in
    let right : take filled (take filled prefix ++ take taken piece) ≡ take filled prefix = take_at (take filled prefix) (take taken piece) filled l in
    let front : take filled q ≡ take filled prefix = sym left ∙ ap (take filled) f.added ∙ right in
    ap (λ (l : List ℕ). kept limit filled l body) refl ∙ ap (λ (h : List ℕ). record { limit = limit; held = h ++ body }) front
