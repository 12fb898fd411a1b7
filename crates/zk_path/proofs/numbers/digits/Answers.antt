use Rattle.std.proofs.Common.{◌≡◌, ℕ, ◌/◌, ◌%◌, ◌+◌, ◌^◌, [], ◌∷◌, refl, ◌∙◌, ap, unsigned_abs, w32, arith}
use Rattle.std.proofs.lemmas.Int.{to_z-of_z}
use Rattle.zk_path.specs.Numbers.{ten_digits, digit_at}
use Rattle.zk_path.proofs.numbers.digits.Goals as goal

-- a digit, read off the same number by a divisor that is a power
digit : (m n d place r : ℕ) → m ≡ n → d ≡ 10 ^ place → r ≡ m / d % 10 + 48 → r ≡ digit_at n place
digit m n d place r e f h = h ∙ ap (λ (k : ℕ). k / d % 10 + 48) e ∙ ap (λ (k : ℕ). n / k % 10 + 48) f

unit : (m n r : ℕ) → m ≡ n → r ≡ m % 10 + 48 → r ≡ digit_at n 0
unit m n r e h = h ∙ ap (λ (k : ℕ). k % 10 + 48) (e ∙ by_one n)
  where
    by_one : (k : ℕ) → k ≡ k / 1
    by_one k = omega arith

all_ten : (a b c d e f g h i j n : ℕ) → a ≡ digit_at n 9 → b ≡ digit_at n 8 → c ≡ digit_at n 7 → d ≡ digit_at n 6 → e ≡ digit_at n 5 → f ≡ digit_at n 4 → g ≡ digit_at n 3 → h ≡ digit_at n 2 → i ≡ digit_at n 1 → j ≡ digit_at n 0 → a ∷ b ∷ c ∷ d ∷ e ∷ f ∷ g ∷ h ∷ i ∷ j ∷ [] ≡ ten_digits n
unfolding ten_digits
all_ten a b c d e f g h i j n p q r s t u v w x y = rw (p, q, r, s, t, u, v, w, x, y)

pub returns : goal.returns
returns c =
    let e = ap unsigned_abs (to_z-of_z w32 c.args.number c.ranges.number) in
    all_ten _ _ _ _ _ _ _ _ _ _ (unsigned_abs c.args.number)
    (digit _ _ 1000000000 9 _ e refl c.last_digit.ensures) (digit _ _ 100000000 8 _ e refl c.last_digit-2.ensures)
    (digit _ _ 10000000 7 _ e refl c.last_digit-3.ensures) (digit _ _ 1000000 6 _ e refl c.last_digit-4.ensures)
    (digit _ _ 100000 5 _ e refl c.last_digit-5.ensures) (digit _ _ 10000 4 _ e refl c.last_digit-6.ensures)
    (digit _ _ 1000 3 _ e refl c.last_digit-7.ensures) (digit _ _ 100 2 _ e refl c.last_digit-8.ensures)
    (digit _ _ 10 1 _ e refl c.last_digit-9.ensures) (unit _ _ _ e c.last_digit-10.ensures)
