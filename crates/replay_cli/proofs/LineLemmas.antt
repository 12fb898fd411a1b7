-- Lines and words of a text.
use Rattle.std.proofs.Common.{◌≡◌, ◌≢◌, ℕ, suc, ◌+◌, ◌<◌, ◌≤◌, Bool, true, false, cond, eqb, List, [], ◌∷◌, ◌++◌, length, take, drop, get_or, Some, None, refl, sym, ap, subst, ◌∙◌, arith, rules, length-take, get_or-take}
use Rattle.std.proofs.Math.Seq.{take-append_seam}
use Rattle.std.proofs.lemmas.List.{take-append-drop}
use Rattle.std.specs.Cmp.Lexicographic.{same_text, other_text}
use Rattle.std.specs.Prelude.{position, nat_lt}
use Rattle.std.specs.Str.{bytes_eq}
use Rattle.std.specs.List.{position_or_len}
use Rattle.std.proofs.lemmas.List.Splits.{slice_split_first, slice_split_none}
use Rattle.std.proofs.lemmas.List.Sums.{fails_before_first, passes_at_first, split_at_first}
use Rattle.std.proofs.lemmas.Bool.Decides.{nat_tests}
use Rattle.replay_cli.specs.Lines.{lines}
use Rattle.replay_cli.specs.Reading.{HasNoSpace}

at_some : (t : Bool) (n i : ℕ) → cond t (Some n) None ≡ Some i → (t ≡ true) × (n ≡ i)
at_some true n i e = (refl, cc)
at_some false n i e = absurd cc

at_none : (t : Bool) (n : ℕ) → cond t (Some n) None ≡ None → t ≡ false
at_none true n e = absurd cc
at_none false n e = refl

-- the first line feed cuts the first line off
pub cut_some : (text : List ℕ) (at : ℕ) → position (λ b. eqb b 10) text ≡ Some at → lines text ≡ take at text ∷ lines (drop (at + 1) text)
cut_some text at e =
    let p = at_some (nat_lt (position_or_len (λ b. eqb b 10) text) (length text)) (position_or_len (λ b. eqb b 10) text) at e in
    let lt : position_or_len (λ b. eqb b 10) text < length text = let t = p.0 in grind (arith, nat_tests) in
    let split = slice_split_first (λ (b : ℕ). eqb b 10) text 0 lt in
    subst (λ (n : ℕ). lines text ≡ take n text ∷ lines (drop (n + 1) text)) p.1 split

-- where there is none, the text is one line
pub cut_none : (text : List ℕ) → position (λ b. eqb b 10) text ≡ None → lines text ≡ text ∷ []
cut_none text e =
    let t = at_none (nat_lt (position_or_len (λ b. eqb b 10) text) (length text)) (position_or_len (λ b. eqb b 10) text) e in
    let ge : length text ≤ position_or_len (λ b. eqb b 10) text = grind (arith, nat_tests) in
    slice_split_none (λ (b : ℕ). eqb b 10) text (search (rules, fails_before_first))

-- Fronts

-- a text begins with this front, or does not
pub front_cut : (text front rest : List ℕ) → bytes_eq (take (length front) text) front ≡ true → rest ≡ drop (length front) text → text ≡ front ++ rest
front_cut text front rest begins is =
    let same = same_text (take (length front) text) front (sym begins) in
    sym (take-append-drop (length front) text) ∙ ap (λ (l : List ℕ). l ++ drop (length front) text) same ∙ ap (λ (l : List ℕ). front ++ l) (sym is)

pub no_front : (text front rest : List ℕ) → bytes_eq (take (length front) text) front ≡ false → text ≡ front ++ rest → ⊥
no_front text front rest differs e = other_text (take (length front) text) front (sym differs) (ap (take (length front)) e ∙ take-append_seam front rest)

-- Words before a space

pub no_space : (text : List ℕ) → ((k : ℕ) → k < length text → get_or text k 0 ≢ 32) → HasNoSpace text
unfolding HasNoSpace
no_space [] each = tt
no_space (x ∷ xs) each = (each 0 (omega arith), no_space xs (λ k lt. each (suc k) (omega arith)))

is_space : ℕ → Bool
is_space b = eqb b 32

is_other : (b : ℕ) → eqb b 32 ≡ false → b ≢ 32
is_other b e = grind (arith, nat_tests)

-- the first space cuts the first word off
pub word_cut : (text : List ℕ) (at : ℕ) → position (λ b. eqb b 32) text ≡ Some at → (text ≡ take at text ++ 32 ∷ drop (at + 1) text) × HasNoSpace (take at text)
word_cut text at e =
    let p = at_some (nat_lt (position_or_len (λ b. eqb b 32) text) (length text)) (position_or_len (λ b. eqb b 32) text) at e in
    let lt : position_or_len (λ b. eqb b 32) text < length text = let t = p.0 in grind (arith, nat_tests) in
    let here : get_or text (position_or_len (λ b. eqb b 32) text) 0 ≡ 32 = let t = passes_at_first (λ (b : ℕ). eqb b 32) text 0 lt in grind (arith, nat_tests) in
    let split : text ≡ take (position_or_len (λ b. eqb b 32) text) text ++ (get_or text (position_or_len (λ b. eqb b 32) text) 0 ∷ drop (position_or_len (λ b. eqb b 32) text + 1) text) = split_at_first (λ (b : ℕ). eqb b 32) text 0 lt in
    let cut : text ≡ take (position_or_len (λ b. eqb b 32) text) text ++ (32 ∷ drop (position_or_len (λ b. eqb b 32) text + 1) text) =
    split ∙ ap (λ (s : ℕ). take (position_or_len (λ b. eqb b 32) text) text ++ (s ∷ drop (position_or_len (λ b. eqb b 32) text + 1) text)) here in
    let size : length (take at text) ≡ at = omega (arith, length-take at text, p.1) in (
      subst (λ (n : ℕ). text ≡ take n text ++ (32 ∷ drop (n + 1) text)) p.1 cut,
      no_space (take at text) (λ k small.
          let below : k < position_or_len (λ b. eqb b 32) text = omega (arith, p.1, size) in
          let other = is_other (get_or text k 0) (fails_before_first (λ (b : ℕ). eqb b 32) text k 0 below) in
          let short : k < at = omega (arith, size) in
          let same : get_or (take at text) k 0 ≡ get_or text k 0 = get_or-take at text k 0 short in
          λ space. other (sym same ∙ space)),
    )

pub no_word : (text : List ℕ) → position (λ b. eqb b 32) text ≡ None → HasNoSpace text
no_word text e =
    let t = at_none (nat_lt (position_or_len (λ b. eqb b 32) text) (length text)) (position_or_len (λ b. eqb b 32) text) e in
    let ge : length text ≤ position_or_len (λ b. eqb b 32) text = grind (arith, nat_tests) in
    no_space text (λ k lt. is_other (get_or text k 0) (fails_before_first (λ (b : ℕ). eqb b 32) text k 0 (omega arith)))

heads : (m n : ℕ) (x y : List ℕ) → m ∷ x ≡ n ∷ y → (m ≡ n) × (x ≡ y)
heads m n x y e = (cc, cc)

-- a text is cut at its first space in one way
pub one_word : (a b x y : List ℕ) → HasNoSpace a → HasNoSpace b → a ++ 32 ∷ x ≡ b ++ 32 ∷ y → (a ≡ b) × (x ≡ y)
unfolding HasNoSpace
one_word [] [] x y p q e = (refl, (heads 32 32 x y e).1)
one_word [] (n ∷ b) x y p q e = absurd (q.0 (sym (heads 32 n x (b ++ 32 ∷ y) e).0))
one_word (m ∷ a) [] x y p q e = absurd (p.0 (heads m 32 (a ++ 32 ∷ x) y e).0)
one_word (m ∷ a) (n ∷ b) x y p q e =
    let h = heads m n (a ++ 32 ∷ x) (b ++ 32 ∷ y) e in
    let r = one_word a b x y p.1 q.1 h.1 in
    let first = h.0 in
    let rest = r.0 in
    (cc, r.1)

-- a text without a space holds none
pub spaceless : (a x : List ℕ) → HasNoSpace (a ++ 32 ∷ x) → ⊥
unfolding HasNoSpace
spaceless [] x h = h.0 refl
spaceless (n ∷ a) x h = spaceless a x h.1
