-- What `rsplit_once` gives at an ASCII character, by bytes.
use Rattle.std.proofs.Common.{◌≡◌, ◌≢◌, ℕ, ◌<◌, List, ◌∷◌, ◌++◌, length, get_or, take, drop, Option, Some, None, MatchOption, Bor, sym, ap, subst, ◌∙◌}
use Rattle.std.proofs.lemmas.List.{take-append-drop}
use Rattle.std.proofs.lemmas.Str.Pattern.{NoCharPasses-char, drop_at_char}
use Rattle.std.specs.Str.Pattern.{RFindsChar, SplitsAroundMatch}
use Rattle.std.specs.Prelude.{All}
use Rattle.std.proofs.lemmas.List.Elements.{All-from_get_or}

pub rsplit_parts : (c : ℕ) (bs : List ℕ) (r : Option (Bor (List ℕ) × Bor (List ℕ))) → MatchOption r (RFindsChar c bs None) (λ x. SplitsAroundMatch (RFindsChar c) bs x.0.now x.1.now) → c < 128 → MatchOption r ((i : ℕ) → i < length bs → get_or bs i 0 ≢ c) (λ x. (bs ≡ x.0.now ++ c ∷ x.1.now) × All (λ b. b ≢ c) x.1.now)
rsplit_parts c bs None h small = λ i l. NoCharPasses-char c bs i h small l
rsplit_parts c bs (Some x) (i, j, (none, at), front, back, ordered, front_len, back_len) small =
    let whole : bs ≡ take i bs ++ c ∷ drop j bs = sym (take-append-drop i bs) ∙ ap (λ (l : List ℕ). take i bs ++ l) (drop_at_char c bs i j at small) in (
      whole ∙ ap (λ (l : List ℕ). l ++ c ∷ drop j bs) (sym front) ∙ ap (λ (l : List ℕ). x.0.now ++ c ∷ l) (sym back),
      All-from_get_or (λ b. b ≢ c) x.1.now 0 (λ k l. subst (λ (l : List ℕ). (k < length l) → get_or l k 0 ≢ c) (sym back) (λ m. NoCharPasses-char c (drop j bs) k none small m) l),
    )
