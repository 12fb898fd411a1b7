-- A sealed stem is cut behind what its parent is sealed to, and its parts are short.
use Rattle.std.proofs.Common.{◌≡◌, ◌≢◌, ℕ, ◌^◌, ◌<◌, ◌≤◌, List, [], ◌∷◌, ◌++◌, Some, None, length, get_or, refl, sym, ap, ◌∙◌, arith, length-append}
use Rattle.std.proofs.lemmas.List.Elements.{All-cons}
use Rattle.zk_path.specs.Paths.{HasNoSlash, IsStem, joined, text_of, last_of, parent_of}
use Rattle.zk_path.specs.View.{components}
use Rattle.zk_path.specs.Numbers.{ten_digits, numbered, IsPlainName}
use Rattle.zk_path.specs.WithDigits.{length-ten_digits}
use Rattle.zk_path.proofs.Components.{components-push, components-joined, joined_begins}
use Rattle.path_seal.specs.Sealed.{Keys, AreKeys, SealName, sealed, SealPath, SealStem, OpensStem}
use Rattle.path_seal.proofs.NameBytes.{joined_shorter, sealed_plain}
use Rattle.path_seal.proofs.Apart.{same_fronts}
use Rattle.counter_enclave.specs.Enclave.{IsSealedName}

-- ---- lengths

pub last_within : (p : List (List ℕ)) (n : List ℕ) → Some n ≡ last_of p → length (text_of p) ≤ 134217728 → length n ≤ 134217728
unfolding joined text_of
last_within [] n e h = absurd cc
last_within (m ∷ p) n e h = let same : n ≡ m = cc in omega (arith, ap length same, length-append (joined p) (47 ∷ m), h)

pub parent_within : (p q : List (List ℕ)) → Some q ≡ parent_of p → length (text_of p) ≤ 134217728 → length (text_of q) ≤ 2 ^ 28
unfolding joined text_of
parent_within [] q e h = absurd cc
parent_within (m ∷ []) [] e h = omega arith
parent_within (m ∷ []) (n ∷ q) e h = absurd cc
parent_within (m ∷ (n ∷ p)) [] e h = absurd cc
parent_within (m ∷ (n ∷ p)) (l ∷ q) e h =
    let same : l ∷ q ≡ n ∷ p = cc in
    omega (arith, ap (λ (r : List (List ℕ)). length (joined r)) same, length-append (joined (n ∷ p)) (47 ∷ m), h)

pub name_within : (n name : List ℕ) (i : ℕ) → IsPlainName n i name → length n ≤ 134217728 → length name ≤ 2 ^ 28
name_within n name i e h = omega (arith, ap length e, length-append n (ten_digits i), length-ten_digits i, h)

pub stem_within : (k : Keys) (text : List ℕ) (s : List (List ℕ)) → OpensStem k text s → length text ≤ 134217728 → length (text_of s) ≤ 134217728
unfolding text_of
stem_within k text [] h short = absurd h.0
stem_within k text (n ∷ p) h short = omega (arith, joined_shorter k (n ∷ p), ap length h.1, short)

-- ---- a legal stem has a parent, a last component and a slash

pub no_parent : (k : Keys) (text : List ℕ) (s : List (List ℕ)) → OpensStem k text s → None ≡ parent_of s → ⊥
no_parent k text [] h e = h.0
no_parent k text (n ∷ p) h e = cc

pub no_last : (k : Keys) (text : List ℕ) (s : List (List ℕ)) → OpensStem k text s → None ≡ last_of s → ⊥
no_last k text [] h e = h.0
no_last k text (n ∷ p) h e = cc

pub no_slash : (k : Keys) (text : List ℕ) (s : List (List ℕ)) → OpensStem k text s → ((i : ℕ) → i < length text → get_or text i 0 ≢ 47) → ⊥
unfolding sealed
no_slash k text [] h none = h.0
no_slash k text (n ∷ p) h none =
    let begins = joined_begins (SealName k p n) (sealed k p) in
    let is : text ≡ 47 ∷ begins.0 = sym h.1 ∙ begins.1 in
    none 0 (omega (arith, ap length is)) (ap (λ (l : List ℕ). get_or l 0 0) is)

-- ---- the sealed name

cut_behind : (k : Keys) (n : List ℕ) (p : List (List ℕ)) (text above rest : List ℕ) → SealStem k (n ∷ p) ≡ text → text ≡ above ++ 47 ∷ rest → HasNoSlash rest → above ≡ joined (sealed k p)
unfolding joined sealed
cut_behind k n p text above rest e cut plain =
    let seen : rest ∷ components above ≡ SealName k p n ∷ sealed k p =
    sym (components-push above rest plain) ∙ ap components (sym cut ∙ sym e) ∙ components-joined (sealed k (n ∷ p)) (sealed_plain k (n ∷ p)) in
    let last : rest ≡ SealName k p n = cc in
    let whole : above ++ 47 ∷ rest ≡ joined (sealed k p) ++ 47 ∷ SealName k p n = sym cut ∙ sym e in
    (same_fronts above (joined (sealed k p)) (47 ∷ rest) (47 ∷ SealName k p n)
    (omega (arith, ap length whole, ap length last, length-append above (47 ∷ rest), length-append (joined (sealed k p)) (47 ∷ SealName k p n))) whole).0

pub named : (k : Keys) (text : List ℕ) (s q : List (List ℕ)) (last above rest name given : List ℕ) (i : ℕ) → AreKeys k → OpensStem k text s → Some q ≡ parent_of s → Some last ≡ last_of s → text ≡ above ++ 47 ∷ rest → HasNoSlash rest → IsPlainName last i name → given ≡ above ++ 47 ∷ SealName k q name → IsSealedName k text i given
unfolding joined sealed text_of
named k text [] q last above rest name given i keys h up down cut plain is e = absurd h.0
named k text (n ∷ p) q last above rest name given i keys h up down cut plain is e =
    let parent : q ≡ p = cc in
    let component : last ≡ n = cc in
    let front = cut_behind k n p text above rest h.1 cut plain in
    let digits : name ≡ n ++ ten_digits i = is ∙ ap (λ (l : List ℕ). l ++ ten_digits i) component in
    record {
      whole = keys;
      parts = n ∷ p;
      legal = h.0;
      asked = sym h.1;
      given = e ∙ (λ j. front j ++ 47 ∷ SealName k (parent j) (digits j));
    }
