-- What sealing appends, and what is kept of a path.
use Rattle.std.proofs.Common.{◌≡◌, ℕ, ◌+◌, ◌^◌, ◌<◌, ◌≤◌, Bool, true, false, List, [], ◌∷◌, ◌++◌, length, take, Option, Some, None, refl, sym, ap, subst, ◌∙◌, append_assoc, length-append, arith}
use lib.Dec.{T, ltb, ltb→lt}
use Rattle.hex.specs.Hex.{encode_lower}
use Rattle.sha2.specs.Sha256.{sha256}
use Rattle.sha2.specs.Hashers.{Holds256}
use Rattle.sha2.specs.declared.Sha256.{Sha256}
use Rattle.gcm_mode.specs.Absorbed.{IsAbsorbed}
use Rattle.gcm_mode.specs.declared.absorbed.Absorbed.{Absorbed}
use Rattle.gcm_mode.specs.Gcm.{Gcm, passed_length}
use Rattle.zk_path.specs.Paths.{joined, text_of}
use Rattle.path_seal.specs.Sealed.{Keys, name_iv, sealed_bytes, SealName}

-- the salt, a text and a slash are hashed
pub hashed_is : (s : Sha256) (salt given above : List ℕ) → given ≡ salt → Holds256 s ((given ++ above) ++ 47 ∷ []) → Holds256 s (salt ++ (above ++ 47 ∷ []))
hashed_is s salt given above e h = subst (Holds256 s) (append_assoc given above (47 ∷ []) ∙ ap (λ (l : List ℕ). l ++ (above ++ 47 ∷ [])) e) h

-- and a name and a slash more
pub below_hashed : (s : Sha256) (salt : List ℕ) (p : List (List ℕ)) (name : List ℕ) → Holds256 s (((salt ++ (joined p ++ 47 ∷ [])) ++ name) ++ 47 ∷ []) → Holds256 s (salt ++ (joined (name ∷ p) ++ 47 ∷ []))
unfolding joined
below_hashed s salt p name h =
    subst (Holds256 s) (append_assoc (salt ++ (joined p ++ 47 ∷ [])) name (47 ∷ []) ∙ append_assoc salt (joined p ++ 47 ∷ []) (name ++ 47 ∷ [])
    ∙ ap (λ (l : List ℕ). salt ++ l) (append_assoc (joined p) (47 ∷ []) (name ++ 47 ∷ []) ∙ sym (append_assoc (joined p) (47 ∷ name) (47 ∷ [])))) h

-- the IV is of what is hashed then
pub iv_is : (k : Keys) (p : List (List ℕ)) (name digest iv : List ℕ) → digest ≡ sha256 ((k.salt ++ (joined p ++ 47 ∷ [])) ++ name) → iv ≡ take 12 digest → iv ≡ name_iv k p name
unfolding name_iv joined
iv_is k p name digest iv d i =
    i ∙ ap (take 12) (d ∙ ap sha256 (append_assoc k.salt (joined p ++ 47 ∷ []) name ∙ ap (λ (l : List ℕ). k.salt ++ l) (append_assoc (joined p) (47 ∷ []) name)))

-- the additional data of names under a child
pub below_text : (k : List ℕ) (s : Absorbed) (p : List (List ℕ)) (name : List ℕ) → IsAbsorbed k s ((joined p ++ 47 ∷ []) ++ name) → IsAbsorbed k s (text_of (name ∷ p))
unfolding text_of joined
below_text k s p name h = subst (IsAbsorbed k s) (append_assoc (joined p) (47 ∷ []) name) h

pub below_ahead : (k : List ℕ) (s : Absorbed) (p : List (List ℕ)) (name : List ℕ) → IsAbsorbed k s (text_of (name ∷ p) ++ 47 ∷ []) → IsAbsorbed k s (joined (name ∷ p) ++ 47 ∷ [])
unfolding text_of
below_ahead k s p name h = h

pub bytes_are : (k : Keys) (iv before bytes n : List ℕ) (p : List (List ℕ)) → iv ≡ name_iv k p n → before ≡ iv → bytes ≡ before ++ Gcm k.key iv (text_of p) n → bytes ≡ sealed_bytes k p n
unfolding sealed_bytes
bytes_are k iv before bytes n p b d e = e ∙ (λ i. d i ++ Gcm k.key iv (text_of p) n) ∙ (λ i. b i ++ Gcm k.key (b i) (text_of p) n)

pub name_is : (k : Keys) (p : List (List ℕ)) (n bytes text before after : List ℕ) → bytes ≡ sealed_bytes k p n → text ≡ encode_lower bytes → after ≡ before ++ text → after ≡ before ++ SealName k p n
unfolding SealName
name_is k p n bytes text before after b t a = a ∙ ap (λ (l : List ℕ). before ++ l) (t ∙ ap encode_lower b)

pub below_size : (p : List (List ℕ)) (name : List ℕ) → length (joined (name ∷ p)) ≡ length (joined p) + 1 + length name
unfolding joined
below_size p name = omega (arith, length-append (joined p) (47 ∷ name))

pub below_text_size : (p : List (List ℕ)) (name : List ℕ) → length (text_of (name ∷ p)) ≡ length (joined (name ∷ p))
unfolding text_of
below_text_size p name = refl

no_test : (b : Bool) → (T b → ⊥) → b ≡ false
no_test true f = absurd (f tt)
no_test false f = refl

-- nothing is too long
pub none_passed : (a x : List ℕ) (n : ℕ) → length a ≤ 2 ^ 28 → length x ≤ 2 ^ 28 → passed_length a x ≡ Some n → ⊥
unfolding passed_length
none_passed a x n h g e =
    let one : ltb (2 ^ 28) (length x) ≡ false = no_test (ltb (2 ^ 28) (length x)) (λ t. let l = ltb→lt (2 ^ 28) (length x) t in omega arith) in
    let two : ltb (2 ^ 28) (length a) ≡ false = no_test (ltb (2 ^ 28) (length a)) (λ t. let l = ltb→lt (2 ^ 28) (length a) t in omega arith) in
    let none = rw (one, two) at e in cc
