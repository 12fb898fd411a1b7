-- The components of a text, read back.
use Rattle.std.proofs.Common.{inl, inr, ◌≡◌, ◌≢◌, ℕ, Bool, cond, eqb, List, [], ◌∷◌, ◌++◌, refl, sym, ap, subst, ◌∙◌, append_assoc}
use Rattle.std.specs.Prelude.{All}
use Rattle.std.proofs.lemmas.List.{append-nil}
use Rattle.std.proofs.lemmas.List.Elements.{All-nil, All-cons, All-head, All-tail, All-append}
use Rattle.std.proofs.lemmas.Bool.{ne_eqb, cases_eq}
use Rattle.zk_path.specs.Paths.{HasNoSlash, joined}
use Rattle.zk_path.specs.View.{with_byte, with_bytes, components}

-- another byte than a slash
with_bytes-other : (p : List (List ℕ)) (b : ℕ) (bs : List ℕ) → b ≢ 47 → with_bytes p (b ∷ bs) ≡ with_bytes (with_byte p b) bs
unfolding with_bytes
with_bytes-other p b bs h = ap (λ (t : Bool). with_bytes (cond t ([] ∷ p) (with_byte p b)) bs) (ne_eqb b 47 h)

with_bytes-append : (p : List (List ℕ)) (a b : List ℕ) → with_bytes p (a ++ b) ≡ with_bytes (with_bytes p a) b
unfolding with_bytes
with_bytes-append p [] b = refl
with_bytes-append p (x ∷ a) b = with_bytes-append (cond (eqb x 47) ([] ∷ p) (with_byte p x)) a b

with_bytes-name : (n : List ℕ) (p : List (List ℕ)) (m : List ℕ) → HasNoSlash m → with_bytes (n ∷ p) m ≡ (n ++ m) ∷ p
unfolding with_bytes with_byte
with_bytes-name n p [] h = ap (λ (l : List ℕ). l ∷ p) (sym (append-nil n))
with_bytes-name n p (b ∷ m) h =
    with_bytes-other (n ∷ p) b m (All-head (λ c. c ≢ 47) b m h)
    ∙ with_bytes-name (n ++ b ∷ []) p m (All-tail (λ c. c ≢ 47) b m h)
    ∙ ap (λ (l : List ℕ). l ∷ p) (append_assoc n (b ∷ []) m)

with_bytes-slash : (p : List (List ℕ)) (m : List ℕ) → HasNoSlash m → with_bytes p (47 ∷ m) ≡ m ∷ p
unfolding with_bytes
with_bytes-slash p m h = with_bytes-name [] p m h

-- a component more
pub components-push : (text name : List ℕ) → HasNoSlash name → components (text ++ 47 ∷ name) ≡ name ∷ components text
unfolding components
components-push text name h = with_bytes-append [] text (47 ∷ name) ∙ with_bytes-slash (with_bytes [] text) name h

pub components-joined : (p : List (List ℕ)) → All HasNoSlash p → components (joined p) ≡ p
unfolding components joined with_bytes
components-joined [] h = refl
components-joined (n ∷ p) h =
    components-push (joined p) n (All-head HasNoSlash n p h) ∙ ap (λ (q : List (List ℕ)). n ∷ q) (components-joined p (All-tail HasNoSlash n p h))

-- the components determine the text in which they stand after slashes
pub joined_same : (p q : List (List ℕ)) → All HasNoSlash p → All HasNoSlash q → joined p ≡ joined q → p ≡ q
joined_same p q h k e = sym (components-joined p h) ∙ ap components e ∙ components-joined q k

-- each text that begins with a slash is the text of its components
joined_with_bytes : (n : List ℕ) (p : List (List ℕ)) (m : List ℕ) → joined (with_bytes (n ∷ p) m) ≡ joined (n ∷ p) ++ m
unfolding with_bytes joined with_byte
joined_with_bytes n p [] = sym (append-nil (joined p ++ 47 ∷ n))
joined_with_bytes n p (b ∷ m) = elim (cases_eq b 47) [
  | inl e ↦ subst (λ (c : ℕ). joined (with_bytes (n ∷ p) (c ∷ m)) ≡ (joined p ++ 47 ∷ n) ++ c ∷ m) (sym e)
      (joined_with_bytes [] (n ∷ p) m ∙ append_assoc (joined p ++ 47 ∷ n) (47 ∷ []) m)
  | inr h ↦ ap joined (with_bytes-other (n ∷ p) b m h) ∙ joined_with_bytes (n ++ b ∷ []) p m
      ∙ append_assoc (joined p) (47 ∷ (n ++ b ∷ [])) m ∙ ap (λ (l : List ℕ). joined p ++ 47 ∷ l) (append_assoc n (b ∷ []) m) ∙ sym (append_assoc (joined p) (47 ∷ n) (b ∷ m))
]

pub joined-components : (text rest : List ℕ) → text ≡ 47 ∷ rest → joined (components text) ≡ text
unfolding components with_bytes joined
joined-components text rest e = subst (λ (t : List ℕ). joined (components t) ≡ t) (sym e) (joined_with_bytes [] [] rest)

no_slash-push : (n : List ℕ) (b : ℕ) → HasNoSlash n → b ≢ 47 → HasNoSlash (n ++ b ∷ [])
no_slash-push n b h k = All-append (λ c. c ≢ 47) n (b ∷ []) h (All-cons (λ c. c ≢ 47) b [] k (All-nil (λ c. c ≢ 47)))

-- no component has a slash
no_slashes : (p : List (List ℕ)) (m : List ℕ) → All HasNoSlash p → All HasNoSlash (with_bytes p m)
unfolding with_bytes with_byte
no_slashes p [] h = h
no_slashes p (b ∷ m) h = elim (cases_eq b 47) [
  | inl e ↦ subst (λ (c : ℕ). All HasNoSlash (with_bytes p (c ∷ m))) (sym e)
      (no_slashes ([] ∷ p) m (All-cons HasNoSlash [] p (All-nil (λ c. c ≢ 47)) h))
  | inr k ↦ subst (All HasNoSlash) (sym (with_bytes-other p b m k)) (no_slashes (with_byte p b) m (with_byte_plain p b h k))
]
  where
    with_byte_plain : (q : List (List ℕ)) (c : ℕ) → All HasNoSlash q → c ≢ 47 → All HasNoSlash (with_byte q c)
    with_byte_plain [] c g k = g
    with_byte_plain (n ∷ q) c g k = All-cons HasNoSlash (n ++ c ∷ []) q (no_slash-push n c (All-head HasNoSlash n q g) k) (All-tail HasNoSlash n q g)

pub no_slashes-components : (text : List ℕ) → All HasNoSlash (components text)
unfolding components
no_slashes-components text = no_slashes [] text (All-nil HasNoSlash)

-- a text of components begins with a slash
pub joined_begins : (n : List ℕ) (p : List (List ℕ)) → (rest : List ℕ) × (joined (n ∷ p) ≡ 47 ∷ rest)
unfolding joined
joined_begins n [] = (n, refl)
joined_begins n (m ∷ p) = let h = joined_begins m p in (h.0 ++ 47 ∷ n, ap (λ (l : List ℕ). l ++ 47 ∷ n) h.1)

-- what is read after a slash leaves the components that were read before it
with_bytes_grows : (n : List ℕ) (p : List (List ℕ)) (m : List ℕ) → (ks : List (List ℕ)) × (k : List ℕ) × (with_bytes (n ∷ p) m ≡ ks ++ k ∷ p)
unfolding with_bytes with_byte
with_bytes_grows n p [] = ([], n, refl)
with_bytes_grows n p (b ∷ m) = elim (cases_eq b 47) [
  | inl e ↦ let g = with_bytes_grows [] (n ∷ p) m in
      (g.0 ++ g.1 ∷ [], n, ap (λ (c : ℕ). with_bytes (n ∷ p) (c ∷ m)) e ∙ g.2 ∙ sym (append_assoc g.0 (g.1 ∷ []) (n ∷ p)))
  | inr h ↦ let g = with_bytes_grows (n ++ b ∷ []) p m in (g.0, g.1, with_bytes-other (n ∷ p) b m h ∙ g.2)
]

pub components_grow : (p : List (List ℕ)) (rest : List ℕ) → All HasNoSlash p → (ks : List (List ℕ)) × (k : List ℕ) × (components (joined p ++ 47 ∷ rest) ≡ ks ++ k ∷ p)
unfolding components with_bytes
components_grow p rest h =
    let g = with_bytes_grows [] p rest in
    (g.0, g.1, with_bytes-append [] (joined p) (47 ∷ rest) ∙ ap (λ (q : List (List ℕ)). with_bytes q (47 ∷ rest)) (components-joined p h) ∙ g.2)
