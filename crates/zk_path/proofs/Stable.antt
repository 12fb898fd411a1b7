-- What cannot fail to be a legal path or stem is one: it can be decided.
use Rattle.std.proofs.Common.{Bool, true, false, bytes_eq, ◌≡◌, ℕ, List, [], ◌∷◌, refl, sym, ap, subst, ◌∙◌}
use Rattle.std.specs.Prelude.{codes}
use Rattle.std.specs.Bool.{Decides}
use Rattle.std.specs.Str.{IsUtf8, is_utf8}
use Rattle.std.proofs.lemmas.Bool.{false≢true}
use Rattle.std.proofs.lemmas.Str.{IsUtf8-from_is_utf8, is_utf8-from_IsUtf8}
use Rattle.std.proofs.lemmas.Slice.Eq.{bytes_eq-Decides}
use Rattle.zk_path.specs.Paths.{IsComponent, IsPath, IsStem, joined, text_of, IsPathText, IsStemText}
use Rattle.zk_path.specs.View.{components}
use Rattle.zk_path.proofs.Components.{components-joined}
use Rattle.zk_path.proofs.Judged.{plain, stem_plain, root_is_path}

-- it cannot fail to hold
abbrev pub CannotFail : Type 0 → Type 0
CannotFail P = (P → ⊥) → ⊥

pub holds : {P : Type 0} → Dec P → CannotFail P → P
holds {P} (yes p) h = p
holds {P} (no p) h = absurd (h p)

-- what follows from the one cannot fail either
pub carry : {P Q : Type 0} → CannotFail P → (P → Q) → CannotFail Q
carry {P} {Q} h f other = h (λ p. other (f p))

pub dec_of : {P : Type 0} (r : Bool) → Decides r P → Dec P
dec_of {P} true h = yes (h.0 refl)
dec_of {P} false h = no (λ p. false≢true (h.1 p))

dec_true : (r : Bool) → Dec (r ≡ true)
dec_true true = yes refl
dec_true false = no false≢true

pub same_bytes : (xs ys : List ℕ) → CannotFail (xs ≡ ys) → xs ≡ ys
same_bytes xs ys h = holds (dec_of (bytes_eq xs ys) (bytes_eq-Decides xs ys)) h

is_utf8_text : (n : List ℕ) → CannotFail (IsUtf8 n) → IsUtf8 n
is_utf8_text n h = IsUtf8-from_is_utf8 n (holds (dec_true (is_utf8 n)) (carry h (is_utf8-from_IsUtf8 n)))

is_component : (n : List ℕ) → CannotFail (IsComponent n) → IsComponent n
is_component n h = record {
  utf8 = is_utf8_text n (carry h (λ c. c.utf8));
  filled = λ e. h (λ c. c.filled e);
  no_dot = λ e. h (λ c. c.no_dot e);
  no_dots = λ e. h (λ c. c.no_dots e);
  no_slash = λ k d less e. h (λ c. c.no_slash k d less e);
  allowed = λ k d less e. h (λ c. c.allowed k d less e);
}

is_path : (p : List (List ℕ)) → CannotFail (IsPath p) → IsPath p
is_path p h = λ k d less. is_component _ (carry h (λ all. all k d less))

is_stem : (s : List (List ℕ)) → CannotFail (IsStem s) → IsStem s
is_stem [] h = absurd (h (λ s. s))
is_stem (n ∷ p) h = (is_component _ (carry h (λ s. s.0)), is_path p (carry h (λ s. s.1)))

-- a text that is a path's is that of its components
record Parted (text : List ℕ) : Type 0 where
  legal : IsPath (components text)
  spelled : text ≡ text_of (components text)

parted : (text : List ℕ) → (text ≡ codes "/" → ⊥) → IsPathText text → Parted text
unfolding text_of
parted text other ([], h, e) = absurd (other e)
parted text other (n ∷ p, h, e) =
    let same : n ∷ p ≡ components text = sym (ap components e ∙ components-joined (n ∷ p) (plain (n ∷ p) h)) in
    record { legal = subst IsPath same h; spelled = e ∙ ap text_of same }

pub is_path_text : (text : List ℕ) → CannotFail (IsPathText text) → IsPathText text
is_path_text text h = by_root (dec_of (bytes_eq text (codes "/")) (bytes_eq-Decides text (codes "/")))
  where
    by_root : Dec (text ≡ codes "/") → IsPathText text
    by_root (yes e) = root_is_path text e
    by_root (no other) =
        let parts = carry h (parted text other) in
        (components text, is_path _ (carry parts (λ p. p.legal)), same_bytes text _ (carry parts (λ p. p.spelled)))

-- and so a stem's
record StemParted (text : List ℕ) : Type 0 where
  legal : IsStem (components text)
  spelled : text ≡ joined (components text)

stem_parted : (text : List ℕ) → IsStemText text → StemParted text
stem_parted text (s, h, e) =
    let same : s ≡ components text = sym (ap components e ∙ components-joined s (stem_plain s h)) in
    record { legal = subst IsStem same h; spelled = e ∙ ap joined same }

pub is_stem_text : (text : List ℕ) → CannotFail (IsStemText text) → IsStemText text
is_stem_text text h =
    let parts = carry h (stem_parted text) in
    (components text, is_stem _ (carry parts (λ p. p.legal)), same_bytes text _ (carry parts (λ p. p.spelled)))
