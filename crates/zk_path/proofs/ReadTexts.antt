-- What reading a text answers.
use Rattle.std.proofs.Common.{◌≡◌, ◌≢◌, ℕ, List, [], ◌∷◌, Some, None, Result, Ok, Err, IsErrAnd, ◌↔◌, sym, ap, subst, ◌∙◌}
use Rattle.zk_path.specs.declared.paths.NotPath.{NotPath}
use Rattle.zk_path.specs.declared.paths.NotPath.TheVariants.{BadPath, Memory}
use Rattle.zk_path.specs.Paths.{IsComponent, IsPath, IsStem, IsPathText, IsStemText, joined, text_of}
use Rattle.std.proofs.lemmas.List.Elements.{All-nil}
use Rattle.zk_path.specs.View.{components}
use Rattle.zk_path.proofs.Judged.{plain, stem_plain}
use Rattle.zk_path.proofs.Values.{is_held, is_seen}

-- a place that the check gave is the answer
pub bad_answer : {T : Type 0} {B : ℕ → Type 0} (a : ℕ) → ((place : ℕ) → (Some a ≡ Some place) ↔ B place) → (place : ℕ) → (◌≡◌ {A = Result T NotPath} (Err (BadPath a)) (Err (BadPath place))) ↔ B place
bad_answer a h place = (λ e. let same : a ≡ place = cc in (h place).0 (ap Some same), λ bad. let same : a ≡ place = let e = (h place).1 bad in cc in ap (λ (k : ℕ). Err (BadPath k)) same)

-- no other answer has a place where the check gave none
pub no_bad_answer : {T : Type 0} {B : ℕ → Type 0} (r : Result T NotPath) → ((place : ℕ) → (None ≡ Some place) ↔ B place) → ((place : ℕ) → r ≡ Err (BadPath place) → ⊥) → (place : ℕ) → (r ≡ Err (BadPath place)) ↔ B place
no_bad_answer r h other place = (λ e. absurd (other place e), λ bad. absurd (let e = (h place).1 bad in cc))

pub memory_is_no_place : {T : Type 0} (r : Result T NotPath) → IsErrAnd r (λ e. e ≡ Memory) → (place : ℕ) → r ≡ Err (BadPath place) → ⊥
memory_is_no_place (Ok x) h place e = h
memory_is_no_place (Err x) h place e = let same : x ≡ BadPath place = cc in cc

pub ok_is_no_place : {T : Type 0} (x : T) (place : ℕ) → ◌≡◌ {A = Result T NotPath} (Ok x) (Err (BadPath place)) → ⊥
ok_is_no_place x place e = cc

-- what is kept of a legal text
pub path_kept : (text held : List ℕ) → IsPathText text → text ≢ 47 ∷ [] → held ≡ text → (joined (components held) ≡ held) × (IsPath (components held) × (text ≡ text_of (components held)))
unfolding text_of
path_kept text held ([], h, e) other same = absurd (other e)
path_kept text held (n ∷ p, h, e) other same =
    let seen = is_seen held (n ∷ p) (plain (n ∷ p) h) (same ∙ e) in
    (is_held held (n ∷ p) (plain (n ∷ p) h) (same ∙ e), (subst IsPath (sym seen) h, e ∙ ap text_of (sym seen)))

pub stem_kept : (text held : List ℕ) → IsStemText text → held ≡ text → (joined (components held) ≡ held) × (IsStem (components held) × (text ≡ joined (components held)))
stem_kept text held (s, h, e) same =
    let seen = is_seen held s (stem_plain s h) (same ∙ e) in
    (is_held held s (stem_plain s h) (same ∙ e), (subst IsStem (sym seen) h, e ∙ ap joined (sym seen)))

pub root_kept : (text : List ℕ) (p : List (List ℕ)) → p ≡ [] → text ≡ 47 ∷ [] → IsPath p × (text ≡ text_of p)
unfolding text_of
root_kept text p none e = (subst IsPath (sym none) (All-nil IsComponent), e ∙ ap text_of (sym none))
