-- What follows a header is spelled in one way, and read or refused.
use Rattle.std.proofs.Common.{◌≡◌, ◌⊎◌, ℕ, List, [], ◌++◌, length, refl, sym, ap, ◌∙◌, inl, inr, arith}
use Rattle.std.proofs.lemmas.List.{append-nil}
use Rattle.jute_core.specs.declared.cursor.Reason.{Reason}
use Rattle.jute_core.proofs.OneSpelling.{one_spelling}
use Rattle.jute_core.proofs.ReadOrRefused.{read_or_refused}
use Rattle.zk_messages.specs.Forms.{Form, FormValue, fields, nothing, operations, results, unread, SpellsForm, RefusedFront, IsFollowed, RefusedForm}
use Rattle.zk_messages.proofs.OneMulti.{ops_apart, ops_same, ops_read, results_apart, results_same, results_read}
use Rattle.jute_core.proofs.SameSpelling.{same_bytes}

-- whether the form is read
abbrev pub IsRead : Form → Type 0
IsRead unread = ⊥
IsRead f = Unit {0}

pub form_apart : (f : Form) → IsRead f → (v w : FormValue f) (a b x y : List ℕ) → SpellsForm f v a → SpellsForm f w b → a ++ x ≡ b ++ y → (v ≡ w) × (a ≡ b) × (x ≡ y)
unfolding SpellsForm
form_apart (fields t) is v w a b x y p q e = one_spelling t v w a b x y p q e
form_apart nothing is v w a b x y p q e = (refl, p ∙ sym q, ap (λ (l : List ℕ). l ++ x) (sym p) ∙ e ∙ ap (λ (l : List ℕ). l ++ y) q)
form_apart operations is v w a b x y p q e = ops_apart v w a b x y p q e
form_apart results is v w a b x y p q e = results_apart v w a b x y p q e
form_apart unread is v w a b x y p q e = absurd is

-- all of the bytes
pub form_one : (f : Form) (v w : FormValue f) (b : List ℕ) → SpellsForm f v b → SpellsForm f w b → v ≡ w
unfolding SpellsForm
form_one unread v w b p q = sym p ∙ q
form_one (fields t) v w b p q = (form_apart (fields t) tt v w b b [] [] p q refl).0
form_one nothing v w b p q = refl
form_one operations v w b p q = (form_apart operations tt v w b b [] [] p q refl).0
form_one results v w b p q = (form_apart results tt v w b b [] [] p q refl).0

pub form_same : (f : Form) (v : FormValue f) (a b : List ℕ) → SpellsForm f v a → SpellsForm f v b → a ≡ b
unfolding SpellsForm
form_same (fields t) v a b p q = same_bytes t v a b p q
form_same nothing v a b p q = p ∙ sym q
form_same operations v a b p q = ops_same v a b p q
form_same results v a b p q = results_same v a b p q
form_same unread v a b p q = p ∙ sym q

pub front_read : (f : Form) (v : FormValue f) (at : ℕ) (b x y : List ℕ) (place : ℕ) (reason : Reason) → SpellsForm f v b → x ≡ b ++ y → RefusedFront f at x place reason → ⊥
unfolding SpellsForm
front_read (fields t) v at b x y place reason p e h = read_or_refused t v at b x y place reason p e h
front_read nothing v at b x y place reason p e h = h
front_read operations v at b x y place reason p e h = ops_read v at b x y place reason p e h
front_read results v at b x y place reason p e h = results_read v at b x y place reason p e h
front_read unread v at b x y place reason p e h = h

not_followed : (f : Form) → IsRead f → (v : FormValue f) (at : ℕ) (b : List ℕ) (place : ℕ) (reason : Reason) → SpellsForm f v b → IsFollowed f at b place reason → ⊥
not_followed f is v at b place reason p h =
    let r = form_apart f is v h.value b h.bytes [] h.more p h.spelled (append-nil b ∙ h.cut) in
    omega (arith, ap length r.2, h.some)

read_not_refused : (f : Form) → IsRead f → (v : FormValue f) (at : ℕ) (b : List ℕ) (place : ℕ) (reason : Reason) → SpellsForm f v b → RefusedFront f at b place reason ⊎ IsFollowed f at b place reason → ⊥
read_not_refused f is v at b place reason p h = elim h [
  | inl front ↦ front_read f v at b b [] place reason p (sym (append-nil b)) front
  | inr more ↦ not_followed f is v at b place reason p more
]

pub form_read : (f : Form) (v : FormValue f) (at : ℕ) (b : List ℕ) (place : ℕ) (reason : Reason) → SpellsForm f v b → RefusedForm f at b place reason → ⊥
unfolding RefusedForm
form_read (fields t) v at b place reason p h = read_not_refused (fields t) tt v at b place reason p h
form_read nothing v at b place reason p h = read_not_refused nothing tt v at b place reason p h
form_read operations v at b place reason p h = read_not_refused operations tt v at b place reason p h
form_read results v at b place reason p h = read_not_refused results tt v at b place reason p h
form_read unread v at b place reason p h = h
