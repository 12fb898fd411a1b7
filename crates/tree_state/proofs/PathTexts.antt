-- A path is read back from its text.
use Rattle.std.proofs.Common.{◌≡◌, ℕ, Bool, false, cond, List, [], ◌∷◌, codes, bytes_eq, inl, inr, refl, sym, ap, subst, ◌∙◌}
use Rattle.std.proofs.lemmas.Bool.{cases_Bool}
use Rattle.std.proofs.lemmas.List.Elements.{All-nil, All-tail}
use Rattle.std.proofs.lemmas.Slice.Eq.{bytes_eq-Decides}
use Rattle.zk_path.specs.Paths.{IsComponent, IsPath, joined, text_of, IsTextOf}
use Rattle.zk_path.specs.View.{components}
use Rattle.zk_path.proofs.Components.{components-joined}
use Rattle.zk_path.proofs.Judged.{one_text, plain}
use Rattle.tree_state.specs.Nodes.{Path}
use Rattle.tree_state.specs.Places.{path_of}

not_root : (n : List ℕ) (p : Path) → IsPath (n ∷ p) → bytes_eq (text_of (n ∷ p)) (codes "/") ≡ false
unfolding text_of
not_root n p h = elim (cases_Bool (bytes_eq (text_of (n ∷ p)) (codes "/"))) [
  | inl k ↦ let e = one_text (n ∷ p) [] h (All-nil IsComponent) ((bytes_eq-Decides (text_of (n ∷ p)) (codes "/")).0 k) in absurd cc
  | inr k ↦ k
]

pub path_of-text_of : (p : Path) → IsPath p → path_of (text_of p) ≡ p
unfolding text_of path_of
path_of-text_of [] h = refl
path_of-text_of (n ∷ p) h =
    ap (λ (b : Bool). cond b [] (components (joined (n ∷ p)))) (not_root n p h) ∙ components-joined (n ∷ p) (plain (n ∷ p) h)

pub path_of-IsTextOf : (text : List ℕ) (p : Path) → IsTextOf text p → path_of text ≡ p
path_of-IsTextOf text p h = ap path_of h.spelled ∙ path_of-text_of p h.legal

-- a text is one path's
pub one_path : (text : List ℕ) (p q : Path) → IsTextOf text p → IsTextOf text q → p ≡ q
one_path text p q h k = one_text p q h.legal k.legal (sym h.spelled ∙ k.spelled)

-- the key with a path's text is that path's
pub IsTextOf-path_of : (text : List ℕ) (p : Path) → IsTextOf text p → IsTextOf text (path_of text)
IsTextOf-path_of text p h = subst (λ (q : Path). IsTextOf text q) (sym (path_of-IsTextOf text p h)) h

pub legal_above : (n : List ℕ) (p : Path) → IsPath (n ∷ p) → IsPath p
legal_above n p h = All-tail IsComponent n p h
