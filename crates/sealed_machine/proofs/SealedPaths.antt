-- Paths and their sealed forms: two are one exactly where the others are.
use Rattle.std.proofs.Common.{◌≡◌, ℕ, List, [], ◌∷◌, None, refl, sym, ap, subst, ◌∙◌}
use Rattle.std.proofs.lemmas.List.Elements.{All-nil, All-cons, All-head, All-tail}
use Rattle.zk_path.specs.Paths.{IsComponent, IsPath}
use Rattle.path_seal.specs.Sealed.{Keys, AreKeys, SealName, sealed}
use Rattle.tree_state.specs.Nodes.{Path, same_path, above, name_under}
use Rattle.tree_state.proofs.SamePaths.{same_path-true, same_path-from}
use Rattle.sealed_machine.specs.Seals.{Seals, SealsName}
use Rattle.sealed_machine.proofs.SealedNames.{sealed_root, sealed_child, one_path}
use Rattle.store_side.proofs.Zipping.{Both, tests_agree, both_cond, both_none}

-- sealed paths are equal exactly where the paths are
pub seals_agree : (k : Keys) → AreKeys k → (p p' q q' : Path) → Seals k p q → Seals k p' q' → same_path p p' ≡ same_path q q'
seals_agree k w p p' q q' a b =
    tests_agree (same_path p p') (same_path q q')
    (λ t. same_path-from q q' (a.is ∙ ap (sealed k) (same_path-true p p' t) ∙ sym b.is))
    (λ t. same_path-from p p' (one_path k w p p' a.legal b.legal (sym a.is ∙ same_path-true q q' t ∙ b.is)))

-- the parent of a sealed path is the sealed parent
pub above_seals : (k : Keys) (p q : Path) → Seals k p q → Seals k (above p) (above q)
unfolding above
above_seals k [] q h = record { legal = h.legal; is = ap above (h.is ∙ sealed_root k) ∙ sym (sealed_root k) }
above_seals k (n ∷ p) q h = record { legal = All-tail IsComponent n p h.legal; is = ap above (h.is ∙ sealed_child k p n) }

-- a child of a sealed path
pub child_seals : (k : Keys) (p q : Path) (n m : List ℕ) → Seals k p q → SealsName k p n m → Seals k (n ∷ p) (m ∷ q)
child_seals k p q n m s h = record { legal = All-cons IsComponent n p h.legal s.legal; is = (λ i. h.is i ∷ s.is i) ∙ sym (sealed_child k p n) }

-- the root is sealed to itself
pub root_seals : (k : Keys) → Seals k [] []
root_seals k = record { legal = All-nil IsComponent; is = sym (sealed_root k) }

-- a path stands under another where its sealed form does, and its last name is sealed there
pub under : (k : Keys) → AreKeys k → (p q r o : Path) → Seals k p q → Seals k r o → Both (SealsName k p) (name_under p r) (name_under q o)
unfolding name_under
under k w p q [] o s h = subst (λ (x : Path). Both (SealsName k p) None (name_under q x)) (sym (h.is ∙ sealed_root k)) (both_none (SealsName k p))
under k w p q (n ∷ r) o s h =
    let tail : IsPath r = All-tail IsComponent n r h.legal in
    let up : Seals k r (sealed k r) = record { legal = tail; is = refl } in
    subst (λ (x : Path). Both (SealsName k p) (name_under p (n ∷ r)) (name_under q x)) (sym (h.is ∙ sealed_child k r n))
    (both_cond (SealsName k p) (same_path p r) (same_path q (sealed k r)) n (SealName k r n) None None (seals_agree k w p r q (sealed k r) s up)
    (λ t. record { legal = All-head IsComponent n r h.legal; is = ap (λ (x : Path). SealName k x n) (sym (same_path-true p r t)) }) (both_none (SealsName k p)))

-- one path for each sealed one
pub seals_one : (k : Keys) (p q r : Path) → Seals k p q → Seals k p r → q ≡ r
seals_one k p q r a b = a.is ∙ sym b.is
