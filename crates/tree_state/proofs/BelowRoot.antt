-- A node that a request may change is not the root.
use Rattle.std.proofs.Common.{◌≡◌, ℕ, List, [], ◌∷◌, None, refl}
use Rattle.zk_path.specs.Paths.{text_of, IsTextOf}
use Rattle.zk_messages.specs.Refuses.{RefusesNode, IsRootText}
use Rattle.zk_messages.proofs.Allowed.{not_root}
use Rattle.tree_state.specs.Nodes.{Path}

under : (text : List ℕ) (p : Path) → IsTextOf text p → (IsRootText text → ⊥) → (n : List ℕ) × (q : Path) × (p ≡ n ∷ q)
unfolding text_of
under text [] t n = absurd (n t.spelled)
under text (m ∷ q) t n = (m, q, refl)

pub below_root : (text : List ℕ) (p : Path) → IsTextOf text p → RefusesNode text None → (n : List ℕ) × (q : Path) × (p ≡ n ∷ q)
below_root text p t f = under text p t (not_root text f)
