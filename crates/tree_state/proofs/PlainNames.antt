-- The plain names are a naming.
use Rattle.std.proofs.Common.{ℕ, List, ◌∷◌, sym, append_assoc}
use Rattle.zk_path.specs.Paths.{IsStem, joined, text_of}
use Rattle.zk_path.specs.Numbers.{IsPlainName, ten_digits}
use Rattle.tree_state.specs.Nodes.{Path}
use Rattle.tree_state.specs.Laws.{HasPlainNames}
use Rattle.tree_state.specs.Plain.{plain}
use Rattle.tree_state.specs.Trees.{IsNameOf}

-- digits behind a stem's last component are digits behind its text
plain_name : (n : List ℕ) (p : Path) (i : ℕ) → IsStem (n ∷ p) → IsNameOf (IsPlainName (joined (n ∷ p)) i) p (plain p n i)
unfolding IsNameOf plain text_of joined
plain_name n p i stem = sym (append_assoc (joined p) (47 ∷ n) (ten_digits i))

pub plain_names : HasPlainNames
plain_names = record { each = plain_name }
