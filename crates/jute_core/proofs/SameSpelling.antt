-- A value of a type has one spelling.
use Rattle.std.proofs.Common.{◌≡◌, ℕ, true, false, List, [], ◌∷◌, ◌++◌, Some, None, sym, ap, ◌∙◌}
use Rattle.jute_core.specs.Jute.{Jute, Value, int, long, boolean, buffer, ustring, count, pair, vector, IsSized, Each, Spells}

sized_same : (v a b : List ℕ) → IsSized v a → IsSized v b → a ≡ b
sized_same v a b p q = p.2 ∙ ap (λ (l : List ℕ). l ++ v) (p.1.1 ∙ sym q.1.1) ∙ sym q.2

pub each_same : {V : Type 0} (R : V → List ℕ → Type 0) → ((v : V) (a b : List ℕ) → R v a → R v b → a ≡ b) → (vs : List V) (a b : List ℕ) → Each R vs a → Each R vs b → a ≡ b
each_same R one [] a b p q = p ∙ sym q
each_same R one (v ∷ vs) a b p q = p.4 ∙ ap (λ (l : List ℕ). l ++ p.1) (one v p.0 q.0 p.2 q.2) ∙ ap (λ (l : List ℕ). q.0 ++ l) (each_same R one vs p.1 q.1 p.3 q.3) ∙ sym q.4

pub same_bytes : (t : Jute) (v : Value t) (a b : List ℕ) → Spells t v a → Spells t v b → a ≡ b
unfolding Spells
same_bytes int v a b p q = p.1 ∙ sym q.1
same_bytes long v a b p q = p.1 ∙ sym q.1
same_bytes boolean true a b p q = p ∙ sym q
same_bytes boolean false a b p q = p ∙ sym q
same_bytes buffer None a b p q = p ∙ sym q
same_bytes buffer (Some v) a b p q = sized_same v a b p q
same_bytes ustring v a b p q = sized_same v a b p.0 q.0
same_bytes count None a b p q = p ∙ sym q
same_bytes count (Some n) a b p q = p.1 ∙ sym q.1
same_bytes (pair s t) v a b p q = p.4 ∙ ap (λ (l : List ℕ). l ++ p.1) (same_bytes s v.0 p.0 q.0 p.2 q.2) ∙ ap (λ (l : List ℕ). q.0 ++ l) (same_bytes t v.1 p.1 q.1 p.3 q.3) ∙ sym q.4
same_bytes (vector t) None a b p q = p ∙ sym q
same_bytes (vector t) (Some vs) a b p q = p.4 ∙ ap (λ (l : List ℕ). l ++ p.1) (p.2.1 ∙ sym q.2.1) ∙ ap (λ (l : List ℕ). q.0 ++ l) (each_same (Spells t) (same_bytes t) vs p.1 q.1 p.3 q.3) ∙ sym q.4
