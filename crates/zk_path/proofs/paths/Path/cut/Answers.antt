use Rattle.std.proofs.Common.{◌≡◌, ℕ, ◌<◌, List, [], ◌∷◌, ◌++◌, length, get_or, Option, Some, None, MatchOption, Bor, ◌≢◌, subst, arith}
use Rattle.zk_path.specs.Paths.{HasNoSlash, joined}
use Rattle.zk_path.specs.View.{components, IsCut}
use Rattle.zk_path.proofs.Cuts.{rsplit_parts}
use Rattle.zk_path.proofs.Values.{cut_at, no_cut}
use Rattle.zk_path.proofs.paths.Path.cut.Goals as goal

cut_of : (text : List ℕ) (r : Option (Bor (List ℕ) × Bor (List ℕ))) → joined (components text) ≡ text → MatchOption r ((i : ℕ) → i < length text → get_or text i 0 ≢ 47) (λ x. (text ≡ x.0.now ++ 47 ∷ x.1.now) × HasNoSlash x.1.now) → MatchOption r (components text ≡ []) (λ x. IsCut (components text) x.0.now x.1.now)
cut_of text None e h = no_cut text e h
cut_of text (Some x) e h = cut_at text x.0.now x.1.now e h.1 h.0

pub returns : goal.returns
returns c =
    let parts = rsplit_parts 47 c.deref.result.now c.rsplit_once.result c.rsplit_once.ensures.cases (omega arith) in
    rw (← c.self.view_is) (cut_of _ c.rsplit_once.result c.self.invariant (subst (λ (t : List ℕ). MatchOption c.rsplit_once.result ((i : ℕ) → i < length t → get_or t i 0 ≢ 47) (λ x. (t ≡ x.0.now ++ 47 ∷ x.1.now) × HasNoSlash x.1.now)) c.deref.ensures parts))
