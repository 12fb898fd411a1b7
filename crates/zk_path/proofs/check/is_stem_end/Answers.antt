use Rattle.std.proofs.Common.{ℕ, Bool, true, false, not, List, Any, ◌↔◌, IsTrue, refl, subst, get_or}
use Rattle.std.proofs.lemmas.Bool.{false≢true}
use Rattle.std.specs.Str.{IsUtf8, chars}
use Rattle.zk_path.specs.Paths.{IsForbidden, HasNoSlash, IsStemEnd}
use Rattle.zk_path.specs.WithDigits.{stem_end, stem_end_allowed}
use Rattle.zk_path.proofs.Elements.{get_or_itself}
use Rattle.zk_path.proofs.check.is_stem_end.Goals as goal

judged : (r : Bool) (n : List ℕ) → IsUtf8 n → HasNoSlash n → IsTrue r ↔ Any IsForbidden (chars n) → IsTrue (not r) ↔ IsStemEnd n
judged true n u plain h =
    let found = h.0 refl in
    (λ e. absurd (false≢true e), λ end. absurd (subst (λ (c : ℕ). IsForbidden c → ⊥) found.3 (stem_end_allowed n end found.0 found.1 found.2) found.4))
judged false n u plain h =
    (λ _. stem_end n u plain (λ k d lt f. false≢true (h.1 (k, get_or (chars n) k d, lt, get_or_itself (chars n) k d, f))), λ _. refl)

pub returns : goal.returns
returns c = judged _ c.args.name.now c.utf8.name c.requires c.has_forbidden.ensures
