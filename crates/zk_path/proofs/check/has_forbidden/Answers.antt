use Rattle.std.proofs.Common.{ℕ, ◌<◌, Bool, true, false, List, length, get_or, MatchBool, HoldsAt, Any, rules, tests, ◌↔◌, IsTrue, refl, sym, subst, arith}
use Rattle.std.specs.List.{AllWithin}
use Rattle.std.proofs.lemmas.Bool.{false≢true}
use Rattle.std.proofs.lemmas.Iterator.{cases_from_any, YieldsList-from_chars}
use Rattle.zk_path.specs.Paths.{IsForbidden}
use Rattle.zk_path.proofs.Elements.{get_or_itself}
use Rattle.zk_path.proofs.check.has_forbidden.Goals as goal

any_from_cases : (P : ℕ → Type 0) (r : Bool) (xs : List ℕ) → MatchBool r ((k : ℕ) × (k < length xs) × HoldsAt P xs k) (AllWithin (λ x. P x → ⊥) xs 0 (length xs)) → IsTrue r ↔ Any P xs
any_from_cases P true xs (k, lt, at) = (λ _. (k, get_or xs k 0, lt, get_or_itself xs k 0, at 0), λ _. refl)
any_from_cases P false xs none = (λ e. absurd (false≢true e), λ any. absurd (none any.0 any.1 (omega arith) any.2 (subst P (sym any.3) any.4)))

pub returns : goal.returns
returns c =
    any_from_cases IsForbidden _ _ (cases_from_any _ _ _ IsForbidden (λ x. IsForbidden x → ⊥) c.any.ensures.ran (YieldsList-from_chars c.args.name.now c.utf8.name cc) (λ x q k. search (rules, tests)) (λ x q k. search (rules, tests)))
