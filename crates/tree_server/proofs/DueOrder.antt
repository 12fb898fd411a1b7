-- The order of the dues, and what a set of them holds after a change.
use Rattle.std.proofs.Common.{◌≡◌, ◌≢◌, ◌⊎◌, ◌↔◌, ℤ, true, false, Contains, Ordering, sym, ap, ◌∙◌, subst, is_eq, inl, inr, ⊎_elim, cond, IsTrue, arith}
use Rattle.std.specs.Cmp.{IsTotalOrder}
use Rattle.std.specs.BTreeMap.{is_at}
use Rattle.std.specs.BTreeSet.{BTreeSet, contains}
use Rattle.std.specs.Ordering.{int_cmp, ordering_then}
use Rattle.std.proofs.lemmas.Bool.{cases_Bool, false≢true}
use Rattle.std.proofs.lemmas.Cmp.{int_cmp_total, on_total, then_total, tied_itself}
use Rattle.std.proofs.lemmas.Grind.{common_steps}
use Rattle.std.proofs.lemmas.Map.Lookups.{CmpEqualImpliesEq, exact_signed, exact_pairs}
use Rattle.std.proofs.lemmas.Map.Views.{btree_set_contains_iff, tells_apart}
use Rattle.tree_server.specs.declared.dues.Due.{Due}

-- by the time, then by the session
abbrev pub by_time : Due → Due → Ordering
by_time x y = ordering_then (int_cmp x.at y.at) (int_cmp x.session y.session)

pub by_time_total : IsTotalOrder by_time
by_time_total = then_total (on_total (λ d. d.at) int_cmp_total) (on_total (λ d. d.session) int_cmp_total)

pub by_time_exact : CmpEqualImpliesEq by_time
by_time_exact x y same = ap (λ (p : ℤ × ℤ). record { at = p.0; session = p.1 }) (exact_pairs int_cmp int_cmp exact_signed exact_signed (x.at, x.session) (y.at, y.session) same)

module _ (s n : BTreeSet Due) (k : Due) where
  itself : is_at (by_time k) k ≡ true
  itself = ap is_eq (tied_itself by_time_total k)

  is_in : (t : BTreeSet Due) (d : Due) → IsTrue (contains by_time t d) ↔ Contains t.keys d
  is_in = btree_set_contains_iff by_time_total by_time_exact

  pub added : ((q : Due) → contains by_time n q ≡ cond (is_at (by_time k) q) true (contains by_time s q)) → (d : Due) → Contains n.keys d ↔ ((d ≡ k) ⊎ Contains s.keys d)
  added h d = (
    λ there. ⊎_elim
        (λ at. inl (sym (tells_apart by_time_exact k d at)))
        (λ off. inr ((is_in s d).0 (rw off at (sym (h d) ∙ (is_in n d).1 there))))
        (cases_Bool (is_at (by_time k) d)),
    λ either. ⊎_elim
        (λ same. subst (Contains n.keys) (sym same) ((is_in n k).0 (h k ∙ rw itself)))
        (λ there. let t = (is_in s d).1 there in (is_in n d).0 (h d ∙ grind (arith, common_steps)))
        either,
  )

  pub removed : ((q : Due) → contains by_time n q ≡ cond (is_at (by_time k) q) false (contains by_time s q)) → (d : Due) → Contains n.keys d ↔ ((d ≢ k) × Contains s.keys d)
  removed h d = (
    λ there. let t = sym (h d) ∙ (is_in n d).1 there in ⊎_elim
        (λ at. absurd (false≢true (rw at at t)))
        (λ off. (λ same. false≢true (sym off ∙ subst (λ x. is_at (by_time k) x ≡ true) (sym same) itself), (is_in s d).0 (rw off at t)))
        (cases_Bool (is_at (by_time k) d)),
    λ both. (is_in n d).0 (h d ∙ ⊎_elim
        (λ at. absurd (both.0 (sym (tells_apart by_time_exact k d at))))
        (λ off. rw off ((is_in s d).1 both.1))
        (cases_Bool (is_at (by_time k) d))),
  )
