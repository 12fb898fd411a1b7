-- What is kept of a queue whose oldest request is taken out.
use Rattle.std.proofs.Common.{◌≡◌, ℕ, ◌-◌, List, ◌∷◌, ap, arith}
use Rattle.std.specs.Prelude.{sum_by}
use Rattle.std.proofs.lemmas.List.Elements.{All-rest}
use Rattle.std.proofs.lemmas.List.Sums.{sum_by-cons}
use Rattle.request_queue.specs.Asking.{IsAsked}
use Rattle.request_queue.specs.Kept.{IsKept}
use Rattle.request_queue.specs.Weights.{weight}
use Rattle.request_queue.specs.declared.pending.Pending.{Pending}

pub rest_kept : (whole less : ℕ) (first : Pending) (all rest : List Pending)
    → IsKept whole all → all ≡ first ∷ rest → less ≡ weight first → IsKept (whole - less) rest
rest_kept whole less first all rest kept split weighed = record {
  weighed = omega (arith, sum_by-cons weight first rest, ap (sum_by weight) split);
  within = omega arith;
  asked = All-rest (λ pending. IsAsked pending.asked) first rest all split kept.asked;
}
