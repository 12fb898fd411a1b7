-- What a queue keeps of its requests.
use Rattle.std.specs.Prelude.{◌≡◌, ℕ, ◌≤◌, List, All}
use Rattle.request_queue.specs.Asking.{IsAsked}
use Rattle.request_queue.specs.Weights.{limit, weight_of}
use Rattle.request_queue.specs.declared.pending.Pending.{Pending}

pub record IsKept (weight : ℕ) (queue : List Pending) : Type 0 where
  pub weighed : weight ≡ weight_of queue
  pub within : weight ≤ limit
  pub asked : All (λ pending. IsAsked pending.asked) queue
