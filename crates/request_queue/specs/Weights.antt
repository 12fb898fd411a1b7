-- What requests weigh that wait for their replies.
use Rattle.std.specs.Prelude.{ℕ, ◌+◌, List, sum_by}
use Rattle.request_queue.specs.declared.pending.Pending.{Pending}

-- its bytes, and 64 for what is kept beside them
abbrev pub weight : Pending → ℕ
weight pending = pending.bytes + 64

abbrev pub weight_of : List Pending → ℕ
weight_of queue = sum_by weight queue

-- the greatest weight of a queue
abbrev pub limit : ℕ
limit = 67108864
