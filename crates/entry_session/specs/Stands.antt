-- Where a session stands.
use Rattle.std.specs.Prelude.{ℕ, ◌+◌, List, [], drop, max, sum_by, Option, Some, None}
use Rattle.zk_messages.specs.declared.request.Item.{Item}
use Rattle.reply_rewrite.specs.declared.finding.Finding.{Finding}
use Rattle.entry_session.specs.declared.ending.Ending.{Ending}

pub record Stand : Type 0 where
  -- what the client sent and was handed up: its connect request, item 0, and the requests after it
  pub items : List Item
  -- the bytes of their bodies
  pub sizes : List ℕ
  -- how many of them the store has answered
  pub answered : ℕ
  -- how many payloads were sealed
  pub sealed : ℕ
  -- the bodies of the frames that were handed up and down
  pub up : List (List ℕ)
  pub down : List (List ℕ)
  pub findings : List Finding
  pub ending : Option Ending

-- before anything is heard
abbrev pub fresh : Stand
fresh = record { items = []; sizes = []; answered = 0; sealed = 0; up = []; down = []; findings = []; ending = None }

abbrev pub ends : Stand → Ending → Stand
ends s e = record s { ending = Some e }

-- a request that waits for its reply weighs its bytes, and 64 for what is kept beside them
abbrev pub weight_of : ℕ → ℕ
weight_of size = size + 64

-- what all of them weigh; the connect request is none of them
abbrev pub weight : Stand → ℕ
weight s = sum_by weight_of (drop (max s.answered 1) s.sizes)
