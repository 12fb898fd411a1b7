-- What follows for all bytes that the feeds of a framer took.
use Rattle.std.specs.Prelude.{◌≡◌, ℕ, ℤ, List, [], ◌∷◌, ◌++◌, take}
use Rattle.std.specs.List.{flat_map, All}
use Rattle.jute_core.specs.Frames.{frame, FitsFrame, IsRest, Stream}
use Rattle.zk_frame.specs.Framing.{Framing, IsWhole, IsTooLong, Feeds, Takes}

-- the frames taken so far, and the bytes held, are all bytes fed
pub record Framed (bodies : List (List ℕ)) (held fed : List ℕ) : Type 0 where
  pub whole : fed ≡ flat_map frame bodies ++ held
  pub each : All FitsFrame bodies

-- so it is at the start
abbrev pub StartsFramed : Type 0
StartsFramed = Framed [] [] []

-- and stays so when bytes are fed
abbrev pub FeedKeepsFramed : Type 0
FeedKeepsFramed = (bodies : List (List ℕ)) (fed piece : List ℕ) (n : ℕ) (old new : Framing) → Framed bodies old.held fed → Feeds old new piece n → Framed bodies new.held (fed ++ take n piece)

-- and when a frame is taken
abbrev pub TakeKeepsFramed : Type 0
TakeKeepsFramed = (bodies : List (List ℕ)) (fed body : List ℕ) (old new : Framing) → Framed bodies old.held fed → Takes old new body → Framed (bodies ++ body ∷ []) new.held fed

-- where a take finds none, the frames taken and the bytes held are the stream of all bytes fed
abbrev pub RestIsStream : Type 0
RestIsStream = (bodies : List (List ℕ)) (held fed : List ℕ) → Framed bodies held fed → IsRest held → Stream bodies held fed

-- where one waits, they are with that one, and no rest
abbrev pub WaitingIsStream : Type 0
WaitingIsStream = (bodies : List (List ℕ)) (limit : ℕ) (held fed body : List ℕ) → Framed bodies held fed → IsWhole limit held body → Stream (bodies ++ body ∷ []) [] fed

-- a length that was refused is refused again
abbrev pub TooLongStays : Type 0
TooLongStays = (limit : ℕ) (bytes piece : List ℕ) (z : ℤ) → IsTooLong limit bytes z → IsTooLong limit (take 4 bytes ++ piece) z
