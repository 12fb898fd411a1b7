-- What a session hears: the whole frames of both sides, in the order in which their last bytes came.
use Rattle.std.specs.Prelude.{ℕ, ℤ, List, [], ◌∷◌, ◌++◌, Option, Some, None}
use Rattle.entry_session.specs.declared.ending.Ending.{Ending}

-- A whole frame of a side, as its body; a length prefix that no frame of the side may have, where the frames of that side end; or
-- an ending that the caller gave.
pub data Heard : Type 0 where
  from_client : List ℕ → Heard
  from_store : List ℕ → Heard
  bad_client : ℤ → Heard
  bad_store : ℤ → Heard
  given : Ending → Heard

-- Lists of what was heard have the last first. These are the bodies of one side's frames, in the order in which they came.

unfoldable pub client_frames : List Heard → List (List ℕ)
client_frames [] = []
client_frames (from_client body ∷ hs) = client_frames hs ++ body ∷ []
client_frames (from_store body ∷ hs) = client_frames hs
client_frames (bad_client z ∷ hs) = client_frames hs
client_frames (bad_store z ∷ hs) = client_frames hs
client_frames (given e ∷ hs) = client_frames hs

unfoldable pub store_frames : List Heard → List (List ℕ)
store_frames [] = []
store_frames (from_client body ∷ hs) = store_frames hs
store_frames (from_store body ∷ hs) = store_frames hs ++ body ∷ []
store_frames (bad_client z ∷ hs) = store_frames hs
store_frames (bad_store z ∷ hs) = store_frames hs
store_frames (given e ∷ hs) = store_frames hs

-- the bad length that was heard of one side, if there is one: nothing is heard after it

unfoldable pub bad_of_client : List Heard → Option ℤ
bad_of_client (bad_client z ∷ hs) = Some z
bad_of_client hs = None

unfoldable pub bad_of_store : List Heard → Option ℤ
bad_of_store (bad_store z ∷ hs) = Some z
bad_of_store hs = None
