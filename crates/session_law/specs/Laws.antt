-- What stays while a store goes on, so that a premise of the law can be kept step by step.
use Rattle.std.specs.Prelude.{◌≤◌, ℕ, List, ◌++◌, length}
use Rattle.entry_session.specs.Heard.{Heard, store_frames}
use Rattle.session_law.specs.Law.{AreBehind}

-- frames of the store that came after what it had taken did so, whatever the store takes and sends later
abbrev pub StaysBehind : Type 0
StaysBehind = (counts more : List ℕ) (hs : List Heard) → length (store_frames hs) ≤ length counts → AreBehind counts hs → AreBehind (counts ++ more) hs
