-- What was asked, where each path under which names are opened has a text of at most 2 ^ 27 bytes. Frames are far shorter.
use Rattle.std.specs.Prelude.{◌≤◌, ◌<◌, ◌^◌, ℕ, List, length}
use Rattle.zk_path.specs.Paths.{text_of}
use Rattle.request_queue.specs.declared.asked.Asked.{Asked}
use Rattle.request_queue.specs.declared.asked.Asked.TheVariants as asks

-- the text of a path
abbrev pub IsShortPath : List (List ℕ) → Type 0
IsShortPath path = length (text_of path) ≤ 2 ^ 27

-- a path under which names are opened has a short text, and a multi few operations
unfoldable pub HasShortPath : Asked → Type 0
HasShortPath (asks.Children path) = IsShortPath path
HasShortPath (asks.Children2 path) = IsShortPath path
HasShortPath (asks.Multi ops) = length ops < 2 ^ 32
HasShortPath asked = Unit {0}
