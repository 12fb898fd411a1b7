-- Parts of printed lines.
use Rattle.std.specs.Prelude.{ℕ, List, [], ◌∷◌, ◌++◌}

-- a word and a value in a line
unfoldable pub field : List ℕ → List ℕ → List ℕ
field word text = word ++ text

unfoldable pub line_feed : List ℕ
line_feed = 10 ∷ []
