-- The list of items that a client's bytes spell.
use Rattle.std.specs.Prelude.{◌≡◌, ℕ, ◌≤◌, List, [], ◌∷◌, ◌++◌, length, Bool, true, false}
use Rattle.jute_core.specs.Frames.{frame}
use Rattle.zk_messages.specs.Items.{IsItem}
use Rattle.zk_messages.specs.declared.request.Item.{Item}

-- the most bytes of a client's frame: this project's limit, four megabytes less one byte
abbrev pub client_limit : ℕ
client_limit = 4194303

-- one frame with this item, and then more bytes
pub record BeginsWith (first : Bool) (item : Item) (more bytes : List ℕ) : Type 0 where
  pub body : List ℕ
  pub short : length body ≤ client_limit
  pub spelled : IsItem first item body
  pub cut : bytes ≡ frame body ++ more

-- these items, a frame each, and then a rest; the first frame of a connection is another kind of item than the others
unfoldable pub Items : Bool → List Item → List ℕ → List ℕ → Type 0
Items first [] rest bytes = bytes ≡ rest
Items first (item ∷ items) rest bytes = (more : List ℕ) × BeginsWith first item more bytes × Items false items rest more

-- whether a frame after these items is the first one
abbrev pub is_first : List Item → Bool
is_first [] = true
is_first (item ∷ items) = false

-- the rest begins with no further item: with a frame that is cut short, too long or no spelling, or with none
abbrev pub IsEnd : Bool → List ℕ → Type 0
IsEnd first rest = (item : Item) (more : List ℕ) → BeginsWith first item more rest → ⊥

-- the items that the bytes spell, up to the first frame that is none
pub record Sent (bytes : List ℕ) (items : List Item) : Type 0 where
  pub rest : List ℕ
  pub spelled : Items true items rest bytes
  pub ended : IsEnd (is_first items) rest

-- bytes that begin with no whole frame within the limit
unfoldable pub HasNoFrame : List ℕ → Type 0
HasNoFrame bytes = (body more : List ℕ) → length body ≤ client_limit → bytes ≡ frame body ++ more → ⊥
