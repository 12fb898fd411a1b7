-- What a clause says of a pass and of a hall.
use Rattle.std.specs.Prelude.{◌≡◌, ℕ, List, [], ◌∷◌, Result}
use Rattle.atomic_table.specs.Seated.{TableId}
use Rattle.store_side.specs.declared.ending.StoreEnding.{StoreEnding}
use Rattle.tree_hall.specs.declared.act.Act.{Act}
use Rattle.tree_hall.specs.declared.act.Answer.{Answer}
use Rattle.tree_hall.specs.declared.view.Item.{Item}
use Rattle.tree_hall.specs.declared.view.View.{View}
use Rattle.tree_hall.specs.declared.view.Role.TheVariants.{Idle}
use Rattle.tree_hall.specs.declared.pass.Pass.{Pass}
use Rattle.tree_hall.specs.Histories.{calls_by, item}
use Rattle.tree_hall.specs.Turns.{nobody}

abbrev pub view_in : List View → View
view_in [] = nobody
view_in (v ∷ vs) = v

abbrev pub view_of : Pass → View
view_of p = view_in p.badge.views

abbrev pub number_of : Pass → ℕ
number_of p = (view_of p).number

-- the history that the pass has seen
abbrev pub seen_by : Pass → List Item
seen_by p = (view_of p).seen

-- its own calls
abbrev pub calls_of : Pass → List Item
calls_of p = (view_of p).mine

-- the pass is one of the hall with this table, and is in no call
abbrev pub IsPassOf : TableId → Pass → Type 0
IsPassOf table p = (p.badge.table_id ≡ table) × (p.badge.views ≡ view_of p ∷ []) × ((view_of p).role ≡ Idle)

-- the call of this pass
abbrev pub call_of : Pass → Act → Result Answer StoreEnding → Item
call_of p act result = item (number_of p) act result

-- a history of which these are all calls, each caller's in its order
abbrev pub IsWhole : List Item → List Item → Type 0
IsWhole history calls = (by : ℕ) → calls_by by calls ≡ calls_by by history
