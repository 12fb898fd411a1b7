-- What holds between any two steps of the threads, and what each step tells.
-- The words are: the next ticket, the ticket that is served, the number of calls, the next pass number, and how many passes were met.
-- The one slot holds the store. The stage is 0 where it lies there, 1 where the served seat has it, and 2 where its call is told too.
use Rattle.std.specs.Prelude.{◌≡◌, ◌≢◌, ℕ, ◌+◌, ◌<◌, ◌≤◌, Bool, true, false, List, [], ◌∷◌, ◌++◌, length, Result, Option, Some}
use Rattle.store_side.specs.Past.{Past as Went}
use Rattle.store_side.specs.declared.ending.StoreEnding.{StoreEnding}
use mathlib.Core.Option.{some}
use lib.ListN.{get_elem?}
use Rattle.atomic_table.specs.Table.{State, Me, Step, rest}
use Rattle.tree_hall.specs.declared.act.Act.{Act}
use Rattle.tree_hall.specs.declared.act.Answer.{Answer}
use Rattle.tree_hall.specs.declared.view.Item.{Item}
use Rattle.tree_hall.specs.declared.view.View.{View}
use Rattle.tree_hall.specs.declared.view.Desk.{Desk}
use Rattle.tree_hall.specs.declared.view.Role.{Role}
use Rattle.tree_hall.specs.declared.view.Role.TheVariants.{Gone, Idle, Waits, Has, Told, Splits, Meets, Counts, Alone}
use Rattle.tree_hall.specs.Histories.{IsPlayed, LeadsTo, calls_by, StartsWith, item}

-- for how many passes a seat stands
abbrev pub weight : Role → ℕ
weight Gone = 0
weight Idle = 1
weight (Waits t) = 1
weight (Has t) = 1
weight (Told t) = 1
weight (Splits k) = 2
weight (Meets seen) = 2
weight (Counts n) = 1
weight Alone = 1

abbrev pub passes : List View → ℕ
passes [] = 0
passes (v ∷ vs) = weight v.role + passes vs

-- it has a ticket
abbrev pub is_busy : Role → Bool
is_busy (Waits t) = true
is_busy (Has t) = true
is_busy (Told t) = true
is_busy Gone = false
is_busy Idle = false
is_busy (Splits k) = false
is_busy (Meets seen) = false
is_busy (Counts n) = false
is_busy Alone = false

-- what a seat with a ticket knows of the turns
abbrev pub Turn : ℕ → ℕ → ℕ → (ℕ → ℕ) → List Item → ℕ → List Item → Role → Type 0
Turn next serving stage owner log seat seen (Waits t) = (owner t ≡ seat) × (serving ≤ t) × (t < next) × (t ≡ serving → stage ≡ 0)
Turn next serving stage owner log seat seen (Has t) = (owner t ≡ seat) × (t ≡ serving) × (t < next) × (stage ≡ 1) × (seen ≡ log)
Turn next serving stage owner log seat seen (Told t) = (owner t ≡ seat) × (t ≡ serving) × (t < next) × (stage ≡ 2) × (seen ≡ log)
Turn next serving stage owner log seat seen _ = Unit {0}

-- what a seat knows of the passes
abbrev pub Post : ℕ → ℕ → (ℕ → ℕ) → List Item → List View → ℕ → ℕ → Role → Type 0
Post made met holder log views seat number (Splits k) = (holder k ≡ seat) × (k < made) × (k ≢ number) × (calls_by k log ≡ [])
Post made met holder log views seat number (Meets seen) = StartsWith log seen
Post made met holder log views seat number (Counts n) = n ≤ met
Post made met holder log views seat number Alone = (i : ℕ) (u : View) → get_elem? views i ≡ some u → i ≢ seat → weight u.role ≡ 0
Post made met holder log views seat number _ = Unit {0}

-- what a seat that stands for a pass knows of the history: of each number it has all calls or none
pub record Fits (made : ℕ) (holder : ℕ → ℕ) (log : List Item) (seat : ℕ) (v : View) : Type 0 where
  pub seen : StartsWith log v.seen
  pub own : (by : ℕ) → (holder by ≡ seat → calls_by by v.mine ≡ calls_by by log) × (holder by ≢ seat → calls_by by v.mine ≡ [])
  pub number : (holder v.number ≡ seat) × (v.number < made)

-- `stands` says at which pasts a store stands, and `opened` at which the first one stood
module _ {S : Type 0} (stands : S → Went → Type 0) (opened : Went → Type 0) where
  pub record Kept (s : State (Option (Desk S)) View) : Type 0 where
    pub next : ℕ
    pub serving : ℕ
    pub made : ℕ
    pub met : ℕ
    pub stage : ℕ
    pub log : List Item
    pub owner : ℕ → ℕ
    pub holder : ℕ → ℕ
    pub words : s.words ≡ next ∷ serving ∷ length log ∷ made ∷ met ∷ []
    pub deep : length s.homes ≡ 1
    pub ahead : (serving ≤ next) × (next < 18446744073709551616) × (made < 18446744073709551616)
    pub out : stage ≢ 0 → serving < next
    pub rounds : (stage < 2 → length log ≡ serving) × (stage ≡ 2 → length log ≡ serving + 1)
    pub played : IsPlayed opened log
    pub home : stage ≡ 0 → (y : Desk S) × (get_elem? s.homes 0 ≡ some (some (Some y))) × LeadsTo opened log (stands y.store)
    pub away : stage ≢ 0 → (v : View) × (get_elem? s.views (owner serving) ≡ some v) × (is_busy v.role ≡ true)
    pub turn : (j : ℕ) (v : View) → get_elem? s.views j ≡ some v → Turn next serving stage owner log j v.seen v.role
    pub post : (j : ℕ) (v : View) → get_elem? s.views j ≡ some v → Post made met holder log s.views j v.number v.role
    pub fits : (j : ℕ) (v : View) → get_elem? s.views j ≡ some v → 0 < weight v.role → Fits made holder log j v
    pub total : passes s.views + met ≡ made
    pub held : (by : ℕ) → by < made → (v : View) × (get_elem? s.views (holder by) ≡ some v) × (0 < weight v.role)
    pub unused : (by : ℕ) → made ≤ by → calls_by by log ≡ []

abbrev pub starting : View
starting = record { number = 0; role = Idle; seen = []; mine = [] }

abbrev pub posed : View → Role → View
posed v role = record { number = v.number; role = role; seen = v.seen; mine = v.mine }

-- the view with the history so far
abbrev pub shown : View → Role → List Item → View
shown v role log = record { number = v.number; role = role; seen = log; mine = v.mine }

-- the view with one more call of its own, the last one of the history
abbrev pub called : View → Role → Item → View
called v role x = record { number = v.number; role = role; seen = v.seen ++ x ∷ []; mine = v.mine ++ x ∷ [] }

abbrev pub newcomer : View → ℕ → View
newcomer v number = record { number = number; role = Idle; seen = v.seen; mine = [] }

abbrev pub spare_of : Role → ℕ
spare_of (Splits k) = k
spare_of _ = 0

abbrev pub nobody : View
nobody = record { number = 0; role = Gone; seen = []; mine = [] }

-- v has met w
abbrev pub both : View → View → View
both v w = record { number = v.number; role = Meets w.seen; seen = v.seen; mine = v.mine ++ w.mine }

abbrev pub At : Type 0 → Type 0
At S = Step (Option (Desk S))

abbrev pub Sat : Type 0 → Type 0
Sat S = Me (Option (Desk S)) View

module _ {S : Type 0} where
  -- a ticket was drawn, or nothing changed
  abbrev pub drawn : At S → Sat S → ℕ → Sat S → Type 0
  drawn st m found m' = (found ≡ st.first → m' ≡ (posed m.0 (Waits found), m.1)) × (found ≢ st.first → m' ≡ m)

  -- the store was put back, and the next ticket is served
  abbrev pub passed_on : At S → Sat S → ℕ → Sat S → Type 0
  passed_on st m found m' = m' ≡ (posed m.0 Idle, rest m.1)

  -- a number was drawn, or nothing changed
  abbrev pub numbered : At S → Sat S → ℕ → Sat S → Type 0
  numbered st m found m' = (found ≡ st.first → m' ≡ (posed m.0 (Splits found), m.1)) × (found ≢ st.first → m' ≡ m)

  -- how many passes were met
  abbrev pub looked : At S → Sat S → ℕ → Sat S → Type 0
  looked st m found m' = m' ≡ (posed m.0 (Counts found), m.1)

  -- whether one pass alone is left
  abbrev pub compared : At S → Sat S → ℕ → Sat S → Type 0
  compared st m found m' = (n : ℕ) → m.0.role ≡ Counts n
      → (n < found) × (found ≡ n + 1 → m' ≡ (posed m.0 Alone, m.1)) × (found ≢ n + 1 → m' ≡ (posed m.0 Idle, m.1))

-- the call of this desk
abbrev pub item_of : {S : Type 0} → ℕ → Desk S → Item
item_of by y = record { by = by; call = y.call.value }

module _ {S : Type 0} (opened : Went → Type 0) where
  -- the call of this desk stands in the history, which was played
  abbrev pub TellsOf : ℕ → Desk S → Sat S → Sat S → Type 0
  TellsOf t y m m' =
      (m' ≡ (called m.0 (Told t) (item_of m.0.number y), m.1)) × IsPlayed opened (m.0.seen ++ item_of m.0.number y ∷ [])
      × (calls_by m.0.number (m.0.seen ++ item_of m.0.number y ∷ []) ≡ calls_by m.0.number (m.0.mine ++ item_of m.0.number y ∷ []))

  abbrev pub told : At S → Sat S → ℕ → Sat S → Type 0
  told st m found m' = (t : ℕ) (y : Desk S) → m.0.role ≡ Has t → m.1 ≡ (0, Some y) ∷ [] → TellsOf t y m m'

  -- a met pass was counted, and a history was seen that begins with what both had seen
  abbrev pub Rested : List Item → Sat S → Sat S → Type 0
  Rested also m m' =
      (log : List Item) × (m' ≡ (shown m.0 Idle log, m.1)) × StartsWith log m.0.seen × StartsWith log also × IsPlayed opened log
      × (calls_by m.0.number log ≡ calls_by m.0.number m.0.mine)

  abbrev pub counted : At S → Sat S → ℕ → Sat S → Type 0
  counted st m found m' = (also : List Item) → m.0.role ≡ Meets also → Rested also m m'

  -- the call was added to what had been seen, in a history that was played
  abbrev pub Served : Act → Result Answer StoreEnding → Sat S → Sat S → Type 0
  Served act result m m' =
      (m' ≡ (called m.0 Idle (item m.0.number act result), [])) × IsPlayed opened m'.0.seen
      × (calls_by m.0.number m'.0.seen ≡ calls_by m.0.number m'.0.mine)

  -- the same, and others may have called before
  abbrev pub Turned : Act → Result Answer StoreEnding → Sat S → Sat S → Type 0
  Turned act result m m' =
      (between : List Item) × (m' ≡ (called (shown m.0 Idle (m.0.seen ++ between)) Idle (item m.0.number act result), []))
      × IsPlayed opened m'.0.seen × (calls_by m.0.number m'.0.seen ≡ calls_by m.0.number m'.0.mine)

  -- a seat has taken in another: it has seen a history that begins with what each had seen, and has the calls of both
  abbrev pub Gathered : Sat S → Sat S → Sat S → Type 0
  Gathered m n m' =
      (log : List Item) × (m' ≡ (record { number = m.0.number; role = Idle; seen = log; mine = m.0.mine ++ n.0.mine }, []))
      × StartsWith log m.0.seen × StartsWith log n.0.seen × IsPlayed opened log × (calls_by m.0.number log ≡ calls_by m.0.number (m.0.mine ++ n.0.mine))

module _ {S : Type 0} (stands : S → Went → Type 0) (opened : Went → Type 0) where
  -- the store was taken, and the history was seen that it stands for
  abbrev pub Took : ℕ → Sat S → Sat S → Type 0
  Took t m m' =
      (y : Desk S) × (log : List Item) × (m' ≡ (shown m.0 (Has t) log, (0, Some y) ∷ [])) × StartsWith log m.0.seen × LeadsTo opened log (stands y.store)

  -- the same where the ticket is served; else nothing changed
  abbrev pub taken : At S → Sat S → ℕ → Sat S → Type 0
  taken st m found m' = (t : ℕ) → m.0.role ≡ Waits t → (found ≡ t → Took t m m') × (found ≢ t → m' ≡ m)

  -- the seat has the store, where the history that it has seen leads to
  abbrev pub HasStore : Sat S → Type 0
  HasStore m = (y : Desk S) × (m.1 ≡ (0, Some y) ∷ []) × LeadsTo opened m.0.seen (stands y.store)

-- two ways to say at which pasts the first store stood
pub record Same (opened other : Went → Type 0) : Type 0 where
  pub to : (past : Went) → opened past → other past
  pub from : (past : Went) → other past → opened past
