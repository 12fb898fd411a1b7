-- Histories: the calls of all passes, in the order in which the store did them, and what a store may answer at each point.
use Rattle.std.specs.Prelude.{◌≡◌, ◌⊎◌, ℕ, ℤ, ◌+◌, ◌-◌, ◌^◌, ◌≤◌, List, [], ◌∷◌, ◌++◌, ◌==◌, cond, length, take, min, true, false, Option, Some, None, Result, Ok, Err, IfOk, MatchResult}
use Rattle.store_side.specs.Past.{Past as Went}
use Rattle.tree_state.specs.Step as machine
use Rattle.store_side.specs.Follows.{IsAdmitted, IsSound}
use Rattle.store_side.specs.Owed.{IsTime}
use Rattle.store_side.specs.Calls.{Fed, Ticked, IsLoss, admitted_one, after_pull, after_loss}
use Rattle.store_side.specs.declared.entry.Entry.{Entry}
use Rattle.store_side.specs.declared.ending.StoreEnding.{StoreEnding}
use Rattle.store_side.specs.declared.ending.StoreEnding.TheVariants as endings
use Rattle.tree_hall.specs.declared.act.Act.{Act}
use Rattle.tree_hall.specs.declared.act.Act.TheVariants.{Admit, Feed, Pull, Lose, Tick}
use Rattle.tree_hall.specs.declared.act.Answer.{Answer}
use Rattle.tree_hall.specs.declared.act.Answer.TheVariants as answers
use Rattle.tree_hall.specs.declared.view.Item.{Item}

-- ---- what a store may answer at a past, and at which past it stands then

-- the next number, or none was left, or there was no memory
abbrev pub Admits : Went → Result Answer StoreEnding → Went → Type 0
Admits past result new = MatchResult result
    (λ a. (a ≡ answers.Admitted (past.admitted + 1)) × (new ≡ admitted_one past))
    (λ e. ((e ≡ endings.Memory) ⊎ ((e ≡ endings.NumbersUsed) × (past.admitted ≡ 2 ^ 32 - 1))) × (new ≡ past))

-- the bytes of a connection whose side is not over were taken; else its ending is answered again
abbrev pub Feeds : Option StoreEnding → Went → ℕ → ℤ → List ℕ → Result (Unit {0}) StoreEnding → Went → Type 0
Feeds None past c now piece answer new = Fed c now piece past new answer
Feeds (Some e) past c now piece answer new = (answer ≡ Err e) × (new ≡ past)

-- how many bytes a pull takes
abbrev pub pulled_count : Went → ℕ → ℕ → ℕ
pulled_count past c limit = min limit (length (past.waiting c))

-- the first bytes that wait, or there was no memory
abbrev pub Pulls : Went → ℕ → ℕ → Result Answer StoreEnding → Went → Type 0
Pulls past c limit result new = MatchResult result
    (λ a. (a ≡ answers.Pulled (take (pulled_count past c limit) (past.waiting c))) × (new ≡ after_pull c (pulled_count past c limit) past))
    (λ e. (e ≡ endings.Memory) × (new ≡ past))

-- a connection whose side is not over is lost
abbrev pub Loses : Option StoreEnding → Went → ℕ → Went → Type 0
Loses None past c new =
    (entries : List Entry) × (acts : List machine.Act) × IsLoss past c entries acts × (new ≡ after_loss c entries acts past) × (IsSound past → IsSound new)
Loses (Some e) past c new = new ≡ past

-- the store's answer to an act, as its call for that act allows it from this past
abbrev pub Allows : Went → Act → Result Answer StoreEnding → Went → Type 0
Allows past Admit result new = Admits past result new
Allows past (Feed c now piece) result new = IsAdmitted past c × MatchResult result
    (λ a. (a ≡ answers.Fed) × Feeds (past.endings c) past c now piece (Ok record {}) new)
    (λ e. Feeds (past.endings c) past c now piece (Err e) new)
Allows past (Pull c limit) result new = IsAdmitted past c × Pulls past c limit result new
Allows past (Lose c) result new = IsAdmitted past c × (result ≡ Ok answers.Gone) × Loses (past.endings c) past c new
Allows past (Tick now) result new = MatchResult result
    (λ a. (a ≡ answers.Ticked) × Ticked now past new true)
    (λ e. (e ≡ endings.Memory) × Ticked now past new false)

-- ---- which kind of answer an act has, whatever its store and its past

-- the kind of answer that an act has
abbrev pub Answers : Act → Result Answer StoreEnding → Type 0
Answers Admit result = IfOk result (λ a. (c : ℕ) × (a ≡ answers.Admitted c))
Answers (Feed c now piece) result = IfOk result (λ a. a ≡ answers.Fed)
Answers (Pull c limit) result = MatchResult result
    (λ a. (bytes : List ℕ) × (a ≡ answers.Pulled bytes) × (length bytes ≤ limit))
    (λ e. e ≡ endings.Memory)
Answers (Lose c) result = result ≡ Ok answers.Gone
Answers (Tick now) result = MatchResult result (λ a. a ≡ answers.Ticked) (λ e. e ≡ endings.Memory)

-- ---- histories

-- each item is what the store's call for that act allows from the past before it
abbrev pub Played : Went → List Item → Went → Type 0
Played first [] last = last ≡ first
Played first (x ∷ xs) last = (next : Went) × Allows first x.call.act x.call.result next × Played next xs last

-- from each of these pasts the history leads somewhere
abbrev pub IsPlayed : (Went → Type 0) → List Item → Type 0
IsPlayed opened history = (past : Went) → opened past → (last : Went) × Played past history last

-- and there the store stands
abbrev pub LeadsTo : (Went → Type 0) → List Item → (Went → Type 0) → Type 0
LeadsTo opened history stood = (past : Went) → opened past → (last : Went) × Played past history last × stood last

-- the calls of one pass
abbrev pub calls_by : ℕ → List Item → List Item
calls_by by [] = []
calls_by by (x ∷ xs) = cond (x.by == by) (x ∷ calls_by by xs) (calls_by by xs)

abbrev pub StartsWith : List Item → List Item → Type 0
StartsWith all front = (rest : List Item) × (all ≡ front ++ rest)

-- an item of this pass with this call
abbrev pub item : ℕ → Act → Result Answer StoreEnding → Item
item by act result = record { by = by; call = record { act = act; result = result } }

-- ---- what must be known before an act

-- an Admit of the history was answered this number
abbrev pub HasAdmitted : List Item → ℕ → Type 0
HasAdmitted history c = (front : List Item) × (by : ℕ) × (rest : List Item) × (history ≡ front ++ item by Admit (Ok (answers.Admitted c)) ∷ rest)

-- the connection that the act names, if any, was admitted in the history
abbrev pub Named : List Item → Act → Type 0
Named history Admit = Unit {0}
Named history (Feed c now piece) = HasAdmitted history c
Named history (Pull c limit) = HasAdmitted history c
Named history (Lose c) = HasAdmitted history c
Named history (Tick now) = Unit {0}

-- the time of the act, if it has one, is one that a store allows
abbrev pub IsTimely : Act → Type 0
IsTimely Admit = Unit {0}
IsTimely (Feed c now piece) = IsTime now
IsTimely (Pull c limit) = Unit {0}
IsTimely (Lose c) = Unit {0}
IsTimely (Tick now) = IsTime now

-- the past has admitted the connection that the act names
abbrev pub Knows : Went → Act → Type 0
Knows past Admit = Unit {0}
Knows past (Feed c now piece) = IsAdmitted past c
Knows past (Pull c limit) = IsAdmitted past c
Knows past (Lose c) = IsAdmitted past c
Knows past (Tick now) = Unit {0}
