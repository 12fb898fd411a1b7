-- How long the answer to a request is, and which requests can be taken for that.
use Rattle.std.proofs.Common.{◌≡◌, ◌≢◌, ℕ, ℤ, ◌+◌, ◌-◌, ◌<◌, ◌≤◌, ◌^◌, Bool, true, false, Option, Some, None, IsTrue, min, refl, subst, inl, inr, arith}
use Rattle.std.specs.Prelude.{◌↔◌, is_some}
use Rattle.std.specs.Option.{option_map, option_map_or}
use Rattle.zk_path.specs.Paths.{IsTextOf}
use Rattle.zk_records.specs.declared.path_watch.PathWatch.{PathWatch}
use Rattle.zk_messages.specs.Refuses.{Refuses}
use Rattle.zk_messages.specs.declared.request.Request.{Request}
use Rattle.zk_messages.specs.declared.request.Request.TheVariants as requests
use Rattle.tree_state.specs.Nodes.{Path, Node, child_names, find}
use Rattle.tree_state.specs.State.{State}
use Rattle.tree_state.specs.Commands.{Command, Asks, IsCommand, refused, get_children}
use Rattle.tree_state.specs.Places.{counted_length, names_length}
use Rattle.tree_state.proofs.EveryCommand.{some_asked}
use Rattle.tree_state.proofs.Serving.{asks_names, asks_names_stat}
use Rattle.store_side.specs.declared.ending.StoreEnding.TheVariants as endings
use Rattle.store_side.specs.Fitting.{answer_length, list_length}
use Rattle.tree_server.specs.declared.books.Books.{Books}
use Rattle.tree_server.specs.Asking.{CannotTake, HasLength, HasPlace, MayTake, full, too_much}

-- ---- the names of a node's children

-- a count up to the last number, and some bytes more up to that
more_counted : (n names more result : ℕ) → names ≡ min n (2 ^ 64 - 1) → result ≡ min (names + more) (2 ^ 64 - 1)
    → result ≡ min (more + n) (2 ^ 64 - 1)
more_counted n names more result e f = omega (arith, e, f)

same_value : {A : Type 0} (x y : A) → Some x ≡ Some y → x ≡ y
same_value x y e = cc

pub names_counted : (s : State) (p : Path) (names more result : ℕ)
    → Some names ≡ option_map (λ node. counted_length (child_names p s.nodes)) (find s.nodes p)
    → result ≡ min (names + more) (2 ^ 64 - 1)
    → result ≡ option_map_or (λ node. min (more + names_length (child_names p s.nodes)) (2 ^ 64 - 1)) (find s.nodes p) 0
unfolding counted_length
names_counted s p names more result e f = go (find s.nodes p) e
  where
    go : (o : Option Node) → Some names ≡ option_map (λ node. min (names_length (child_names p s.nodes)) (2 ^ 64 - 1)) o
        → result ≡ option_map_or (λ node. min (more + names_length (child_names p s.nodes)) (2 ^ 64 - 1)) o 0
    go None g = absurd cc
    go (Some node) g = more_counted (names_length (child_names p s.nodes)) names more result (same_value _ _ g) f

-- ---- the answer to a request

none_found : (found : Option ℤ) → is_some found ≡ false → found ≡ None
none_found None e = refl
none_found (Some code) e = absurd cc

plain : (r : Request) (found : Option ℤ) → Refuses r found → is_some found ≡ false → Refuses r None
plain r found h e = subst (Refuses r) (none_found found e) h

-- an error is no list
pub refused_length : (s : State) (r : Request) (found : Option ℤ) → Refuses r found → is_some found ≡ true → HasLength s r 0
unfolding IsCommand answer_length
refused_length s r None h e = absurd cc
refused_length s r (Some code) h e = record { command = refused code; is_command = inl (code, h, refl); size_is = refl }

-- a list of names, perhaps with a Stat
listed : (o : Option Node) (m n size : ℕ) → size ≡ option_map_or (λ node. min m (2 ^ 64 - 1)) o 0 → m ≡ n
    → size ≡ min (option_map_or (λ node. n) o 0) (2 ^ 64 - 1)
listed None m n size e f = e
listed (Some node) m n size e f = omega (arith, e, f)

list_plain : (s : State) (p : Path) → 20 + names_length (child_names p s.nodes) ≡ list_length s p false
unfolding list_length
list_plain s p = omega arith

list_stat : (s : State) (p : Path) → 88 + names_length (child_names p s.nodes) ≡ list_length s p true
unfolding list_length
list_stat s p = omega arith

as_counted : (s : State) (r : Request) (command : Command) (p : Path) (watch stat : Bool) (m size : ℕ) → Refuses r None → Asks r command
    → command ≡ get_children p watch stat → size ≡ option_map_or (λ node. min m (2 ^ 64 - 1)) (find s.nodes p) 0 → m ≡ list_length s p stat
    → HasLength s r size
unfolding IsCommand answer_length
as_counted s r command p watch stat m size h a is e f =
    record {
      command = get_children p watch stat;
      is_command = inr (h, subst (Asks r) is a);
      size_is = listed (find s.nodes p) m _ size e f;
    }

pub names_answered : (s : State) (r : Request) (asked : PathWatch) (found : Option ℤ) (size : ℕ) → r ≡ requests.GetChildren asked
    → Refuses r found → is_some found ≡ false
    → ((p : Path) → IsTextOf asked.path p
    → size ≡ option_map_or (λ node. min (20 + names_length (child_names p s.nodes)) (2 ^ 64 - 1)) (find s.nodes p) 0)
    → HasLength s r size
names_answered s r asked found size is h e counts =
    let n = plain r found h e in
    let k = some_asked r n in
    let w = asks_names asked k.0 (subst (λ (q : Request). Asks q k.0) is k.1) in
    as_counted s r k.0 w.path asked.watch false _ size n k.1 w.is (counts w.path w.text) (list_plain s w.path)

pub names_stat_answered : (s : State) (r : Request) (asked : PathWatch) (found : Option ℤ) (size : ℕ) → r ≡ requests.GetChildren2 asked
    → Refuses r found → is_some found ≡ false
    → ((p : Path) → IsTextOf asked.path p
    → size ≡ option_map_or (λ node. min (88 + names_length (child_names p s.nodes)) (2 ^ 64 - 1)) (find s.nodes p) 0)
    → HasLength s r size
names_stat_answered s r asked found size is h e counts =
    let n = plain r found h e in
    let k = some_asked r n in
    let w = asks_names_stat asked k.0 (subst (λ (q : Request). Asks q k.0) is k.1) in
    as_counted s r k.0 w.path asked.watch true _ size n k.1 w.is (counts w.path w.text) (list_stat s w.path)

-- every other request is answered with no list
no_names : (r : Request) (p : Path) (watch stat : Bool) → Asks r (get_children p watch stat)
    → ((x : PathWatch) → r ≢ requests.GetChildren x) → ((x : PathWatch) → r ≢ requests.GetChildren2 x) → ⊥
unfolding Asks
no_names (requests.GetChildren x) p watch stat a h k = h x refl
no_names (requests.GetChildren2 x) p watch stat a h k = k x refl
no_names r p watch stat a h k = a

no_list : (s : State) (r : Request) (command : Command) → Asks r command → ((x : PathWatch) → r ≢ requests.GetChildren x)
    → ((x : PathWatch) → r ≢ requests.GetChildren2 x)
    → answer_length s command ≡ 0
unfolding answer_length
no_list s r (get_children p watch stat) a h k = absurd (no_names r p watch stat a h k)
no_list s r command a h k = refl

pub other_answered : (s : State) (r : Request) (found : Option ℤ) → Refuses r found → is_some found ≡ false
    → ((x : PathWatch) → r ≢ requests.GetChildren x) → ((x : PathWatch) → r ≢ requests.GetChildren2 x) → HasLength s r 0
unfolding IsCommand
other_answered s r found h e i j =
    let n = plain r found h e in
    let k = some_asked r n in
    let l = no_list s r k.0 k.1 i j in
    record { command = k.0; is_command = inr (n, k.1); size_is = omega (arith, l) }

-- ---- what is taken, and what is not

pub cannot_full : (books : Books) (s : State) (r : Request) (size : ℕ) → HasLength s r size → r ≢ requests.Close
    → books.limit < books.entries + books.owed + 1
    → CannotTake books s r endings.JournalFull
cannot_full books s r size h other none = full h.command h.is_command other none

pub cannot_long : (books : Books) (s : State) (r : Request) (size : ℕ) → HasLength s r size → 2147483647 < size → HasPlace books r
    → CannotTake books s r (endings.AnswerTooLong size)
cannot_long books s r size h long place = too_much size h.command h.is_command (omega (arith, h.size_is, long)) h.size_is place

pub may_take : (books : Books) (s : State) (r : Request) (size : ℕ) → HasLength s r size → size ≤ 2147483647 → HasPlace books r
    → MayTake books s r
may_take books s r size h short place =
    record { command = h.command; is_command = h.is_command; fits = omega (arith, h.size_is, short); place = place }

-- ---- room

pub is_other : (r : Request) (b : Bool) → IsTrue b ↔ (r ≡ requests.Close) → b ≡ false → r ≢ requests.Close
is_other r b h e is = let t = h.1 is in absurd cc

-- there is room, by a test
pub place_left : (books : Books) (r : Request) (b : Bool)
    → (IsTrue b → books.limit < 2 ^ 63 → books.entries + books.owed + 1 ≤ books.limit) → b ≡ true → HasPlace books r
place_left books r b h e other small = h e small

-- or none is needed
pub place_unneeded : (books : Books) (r : Request) (b : Bool) → IsTrue b ↔ (r ≡ requests.Close) → b ≡ true → HasPlace books r
place_unneeded books r b h e other small = absurd (other (h.0 e))
