-- Where a machine stands when nothing was taken, and at a longer past.
use Rattle.std.proofs.Common.{◌≡◌, ℕ, ℤ, pos, ◌+◌, ◌≤◌, ◌+ℤ◌, ◌≤ℤ◌, List, ◌++◌, length, length-append, All, refl, sym, ap, ◌∙◌, subst, arith}
use Rattle.std.proofs.lemmas.Int.{ints}
use Rattle.tree_state.specs.declared.held.Held.{Held}
use Rattle.tree_state.specs.State.{State, start}
use Rattle.tree_state.specs.Step.{Act}
use Rattle.tree_state.specs.Trees.{Means, IsNaming, Stays}
use Rattle.tree_state.proofs.SessionLists.{AreDistinct}
use Rattle.store_side.specs.declared.entry.Entry.{Entry}
use Rattle.store_side.specs.Acts.{AreActs}
use Rattle.store_side.specs.Orders.{ConnectsOnce, HasNoConnect, LegalFrom}
use Rattle.store_side.specs.Owed.{reserves}
use Rattle.store_side.specs.Past.{Past, after_all, password_of, state_of}
use Rattle.store_side.proofs.Appended.{state_of-append, legal-append, acts-append}
use Rattle.store_side.proofs.NoTrace.{NoTrace}
use Rattle.tree_server.specs.declared.books.Books.{Books}
use Rattle.tree_server.specs.declared.dues.Due.{Due}
use Rattle.tree_server.specs.Machines.{IsCounted, Stands, added}
use Rattle.tree_server.specs.Offers.{AreSame, Puts}
use Rattle.tree_server.specs.Times.{AreDues, IsTimely}

-- ---- nothing was taken

with_dues : (xs : List Due) (named : List ℕ → ℕ → List ℕ → Type 0) (keeps keeps' : List Entry → Type 0) (room room' : ℕ)
    (held held' : Held) (books : Books) (past : Past)
    → ((order : List Entry) → keeps order → keeps' order) → books.owed ≤ room' → Stays held held' → AreSame books.dues xs
    → Stands named keeps room held books past → Stands named keeps' room' held' (record books { dues = xs }) past
with_dues xs named keeps keeps' room room' held held' books past kept roomy stays same s = record {
  naming = s.naming;
  means = stays _ s.means;
  are_acts = s.are_acts;
  steps = s.steps;
  once = s.once;
  quiet = s.quiet;
  kept = kept past.order s.kept;
  roomy = roomy;
  key = s.key;
  limit = s.limit;
  small = s.small;
  counted = s.counted;
  owes = s.owes;
  within = s.within;
  greatest = s.greatest;
  given = s.given;
  drawn = s.drawn;
  dues = λ d. ((λ i. (s.dues d).0 ((same d).0 i)), λ i. (same d).1 ((s.dues d).1 i));
  timely = s.timely;
  distinct = s.distinct;
}

-- the journal keeps what it kept, what is held means what it meant, and the books are the same, but for the times, which are the same ones
pub stands_still : {M : Type 0} (f : M → List ℕ → ℕ → List ℕ → Type 0) (n n' : M) (keeps keeps' : List Entry → Type 0) (room room' : ℕ)
    (held held' : Held) (books books' : Books) (past : Past)
    → n' ≡ n → ((order : List Entry) → keeps order → keeps' order) → books.owed ≤ room' → Stays held held'
    → books' ≡ record books { dues = books'.dues } → AreSame books.dues books'.dues
    → Stands (f n) keeps room held books past → Stands (f n') keeps' room' held' books' past
stands_still f n n' keeps keeps' room room' held held' books books' past named kept roomy stays same times s =
    let a : Stands (f n) keeps' room' held' (record books { dues = books'.dues }) past =
    with_dues books'.dues (f n) keeps keeps' room room' held held' books past kept roomy stays times s in
    let b : Stands (f n) keeps' room' held' books' past = subst (λ (x : Books). Stands (f n) keeps' room' held' x past) (sym same) a in
    subst (λ m. Stands (f m) keeps' room' held' books' past) (sym named) b

pub same_times : (dues : List Due) → AreSame dues dues
same_times dues d = ((λ i. i), λ i. i)

stays_as : (held held' : Held) → held' ≡ held → Stays held held'
stays_as held held' e s means = subst (λ (h : Held). Means h s) (sym e) means

-- all is as it was, but for a journal that keeps what it kept
pub stands_as : {M : Type 0} (f : M → List ℕ → ℕ → List ℕ → Type 0) (n n' : M) (keeps keeps' : List Entry → Type 0) (room room' : ℕ)
    (held held' : Held) (books books' : Books) (past : Past)
    → n' ≡ n → ((order : List Entry) → keeps order → keeps' order) → books.owed ≤ room' → held' ≡ held → books' ≡ books
    → Stands (f n) keeps room held books past → Stands (f n') keeps' room' held' books' past
stands_as f n n' keeps keeps' room room' held held' books books' past named kept roomy same books_are s =
    let a : Stands (f n) keeps' room' held' books past =
    with_dues books.dues (f n) keeps keeps' room room' held held' books past kept roomy (stays_as held held' same)
    (same_times books.dues) s in
    let b : Stands (f n) keeps' room' held' books' past = subst (λ (x : Books). Stands (f n) keeps' room' held' x past) (sym books_are) a in
    subst (λ m. Stands (f m) keeps' room' held' books' past) (sym named) b

-- the journal is the one of before
pub stands_on : {L : Type 0} (k : L → List Entry → Type 0) (r : L → ℕ) (j j' : L) (named : List ℕ → ℕ → List ℕ → Type 0) (held : Held)
    (books : Books) (past : Past) → j' ≡ j
    → Stands named (k j) (r j) held books past → Stands named (k j') (r j') held books past
stands_on k r j j' named held books past e s = subst (λ i. Stands named (k i) (r i) held books past) (sym e) s

pub puts_on : {L : Type 0} (k : L → List Entry → Type 0) (r : L → ℕ) (j j' : L) (keeps : List Entry → Type 0) (room : ℕ) (entry : Entry)
    → j' ≡ j
    → Puts (k j') (r j') keeps room entry → Puts (k j) (r j) keeps room entry
puts_on k r j j' keeps room entry e h = subst (λ i. Puts (k i) (r i) keeps room entry) e h

-- ---- entries come next

-- these entries, which are these acts, may come next
pub record Grows (past : Past) (entries : List Entry) (acts : List Act) : Type 0 where
  pub are_acts : AreActs entries acts
  pub legal : LegalFrom past.naming (password_of past.key) (state_of past) entries acts
  pub once : ConnectsOnce (past.order ++ entries)
  pub quiet : (c : ℕ) → HasNoConnect c (past.order ++ entries) → NoTrace c (after_all past.naming (state_of past) acts)

-- the journal keeps this order and the books are those of this state
pub record Holding (keeps : List Entry → Type 0) (room : ℕ) (held : Held) (books : Books) (past : Past) (order : List Entry)
    (t : State) : Type 0 where
  pub means : Means held t
  pub kept : keeps order
  pub roomy : books.owed ≤ room
  pub key : books.passwords ≡ past.key
  pub limit : books.limit ≡ past.limit
  pub counted : books.entries ≡ length order
  pub owes : books.owed ≡ reserves t.sessions
  pub within : books.entries + books.owed ≤ books.limit
  pub greatest : books.greatest ≡ t.greatest
  pub given : IsCounted books.greatest books.entries
  pub drawn : IsCounted t.last books.entries
  pub dues : AreDues books.dues t.sessions
  pub timely : All IsTimely t.sessions
  pub distinct : AreDistinct t.sessions

steps_on : (past : Past) (entries : List Entry) (acts : List Act) → LegalFrom past.naming (password_of past.key) start past.order past.acts
    → LegalFrom past.naming (password_of past.key) (state_of past) entries acts
    → LegalFrom past.naming (password_of past.key) start (past.order ++ entries) (past.acts ++ acts)
unfolding state_of
steps_on past entries acts h k = legal-append past.naming (password_of past.key) start past.order entries past.acts acts h k

-- and so the machine stands at the longer past
pub stands_more : {M : Type 0} (f : M → List ℕ → ℕ → List ℕ → Type 0) (n n' : M) (keeps keeps' : List Entry → Type 0) (room room' : ℕ)
    (held held' : Held) (books books' : Books)
    (past : Past) (entries : List Entry) (acts : List Act)
    → n' ≡ n → Stands (f n) keeps room held books past → Grows past entries acts
    → Holding keeps' room' held' books' past (past.order ++ entries) (after_all past.naming (state_of past) acts)
    → Stands (f n') keeps' room' held' books' (added entries acts past)
stands_more f n n' keeps keeps' room room' held held' books books' past entries acts named s g h =
    let e = state_of-append past entries acts in
    let k : Holding keeps' room' held' books' past (past.order ++ entries) (state_of (added entries acts past)) =
    subst (λ (t : State). Holding keeps' room' held' books' past (past.order ++ entries) t) (sym e) h in
    let q : (c : ℕ) → HasNoConnect c (past.order ++ entries) → NoTrace c (state_of (added entries acts past)) =
    λ c none. subst (NoTrace c) (sym e) (g.quiet c none) in
    record {
      naming = subst (λ m. IsNaming (f m) past.naming) (sym named) s.naming;
      means = k.means;
      are_acts = acts-append past.order entries past.acts acts s.are_acts g.are_acts;
      steps = steps_on past entries acts s.steps g.legal;
      once = g.once;
      quiet = q;
      kept = k.kept;
      roomy = k.roomy;
      key = k.key;
      limit = k.limit;
      small = s.small;
      counted = k.counted;
      owes = k.owes;
      within = k.within;
      greatest = k.greatest;
      given = k.given;
      drawn = k.drawn;
      dues = k.dues;
      timely = k.timely;
      distinct = k.distinct;
    }

-- ---- the books

-- the books have so many entries and owe so many, and this is the greatest session number
pub record Booked (old new : Books) (entries owed : ℕ) (greatest : ℤ) : Type 0 where
  pub key : new.passwords ≡ old.passwords
  pub limit : new.limit ≡ old.limit
  pub counts : new.entries ≡ entries
  pub owes : new.owed ≡ owed
  pub tops : new.greatest ≡ greatest

-- what is held and kept, with the books
pub record Follows (keeps : List Entry → Type 0) (room : ℕ) (held : Held) (dues : List Due) (order : List Entry) (owed : ℕ)
    (t : State) : Type 0 where
  pub means : Means held t
  pub kept : keeps order
  pub roomy : owed ≤ room
  pub owes : owed ≡ reserves t.sessions
  pub dues_are : AreDues dues t.sessions
  pub timely : All IsTimely t.sessions
  pub distinct : AreDistinct t.sessions

-- a number that is counted stays so, and so does the next one
pub counted_more : (z w : ℤ) (n k : ℕ) → IsCounted z n → z ≤ℤ w → w ≤ℤ (z +ℤ pos 1) → 1 ≤ k → IsCounted w (n + k)
counted_more z w n k h low high more = let a = h.from in let b =
    h.within in record { from = omega (arith, ints); within = omega (arith, ints) }

counted_as : (z w : ℤ) (n m : ℕ) → z ≡ w → n ≡ m → IsCounted w m → IsCounted z n
counted_as z w n m e f h = subst (λ (x : ℤ). IsCounted x n) (sym e) (subst (λ (x : ℕ). IsCounted w x) (sym f) h)

pub holding : (named : List ℕ → ℕ → List ℕ → Type 0) (keeps keeps' : List Entry → Type 0) (room room' : ℕ) (held held' : Held)
    (books books' : Books)
    (past : Past) (entries : List Entry) (t : State) (owed : ℕ)
    → Stands named keeps room held books past → Booked books books' (books.entries + length entries) owed t.greatest
    → Follows keeps' room' held' books'.dues (past.order ++ entries) owed t
    → books.entries + length entries + owed ≤ books.limit
    → IsCounted t.greatest (books.entries + length entries) → IsCounted t.last (books.entries + length entries)
    → Holding keeps' room' held' books' past (past.order ++ entries) t
holding named keeps keeps' room room' held held' books books' past entries t owed s b w within given drawn =
    let c = s.counted in
    let l = length-append past.order entries in
    record {
      means = w.means;
      kept = w.kept;
      roomy = subst (λ (x : ℕ). x ≤ room') (sym b.owes) w.roomy;
      key = b.key ∙ s.key;
      limit = b.limit ∙ s.limit;
      counted = b.counts ∙ ap (λ (x : ℕ). x + length entries) c ∙ sym l;
      owes = b.owes ∙ w.owes;
      within = let i = b.counts in let j = b.owes in let k = b.limit in omega arith;
      greatest = b.tops;
      given = counted_as books'.greatest t.greatest books'.entries (books.entries + length entries) b.tops b.counts given;
      drawn = counted_as t.last t.last books'.entries (books.entries + length entries) refl b.counts drawn;
      dues = w.dues_are;
      timely = w.timely;
      distinct = w.distinct;
    }
