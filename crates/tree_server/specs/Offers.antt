-- What a connect request is offered, and what a call does to a journal and to the times.
use Rattle.std.specs.Prelude.{◌≡◌, ◌≢◌, ◌⊎◌, ◌↔◌, ℕ, ℤ, ◌+◌, ◌<◌, ◌≤◌, ◌^◌, ◌≤ℤ◌, List, [], ◌∷◌, ◌++◌, length, Option, Some, Contains}
use Rattle.zk_records.specs.Connect.{SpellsConnect}
use Rattle.zk_records.specs.declared.connect.ConnectRequest.{ConnectRequest}
use Rattle.store_side.specs.Past.{Past, password_of, state_of}
use Rattle.store_side.specs.Orders.{HasNoConnect, given_in, next_session}
use Rattle.store_side.specs.declared.entry.Entry.{Entry}
use Rattle.store_side.specs.declared.entry.Entry.TheVariants.{Connect}
use Rattle.store_side.specs.declared.ending.StoreEnding.{StoreEnding}
use Rattle.store_side.specs.declared.ending.StoreEnding.TheVariants as endings
use Rattle.tree_server.specs.declared.books.Books.{Books}
use Rattle.tree_server.specs.declared.connecting.Offer.{Offer}
use Rattle.tree_server.specs.declared.dues.Due.{Due}

-- At this past the frame is a connect request that may come, and the machine gives it this.
pub record IsOffered (past : Past) (body : List ℕ) (asked : ConnectRequest) (offer : Offer) : Type 0 where
  pub no_connect : HasNoConnect offer.connection past.order
  pub spelled : SpellsConnect asked body
  pub seen : asked.seen ≤ℤ (state_of past).last
  pub fresh_is : offer.fresh ≡ next_session (state_of past)
  pub password_is : offer.password ≡ password_of past.key offer.fresh
  pub given_is : offer.given ≡ given_in (password_of past.key) (state_of past) asked
  pub long : length offer.given.password ≡ 16

-- the entry of a connect request that is given what was offered
unfoldable pub entry_of : ConnectRequest → Offer → ℤ → Entry
entry_of asked offer zxid = Connect offer.connection asked offer.given.session offer.given.timeout offer.given.password zxid offer.at

-- a journal that keeps so and has so much room keeps this entry too where there was room for it
pub record Puts (keeps : List Entry → Type 0) (room : ℕ) (keeps' : List Entry → Type 0) (room' : ℕ) (entry : Entry) : Type 0 where
  pub room_left : room ≤ room' + 1
  pub kept : 0 < room → (order : List Entry) → length order < 2 ^ 63 → keeps order → keeps' (order ++ entry ∷ [])

-- there is room for so many entries more, with those owed, in the order and in the journal
pub record HasMore (books : Books) (room more : ℕ) : Type 0 where
  pub within : books.entries + books.owed + more ≤ books.limit
  pub roomy : books.owed + more ≤ room

-- there is not
abbrev pub HasNoMore : Books → ℕ → StoreEnding → Type 0
HasNoMore books more e = (e ≡ endings.Memory) ⊎ ((e ≡ endings.JournalFull) × (books.limit < books.entries + books.owed + more))

-- a time was put in the place of another one, if there was one
abbrev pub Replaces : Option Due → Due → List Due → List Due → Type 0
Replaces was next old new = (d : Due) → Contains new d ↔ ((d ≡ next) ⊎ ((Some d ≢ was) × Contains old d))

-- these are the same times
abbrev pub AreSame : List Due → List Due → Type 0
AreSame old new = (d : Due) → Contains new d ↔ Contains old d

-- the time of before was taken out, if there was one and it is another one than the next
abbrev pub Leaves : Option Due → Due → List Due → List Due → Type 0
Leaves was next old new = (d : Due) → Contains new d ↔ (((d ≡ next) ⊎ (Some d ≢ was)) × Contains old d)

-- the next time was taken out, where it is not the one of before
abbrev pub TakesBack : Option Due → Due → List Due → List Due → Type 0
TakesBack was next old new = (d : Due) → Contains new d ↔ (((was ≡ Some next) ⊎ (d ≢ next)) × Contains old d)
