-- An order with what the clients sent in place of what the store was handed: the Connect of each connection has the first item, and
-- its k-th Take the k-th request, of what that connection sent.
use Rattle.std.specs.Prelude.{◌≡◌, ℕ, ℤ, ◌==◌, List, [], ◌∷◌, ◌++◌, if◌then◌else◌}
use Rattle.zk_records.specs.declared.connect.ConnectRequest.{ConnectRequest}
use Rattle.zk_messages.specs.declared.request.Item.{Item}
use Rattle.zk_messages.specs.declared.request.Item.TheVariants as items
use Rattle.zk_messages.specs.declared.request.Request.{Request}
use Rattle.zk_messages.specs.declared.request.Request.TheVariants.{Close}
use Rattle.store_side.specs.declared.entry.Entry.{Entry}
use Rattle.store_side.specs.declared.entry.Entry.TheVariants.{Connect, Take, Lost, Expire}

abbrev pub without_first : List Item → List Item
without_first [] = []
without_first (i ∷ is) = is

-- of what each connection sent, what is left after the entry
unfoldable pub left_after : Entry → (ℕ → List Item) → ℕ → List Item
left_after (Connect d asked session timeout password zxid now) sent c = if c == d then without_first (sent c) else sent c
left_after (Take d xid request zxid now) sent c = if c == d then without_first (sent c) else sent c
left_after (Lost d) sent c = sent c
left_after (Expire session zxid now) sent c = sent c

-- The entry with the first item of its connection, of which there has to be one of its kind. An entry that holds none stays.
unfoldable pub FillsEntry : Entry → (ℕ → List Item) → Entry → Type 0
FillsEntry (Connect c asked session timeout password zxid now) sent f = (plain : ConnectRequest) × (more : List Item) × (sent c ≡ items.Asks plain ∷ more) × (f ≡ Connect c plain session timeout password zxid now)
FillsEntry (Take c xid request zxid now) sent f = (number : ℤ) × (plain : Request) × (more : List Item) × (sent c ≡ items.Requests number plain ∷ more) × (f ≡ Take c number plain zxid now)
FillsEntry (Lost c) sent f = f ≡ Lost c
FillsEntry (Expire session zxid now) sent f = f ≡ Expire session zxid now

-- entry by entry, where `sent` has the items of each connection that no entry has so far
unfoldable pub Fills : List Entry → (ℕ → List Item) → List Entry → Type 0
Fills [] sent [] = Unit {0}
Fills [] sent (f ∷ fs) = ⊥
Fills (e ∷ es) sent [] = ⊥
Fills (e ∷ es) sent (f ∷ fs) = FillsEntry e sent f × Fills es (left_after e sent) fs

-- the items that the Connect and the Takes of a connection hold, in order
unfoldable pub items_in : ℕ → List Entry → List Item
items_in c [] = []
items_in c (Connect d asked session timeout password zxid now ∷ es) = if c == d then items.Asks asked ∷ items_in c es else items_in c es
items_in c (Take d xid request zxid now ∷ es) = if c == d then items.Requests xid request ∷ items_in c es else items_in c es
items_in c (Lost d ∷ es) = items_in c es
items_in c (Expire session zxid now ∷ es) = items_in c es

-- ---- of items

-- the front of a list
pub record IsFront {A : Type 0} (front whole : List A) : Type 0 where
  pub more : List A
  pub is : whole ≡ front ++ more

-- the last of these items is a closeSession
unfoldable pub EndsInClose : List Item → Type 0
EndsInClose [] = ⊥
EndsInClose (items.Requests xid Close ∷ []) = Unit {0}
EndsInClose (i ∷ is) = EndsInClose is
