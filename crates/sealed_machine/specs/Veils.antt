-- The sealed forms of changes and commands, and what a reply to a command is judged by.
use Rattle.std.specs.Prelude.{◌≡◌, ◌<◌, ℕ, List, [], ◌∷◌, ◌++◌, length, map, Bool, true, false, Option}
use Rattle.zk_path.specs.Numbers.{ten_digits}
use Rattle.zk_path.specs.Paths.{IsComponent, IsStemEnd}
use Rattle.path_seal.specs.Sealed.{SealName}
use Rattle.payload_seal.specs.declared.keys.EntryKeys.{EntryKeys}
use Rattle.payload_seal.specs.Keys.{epoch_of}
use Rattle.request_queue.specs.declared.asked.Asked.{Asked}
use Rattle.request_queue.specs.declared.asked.Asked.TheVariants as asks
use Rattle.request_queue.specs.declared.asked.AskedOp.{AskedOp}
use Rattle.request_queue.specs.declared.asked.AskedOp.TheVariants as op_asks
use Rattle.tree_state.specs.Nodes.{Path}
use Rattle.tree_state.specs.Commands.{Change, create, delete, set_content, check, Command, refused, single, multi, set_acl, stat_at, get_content, get_acl, get_children, sync, ping, set_watches, close}
use Rattle.store_side.specs.Zips.{Zips}
use Rattle.sealed_machine.specs.Seals.{Seals, Holds}

-- what may be the last component of a create: of a stem where a number will follow
unfoldable pub IsLast : Bool → List ℕ → Type 0
IsLast true n = IsStemEnd n
IsLast false n = IsComponent n

-- the name is the one that is asked for, or has a number behind it
unfoldable pub IsGiven : Bool → List ℕ → List ℕ → Type 0
IsGiven true n name = (i : ℕ) × (name ≡ n ++ ten_digits i)
IsGiven false n name = name ≡ n

-- the IV has 12 bytes, and there is a key of its epoch
pub record IsIvOf (keys : List (List ℕ)) (iv : List ℕ) : Type 0 where
  pub size : length iv ≡ 12
  pub known : epoch_of iv < length keys

-- the parent and the last component are sealed, and the payload is accepted for each path that the node may get
pub record VeilsCreate (k : EntryKeys) (p : Path) (n : List ℕ) (d : Option (List ℕ)) (sequential : Bool) (q : Path) (m : List ℕ) (y : Option (List ℕ)) : Type 0 where
  pub path : Seals k.names p q
  pub name : m ≡ SealName k.names p n
  pub last : IsLast sequential n
  pub content : (name : List ℕ) → IsGiven sequential n name → Holds k.payloads (name ∷ p) d y

unfoldable pub VeilsChange : EntryKeys → Change → Change → Type 0
VeilsChange k (create p n d sequential ephemeral stat) (create q m y numbered kept told) = VeilsCreate k p n d sequential q m y × (sequential ≡ numbered) × (ephemeral ≡ kept) × (stat ≡ told)
VeilsChange k (delete p v) (delete q w) = Seals k.names p q × (v ≡ w)
VeilsChange k (set_content p d v) (set_content q y w) = Seals k.names p q × Holds k.payloads p d y × (v ≡ w)
VeilsChange k (check p v) (check q w) = Seals k.names p q × (v ≡ w)
VeilsChange k a b = ⊥

-- a path that is not the root
unfoldable pub IsBelow : Path → Type 0
IsBelow [] = ⊥
IsBelow (n ∷ p) = Unit {0}

-- a refused command travels as a look at the root without watch
unfoldable pub VeilsCommand : EntryKeys → Command → Command → Type 0
VeilsCommand k (refused code) (stat_at q watch) = (q ≡ []) × (watch ≡ false)
VeilsCommand k (single a) (single b) = VeilsChange k a b
VeilsCommand k (multi cs) (multi ds) = Zips (VeilsChange k) cs ds
VeilsCommand k (set_acl p v) (set_acl q w) = Seals k.names p q × (v ≡ w)
VeilsCommand k (stat_at p a) (stat_at q b) = Seals k.names p q × (a ≡ b)
VeilsCommand k (get_content p a) (get_content q b) = Seals k.names p q × (a ≡ b) × IsBelow p
VeilsCommand k (get_acl p) (get_acl q) = Seals k.names p q
VeilsCommand k (get_children p a s) (get_children q b t) = Seals k.names p q × (a ≡ b) × (s ≡ t)
VeilsCommand k (sync p) (sync q) = Seals k.names p q
VeilsCommand k ping ping = Unit {0}
VeilsCommand k (set_watches seen a b d) (set_watches then_ e f g) = (seen ≡ then_) × Zips (Seals k.names) a e × Zips (Seals k.names) b f × Zips (Seals k.names) d g
VeilsCommand k close close = Unit {0}
VeilsCommand k a b = ⊥

-- ---- what a reply is judged by

unfoldable pub op_asked : Change → AskedOp
op_asked (create p n d sequential ephemeral false) = op_asks.Create (n ∷ p) sequential
op_asked (create p n d sequential ephemeral true) = op_asks.Create2 (n ∷ p) sequential
op_asked (delete p v) = op_asks.Delete
op_asked (set_content p d v) = op_asks.SetContent p
op_asked (check p v) = op_asks.Check

unfoldable pub change_asked : Change → Asked
change_asked (create p n d sequential ephemeral false) = asks.Create (n ∷ p) sequential
change_asked (create p n d sequential ephemeral true) = asks.Create2 (n ∷ p) sequential
change_asked (delete p v) = asks.Empty
change_asked (set_content p d v) = asks.StatOf p
change_asked (check p v) = asks.Empty

unfoldable pub asked_of : Command → Asked
asked_of (refused code) = asks.Refused code
asked_of (single change) = change_asked change
asked_of (multi changes) = asks.Multi (map op_asked changes)
asked_of (set_acl p v) = asks.StatOf p
asked_of (stat_at p watch) = asks.StatOf p
asked_of (get_content p watch) = asks.Content p
asked_of (get_acl p) = asks.AclOf p
asked_of (get_children p watch false) = asks.Children p
asked_of (get_children p watch true) = asks.Children2 p
asked_of (sync p) = asks.SyncOf p
asked_of ping = asks.Empty
asked_of (set_watches seen a b d) = asks.Empty
asked_of close = asks.Close
