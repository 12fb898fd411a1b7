-- What a request asks of the machine, with paths in place of their texts.
use Rattle.std.specs.Prelude.{◌≡◌, ◌⊎◌, ℕ, ℤ, pos, List, [], ◌∷◌, Bool, true, false, Option, Some, None, IsTrue, ◌↔◌}
use Rattle.std.specs.List.{AllZip}
use Rattle.zk_path.specs.Paths.{IsTextOf, IsNamed}
use Rattle.zk_records.specs.declared.create.CreateRequest.{CreateRequest}
use Rattle.zk_messages.specs.Refuses.{Refuses, IsSequential}
use Rattle.zk_messages.specs.declared.request.Op.{Op}
use Rattle.zk_messages.specs.declared.request.Op.TheVariants as ops
use Rattle.zk_messages.specs.declared.request.Request.{Request}
use Rattle.zk_messages.specs.declared.request.Request.TheVariants as requests
use Rattle.tree_state.specs.Nodes.{Path}

-- a change of one node
pub data Change : Type 0 where
  -- under a parent; the name, or the stem's last component, the content, whether it is sequential, and ephemeral, and whether
  -- it is answered with a Stat
  create : Path → List ℕ → Option (List ℕ) → Bool → Bool → Bool → Change
  -- with the version that is asked for
  delete : Path → ℤ → Change
  set_content : Path → Option (List ℕ) → ℤ → Change
  check : Path → ℤ → Change

pub data Command : Type 0 where
  -- with the code of its error
  refused : ℤ → Command
  single : Change → Command
  multi : List Change → Command
  set_acl : Path → ℤ → Command
  -- with or without a watch
  stat_at : Path → Bool → Command
  get_content : Path → Bool → Command
  get_acl : Path → Command
  -- with or without a watch, and with or without a Stat
  get_children : Path → Bool → Bool → Command
  sync : Path → Command
  ping : Command
  -- what the client has seen, and the paths whose content, existence and children it watches
  set_watches : ℤ → List Path → List Path → List Path → Command
  close : Command

-- a null list has no paths
unfoldable pub AreTextsOf : Option (List (List ℕ)) → List Path → Type 0
AreTextsOf None ps = ps ≡ []
AreTextsOf (Some texts) ps = AllZip IsTextOf texts ps

-- flags of an ephemeral node
abbrev pub IsEphemeral : ℤ → Type 0
IsEphemeral flags = (flags ≡ pos 1) ⊎ (flags ≡ pos 3)

pub record IsCreate (r : CreateRequest) (p : Path) (n : List ℕ) (content : Option (List ℕ)) (sequential ephemeral : Bool) : Type 0 where
  pub named : IsNamed sequential r.path (n ∷ p)
  pub same_content : r.content ≡ content
  pub numbered : IsTrue sequential ↔ IsSequential r.flags
  pub kept : IsTrue ephemeral ↔ IsEphemeral r.flags

unfoldable pub IsChange : Op → Change → Type 0
IsChange (ops.Create r) (create p n content sequential ephemeral stat) = IsCreate r p n content sequential ephemeral × (stat ≡ false)
IsChange (ops.Create2 r) (create p n content sequential ephemeral stat) = IsCreate r p n content sequential ephemeral × (stat ≡ true)
IsChange (ops.Delete r) (delete p version) = IsTextOf r.path p × (r.version ≡ version)
IsChange (ops.SetContent r) (set_content p content version) = IsTextOf r.path p × (r.content ≡ content) × (r.version ≡ version)
IsChange (ops.Check r) (check p version) = IsTextOf r.path p × (r.version ≡ version)
IsChange op change = ⊥

-- what a request asks that is not refused
unfoldable pub Asks : Request → Command → Type 0
Asks (requests.Create r) (single (create p n content sequential ephemeral stat)) = IsCreate r p n content sequential ephemeral × (stat ≡ false)
Asks (requests.Create2 r) (single (create p n content sequential ephemeral stat)) = IsCreate r p n content sequential ephemeral × (stat ≡ true)
Asks (requests.Delete r) (single (delete p version)) = IsTextOf r.path p × (r.version ≡ version)
Asks (requests.Exists r) (stat_at p watch) = IsTextOf r.path p × (r.watch ≡ watch)
Asks (requests.GetContent r) (get_content p watch) = IsTextOf r.path p × (r.watch ≡ watch)
Asks (requests.SetContent r) (single (set_content p content version)) = IsTextOf r.path p × (r.content ≡ content) × (r.version ≡ version)
Asks (requests.GetAcl r) (get_acl p) = IsTextOf r.path p
Asks (requests.SetAcl r) (set_acl p version) = IsTextOf r.path p × (r.version ≡ version)
Asks (requests.GetChildren r) (get_children p watch stat) = IsTextOf r.path p × (r.watch ≡ watch) × (stat ≡ false)
Asks (requests.GetChildren2 r) (get_children p watch stat) = IsTextOf r.path p × (r.watch ≡ watch) × (stat ≡ true)
Asks (requests.Sync r) (sync p) = IsTextOf r.path p
Asks requests.Ping ping = Unit {0}
Asks (requests.Multi list) (multi changes) = AllZip IsChange list changes
Asks (requests.SetWatches r) (set_watches seen contents exist childs) = (r.seen ≡ seen) × AreTextsOf r.content_paths contents × AreTextsOf r.exist_paths exist × AreTextsOf r.child_paths childs
Asks requests.Close close = Unit {0}
Asks r command = ⊥

-- a refused request is its code, and each other one what it asks
unfoldable pub IsCommand : Request → Command → Type 0
IsCommand r command = ((code : ℤ) × Refuses r (Some code) × (command ≡ refused code)) ⊎ (Refuses r None × Asks r command)
