-- The names that the plain machine gives to sequential nodes (ZooKeeper Programmer's Guide, "Sequence Nodes -- Unique Naming").
use Rattle.std.specs.Prelude.{◌++◌, Some}
use Rattle.zk_path.specs.Numbers.{ten_digits}
use Rattle.tree_state.specs.Changes.{Naming}

-- the stem's last component, and the number in ten digits
unfoldable pub plain : Naming
plain p n i = Some (n ++ ten_digits i)
