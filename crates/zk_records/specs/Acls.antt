-- ACL and Id of zookeeper.jute, and lists of them.
use Rattle.std.specs.Prelude.{◌<◌, ◌^◌, List, length, map, Option, All}
use Rattle.std.specs.Option.{option_map}
use Rattle.jute_core.specs.Jute.{Jute, Value, int, ustring, pair, vector}
use Rattle.zk_records.specs.declared.acl.Acl.{Acl}

-- perms, scheme, id
abbrev pub acl : Jute
acl = pair int (pair ustring ustring)

abbrev pub acl_fields : Acl → Value acl
acl_fields a = (a.perms, (a.scheme, a.id))

abbrev pub acls : Jute
acls = vector acl

-- null is None
abbrev pub acls_fields : Option (List Acl) → Value acls
acls_fields list = option_map (map acl_fields) list

-- the lengths of its texts are ints
pub record IsShortAcl (a : Acl) : Type 0 where
  pub scheme : length a.scheme < 2 ^ 31
  pub id : length a.id < 2 ^ 31

-- and so is the count of a list
pub record AreShortAcls (list : List Acl) : Type 0 where
  pub few : length list < 2 ^ 31
  pub each : All IsShortAcl list
