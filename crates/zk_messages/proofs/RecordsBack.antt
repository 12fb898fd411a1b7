-- Records, from their fields.
use Rattle.std.proofs.Common.{◌≡◌, List, [], ◌∷◌, Option, Some, None, refl, ap}
use Rattle.std.specs.Prelude.{map}
use Rattle.std.specs.Option.{option_map}
use Rattle.jute_core.specs.Jute.{Value}
use Rattle.zk_records.specs.Acls.{acl, acl_fields, acls, acls_fields}
use Rattle.zk_records.specs.PathWatches.{path_watch}
use Rattle.zk_records.specs.Requests.{create_request, create_fields, delete_request, set_content_request, check_request, path_only, set_acl_request, set_acl_fields, set_watches}
use Rattle.zk_records.specs.Stats.{stat}
use Rattle.zk_records.specs.declared.acl.Acl.{Acl}
use Rattle.zk_records.specs.declared.create.CreateRequest.{CreateRequest}
use Rattle.zk_records.specs.declared.node.DeleteRequest.{DeleteRequest}
use Rattle.zk_records.specs.declared.node.CheckRequest.{CheckRequest}
use Rattle.zk_records.specs.declared.node.SetContentRequest.{SetContentRequest}
use Rattle.zk_records.specs.declared.node.PathOnly.{PathOnly}
use Rattle.zk_records.specs.declared.path_watch.PathWatch.{PathWatch}
use Rattle.zk_records.specs.declared.set_acl.SetAclRequest.{SetAclRequest}
use Rattle.zk_records.specs.declared.set_watches.SetWatches.{SetWatches}
use Rattle.zk_records.specs.declared.stat.Stat.{Stat}

abbrev acl_of : Value acl → Acl
acl_of v = record { perms = v.0; scheme = v.1.0; id = v.1.1 }

acl_list_back : (list : List Acl) → map acl_of (map acl_fields list) ≡ list
acl_list_back [] = refl
acl_list_back (a ∷ more) = ap (λ (l : List Acl). a ∷ l) (acl_list_back more)

abbrev pub acls_of : Value acls → Option (List Acl)
acls_of list = option_map (map acl_of) list

pub acls_back : (list : Option (List Acl)) → acls_of (acls_fields list) ≡ list
acls_back None = refl
acls_back (Some list) = ap Some (acl_list_back list)

abbrev pub create_of : Value create_request → CreateRequest
create_of v = record { path = v.0; content = v.1.0; acls = acls_of v.1.1.0; flags = v.1.1.1 }

abbrev create_with : CreateRequest → Option (List Acl) → CreateRequest
create_with r list = record { path = r.path; content = r.content; acls = list; flags = r.flags }

pub create_back : (r : CreateRequest) → create_of (create_fields r) ≡ r
create_back r = ap (create_with r) (acls_back r.acls)

abbrev pub set_acl_of : Value set_acl_request → SetAclRequest
set_acl_of v = record { path = v.0; acls = acls_of v.1.0; version = v.1.1 }

abbrev set_acl_with : SetAclRequest → Option (List Acl) → SetAclRequest
set_acl_with r list = record { path = r.path; acls = list; version = r.version }

pub set_acl_back : (r : SetAclRequest) → set_acl_of (set_acl_fields r) ≡ r
set_acl_back r = ap (set_acl_with r) (acls_back r.acls)

abbrev pub delete_of : Value delete_request → DeleteRequest
delete_of v = record { path = v.0; version = v.1 }

abbrev pub check_of : Value check_request → CheckRequest
check_of v = record { path = v.0; version = v.1 }

abbrev pub set_content_of : Value set_content_request → SetContentRequest
set_content_of v = record { path = v.0; content = v.1.0; version = v.1.1 }

abbrev pub path_only_of : Value path_only → PathOnly
path_only_of v = record { path = v }

abbrev pub path_watch_of : Value path_watch → PathWatch
path_watch_of v = record { path = v.0; watch = v.1 }

abbrev pub set_watches_of : Value set_watches → SetWatches
set_watches_of v = record { seen = v.0; content_paths = v.1.0; exist_paths = v.1.1.0; child_paths = v.1.1.1 }

abbrev pub stat_of : Value stat → Stat
stat_of v = record {
  czxid = v.0;
  mzxid = v.1.0;
  ctime = v.1.1.0;
  mtime = v.1.1.1.0;
  version = v.1.1.1.1.0;
  cversion = v.1.1.1.1.1.0;
  aversion = v.1.1.1.1.1.1.0;
  owner = v.1.1.1.1.1.1.1.0;
  length = v.1.1.1.1.1.1.1.1.0;
  children = v.1.1.1.1.1.1.1.1.1.0;
  pzxid = v.1.1.1.1.1.1.1.1.1.1;
}
