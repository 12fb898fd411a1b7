-- The records of requests, as zookeeper.jute has them. PathWatch has a file of its own.
use Rattle.std.specs.Prelude.{◌<◌, ◌^◌, length, IfSome}
use Rattle.jute_core.specs.Jute.{Jute, Value, int, long, buffer, ustring, pair, vector}
use Rattle.jute_core.specs.Lists.{AreShort}
use Rattle.zk_records.specs.Acls.{acls, acls_fields, AreShortAcls}
use Rattle.zk_records.specs.declared.create.CreateRequest.{CreateRequest}
use Rattle.zk_records.specs.declared.node.DeleteRequest.{DeleteRequest}
use Rattle.zk_records.specs.declared.node.CheckRequest.{CheckRequest}
use Rattle.zk_records.specs.declared.node.SetContentRequest.{SetContentRequest}
use Rattle.zk_records.specs.declared.node.PathOnly.{PathOnly}
use Rattle.zk_records.specs.declared.set_acl.SetAclRequest.{SetAclRequest}
use Rattle.zk_records.specs.declared.set_watches.SetWatches.{SetWatches}

-- CreateRequest: path, content, acls, flags
abbrev pub create_request : Jute
create_request = pair ustring (pair buffer (pair acls int))

abbrev pub create_fields : CreateRequest → Value create_request
create_fields r = (r.path, (r.content, (acls_fields r.acls, r.flags)))

-- DeleteRequest: path, version
abbrev pub delete_request : Jute
delete_request = pair ustring int

abbrev pub delete_fields : DeleteRequest → Value delete_request
delete_fields r = (r.path, r.version)

-- CheckVersionRequest: path, version
abbrev pub check_request : Jute
check_request = pair ustring int

abbrev pub check_fields : CheckRequest → Value check_request
check_fields r = (r.path, r.version)

-- SetDataRequest: path, content, version
abbrev pub set_content_request : Jute
set_content_request = pair ustring (pair buffer int)

abbrev pub set_content_fields : SetContentRequest → Value set_content_request
set_content_fields r = (r.path, (r.content, r.version))

-- GetACLRequest, SyncRequest and SyncResponse: path
abbrev pub path_only : Jute
path_only = ustring

abbrev pub path_only_fields : PathOnly → Value path_only
path_only_fields r = r.path

-- SetACLRequest: path, acls, version
abbrev pub set_acl_request : Jute
set_acl_request = pair ustring (pair acls int)

abbrev pub set_acl_fields : SetAclRequest → Value set_acl_request
set_acl_fields r = (r.path, (acls_fields r.acls, r.version))

-- SetWatches: seen, and the paths of three kinds of watches
abbrev pub set_watches : Jute
set_watches = pair long (pair (vector ustring) (pair (vector ustring) (vector ustring)))

abbrev pub set_watches_fields : SetWatches → Value set_watches
set_watches_fields r = (r.seen, (r.content_paths, (r.exist_paths, r.child_paths)))

-- the lengths and counts of a record are ints, as a write wants it
pub record IsShortCreate (r : CreateRequest) : Type 0 where
  pub path : length r.path < 2 ^ 31
  pub content : IfSome r.content (λ b. length b < 2 ^ 31)
  pub acls : IfSome r.acls AreShortAcls

pub record IsShortSetContent (r : SetContentRequest) : Type 0 where
  pub path : length r.path < 2 ^ 31
  pub content : IfSome r.content (λ b. length b < 2 ^ 31)

pub record IsShortSetAcl (r : SetAclRequest) : Type 0 where
  pub path : length r.path < 2 ^ 31
  pub acls : IfSome r.acls AreShortAcls

pub record IsShortSetWatches (r : SetWatches) : Type 0 where
  pub content_paths : IfSome r.content_paths AreShort
  pub exist_paths : IfSome r.exist_paths AreShort
  pub child_paths : IfSome r.child_paths AreShort
