use Rattle.zk_records.specs.PathWatches.{path_watch}
use Rattle.zk_records.specs.Requests.{create_request, delete_request, set_content_request, path_only, set_acl_request, set_watches}
use Rattle.zk_messages.proofs.Requests.{put_is, nothing_is, fields_put, nothing_added, operations_put, unread_put}
use Rattle.zk_messages.proofs.asking.put_fields.Goals as goal

pub returns-in-Create-clause-ok : goal.returns-in-Create-clause-ok
returns-in-Create-clause-ok c = put_is _ _ _ _ _ c.in-Create.is (fields_put create_request _ _ _ _ c.write.ensures)

pub returns-in-Delete-clause-ok : goal.returns-in-Delete-clause-ok
returns-in-Delete-clause-ok c = put_is _ _ _ _ _ c.in-Delete.is (fields_put delete_request _ _ _ _ c.write-in-Delete.ensures)

pub returns-in-Exists-clause-ok : goal.returns-in-Exists-clause-ok
returns-in-Exists-clause-ok c = put_is _ _ _ _ _ c.in-Exists.is (fields_put path_watch _ _ _ _ c.write-in-Exists.ensures)

pub returns-in-GetContent-clause-ok : goal.returns-in-GetContent-clause-ok
returns-in-GetContent-clause-ok c = put_is _ _ _ _ _ c.in-GetContent.is (fields_put path_watch _ _ _ _ c.write-in-GetContent.ensures)

pub returns-in-SetContent-clause-ok : goal.returns-in-SetContent-clause-ok
returns-in-SetContent-clause-ok c = put_is _ _ _ _ _ c.in-SetContent.is (fields_put set_content_request _ _ _ _ c.write-in-SetContent.ensures)

pub returns-in-GetAcl-clause-ok : goal.returns-in-GetAcl-clause-ok
returns-in-GetAcl-clause-ok c = put_is _ _ _ _ _ c.in-GetAcl.is (fields_put path_only _ _ _ _ c.write-in-GetAcl.ensures)

pub returns-in-SetAcl-clause-ok : goal.returns-in-SetAcl-clause-ok
returns-in-SetAcl-clause-ok c = put_is _ _ _ _ _ c.in-SetAcl.is (fields_put set_acl_request _ _ _ _ c.write-in-SetAcl.ensures)

pub returns-in-GetChildren-clause-ok : goal.returns-in-GetChildren-clause-ok
returns-in-GetChildren-clause-ok c = put_is _ _ _ _ _ c.in-GetChildren.is (fields_put path_watch _ _ _ _ c.write-in-GetChildren.ensures)

pub returns-in-GetChildren2-clause-ok : goal.returns-in-GetChildren2-clause-ok
returns-in-GetChildren2-clause-ok c = put_is _ _ _ _ _ c.in-GetChildren2.is (fields_put path_watch _ _ _ _ c.write-in-GetChildren2.ensures)

pub returns-in-Sync-clause-ok : goal.returns-in-Sync-clause-ok
returns-in-Sync-clause-ok c = put_is _ _ _ _ _ c.in-Sync.is (fields_put path_only _ _ _ _ c.write-in-Sync.ensures)

pub returns-in-SetWatches-clause-ok : goal.returns-in-SetWatches-clause-ok
returns-in-SetWatches-clause-ok c = put_is _ _ _ _ _ c.in-SetWatches.is (fields_put set_watches _ _ _ _ c.write-in-SetWatches.ensures)

pub returns-in-Ping-clause-ok : goal.returns-in-Ping-clause-ok
returns-in-Ping-clause-ok c = nothing_is _ _ _ c.in-Ping.is (nothing_added _)

pub returns-in-Close-clause-ok : goal.returns-in-Close-clause-ok
returns-in-Close-clause-ok c = nothing_is _ _ _ c.in-Close.is (nothing_added _)

pub returns-in-Create2-clause-ok : goal.returns-in-Create2-clause-ok
returns-in-Create2-clause-ok c = put_is _ _ _ _ _ c.in-Create2.is (fields_put create_request _ _ _ _ c.write-in-Create2.ensures)

pub returns-in-Multi-clause-ok : goal.returns-in-Multi-clause-ok
returns-in-Multi-clause-ok c = put_is _ _ _ _ _ c.in-Multi.is (operations_put _ _ _ _ (rw c.as_slice.ensures at c.put_ops.ensures.ok))

pub returns-in-Auth-clause-ok : goal.returns-in-Auth-clause-ok
returns-in-Auth-clause-ok c = put_is _ _ _ _ _ c.in-Auth.is (unread_put _ _ _ _ c.put_unread.ensures.ok)

pub returns-in-Unknown-clause-ok : goal.returns-in-Unknown-clause-ok
returns-in-Unknown-clause-ok c = put_is _ _ _ _ _ c.in-Unknown.is (unread_put _ _ _ _ c.put_unread-in-Unknown.ensures.ok)
