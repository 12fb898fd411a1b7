-- The types of requests and of a multi's operations (zookeeper.jute; their numbers are those of ZooDefs.OpCode in the Java
-- sources of ZooKeeper 3.4).
use Rattle.std.specs.Prelude.{ℤ, pos, negsuc, Option, Some, None}
use Rattle.zk_messages.specs.declared.kind.Kind.{Kind}
use Rattle.zk_messages.specs.declared.kind.Kind.TheVariants as kinds
use Rattle.zk_messages.specs.declared.kind.OpKind.{OpKind}
use Rattle.zk_messages.specs.declared.kind.OpKind.TheVariants as op_kinds
use Rattle.zk_messages.specs.declared.request.Request.{Request}
use Rattle.zk_messages.specs.declared.request.Request.TheVariants as requests
use Rattle.zk_messages.specs.declared.request.Op.{Op}
use Rattle.zk_messages.specs.declared.request.Op.TheVariants as ops

abbrev pub kind_number : Kind → ℤ
kind_number kinds.Create = pos 1
kind_number kinds.Delete = pos 2
kind_number kinds.Exists = pos 3
kind_number kinds.GetContent = pos 4
kind_number kinds.SetContent = pos 5
kind_number kinds.GetAcl = pos 6
kind_number kinds.SetAcl = pos 7
kind_number kinds.GetChildren = pos 8
kind_number kinds.Sync = pos 9
kind_number kinds.Ping = pos 11
kind_number kinds.GetChildren2 = pos 12
kind_number kinds.Multi = pos 14
kind_number kinds.Create2 = pos 15
kind_number kinds.Auth = pos 100
kind_number kinds.SetWatches = pos 101
kind_number kinds.Close = negsuc 10

-- the type of a request; an unknown one has none
abbrev pub kind_of : Request → Option Kind
kind_of (requests.Create r) = Some kinds.Create
kind_of (requests.Delete r) = Some kinds.Delete
kind_of (requests.Exists r) = Some kinds.Exists
kind_of (requests.GetContent r) = Some kinds.GetContent
kind_of (requests.SetContent r) = Some kinds.SetContent
kind_of (requests.GetAcl r) = Some kinds.GetAcl
kind_of (requests.SetAcl r) = Some kinds.SetAcl
kind_of (requests.GetChildren r) = Some kinds.GetChildren
kind_of (requests.GetChildren2 r) = Some kinds.GetChildren2
kind_of (requests.Sync r) = Some kinds.Sync
kind_of requests.Ping = Some kinds.Ping
kind_of (requests.Multi list) = Some kinds.Multi
kind_of (requests.SetWatches r) = Some kinds.SetWatches
kind_of (requests.Auth body) = Some kinds.Auth
kind_of requests.Close = Some kinds.Close
kind_of (requests.Create2 r) = Some kinds.Create2
kind_of (requests.Unknown number body) = None

abbrev pub op_number : OpKind → ℤ
op_number op_kinds.Create = pos 1
op_number op_kinds.Delete = pos 2
op_number op_kinds.SetContent = pos 5
op_number op_kinds.Check = pos 13
op_number op_kinds.Create2 = pos 15

abbrev pub op_kind_of : Op → OpKind
op_kind_of (ops.Create r) = op_kinds.Create
op_kind_of (ops.Delete r) = op_kinds.Delete
op_kind_of (ops.SetContent r) = op_kinds.SetContent
op_kind_of (ops.Check r) = op_kinds.Check
op_kind_of (ops.Create2 r) = op_kinds.Create2
