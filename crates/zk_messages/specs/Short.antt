-- Requests of which each text and buffer has at most 2 ^ 27 bytes. Frames are far shorter.
use Rattle.std.specs.Prelude.{◌≤◌, ◌^◌, ℕ, List, length, Option, IfSome, All}
use Rattle.zk_messages.specs.declared.request.Op.{Op}
use Rattle.zk_messages.specs.declared.request.Op.TheVariants as ops
use Rattle.zk_messages.specs.declared.request.Request.{Request}
use Rattle.zk_messages.specs.declared.request.Request.TheVariants as requests

-- a text or a buffer
abbrev pub IsShort : List ℕ → Type 0
IsShort bytes = length bytes ≤ 2 ^ 27

abbrev pub IsShortContent : Option (List ℕ) → Type 0
IsShortContent content = IfSome content IsShort

abbrev pub AreShort : Option (List (List ℕ)) → Type 0
AreShort texts = IfSome texts (All IsShort)

unfoldable pub HasShortOpParts : Op → Type 0
HasShortOpParts (ops.Create r) = IsShort r.path × IsShortContent r.content
HasShortOpParts (ops.Delete r) = IsShort r.path
HasShortOpParts (ops.SetContent r) = IsShort r.path × IsShortContent r.content
HasShortOpParts (ops.Check r) = IsShort r.path
HasShortOpParts (ops.Create2 r) = IsShort r.path × IsShortContent r.content

unfoldable pub HasShortParts : Request → Type 0
HasShortParts (requests.Create r) = IsShort r.path × IsShortContent r.content
HasShortParts (requests.Delete r) = IsShort r.path
HasShortParts (requests.Exists r) = IsShort r.path
HasShortParts (requests.GetContent r) = IsShort r.path
HasShortParts (requests.SetContent r) = IsShort r.path × IsShortContent r.content
HasShortParts (requests.GetAcl r) = IsShort r.path
HasShortParts (requests.SetAcl r) = IsShort r.path
HasShortParts (requests.GetChildren r) = IsShort r.path
HasShortParts (requests.GetChildren2 r) = IsShort r.path
HasShortParts (requests.Sync r) = IsShort r.path
HasShortParts requests.Ping = Unit {0}
HasShortParts (requests.Multi list) = All HasShortOpParts list
HasShortParts (requests.SetWatches r) = AreShort r.content_paths × AreShort r.exist_paths × AreShort r.child_paths
HasShortParts (requests.Auth body) = Unit {0}
HasShortParts requests.Close = Unit {0}
HasShortParts (requests.Create2 r) = IsShort r.path × IsShortContent r.content
HasShortParts (requests.Unknown kind body) = Unit {0}
