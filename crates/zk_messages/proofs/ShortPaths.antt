-- What can be written can be judged.
use Rattle.std.proofs.Common.{ℕ, ◌<◌, ◌^◌, List, length, Option, Some, None, arith}
use Rattle.std.specs.Prelude.{IfSome}
use Rattle.std.proofs.lemmas.List.Elements.{All-weaker}
use Rattle.jute_core.specs.Lists.{AreShort}
use Rattle.zk_messages.specs.Refuses.{IsShortText, AreShortTexts, HasShortPath, HasShortPaths}
use Rattle.zk_messages.specs.Sending.{IsShortOp, IsShortRequest}
use Rattle.zk_messages.specs.declared.request.Op.{Op}
use Rattle.zk_messages.specs.declared.request.Op.TheVariants as ops
use Rattle.zk_messages.specs.declared.request.Request.{Request}
use Rattle.zk_messages.specs.declared.request.Request.TheVariants as requests

below : (text : List ℕ) → length text < 2 ^ 31 → IsShortText text
below text h = omega (arith, h)

texts_below : (list : Option (List (List ℕ))) → IfSome list AreShort → AreShortTexts list
texts_below None h = tt
texts_below (Some texts) h = All-weaker (λ t. length t < 2 ^ 31) IsShortText below texts h.each

op_below : (op : Op) → IsShortOp op → HasShortPath op
op_below (ops.Create r) h = below r.path h.path
op_below (ops.Delete r) h = below r.path h
op_below (ops.SetContent r) h = below r.path h.path
op_below (ops.Check r) h = below r.path h
op_below (ops.Create2 r) h = below r.path h.path

pub short_paths : (r : Request) → IsShortRequest r → HasShortPaths r
short_paths (requests.Unknown kind body) h = tt
short_paths (requests.Auth body) h = tt
short_paths (requests.Create r) h = below r.path h.path
short_paths (requests.Delete r) h = below r.path h
short_paths (requests.Exists r) h = below r.path h
short_paths (requests.GetContent r) h = below r.path h
short_paths (requests.SetContent r) h = below r.path h.path
short_paths (requests.GetAcl r) h = below r.path h
short_paths (requests.SetAcl r) h = below r.path h.path
short_paths (requests.GetChildren r) h = below r.path h
short_paths (requests.GetChildren2 r) h = below r.path h
short_paths (requests.Sync r) h = below r.path h
short_paths requests.Ping h = tt
short_paths (requests.Multi list) h = All-weaker IsShortOp HasShortPath op_below list h
short_paths (requests.SetWatches r) h = (texts_below r.content_paths h.content_paths, texts_below r.exist_paths h.exist_paths, texts_below r.child_paths h.child_paths)
short_paths requests.Close h = tt
short_paths (requests.Create2 r) h = below r.path h.path
