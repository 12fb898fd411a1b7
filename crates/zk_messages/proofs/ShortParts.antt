-- Requests with short parts.
use Rattle.std.proofs.Common.{◌≤◌, ◌^◌, ℕ, List, [], ◌∷◌, Option, Some, None, arith}
use Rattle.std.specs.Prelude.{All, sum_by}
use Rattle.std.proofs.lemmas.List.Elements.{All-nil, All-cons, All-weaker}
use Rattle.std.proofs.lemmas.List.Sums.{sum_by-cons}
use Rattle.jute_core.specs.Jute.{buffer, ustring, vector}
use Rattle.zk_messages.specs.Laws.{IsShortWhenRead}
use Rattle.zk_messages.specs.Refuses.{IsShortText, AreShortTexts, HasShortPath, HasShortPaths}
use Rattle.zk_messages.specs.Short.{IsShort, IsShortContent, AreShort, HasShortOpParts, HasShortParts}
use Rattle.zk_messages.specs.declared.request.Op.{Op}
use Rattle.zk_messages.specs.declared.request.Op.TheVariants as ops
use Rattle.zk_messages.specs.declared.request.Request.{Request}
use Rattle.zk_messages.specs.declared.request.Request.TheVariants as requests
use Rattle.zk_messages.proofs.Sizes.{size, op_size, request_size, body_size}

-- ---- their texts can be judged

judged : (text : List ℕ) → IsShort text → IsShortText text
judged text h = omega (arith, h)

list_judged : (list : Option (List (List ℕ))) → AreShort list → AreShortTexts list
list_judged None h = tt
list_judged (Some texts) h = All-weaker IsShort IsShortText judged texts h

op_judged : (op : Op) → HasShortOpParts op → HasShortPath op
unfolding HasShortOpParts
op_judged (ops.Create r) h = judged r.path h.0
op_judged (ops.Delete r) h = judged r.path h
op_judged (ops.SetContent r) h = judged r.path h.0
op_judged (ops.Check r) h = judged r.path h
op_judged (ops.Create2 r) h = judged r.path h.0

pub request_judged : (r : Request) → HasShortParts r → HasShortPaths r
unfolding HasShortParts
request_judged (requests.Create r) h = judged r.path h.0
request_judged (requests.Delete r) h = judged r.path h
request_judged (requests.Exists r) h = judged r.path h
request_judged (requests.GetContent r) h = judged r.path h
request_judged (requests.SetContent r) h = judged r.path h.0
request_judged (requests.GetAcl r) h = judged r.path h
request_judged (requests.SetAcl r) h = judged r.path h
request_judged (requests.GetChildren r) h = judged r.path h
request_judged (requests.GetChildren2 r) h = judged r.path h
request_judged (requests.Sync r) h = judged r.path h
request_judged requests.Ping h = tt
request_judged (requests.Multi list) h = All-weaker HasShortOpParts HasShortPath op_judged list h
request_judged (requests.SetWatches r) h = (list_judged _ h.0, list_judged _ h.1, list_judged _ h.2)
request_judged (requests.Auth body) h = tt
request_judged requests.Close h = tt
request_judged (requests.Create2 r) h = judged r.path h.0
request_judged (requests.Unknown kind body) h = tt

-- ---- what was read is no longer than its body

content_short : (d : Option (List ℕ)) → size buffer d ≤ 2 ^ 27 → IsShortContent d
content_short None h = tt
content_short (Some bytes) h = omega (arith, h)

each_short : {V : Type 0} (f : V → ℕ) (P : V → Type 0) → ((v : V) → f v ≤ 2 ^ 27 → P v) → (vs : List V) → sum_by f vs ≤ 2 ^ 27 → All P vs
each_short {V} f P one [] h = All-nil P
each_short {V} f P one (v ∷ vs) h =
    All-cons P v vs (one v (omega (arith, h, sum_by-cons f v vs))) (each_short f P one vs (omega (arith, h, sum_by-cons f v vs)))

text_short : (text : List ℕ) → size ustring text ≤ 2 ^ 27 → IsShort text
text_short text h = omega (arith, h)

list_short : (list : Option (List (List ℕ))) → size (vector ustring) list ≤ 2 ^ 27 → AreShort list
list_short None h = tt
list_short (Some texts) h = each_short (size ustring) IsShort text_short texts (omega (arith, h))

op_short : (op : Op) → op_size op ≤ 2 ^ 27 → HasShortOpParts op
unfolding HasShortOpParts
op_short (ops.Create r) h = (omega (arith, h), content_short r.content (omega (arith, h)))
op_short (ops.Delete r) h = omega (arith, h)
op_short (ops.SetContent r) h = (omega (arith, h), content_short r.content (omega (arith, h)))
op_short (ops.Check r) h = omega (arith, h)
op_short (ops.Create2 r) h = (omega (arith, h), content_short r.content (omega (arith, h)))

request_short : (r : Request) → request_size r ≤ 2 ^ 27 → HasShortParts r
unfolding HasShortParts
request_short (requests.Create r) h = (omega (arith, h), content_short r.content (omega (arith, h)))
request_short (requests.Delete r) h = omega (arith, h)
request_short (requests.Exists r) h = omega (arith, h)
request_short (requests.GetContent r) h = omega (arith, h)
request_short (requests.SetContent r) h = (omega (arith, h), content_short r.content (omega (arith, h)))
request_short (requests.GetAcl r) h = omega (arith, h)
request_short (requests.SetAcl r) h = omega (arith, h)
request_short (requests.GetChildren r) h = omega (arith, h)
request_short (requests.GetChildren2 r) h = omega (arith, h)
request_short (requests.Sync r) h = omega (arith, h)
request_short requests.Ping h = tt
request_short (requests.Multi list) h = each_short op_size HasShortOpParts op_short list (omega (arith, h))
request_short (requests.SetWatches r) h =
    (list_short r.content_paths (omega (arith, h)), list_short r.exist_paths (omega (arith, h)), list_short r.child_paths (omega (arith, h)))
request_short (requests.Auth body) h = tt
request_short requests.Close h = tt
request_short (requests.Create2 r) h = (omega (arith, h), content_short r.content (omega (arith, h)))
request_short (requests.Unknown kind body) h = tt

pub short_when_read : IsShortWhenRead
short_when_read xid r body short h = request_short r (omega (arith, short, body_size xid r body h))
