-- How many bytes spell a request.
use Rattle.std.proofs.Common.{◌≡◌, ◌+◌, ℕ, ℤ, true, false, List, [], ◌∷◌, length, length-append, Some, None, ap, arith}
use Rattle.std.specs.Prelude.{sum_by}
use Rattle.std.proofs.lemmas.List.Sums.{sum_by-cons}
use Rattle.jute_core.specs.Jute.{Jute, Value, Spells, IsSized, Each, int, long, boolean, buffer, ustring, count, pair, vector}
use Rattle.zk_records.specs.Headers.{request_header}
use Rattle.zk_records.specs.PathWatches.{path_watch, path_watch_fields}
use Rattle.zk_records.specs.Requests.{create_request, create_fields, delete_request, delete_fields, set_content_request, set_content_fields, path_only, path_only_fields, set_acl_request, set_acl_fields, set_watches, set_watches_fields}
use Rattle.zk_messages.specs.Forms.{SpellsForm, form_of_any}
use Rattle.zk_messages.specs.Kinds.{kind_of, op_kind_of}
use Rattle.zk_messages.specs.Multi.{SpellsOp, SpellsOps, op_record, op_fields}
use Rattle.zk_messages.specs.Requests.{SpellsRequest, fields_of, number_of}
use Rattle.zk_messages.specs.declared.request.Op.{Op}
use Rattle.zk_messages.specs.declared.request.Request.{Request}
use Rattle.zk_messages.specs.declared.request.Request.TheVariants as requests

-- ---- how many bytes spell a value

abbrev pub size : (t : Jute) → Value t → ℕ
size int z = 4
size long z = 8
size boolean b = 1
size buffer None = 4
size buffer (Some bytes) = length bytes + 4
size ustring text = length text + 4
size count n = 4
size (pair s t) v = size s v.0 + size t v.1
size (vector t) None = 4
size (vector t) (Some vs) = sum_by (size t) vs + 4

sized : (bytes b : List ℕ) → IsSized bytes b → length b ≡ length bytes + 4
sized bytes b h =
    let head : length h.0 ≡ 4 = ap length h.1.1 in
    omega (arith, head, ap length h.2, length-append h.0 bytes)

each_size : {V : Type 0} (R : V → List ℕ → Type 0) (f : V → ℕ) → ((v : V) (b : List ℕ) → R v b → length b ≡ f v) → (vs : List V) (b : List ℕ) → Each R vs b → length b ≡ sum_by f vs
each_size {V} R f one [] b h = ap length h
each_size {V} R f one (v ∷ vs) b h =
    omega (arith, ap length h.4, length-append h.0 h.1, one v h.0 h.2, each_size R f one vs h.1 h.3, sum_by-cons f v vs)

pub spelled_size : (t : Jute) (v : Value t) (b : List ℕ) → Spells t v b → length b ≡ size t v
unfolding Spells
spelled_size int z b h = ap length h.1
spelled_size long z b h = ap length h.1
spelled_size boolean true b h = ap length h
spelled_size boolean false b h = ap length h
spelled_size buffer None b h = ap length h
spelled_size buffer (Some bytes) b h = sized bytes b h
spelled_size ustring text b h = sized text b h.0
spelled_size count None b h = ap length h
spelled_size count (Some n) b h = ap length h.1
spelled_size (pair s t) v b h = omega (arith, ap length h.4, length-append h.0 h.1, spelled_size s v.0 h.0 h.2, spelled_size t v.1 h.1 h.3)
spelled_size (vector t) None b h = ap length h
spelled_size (vector t) (Some vs) b h =
    let head : length h.0 ≡ 4 = ap length h.2.1 in
    omega (arith, head, ap length h.4, length-append h.0 h.1, each_size (Spells t) (size t) (spelled_size t) vs h.1 h.3)

-- ---- operations, each behind its header of 9 bytes

abbrev pub op_size : Op → ℕ
op_size op = 9 + size (op_record (op_kind_of op)) (op_fields op)

op_spelled_size : (op : Op) (b : List ℕ) → SpellsOp op b → length b ≡ op_size op
unfolding SpellsOp
op_spelled_size op b h = spelled_size (pair (pair int (pair boolean int)) (op_record (op_kind_of op))) _ b h

ops_spelled_size : (list : List Op) (b : List ℕ) → SpellsOps list b → length b ≡ sum_by op_size list + 9
ops_spelled_size list b h = omega (
  arith,
  ap length h.cut,
  length-append h.items h.last,
  each_size SpellsOp op_size op_spelled_size list h.items h.each,
  spelled_size (pair int (pair boolean int)) _ h.last h.ended,
)

-- ---- requests, each behind its header of 8 bytes

abbrev pub request_size : Request → ℕ
request_size (requests.Create r) = size create_request (create_fields r)
request_size (requests.Delete r) = size delete_request (delete_fields r)
request_size (requests.Exists r) = size path_watch (path_watch_fields r)
request_size (requests.GetContent r) = size path_watch (path_watch_fields r)
request_size (requests.SetContent r) = size set_content_request (set_content_fields r)
request_size (requests.GetAcl r) = size path_only (path_only_fields r)
request_size (requests.SetAcl r) = size set_acl_request (set_acl_fields r)
request_size (requests.GetChildren r) = size path_watch (path_watch_fields r)
request_size (requests.GetChildren2 r) = size path_watch (path_watch_fields r)
request_size (requests.Sync r) = size path_only (path_only_fields r)
request_size requests.Ping = 0
request_size (requests.Multi list) = sum_by op_size list + 9
request_size (requests.SetWatches r) = size set_watches (set_watches_fields r)
request_size (requests.Auth body) = length body
request_size requests.Close = 0
request_size (requests.Create2 r) = size create_request (create_fields r)
request_size (requests.Unknown kind body) = length body

rest_size : (r : Request) (b : List ℕ) → SpellsForm (form_of_any (kind_of r)) (fields_of r) b → length b ≡ request_size r
unfolding SpellsForm
rest_size (requests.Create r) b h = spelled_size create_request (create_fields r) b h
rest_size (requests.Delete r) b h = spelled_size delete_request (delete_fields r) b h
rest_size (requests.Exists r) b h = spelled_size path_watch (path_watch_fields r) b h
rest_size (requests.GetContent r) b h = spelled_size path_watch (path_watch_fields r) b h
rest_size (requests.SetContent r) b h = spelled_size set_content_request (set_content_fields r) b h
rest_size (requests.GetAcl r) b h = spelled_size path_only (path_only_fields r) b h
rest_size (requests.SetAcl r) b h = spelled_size set_acl_request (set_acl_fields r) b h
rest_size (requests.GetChildren r) b h = spelled_size path_watch (path_watch_fields r) b h
rest_size (requests.GetChildren2 r) b h = spelled_size path_watch (path_watch_fields r) b h
rest_size (requests.Sync r) b h = spelled_size path_only (path_only_fields r) b h
rest_size requests.Ping b h = ap length h
rest_size (requests.Multi list) b h = ops_spelled_size list b h
rest_size (requests.SetWatches r) b h = spelled_size set_watches (set_watches_fields r) b h
rest_size (requests.Auth body) b h = ap length h
rest_size requests.Close b h = ap length h
rest_size (requests.Create2 r) b h = spelled_size create_request (create_fields r) b h
rest_size (requests.Unknown kind body) b h = ap length h

pub body_size : (xid : ℤ) (r : Request) (b : List ℕ) → SpellsRequest xid r b → length b ≡ request_size r + 8
body_size xid r b h = omega (
  arith,
  ap length h.cut,
  length-append h.header h.rest,
  spelled_size request_header (xid, number_of r) h.header h.head,
  rest_size r h.rest h.tail,
)
