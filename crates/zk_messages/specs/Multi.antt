-- A multi (zookeeper.jute, MultiHeader; MultiTransactionRecord and MultiResponse of the Java sources of ZooKeeper 3.4): a
-- header before each operation or result, and one at the end.
use Rattle.std.specs.Prelude.{◌≡◌, ◌≢◌, ◌⊎◌, ℕ, ℤ, pos, negsuc, ◌+◌, List, ◌++◌, Bool, true, false, Option, Some, None}
use Rattle.jute_core.specs.Jute.{Jute, Value, Spells, Refused, int, boolean, ustring, pair}
use Rattle.jute_core.specs.declared.cursor.Reason.{Reason}
use Rattle.jute_core.specs.declared.cursor.Reason.TheVariants.{BadType, BadHeader}
use Rattle.zk_records.specs.Requests.{create_request, create_fields, delete_request, delete_fields, set_content_request, set_content_fields, check_request, check_fields}
use Rattle.zk_records.specs.Stats.{stat, stat_fields}
use Rattle.zk_messages.specs.Kinds.{op_number, op_kind_of}
use Rattle.zk_messages.specs.Reading.{Ended, RefusedAmong}
use Rattle.zk_messages.specs.declared.kind.OpKind.{OpKind}
use Rattle.zk_messages.specs.declared.kind.OpKind.TheVariants as kinds
use Rattle.zk_messages.specs.declared.multi.MultiHeader.{MultiHeader}
use Rattle.zk_messages.specs.declared.request.Op.{Op}
use Rattle.zk_messages.specs.declared.request.Op.TheVariants as ops
use Rattle.zk_messages.specs.declared.reply.OpResult.{OpResult}
use Rattle.zk_messages.specs.declared.reply.OpResult.TheVariants as op_results

-- type, done, err
abbrev pub multi_header : Jute
multi_header = pair int (pair boolean int)

abbrev pub multi_header_fields : MultiHeader → Value multi_header
multi_header_fields h = (h.kind, (h.done, h.err))

-- the bytes are a header with these fields
abbrev pub IsHeader : ℤ → Bool → ℤ → List ℕ → Type 0
IsHeader kind done err b = Spells multi_header (kind, (done, err)) b

-- the header behind the last operation or result
abbrev pub IsEnd : List ℕ → Type 0
IsEnd b = IsHeader (negsuc 0) true (negsuc 0) b

-- the record of an operation
abbrev pub op_record : OpKind → Jute
op_record kinds.Create = create_request
op_record kinds.Delete = delete_request
op_record kinds.SetContent = set_content_request
op_record kinds.Check = check_request
op_record kinds.Create2 = create_request

abbrev pub op_fields : (op : Op) → Value (op_record (op_kind_of op))
op_fields (ops.Create r) = create_fields r
op_fields (ops.Delete r) = delete_fields r
op_fields (ops.SetContent r) = set_content_fields r
op_fields (ops.Check r) = check_fields r
op_fields (ops.Create2 r) = create_fields r

-- the bytes are this operation: the header (type, 0, -1) and the record
unfoldable pub SpellsOp : Op → List ℕ → Type 0
SpellsOp op b = Spells (pair multi_header (op_record (op_kind_of op))) ((op_number (op_kind_of op), (false, negsuc 0)), op_fields op) b

-- the bytes are this result: the header (type, 0, 0) and what belongs to the type, or (-1, 0, code) and the code again
unfoldable pub SpellsResult : OpResult → List ℕ → Type 0
SpellsResult (op_results.Created path) b = Spells (pair multi_header ustring) ((pos 1, (false, pos 0)), path) b
SpellsResult op_results.Deleted b = IsHeader (pos 2) false (pos 0) b
SpellsResult (op_results.Changed s) b = Spells (pair multi_header stat) ((pos 5, (false, pos 0)), stat_fields s) b
SpellsResult op_results.Checked b = IsHeader (pos 13) false (pos 0) b
SpellsResult (op_results.Error code) b = Spells (pair multi_header int) ((negsuc 0, (false, code)), code) b
SpellsResult (op_results.Created2 path s) b = Spells (pair multi_header (pair ustring stat)) ((pos 15, (false, pos 0)), (path, stat_fields s)) b

abbrev pub SpellsOps : List Op → List ℕ → Type 0
SpellsOps list b = Ended SpellsOp IsEnd list b

abbrev pub SpellsResults : List OpResult → List ℕ → Type 0
SpellsResults list b = Ended SpellsResult IsEnd list b

-- Refusals. A header is judged once its three fields were read: first whether it is the end, then its type, then done, then
-- err. Done is its fifth byte, and err begins at its sixth.

-- the type is none of the operations
abbrev pub IsNoOp : ℤ → Type 0
IsNoOp kind = (kind ≢ negsuc 0) × ((k : OpKind) → kind ≢ op_number k)

abbrev pub IsBadErr : ℤ → ℤ → ℕ → ℕ → Reason → Type 0
IsBadErr wanted err at place reason = (err ≢ wanted) × (place ≡ at + 5) × (reason ≡ BadHeader)

-- done, and then err, has to be as wanted
abbrev pub IsBadMark : Bool → ℤ → Bool → ℤ → ℕ → ℕ → Reason → Type 0
IsBadMark wanted_done wanted_err done err at place reason = ((done ≢ wanted_done) × (place ≡ at + 4) × (reason ≡ BadHeader))
    ⊎ ((done ≡ wanted_done) × IsBadErr wanted_err err at place reason)

-- behind a header with these fields, of which the first byte has the place `at`, there is no operation
abbrev pub IsBadOp : ℤ → Bool → ℤ → List ℕ → ℕ → ℕ → Reason → Type 0
IsBadOp kind done err left at place reason = ((kind ≡ negsuc 0) × IsBadMark true (negsuc 0) done err at place reason)
    ⊎ (IsNoOp kind × (place ≡ at) × (reason ≡ BadType))
    ⊎ ((k : OpKind) × (kind ≡ op_number k) × IsBadMark false (negsuc 0) done err at place reason)
    ⊎ ((k : OpKind) × (kind ≡ op_number k) × (done ≡ false) × (err ≡ negsuc 0) × Refused (op_record k) (at + 9) left place reason)

-- the code that stands again behind the header of an error
abbrev pub IsBadRepeat : ℤ → ℕ → List ℕ → ℕ → Reason → Type 0
IsBadRepeat err at b place reason = Refused int at b place reason
    ⊎ ((z : ℤ) × (x y : List ℕ) × Spells int z x × (b ≡ x ++ y) × (z ≢ err) × (place ≡ at) × (reason ≡ BadHeader))

-- what belongs to the result of an operation
abbrev pub result_record : OpKind → Option Jute
result_record kinds.Create = Some ustring
result_record kinds.Delete = None
result_record kinds.SetContent = Some stat
result_record kinds.Check = None
result_record kinds.Create2 = Some (pair ustring stat)

abbrev pub RefusedIfAny : Option Jute → ℕ → List ℕ → ℕ → Reason → Type 0
RefusedIfAny None at b place reason = ⊥
RefusedIfAny (Some t) at b place reason = Refused t at b place reason

-- and there is no result
abbrev pub IsBadResult : ℤ → Bool → ℤ → List ℕ → ℕ → ℕ → Reason → Type 0
IsBadResult kind done err left at place reason = ((kind ≡ negsuc 0) × (done ≡ true) × IsBadErr (negsuc 0) err at place reason)
    ⊎ ((kind ≡ negsuc 0) × (done ≡ false) × IsBadRepeat err (at + 9) left place reason)
    ⊎ (IsNoOp kind × (place ≡ at) × (reason ≡ BadType))
    ⊎ ((k : OpKind) × (kind ≡ op_number k) × IsBadMark false (pos 0) done err at place reason)
    ⊎ ((k : OpKind) × (kind ≡ op_number k) × (done ≡ false) × (err ≡ pos 0) × RefusedIfAny (result_record k) (at + 9) left place reason)

-- bytes that begin with a header, behind which something is wrong
pub record BehindHeader (IsBad : ℤ → Bool → ℤ → List ℕ → ℕ → ℕ → Reason → Type 0) (at : ℕ) (b : List ℕ) (place : ℕ) (reason : Reason) : Type 0 where
  pub kind : ℤ
  pub done : Bool
  pub err : ℤ
  pub header : List ℕ
  pub left : List ℕ
  pub head : IsHeader kind done err header
  pub cut : b ≡ header ++ left
  pub bad : IsBad kind done err left at place reason

-- the bytes begin neither with an operation nor with the end
abbrev pub RefusedOp : ℕ → List ℕ → ℕ → Reason → Type 0
RefusedOp at b place reason = Refused multi_header at b place reason ⊎ BehindHeader IsBadOp at b place reason

abbrev pub RefusedResult : ℕ → List ℕ → ℕ → Reason → Type 0
RefusedResult at b place reason = Refused multi_header at b place reason ⊎ BehindHeader IsBadResult at b place reason

abbrev pub RefusedOps : ℕ → List ℕ → ℕ → Reason → Type 0
RefusedOps at b place reason = RefusedAmong SpellsOp RefusedOp at b place reason

abbrev pub RefusedResults : ℕ → List ℕ → ℕ → Reason → Type 0
RefusedResults at b place reason = RefusedAmong SpellsResult RefusedResult at b place reason
