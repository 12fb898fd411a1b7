-- Which bytes are a request, and where bytes that are none go wrong (zookeeper.jute; types and special xids from the Java
-- sources of ZooKeeper 3.4).
use Rattle.std.specs.Prelude.{◌≡◌, ◌≢◌, ◌⊎◌, ℕ, ℤ, pos, negsuc, List, ◌++◌, Option, Some, None}
use Rattle.std.specs.Option.{option_map_or}
use Rattle.jute_core.specs.Jute.{Spells, Refused}
use Rattle.jute_core.specs.declared.cursor.Reason.{Reason}
use Rattle.jute_core.specs.declared.cursor.Reason.TheVariants.{BadXid}
use Rattle.zk_records.specs.Headers.{request_header}
use Rattle.zk_records.specs.PathWatches.{path_watch_fields}
use Rattle.zk_records.specs.Requests.{create_fields, delete_fields, set_content_fields, path_only_fields, set_acl_fields, set_watches_fields}
use Rattle.zk_messages.specs.Kinds.{kind_number, kind_of}
use Rattle.zk_messages.specs.Forms.{FormValue, SpellsForm, RefusedForm, form_of_any}
use Rattle.zk_messages.specs.declared.kind.Kind.{Kind}
use Rattle.zk_messages.specs.declared.request.Request.{Request}
use Rattle.zk_messages.specs.declared.request.Request.TheVariants as requests

-- a number that no type has
abbrev pub IsUnknown : ℤ → Type 0
IsUnknown number = (kind : Kind) → number ≢ kind_number kind

-- the type with this number, which an unknown one has not
abbrev pub IsKind : ℤ → Option Kind → Type 0
IsKind number None = IsUnknown number
IsKind number (Some kind) = number ≡ kind_number kind

-- the number of a request's type, as its header has it
abbrev pub number_of : Request → ℤ
number_of (requests.Unknown number body) = number
number_of r = option_map_or kind_number (kind_of r) (pos 0)

-- what follows the header
abbrev pub fields_of : (r : Request) → FormValue (form_of_any (kind_of r))
fields_of (requests.Create r) = create_fields r
fields_of (requests.Delete r) = delete_fields r
fields_of (requests.Exists r) = path_watch_fields r
fields_of (requests.GetContent r) = path_watch_fields r
fields_of (requests.SetContent r) = set_content_fields r
fields_of (requests.GetAcl r) = path_only_fields r
fields_of (requests.SetAcl r) = set_acl_fields r
fields_of (requests.GetChildren r) = path_watch_fields r
fields_of (requests.GetChildren2 r) = path_watch_fields r
fields_of (requests.Sync r) = path_only_fields r
fields_of requests.Ping = tt
fields_of (requests.Multi list) = list
fields_of (requests.SetWatches r) = set_watches_fields r
fields_of (requests.Auth body) = body
fields_of requests.Close = tt
fields_of (requests.Create2 r) = create_fields r
fields_of (requests.Unknown kind body) = body

-- -1 is the xid of events, and -2 that of pings alone
abbrev pub MayHave : ℤ → ℤ → Type 0
MayHave xid kind = (xid ≢ negsuc 0) × (xid ≡ negsuc 1 → kind ≡ pos 11)

-- the body is this request with this xid
pub record SpellsRequest (xid : ℤ) (r : Request) (body : List ℕ) : Type 0 where
  pub numbered : IsKind (number_of r) (kind_of r)
  pub may : MayHave xid (number_of r)
  pub header : List ℕ
  pub rest : List ℕ
  pub head : Spells request_header (xid, number_of r) header
  pub tail : SpellsForm (form_of_any (kind_of r)) (fields_of r) rest
  pub cut : body ≡ header ++ rest

-- what is wrong behind a header: its xid, for which both ints are read first, or the body
abbrev pub IsBadBody : ℤ → ℤ → List ℕ → ℕ → Reason → Type 0
IsBadBody xid number rest place reason = ((MayHave xid number → ⊥) × (place ≡ 0) × (reason ≡ BadXid))
    ⊎ (MayHave xid number × (kind : Option Kind) × IsKind number kind × RefusedForm (form_of_any kind) 8 rest place reason)

pub record IsBadRequest (body : List ℕ) (place : ℕ) (reason : Reason) : Type 0 where
  pub xid : ℤ
  pub kind : ℤ
  pub header : List ℕ
  pub rest : List ℕ
  pub head : Spells request_header (xid, kind) header
  pub cut : body ≡ header ++ rest
  pub bad : IsBadBody xid kind rest place reason

-- the body is no request
abbrev pub RefusedRequest : List ℕ → ℕ → Reason → Type 0
RefusedRequest body place reason = Refused request_header 0 body place reason ⊎ IsBadRequest body place reason
