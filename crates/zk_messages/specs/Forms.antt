-- What follows the header of a request or reply, by its type.
use Rattle.std.specs.Prelude.{◌≡◌, ◌⊎◌, ℕ, ◌+◌, ◌<◌, List, [], ◌++◌, length, Option, Some, None}
use Rattle.jute_core.specs.Jute.{Jute, Value, Spells, Refused, buffer, ustring, pair, vector}
use Rattle.jute_core.specs.declared.cursor.Reason.{Reason}
use Rattle.jute_core.specs.declared.cursor.Reason.TheVariants.{Trailing}
use Rattle.zk_records.specs.Acls.{acls}
use Rattle.zk_records.specs.PathWatches.{path_watch}
use Rattle.zk_records.specs.Requests.{create_request, delete_request, set_content_request, path_only, set_acl_request, set_watches}
use Rattle.zk_records.specs.Stats.{stat}
use Rattle.zk_messages.specs.Multi.{SpellsOps, SpellsResults, RefusedOps, RefusedResults}
use Rattle.zk_messages.specs.declared.kind.Kind.{Kind}
use Rattle.zk_messages.specs.declared.kind.Kind.TheVariants as kinds
use Rattle.zk_messages.specs.declared.request.Op.{Op}
use Rattle.zk_messages.specs.declared.reply.OpResult.{OpResult}
use Rattle.zk_messages.specs.declared.reply.Shape.{Shape}
use Rattle.zk_messages.specs.declared.reply.Shape.TheVariants as shapes

-- a record, nothing, the operations of a multi or their results, or bytes that are not read
pub data Form : Type 0 where
  fields : Jute → Form
  nothing : Form
  operations : Form
  results : Form
  unread : Form

abbrev pub FormValue : Form → Type 0
FormValue (fields t) = Value t
FormValue nothing = Unit {0}
FormValue operations = List Op
FormValue results = List OpResult
FormValue unread = List ℕ

-- the bytes are this value
unfoldable pub SpellsForm : (f : Form) → FormValue f → List ℕ → Type 0
SpellsForm (fields t) v b = Spells t v b
SpellsForm nothing v b = b ≡ []
SpellsForm operations list b = SpellsOps list b
SpellsForm results list b = SpellsResults list b
SpellsForm unread bytes b = b ≡ bytes

-- the bytes begin with no value
abbrev pub RefusedFront : Form → ℕ → List ℕ → ℕ → Reason → Type 0
RefusedFront (fields t) at b place reason = Refused t at b place reason
RefusedFront nothing at b place reason = ⊥
RefusedFront operations at b place reason = RefusedOps at b place reason
RefusedFront results at b place reason = RefusedResults at b place reason
RefusedFront unread at b place reason = ⊥

-- bytes follow the value
pub record IsFollowed (f : Form) (at : ℕ) (b : List ℕ) (place : ℕ) (reason : Reason) : Type 0 where
  pub value : FormValue f
  pub bytes : List ℕ
  pub more : List ℕ
  pub spelled : SpellsForm f value bytes
  pub cut : b ≡ bytes ++ more
  pub some : 0 < length more
  pub found : place ≡ at + length bytes
  pub why : reason ≡ Trailing

-- the bytes are no value, or bytes follow it; what is not read is never refused
unfoldable pub RefusedForm : Form → ℕ → List ℕ → ℕ → Reason → Type 0
RefusedForm unread at b place reason = ⊥
RefusedForm f at b place reason = RefusedFront f at b place reason ⊎ IsFollowed f at b place reason

-- the bodies of requests
abbrev pub form_of : Kind → Form
form_of kinds.Create = fields create_request
form_of kinds.Delete = fields delete_request
form_of kinds.Exists = fields path_watch
form_of kinds.GetContent = fields path_watch
form_of kinds.SetContent = fields set_content_request
form_of kinds.GetAcl = fields path_only
form_of kinds.SetAcl = fields set_acl_request
form_of kinds.GetChildren = fields path_watch
form_of kinds.Sync = fields path_only
form_of kinds.Ping = nothing
form_of kinds.GetChildren2 = fields path_watch
form_of kinds.Multi = operations
form_of kinds.Create2 = fields create_request
form_of kinds.Auth = unread
form_of kinds.SetWatches = fields set_watches
form_of kinds.Close = nothing

-- an unknown request's body is not read
abbrev pub form_of_any : Option Kind → Form
form_of_any None = unread
form_of_any (Some kind) = form_of kind

-- the bodies of replies without error
abbrev pub form_of_shape : Shape → Form
form_of_shape shapes.Empty = nothing
form_of_shape shapes.Path = fields ustring
form_of_shape shapes.Stat = fields stat
form_of_shape shapes.Content = fields (pair buffer stat)
form_of_shape shapes.Acls = fields (pair acls stat)
form_of_shape shapes.Children = fields (vector ustring)
form_of_shape shapes.Children2 = fields (pair (vector ustring) stat)
form_of_shape shapes.Multi = results
form_of_shape shapes.Created2 = fields (pair ustring stat)
