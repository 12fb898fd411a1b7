-- What `show` prints of a client's bytes: a line for each frame, and one for what ends them.
use Rattle.std.specs.Prelude.{◌≡◌, ℕ, ℤ, ◌+◌, ◌≤◌, ◌==◌, List, [], ◌∷◌, ◌++◌, length, codes, Bool, true, false}
use Rattle.std.specs.Option.{option_map_or}
use Rattle.std.specs.Fmt.{decimal, signed_decimal}
use Rattle.jute_core.specs.Frames.{frame}
use Rattle.jute_core.specs.declared.cursor.Reason.{Reason}
use Rattle.zk_frame.specs.Framing.{IsTooLong}
use Rattle.zk_records.specs.Connect.{RefusedConnect}
use Rattle.zk_messages.specs.Kinds.{kind_of}
use Rattle.zk_messages.specs.Requests.{RefusedRequest}
use Rattle.zk_messages.specs.Sent.{client_limit, BeginsWith, HasNoFrame}
use Rattle.zk_messages.specs.declared.kind.Kind.{Kind}
use Rattle.zk_messages.specs.declared.kind.Kind.TheVariants as kinds
use Rattle.zk_messages.specs.declared.request.Item.{Item}
use Rattle.zk_messages.specs.declared.request.Item.TheVariants.{Asks, Requests}
use Rattle.zk_messages.specs.declared.request.Request.{Request}
use Rattle.zk_messages.specs.declared.request.Request.TheVariants as requests
use Rattle.audit_board.specs.Fields.{field}
use Rattle.replay_cli.specs.Printed.{line, bytes_text}
use Rattle.replay_cli.specs.Reasons.{reason_name}
use Rattle.replay_cli.specs.declared.show.Frame.{Frame}
use Rattle.replay_cli.specs.declared.show.Ending.{Ending}
use Rattle.replay_cli.specs.declared.show.Ending.TheVariants.{Finished, CutShort, Malformed, TooLong}

-- Frames and what ends them

-- the bytes begin with this frame, and more follows; the first frame of all is a connect request, each other one a request
pub record IsFrame (first : Bool) (f : Frame) (more bytes : List ℕ) : Type 0 where
  pub begins : BeginsWith first f.item more bytes
  pub size_is : f.size ≡ length begins.body

-- some bytes, but no whole frame within the limit, nor a length beyond it
pub record IsCutShort (bytes : List ℕ) : Type 0 where
  pub some : bytes ≡ [] → ⊥
  pub not_whole : HasNoFrame bytes
  pub within : (size : ℤ) → IsTooLong client_limit bytes size → ⊥

abbrev pub RefusedItem : Bool → List ℕ → ℕ → Reason → Type 0
RefusedItem true body place reason = RefusedConnect body place reason
RefusedItem false body place reason = RefusedRequest body place reason

-- a whole frame within the limit, of which the body is no message: at this place of it, for this reason
pub record IsMalformed (first : Bool) (bytes : List ℕ) (place : ℕ) (reason : Reason) : Type 0 where
  pub body : List ℕ
  pub more : List ℕ
  pub short : length body ≤ client_limit
  pub cut : bytes ≡ frame body ++ more
  pub refused : RefusedItem first body place reason

-- the bytes begin with no message, and why
abbrev pub IsEnding : Bool → Ending → List ℕ → Type 0
IsEnding first Finished bytes = bytes ≡ []
IsEnding first (CutShort count) bytes = IsCutShort bytes × (count ≡ length bytes)
IsEnding first (Malformed refusal) bytes = IsMalformed first bytes refusal.place refusal.reason
IsEnding first (TooLong size) bytes = IsTooLong client_limit bytes size

-- the bytes are these frames, of which the first has this number, and then this ending
unfoldable pub AreFrames : ℕ → List Frame → Ending → List ℕ → Type 0
AreFrames number [] ending bytes = IsEnding (number == 0) ending bytes
AreFrames number (f ∷ frames) ending bytes = (more : List ℕ) × IsFrame (number == 0) f more bytes × AreFrames (number + 1) frames ending more

-- Their lines

unfoldable pub kind_name : Kind → List ℕ
kind_name kinds.Create = codes "create"
kind_name kinds.Delete = codes "delete"
kind_name kinds.Exists = codes "exists"
kind_name kinds.GetContent = codes "getData"
kind_name kinds.SetContent = codes "setData"
kind_name kinds.GetAcl = codes "getACL"
kind_name kinds.SetAcl = codes "setACL"
kind_name kinds.GetChildren = codes "getChildren"
kind_name kinds.Sync = codes "sync"
kind_name kinds.Ping = codes "ping"
kind_name kinds.GetChildren2 = codes "getChildren2"
kind_name kinds.Multi = codes "multi"
kind_name kinds.Create2 = codes "create2"
kind_name kinds.Auth = codes "auth"
kind_name kinds.SetWatches = codes "setWatches"
kind_name kinds.Close = codes "closeSession"

unfoldable pub unknown_name : List ℕ
unknown_name = codes "unknown"

abbrev pub request_name : Request → List ℕ
request_name r = option_map_or kind_name (kind_of r) unknown_name

-- the request's own path, empty where it has none
abbrev pub request_path : Request → List ℕ
request_path (requests.Create r) = r.path
request_path (requests.Create2 r) = r.path
request_path (requests.Delete r) = r.path
request_path (requests.Exists r) = r.path
request_path (requests.GetContent r) = r.path
request_path (requests.SetContent r) = r.path
request_path (requests.GetAcl r) = r.path
request_path (requests.SetAcl r) = r.path
request_path (requests.GetChildren r) = r.path
request_path (requests.GetChildren2 r) = r.path
request_path (requests.Sync r) = r.path
request_path requests.Ping = []
request_path (requests.Multi ops) = []
request_path (requests.SetWatches r) = []
request_path (requests.Auth body) = []
request_path requests.Close = []
request_path (requests.Unknown kind body) = []

-- what its line says of an item
abbrev pub item_text : Item → List ℕ
item_text (Asks asked) = line (codes " connect") []
item_text (Requests xid request) =
    field (codes " ") (request_name request)
    ++ field (codes " xid ") (signed_decimal xid)
    ++ line (codes " path ") (bytes_text (request_path request))

-- the line of a frame: its number, the place of its prefix, the length of its body, and its item
abbrev pub frame_text : ℕ → ℕ → Frame → List ℕ
frame_text number place f =
    decimal number
    ++ field (codes " at ") (decimal place)
    ++ field (codes " bytes ") (decimal f.size)
    ++ item_text f.item

-- the last line
abbrev pub ending_text : Ending → List ℕ
ending_text Finished = line (codes "end") []
ending_text (CutShort count) = line (codes "rest ") (decimal count)
ending_text (Malformed refusal) = field (codes "malformed ") (decimal refusal.place) ++ line (codes " ") (reason_name refusal.reason)
ending_text (TooLong size) = line (codes "too-long ") (signed_decimal size)

-- the lines of frames, of which the first has this number and this place, and the last line
unfoldable pub frames_text : ℕ → ℕ → List Frame → Ending → List ℕ
frames_text number place [] ending = ending_text ending
frames_text number place (f ∷ frames) ending = frame_text number place f ++ frames_text (number + 1) (place + 4 + f.size) frames ending

-- the text is what is printed of the bytes, which stand at this place behind so many frames
pub record ShowsFrom (number place : ℕ) (bytes text : List ℕ) : Type 0 where
  pub frames : List Frame
  pub ending : Ending
  pub are : AreFrames number frames ending bytes
  pub text_is : text ≡ frames_text number place frames ending

abbrev pub IsShown : List ℕ → List ℕ → Type 0
IsShown bytes text = ShowsFrom 0 0 bytes text
