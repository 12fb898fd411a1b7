-- Which bytes are a reply or an event, and where bytes that are none go wrong (zookeeper.jute; the header of events from the
-- Java sources of ZooKeeper 3.4).
use Rattle.std.specs.Prelude.{◌≡◌, ◌≢◌, ◌⊎◌, ℕ, ℤ, pos, negsuc, ◌+◌, ◌<◌, List, [], ◌++◌, length}
use Rattle.jute_core.specs.Jute.{Jute, Value, Spells, Refused, int, long, ustring, pair}
use Rattle.jute_core.specs.declared.cursor.Reason.{Reason}
use Rattle.jute_core.specs.declared.cursor.Reason.TheVariants.{Trailing, BadHeader}
use Rattle.zk_records.specs.Acls.{acls_fields}
use Rattle.zk_records.specs.Headers.{reply_header}
use Rattle.zk_records.specs.Stats.{stat_fields}
use Rattle.zk_messages.specs.Forms.{SpellsForm, RefusedForm, fields, form_of_shape}
use Rattle.zk_messages.specs.declared.reply.Event.{Event}
use Rattle.zk_messages.specs.declared.reply.Outcome.{Outcome}
use Rattle.zk_messages.specs.declared.reply.Outcome.TheVariants as outcomes
use Rattle.zk_messages.specs.declared.reply.Reply.{Reply}
use Rattle.zk_messages.specs.declared.reply.Shape.{Shape}
use Rattle.zk_messages.specs.declared.reply.Shape.TheVariants as shapes

-- the bytes are this outcome, where a reply without error has this shape; an error has no body
unfoldable pub SpellsOutcome : Shape → Outcome → List ℕ → Type 0
SpellsOutcome shape (outcomes.Error code) b = (code ≢ pos 0) × (b ≡ [])
SpellsOutcome shapes.Empty outcomes.Empty b = b ≡ []
SpellsOutcome shapes.Path (outcomes.Path path) b = SpellsForm (form_of_shape shapes.Path) path b
SpellsOutcome shapes.Stat (outcomes.Stat s) b = SpellsForm (form_of_shape shapes.Stat) (stat_fields s) b
SpellsOutcome shapes.Content (outcomes.Content content s) b = SpellsForm (form_of_shape shapes.Content) (content, stat_fields s) b
SpellsOutcome shapes.Acls (outcomes.Acls list s) b = SpellsForm (form_of_shape shapes.Acls) (acls_fields list, stat_fields s) b
SpellsOutcome shapes.Children (outcomes.Children names) b = SpellsForm (form_of_shape shapes.Children) names b
SpellsOutcome shapes.Children2 (outcomes.Children2 names s) b = SpellsForm (form_of_shape shapes.Children2) (names, stat_fields s) b
SpellsOutcome shapes.Multi (outcomes.Multi list) b = SpellsForm (form_of_shape shapes.Multi) list b
SpellsOutcome shapes.Created2 (outcomes.Created2 path s) b = SpellsForm (form_of_shape shapes.Created2) (path, stat_fields s) b
SpellsOutcome shape outcome b = ⊥

-- a reply with this outcome has this shape, or it is an error
abbrev pub HasShape : Shape → Outcome → Type 0
HasShape shape (outcomes.Error code) = Unit {0}
HasShape shapes.Empty outcomes.Empty = Unit {0}
HasShape shapes.Path (outcomes.Path path) = Unit {0}
HasShape shapes.Stat (outcomes.Stat s) = Unit {0}
HasShape shapes.Content (outcomes.Content content s) = Unit {0}
HasShape shapes.Acls (outcomes.Acls list s) = Unit {0}
HasShape shapes.Children (outcomes.Children names) = Unit {0}
HasShape shapes.Children2 (outcomes.Children2 names s) = Unit {0}
HasShape shapes.Multi (outcomes.Multi list) = Unit {0}
HasShape shapes.Created2 (outcomes.Created2 path s) = Unit {0}
HasShape shape outcome = ⊥

-- the bytes are this outcome, in each shape that it has
abbrev pub IsOutcome : Outcome → List ℕ → Type 0
IsOutcome outcome b = (shape : Shape) → HasShape shape outcome → SpellsOutcome shape outcome b

-- the code in the header
abbrev pub err_of : Outcome → ℤ
err_of (outcomes.Error code) = code
err_of outcome = pos 0

-- the body is this reply to a request whose replies have this shape
pub record SpellsReply (shape : Shape) (r : Reply) (body : List ℕ) : Type 0 where
  pub header : List ℕ
  pub rest : List ℕ
  pub head : Spells reply_header (r.xid, (r.zxid, err_of r.outcome)) header
  pub tail : SpellsOutcome shape r.outcome rest
  pub cut : body ≡ header ++ rest

abbrev pub IsReply : Reply → List ℕ → Type 0
IsReply r body = (shape : Shape) → HasShape shape r.outcome → SpellsReply shape r body

-- what is wrong behind the header: nothing follows an error
abbrev pub IsBadOutcome : Shape → ℤ → List ℕ → ℕ → Reason → Type 0
IsBadOutcome shape err rest place reason = ((err ≢ pos 0) × (0 < length rest) × (place ≡ 16) × (reason ≡ Trailing))
    ⊎ ((err ≡ pos 0) × RefusedForm (form_of_shape shape) 16 rest place reason)

pub record IsBadReply (shape : Shape) (body : List ℕ) (place : ℕ) (reason : Reason) : Type 0 where
  pub xid : ℤ
  pub zxid : ℤ
  pub err : ℤ
  pub header : List ℕ
  pub rest : List ℕ
  pub head : Spells reply_header (xid, (zxid, err)) header
  pub cut : body ≡ header ++ rest
  pub bad : IsBadOutcome shape err rest place reason

-- the body is no reply of this shape
abbrev pub RefusedReply : Shape → List ℕ → ℕ → Reason → Type 0
RefusedReply shape body place reason = Refused reply_header 0 body place reason ⊎ IsBadReply shape body place reason

-- kind, state, path
abbrev pub event_record : Jute
event_record = pair int (pair int ustring)

abbrev pub event_fields : Event → Value event_record
event_fields e = (e.kind, (e.state, e.path))

-- the body is this event: the header (-1, -1, 0), and the record
abbrev pub SpellsEvent : Event → List ℕ → Type 0
SpellsEvent e body = Spells (pair reply_header event_record) ((negsuc 0, (negsuc 0, pos 0)), event_fields e) body

-- the body begins with this int
pub record BeginsWithInt (body : List ℕ) (z : ℤ) : Type 0 where
  pub first : List ℕ
  pub more : List ℕ
  pub spelled : Spells int z first
  pub cut : body ≡ first ++ more

-- a field that has to have this value fails or has another one, or something behind it is wrong
abbrev pub IsWrong : (t : Jute) → Value t → (ℕ → List ℕ → ℕ → Reason → Type 0) → ℕ → List ℕ → ℕ → Reason → Type 0
IsWrong t v Behind at b place reason = Refused t at b place reason
    ⊎ ((w : Value t) × (x y : List ℕ) × Spells t w x × (b ≡ x ++ y) × (w ≢ v) × (place ≡ at) × (reason ≡ BadHeader))
    ⊎ ((x y : List ℕ) × Spells t v x × (b ≡ x ++ y) × Behind (at + length x) y place reason)

-- nothing is
abbrev pub IsRight : ℕ → List ℕ → ℕ → Reason → Type 0
IsRight at b place reason = ⊥

-- the bytes do not begin with the header of an event, whose fields are judged one by one, as they are read, before `Behind`
unfoldable pub IsWrongBefore : (ℕ → List ℕ → ℕ → Reason → Type 0) → ℕ → List ℕ → ℕ → Reason → Type 0
IsWrongBefore Behind at b place reason = IsWrong int (negsuc 0) (IsWrong long (negsuc 0) (IsWrong int (pos 0) Behind)) at b place reason

abbrev pub IsWrongHeader : ℕ → List ℕ → ℕ → Reason → Type 0
IsWrongHeader at b place reason = IsWrongBefore IsRight at b place reason

-- the body is no event
abbrev pub RefusedEvent : List ℕ → ℕ → Reason → Type 0
RefusedEvent body place reason = IsWrongBefore (RefusedForm (fields event_record)) 0 body place reason
