-- How many bytes spell a message to a client, and which messages can be sent for that.
use Rattle.std.proofs.Common.{◌≡◌, ◌≤◌, ◌<◌, ◌+◌, ◌^◌, ℕ, pos, negsuc, List, [], ◌∷◌, length, length-append, Bool, Option, Some, None, ap, arith}
use Rattle.std.specs.Prelude.{sum_by, IfSome}
use Rattle.std.proofs.lemmas.List.Sums.{sum_by-cons}
use Rattle.jute_core.specs.Jute.{Each, int, buffer, ustring, pair, vector}
use Rattle.zk_records.specs.Acls.{acls, acls_fields}
use Rattle.zk_records.specs.Connect.{response_form, response_fields}
use Rattle.zk_records.specs.Headers.{reply_header}
use Rattle.zk_records.specs.Stats.{stat, stat_fields}
use Rattle.zk_records.specs.declared.connect.ConnectResponse.{ConnectResponse}
use Rattle.zk_messages.specs.Forms.{SpellsForm}
use Rattle.zk_messages.specs.Multi.{multi_header, SpellsResult, SpellsResults}
use Rattle.zk_messages.specs.Replies.{SpellsOutcome, HasShape, IsReply, SpellsEvent, err_of, event_record, event_fields}
use Rattle.zk_messages.specs.Sending.{IsShortOutcome}
use Rattle.zk_messages.specs.declared.reply.Event.{Event}
use Rattle.zk_messages.specs.declared.reply.OpResult.{OpResult}
use Rattle.zk_messages.specs.declared.reply.OpResult.TheVariants as results
use Rattle.zk_messages.specs.declared.reply.Outcome.{Outcome}
use Rattle.zk_messages.specs.declared.reply.Outcome.TheVariants as outcomes
use Rattle.zk_messages.specs.declared.reply.Reply.{Reply}
use Rattle.zk_messages.specs.declared.reply.Shape.{Shape}
use Rattle.zk_messages.specs.declared.reply.Shape.TheVariants as shapes
use Rattle.zk_messages.proofs.Sizes.{size, spelled_size}
use Rattle.tree_state.specs.declared.message.Message.TheVariants as messages
use Rattle.store_side.specs.Messages.{SpellsMessage}
use Rattle.store_side.specs.Fitting.{CanBeSent}

-- ---- results, each behind its header of 9 bytes

abbrev pub result_size : OpResult → ℕ
result_size (results.Created path) = length path + 13
result_size results.Deleted = 9
result_size (results.Changed s) = 77
result_size results.Checked = 9
result_size (results.Error code) = 13
result_size (results.Created2 path s) = length path + 81

result_spelled_size : (r : OpResult) (b : List ℕ) → SpellsResult r b → length b ≡ result_size r
unfolding SpellsResult
result_spelled_size (results.Created path) b h = omega (arith, spelled_size (pair multi_header ustring) _ b h)
result_spelled_size results.Deleted b h = spelled_size multi_header _ b h
result_spelled_size (results.Changed s) b h = spelled_size (pair multi_header stat) _ b h
result_spelled_size results.Checked b h = spelled_size multi_header _ b h
result_spelled_size (results.Error code) b h = spelled_size (pair multi_header int) _ b h
result_spelled_size (results.Created2 path s) b h = omega (arith, spelled_size (pair multi_header (pair ustring stat)) _ b h)

each_size : {V : Type 0} (R : V → List ℕ → Type 0) (f : V → ℕ) → ((v : V) (b : List ℕ) → R v b → length b ≡ f v)
    → (vs : List V) (b : List ℕ) → Each R vs b → length b ≡ sum_by f vs
each_size {V} R f one [] b h = ap length h
each_size {V} R f one (v ∷ vs) b h =
    omega (arith, ap length h.4, length-append h.0 h.1, one v h.0 h.2, each_size R f one vs h.1 h.3, sum_by-cons f v vs)

results_spelled_size : (list : List OpResult) (b : List ℕ) → SpellsResults list b → length b ≡ sum_by result_size list + 9
results_spelled_size list b h = omega (
  arith,
  ap length h.cut,
  length-append h.items h.last,
  each_size SpellsResult result_size result_spelled_size list h.items h.each,
  spelled_size multi_header _ h.last h.ended,
)

-- ---- replies, each behind its header of 16 bytes

-- a shape that the outcome has
abbrev shape_of : Outcome → Shape
shape_of (outcomes.Error code) = shapes.Empty
shape_of outcomes.Empty = shapes.Empty
shape_of (outcomes.Path path) = shapes.Path
shape_of (outcomes.Stat s) = shapes.Stat
shape_of (outcomes.Content content s) = shapes.Content
shape_of (outcomes.Acls list s) = shapes.Acls
shape_of (outcomes.Children names) = shapes.Children
shape_of (outcomes.Children2 names s) = shapes.Children2
shape_of (outcomes.Multi list) = shapes.Multi
shape_of (outcomes.Created2 path s) = shapes.Created2

has_shape : (o : Outcome) → HasShape (shape_of o) o
has_shape (outcomes.Error code) = tt
has_shape outcomes.Empty = tt
has_shape (outcomes.Path path) = tt
has_shape (outcomes.Stat s) = tt
has_shape (outcomes.Content content s) = tt
has_shape (outcomes.Acls list s) = tt
has_shape (outcomes.Children names) = tt
has_shape (outcomes.Children2 names s) = tt
has_shape (outcomes.Multi list) = tt
has_shape (outcomes.Created2 path s) = tt

abbrev pub outcome_size : Outcome → ℕ
outcome_size (outcomes.Error code) = 0
outcome_size outcomes.Empty = 0
outcome_size (outcomes.Path path) = length path + 4
outcome_size (outcomes.Stat s) = 68
outcome_size (outcomes.Content content s) = size buffer content + 68
outcome_size (outcomes.Acls list s) = size acls (acls_fields list) + 68
outcome_size (outcomes.Children names) = size (vector ustring) names
outcome_size (outcomes.Children2 names s) = size (vector ustring) names + 68
outcome_size (outcomes.Multi list) = sum_by result_size list + 9
outcome_size (outcomes.Created2 path s) = length path + 72

outcome_spelled_size : (o : Outcome) (b : List ℕ) → SpellsOutcome (shape_of o) o b → length b ≡ outcome_size o
unfolding SpellsOutcome SpellsForm
outcome_spelled_size (outcomes.Error code) b h = ap length h.1
outcome_spelled_size outcomes.Empty b h = ap length h
outcome_spelled_size (outcomes.Path path) b h = spelled_size ustring path b h
outcome_spelled_size (outcomes.Stat s) b h = spelled_size stat (stat_fields s) b h
outcome_spelled_size (outcomes.Content content s) b h = spelled_size (pair buffer stat) (content, stat_fields s) b h
outcome_spelled_size (outcomes.Acls list s) b h = spelled_size (pair acls stat) (acls_fields list, stat_fields s) b h
outcome_spelled_size (outcomes.Children names) b h = spelled_size (vector ustring) names b h
outcome_spelled_size (outcomes.Children2 names s) b h = spelled_size (pair (vector ustring) stat) (names, stat_fields s) b h
outcome_spelled_size (outcomes.Multi list) b h = results_spelled_size list b h
outcome_spelled_size (outcomes.Created2 path s) b h = omega (arith, spelled_size (pair ustring stat) (path, stat_fields s) b h)

reply_size : (r : Reply) (body : List ℕ) → IsReply r body → length body ≡ outcome_size r.outcome + 16
reply_size r body h =
    let s = h (shape_of r.outcome) (has_shape r.outcome) in
    omega (
      arith,
      ap length s.cut,
      length-append s.header s.rest,
      spelled_size reply_header (r.xid, (r.zxid, err_of r.outcome)) s.header s.head,
      outcome_spelled_size r.outcome s.rest s.tail,
    )

-- a reply whose outcome is short, and spelled by so few bytes
pub reply_can_be_sent : (r : Reply) → IsShortOutcome r.outcome → outcome_size r.outcome + 16 < 2 ^ 31 → CanBeSent (messages.Reply r)
unfolding SpellsMessage
reply_can_be_sent r short small = record { sendable = short; fits = λ body h. omega (arith, reply_size r body h, small) }

-- ---- events

event_size : (e : Event) (body : List ℕ) → SpellsEvent e body → length body ≡ length e.path + 28
event_size e body h = omega (arith, spelled_size (pair reply_header event_record) ((negsuc 0, (negsuc 0, pos 0)), event_fields e) body h)

pub event_can_be_sent : (e : Event) → length e.path + 28 < 2 ^ 31 → CanBeSent (messages.Event e)
unfolding SpellsMessage
event_can_be_sent e small = record { sendable = omega (arith, small); fits = λ body h. omega (arith, event_size e body h, small) }

-- ---- answers to a connect

connected_size : (r : ConnectResponse) (b : Option Bool) → size (response_form b) (response_fields b r) ≤ size buffer r.password + 17
connected_size r None = omega arith
connected_size r (Some b) = omega arith

password_size : (password : Option (List ℕ)) → IfSome password (λ p. length p ≡ 16) → size buffer password ≤ 20
password_size None h = omega arith
password_size (Some p) h = omega (arith, h)

password_short : (password : Option (List ℕ)) → IfSome password (λ p. length p ≡ 16) → IfSome password (λ p. length p < 2 ^ 31)
password_short None h = tt
password_short (Some p) h = omega (arith, h)

pub connected_can_be_sent : (r : ConnectResponse) → IfSome r.password (λ p. length p ≡ 16) → CanBeSent (messages.Connected r)
unfolding SpellsMessage
connected_can_be_sent r h = record {
  sendable = password_short r.password h;
  fits = λ body spelled.
      omega (
        arith,
        spelled_size (response_form r.read_only) (response_fields r.read_only r) body spelled,
        connected_size r r.read_only,
        password_size r.password h,
      );
}
