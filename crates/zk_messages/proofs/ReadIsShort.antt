-- What was read can be written: its lengths and counts are ints.
use Rattle.std.proofs.Common.{ℕ, ℤ, ◌<◌, ◌^◌, List, [], ◌∷◌, length, map, Option, Some, None, subst}
use Rattle.std.proofs.lemmas.List.{length-map}
use Rattle.std.proofs.lemmas.List.Elements.{All-nil, All-cons}
use Rattle.std.specs.Prelude.{All, IfSome}
use Rattle.jute_core.specs.Jute.{Jute, Value, Spells, Each, int, boolean, buffer, ustring, pair, vector}
use Rattle.jute_core.specs.Lists.{AreShort}
use Rattle.zk_records.specs.Acls.{acl, acl_fields, acls, acls_fields, IsShortAcl, AreShortAcls}
use Rattle.zk_records.specs.Requests.{create_request, create_fields, set_content_request, set_content_fields, set_acl_request, set_acl_fields, set_watches, set_watches_fields}
use Rattle.zk_records.specs.Requests.{IsShortCreate, IsShortSetContent, IsShortSetAcl, IsShortSetWatches}
use Rattle.zk_records.specs.declared.acl.Acl.{Acl}
use Rattle.zk_records.specs.declared.create.CreateRequest.{CreateRequest}
use Rattle.zk_records.specs.declared.node.SetContentRequest.{SetContentRequest}
use Rattle.zk_records.specs.declared.set_acl.SetAclRequest.{SetAclRequest}
use Rattle.zk_records.specs.declared.set_watches.SetWatches.{SetWatches}
use Rattle.zk_messages.specs.Forms.{SpellsForm, form_of_any}
use Rattle.zk_messages.specs.Kinds.{kind_of}
use Rattle.zk_messages.specs.Multi.{SpellsOp, SpellsResult}
use Rattle.zk_messages.specs.Replies.{SpellsOutcome, SpellsReply, SpellsEvent}
use Rattle.zk_messages.specs.Requests.{SpellsRequest, fields_of}
use Rattle.zk_messages.specs.Sending.{IsShortOp, IsShortRequest, IsShortResult, IsShortOutcome}
use Rattle.zk_messages.specs.declared.reply.Event.{Event}
use Rattle.zk_messages.specs.declared.reply.OpResult.{OpResult}
use Rattle.zk_messages.specs.declared.reply.OpResult.TheVariants as op_results
use Rattle.zk_messages.specs.declared.reply.Outcome.{Outcome}
use Rattle.zk_messages.specs.declared.reply.Outcome.TheVariants as outcomes
use Rattle.zk_messages.specs.declared.reply.Reply.{Reply}
use Rattle.zk_messages.specs.declared.reply.Shape.{Shape}
use Rattle.zk_messages.specs.declared.reply.Shape.TheVariants as shapes
use Rattle.zk_messages.specs.declared.request.Op.{Op}
use Rattle.zk_messages.specs.declared.request.Op.TheVariants as ops
use Rattle.zk_messages.specs.declared.request.Request.{Request}
use Rattle.zk_messages.specs.declared.request.Request.TheVariants as requests

text_short : (text b : List ℕ) → Spells ustring text b → length text < 2 ^ 31
unfolding Spells
text_short text b p = p.0.1.0

buffer_short : (content : Option (List ℕ)) (b : List ℕ) → Spells buffer content b → IfSome content (λ bytes. length bytes < 2 ^ 31)
unfolding Spells
buffer_short None b p = tt
buffer_short (Some bytes) b p = p.1.0

each_short : {V : Type 0} (R : V → List ℕ → Type 0) (P : V → Type 0) (vs : List V) (b : List ℕ) → ((v : V) (x : List ℕ) → R v x → P v) → Each R vs b → All P vs
each_short R P [] b so e = All-nil P
each_short R P (v ∷ vs) b so e = All-cons P v vs (so v e.0 e.2) (each_short R P vs e.1 so e.3)

texts_short : (texts : Option (List (List ℕ))) (b : List ℕ) → Spells (vector ustring) texts b → IfSome texts AreShort
unfolding Spells
texts_short None b p = tt
texts_short (Some texts) b p = record { few = p.2.0; each = each_short (Spells ustring) (λ t. length t < 2 ^ 31) texts p.1 text_short p.3 }

acl_short : (a : Acl) (b : List ℕ) → Spells acl (acl_fields a) b → IsShortAcl a
unfolding Spells
acl_short a b p = record { scheme = text_short a.scheme p.3.0 p.3.2; id = text_short a.id p.3.1 p.3.3 }

each_acl_short : (list : List Acl) (b : List ℕ) → Each (Spells acl) (map acl_fields list) b → All IsShortAcl list
each_acl_short [] b e = All-nil IsShortAcl
each_acl_short (a ∷ more) b e = All-cons IsShortAcl a more (acl_short a e.0 e.2) (each_acl_short more e.1 e.3)

acls_short : (list : Option (List Acl)) (b : List ℕ) → Spells acls (acls_fields list) b → IfSome list AreShortAcls
unfolding Spells
acls_short None b p = tt
acls_short (Some list) b p = record { few = subst (λ (n : ℕ). n < 2 ^ 31) (length-map list acl_fields) p.2.0; each = each_acl_short list p.1 p.3 }

create_short : (r : CreateRequest) (b : List ℕ) → Spells create_request (create_fields r) b → IsShortCreate r
unfolding Spells
create_short r b p = record { path = text_short r.path p.0 p.2; content = buffer_short r.content p.3.0 p.3.2; acls = acls_short r.acls p.3.3.0 p.3.3.2 }

set_content_short : (r : SetContentRequest) (b : List ℕ) → Spells set_content_request (set_content_fields r) b → IsShortSetContent r
unfolding Spells
set_content_short r b p = record { path = text_short r.path p.0 p.2; content = buffer_short r.content p.3.0 p.3.2 }

set_acl_short : (r : SetAclRequest) (b : List ℕ) → Spells set_acl_request (set_acl_fields r) b → IsShortSetAcl r
unfolding Spells
set_acl_short r b p = record { path = text_short r.path p.0 p.2; acls = acls_short r.acls p.3.0 p.3.2 }

set_watches_short : (r : SetWatches) (b : List ℕ) → Spells set_watches (set_watches_fields r) b → IsShortSetWatches r
unfolding Spells
set_watches_short r b p = record {
  content_paths = texts_short r.content_paths p.3.0 p.3.2;
  exist_paths = texts_short r.exist_paths p.3.3.0 p.3.3.2;
  child_paths = texts_short r.child_paths p.3.3.1 p.3.3.3;
}

-- a record that begins with a path
path_short : (t : Jute) (v : Value (pair ustring t)) (b : List ℕ) → Spells (pair ustring t) v b → length v.0 < 2 ^ 31
unfolding Spells
path_short t v b p = text_short v.0 p.0 p.2

op_short : (op : Op) (b : List ℕ) → SpellsOp op b → IsShortOp op
unfolding SpellsOp Spells
op_short (ops.Create r) b p = create_short r p.1 p.3
op_short (ops.Delete r) b p = text_short r.path p.3.0 p.3.2
op_short (ops.SetContent r) b p = set_content_short r p.1 p.3
op_short (ops.Check r) b p = text_short r.path p.3.0 p.3.2
op_short (ops.Create2 r) b p = create_short r p.1 p.3

tail_short : (r : Request) (b : List ℕ) → SpellsForm (form_of_any (kind_of r)) (fields_of r) b → IsShortRequest r
unfolding SpellsForm
tail_short (requests.Create r) b p = create_short r b p
tail_short (requests.Delete r) b p = path_short int _ b p
tail_short (requests.Exists r) b p = path_short boolean _ b p
tail_short (requests.GetContent r) b p = path_short boolean _ b p
tail_short (requests.SetContent r) b p = set_content_short r b p
tail_short (requests.GetAcl r) b p = text_short r.path b p
tail_short (requests.SetAcl r) b p = set_acl_short r b p
tail_short (requests.GetChildren r) b p = path_short boolean _ b p
tail_short (requests.GetChildren2 r) b p = path_short boolean _ b p
tail_short (requests.Sync r) b p = text_short r.path b p
tail_short requests.Ping b p = tt
tail_short (requests.Multi list) b p = each_short SpellsOp IsShortOp list p.items op_short p.each
tail_short (requests.SetWatches r) b p = set_watches_short r b p
tail_short (requests.Auth body) b p = tt
tail_short requests.Close b p = tt
tail_short (requests.Create2 r) b p = create_short r b p
tail_short (requests.Unknown kind body) b p = tt

pub request_short : (xid : ℤ) (r : Request) (body : List ℕ) → SpellsRequest xid r body → IsShortRequest r
request_short xid r body p = tail_short r p.rest p.tail

result_short : (r : OpResult) (b : List ℕ) → SpellsResult r b → IsShortResult r
unfolding SpellsResult Spells
result_short (op_results.Created path) b p = text_short path p.1 p.3
result_short op_results.Deleted b p = tt
result_short (op_results.Changed s) b p = tt
result_short op_results.Checked b p = tt
result_short (op_results.Error code) b p = tt
result_short (op_results.Created2 path s) b p = text_short path p.3.0 p.3.2

outcome_short : (shape : Shape) (outcome : Outcome) (b : List ℕ) → SpellsOutcome shape outcome b → IsShortOutcome outcome
unfolding SpellsOutcome SpellsForm Spells
outcome_short shape (outcomes.Error code) b p = p.0
outcome_short shapes.Empty outcomes.Empty b p = tt
outcome_short shapes.Path (outcomes.Path path) b p = text_short path b p
outcome_short shapes.Stat (outcomes.Stat s) b p = tt
outcome_short shapes.Content (outcomes.Content content s) b p = buffer_short content p.0 p.2
outcome_short shapes.Acls (outcomes.Acls list s) b p = acls_short list p.0 p.2
outcome_short shapes.Children (outcomes.Children names) b p = texts_short names b p
outcome_short shapes.Children2 (outcomes.Children2 names s) b p = texts_short names p.0 p.2
outcome_short shapes.Multi (outcomes.Multi list) b p = each_short SpellsResult IsShortResult list p.items result_short p.each
outcome_short shapes.Created2 (outcomes.Created2 path s) b p = text_short path p.0 p.2
outcome_short shape outcome b p = absurd p

pub reply_short : (shape : Shape) (r : Reply) (body : List ℕ) → SpellsReply shape r body → IsShortOutcome r.outcome
reply_short shape r body p = outcome_short shape r.outcome p.rest p.tail

pub event_short : (e : Event) (body : List ℕ) → SpellsEvent e body → length e.path < 2 ^ 31
unfolding Spells
event_short e body p = text_short e.path p.3.3.1 p.3.3.3

pub ruleset read_is_short = (request_short, reply_short, event_short)
