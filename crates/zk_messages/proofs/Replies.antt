-- Reading and writing replies, exit by exit.
use Rattle.std.proofs.Common.{◌≡◌, ◌≢◌, ◌⊎◌, ℕ, ℤ, pos, negsuc, ◌<◌, List, [], ◌++◌, length, Option, refl, inl, inr, ◌∙◌, ap, sym, subst, append_assoc, arith, length-append}
use Rattle.std.proofs.lemmas.List.{append-nil}
use Rattle.jute_core.specs.Jute.{Jute, Spells, Refused as IsRefused, buffer, ustring, pair, vector}
use Rattle.jute_core.specs.Position.{Position, Passes, Adds}
use Rattle.jute_core.specs.Records.{Fails}
use Rattle.jute_core.specs.declared.cursor.Reason.{Reason}
use Rattle.jute_core.specs.declared.cursor.Reason.TheVariants.{Trailing}
use Rattle.jute_core.specs.declared.cursor.Refusal.{Refusal}
use Rattle.jute_core.specs.declared.not_read.NotRead.{NotRead}
use Rattle.jute_core.specs.declared.not_read.NotRead.TheVariants.{Refused, Memory}
use Rattle.jute_core.proofs.Glue.{add_then}
use Rattle.zk_records.specs.Acls.{acls, acls_fields}
use Rattle.zk_records.specs.Headers.{reply_header, reply_header_fields}
use Rattle.zk_records.specs.declared.header.ReplyHeader.{ReplyHeader}
use Rattle.zk_records.specs.Stats.{stat, stat_fields}
use Rattle.zk_records.specs.declared.acl.Acl.{Acl}
use Rattle.zk_records.specs.declared.stat.Stat.{Stat}
use Rattle.zk_messages.specs.Forms.{FormValue, SpellsForm, RefusedFront, RefusedForm, IsFollowed, form_of_shape}
use Rattle.zk_messages.specs.Multi.{SpellsResults}
use Rattle.zk_messages.specs.Reading.{Reaches, FailsAt, FailsBody}
use Rattle.zk_messages.specs.Replies.{SpellsOutcome, SpellsReply, RefusedReply, HasShape, IsOutcome, IsReply, SpellsEvent, err_of, event_record, event_fields}
use Rattle.zk_messages.specs.Sending.{AddsBytes}
use Rattle.zk_messages.specs.declared.reply.Event.{Event}
use Rattle.zk_messages.specs.declared.reply.OpResult.{OpResult}
use Rattle.zk_messages.specs.declared.reply.Outcome.{Outcome}
use Rattle.zk_messages.specs.declared.reply.Outcome.TheVariants as outcomes
use Rattle.zk_messages.specs.declared.reply.Reply.{Reply}
use Rattle.zk_messages.specs.declared.reply.Shape.{Shape}
use Rattle.zk_messages.specs.declared.reply.Shape.TheVariants as shapes

-- outcomes that are read
pub empty_read : (a : Position) → Reaches a a (SpellsOutcome shapes.Empty outcomes.Empty)
unfolding SpellsOutcome
empty_read a = record { bytes = []; is = refl; cut = refl; moved = omega arith }

pub path_read : (path : List ℕ) (a b : Position) → Passes a b ustring path → Reaches a b (SpellsOutcome shapes.Path (outcomes.Path path))
unfolding SpellsOutcome SpellsForm
path_read path a b p = record { bytes = p.bytes; is = p.spelled; cut = p.cut; moved = p.moved }

pub stat_read : (s : Stat) (a b : Position) → Passes a b stat (stat_fields s) → Reaches a b (SpellsOutcome shapes.Stat (outcomes.Stat s))
unfolding SpellsOutcome SpellsForm
stat_read s a b p = record { bytes = p.bytes; is = p.spelled; cut = p.cut; moved = p.moved }

pub content_read : (content : Option (List ℕ)) (s : Stat) (a b : Position) → Passes a b (pair buffer stat) (content, stat_fields s) → Reaches a b (SpellsOutcome shapes.Content (outcomes.Content content s))
unfolding SpellsOutcome SpellsForm
content_read content s a b p = record { bytes = p.bytes; is = p.spelled; cut = p.cut; moved = p.moved }

pub acls_read : (list : Option (List Acl)) (s : Stat) (a b : Position) → Passes a b (pair acls stat) (acls_fields list, stat_fields s) → Reaches a b (SpellsOutcome shapes.Acls (outcomes.Acls list s))
unfolding SpellsOutcome SpellsForm
acls_read list s a b p = record { bytes = p.bytes; is = p.spelled; cut = p.cut; moved = p.moved }

pub children_read : (names : Option (List (List ℕ))) (a b : Position) → Passes a b (vector ustring) names → Reaches a b (SpellsOutcome shapes.Children (outcomes.Children names))
unfolding SpellsOutcome SpellsForm
children_read names a b p = record { bytes = p.bytes; is = p.spelled; cut = p.cut; moved = p.moved }

pub children2_read : (names : Option (List (List ℕ))) (s : Stat) (a b : Position) → Passes a b (pair (vector ustring) stat) (names, stat_fields s) → Reaches a b (SpellsOutcome shapes.Children2 (outcomes.Children2 names s))
unfolding SpellsOutcome SpellsForm
children2_read names s a b p = record { bytes = p.bytes; is = p.spelled; cut = p.cut; moved = p.moved }

pub results_read : (list : List OpResult) (a b : Position) → Reaches a b (SpellsResults list) → Reaches a b (SpellsOutcome shapes.Multi (outcomes.Multi list))
unfolding SpellsOutcome SpellsForm
results_read list a b p = record { bytes = p.bytes; is = p.is; cut = p.cut; moved = p.moved }

pub created2_read : (path : List ℕ) (s : Stat) (a b : Position) → Passes a b (pair ustring stat) (path, stat_fields s) → Reaches a b (SpellsOutcome shapes.Created2 (outcomes.Created2 path s))
unfolding SpellsOutcome SpellsForm
created2_read path s a b p = record { bytes = p.bytes; is = p.spelled; cut = p.cut; moved = p.moved }

pub front_fails : (t : Jute) (a : Position) (e : NotRead) → Fails a t e → FailsAt a (λ at b place reason. IsRefused t at b place reason) e
front_fails t a (Refused r) h = record { refused = h.refused.refused }
front_fails t a Memory h = record { refused = tt }

pub ruleset outcomes_read = (empty_read, path_read, stat_read, content_read, acls_read, children_read, children2_read, results_read, created2_read, front_fails)

-- replies
pub reply_header_fails : (shape : Shape) (a : Position) (body : List ℕ) (e : NotRead) → a ≡ record { place = 0; left = body } → Fails a reply_header e → FailsBody body (RefusedReply shape) e
reply_header_fails shape a body (Refused r) at h = record { refused = inl (subst (λ (p : Position). IsRefused reply_header p.place p.left r.place r.reason) at h.refused.refused) }
reply_header_fails shape a body Memory at h = record { refused = tt }

-- a reply's header has 16 bytes
header_size : (xid zxid err : ℤ) (b : List ℕ) → Spells reply_header (xid, (zxid, err)) b → length b ≡ 16
unfolding Spells
header_size xid zxid err b p =
    let x = p.0 in
    let four : length x ≡ 4 = ap length p.2.1 in
    let eight : length p.3.0 ≡ 8 = ap length p.3.2.1 in
    let last : length p.3.1 ≡ 4 = ap length p.3.3.1 in
    omega (arith, four, eight, last, ap length p.4, length-append x p.1, ap length p.3.4, length-append p.3.0 p.3.1)

-- the header was read from the body's start
pub record Headed (xid zxid err : ℤ) (body : List ℕ) (b : Position) : Type 0 where
  pub bytes : List ℕ
  pub head : Spells reply_header (xid, (zxid, err)) bytes
  pub cut : body ≡ bytes ++ b.left
  pub place : b.place ≡ 16

headed : (xid zxid err : ℤ) (a b : Position) (body : List ℕ) → a ≡ record { place = 0; left = body } → Passes a b reply_header (xid, (zxid, err)) → Headed xid zxid err body b
headed xid zxid err a b body at p = record {
  bytes = p.bytes;
  head = p.spelled;
  cut = ap (λ (x : Position). x.left) (sym at) ∙ p.cut;
  place = omega (arith, p.moved, ap (λ (x : Position). x.place) at, header_size xid zxid err p.bytes p.spelled);
}

-- after an error nothing follows
pub error_followed : (shape : Shape) (xid zxid err : ℤ) (a b : Position) (body : List ℕ) (r : Refusal) → a ≡ record { place = 0; left = body } → Passes a b reply_header (xid, (zxid, err)) → err ≢ pos 0 → (0 < length b.left) × (r ≡ record { place = b.place; reason = Trailing }) → FailsBody body (RefusedReply shape) (Refused r)
error_followed shape xid zxid err a b body r at p other h =
    let k = headed xid zxid err a b body at p in
    record {
      refused = inr (record {
        xid = xid;
        zxid = zxid;
        err = err;
        header = k.bytes;
        rest = b.left;
        head = k.head;
        cut = k.cut;
        bad = inl (other, h.0, ap (λ (x : Refusal). x.place) h.1 ∙ k.place, ap (λ (x : Refusal). x.reason) h.1);
      });
    }

pub error_read : (shape : Shape) (xid zxid err : ℤ) (a b : Position) (body : List ℕ) → a ≡ record { place = 0; left = body } → Passes a b reply_header (xid, (zxid, err)) → err ≢ pos 0 → b.left ≡ [] → SpellsReply shape (record { xid = xid; zxid = zxid; outcome = outcomes.Error err }) body
unfolding SpellsOutcome
error_read shape xid zxid err a b body at p other end =
    let k = headed xid zxid err a b body at p in
    record { header = k.bytes; rest = b.left; head = k.head; tail = (other, end); cut = k.cut }

bad_outcome : (shape : Shape) (xid zxid err : ℤ) (a b : Position) (body : List ℕ) (r : Refusal) → a ≡ record { place = 0; left = body } → Passes a b reply_header (xid, (zxid, err)) → err ≡ pos 0 → RefusedForm (form_of_shape shape) b.place b.left r.place r.reason → FailsBody body (RefusedReply shape) (Refused r)
bad_outcome shape xid zxid err a b body r at p none h =
    let k = headed xid zxid err a b body at p in
    record {
      refused = inr (record {
        xid = xid;
        zxid = zxid;
        err = err;
        header = k.bytes;
        rest = b.left;
        head = k.head;
        cut = k.cut;
        bad = inr (none, subst (λ (n : ℕ). RefusedForm (form_of_shape shape) n b.left r.place r.reason) k.place h);
      });
    }

front_of : (shape : Shape) (at : ℕ) (b : List ℕ) (place : ℕ) (reason : Reason) → RefusedFront (form_of_shape shape) at b place reason ⊎ IsFollowed (form_of_shape shape) at b place reason → RefusedForm (form_of_shape shape) at b place reason
unfolding RefusedForm
front_of shapes.Empty at b place reason h = h
front_of shapes.Path at b place reason h = h
front_of shapes.Stat at b place reason h = h
front_of shapes.Content at b place reason h = h
front_of shapes.Acls at b place reason h = h
front_of shapes.Children at b place reason h = h
front_of shapes.Children2 at b place reason h = h
front_of shapes.Multi at b place reason h = h
front_of shapes.Created2 at b place reason h = h

pub outcome_fails : (shape : Shape) (xid zxid err : ℤ) (a b : Position) (body : List ℕ) (e : NotRead) → a ≡ record { place = 0; left = body } → Passes a b reply_header (xid, (zxid, err)) → err ≡ pos 0 → FailsAt b (RefusedFront (form_of_shape shape)) e → FailsBody body (RefusedReply shape) e
outcome_fails shape xid zxid err a b body (Refused r) at p none h = bad_outcome shape xid zxid err a b body r at p none (front_of shape b.place b.left r.place r.reason (inl h.refused))
outcome_fails shape xid zxid err a b body Memory at p none h = record { refused = tt }

-- the value of an outcome that is no error
outcome_value : (shape : Shape) (o : Outcome) (b : List ℕ) → err_of o ≡ pos 0 → SpellsOutcome shape o b → (v : FormValue (form_of_shape shape)) × SpellsForm (form_of_shape shape) v b
unfolding SpellsOutcome SpellsForm
outcome_value shape (outcomes.Error code) b none h = absurd (h.0 none)
outcome_value shapes.Empty outcomes.Empty b none h = (tt, h)
outcome_value shapes.Path (outcomes.Path path) b none h = (path, h)
outcome_value shapes.Stat (outcomes.Stat s) b none h = (stat_fields s, h)
outcome_value shapes.Content (outcomes.Content content s) b none h = ((content, stat_fields s), h)
outcome_value shapes.Acls (outcomes.Acls list s) b none h = ((acls_fields list, stat_fields s), h)
outcome_value shapes.Children (outcomes.Children names) b none h = (names, h)
outcome_value shapes.Children2 (outcomes.Children2 names s) b none h = ((names, stat_fields s), h)
outcome_value shapes.Multi (outcomes.Multi list) b none h = (list, h)
outcome_value shapes.Created2 (outcomes.Created2 path s) b none h = ((path, stat_fields s), h)
outcome_value shape o b none h = absurd h

pub outcome_followed : (shape : Shape) (xid zxid err : ℤ) (o : Outcome) (a b c : Position) (body : List ℕ) (r : Refusal) → a ≡ record { place = 0; left = body } → Passes a b reply_header (xid, (zxid, err)) → err ≡ pos 0 → Reaches b c (SpellsOutcome shape o) → err_of o ≡ pos 0 → (0 < length c.left) × (r ≡ record { place = c.place; reason = Trailing }) → FailsBody body (RefusedReply shape) (Refused r)
outcome_followed shape xid zxid err o a b c body r at p none q done h =
    let v = outcome_value shape o q.bytes done q.is in
    bad_outcome shape xid zxid err a b body r at p none (front_of shape b.place b.left r.place r.reason (inr (record {
      value = v.0;
      bytes = q.bytes;
      more = c.left;
      spelled = v.1;
      cut = q.cut;
      some = h.0;
      found = ap (λ (x : Refusal). x.place) h.1 ∙ q.moved;
      why = ap (λ (x : Refusal). x.reason) h.1;
    })))

pub reply_read : (shape : Shape) (xid zxid err : ℤ) (o : Outcome) (a b c : Position) (body : List ℕ) → a ≡ record { place = 0; left = body } → Passes a b reply_header (xid, (zxid, err)) → err ≡ pos 0 → Reaches b c (SpellsOutcome shape o) → err_of o ≡ pos 0 → c.left ≡ [] → SpellsReply shape (record { xid = xid; zxid = zxid; outcome = o }) body
reply_read shape xid zxid err o a b c body at p none q done end =
    let k = headed xid zxid err a b body at p in
    let rest : b.left ≡ q.bytes = q.cut ∙ ap (λ (l : List ℕ). q.bytes ++ l) end ∙ append-nil q.bytes in
    record {
      header = k.bytes;
      rest = q.bytes;
      head = subst (λ (z : ℤ). Spells reply_header (xid, (zxid, z)) k.bytes) (none ∙ sym done) k.head;
      tail = q.is;
      cut = k.cut ∙ ap (λ (l : List ℕ). k.bytes ++ l) rest;
    }

pub ruleset replies_read = (reply_header_fails, error_followed, error_read, outcome_fails, outcome_followed, reply_read)

-- Writing

pub event_added : (e : Event) (a b c : List ℕ) → Adds a b reply_header (negsuc 0, (negsuc 0, pos 0)) → Adds b c event_record (event_fields e) → AddsBytes a c (SpellsEvent e)
event_added e a b c p q =
    let r = add_then reply_header event_record _ _ a b c p q in
    record { bytes = r.bytes; is = r.spelled; added = r.added }

pub error_added : (code : ℤ) (a : List ℕ) → code ≢ pos 0 → AddsBytes a a (IsOutcome (outcomes.Error code))
unfolding SpellsOutcome
error_added code a other = record { bytes = []; is = λ shape h. (other, refl); added = sym (append-nil a) }

empty_is : (shape : Shape) → HasShape shape outcomes.Empty → SpellsOutcome shape outcomes.Empty []
unfolding SpellsOutcome
empty_is shapes.Empty h = refl
empty_is shape h = absurd h

pub empty_added : (a : List ℕ) → AddsBytes a a (IsOutcome outcomes.Empty)
empty_added a = record { bytes = []; is = empty_is; added = sym (append-nil a) }

path_is : (path : List ℕ) (b : List ℕ) → Spells ustring path b → IsOutcome (outcomes.Path path) b
unfolding SpellsOutcome SpellsForm
path_is path b p shapes.Path h = p
path_is path b p shape h = absurd h

pub path_added : (path : List ℕ) (a b : List ℕ) → Adds a b ustring path → AddsBytes a b (IsOutcome (outcomes.Path path))
path_added path a b p = record { bytes = p.bytes; is = path_is path p.bytes p.spelled; added = p.added }

stat_is : (s : Stat) (b : List ℕ) → Spells stat (stat_fields s) b → IsOutcome (outcomes.Stat s) b
unfolding SpellsOutcome SpellsForm
stat_is s b p shapes.Stat h = p
stat_is s b p shape h = absurd h

pub stat_added : (s : Stat) (a b : List ℕ) → Adds a b stat (stat_fields s) → AddsBytes a b (IsOutcome (outcomes.Stat s))
stat_added s a b p = record { bytes = p.bytes; is = stat_is s p.bytes p.spelled; added = p.added }

content_is : (content : Option (List ℕ)) (s : Stat) (b : List ℕ) → Spells (pair buffer stat) (content, stat_fields s) b → IsOutcome (outcomes.Content content s) b
unfolding SpellsOutcome SpellsForm
content_is content s b p shapes.Content h = p
content_is content s b p shape h = absurd h

pub content_added : (content : Option (List ℕ)) (s : Stat) (a b : List ℕ) → Adds a b (pair buffer stat) (content, stat_fields s) → AddsBytes a b (IsOutcome (outcomes.Content content s))
content_added content s a b p = record { bytes = p.bytes; is = content_is content s p.bytes p.spelled; added = p.added }

acls_is : (list : Option (List Acl)) (s : Stat) (b : List ℕ) → Spells (pair acls stat) (acls_fields list, stat_fields s) b → IsOutcome (outcomes.Acls list s) b
unfolding SpellsOutcome SpellsForm
acls_is list s b p shapes.Acls h = p
acls_is list s b p shape h = absurd h

pub acls_added : (list : Option (List Acl)) (s : Stat) (a b : List ℕ) → Adds a b (pair acls stat) (acls_fields list, stat_fields s) → AddsBytes a b (IsOutcome (outcomes.Acls list s))
acls_added list s a b p = record { bytes = p.bytes; is = acls_is list s p.bytes p.spelled; added = p.added }

children_is : (names : Option (List (List ℕ))) (b : List ℕ) → Spells (vector ustring) names b → IsOutcome (outcomes.Children names) b
unfolding SpellsOutcome SpellsForm
children_is names b p shapes.Children h = p
children_is names b p shape h = absurd h

pub children_added : (names : Option (List (List ℕ))) (a b : List ℕ) → Adds a b (vector ustring) names → AddsBytes a b (IsOutcome (outcomes.Children names))
children_added names a b p = record { bytes = p.bytes; is = children_is names p.bytes p.spelled; added = p.added }

children2_is : (names : Option (List (List ℕ))) (s : Stat) (b : List ℕ) → Spells (pair (vector ustring) stat) (names, stat_fields s) b → IsOutcome (outcomes.Children2 names s) b
unfolding SpellsOutcome SpellsForm
children2_is names s b p shapes.Children2 h = p
children2_is names s b p shape h = absurd h

pub children2_added : (names : Option (List (List ℕ))) (s : Stat) (a b : List ℕ) → Adds a b (pair (vector ustring) stat) (names, stat_fields s) → AddsBytes a b (IsOutcome (outcomes.Children2 names s))
children2_added names s a b p = record { bytes = p.bytes; is = children2_is names s p.bytes p.spelled; added = p.added }

results_is : (list : List OpResult) (b : List ℕ) → SpellsResults list b → IsOutcome (outcomes.Multi list) b
unfolding SpellsOutcome SpellsForm
results_is list b p shapes.Multi h = p
results_is list b p shape h = absurd h

pub results_added : (list : List OpResult) (a b : List ℕ) → AddsBytes a b (SpellsResults list) → AddsBytes a b (IsOutcome (outcomes.Multi list))
results_added list a b p = record { bytes = p.bytes; is = results_is list p.bytes p.is; added = p.added }

created2_is : (path : List ℕ) (s : Stat) (b : List ℕ) → Spells (pair ustring stat) (path, stat_fields s) b → IsOutcome (outcomes.Created2 path s) b
unfolding SpellsOutcome SpellsForm
created2_is path s b p shapes.Created2 h = p
created2_is path s b p shape h = absurd h

pub created2_added : (path : List ℕ) (s : Stat) (a b : List ℕ) → Adds a b (pair ustring stat) (path, stat_fields s) → AddsBytes a b (IsOutcome (outcomes.Created2 path s))
created2_added path s a b p = record { bytes = p.bytes; is = created2_is path s p.bytes p.spelled; added = p.added }

pub ruleset outcomes_added = (error_added, empty_added, path_added, stat_added, content_added, acls_added, children_added, children2_added, results_added, created2_added)

pub reply_added : (r : Reply) (h : ReplyHeader) (a b c : List ℕ) → h ≡ record { xid = r.xid; zxid = r.zxid; err = err_of r.outcome } → Adds a b reply_header (reply_header_fields h) → AddsBytes b c (IsOutcome r.outcome) → AddsBytes a c (IsReply r)
reply_added r h a b c same p q = record {
  bytes = p.bytes ++ q.bytes;
  is = λ shape has. record {
    header = p.bytes;
    rest = q.bytes;
    head = subst (λ (k : ReplyHeader). Spells reply_header (reply_header_fields k) p.bytes) same p.spelled;
    tail = q.is shape has;
    cut = refl;
  };
  added = q.added ∙ ap (λ (l : List ℕ). l ++ q.bytes) p.added ∙ append_assoc a p.bytes q.bytes;
}
