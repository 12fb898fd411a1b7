-- Reading and writing requests, exit by exit.
use Rattle.std.proofs.Common.{◌≡◌, ◌≢◌, ◌⊎◌, ℕ, ℤ, pos, ◌<◌, List, [], ◌++◌, length, Option, Some, None, Result, Ok, Err, OnOk, refl, inl, inr, ◌∙◌, ap, sym, subst, append_assoc, arith, length-append}
use Rattle.std.proofs.lemmas.List.{append-nil}
use Rattle.std.proofs.lemmas.Option.{none-some}
use Rattle.std.specs.Option.{option_map_or}
use Rattle.jute_core.specs.Jute.{Jute, Value, Spells, Refused as IsRefused}
use Rattle.jute_core.specs.Position.{Position, Passes, Adds, Appends}
use Rattle.jute_core.specs.Records.{Fails}
use Rattle.jute_core.specs.declared.cursor.Reason.{Reason}
use Rattle.jute_core.specs.declared.cursor.Reason.TheVariants.{Trailing, BadXid}
use Rattle.jute_core.specs.declared.cursor.Refusal.{Refusal}
use Rattle.jute_core.specs.declared.not_read.NotRead.{NotRead}
use Rattle.jute_core.specs.declared.not_read.NotRead.TheVariants.{Refused, Memory}
use Rattle.zk_records.specs.Headers.{request_header}
use Rattle.zk_messages.specs.Kinds.{kind_number, kind_of}
use Rattle.zk_messages.specs.Forms.{FormValue, SpellsForm, RefusedFront, RefusedForm, IsFollowed, fields, nothing, operations, unread, form_of, form_of_any}
use Rattle.zk_messages.specs.Multi.{SpellsOps}
use Rattle.zk_messages.specs.Reading.{Reaches, FailsAt, FailsBody}
use Rattle.zk_messages.specs.Requests.{IsKind, MayHave, IsUnknown, SpellsRequest, RefusedRequest, number_of, fields_of}
use Rattle.zk_messages.specs.Sending.{AddsBytes}
use Rattle.zk_messages.specs.declared.kind.Kind.{Kind}
use Rattle.zk_messages.specs.declared.kind.Kind.TheVariants as kinds
use Rattle.zk_messages.specs.declared.request.Op.{Op}
use Rattle.zk_messages.specs.declared.request.Request.{Request}
use Rattle.zk_messages.specs.declared.request.Request.TheVariants as requests

-- what follows the header
pub fields_read : (t : Jute) (v : Value t) (a b : Position) → Passes a b t v → Reaches a b (SpellsForm (fields t) v)
unfolding SpellsForm
fields_read t v a b p = record { bytes = p.bytes; is = p.spelled; cut = p.cut; moved = p.moved }

pub nothing_read : (a : Position) → Reaches a a (SpellsForm nothing tt)
unfolding SpellsForm
nothing_read a = record { bytes = []; is = refl; cut = refl; moved = omega arith }

pub operations_read : (list : List Op) (a b : Position) → Reaches a b (SpellsOps list) → Reaches a b (SpellsForm operations list)
unfolding SpellsForm
operations_read list a b p = record { bytes = p.bytes; is = p.is; cut = p.cut; moved = p.moved }

pub record_fails : (t : Jute) (a : Position) (e : NotRead) → Fails a t e → FailsAt a (λ at b place reason. IsRefused t at b place reason) e
record_fails t a (Refused r) h = record { refused = h.refused.refused }
record_fails t a Memory h = record { refused = tt }

pub ruleset fields_are_read = (fields_read, nothing_read, operations_read, record_fails)

-- the whole rest of a body
front_of : (kind : Kind) (at : ℕ) (b : List ℕ) (place : ℕ) (reason : Reason) → kind ≢ kinds.Auth → RefusedFront (form_of kind) at b place reason ⊎ IsFollowed (form_of kind) at b place reason → RefusedForm (form_of kind) at b place reason
unfolding RefusedForm
front_of kinds.Create at b place reason other h = h
front_of kinds.Delete at b place reason other h = h
front_of kinds.Exists at b place reason other h = h
front_of kinds.GetContent at b place reason other h = h
front_of kinds.SetContent at b place reason other h = h
front_of kinds.GetAcl at b place reason other h = h
front_of kinds.SetAcl at b place reason other h = h
front_of kinds.GetChildren at b place reason other h = h
front_of kinds.Sync at b place reason other h = h
front_of kinds.Ping at b place reason other h = h
front_of kinds.GetChildren2 at b place reason other h = h
front_of kinds.Multi at b place reason other h = h
front_of kinds.Create2 at b place reason other h = h
front_of kinds.Auth at b place reason other h = absurd (other refl)
front_of kinds.SetWatches at b place reason other h = h
front_of kinds.Close at b place reason other h = h

pub front_fails : (kind : Kind) (a : Position) (e : NotRead) → kind ≢ kinds.Auth → FailsAt a (RefusedFront (form_of kind)) e → FailsAt a (RefusedForm (form_of kind)) e
front_fails kind a (Refused r) other h = record { refused = front_of kind a.place a.left r.place r.reason other (inl h.refused) }
front_fails kind a Memory other h = record { refused = tt }

is_followed : (f : Option Kind) (v : FormValue (form_of_any f)) (kind : Kind) (b c : Position) (r : Refusal) → f ≡ Some kind → Reaches b c (SpellsForm (form_of_any f) v) → (0 < length c.left) × (r ≡ record { place = c.place; reason = Trailing }) → IsFollowed (form_of kind) b.place b.left r.place r.reason
is_followed f v kind b c r same q h = subst (λ (k : Option Kind). IsFollowed (form_of_any k) b.place b.left r.place r.reason) same (record {
  value = v;
  bytes = q.bytes;
  more = c.left;
  spelled = q.is;
  cut = q.cut;
  some = h.0;
  found = ap (λ (x : Refusal). x.place) h.1 ∙ q.moved;
  why = ap (λ (x : Refusal). x.reason) h.1;
})

pub more_follows : (kind : Kind) (request : Request) (b c : Position) (r : Refusal) → kind ≢ kinds.Auth → kind_of request ≡ Some kind → Reaches b c (SpellsForm (form_of_any (kind_of request)) (fields_of request)) → (0 < length c.left) × (r ≡ record { place = c.place; reason = Trailing }) → FailsAt b (RefusedForm (form_of kind)) (Refused r)
more_follows kind request b c r other same q h = record { refused = front_of kind b.place b.left r.place r.reason other (inr (is_followed (kind_of request) (fields_of request) kind b c r same q h)) }

pub all_read : (request : Request) (b c : Position) → Reaches b c (SpellsForm (form_of_any (kind_of request)) (fields_of request)) → c.left ≡ [] → SpellsForm (form_of_any (kind_of request)) (fields_of request) b.left
all_read request b c q end = subst (SpellsForm (form_of_any (kind_of request)) (fields_of request)) (sym (q.cut ∙ ap (λ (l : List ℕ). q.bytes ++ l) end ∙ append-nil q.bytes)) q.is

pub auth_read : (body rest : List ℕ) → body ≡ rest → SpellsForm (form_of_any (kind_of (requests.Auth body))) (fields_of (requests.Auth body)) rest
unfolding SpellsForm
auth_read body rest same = sym same

pub ruleset bodies_read = (front_fails, more_follows, all_read, auth_read)

-- the whole body
pub header_fails : (a : Position) (body : List ℕ) (e : NotRead) → a ≡ record { place = 0; left = body } → Fails a request_header e → FailsBody body RefusedRequest e
header_fails a body (Refused r) at h = record { refused = inl (subst (λ (p : Position). IsRefused request_header p.place p.left r.place r.reason) at h.refused.refused) }
header_fails a body Memory at h = record { refused = tt }

-- a request's header has 8 bytes
header_size : (xid kind : ℤ) (b : List ℕ) → Spells request_header (xid, kind) b → length b ≡ 8
unfolding Spells
header_size xid kind b p =
    let first : length p.0 ≡ 4 = ap length p.2.1 in
    let second : length p.1 ≡ 4 = ap length p.3.1 in
    omega (arith, first, second, ap length p.4, length-append p.0 p.1)

record Headed (xid kind : ℤ) (body : List ℕ) (b : Position) : Type 0 where
  bytes : List ℕ
  head : Spells request_header (xid, kind) bytes
  cut : body ≡ bytes ++ b.left
  place : b.place ≡ 8

headed : (xid kind : ℤ) (a b : Position) (body : List ℕ) → a ≡ record { place = 0; left = body } → Passes a b request_header (xid, kind) → Headed xid kind body b
headed xid kind a b body at p = record {
  bytes = p.bytes;
  head = p.spelled;
  cut = ap (λ (x : Position). x.left) (sym at) ∙ p.cut;
  place = omega (arith, p.moved, ap (λ (x : Position). x.place) at, header_size xid kind p.bytes p.spelled);
}

pub xid_fails : (xid kind : ℤ) (a b : Position) (body : List ℕ) → a ≡ record { place = 0; left = body } → Passes a b request_header (xid, kind) → (MayHave xid kind → ⊥) → FailsBody body RefusedRequest (Refused (record { place = 0; reason = BadXid }))
xid_fails xid kind a b body at p bad =
    let k = headed xid kind a b body at p in
    record { refused = inr (record { xid = xid; kind = kind; header = k.bytes; rest = b.left; head = k.head; cut = k.cut; bad = inl (bad, refl, refl) }) }

pub body_fails : (xid number : ℤ) (kind : Kind) (a b : Position) (body : List ℕ) (e : NotRead) → a ≡ record { place = 0; left = body } → Passes a b request_header (xid, number) → MayHave xid number → number ≡ kind_number kind → FailsAt b (RefusedForm (form_of kind)) e → FailsBody body RefusedRequest e
body_fails xid number kind a b body (Refused r) at p may same h =
    let k = headed xid number a b body at p in
    record {
      refused = inr (record {
        xid = xid;
        kind = number;
        header = k.bytes;
        rest = b.left;
        head = k.head;
        cut = k.cut;
        bad = inr (may, Some kind, same, subst (λ (n : ℕ). RefusedForm (form_of kind) n b.left r.place r.reason) k.place h.refused);
      });
    }
body_fails xid number kind a b body Memory at p may same h = record { refused = tt }

-- the number of a request's type
abbrev number_of_any : Option Kind → ℤ → ℤ
number_of_any f other = option_map_or kind_number f other

known_number : (request : Request) (kind : Kind) → kind_of request ≡ Some kind → number_of request ≡ number_of_any (kind_of request) (pos 0)
known_number (requests.Unknown number body) kind same = none_not kind same
  where
    none_not : (k : Kind) → None ≡ Some k → number ≡ pos 0
    none_not k e = absurd (none-some k e)
known_number request kind same = refl

number_is : (request : Request) (kind : Kind) → kind_of request ≡ Some kind → number_of request ≡ kind_number kind
number_is request kind same = known_number request kind same ∙ ap (λ (f : Option Kind). number_of_any f (pos 0)) same

pub request_read : (xid number : ℤ) (kind : Kind) (request : Request) (a b : Position) (body : List ℕ) → a ≡ record { place = 0; left = body } → Passes a b request_header (xid, number) → MayHave xid number → number ≡ kind_number kind → kind_of request ≡ Some kind → SpellsForm (form_of_any (kind_of request)) (fields_of request) b.left → SpellsRequest xid request body
request_read xid number kind request a b body at p may same is h =
    let k = headed xid number a b body at p in
    let n : number ≡ number_of request = same ∙ sym (number_is request kind is) in
    record {
      numbered = subst (IsKind (number_of request)) (sym is) (number_is request kind is);
      may = subst (MayHave xid) n may;
      header = k.bytes;
      rest = b.left;
      head = subst (λ (z : ℤ). Spells request_header (xid, z) k.bytes) n k.head;
      tail = h;
      cut = k.cut;
    }

pub unknown_read : (xid number : ℤ) (rest : List ℕ) (a b : Position) (body : List ℕ) → a ≡ record { place = 0; left = body } → Passes a b request_header (xid, number) → MayHave xid number → IsUnknown number → rest ≡ b.left → SpellsRequest xid (requests.Unknown number rest) body
unfolding SpellsForm
unknown_read xid number rest a b body at p may unknown same =
    let k = headed xid number a b body at p in
    record { numbered = unknown; may = may; header = k.bytes; rest = b.left; head = k.head; tail = sym same; cut = k.cut }

pub ruleset requests_read = (header_fails, xid_fails, body_fails, request_read, unknown_read)

-- Writing

pub fields_added : (t : Jute) (v : Value t) (a b : List ℕ) → Adds a b t v → AddsBytes a b (SpellsForm (fields t) v)
unfolding SpellsForm
fields_added t v a b p = record { bytes = p.bytes; is = p.spelled; added = p.added }

pub nothing_added : (a : List ℕ) → AddsBytes a a (SpellsForm nothing tt)
unfolding SpellsForm
nothing_added a = record { bytes = []; is = refl; added = sym (append-nil a) }

pub operations_added : (list : List Op) (a b : List ℕ) → AddsBytes a b (SpellsOps list) → AddsBytes a b (SpellsForm operations list)
unfolding SpellsForm
operations_added list a b p = record { bytes = p.bytes; is = p.is; added = p.added }

pub unread_added : (body a b : List ℕ) → b ≡ a ++ body → AddsBytes a b (SpellsForm unread body)
unfolding SpellsForm
unread_added body a b p = record { bytes = body; is = refl; added = p }

-- the same of what a call answers
abbrev pub IsTail : Request → List ℕ → Type 0
IsTail r b = SpellsForm (form_of_any (kind_of r)) (fields_of r) b

pub put_is : {E : Type 0} (r s : Request) (result : Result Unit E) (a b : List ℕ) → r ≡ s → OnOk result (AddsBytes a b (IsTail s)) → OnOk result (AddsBytes a b (IsTail r))
put_is {E} r s result a b same h = subst (λ (x : Request). OnOk result (AddsBytes a b (IsTail x))) (sym same) h

pub nothing_is : (r s : Request) (a : List ℕ) → r ≡ s → AddsBytes a a (IsTail s) → AddsBytes a a (IsTail r)
nothing_is r s a same h = subst (λ (x : Request). AddsBytes a a (IsTail x)) (sym same) h

pub fields_put : {E : Type 0} (t : Jute) (v : Value t) (result : Result Unit E) (a b : List ℕ) → Appends a b t v result → OnOk result (AddsBytes a b (SpellsForm (fields t) v))
fields_put {E} t v (Ok u) a b p = fields_added t v a b p
fields_put {E} t v (Err e) a b p = tt

pub operations_put : {E : Type 0} (list : List Op) (result : Result Unit E) (a b : List ℕ) → OnOk result (AddsBytes a b (SpellsOps list)) → OnOk result (AddsBytes a b (SpellsForm operations list))
operations_put {E} list (Ok u) a b p = operations_added list a b p
operations_put {E} list (Err e) a b p = tt

pub unread_put : {E : Type 0} (body : List ℕ) (result : Result Unit E) (a b : List ℕ) → OnOk result (b ≡ a ++ body) → OnOk result (AddsBytes a b (SpellsForm unread body))
unread_put {E} body (Ok u) a b p = unread_added body a b p
unread_put {E} body (Err e) a b p = tt

pub request_added : (xid number : ℤ) (request : Request) (a b c : List ℕ) → IsKind (number_of request) (kind_of request) → MayHave xid (number_of request) → Adds a b request_header (xid, number) → number ≡ number_of request → AddsBytes b c (SpellsForm (form_of_any (kind_of request)) (fields_of request)) → AddsBytes a c (SpellsRequest xid request)
request_added xid number request a b c numbered may p same q = record {
  bytes = p.bytes ++ q.bytes;
  is = record {
    numbered = numbered;
    may = may;
    header = p.bytes;
    rest = q.bytes;
    head = subst (λ (z : ℤ). Spells request_header (xid, z) p.bytes) same p.spelled;
    tail = q.is;
    cut = refl;
  };
  added = q.added ∙ ap (λ (l : List ℕ). l ++ q.bytes) p.added ∙ append_assoc a p.bytes q.bytes;
}
