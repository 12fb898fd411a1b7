-- The two forms of the connect records.
use Rattle.std.proofs.Common.{◌≡◌, ℕ, Bool, true, false, List, [], ◌<◌, length, ap, subst, sym, ◌∙◌, arith, Option, Some, None}
use Rattle.std.proofs.lemmas.List.{append-nil}
use Rattle.jute_core.specs.Jute.{Jute, Value, Spells, boolean, pair}
use Rattle.jute_core.specs.Position.{Position, Passes, Stops, Adds}
use Rattle.jute_core.specs.Records.{Fails, IfRefused}
use Rattle.jute_core.specs.declared.cursor.Reason.TheVariants.{Trailing}
use Rattle.jute_core.specs.declared.cursor.Refusal.{Refusal}
use Rattle.jute_core.specs.declared.not_read.NotRead.{NotRead}
use Rattle.jute_core.specs.declared.not_read.NotRead.TheVariants.{Refused as AsRefused, Memory}
use Rattle.jute_core.proofs.Glue.{fail_first, stop_later, pass_then}
use Rattle.jute_core.proofs.OneSpelling.{one_spelling}
use Rattle.jute_core.proofs.ReadOrRefused.{read_or_refused}
use Rattle.jute_core.proofs.WholeLemmas.{at_start, whole_passed, whole_fails, whole_trailing}
use Rattle.zk_records.specs.Connect.{older_request, older_request_fields, newer_request, request_form, request_fields, RefusedConnect, older_response, older_response_fields, newer_response, response_form, response_fields, RefusedConnected}
use Rattle.zk_records.specs.declared.connect.ConnectRequest.{ConnectRequest}
use Rattle.zk_records.specs.declared.connect.ConnectResponse.{ConnectResponse}

-- a value after which bytes are left is not all of them
goes_on : (t : Jute) (v w : Value t) (body : List ℕ) (b : Position) → Passes (at_start body) b t v → 0 < length b.left → Spells t w body → ⊥
goes_on t v w body b p more s =
    let r = one_spelling t v w p.bytes body b.left [] p.spelled s (sym p.cut ∙ sym (append-nil body)) in
    omega (arith, ap length r.2)

-- the request fails within the older form
pub fails_older : (body : List ℕ) (e : NotRead) → Fails (at_start body) older_request e → IfRefused e (λ r. RefusedConnect body r.place r.reason)
fails_older body (AsRefused r) h = record {
  newer = (whole_fails newer_request body (AsRefused r) (fail_first older_request boolean (at_start body) (AsRefused r) h)).refused;
  older = λ v s. read_or_refused older_request v 0 body body [] r.place r.reason s (sym (append-nil body)) h.refused.refused;
}
fails_older body Memory h = tt

-- at the boolean
pub fails_boolean : (body : List ℕ) (v : Value older_request) (b : Position) (r : Refusal) → Passes (at_start body) b older_request v → 0 < length b.left → Stops b boolean r → RefusedConnect body r.place r.reason
fails_boolean body v b r p more h = record {
  newer = (whole_fails newer_request body (AsRefused r) (record { refused = stop_later older_request boolean v (at_start body) b r p h })).refused;
  older = λ w s. goes_on older_request v w body b p more s;
}

-- after it
pub fails_trailing : (body : List ℕ) (v : Value older_request) (x : Bool) (b c : Position) → Passes (at_start body) b older_request v → 0 < length b.left → Passes b c boolean x → 0 < length c.left → RefusedConnect body c.place Trailing
fails_trailing body v x b c p more q after = record {
  newer = (whole_trailing newer_request (v, x) body c (pass_then older_request boolean v x (at_start body) b c p q) after).refused;
  older = λ w s. goes_on older_request v w body b p more s;
}

-- a response fails in the form that is asked for: within the older one
pub response_fails : (short : Bool) (body : List ℕ) (e : NotRead) → Fails (at_start body) older_response e → IfRefused e (λ r. RefusedConnected short body r.place r.reason)
response_fails true body (AsRefused r) h = (whole_fails older_response body (AsRefused r) h).refused
response_fails false body (AsRefused r) h = (whole_fails newer_response body (AsRefused r) (fail_first older_response boolean (at_start body) (AsRefused r) h)).refused
response_fails short body Memory h = tt

-- after it
pub response_trailing_older : (short : Bool) (body : List ℕ) (v : Value older_response) (b : Position) → short ≡ true → Passes (at_start body) b older_response v → 0 < length b.left → RefusedConnected short body b.place Trailing
response_trailing_older true body v b e p more = (whole_trailing older_response v body b p more).refused
response_trailing_older false body v b e p more = absurd (cc)

-- at the boolean
pub response_boolean : (short : Bool) (body : List ℕ) (v : Value older_response) (b : Position) (r : Refusal) → short ≡ false → Passes (at_start body) b older_response v → Stops b boolean r → RefusedConnected short body r.place r.reason
response_boolean true body v b r e p h = absurd (cc)
response_boolean false body v b r e p h = (whole_fails newer_response body (AsRefused r) (record { refused = stop_later older_response boolean v (at_start body) b r p h })).refused

-- after that
pub response_trailing : (short : Bool) (body : List ℕ) (v : Value newer_response) (b : Position) → short ≡ false → Passes (at_start body) b newer_response v → 0 < length b.left → RefusedConnected short body b.place Trailing
response_trailing true body v b e p more = absurd (cc)
response_trailing false body v b e p more = (whole_trailing newer_response v body b p more).refused

-- writing in the form that read_only says
pub puts_older : (r : ConnectRequest) (o : Option Bool) (a b : List ℕ) → o ≡ None → Adds a b older_request (older_request_fields r) → Adds a b (request_form o) (request_fields o r)
puts_older r None a b e p = p
puts_older r (Some x) a b e p = absurd (cc)

pub puts_newer : (r : ConnectRequest) (o : Option Bool) (x : Bool) (a b : List ℕ) → o ≡ Some x → Adds a b newer_request (older_request_fields r, x) → Adds a b (request_form o) (request_fields o r)
puts_newer r None x a b e p = absurd (cc)
puts_newer r (Some y) x a b e p = let same : x ≡ y = cc in subst (λ (k : Bool). Adds a b newer_request (older_request_fields r, k)) same p

pub puts_older_response : (r : ConnectResponse) (o : Option Bool) (a b : List ℕ) → o ≡ None → Adds a b older_response (older_response_fields r) → Adds a b (response_form o) (response_fields o r)
puts_older_response r None a b e p = p
puts_older_response r (Some x) a b e p = absurd (cc)

pub puts_newer_response : (r : ConnectResponse) (o : Option Bool) (x : Bool) (a b : List ℕ) → o ≡ Some x → Adds a b newer_response (older_response_fields r, x) → Adds a b (response_form o) (response_fields o r)
puts_newer_response r None x a b e p = absurd (cc)
puts_newer_response r (Some y) x a b e p = let same : x ≡ y = cc in subst (λ (k : Bool). Adds a b newer_response (older_response_fields r, k)) same p

-- reading it
pub reads_older : (r : ConnectRequest) (o : Option Bool) (body : List ℕ) (b : Position) → o ≡ None → Passes (at_start body) b older_request (older_request_fields r) → b.left ≡ [] → Spells (request_form o) (request_fields o r) body
reads_older r None body b e p end = whole_passed older_request (older_request_fields r) body b p end
reads_older r (Some x) body b e p end = absurd (cc)

pub reads_older_response : (r : ConnectResponse) (o : Option Bool) (body : List ℕ) (b : Position) → o ≡ None → Passes (at_start body) b older_response (older_response_fields r) → b.left ≡ [] → Spells (response_form o) (response_fields o r) body
reads_older_response r None body b e p end = whole_passed older_response (older_response_fields r) body b p end
reads_older_response r (Some x) body b e p end = absurd (cc)

-- a body in the older form is none in the newer one
pub not_both : (t : Jute) (v w : Value t) (x : Bool) (body : List ℕ) → Spells t v body → Spells (pair t boolean) (w, x) body → ⊥
unfolding Spells
not_both t v w x body p q =
    let r = one_spelling t v w body q.0 [] q.1 p q.2 (append-nil body ∙ q.4) in
    let one : length q.1 ≡ 1 = elim x as (λ b. Spells boolean b q.1 → length q.1 ≡ 1) [ true ↦ λ e. ap length e | false ↦ λ e. ap length e ] q.3 in
    omega (arith, ap length r.2, one)
