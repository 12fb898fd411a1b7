-- ConnectRequest and ConnectResponse of zookeeper.jute, in two forms: the newer one has a boolean
-- after the record, which ZooKeeper 3.4 writes in the same frame and which says whether the client
-- takes, or the server is, a read-only server.
use Rattle.std.specs.Prelude.{List, ℕ, Bool, true, false, Option, Some, None}
use Rattle.jute_core.specs.Jute.{Jute, Value, Spells, int, long, boolean, buffer, pair}
use Rattle.jute_core.specs.Whole.{RefusedWhole}
use Rattle.jute_core.specs.declared.cursor.Reason.{Reason}
use Rattle.zk_records.specs.declared.connect.ConnectRequest.{ConnectRequest}
use Rattle.zk_records.specs.declared.connect.ConnectResponse.{ConnectResponse}

-- protocol, seen, timeout, session, password
abbrev pub older_request : Jute
older_request = pair int (pair long (pair int (pair long buffer)))

abbrev pub older_request_fields : ConnectRequest → Value older_request
older_request_fields r = (r.protocol, (r.seen, (r.timeout, (r.session, r.password))))

-- and read_only
abbrev pub newer_request : Jute
newer_request = pair older_request boolean

-- the form that a request has by its read_only
abbrev pub request_form : Option Bool → Jute
request_form None = older_request
request_form (Some b) = newer_request

abbrev pub request_fields : (read_only : Option Bool) → ConnectRequest → Value (request_form read_only)
request_fields None r = older_request_fields r
request_fields (Some b) r = (older_request_fields r, b)

-- the body is this request, in its form
abbrev pub SpellsConnect : ConnectRequest → List ℕ → Type 0
SpellsConnect r body = Spells (request_form r.read_only) (request_fields r.read_only r) body

-- the body is a request in no form. One that goes on after the password is read as the newer form,
-- so the refusal is that form's
pub record RefusedConnect (body : List ℕ) (place : ℕ) (reason : Reason) : Type 0 where
  pub newer : RefusedWhole newer_request body place reason
  pub older : (v : Value older_request) → Spells older_request v body → ⊥

-- protocol, timeout, session, password
abbrev pub older_response : Jute
older_response = pair int (pair int (pair long buffer))

abbrev pub older_response_fields : ConnectResponse → Value older_response
older_response_fields r = (r.protocol, (r.timeout, (r.session, r.password)))

-- and read_only
abbrev pub newer_response : Jute
newer_response = pair older_response boolean

abbrev pub response_form : Option Bool → Jute
response_form None = older_response
response_form (Some b) = newer_response

abbrev pub response_fields : (read_only : Option Bool) → ConnectResponse → Value (response_form read_only)
response_fields None r = older_response_fields r
response_fields (Some b) r = (older_response_fields r, b)

abbrev pub SpellsConnected : ConnectResponse → List ℕ → Type 0
SpellsConnected r body = Spells (response_form r.read_only) (response_fields r.read_only r) body

-- the body is no response in the form that is asked for, the older one where `short` is true
abbrev pub RefusedConnected : Bool → List ℕ → ℕ → Reason → Type 0
RefusedConnected true body place reason = RefusedWhole older_response body place reason
RefusedConnected false body place reason = RefusedWhole newer_response body place reason
