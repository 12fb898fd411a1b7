use Rattle.zk_records.proofs.OneConnect.{one_request, request_or_refused, one_connect_refusal}
use Rattle.zk_records.proofs.laws.one_connect_request.Goals as goal

pub returns-clause-one : goal.returns-clause-one
returns-clause-one c = one_request

pub returns-clause-read_or_refused : goal.returns-clause-read_or_refused
returns-clause-read_or_refused c = request_or_refused

pub returns-clause-one_refusal : goal.returns-clause-one_refusal
returns-clause-one_refusal c = one_connect_refusal
