use Rattle.zk_messages.proofs.OneRequest.{one_request, one_request_spelling, request_or_refused}
use Rattle.zk_messages.proofs.OnePlace.{one_request_refusal}
use Rattle.zk_messages.proofs.laws.one_request.Goals as goal

pub returns-clause-one : goal.returns-clause-one
returns-clause-one c = one_request

pub returns-clause-spelling : goal.returns-clause-spelling
returns-clause-spelling c = one_request_spelling

pub returns-clause-or_refused : goal.returns-clause-or_refused
returns-clause-or_refused c = request_or_refused

pub returns-clause-one_place : goal.returns-clause-one_place
returns-clause-one_place c = one_request_refusal
