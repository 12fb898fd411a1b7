use Rattle.zk_messages.proofs.OneEvent.{one_event, one_event_spelling, event_or_refused}
use Rattle.zk_messages.proofs.OnePlace.{one_event_refusal}
use Rattle.zk_messages.proofs.laws.one_event.Goals as goal

pub returns-clause-one : goal.returns-clause-one
returns-clause-one c = one_event

pub returns-clause-spelling : goal.returns-clause-spelling
returns-clause-spelling c = one_event_spelling

pub returns-clause-or_refused : goal.returns-clause-or_refused
returns-clause-or_refused c = event_or_refused

pub returns-clause-one_place : goal.returns-clause-one_place
returns-clause-one_place c = one_event_refusal
