use Rattle.zk_messages.proofs.OneReply.{one_reply, one_reply_spelling, reply_or_refused}
use Rattle.zk_messages.proofs.OnePlace.{one_reply_refusal}
use Rattle.zk_messages.proofs.laws.one_reply.Goals as goal

pub returns-clause-one : goal.returns-clause-one
returns-clause-one c = one_reply

pub returns-clause-spelling : goal.returns-clause-spelling
returns-clause-spelling c = one_reply_spelling

pub returns-clause-or_refused : goal.returns-clause-or_refused
returns-clause-or_refused c = reply_or_refused

pub returns-clause-one_place : goal.returns-clause-one_place
returns-clause-one_place c = one_reply_refusal
