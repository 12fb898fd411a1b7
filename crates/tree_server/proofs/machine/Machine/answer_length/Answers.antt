use Rattle.std.proofs.Common.{sym, ◌∙◌}
use Rattle.zk_messages.proofs.ShortParts.{request_judged}
use Rattle.tree_server.proofs.AnswerLengths.{names_answered, names_stat_answered, other_answered, refused_length}
use Rattle.tree_server.proofs.machine.Machine.answer_length.Goals as goal

pub refusal_of-requires : goal.refusal_of-requires
refusal_of-requires g c = request_judged c.args.request.now c.requires

pub returns-then-is_some : goal.returns-then-is_some
returns-then-is_some g c = λ s m. refused_length s c.args.request.now c.refusal_of.result c.refusal_of.ensures
    (sym c.is_some.ensures ∙ c.if-is_some.true)

pub returns-in-GetChildren : goal.returns-in-GetChildren
returns-in-GetChildren g c = λ s m.
    names_answered s c.args.request.now c.in-GetChildren.asked c.refusal_of.result _ c.in-GetChildren.is c.refusal_of.ensures
    (sym c.is_some.ensures ∙ c.if-is_some.false)
    (λ p t. c.list_length.ensures s p m t)

pub returns-in-GetChildren2 : goal.returns-in-GetChildren2
returns-in-GetChildren2 g c = λ s m.
    names_stat_answered s c.args.request.now c.in-GetChildren2.asked c.refusal_of.result _ c.in-GetChildren2.is c.refusal_of.ensures
    (sym c.is_some.ensures ∙ c.if-is_some.false)
    (λ p t. c.list_length-in-GetChildren2.ensures s p m t)

pub returns-in_default : goal.returns-in_default
returns-in_default g c = λ s m.
    other_answered s c.args.request.now c.refusal_of.result c.refusal_of.ensures (sym c.is_some.ensures ∙ c.if-is_some.false)
    c.in_default.not-GetChildren c.in_default.not-GetChildren2
