use Rattle.std.proofs.Common.{rules, arith, subst}
use Rattle.std.proofs.lemmas.List.Elements.{All-more}
use Rattle.zk_records.specs.Acls.{IsShortAcl}
use Rattle.zk_messages.proofs.FirstRules.{all_are}
use Rattle.tree_server.proofs.sending.are_short_entries.Goals as goal

pub loop-acl-preserved : goal.loop-acl-preserved
loop-acl-preserved c =
    let short : IsShortAcl c.acl-item.result = search rules in
    All-more IsShortAcl c.args.list.now c.loop-acl.acl-index c.acl-item.result c.loop-acl-test.true c.loop-acl.invariant
    (subst IsShortAcl c.acl-item.is short)

pub returns : goal.returns
returns c = all_are IsShortAcl _ _ c.loop-acl.invariant (omega (arith, c.loop-acl-test.false))
