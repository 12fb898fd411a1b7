use Rattle.std.proofs.lemmas.Int.{to_z-of_z}
use Rattle.std.proofs.lemmas.Result.{IfOk-weaker}
use Rattle.store_side.specs.Past.{state_of}
use Rattle.tree_server.proofs.UpSessions.{all_over, none_over, none_ascend}
use Rattle.tree_server.proofs.machine.Machine.up.Goals as goal

pub returns-then-not-has_come-clause-up : goal.returns-then-not-has_come-clause-up
returns-then-not-has_come-clause-up g c =
    let f = c.ranges.now in
    λ past h n. none_over _ (state_of past) c.args.now _ h.dues (simp to_z-of_z at (c.has_come.ensures c.if-not-has_come.true))
    c.new.ensures.items n

pub returns-then-not-has_come-clause-ascending : goal.returns-then-not-has_come-clause-ascending
returns-then-not-has_come-clause-ascending g c = none_ascend _ c.new.ensures.items

pub returns-clause-up : goal.returns-clause-up
returns-clause-up g c =
    let f = c.ranges.now in
    IfOk-weaker c.up.result _ _ (λ numbers up past h n. all_over _ (state_of past) c.args.now _ h.dues up n)
    (simp to_z-of_z at c.up.ensures.up)
