use Rattle.std.proofs.Common.{rules, refl}
use Rattle.zk_messages.proofs.FirstRules.{rule_fits, rule_passes}
use Rattle.zk_messages.proofs.refusals.refusal_of_create.Goals as goal

pub returns-then-makes_root : goal.returns-then-makes_root
returns-then-makes_root c = rule_passes _ _ _ _ (search rules) (rule_fits _ _ _ (search rules))

pub returns-then-not-is_open : goal.returns-then-not-is_open
returns-then-not-is_open c = rule_passes _ _ _ _ (search rules) (rule_passes _ _ _ _ (search rules) (rule_passes _ _ _ _ (search rules) (rule_fits _ _ _ (search rules))))

pub returns : goal.returns
returns c = rule_passes _ _ _ _ (search rules) (rule_passes _ _ _ _ (search rules) (rule_passes _ _ _ _ (search rules) (rule_passes _ _ _ _ (search rules) refl)))
