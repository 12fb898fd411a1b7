use Rattle.zk_path.proofs.Values.{upper_held, name_plain}
use Rattle.zk_path.proofs.Numbered.{front_plain, stem_of, no_stem_of}
use Rattle.zk_path.proofs.paths.Path.without_number.Goals as goal

pub under-requires-clause-above : goal.under-requires-clause-above
under-requires-clause-above c = upper_held c.in-Some.ensures

pub under-requires-clause-name : goal.under-requires-clause-name
under-requires-clause-name c = front_plain (name_plain c.in-Some.ensures) c.in-Some-before_number.ensures

pub returns-in_ok-under-in-Some-before_number-clause-some : goal.returns-in_ok-under-in-Some-before_number-clause-some
returns-in_ok-under-in-Some-before_number-clause-some c =
    stem_of c.in-Some.ensures c.in-Some-before_number.ensures c.in_ok-under-in-Some-before_number.ensures

pub returns-in-None-clause-none : goal.returns-in-None-clause-none
returns-in-None-clause-none c = no_stem_of c.in-Some.ensures c.in-None.ensures
