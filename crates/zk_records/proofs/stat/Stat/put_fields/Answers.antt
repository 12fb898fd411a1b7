use Rattle.zk_records.proofs.StatLemmas.{whole_stat}
use Rattle.zk_records.proofs.stat.Stat.put_fields.Goals as goal

pub returns-clause-ok : goal.returns-clause-ok
returns-clause-ok c = whole_stat _ _ _ _ _ c.in_ok-put_times.ensures.ok c.in_ok-put_versions.ensures.ok c.in_ok-put_rest.ensures.ok
