-- Stat of zookeeper.jute.
use Rattle.jute_core.specs.Jute.{Jute, Value, int, long, pair}
use Rattle.zk_records.specs.declared.stat.Stat.{Stat}

-- czxid, mzxid, ctime, mtime, version, cversion, aversion, owner, length, children, pzxid
abbrev pub stat : Jute
stat = pair long (pair long (pair long (pair long (pair int (pair int (pair int (pair long (pair int (pair int long)))))))))

abbrev pub stat_fields : Stat → Value stat
stat_fields s = (s.czxid, (s.mzxid, (s.ctime, (s.mtime, (s.version, (s.cversion, (s.aversion, (s.owner, (s.length, (s.children, s.pzxid))))))))))

-- its parts, in which it is written
abbrev pub stat_times : Jute
stat_times = pair long (pair long (pair long long))

abbrev pub stat_times_fields : Stat → Value stat_times
stat_times_fields s = (s.czxid, (s.mzxid, (s.ctime, s.mtime)))

abbrev pub stat_versions : Jute
stat_versions = pair int (pair int int)

abbrev pub stat_versions_fields : Stat → Value stat_versions
stat_versions_fields s = (s.version, (s.cversion, s.aversion))

abbrev pub stat_rest : Jute
stat_rest = pair long (pair int (pair int long))

abbrev pub stat_rest_fields : Stat → Value stat_rest
stat_rest_fields s = (s.owner, (s.length, (s.children, s.pzxid)))
