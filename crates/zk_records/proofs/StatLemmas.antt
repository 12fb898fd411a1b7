-- A Stat is written in three parts.
use Rattle.std.proofs.Common.{List, ℕ}
use Rattle.jute_core.specs.Jute.{int, long, pair}
use Rattle.jute_core.specs.Position.{Adds}
use Rattle.jute_core.proofs.Glue.{put_field_then, put_parts}
use Rattle.zk_records.specs.Stats.{stat, stat_fields, stat_times, stat_times_fields, stat_versions, stat_versions_fields, stat_rest, stat_rest_fields}
use Rattle.zk_records.specs.declared.stat.Stat.{Stat}

pub whole_stat : (s : Stat) (a b c d : List ℕ) → Adds a b stat_times (stat_times_fields s) → Adds b c stat_versions (stat_versions_fields s) → Adds c d stat_rest (stat_rest_fields s) → Adds a d stat (stat_fields s)
whole_stat s a b c d times versions rest =
    let czxid = put_parts long (pair long (pair long long)) _ a b times in
    let mzxid = put_parts long (pair long long) _ czxid.0 b czxid.2 in
    let ctime = put_parts long long _ mzxid.0 b mzxid.2 in
    let version = put_parts int (pair int int) _ b c versions in
    let cversion = put_parts int int _ version.0 c version.2 in
    let counted = put_field_then version.1 (put_field_then cversion.1 (put_field_then cversion.2 rest)) in
    put_field_then czxid.1 (put_field_then mzxid.1 (put_field_then ctime.1 (put_field_then ctime.2 counted)))
