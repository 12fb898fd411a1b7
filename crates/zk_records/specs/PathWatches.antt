-- ExistsRequest, GetDataRequest, GetChildrenRequest and GetChildren2Request of zookeeper.jute.
use Rattle.jute_core.specs.Jute.{Jute, Value, boolean, ustring, pair}
use Rattle.zk_records.specs.declared.path_watch.PathWatch.{PathWatch}

-- path, watch
abbrev pub path_watch : Jute
path_watch = pair ustring boolean

abbrev pub path_watch_fields : PathWatch → Value path_watch
path_watch_fields r = (r.path, r.watch)
