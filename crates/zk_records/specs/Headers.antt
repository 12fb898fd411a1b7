-- RequestHeader and ReplyHeader of zookeeper.jute.
use Rattle.jute_core.specs.Jute.{Jute, Value, int, long, pair}
use Rattle.zk_records.specs.declared.header.RequestHeader.{RequestHeader}
use Rattle.zk_records.specs.declared.header.ReplyHeader.{ReplyHeader}

-- xid, type
abbrev pub request_header : Jute
request_header = pair int int

abbrev pub request_header_fields : RequestHeader → Value request_header
request_header_fields h = (h.xid, h.kind)

-- xid, zxid, err
abbrev pub reply_header : Jute
reply_header = pair int (pair long int)

abbrev pub reply_header_fields : ReplyHeader → Value reply_header
reply_header_fields h = (h.xid, (h.zxid, h.err))
