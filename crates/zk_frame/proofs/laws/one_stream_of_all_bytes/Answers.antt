use Rattle.zk_frame.proofs.Streaming.{starts_framed, feed_keeps_framed, take_keeps_framed, rest_is_stream, waiting_is_stream}
use Rattle.zk_frame.proofs.laws.one_stream_of_all_bytes.Goals as goal

pub returns-clause-starts : goal.returns-clause-starts
returns-clause-starts c = starts_framed

pub returns-clause-feed : goal.returns-clause-feed
returns-clause-feed c = feed_keeps_framed

pub returns-clause-take : goal.returns-clause-take
returns-clause-take c = take_keeps_framed

pub returns-clause-rest : goal.returns-clause-rest
returns-clause-rest c = rest_is_stream

pub returns-clause-waiting : goal.returns-clause-waiting
returns-clause-waiting c = waiting_is_stream
