use Rattle.replay_cli.specs.declared.stops.Status.TheVariants as statuses
use Rattle.serve_cli.proofs.Statuses.{serves_as}
use Rattle.serve_cli.proofs.top_call.serve.Goals as goal

pub returns-clause-host_fault : goal.returns-clause-host_fault
returns-clause-host_fault g c is =
    let e = c.served-end.ensures in
    serves_as c.args.words.now (g.F.Files.told c.args.files.now) (g.F.Files.faults c.args.files.now) (g.F.Files.faults c.served-end.new.files) (g.H.Host.told c.args.host.now) (g.H.Host.told c.served-end.new.host)
    (g.E.Sink.taken c.args.err.now) (g.E.Sink.taken c.served-end.new.err) (g.E.Sink.taken c.status.new.err) (g.E.Sink.faults c.args.err.now) (g.E.Sink.faults c.served-end.new.err) (g.E.Sink.faults c.status.new.err)
    c.served-end.result c.status.result statuses.HostFault e.cause e.host e.said e.later c.status.ensures is

pub returns-clause-numbers_used : goal.returns-clause-numbers_used
returns-clause-numbers_used g c is =
    let e = c.served-end.ensures in
    serves_as c.args.words.now (g.F.Files.told c.args.files.now) (g.F.Files.faults c.args.files.now) (g.F.Files.faults c.served-end.new.files) (g.H.Host.told c.args.host.now) (g.H.Host.told c.served-end.new.host)
    (g.E.Sink.taken c.args.err.now) (g.E.Sink.taken c.served-end.new.err) (g.E.Sink.taken c.status.new.err) (g.E.Sink.faults c.args.err.now) (g.E.Sink.faults c.served-end.new.err) (g.E.Sink.faults c.status.new.err)
    c.served-end.result c.status.result statuses.NumbersUsed e.cause e.host e.said e.later c.status.ensures is

pub returns-clause-memory : goal.returns-clause-memory
returns-clause-memory g c is =
    let e = c.served-end.ensures in
    serves_as c.args.words.now (g.F.Files.told c.args.files.now) (g.F.Files.faults c.args.files.now) (g.F.Files.faults c.served-end.new.files) (g.H.Host.told c.args.host.now) (g.H.Host.told c.served-end.new.host)
    (g.E.Sink.taken c.args.err.now) (g.E.Sink.taken c.served-end.new.err) (g.E.Sink.taken c.status.new.err) (g.E.Sink.faults c.args.err.now) (g.E.Sink.faults c.served-end.new.err) (g.E.Sink.faults c.status.new.err)
    c.served-end.result c.status.result statuses.Memory e.cause e.host e.said e.later c.status.ensures is
