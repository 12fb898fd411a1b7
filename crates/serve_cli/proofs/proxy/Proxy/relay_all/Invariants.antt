use Rattle.serve_cli.specs.Serving.{Taking}
use Rattle.serve_cli.proofs.proxy.Proxy.relay_all.Given as goal

-- so many connections went into relays
abbrev pub invariant-loop : goal.invariant-loop
invariant-loop g l = Taking (g.H.Host.told l.initial.host) (g.H.Host.told l.host) l.count
