-- How serving ended, and what stands then of the host.
use Rattle.std.specs.Prelude.{◌≡◌, ℕ}
use Rattle.replay_cli.specs.declared.stops.Stop.{Stop}
use Rattle.replay_cli.specs.declared.stops.Stop.TheVariants as stops
use Rattle.serve_cli.specs.Hosts.{HostTold, Rests}
use Rattle.serve_cli.specs.Serving.{Closed}
use Rattle.serve_cli.specs.declared.closing.Close.{Close}
use Rattle.serve_cli.specs.declared.closing.Close.TheVariants as closes
use Rattle.serve_cli.specs.declared.ending.End.{End}
use Rattle.serve_cli.specs.declared.ending.End.TheVariants as ends

-- so many connections were accepted, and this is why no more are taken
abbrev pub ClosedSo : HostTold → HostTold → Close → Type 0
ClosedSo old new close = (count : ℕ) × Closed old new count close

-- the host where serving stopped: a stop for another reason came before the host listened, or where it had just begun to
abbrev pub HostStopped : Stop → HostTold → HostTold → Type 0
HostStopped stops.HostFault old new = ClosedSo old new closes.HostFault
HostStopped stops.NumbersUsed old new = ClosedSo old new closes.NumbersUsed
HostStopped stops.Memory old new = ClosedSo old new closes.Memory
HostStopped stop old new = Rests old new

abbrev pub HostThen : End → HostTold → HostTold → Type 0
HostThen ends.Done old new = ClosedSo old new closes.NoMore
HostThen (ends.Stopped stop) old new = HostStopped stop old new
HostThen ends.Unsaid old new = Rests old new

-- how a reason to take no more clients ends serving
abbrev pub EndsSo : Close → End → Type 0
EndsSo closes.NoMore e = e ≡ ends.Done
EndsSo closes.NumbersUsed e = e ≡ ends.Stopped stops.NumbersUsed
EndsSo closes.HostFault e = e ≡ ends.Stopped stops.HostFault
EndsSo closes.Memory e = e ≡ ends.Stopped stops.Memory
