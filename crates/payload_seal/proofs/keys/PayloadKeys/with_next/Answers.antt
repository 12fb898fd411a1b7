use Rattle.std.proofs.Common.{rules, ◌≡◌, ◌+◌, ◌<◌}
use Rattle.payload_seal.proofs.Places.{next_holds}
use Rattle.payload_seal.proofs.keys.PayloadKeys.with_next.Goals as goal

pub invariant_of-result : goal.invariant_of-result
invariant_of-result c =
    let next : c.in_ok-epoch.epoch ≡ c.self.inside.epoch + 1 = search rules in
    let few : c.in_ok-epoch.epoch < 256 = search rules in
    next_holds c.self.inside.places c.args.key c.self.inside.ready c.new.result c.self.inside.epoch c.in_ok-epoch.epoch c.self.invariant next few c.new.ensures
