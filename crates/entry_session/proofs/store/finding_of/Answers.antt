use Rattle.std.proofs.Common.{rules, w32, ◌<◌, ◌^◌, FitsSigned, refl}
use Rattle.std.proofs.lemmas.Int.{to_z-of_z}
use Rattle.entry_session.proofs.StoreReplies.{found_none, found_one}
use Rattle.entry_session.proofs.store.finding_of.Goals as goal

pub returns-in-None : goal.returns-in-None
returns-in-None c = found_none _ _ _ c.args.cause c.in-None.is

pub returns-in-Some : goal.returns-in-Some
returns-in-Some c =
    let own : FitsSigned w32 c.args.xid = search rules in
    let count : c.args.reply < 2 ^ 64 = search rules in
    found_one _ _ _ _ c.args.xid c.args.cause c.in-Some.cause c.in-Some.is refl count (to_z-of_z w32 c.args.xid own)
