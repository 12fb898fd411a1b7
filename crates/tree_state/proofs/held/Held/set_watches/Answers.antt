use Rattle.std.proofs.Common.{rules, w64, FitsSigned}
use Rattle.std.proofs.lemmas.Int.{to_z-of_z}
use Rattle.tree_state.proofs.Notices.{forget_of}
use Rattle.tree_state.proofs.WatchesSet.{first_noticed, nothing_noticed, watches_told, watches_forgotten}
use Rattle.tree_state.proofs.held.Held.set_watches.Goals as goal

pub returns-in-Ok : goal.returns-in-Ok
returns-in-Ok c = λ naming at s contents exist childs means h k l.
    let f : FitsSigned w64 c.args.asked.now.seen = search rules in
    watches_told naming at c.args.connection s _ c.args.asked.now.seen contents exist childs c.args.self.now _ _ _ _ _
    (to_z-of_z w64 c.args.asked.now.seen f) means
    (c.in-Ok.ensures.notices s.nodes s.watches _ (first_noticed s) contents exist childs means.places h k l
    (nothing_noticed c.args.connection c.args.self.now s _ _ c.new-added.ensures.items means)) c.in-Ok.ensures.room

pub returns-in-Err : goal.returns-in-Err
returns-in-Err c = λ naming at s contents exist childs means h k l.
    watches_forgotten _ c.args.self.now s _ _ _ _ means
    (c.forget.ensures s.watches (forget_of _ s.watches _ _ _ _ _ _
    (c.in-Err.ensures.notices s.nodes s.watches _ (first_noticed s) contents exist childs means.places h k l
    (nothing_noticed c.args.connection c.args.self.now s _ _ c.new-added.ensures.items means))))
