use Rattle.std.proofs.Common.{w64, refl}
use Rattle.std.proofs.lemmas.Int.{to_z-of_z}
use Rattle.tree_state.proofs.SessionsOwning.{owned_more, none_more, room_found}
use Rattle.tree_state.proofs.session.Sessions.own.Goals as goal

pub push_reserved-requires : goal.push_reserved-requires
push_reserved-requires c = room_found c.args.self.now _ c.args.session c.in-Some.live.now (to_z-of_z w64 c.args.session c.ranges.session) c.in-Some.ensures.value c.requires.room

pub returns-in_default : goal.returns-in_default
returns-in_default c = λ xs owned p keeps is.
    none_more c.args.self.now _ _ c.args.session p xs owned (to_z-of_z w64 c.args.session c.ranges.session) c.in_default.ensures.value c.get_mut.follows.holds-at-none keeps

pub returns-in-Some : goal.returns-in-Some
returns-in-Some c = λ xs owned p keeps is.
    owned_more c.args.self.now _ _ c.args.session c.in-Some.live.now _ c.args.path p xs owned (to_z-of_z w64 c.args.session c.ranges.session)
    c.in-Some.ensures.ordered c.in-Some.ensures.value (c.get_mut.follows.holds _) refl c.push_reserved.ensures.items is keeps
