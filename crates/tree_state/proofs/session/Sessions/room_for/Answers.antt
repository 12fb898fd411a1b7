use Rattle.std.proofs.Common.{w64, refl, sym, subst}
use Rattle.std.proofs.lemmas.Int.{to_z-of_z}
use Rattle.tree_state.specs.Sessions.{Keeps}
use Rattle.tree_state.proofs.SessionsOwning.{owned_same, none_same, room_made, room_none}
use Rattle.tree_state.proofs.session.Sessions.room_for.Goals as goal
use Rattle.tree_state.proofs.session.Sessions.room_for.Goals.{in-Some+in_ok-reserve, in_default}

pub returns-in_err-reserve-clause-kept : goal.returns-in_err-reserve-clause-kept
returns-in_err-reserve-clause-kept c = λ xs owned keeps.
    owned_same c.args.self.now _ _ c.in-Some.live.now _ xs owned c.in-Some.ensures.ordered c.in-Some.ensures.value (c.get_mut.follows.holds _) refl c.in_err-reserve.ensures.items keeps

pub returns-clause-kept : goal.returns-clause-kept
returns-clause-kept c = λ xs owned keeps. elim c.match-get_mut.branch [
  | in-Some+in_ok-reserve w ↦
      subst (λ t. Keeps t xs owned) (sym w.self-is)
      (owned_same c.args.self.now _ _ w.in-Some.live.now _ xs owned w.in-Some.ensures.ordered w.in-Some.ensures.value (c.get_mut.follows.holds _) refl w.in_ok-reserve.ensures.items keeps)
  | in_default w ↦
      subst (λ t. Keeps t xs owned) (sym w.self-is) (none_same c.args.self.now _ _ xs owned w.in_default.ensures.value c.get_mut.follows.holds-at-none keeps)
]

pub returns-clause-room : goal.returns-clause-room
returns-clause-room c = elim c.match-get_mut.branch [
  | in-Some+in_ok-reserve w ↦
      room_made c.args.self.now _ _ _ c.args.session w.in-Some.live.now _ w.self-is (to_z-of_z w64 c.args.session c.ranges.session) w.in-Some.ensures.value (c.get_mut.follows.holds _)
      w.in_ok-reserve.ensures.ok
  | in_default w ↦
      room_none c.args.self.now _ _ _ c.args.session w.self-is (to_z-of_z w64 c.args.session c.ranges.session) w.in_default.ensures.value c.get_mut.follows.holds-at-none
]
