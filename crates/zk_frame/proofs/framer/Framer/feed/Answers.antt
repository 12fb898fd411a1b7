use Rattle.std.proofs.Common.{◌≡◌, length, arith, w32}
use Rattle.std.specs.Int.RustNames.{FitsSigned}
use Rattle.std.proofs.lemmas.Int.{to_z-of_z}
use Rattle.zk_frame.proofs.Feeding.{no_more_than, room_of, room_kept, room_feeds}
use Rattle.zk_frame.proofs.Answering.{partial_none, partial_long, long_none, long_long, room_none, room_long, memory_none}
use Rattle.zk_frame.proofs.framer.Framer.feed.Goals as goal

pub returns-then-self-lt4-clause-none : goal.returns-then-self-lt4-clause-none
returns-then-self-lt4-clause-none c = rw (← c.self.view_is) (partial_none _ _ _ _ _ _ _ c.self.invariant c.fill_prefix-taken.ensures c.if-self-lt4.true)

pub returns-then-self-lt4-clause-too_long : goal.returns-then-self-lt4-clause-too_long
returns-then-self-lt4-clause-too_long c = rw (← c.self.view_is) (partial_long _ _ _ _ _ _ _ c.self.invariant c.fill_prefix-taken.ensures c.if-self-lt4.true)

pub overflow_sub-lacking : goal.overflow_sub-lacking
overflow_sub-lacking c = omega (arith, no_more_than _ _ _ _ _ _ _ _ c.self.invariant c.fill_prefix-taken.ensures c.in-Ok.ensures.ok.0)

pub returns-in-Err-clause-none : goal.returns-in-Err-clause-none
returns-in-Err-clause-none c =
    let fits : FitsSigned w32 c.in-Err.length = c.in-Err.ensures.err.0.0 in
    rw (← c.self.view_is) (simp to_z-of_z (long_none _ _ _ _ _ _ _ _ c.self.invariant c.fill_prefix-taken.ensures c.if-self-lt4.false c.in-Err.ensures.err))

pub returns-in-Err-clause-too_long : goal.returns-in-Err-clause-too_long
returns-in-Err-clause-too_long c =
    let fits : FitsSigned w32 c.in-Err.length = c.in-Err.ensures.err.0.0 in
    rw (← c.self.view_is) (simp to_z-of_z (long_long _ _ _ _ _ _ _ _ c.self.invariant c.fill_prefix-taken.ensures c.if-self-lt4.false c.in-Err.ensures.err))

pub invariant_of-self-in-Ok-fill_body : goal.invariant_of-self-in-Ok-fill_body
invariant_of-self-in-Ok-fill_body c =
    let len : c.len.result ≡ length c.self.inside.body.items = omega arith in
    let room = room_of _ _ _ _ _ _ _ _ _ _ _ c.if-self-lt4.false c.in-Ok.ensures.ok len c.split_at.ensures.back c.in-Ok-fill_body.ensures.ok in
    room_kept _ _ _ _ _ _ _ _ _ _ c.self.invariant c.fill_prefix-taken.ensures room

pub returns-in-Ok-fill_body-clause-taken : goal.returns-in-Ok-fill_body-clause-taken
returns-in-Ok-fill_body-clause-taken c =
    let len : c.len.result ≡ length c.self.inside.body.items = omega arith in
    let room = room_of _ _ _ _ _ _ _ _ _ _ _ c.if-self-lt4.false c.in-Ok.ensures.ok len c.split_at.ensures.back c.in-Ok-fill_body.ensures.ok in
    rw (← c.self.view_is) (room_feeds _ _ _ _ _ _ _ _ _ _ c.self.invariant c.fill_prefix-taken.ensures room)

pub returns-in-Ok-fill_body-clause-none : goal.returns-in-Ok-fill_body-clause-none
returns-in-Ok-fill_body-clause-none c =
    let len : c.len.result ≡ length c.self.inside.body.items = omega arith in
    let room = room_of _ _ _ _ _ _ _ _ _ _ _ c.if-self-lt4.false c.in-Ok.ensures.ok len c.split_at.ensures.back c.in-Ok-fill_body.ensures.ok in
    rw (← c.self.view_is) (room_none _ _ _ _ _ _ _ _ _ _ c.self.invariant c.fill_prefix-taken.ensures room)

pub returns-in-Ok-fill_body-clause-too_long : goal.returns-in-Ok-fill_body-clause-too_long
returns-in-Ok-fill_body-clause-too_long c =
    let len : c.len.result ≡ length c.self.inside.body.items = omega arith in
    let room = room_of _ _ _ _ _ _ _ _ _ _ _ c.if-self-lt4.false c.in-Ok.ensures.ok len c.split_at.ensures.back c.in-Ok-fill_body.ensures.ok in
    rw (← c.self.view_is) (room_long _ _ _ _ _ _ _ _ _ _ c.self.invariant c.fill_prefix-taken.ensures room)

pub returns-in-Err-fill_body-clause-none : goal.returns-in-Err-fill_body-clause-none
returns-in-Err-fill_body-clause-none c =
    let len : c.len.result ≡ length c.self.inside.body.items = omega arith in
    rw (← c.self.view_is) (memory_none _ _ _ _ _ _ _ _ _ _ c.self.invariant c.fill_prefix-taken.ensures c.if-self-lt4.false c.in-Ok.ensures.ok len c.split_at.ensures.back c.in-Err-fill_body.ensures.err.1)
