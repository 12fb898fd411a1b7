use Rattle.std.proofs.Common.{◌≡◌, ◌<◌, ◌++◌, length, refl, sym, arith}
use Rattle.std.proofs.lemmas.Bool.Decides.{nat_tests}
use Rattle.std.proofs.lemmas.Int.{ints}
use Rattle.std.proofs.lemmas.List.{take-append-drop}
use Rattle.replay_cli.proofs.FrontLemmas.{short_is_cut, part_is_cut, whole_is_frame}
use Rattle.replay_cli.proofs.show.cut_off.Goals as goal

pub returns-then-bytes-lt4-clause-none : goal.returns-then-bytes-lt4-clause-none
returns-then-bytes-lt4-clause-none c = λ first.
    let some : 0 < length c.args.bytes.now = grind (arith, nat_tests) in
    (short_is_cut _ some c.if-bytes-lt4.true, refl)

pub returns-then-size-rest-clause-none : goal.returns-then-size-rest-clause-none
returns-then-size-rest-clause-none c = λ first.
    let cut : c.args.bytes.now ≡ c.split_at.result.0.now ++ c.split_at.result.1.now = rw (c.split_at.ensures.front, c.split_at.ensures.back) (sym (take-append-drop 4 c.args.bytes.now)) in
    (part_is_cut _ _ _ _ cut c.in-Ok.ensures.within.0 (omega (arith, ints, c.in-Ok.ensures.within.1)) c.if-size-rest.true, refl)

pub returns-clause-whole : goal.returns-clause-whole
returns-clause-whole c =
    let cut : c.args.bytes.now ≡ c.split_at.result.0.now ++ c.split_at.result.1.now = rw (c.split_at.ensures.front, c.split_at.ensures.back) (sym (take-append-drop 4 c.args.bytes.now)) in
    let tail : c.split_at.result.1.now ≡ c.split_at-2.result.0.now ++ c.split_at-2.result.1.now = rw (c.split_at-2.ensures.front, c.split_at-2.ensures.back) (sym (take-append-drop c.in-Ok.size c.split_at.result.1.now)) in
    (omega (arith, ints, c.split_at-2.ensures.front_len, c.in-Ok.ensures.within.1), whole_is_frame _ _ _ _ _ _ cut c.in-Ok.ensures.within.0 c.split_at-2.ensures.front_len tail)
