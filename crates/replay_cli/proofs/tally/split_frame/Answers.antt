use Rattle.std.proofs.Common.{◌≡◌, ◌++◌, sym, arith}
use Rattle.std.proofs.lemmas.Int.{ints}
use Rattle.std.proofs.lemmas.List.{take-append-drop}
use Rattle.replay_cli.proofs.FrontLemmas.{negative_is_rest, part_is_rest, short_is_rest, whole_is_frame}
use Rattle.replay_cli.proofs.tally.split_frame.Goals as goal

pub returns-then-bytes-lt4-clause-none : goal.returns-then-bytes-lt4-clause-none
returns-then-bytes-lt4-clause-none c = short_is_rest _ c.if-bytes-lt4.true

pub returns-in_default-clause-none : goal.returns-in_default-clause-none
returns-in_default-clause-none c =
    let cut : c.args.bytes.now ≡ c.split_at.result.0.now ++ c.split_at.result.1.now = rw (c.split_at.ensures.front, c.split_at.ensures.back) (sym (take-append-drop 4 c.args.bytes.now)) in
    negative_is_rest _ _ _ _ cut c.in_default.ensures.beyond.0 c.in_default.ensures.beyond.1

pub returns-then-size-rest-clause-none : goal.returns-then-size-rest-clause-none
returns-then-size-rest-clause-none c =
    let cut : c.args.bytes.now ≡ c.split_at.result.0.now ++ c.split_at.result.1.now = rw (c.split_at.ensures.front, c.split_at.ensures.back) (sym (take-append-drop 4 c.args.bytes.now)) in
    part_is_rest _ _ _ _ cut c.in-Ok.ensures.within.0 c.if-size-rest.true

pub returns-clause-whole : goal.returns-clause-whole
returns-clause-whole c =
    let cut : c.args.bytes.now ≡ c.split_at.result.0.now ++ c.split_at.result.1.now = rw (c.split_at.ensures.front, c.split_at.ensures.back) (sym (take-append-drop 4 c.args.bytes.now)) in
    let tail : c.split_at.result.1.now ≡ c.split_at-2.result.0.now ++ c.split_at-2.result.1.now = rw (c.split_at-2.ensures.front, c.split_at-2.ensures.back) (sym (take-append-drop c.in-Ok.size c.split_at.result.1.now)) in
    (omega (arith, ints, c.split_at-2.ensures.front_len, c.in-Ok.ensures.within.1), whole_is_frame _ _ _ _ _ _ cut c.in-Ok.ensures.within.0 c.split_at-2.ensures.front_len tail)
