use Rattle.std.proofs.Common.{inl, [], Some, None, refl, ◌≢◌, arith}
use Rattle.std.proofs.lemmas.Bool.{iff_false}
use Rattle.std.proofs.lemmas.List.Elements.{All-from_get_or}
use Rattle.std.proofs.lemmas.Str.Pattern.{strip_prefix_char, split_parts}
use Rattle.zk_path.proofs.ReadTo.{begins_at, reads_on, illegal_here, ends_in, text_after}
use Rattle.zk_path.proofs.check.last_component.Goals as goal

pub returns-in_default : goal.returns-in_default
returns-in_default c = inl (record { no_slash = strip_prefix_char 47 c.args.text.now None c.in_default.ensures.cases (omega arith); found = refl })

pub loop-name-init : goal.loop-name-init
loop-name-init c =
    let e = strip_prefix_char 47 c.args.text.now (Some c.in-Some.rest) c.in-Some.ensures.cases (omega arith) in
    (text_after c.args.text.now [] c.in-Some.rest.now c.utf8.text e, begins_at c.args.text.now c.in-Some.rest.now e)

pub is_component-requires : goal.is_component-requires
is_component-requires c =
    let parts = split_parts 47 c.loop-name.rest.now (Some (c.in-Some-split_once.name, c.in-Some-split_once.after)) c.in-Some-split_once.ensures.cases (omega arith) in
    All-from_get_or (λ b. b ≢ 47) c.in-Some-split_once.name.now 0 parts.1

pub returns-then-not-is_component : goal.returns-then-not-is_component
returns-then-not-is_component c =
    let parts = split_parts 47 c.loop-name.rest.now (Some (c.in-Some-split_once.name, c.in-Some-split_once.after)) c.in-Some-split_once.ensures.cases (omega arith) in
    illegal_here c.in-Some-split_once.name.now c.in-Some-split_once.after.now c.loop-name.invariant.1 parts.0
    (All-from_get_or (λ b. b ≢ 47) c.in-Some-split_once.name.now 0 parts.1)
    (iff_false c.is_component.ensures c.if-not-is_component.true)

pub loop-name-preserved : goal.loop-name-preserved
loop-name-preserved c =
    let parts = split_parts 47 c.loop-name.rest.now (Some (c.in-Some-split_once.name, c.in-Some-split_once.after)) c.in-Some-split_once.ensures.cases (omega arith) in (
      text_after c.loop-name.rest.now c.in-Some-split_once.name.now c.in-Some-split_once.after.now c.loop-name.invariant.0 parts.0,
      reads_on c.in-Some-split_once.name.now c.in-Some-split_once.after.now c.loop-name.invariant.1 parts.0 (c.is_component.ensures.0 c.if-not-is_component.false),
    )

pub returns : goal.returns
returns c =
    let none = split_parts 47 c.loop-name.rest.now None c.in_default-split_once.ensures.cases (omega arith) in
    ends_in c.loop-name.invariant.1 (All-from_get_or (λ b. b ≢ 47) c.loop-name.rest.now 0 none)
