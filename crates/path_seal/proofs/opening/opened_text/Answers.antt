use Rattle.std.proofs.Common.{◌≢◌, [], ◌∷◌, Some, None, Ok, length, ap, arith, length-append}
use Rattle.std.proofs.lemmas.List.Elements.{All-from_get_or}
use Rattle.std.proofs.lemmas.Str.Pattern.{strip_prefix_char, split_parts}
use Rattle.zk_path.proofs.ReadTo.{text_after}
use Rattle.path_seal.proofs.Texts.{root_short}
use Rattle.path_seal.proofs.Steps.{open_begins, opens_on, open_ends, opened_short, opened_one, unrooted, next_name, last_name}
use Rattle.path_seal.proofs.opening.opened_text.Goals as goal

pub returns-in_default-clause-none : goal.returns-in_default-clause-none
returns-in_default-clause-none c p o = unrooted c.args.keys.now c.args.text.now p (strip_prefix_char 47 c.args.text.now None c.in_default.ensures.cases (omega arith)) o

pub loop-sealed-init : goal.loop-sealed-init
loop-sealed-init c =
    let e = strip_prefix_char 47 c.args.text.now (Some c.in-Some.rest) c.in-Some.ensures.cases (omega arith) in
    (text_after c.args.text.now [] c.in-Some.rest.now c.utf8.text e, open_begins c.args.keys.now c.args.text.now c.in-Some.rest.now _ _ e c.new-plain.ensures.bytes (rw c.root-root.ensures at c.new-under.ensures))

pub new-under-requires : goal.new-under-requires
new-under-requires c = root_short _ c.root-root.ensures

pub push_opened-requires-clause-parent : goal.push_opened-requires-clause-parent
push_opened-requires-clause-parent c = opened_one c.loop-sealed.invariant.1 c.requires

pub push_opened-requires-clause-room : goal.push_opened-requires-clause-room
push_opened-requires-clause-room c =
    let parts = split_parts 47 c.loop-sealed.rest.now (Some (c.in-Some-split_once.sealed, c.in-Some-split_once.after)) c.in-Some-split_once.ensures.cases (omega arith) in
    omega (arith, opened_short c.loop-sealed.invariant.1, ap length parts.0, length-append c.in-Some-split_once.sealed.now (47 ∷ c.in-Some-split_once.after.now), c.requires)

pub returns-then-not-branch-clause-none : goal.returns-then-not-branch-clause-none
returns-then-not-branch-clause-none c p o =
    let parts = split_parts 47 c.loop-sealed.rest.now (Some (c.in-Some-split_once.sealed, c.in-Some-split_once.after)) c.in-Some-split_once.ensures.cases (omega arith) in
    let h = c.loop-sealed.invariant.1 in
    let n = next_name c.in-Some-split_once.sealed.now c.in-Some-split_once.after.now p h parts.0 (All-from_get_or (λ b. b ≢ 47) c.in-Some-split_once.sealed.now 0 parts.1) c.in_ok-push_opened.ensures.key o in
    c.in_ok-push_opened.ensures.none (ap Ok c.if-not-branch.true) h.before n.0 h.under n.1 n.2

pub loop-sealed-preserved : goal.loop-sealed-preserved
loop-sealed-preserved c =
    let parts = split_parts 47 c.loop-sealed.rest.now (Some (c.in-Some-split_once.sealed, c.in-Some-split_once.after)) c.in-Some-split_once.ensures.cases (omega arith) in
    let h = c.loop-sealed.invariant.1 in (
      text_after c.loop-sealed.rest.now c.in-Some-split_once.sealed.now c.in-Some-split_once.after.now c.loop-sealed.invariant.0 parts.0,
      opens_on c.in-Some-split_once.sealed.now c.in-Some-split_once.after.now _ _ h parts.0 (c.in_ok-push_opened.ensures.some (ap Ok c.if-not-branch.false) h.before h.opened h.under),
    )

pub push_opened-requires-2-clause-parent : goal.push_opened-requires-2-clause-parent
push_opened-requires-2-clause-parent c = opened_one c.loop-sealed.invariant.1 c.requires

pub push_opened-requires-2-clause-room : goal.push_opened-requires-2-clause-room
push_opened-requires-2-clause-room c = omega (arith, opened_short c.loop-sealed.invariant.1, c.requires)

pub returns-then-not-branch-2-clause-none : goal.returns-then-not-branch-2-clause-none
returns-then-not-branch-2-clause-none c p o =
    let last = split_parts 47 c.loop-sealed.rest.now None c.in_default-split_once.ensures.cases (omega arith) in
    let h = c.loop-sealed.invariant.1 in
    let n = last_name p h (All-from_get_or (λ b. b ≢ 47) c.loop-sealed.rest.now 0 last) c.in_ok-push_opened-2.ensures.key o in
    c.in_ok-push_opened-2.ensures.none (ap Ok c.if-not-branch-2.true) h.before n.0 h.under n.1 n.2

pub returns-clause-some : goal.returns-clause-some
returns-clause-some c =
    let h = c.loop-sealed.invariant.1 in
    open_ends _ _ h c.in_ok-push_opened-2.ensures.key (c.in_ok-push_opened-2.ensures.some (ap Ok c.if-not-branch-2.false) h.before h.opened h.under)
