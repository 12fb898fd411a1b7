use Rattle.std.proofs.Common.{rules, ◌≡◌, ◌≢◌, ◌≤◌, ◌^◌, ℕ, List, [], ◌∷◌, ◌++◌, Some, None, length, sym, ap, ◌∙◌, arith, length-append}
use Rattle.std.proofs.lemmas.List.Elements.{All-from_get_or}
use Rattle.std.proofs.lemmas.Str.Pattern.{split_parts}
use Rattle.zk_path.proofs.ReadTo.{text_after}
use Rattle.path_seal.specs.Sealed.{Keys, sealed, SealPath}
use Rattle.zk_path.specs.Paths.{joined, text_of}
use Rattle.path_seal.proofs.Texts.{root_short}
use Rattle.path_seal.proofs.Walk.{seal_begins, seals_on, seal_ends, under_one, rest_short, next_short}
use Rattle.path_seal.proofs.sealing.seal_path.Goals as goal

root : (k : Keys) (p : List (List ℕ)) → p ≡ [] → SealPath k p ≡ 47 ∷ []
unfolding sealed text_of
root k p e = ap (SealPath k) e

short : (p : List (List ℕ)) → joined p ≡ text_of p → length (text_of p) ≤ 2 ^ 28 → length (joined p) ≤ 2 ^ 28
short p e h = omega (arith, ap length e, h)

pub returns-in_default : goal.returns-in_default
returns-in_default c = rw (root c.args.keys.now c.args.path.now c.in_default.ensures) c.copy_of.ensures

pub new-under-requires : goal.new-under-requires
new-under-requires c = root_short _ c.root-root.ensures

pub loop-name-init : goal.loop-name-init
loop-name-init c =
    let text = c.in-Some.ensures.1 ∙ c.in-Some.ensures.0 in
    (search rules, seal_begins _ _ _ _ _ text c.new-sealed.ensures.bytes (rw c.root-root.ensures at c.new-under.ensures))

pub push_sealed-requires-clause-parent : goal.push_sealed-requires-clause-parent
push_sealed-requires-clause-parent c = under_one c.loop-name.invariant.1 (short c.args.path.now c.in-Some.ensures.1 c.requires)

pub push_sealed-requires-clause-name : goal.push_sealed-requires-clause-name
push_sealed-requires-clause-name c =
    let parts = split_parts 47 c.loop-name.rest.now (Some (c.in-Some-split_once.name, c.in-Some-split_once.after)) c.in-Some-split_once.ensures.cases (omega arith) in
    omega (arith, rest_short c.loop-name.invariant.1 (short c.args.path.now c.in-Some.ensures.1 c.requires), ap length parts.0, length-append c.in-Some-split_once.name.now (47 ∷ c.in-Some-split_once.after.now))

pub loop-name-preserved : goal.loop-name-preserved
loop-name-preserved c =
    let parts = split_parts 47 c.loop-name.rest.now (Some (c.in-Some-split_once.name, c.in-Some-split_once.after)) c.in-Some-split_once.ensures.cases (omega arith) in
    let h = c.loop-name.invariant.1 in (
      text_after c.loop-name.rest.now c.in-Some-split_once.name.now c.in-Some-split_once.after.now c.loop-name.invariant.0 parts.0,
      seals_on c.in-Some-split_once.name.now c.in-Some-split_once.after.now _ _ h parts.0 (All-from_get_or (λ b. b ≢ 47) c.in-Some-split_once.name.now 0 parts.1)
          (c.in_ok-push_sealed.ensures h.before h.under) (c.step.ensures h.before h.under (next_short c.in-Some-split_once.name.now c.in-Some-split_once.after.now h parts.0 (short c.args.path.now c.in-Some.ensures.1 c.requires))),
    )

pub push_sealed-requires-2-clause-parent : goal.push_sealed-requires-2-clause-parent
push_sealed-requires-2-clause-parent c = under_one c.loop-name.invariant.1 (short c.args.path.now c.in-Some.ensures.1 c.requires)

pub push_sealed-requires-2-clause-name : goal.push_sealed-requires-2-clause-name
push_sealed-requires-2-clause-name c = rest_short c.loop-name.invariant.1 (short c.args.path.now c.in-Some.ensures.1 c.requires)

pub returns : goal.returns
returns c =
    let last = split_parts 47 c.loop-name.rest.now None c.in_default-split_once.ensures.cases (omega arith) in
    let h = c.loop-name.invariant.1 in
    c.of.ensures ∙ seal_ends _ h (All-from_get_or (λ b. b ≢ 47) c.loop-name.rest.now 0 last) c.in-Some.ensures.2 (c.in_ok-push_sealed-2.ensures h.before h.under)
