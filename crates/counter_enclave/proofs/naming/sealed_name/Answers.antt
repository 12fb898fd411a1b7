use Rattle.std.proofs.Common.{rules, Some, None, ℤ, sym, ap, subst, ◌∙◌, length, arith}
use Rattle.std.specs.Int.{w32}
use Rattle.std.specs.Int.RustNames.{FitsSigned}
use Rattle.std.specs.Prelude.{unsigned_abs}
use Rattle.std.proofs.lemmas.Int.{to_z-of_z}
use Rattle.counter_enclave.specs.Enclave.{IsSealedName}
use Rattle.zk_path.proofs.Cuts.{rsplit_parts}
use Rattle.counter_enclave.proofs.Numbering.{last_within, parent_within, name_within, stem_within, no_slash, named}
use Rattle.counter_enclave.proofs.naming.sealed_name.Goals as goal

pub returns-in_default-rsplit_once-clause-none : goal.returns-in_default-rsplit_once-clause-none
returns-in_default-rsplit_once-clause-none c parts h =
    no_slash c.args.keys.now c.args.stem.now parts h (rsplit_parts 47 c.args.stem.now None c.in_default-rsplit_once.ensures.cases (omega arith))

pub with_digits-requires-clause-short : goal.with_digits-requires-clause-short
with_digits-requires-clause-short c =
    let opens = rw c.in-Some.is at c.in_ok-plain.ensures.some in
    last_within c.in-Some.plain c.in-Some-last.last.now c.in-Some-last.ensures (stem_within c.args.keys.now c.args.stem.now c.in-Some.plain opens c.requires.short)

pub sealed_under-requires-clause-parent : goal.sealed_under-requires-clause-parent
sealed_under-requires-clause-parent c =
    let opens = rw c.in-Some.is at c.in_ok-plain.ensures.some in
    parent_within c.in-Some.plain c.in-Some-2.parent (rw c.in-Some-2.is at c.in_ok-parent.ensures) (stem_within c.args.keys.now c.args.stem.now c.in-Some.plain opens c.requires.short)

pub sealed_under-requires-clause-name : goal.sealed_under-requires-clause-name
sealed_under-requires-clause-name c =
    let opens = rw c.in-Some.is at c.in_ok-plain.ensures.some in
    let short = last_within c.in-Some.plain c.in-Some-last.last.now c.in-Some-last.ensures (stem_within c.args.keys.now c.args.stem.now c.in-Some.plain opens c.requires.short) in
    omega (arith, ap length c.as_str.ensures, name_within c.in-Some-last.last.now c.in_ok-name.name _ c.in_ok-name.ensures short)

pub returns : goal.returns
returns c =
    let opens = rw c.in-Some.is at c.in_ok-plain.ensures.some in
    let parts = rsplit_parts 47 c.args.stem.now (Some (c.in-Some-rsplit_once.above, c.in-Some-rsplit_once.field-0-1)) c.in-Some-rsplit_once.ensures.cases (omega arith) in
    let f : FitsSigned w32 c.args.number = search rules in
    record {
      some = subst (λ (z : ℤ). IsSealedName c.args.keys.now c.args.stem.now (unsigned_abs z) c.in_ok-text.text) (to_z-of_z w32 c.args.number f)
          (named c.args.keys.now c.args.stem.now c.in-Some.plain c.in-Some-2.parent c.in-Some-last.last.now _ _ c.as_str.result.now _ _ c.are_keys.ensures opens (rw c.in-Some-2.is at c.in_ok-parent.ensures) c.in-Some-last.ensures parts.0 parts.1
          (c.as_str.ensures ∙ c.in_ok-name.ensures) c.in_ok-text.ensures);
      none = tt;
    }
