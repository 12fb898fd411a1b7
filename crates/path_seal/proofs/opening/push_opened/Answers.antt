use Rattle.std.proofs.Common.{List, ℕ, ◌++◌, ◌∷◌, [], length, string_bytes, ap, ◌∙◌, append_assoc, arith}
use Rattle.path_seal.proofs.Forms.{below_size}
use Rattle.path_seal.proofs.NameBytes.{length-SealName}
use Rattle.path_seal.proofs.opening.push_opened.Goals as goal

pub returns-clause-some : goal.returns-clause-some
returns-clause-some c told p e h =
    let some = rw c.in-Some.is at c.in_ok-name.ensures.some in
    let name = string_bytes c.in-Some.name in
    let plain = string_bytes c.args.plain.now in
    let is = some.1 p h in
    let slash = c.in_ok-push.ensures.bytes ∙ ap (λ (l : List ℕ). plain ++ l) (c.in_ok-push.ensures.ascii (omega arith)) in
    record {
      name = name;
      plain = some.0;
      is_sealed = is;
      added = c.in_ok-push_str.ensures.bytes ∙ (λ i. slash i ++ c.as_str.ensures.value i) ∙ append_assoc plain (47 ∷ []) name;
      stepped = (rw c.as_str-2.ensures.value at c.step.ensures) p h (omega (arith, below_size p name, ap length e, ap length is, length-SealName c.args.keys.now p name, c.requires.room));
    }
