use Rattle.std.proofs.Common.{length, string_bytes, sym, ap, subst, ◌∙◌, arith}
use Rattle.std.proofs.lemmas.Bool.{false≢true}
use Rattle.zk_path.specs.Paths.{IsComponent}
use Rattle.path_seal.proofs.NameBytes.{length-SealName}
use Rattle.path_seal.proofs.Apart.{name_apart}
use Rattle.path_seal.proofs.under.NamesUnder.open.Goals as goal

pub is_component-requires-clause-short : goal.is_component-requires-clause-short
is_component-requires-clause-short c =
    let some = rw c.in-Some.is at c.in_ok-name.ensures.some in
    let one = c.requires.parent in
    let is = some.1 one.path one.under in
    omega (arith, ap length c.as_str.ensures.value, ap length is, length-SealName c.args.keys.now one.path (string_bytes c.in-Some.name), c.requires.text)

pub returns-clause-none : goal.returns-clause-none
returns-clause-none c p n h o =
    let some = rw c.in-Some.is at c.in_ok-name.ensures.some in
    let same = name_apart c.args.keys.now p p n (string_bytes c.in-Some.name) c.in_ok-name.ensures.key o.0.utf8 some.0.utf8 (o.1 ∙ sym (some.1 p h)) in
    false≢true (sym c.if-branch.false ∙ c.in_ok-is_component.ensures.1 (subst IsComponent (same ∙ sym c.as_str.ensures.value) o.0))
