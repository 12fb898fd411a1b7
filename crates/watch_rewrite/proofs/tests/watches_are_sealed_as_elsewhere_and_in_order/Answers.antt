use Rattle.std.proofs.Common.{[], ◌∷◌, All, rules}
use Rattle.std.proofs.lemmas.List.Elements.{All-cons}
use Rattle.zk_path.specs.Paths.{IsPathText}
use Rattle.watch_rewrite.proofs.tests.watches_are_sealed_as_elsewhere_and_in_order.Goals as goal

pub veil_set_watches-requires-clause-legal : goal.veil_set_watches-requires-clause-legal
veil_set_watches-requires-clause-legal g c =
    let none : All IsPathText [] = search rules in
    let a_a = All-cons IsPathText c.in_ok-path_text-2.field-0 [] c.in_ok-path_text-2.ensures.legal none in
    let b = All-cons IsPathText c.in_ok-path_text.field-0 (c.in_ok-path_text-2.field-0 ∷ []) c.in_ok-path_text.ensures.legal a_a in
    let a = All-cons IsPathText c.in_ok-path_text-3.field-0 [] c.in_ok-path_text-3.ensures.legal none in record {
      content = rw (c.of.ensures, c.in_ok-content.ensures.items) b;
      exist = tt;
      child = rw (c.of-2.ensures, c.in_ok-child.ensures.items) a;
    }
