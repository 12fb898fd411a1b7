use Rattle.std.proofs.Common.{◌∷◌, sym, ap, ◌∙◌}
use Rattle.std.specs.Map.{remove_entry}
use Rattle.tree_state.proofs.Entries.{at_text}
use Rattle.tree_state.proofs.Added.{holds_added, fresh_value}
use Rattle.tree_state.proofs.Undone.{same_holds, there_by_key, insert_undone}
use Rattle.tree_state.proofs.places.Places.add.Goals as goal

pub returns-then-contains_key-clause-ok : goal.returns-then-contains_key-clause-ok
returns-then-contains_key-clause-ok c = λ es n p up h spelled absent found low short room.
    let there = there_by_key c.args.self.now es c.args.path.now (n ∷ p) h spelled in
    absurd cc

pub returns-in-Err-clause-err : goal.returns-in-Err-clause-err
returns-in-Err-clause-err c = λ es h.
    same_holds c.args.self.now _ es
    (c.remove.ensures.entries ∙ ap (remove_entry (at_text c.args.path.now)) (c.in-Err.ensures.err ∙ c.in_ok-insert.ensures.entries)
    ∙ insert_undone c.args.self.now.nodes.entries c.args.path.now c.in_ok-key.key _ c.in_ok-key.ensures.ok (sym c.contains_key.ensures ∙ c.if-contains_key.false))
    h

pub returns-clause-ok : goal.returns-clause-ok
returns-clause-ok c = λ es n p up h spelled absent found low short room.
    let cut = c.parts.ensures.path n p spelled in
    holds_added c.args.self.now (record { nodes = c.insert.new.self }) c.count_creation.new.self es c.args.path.now _ n p up c.in_ok-key.key c.in_ok-name.name _ c.args.at.now.zxid c.args.at.now c.args.ephemeral c.args.content
    h spelled cut.0 c.in_ok-key.ensures.ok (c.in_ok-name.ensures.ok ∙ cut.1)
    (fresh_value c.args.content c.fresh.result c.new.result c.args.at.now c.args.ephemeral c.fresh.ensures) c.new.ensures.empty
    absent found low short room c.in_ok-insert.ensures.entries c.in_default.ensures.ok
