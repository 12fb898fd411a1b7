use Rattle.std.proofs.Common.{◌≡◌, true, false, List, ℕ, sym, subst, rules, w32}
use Rattle.std.specs.Int.RustNames.{FitsSigned}
use Rattle.std.proofs.lemmas.Int.{to_z-of_z}
use Rattle.zk_path.specs.Paths.{IsTextOf}
use Rattle.tree_state.specs.Nodes.{Path}
use Rattle.tree_state.proofs.OneChange.{short_creation, short_content, op_create, op_delete, op_set_content, op_check}
use Rattle.tree_state.proofs.held.Held.perform.Goals as goal

-- the path of an operation, as a text that is lent
lent : (text seen : List ℕ) (p : Path) → seen ≡ text → IsTextOf text p → IsTextOf seen p
lent text seen p e t = subst (λ (x : List ℕ). IsTextOf x p) (sym e) t

pub make-requires : goal.make-requires
make-requires g c =
    let short = short_creation c.args.op.now false c.in-Create.asked c.in-Create.is c.requires.short in
    record { path = short.0; content = short.1 }

pub make-requires-in-Create2 : goal.make-requires-in-Create2
make-requires-in-Create2 g c =
    let short = short_creation c.args.op.now true c.in-Create2.asked c.in-Create2.is c.requires.short in
    record { path = short.0; content = short.1 }

pub set_content-requires : goal.set_content-requires
set_content-requires g c = record { short = short_content c.args.op.now c.in-SetContent.asked c.in-SetContent.is c.requires.short }

pub returns-in-Create-clause-performs : goal.returns-in-Create-clause-performs
returns-in-Create-clause-performs g c = λ naming s change m im nm rf k.
    op_create naming c.args.at.now s _ _ _ _ false c.in-Create.asked change _ c.in-Create.is k (λ p n d q e h. c.make.ensures.performs naming s p n d q e m im nm h)

pub returns-in-Delete-clause-performs : goal.returns-in-Delete-clause-performs
returns-in-Delete-clause-performs g c = λ naming s change m im nm rf k.
    let f : FitsSigned w32 c.in-Delete.asked.version = search rules in
    op_delete naming c.args.at.now s _ _ _ _ c.in-Delete.asked change _ c.in-Delete.is rf k
    (λ n p t. simp to_z-of_z at (c.delete.ensures.performs naming s n p m (lent _ _ _ c.as_str.ensures t) im))

pub returns-in-SetContent-clause-performs : goal.returns-in-SetContent-clause-performs
returns-in-SetContent-clause-performs g c = λ naming s change m im nm rf k.
    op_set_content naming c.args.at.now s _ _ _ _ c.in-SetContent.asked change _ c.in-SetContent.is k (λ p t. c.set_content.ensures.performs naming s p m t im)

pub returns-in-Check-clause-performs : goal.returns-in-Check-clause-performs
returns-in-Check-clause-performs g c = λ naming s change m im nm rf k.
    let f : FitsSigned w32 c.in-Check.asked.version = search rules in
    op_check naming c.args.at.now s _ _ _ _ c.in-Check.asked change _ c.in-Check.is k
    (λ p t. simp to_z-of_z at (c.check.ensures naming s p c.args.outputs.now m (lent _ _ _ c.as_str-in-Check.ensures t)))

pub returns-in-Create2-clause-performs : goal.returns-in-Create2-clause-performs
returns-in-Create2-clause-performs g c = λ naming s change m im nm rf k.
    op_create naming c.args.at.now s _ _ _ _ true c.in-Create2.asked change _ c.in-Create2.is k (λ p n d q e h. c.make-in-Create2.ensures.performs naming s p n d q e m im nm h)
