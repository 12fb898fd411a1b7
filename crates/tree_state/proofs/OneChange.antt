-- One operation of a multi is the change that it asks for.
use Rattle.std.proofs.Common.{◌≡◌, ℕ, ℤ, Bool, true, false, List, ◌∷◌, Option, None, Result, Vec, sym, ap, subst, ◌∙◌}
use Rattle.std.specs.Global.{Global}
use Rattle.zk_path.specs.Paths.{IsTextOf}
use Rattle.zk_records.specs.declared.create.CreateRequest.{CreateRequest}
use Rattle.zk_records.specs.declared.node.DeleteRequest.{DeleteRequest}
use Rattle.zk_records.specs.declared.node.SetContentRequest.{SetContentRequest}
use Rattle.zk_records.specs.declared.node.CheckRequest.{CheckRequest}
use Rattle.zk_messages.specs.Refuses.{RefusesOp}
use Rattle.zk_messages.specs.declared.request.Op.{Op}
use Rattle.zk_messages.specs.declared.request.Op.TheVariants as ops
use Rattle.zk_messages.specs.declared.reply.OpResult.{OpResult}
use Rattle.tree_state.specs.declared.held.Held.{Held}
use Rattle.tree_state.specs.declared.held.NotDone.{NotDone}
use Rattle.tree_state.specs.declared.message.Output.{Output}
use Rattle.tree_state.specs.declared.node.Moment.{Moment}
use Rattle.tree_state.specs.Nodes.{Path}
use Rattle.tree_state.specs.State.{State}
use Rattle.tree_state.specs.Commands.{Change, IsChange, IsCreate, create, delete, set_content, check}
use Rattle.tree_state.specs.Changes.{Naming, perform}
use Rattle.tree_state.specs.Trees.{Performs}
use Rattle.zk_messages.specs.Short.{HasShortOpParts, IsShort, IsShortContent}
use Rattle.tree_state.proofs.BelowRoot.{below_root}

abbrev Outs : Type 0
Outs = Vec Output Global

-- the operation that makes a node, which is answered with or without a Stat
abbrev pub creation : Bool → CreateRequest → Op
creation false r = ops.Create r
creation true r = ops.Create2 r

-- ---- what is short of each operation

pub short_creation : (op : Op) (w : Bool) (r : CreateRequest) → op ≡ creation w r → HasShortOpParts op → IsShort r.path × IsShortContent r.content
unfolding HasShortOpParts
short_creation op false r e h = subst HasShortOpParts e h
short_creation op true r e h = subst HasShortOpParts e h

pub short_content : (op : Op) (r : SetContentRequest) → op ≡ ops.SetContent r → HasShortOpParts op → IsShortContent r.content
unfolding HasShortOpParts
short_content op r e h = (subst HasShortOpParts e h).1

-- ---- the change of each operation

pub asks_create : (w : Bool) (r : CreateRequest) (c : Change) → IsChange (creation w r) c
    → (p : Path) × (n : List ℕ) × (d : Option (List ℕ)) × (q : Bool) × (e : Bool) × IsCreate r p n d q e × (c ≡ create p n d q e w)
unfolding IsChange
asks_create false r (create p n d q e v) h = (p, n, d, q, e, h.0, ap (create p n d q e) h.1)
asks_create true r (create p n d q e v) h = (p, n, d, q, e, h.0, ap (create p n d q e) h.1)
asks_create false r c h = absurd h
asks_create true r c h = absurd h

pub asks_delete : (r : DeleteRequest) (c : Change) → IsChange (ops.Delete r) c → (p : Path) × IsTextOf r.path p × (c ≡ delete p r.version)
unfolding IsChange
asks_delete r (delete p v) h = (p, h.0, ap (delete p) (sym h.1))
asks_delete r c h = absurd h

pub asks_set_content : (r : SetContentRequest) (c : Change) → IsChange (ops.SetContent r) c → (p : Path) × IsTextOf r.path p × (c ≡ set_content p r.content r.version)
unfolding IsChange
asks_set_content r (set_content p d v) h =
    (p, h.0, ap (λ (x : ℤ). set_content p d x) (sym h.2) ∙ ap (λ (x : Option (List ℕ)). set_content p x r.version) (sym h.1))
asks_set_content r c h = absurd h

pub asks_check : (r : CheckRequest) (c : Change) → IsChange (ops.Check r) c → (p : Path) × IsTextOf r.path p × (c ≡ check p r.version)
unfolding IsChange
asks_check r (check p v) h = (p, h.0, ap (check p) (sym h.1))
asks_check r c h = absurd h

-- ---- each operation by its row

pub op_create : (naming : Naming) (at : Moment) (s : State) (after : Held) (o sent : Outs) (op : Op) (w : Bool) (r : CreateRequest) (change : Change) (result : Result OpResult NotDone) → op ≡ creation w r → IsChange op change
    → ((p : Path) (n : List ℕ) (d : Option (List ℕ)) (q e : Bool) → IsCreate r p n d q e → Performs s (perform naming at s (create p n d q e w)) after o sent result)
    → Performs s (perform naming at s change) after o sent result
op_create naming at s after o sent op w r change result e k does =
    let a = asks_create w r change (subst (λ (x : Op). IsChange x change) e k) in
    subst (λ (x : Change). Performs s (perform naming at s x) after o sent result) (sym a.6) (does a.0 a.1 a.2 a.3 a.4 a.5)

pub op_delete : (naming : Naming) (at : Moment) (s : State) (after : Held) (o sent : Outs) (op : Op) (r : DeleteRequest) (change : Change) (result : Result OpResult NotDone) → op ≡ ops.Delete r → RefusesOp op None → IsChange op change
    → ((n : List ℕ) (p : Path) → IsTextOf r.path (n ∷ p) → Performs s (perform naming at s (delete (n ∷ p) r.version)) after o sent result)
    → Performs s (perform naming at s change) after o sent result
op_delete naming at s after o sent op r change result e f k does =
    let a = asks_delete r change (subst (λ (x : Op). IsChange x change) e k) in
    let u = below_root r.path a.0 a.1 (subst (λ (x : Op). RefusesOp x None) e f) in
    subst (λ (x : Change). Performs s (perform naming at s x) after o sent result) (sym (a.2 ∙ ap (λ (p : Path). delete p r.version) u.2))
    (does u.0 u.1 (subst (IsTextOf r.path) u.2 a.1))

pub op_set_content : (naming : Naming) (at : Moment) (s : State) (after : Held) (o sent : Outs) (op : Op) (r : SetContentRequest) (change : Change) (result : Result OpResult NotDone) → op ≡ ops.SetContent r → IsChange op change
    → ((p : Path) → IsTextOf r.path p → Performs s (perform naming at s (set_content p r.content r.version)) after o sent result)
    → Performs s (perform naming at s change) after o sent result
op_set_content naming at s after o sent op r change result e k does =
    let a = asks_set_content r change (subst (λ (x : Op). IsChange x change) e k) in
    subst (λ (x : Change). Performs s (perform naming at s x) after o sent result) (sym a.2) (does a.0 a.1)

pub op_check : (naming : Naming) (at : Moment) (s : State) (after : Held) (o sent : Outs) (op : Op) (r : CheckRequest) (change : Change) (result : Result OpResult NotDone) → op ≡ ops.Check r → IsChange op change
    → ((p : Path) → IsTextOf r.path p → Performs s (perform naming at s (check p r.version)) after o sent result)
    → Performs s (perform naming at s change) after o sent result
op_check naming at s after o sent op r change result e k does =
    let a = asks_check r change (subst (λ (x : Op). IsChange x change) e k) in
    subst (λ (x : Change). Performs s (perform naming at s x) after o sent result) (sym a.2) (does a.0 a.1)
