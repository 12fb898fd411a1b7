-- The row of create, from its checks, the name and what is put there.
use Rattle.std.proofs.Common.{◌≡◌, ℕ, ℤ, Bool, true, false, List, ◌∷◌, Option, Some, None, Result, Ok, Err, Vec, IsTrue, refl, sym, subst, ◌∙◌}
use Rattle.std.specs.Global.{Global}
use Rattle.std.specs.Prelude.{◌↔◌}
use Rattle.std.specs.Result.{IsErrAnd}
use Rattle.std.proofs.lemmas.Result.{err_from_is_err_and}
use Rattle.zk_path.specs.Paths.{IsTextOf}
use Rattle.zk_records.specs.declared.create.CreateRequest.{CreateRequest}
use Rattle.zk_messages.specs.declared.reply.OpResult.{OpResult}
use Rattle.tree_state.specs.declared.held.Held.{Held}
use Rattle.tree_state.specs.declared.held.NotDone.{NotDone}
use Rattle.tree_state.specs.declared.held.NotDone.TheVariants as stops
use Rattle.tree_state.specs.declared.message.Output.{Output}
use Rattle.tree_state.specs.declared.node.Moment.{Moment}
use Rattle.tree_state.specs.Nodes.{Path, Node}
use Rattle.tree_state.specs.State.{State}
use Rattle.tree_state.specs.Commands.{IsCreate, IsEphemeral, create}
use Rattle.tree_state.specs.Changes.{Naming, Trial, failed, done, Effect, perform, name_for, bad_arguments}
use Rattle.tree_state.specs.Trees.{Means, Performs, MayCreate, IsParent, IsNamedTo, name_at}
use Rattle.tree_state.proofs.Names.{name_of_parent}
use Rattle.tree_state.proofs.Rows.{create_unnamed}

abbrev Outs : Type 0
Outs = Vec Output Global

-- a change that failed by its row changes nothing
failed_performs : (s : State) (t : Trial ℤ Effect) (h : Held) (o : Outs) (code : ℤ) → t ≡ failed code → Means h s → Performs s t h o o (Err (stops.Refused code))
unfolding Performs
failed_performs s t h o code e m = subst (λ (x : Trial ℤ Effect). Performs s x h o o (Err (stops.Refused code))) (sym e) (refl, refl, m)

pub create_refused : (naming : Naming) (at : Moment) (s : State) (h : Held) (o : Outs) (p : Path) (n : List ℕ) (d : Option (List ℕ)) (q e w : Bool) (code : ℤ) → MayCreate s p (Err code) → Means h s
    → Performs s (perform naming at s (create p n d q e w)) h o o (Err (stops.Refused code))
unfolding MayCreate
create_refused naming at s h o p n d q e w code r m = failed_performs s _ h o code (r naming at n d q e w) m

pub create_no_name : (naming : Naming) (at : Moment) (s : State) (h : Held) (o : Outs) (p : Path) (n : List ℕ) (d : Option (List ℕ)) (q e w : Bool) (creations : ℕ) → MayCreate s p (Ok creations)
    → IsNamedTo p None (name_at naming p n q creations) → Means h s → Performs s (perform naming at s (create p n d q e w)) h o o (Err (stops.Refused bad_arguments))
unfolding MayCreate IsNamedTo
create_no_name naming at s h o p n d q e w creations r k m =
    failed_performs s _ h o bad_arguments (create_unnamed naming at s p n d q e w r.0 r.1 (name_of_parent naming p n q r.0 creations r.2 ∙ k)) m

without_memory : (s : State) (t : Trial ℤ Effect) (h : Held) (o sent : Outs) (e : NotDone) → e ≡ stops.Memory → Means h s → Performs s t h o sent (Err e)
unfolding Performs
without_memory s (failed code) h o sent e same m = subst (λ (x : NotDone). Performs s (failed code) h o sent (Err x)) (sym same) m
without_memory s (done d) h o sent e same m = subst (λ (x : NotDone). Performs s (done d) h o sent (Err x)) (sym same) m

pub memory_performs : (s : State) (t : Trial ℤ Effect) (h : Held) (o sent : Outs) (r : Result OpResult NotDone) → IsErrAnd r (λ e. e ≡ stops.Memory) → Means h s → Performs s t h o sent r
memory_performs s t h o sent r i m =
    let x = err_from_is_err_and r i in
    subst (Performs s t h o sent) (sym x.1) (without_memory s t h o sent x.0 x.2 m)

-- two tests of one fact
same_truth : {P : Type 0} (a b : Bool) → (IsTrue a ↔ P) → (IsTrue b ↔ P) → a ≡ b
same_truth true true f g = refl
same_truth true false f g = absurd (off (g.1 (f.0 refl)))
  where
    off : IsTrue false → ⊥
    off h = cc
same_truth false true f g = absurd (off (f.1 (g.0 refl)))
  where
    off : IsTrue false → ⊥
    off h = cc
same_truth false false f g = refl

pub creates : (naming : Naming) (at : Moment) (s : State) (after : Held) (o sent : Outs) (r : CreateRequest) (p : Path) (n : List ℕ) (d : Option (List ℕ)) (q e w : Bool) (creations : ℕ) (text : List ℕ) (f : Bool) (result : Result OpResult NotDone)
    → IsCreate r p n d q e → MayCreate s p (Ok creations) → IsNamedTo p (Some text) (name_at naming p n q creations) → (IsTrue f ↔ IsEphemeral r.flags)
    → ((m : List ℕ) (up : Node) → IsTextOf text (m ∷ p) → IsParent s p up → name_for naming p n q up ≡ Some m → Performs s (perform naming at s (create p n r.content q f w)) after o sent result)
    → Performs s (perform naming at s (create p n d q e w)) after o sent result
unfolding MayCreate IsNamedTo
creates naming at s after o sent r p n d q e w creations text f result k may name kept does =
    let given = does name.0 may.0 name.2 may.1 (name_of_parent naming p n q may.0 creations may.2 ∙ name.1) in
    subst (λ (x : Option (List ℕ)). Performs s (perform naming at s (create p n x q e w)) after o sent result) k.same_content
    (subst (λ (b : Bool). Performs s (perform naming at s (create p n r.content q b w)) after o sent result) (same_truth f e kept k.kept) given)
