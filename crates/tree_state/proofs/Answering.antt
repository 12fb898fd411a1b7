-- A refused request is answered with its code, and each other one by its row.
use Rattle.std.proofs.Common.{◌≡◌, ℕ, ℤ, Bool, true, false, List, [], All, Option, Some, None, Result, Ok, refl, sym, ap, subst, inl, inr}
use Rattle.std.specs.List.{AllZip}
use Rattle.jute_core.specs.declared.held.Memory.{Memory}
use Rattle.zk_records.specs.declared.create.CreateRequest.{CreateRequest}
use Rattle.zk_messages.specs.Refuses.{Refuses, RefusesOp}
use Rattle.zk_messages.specs.declared.reply.Outcome.{Outcome}
use Rattle.zk_messages.specs.declared.reply.Outcome.TheVariants as outcomes
use Rattle.zk_messages.specs.declared.request.Op.{Op}
use Rattle.zk_messages.specs.declared.request.Request.{Request}
use Rattle.zk_messages.specs.declared.request.Request.TheVariants as requests
use Rattle.zk_messages.proofs.Allowed.{ops_allowed}
use Rattle.zk_messages.proofs.FirstRules.{one_outcome}
use Rattle.tree_state.specs.declared.held.Held.{Held}
use Rattle.tree_state.specs.declared.node.Moment.{Moment}
use Rattle.tree_state.specs.Nodes.{Path}
use Rattle.tree_state.specs.State.{State}
use Rattle.tree_state.specs.Commands.{Command, Asks, Change, IsChange, IsCommand, IsCreate, single, create, multi}
use Rattle.tree_state.specs.Changes.{Naming, perform}
use Rattle.tree_state.specs.Step.{answer, answer_single, with_error}
use Rattle.tree_state.specs.Trees.{Means, Answers, HasRoom, IsOther}
use Rattle.tree_state.proofs.Alone.{Sent, untold}

some_same : (a b : ℤ) → Some a ≡ Some b → a ≡ b
some_same a b h = cc

some_none : (a : ℤ) → Some a ≡ None → ⊥
some_none a h = cc

pub refused_answers : (naming : Naming) (at : Moment) (c : ℕ) (s : State) (h : Held) (before : Sent) (r : Request) (command : Command) (code : ℤ) → Means h s → HasRoom before → Refuses r (Some code) → IsCommand r command
    → Answers s (answer naming at c s command) h before before (Ok (outcomes.Error code))
unfolding IsCommand answer Answers with_error
refused_answers naming at c s h before r command code m room f (inl k) =
    let same = some_same code k.0 (one_outcome r _ _ f k.1) in
    subst (λ (x : Command). Answers s (answer naming at c s x) h before before (Ok (outcomes.Error code))) (sym k.2) (ap outcomes.Error same, untold before before [] room refl refl, m)
refused_answers naming at c s h before r command code m room f (inr k) = absurd (some_none code (one_outcome r _ _ f k.0))

pub asked_plain : (r : Request) (command : Command) → Refuses r None → IsCommand r command → Asks r command
unfolding IsCommand
asked_plain r command f (inl k) = absurd (some_none k.0 (one_outcome r _ _ k.1 f))
asked_plain r command f (inr k) = k.1

-- the request that makes a node, which is answered with or without a Stat
abbrev pub creation : Bool → CreateRequest → Request
creation false r = requests.Create r
creation true r = requests.Create2 r

pub record IsCreating (stat : Bool) (r : CreateRequest) (command : Command) : Type 0 where
  pub path : Path
  pub name : List ℕ
  pub content : Option (List ℕ)
  pub sequential : Bool
  pub ephemeral : Bool
  pub asked : IsCreate r path name content sequential ephemeral
  pub is : command ≡ single (create path name content sequential ephemeral stat)

pub asks_create : (w : Bool) (r : CreateRequest) (command : Command) → Asks (creation w r) command → IsCreating w r command
unfolding Asks
asks_create false r (single (create p n d q e v)) h = record { path = p; name = n; content = d; sequential = q; ephemeral = e; asked = h.0; is = ap (λ (x : Bool). single (create p n d q e x)) h.1 }
asks_create true r (single (create p n d q e v)) h = record { path = p; name = n; content = d; sequential = q; ephemeral = e; asked = h.0; is = ap (λ (x : Bool). single (create p n d q e x)) h.1 }
asks_create false r command h = absurd h
asks_create true r command h = absurd h

pub create_answers : (naming : Naming) (at : Moment) (c : ℕ) (s : State) (h : Held) (before sent : Sent) (r : Request) (w : Bool) (x : CreateRequest) (command : Command) (result : Result Outcome Memory) → r ≡ creation w x → Refuses r None → IsCommand r command
    → ((p : Path) (n : List ℕ) (d : Option (List ℕ)) (q e : Bool) → IsCreate x p n d q e → Answers s (answer_single s (perform naming at s (create p n d q e w))) h before sent result)
    → Answers s (answer naming at c s command) h before sent result
unfolding answer
create_answers naming at c s h before sent r w x command result e f k done =
    let a = asks_create w x command (subst (λ (q : Request). Asks q command) e (asked_plain r command f k)) in
    subst (λ (y : Command). Answers s (answer naming at c s y) h before sent result) (sym a.is) (done a.path a.name a.content a.sequential a.ephemeral a.asked)

-- ---- multi

pub record IsMulti (list : List Op) (command : Command) : Type 0 where
  pub changes : List Change
  pub asked : AllZip IsChange list changes
  pub is : command ≡ multi changes

asks_multi : (list : List Op) (command : Command) → Asks (requests.Multi list) command → IsMulti list command
unfolding Asks
asks_multi list (multi changes) h = record { changes = changes; asked = h; is = refl }
asks_multi list command h = absurd h

-- a multi that is not refused has no operation that is
each_allowed : (list : List Op) → Refuses (requests.Multi list) None → All (λ op. RefusesOp op None) list
unfolding Refuses
each_allowed list h = ops_allowed list h

pub multi_answers : (naming : Naming) (at : Moment) (c : ℕ) (s : State) (h : Held) (before sent : Sent) (r : Request) (list : List Op) (command : Command) (result : Result Outcome Memory) → r ≡ requests.Multi list → Refuses r None → IsCommand r command
    → ((changes : List Change) → All (λ op. RefusesOp op None) list → AllZip IsChange list changes → Answers s (answer naming at c s (multi changes)) h before sent result)
    → Answers s (answer naming at c s command) h before sent result
multi_answers naming at c s h before sent r list command result e f k done =
    let a = asks_multi list command (subst (λ (q : Request). Asks q command) e (asked_plain r command f k)) in
    subst (λ (y : Command). Answers s (answer naming at c s y) h before sent result) (sym a.is)
    (done a.changes (each_allowed list (subst (λ (q : Request). Refuses q None) e f)) a.asked)

pub other : (r : Request) → ((x : CreateRequest) → r ≡ requests.Create x → ⊥) → ((x : CreateRequest) → r ≡ requests.Create2 x → ⊥) → ((x : List Op) → r ≡ requests.Multi x → ⊥) → IsOther r
unfolding IsOther
other (requests.Create x) h i k = h x refl
other (requests.Create2 x) h i k = i x refl
other (requests.Multi x) h i k = k x refl
other r h i k = tt
