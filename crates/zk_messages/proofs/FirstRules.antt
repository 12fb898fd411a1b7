-- Rules in order, of which the first that fits counts.
use Rattle.std.proofs.Common.{◌≡◌, ◌↔◌, ℕ, ℤ, ◌+◌, ◌<◌, ◌≤◌, List, [], ◌∷◌, length, take, take_all, drop, get_or, Option, Some, None, IsTrue, true, false, refl, inl, inr, ◌∙◌, ap, sym, subst}
use Rattle.std.specs.Prelude.{All}
use Rattle.std.proofs.lemmas.Bool.{false≢true}
use Rattle.std.proofs.lemmas.List.{drop_more, drop_all}
use Rattle.std.proofs.lemmas.List.Elements.{All-get_or}
use Rattle.std.proofs.lemmas.Option.{none-some}
use Rattle.zk_messages.specs.Refuses.{Rule, IsAllowed, RefusesPath, RefusesNode, RefusesCreate, RefusesOp, RefusesOps, Refuses, HasOneOutcome}
use Rattle.zk_records.specs.declared.create.CreateRequest.{CreateRequest}
use Rattle.zk_messages.specs.declared.request.Op.{Op}
use Rattle.zk_messages.specs.declared.request.Op.TheVariants as ops
use Rattle.zk_messages.specs.declared.request.Request.{Request}
use Rattle.zk_messages.specs.declared.request.Request.TheVariants as requests

pub rule_fits : (Holds : Type 0) (code : ℤ) (Next : Option ℤ → Type 0) → Holds → Rule Holds code Next (Some code)
unfolding Rule
rule_fits Holds code Next h = inl (h, refl)

pub rule_passes : (Holds : Type 0) (code : ℤ) (Next : Option ℤ → Type 0) (outcome : Option ℤ) → (Holds → ⊥) → Next outcome → Rule Holds code Next outcome
unfolding Rule
rule_passes Holds code Next outcome not_so next = inr (not_so, next)

pub ruleset rules_fit = (rule_fits, rule_passes)

-- one outcome
abbrev IsOne : (Option ℤ → Type 0) → Type 0
IsOne Next = (x y : Option ℤ) → Next x → Next y → x ≡ y

allowed_one : IsOne IsAllowed
allowed_one x y p q = p ∙ sym q

rule_one : (Holds : Type 0) (code : ℤ) (Next : Option ℤ → Type 0) → IsOne Next → IsOne (Rule Holds code Next)
unfolding Rule
rule_one Holds code Next one x y (inl p) (inl q) = p.1 ∙ sym q.1
rule_one Holds code Next one x y (inl p) (inr q) = absurd (q.0 p.0)
rule_one Holds code Next one x y (inr p) (inl q) = absurd (p.0 q.0)
rule_one Holds code Next one x y (inr p) (inr q) = one x y p.1 q.1

path_one : (path : List ℕ) → IsOne (RefusesPath path)
path_one path = rule_one _ _ IsAllowed allowed_one

node_one : (path : List ℕ) → IsOne (RefusesNode path)
node_one path = rule_one _ _ _ (rule_one _ _ IsAllowed allowed_one)

create_one : (r : CreateRequest) → IsOne (RefusesCreate r)
create_one r = rule_one _ _ _ (rule_one _ _ _ (rule_one _ _ _ (rule_one _ _ IsAllowed allowed_one)))

op_one : (op : Op) → IsOne (RefusesOp op)
op_one (ops.Create r) = create_one r
op_one (ops.Delete r) = node_one r.path
op_one (ops.SetContent r) = node_one r.path
op_one (ops.Check r) = path_one r.path
op_one (ops.Create2 r) = create_one r

ops_one : (list : List Op) → IsOne (RefusesOps list)
unfolding RefusesOps
ops_one [] x y p q = p ∙ sym q
ops_one (op ∷ list) x y (inl p) (inl q) = p.2 ∙ op_one op (Some p.0) (Some q.0) p.1 q.1 ∙ sym q.2
ops_one (op ∷ list) x y (inl p) (inr q) = absurd (none-some p.0 (op_one op None (Some p.0) q.0 p.1))
ops_one (op ∷ list) x y (inr p) (inl q) = absurd (none-some q.0 (op_one op None (Some q.0) p.0 q.1))
ops_one (op ∷ list) x y (inr p) (inr q) = ops_one list x y p.1 q.1

pub one_outcome : (r : Request) → HasOneOutcome r
unfolding Refuses
one_outcome (requests.Unknown kind body) x y p q = p ∙ sym q
one_outcome (requests.Auth body) x y p q = p ∙ sym q
one_outcome (requests.Create r) x y p q = create_one r x y p q
one_outcome (requests.Delete r) x y p q = node_one r.path x y p q
one_outcome (requests.Exists r) x y p q = path_one r.path x y p q
one_outcome (requests.GetContent r) x y p q = node_one r.path x y p q
one_outcome (requests.SetContent r) x y p q = node_one r.path x y p q
one_outcome (requests.GetAcl r) x y p q = path_one r.path x y p q
one_outcome (requests.SetAcl r) x y p q = rule_one _ _ _ (rule_one _ _ IsAllowed allowed_one) x y p q
one_outcome (requests.GetChildren r) x y p q = path_one r.path x y p q
one_outcome (requests.GetChildren2 r) x y p q = path_one r.path x y p q
one_outcome (requests.Sync r) x y p q = path_one r.path x y p q
one_outcome requests.Ping x y p q = p ∙ sym q
one_outcome (requests.Multi list) x y p q = ops_one list x y p q
one_outcome (requests.SetWatches r) x y p q = rule_one _ _ _ (rule_one _ _ _ (rule_one _ _ IsAllowed allowed_one)) x y p q
one_outcome requests.Close x y p q = p ∙ sym q
one_outcome (requests.Create2 r) x y p q = create_one r x y p q

-- tests of a list from its front on
pub not_all : {X : Type 0} (P : X → Type 0) (l : List X) (i : ℕ) (x : X) → i < length l → x ≡ get_or l i x → (P x → ⊥) → IsTrue false ↔ All P l
not_all {X} P l i x less at other = (λ f. absurd (false≢true f), λ all. absurd (other (subst P (sym at) (All-get_or P l i x less all))))

pub all_are : {X : Type 0} (P : X → Type 0) (l : List X) (i : ℕ) → All P (take i l) → length l ≤ i → IsTrue true ↔ All P l
all_are {X} P l i all le = (λ t. subst (All P) (take_all i l le) all, λ t. refl)

-- operations from the front on
left_at : (list : List Op) (i : ℕ) (op : Op) → i < length list → op ≡ get_or list i op → drop i list ≡ op ∷ drop (i + 1) list
left_at list i op less at = drop_more list i op less ∙ ap (λ (x : Op). x ∷ drop (i + 1) list) (sym at)

pub op_refused : (list : List Op) (i : ℕ) (op : Op) (code : ℤ) → i < length list → op ≡ get_or list i op → RefusesOp op (Some code) → ((outcome : Option ℤ) → RefusesOps (drop i list) outcome → RefusesOps list outcome) → RefusesOps list (Some code)
unfolding RefusesOps
op_refused list i op code less at p before = before (Some code) (subst (λ (l : List Op). RefusesOps l (Some code)) (sym (left_at list i op less at)) (inl (code, p, refl)))

pub op_allowed : (list : List Op) (i : ℕ) (op : Op) → i < length list → op ≡ get_or list i op → RefusesOp op None → ((outcome : Option ℤ) → RefusesOps (drop i list) outcome → RefusesOps list outcome) → (outcome : Option ℤ) → RefusesOps (drop (i + 1) list) outcome → RefusesOps list outcome
unfolding RefusesOps
op_allowed list i op less at p before outcome h = before outcome (subst (λ (l : List Op). RefusesOps l outcome) (sym (left_at list i op less at)) (inr (p, h)))

pub none_left : (list : List Op) (i : ℕ) → length list ≤ i → ((outcome : Option ℤ) → RefusesOps (drop i list) outcome → RefusesOps list outcome) → RefusesOps list None
unfolding RefusesOps
none_left list i le before = before None (subst (λ (l : List Op). RefusesOps l None) (sym (drop_all i list le)) refl)
