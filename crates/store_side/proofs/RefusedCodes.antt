-- The code with which a request is refused is not 0.
use Rattle.std.proofs.Common.{◌≡◌, ◌≢◌, ℕ, ℤ, pos, negsuc, List, [], ◌∷◌, Option, Some, inl, inr}
use Rattle.zk_records.specs.declared.create.CreateRequest.{CreateRequest}
use Rattle.zk_records.specs.declared.set_acl.SetAclRequest.{SetAclRequest}
use Rattle.zk_records.specs.declared.set_watches.SetWatches.{SetWatches}
use Rattle.zk_messages.specs.Refuses.{Rule, IsAllowed, RefusesPath, RefusesNode, RefusesCreate, RefusesSetAcl, RefusesWatches, RefusesOp, RefusesOps, Refuses}
use Rattle.zk_messages.specs.declared.request.Op.{Op}
use Rattle.zk_messages.specs.declared.request.Op.TheVariants as ops
use Rattle.zk_messages.specs.declared.request.Request.{Request}
use Rattle.zk_messages.specs.declared.request.Request.TheVariants as requests

-- codes are below 0
pub below_zero : (n : ℕ) → negsuc n ≢ pos 0
below_zero n e = absurd cc

same_code : (code z : ℤ) → code ≢ pos 0 → Some z ≡ Some code → z ≢ pos 0
same_code code z h e zero = let is : code ≡ pos 0 = cc in h is

allowed : (z : ℤ) → IsAllowed (Some z) → z ≢ pos 0
allowed z e = absurd cc

-- a rule whose code is not 0, before rules of which this is so
rule_code : (Holds : Type 0) (code : ℤ) (Next : Option ℤ → Type 0) (z : ℤ) → code ≢ pos 0 → (Next (Some z) → z ≢ pos 0)
    → Rule Holds code Next (Some z) → z ≢ pos 0
unfolding Rule
rule_code Holds code Next z h k (inl fits) = same_code code z h fits.1
rule_code Holds code Next z h k (inr more) = k more.1

path_code : (text : List ℕ) (z : ℤ) → RefusesPath text (Some z) → z ≢ pos 0
path_code text z h = rule_code _ _ _ z (below_zero 7) (allowed z) h

node_code : (text : List ℕ) (z : ℤ) → RefusesNode text (Some z) → z ≢ pos 0
node_code text z h = rule_code _ _ _ z (below_zero 7) (rule_code _ _ _ z (below_zero 7) (allowed z)) h

create_code : (r : CreateRequest) (z : ℤ) → RefusesCreate r (Some z) → z ≢ pos 0
create_code r z h =
    rule_code _ _ _ z (below_zero 7) (
    rule_code _ _ _ z (below_zero 7) (
    rule_code _ _ _ z (below_zero 7) (
    rule_code _ _ _ z (below_zero 113) (allowed z)))) h

acl_code : (r : SetAclRequest) (z : ℤ) → RefusesSetAcl r (Some z) → z ≢ pos 0
acl_code r z h = rule_code _ _ _ z (below_zero 7) (rule_code _ _ _ z (below_zero 113) (allowed z)) h

watches_code : (r : SetWatches) (z : ℤ) → RefusesWatches r (Some z) → z ≢ pos 0
watches_code r z h =
    rule_code _ _ _ z (below_zero 7) (rule_code _ _ _ z (below_zero 7) (rule_code _ _ _ z (below_zero 7) (allowed z))) h

op_code : (op : Op) (z : ℤ) → RefusesOp op (Some z) → z ≢ pos 0
op_code (ops.Create r) z h = create_code r z h
op_code (ops.Delete r) z h = node_code r.path z h
op_code (ops.SetContent r) z h = node_code r.path z h
op_code (ops.Check r) z h = path_code r.path z h
op_code (ops.Create2 r) z h = create_code r z h

ops_code : (list : List Op) (z : ℤ) → RefusesOps list (Some z) → z ≢ pos 0
unfolding RefusesOps
ops_code [] z h = allowed z h
ops_code (op ∷ list) z (inl first) = same_code first.0 z (op_code op first.0 first.1) first.2
ops_code (op ∷ list) z (inr more) = ops_code list z more.1

pub refused_code : (r : Request) (z : ℤ) → Refuses r (Some z) → z ≢ pos 0
unfolding Refuses
refused_code (requests.Unknown kind body) z h = same_code _ z (below_zero 5) h
refused_code (requests.Auth body) z h = same_code _ z (below_zero 114) h
refused_code (requests.Create r) z h = create_code r z h
refused_code (requests.Delete r) z h = node_code r.path z h
refused_code (requests.Exists r) z h = path_code r.path z h
refused_code (requests.GetContent r) z h = node_code r.path z h
refused_code (requests.SetContent r) z h = node_code r.path z h
refused_code (requests.GetAcl r) z h = path_code r.path z h
refused_code (requests.SetAcl r) z h = acl_code r z h
refused_code (requests.GetChildren r) z h = path_code r.path z h
refused_code (requests.GetChildren2 r) z h = path_code r.path z h
refused_code (requests.Sync r) z h = path_code r.path z h
refused_code requests.Ping z h = allowed z h
refused_code (requests.Multi list) z h = ops_code list z h
refused_code (requests.SetWatches r) z h = watches_code r z h
refused_code requests.Close z h = allowed z h
refused_code (requests.Create2 r) z h = create_code r z h
