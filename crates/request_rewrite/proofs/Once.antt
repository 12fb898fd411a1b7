-- A request has one veiled form under keys and IVs.
use Rattle.std.proofs.Common.{◌≡◌, ℕ, ℤ, Bool, true, false, List, [], ◌∷◌, ◌++◌, length, take, drop, Option, Some, None, inl, inr, refl, sym, ap, ◌∙◌, subst, IsTrue, ◌↔◌}
use Rattle.std.proofs.lemmas.Bool.{false≢true}
use Rattle.std.specs.List.{AllZip}
use Rattle.std.proofs.lemmas.List.{take_at, drop_at}
use Rattle.std.proofs.lemmas.Option.{none-some}
use Rattle.zk_path.proofs.Judged.{one_text, one_stem_text}
use Rattle.zk_path.specs.Paths.{IsNamed}
use Rattle.path_seal.specs.Sealed.{Keys, SealPath}
use Rattle.payload_seal.specs.Payload.{SealData}
use Rattle.payload_seal.specs.declared.keys.EntryKeys.{EntryKeys}
use Rattle.watch_rewrite.specs.Watches.{SealsText, SealsList, VeilsWatches}
use Rattle.zk_records.specs.declared.create.CreateRequest.{CreateRequest}
use Rattle.zk_records.specs.declared.node.CheckRequest.{CheckRequest}
use Rattle.zk_records.specs.declared.node.DeleteRequest.{DeleteRequest}
use Rattle.zk_records.specs.declared.node.PathOnly.{PathOnly}
use Rattle.zk_records.specs.declared.node.SetContentRequest.{SetContentRequest}
use Rattle.zk_records.specs.declared.path_watch.PathWatch.{PathWatch}
use Rattle.zk_records.specs.declared.set_acl.SetAclRequest.{SetAclRequest}
use Rattle.zk_records.specs.declared.set_watches.SetWatches.{SetWatches}
use Rattle.zk_messages.proofs.FirstRules.{one_outcome}
use Rattle.zk_messages.specs.declared.request.Op.{Op}
use Rattle.zk_messages.specs.declared.request.Op.TheVariants as ops
use Rattle.zk_messages.specs.declared.request.Request.{Request}
use Rattle.zk_messages.specs.declared.request.Request.TheVariants as requests
use Rattle.request_rewrite.specs.Ivs.{payloads_of_op}
use Rattle.request_rewrite.specs.Laws.{IsVeiledOnce}
use Rattle.request_rewrite.specs.Names.{IsNameOf, SealNameOf}
use Rattle.request_rewrite.specs.Veil.{VeilsCreate, VeilsSetContent, VeilsDelete, VeilsCheck, VeilsPathWatch, VeilsPathOnly, VeilsSetAcl, VeilsOp, VeilsOps, Veils, Veil}
use Rattle.request_rewrite.proofs.Whole.{one_count}

-- ---- texts

path_once : (k : Keys) (text a b : List ℕ) (x : SealsText k text a) (y : SealsText k text b) → x.path ≡ y.path
path_once k text a b x y = one_text x.path y.path x.named.legal y.named.legal (sym x.named.spelled ∙ y.named.spelled)

text_once : (k : Keys) (text a b : List ℕ) → SealsText k text a → SealsText k text b → a ≡ b
text_once k text a b x y = x.is_sealed ∙ ap (SealPath k) (path_once k text a b x y) ∙ sym y.is_sealed

named_once : (text : List ℕ) (s t : Bool) (p q : List (List ℕ)) → (IsTrue s ↔ IsTrue t) → IsNamed s text p → IsNamed t text q → (s ≡ t) × (p ≡ q)
unfolding IsNamed
named_once text true true p q same x y = (refl, one_stem_text p q x.0 y.0 (sym x.1 ∙ y.1))
named_once text true false p q same x y = absurd (false≢true (same.0 refl))
named_once text false true p q same x y = absurd (false≢true (same.1 refl))
named_once text false false p q same x y = (refl, one_text p q x.legal y.legal (sym x.spelled ∙ y.spelled))

name_once : (flags : ℤ) (text : List ℕ) (s t : Bool) (p q : List (List ℕ)) → IsNameOf flags text s p → IsNameOf flags text t q → (s ≡ t) × (p ≡ q)
unfolding IsNameOf
name_once flags text s t p q x y = named_once text s t p q (λ h. y.0.1 (x.0.0 h), λ h. x.0.1 (y.0.0 h)) x.1 y.1

texts_once : (k : Keys) (plain xs ys : List (List ℕ)) → AllZip (SealsText k) plain xs → AllZip (SealsText k) plain ys → xs ≡ ys
texts_once k [] [] [] a b = refl
texts_once k [] [] (y ∷ ys) a b = absurd b
texts_once k [] (x ∷ xs) ys a b = absurd a
texts_once k (p ∷ ps) [] ys a b = absurd a
texts_once k (p ∷ ps) (x ∷ xs) [] a b = absurd b
texts_once k (p ∷ ps) (x ∷ xs) (y ∷ ys) a b = (λ i. text_once k p x y a.0 b.0 i ∷ texts_once k ps xs ys a.1 b.1 i)

list_once : (k : Keys) (plain x y : Option (List (List ℕ))) → SealsList k plain x → SealsList k plain y → x ≡ y
list_once k None None None a b = refl
list_once k None None (Some y) a b = absurd b
list_once k None (Some x) y a b = absurd a
list_once k (Some p) None y a b = absurd a
list_once k (Some p) (Some x) None a b = absurd b
list_once k (Some p) (Some x) (Some y) a b = ap Some (texts_once k p x y a b)

-- ---- records

same_first : (a b : List ℕ) (ivs : List (List ℕ)) → ivs ≡ a ∷ [] → ivs ≡ b ∷ [] → a ≡ b
same_first a b ivs e f = cc

create_once : (k : EntryKeys) (ivs : List (List ℕ)) (r v w : CreateRequest) → VeilsCreate k ivs r v → VeilsCreate k ivs r w → v ≡ w
create_once k ivs r v w x y =
    let same = name_once r.flags r.path x.sequential y.sequential x.path y.path x.named y.named in
    let iv = same_first x.iv y.iv ivs x.one_iv y.one_iv in
    let path : v.path ≡ w.path = x.sealed_path ∙ (λ i. SealNameOf k.names (same.0 i) (same.1 i)) ∙ sym y.sealed_path in
    let content : v.content ≡ w.content = x.sealed_content ∙ (λ i. Some (SealData k.payloads (iv i) (same.1 i) (same.0 i) r.content)) ∙ sym y.sealed_content in
    let acls = x.same_acls ∙ sym y.same_acls in
    let flags = x.same_flags ∙ sym y.same_flags in
    (λ i. record { path = path i; content = content i; acls = acls i; flags = flags i })

content_once : (k : EntryKeys) (ivs : List (List ℕ)) (r v w : SetContentRequest) → VeilsSetContent k ivs r v → VeilsSetContent k ivs r w → v ≡ w
content_once k ivs r v w x y =
    let same = path_once k.names r.path v.path w.path x.text y.text in
    let iv = same_first x.iv y.iv ivs x.one_iv y.one_iv in
    let path = text_once k.names r.path v.path w.path x.text y.text in
    let content : v.content ≡ w.content = x.sealed_content ∙ (λ i. Some (SealData k.payloads (iv i) (same i) false r.content)) ∙ sym y.sealed_content in
    let version = x.same_version ∙ sym y.same_version in
    (λ i. record { path = path i; content = content i; version = version i })

delete_once : (k : Keys) (r v w : DeleteRequest) → VeilsDelete k r v → VeilsDelete k r w → v ≡ w
delete_once k r v w x y =
    let path = text_once k r.path v.path w.path x.text y.text in
    let version = x.same_version ∙ sym y.same_version in
    (λ i. record { path = path i; version = version i })

check_once : (k : Keys) (r v w : CheckRequest) → VeilsCheck k r v → VeilsCheck k r w → v ≡ w
check_once k r v w x y =
    let path = text_once k r.path v.path w.path x.text y.text in
    let version = x.same_version ∙ sym y.same_version in
    (λ i. record { path = path i; version = version i })

watch_once : (k : Keys) (r v w : PathWatch) → VeilsPathWatch k r v → VeilsPathWatch k r w → v ≡ w
watch_once k r v w x y =
    let path = text_once k r.path v.path w.path x.text y.text in
    let watch = x.same_watch ∙ sym y.same_watch in
    (λ i. record { path = path i; watch = watch i })

only_once : (k : Keys) (r v w : PathOnly) → VeilsPathOnly k r v → VeilsPathOnly k r w → v ≡ w
only_once k r v w x y =
    let path = text_once k r.path v.path w.path x.text y.text in
    (λ i. record { path = path i })

acl_once : (k : Keys) (r v w : SetAclRequest) → VeilsSetAcl k r v → VeilsSetAcl k r w → v ≡ w
acl_once k r v w x y =
    let path = text_once k r.path v.path w.path x.text y.text in
    let acls = x.same_acls ∙ sym y.same_acls in
    let version = x.same_version ∙ sym y.same_version in
    (λ i. record { path = path i; acls = acls i; version = version i })

watches_once : (k : Keys) (r v w : SetWatches) → VeilsWatches k r v → VeilsWatches k r w → v ≡ w
watches_once k r v w x y =
    let seen = x.same_seen ∙ sym y.same_seen in
    let content = list_once k r.content_paths v.content_paths w.content_paths x.content y.content in
    let exist = list_once k r.exist_paths v.exist_paths w.exist_paths x.exist y.exist in
    let child = list_once k r.child_paths v.child_paths w.child_paths x.child y.child in
    (λ i. record { seen = seen i; content_paths = content i; exist_paths = exist i; child_paths = child i })

-- ---- operations

same_parts : (a b x y : List (List ℕ)) → length a ≡ length b → a ++ x ≡ b ++ y → (a ≡ b) × (x ≡ y)
same_parts a b x y size e = (
  sym (take_at a x (length a) refl) ∙ ap (take (length a)) e ∙ take_at b y (length a) (sym size),
  sym (drop_at a x (length a) refl) ∙ ap (drop (length a)) e ∙ drop_at b y (length a) (sym size),
)

op_once : (k : EntryKeys) (ivs : List (List ℕ)) (r v w : Op) → VeilsOp k ivs r v → VeilsOp k ivs r w → v ≡ w
unfolding VeilsOp
op_once k ivs (ops.Create r) (ops.Create v) (ops.Create w) x y = ap ops.Create (create_once k ivs r v w x y)
op_once k ivs (ops.Create r) (ops.Create v) other x y = absurd y
op_once k ivs (ops.Create r) other w x y = absurd x
op_once k ivs (ops.Create2 r) (ops.Create2 v) (ops.Create2 w) x y = ap ops.Create2 (create_once k ivs r v w x y)
op_once k ivs (ops.Create2 r) (ops.Create2 v) other x y = absurd y
op_once k ivs (ops.Create2 r) other w x y = absurd x
op_once k ivs (ops.Delete r) (ops.Delete v) (ops.Delete w) x y = ap ops.Delete (delete_once k.names r v w x.0 y.0)
op_once k ivs (ops.Delete r) (ops.Delete v) other x y = absurd y
op_once k ivs (ops.Delete r) other w x y = absurd x
op_once k ivs (ops.SetContent r) (ops.SetContent v) (ops.SetContent w) x y = ap ops.SetContent (content_once k ivs r v w x y)
op_once k ivs (ops.SetContent r) (ops.SetContent v) other x y = absurd y
op_once k ivs (ops.SetContent r) other w x y = absurd x
op_once k ivs (ops.Check r) (ops.Check v) (ops.Check w) x y = ap ops.Check (check_once k.names r v w x.0 y.0)
op_once k ivs (ops.Check r) (ops.Check v) other x y = absurd y
op_once k ivs (ops.Check r) other w x y = absurd x

op_ivs : (k : EntryKeys) (ivs : List (List ℕ)) (r v : Op) → VeilsOp k ivs r v → length ivs ≡ payloads_of_op r
unfolding VeilsOp payloads_of_op
op_ivs k ivs (ops.Create r) (ops.Create v) x = ap length x.one_iv
op_ivs k ivs (ops.Create r) other x = absurd x
op_ivs k ivs (ops.Create2 r) (ops.Create2 v) x = ap length x.one_iv
op_ivs k ivs (ops.Create2 r) other x = absurd x
op_ivs k ivs (ops.Delete r) (ops.Delete v) x = ap length x.1
op_ivs k ivs (ops.Delete r) other x = absurd x
op_ivs k ivs (ops.SetContent r) (ops.SetContent v) x = ap length x.one_iv
op_ivs k ivs (ops.SetContent r) other x = absurd x
op_ivs k ivs (ops.Check r) (ops.Check v) x = ap length x.1
op_ivs k ivs (ops.Check r) other x = absurd x

ops_once : (k : EntryKeys) (ivs : List (List ℕ)) (rs vs ws : List Op) → VeilsOps k ivs rs vs → VeilsOps k ivs rs ws → vs ≡ ws
unfolding VeilsOps
ops_once k ivs [] [] [] x y = refl
ops_once k ivs [] [] (w ∷ ws) x y = absurd y
ops_once k ivs [] (v ∷ vs) ws x y = absurd x
ops_once k ivs (r ∷ rs) [] ws x y = absurd x
ops_once k ivs (r ∷ rs) (v ∷ vs) [] x y = absurd y
ops_once k ivs (r ∷ rs) (v ∷ vs) (w ∷ ws) x y =
    let same = same_parts x.0 y.0 x.1 y.1 (op_ivs k x.0 r v x.2 ∙ sym (op_ivs k y.0 r w y.2)) (sym x.4 ∙ y.4) in
    let first = op_once k x.0 r v w x.2 (subst (λ (l : List (List ℕ)). VeilsOp k l r w) (sym same.0) y.2) in
    let rest = ops_once k x.1 rs vs ws x.3 (subst (λ (l : List (List ℕ)). VeilsOps k l rs ws) (sym same.1) y.3) in
    (λ i. first i ∷ rest i)

-- ---- requests

form_once : (k : EntryKeys) (ivs : List (List ℕ)) (r v w : Request) → Veils k ivs r v → Veils k ivs r w → v ≡ w
unfolding Veils
form_once k ivs (requests.Create r) (requests.Create v) (requests.Create w) x y = ap requests.Create (create_once k ivs r v w x y)
form_once k ivs (requests.Create r) (requests.Create v) other x y = absurd y
form_once k ivs (requests.Create r) other w x y = absurd x
form_once k ivs (requests.Create2 r) (requests.Create2 v) (requests.Create2 w) x y = ap requests.Create2 (create_once k ivs r v w x y)
form_once k ivs (requests.Create2 r) (requests.Create2 v) other x y = absurd y
form_once k ivs (requests.Create2 r) other w x y = absurd x
form_once k ivs (requests.Delete r) (requests.Delete v) (requests.Delete w) x y = ap requests.Delete (delete_once k.names r v w x.0 y.0)
form_once k ivs (requests.Delete r) (requests.Delete v) other x y = absurd y
form_once k ivs (requests.Delete r) other w x y = absurd x
form_once k ivs (requests.Exists r) (requests.Exists v) (requests.Exists w) x y = ap requests.Exists (watch_once k.names r v w x.0 y.0)
form_once k ivs (requests.Exists r) (requests.Exists v) other x y = absurd y
form_once k ivs (requests.Exists r) other w x y = absurd x
form_once k ivs (requests.GetContent r) (requests.GetContent v) (requests.GetContent w) x y = ap requests.GetContent (watch_once k.names r v w x.0 y.0)
form_once k ivs (requests.GetContent r) (requests.GetContent v) other x y = absurd y
form_once k ivs (requests.GetContent r) other w x y = absurd x
form_once k ivs (requests.SetContent r) (requests.SetContent v) (requests.SetContent w) x y = ap requests.SetContent (content_once k ivs r v w x y)
form_once k ivs (requests.SetContent r) (requests.SetContent v) other x y = absurd y
form_once k ivs (requests.SetContent r) other w x y = absurd x
form_once k ivs (requests.GetAcl r) (requests.GetAcl v) (requests.GetAcl w) x y = ap requests.GetAcl (only_once k.names r v w x.0 y.0)
form_once k ivs (requests.GetAcl r) (requests.GetAcl v) other x y = absurd y
form_once k ivs (requests.GetAcl r) other w x y = absurd x
form_once k ivs (requests.SetAcl r) (requests.SetAcl v) (requests.SetAcl w) x y = ap requests.SetAcl (acl_once k.names r v w x.0 y.0)
form_once k ivs (requests.SetAcl r) (requests.SetAcl v) other x y = absurd y
form_once k ivs (requests.SetAcl r) other w x y = absurd x
form_once k ivs (requests.GetChildren r) (requests.GetChildren v) (requests.GetChildren w) x y = ap requests.GetChildren (watch_once k.names r v w x.0 y.0)
form_once k ivs (requests.GetChildren r) (requests.GetChildren v) other x y = absurd y
form_once k ivs (requests.GetChildren r) other w x y = absurd x
form_once k ivs (requests.GetChildren2 r) (requests.GetChildren2 v) (requests.GetChildren2 w) x y = ap requests.GetChildren2 (watch_once k.names r v w x.0 y.0)
form_once k ivs (requests.GetChildren2 r) (requests.GetChildren2 v) other x y = absurd y
form_once k ivs (requests.GetChildren2 r) other w x y = absurd x
form_once k ivs (requests.Sync r) (requests.Sync v) (requests.Sync w) x y = ap requests.Sync (only_once k.names r v w x.0 y.0)
form_once k ivs (requests.Sync r) (requests.Sync v) other x y = absurd y
form_once k ivs (requests.Sync r) other w x y = absurd x
form_once k ivs (requests.Multi r) (requests.Multi v) (requests.Multi w) x y = ap requests.Multi (ops_once k ivs r v w x y)
form_once k ivs (requests.Multi r) (requests.Multi v) other x y = absurd y
form_once k ivs (requests.Multi r) other w x y = absurd x
form_once k ivs (requests.SetWatches r) (requests.SetWatches v) (requests.SetWatches w) x y = ap requests.SetWatches (watches_once k.names r v w x.0 y.0)
form_once k ivs (requests.SetWatches r) (requests.SetWatches v) other x y = absurd y
form_once k ivs (requests.SetWatches r) other w x y = absurd x
form_once k ivs requests.Ping requests.Ping requests.Ping x y = refl
form_once k ivs requests.Ping requests.Ping other x y = absurd y
form_once k ivs requests.Ping other w x y = absurd x
form_once k ivs requests.Close requests.Close requests.Close x y = refl
form_once k ivs requests.Close requests.Close other x y = absurd y
form_once k ivs requests.Close other w x y = absurd x
form_once k ivs (requests.Auth body) v w x y = absurd x
form_once k ivs (requests.Unknown kind body) v w x y = absurd x

one_form : (k : EntryKeys) (ivs : List (List ℕ)) (r v w : Request) → Veil k ivs r v → Veil k ivs r w → v ≡ w
unfolding Veil
one_form k ivs r v w (inl x) (inl y) = x.2 ∙ sym y.2
one_form k ivs r v w (inl x) (inr y) = absurd (none-some x.0 (one_outcome r None (Some x.0) y.0 x.1))
one_form k ivs r v w (inr x) (inl y) = absurd (none-some y.0 (one_outcome r None (Some y.0) x.0 y.1))
one_form k ivs r v w (inr x) (inr y) = form_once k ivs r v w x.1 y.1

pub veiled_once : IsVeiledOnce
veiled_once = record { one_number = λ r m n p q. one_count r n m q p; one_form = one_form }
