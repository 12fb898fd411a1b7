-- How many bytes spell the veiled form of a request.
use Rattle.std.proofs.Common.{◌≡◌, ◌≢◌, ◌≤◌, ◌+◌, ◌*◌, ℕ, ℤ, suc, Bool, true, false, List, [], ◌∷◌, ◌++◌, length, length-append, Option, Some, None, inl, inr, refl, ap, subst, arith}
use Rattle.std.specs.Prelude.{All, sum_by}
use Rattle.std.specs.List.{AllZip}
use Rattle.std.proofs.lemmas.List.Elements.{All-cons, All-head, All-tail}
use Rattle.std.proofs.lemmas.List.Sums.{sum_by-cons}
use Rattle.sha2.specs.Sha256.{sha256}
use Rattle.sha2.proofs.Facts256.{length-sha256}
use Rattle.gcm_mode.specs.Gcm.{Gcm, text_under, gcm_tag}
use Rattle.gcm_mode.proofs.Counting.{length-text_under, length-gcm_tag}
use Rattle.jute_core.specs.Jute.{buffer, ustring, vector}
use Rattle.zk_path.specs.Paths.{IsComponent, IsNamed, IsPath, IsStem, joined, text_of}
use Rattle.path_seal.specs.Sealed.{Keys, SealName, sealed, SealPath, SealStem}
use Rattle.path_seal.proofs.NameBytes.{length-SealName}
use Rattle.payload_seal.specs.Keys.{epoch_of, key_of}
use Rattle.payload_seal.specs.Payload.{SealData, plain_payload, flag_of, content_of}
use Rattle.payload_seal.specs.declared.keys.EntryKeys.{EntryKeys}
use Rattle.watch_rewrite.specs.Watches.{SealsText, SealsList, VeilsWatches}
use Rattle.zk_records.specs.Acls.{acls, acls_fields}
use Rattle.zk_records.specs.PathWatches.{path_watch, path_watch_fields}
use Rattle.zk_records.specs.Requests.{create_request, create_fields, delete_request, delete_fields, check_request, check_fields, set_content_request, set_content_fields, path_only, path_only_fields, set_acl_request, set_acl_fields, set_watches, set_watches_fields}
use Rattle.zk_records.specs.declared.acl.Acl.{Acl}
use Rattle.zk_records.specs.declared.create.CreateRequest.{CreateRequest}
use Rattle.zk_records.specs.declared.node.CheckRequest.{CheckRequest}
use Rattle.zk_records.specs.declared.node.DeleteRequest.{DeleteRequest}
use Rattle.zk_records.specs.declared.node.PathOnly.{PathOnly}
use Rattle.zk_records.specs.declared.node.SetContentRequest.{SetContentRequest}
use Rattle.zk_records.specs.declared.path_watch.PathWatch.{PathWatch}
use Rattle.zk_records.specs.declared.set_acl.SetAclRequest.{SetAclRequest}
use Rattle.zk_records.specs.declared.set_watches.SetWatches.{SetWatches}
use Rattle.zk_messages.proofs.Sizes.{size, op_size, request_size, body_size}
use Rattle.zk_messages.specs.declared.request.Op.{Op}
use Rattle.zk_messages.specs.declared.request.Op.TheVariants as ops
use Rattle.zk_messages.specs.declared.request.Request.{Request}
use Rattle.zk_messages.specs.declared.request.Request.TheVariants as requests
use Rattle.request_rewrite.specs.Laws.{GrowsByThirty}
use Rattle.request_rewrite.specs.Names.{IsNameOf, SealNameOf}
use Rattle.request_rewrite.specs.Veil.{VeilsCreate, VeilsSetContent, VeilsDelete, VeilsCheck, VeilsPathWatch, VeilsPathOnly, VeilsSetAcl, VeilsOp, VeilsOps, Veils, Veil}

-- ---- how long names are sealed

filled : (n : List ℕ) → n ≢ [] → 1 ≤ length n
filled [] h = absurd (h refl)
filled (b ∷ n) h = omega (arith, one_more)
  where
    one_more : length (b ∷ n) ≡ suc (length n)
    one_more = refl

slash_size : (p n : List ℕ) → length (p ++ 47 ∷ n) ≡ length p + 1 + length n
slash_size p n = omega (arith, length-append p (47 ∷ n), one_more)
  where
    one_more : length (47 ∷ n) ≡ suc (length n)
    one_more = refl

joined_growth : (k : Keys) (p : List (List ℕ)) → IsPath p → length (joined (sealed k p)) ≤ 30 * length (joined p)
unfolding joined sealed
joined_growth k [] h = omega arith
joined_growth k (n ∷ p) h = omega (
  arith,
  slash_size (joined (sealed k p)) (SealName k p n),
  slash_size (joined p) n,
  length-SealName k p n,
  filled n (All-head IsComponent n p h).filled,
  joined_growth k p (All-tail IsComponent n p h),
)

text_growth : (k : Keys) (p : List (List ℕ)) → IsPath p → length (SealPath k p) ≤ 30 * length (text_of p)
unfolding text_of sealed
text_growth k [] h = omega arith
text_growth k (n ∷ p) h = joined_sealed k n p (joined_growth k (n ∷ p) h)
  where
    joined_sealed : (k : Keys) (n : List ℕ) (p : List (List ℕ)) → length (joined (sealed k (n ∷ p))) ≤ 30 * length (joined (n ∷ p)) → length (text_of (sealed k (n ∷ p))) ≤ 30 * length (joined (n ∷ p))
    joined_sealed k n p g = g

stem_growth : (k : Keys) (s : List (List ℕ)) → IsStem s → length (SealStem k s) ≤ 30 * length (joined s) + 27
unfolding joined sealed
stem_growth k [] h = absurd h
stem_growth k (n ∷ p) h = omega (
  arith,
  slash_size (joined (sealed k p)) (SealName k p n),
  slash_size (joined p) n,
  length-SealName k p n,
  joined_growth k p h.1,
)

path_grown : (k : Keys) (plain veiled : List ℕ) → SealsText k plain veiled → length veiled ≤ 30 * length plain
path_grown k plain veiled h = omega (arith, ap length h.is_sealed, ap length h.named.spelled, text_growth k h.path h.named.legal)

named_grown : (k : Keys) (text : List ℕ) (sequential : Bool) (p : List (List ℕ)) → IsNamed sequential text p → length (SealNameOf k sequential p) ≤ 30 * length text + 27
unfolding IsNamed SealNameOf
named_grown k text true p h = omega (arith, ap length h.1, stem_growth k p h.0)
named_grown k text false p h = omega (arith, ap length h.spelled, text_growth k p h.legal)

name_grown : (k : Keys) (flags : ℤ) (text : List ℕ) (sequential : Bool) (p : List (List ℕ)) → IsNameOf flags text sequential p → length (SealNameOf k sequential p) ≤ 30 * length text + 27
unfolding IsNameOf
name_grown k flags text sequential p h = named_grown k text sequential p h.1

-- ---- how long a payload is

sealed_size : (keys : List (List ℕ)) (iv : List ℕ) (p : List (List ℕ)) (sequential : Bool) (d : Option (List ℕ)) → length iv ≡ 12 → length (SealData keys iv p sequential d) ≡ length (content_of d) + 61
unfolding SealData plain_payload
sealed_size keys iv p sequential d size_of =
    let key = key_of keys (epoch_of iv) in
    let plain : List ℕ = flag_of sequential d ∷ (sha256 (text_of p) ++ content_of d) in
    let one_more : length plain ≡ suc (length (sha256 (text_of p) ++ content_of d)) = refl in
    omega (
      arith,
      size_of,
      one_more,
      length-append iv (Gcm key iv [] plain),
      length-append (text_under key iv plain) (gcm_tag key iv [] (text_under key iv plain)),
      length-text_under key iv plain,
      length-gcm_tag key iv [] (text_under key iv plain),
      length-append (sha256 (text_of p)) (content_of d),
      length-sha256 (text_of p),
    )

content_size : (d : Option (List ℕ)) → size buffer d ≡ length (content_of d) + 4
content_size None = refl
content_size (Some bytes) = refl

abbrev AreIvs12 : List (List ℕ) → Type 0
AreIvs12 ivs = All (λ iv. length iv ≡ 12) ivs

the_iv : (ivs : List (List ℕ)) (iv : List ℕ) → AreIvs12 ivs → ivs ≡ iv ∷ [] → length iv ≡ 12
the_iv ivs iv all e = All-head (λ x. length x ≡ 12) iv [] (subst AreIvs12 e all)

payload_grown : (keys : List (List ℕ)) (iv : List ℕ) (p : List (List ℕ)) (sequential : Bool) (d veiled : Option (List ℕ)) → length iv ≡ 12 → veiled ≡ Some (SealData keys iv p sequential d) → size buffer veiled ≡ size buffer d + 61
payload_grown keys iv p sequential d veiled twelve e = omega (arith, ap (size buffer) e, sealed_size keys iv p sequential d twelve, content_size d)

-- ---- records

create_grown : (k : EntryKeys) (ivs : List (List ℕ)) (r v : CreateRequest) → AreIvs12 ivs → VeilsCreate k ivs r v → size create_request (create_fields v) ≤ 30 * size create_request (create_fields r)
create_grown k ivs r v all x = omega (
  arith,
  ap length x.sealed_path,
  name_grown k.names r.flags r.path x.sequential x.path x.named,
  payload_grown k.payloads x.iv x.path x.sequential r.content v.content (the_iv ivs x.iv all x.one_iv) x.sealed_content,
  ap (λ (list : Option (List Acl)). size acls (acls_fields list)) x.same_acls,
)

content_grown : (k : EntryKeys) (ivs : List (List ℕ)) (r v : SetContentRequest) → AreIvs12 ivs → VeilsSetContent k ivs r v → size set_content_request (set_content_fields v) ≤ 30 * size set_content_request (set_content_fields r)
content_grown k ivs r v all x = omega (
  arith,
  path_grown k.names r.path v.path x.text,
  payload_grown k.payloads x.iv x.text.path false r.content v.content (the_iv ivs x.iv all x.one_iv) x.sealed_content,
)

delete_grown : (k : Keys) (r v : DeleteRequest) → VeilsDelete k r v → size delete_request (delete_fields v) ≤ 30 * size delete_request (delete_fields r)
delete_grown k r v x = omega (arith, path_grown k r.path v.path x.text)

check_grown : (k : Keys) (r v : CheckRequest) → VeilsCheck k r v → size check_request (check_fields v) ≤ 30 * size check_request (check_fields r)
check_grown k r v x = omega (arith, path_grown k r.path v.path x.text)

watch_grown : (k : Keys) (r v : PathWatch) → VeilsPathWatch k r v → size path_watch (path_watch_fields v) ≤ 30 * size path_watch (path_watch_fields r)
watch_grown k r v x = omega (arith, path_grown k r.path v.path x.text)

only_grown : (k : Keys) (r v : PathOnly) → VeilsPathOnly k r v → size path_only (path_only_fields v) ≤ 30 * size path_only (path_only_fields r)
only_grown k r v x = omega (arith, path_grown k r.path v.path x.text)

acl_grown : (k : Keys) (r v : SetAclRequest) → VeilsSetAcl k r v → size set_acl_request (set_acl_fields v) ≤ 30 * size set_acl_request (set_acl_fields r)
acl_grown k r v x = omega (
  arith,
  path_grown k r.path v.path x.text,
  ap (λ (list : Option (List Acl)). size acls (acls_fields list)) x.same_acls,
)

texts_grown : (k : Keys) (plain veiled : List (List ℕ)) → AllZip (SealsText k) plain veiled → sum_by (size ustring) veiled ≤ 30 * sum_by (size ustring) plain
texts_grown k [] [] h = omega arith
texts_grown k [] (v ∷ vs) h = absurd h
texts_grown k (p ∷ ps) [] h = absurd h
texts_grown k (p ∷ ps) (v ∷ vs) h = omega (
  arith,
  path_grown k p v h.0,
  texts_grown k ps vs h.1,
  sum_by-cons (size ustring) p ps,
  sum_by-cons (size ustring) v vs,
)

list_grown : (k : Keys) (plain veiled : Option (List (List ℕ))) → SealsList k plain veiled → size (vector ustring) veiled ≤ 30 * size (vector ustring) plain
list_grown k None None h = omega arith
list_grown k None (Some v) h = absurd h
list_grown k (Some p) None h = absurd h
list_grown k (Some p) (Some v) h = omega (arith, texts_grown k p v h)

watches_grown : (k : Keys) (r v : SetWatches) → VeilsWatches k r v → size set_watches (set_watches_fields v) ≤ 30 * size set_watches (set_watches_fields r)
watches_grown k r v x = omega (
  arith,
  list_grown k r.content_paths v.content_paths x.content,
  list_grown k r.exist_paths v.exist_paths x.exist,
  list_grown k r.child_paths v.child_paths x.child,
)

-- ---- operations

op_grown : (k : EntryKeys) (ivs : List (List ℕ)) (r v : Op) → AreIvs12 ivs → VeilsOp k ivs r v → op_size v ≤ 30 * op_size r
unfolding VeilsOp
op_grown k ivs (ops.Create r) (ops.Create v) all x = omega (arith, create_grown k ivs r v all x)
op_grown k ivs (ops.Create r) other all x = absurd x
op_grown k ivs (ops.Create2 r) (ops.Create2 v) all x = omega (arith, create_grown k ivs r v all x)
op_grown k ivs (ops.Create2 r) other all x = absurd x
op_grown k ivs (ops.Delete r) (ops.Delete v) all x = omega (arith, delete_grown k.names r v x.0)
op_grown k ivs (ops.Delete r) other all x = absurd x
op_grown k ivs (ops.SetContent r) (ops.SetContent v) all x = omega (arith, content_grown k ivs r v all x)
op_grown k ivs (ops.SetContent r) other all x = absurd x
op_grown k ivs (ops.Check r) (ops.Check v) all x = omega (arith, check_grown k.names r v x.0)
op_grown k ivs (ops.Check r) other all x = absurd x

front_12 : (a b : List (List ℕ)) → AreIvs12 (a ++ b) → AreIvs12 a
front_12 [] b all = λ k d less. absurd (omega (arith, less))
front_12 (iv ∷ a) b all = All-cons (λ x. length x ≡ 12) iv a (All-head (λ x. length x ≡ 12) iv (a ++ b) all) (front_12 a b (All-tail (λ x. length x ≡ 12) iv (a ++ b) all))

back_12 : (a b : List (List ℕ)) → AreIvs12 (a ++ b) → AreIvs12 b
back_12 [] b all = all
back_12 (iv ∷ a) b all = back_12 a b (All-tail (λ x. length x ≡ 12) iv (a ++ b) all)

ops_grown : (k : EntryKeys) (ivs : List (List ℕ)) (rs vs : List Op) → AreIvs12 ivs → VeilsOps k ivs rs vs → sum_by op_size vs ≤ 30 * sum_by op_size rs
unfolding VeilsOps
ops_grown k ivs [] [] all x = omega arith
ops_grown k ivs [] (v ∷ vs) all x = absurd x
ops_grown k ivs (r ∷ rs) [] all x = absurd x
ops_grown k ivs (r ∷ rs) (v ∷ vs) all x =
    let both : AreIvs12 (x.0 ++ x.1) = subst AreIvs12 x.4 all in
    omega (
      arith,
      op_grown k x.0 r v (front_12 x.0 x.1 both) x.2,
      ops_grown k x.1 rs vs (back_12 x.0 x.1 both) x.3,
      sum_by-cons op_size r rs,
      sum_by-cons op_size v vs,
    )

-- ---- requests

form_grown : (k : EntryKeys) (ivs : List (List ℕ)) (r v : Request) → AreIvs12 ivs → Veils k ivs r v → request_size v ≤ 30 * request_size r
unfolding Veils
form_grown k ivs (requests.Create r) (requests.Create v) all x = create_grown k ivs r v all x
form_grown k ivs (requests.Create r) other all x = absurd x
form_grown k ivs (requests.Create2 r) (requests.Create2 v) all x = create_grown k ivs r v all x
form_grown k ivs (requests.Create2 r) other all x = absurd x
form_grown k ivs (requests.Delete r) (requests.Delete v) all x = delete_grown k.names r v x.0
form_grown k ivs (requests.Delete r) other all x = absurd x
form_grown k ivs (requests.Exists r) (requests.Exists v) all x = watch_grown k.names r v x.0
form_grown k ivs (requests.Exists r) other all x = absurd x
form_grown k ivs (requests.GetContent r) (requests.GetContent v) all x = watch_grown k.names r v x.0
form_grown k ivs (requests.GetContent r) other all x = absurd x
form_grown k ivs (requests.SetContent r) (requests.SetContent v) all x = content_grown k ivs r v all x
form_grown k ivs (requests.SetContent r) other all x = absurd x
form_grown k ivs (requests.GetAcl r) (requests.GetAcl v) all x = only_grown k.names r v x.0
form_grown k ivs (requests.GetAcl r) other all x = absurd x
form_grown k ivs (requests.SetAcl r) (requests.SetAcl v) all x = acl_grown k.names r v x.0
form_grown k ivs (requests.SetAcl r) other all x = absurd x
form_grown k ivs (requests.GetChildren r) (requests.GetChildren v) all x = watch_grown k.names r v x.0
form_grown k ivs (requests.GetChildren r) other all x = absurd x
form_grown k ivs (requests.GetChildren2 r) (requests.GetChildren2 v) all x = watch_grown k.names r v x.0
form_grown k ivs (requests.GetChildren2 r) other all x = absurd x
form_grown k ivs (requests.Sync r) (requests.Sync v) all x = only_grown k.names r v x.0
form_grown k ivs (requests.Sync r) other all x = absurd x
form_grown k ivs (requests.Multi r) (requests.Multi v) all x = omega (arith, ops_grown k ivs r v all x)
form_grown k ivs (requests.Multi r) other all x = absurd x
form_grown k ivs (requests.SetWatches r) (requests.SetWatches v) all x = watches_grown k.names r v x.0
form_grown k ivs (requests.SetWatches r) other all x = absurd x
form_grown k ivs requests.Ping requests.Ping all x = omega arith
form_grown k ivs requests.Ping other all x = absurd x
form_grown k ivs requests.Close requests.Close all x = omega arith
form_grown k ivs requests.Close other all x = absurd x
form_grown k ivs (requests.Auth body) other all x = absurd x
form_grown k ivs (requests.Unknown kind body) other all x = absurd x

pub veil_grown : (k : EntryKeys) (ivs : List (List ℕ)) (r v : Request) → AreIvs12 ivs → Veil k ivs r v → request_size v + 8 ≤ 30 * (request_size r + 8)
unfolding Veil
veil_grown k ivs r v all (inl x) = omega (arith, ap request_size x.2)
veil_grown k ivs r v all (inr x) = omega (arith, form_grown k ivs r v all x.1)

pub grows_by_thirty : GrowsByThirty
grows_by_thirty k ivs xid r v a b all x p q = omega (arith, body_size xid r a p, body_size xid v b q, veil_grown k ivs r v all x)
