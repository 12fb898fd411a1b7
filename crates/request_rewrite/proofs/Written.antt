-- What is handed up for a client's body can be written, and what is kept of it is short.
use Rattle.std.proofs.Common.{◌≡◌, ◌<◌, ◌≤◌, ◌^◌, ℕ, ℤ, pos, suc, List, [], ◌∷◌, length, map, Option, Some, None, inl, inr, refl, sym, ap, subst, arith}
use Rattle.std.specs.Prelude.{All, IfSome, sum_by}
use Rattle.std.specs.List.{AllZip}
use Rattle.std.proofs.lemmas.List.{length-map}
use Rattle.std.proofs.lemmas.List.Elements.{All-nil, All-cons}
use Rattle.std.proofs.lemmas.List.Sums.{sum_by-cons}
use Rattle.std.proofs.lemmas.Option.{none-some}
use Rattle.jute_core.specs.Jute.{Value, buffer, ustring, vector}
use Rattle.jute_core.specs.Lists.{AreShort}
use Rattle.zk_path.specs.Paths.{IsTextOf, text_of}
use Rattle.zk_records.specs.Acls.{acl, acl_fields, acls, acls_fields, IsShortAcl, AreShortAcls}
use Rattle.zk_records.specs.Requests.{create_request, create_fields, set_content_request, set_content_fields, set_acl_request, set_acl_fields, set_watches, set_watches_fields}
use Rattle.zk_records.specs.Requests.{IsShortCreate, IsShortSetContent, IsShortSetAcl, IsShortSetWatches}
use Rattle.zk_records.specs.declared.acl.Acl.{Acl}
use Rattle.zk_records.specs.declared.create.CreateRequest.{CreateRequest}
use Rattle.zk_records.specs.declared.node.SetContentRequest.{SetContentRequest}
use Rattle.zk_records.specs.declared.set_acl.SetAclRequest.{SetAclRequest}
use Rattle.zk_records.specs.declared.set_watches.SetWatches.{SetWatches}
use Rattle.payload_seal.specs.declared.keys.EntryKeys.{EntryKeys}
use Rattle.request_queue.specs.Short.{HasShortPath}
use Rattle.request_queue.specs.declared.asked.Asked.{Asked}
use Rattle.request_queue.specs.declared.asked.Asked.TheVariants as asks
use Rattle.zk_messages.proofs.Sizes.{size, op_size, request_size, body_size}
use Rattle.zk_messages.proofs.ShortParts.{short_when_read}
use Rattle.zk_messages.specs.Kinds.{kind_of}
use Rattle.zk_messages.specs.declared.kind.Kind.TheVariants as kinds
use Rattle.zk_messages.specs.Refuses.{Refuses}
use Rattle.zk_messages.specs.Requests.{IsKind, MayHave, SpellsRequest, number_of}
use Rattle.zk_messages.specs.Short.{IsShort, IsShortContent, AreShort as AreShortLists, HasShortOpParts, HasShortParts}
use Rattle.zk_messages.specs.Sending.{IsShortOp, IsShortRequest}
use Rattle.zk_messages.specs.declared.request.Op.{Op}
use Rattle.zk_messages.specs.declared.request.Op.TheVariants as ops
use Rattle.zk_messages.specs.declared.request.Request.{Request}
use Rattle.zk_messages.specs.declared.request.Request.TheVariants as requests
use Rattle.request_rewrite.specs.Asks.{Asks, AsksOp, AsksPlain}
use Rattle.request_rewrite.specs.Laws.{IsShortWhenAsked, IsWritableWhenVeiled}
use Rattle.request_rewrite.specs.Veil.{Veil, Veils, stand_in}
use Rattle.request_rewrite.proofs.Growth.{veil_grown}

-- ---- lengths and counts within a size

text_int : (text : List ℕ) → size ustring text ≤ 2 ^ 27 → length text < 2 ^ 31
text_int text h = omega (arith, h)

content_int : (d : Option (List ℕ)) → size buffer d ≤ 2 ^ 27 → IfSome d (λ b. length b < 2 ^ 31)
content_int None h = tt
content_int (Some bytes) h = omega (arith, h)

each_int : {V : Type 0} (f : V → ℕ) (P : V → Type 0) → ((v : V) → f v ≤ 2 ^ 27 → P v) → (vs : List V) → sum_by f vs ≤ 2 ^ 27 → All P vs
each_int {V} f P one [] h = All-nil P
each_int {V} f P one (v ∷ vs) h =
    All-cons P v vs (one v (omega (arith, h, sum_by-cons f v vs))) (each_int f P one vs (omega (arith, h, sum_by-cons f v vs)))

-- each item takes a byte at least
counted : {V : Type 0} (f : V → ℕ) → ((v : V) → 1 ≤ f v) → (vs : List V) → length vs ≤ sum_by f vs
counted {V} f some [] = omega arith
counted {V} f some (v ∷ vs) =
    let one_more : length (v ∷ vs) ≡ suc (length vs) = refl in
    omega (arith, one_more, some v, counted f some vs, sum_by-cons f v vs)

text_some : (text : List ℕ) → 1 ≤ size ustring text
text_some text = omega arith

texts_int : (list : Option (List (List ℕ))) → size (vector ustring) list ≤ 2 ^ 27 → IfSome list AreShort
texts_int None h = tt
texts_int (Some texts) h = record {
  few = omega (arith, h, counted (size ustring) text_some texts);
  each = each_int (size ustring) (λ t. length t < 2 ^ 31) text_int texts (omega (arith, h));
}

acl_some : (v : Value acl) → 1 ≤ size acl v
acl_some v = omega arith

each_acl : (list : List Acl) → sum_by (size acl) (map acl_fields list) ≤ 2 ^ 27 → All IsShortAcl list
each_acl [] h = All-nil IsShortAcl
each_acl (a ∷ list) h =
    let split = sum_by-cons (size acl) (acl_fields a) (map acl_fields list) in
    All-cons IsShortAcl a list (record { scheme = omega (arith, h, split); id = omega (arith, h, split) }) (each_acl list (omega (arith, h, split)))

acls_int : (list : Option (List Acl)) → size acls (acls_fields list) ≤ 2 ^ 27 → IfSome list AreShortAcls
acls_int None h = tt
acls_int (Some list) h = record {
  few = omega (arith, h, length-map list acl_fields, counted (size acl) acl_some (map acl_fields list));
  each = each_acl list (omega (arith, h));
}

create_int : (r : CreateRequest) → size create_request (create_fields r) ≤ 2 ^ 27 → IsShortCreate r
create_int r h = record { path = omega (arith, h); content = content_int r.content (omega (arith, h)); acls = acls_int r.acls (omega (arith, h)) }

set_content_int : (r : SetContentRequest) → size set_content_request (set_content_fields r) ≤ 2 ^ 27 → IsShortSetContent r
set_content_int r h = record { path = omega (arith, h); content = content_int r.content (omega (arith, h)) }

set_acl_int : (r : SetAclRequest) → size set_acl_request (set_acl_fields r) ≤ 2 ^ 27 → IsShortSetAcl r
set_acl_int r h = record { path = omega (arith, h); acls = acls_int r.acls (omega (arith, h)) }

set_watches_int : (r : SetWatches) → size set_watches (set_watches_fields r) ≤ 2 ^ 27 → IsShortSetWatches r
set_watches_int r h = record {
  content_paths = texts_int r.content_paths (omega (arith, h));
  exist_paths = texts_int r.exist_paths (omega (arith, h));
  child_paths = texts_int r.child_paths (omega (arith, h));
}

op_int : (op : Op) → op_size op ≤ 2 ^ 27 → IsShortOp op
op_int (ops.Create r) h = create_int r (omega (arith, h))
op_int (ops.Create2 r) h = create_int r (omega (arith, h))
op_int (ops.Delete r) h = omega (arith, h)
op_int (ops.SetContent r) h = set_content_int r (omega (arith, h))
op_int (ops.Check r) h = omega (arith, h)

request_int : (r : Request) → request_size r ≤ 2 ^ 27 → IsShortRequest r
request_int (requests.Create r) h = create_int r h
request_int (requests.Create2 r) h = create_int r h
request_int (requests.Delete r) h = omega (arith, h)
request_int (requests.Exists r) h = omega (arith, h)
request_int (requests.GetContent r) h = omega (arith, h)
request_int (requests.SetContent r) h = set_content_int r h
request_int (requests.GetAcl r) h = omega (arith, h)
request_int (requests.SetAcl r) h = set_acl_int r h
request_int (requests.GetChildren r) h = omega (arith, h)
request_int (requests.GetChildren2 r) h = omega (arith, h)
request_int (requests.Sync r) h = omega (arith, h)
request_int requests.Ping h = tt
request_int (requests.Multi list) h = each_int op_size IsShortOp op_int list (omega (arith, h))
request_int (requests.SetWatches r) h = set_watches_int r h
request_int (requests.Auth body) h = tt
request_int requests.Close h = tt
request_int (requests.Unknown kind body) h = tt

-- ---- texts and buffers within a size

content_within : (d : Option (List ℕ)) → size buffer d ≤ 2 ^ 27 → IsShortContent d
content_within None h = tt
content_within (Some bytes) h = omega (arith, h)

text_within : (text : List ℕ) → size ustring text ≤ 2 ^ 27 → IsShort text
text_within text h = omega (arith, h)

texts_within : (list : Option (List (List ℕ))) → size (vector ustring) list ≤ 2 ^ 27 → AreShortLists list
texts_within None h = tt
texts_within (Some texts) h = each_int (size ustring) IsShort text_within texts (omega (arith, h))

op_within : (op : Op) → op_size op ≤ 2 ^ 27 → HasShortOpParts op
unfolding HasShortOpParts
op_within (ops.Create r) h = (omega (arith, h), content_within r.content (omega (arith, h)))
op_within (ops.Create2 r) h = (omega (arith, h), content_within r.content (omega (arith, h)))
op_within (ops.Delete r) h = omega (arith, h)
op_within (ops.SetContent r) h = (omega (arith, h), content_within r.content (omega (arith, h)))
op_within (ops.Check r) h = omega (arith, h)

request_within : (r : Request) → request_size r ≤ 2 ^ 27 → HasShortParts r
unfolding HasShortParts
request_within (requests.Create r) h = (omega (arith, h), content_within r.content (omega (arith, h)))
request_within (requests.Create2 r) h = (omega (arith, h), content_within r.content (omega (arith, h)))
request_within (requests.Delete r) h = omega (arith, h)
request_within (requests.Exists r) h = omega (arith, h)
request_within (requests.GetContent r) h = omega (arith, h)
request_within (requests.SetContent r) h = (omega (arith, h), content_within r.content (omega (arith, h)))
request_within (requests.GetAcl r) h = omega (arith, h)
request_within (requests.SetAcl r) h = omega (arith, h)
request_within (requests.GetChildren r) h = omega (arith, h)
request_within (requests.GetChildren2 r) h = omega (arith, h)
request_within (requests.Sync r) h = omega (arith, h)
request_within requests.Ping h = tt
request_within (requests.Multi list) h = each_int op_size HasShortOpParts op_within list (omega (arith, h))
request_within (requests.SetWatches r) h =
    (texts_within r.content_paths (omega (arith, h)), texts_within r.exist_paths (omega (arith, h)), texts_within r.child_paths (omega (arith, h)))
request_within (requests.Auth body) h = tt
request_within requests.Close h = tt
request_within (requests.Unknown kind body) h = tt

-- ---- the type in the header

abbrev IsSameKind : Request → Request → Type 0
IsSameKind r v = IsKind (number_of v) (kind_of v) × (number_of v ≡ number_of r)

form_kind : (k : EntryKeys) (ivs : List (List ℕ)) (r v : Request) → Veils k ivs r v → IsSameKind r v
unfolding Veils
form_kind k ivs (requests.Create r) (requests.Create v) x = (refl, refl)
form_kind k ivs (requests.Create r) other x = absurd x
form_kind k ivs (requests.Create2 r) (requests.Create2 v) x = (refl, refl)
form_kind k ivs (requests.Create2 r) other x = absurd x
form_kind k ivs (requests.Delete r) (requests.Delete v) x = (refl, refl)
form_kind k ivs (requests.Delete r) other x = absurd x
form_kind k ivs (requests.Exists r) (requests.Exists v) x = (refl, refl)
form_kind k ivs (requests.Exists r) other x = absurd x
form_kind k ivs (requests.GetContent r) (requests.GetContent v) x = (refl, refl)
form_kind k ivs (requests.GetContent r) other x = absurd x
form_kind k ivs (requests.SetContent r) (requests.SetContent v) x = (refl, refl)
form_kind k ivs (requests.SetContent r) other x = absurd x
form_kind k ivs (requests.GetAcl r) (requests.GetAcl v) x = (refl, refl)
form_kind k ivs (requests.GetAcl r) other x = absurd x
form_kind k ivs (requests.SetAcl r) (requests.SetAcl v) x = (refl, refl)
form_kind k ivs (requests.SetAcl r) other x = absurd x
form_kind k ivs (requests.GetChildren r) (requests.GetChildren v) x = (refl, refl)
form_kind k ivs (requests.GetChildren r) other x = absurd x
form_kind k ivs (requests.GetChildren2 r) (requests.GetChildren2 v) x = (refl, refl)
form_kind k ivs (requests.GetChildren2 r) other x = absurd x
form_kind k ivs (requests.Sync r) (requests.Sync v) x = (refl, refl)
form_kind k ivs (requests.Sync r) other x = absurd x
form_kind k ivs (requests.Multi r) (requests.Multi v) x = (refl, refl)
form_kind k ivs (requests.Multi r) other x = absurd x
form_kind k ivs (requests.SetWatches r) (requests.SetWatches v) x = (refl, refl)
form_kind k ivs (requests.SetWatches r) other x = absurd x
form_kind k ivs requests.Ping requests.Ping x = (refl, refl)
form_kind k ivs requests.Ping other x = absurd x
form_kind k ivs requests.Close requests.Close x = (refl, refl)
form_kind k ivs requests.Close other x = absurd x
form_kind k ivs (requests.Auth body) other x = absurd x
form_kind k ivs (requests.Unknown kind body) other x = absurd x

one_pos : (m n : ℕ) → pos m ≡ pos n → m ≡ n
one_pos m n e = cc

-- a refused request is no ping, whose xid may be -2
no_ping : (r : Request) (code : ℤ) → Refuses r (Some code) → IsKind (number_of r) (kind_of r) → number_of r ≡ pos 11 → ⊥
unfolding Refuses
no_ping requests.Ping code h known e = none-some code (sym h)
no_ping (requests.Unknown kind body) code h known e = known kinds.Ping e
no_ping (requests.Create r) code h known e = omega (arith, one_pos 1 11 e)
no_ping (requests.Create2 r) code h known e = omega (arith, one_pos 15 11 e)
no_ping (requests.Delete r) code h known e = omega (arith, one_pos 2 11 e)
no_ping (requests.Exists r) code h known e = omega (arith, one_pos 3 11 e)
no_ping (requests.GetContent r) code h known e = omega (arith, one_pos 4 11 e)
no_ping (requests.SetContent r) code h known e = omega (arith, one_pos 5 11 e)
no_ping (requests.GetAcl r) code h known e = omega (arith, one_pos 6 11 e)
no_ping (requests.SetAcl r) code h known e = omega (arith, one_pos 7 11 e)
no_ping (requests.GetChildren r) code h known e = omega (arith, one_pos 8 11 e)
no_ping (requests.GetChildren2 r) code h known e = omega (arith, one_pos 12 11 e)
no_ping (requests.Sync r) code h known e = omega (arith, one_pos 9 11 e)
no_ping (requests.Multi list) code h known e = omega (arith, one_pos 14 11 e)
no_ping (requests.SetWatches r) code h known e = omega (arith, one_pos 101 11 e)
no_ping (requests.Auth body) code h known e = omega (arith, one_pos 100 11 e)
no_ping requests.Close code h known e = none-some code (sym h)

stand_in_kind : IsKind (number_of stand_in) (kind_of stand_in)
stand_in_kind = refl

veil_known : (k : EntryKeys) (ivs : List (List ℕ)) (r v : Request) → Veil k ivs r v → IsKind (number_of v) (kind_of v)
unfolding Veil
veil_known k ivs r v (inl x) = subst (λ (q : Request). IsKind (number_of q) (kind_of q)) (sym x.2) stand_in_kind
veil_known k ivs r v (inr x) = (form_kind k ivs r v x.1).0

veil_may : (k : EntryKeys) (ivs : List (List ℕ)) (xid : ℤ) (r v : Request) (body : List ℕ) → SpellsRequest xid r body → Veil k ivs r v → MayHave xid (number_of v)
unfolding Veil
veil_may k ivs xid r v body h (inl x) =
    subst (λ (q : Request). MayHave xid (number_of q)) (sym x.2) (h.may.0, λ e. absurd (no_ping r x.0 x.1 h.numbered (h.may.1 e)))
veil_may k ivs xid r v body h (inr x) = subst (MayHave xid) (sym (form_kind k ivs r v x.1).1) h.may

-- ---- the laws

pub writable_when_veiled : IsWritableWhenVeiled
writable_when_veiled k ivs xid r v body all x short h =
    let within : request_size v ≤ 2 ^ 27 = omega (arith, short, body_size xid r body h, veil_grown k ivs r v all x) in
    record {
      known = veil_known k ivs r v x;
      may = veil_may k ivs xid r v body h x;
      short = request_int v within;
      short_parts = request_within v within;
    }

op_some : (op : Op) → 1 ≤ op_size op
op_some op = omega arith

few_operations : (xid : ℤ) (list : List Op) (body : List ℕ) → SpellsRequest xid (requests.Multi list) body → length list ≤ length body
few_operations xid list body h = omega (arith, body_size xid (requests.Multi list) body h, counted op_size op_some list)

zipped : {V W : Type 0} (R : V → W → Type 0) (xs : List V) (ys : List W) → AllZip R xs ys → length ys ≡ length xs
zipped {V} {W} R [] [] h = refl
zipped {V} {W} R [] (y ∷ ys) h = absurd h
zipped {V} {W} R (x ∷ xs) [] h = absurd h
zipped {V} {W} R (x ∷ xs) (y ∷ ys) h = ap suc (zipped R xs ys h.1)

path_within : (text : List ℕ) (path : List (List ℕ)) → IsTextOf text path → IsShort text → length (text_of path) ≤ 2 ^ 27
path_within text path h short = omega (arith, short, ap length h.spelled)

plain_asked : (xid : ℤ) (r : Request) (asked : Asked) (body : List ℕ) → length body ≤ 2 ^ 27 → SpellsRequest xid r body → HasShortParts r → AsksPlain r asked → HasShortPath asked
unfolding AsksPlain HasShortPath HasShortParts
plain_asked xid (requests.GetChildren r) (asks.Children path) body l h short x = path_within r.path path x short
plain_asked xid (requests.GetChildren2 r) (asks.Children2 path) body l h short x = path_within r.path path x short
plain_asked xid (requests.Multi list) (asks.Multi asked) body l h short x = omega (arith, l, few_operations xid list body h, zipped AsksOp list asked x)
plain_asked xid r (asks.Children path) body l h short x = absurd x
plain_asked xid r (asks.Children2 path) body l h short x = absurd x
plain_asked xid r (asks.Multi asked) body l h short x = absurd x
plain_asked xid r asked body l h short x = tt

refused_asked : (code : ℤ) → HasShortPath (asks.Refused code)
unfolding HasShortPath
refused_asked code = tt

short_asked : (xid : ℤ) (r : Request) (asked : Asked) (body : List ℕ) → length body ≤ 2 ^ 27 → SpellsRequest xid r body → Asks r asked → HasShortPath asked
unfolding Asks
short_asked xid r asked body l h (inl x) = subst HasShortPath (sym x.2) (refused_asked x.0)
short_asked xid r asked body l h (inr x) = plain_asked xid r asked body l h (short_when_read xid r body l h) x.1

pub short_when_asked : IsShortWhenAsked
short_when_asked = record { few = few_operations; short = short_asked }
