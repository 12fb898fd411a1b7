-- A body is one request with one xid, spelled in one way, or it is refused.
use Rattle.std.proofs.Common.{◌≡◌, ℕ, ℤ, List, ◌++◌, Option, Some, None, refl, sym, ap, subst, ◌∙◌, inl, inr, arith}
use Rattle.std.proofs.lemmas.Int.{ints}
use Rattle.jute_core.specs.declared.cursor.Reason.{Reason}
use Rattle.jute_core.proofs.OneSpelling.{one_spelling}
use Rattle.jute_core.proofs.ReadOrRefused.{read_or_refused}
use Rattle.zk_records.specs.Headers.{request_header}
use Rattle.zk_messages.specs.Forms.{FormValue, SpellsForm, RefusedForm, form_of_any}
use Rattle.zk_messages.specs.Kinds.{kind_number, kind_of}
use Rattle.zk_messages.specs.Laws.{IsOneRequest, HasOneSpelling, IsRequestOrRefused}
use Rattle.zk_messages.specs.Requests.{IsKind, number_of, fields_of, MayHave, IsBadBody}
use Rattle.zk_messages.specs.declared.kind.Kind.{Kind}
use Rattle.zk_messages.specs.declared.kind.Kind.TheVariants as kinds
use Rattle.zk_messages.specs.declared.request.Request.{Request}
use Rattle.zk_messages.specs.declared.request.Request.TheVariants as requests
use Rattle.zk_messages.proofs.OneForm.{form_one, form_same, form_read}
use Rattle.jute_core.proofs.SameSpelling.{same_bytes}
use Rattle.zk_messages.proofs.RecordsBack.{create_of, create_back, delete_of, path_watch_of, set_content_of, path_only_of, set_acl_of, set_acl_back, set_watches_of}

-- a number is of one type
kind_numbers : (k l : Kind) → kind_number k ≡ kind_number l → k ≡ l
kind_numbers kinds.Create kinds.Create e = refl
kind_numbers kinds.Delete kinds.Delete e = refl
kind_numbers kinds.Exists kinds.Exists e = refl
kind_numbers kinds.GetContent kinds.GetContent e = refl
kind_numbers kinds.SetContent kinds.SetContent e = refl
kind_numbers kinds.GetAcl kinds.GetAcl e = refl
kind_numbers kinds.SetAcl kinds.SetAcl e = refl
kind_numbers kinds.GetChildren kinds.GetChildren e = refl
kind_numbers kinds.Sync kinds.Sync e = refl
kind_numbers kinds.Ping kinds.Ping e = refl
kind_numbers kinds.GetChildren2 kinds.GetChildren2 e = refl
kind_numbers kinds.Multi kinds.Multi e = refl
kind_numbers kinds.Create2 kinds.Create2 e = refl
kind_numbers kinds.Auth kinds.Auth e = refl
kind_numbers kinds.SetWatches kinds.SetWatches e = refl
kind_numbers kinds.Close kinds.Close e = refl
kind_numbers k l e = absurd (omega (arith, ints, e))

pub one_kind : (m n : ℤ) (k l : Option Kind) → m ≡ n → IsKind m k → IsKind n l → k ≡ l
one_kind m n None None e p q = refl
one_kind m n None (Some l) e p q = absurd (p l (e ∙ q))
one_kind m n (Some k) None e p q = absurd (q k (sym e ∙ p))
one_kind m n (Some k) (Some l) e p q = ap (λ u. Some u) (kind_numbers k l (sym p ∙ e ∙ q))

-- a request, from its type, its number and what follows its header
request_of : (k : Option Kind) → ℤ → FormValue (form_of_any k) → Request
request_of None n v = requests.Unknown n v
request_of (Some kinds.Create) n v = requests.Create (create_of v)
request_of (Some kinds.Delete) n v = requests.Delete (delete_of v)
request_of (Some kinds.Exists) n v = requests.Exists (path_watch_of v)
request_of (Some kinds.GetContent) n v = requests.GetContent (path_watch_of v)
request_of (Some kinds.SetContent) n v = requests.SetContent (set_content_of v)
request_of (Some kinds.GetAcl) n v = requests.GetAcl (path_only_of v)
request_of (Some kinds.SetAcl) n v = requests.SetAcl (set_acl_of v)
request_of (Some kinds.GetChildren) n v = requests.GetChildren (path_watch_of v)
request_of (Some kinds.Sync) n v = requests.Sync (path_only_of v)
request_of (Some kinds.Ping) n v = requests.Ping
request_of (Some kinds.GetChildren2) n v = requests.GetChildren2 (path_watch_of v)
request_of (Some kinds.Multi) n v = requests.Multi v
request_of (Some kinds.Create2) n v = requests.Create2 (create_of v)
request_of (Some kinds.Auth) n v = requests.Auth v
request_of (Some kinds.SetWatches) n v = requests.SetWatches (set_watches_of v)
request_of (Some kinds.Close) n v = requests.Close

request_back : (r : Request) → request_of (kind_of r) (number_of r) (fields_of r) ≡ r
unfolding request_of
request_back (requests.Create r) = ap (λ x. requests.Create x) (create_back r)
request_back (requests.Create2 r) = ap (λ x. requests.Create2 x) (create_back r)
request_back (requests.SetAcl r) = ap (λ x. requests.SetAcl x) (set_acl_back r)
request_back r = refl

-- what follows equal headers
same_request : (k l : Option Kind) (m n : ℤ) (v : FormValue (form_of_any k)) (w : FormValue (form_of_any l)) (b : List ℕ) → k ≡ l → m ≡ n → SpellsForm (form_of_any k) v b → SpellsForm (form_of_any l) w b → request_of k m v ≡ request_of l n w
same_request k l m n v w b e f p q =
    subst (λ (o : Option Kind). (u : FormValue (form_of_any o)) → SpellsForm (form_of_any o) u b → request_of k m v ≡ request_of o n u) e
    (λ u h. ap (λ (z : ℤ). request_of k z v) f ∙ ap (request_of k n) (form_one (form_of_any k) v u b p h)) w q

pub one_request : (body : List ℕ) → IsOneRequest body
one_request body x y r s p q =
    let h = one_spelling request_header (x, number_of r) (y, number_of s) p.header q.header p.rest q.rest p.head q.head (sym p.cut ∙ q.cut) in
    let number : number_of r ≡ number_of s = ap (λ v. v.1) h.0 in
    let kind : kind_of r ≡ kind_of s = one_kind (number_of r) (number_of s) (kind_of r) (kind_of s) number p.numbered q.numbered in
    let tail = subst (λ (l : List ℕ). SpellsForm (form_of_any (kind_of s)) (fields_of s) l) (sym h.2) q.tail in
    (ap (λ v. v.0) h.0, sym (request_back r) ∙ same_request (kind_of r) (kind_of s) (number_of r) (number_of s) (fields_of r) (fields_of s) p.rest kind number p.tail tail ∙ request_back s)

pub one_request_spelling : (xid : ℤ) (r : Request) → HasOneSpelling xid r
one_request_spelling xid r a b p q =
    let front = same_bytes request_header (xid, number_of r) p.header q.header p.head q.head in
    let rest = form_same (form_of_any (kind_of r)) (fields_of r) p.rest q.rest p.tail q.tail in
    p.cut ∙ ap (λ (l : List ℕ). l ++ p.rest) front ∙ ap (λ (l : List ℕ). q.header ++ l) rest ∙ sym q.cut

-- with the same header
not_bad : (x y m n : ℤ) (k : Option Kind) (v : FormValue (form_of_any k)) (b c : List ℕ) (place : ℕ) (reason : Reason) → x ≡ y → m ≡ n → b ≡ c → IsKind m k → MayHave x m → SpellsForm (form_of_any k) v b → IsBadBody y n c place reason → ⊥
not_bad x y m n k v b c place reason e f g kind may p h = elim h [
  | inl xid ↦ xid.0 (subst (λ (i : ℤ). MayHave i n) e (subst (λ (i : ℤ). MayHave x i) f may))
  | inr body ↦
      let same : body.1 ≡ k = one_kind n m body.1 k (sym f) body.2 kind in
      let bad = subst (λ (o : Option Kind). RefusedForm (form_of_any o) 8 c place reason) same body.3 in
      form_read (form_of_any k) v 8 c place reason (subst (λ (l : List ℕ). SpellsForm (form_of_any k) v l) g p) bad
]

pub request_or_refused : (body : List ℕ) → IsRequestOrRefused body
request_or_refused body xid r place reason p h = elim h [
  | inl first ↦ read_or_refused request_header (xid, number_of r) 0 p.header body p.rest place reason p.head p.cut first
  | inr bad ↦
      let u = one_spelling request_header (xid, number_of r) (bad.xid, bad.kind) p.header bad.header p.rest bad.rest p.head bad.head (sym p.cut ∙ bad.cut) in
      not_bad xid bad.xid (number_of r) bad.kind (kind_of r) (fields_of r) p.rest bad.rest place reason (ap (λ v. v.0) u.0) (ap (λ v. v.1) u.0) u.2 p.numbered p.may p.tail bad.bad
]
