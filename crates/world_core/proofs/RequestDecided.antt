-- Whether a body is a request, or a connect request, can be decided.
use Rattle.std.proofs.Common.{◌≡◌, ◌<◌, ◌⊎◌, ℕ, ℤ, pos, negsuc, Bool, true, false, List, [], ◌∷◌, Option, Some, None, inl, inr, refl, sym, ap, subst, ◌∙◌, arith, get_or}
use Rattle.path_seal.proofs.Decided.{dec_both, dec_either, dec_not, dec_below}
use Rattle.jute_core.specs.Jute.{Value, Spells}
use Rattle.jute_core.proofs.OneSpelling.{one_spelling}
use Rattle.zk_records.specs.Connect.{older_request, newer_request, request_form, request_fields}
use Rattle.zk_records.specs.Headers.{request_header}
use Rattle.zk_records.specs.PathWatches.{path_watch}
use Rattle.zk_records.specs.Requests.{create_request, delete_request, set_content_request, path_only, set_acl_request, set_watches}
use Rattle.zk_records.specs.declared.connect.ConnectRequest.{ConnectRequest}
use Rattle.zk_messages.specs.Forms.{FormValue, SpellsForm, form_of_any}
use Rattle.zk_messages.specs.Items.{IsItem}
use Rattle.zk_messages.specs.Kinds.{kind_number, kind_of}
use Rattle.zk_messages.specs.Requests.{IsKind, MayHave, number_of, fields_of}
use Rattle.zk_messages.specs.declared.kind.Kind.{Kind}
use Rattle.zk_messages.specs.declared.kind.Kind.TheVariants as kinds
use Rattle.zk_messages.specs.declared.request.Item.{Item}
use Rattle.zk_messages.specs.declared.request.Item.TheVariants.{Asks, Requests}
use Rattle.zk_messages.specs.declared.request.Request.{Request}
use Rattle.zk_messages.specs.declared.request.Request.TheVariants as requests
use Rattle.zk_messages.proofs.OneRequest.{one_kind}
use Rattle.zk_messages.proofs.RecordsBack.{create_of, delete_of, set_content_of, path_only_of, path_watch_of, set_acl_of, set_watches_of}
use Rattle.world_core.proofs.Deciding.{dec_from, dec_same, Parts, dec_parts}
use Rattle.world_core.proofs.JuteDecided.{dec_spells}
use Rattle.world_core.proofs.OpsDecided.{dec_int, spells_create, spells_set_acl, dec_ops}

-- ---- the types

all_kinds : List Kind
all_kinds =
    kinds.Create ∷ kinds.Delete ∷ kinds.Exists ∷ kinds.GetContent ∷ kinds.SetContent ∷ kinds.GetAcl ∷ kinds.SetAcl ∷ kinds.GetChildren
    ∷ kinds.Sync ∷ kinds.Ping ∷ kinds.GetChildren2 ∷ kinds.Multi ∷ kinds.Create2 ∷ kinds.Auth ∷ kinds.SetWatches ∷ kinds.Close ∷ []

kind_at : ℕ → Kind
kind_at i = get_or all_kinds i kinds.Create

place_of : (k : Kind) → (i : ℕ) × (i < 16) × (kind_at i ≡ k)
unfolding kind_at all_kinds
place_of kinds.Create = (0, omega arith, refl)
place_of kinds.Delete = (1, omega arith, refl)
place_of kinds.Exists = (2, omega arith, refl)
place_of kinds.GetContent = (3, omega arith, refl)
place_of kinds.SetContent = (4, omega arith, refl)
place_of kinds.GetAcl = (5, omega arith, refl)
place_of kinds.SetAcl = (6, omega arith, refl)
place_of kinds.GetChildren = (7, omega arith, refl)
place_of kinds.Sync = (8, omega arith, refl)
place_of kinds.Ping = (9, omega arith, refl)
place_of kinds.GetChildren2 = (10, omega arith, refl)
place_of kinds.Multi = (11, omega arith, refl)
place_of kinds.Create2 = (12, omega arith, refl)
place_of kinds.Auth = (13, omega arith, refl)
place_of kinds.SetWatches = (14, omega arith, refl)
place_of kinds.Close = (15, omega arith, refl)

dec_kind : (number : ℤ) → Dec ((k : Kind) × (number ≡ kind_number k))
dec_kind number =
    dec_from (λ h. (kind_at h.0, h.2)) (λ h. let p = place_of h.0 in (p.0, p.1, h.1 ∙ ap kind_number (sym p.2)))
    (dec_below (λ i. number ≡ kind_number (kind_at i)) (λ i. dec_int number (kind_number (kind_at i))) 16)

-- each number is of a type, or unknown
kind_with : (number : ℤ) → (k : Option Kind) × IsKind number k
kind_with number = by_kind (dec_kind number)
  where
    by_kind : Dec ((k : Kind) × (number ≡ kind_number k)) → (k : Option Kind) × IsKind number k
    by_kind (yes h) = (Some h.0, h.1)
    by_kind (no f) = (None, λ k e. f (k, e))

-- ---- requests

dec_form : (k : Option Kind) (b : List ℕ) → Dec ((v : FormValue (form_of_any k)) × SpellsForm (form_of_any k) v b)
unfolding SpellsForm
dec_form None b = yes (b, refl)
dec_form (Some kinds.Create) b = dec_spells create_request b
dec_form (Some kinds.Delete) b = dec_spells delete_request b
dec_form (Some kinds.Exists) b = dec_spells path_watch b
dec_form (Some kinds.GetContent) b = dec_spells path_watch b
dec_form (Some kinds.SetContent) b = dec_spells set_content_request b
dec_form (Some kinds.GetAcl) b = dec_spells path_only b
dec_form (Some kinds.SetAcl) b = dec_spells set_acl_request b
dec_form (Some kinds.GetChildren) b = dec_spells path_watch b
dec_form (Some kinds.Sync) b = dec_spells path_only b
dec_form (Some kinds.Ping) b = dec_from (λ e. (tt, e)) (λ h. h.1) (dec_same b [])
dec_form (Some kinds.GetChildren2) b = dec_spells path_watch b
dec_form (Some kinds.Multi) b = dec_ops b
dec_form (Some kinds.Create2) b = dec_spells create_request b
dec_form (Some kinds.Auth) b = yes (b, refl)
dec_form (Some kinds.SetWatches) b = dec_spells set_watches b
dec_form (Some kinds.Close) b = dec_from (λ e. (tt, e)) (λ h. h.1) (dec_same b [])

-- a request of a type with this number, which these bytes behind the header are
record Behind (number : ℤ) (b : List ℕ) : Type 0 where
  request : Request
  numbered : IsKind (number_of request) (kind_of request)
  same : number_of request ≡ number
  tail : SpellsForm (form_of_any (kind_of request)) (fields_of request) b

request_with : (k : Option Kind) (number : ℤ) (v : FormValue (form_of_any k)) (b : List ℕ) → IsKind number k → SpellsForm (form_of_any k) v b → Behind number b
unfolding SpellsForm
request_with None n v b is h = record { request = requests.Unknown n v; numbered = is; same = refl; tail = h }
request_with (Some kinds.Create) n v b is h = record { request = requests.Create (create_of v); numbered = refl; same = sym is; tail = spells_create v b h }
request_with (Some kinds.Delete) n v b is h = record { request = requests.Delete (delete_of v); numbered = refl; same = sym is; tail = h }
request_with (Some kinds.Exists) n v b is h = record { request = requests.Exists (path_watch_of v); numbered = refl; same = sym is; tail = h }
request_with (Some kinds.GetContent) n v b is h = record { request = requests.GetContent (path_watch_of v); numbered = refl; same = sym is; tail = h }
request_with (Some kinds.SetContent) n v b is h = record { request = requests.SetContent (set_content_of v); numbered = refl; same = sym is; tail = h }
request_with (Some kinds.GetAcl) n v b is h = record { request = requests.GetAcl (path_only_of v); numbered = refl; same = sym is; tail = h }
request_with (Some kinds.SetAcl) n v b is h = record { request = requests.SetAcl (set_acl_of v); numbered = refl; same = sym is; tail = spells_set_acl v b h }
request_with (Some kinds.GetChildren) n v b is h = record { request = requests.GetChildren (path_watch_of v); numbered = refl; same = sym is; tail = h }
request_with (Some kinds.Sync) n v b is h = record { request = requests.Sync (path_only_of v); numbered = refl; same = sym is; tail = h }
request_with (Some kinds.Ping) n v b is h = record { request = requests.Ping; numbered = refl; same = sym is; tail = h }
request_with (Some kinds.GetChildren2) n v b is h = record { request = requests.GetChildren2 (path_watch_of v); numbered = refl; same = sym is; tail = h }
request_with (Some kinds.Multi) n v b is h = record { request = requests.Multi v; numbered = refl; same = sym is; tail = h }
request_with (Some kinds.Create2) n v b is h = record { request = requests.Create2 (create_of v); numbered = refl; same = sym is; tail = spells_create v b h }
request_with (Some kinds.Auth) n v b is h = record { request = requests.Auth v; numbered = refl; same = sym is; tail = h }
request_with (Some kinds.SetWatches) n v b is h = record { request = requests.SetWatches (set_watches_of v); numbered = refl; same = sym is; tail = h }
request_with (Some kinds.Close) n v b is h = record { request = requests.Close; numbered = refl; same = sym is; tail = h }

dec_behind : (number : ℤ) (b : List ℕ) → Dec (Behind number b)
dec_behind number b = of (kind_with number)
  where
    of : (k : Option Kind) × IsKind number k → Dec (Behind number b)
    of k =
        dec_from (λ h. request_with k.0 number h.0 b k.1 h.1)
        (λ h.
        let same = one_kind _ number (kind_of h.request) k.0 h.same h.numbered k.1 in
        subst (λ (o : Option Kind). (v : FormValue (form_of_any o)) × SpellsForm (form_of_any o) v b) same (fields_of h.request, h.tail))
        (dec_form k.0 b)

dec_may : (xid kind : ℤ) → Dec (MayHave xid kind)
dec_may xid kind = dec_both (dec_not (dec_int xid (negsuc 0))) (either (dec_int xid (negsuc 1)) (dec_int kind (pos 11)))
  where
    either : Dec (xid ≡ negsuc 1) → Dec (kind ≡ pos 11) → Dec (xid ≡ negsuc 1 → kind ≡ pos 11)
    either (no f) d = yes (λ e. absurd (f e))
    either (yes e) (yes h) = yes (λ k. h)
    either (yes e) (no f) = no (λ h. f (h e))

-- what a header says, and what follows it
abbrev Says : Value request_header → List ℕ → Type 0
Says h y = MayHave h.0 h.1 × Behind h.1 y

abbrev Headed : List ℕ → List ℕ → Type 0
Headed x y = (h : Value request_header) × (Spells request_header h x × Says h y)

dec_headed : (x y : List ℕ) → Dec (Headed x y)
dec_headed x y = by_header (dec_spells request_header x)
  where
    by_header : Dec ((h : Value request_header) × Spells request_header h x) → Dec (Headed x y)
    by_header (no f) = no (λ h. f (h.0, h.1.0))
    by_header (yes h) =
        dec_from (λ s. (h.0, (h.1, s)))
        (λ g. subst (λ (v : Value request_header). Says v y) (one_spelling request_header g.0 h.0 x x [] [] g.1.0 h.1 refl).0 g.1.1)
        (dec_both (dec_may h.0.0 h.0.1) (dec_behind h.0.1 y))

request_of : (body : List ℕ) → Parts Headed body → (item : Item) × IsItem false item body
request_of body h =
    let b = h.held.1.1.1 in
    let xid = h.held.0.0 in (
      Requests xid b.request,
      record {
        numbered = b.numbered;
        may = subst (λ (n : ℤ). MayHave xid n) (sym b.same) h.held.1.1.0;
        header = h.front;
        rest = h.back;
        head = subst (λ (n : ℤ). Spells request_header (xid, n) h.front) (sym b.same) h.held.1.0;
        tail = b.tail;
        cut = h.cut;
      },
    )

parts_of_request : (body : List ℕ) (item : Item) → IsItem false item body → Parts Headed body
parts_of_request body (Asks asked) h = absurd h
parts_of_request body (Requests xid r) h = record {
  front = h.header;
  back = h.rest;
  held = ((xid, number_of r), (h.head, (h.may, record { request = r; numbered = h.numbered; same = refl; tail = h.tail })));
  cut = h.cut;
}

-- ---- connect requests

abbrev InSomeForm : List ℕ → Type 0
InSomeForm body = ((v : Value older_request) × Spells older_request v body) ⊎ ((v : Value newer_request) × Spells newer_request v body)

connect_of : (body : List ℕ) → InSomeForm body → (item : Item) × IsItem true item body
connect_of body (inl (v, h)) =
    (Asks (record { protocol = v.0; seen = v.1.0; timeout = v.1.1.0; session = v.1.1.1.0; password = v.1.1.1.1; read_only = None }), h)
connect_of body (inr (v, h)) =
    (Asks (record { protocol = v.0.0; seen = v.0.1.0; timeout = v.0.1.1.0; session = v.0.1.1.1.0; password = v.0.1.1.1.1; read_only = Some v.1 }), h)

form_of_connect : (body : List ℕ) (r : ConnectRequest) (o : Option Bool) → Spells (request_form o) (request_fields o r) body → InSomeForm body
form_of_connect body r None h = inl (_, h)
form_of_connect body r (Some read_only) h = inr (_, h)

of_connect : (body : List ℕ) (item : Item) → IsItem true item body → InSomeForm body
of_connect body (Requests xid r) h = absurd h
of_connect body (Asks asked) h = form_of_connect body asked asked.read_only h

pub dec_item : (first : Bool) (body : List ℕ) → Dec ((item : Item) × IsItem first item body)
dec_item true body = dec_from (connect_of body) (λ h. of_connect body h.0 h.1) (dec_either (dec_spells older_request body) (dec_spells newer_request body))
dec_item false body = dec_from (request_of body) (λ h. parts_of_request body h.0 h.1) (dec_parts Headed dec_headed body)
