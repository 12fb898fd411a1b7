-- Whether bytes are the operations of a multi can be decided.
use Rattle.std.proofs.Common.{◌≡◌, ◌<◌, ◌+◌, ◌⊎◌, ℕ, ℤ, negsuc, Bool, true, false, List, [], ◌∷◌, length, Some, None, inl, inr, refl, sym, ap, subst, arith, length-append}
use Rattle.std.specs.Prelude.{map}
use Rattle.std.specs.Cmp.{signed_Decides}
use Rattle.zk_path.proofs.Stable.{dec_of}
use Rattle.path_seal.proofs.Decided.{dec_both, dec_either, dec_below}
use Rattle.jute_core.specs.Jute.{Jute, Value, Each, Spells, pair}
use Rattle.jute_core.proofs.OneSpelling.{one_spelling}
use Rattle.zk_records.specs.Acls.{acl, acl_fields, acls, acls_fields}
use Rattle.zk_records.specs.Requests.{create_request, create_fields, set_acl_request, set_acl_fields}
use Rattle.zk_records.specs.declared.acl.Acl.{Acl}
use Rattle.zk_messages.specs.Kinds.{op_number, op_kind_of}
use Rattle.zk_messages.specs.Multi.{multi_header, IsHeader, IsEnd, op_record, op_fields, SpellsOp, SpellsOps}
use Rattle.zk_messages.specs.declared.kind.OpKind.{OpKind}
use Rattle.zk_messages.specs.declared.kind.OpKind.TheVariants as op_kinds
use Rattle.zk_messages.specs.declared.request.Op.{Op}
use Rattle.zk_messages.specs.declared.request.Op.TheVariants as ops
use Rattle.zk_messages.proofs.RecordsBack.{acls_of, create_of, delete_of, check_of, set_content_of, set_acl_of}
use Rattle.zk_messages.proofs.Sizes.{spelled_size}
use Rattle.world_core.proofs.Deciding.{dec_from, Parts, dec_parts, Values, dec_values}
use Rattle.world_core.proofs.JuteDecided.{dec_spells}

-- ---- headers

pub dec_int : (x y : ℤ) → Dec (x ≡ y)
dec_int x y = dec_of _ (signed_Decides x y)

triples : {A B C : Type 0} (a c : A) (b d : B) (e f : C) → a ≡ c → b ≡ d → e ≡ f → Path (A × (B × C)) (a, (b, e)) (c, (d, f))
triples a c b d e f h k l = cc

dec_bool : (a b : Bool) → Dec (a ≡ b)
dec_bool true true = yes refl
dec_bool false false = yes refl
dec_bool true false = no (λ e. cc)
dec_bool false true = no (λ e. cc)

-- the value that bytes spell is this one
dec_value : (t : Jute) (v : Value t) (b : List ℕ) → ((w : Value t) → Dec (w ≡ v)) → Dec ((w : Value t) × Spells t w b) → Dec (Spells t v b)
dec_value t v b same (no f) = no (λ h. f (v, h))
dec_value t v b same (yes h) = by_same (same h.0)
  where
    by_same : Dec (h.0 ≡ v) → Dec (Spells t v b)
    by_same (yes e) = yes (subst (λ (w : Value t). Spells t w b) e h.1)
    by_same (no f) = no (λ p. f (one_spelling t h.0 v b b [] [] h.1 p refl).0)

dec_header : (kind : ℤ) (done : Bool) (err : ℤ) (b : List ℕ) → Dec (IsHeader kind done err b)
dec_header kind done err b =
    dec_value multi_header (kind, (done, err)) b
    (λ w. dec_from (λ h. triples _ _ _ _ _ _ h.0 h.1.0 h.1.1) (λ e. (ap (λ v. v.0) e, (ap (λ v. v.1.0) e, ap (λ v. v.1.1) e)))
    (dec_both (dec_int w.0 kind) (dec_both (dec_bool w.1.0 done) (dec_int w.1.1 err))))
    (dec_spells multi_header b)

-- ---- operations

acl_from : Value acl → Acl
acl_from v = record { perms = v.0; scheme = v.1.0; id = v.1.1 }

each_acl : (list : List (Value acl)) → map acl_fields (map acl_from list) ≡ list
unfolding acl_from
each_acl [] = refl
each_acl (v ∷ more) = ap (λ (l : List (Value acl)). v ∷ l) (each_acl more)

acls_forth : (list : Value acls) → acls_fields (acls_of list) ≡ list
unfolding acl_from
acls_forth None = refl
acls_forth (Some list) = ap Some (each_acl list)

-- what spells the fields of a record spells the record
pub spells_create : (v : Value create_request) (b : List ℕ) → Spells create_request v b → Spells create_request (create_fields (create_of v)) b
spells_create v b h = subst (λ (l : Value acls). Spells create_request (v.0, (v.1.0, (l, v.1.1.1))) b) (sym (acls_forth v.1.1.0)) h

pub spells_set_acl : (v : Value set_acl_request) (b : List ℕ) → Spells set_acl_request v b → Spells set_acl_request (set_acl_fields (set_acl_of v)) b
spells_set_acl v b h = subst (λ (l : Value acls). Spells set_acl_request (v.0, (l, v.1.1)) b) (sym (acls_forth v.1.0)) h

-- a header of this type, and its record
abbrev OfType : OpKind → List ℕ → List ℕ → Type 0
OfType k x y = IsHeader (op_number k) false (negsuc 0) x × ((v : Value (op_record k)) × Spells (op_record k) v y)

op_with : (k : OpKind) (b : List ℕ) → Parts (OfType k) b → (op : Op) × SpellsOp op b
unfolding SpellsOp Spells
op_with op_kinds.Create b h = (ops.Create (create_of h.held.1.0), (h.front, h.back, h.held.0, spells_create h.held.1.0 h.back h.held.1.1, h.cut))
op_with op_kinds.Delete b h = (ops.Delete (delete_of h.held.1.0), (h.front, h.back, h.held.0, h.held.1.1, h.cut))
op_with op_kinds.SetContent b h = (ops.SetContent (set_content_of h.held.1.0), (h.front, h.back, h.held.0, h.held.1.1, h.cut))
op_with op_kinds.Check b h = (ops.Check (check_of h.held.1.0), (h.front, h.back, h.held.0, h.held.1.1, h.cut))
op_with op_kinds.Create2 b h = (ops.Create2 (create_of h.held.1.0), (h.front, h.back, h.held.0, spells_create h.held.1.0 h.back h.held.1.1, h.cut))

parts_of_op : (op : Op) (b : List ℕ) → SpellsOp op b → Parts (OfType (op_kind_of op)) b
unfolding SpellsOp Spells
parts_of_op op b h = record { front = h.0; back = h.1; held = (h.2, (op_fields op, h.3)); cut = h.4 }

-- of one of the five types
abbrev OneOfTypes : (OpKind → Type 0) → Type 0
OneOfTypes P = P op_kinds.Create ⊎ (P op_kinds.Delete ⊎ (P op_kinds.SetContent ⊎ (P op_kinds.Check ⊎ P op_kinds.Create2)))

dec_types : (P : OpKind → Type 0) → ((k : OpKind) → Dec (P k)) → Dec (OneOfTypes P)
dec_types P d =
    dec_either (d op_kinds.Create) (dec_either (d op_kinds.Delete)
    (dec_either (d op_kinds.SetContent) (dec_either (d op_kinds.Check) (d op_kinds.Create2))))

to_type : (P : OpKind → Type 0) → OneOfTypes P → (k : OpKind) × P k
to_type P (inl h) = (op_kinds.Create, h)
to_type P (inr (inl h)) = (op_kinds.Delete, h)
to_type P (inr (inr (inl h))) = (op_kinds.SetContent, h)
to_type P (inr (inr (inr (inl h)))) = (op_kinds.Check, h)
to_type P (inr (inr (inr (inr h)))) = (op_kinds.Create2, h)

from_type : (P : OpKind → Type 0) (k : OpKind) → P k → OneOfTypes P
from_type P op_kinds.Create h = inl h
from_type P op_kinds.Delete h = inr (inl h)
from_type P op_kinds.SetContent h = inr (inr (inl h))
from_type P op_kinds.Check h = inr (inr (inr (inl h)))
from_type P op_kinds.Create2 h = inr (inr (inr (inr h)))

dec_of_type : (k : OpKind) (b : List ℕ) → Dec (Parts (OfType k) b)
dec_of_type k b = dec_parts (OfType k) (λ x y. dec_both (dec_header (op_number k) false (negsuc 0) x) (dec_spells (op_record k) y)) b

dec_op : (b : List ℕ) → Dec ((op : Op) × SpellsOp op b)
dec_op b =
    dec_from (λ h. let k = to_type (λ k. Parts (OfType k) b) h in op_with k.0 b k.1)
    (λ h. from_type (λ k. Parts (OfType k) b) (op_kind_of h.0) (parts_of_op h.0 b h.1))
    (dec_types (λ k. Parts (OfType k) b) (λ k. dec_of_type k b))

op_filled : (op : Op) (b : List ℕ) → SpellsOp op b → 0 < length b
unfolding SpellsOp
op_filled op b h = let size = spelled_size (pair multi_header (op_record (op_kind_of op))) _ b h in omega (arith, size)

within : (list : List Op) (b : List ℕ) → Each SpellsOp list b → length list < length b + 1
within [] b h = omega arith
within (op ∷ list) b h = omega (arith, ap length h.4, length-append h.0 h.1, op_filled op h.0 h.2, within list h.1 h.3)

-- some operations, and the end
abbrev SomeOps : List ℕ → List ℕ → Type 0
SomeOps x y = ((n : ℕ) × (n < length x + 1) × Values SpellsOp n x) × IsEnd y

some_ops : (list : List Op) (x y : List ℕ) → Each SpellsOp list x → IsEnd y → SomeOps x y
some_ops list x y h e = ((length list, within list x h, record { list = list; counted = refl; each = h }), e)

dec_some_ops : (x y : List ℕ) → Dec (SomeOps x y)
dec_some_ops x y =
    dec_both (dec_below (λ n. Values SpellsOp n x) (λ n. dec_values SpellsOp dec_op n x) (length x + 1)) (dec_header (negsuc 0) true (negsuc 0) y)

pub dec_ops : (b : List ℕ) → Dec ((list : List Op) × SpellsOps list b)
dec_ops b =
    dec_from (λ h. (h.held.0.2.list, record { items = h.front; last = h.back; each = h.held.0.2.each; ended = h.held.1; cut = h.cut }))
    (λ h. record { front = h.1.items; back = h.1.last; held = some_ops h.0 h.1.items h.1.last h.1.each h.1.ended; cut = h.1.cut })
    (dec_parts SomeOps dec_some_ops b)
