-- A frame of a client is one item, or refused in one way; and a request asks one thing.
use Rattle.std.proofs.Common.{◌≡◌, ℕ, ℤ, Bool, true, false, List, [], ◌∷◌, Some, None, inl, inr, refl, sym, ap, ◌∙◌, IsTrue, ◌↔◌}
use Rattle.std.proofs.lemmas.Bool.{false≢true}
use Rattle.std.proofs.lemmas.Option.{none-some}
use Rattle.std.specs.List.{AllZip}
use Rattle.jute_core.specs.declared.cursor.Refusal.{Refusal}
use Rattle.jute_core.proofs.SameSpelling.{same_bytes}
use Rattle.zk_path.specs.Paths.{IsTextOf, IsNamed}
use Rattle.zk_path.proofs.Judged.{one_text, one_stem_text}
use Rattle.zk_records.proofs.OneConnect.{one_request as one_connect, request_or_refused as connect_or_refused, one_connect_refusal}
use Rattle.zk_records.specs.Connect.{request_form, request_fields}
use Rattle.zk_messages.specs.Items.{IsItem}
use Rattle.zk_messages.specs.declared.request.Item.{Item}
use Rattle.zk_messages.specs.declared.request.Item.TheVariants as items
use Rattle.zk_messages.specs.declared.request.Op.{Op}
use Rattle.zk_messages.specs.declared.request.Op.TheVariants as ops
use Rattle.zk_messages.specs.declared.request.Request.{Request}
use Rattle.zk_messages.specs.declared.request.Request.TheVariants as requests
use Rattle.zk_messages.proofs.FirstRules.{one_outcome}
use Rattle.zk_messages.proofs.OneRequest.{one_request, one_request_spelling, request_or_refused}
use Rattle.zk_messages.proofs.OnePlace.{one_request_refusal}
use Rattle.request_queue.specs.declared.asked.Asked.{Asked}
use Rattle.request_queue.specs.declared.asked.Asked.TheVariants as asks
use Rattle.request_queue.specs.declared.asked.AskedOp.{AskedOp}
use Rattle.request_queue.specs.declared.asked.AskedOp.TheVariants as op_asks
use Rattle.request_rewrite.specs.Asks.{AsksOp, AsksPlain, Asks}
use Rattle.request_rewrite.specs.Names.{IsNameOf}
use Rattle.entry_session.specs.ClientTurns.{RefusedItem}

-- ---- items

pub one_item : (first : Bool) (a b : Item) (body : List ℕ) → IsItem first a body → IsItem first b body → a ≡ b
one_item true (items.Asks r) (items.Asks s) body p q = ap items.Asks (one_connect body r s p q)
one_item true (items.Asks r) (items.Requests y s) body p q = absurd q
one_item true (items.Requests x r) b body p q = absurd p
one_item false (items.Asks r) b body p q = absurd p
one_item false (items.Requests x r) (items.Asks s) body p q = absurd q
one_item false (items.Requests x r) (items.Requests y s) body p q = let e = one_request body x y r s p q in (λ i. items.Requests (e.0 i) (e.1 i))

-- an item has one body
pub one_body : (first : Bool) (a : Item) (x y : List ℕ) → IsItem first a x → IsItem first a y → x ≡ y
one_body true (items.Asks r) x y p q = same_bytes (request_form r.read_only) (request_fields r.read_only r) x y p q
one_body true (items.Requests z r) x y p q = absurd p
one_body false (items.Asks r) x y p q = absurd p
one_body false (items.Requests z r) x y p q = one_request_spelling z r x y p q

pub item_or_refused : (first : Bool) (a : Item) (body : List ℕ) (refusal : Refusal) → IsItem first a body → RefusedItem first body refusal → ⊥
unfolding RefusedItem
item_or_refused true (items.Asks r) body refusal p f = connect_or_refused body r refusal.place refusal.reason p f
item_or_refused true (items.Requests z r) body refusal p f = p
item_or_refused false (items.Asks r) body refusal p f = p
item_or_refused false (items.Requests z r) body refusal p f = request_or_refused body z r refusal.place refusal.reason p f

-- a refusal is its place and its reason
pub same_refusal : (r s : Refusal) → (r.place ≡ s.place) × (r.reason ≡ s.reason) → r ≡ s
same_refusal r s (e, f) = (λ i. record { place = e i; reason = f i })

pub one_item_refusal : (first : Bool) (body : List ℕ) (r s : Refusal) → RefusedItem first body r → RefusedItem first body s → r ≡ s
unfolding RefusedItem
one_item_refusal true body r s f g = same_refusal r s (one_connect_refusal body r.place s.place r.reason s.reason f g)
one_item_refusal false body r s f g = same_refusal r s (one_request_refusal body r.place s.place r.reason s.reason f g)

-- ---- what a request asks

same_path : (text : List ℕ) (p q : List (List ℕ)) → IsTextOf text p → IsTextOf text q → p ≡ q
same_path text p q x y = one_text p q x.legal y.legal (sym x.spelled ∙ y.spelled)

same_named : (text : List ℕ) (s t : Bool) (p q : List (List ℕ)) → (IsTrue s ↔ IsTrue t) → IsNamed s text p → IsNamed t text q → (s ≡ t) × (p ≡ q)
unfolding IsNamed
same_named text true true p q same x y = (refl, one_stem_text p q x.0 y.0 (sym x.1 ∙ y.1))
same_named text true false p q same x y = absurd (false≢true (same.0 refl))
same_named text false true p q same x y = absurd (false≢true (same.1 refl))
same_named text false false p q same x y = (refl, same_path text p q x y)

same_name : (flags : ℤ) (text : List ℕ) (s t : Bool) (p q : List (List ℕ)) → IsNameOf flags text s p → IsNameOf flags text t q → (s ≡ t) × (p ≡ q)
unfolding IsNameOf
same_name flags text s t p q x y = same_named text s t p q (λ h. y.0.1 (x.0.0 h), λ h. x.0.1 (y.0.0 h)) x.1 y.1

one_op : (r : Op) (a b : AskedOp) → AsksOp r a → AsksOp r b → a ≡ b
unfolding AsksOp
one_op (ops.Create r) (op_asks.Create p s) (op_asks.Create q t) x y = let e = same_name r.flags r.path s t p q x y in (λ i. op_asks.Create (e.1 i) (e.0 i))
one_op (ops.Create r) (op_asks.Create p s) b x y = absurd y
one_op (ops.Create2 r) (op_asks.Create2 p s) (op_asks.Create2 q t) x y = let e = same_name r.flags r.path s t p q x y in (λ i. op_asks.Create2 (e.1 i) (e.0 i))
one_op (ops.Create2 r) (op_asks.Create2 p s) b x y = absurd y
one_op (ops.Delete r) op_asks.Delete op_asks.Delete x y = refl
one_op (ops.Delete r) op_asks.Delete b x y = absurd y
one_op (ops.SetContent r) (op_asks.SetContent p) (op_asks.SetContent q) x y = ap op_asks.SetContent (same_path r.path p q x y)
one_op (ops.SetContent r) (op_asks.SetContent p) b x y = absurd y
one_op (ops.Check r) op_asks.Check op_asks.Check x y = refl
one_op (ops.Check r) op_asks.Check b x y = absurd y
one_op r a b x y = absurd x

one_list : (rs : List Op) (as_ bs : List AskedOp) → AllZip AsksOp rs as_ → AllZip AsksOp rs bs → as_ ≡ bs
one_list [] [] [] x y = refl
one_list [] [] (b ∷ bs) x y = absurd y
one_list [] (a ∷ as_) bs x y = absurd x
one_list (r ∷ rs) [] bs x y = absurd x
one_list (r ∷ rs) (a ∷ as_) [] x y = absurd y
one_list (r ∷ rs) (a ∷ as_) (b ∷ bs) x y = let e = one_op r a b x.0 y.0 in let f = one_list rs as_ bs x.1 y.1 in (λ i. e i ∷ f i)

one_plain : (r : Request) (a b : Asked) → AsksPlain r a → AsksPlain r b → a ≡ b
unfolding AsksPlain
one_plain (requests.Create r) (asks.Create p s) (asks.Create q t) x y = let e = same_name r.flags r.path s t p q x y in (λ i. asks.Create (e.1 i) (e.0 i))
one_plain (requests.Create r) (asks.Create p s) b x y = absurd y
one_plain (requests.Create2 r) (asks.Create2 p s) (asks.Create2 q t) x y = let e = same_name r.flags r.path s t p q x y in (λ i. asks.Create2 (e.1 i) (e.0 i))
one_plain (requests.Create2 r) (asks.Create2 p s) b x y = absurd y
one_plain (requests.Delete r) asks.Empty asks.Empty x y = refl
one_plain (requests.Delete r) asks.Empty b x y = absurd y
one_plain (requests.Exists r) (asks.StatOf p) (asks.StatOf q) x y = ap asks.StatOf (same_path r.path p q x y)
one_plain (requests.Exists r) (asks.StatOf p) b x y = absurd y
one_plain (requests.GetContent r) (asks.Content p) (asks.Content q) x y = ap asks.Content (same_path r.path p q x y)
one_plain (requests.GetContent r) (asks.Content p) b x y = absurd y
one_plain (requests.SetContent r) (asks.StatOf p) (asks.StatOf q) x y = ap asks.StatOf (same_path r.path p q x y)
one_plain (requests.SetContent r) (asks.StatOf p) b x y = absurd y
one_plain (requests.GetAcl r) (asks.AclOf p) (asks.AclOf q) x y = ap asks.AclOf (same_path r.path p q x y)
one_plain (requests.GetAcl r) (asks.AclOf p) b x y = absurd y
one_plain (requests.SetAcl r) (asks.StatOf p) (asks.StatOf q) x y = ap asks.StatOf (same_path r.path p q x y)
one_plain (requests.SetAcl r) (asks.StatOf p) b x y = absurd y
one_plain (requests.GetChildren r) (asks.Children p) (asks.Children q) x y = ap asks.Children (same_path r.path p q x y)
one_plain (requests.GetChildren r) (asks.Children p) b x y = absurd y
one_plain (requests.GetChildren2 r) (asks.Children2 p) (asks.Children2 q) x y = ap asks.Children2 (same_path r.path p q x y)
one_plain (requests.GetChildren2 r) (asks.Children2 p) b x y = absurd y
one_plain (requests.Sync r) (asks.SyncOf p) (asks.SyncOf q) x y = ap asks.SyncOf (same_path r.path p q x y)
one_plain (requests.Sync r) (asks.SyncOf p) b x y = absurd y
one_plain requests.Ping asks.Empty asks.Empty x y = refl
one_plain requests.Ping asks.Empty b x y = absurd y
one_plain (requests.Multi rs) (asks.Multi p) (asks.Multi q) x y = ap asks.Multi (one_list rs p q x y)
one_plain (requests.Multi rs) (asks.Multi p) b x y = absurd y
one_plain (requests.SetWatches r) asks.Empty asks.Empty x y = refl
one_plain (requests.SetWatches r) asks.Empty b x y = absurd y
one_plain requests.Close asks.Close asks.Close x y = refl
one_plain requests.Close asks.Close b x y = absurd y
one_plain r a b x y = absurd x

some_same : {A : Type 0} (a b : A) → Some a ≡ Some b → a ≡ b
some_same a b e = cc

-- a request asks one thing
pub one_asked : (r : Request) (a b : Asked) → Asks r a → Asks r b → a ≡ b
unfolding Asks
one_asked r a b (inl (c, h, e)) (inl (d, j, f)) = e ∙ ap asks.Refused (some_same c d (one_outcome r (Some c) (Some d) h j)) ∙ sym f
one_asked r a b (inl (c, h, e)) (inr (ok, j)) = absurd (none-some c (one_outcome r None (Some c) ok h))
one_asked r a b (inr (ok, h)) (inl (d, j, f)) = absurd (none-some d (one_outcome r None (Some d) ok j))
one_asked r a b (inr (ok, h)) (inr (fine, j)) = one_plain r a b h j
