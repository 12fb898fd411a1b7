-- The form of a whole request.
use Rattle.std.proofs.Common.{◌≡◌, ◌≢◌, ◌↔◌, ◌≤◌, ◌<◌, ◌+◌, ◌^◌, ℕ, ℤ, pos, negsuc, List, [], ◌∷◌, Option, Some, None, Result, Ok, Err, inl, inr, refl, sym, ap, ◌∙◌, subst, arith}
use Rattle.std.specs.Prelude.{IfOk}
use Rattle.std.proofs.lemmas.Option.{none-some}
use Rattle.zk_path.specs.Paths.{IsPathText}
use Rattle.payload_seal.specs.Ivs.{Ivs}
use Rattle.payload_seal.specs.declared.keys.EntryKeys.{EntryKeys}
use Rattle.request_queue.specs.declared.asked.Asked.{Asked}
use Rattle.request_queue.specs.declared.asked.Asked.TheVariants as asks
use Rattle.request_queue.specs.Asking.{IsAsked}
use Rattle.watch_rewrite.specs.Watches.{EachText}
use Rattle.zk_records.specs.declared.create.CreateRequest.{CreateRequest}
use Rattle.zk_records.specs.declared.node.SetContentRequest.{SetContentRequest}
use Rattle.zk_records.specs.declared.set_watches.SetWatches.{SetWatches}
use Rattle.zk_messages.specs.Refuses.{Rule, IsAllowed, Refuses, RefusesOp, RefusesOps}
use Rattle.zk_messages.proofs.FirstRules.{one_outcome}
use Rattle.zk_messages.proofs.ShortParts.{request_judged}
use Rattle.zk_messages.specs.declared.request.Op.{Op}
use Rattle.zk_messages.specs.declared.request.Op.TheVariants as ops
use Rattle.zk_messages.specs.declared.request.Request.{Request}
use Rattle.zk_messages.specs.declared.request.Request.TheVariants as requests
use Rattle.request_rewrite.specs.Asks.{Asks, AsksPlain, Turns}
use Rattle.request_rewrite.specs.Ivs.{ivs_from, iv_after, payloads_of, PayloadsOf}
use Rattle.request_rewrite.specs.Veil.{Veil, stand_in}
use Rattle.request_rewrite.specs.declared.requests.Veiled.{Veiled}
use Rattle.request_rewrite.specs.declared.veiling.NotVeiled.{NotVeiled}
use Rattle.request_rewrite.specs.declared.veiling.NotVeiled.TheVariants.{Spent, Memory}
use Rattle.request_rewrite.proofs.Allowed.{watches_legal}
use Rattle.request_rewrite.proofs.Ivs.{no_iv}

-- ---- arms of the match

pub watches_of : (q : Request) (r : SetWatches) → q ≡ requests.SetWatches r → Refuses q None → EachText IsPathText r
unfolding Refuses
watches_of q r is h = watches_legal r (subst (λ (p : Request). Refuses p None) is h)

pub no_iv_turned : (k : EntryKeys) (s : Ivs) (q p v : Request) (asked : Asked) → q ≡ p → payloads_of p ≡ 0 → Turns k [] p v asked → Turns k (ivs_from s (payloads_of q)) q v asked
no_iv_turned k s q p v asked is none h =
    subst (λ (r : Request). Turns k (ivs_from s (payloads_of r)) r v asked) (sym is)
    (subst (λ (ivs : List (List ℕ)). Turns k ivs p v asked) (sym (ap (ivs_from s) none ∙ no_iv s)) h)

pub one_iv_turned : {E : Type 0} (k : EntryKeys) (s : Ivs) (q p : Request) (iv : List ℕ) (result : Result Veiled E) → q ≡ p → ivs_from s (payloads_of p) ≡ iv_after s 0 ∷ [] → iv ≡ iv_after s 0 → IfOk result (λ x. Turns k (iv ∷ []) p x.request x.asked) → IfOk result (λ x. Turns k (ivs_from s (payloads_of q)) q x.request x.asked)
one_iv_turned {E} k s q p iv result is one at h =
    subst (λ (r : Request). IfOk result (λ x. Turns k (ivs_from s (payloads_of r)) r x.request x.asked)) (sym is)
    (subst (λ (ivs : List (List ℕ)). IfOk result (λ x. Turns k ivs p x.request x.asked)) (ap (λ (i : List ℕ). i ∷ []) at ∙ sym one) h)

pub create_iv : (s : Ivs) (r : CreateRequest) → ivs_from s (payloads_of (requests.Create r)) ≡ iv_after s 0 ∷ []
unfolding ivs_from payloads_of
create_iv s r = refl

pub create2_iv : (s : Ivs) (r : CreateRequest) → ivs_from s (payloads_of (requests.Create2 r)) ≡ iv_after s 0 ∷ []
unfolding ivs_from payloads_of
create2_iv s r = refl

pub content_iv : (s : Ivs) (r : SetContentRequest) → ivs_from s (payloads_of (requests.SetContent r)) ≡ iv_after s 0 ∷ []
unfolding ivs_from payloads_of
content_iv s r = refl

pub ping_none : payloads_of requests.Ping ≡ 0
unfolding payloads_of
ping_none = refl

pub close_none : payloads_of requests.Close ≡ 0
unfolding payloads_of
close_none = refl

-- ---- how many payloads are sealed

pub none_of_refused : (r : Request) (code : ℤ) (n : ℕ) → Refuses r (Some code) → PayloadsOf r n → n ≡ 0
none_of_refused r code n h (inl p) = p.2
none_of_refused r code n h (inr p) = absurd (none-some code (one_outcome r None (Some code) p.0 h))

pub all_of_allowed : (r : Request) (n : ℕ) → Refuses r None → PayloadsOf r n → n ≡ payloads_of r
all_of_allowed r n h (inl p) = absurd (none-some p.0 (one_outcome r None (Some p.0) h p.1))
all_of_allowed r n h (inr p) = p.1

pub some_count : (r : Request) (outcome : Option ℤ) → Refuses r outcome → (n : ℕ) × PayloadsOf r n
some_count r None h = (payloads_of r, inr (h, refl))
some_count r (Some code) h = (0, inl (code, h, refl))

pub one_count : (r : Request) (m n : ℕ) → PayloadsOf r m → PayloadsOf r n → n ≡ m
one_count r m n (inl p) q = none_of_refused r p.0 n p.1 q ∙ sym p.2
one_count r m n (inr p) q = all_of_allowed r n p.0 q ∙ sym p.1

-- ---- codes of refusals

abbrev IsSigned : (Option ℤ → Type 0) → Type 0
IsSigned Next = (code : ℤ) → Next (Some code) → code ≢ pos 0

below_zero : (n : ℕ) → negsuc n ≢ pos 0
below_zero n e = absurd cc

allowed_signed : IsSigned IsAllowed
allowed_signed code h = absurd (none-some code (sym h))

rule_signed : (Holds : Type 0) (rule : ℤ) (Next : Option ℤ → Type 0) → rule ≢ pos 0 → IsSigned Next → IsSigned (Rule Holds rule Next)
unfolding Rule
rule_signed Holds rule Next signed next code (inl h) = λ e. signed (sym (same_code code rule h.1) ∙ e)
  where
    same_code : (a b : ℤ) → Some a ≡ Some b → a ≡ b
    same_code a b e = cc
rule_signed Holds rule Next signed next code (inr h) = next code h.1

one_rule : (Holds : Type 0) (n : ℕ) → IsSigned (Rule Holds (negsuc n) IsAllowed)
one_rule Holds n = rule_signed _ _ _ (below_zero n) allowed_signed

two_rules : (A B : Type 0) (m n : ℕ) → IsSigned (Rule A (negsuc m) (Rule B (negsuc n) IsAllowed))
two_rules A B m n = rule_signed _ _ _ (below_zero m) (one_rule B n)

more_rules : (A B C D : Type 0) (m n : ℕ) → IsSigned (Rule A (negsuc m) (Rule B (negsuc m) (Rule C (negsuc m) (Rule D (negsuc n) IsAllowed))))
more_rules A B C D m n = rule_signed _ _ _ (below_zero m) (rule_signed _ _ _ (below_zero m) (two_rules C D m n))

op_signed : (op : Op) → IsSigned (RefusesOp op)
op_signed (ops.Create r) = more_rules _ _ _ _ 7 113
op_signed (ops.Create2 r) = more_rules _ _ _ _ 7 113
op_signed (ops.Delete r) = two_rules _ _ 7 7
op_signed (ops.SetContent r) = two_rules _ _ 7 7
op_signed (ops.Check r) = one_rule _ 7

ops_signed : (list : List Op) → IsSigned (RefusesOps list)
unfolding RefusesOps
ops_signed [] code h = allowed_signed code h
ops_signed (op ∷ list) code (inl h) = λ e. op_signed op h.0 h.1 (same_code h.0 code (sym h.2) ∙ e)
  where
    same_code : (a b : ℤ) → Some a ≡ Some b → a ≡ b
    same_code a b e = cc
ops_signed (op ∷ list) code (inr h) = ops_signed list code h.1

code_signed : (n : ℕ) (code : ℤ) → Some code ≡ Some (negsuc n) → code ≢ pos 0
code_signed n code h e = below_zero n (sym (same_code code (negsuc n) h) ∙ e)
  where
    same_code : (a b : ℤ) → Some a ≡ Some b → a ≡ b
    same_code a b e = cc

refused_signed : (r : Request) → IsSigned (Refuses r)
unfolding Refuses
refused_signed (requests.Unknown kind body) code h = code_signed 5 code h
refused_signed (requests.Auth body) code h = code_signed 114 code h
refused_signed (requests.Create r) code h = more_rules _ _ _ _ 7 113 code h
refused_signed (requests.Create2 r) code h = more_rules _ _ _ _ 7 113 code h
refused_signed (requests.Delete r) code h = two_rules _ _ 7 7 code h
refused_signed (requests.Exists r) code h = one_rule _ 7 code h
refused_signed (requests.GetContent r) code h = two_rules _ _ 7 7 code h
refused_signed (requests.SetContent r) code h = two_rules _ _ 7 7 code h
refused_signed (requests.GetAcl r) code h = one_rule _ 7 code h
refused_signed (requests.SetAcl r) code h = two_rules _ _ 7 113 code h
refused_signed (requests.GetChildren r) code h = one_rule _ 7 code h
refused_signed (requests.GetChildren2 r) code h = one_rule _ 7 code h
refused_signed (requests.Sync r) code h = one_rule _ 7 code h
refused_signed requests.Ping code h = allowed_signed code h
refused_signed (requests.Multi list) code h = ops_signed list code h
refused_signed (requests.SetWatches r) code h = rule_signed _ _ _ (below_zero 7) (two_rules _ _ 7 7) code h
refused_signed requests.Close code h = allowed_signed code h

no_plain_code : (r : Request) (code : ℤ) → AsksPlain r (asks.Refused code) → ⊥
unfolding AsksPlain
no_plain_code (requests.Unknown kind body) code h = h
no_plain_code (requests.Auth body) code h = h
no_plain_code (requests.Create r) code h = h
no_plain_code (requests.Create2 r) code h = h
no_plain_code (requests.Delete r) code h = h
no_plain_code (requests.Exists r) code h = h
no_plain_code (requests.GetContent r) code h = h
no_plain_code (requests.SetContent r) code h = h
no_plain_code (requests.GetAcl r) code h = h
no_plain_code (requests.SetAcl r) code h = h
no_plain_code (requests.GetChildren r) code h = h
no_plain_code (requests.GetChildren2 r) code h = h
no_plain_code (requests.Sync r) code h = h
no_plain_code requests.Ping code h = h
no_plain_code (requests.Multi list) code h = h
no_plain_code (requests.SetWatches r) code h = h
no_plain_code requests.Close code h = h

plain_asked : (r : Request) (asked : Asked) → AsksPlain r asked → IsAsked asked
plain_asked r (asks.Refused code) h = absurd (no_plain_code r code h)
plain_asked r other h = tt

pub asks_asked : (r : Request) (asked : Asked) → Asks r asked → IsAsked asked
unfolding Asks
asks_asked r asked (inl h) = subst IsAsked (sym h.2) (refused_signed r h.0 h.1)
asks_asked r asked (inr h) = plain_asked r asked h.1

-- ---- the two forms

pub refused_count : (r : Request) (code : ℤ) → Refuses r (Some code) → PayloadsOf r 0
refused_count r code h = inl (code, h, refl)

pub refused_veil : (k : EntryKeys) (s : Ivs) (r v : Request) (code : ℤ) → Refuses r (Some code) → v ≡ stand_in → Veil k (ivs_from s 0) r v
unfolding Veil
refused_veil k s r v code h e = inl (code, h, e, no_iv s)

pub refused_asks : (r : Request) (code : ℤ) → Refuses r (Some code) → Asks r (asks.Refused code)
unfolding Asks
refused_asks r code h = inl (code, h, refl)

pub refused_left : (r : Request) (code : ℤ) (count left : ℕ) → Refuses r (Some code) → left + count ≡ 2 ^ 32 → (n : ℕ) → PayloadsOf r n → count + n ≤ 2 ^ 32
refused_left r code count left h e n p = omega (arith, e, none_of_refused r code n h p)

pub plain_count : (r : Request) (n : ℕ) → Refuses r None → n ≡ payloads_of r → PayloadsOf r n
plain_count r n h e = inr (h, e)

pub plain_veil : (k : EntryKeys) (ivs : List (List ℕ)) (r v : Request) (asked : Asked) → Refuses r None → Turns k ivs r v asked → Veil k ivs r v
unfolding Veil
plain_veil k ivs r v asked h t = inr (h, t.veiled)

pub plain_asks : (k : EntryKeys) (ivs : List (List ℕ)) (r v : Request) (asked : Asked) → Refuses r None → Turns k ivs r v asked → Asks r asked
unfolding Asks
plain_asks k ivs r v asked h t = inr (h, t.kept)

pub plain_left : (r : Request) (count left m : ℕ) → Refuses r None → left + count ≡ 2 ^ 32 → m ≡ payloads_of r → (left < m → ⊥) → (n : ℕ) → PayloadsOf r n → count + n ≤ 2 ^ 32
plain_left r count left m h e same enough n p = omega (arith, e, same, enough, all_of_allowed r n h p)

pub plain_spent : (r : Request) (count left m : ℕ) → Refuses r None → left + count ≡ 2 ^ 32 → m ≡ payloads_of r → left < m → (n : ℕ) → PayloadsOf r n → 2 ^ 32 < count + n
plain_spent r count left m h e same less n p = omega (arith, e, same, less, all_of_allowed r n h p)

pub ruleset forms = (request_judged, some_count, refused_count, refused_veil, refused_asks, refused_left, plain_count, plain_veil, plain_asks, plain_left, plain_spent)

-- ---- with the one number of payloads

pub veil_counted : (k : EntryKeys) (s : Ivs) (r v : Request) (m : ℕ) → PayloadsOf r m → Veil k (ivs_from s m) r v → (n : ℕ) → PayloadsOf r n → Veil k (ivs_from s n) r v
veil_counted k s r v m p h n q = subst (λ (i : ℕ). Veil k (ivs_from s i) r v) (sym (one_count r m n p q)) h

pub taken_counted : (s t : Ivs) (r : Request) (m : ℕ) → PayloadsOf r m → t ≡ record s { count = s.count + m } → (n : ℕ) → PayloadsOf r n → t ≡ record s { count = s.count + n }
taken_counted s t r m p e n q = subst (λ (i : ℕ). t ≡ record s { count = s.count + i }) (sym (one_count r m n p q)) e

pub fits_counted : (r : Request) (count m : ℕ) → PayloadsOf r m → count + m ≤ 2 ^ 32 → (n : ℕ) → PayloadsOf r n → count + n ≤ 2 ^ 32
fits_counted r count m p h n q = omega (arith, h, one_count r m n p q)

pub ruleset counts = (veil_counted, taken_counted, fits_counted, asks_asked)

-- ---- Spent exactly where too few are left

pub err_spent : {T F : Type 0} (result : Result T NotVeiled) (inner : Result F NotVeiled) (e : NotVeiled) (r : Request) (count : ℕ) → inner ≡ Err e → result ≡ Err e → (inner ≡ Err Spent → (n : ℕ) → PayloadsOf r n → 2 ^ 32 < count + n) → (inner ≡ Err Memory → (n : ℕ) → PayloadsOf r n → count + n ≤ 2 ^ 32) → (n : ℕ) → PayloadsOf r n → (result ≡ Err Spent) ↔ (2 ^ 32 < count + n)
err_spent {T} {F} result inner Spent r count f g spent memory n p = (λ _. spent f n p, λ _. g)
err_spent {T} {F} result inner Memory r count f g spent memory n p = (λ h. absurd (apart result g h), λ h. absurd (omega (arith, h, memory f n p)))
  where
    apart : (x : Result T NotVeiled) → x ≡ Err Memory → x ≡ Err Spent → ⊥
    apart x a b = absurd cc

pub ok_spent : {T : Type 0} (x : T) (r : Request) (count m : ℕ) → PayloadsOf r m → count + m ≤ 2 ^ 32 → (n : ℕ) → PayloadsOf r n → (Ok x ≡ Err Spent) ↔ (2 ^ 32 < count + n)
ok_spent {T} x r count m p fits n q = (λ h. absurd cc, λ h. absurd (omega (arith, h, fits_counted r count m p fits n q)))
