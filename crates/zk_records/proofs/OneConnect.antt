-- A body is one connect record, or it is refused with one place and reason.
use Rattle.std.proofs.Common.{◌≡◌, ℕ, ℤ, Bool, List, [], ap, refl, sym, ◌∙◌, Option, Some, None}
use Rattle.jute_core.specs.Jute.{Spells}
use Rattle.jute_core.specs.declared.cursor.Reason.{Reason}
use Rattle.jute_core.proofs.OneSpelling.{one_spelling}
use Rattle.jute_core.proofs.WholeLemmas.{whole_or_refused, one_whole_refusal}
use Rattle.zk_records.specs.Connect.{older_request, older_request_fields, newer_request, request_form, request_fields, RefusedConnect, older_response, older_response_fields, newer_response, response_form, response_fields}
use Rattle.zk_records.specs.Laws.{IsOneRequest, IsRequestOrRefused, HasOneRefusal, IsOneResponse}
use Rattle.zk_records.specs.declared.connect.ConnectRequest.{ConnectRequest}
use Rattle.zk_records.specs.declared.connect.ConnectResponse.{ConnectResponse}
use Rattle.zk_records.proofs.ConnectLemmas.{not_both}

abbrev request : ℤ → ℤ → ℤ → ℤ → Option (List ℕ) → Option Bool → ConnectRequest
request a b c d e f = record { protocol = a; seen = b; timeout = c; session = d; password = e; read_only = f }

requests : (a b c d k l m n : ℤ) (e f : Option (List ℕ)) (g h : Option Bool) → a ≡ k → b ≡ l → c ≡ m → d ≡ n → e ≡ f → g ≡ h → request a b c d e g ≡ request k l m n f h
requests a b c d k l m n e f g h p q r s t u = cc

-- by their fields
same_request : (r s : ConnectRequest) → older_request_fields r ≡ older_request_fields s → r.read_only ≡ s.read_only → r ≡ s
same_request r s e o = requests _ _ _ _ _ _ _ _ _ _ _ _ (ap (λ x. x.0) e) (ap (λ x. x.1.0) e) (ap (λ x. x.1.1.0) e) (ap (λ x. x.1.1.1.0) e) (ap (λ x. x.1.1.1.1) e) o

one_request_by : (r s : ConnectRequest) (o p : Option Bool) (b : List ℕ) → r.read_only ≡ o → s.read_only ≡ p → Spells (request_form o) (request_fields o r) b → Spells (request_form p) (request_fields p s) b → r ≡ s
one_request_by r s None None b e f h k = same_request r s (one_spelling older_request _ _ b b [] [] h k refl).0 (e ∙ sym f)
one_request_by r s None (Some y) b e f h k = absurd (not_both older_request _ _ y b h k)
one_request_by r s (Some x) None b e f h k = absurd (not_both older_request _ _ x b k h)
one_request_by r s (Some x) (Some y) b e f h k =
    let u = (one_spelling newer_request _ _ b b [] [] h k refl).0 in
    same_request r s (ap (λ v. v.0) u) (e ∙ ap (λ v. Some v.1) u ∙ sym f)

pub one_request : (b : List ℕ) → IsOneRequest b
one_request b r s h k = one_request_by r s r.read_only s.read_only b refl refl h k

request_or_refused_by : (r : ConnectRequest) (o : Option Bool) (b : List ℕ) (place : ℕ) (reason : Reason) → Spells (request_form o) (request_fields o r) b → RefusedConnect b place reason → ⊥
request_or_refused_by r None b place reason h k = k.older _ h
request_or_refused_by r (Some x) b place reason h k = whole_or_refused newer_request _ b place reason h k.newer

pub request_or_refused : (b : List ℕ) → IsRequestOrRefused b
request_or_refused b r place reason h k = request_or_refused_by r r.read_only b place reason h k

pub one_connect_refusal : (b : List ℕ) → HasOneRefusal b
one_connect_refusal b p q r s h k = one_whole_refusal newer_request b p q r s h.newer k.newer

abbrev response : ℤ → ℤ → ℤ → Option (List ℕ) → Option Bool → ConnectResponse
response a b c d e = record { protocol = a; timeout = b; session = c; password = d; read_only = e }

responses : (a b c k l m : ℤ) (e f : Option (List ℕ)) (g h : Option Bool) → a ≡ k → b ≡ l → c ≡ m → e ≡ f → g ≡ h → response a b c e g ≡ response k l m f h
responses a b c k l m e f g h p q r s t = cc

same_response : (r s : ConnectResponse) → older_response_fields r ≡ older_response_fields s → r.read_only ≡ s.read_only → r ≡ s
same_response r s e o = responses _ _ _ _ _ _ _ _ _ _ (ap (λ x. x.0) e) (ap (λ x. x.1.0) e) (ap (λ x. x.1.1.0) e) (ap (λ x. x.1.1.1) e) o

one_response_by : (r s : ConnectResponse) (o p : Option Bool) (b : List ℕ) → r.read_only ≡ o → s.read_only ≡ p → Spells (response_form o) (response_fields o r) b → Spells (response_form p) (response_fields p s) b → r ≡ s
one_response_by r s None None b e f h k = same_response r s (one_spelling older_response _ _ b b [] [] h k refl).0 (e ∙ sym f)
one_response_by r s None (Some y) b e f h k = absurd (not_both older_response _ _ y b h k)
one_response_by r s (Some x) None b e f h k = absurd (not_both older_response _ _ x b k h)
one_response_by r s (Some x) (Some y) b e f h k =
    let u = (one_spelling newer_response _ _ b b [] [] h k refl).0 in
    same_response r s (ap (λ v. v.0) u) (e ∙ ap (λ v. Some v.1) u ∙ sym f)

pub one_response : (b : List ℕ) → IsOneResponse b
one_response b r s h k = one_response_by r s r.read_only s.read_only b refl refl h k
