-- The parts of payloads, plain texts and paths are determined by them.
use Rattle.std.proofs.Common.{◌≡◌, ℕ, suc, ◌+◌, ◌<◌, ◌≤◌, List, [], ◌∷◌, ◌++◌, length, Bool, true, false, refl, sym, ap, ◌∙◌, subst, arith, length-append}
use Rattle.gcm_mode.specs.Gcm.{gcm_tag, text_under}
use Rattle.gcm_mode.proofs.Counting.{length-text_under}
use Rattle.sha2.proofs.Facts256.{length-sha256}
use Rattle.zk_path.specs.Paths.{text_of}
use Rattle.zk_path.specs.Numbers.{IsStemOf}
use Rattle.path_seal.specs.Names.{IsCut}
use Rattle.path_seal.proofs.Apart.{same_fronts}
use Rattle.payload_seal.specs.Keys.{epoch_of, key_of}
use Rattle.payload_seal.specs.Payload.{OpensTo, IsDigestFor}
use Rattle.payload_seal.specs.Flaws.{IsPlain}

-- two lists that are cut before as many items
pub same_backs : (a b x y : List ℕ) → length x ≡ length y → a ++ x ≡ b ++ y → (a ≡ b) × (x ≡ y)
same_backs a b x y len e = same_fronts a b x y (omega (arith, length-append a x, length-append b y, ap length e, len)) e

pub record Same (iv text tag iv' text' tag' : List ℕ) : Type 0 where
  pub iv_same : iv ≡ iv'
  pub text_same : text ≡ text'
  pub tag_same : tag ≡ tag'

pub one_cut : {y iv text tag iv' text' tag' : List ℕ} → IsCut y iv text tag → IsCut y iv' text' tag' → Same iv text tag iv' text' tag'
one_cut {y} {iv} {text} {tag} {iv'} {text'} {tag'} h k =
    let fronts = same_fronts iv iv' (text ++ tag) (text' ++ tag') (h.iv_size ∙ sym k.iv_size) (sym h.whole ∙ k.whole) in
    let backs = same_backs text text' tag tag' (h.tag_size ∙ sym k.tag_size) fronts.1 in
    record { iv_same = fronts.0; text_same = backs.0; tag_same = backs.1 }

-- the first byte of a payload is that of its IV
first_of : (iv rest : List ℕ) (n : ℕ) → length iv ≡ suc n → epoch_of (iv ++ rest) ≡ epoch_of iv
first_of [] rest n e = absurd (omega (arith, e))
first_of (b ∷ iv) rest n e = refl

pub cut_epoch : {y iv text tag : List ℕ} → IsCut y iv text tag → epoch_of y ≡ epoch_of iv
cut_epoch {y} {iv} {text} {tag} h = ap epoch_of h.whole ∙ first_of iv (text ++ tag) 11 h.iv_size

pub opened_epoch : {keys : List (List ℕ)} {y plain : List ℕ} → OpensTo keys y plain → epoch_of y < length keys
opened_epoch {keys} {y} {plain} h = subst (λ (e : ℕ). e < length keys) (sym (cut_epoch h.parts)) h.known

pub one_plain : {keys : List (List ℕ)} {y a b : List ℕ} → OpensTo keys y a → OpensTo keys y b → a ≡ b
one_plain {keys} {y} {a} {b} h k =
    let same = one_cut h.parts k.parts in
    let e = same.iv_same in
    let f = same.text_same in
    sym h.opened ∙ (λ i. text_under (key_of keys (epoch_of (e i))) (e i) (f i)) ∙ k.opened

-- what opens has the right tag, however it is cut
pub right_tag : {keys : List (List ℕ)} {y iv text tag plain : List ℕ} → IsCut y iv text tag → OpensTo keys y plain → tag ≡ gcm_tag (key_of keys (epoch_of iv)) iv [] text
right_tag {keys} {y} {iv} {text} {tag} {plain} h k =
    let same = one_cut h k.parts in
    let e = same.iv_same in
    let f = same.text_same in
    same.tag_same ∙ k.right ∙ (λ i. gcm_tag (key_of keys (epoch_of (sym e i))) (sym e i) [] (sym f i))

pub cut_size : {y iv text tag : List ℕ} → IsCut y iv text tag → length y ≡ length text + 28
cut_size {y} {iv} {text} {tag} h =
    omega (arith, ap length h.whole, length-append iv (text ++ tag), length-append text tag, h.iv_size, h.tag_size)

pub opened_size : {keys : List (List ℕ)} {y plain : List ℕ} → OpensTo keys y plain → length y ≡ length plain + 28
opened_size {keys} {y} {plain} h = omega (arith, cut_size h.parts, ap length h.opened, length-text_under (key_of keys (epoch_of h.iv)) h.iv h.text)

pub plain_size : {plain digest content : List ℕ} {flag : ℕ} → IsPlain plain flag digest content → 33 ≤ length plain
plain_size {plain} {digest} {content} {flag} h = omega (arith, ap length h.whole, length-append digest content, h.size)

pub record SameParts (f g : ℕ) (d e x y : List ℕ) : Type 0 where
  pub flag_same : f ≡ g
  pub digest_same : d ≡ e
  pub content_same : x ≡ y

pub one_reading : {a b d e x y : List ℕ} {f g : ℕ} → a ≡ b → IsPlain a f d x → IsPlain b g e y → SameParts f g d e x y
one_reading {a} {b} {d} {e} {x} {y} {f} {g} same h k =
    let whole : f ∷ (d ++ x) ≡ g ∷ (e ++ y) = sym h.whole ∙ same ∙ k.whole in
    let head : f ≡ g = cc in
    let tail : d ++ x ≡ e ++ y = cc in
    let parts = same_fronts d e x y (h.size ∙ sym k.size) tail in
    record { flag_same = head; digest_same = parts.0; content_same = parts.1 }

pub one_stem_of : (p s t : List (List ℕ)) → IsStemOf p s → IsStemOf p t → s ≡ t
one_stem_of p s t h k =
    let whole : h.name ∷ h.above ≡ k.name ∷ k.above = sym h.whole ∙ k.whole in
    let name : h.name ≡ k.name = cc in
    let above : h.above ≡ k.above = cc in
    let front = (same_backs h.front k.front h.number.digits k.number.digits (h.number.ten ∙ sym k.number.ten) (sym h.number.spelled ∙ name ∙ k.number.spelled)).0 in
    h.cut ∙ (λ i. front i ∷ above i) ∙ sym k.cut

pub digest_size : (p : List (List ℕ)) (s : Bool) (digest : List ℕ) → IsDigestFor p s digest → length digest ≡ 32
digest_size p false digest h = ap length h ∙ length-sha256 (text_of p)
digest_size p true digest h = ap length h.2 ∙ length-sha256 (text_of h.0)
