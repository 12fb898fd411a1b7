-- What the pieces of sealing and opening give.
use Rattle.std.proofs.Common.{◌≡◌, ℕ, ◌+◌, ◌-◌, ◌≤◌, List, [], ◌∷◌, ◌++◌, length, take, drop, Bool, true, false, Option, Some, None, Bor, bytes_eq, get_or, sym, ap, ◌∙◌, subst, arith, length-drop}
use Rattle.std.specs.Prelude.{IsTrue, ◌↔◌, unwrap_or}
use Rattle.std.specs.List.{copy_within}
use Rattle.std.specs.Option.{option_copied}
use Rattle.std.proofs.lemmas.Bool.{false≢true}
use Rattle.std.proofs.lemmas.List.Edits.{take-paste}
use Rattle.std.proofs.lemmas.List.{take_rest, take_all, take-append-drop, length-take-le, drop-drop}
use Rattle.std.proofs.lemmas.Slice.Eq.{bytes_eq-Decides}
use Rattle.gcm_mode.specs.Gcm.{Gcm}
use Rattle.sha2.specs.Sha256.{sha256}
use Rattle.zk_path.specs.Paths.{text_of}
use Rattle.zk_path.specs.Numbers.{IsStemOf}
use Rattle.payload_seal.specs.Keys.{epoch_of, key_of}
use Rattle.payload_seal.specs.Payload.{flag_of, content_of, plain_payload, SealData, IsDigestFor}
use Rattle.payload_seal.specs.Flaws.{IsPlain}
use Rattle.payload_seal.proofs.Parts.{one_stem_of}

-- the last piece of a file of keys
pub last_piece : (n at : ℕ) (file piece : List ℕ) → length file ≡ at + n → piece ≡ take n (drop at file) → piece ≡ drop at file
last_piece n at file piece size e = e ∙ take_all n (drop at file) (omega (arith, length-drop at file, size))

-- three pieces of a plain text
pub reads_plain : (bytes digest content : List ℕ) (flag : ℕ) → bytes ≡ flag ∷ drop 1 bytes → digest ≡ take 32 (drop 1 bytes) → content ≡ drop 33 bytes → 33 ≤ length bytes → IsPlain bytes flag digest content
reads_plain bytes digest content flag first d e long = record {
  whole = first ∙ ap (λ (l : List ℕ). flag ∷ l) (sym (take-append-drop 32 (drop 1 bytes)) ∙ (λ i. sym d i ++ drop-drop 32 1 bytes i) ∙ ap (λ (l : List ℕ). digest ++ l) (sym e));
  size = ap length d ∙ length-take-le 32 (drop 1 bytes) (omega (arith, length-drop 1 bytes));
}

pub first_item : (bytes : List ℕ) (flag : ℕ) → 1 ≤ length bytes → flag ≡ get_or bytes 0 0 → bytes ≡ flag ∷ drop 1 bytes
first_item [] flag long e = absurd (omega arith)
first_item (x ∷ xs) flag long e = ap (λ (n : ℕ). n ∷ xs) (sym e)

-- the IV, and the two pieces sealed behind it
pub is_sealed : (keys : List (List ℕ)) (iv before payload head content : List ℕ) (p : List (List ℕ)) (s : Bool) (o : Option (List ℕ)) → before ≡ iv → payload ≡ before ++ Gcm (key_of keys (epoch_of iv)) iv [] (head ++ content) → head ≡ flag_of s o ∷ sha256 (text_of p) → content ≡ content_of o → payload ≡ SealData keys iv p s o
unfolding SealData plain_payload
is_sealed keys iv before payload head content p s o f g h k = g ∙ (λ i. f i ++ Gcm (key_of keys (epoch_of iv)) iv [] (h i ++ k i))

-- what is moved to the front, and then cut off at the end
pub moved : (n : ℕ) (xs : List ℕ) → n ≤ length xs → take (length xs - n) (copy_within xs n (length xs) 0) ≡ drop n xs
moved n xs le =
    let m = length xs - n in
    ap (λ (k : ℕ). take k (copy_within xs n (length xs) 0)) (omega arith) ∙ take-paste xs 0 (drop n xs) m (omega arith) (omega (arith, length-drop n xs)) ∙ take_rest xs n

-- the digest of a path's stem
pub of_stem : (p stem : List (List ℕ)) (s r : Bool) (found digest : List ℕ) → s ≡ true → IsStemOf p stem → found ≡ sha256 (text_of stem) → r ≡ bytes_eq found digest → IsTrue r ↔ IsDigestFor p s digest
of_stem p stem s r found digest seq h is e = subst (λ (b : Bool). IsTrue r ↔ IsDigestFor p b digest) (sym seq) (
  λ t. (stem, h, sym ((bytes_eq-Decides found digest).0 (sym e ∙ t)) ∙ is),
  λ k. e ∙ (bytes_eq-Decides found digest).1 (is ∙ ap (λ (q : List (List ℕ)). sha256 (text_of q)) (one_stem_of p stem k.0 h k.1) ∙ sym k.2),
)

pub of_no_stem : (p : List (List ℕ)) (s : Bool) (digest : List ℕ) → s ≡ true → ((q : List (List ℕ)) → IsStemOf p q → ⊥) → IsTrue false ↔ IsDigestFor p s digest
of_no_stem p s digest seq none = subst (λ (b : Bool). IsTrue false ↔ IsDigestFor p b digest) (sym seq) (λ t. absurd (false≢true t), λ k. absurd (none k.0 k.1))

-- the bytes of a content, where null has none
pub content_bytes : (o : Option (Bor (List ℕ))) (empty found : Bor (List ℕ)) → found ≡ unwrap_or o empty → empty.now ≡ [] → found.now ≡ content_of (option_copied o)
content_bytes None empty found e h = ap (λ (b : Bor (List ℕ)). b.now) e ∙ h
content_bytes (Some x) empty found e h = ap (λ (b : Bor (List ℕ)). b.now) e
