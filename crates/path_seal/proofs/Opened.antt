-- What the parts of a sealed name say of the name.
use Rattle.std.proofs.Common.{◌≡◌, ◌≢◌, ℕ, ◌+◌, ◌-◌, ◌≤◌, List, [], ◌∷◌, ◌++◌, length, take, drop, Bool, true, false, not, Option, Some, None, refl, sym, ap, subst, ◌∙◌, arith, length-append, length-drop}
use Rattle.std.specs.Prelude.{All, ◌↔◌, IsTrue, IsNone, is_some}
use Rattle.std.proofs.lemmas.List.{take-append-drop, length-take-le}
use Rattle.std.proofs.lemmas.List.Elements.{All-nil, All-cons, All-head, All-tail}
use Rattle.hex.specs.Hex.{encode_lower, lower_digits}
use Rattle.hex.proofs.HexLemmas.{length-encode_with}
use Rattle.gcm_mode.specs.Gcm.{Gcm}
use Rattle.zk_path.specs.Paths.{HasNoSlash, IsComponent, IsPath, IsStem, IsPathText, joined, text_of}
use Rattle.zk_path.proofs.Components.{joined_same}
use Rattle.zk_path.proofs.Judged.{plain, stem_plain, one_text}
use Rattle.path_seal.specs.Sealed.{Keys, name_iv, sealed_bytes, SealName, sealed, SealPath, SealStem, Opens, OpensStem}
use Rattle.path_seal.specs.Names.{IsCut, IsName, IsSealedOf, IsPlainOf}
use Rattle.path_seal.proofs.Texts.{joined_text}
use Rattle.path_seal.proofs.NameBytes.{joined_shorter}
use Rattle.path_seal.proofs.Apart.{parts_of_name, path_names, stem_names}
use Rattle.path_seal.proofs.Apart as apart

pub cut : (bytes iv rest text tag : List ℕ) → iv ≡ take 12 bytes → rest ≡ drop 12 bytes → length rest + 12 ≡ length bytes → text ≡ take (length rest - 16) rest → tag ≡ drop (length rest - 16) rest → length text + 16 ≡ length rest → IsCut bytes iv text tag
cut bytes iv rest text tag a b len d e size = record {
  whole = sym (take-append-drop 12 bytes) ∙ (λ i. sym a i ++ sym b i) ∙ ap (λ (l : List ℕ). iv ++ l) (sym (take-append-drop (length rest - 16) rest) ∙ (λ i. sym d i ++ sym e i));
  iv_size = ap length a ∙ length-take-le 12 bytes (omega arith);
  tag_size = ap length e ∙ length-drop (length rest - 16) rest ∙ last (length rest) (omega arith);
}
  where
    last : (n : ℕ) → 16 ≤ n → n - (n - 16) ≡ 16
    last n h = omega arith

-- the text of a sealed name spells its bytes
pub spells_bytes : (k : Keys) (p : List (List ℕ)) (n text : List ℕ) → SealName k p n ≡ text → encode_lower (sealed_bytes k p n) ≡ text
unfolding SealName
spells_bytes k p n text e = e

pub cut_size : {bytes iv text tag whole : List ℕ} → IsCut bytes iv text tag → encode_lower bytes ≡ whole → length text ≤ length whole
cut_size {bytes} {iv} {text} {tag} {whole} h e =
    omega (arith, ap length e, length-encode_with lower_digits bytes, ap length h.whole, length-append iv (text ++ tag), length-append text tag)

pub cut_iv : {bytes iv text tag : List ℕ} (k : Keys) (p : List (List ℕ)) (n : List ℕ) → IsCut bytes iv text tag → bytes ≡ sealed_bytes k p n → iv ≡ name_iv k p n
cut_iv {bytes} {iv} {text} {tag} k p n h e = (parts_of_name k p n iv (text ++ tag) h.iv_size (sym h.whole ∙ e)).0

pub cut_gcm : {bytes iv text tag : List ℕ} (k : Keys) (p : List (List ℕ)) (n key aad : List ℕ) → IsCut bytes iv text tag → bytes ≡ sealed_bytes k p n → key ≡ k.key → aad ≡ text_of p → text ++ tag ≡ Gcm key iv aad n
cut_gcm {bytes} {iv} {text} {tag} k p n key aad h e a b =
    let parts = parts_of_name k p n iv (text ++ tag) h.iv_size (sym h.whole ∙ e) in
    parts.1 ∙ (λ i. Gcm (sym a i) (sym parts.0 i) (sym b i) n)

pub cut_name : {bytes iv text tag : List ℕ} (k : Keys) (p : List (List ℕ)) (n key aad m : List ℕ) → IsCut bytes iv text tag → bytes ≡ sealed_bytes k p n → key ≡ k.key → aad ≡ text_of p → text ++ tag ≡ Gcm key iv aad m → m ≡ n
cut_name {bytes} {iv} {text} {tag} k p n key aad m h e a b g = apart.one_text key iv aad aad m n (sym g ∙ cut_gcm k p n key aad h e a b)

pub cut_sealed : {bytes iv text tag whole : List ℕ} (k : Keys) (p : List (List ℕ)) (key aad m : List ℕ) → IsCut bytes iv text tag → encode_lower bytes ≡ whole → iv ≡ name_iv k p m → key ≡ k.key → aad ≡ text_of p → text ++ tag ≡ Gcm key iv aad m → SealName k p m ≡ whole
unfolding SealName sealed_bytes
cut_sealed {bytes} {iv} {text} {tag} {whole} k p key aad m h e v a b g =
    ap encode_lower ((λ i. sym v i ++ Gcm (sym a i) (sym v i) (sym b i) m) ∙ ap (λ (l : List ℕ). iv ++ l) (sym g) ∙ sym h.whole) ∙ e

-- ---- one name as a path of one component

pub none_iff : (o : Option ℕ) (b : Bool) → is_some o ≡ not b → IsTrue b ↔ IsNone o
none_iff None true h = (λ t. refl, λ t. refl)
none_iff None false h = absurd cc
none_iff (Some x) true h = absurd cc
none_iff (Some x) false h = (λ t. absurd cc, λ t. absurd cc)

pub one_component : (n : List ℕ) → n ≢ [] → HasNoSlash n → IsPathText (47 ∷ n) ↔ IsComponent n
unfolding text_of joined
one_component n some whole = (of_text, λ h. (n ∷ [], All-cons IsComponent n [] h (All-nil IsComponent), refl))
  where
    of_text : IsPathText (47 ∷ n) → IsComponent n
    of_text ([], h, e) = let none : n ≡ [] = cc in absurd (some none)
    of_text (m ∷ q, h, e) =
        let same : n ∷ [] ≡ m ∷ q = joined_same (n ∷ []) (m ∷ q) (All-cons HasNoSlash n [] whole (All-nil HasNoSlash)) (plain (m ∷ q) h) e in
        let name : m ≡ n = cc in
        subst IsComponent name (All-head IsComponent m q h)

-- ---- paths and stems

sealed_filled : (k : Keys) (p : List (List ℕ)) → p ≢ [] → sealed k p ≢ []
unfolding sealed
sealed_filled k [] some e = some refl
sealed_filled k (n ∷ p) some e = cc

pub stem_is_path : (k : Keys) (p : List (List ℕ)) → p ≢ [] → SealStem k p ≡ SealPath k p
stem_is_path k p some = joined_text (sealed k p) (sealed_filled k p some)

root_sealed : (k : Keys) (p : List (List ℕ)) → p ≡ [] → SealPath k p ≡ 47 ∷ []
unfolding sealed text_of
root_sealed k p e = ap (SealPath k) e

pub root_opens : (k : Keys) (text : List ℕ) (p : List (List ℕ)) → p ≡ [] → text ≡ 47 ∷ [] → IsPath p × (SealPath k p ≡ text)
root_opens k text p e is = (subst IsPath (sym e) (All-nil IsComponent), root_sealed k p e ∙ sym is)

pub path_sealed_of : (k : Keys) (text : List ℕ) (p : List (List ℕ)) → text ≢ 47 ∷ [] → Opens k text p → IsSealedOf k text p
path_sealed_of k text p other h =
    let some : p ≢ [] = λ e. other (sym h.1 ∙ root_sealed k p e) in
    record { names = path_names p h.0; filled = some; is_sealed = stem_is_path k p some ∙ h.1 }

stem_filled : (s : List (List ℕ)) → IsStem s → s ≢ []
stem_filled [] h e = h
stem_filled (n ∷ p) h e = cc

pub stem_sealed_of : (k : Keys) (text : List ℕ) (s : List (List ℕ)) → OpensStem k text s → IsSealedOf k text s
stem_sealed_of k text s h = record { names = stem_names s h.0; filled = stem_filled s h.0; is_sealed = h.1 }

-- the plain text is no longer
pub plain_of_short : {k : Keys} {text held : List ℕ} → IsPlainOf k text held → length held ≤ length text
plain_of_short {k} {text} {held} h = omega (arith, ap length h.spelled, joined_shorter k h.parts, ap length h.whole.is_sealed)

-- it is the text of what the sealed text opens to
pub opened_path : {k : Keys} {text held : List ℕ} (p : List (List ℕ)) → IsPlainOf k text held → text ≢ 47 ∷ [] → Opens k text p → (p ≢ []) × (held ≡ text_of p)
opened_path {k} {text} {held} p h other o =
    let sealed_of = path_sealed_of k text p other o in
    (sealed_of.filled, h.spelled ∙ ap joined (sym (h.only p sealed_of)) ∙ joined_text p sealed_of.filled)

pub opened_stem : {k : Keys} {text held : List ℕ} (s : List (List ℕ)) → IsPlainOf k text held → OpensStem k text s → held ≡ joined s
opened_stem {k} {text} {held} s h o = h.spelled ∙ ap joined (sym (h.only s (stem_sealed_of k text s o)))

names_plain : (p : List (List ℕ)) → All IsName p → All HasNoSlash p
names_plain [] h = All-nil HasNoSlash
names_plain (n ∷ p) h = All-cons HasNoSlash n p (All-head IsName n p h).no_slash (names_plain p (All-tail IsName n p h))

pub path_opens : {k : Keys} {text held : List ℕ} (p : List (List ℕ)) → IsPlainOf k text held → IsPath p → held ≡ text_of p → p ≢ [] → IsPath p × (SealPath k p ≡ text)
path_opens {k} {text} {held} p h legal e some =
    let same : h.parts ≡ p = joined_same h.parts p (names_plain h.parts h.whole.names) (plain p legal) (sym h.spelled ∙ e ∙ sym (joined_text p some)) in
    (legal, sym (stem_is_path k p some) ∙ ap (SealStem k) (sym same) ∙ h.whole.is_sealed)

pub stem_opens : {k : Keys} {text held : List ℕ} (s : List (List ℕ)) → IsPlainOf k text held → IsStem s → held ≡ joined s → IsStem s × (SealStem k s ≡ text)
stem_opens {k} {text} {held} s h legal e =
    let same : h.parts ≡ s = joined_same h.parts s (names_plain h.parts h.whole.names) (stem_plain s legal) (sym h.spelled ∙ e) in
    (legal, ap (SealStem k) (sym same) ∙ h.whole.is_sealed)

-- the root's text is no other path's
pub not_root : (held : List ℕ) (p q : List (List ℕ)) → q ≡ [] → held ≡ text_of q → IsPath p → p ≢ [] → held ≡ text_of p → ⊥
not_root held p q none e legal some f = some (one_text p [] legal (All-nil IsComponent) (sym f ∙ e ∙ ap text_of none))
