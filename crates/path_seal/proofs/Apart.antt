-- Sealed forms determine what was sealed.
use Rattle.std.proofs.Common.{◌≡◌, ◌≢◌, ℕ, List, [], ◌∷◌, ◌++◌, length, take, drop, refl, sym, ap, ◌∙◌, arith, length-append}
use Rattle.std.specs.Prelude.{All}
use Rattle.std.specs.Str.{IsUtf8}
use Rattle.std.proofs.lemmas.List.{take_at, drop_at}
use Rattle.std.proofs.lemmas.List.Elements.{All-cons, All-head, All-tail, All-weaker}
use Rattle.hex.specs.Hex.{decode_of}
use Rattle.hex.proofs.HexLemmas.{decode_of-same}
use Rattle.aes_block.specs.Laws.{IsBytes}
use Rattle.gcm_mode.specs.Gcm.{Gcm, text_under, gcm_tag}
use Rattle.gcm_mode.proofs.Counting.{length-gcm_tag}
use Rattle.gcm_mode.proofs.RoundTrip.{opens_exactly}
use Rattle.zk_path.specs.Paths.{IsComponent, IsPath, IsStem, joined, text_of}
use Rattle.zk_path.specs.WithDigits.{stem_end_utf8, stem_end_plain}
use Rattle.zk_path.proofs.Components.{joined_same}
use Rattle.path_seal.specs.Sealed.{Keys, name_iv, sealed_bytes, SealName, sealed, SealStem}
use Rattle.path_seal.specs.Names.{IsName}
use Rattle.path_seal.specs.Laws.{SealsPathsApart, SealsStemsApart}
use Rattle.path_seal.proofs.NameBytes.{length-name_iv, length-SealName, decoded, sealed_plain}

-- two lists that are cut after as many items
pub same_fronts : (a b x y : List ℕ) → length a ≡ length b → a ++ x ≡ b ++ y → (a ≡ b) × (x ≡ y)
same_fronts a b x y len e = (
  sym (take_at a x (length a) refl) ∙ ap (take (length a)) e ∙ take_at b y (length a) (sym len),
  sym (drop_at a x (length a) refl) ∙ ap (drop (length a)) e ∙ drop_at b y (length a) (sym len),
)

-- the IV and the rest of a sealed name
pub parts_of_name : (k : Keys) (p : List (List ℕ)) (n iv rest : List ℕ) → length iv ≡ 12 → iv ++ rest ≡ sealed_bytes k p n → (iv ≡ name_iv k p n) × (rest ≡ Gcm k.key (name_iv k p n) (text_of p) n)
unfolding sealed_bytes
parts_of_name k p n iv rest len e = same_fronts iv (name_iv k p n) rest (Gcm k.key (name_iv k p n) (text_of p) n) (len ∙ sym (length-name_iv k p n)) e

-- what is sealed under one key and IV opens to one text, whatever the additional data
pub one_text : (key iv a b n m : List ℕ) → Gcm key iv a n ≡ Gcm key iv b m → n ≡ m
one_text key iv a b n m e =
    let c : List ℕ = text_under key iv n in
    let t : List ℕ = gcm_tag key iv a c in
    let size : length t ≡ 16 = length-gcm_tag key iv a c in
    sym ((opens_exactly key iv a n c t size).1 refl).1 ∙ ((opens_exactly key iv b m c t size).1 e).1

bytes_apart : (k : Keys) (p q : List (List ℕ)) (n m : List ℕ) → sealed_bytes k p n ≡ sealed_bytes k q m → n ≡ m
unfolding sealed_bytes
bytes_apart k p q n m e =
    let parts = parts_of_name k q m (name_iv k p n) (Gcm k.key (name_iv k p n) (text_of p) n) (length-name_iv k p n) e in
    one_text k.key (name_iv k p n) (text_of p) (text_of q) n m (parts.1 ∙ ap (λ (iv : List ℕ). Gcm k.key iv (text_of q) m) (sym parts.0))

pub name_apart : (k : Keys) (p q : List (List ℕ)) (n m : List ℕ) → IsBytes k.key → IsUtf8 n → IsUtf8 m → SealName k p n ≡ SealName k q m → n ≡ m
name_apart k p q n m h u v e =
    bytes_apart k p q n m (decode_of-same (SealName k p n) (sealed_bytes k p n) (sealed_bytes k q m) (decoded k p n h u) (ap decode_of e ∙ decoded k q m h v))

pub sealed_apart : (k : Keys) (p q : List (List ℕ)) → IsBytes k.key → All IsName p → All IsName q → sealed k p ≡ sealed k q → p ≡ q
unfolding sealed
sealed_apart k [] [] h g j e = refl
sealed_apart k [] (m ∷ q) h g j e = absurd cc
sealed_apart k (n ∷ p) [] h g j e = absurd cc
sealed_apart k (n ∷ p) (m ∷ q) h g j e =
    let name : SealName k p n ≡ SealName k q m = cc in
    let above : sealed k p ≡ sealed k q = cc in
    let first : n ≡ m = name_apart k p q n m h (All-head IsName n p g).utf8 (All-head IsName m q j).utf8 name in
    let rest : p ≡ q = sealed_apart k p q h (All-tail IsName n p g) (All-tail IsName m q j) above in
    λ i. first i ∷ rest i

pub path_names : (p : List (List ℕ)) → IsPath p → All IsName p
path_names p h = All-weaker IsComponent IsName (λ n c. record { utf8 = c.utf8; no_slash = c.no_slash }) p h

pub stem_names : (s : List (List ℕ)) → IsStem s → All IsName s
stem_names [] h = absurd h
stem_names (n ∷ p) h = All-cons IsName n p (record { utf8 = stem_end_utf8 n h.0; no_slash = stem_end_plain n h.0 }) (path_names p h.1)

pub stem_apart : (k : Keys) (p q : List (List ℕ)) → IsBytes k.key → All IsName p → All IsName q → SealStem k p ≡ SealStem k q → p ≡ q
stem_apart k p q h g j e = sealed_apart k p q h g j (joined_same (sealed k p) (sealed k q) (sealed_plain k p) (sealed_plain k q) e)

-- no name is sealed to an empty text
pub not_empty : (k : Keys) (n : List ℕ) (p : List (List ℕ)) → joined (sealed k (n ∷ p)) ≢ 47 ∷ []
unfolding joined sealed
not_empty k n p e =
    omega (arith, ap length e, length-append (joined (sealed k p)) (47 ∷ SealName k p n), length-SealName k p n)

pub path_apart : SealsPathsApart
unfolding sealed text_of
path_apart k [] [] h g j e = refl
path_apart k [] (m ∷ q) h g j e = absurd (not_empty k m q (sym e))
path_apart k (n ∷ p) [] h g j e = absurd (not_empty k n p e)
path_apart k (n ∷ p) (m ∷ q) h g j e = stem_apart k (n ∷ p) (m ∷ q) h (path_names (n ∷ p) g) (path_names (m ∷ q) j) e

pub stems_are_apart : SealsStemsApart
stems_are_apart k s t h g j e = stem_apart k s t h (stem_names s g) (stem_names t j) e
