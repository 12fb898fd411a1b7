-- Values that can be written in no more bytes than the store's: texts, contents, Stats.
use Rattle.std.proofs.Common.{◌≡◌, zero, suc, ◌≤◌, ℕ, ℤ, pos, negsuc, List, [], ◌∷◌, ◌++◌, Option, Some, None, length, refl, sym, ap, subst, ◌∙◌, arith, length-append}
use Rattle.std.proofs.lemmas.Int.{ints}
use Rattle.std.specs.Int.{w32}
use Rattle.std.specs.Int.RustNames.{FitsSigned}
use Rattle.std.specs.Str.{IsAscii, IsUtf8}
use Rattle.std.proofs.lemmas.List.Elements.{All-head, All-tail}
use Rattle.std.proofs.lemmas.Str.{IsUtf8-append, IsUtf8-from_ascii}
use Rattle.jute_core.specs.Jute.{Jute, Value, Spells, int_bytes, int, long, buffer, ustring, pair}
use Rattle.zk_path.specs.Paths.{IsComponent, IsPath, joined, text_of}
use Rattle.path_seal.specs.Sealed.{Keys, SealName, sealed, SealPath}
use Rattle.payload_seal.specs.Payload.{Accepts, content_of}
use Rattle.zk_records.specs.Stats.{stat, stat_fields}
use Rattle.zk_records.specs.declared.stat.Stat.{Stat}
use Rattle.reply_rewrite.specs.Stats.{IsPlainLength, IsPlainStat, IsPlainContent}
use Rattle.tree_state.specs.Nodes.{Path, size_of}
use Rattle.sealed_machine.proofs.SealedNames.{sealed_root, sealed_child, sealed_longer}
use Rattle.sealed_machine.proofs.SealedStates.{accepted_size}

-- some bytes are so, and no more than the limit
pub record IsWritten (Is : List ℕ → Type 0) (limit : ℕ) : Type 0 where
  pub bytes : List ℕ
  pub is : Is bytes
  pub within : length bytes ≤ limit

-- whatever spells the first value, the second one is spelled by no more
unfoldable pub Shrinks : (t : Jute) → Value t → Value t → Type 0
Shrinks t v w = (b : List ℕ) → Spells t v b → IsWritten (Spells t w) (length b)

pub shrinks_same : (t : Jute) (v : Value t) → Shrinks t v v
unfolding Shrinks
shrinks_same t v b h = record { bytes = b; is = h; within = omega arith }

pub shrinks_pair : (s t : Jute) (v v' : Value s) (w w' : Value t) → Shrinks s v v' → Shrinks t w w' → Shrinks (pair s t) (v, w) (v', w')
unfolding Shrinks Spells
shrinks_pair s t v v' w w' f g b (x, y, hx, hy, cut) =
    let a = f x hx in
    let c = g y hy in
    record { bytes = a.bytes ++ c.bytes; is = (a.bytes, c.bytes, a.is, c.is, refl); within = omega (arith, a.within, c.within, ap length cut, length-append a.bytes c.bytes, length-append x y) }

-- ---- texts and contents

pub shrinks_text : (text plain : List ℕ) → IsUtf8 plain → length plain ≤ length text → Shrinks ustring text plain
unfolding Shrinks Spells
shrinks_text text plain u l b ((x, head, cut), old) =
    let size : length x ≡ 4 = ap length head.1 in
    record {
      bytes = int_bytes (pos (length plain)) ++ plain;
      is = ((int_bytes (pos (length plain)), (omega (arith, l, head.0), refl), refl), u);
      within = omega (arith, l, size, four, ap length cut, length-append x text, length-append (int_bytes (pos (length plain))) plain);
    }
  where
    four : length (int_bytes (pos (length plain))) ≡ 4
    four = refl

pub shrinks_content : (y d : Option (List ℕ)) → length (content_of d) ≤ length (content_of y) → Shrinks buffer y d
unfolding Shrinks Spells
shrinks_content None None l b h = record { bytes = b; is = h; within = omega arith }
shrinks_content None (Some d) l b h = record {
  bytes = int_bytes (pos (length d)) ++ d;
  is = (int_bytes (pos (length d)), (omega (arith, l), refl), refl);
  within = omega (arith, l, four, length-append (int_bytes (pos (length d))) d, ap length h, null);
}
  where
    four : length (int_bytes (pos (length d))) ≡ 4
    four = refl

    null : length (int_bytes (negsuc 0)) ≡ 4
    null = refl
shrinks_content (Some y) None l b (x, head, cut) =
    let size : length x ≡ 4 = ap length head.1 in
    record { bytes = int_bytes (negsuc 0); is = refl; within = omega (arith, size, null, ap length cut, length-append x y) }
  where
    null : length (int_bytes (negsuc 0)) ≡ 4
    null = refl
shrinks_content (Some y) (Some d) l b (x, head, cut) =
    let size : length x ≡ 4 = ap length head.1 in
    record {
      bytes = int_bytes (pos (length d)) ++ d;
      is = (int_bytes (pos (length d)), (omega (arith, l, head.0), refl), refl);
      within = omega (arith, l, size, four, ap length cut, length-append x y, length-append (int_bytes (pos (length d))) d);
    }
  where
    four : length (int_bytes (pos (length d))) ≡ 4
    four = refl

-- ---- paths

slash_utf8 : IsUtf8 (47 ∷ [])
slash_utf8 = IsUtf8-from_ascii (47 ∷ []) ascii
  where
    ascii : IsAscii (47 ∷ [])
    ascii zero = omega arith
    ascii (suc i) = omega arith

joined_utf8 : (p : Path) → IsPath p → IsUtf8 (joined p)
unfolding joined
joined_utf8 [] h = IsUtf8-from_ascii [] (λ i. omega arith)
joined_utf8 (n ∷ p) h =
    IsUtf8-append (joined p) (47 ∷ n) (joined_utf8 p (All-tail IsComponent n p h)) (IsUtf8-append (47 ∷ []) n slash_utf8 (All-head IsComponent n p h).utf8)

path_utf8 : (p : Path) → IsPath p → IsUtf8 (text_of p)
unfolding text_of
path_utf8 [] h = slash_utf8
path_utf8 (n ∷ p) h = joined_utf8 (n ∷ p) h

joined_longer : (k : Keys) (p : Path) → length (joined p) ≤ length (joined (sealed k p))
unfolding joined
joined_longer k [] = omega arith
joined_longer k (n ∷ p) =
    let e : length (joined (sealed k (n ∷ p))) ≡ length (joined (sealed k p) ++ 47 ∷ SealName k p n) = ap (λ (q : Path). length (joined q)) (sealed_child k p n) in
    omega (arith, e, joined_longer k p, sealed_longer k p n, length-append (joined p) (47 ∷ n), length-append (joined (sealed k p)) (47 ∷ SealName k p n))

path_longer : (k : Keys) (p : Path) → length (text_of p) ≤ length (SealPath k p)
unfolding text_of
path_longer k [] = omega (arith, ap (λ (q : Path). length (text_of q)) (sealed_root k))
path_longer k (n ∷ p) =
    let e : length (text_of (sealed k (n ∷ p))) ≡ length (joined (SealName k p n ∷ sealed k p)) = ap (λ (q : Path). length (text_of q)) (sealed_child k p n) in
    let f : length (joined (sealed k (n ∷ p))) ≡ length (joined (SealName k p n ∷ sealed k p)) = ap (λ (q : Path). length (joined q)) (sealed_child k p n) in
    omega (arith, e, f, joined_longer k (n ∷ p))

-- the text of a path, in place of a text that opens to it
pub shrinks_path : (k : Keys) (text plain : List ℕ) (p : Path) → IsPath p → SealPath k p ≡ text → plain ≡ text_of p → Shrinks ustring text plain
shrinks_path k text plain p h e f = shrinks_text text plain (subst IsUtf8 (sym f) (path_utf8 p h)) (omega (arith, ap length e, ap length f, path_longer k p))

-- ---- Stats

fits_plain : (p : Path) (a b : ℤ) → IsPlainLength p a b → FitsSigned w32 a → FitsSigned w32 b
fits_plain [] a b h f = subst (FitsSigned w32) (h.0 ∙ sym h.1) f
fits_plain (n ∷ p) a b (high, is) f = omega (arith, ints)

shrinks_length : (p : Path) (a b : ℤ) → IsPlainLength p a b → Shrinks int a b
unfolding Shrinks Spells
shrinks_length p a b h bytes (fits, is) = record { bytes = int_bytes b; is = (fits_plain p a b h fits, refl); within = omega (arith, ap length is, four, four_plain) }
  where
    four : length (int_bytes a) ≡ 4
    four = refl

    four_plain : length (int_bytes b) ≡ 4
    four_plain = refl

with_length : (p : Path) (s : Stat) (b : ℤ) → IsPlainLength p s.length b → Shrinks stat (stat_fields s) (stat_fields (record s { length = b }))
with_length p s b h =
    shrinks_pair long _ s.czxid s.czxid _ _ (shrinks_same long s.czxid)
    (shrinks_pair long _ s.mzxid s.mzxid _ _ (shrinks_same long s.mzxid)
    (shrinks_pair long _ s.ctime s.ctime _ _ (shrinks_same long s.ctime)
    (shrinks_pair long _ s.mtime s.mtime _ _ (shrinks_same long s.mtime)
    (shrinks_pair int _ s.version s.version _ _ (shrinks_same int s.version)
    (shrinks_pair int _ s.cversion s.cversion _ _ (shrinks_same int s.cversion)
    (shrinks_pair int _ s.aversion s.aversion _ _ (shrinks_same int s.aversion)
    (shrinks_pair long _ s.owner s.owner _ _ (shrinks_same long s.owner)
    (shrinks_pair int (pair int long) s.length b (s.children, s.pzxid) (s.children, s.pzxid) (shrinks_length p s.length b h) (shrinks_same (pair int long) (s.children, s.pzxid))))))))))

pub shrinks_stat : (p : Path) (stored plain : Stat) → IsPlainStat p stored plain → Shrinks stat (stat_fields stored) (stat_fields plain)
shrinks_stat p stored plain h =
    subst (λ (s : Stat). Shrinks stat (stat_fields stored) (stat_fields s)) (sym h.same_rest) (with_length p stored plain.length h.plain_length)

-- ---- the content of a node

opened_shorter : (keys : List (List ℕ)) (p : Path) (payload : List ℕ) (d : Option (List ℕ)) → Accepts keys p payload d → length (content_of d) ≤ length payload
unfolding size_of
opened_shorter keys p payload None a = omega arith
opened_shorter keys p payload (Some d) a = omega (arith, accepted_size keys payload p (Some d) a)

pub shrinks_node : (keys : List (List ℕ)) (p : Path) (y d : Option (List ℕ)) (stored plain : Stat) → IsPlainContent keys p y stored d plain
    → Shrinks (pair buffer stat) (y, stat_fields stored) (d, stat_fields plain)
shrinks_node keys p y d stored plain h =
    shrinks_pair buffer stat y d (stat_fields stored) (stat_fields plain) (shrinks_content y d (opened_shorter keys p (content_of y) d h.accepted)) (shrinks_stat p stored plain h.stat)
