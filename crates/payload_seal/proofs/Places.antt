-- Keys that are put into places one after another.
use Rattle.std.proofs.Common.{◌≡◌, ℕ, zero, suc, ◌+◌, ◌-◌, ◌*◌, ◌<◌, List, [], ◌∷◌, ◌++◌, length, take, drop, set, replicate, refl, sym, ap, ◌∙◌, subst, arith}
use Rattle.std.proofs.lemmas.List.{length-set, take_more_set, drop-set-lt, drop-drop, get_or-set_same}
use Rattle.payload_seal.specs.Keys.{key_of, keys_in, HoldsKeys}

-- the places up to the epoch hold the keys, and the others zeros
pub record Fills (places : List (List ℕ)) (epoch : ℕ) (keys : List (List ℕ)) : Type 0 where
  pub size : length places ≡ 256
  pub front : take (epoch + 1) places ≡ keys
  pub rest : drop (epoch + 1) places ≡ replicate (255 - epoch) (replicate 16 0)

one_less : (n : ℕ) (x : List ℕ) → drop 1 (replicate n x) ≡ replicate (n - 1) x
one_less zero x = refl
one_less (suc n) x = ap (λ (m : ℕ). replicate m x) (omega arith)

pub fill_next : (places keys : List (List ℕ)) (epoch : ℕ) (key : List ℕ) → epoch < 255 → Fills places epoch keys → Fills (set places (epoch + 1) key) (epoch + 1) (keys ++ key ∷ [])
fill_next places keys epoch key few h =
    let within : epoch + 1 < length places = omega (arith, few, h.size) in
    record {
      size = length-set places (epoch + 1) key ∙ h.size;
      front = take_more_set places (epoch + 1) key within ∙ ap (λ (l : List (List ℕ)). l ++ key ∷ []) h.front;
      rest =
          drop-set-lt (epoch + 1 + 1) places (epoch + 1) key (omega arith) ∙ sym (drop-drop 1 (epoch + 1) places) ∙ ap (drop 1) h.rest ∙ one_less (255 - epoch) (replicate 16 0) ∙ ap (λ (n : ℕ). replicate n (replicate 16 0)) (omega arith);
    }

pub holds_filled : (places keys : List (List ℕ)) (epoch : ℕ) (ready : List ℕ) → epoch < 256 → Fills places epoch keys → ready ≡ key_of places epoch → HoldsKeys places epoch ready
holds_filled places keys epoch ready few h e = record { size = h.size; fits = few; rest = h.rest; is_ready = e }

pub fill_first : (key : List ℕ) (later : List ℕ) → Fills (set (replicate 256 (replicate 16 0)) 0 key) 0 (key ∷ keys_in later 0)
unfolding keys_in
fill_first key later = record { size = length-set (replicate 256 (replicate 16 0)) 0 key; front = refl; rest = refl }

keys_next : (later : List ℕ) (n : ℕ) → keys_in later (n + 1) ≡ keys_in later n ++ take 16 (drop (16 * n) later) ∷ []
unfolding keys_in
keys_next later n = let next : n + 1 ≡ suc n = omega arith in ap (keys_in later) next

pub fill_more : (places : List (List ℕ)) (first later key : List ℕ) (n : ℕ) → n < 255 → key ≡ take 16 (drop (16 * n) later) → Fills places n (first ∷ keys_in later n) → Fills (set places (n + 1) key) (n + 1) (first ∷ keys_in later (n + 1))
fill_more places first later key n few e h =
    let keys : (first ∷ keys_in later n) ++ key ∷ [] ≡ first ∷ keys_in later (n + 1) = ap (λ (k : List ℕ). first ∷ (keys_in later n ++ k ∷ [])) e ∙ ap (λ (ks : List (List ℕ)). first ∷ ks) (sym (keys_next later n)) in
    subst (λ (ks : List (List ℕ)). Fills (set places (n + 1) key) (n + 1) ks) keys (fill_next places (first ∷ keys_in later n) n key few h)

-- the key that was put in last
pub key_put : (places : List (List ℕ)) (n : ℕ) (key : List ℕ) → n < length places → key ≡ key_of (set places n key) n
key_put places n key lt = sym (get_or-set_same places n key [] lt)

pub next_holds : (places : List (List ℕ)) (key old ready : List ℕ) (epoch next : ℕ) → HoldsKeys places epoch old → next ≡ epoch + 1 → next < 256 → ready ≡ key → HoldsKeys (set places next key) next ready
next_holds places key old ready epoch next h e few is =
    let filled : Fills (set places (epoch + 1) key) (epoch + 1) (take (epoch + 1) places ++ key ∷ []) = fill_next places (take (epoch + 1) places) epoch key (omega (arith, e, few)) (record { size = h.size; front = refl; rest = h.rest }) in
    holds_filled (set places next key) _ next ready few (subst (λ (n : ℕ). Fills (set places n key) n (take (epoch + 1) places ++ key ∷ [])) (sym e) filled) (is ∙ key_put places next key (omega (arith, few, h.size)))
