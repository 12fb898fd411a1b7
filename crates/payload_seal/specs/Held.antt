-- The places of keys, the list of keys that they hold, and the one that is ready.
use Rattle.std.proofs.Common.{◌≡◌, ℕ, ◌+◌, ◌-◌, ◌≤◌, List, [], ◌++◌, length, take, replicate, sym, ap, ◌∙◌, arith}
use Rattle.std.proofs.lemmas.List.{length-take-le, get_or-take, take-append-drop}
use Rattle.payload_seal.specs.Keys.{key_of, places_of, HoldsKeys}

pub held_length : {places : List (List ℕ)} {epoch : ℕ} {ready : List ℕ} → HoldsKeys places epoch ready → length (take (epoch + 1) places) ≡ epoch + 1
held_length {places} {epoch} {ready} h = length-take-le (epoch + 1) places (omega (arith, h.size, h.fits))

pub held_places : {places : List (List ℕ)} {epoch : ℕ} {ready : List ℕ} → HoldsKeys places epoch ready → places_of (take (epoch + 1) places) ≡ places
unfolding places_of
held_places {places} {epoch} {ready} h =
    let spare : 256 - length (take (epoch + 1) places) ≡ 255 - epoch = omega (arith, held_length h) in
    ap (λ (n : ℕ). take (epoch + 1) places ++ replicate n (replicate 16 0)) spare ∙ ap (λ (l : List (List ℕ)). take (epoch + 1) places ++ l) (sym h.rest) ∙ take-append-drop (epoch + 1) places

pub held_epoch : {places : List (List ℕ)} {epoch : ℕ} {ready : List ℕ} → HoldsKeys places epoch ready → length (take (epoch + 1) places) - 1 ≡ epoch
held_epoch {places} {epoch} {ready} h = omega (arith, held_length h)

pub held_key : {places : List (List ℕ)} {epoch : ℕ} {ready : List ℕ} → HoldsKeys places epoch ready → (e : ℕ) → e ≤ epoch → key_of (take (epoch + 1) places) e ≡ key_of places e
held_key {places} {epoch} {ready} h e le = get_or-take (epoch + 1) places e [] (omega (arith, le))

pub held_ready : {places : List (List ℕ)} {epoch : ℕ} {ready : List ℕ} → HoldsKeys places epoch ready → key_of (take (epoch + 1) places) (length (take (epoch + 1) places) - 1) ≡ ready
held_ready {places} {epoch} {ready} h =
    ap (λ (e : ℕ). key_of (take (epoch + 1) places) e) (held_epoch h) ∙ held_key h epoch (omega arith) ∙ sym h.is_ready
