-- What the mode is for, and the lengths that it keeps.
use Rattle.std.specs.Prelude.{◌≡◌, ◌↔◌, ℕ, List, ◌++◌, length}
use Rattle.aes_block.specs.Laws.{IsBytes}
use Rattle.gcm_mode.specs.Gcm.{text_under, gcm_tag, Gcm}

-- the tag t is right for the ciphertext c, which opens to p, exactly where c and t are what p is sealed to
abbrev pub OpensExactlyWhatWasSealed : Type 0
OpensExactlyWhatWasSealed =
    (k iv a p c t : List ℕ) → length t ≡ 16
    → ((t ≡ gcm_tag k iv a c) × (text_under k iv c ≡ p)) ↔ (c ++ t ≡ Gcm k iv a p)

abbrev pub TextKeepsItsLength : Type 0
TextKeepsItsLength = (k iv p : List ℕ) → length (text_under k iv p) ≡ length p

abbrev pub TagHas16Bytes : Type 0
TagHas16Bytes = (k iv a c : List ℕ) → length (gcm_tag k iv a c) ≡ 16

-- the text that is sealed or opened, and the tag, are bytes if the key and the text are
abbrev pub SealsToBytes : Type 0
SealsToBytes =
    ((k iv x : List ℕ) → IsBytes k → IsBytes x → IsBytes (text_under k iv x))
    × ((k iv a c : List ℕ) → IsBytes k → IsBytes (gcm_tag k iv a c))
