-- The password of a session.
use Rattle.std.proofs.Common.{◌≡◌, ℕ, ℤ, List, [], ◌++◌, replicate, append-nil, w64, FitsSigned, to_z, of_z, ap, ◌∙◌}
use Rattle.std.proofs.lemmas.Int.{to_z-of_z}
use Rattle.jute_core.specs.Jute.{long_bytes}
use Rattle.aes_block.specs.Aes.{Aes}
use Rattle.store_side.specs.Past.{password_of}

-- enciphered are 8 bytes 0, and those of the number
pub password_is : (key tail bytes result : List ℕ) (session : ℤ) → FitsSigned w64 session
    → bytes ≡ long_bytes (to_z w64 (of_z w64 session)) → tail ≡ bytes
    → result ≡ Aes key (replicate 8 0 ++ (tail ++ [])) → result ≡ password_of key session
unfolding password_of
password_is key tail bytes result session f number same is =
    is ∙ ap (λ (xs : List ℕ). Aes key (replicate 8 0 ++ xs)) (append-nil tail ∙ same ∙ number ∙ ap long_bytes (to_z-of_z w64 session f))
