-- What is kept of a hash key: its products with the polynomials of four coefficients, and of four that four others stand before.
use Rattle.std.specs.Prelude.{ℕ, zero, suc, Bool, false, List, [], ◌∷◌, ◌++◌}
use Rattle.aes_block.specs.Polynomial.{product, remainder, less_modulus}
use Rattle.gcm_mode.specs.Ghash.{bits, modulus, number}

-- the product of a polynomial and of x ^ n, modulo x ^ 128 + x ^ 7 + x ^ 2 + x + 1
unfoldable pub shifted : ℕ → List Bool → List Bool
shifted zero p = p
shifted (suc n) p = less_modulus modulus (false ∷ shifted n p)

-- the product of the polynomial of the lowest k bits of x and of the block y
unfoldable pub low_times : ℕ → ℕ → ℕ → ℕ
low_times k x y = number (remainder modulus (product (bits k x) (bits 128 y)))

-- the products of the first n numbers, each as k bits, and of the block y
unfoldable pub entries : ℕ → ℕ → ℕ → List ℕ
entries k zero y = []
entries k (suc n) y = entries k n y ++ low_times k n y ∷ []
