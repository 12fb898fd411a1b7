-- The words of the two commands that serve.
use Rattle.std.specs.Prelude.{◌≡◌, ◌⊎◌, ◌≤◌, ◌++◌, ℕ, List, [], codes}
use Rattle.std.specs.Fmt.{decimal}
use Rattle.replay_cli.specs.Words.{Words, word, IsCalled}
use Rattle.audit_board.specs.Fields.{field}
use Rattle.replay_cli.specs.Printed.{line}

-- proxy KEY BOOT LISTEN STORE, where BOOT is at most 16,777,215, in decimal digits without a sign or a leading zero
abbrev pub IsProxy : Words → ℕ → Type 0
IsProxy words boot = IsCalled words 5 (codes "proxy") × (boot ≤ 16777215) × (word words 2 ≡ decimal boot)

-- with a boot that fits
abbrev pub IsSomeProxy : Words → Type 0
IsSomeProxy words = (boot : ℕ) × IsProxy words boot

-- store COUNTERKEY LISTEN
abbrev pub IsStore : Words → Type 0
IsStore words = IsCalled words 3 (codes "store")

-- a row fits
abbrev pub Fits : Words → Type 0
Fits words = IsSomeProxy words ⊎ IsStore words

-- proxy: LISTEN -> STORE, boot BOOT
abbrev pub proxy_line : List ℕ → List ℕ → List ℕ → List ℕ
proxy_line listen store boot = field (codes "proxy: ") listen ++ field (codes " -> ") store ++ line (codes ", boot ") boot

-- store: LISTEN
abbrev pub store_line : List ℕ → List ℕ
store_line listen = line (codes "store: ") listen

-- the text is the line that says what is served
abbrev pub IsServedLine : Words → List ℕ → Type 0
IsServedLine words text = (IsSomeProxy words × (text ≡ proxy_line (word words 3) (word words 4) (word words 2)))
    ⊎ (IsStore words × (text ≡ store_line (word words 2)))
