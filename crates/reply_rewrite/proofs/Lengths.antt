-- The lengths of Stats.
use Rattle.std.proofs.Common.{◌≡◌, ◌≢◌, ℕ, ℤ, pos, List, [], ◌∷◌, refl, sym, ap, ◌∙◌}
use Rattle.std.specs.Prelude.{◌≤ℤ◌, ◌-ℤ◌}
use Rattle.zk_records.specs.declared.stat.Stat.{Stat}
use Rattle.reply_rewrite.specs.Stats.{IsPlainLength, IsPlainStat}

pub root_length : (path : List (List ℕ)) (stored : Stat) → path ≡ [] → stored.length ≡ pos 0 → IsPlainStat path stored stored
root_length [] stored e h = record { plain_length = (h, h); same_rest = refl }
root_length (n ∷ p) stored e h = cc

pub other_length : (path : List (List ℕ)) (stored plain : Stat) (length : ℤ) → (path ≡ [] → ⊥) → pos 61 ≤ℤ stored.length → length ≡ stored.length -ℤ pos 61 → plain ≡ record stored { length = length } → IsPlainStat path stored plain
other_length [] stored plain length f h e same = absurd (f refl)
other_length (n ∷ p) stored plain length f h e same =
    let told : plain.length ≡ length = ap (λ (s : Stat). s.length) same in
    record { plain_length = (h, told ∙ e); same_rest = same ∙ ap (λ (z : ℤ). record stored { length = z }) (sym told) }

pub root_unfit : (path : List (List ℕ)) (stored : ℤ) → path ≡ [] → stored ≢ pos 0 → (plain : ℤ) → IsPlainLength path stored plain → ⊥
root_unfit [] stored e f plain h = f h.0
root_unfit (n ∷ p) stored e f plain h = cc

pub other_unfit : (path : List (List ℕ)) (stored : ℤ) → (path ≡ [] → ⊥) → (pos 61 ≤ℤ stored → ⊥) → (plain : ℤ) → IsPlainLength path stored plain → ⊥
other_unfit [] stored e f plain h = e refl
other_unfit (n ∷ p) stored e f plain h = f h.0

pub ruleset lengths = (root_length, other_length, root_unfit, other_unfit)
