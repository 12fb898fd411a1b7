-- Boards that are told more.
use Rattle.std.proofs.Common.{◌≡◌, ℕ, ◌+◌, ◌<◌, List, [], ◌∷◌, ◌++◌, length, take, get_or, refl, sym, subst}
use Rattle.std.proofs.lemmas.List.{take_more}
use Rattle.reply_rewrite.specs.declared.finding.Finding.{Finding}
use Rattle.relay_io.specs.Relayed.{TellsAll}

-- told these findings and then those, it is told all of them
pub tells_both : {B : Type 0} (Told : B → Finding → B → Type 0) (before mid after : B) (first more : List Finding) → TellsAll Told before first mid → TellsAll Told mid more after → TellsAll Told before (first ++ more) after
tells_both {B} Told before mid after [] more t u = subst (λ (b : B). TellsAll Told b more after) t u
tells_both Told before mid after (f ∷ fs) more t u = (t.0, t.1, tells_both Told t.0 mid after fs more t.2 u)

-- and one more
pub tells_one : {B : Type 0} (Told : B → Finding → B → Type 0) (before mid after : B) (first : List Finding) (finding : Finding) → TellsAll Told before first mid → Told mid finding after → TellsAll Told before (first ++ finding ∷ []) after
tells_one Told before mid after first finding t u = tells_both Told before mid after first (finding ∷ []) t (after, u, refl)

-- of a list, up to the next place
pub tells_next : {B : Type 0} (Told : B → Finding → B → Type 0) (before mid after : B) (findings : List Finding) (i : ℕ) (d : Finding) → i < length findings → TellsAll Told before (take i findings) mid → Told mid (get_or findings i d) after
    → TellsAll Told before (take (i + 1) findings) after
tells_next {B} Told before mid after findings i d h t u =
    subst (λ (fs : List Finding). TellsAll Told before fs after) (sym (take_more findings i d h)) (tells_one Told before mid after (take i findings) (get_or findings i d) t u)
