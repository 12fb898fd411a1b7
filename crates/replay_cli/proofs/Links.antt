-- Printed connections that are joined.
use Rattle.std.proofs.Common.{◌≡◌, ℕ, zero, suc, ◌+◌, ◌≤◌, ◌<◌, List, [], ◌++◌, sym, ap, subst, ◌∙◌, append_assoc, arith}
use Rattle.std.proofs.lemmas.List.{append-nil}
use Rattle.world_core.specs.Moments.{Moment}
use Rattle.replay_cli.specs.Worlds.{link_text, links_text}

pub no_links : (m : Moment) (before : List ℕ) → before ≡ before ++ links_text m 1 0
unfolding links_text
no_links m before = sym (append-nil before)

-- one more at the end
pub more_links : (m : Moment) (c count : ℕ) → links_text m c (suc count) ≡ links_text m c count ++ link_text m (c + count)
unfolding links_text
more_links m c zero = let same : c ≡ c + 0 = omega arith in append-nil (link_text m c) ∙ ap (link_text m) same
more_links m c (suc count) =
    let same : c + 1 + count ≡ c + suc count = omega arith in
    ap (λ (l : List ℕ). link_text m c ++ l) (more_links m (c + 1) count) ∙ sym (append_assoc (link_text m c) (links_text m (c + 1) count) (link_text m (c + 1 + count)))
    ∙ ap (λ (n : ℕ). (link_text m c ++ links_text m (c + 1) count) ++ link_text m n) same

pub links_on : (m : Moment) (before now after : List ℕ) (n : ℕ) → now ≡ before ++ links_text m 1 n → after ≡ now ++ link_text m (n + 1) → after ≡ before ++ links_text m 1 (n + 1)
links_on m before now after n so one =
    let same : n + 1 ≡ 1 + n = omega arith in
    let next : suc n ≡ n + 1 = omega arith in
    one ∙ (λ i. so i ++ link_text m (same i)) ∙ append_assoc before (links_text m 1 n) (link_text m (1 + n))
    ∙ ap (λ (l : List ℕ). before ++ l) (sym (more_links m 1 n)) ∙ ap (λ (k : ℕ). before ++ links_text m 1 k) next

pub all_links : (m : Moment) (before now : List ℕ) (n count : ℕ) → now ≡ before ++ links_text m 1 n → n ≤ count → count ≤ n → count ≡ m.past.admitted
    → now ≡ before ++ links_text m 1 m.past.admitted
all_links m before now n count so within not all =
    let same : n ≡ count = omega (arith, within, not) in
    so ∙ ap (λ (k : ℕ). before ++ links_text m 1 k) (same ∙ all)
