-- The results of a multi of which a change was refused.
use Rattle.std.proofs.Common.{◌≡◌, ◌+◌, ℕ, zero, suc, ℤ, pos, List, [], ◌∷◌, ◌++◌, map, replicate, sym, ap, refl, ◌∙◌, append_assoc, arith}
use Rattle.zk_messages.specs.declared.reply.OpResult.{OpResult}
use Rattle.zk_messages.specs.declared.reply.OpResult.TheVariants.{Error}
use Rattle.tree_state.specs.Changes.{runtime_inconsistency}
use Rattle.tree_state.specs.Trees.{failed_codes}

one_behind : (n : ℕ) (r : OpResult) → replicate n r ++ r ∷ [] ≡ replicate (suc n) r
one_behind zero r = refl
one_behind (suc n) r = ap (λ (l : List OpResult). r ∷ l) (one_behind n r)

pub one_pushed : (old had new : List OpResult) (k code : ℤ) (n : ℕ) → had ≡ old ++ replicate n (Error code) → k ≡ code → new ≡ had ++ Error k ∷ [] → new ≡ old ++ replicate (n + 1) (Error code)
one_pushed old had new k code n h same e =
    let next : suc n ≡ n + 1 = omega arith in
    e ∙ ap (λ (x : ℤ). had ++ Error x ∷ []) same ∙ ap (λ (l : List OpResult). l ++ Error code ∷ []) h
    ∙ append_assoc old (replicate n (Error code)) (Error code ∷ [])
    ∙ ap (λ (l : List OpResult). old ++ l) (one_behind n (Error code))
    ∙ ap (λ (k : ℕ). old ++ replicate k (Error code)) next

map_replicate : (n : ℕ) (code : ℤ) (rest : List ℤ) → map Error (replicate n code ++ rest) ≡ replicate n (Error code) ++ map Error rest
map_replicate zero code rest = refl
map_replicate (suc n) code rest = ap (λ (l : List OpResult). Error code ∷ l) (map_replicate n code rest)

map_all : (n : ℕ) (code : ℤ) → map Error (replicate n code) ≡ replicate n (Error code)
map_all zero code = refl
map_all (suc n) code = ap (λ (l : List OpResult). Error code ∷ l) (map_all n code)

-- what is pushed before the refused change, for it and behind it
pub failed_made : (none before with_code all : List OpResult) (index behind count : ℕ) (k code : ℤ) → none ≡ [] → before ≡ none ++ replicate index (Error (pos 0)) → with_code ≡ before ++ Error k ∷ [] → k ≡ code
    → all ≡ with_code ++ replicate count (Error runtime_inconsistency) → count ≡ behind → all ≡ map Error (failed_codes index code behind)
unfolding failed_codes
failed_made none before with_code all index behind count k code e f g same h i =
    h
    ∙ ap (λ (n : ℕ). with_code ++ replicate n (Error runtime_inconsistency)) i
    ∙ ap (λ (l : List OpResult). l ++ replicate behind (Error runtime_inconsistency)) (g ∙ ap (λ (x : ℤ). before ++ Error x ∷ []) same)
    ∙ append_assoc before (Error code ∷ []) (replicate behind (Error runtime_inconsistency))
    ∙ ap (λ (l : List OpResult). l ++ (Error code ∷ replicate behind (Error runtime_inconsistency))) (f ∙ ap (λ (l : List OpResult). l ++ replicate index (Error (pos 0))) e)
    ∙ ap (λ (l : List OpResult). replicate index (Error (pos 0)) ++ Error code ∷ l) (sym (map_all behind runtime_inconsistency))
    ∙ sym (map_replicate index (pos 0) (code ∷ replicate behind runtime_inconsistency))
