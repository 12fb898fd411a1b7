-- Paths of nodes that were made or synced.
use Rattle.std.proofs.Common.{◌≡◌, ◌↔◌, ℕ, Bool, true, false, List, sym, ◌∙◌, subst, IsTrue}
use Rattle.std.proofs.lemmas.Bool.{false≢true}
use Rattle.zk_path.specs.Numbers.{IsStemOf}
use Rattle.path_seal.specs.Sealed.{Keys, AreKeys, Opens}
use Rattle.path_seal.proofs.Apart.{path_apart}
use Rattle.payload_seal.proofs.Parts.{one_stem_of}
use Rattle.reply_rewrite.specs.Names.{IsMadeFor, IsNotCreated}

pub made_from_stem : (asked : List (List ℕ)) (sequential : Bool) (path stem : List (List ℕ)) (made : Bool) → sequential ≡ true → IsStemOf path stem → (IsTrue made ↔ (stem ≡ asked)) → IsTrue made ↔ IsMadeFor asked sequential path
made_from_stem asked false path stem made is h same = absurd (false≢true is)
made_from_stem asked true path stem made is h same =
    (λ yes_made. subst (λ (s : List (List ℕ)). IsStemOf path s) (same.0 yes_made) h, λ other. same.1 (one_stem_of path stem asked h other))

pub one_path : (k : Keys) (text : List ℕ) (p q : List (List ℕ)) → AreKeys k → Opens k text p → Opens k text q → p ≡ q
one_path k text p q keys x y = path_apart k p q keys.key_bytes x.0 y.0 (x.1 ∙ sym y.1)

pub not_created : (k : Keys) (asked : List (List ℕ)) (sequential : Bool) (text : List ℕ) (p : List (List ℕ)) → AreKeys k → Opens k text p → (IsMadeFor asked sequential p → ⊥) → IsNotCreated k asked sequential text
not_created k asked sequential text p keys x other q y made = other (subst (λ (r : List (List ℕ)). IsMadeFor asked sequential r) (one_path k text q p keys y x) made)

pub not_synced : (k : Keys) (asked : List (List ℕ)) (text : List ℕ) (p : List (List ℕ)) → AreKeys k → Opens k text p → (p ≡ asked → ⊥) → Opens k text asked → ⊥
not_synced k asked text p keys x other y = other (one_path k text p asked keys x y)

pub ruleset paths = (made_from_stem, not_created, not_synced)
