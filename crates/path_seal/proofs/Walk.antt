-- How far a path is sealed.
use Rattle.std.proofs.Common.{◌≡◌, ℕ, ◌^◌, ◌≤◌, List, [], ◌∷◌, ◌++◌, length, sym, ap, ◌∙◌, append_assoc, length-append, arith}
use Rattle.std.specs.Prelude.{All}
use Rattle.std.proofs.lemmas.List.Elements.{All-nil, All-cons}
use Rattle.zk_path.specs.Paths.{HasNoSlash, joined, text_of}
use Rattle.zk_path.proofs.Components.{joined_same}
use Rattle.path_seal.specs.Sealed.{Keys, SealName, sealed, SealPath}
use Rattle.path_seal.specs.Under.{IsUnder, IsUnderOne}
use Rattle.path_seal.specs.declared.under.NamesUnder.{NamesUnder}
use Rattle.path_seal.proofs.Texts.{text_short}

-- the components before the rest are sealed
pub record IsSealedTo (k : Keys) (p : List (List ℕ)) (rest out : List ℕ) (u : NamesUnder) : Type 0 where
  pub before : List (List ℕ)
  pub plain : All HasNoSlash before
  pub spelled : joined p ≡ joined before ++ 47 ∷ rest
  pub done : out ≡ joined (sealed k before)
  pub under : IsUnder k before u

pub seal_begins : (k : Keys) (p : List (List ℕ)) (rest out : List ℕ) (u : NamesUnder) → joined p ≡ 47 ∷ rest → out ≡ [] → IsUnder k [] u → IsSealedTo k p rest out u
unfolding joined sealed
seal_begins k p rest out u e none h = record { before = []; plain = All-nil HasNoSlash; spelled = e; done = none; under = h }

-- what is left is short, and so is what is sealed
pub rest_short : {k : Keys} {p : List (List ℕ)} {rest out : List ℕ} {u : NamesUnder} → IsSealedTo k p rest out u → length (joined p) ≤ 2 ^ 28 → length rest ≤ 2 ^ 28
rest_short {k} {p} {rest} {out} {u} h short = omega (arith, ap length h.spelled, length-append (joined h.before) (47 ∷ rest))

pub under_one : {k : Keys} {p : List (List ℕ)} {rest out : List ℕ} {u : NamesUnder} → IsSealedTo k p rest out u → length (joined p) ≤ 2 ^ 28 → IsUnderOne k u
under_one {k} {p} {rest} {out} {u} h short = record {
  path = h.before;
  under = h.under;
  short = text_short h.before (2 ^ 28) (omega (arith, ap length h.spelled, length-append (joined h.before) (47 ∷ rest))) (omega arith);
}

pub next_short : {k : Keys} {p : List (List ℕ)} {rest out : List ℕ} {u : NamesUnder} (name after : List ℕ) (h : IsSealedTo k p rest out u) → rest ≡ name ++ 47 ∷ after → length (joined p) ≤ 2 ^ 28 → length (joined (name ∷ h.before)) ≤ 2 ^ 28
unfolding joined
next_short {k} {p} {rest} {out} {u} name after h e short =
    omega (arith, ap length h.spelled, length-append (joined h.before) (47 ∷ rest), ap length e, length-append name (47 ∷ after), length-append (joined h.before) (47 ∷ name))

pub seals_on : {k : Keys} {p : List (List ℕ)} {rest out : List ℕ} {u : NamesUnder} (name after more : List ℕ) (v : NamesUnder) (h : IsSealedTo k p rest out u) → rest ≡ name ++ 47 ∷ after → HasNoSlash name → more ≡ out ++ 47 ∷ SealName k h.before name → IsUnder k (name ∷ h.before) v → IsSealedTo k p after more v
unfolding joined sealed
seals_on {k} {p} {rest} {out} {u} name after more v h e good added stepped = record {
  before = name ∷ h.before;
  plain = All-cons HasNoSlash name h.before good h.plain;
  spelled = h.spelled ∙ ap (λ (l : List ℕ). joined h.before ++ 47 ∷ l) e ∙ sym (append_assoc (joined h.before) (47 ∷ name) (47 ∷ after));
  done = added ∙ ap (λ (l : List ℕ). l ++ 47 ∷ SealName k h.before name) h.done;
  under = stepped;
}

pub seal_ends : {k : Keys} {p : List (List ℕ)} {rest out : List ℕ} {u : NamesUnder} (whole : List ℕ) (h : IsSealedTo k p rest out u) → HasNoSlash rest → All HasNoSlash p → whole ≡ out ++ 47 ∷ SealName k h.before rest → whole ≡ SealPath k p
unfolding joined sealed text_of
seal_ends {k} {p} {rest} {out} {u} whole h good plain added =
    let same : rest ∷ h.before ≡ p = joined_same (rest ∷ h.before) p (All-cons HasNoSlash rest h.before good h.plain) plain (sym h.spelled) in
    added ∙ ap (λ (l : List ℕ). l ++ 47 ∷ SealName k h.before rest) h.done ∙ ap (λ (q : List (List ℕ)). text_of (sealed k q)) same
