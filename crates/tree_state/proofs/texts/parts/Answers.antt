use Rattle.std.proofs.Common.{◌≡◌, ◌≢◌, ℕ, ◌<◌, Bool, true, false, List, [], ◌∷◌, ◌++◌, length, get_or, Option, Some, None, MatchOption, Bor, refl, sym, ap, ◌∙◌, arith}
use Rattle.std.specs.Prelude.{◌==◌, All}
use Rattle.std.specs.Str.Pattern.{RFindsChar, SplitsAroundMatch}
use Rattle.std.proofs.lemmas.Bool.{eqb-true, eqb-false}
use Rattle.std.proofs.lemmas.List.{nil_from_length}
use Rattle.zk_path.specs.Paths.{HasNoSlash, IsStem, joined, text_of, IsTextOf}
use Rattle.zk_path.specs.View.{components}
use Rattle.zk_path.proofs.Components.{components-joined}
use Rattle.zk_path.proofs.Cuts.{rsplit_parts}
use Rattle.zk_path.proofs.Judged.{plain, stem_plain}
use Rattle.zk_path.proofs.Values.{is_held, cut_at, no_cut}
use Rattle.tree_state.specs.Nodes.{Path}
use Rattle.tree_state.proofs.texts.parts.Goals as goal

-- a text that holds these components, each after a slash
record HasParts (text : List ℕ) (p : Path) : Type 0 where
  free : All HasNoSlash p
  whole : text ≡ joined p

path_parts : (text n : List ℕ) (p : Path) → IsTextOf text (n ∷ p) → HasParts text (n ∷ p)
unfolding text_of
path_parts text n p h = record { free = plain (n ∷ p) h.legal; whole = h.spelled }

stem_parts : (text n : List ℕ) (p : Path) → IsStem (n ∷ p) → text ≡ joined (n ∷ p) → HasParts text (n ∷ p)
stem_parts text n p s e = record { free = stem_plain (n ∷ p) s; whole = e }

held : (text n : List ℕ) (p : Path) → HasParts text (n ∷ p) → (components text ≡ n ∷ p) × (joined (components text) ≡ text)
held text n p h = (ap components h.whole ∙ components-joined (n ∷ p) h.free, is_held text (n ∷ p) h.free h.whole)

-- it has a slash
has_slash : (text n : List ℕ) (p : Path) → HasParts text (n ∷ p) → ((i : ℕ) → i < length text → get_or text i 0 ≢ 47) → ⊥
has_slash text n p h none =
    let k = held text n p h in
    let e : n ∷ p ≡ [] = sym k.0 ∙ no_cut text k.1 none in
    absurd (cc)

-- its last slash parts it
cut_there : (text above name n : List ℕ) (p : Path) → HasParts text (n ∷ p) → (text ≡ above ++ 47 ∷ name) → HasNoSlash name → (above ≡ joined p) × (name ≡ n)
cut_there text above name n p h split free =
    let k = held text n p h in
    let cut = cut_at text above name k.1 free split in
    let e : name ∷ cut.parts ≡ n ∷ p = sym cut.whole ∙ k.0 in
    let q : cut.parts ≡ p = cc in
    (cut.upper ∙ ap joined q, cc)

under_root : (above : List ℕ) (p : Path) → above ≡ joined p → above ≡ [] → 47 ∷ [] ≡ text_of p
unfolding joined text_of
under_root above [] e h = refl
under_root above (n ∷ p) e h = absurd (no_end (joined p) n (sym e ∙ h))
  where
    no_end : (l : List ℕ) (m : List ℕ) → l ++ 47 ∷ m ≡ [] → ⊥
    no_end [] m g = cc
    no_end (b ∷ l) m g = cc

under_other : (above : List ℕ) (p : Path) → above ≡ joined p → above ≢ [] → above ≡ text_of p
unfolding joined text_of
under_other above [] e h = absurd (h e)
under_other above (n ∷ p) e h = e

no_split : (text : List ℕ) (r : Option (Bor (List ℕ) × Bor (List ℕ))) (n : List ℕ) (p : Path)
    → MatchOption r (RFindsChar 47 text None) (λ x. SplitsAroundMatch (RFindsChar 47) text x.0.now x.1.now) → r ≡ None → HasParts text (n ∷ p) → ⊥
no_split text None n p h e k = has_slash text n p k (rsplit_parts 47 text None h (omega arith))
no_split text (Some x) n p h e k = absurd cc

split_root : (text : List ℕ) (x : Bor (List ℕ) × Bor (List ℕ)) (b : Bool) (n : List ℕ) (p : Path)
    → SplitsAroundMatch (RFindsChar 47) text x.0.now x.1.now → b ≡ (length x.0.now == 0) → b ≡ true → HasParts text (n ∷ p)
    → (47 ∷ [] ≡ text_of p) × (x.1.now ≡ n)
split_root text x b n p h test e k =
    let parts = rsplit_parts 47 text (Some x) h (omega arith) in
    let cut = cut_there text x.0.now x.1.now n p k parts.0 parts.1 in
    (under_root x.0.now p cut.0 (nil_from_length _ (eqb-true _ _ (sym test ∙ e))), cut.1)

split_other : (text : List ℕ) (x : Bor (List ℕ) × Bor (List ℕ)) (b : Bool) (n : List ℕ) (p : Path)
    → SplitsAroundMatch (RFindsChar 47) text x.0.now x.1.now → b ≡ (length x.0.now == 0) → b ≡ false → HasParts text (n ∷ p)
    → (x.0.now ≡ text_of p) × (x.1.now ≡ n)
split_other text x b n p h test e k =
    let parts = rsplit_parts 47 text (Some x) h (omega arith) in
    let cut = cut_there text x.0.now x.1.now n p k parts.0 parts.1 in
    (under_other x.0.now p cut.0 (λ z. eqb-false _ _ (sym test ∙ e) (ap length z)), cut.1)

pub returns-in_default-clause-path : goal.returns-in_default-clause-path
returns-in_default-clause-path c = λ n p h. absurd (no_split c.args.path.now c.rsplit_once.result n p c.rsplit_once.ensures.cases c.in_default.is (path_parts _ n p h))

pub returns-in_default-clause-stem : goal.returns-in_default-clause-stem
returns-in_default-clause-stem c = λ n p s e. absurd (no_split c.args.path.now c.rsplit_once.result n p c.rsplit_once.ensures.cases c.in_default.is (stem_parts _ n p s e))

pub returns-then-is_empty-clause-path : goal.returns-then-is_empty-clause-path
returns-then-is_empty-clause-path c = λ n p h. split_root c.args.path.now (c.in-Some.parent, c.in-Some.name) c.is_empty.result n p c.in-Some.ensures.cases c.is_empty.ensures c.if-is_empty.true (path_parts _ n p h)

pub returns-then-is_empty-clause-stem : goal.returns-then-is_empty-clause-stem
returns-then-is_empty-clause-stem c = λ n p s e. split_root c.args.path.now (c.in-Some.parent, c.in-Some.name) c.is_empty.result n p c.in-Some.ensures.cases c.is_empty.ensures c.if-is_empty.true (stem_parts _ n p s e)

pub returns-clause-path : goal.returns-clause-path
returns-clause-path c = λ n p h. split_other c.args.path.now (c.in-Some.parent, c.in-Some.name) c.is_empty.result n p c.in-Some.ensures.cases c.is_empty.ensures c.if-is_empty.false (path_parts _ n p h)

pub returns-clause-stem : goal.returns-clause-stem
returns-clause-stem c = λ n p s e. split_other c.args.path.now (c.in-Some.parent, c.in-Some.name) c.is_empty.result n p c.in-Some.ensures.cases c.is_empty.ensures c.if-is_empty.false (stem_parts _ n p s e)
