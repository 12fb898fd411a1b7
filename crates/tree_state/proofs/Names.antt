-- The name of a new node is the one of the naming.
use Rattle.std.proofs.Common.{◌≡◌, ℕ, Bool, true, false, List, [], ◌∷◌, ◌++◌, Option, Some, None, IsTrue, refl, sym, ap, subst, ◌∙◌}
use Rattle.std.proofs.lemmas.List.Elements.{All-tail}
use Rattle.zk_path.specs.Paths.{IsComponent, IsPath, IsStem, joined, text_of, IsTextOf, IsNamed}
use Rattle.zk_path.specs.Numbers.{IsNumberingOf}
use Rattle.zk_records.specs.declared.create.CreateRequest.{CreateRequest}
use Rattle.zk_messages.specs.Refuses.{IsSequential}
use Rattle.tree_state.specs.Nodes.{Path, Node}
use Rattle.tree_state.specs.Commands.{IsCreate}
use Rattle.tree_state.specs.Changes.{Naming, name_for}
use Rattle.tree_state.specs.Trees.{IsNaming, IsNameOf, IsNamedTo, name_at}

-- the same name whether it is asked of the parent or of its count
pub name_of_parent : (naming : Naming) (p : Path) (n : List ℕ) (q : Bool) (up : Node) (creations : ℕ) → creations ≡ up.numbers.creations → name_for naming p n q up ≡ name_at naming p n q creations
unfolding name_for name_at
name_of_parent naming p n true up creations e = ap (naming p n) (sym e)
name_of_parent naming p n false up creations e = refl

-- ---- the name of a node that is not sequential

pub named_plainly : (naming : Naming) (r : CreateRequest) (p : Path) (n : List ℕ) (d : Option (List ℕ)) (q e : Bool) (creations : ℕ) (text : List ℕ) → IsCreate r p n d q e → (IsSequential r.flags → ⊥) → text ≡ r.path
    → IsNamedTo p (Some text) (name_at naming p n q creations)
unfolding IsNamedTo name_at IsNamed
named_plainly naming r p n d true e creations text h not same = absurd (not (h.numbered.0 refl))
named_plainly naming r p n d false e creations text h not same = (n, refl, subst (λ (x : List ℕ). IsTextOf x (n ∷ p)) (sym same) h.named)

-- ---- the name of a sequential one

same_last : (p : Path) (m n : List ℕ) → joined (m ∷ p) ≡ joined (n ∷ p) → m ≡ n
unfolding joined
same_last p m n e = drop_front (joined p) m n e
  where
    drop_front : (l x y : List ℕ) → l ++ 47 ∷ x ≡ l ++ 47 ∷ y → x ≡ y
    drop_front [] x y h = cc
    drop_front (b ∷ l) x y h = drop_front l x y cc

-- a name that stands where its stem stands is a legal path's text
legal_name : (stem text : List ℕ) (p : Path) (n m : List ℕ) → IsNumberingOf stem text → IsStem (n ∷ p) → stem ≡ joined (n ∷ p) → text ≡ text_of (m ∷ p) → IsTextOf text (m ∷ p)
unfolding text_of
legal_name stem text p n m k s e t =
    let l = k.legal n p s e in
    let same : l.0 ≡ m = same_last p l.0 m (sym l.2 ∙ t) in
    record { legal = subst (λ (x : List ℕ). IsPath (x ∷ p)) same l.1; spelled = t }

abbrev pub Laws : (List ℕ → ℕ → List ℕ → Type 0) → Type 0
Laws named =
    ((stem : List ℕ) (number : ℕ) (text : List ℕ) → named stem number text → IsNumberingOf stem text)
    × ((stem : List ℕ) (number : ℕ) (text other : List ℕ) → named stem number text → named stem number other → text ≡ other)

named_as : (named : List ℕ → ℕ → List ℕ → Type 0) (laws : Laws named) (p : Path) (n : List ℕ) (i : ℕ) (text : List ℕ) (name : Option (List ℕ)) → IsStem (n ∷ p) → named (joined (n ∷ p)) i text
    → IsNameOf (named (joined (n ∷ p)) i) p name → IsNamedTo p (Some text) name
unfolding IsNameOf IsNamedTo
named_as named laws p n i text None s g h = absurd (h text g)
named_as named laws p n i text (Some m) s g h = (m, refl, legal_name _ text p n m (laws.0 _ i text g) s refl (laws.1 _ i text (text_of (m ∷ p)) g h))

off : IsTrue false → ⊥
off h = cc

pub named_by_number : (named : List ℕ → ℕ → List ℕ → Type 0) (laws : Laws named) (naming : Naming) (r : CreateRequest) (p : Path) (n : List ℕ) (d : Option (List ℕ)) (q e : Bool) (i : ℕ) (text : List ℕ)
    → IsNaming named naming → IsCreate r p n d q e → IsSequential r.flags → named r.path i text → IsNamedTo p (Some text) (name_at naming p n q i)
unfolding name_at IsNamed
named_by_number named laws naming r p n d false e i text k h seq g = absurd (off (h.numbered.1 seq))
named_by_number named laws naming r p n d true e i text k h seq g =
    named_as named laws p n i text (naming p n i) h.named.0 (subst (λ (x : List ℕ). named x i text) h.named.1 g) (k.each n p i h.named.0)

unnamed : (named : List ℕ → ℕ → List ℕ → Type 0) (p : Path) (n : List ℕ) (i : ℕ) (name : Option (List ℕ)) → ((text : List ℕ) → named (joined (n ∷ p)) i text → ⊥)
    → IsNameOf (named (joined (n ∷ p)) i) p name → IsNamedTo p None name
unfolding IsNameOf IsNamedTo
unnamed named p n i None g h = refl
unnamed named p n i (Some m) g h = absurd (g _ h)

pub not_named : (named : List ℕ → ℕ → List ℕ → Type 0) (naming : Naming) (r : CreateRequest) (p : Path) (n : List ℕ) (d : Option (List ℕ)) (q e : Bool) (i : ℕ)
    → IsNaming named naming → IsCreate r p n d q e → IsSequential r.flags → ((text : List ℕ) → named r.path i text → ⊥) → IsNamedTo p None (name_at naming p n q i)
unfolding name_at IsNamed
not_named named naming r p n d false e i k h seq g = absurd (off (h.numbered.1 seq))
not_named named naming r p n d true e i k h seq g =
    unnamed named p n i (naming p n i) (λ text x. g text (subst (λ (y : List ℕ). named y i text) (sym h.named.1) x)) (k.each n p i h.named.0)

-- ---- the parent of a new node

-- the text before the last slash is the parent's, of a path and of a stem
pub parent_text : (text parent : List ℕ) (q : Bool) (n : List ℕ) (p : Path) → IsNamed q text (n ∷ p) → (IsTextOf text (n ∷ p) → parent ≡ text_of p) → (IsStem (n ∷ p) → text ≡ joined (n ∷ p) → parent ≡ text_of p) → IsTextOf parent p
unfolding IsNamed
parent_text text parent true n p h f g = record { legal = h.0.1; spelled = g h.0 h.1 }
parent_text text parent false n p h f g = record { legal = All-tail IsComponent n p h.legal; spelled = f h }
