-- Sealed names are a naming: whether a text is a sealed stem's can be decided.
use Rattle.std.proofs.Common.{◌≡◌, ℕ, List, [], ◌∷◌, ◌++◌, Option, Some, None, sym, ap, ◌∙◌}
use Rattle.std.proofs.lemmas.List.Elements.{All-nil, All-cons, All-head, All-tail}
use Rattle.zk_path.specs.Paths.{IsComponent, IsPath, IsStem, IsStemEnd, joined, text_of}
use Rattle.zk_path.specs.Numbers.{ten_digits}
use Rattle.zk_path.proofs.Judged.{one_stem_text}
use Rattle.path_seal.specs.Sealed.{Keys, AreKeys, SealName, sealed, OpensName}
use Rattle.counter_enclave.specs.Enclave.{IsSealedName}
use Rattle.tree_state.specs.Nodes.{Path}
use Rattle.tree_state.specs.Changes.{Naming}
use Rattle.tree_state.specs.Trees.{IsNameOf}
use Rattle.sealed_machine.specs.Laws.{HasSealedNaming}
use Rattle.sealed_machine.proofs.SealedNames.{sealed_root, sealed_child, sealed_stem, stem_text, numbered_text, one_path, dec_name, dec_end}

-- the legal path whose sealed form this is
record IsOpenPath (k : Keys) (p : Path) : Type 0 where
  plain : Path
  legal : IsPath plain
  is : sealed k plain ≡ p

-- the legal stem whose sealed form this is
record IsOpenStem (k : Keys) (n : List ℕ) (p : Path) : Type 0 where
  above : Path
  end : List ℕ
  legal : IsPath above
  ends : IsStemEnd end
  same_above : sealed k above ≡ p
  same_end : SealName k above end ≡ n

module _ (k : Keys) (w : AreKeys k) where
  -- the parent of a sealed path opens, and its last name under that
  cut : (n : List ℕ) (p r : Path) → IsPath r → sealed k r ≡ n ∷ p → (q : Path) × (m : List ℕ) × IsPath q × IsComponent m × (sealed k q ≡ p) × (SealName k q m ≡ n)
  cut n p [] h e = let f : [] ≡ n ∷ p = sym (sealed_root k) ∙ e in absurd cc
  cut n p (m ∷ q) h e =
      let f : SealName k q m ∷ sealed k q ≡ n ∷ p = sym (sealed_child k q m) ∙ e in
      let above : sealed k q ≡ p = cc in
      let name : SealName k q m ≡ n = cc in
      (q, m, All-tail IsComponent m q h, All-head IsComponent m q h, above, name)

  same_above : (p q r : Path) → IsPath q → IsPath r → sealed k q ≡ p → sealed k r ≡ p → r ≡ q
  same_above p q r hq hr e f = one_path k w r q hr hq (f ∙ sym e)

  dec_child : (n : List ℕ) (p : Path) (h : IsOpenPath k p) → Dec ((m : List ℕ) × OpensName k h.plain n m) → Dec (IsOpenPath k (n ∷ p))
  dec_child n p h (yes m) = yes (record { plain = m.0 ∷ h.plain; legal = All-cons IsComponent m.0 h.plain m.1.0 h.legal; is = sealed_child k h.plain m.0 ∙ (λ i. m.1.1 i ∷ h.is i) })
  dec_child n p h (no f) = no (λ g. let c = cut n p g.plain g.legal g.is in
      let same = same_above p h.plain c.0 h.legal c.2 h.is c.4 in
      f (c.1, (c.3, ap (λ (q : Path). SealName k q c.1) (sym same) ∙ c.5)))

  dec_below : (n : List ℕ) (p : Path) → Dec (IsOpenPath k p) → Dec (IsOpenPath k (n ∷ p))
  dec_below n p (yes h) = dec_child n p h (dec_name k h.plain n)
  dec_below n p (no f) = no (λ g. let c = cut n p g.plain g.legal g.is in f (record { plain = c.0; legal = c.2; is = c.4 }))

  dec_path : (p : Path) → Dec (IsOpenPath k p)
  dec_path [] = yes (record { plain = []; legal = All-nil IsComponent; is = sealed_root k })
  dec_path (n ∷ p) = dec_below n p (dec_path p)

  dec_last : (n : List ℕ) (p : Path) (h : IsOpenPath k p) → Dec ((m : List ℕ) × IsStemEnd m × (SealName k h.plain m ≡ n)) → Dec (IsOpenStem k n p)
  dec_last n p h (yes m) = yes (record { above = h.plain; end = m.0; legal = h.legal; ends = m.1; same_above = h.is; same_end = m.2 })
  dec_last n p h (no f) = no (λ g.
      let same = same_above p h.plain g.above h.legal g.legal h.is g.same_above in
      f (g.end, g.ends, ap (λ (q : Path). SealName k q g.end) (sym same) ∙ g.same_end))

  dec_under : (n : List ℕ) (p : Path) → Dec (IsOpenPath k p) → Dec (IsOpenStem k n p)
  dec_under n p (yes h) = dec_last n p h (dec_end k h.plain n)
  dec_under n p (no f) = no (λ g. f (record { plain = g.above; legal = g.legal; is = g.same_above }))

  dec_stem : (n : List ℕ) (p : Path) → Dec (IsOpenStem k n p)
  dec_stem n p = dec_under n p (dec_path p)

  -- the sealed name of the stem with the number, where there is a stem
  name_if : (n : List ℕ) (p : Path) (i : ℕ) → Dec (IsOpenStem k n p) → Option (List ℕ)
  name_if n p i (yes h) = Some (SealName k h.above (h.end ++ ten_digits i))
  name_if n p i (no f) = None

  sealed_naming : Naming
  sealed_naming p n i = name_if n p i (dec_stem n p)

  -- a sealed name is that of a stem
  is_open : (n : List ℕ) (p s : Path) → IsStem (n ∷ p) → IsStem s → joined (n ∷ p) ≡ joined (sealed k s) → IsOpenStem k n p
  is_open n p [] h j e = absurd j
  is_open n p (m ∷ q) h j e =
      let f : n ∷ p ≡ SealName k q m ∷ sealed k q = one_stem_text (n ∷ p) (SealName k q m ∷ sealed k q) h (sealed_stem k q m w j.0 j.1) (e ∙ stem_text k q m) in
      let above : sealed k q ≡ p = cc in
      let name : SealName k q m ≡ n = cc in
      record { above = q; end = m; legal = j.1; ends = j.0; same_above = above; same_end = name }

  is_named : (n : List ℕ) (p : Path) (i : ℕ) (d : Dec (IsOpenStem k n p)) → IsStem (n ∷ p) → IsNameOf (IsSealedName k (joined (n ∷ p)) i) p (name_if n p i d)
  unfolding IsNameOf name_if
  is_named n p i (no f) h = λ text g. f (is_open n p g.parts h g.legal g.asked)
  is_named n p i (yes s) h = record {
    whole = w;
    parts = s.end ∷ s.above;
    legal = (s.ends, s.legal);
    asked = (λ j. joined (sym s.same_end j ∷ sym s.same_above j)) ∙ sym (stem_text k s.above s.end);
    given = ap (λ (q : Path). text_of (SealName k s.above (s.end ++ ten_digits i) ∷ q)) (sym s.same_above) ∙ sym (numbered_text k s.above s.end i);
  }

pub has_sealed_naming : HasSealedNaming
unfolding sealed_naming
has_sealed_naming k w = (sealed_naming k w, record { each = λ n p i h. is_named k w n p i (dec_stem k w n p) h })
