-- From the texts of a request and of its veiled form to paths, contents and creates.
use Rattle.std.proofs.Common.{◌≡◌, ◌⊎◌, ◌↔◌, ℕ, ℤ, pos, Bool, true, false, IsTrue, List, [], ◌∷◌, Option, Some, None, inl, inr, refl, sym, ap, subst, ◌∙◌}
use Rattle.std.specs.Prelude.{All}
use Rattle.std.specs.List.{AllZip}
use Rattle.std.proofs.lemmas.Bool.{false≢true}
use Rattle.std.proofs.lemmas.List.Elements.{All-nil, All-cons, All-head, All-tail}
use Rattle.zk_path.specs.Paths.{IsComponent, IsPath, IsPathText, text_of, IsTextOf, IsNamed}
use Rattle.zk_path.proofs.Judged.{one_text, one_stem_text}
use Rattle.zk_path.proofs.Numbered.{is_numbered}
use Rattle.path_seal.specs.Sealed.{Keys, AreKeys, SealName, sealed}
use Rattle.payload_seal.specs.Payload.{SealData, Accepts}
use Rattle.payload_seal.specs.declared.keys.EntryKeys.{EntryKeys}
use Rattle.payload_seal.proofs.Judged.{accepted_when_sealed, accepted_when_numbered}
use Rattle.zk_records.specs.declared.create.CreateRequest.{CreateRequest}
use Rattle.zk_records.specs.declared.acl.Acl.{Acl}
use Rattle.zk_messages.specs.Refuses.{Rule, IsRootText, IsNameFor, AreFlags, IsOpen, RefusesPath, RefusesNode, RefusesCreate, IsSequential}
use Rattle.zk_messages.proofs.Allowed.{not_root, not_first, create_open}
use Rattle.watch_rewrite.specs.Watches.{SealsText, SealsTexts, SealsList}
use Rattle.request_rewrite.specs.Names.{IsNameOf, SealNameOf}
use Rattle.request_rewrite.specs.Veil.{VeilsCreate as TextCreate}
use Rattle.tree_state.specs.Nodes.{Path}
use Rattle.tree_state.specs.Commands.{AreTextsOf, IsCreate}
use Rattle.store_side.proofs.Zipping.{Zips}
use Rattle.sealed_machine.proofs.SealedNames.{sealed_child, stem_text, sealed_legal, sealed_stem}
use Rattle.sealed_machine.proofs.SealedStates.{Holds, Seals}
use Rattle.sealed_machine.proofs.SealedChanges.{IsLast, IsGiven, VeilsCreate}
unfoldable pub use Rattle.sealed_machine.specs.Veils.{IsBelow}
pub use Rattle.sealed_machine.specs.Veils.{IsIvOf}

-- ---- paths

-- what a plain text and its sealed one say of a path
pub record IsSealedText (k : Keys) (p : Path) (v : List ℕ) : Type 0 where
  pub seals : Seals k p (sealed k p)
  pub asked : IsTextOf v (sealed k p)

-- the text of a path, and its sealed form
pub text_sealed : (k : Keys) → AreKeys k → (text v : List ℕ) (p : Path) → IsTextOf text p → SealsText k text v → IsSealedText k p v
text_sealed k w text v p t s =
    let same : s.path ≡ p = one_text s.path p s.named.legal t.legal (sym s.named.spelled ∙ t.spelled) in
    record {
      seals = record { legal = t.legal; is = refl };
      asked = record { legal = sealed_legal k p w t.legal; spelled = s.is_sealed ∙ ap (λ (x : Path). text_of (sealed k x)) same };
    }

texts_sealed : (k : Keys) → AreKeys k → (texts vs : List (List ℕ)) (ps : List Path) → AllZip IsTextOf texts ps → SealsTexts k texts vs
    → (qs : List Path) × AllZip IsTextOf vs qs × Zips (Seals k) ps qs
unfolding Zips
texts_sealed k w [] [] [] t s = ([], tt, tt)
texts_sealed k w [] [] (p ∷ ps) t s = absurd t
texts_sealed k w [] (v ∷ vs) ps t s = absurd s
texts_sealed k w (x ∷ texts) [] ps t s = absurd s
texts_sealed k w (x ∷ texts) (v ∷ vs) [] t s = absurd t
texts_sealed k w (x ∷ texts) (v ∷ vs) (p ∷ ps) t s =
    let one = text_sealed k w x v p t.0 s.0 in
    let more = texts_sealed k w texts vs ps t.1 s.1 in
    (sealed k p ∷ more.0, (one.asked, more.1), (one.seals, more.2))

nil_zip : (k : Keys) (ps : List Path) → ps ≡ [] → Zips (Seals k) ps []
unfolding Zips
nil_zip k ps e = subst (λ (x : List Path). Zips (Seals k) x []) (sym e) tt

-- the same of a list of texts
pub list_sealed : (k : Keys) → AreKeys k → (texts vs : Option (List (List ℕ))) (ps : List Path) → AreTextsOf texts ps → SealsList k texts vs
    → (qs : List Path) × AreTextsOf vs qs × Zips (Seals k) ps qs
unfolding AreTextsOf
list_sealed k w None None ps t s = ([], refl, nil_zip k ps t)
list_sealed k w None (Some vs) ps t s = absurd s
list_sealed k w (Some texts) None ps t s = absurd s
list_sealed k w (Some texts) (Some vs) ps t s = texts_sealed k w texts vs ps t s

-- ---- contents

holds_sealed : (keys : List (List ℕ)) (iv : List ℕ) (p : Path) (sequential : Bool) (d : Option (List ℕ)) (n name : List ℕ) → IsIvOf keys iv → IsPath p
    → IsLast sequential n → IsGiven sequential n name
    → Holds keys (name ∷ p) d (Some (SealData keys iv (n ∷ p) sequential d))
unfolding Holds IsGiven IsLast
holds_sealed keys iv p false d n name e hp h g = subst (λ (x : List ℕ). Accepts keys (x ∷ p) (SealData keys iv (n ∷ p) false d) d) (sym g) (accepted_when_sealed keys iv (n ∷ p) d e.size e.known)
holds_sealed keys iv p true d n name e hp h g =
    subst (λ (x : List ℕ). Accepts keys (x ∷ p) (SealData keys iv (n ∷ p) true d) d) (sym g.1) (accepted_when_numbered.any_digits keys iv (n ∷ p) _ d e.size e.known (is_numbered (n ∷ p) g.0 (h, hp)).1)

pub holds_below : (keys : List (List ℕ)) (iv : List ℕ) (p : Path) (d : Option (List ℕ)) → IsIvOf keys iv → IsBelow p → Holds keys p d (Some (SealData keys iv p false d))
unfolding Holds IsBelow
holds_below keys iv [] d e f = absurd f
holds_below keys iv (n ∷ p) d e f = accepted_when_sealed keys iv (n ∷ p) d e.size e.known

pub not_below_root : (text : List ℕ) (p : Path) → IsTextOf text p → RefusesNode text None → IsBelow p
unfolding IsBelow text_of
not_below_root text [] t h = not_root text h t.spelled
not_below_root text (n ∷ p) t h = tt

-- ---- create

-- the sealed create
pub record SealedCreate (k : EntryKeys) (r v : CreateRequest) (p : Path) (n : List ℕ) (d : Option (List ℕ)) (sequential ephemeral : Bool) : Type 0 where
  pub y : Option (List ℕ)
  pub asked : IsCreate v (sealed k.names p) (SealName k.names p n) y sequential ephemeral
  pub veils : VeilsCreate k p n d sequential (sealed k.names p) (SealName k.names p n) y

pub same_sequential : (flags : ℤ) (text : List ℕ) (path : Path) (a b : Bool) → IsNameOf flags text a path → (IsTrue b ↔ IsSequential flags) → a ≡ b
unfolding IsNameOf
same_sequential flags text path true true h g = refl
same_sequential flags text path true false h g = absurd (false≢true (g.1 (h.0.0 refl)))
same_sequential flags text path false true h g = absurd (false≢true (h.0.1 (g.0 refl)))
same_sequential flags text path false false h g = refl

-- the path of a create on both sides
same_name : (text : List ℕ) (path : Path) (n : List ℕ) (p : Path) (q : Bool) → IsNamed q text path → IsNamed q text (n ∷ p) → path ≡ n ∷ p
unfolding IsNamed
same_name text path n p true h g = one_stem_text path (n ∷ p) h.0 g.0 (sym h.1 ∙ g.1)
same_name text path n p false h g = one_text path (n ∷ p) h.legal g.legal (sym h.spelled ∙ g.spelled)

pub same_named : (flags : ℤ) (text : List ℕ) (path : Path) (n : List ℕ) (p : Path) (q : Bool) → IsNameOf flags text q path → IsNamed q text (n ∷ p) → path ≡ n ∷ p
unfolding IsNameOf
same_named flags text path n p q h g = same_name text path n p q h.1 g

last_of : (text : List ℕ) (n : List ℕ) (p : Path) (q : Bool) → IsNamed q text (n ∷ p) → IsPath p × IsLast q n
unfolding IsNamed IsLast
last_of text n p true h = (h.0.1, h.0.0)
last_of text n p false h = (All-tail IsComponent n p h.legal, All-head IsComponent n p h.legal)

named_sealed : (k : Keys) → AreKeys k → (v : List ℕ) (n : List ℕ) (p : Path) (q : Bool) → IsPath p → IsLast q n → v ≡ SealNameOf k q (n ∷ p) → IsNamed q v (SealName k p n ∷ sealed k p)
unfolding IsNamed IsLast SealNameOf
named_sealed k w v n p true hp h e = (sealed_stem k p n w h hp, e ∙ stem_text k p n)
named_sealed k w v n p false hp h e = record {
  legal = subst IsPath (sealed_child k p n) (sealed_legal k (n ∷ p) w (All-cons IsComponent n p h hp));
  spelled = e ∙ ap text_of (sealed_child k p n);
}

-- what a sealed create asks
pub sealed_create : (k : EntryKeys) → AreKeys k.names → (ivs : List (List ℕ)) (r v : CreateRequest) (p : Path) (n : List ℕ) (d : Option (List ℕ)) (q e : Bool)
    → All (IsIvOf k.payloads) ivs → TextCreate k ivs r v → IsCreate r p n d q e → SealedCreate k r v p n d q e
sealed_create k w ivs r v p n d q e good t h =
    let same : t.sequential ≡ q = same_sequential r.flags r.path t.path t.sequential q t.named h.numbered in
    let named : IsNameOf r.flags r.path q t.path = subst (λ (b : Bool). IsNameOf r.flags r.path b t.path) same t.named in
    let path : t.path ≡ n ∷ p = same_named r.flags r.path t.path n p q named h.named in
    let parts = last_of r.path n p q h.named in
    let iv : IsIvOf k.payloads t.iv = All-head (IsIvOf k.payloads) t.iv [] (subst (λ (l : List (List ℕ)). All (IsIvOf k.payloads) l) t.one_iv good) in
    let content : v.content ≡ Some (SealData k.payloads t.iv (n ∷ p) q d) = t.sealed_content ∙ (λ i. Some (SealData k.payloads t.iv (path i) (same i) (h.same_content i))) in
    record {
      y = Some (SealData k.payloads t.iv (n ∷ p) q d);
      asked = record {
        named = named_sealed k.names w v.path n p q parts.0 parts.1 (t.sealed_path ∙ (λ i. SealNameOf k.names (same i) (path i)));
        same_content = content;
        numbered = subst (λ (f : ℤ). IsTrue q ↔ IsSequential f) (sym t.same_flags) h.numbered;
        kept = subst (λ (f : ℤ). IsTrue e ↔ ((f ≡ pos 1) ⊎ (f ≡ pos 3))) (sym t.same_flags) h.kept;
      };
      veils = record {
        path = record { legal = parts.0; is = refl };
        name = refl;
        last = parts.1;
        content = λ name g. holds_sealed k.payloads t.iv p q d n name iv parts.0 parts.1 g;
      };
    }

-- ---- what no rule refuses stays so

-- a rule that does not fit
pub rule_passes : (Holds : Type 0) (code : ℤ) (Next : Option ℤ → Type 0) → (Holds → ⊥) → Next None → Rule Holds code Next None
unfolding Rule
rule_passes Holds code Next f n = inr (f, n)

pub path_text : (k : Keys) (p : Path) (v : List ℕ) → IsSealedText k p v → IsPathText v
path_text k p v h = (sealed k p, h.asked.legal, h.asked.spelled)

pub text_of_root : (text : List ℕ) → IsRootText text → text ≡ text_of []
unfolding text_of
text_of_root text e = e

not_root_sealed : (k : Keys) (n : List ℕ) (p : Path) → sealed k (n ∷ p) ≡ [] → ⊥
not_root_sealed k n p e = let f : SealName k p n ∷ sealed k p ≡ [] = sym (sealed_child k p n) ∙ e in cc

-- a sealed path is the root's only where the path is
sealed_below : (k : Keys) (p : Path) (v : List ℕ) → IsBelow p → IsSealedText k p v → IsRootText v → ⊥
unfolding IsBelow
sealed_below k [] v f h e = f
sealed_below k (n ∷ p) v f h e = not_root_sealed k n p (one_text (sealed k (n ∷ p)) [] h.asked.legal (All-nil IsComponent) (sym h.asked.spelled ∙ text_of_root v e))

-- no rule for paths refuses a sealed path
pub path_allows : (k : Keys) (p : Path) (v : List ℕ) → IsSealedText k p v → RefusesPath v None
path_allows k p v h = rule_passes _ _ _ (λ f. f (path_text k p v h)) refl

-- nor one for nodes below the root
pub node_allows : (k : Keys) (p : Path) (v : List ℕ) → IsBelow p → IsSealedText k p v → RefusesNode v None
node_allows k p v b h = rule_passes _ _ _ (λ f. f (path_text k p v h)) (rule_passes _ _ _ (sealed_below k p v b h) refl)

name_for : (flags : ℤ) (text : List ℕ) (q : Bool) (m : List ℕ) (p : Path) → IsNamed q text (m ∷ p) → (IsTrue q ↔ IsSequential flags) → IsNameFor flags text
unfolding IsNamed
name_for flags text true m p h g = inl (g.0 refl, (m ∷ p, h.0, h.1))
name_for flags text false m p h g = inr ((λ t. false≢true (g.1 t)), (m ∷ p, h.legal, h.spelled))

not_root_named : (text : List ℕ) (q : Bool) (m : List ℕ) (p : Path) → IsNamed q text (m ∷ p) → (IsTrue q → ⊥) → IsRootText text → ⊥
unfolding IsNamed
not_root_named text true m p h f e = f refl
not_root_named text false m p h f e = let g = one_text (m ∷ p) [] h.legal (All-nil IsComponent) (sym h.spelled ∙ text_of_root text e) in cc

pub open_same : (a b : Option (List Acl)) → b ≡ a → IsOpen a → IsOpen b
open_same a b e h = e ∙ h

-- nor one for creates
pub create_allows : (k : EntryKeys) → AreKeys k.names → (r v : CreateRequest) (p : Path) (n : List ℕ) (d : Option (List ℕ)) (q e : Bool) → RefusesCreate r None
    → v.flags ≡ r.flags → v.acls ≡ r.acls → SealedCreate k r v p n d q e → RefusesCreate v None
create_allows k w r v p n d q e h flags acls s =
    rule_passes _ _ _ (λ f. f (name_for v.flags v.path q (SealName k.names p n) (sealed k.names p) s.asked.named s.asked.numbered))
    (rule_passes _ _ _ (λ g. not_root_named v.path q (SealName k.names p n) (sealed k.names p) s.asked.named (λ t. g.1 (s.asked.numbered.0 t)) g.0)
    (rule_passes _ _ _ (λ f. (not_first _ _ _ (not_first _ _ _ (not_first _ _ _ h).1).1).0 (λ g. f (subst AreFlags (sym flags) g)))
    (rule_passes _ _ _ (λ f. f (open_same r.acls v.acls acls (create_open r h))) refl)))
