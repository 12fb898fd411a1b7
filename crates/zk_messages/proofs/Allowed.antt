-- What holds of a request that is not refused: it can be decided.
use Rattle.std.proofs.Common.{inl, inr, ◌≡◌, ℕ, ℤ, pos, List, [], ◌∷◌, Option, Some, None, ap, ◌∙◌}
use Rattle.std.specs.Prelude.{All}
use Rattle.std.specs.Cmp.{signed_Decides}
use Rattle.std.proofs.lemmas.List.Elements.{All-nil, All-cons}
use Rattle.std.proofs.lemmas.Option.{none-some}
use Rattle.zk_path.specs.Paths.{IsPathText, IsStemText}
use Rattle.zk_path.proofs.Stable.{CannotFail, holds, carry, dec_of, same_bytes, is_path_text, is_stem_text}
use Rattle.zk_records.specs.declared.acl.Acl.{Acl}
use Rattle.zk_records.specs.declared.create.CreateRequest.{CreateRequest}
use Rattle.zk_records.specs.declared.set_acl.SetAclRequest.{SetAclRequest}
use Rattle.zk_records.specs.declared.set_watches.SetWatches.{SetWatches}
use Rattle.zk_messages.specs.Refuses.{Rule, IsSequential, IsNameFor, IsOpen, ArePaths, IsRootText, open_acl, RefusesPath, RefusesNode, RefusesCreate, RefusesSetAcl, RefusesWatches, RefusesOp, RefusesOps}
use Rattle.zk_messages.specs.declared.request.Op.{Op}

same_int : (x y : ℤ) → CannotFail (x ≡ y) → x ≡ y
same_int x y h = holds (dec_of _ (signed_Decides x y)) h

pub dec_sequential : (flags : ℤ) → Dec (IsSequential flags)
dec_sequential flags = either (dec_of _ (signed_Decides flags (pos 2))) (dec_of _ (signed_Decides flags (pos 3)))
  where
    neither : (flags ≡ pos 2 → ⊥) → (flags ≡ pos 3 → ⊥) → IsSequential flags → ⊥
    neither f g (inl e) = f e
    neither f g (inr e) = g e

    either : Dec (flags ≡ pos 2) → Dec (flags ≡ pos 3) → Dec (IsSequential flags)
    either (yes e) other = yes (inl e)
    either (no f) (yes e) = yes (inr e)
    either (no f) (no g) = no (neither f g)

pub stem_for : (flags : ℤ) (text : List ℕ) → IsSequential flags → IsNameFor flags text → IsStemText text
stem_for flags text is (inl h) = h.1
stem_for flags text is (inr h) = absurd (h.0 is)

pub path_for : (flags : ℤ) (text : List ℕ) → (IsSequential flags → ⊥) → IsNameFor flags text → IsPathText text
path_for flags text other (inl h) = absurd (other h.0)
path_for flags text other (inr h) = h.1

pub is_name_for : (flags : ℤ) (text : List ℕ) → CannotFail (IsNameFor flags text) → IsNameFor flags text
is_name_for flags text h = by_flags (dec_sequential flags)
  where
    by_flags : Dec (IsSequential flags) → IsNameFor flags text
    by_flags (yes is) = inl (is, is_stem_text text (carry h (stem_for flags text is)))
    by_flags (no other) = inr (other, is_path_text text (carry h (path_for flags text other)))

pub are_paths : (list : Option (List (List ℕ))) → CannotFail (ArePaths list) → ArePaths list
are_paths None h = tt
are_paths (Some texts) h = λ k d less. is_path_text _ (carry h (λ all. all k d less))

-- an entry by its fields
abbrev acl_of : ℤ → List ℕ → List ℕ → Acl
acl_of perms scheme id = record { perms = perms; scheme = scheme; id = id }

is_open_acl : (a : Acl) → CannotFail (a ≡ open_acl) → a ≡ open_acl
is_open_acl a h =
    let perms = same_int a.perms open_acl.perms (carry h (ap (λ (x : Acl). x.perms))) in
    let scheme = same_bytes a.scheme open_acl.scheme (carry h (ap (λ (x : Acl). x.scheme))) in
    let id = same_bytes a.id open_acl.id (carry h (ap (λ (x : Acl). x.id))) in
    ap (λ (z : ℤ). acl_of z a.scheme a.id) perms ∙ ap (λ (z : List ℕ). acl_of open_acl.perms z a.id) scheme ∙ ap (acl_of open_acl.perms open_acl.scheme) id

first_same : (a b : Acl) (more : List Acl) → Some (a ∷ more) ≡ Some (b ∷ []) → a ≡ b
first_same a b more e = cc

more_none : (a b c : Acl) (more : List Acl) → Some (a ∷ c ∷ more) ≡ Some (b ∷ []) → ⊥
more_none a b c more e = absurd cc

some_none : (b : Acl) → Some [] ≡ Some (b ∷ []) → ⊥
some_none b e = absurd cc

pub is_open : (list : Option (List Acl)) → CannotFail (IsOpen list) → IsOpen list
is_open None h = absurd (h (none-some _))
is_open (Some []) h = absurd (h (some_none open_acl))
is_open (Some (a ∷ [])) h = ap (λ (x : Acl). Some (x ∷ [])) (is_open_acl a (carry h (first_same a open_acl [])))
is_open (Some (a ∷ b ∷ more)) h = absurd (h (more_none a open_acl b more))

-- ---- rules that do not fit

-- the first rule does not fit, nor does any after it
pub not_first : (Holds : Type 0) (code : ℤ) (Next : Option ℤ → Type 0) → Rule Holds code Next None → (Holds → ⊥) × Next None
unfolding Rule
not_first Holds code Next (inl h) = absurd (none-some code h.1)
not_first Holds code Next (inr h) = h

pub path_allowed : (text : List ℕ) → RefusesPath text None → IsPathText text
path_allowed text h = is_path_text text (not_first _ _ _ h).0

pub node_allowed : (text : List ℕ) → RefusesNode text None → IsPathText text
node_allowed text h = is_path_text text (not_first _ _ _ h).0

-- nor is it the root
pub not_root : (text : List ℕ) → RefusesNode text None → IsRootText text → ⊥
not_root text h = (not_first _ _ _ (not_first _ _ _ h).1).0

pub create_named : (r : CreateRequest) → RefusesCreate r None → IsNameFor r.flags r.path
create_named r h = is_name_for r.flags r.path (not_first _ _ _ h).0

pub create_open : (r : CreateRequest) → RefusesCreate r None → IsOpen r.acls
create_open r h = is_open r.acls (not_first _ _ _ (not_first _ _ _ (not_first _ _ _ (not_first _ _ _ h).1).1).1).0

pub acl_path : (r : SetAclRequest) → RefusesSetAcl r None → IsPathText r.path
acl_path r h = is_path_text r.path (not_first _ _ _ h).0

pub acl_open : (r : SetAclRequest) → RefusesSetAcl r None → IsOpen r.acls
acl_open r h = is_open r.acls (not_first _ _ _ (not_first _ _ _ h).1).0

-- each list of a setWatches has legal paths
pub watches_allowed : (r : SetWatches) → RefusesWatches r None → ArePaths r.content_paths × ArePaths r.exist_paths × ArePaths r.child_paths
watches_allowed r h =
    let first = not_first _ _ _ h in
    let second = not_first _ _ _ first.1 in
    let third = not_first _ _ _ second.1 in
    (are_paths _ first.0, are_paths _ second.0, are_paths _ third.0)

pub ops_allowed : (list : List Op) → RefusesOps list None → All (λ op. RefusesOp op None) list
unfolding RefusesOps
ops_allowed [] h = All-nil (λ op. RefusesOp op None)
ops_allowed (op ∷ list) (inl h) = absurd (none-some h.0 h.2)
ops_allowed (op ∷ list) (inr h) = All-cons (λ op. RefusesOp op None) op list h.0 (ops_allowed list h.1)
