-- Each request that is not refused asks for a command.
use Rattle.std.proofs.Common.{◌≡◌, ◌↔◌, ℕ, ℤ, pos, List, [], ◌∷◌, Bool, true, false, Option, Some, None, IsTrue, refl, inl, inr}
use Rattle.std.specs.Prelude.{All}
use Rattle.std.specs.Cmp.{signed_Decides}
use Rattle.std.specs.List.{AllZip}
use Rattle.std.proofs.lemmas.Bool.{false≢true}
use Rattle.std.proofs.lemmas.List.Elements.{All-head, All-tail}
use Rattle.std.proofs.lemmas.Option.{none-some}
use Rattle.zk_path.specs.Paths.{text_of, IsPathText, IsStemText, IsTextOf, IsNamed}
use Rattle.zk_path.proofs.Stable.{dec_of}
use Rattle.zk_records.specs.declared.create.CreateRequest.{CreateRequest}
use Rattle.zk_messages.specs.Refuses.{Refuses, RefusesCreate, RefusesOp, IsRootText, IsSequential, ArePaths}
use Rattle.zk_messages.specs.declared.request.Op.{Op}
use Rattle.zk_messages.specs.declared.request.Op.TheVariants as ops
use Rattle.zk_messages.specs.declared.request.Request.{Request}
use Rattle.zk_messages.specs.declared.request.Request.TheVariants as requests
use Rattle.zk_messages.proofs.Allowed.{path_allowed, node_allowed, create_named, acl_path, watches_allowed, ops_allowed, dec_sequential, stem_for, path_for, not_first}
use Rattle.tree_state.specs.Nodes.{Path}
use Rattle.tree_state.specs.Commands.{Change, create, delete, set_content, check, Command, single, multi, set_acl, stat_at, get_content, get_acl, get_children, sync, ping, set_watches, close, AreTextsOf, IsEphemeral, IsCreate, IsChange, Asks}

-- ---- texts

a_path : (text : List ℕ) → IsPathText text → (p : Path) × IsTextOf text p
a_path text h = (h.0, record { legal = h.1; spelled = h.2 })

some_paths : (texts : List (List ℕ)) → All IsPathText texts → (ps : List Path) × AllZip IsTextOf texts ps
some_paths [] h = ([], tt)
some_paths (t ∷ ts) h =
    let first = a_path t (All-head IsPathText t ts h) in
    let more = some_paths ts (All-tail IsPathText t ts h) in
    (first.0 ∷ more.0, (first.1, more.1))

all_paths : (list : Option (List (List ℕ))) → ArePaths list → (ps : List Path) × AreTextsOf list ps
unfolding AreTextsOf
all_paths None h = ([], refl)
all_paths (Some texts) h = some_paths texts h

-- ---- flags

-- a boolean that says whether it holds
said : {P : Type 0} → Dec P → (b : Bool) × (IsTrue b ↔ P)
said {P} (yes p) = (true, (λ _. p, λ _. refl))
said {P} (no other) = (false, (λ f. absurd (false≢true f), λ p. absurd (other p)))

dec_ephemeral : (flags : ℤ) → Dec (IsEphemeral flags)
dec_ephemeral flags = either (dec_of _ (signed_Decides flags (pos 1))) (dec_of _ (signed_Decides flags (pos 3)))
  where
    neither : (flags ≡ pos 1 → ⊥) → (flags ≡ pos 3 → ⊥) → IsEphemeral flags → ⊥
    neither f g (inl e) = f e
    neither f g (inr e) = g e

    either : Dec (flags ≡ pos 1) → Dec (flags ≡ pos 3) → Dec (IsEphemeral flags)
    either (yes e) other = yes (inl e)
    either (no f) (yes e) = yes (inr e)
    either (no f) (no g) = no (neither f g)

-- ---- create

-- what a create names, below its parent
record Named (r : CreateRequest) : Type 0 where
  path : Path
  name : List ℕ
  sequential : Bool
  named : IsNamed sequential r.path (name ∷ path)
  numbered : IsTrue sequential ↔ IsSequential r.flags

by_stem : (r : CreateRequest) → IsSequential r.flags → IsStemText r.path → Named r
unfolding IsNamed said
by_stem r is ([], h, e) = absurd h
by_stem r is (n ∷ p, h, e) = record { path = p; name = n; sequential = true; named = (h, e); numbered = (said (yes is)).1 }

by_path : (r : CreateRequest) → (IsSequential r.flags → ⊥) → (IsRootText r.path → ⊥) → IsPathText r.path → Named r
unfolding IsNamed text_of said
by_path r other below ([], h, e) = absurd (below e)
by_path r other below (n ∷ p, h, e) = record { path = p; name = n; sequential = false; named = record { legal = h; spelled = e }; numbered = (said (no other)).1 }

by_flags : (r : CreateRequest) → RefusesCreate r None → Dec (IsSequential r.flags) → Named r
by_flags r h (yes is) = by_stem r is (stem_for r.flags r.path is (create_named r h))
by_flags r h (no other) = by_path r other (λ e. (not_first _ _ _ (not_first _ _ _ h).1).0 (e, other)) (path_for r.flags r.path other (create_named r h))

-- a create that is not refused, with its parts
record Created (r : CreateRequest) : Type 0 where
  path : Path
  name : List ℕ
  sequential : Bool
  ephemeral : Bool
  asked : IsCreate r path name r.content sequential ephemeral

created : (r : CreateRequest) → RefusesCreate r None → Created r
created r h =
    let n = by_flags r h (dec_sequential r.flags) in
    let e = said (dec_ephemeral r.flags) in
    record {
      path = n.path;
      name = n.name;
      sequential = n.sequential;
      ephemeral = e.0;
      asked = record { named = n.named; same_content = refl; numbered = n.numbered; kept = e.1 };
    }

-- ---- operations of a multi

a_change : (op : Op) → RefusesOp op None → (change : Change) × IsChange op change
unfolding IsChange
a_change (ops.Create r) h = let k = created r h in (create k.path k.name r.content k.sequential k.ephemeral false, (k.asked, refl))
a_change (ops.Create2 r) h = let k = created r h in (create k.path k.name r.content k.sequential k.ephemeral true, (k.asked, refl))
a_change (ops.Delete r) h = let k = a_path r.path (node_allowed r.path h) in (delete k.0 r.version, (k.1, refl))
a_change (ops.SetContent r) h = let k = a_path r.path (node_allowed r.path h) in (set_content k.0 r.content r.version, (k.1, refl, refl))
a_change (ops.Check r) h = let k = a_path r.path (path_allowed r.path h) in (check k.0 r.version, (k.1, refl))

some_changes : (list : List Op) → All (λ op. RefusesOp op None) list → (changes : List Change) × AllZip IsChange list changes
some_changes [] h = ([], tt)
some_changes (op ∷ list) h =
    let first = a_change op (All-head (λ op. RefusesOp op None) op list h) in
    let more = some_changes list (All-tail (λ op. RefusesOp op None) op list h) in
    (first.0 ∷ more.0, (first.1, more.1))

-- ---- requests

pub some_asked : (r : Request) → Refuses r None → (command : Command) × Asks r command
unfolding Refuses Asks
some_asked (requests.Unknown kind body) h = absurd (none-some _ h)
some_asked (requests.Auth body) h = absurd (none-some _ h)
some_asked (requests.Create r) h = let k = created r h in (single (create k.path k.name r.content k.sequential k.ephemeral false), (k.asked, refl))
some_asked (requests.Create2 r) h = let k = created r h in (single (create k.path k.name r.content k.sequential k.ephemeral true), (k.asked, refl))
some_asked (requests.Delete r) h = let k = a_path r.path (node_allowed r.path h) in (single (delete k.0 r.version), (k.1, refl))
some_asked (requests.Exists r) h = let k = a_path r.path (path_allowed r.path h) in (stat_at k.0 r.watch, (k.1, refl))
some_asked (requests.GetContent r) h = let k = a_path r.path (node_allowed r.path h) in (get_content k.0 r.watch, (k.1, refl))
some_asked (requests.SetContent r) h = let k = a_path r.path (node_allowed r.path h) in (single (set_content k.0 r.content r.version), (k.1, refl, refl))
some_asked (requests.GetAcl r) h = let k = a_path r.path (path_allowed r.path h) in (get_acl k.0, k.1)
some_asked (requests.SetAcl r) h = let k = a_path r.path (acl_path r h) in (set_acl k.0 r.version, (k.1, refl))
some_asked (requests.GetChildren r) h = let k = a_path r.path (path_allowed r.path h) in (get_children k.0 r.watch false, (k.1, refl, refl))
some_asked (requests.GetChildren2 r) h = let k = a_path r.path (path_allowed r.path h) in (get_children k.0 r.watch true, (k.1, refl, refl))
some_asked (requests.Sync r) h = let k = a_path r.path (path_allowed r.path h) in (sync k.0, k.1)
some_asked requests.Ping h = (ping, tt)
some_asked (requests.Multi list) h = let k = some_changes list (ops_allowed list h) in (multi k.0, k.1)
some_asked (requests.SetWatches r) h =
    let all = watches_allowed r h in
    let a = all_paths r.content_paths all.0 in
    let b = all_paths r.exist_paths all.1 in
    let c = all_paths r.child_paths all.2 in
    (set_watches r.seen a.0 b.0 c.0, (refl, a.1, b.1, c.1))
some_asked requests.Close h = (close, tt)
