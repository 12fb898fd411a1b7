-- The veiled form of a request asks for the sealed form of its command.
use Rattle.std.proofs.Common.{◌≡◌, ℕ, ℤ, true, false, List, [], ◌∷◌, ◌++◌, Option, Some, None, inl, inr, refl, sym, subst, ◌∙◌}
use Rattle.std.specs.Prelude.{All}
use Rattle.std.specs.List.{AllZip}
use Rattle.std.proofs.lemmas.List.Elements.{All-nil, All-cons, All-head, All-tail}
use Rattle.zk_path.specs.Paths.{IsComponent, IsPathText}
use Rattle.zk_path.proofs.Judged.{one_text}
use Rattle.path_seal.specs.Sealed.{Keys, AreKeys, SealName, sealed}
use Rattle.payload_seal.specs.Payload.{SealData}
use Rattle.payload_seal.specs.declared.keys.EntryKeys.{EntryKeys}
use Rattle.zk_records.specs.declared.create.CreateRequest.{CreateRequest}
use Rattle.zk_messages.specs.Refuses.{Refuses, RefusesOp, RefusesOps, RefusesCreate}
use Rattle.zk_messages.specs.declared.request.Op.{Op}
use Rattle.zk_messages.specs.declared.request.Op.TheVariants as ops
use Rattle.zk_messages.specs.declared.request.Request.{Request}
use Rattle.zk_messages.specs.declared.request.Request.TheVariants as requests
use Rattle.zk_messages.proofs.Allowed.{acl_open, ops_allowed}
use Rattle.watch_rewrite.specs.Watches.{SealsTexts, SealsList}
use Rattle.request_rewrite.specs.Veil.{VeilsCreate as TextCreate, VeilsOp, VeilsOps, Veils, Veil, stand_in}
use Rattle.tree_state.specs.Commands.{Change, create, delete, set_content, check, Command, refused, single, multi, set_acl, stat_at, get_content, get_acl, get_children, sync, ping, set_watches, close, IsChange, Asks, IsCommand}
use Rattle.tree_state.proofs.OneCommand.{one_command}
use Rattle.tree_state.proofs.Serving as serving
use Rattle.std.proofs.lemmas.Option.{none-some}
use Rattle.zk_messages.specs.Refuses.{ArePaths}
use Rattle.zk_messages.proofs.FirstRules.{one_outcome}
use Rattle.store_side.proofs.Zipping.{Zips}
use Rattle.sealed_machine.proofs.SealedNames.{sealed_legal}
use Rattle.sealed_machine.proofs.SealedChanges.{VeilsChange}
use Rattle.sealed_machine.proofs.SealedAnswers.{VeilsCommand}
use Rattle.sealed_machine.proofs.SealedTexts.{IsIvOf, text_sealed, list_sealed, holds_below, not_below_root, sealed_create, rule_passes, text_of_root, path_text, path_allows, open_same, node_allows, create_allows}

-- ---- operations of a multi

record SealedOp (k : EntryKeys) (v : Op) (c : Change) : Type 0 where
  change : Change
  asked : IsChange v change
  veils : VeilsChange k c change
  allowed : RefusesOp v None

sealed_op : (k : EntryKeys) → AreKeys k.names → (ivs : List (List ℕ)) (r v : Op) (c : Change) → All (IsIvOf k.payloads) ivs → RefusesOp r None → VeilsOp k ivs r v
    → IsChange r c → SealedOp k v c
unfolding VeilsOp IsChange VeilsChange
sealed_op k w ivs (ops.Create r) (ops.Create v) (create p n d q e stat) good ok t h =
    let s = sealed_create k w ivs r v p n d q e good t h.0 in
    record { change = create (sealed k.names p) (SealName k.names p n) s.y q e stat; asked = (s.asked, h.1); veils = (s.veils, refl, refl, refl); allowed = create_allows k w r v p n d q e ok t.same_flags t.same_acls s }
sealed_op k w ivs (ops.Create r) (ops.Create v) c good ok t h = absurd h
sealed_op k w ivs (ops.Create2 r) (ops.Create2 v) (create p n d q e stat) good ok t h =
    let s = sealed_create k w ivs r v p n d q e good t h.0 in
    record { change = create (sealed k.names p) (SealName k.names p n) s.y q e stat; asked = (s.asked, h.1); veils = (s.veils, refl, refl, refl); allowed = create_allows k w r v p n d q e ok t.same_flags t.same_acls s }
sealed_op k w ivs (ops.Create2 r) (ops.Create2 v) c good ok t h = absurd h
sealed_op k w ivs (ops.Delete r) (ops.Delete v) (delete p version) good ok t h =
    let s = text_sealed k.names w r.path v.path p h.0 t.0.text in
    record { change = delete (sealed k.names p) version; asked = (s.asked, t.0.same_version ∙ h.1); veils = (s.seals, refl); allowed = node_allows k.names p v.path (not_below_root r.path p h.0 ok) s }
sealed_op k w ivs (ops.Delete r) (ops.Delete v) c good ok t h = absurd h
sealed_op k w ivs (ops.SetContent r) (ops.SetContent v) (set_content p d version) good ok t h =
    let s = text_sealed k.names w r.path v.path p h.0 t.text in
    let below = not_below_root r.path p h.0 ok in
    let iv : IsIvOf k.payloads t.iv = All-head (IsIvOf k.payloads) t.iv [] (subst (λ (l : List (List ℕ)). All (IsIvOf k.payloads) l) t.one_iv good) in
    let path : t.text.path ≡ p = one_text t.text.path p t.text.named.legal h.0.legal (sym t.text.named.spelled ∙ h.0.spelled) in
    record {
      change = set_content (sealed k.names p) (Some (SealData k.payloads t.iv p false d)) version;
      asked = (s.asked, t.sealed_content ∙ (λ i. Some (SealData k.payloads t.iv (path i) false (h.1 i))), t.same_version ∙ h.2);
      veils = (s.seals, holds_below k.payloads t.iv p d iv below, refl);
      allowed = node_allows k.names p v.path below s;
    }
sealed_op k w ivs (ops.SetContent r) (ops.SetContent v) c good ok t h = absurd h
sealed_op k w ivs (ops.Check r) (ops.Check v) (check p version) good ok t h =
    let s = text_sealed k.names w r.path v.path p h.0 t.0.text in
    record { change = check (sealed k.names p) version; asked = (s.asked, t.0.same_version ∙ h.1); veils = (s.seals, refl); allowed = path_allows k.names p v.path s }
sealed_op k w ivs (ops.Check r) (ops.Check v) c good ok t h = absurd h
sealed_op k w ivs r v c good ok t h = absurd t

record SealedOps (k : EntryKeys) (vs : List Op) (cs : List Change) : Type 0 where
  changes : List Change
  asked : AllZip IsChange vs changes
  veils : Zips (VeilsChange k) cs changes
  allowed : RefusesOps vs None

all_front : (P : List ℕ → Type 0) (xs ys : List (List ℕ)) → All P (xs ++ ys) → All P xs
all_front P [] ys h = All-nil P
all_front P (x ∷ xs) ys h = All-cons P x xs (All-head P x (xs ++ ys) h) (all_front P xs ys (All-tail P x (xs ++ ys) h))

all_back : (P : List ℕ → Type 0) (xs ys : List (List ℕ)) → All P (xs ++ ys) → All P ys
all_back P [] ys h = h
all_back P (x ∷ xs) ys h = all_back P xs ys (All-tail P x (xs ++ ys) h)

sealed_ops : (k : EntryKeys) → AreKeys k.names → (ivs : List (List ℕ)) (rs vs : List Op) (cs : List Change) → All (IsIvOf k.payloads) ivs
    → All (λ op. RefusesOp op None) rs → VeilsOps k ivs rs vs → AllZip IsChange rs cs → SealedOps k vs cs
unfolding VeilsOps Zips RefusesOps
sealed_ops k w ivs [] [] [] good ok t h = record { changes = []; asked = tt; veils = tt; allowed = refl }
sealed_ops k w ivs [] [] (c ∷ cs) good ok t h = absurd h
sealed_ops k w ivs [] (v ∷ vs) cs good ok t h = absurd t
sealed_ops k w ivs (r ∷ rs) [] cs good ok t h = absurd t
sealed_ops k w ivs (r ∷ rs) (v ∷ vs) [] good ok t h = absurd h
sealed_ops k w ivs (r ∷ rs) (v ∷ vs) (c ∷ cs) good ok (first, rest, t, more, e) h =
    let all = subst (λ (l : List (List ℕ)). All (IsIvOf k.payloads) l) e good in
    let one = sealed_op k w first r v c (all_front (IsIvOf k.payloads) first rest all) (All-head (λ op. RefusesOp op None) r rs ok) t h.0 in
    let others = sealed_ops k w rest rs vs cs (all_back (IsIvOf k.payloads) first rest all) (All-tail (λ op. RefusesOp op None) r rs ok) more h.1 in
    record { changes = one.change ∷ others.changes; asked = (one.asked, others.asked); veils = (one.veils, others.veils); allowed = inr (one.allowed, others.allowed) }

-- ---- requests

record SealedRequest (k : EntryKeys) (v : Request) (a : Command) : Type 0 where
  command : Command
  asked : Asks v command
  veils : VeilsCommand k a command
  allowed : Refuses v None

along : (k : EntryKeys) (v : Request) (a b : Command) → a ≡ b → SealedRequest k v b → SealedRequest k v a
along k v a b e h = subst (λ (c : Command). SealedRequest k v c) (sym e) h

list_paths : (k : Keys) → AreKeys k → (texts vs : List (List ℕ)) → SealsTexts k texts vs → All IsPathText vs
list_paths k w [] [] s = All-nil IsPathText
list_paths k w [] (v ∷ vs) s = absurd s
list_paths k w (x ∷ texts) [] s = absurd s
list_paths k w (x ∷ texts) (v ∷ vs) s = All-cons IsPathText v vs (sealed k s.0.path, sealed_legal k s.0.path w s.0.named.legal, s.0.is_sealed) (list_paths k w texts vs s.1)

are_paths_sealed : (k : Keys) → AreKeys k → (texts vs : Option (List (List ℕ))) → SealsList k texts vs → ArePaths vs
are_paths_sealed k w None None s = tt
are_paths_sealed k w None (Some vs) s = absurd s
are_paths_sealed k w (Some texts) None s = absurd s
are_paths_sealed k w (Some texts) (Some vs) s = list_paths k w texts vs s

creates : (k : EntryKeys) → AreKeys k.names → (ivs : List (List ℕ)) (r v : CreateRequest) (a : Command) → All (IsIvOf k.payloads) ivs → RefusesCreate r None
    → TextCreate k ivs r v → Asks (requests.Create r) a → SealedRequest k (requests.Create v) a
unfolding Asks VeilsCommand VeilsChange Refuses
creates k w ivs r v (single (create p n d q e stat)) good ok t h =
    let s = sealed_create k w ivs r v p n d q e good t h.0 in
    record { command = single (create (sealed k.names p) (SealName k.names p n) s.y q e stat); asked = (s.asked, h.1); veils = (s.veils, refl, refl, refl); allowed = create_allows k w r v p n d q e ok t.same_flags t.same_acls s }
creates k w ivs r v (single c) good ok t h = absurd h
creates k w ivs r v a good ok t h = absurd h

creates_with_stat : (k : EntryKeys) → AreKeys k.names → (ivs : List (List ℕ)) (r v : CreateRequest) (a : Command) → All (IsIvOf k.payloads) ivs → RefusesCreate r None
    → TextCreate k ivs r v → Asks (requests.Create2 r) a → SealedRequest k (requests.Create2 v) a
unfolding Asks VeilsCommand VeilsChange Refuses
creates_with_stat k w ivs r v (single (create p n d q e stat)) good ok t h =
    let s = sealed_create k w ivs r v p n d q e good t h.0 in
    record { command = single (create (sealed k.names p) (SealName k.names p n) s.y q e stat); asked = (s.asked, h.1); veils = (s.veils, refl, refl, refl); allowed = create_allows k w r v p n d q e ok t.same_flags t.same_acls s }
creates_with_stat k w ivs r v (single c) good ok t h = absurd h
creates_with_stat k w ivs r v a good ok t h = absurd h

multis : (k : EntryKeys) → AreKeys k.names → (ivs : List (List ℕ)) (rs vs : List Op) (a : Command) → All (IsIvOf k.payloads) ivs → RefusesOps rs None
    → VeilsOps k ivs rs vs → Asks (requests.Multi rs) a → SealedRequest k (requests.Multi vs) a
unfolding Asks VeilsCommand Refuses
multis k w ivs rs vs (multi cs) good ok t h =
    let s = sealed_ops k w ivs rs vs cs good (ops_allowed rs ok) t h in
    record { command = multi s.changes; asked = s.asked; veils = s.veils; allowed = s.allowed }
multis k w ivs rs vs a good ok t h = absurd h

sealed_request : (k : EntryKeys) → AreKeys k.names → (ivs : List (List ℕ)) (r v : Request) (a : Command) → All (IsIvOf k.payloads) ivs → Refuses r None → Veils k ivs r v
    → Asks r a → SealedRequest k v a
unfolding Veils VeilsCommand VeilsChange Asks Refuses
sealed_request k w ivs (requests.Create r) (requests.Create v) a good ok t h = creates k w ivs r v a good ok t h
sealed_request k w ivs (requests.Create2 r) (requests.Create2 v) a good ok t h = creates_with_stat k w ivs r v a good ok t h
sealed_request k w ivs (requests.Delete r) (requests.Delete v) a good ok t h =
    let x = serving.asks_delete r a h in
    let s = text_sealed k.names w r.path v.path x.0 x.1 t.0.text in
    along k _ a _ x.2 (record { command = single (delete (sealed k.names x.0) r.version); asked = (s.asked, t.0.same_version); veils = (s.seals, refl); allowed = node_allows k.names x.0 v.path (not_below_root r.path x.0 x.1 ok) s })
sealed_request k w ivs (requests.Exists r) (requests.Exists v) a good ok t h =
    let x = serving.asks_stat r a h in
    let s = text_sealed k.names w r.path v.path x.path x.text t.0.text in
    along k _ a _ x.is (record { command = stat_at (sealed k.names x.path) r.watch; asked = (s.asked, t.0.same_watch); veils = (s.seals, refl); allowed = path_allows k.names x.path v.path s })
sealed_request k w ivs (requests.GetContent r) (requests.GetContent v) a good ok t h =
    let x = serving.asks_content r a h in
    let s = text_sealed k.names w r.path v.path x.path x.text t.0.text in
    let below = not_below_root r.path x.path x.text ok in
    along k _ a _ x.is (record { command = get_content (sealed k.names x.path) r.watch; asked = (s.asked, t.0.same_watch); veils = (s.seals, refl, below); allowed = node_allows k.names x.path v.path below s })
sealed_request k w ivs (requests.SetContent r) (requests.SetContent v) a good ok t h =
    let x = serving.asks_set_content r a h in
    let s = text_sealed k.names w r.path v.path x.0 x.1 t.text in
    let below = not_below_root r.path x.0 x.1 ok in
    let iv : IsIvOf k.payloads t.iv = All-head (IsIvOf k.payloads) t.iv [] (subst (λ (l : List (List ℕ)). All (IsIvOf k.payloads) l) t.one_iv good) in
    let path : t.text.path ≡ x.0 = one_text t.text.path x.0 t.text.named.legal x.1.legal (sym t.text.named.spelled ∙ x.1.spelled) in
    along k _ a _ x.2 (record {
      command = single (set_content (sealed k.names x.0) (Some (SealData k.payloads t.iv x.0 false r.content)) r.version);
      asked = (s.asked, t.sealed_content ∙ (λ i. Some (SealData k.payloads t.iv (path i) false r.content)), t.same_version);
      veils = (s.seals, holds_below k.payloads t.iv x.0 r.content iv below, refl);
      allowed = node_allows k.names x.0 v.path below s;
    })
sealed_request k w ivs (requests.GetAcl r) (requests.GetAcl v) a good ok t h =
    let x = serving.asks_acl r a h in
    let s = text_sealed k.names w r.path v.path x.0 x.1 t.0.text in
    along k _ a _ x.2 (record { command = get_acl (sealed k.names x.0); asked = s.asked; veils = s.seals; allowed = path_allows k.names x.0 v.path s })
sealed_request k w ivs (requests.SetAcl r) (requests.SetAcl v) a good ok t h =
    let x = serving.asks_set_acl r a h in
    let s = text_sealed k.names w r.path v.path x.0 x.1 t.0.text in
    along k _ a _ x.2 (record {
      command = set_acl (sealed k.names x.0) r.version;
      asked = (s.asked, t.0.same_version);
      veils = (s.seals, refl);
      allowed = rule_passes _ _ _ (λ f. f (path_text k.names x.0 v.path s)) (rule_passes _ _ _ (λ f. f (open_same r.acls v.acls t.0.same_acls (acl_open r ok))) refl);
    })
sealed_request k w ivs (requests.GetChildren r) (requests.GetChildren v) a good ok t h =
    let x = serving.asks_names r a h in
    let s = text_sealed k.names w r.path v.path x.path x.text t.0.text in
    along k _ a _ x.is (record { command = get_children (sealed k.names x.path) r.watch false; asked = (s.asked, t.0.same_watch, refl); veils = (s.seals, refl, refl); allowed = path_allows k.names x.path v.path s })
sealed_request k w ivs (requests.GetChildren2 r) (requests.GetChildren2 v) a good ok t h =
    let x = serving.asks_names_stat r a h in
    let s = text_sealed k.names w r.path v.path x.path x.text t.0.text in
    along k _ a _ x.is (record { command = get_children (sealed k.names x.path) r.watch true; asked = (s.asked, t.0.same_watch, refl); veils = (s.seals, refl, refl); allowed = path_allows k.names x.path v.path s })
sealed_request k w ivs (requests.Sync r) (requests.Sync v) a good ok t h =
    let x = serving.asks_sync r a h in
    let s = text_sealed k.names w r.path v.path x.0 x.1 t.0.text in
    along k _ a _ x.2 (record { command = sync (sealed k.names x.0); asked = s.asked; veils = s.seals; allowed = path_allows k.names x.0 v.path s })
sealed_request k w ivs requests.Ping requests.Ping a good ok t h =
    along k _ a _ (serving.asks_ping a h) (record { command = ping; asked = tt; veils = tt; allowed = refl })
sealed_request k w ivs (requests.Multi rs) (requests.Multi vs) a good ok t h = multis k w ivs rs vs a good ok t h
sealed_request k w ivs (requests.SetWatches r) (requests.SetWatches v) a good ok t h =
    let x = serving.asks_watches r a h in
    let c = list_sealed k.names w r.content_paths v.content_paths x.contents x.content_texts t.0.content in
    let e = list_sealed k.names w r.exist_paths v.exist_paths x.exist x.exist_texts t.0.exist in
    let d = list_sealed k.names w r.child_paths v.child_paths x.childs x.child_texts t.0.child in
    along k _ a _ x.is (record {
      command = set_watches r.seen c.0 e.0 d.0;
      asked = (t.0.same_seen, c.1, e.1, d.1);
      veils = (refl, c.2, e.2, d.2);
      allowed = rule_passes _ _ _ (λ f. f (are_paths_sealed k.names w r.content_paths v.content_paths t.0.content))
          (rule_passes _ _ _ (λ f. f (are_paths_sealed k.names w r.exist_paths v.exist_paths t.0.exist))
          (rule_passes _ _ _ (λ f. f (are_paths_sealed k.names w r.child_paths v.child_paths t.0.child)) refl));
    })
sealed_request k w ivs requests.Close requests.Close a good ok t h =
    along k _ a _ (serving.asks_close a h) (record { command = close; asked = tt; veils = tt; allowed = refl })
sealed_request k w ivs r v a good ok t h = absurd t

-- ---- with those that are refused

stand_in_asks : (b : Command) → IsCommand stand_in b → b ≡ stat_at [] false
unfolding IsCommand Asks Refuses
stand_in_asks b h = (one_command stand_in).one b (stat_at [] false) h (inr (rule_passes _ _ _ (λ f. f ([], All-nil IsComponent, text_of_root _ refl)) refl, (record { legal = All-nil IsComponent; spelled = text_of_root _ refl }, refl)))

refused_veils : (k : EntryKeys) (code : ℤ) (a b : Command) → a ≡ refused code → b ≡ stat_at [] false → VeilsCommand k a b
unfolding VeilsCommand
refused_veils k code a b e f = subst (λ (x : Command). VeilsCommand k x b) (sym e) (subst (λ (y : Command). VeilsCommand k (refused code) y) (sym f) (refl, refl))

is_refused : (r : Request) (code : ℤ) (a : Command) → Refuses r (Some code) → IsCommand r a → a ≡ refused code
unfolding IsCommand
is_refused r code a h c = (one_command r).one a (refused code) c (inl (code, h, refl))

inr_command : (v : Request) (b : Command) → Refuses v None → Asks v b → IsCommand v b
unfolding IsCommand
inr_command v b ok h = inr (ok, h)

-- a request that no rule refuses asks for its command
pub asks_of : (r : Request) (a : Command) → Refuses r None → IsCommand r a → Asks r a
unfolding IsCommand
asks_of r a ok (inl (code, refuses, e)) = absurd (none-some code (one_outcome r None (Some code) ok refuses))
asks_of r a ok (inr h) = h.1

-- the veiled form of a request asks for the sealed form of its command
pub veiled_command : (k : EntryKeys) → AreKeys k.names → (ivs : List (List ℕ)) (r v : Request) (a b : Command) → All (IsIvOf k.payloads) ivs → Veil k ivs r v
    → IsCommand r a → IsCommand v b → VeilsCommand k a b
unfolding Veil
veiled_command k w ivs r v a b good (inl (code, refuses, e, none)) ca cb =
    refused_veils k code a b (is_refused r code a refuses ca) (stand_in_asks b (subst (λ (x : Request). IsCommand x b) e cb))
veiled_command k w ivs r v a b good (inr (ok, t)) ca cb = both ca
  where
    asked : Asks r a → VeilsCommand k a b
    asked h =
        let s = sealed_request k w ivs r v a good ok t h in
        subst (λ (y : Command). VeilsCommand k a y) ((one_command v).one s.command b (inr_command v s.command s.allowed s.asked) cb) s.veils

    both : IsCommand r a → VeilsCommand k a b
    both h = asked (asks_of r a ok h)
