-- A request is one command.
use Rattle.std.proofs.Common.{◌≡◌, ◌↔◌, ℕ, ℤ, List, [], ◌∷◌, Bool, true, false, Option, Some, None, IsTrue, refl, sym, ap, subst, ◌∙◌, inl, inr}
use Rattle.std.specs.List.{AllZip}
use Rattle.std.proofs.lemmas.Bool.{false≢true}
use Rattle.std.proofs.lemmas.Option.{none-some, same_Some}
use Rattle.zk_path.proofs.Judged.{one_stem_text}
use Rattle.zk_path.specs.Paths.{IsTextOf, IsNamed}
use Rattle.zk_records.specs.declared.create.CreateRequest.{CreateRequest}
use Rattle.zk_records.specs.declared.path_watch.PathWatch.{PathWatch}
use Rattle.zk_records.specs.declared.set_watches.SetWatches.{SetWatches}
use Rattle.zk_messages.specs.Refuses.{Refuses}
use Rattle.zk_messages.specs.declared.request.Op.{Op}
use Rattle.zk_messages.specs.declared.request.Op.TheVariants as ops
use Rattle.zk_messages.specs.declared.request.Request.{Request}
use Rattle.zk_messages.specs.declared.request.Request.TheVariants as requests
use Rattle.zk_messages.proofs.FirstRules.{one_outcome}
use Rattle.tree_state.specs.Nodes.{Path}
use Rattle.tree_state.specs.Commands.{Change, create, delete, set_content, check, Command, refused, single, multi, set_acl, stat_at, get_content, get_acl, get_children, sync, AreTextsOf, IsCreate, IsChange, Asks, IsCommand}
use Rattle.tree_state.specs.Laws.{IsOneCommand}
use Rattle.tree_state.proofs.EveryCommand.{some_asked}
use Rattle.tree_state.proofs.PathTexts.{one_path}
use Rattle.tree_state.proofs.Answering as answering
use Rattle.tree_state.proofs.OneChange as changes
use Rattle.tree_state.proofs.Serving as serving

-- ---- parts of a command

-- what is one for each item is one for a list
one_list : {A B : Type 0} (R : A → B → Type 0) → ((x : A) (y z : B) → R x y → R x z → y ≡ z) → (xs : List A) (ys zs : List B) → AllZip R xs ys → AllZip R xs zs → ys ≡ zs
one_list R one [] [] [] h k = refl
one_list R one [] [] (z ∷ zs) h k = absurd k
one_list R one [] (y ∷ ys) zs h k = absurd h
one_list R one (x ∷ xs) [] zs h k = absurd h
one_list R one (x ∷ xs) (y ∷ ys) [] h k = absurd k
one_list R one (x ∷ xs) (y ∷ ys) (z ∷ zs) h k =
    let first = one x y z h.0 k.0 in
    let more = one_list R one xs ys zs h.1 k.1 in
    ap (λ w. w ∷ ys) first ∙ ap (λ ws. z ∷ ws) more

one_paths : (list : Option (List (List ℕ))) (ps qs : List Path) → AreTextsOf list ps → AreTextsOf list qs → ps ≡ qs
unfolding AreTextsOf
one_paths None ps qs h k = h ∙ sym k
one_paths (Some texts) ps qs h k = one_list IsTextOf one_path texts ps qs h k

one_truth : {P : Type 0} (a b : Bool) → (IsTrue a ↔ P) → (IsTrue b ↔ P) → a ≡ b
one_truth {P} true true h k = refl
one_truth {P} true false h k = absurd (false≢true (k.1 (h.0 refl)))
one_truth {P} false true h k = absurd (false≢true (h.1 (k.0 refl)))
one_truth {P} false false h k = refl

one_name : (sequential : Bool) (text : List ℕ) (p q : Path) → IsNamed sequential text p → IsNamed sequential text q → p ≡ q
unfolding IsNamed
one_name true text p q h k = one_stem_text p q h.0 k.0 (sym h.1 ∙ k.1)
one_name false text p q h k = one_path text p q h k

one_create : (w : Bool) (r : CreateRequest) (p q : Path) (n m : List ℕ) (c d : Option (List ℕ)) (a b : Bool) (e f : Bool) → IsCreate r p n c a e → IsCreate r q m d b f → create p n c a e w ≡ create q m d b f w
one_create w r p q n m c d a b e f h k =
    let numbered : a ≡ b = one_truth a b h.numbered k.numbered in
    let kept : e ≡ f = one_truth e f h.kept k.kept in
    let content : c ≡ d = sym h.same_content ∙ k.same_content in
    let name : n ∷ p ≡ m ∷ q = one_name b r.path (n ∷ p) (m ∷ q) (subst (λ (x : Bool). IsNamed x r.path (n ∷ p)) numbered h.named) k.named in
    cc

-- a row at the path of the same text
one_row : {C : Type 0} (row : Path → C) (text : List ℕ) (a b : C) (h : (p : Path) × IsTextOf text p × (a ≡ row p)) (k : (p : Path) × IsTextOf text p × (b ≡ row p)) → a ≡ b
one_row {C} row text a b h k = h.2 ∙ ap row (one_path text h.0 k.0 h.1 k.1) ∙ sym k.2

-- ---- the change of an operation

one_creation : (w : Bool) (r : CreateRequest) (a b : Change) → IsChange (changes.creation w r) a → IsChange (changes.creation w r) b → a ≡ b
one_creation w r a b h k =
    let x = changes.asks_create w r a h in
    let y = changes.asks_create w r b k in
    x.6 ∙ one_create w r x.0 y.0 x.1 y.1 x.2 y.2 x.3 y.3 x.4 y.4 x.5 y.5 ∙ sym y.6

one_change : (op : Op) (a b : Change) → IsChange op a → IsChange op b → a ≡ b
one_change (ops.Create r) a b h k = one_creation false r a b h k
one_change (ops.Create2 r) a b h k = one_creation true r a b h k
one_change (ops.Delete r) a b h k = one_row (λ p. delete p r.version) r.path a b (changes.asks_delete r a h) (changes.asks_delete r b k)
one_change (ops.SetContent r) a b h k = one_row (λ p. set_content p r.content r.version) r.path a b (changes.asks_set_content r a h) (changes.asks_set_content r b k)
one_change (ops.Check r) a b h k = one_row (λ p. check p r.version) r.path a b (changes.asks_check r a h) (changes.asks_check r b k)

-- ---- the command of a request

creates : (w : Bool) (r : CreateRequest) (a b : Command) → Asks (answering.creation w r) a → Asks (answering.creation w r) b → a ≡ b
creates w r a b h k =
    let x = answering.asks_create w r a h in
    let y = answering.asks_create w r b k in
    x.is ∙ ap single (one_create w r x.path y.path x.name y.name x.content y.content x.sequential y.sequential x.ephemeral y.ephemeral x.asked y.asked) ∙ sym y.is

multis : (list : List Op) (a b : Command) → Asks (requests.Multi list) a → Asks (requests.Multi list) b → a ≡ b
unfolding Asks
multis list (multi cs) (multi ds) h k = ap multi (one_list IsChange one_change list cs ds h k)
multis list (multi cs) b h k = absurd k
multis list a b h k = absurd h

watches : (r : SetWatches) (a b : Command) → Asks (requests.SetWatches r) a → Asks (requests.SetWatches r) b → a ≡ b
watches r a b h k =
    let x = serving.asks_watches r a h in
    let y = serving.asks_watches r b k in
    let first : x.contents ≡ y.contents = one_paths r.content_paths x.contents y.contents x.content_texts y.content_texts in
    let second : x.exist ≡ y.exist = one_paths r.exist_paths x.exist y.exist x.exist_texts y.exist_texts in
    let third : x.childs ≡ y.childs = one_paths r.child_paths x.childs y.childs x.child_texts y.child_texts in
    let a_is = x.is in
    let b_is = y.is in
    cc

-- a row at the path of a request that may ask for a watch
watch_row : (r : PathWatch) (row : Path → Bool → Command) (a b : Command) → serving.IsWatchOf r row a → serving.IsWatchOf r row b → a ≡ b
watch_row r row a b h k = one_row (λ p. row p r.watch) r.path a b (h.path, h.text, h.is) (k.path, k.text, k.is)

one_asked : (r : Request) (a b : Command) → Asks r a → Asks r b → a ≡ b
unfolding Asks
one_asked (requests.Unknown kind body) a b h k = absurd h
one_asked (requests.Auth body) a b h k = absurd h
one_asked (requests.Create r) a b h k = creates false r a b h k
one_asked (requests.Delete r) a b h k = one_row (λ p. single (delete p r.version)) r.path a b (serving.asks_delete r a h) (serving.asks_delete r b k)
one_asked (requests.Exists r) a b h k = watch_row r stat_at a b (serving.asks_stat r a h) (serving.asks_stat r b k)
one_asked (requests.GetContent r) a b h k = watch_row r get_content a b (serving.asks_content r a h) (serving.asks_content r b k)
one_asked (requests.SetContent r) a b h k = one_row (λ p. single (set_content p r.content r.version)) r.path a b (serving.asks_set_content r a h) (serving.asks_set_content r b k)
one_asked (requests.GetAcl r) a b h k = one_row get_acl r.path a b (serving.asks_acl r a h) (serving.asks_acl r b k)
one_asked (requests.SetAcl r) a b h k = one_row (λ p. set_acl p r.version) r.path a b (serving.asks_set_acl r a h) (serving.asks_set_acl r b k)
one_asked (requests.GetChildren r) a b h k = watch_row r (λ p w. get_children p w false) a b (serving.asks_names r a h) (serving.asks_names r b k)
one_asked (requests.GetChildren2 r) a b h k = watch_row r (λ p w. get_children p w true) a b (serving.asks_names_stat r a h) (serving.asks_names_stat r b k)
one_asked (requests.Sync r) a b h k = one_row sync r.path a b (serving.asks_sync r a h) (serving.asks_sync r b k)
one_asked requests.Ping a b h k = serving.asks_ping a h ∙ sym (serving.asks_ping b k)
one_asked (requests.Multi list) a b h k = multis list a b h k
one_asked (requests.SetWatches r) a b h k = watches r a b h k
one_asked requests.Close a b h k = serving.asks_close a h ∙ sym (serving.asks_close b k)
one_asked (requests.Create2 r) a b h k = creates true r a b h k

-- ---- refused or asked

some_command : (r : Request) (outcome : Option ℤ) → Refuses r outcome → (command : Command) × IsCommand r command
unfolding IsCommand
some_command r None h = let k = some_asked r h in (k.0, inr (h, k.1))
some_command r (Some code) h = (refused code, inl (code, h, refl))

same_command : (r : Request) (a b : Command) → IsCommand r a → IsCommand r b → a ≡ b
unfolding IsCommand
same_command r a b (inl h) (inl k) = h.2 ∙ ap refused (same_Some h.0 k.0 (one_outcome r _ _ h.1 k.1)) ∙ sym k.2
same_command r a b (inl h) (inr k) = absurd (none-some h.0 (one_outcome r _ _ k.0 h.1))
same_command r a b (inr h) (inl k) = absurd (none-some k.0 (one_outcome r _ _ h.0 k.1))
same_command r a b (inr h) (inr k) = one_asked r a b h.1 k.1

pub one_command : (r : Request) → IsOneCommand r
one_command r = record { some = some_command r; one = same_command r }
