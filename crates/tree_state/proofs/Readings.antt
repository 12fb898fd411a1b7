-- What is read of a node is what its row tells.
use Rattle.std.proofs.Common.{◌≡◌, ℕ, suc, ℤ, Bool, true, false, cond, List, [], ◌∷◌, Option, Some, None, Result, Ok, Err, length, refl, sym, ap, subst, ◌∙◌}
use Rattle.std.specs.Prelude.{IsErrAnd, map, pos, min, ◌+◌}
use Rattle.std.specs.Option.{option_map}
use Rattle.std.specs.String.{string_bytes}
use Rattle.std.proofs.lemmas.List.{length-map}
use Rattle.zk_path.specs.Paths.{IsTextOf}
use Rattle.zk_messages.specs.Refuses.{open_acl}
use Rattle.zk_records.specs.declared.acl.Acl.{Acl}
use Rattle.zk_records.specs.declared.stat.Stat.{Stat}
use Rattle.zk_messages.specs.declared.reply.Outcome.{Outcome}
use Rattle.zk_messages.specs.declared.reply.Outcome.TheVariants as outcomes
use Rattle.jute_core.specs.declared.held.Memory.{Memory}
use Rattle.tree_state.specs.declared.held.Held.{Held}
use Rattle.tree_state.specs.declared.node.Moment.{Moment}
use Rattle.tree_state.specs.declared.node.Node as code
use Rattle.tree_state.specs.declared.watches.Watches.{Watches}
use Rattle.tree_state.specs.Nodes.{Path, Place, Node, find, placed, in_order, text_le, children, child_names, size_of, stat_of}
use Rattle.tree_state.specs.State.{State, Aspect, on_data, on_children, watching, watching_if}
use Rattle.tree_state.specs.Commands.{stat_at, get_content, get_acl, get_children}
use Rattle.tree_state.specs.Changes.{Naming, no_node}
use Rattle.tree_state.specs.Step.{Answer, answer, with_error, told_only, with_watch, names_with}
use Rattle.tree_state.specs.Places.{node_of, kept_stat, IsSmall, IsNodeAt, IsFound, Holds, counted_length}
use Rattle.tree_state.specs.Trees.{Means, Quietly, Tells}
use Rattle.tree_state.specs.Watches.{Watching}
use Rattle.tree_state.proofs.Owned.{given_so}
use Rattle.tree_state.proofs.ReadRows.{stat_missing, stat_found, content_missing, content_found, acl_missing, acl_found, children_missing, children_found}

length_placed : (n : List ℕ) (ms : List (List ℕ)) → length (placed n ms) ≡ suc (length ms)
unfolding placed
length_placed n [] = refl
length_placed n (m ∷ ms) = go (text_le n m) (length_placed n ms)
  where
    go : (b : Bool) → length (placed n ms) ≡ suc (length ms) → length (cond b (n ∷ m ∷ ms) (m ∷ placed n ms)) ≡ suc (suc (length ms))
    go true h = refl
    go false h = ap suc h

pub length_in_order : (ns : List (List ℕ)) → length (in_order ns) ≡ length ns
unfolding in_order
length_in_order [] = refl
length_in_order (n ∷ ns) = length_placed n (in_order ns) ∙ ap suc (length_in_order ns)

pub count_names : (es : List Place) (p : Path) (n : code.Node) → map string_bytes n.names.keys ≡ child_names p es → length n.names.keys ≡ length (children p es)
unfolding child_names
count_names es p n h = sym (length-map n.names.keys string_bytes) ∙ ap length h ∙ length_in_order (children p es)

-- the Stat that the code has is that of the node
pub stat_is : (es : List Place) (p : Path) (n : code.Node) → IsNodeAt es p n → kept_stat n ≡ stat_of es p (node_of n)
unfolding kept_stat stat_of node_of
stat_is es p n h = ap (λ (l : ℕ). record {
  czxid = n.numbers.czxid;
  mzxid = n.numbers.mzxid;
  ctime = n.numbers.ctime;
  mtime = n.numbers.mtime;
  version = pos n.numbers.version;
  cversion = pos (min (n.numbers.creations + n.numbers.deletions) 2147483647);
  aversion = pos n.numbers.aversion;
  owner = n.numbers.owner;
  length = pos (size_of n.content);
  children = pos l;
  pzxid = n.numbers.pzxid;
}) (count_names es p n h.names)

pub tells_only : (s : State) (a : Answer) (outcome : Outcome) → a ≡ told_only s outcome → Tells s a outcome
unfolding Tells told_only
tells_only s a outcome h = (ap (λ (x : Answer). x.outcome) (sym h), ap (λ (x : Answer). x.events) h, ap (λ (x : Answer). x.state) h)

pub tells_error : (s : State) (a : Answer) (code : ℤ) → a ≡ with_error s code → Tells s a (outcomes.Error code)
unfolding Tells with_error
tells_error s a code h = (ap (λ (x : Answer). x.outcome) (sym h), ap (λ (x : Answer). x.events) h, ap (λ (x : Answer). x.state) h)

-- no node is there
pub absent : (es : List Place) (p : Path) → IsFound es p None → find es p ≡ None
unfolding IsFound
absent es p h = h

pub present : (es : List Place) (p : Path) (n : code.Node) → IsFound es p (Some n) → IsNodeAt es p n
unfolding IsFound
present es p n h = h

-- ---- a watch is added

pub watch_kept : (h : Held) (w : Watches) (s : State) (b : Bool) (a : Aspect) (p : Path) (c : ℕ) → b ≡ true → Means h s
    → Watching w (watching (record { aspect = a; path = p; connection = c }) s.watches) → Means (record h { watches = w }) (with_watch b a p c s)
unfolding with_watch watching_if
watch_kept h w s b a p c wanted m k = subst (λ (x : Bool). Means (record h { watches = w }) (with_watch x a p c s)) (sym wanted) (record {
  places = m.places;
  sessions = m.sessions;
  owners = record { given = m.owners.given; childless = m.owners.childless; free = m.owners.free };
  numbers = given_so s (with_watch true a p c s) s.sessions refl m.numbers;
  watches = k;
  last = m.last;
})

pub no_watch : (h : Held) (s : State) (b : Bool) (a : Aspect) (p : Path) (c : ℕ) → b ≡ false → Means h s → Means h (with_watch b a p c s)
unfolding with_watch watching_if
no_watch h s b a p c off m = subst (λ (x : Bool). Means h (with_watch x a p c s)) (sym off) m

-- the nodes stay where a watch is added
pub watched_places : (h : Held) (s : State) (b : Bool) (a : Aspect) (p : Path) (c : ℕ) → Means h (with_watch b a p c s) → Holds h.places s.nodes
unfolding with_watch
watched_places h s b a p c m = m.places

-- the path of a request, as a text that is lent
pub lent : (text seen : List ℕ) (p : Path) → seen ≡ text → IsTextOf text p → IsTextOf seen p
lent text seen p e t = subst (λ (x : List ℕ). IsTextOf x p) (sym e) t

-- ---- the rows

-- the answer of a row that tells no watch
pub quiet : (s t : State) (a : Answer) (h : Held) (outcome : Outcome) → a ≡ told_only t outcome → Means h t → Quietly s a h (Ok outcome)
unfolding Quietly told_only
quiet s t a h outcome e m = (ap (λ (x : Answer). x.outcome) (sym e), ap (λ (x : Answer). x.events) e, subst (λ (x : Answer). Means h x.state) (sym e) m)

pub quiet_error : (s t : State) (a : Answer) (h : Held) (code : ℤ) → a ≡ with_error t code → Means h t → Quietly s a h (Ok (outcomes.Error code))
unfolding Quietly with_error
quiet_error s t a h code e m = (ap (λ (x : Answer). x.outcome) (sym e), ap (λ (x : Answer). x.events) e, subst (λ (x : Answer). Means h x.state) (sym e) m)

pub quiet_memory : (s : State) (a : Answer) (h : Held) (result : Result Outcome Memory) (P : Memory → Type 0) → Means h s → IsErrAnd result P → Quietly s a h result
unfolding Quietly
quiet_memory s a h (Ok outcome) P m e = absurd e
quiet_memory s a h (Err e) P m i = m

pub told_stat : (naming : Naming) (at : Moment) (c : ℕ) (s : State) (p : Path) (b : Bool) (h : Held) (n : code.Node) (stat : Stat) → Means h (with_watch b on_data p c s) → IsFound s.nodes p (Some n) → (IsSmall n → stat ≡ kept_stat n)
    → Quietly s (answer naming at c s (stat_at p b)) h (Ok (outcomes.Stat stat))
told_stat naming at c s p b h n stat m f k =
    let i = present s.nodes p n f in
    let t : State = with_watch b on_data p c s in
    quiet s t _ h _ (stat_found naming at c s p b (node_of n) i.plain ∙ ap (λ (x : Stat). told_only t (outcomes.Stat x)) (sym (k i.small ∙ stat_is s.nodes p n i))) m

pub told_content : (naming : Naming) (at : Moment) (c : ℕ) (s : State) (p : Path) (b : Bool) (h : Held) (n : code.Node) (content : Option (List ℕ)) (stat : Stat) → Means h (with_watch b on_data p c s)
    → IsFound s.nodes p (Some n) → content ≡ n.content → (IsSmall n → stat ≡ kept_stat n)
    → Quietly s (answer naming at c s (get_content p b)) h (Ok (outcomes.Content content stat))
unfolding node_of
told_content naming at c s p b h n content stat m f e k =
    let i = present s.nodes p n f in
    let t : State = with_watch b on_data p c s in
    let st = sym (k i.small ∙ stat_is s.nodes p n i) in
    quiet s t _ h _ (content_found naming at c s p b (node_of n) i.plain
    ∙ ap (λ (x : Stat). told_only t (outcomes.Content n.content x)) st ∙ ap (λ (x : Option (List ℕ)). told_only t (outcomes.Content x stat)) (sym e)) m

pub told_acl : (naming : Naming) (at : Moment) (c : ℕ) (s : State) (p : Path) (n : code.Node) (acls : List Acl) (stat : Stat) → IsFound s.nodes p (Some n) → acls ≡ open_acl ∷ [] → (IsSmall n → stat ≡ kept_stat n)
    → Tells s (answer naming at c s (get_acl p)) (outcomes.Acls (Some acls) stat)
told_acl naming at c s p n acls stat f e k =
    let h = present s.nodes p n f in
    let st = sym (k h.small ∙ stat_is s.nodes p n h) in
    tells_only s _ _ (acl_found naming at c s p (node_of n) h.plain
    ∙ ap (λ (x : Stat). told_only s (outcomes.Acls (Some (open_acl ∷ [])) x)) st ∙ ap (λ (x : List Acl). told_only s (outcomes.Acls (Some x) stat)) (sym e))

pub told_names : (naming : Naming) (at : Moment) (c : ℕ) (s : State) (p : Path) (b with_stat : Bool) (h : Held) (n : code.Node) (names : List (List ℕ)) → with_stat ≡ false → Means h (with_watch b on_children p c s)
    → IsFound s.nodes p (Some n) → names ≡ map string_bytes n.names.keys
    → Quietly s (answer naming at c s (get_children p b with_stat)) h (Ok (outcomes.Children (Some names)))
unfolding names_with
told_names naming at c s p b with_stat h n names off m f e =
    let i = present s.nodes p n f in
    let t : State = with_watch b on_children p c s in
    quiet s t _ h _ (children_found naming at c s p b with_stat (node_of n) i.plain ∙ ap (λ (x : Bool). told_only t (names_with x s.nodes p (node_of n))) off
    ∙ ap (λ (x : List (List ℕ)). told_only t (outcomes.Children (Some x))) (sym (e ∙ i.names))) m

pub told_names_stat : (naming : Naming) (at : Moment) (c : ℕ) (s : State) (p : Path) (b with_stat : Bool) (h : Held) (n : code.Node) (names : List (List ℕ)) (stat : Stat) → with_stat ≡ true → Means h (with_watch b on_children p c s)
    → IsFound s.nodes p (Some n) → names ≡ map string_bytes n.names.keys → (IsSmall n → stat ≡ kept_stat n)
    → Quietly s (answer naming at c s (get_children p b with_stat)) h (Ok (outcomes.Children2 (Some names) stat))
unfolding names_with
told_names_stat naming at c s p b with_stat h n names stat on m f e k =
    let i = present s.nodes p n f in
    let t : State = with_watch b on_children p c s in
    let st = sym (k i.small ∙ stat_is s.nodes p n i) in
    quiet s t _ h _ (children_found naming at c s p b with_stat (node_of n) i.plain ∙ ap (λ (x : Bool). told_only t (names_with x s.nodes p (node_of n))) on
    ∙ ap (λ (x : Stat). told_only t (outcomes.Children2 (Some (child_names p s.nodes)) x)) st ∙ ap (λ (x : List (List ℕ)). told_only t (outcomes.Children2 (Some x) stat)) (sym (e ∙ i.names))) m

-- no node is read where none is
pub no_stat : (naming : Naming) (at : Moment) (c : ℕ) (s : State) (p : Path) (b : Bool) (h : Held) → Means h (with_watch b on_data p c s) → IsFound s.nodes p None
    → Quietly s (answer naming at c s (stat_at p b)) h (Ok (outcomes.Error no_node))
no_stat naming at c s p b h m f = quiet_error s (with_watch b on_data p c s) _ h _ (stat_missing naming at c s p b (absent s.nodes p f)) m

pub no_content : (naming : Naming) (at : Moment) (c : ℕ) (s : State) (p : Path) (b : Bool) (h : Held) → Means h s → IsFound s.nodes p None → Quietly s (answer naming at c s (get_content p b)) h (Ok (outcomes.Error no_node))
no_content naming at c s p b h m f = quiet_error s s _ h _ (content_missing naming at c s p b (absent s.nodes p f)) m

pub no_acl : (naming : Naming) (at : Moment) (c : ℕ) (s : State) (p : Path) → IsFound s.nodes p None → Tells s (answer naming at c s (get_acl p)) (outcomes.Error no_node)
no_acl naming at c s p f = tells_error s _ _ (acl_missing naming at c s p (absent s.nodes p f))

pub no_children : (naming : Naming) (at : Moment) (c : ℕ) (s : State) (p : Path) (b with_stat : Bool) (h : Held) → Means h s → IsFound s.nodes p None
    → Quietly s (answer naming at c s (get_children p b with_stat)) h (Ok (outcomes.Error no_node))
no_children naming at c s p b with_stat h m f = quiet_error s s _ h _ (children_missing naming at c s p b with_stat (absent s.nodes p f)) m

-- ---- what is read at a path, or that nothing is there

pub no_stat_at : (es : List Place) (p : Path) → IsFound es p None → None ≡ option_map (stat_of es p) (find es p)
no_stat_at es p f = ap (option_map (stat_of es p)) (sym (absent es p f))

pub stat_at_is : (es : List Place) (p : Path) (n : code.Node) (stat : Stat) → IsFound es p (Some n) → (IsSmall n → stat ≡ kept_stat n) → Some stat ≡ option_map (stat_of es p) (find es p)
stat_at_is es p n stat f k =
    let h = present es p n f in
    ap Some (k h.small ∙ stat_is es p n h) ∙ ap (option_map (stat_of es p)) (sym h.plain)

pub no_names_at : (es : List Place) (p : Path) → IsFound es p None → None ≡ option_map (λ (node : Node). child_names p es) (find es p)
no_names_at es p f = ap (option_map (λ (node : Node). child_names p es)) (sym (absent es p f))

pub names_at_is : (es : List Place) (p : Path) (n : code.Node) (names : List (List ℕ)) → IsFound es p (Some n) → names ≡ map string_bytes n.names.keys → Some names ≡ option_map (λ (node : Node). child_names p es) (find es p)
names_at_is es p n names f e =
    let h = present es p n f in
    ap Some (e ∙ h.names) ∙ ap (option_map (λ (node : Node). child_names p es)) (sym h.plain)

pub no_length_at : (es : List Place) (p : Path) → IsFound es p None → None ≡ option_map (λ (node : Node). counted_length (child_names p es)) (find es p)
no_length_at es p f = ap (option_map (λ (node : Node). counted_length (child_names p es))) (sym (absent es p f))

pub length_at_is : (es : List Place) (p : Path) (n : code.Node) (size : ℕ) → IsFound es p (Some n) → size ≡ counted_length (map string_bytes n.names.keys)
    → Some size ≡ option_map (λ (node : Node). counted_length (child_names p es)) (find es p)
length_at_is es p n size f e =
    let h = present es p n f in
    ap Some (e ∙ ap counted_length h.names) ∙ ap (option_map (λ (node : Node). counted_length (child_names p es))) (sym h.plain)
