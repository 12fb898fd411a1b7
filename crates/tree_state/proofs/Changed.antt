-- Each end of each change over what is held.
use Rattle.std.proofs.Common.{◌≡◌, ◌≤◌, ◌<◌, ℕ, ℤ, Bool, true, false, cond, not, List, [], ◌∷◌, ◌++◌, Option, Some, None, Result, Ok, Err, length, refl, sym, ap, subst, ◌∙◌, inl, inr, append-nil, arith, nat_eq, w32, w64, of_z, to_z}
use Rattle.std.specs.Prelude.{Vec, String, IfSome, is_some, ◌+◌, ◌≤ℤ◌, ◌==◌, ◌||◌, pos, negsuc, min, nat_le}
use Rattle.std.specs.Global.{Global}
use Rattle.std.specs.Ordering.{int_eq}
use Rattle.std.specs.Option.{option_copied}
use Rattle.std.specs.String.{string_bytes}
use Rattle.std.specs.Borrow.{Bor}
use Rattle.std.specs.Int.Signed.{<ℤ-≤ℤ_trans, clash_ℤ}
use Rattle.std.specs.Result.{IsErrAnd, OnErr}
use Rattle.std.proofs.lemmas.Result.{err_from_is_err_and}
use Rattle.std.proofs.lemmas.Bool.{cases_Bool, leb-true, le-leb, eqb-true}
use Rattle.std.proofs.lemmas.Bool.Decides.{Decides-eqb, leb_tells}
use Rattle.std.specs.Int.RustNames.{FitsSigned}
use Rattle.std.proofs.lemmas.Int.{to_z-of_z, by_lt_z}
use Rattle.zk_path.specs.Paths.{text_of, IsTextOf}
use Rattle.zk_records.specs.declared.stat.Stat.{Stat}
use Rattle.zk_messages.specs.declared.reply.OpResult.{OpResult}
use Rattle.zk_messages.specs.declared.reply.OpResult.TheVariants as results
use Rattle.zk_messages.specs.declared.reply.Outcome.{Outcome}
use Rattle.zk_messages.specs.declared.reply.Outcome.TheVariants as outcomes
use Rattle.tree_state.specs.declared.held.Held.{Held}
use Rattle.tree_state.specs.declared.held.NotDone.{NotDone}
use Rattle.tree_state.specs.declared.held.NotDone.TheVariants as stops
use Rattle.tree_state.specs.declared.message.Output.{Output}
use Rattle.tree_state.specs.declared.node.Moment.{Moment}
use Rattle.tree_state.specs.declared.node.Node as code
use Rattle.tree_state.specs.declared.places.Places.{Places}
use Rattle.tree_state.specs.declared.session.Sessions.{Sessions}
use Rattle.tree_state.specs.declared.watches.Watches.{Watches}
use Rattle.tree_state.specs.Commands.{create, delete, set_content, check, set_acl}
use Rattle.tree_state.specs.Nodes.{Path, Node, Place, above, find, is_there, change, add, remove, children, has_children, ephemerals, stat_of, size_of, greatest_int}
use Rattle.tree_state.specs.State.{State, Session, Watch, left, on_data}
use Rattle.tree_state.specs.Changes.{Trial, failed, done, Naming, Effect, perform, has_owner, is_at_last, is_other_version, name_for, fresh_numbers, with_creation, with_deletion, with_content, with_acl, creation_events, left_by_creation, deletion_events, left_by_deletion, content_events, creation_result, created, deleted, updated, no_node, bad_version, not_empty, node_exists, no_children_for_ephemerals, system_error}
use Rattle.tree_state.specs.Step.{Answer, answer, with_error, told_only}
use Rattle.tree_state.specs.Sessions.{Keeps, Owning, with_owned, without_owned}
use Rattle.tree_state.specs.Places.{node_of, kept_stat, IsSmall, IsFound, IsApart, Holds, content_limit, text_limit}
use Rattle.tree_state.specs.Trees.{Means, Stays, Quietly, IsParent, MayCreate, IsMoment, Performs}
use Rattle.zk_messages.specs.Short.{IsShortContent}
use Rattle.tree_state.specs.Watches.{Watching}
use Rattle.tree_state.proofs.Found.{there_found, there_changed, find_added-same, find_changed-same, children_changed}
use Rattle.tree_state.proofs.ChildNames.{no_children}
use Rattle.tree_state.proofs.Readings.{absent, present, count_names, stat_is}
use Rattle.tree_state.proofs.Rows.{create_missing, create_owned, create_full, create_there, create_done, delete_missing, delete_other, delete_filled, delete_done, set_content_missing, set_content_other, set_content_last, set_content_done, check_missing, check_other, check_done, set_acl_missing, set_acl_other, set_acl_last, set_acl_done}
use Rattle.tree_state.proofs.Owned.{KeepsOwner, others, same_number, equal_numbers, other_number, number_flips, ephemerals_changed, ephemerals_added-own, ephemerals_added-other, ephemerals_removed, ephemerals_removed-other, keeps_same, at_each, owned_changed, owned_added, owned_removed, given_so}

-- ---- tests

-- two numbers are the same where their bits are
pub same_bits : (a b : ℤ) → FitsSigned w64 a → FitsSigned w64 b → nat_eq (of_z w64 a) (of_z w64 b) ≡ int_eq a b
same_bits a b f g = elim (cases_Bool (nat_eq (of_z w64 a) (of_z w64 b))) [
  | inl i ↦
      let e : a ≡ b = sym (to_z-of_z w64 a f) ∙ ap (to_z w64) (eqb-true (of_z w64 a) (of_z w64 b) i) ∙ to_z-of_z w64 b g in
      i ∙ sym (same_number a b e)
  | inr i ↦ i ∙ sym (other_number a b (λ e. let t = ap (λ (z : ℤ). nat_eq (of_z w64 z) (of_z w64 b)) e ∙ (Decides-eqb (of_z w64 b) (of_z w64 b)).1 refl in absurd cc))
]

-- another version than the one asked for; -1 asks for any
pub other_so : (asked : ℤ) (version : ℕ) (b : Bool) → (asked ≡ negsuc 0 → ⊥) → b ≡ int_eq asked (pos version) → not b ≡ is_other_version asked version
unfolding is_other_version
other_so asked version b some same = ap not same ∙ sym (ap (λ (x : Bool). not (x || int_eq asked (pos version))) (other_number asked (negsuc 0) some))

pub any_version : (asked : ℤ) (version : ℕ) → asked ≡ negsuc 0 → is_other_version asked version ≡ false
unfolding is_other_version
any_version asked version e = ap (λ (x : Bool). not (x || int_eq asked (pos version))) (same_number asked (negsuc 0) e)

-- what the code's test of a version says
pub tested : (asked : ℤ) (version : ℕ) (b r : Bool) → FitsSigned w32 asked → r ≡ is_other_version (to_z w32 (of_z w32 asked)) version → r ≡ b → is_other_version asked version ≡ b
tested asked version b r f e h = ap (λ (z : ℤ). is_other_version z version) (sym (to_z-of_z w32 asked f)) ∙ sym e ∙ h

owned_so : (n : Node) → (n.numbers.owner ≡ pos 0 → ⊥) → has_owner n ≡ true
unfolding has_owner
owned_so n h = ap not (other_number n.numbers.owner (pos 0) h)

free_so : (n : Node) → n.numbers.owner ≡ pos 0 → has_owner n ≡ false
unfolding has_owner
free_so n h = ap not (same_number n.numbers.owner (pos 0) h)

no_owner : (n : Node) → has_owner n ≡ false → n.numbers.owner ≡ pos 0
no_owner n h = elim (cases_Bool (int_eq n.numbers.owner (pos 0))) [ inl t ↦ equal_numbers n.numbers.owner (pos 0) t | inr t ↦ let o = owned_so n (λ e. let f = same_number n.numbers.owner (pos 0) e in absurd cc) in absurd cc ]

full_so : (k : ℕ) → greatest_int ≤ k → is_at_last k ≡ true
unfolding is_at_last
full_so k h = le-leb greatest_int k h

room_so : (k : ℕ) → k < greatest_int → is_at_last k ≡ false
unfolding is_at_last
room_so k h = elim (cases_Bool (nat_le greatest_int k)) [ inl t ↦ let l = leb-true greatest_int k t in absurd (omega arith) | inr t ↦ t ]

low_so : (k : ℕ) → is_at_last k ≡ false → k < greatest_int
low_so k h = elim (leb_tells greatest_int k) [ inl t ↦ let l = full_so k t.1 in absurd cc | inr t ↦ t.1 ]

-- ---- what may be created

pub may_not_missing : (s : State) (p : Path) → IsFound s.nodes p None → MayCreate s p (Err no_node)
unfolding MayCreate
may_not_missing s p f = λ naming at n content q e w. create_missing naming at s p n content q e w (absent s.nodes p f)

pub may_not_owned : (s : State) (p : Path) (n : code.Node) → IsFound s.nodes p (Some n) → (n.numbers.owner ≡ pos 0 → ⊥) → MayCreate s p (Err no_children_for_ephemerals)
unfolding MayCreate node_of
may_not_owned s p n f o = λ naming at m content q e w. create_owned naming at s p m content q e w (node_of n) (present s.nodes p n f).plain (owned_so (node_of n) o)

pub may_not_full : (s : State) (p : Path) (n : code.Node) → IsFound s.nodes p (Some n) → n.numbers.owner ≡ pos 0 → greatest_int ≤ n.numbers.creations → MayCreate s p (Err system_error)
unfolding MayCreate node_of
may_not_full s p n f o l = λ naming at m content q e w.
    create_full naming at s p m content q e w (node_of n) (present s.nodes p n f).plain (free_so (node_of n) o) (full_so n.numbers.creations l)

pub may_create : (s : State) (p : Path) (n : code.Node) → IsFound s.nodes p (Some n) → n.numbers.owner ≡ pos 0 → n.numbers.creations < greatest_int → MayCreate s p (Ok n.numbers.creations)
unfolding MayCreate node_of
may_create s p n f o l =
    (node_of n, record { there = (present s.nodes p n f).plain; free = free_so (node_of n) o; room = room_so n.numbers.creations l }, refl)

-- ---- what a change comes to

pub refused_by : (s : State) (t : Trial ℤ Effect) (h : Held) (outputs : Vec Output Global) (number : ℤ) → Means h s → t ≡ failed number → Performs s t h outputs outputs (Err (stops.Refused number))
unfolding Performs
refused_by s t h outputs number m e = subst (λ (x : Trial ℤ Effect). Performs s x h outputs outputs (Err (stops.Refused number))) (sym e) (refl, refl, m)

pub no_memory : (s : State) (t : Trial ℤ Effect) (h : Held) (before sent : Vec Output Global) → Means h s → Performs s t h before sent (Err stops.Memory)
unfolding Performs
no_memory s (failed number) h before sent m = m
no_memory s (done e) h before sent m = m

-- an error that was made of want of memory
pub memory_out : (s : State) (t : Trial ℤ Effect) (h : Held) (before sent : Vec Output Global) (r : Result OpResult NotDone) → Means h s → IsErrAnd r (λ e. e ≡ stops.Memory) → Performs s t h before sent r
memory_out s t h before sent r m i =
    let x = err_from_is_err_and r i in
    subst (Performs s t h before sent) (sym (x.1 ∙ ap Err x.2)) (no_memory s t h before sent m)

pub performed : (s : State) (t : Trial ℤ Effect) (e : Effect) (after : Held) (before sent : Vec Output Global) (result : OpResult) → t ≡ done e → result ≡ e.result → sent.items ≡ before.items ++ e.events → Means after e.state
    → Performs s t after before sent (Ok result)
unfolding Performs
performed s t e after before sent result i r v m = subst (λ (x : Trial ℤ Effect). Performs s x after before sent (Ok result)) (sym i) (r, v, m)

quietly_error : (s : State) (a : Answer) (h : Held) (number : ℤ) → Means h s → a ≡ with_error s number → Quietly s a h (Ok (outcomes.Error number))
unfolding Quietly with_error
quietly_error s a h number m e = subst (λ (x : Answer). Quietly s x h (Ok (outcomes.Error number))) (sym e) (refl, refl, m)

quietly_only : (s u : State) (a : Answer) (after : Held) (outcome told : Outcome) → a ≡ told_only u told → outcome ≡ told → Means after u → Quietly s a after (Ok outcome)
unfolding Quietly told_only
quietly_only s u a after outcome told e o m = subst (λ (x : Answer). Quietly s x after (Ok outcome)) (sym e) (o, refl, m)

-- ---- a node is changed

changed_means : (h after : Held) (s : State) (p : Path) (f : Node → Node) (ws : List Watch) (z : ℤ) → KeepsOwner f → Means h s → Holds after.places (change p f s.nodes) → after.sessions ≡ h.sessions → Watching after.watches ws
    → after.last ≡ z → Means after (record s { nodes = change p f s.nodes; watches = ws; last = z })
changed_means h after s p f ws z keeps m holds same watched last = record {
  places = holds;
  sessions = keeps_same after.sessions s.sessions (λ k. ephemerals k s.nodes) (λ k. ephemerals k (change p f s.nodes))
      (at_each s (λ k. ephemerals k s.nodes) (λ k. ephemerals k (change p f s.nodes)) s.sessions m.numbers (λ k above. sym (ephemerals_changed k p f s.nodes keeps)))
      (subst (λ (t : Sessions). Keeps t s.sessions (λ k. ephemerals k s.nodes)) (sym same) m.sessions);
  owners = owned_changed s p f ws z keeps m.owners;
  numbers = given_so s (record s { nodes = change p f s.nodes; watches = ws; last = z }) s.sessions refl m.numbers;
  watches = watched;
  last = last;
}

stat_changed : (p q : Path) (f : Node → Node) (es : List Place) (n : Node) → stat_of (change p f es) q n ≡ stat_of es q n
unfolding stat_of
stat_changed p q f es n = ap (λ (l : ℕ). record {
  czxid = n.numbers.czxid;
  mzxid = n.numbers.mzxid;
  ctime = n.numbers.ctime;
  mtime = n.numbers.mtime;
  version = pos n.numbers.version;
  cversion = pos (min (n.numbers.creations + n.numbers.deletions) greatest_int);
  aversion = pos n.numbers.aversion;
  owner = n.numbers.owner;
  length = pos (size_of n.content);
  children = pos l;
  pzxid = n.numbers.pzxid;
}) (ap length (children_changed p q f es))

-- the Stat of the node after its change
changed_stat : (s u : State) (p : Path) (f : Node → Node) (n : Node) (stat : Stat) → u.nodes ≡ change p f s.nodes → find s.nodes p ≡ Some n → (find u.nodes p ≡ Some (f n) → stat ≡ stat_of u.nodes p (f n))
    → stat ≡ stat_of s.nodes p (f n)
changed_stat s u p f n stat e found told =
    let there : find u.nodes p ≡ Some (f n) = ap (λ (es : List Place). find es p) e ∙ find_changed-same p f n s.nodes found in
    told there ∙ ap (λ (es : List Place). stat_of es p (f n)) e ∙ stat_changed p p f s.nodes (f n)

pub stat_here : (s : State) (p : Path) (node : Node) (n : code.Node) (stat : Stat) → IsFound s.nodes p (Some n) → find s.nodes p ≡ Some node → (IsSmall n → stat ≡ kept_stat n) → stat ≡ stat_of s.nodes p node
stat_here s p node n stat f found told =
    let h = present s.nodes p n f in
    let plain = h.plain in
    let same : node_of n ≡ node = cc in
    told h.small ∙ stat_is s.nodes p n h ∙ ap (stat_of s.nodes p) same

pub not_here : (s : State) (p : Path) (node : Node) → IsFound s.nodes p None → find s.nodes p ≡ Some node → ⊥
not_here s p node f found = let none = absent s.nodes p f in cc

-- ---- delete

pub delete_none : (naming : Naming) (at : Moment) (s : State) (p : Path) (v : ℤ) (h : Held) (outputs : Vec Output Global) → Means h s → IsFound s.nodes p None
    → Performs s (perform naming at s (delete p v)) h outputs outputs (Err (stops.Refused no_node))
delete_none naming at s p v h outputs m f = refused_by s _ h outputs no_node m (delete_missing naming at s p v (absent s.nodes p f))

pub delete_wrong : (naming : Naming) (at : Moment) (s : State) (p : Path) (v : ℤ) (h : Held) (outputs : Vec Output Global) (n : code.Node) → Means h s → IsFound s.nodes p (Some n) → is_other_version v n.numbers.version ≡ true
    → Performs s (perform naming at s (delete p v)) h outputs outputs (Err (stops.Refused bad_version))
unfolding node_of
delete_wrong naming at s p v h outputs n m f o = refused_by s _ h outputs bad_version m (delete_other naming at s p v (node_of n) (present s.nodes p n f).plain o)

has_none : (es : List Place) (p : Path) (n : code.Node) → IsFound es p (Some n) → length n.names.keys ≡ 0 → has_children p es ≡ false
unfolding has_children
has_none es p n f e = ap (λ (l : ℕ). not (l == 0)) (sym (count_names es p n (present es p n f).names) ∙ e)

has_some : (es : List Place) (p : Path) (n : code.Node) → IsFound es p (Some n) → (length n.names.keys ≡ 0 → ⊥) → has_children p es ≡ true
unfolding has_children
has_some es p n f some = elim (cases_Bool (length (children p es) == 0)) [
  | inl i ↦ absurd (some (count_names es p n (present es p n f).names ∙ eqb-true (length (children p es)) 0 i))
  | inr i ↦ ap not i
]

pub delete_full : (naming : Naming) (at : Moment) (s : State) (p : Path) (v : ℤ) (h : Held) (outputs : Vec Output Global) (n : code.Node) → Means h s → IsFound s.nodes p (Some n) → is_other_version v n.numbers.version ≡ false
    → (length n.names.keys ≡ 0 → ⊥) → Performs s (perform naming at s (delete p v)) h outputs outputs (Err (stops.Refused not_empty))
unfolding node_of
delete_full naming at s p v h outputs n m f o e = refused_by s _ h outputs not_empty m (delete_filled naming at s p v (node_of n) (present s.nodes p n f).plain o (has_some s.nodes p n f e))

-- what the owner of a node that goes has left
pub owned_gone : (k owner : ℤ) (p : Path) (es : List Place) (n : Node) → IsApart es → find es p ≡ Some n → n.numbers.owner ≡ owner → without_owned owner p (λ j. ephemerals j es) k ≡ others p (ephemerals k es)
unfolding without_owned
owned_gone k owner p es n apart found own = elim (cases_Bool (int_eq k owner)) [
  | inl i ↦ ap (λ (b : Bool). cond b (others p (ephemerals k es)) (ephemerals k es)) i
  | inr i ↦
      let far : int_eq n.numbers.owner k ≡ false = ap (λ (z : ℤ). int_eq z k) own ∙ number_flips k owner i in
      ap (λ (b : Bool). cond b (others p (ephemerals k es)) (ephemerals k es)) i ∙ sym (ephemerals_removed-other k p es n apart found far) ∙ ephemerals_removed k p es
]

with_deletion_keeps : (z : ℤ) → KeepsOwner (with_deletion z)
unfolding with_deletion
with_deletion_keeps z n = refl

pub gone_means : (h after : Held) (at : Moment) (s : State) (n : List ℕ) (p : Path) (node : Node) (owner : ℤ) → Means h s → find s.nodes (n ∷ p) ≡ Some node → node.numbers.owner ≡ owner
    → Holds after.places (remove (n ∷ p) (change p (with_deletion at.zxid) s.nodes)) → Keeps after.sessions s.sessions (without_owned owner (n ∷ p) (λ k. ephemerals k s.nodes))
    → Watching after.watches (left_by_deletion (n ∷ p) s.watches) → after.last ≡ at.zxid → Means after (deleted at.zxid (n ∷ p) s).state
unfolding deleted above
gone_means h after at s n p node owner m found own holds keeps watched last = record {
  places = holds;
  sessions = keeps_same after.sessions s.sessions (without_owned owner (n ∷ p) (λ k. ephemerals k s.nodes)) (λ k. ephemerals k (remove (n ∷ p) (change p (with_deletion at.zxid) s.nodes)))
      (at_each s (without_owned owner (n ∷ p) (λ k. ephemerals k s.nodes)) (λ k. ephemerals k (remove (n ∷ p) (change p (with_deletion at.zxid) s.nodes))) s.sessions m.numbers
      (λ k above. owned_gone k owner (n ∷ p) s.nodes node m.places.apart found own
      ∙ ap (others (n ∷ p)) (sym (ephemerals_changed k p (with_deletion at.zxid) s.nodes (with_deletion_keeps at.zxid)))
      ∙ sym (ephemerals_removed k (n ∷ p) (change p (with_deletion at.zxid) s.nodes))))
      keeps;
  owners = owned_removed (record s { nodes = change p (with_deletion at.zxid) s.nodes }) (n ∷ p) (deleted at.zxid (n ∷ p) s).state.watches at.zxid
      (owned_changed s p (with_deletion at.zxid) s.watches s.last (with_deletion_keeps at.zxid) m.owners);
  numbers = given_so s (deleted at.zxid (n ∷ p) s).state s.sessions refl m.numbers;
  watches = watched;
  last = last;
}

pub delete_out : (naming : Naming) (at : Moment) (s : State) (p : Path) (v : ℤ) (h after : Held) (before sent : Vec Output Global) (n : code.Node) (owner : ℤ) → Means h s → IsFound s.nodes p (Some n)
    → is_other_version v n.numbers.version ≡ false → length n.names.keys ≡ 0 → n.numbers.owner ≡ owner → sent.items ≡ before.items ++ deletion_events p s.watches
    → (find s.nodes p ≡ Some (node_of n) → (node_of n).numbers.owner ≡ owner → has_children p s.nodes ≡ false → Means after (deleted at.zxid p s).state)
    → Performs s (perform naming at s (delete p v)) after before sent (Ok results.Deleted)
unfolding node_of deleted
delete_out naming at s p v h after before sent n owner m f o e own told gone =
    let found = (present s.nodes p n f).plain in
    let none = has_none s.nodes p n f e in
    performed s _ (deleted at.zxid p s) after before sent results.Deleted (delete_done naming at s p v (node_of n) found o none) refl told (gone found own none)

-- ---- setData

pub content_none : (naming : Naming) (at : Moment) (s : State) (p : Path) (d : Option (List ℕ)) (v : ℤ) (h : Held) (outputs : Vec Output Global) → Means h s → IsFound s.nodes p None
    → Performs s (perform naming at s (set_content p d v)) h outputs outputs (Err (stops.Refused no_node))
content_none naming at s p d v h outputs m f = refused_by s _ h outputs no_node m (set_content_missing naming at s p d v (absent s.nodes p f))

pub content_wrong : (naming : Naming) (at : Moment) (s : State) (p : Path) (d : Option (List ℕ)) (v : ℤ) (h : Held) (outputs : Vec Output Global) (n : code.Node) → Means h s → IsFound s.nodes p (Some n)
    → is_other_version v n.numbers.version ≡ true → Performs s (perform naming at s (set_content p d v)) h outputs outputs (Err (stops.Refused bad_version))
unfolding node_of
content_wrong naming at s p d v h outputs n m f o = refused_by s _ h outputs bad_version m (set_content_other naming at s p d v (node_of n) (present s.nodes p n f).plain o)

pub content_last : (naming : Naming) (at : Moment) (s : State) (p : Path) (d : Option (List ℕ)) (v : ℤ) (h : Held) (outputs : Vec Output Global) (n : code.Node) → Means h s → IsFound s.nodes p (Some n)
    → is_other_version v n.numbers.version ≡ false → greatest_int ≤ n.numbers.version → Performs s (perform naming at s (set_content p d v)) h outputs outputs (Err (stops.Refused system_error))
unfolding node_of
content_last naming at s p d v h outputs n m f o l = refused_by s _ h outputs system_error m (set_content_last naming at s p d v (node_of n) (present s.nodes p n f).plain o (full_so n.numbers.version l))

with_content_keeps : (at : Moment) (d : Option (List ℕ)) → KeepsOwner (with_content at d)
unfolding with_content
with_content_keeps at d n = refl

short_content : (d : Option (List ℕ)) → IsShortContent d → size_of d ≤ content_limit
unfolding size_of
short_content None h = omega arith
short_content (Some bytes) h = h

set_so : (naming : Naming) (at : Moment) (s : State) (p : Path) (d : Option (List ℕ)) (v : ℤ) (h after : Held) (before sent : Vec Output Global) (n : Node) (stat : Stat) → find s.nodes p ≡ Some n
    → is_other_version v n.numbers.version ≡ false → is_at_last n.numbers.version ≡ false → Means h s → sent.items ≡ before.items ++ content_events p s.watches
    → Holds after.places (change p (with_content at d) s.nodes) → Watching after.watches (left on_data p s.watches) → after.sessions ≡ h.sessions → after.last ≡ at.zxid
    → ((u : State) → Means after u → find u.nodes p ≡ Some (with_content at d n) → stat ≡ stat_of u.nodes p (with_content at d n))
    → Performs s (perform naming at s (set_content p d v)) after before sent (Ok (results.Changed stat))
unfolding updated
set_so naming at s p d v h after before sent n stat found o room m told set watched same last now =
    let means : Means after (updated at p d n s).state = changed_means h after s p (with_content at d) (left on_data p s.watches) at.zxid (with_content_keeps at d) m set same watched last in
    let e = changed_stat s (updated at p d n s).state p (with_content at d) n stat refl found (now (updated at p d n s).state means) in
    performed s _ (updated at p d n s) after before sent (results.Changed stat) (set_content_done naming at s p d v n found o room) (ap results.Changed e) told means

-- a text of the changed node's path, and what is told of each node then
pub content_set : (naming : Naming) (at : Moment) (s : State) (p : Path) (d c : Option (List ℕ)) (v : ℤ) (h after : Held) (before sent : Vec Output Global) (text : List ℕ) (n : code.Node) (stat : Stat) → Means h s → IsTextOf text p
    → IsFound s.nodes p (Some n) → is_other_version v n.numbers.version ≡ false → n.numbers.version < greatest_int → IsShortContent d → c ≡ d → sent.items ≡ before.items ++ content_events p s.watches
    → ((es : List Place) (q : Path) (x : Node) → Holds h.places es → IsTextOf text q → find es q ≡ Some x → x.numbers.version < greatest_int → size_of c ≤ content_limit → Holds after.places (change q (with_content at c) es))
    → Watching after.watches (left on_data p s.watches) → after.sessions ≡ h.sessions → after.last ≡ at.zxid
    → ((u : State) (q : Path) (x : Node) → Means after u → IsTextOf text q → find u.nodes q ≡ Some x → stat ≡ stat_of u.nodes q x)
    → Performs s (perform naming at s (set_content p d v)) after before sent (Ok (results.Changed stat))
unfolding node_of
content_set naming at s p d c v h after before sent text n stat m t f o low short copy told holds watched same last now =
    let found = (present s.nodes p n f).plain in
    let set : Holds after.places (change p (with_content at d) s.nodes) =
    subst (λ (x : Option (List ℕ)). Holds after.places (change p (with_content at x) s.nodes)) copy
    (holds s.nodes p (node_of n) m.places t found low (subst (λ (x : Option (List ℕ)). size_of x ≤ content_limit) (sym copy) (short_content d short))) in
    set_so naming at s p d v h after before sent (node_of n) stat found o (room_so n.numbers.version low) m told set watched same last (λ u mu fu. now u p (with_content at d (node_of n)) mu t fu)

-- ---- check

pub check_none : (naming : Naming) (at : Moment) (s : State) (p : Path) (v : ℤ) (h : Held) (outputs : Vec Output Global) → Means h s → IsFound s.nodes p None
    → Performs s (perform naming at s (check p v)) h outputs outputs (Err (stops.Refused no_node))
check_none naming at s p v h outputs m f = refused_by s _ h outputs no_node m (check_missing naming at s p v (absent s.nodes p f))

pub check_wrong : (naming : Naming) (at : Moment) (s : State) (p : Path) (v : ℤ) (h : Held) (outputs : Vec Output Global) (n : code.Node) → Means h s → IsFound s.nodes p (Some n) → is_other_version v n.numbers.version ≡ true
    → Performs s (perform naming at s (check p v)) h outputs outputs (Err (stops.Refused bad_version))
unfolding node_of
check_wrong naming at s p v h outputs n m f o = refused_by s _ h outputs bad_version m (check_other naming at s p v (node_of n) (present s.nodes p n f).plain o)

-- a zxid was drawn, and nothing else changed
drawn : (h after : Held) (s : State) (z : ℤ) → Means h s → after.places ≡ h.places → after.sessions ≡ h.sessions → after.watches ≡ h.watches → after.last ≡ z → Means after (record s { last = z })
drawn h after s z m there same watched last = record {
  places = subst (λ (t : Places). Holds t s.nodes) (sym there) m.places;
  sessions = subst (λ (t : Sessions). Keeps t s.sessions (λ k. ephemerals k s.nodes)) (sym same) m.sessions;
  owners = record { given = m.owners.given; childless = m.owners.childless; free = m.owners.free };
  numbers = given_so s (record s { last = z }) s.sessions refl m.numbers;
  watches = subst (λ (t : Watches). Watching t s.watches) (sym watched) m.watches;
  last = last;
}

pub check_passed : (naming : Naming) (at : Moment) (s : State) (p : Path) (v : ℤ) (h after : Held) (outputs : Vec Output Global) (n : code.Node) → Means h s → IsFound s.nodes p (Some n) → is_other_version v n.numbers.version ≡ false
    → after.places ≡ h.places → after.sessions ≡ h.sessions → after.watches ≡ h.watches → after.last ≡ at.zxid → Performs s (perform naming at s (check p v)) after outputs outputs (Ok results.Checked)
unfolding node_of
check_passed naming at s p v h after outputs n m f o there same watched last =
    let e : Effect = record { state = record s { last = at.zxid }; result = results.Checked; events = [] } in
    performed s _ e after outputs outputs results.Checked (check_done naming at s p v (node_of n) (present s.nodes p n f).plain o) refl (sym (append-nil outputs.items)) (drawn h after s at.zxid m there same watched last)

-- ---- setACL

pub acl_none : (naming : Naming) (at : Moment) (c : ℕ) (s : State) (p : Path) (v : ℤ) (h : Held) → Means h s → IsFound s.nodes p None → Quietly s (answer naming at c s (set_acl p v)) h (Ok (outcomes.Error no_node))
acl_none naming at c s p v h m f = quietly_error s _ h no_node m (set_acl_missing naming at c s p v (absent s.nodes p f))

pub acl_wrong : (naming : Naming) (at : Moment) (c : ℕ) (s : State) (p : Path) (v : ℤ) (h : Held) (n : code.Node) → Means h s → IsFound s.nodes p (Some n) → is_other_version v n.numbers.aversion ≡ true
    → Quietly s (answer naming at c s (set_acl p v)) h (Ok (outcomes.Error bad_version))
unfolding node_of
acl_wrong naming at c s p v h n m f o = quietly_error s _ h bad_version m (set_acl_other naming at c s p v (node_of n) (present s.nodes p n f).plain o)

pub acl_last : (naming : Naming) (at : Moment) (c : ℕ) (s : State) (p : Path) (v : ℤ) (h : Held) (n : code.Node) → Means h s → IsFound s.nodes p (Some n) → is_other_version v n.numbers.aversion ≡ false
    → greatest_int ≤ n.numbers.aversion → Quietly s (answer naming at c s (set_acl p v)) h (Ok (outcomes.Error system_error))
unfolding node_of
acl_last naming at c s p v h n m f o l = quietly_error s _ h system_error m (set_acl_last naming at c s p v (node_of n) (present s.nodes p n f).plain o (full_so n.numbers.aversion l))

with_acl_keeps : KeepsOwner with_acl
unfolding with_acl
with_acl_keeps n = refl

pub acl_set : (naming : Naming) (at : Moment) (c : ℕ) (s : State) (p : Path) (v : ℤ) (h after : Held) (text : List ℕ) (n : code.Node) (stat : Stat) → Means h s → IsTextOf text p → IsFound s.nodes p (Some n)
    → is_other_version v n.numbers.aversion ≡ false → n.numbers.aversion < greatest_int
    → ((es : List Place) (q : Path) (x : Node) → Holds h.places es → IsTextOf text q → find es q ≡ Some x → x.numbers.aversion < greatest_int → Holds after.places (change q with_acl es))
    → after.watches ≡ h.watches → after.sessions ≡ h.sessions → after.last ≡ at.zxid
    → ((u : State) (q : Path) (x : Node) → Means after u → IsTextOf text q → find u.nodes q ≡ Some x → stat ≡ stat_of u.nodes q x)
    → Quietly s (answer naming at c s (set_acl p v)) after (Ok (outcomes.Stat stat))
unfolding node_of
acl_set naming at c s p v h after text n stat m t f o low holds watched same last told =
    let found = (present s.nodes p n f).plain in
    let u : State = record s { nodes = change p with_acl s.nodes; last = at.zxid } in
    let kept = subst (λ (x : Watches). Watching x s.watches) (sym watched) m.watches in
    let means : Means after u = changed_means h after s p with_acl s.watches at.zxid with_acl_keeps m (holds s.nodes p (node_of n) m.places t found low) same kept last in
    let e = changed_stat s u p with_acl (node_of n) stat refl found (λ there. told u p (with_acl (node_of n)) means t there) in
    quietly_only s u _ after (outcomes.Stat stat) (outcomes.Stat (stat_of s.nodes p (with_acl (node_of n)))) (set_acl_done naming at c s p v (node_of n) found o (room_so n.numbers.aversion low)) (ap outcomes.Stat e) means

-- ---- create

-- what was held stays held where the same sessions and the same nodes are kept
pub held_still : (h after : Held) → ((xs : List Session) (owned : Owning) → Keeps h.sessions xs owned → Keeps after.sessions xs owned) → ((es : List Place) → Holds h.places es → Holds after.places es)
    → after.watches ≡ h.watches → after.last ≡ h.last → Stays h after
held_still h after keeps holds watched last s m = record {
  places = holds s.nodes m.places;
  sessions = keeps s.sessions (λ k. ephemerals k s.nodes) m.sessions;
  owners = m.owners;
  numbers = m.numbers;
  watches = subst (λ (t : Watches). Watching t s.watches) (sym watched) m.watches;
  last = last ∙ m.last;
}

-- what holds always holds where there was an error
pub on_err : {T E P : Type 0} (r : Result T E) → P → OnErr r P
on_err (Ok x) h = tt
on_err (Err x) h = h

-- where a node is found, one is there
pub found_so : (es : List Place) (p : Path) (o : Option (Bor code.Node)) (b : Bool) → IsFound es p (option_copied o) → is_some o ≡ b → is_there es p ≡ b
unfolding IsFound
found_so es p None b f e = there_found p es ∙ ap is_some f ∙ e
found_so es p (Some n) b f e = there_found p es ∙ ap is_some f.plain ∙ e

pub create_exists : (naming : Naming) (at : Moment) (s : State) (p : Path) (n m : List ℕ) (d : Option (List ℕ)) (q e w : Bool) (up : Node) (h : Held) (outputs : Vec Output Global) (o : Option (Bor code.Node)) → Means h s → IsParent s p up
    → name_for naming p n q up ≡ Some m → IsFound s.nodes (m ∷ p) (option_copied o) → true ≡ is_some o → Performs s (perform naming at s (create p n d q e w)) h outputs outputs (Err (stops.Refused node_exists))
create_exists naming at s p n m d q e w up h outputs o means parent named f there =
    refused_by s _ h outputs node_exists means (create_there naming at s p n m d q e w up parent named (found_so s.nodes (m ∷ p) o true f (sym there)))

-- the session of a new ephemeral comes to own it, and the places are these
pub record Joins (h mid : Held) (made : Places) (session : ℤ) (text : List ℕ) (ephemeral : Bool) : Type 0 where
  pub places : mid.places ≡ made
  pub watches : mid.watches ≡ h.watches
  pub owns : (xs : List Session) (owned : Owning) (p : Path) → Keeps h.sessions xs owned → IsTextOf text p → Keeps mid.sessions xs (cond ephemeral (with_owned session p owned) owned)

-- a node that is not ephemeral joins no session
pub no_join : (h mid : Held) (made : Places) (sessions : Sessions) (session : ℤ) (text : List ℕ) (e : Bool) (o : Option (String Global)) → o ≡ None → is_some o ≡ e
    → ((xs : List Session) (owned : Owning) → Keeps h.sessions xs owned → Keeps sessions xs owned) → mid ≡ record { places = made; sessions = sessions; watches = h.watches; last = h.last } → Joins h mid made session text e
no_join h mid made sessions session text e o none asked keeps is =
    let off : false ≡ e = sym (ap is_some none) ∙ asked in
    subst (λ (x : Held). Joins h x made session text e) (sym is)
    (subst (Joins h (record { places = made; sessions = sessions; watches = h.watches; last = h.last }) made session text) off (record { places = refl; watches = refl; owns = λ xs owned p kept t. keeps xs owned kept }))

-- an ephemeral one comes to its session, for which room was made
pub join : (h mid : Held) (made : Places) (roomy sessions : Sessions) (j session : ℤ) (text : List ℕ) (e : Bool) (o : Option (String Global)) (own : String Global) → o ≡ Some own → is_some o ≡ e
    → IfSome o (λ x. string_bytes x ≡ text) → j ≡ session → ((xs : List Session) (owned : Owning) → Keeps h.sessions xs owned → Keeps roomy xs owned)
    → ((xs : List Session) (owned : Owning) (p : Path) → Keeps roomy xs owned → IsTextOf (string_bytes own) p → Keeps sessions xs (with_owned j p owned))
    → mid ≡ record { places = made; sessions = sessions; watches = h.watches; last = h.last } → Joins h mid made session text e
join h mid made roomy sessions j session text e o own some asked told same keeps owns is =
    let on : true ≡ e = sym (ap is_some some) ∙ asked in
    let spelled : string_bytes own ≡ text = subst (λ (x : Option (String Global)). IfSome x (λ y. string_bytes y ≡ text)) some told in
    let after : Held = record { places = made; sessions = sessions; watches = h.watches; last = h.last } in
    subst (λ (x : Held). Joins h x made session text e) (sym is)
    (subst (λ (z : ℤ). Joins h after made z text e) same (subst (Joins h after made j text) on
    (record { places = refl; watches = refl; owns = λ xs owned p kept t. owns xs owned p (keeps xs owned kept) (subst (λ (b : List ℕ). IsTextOf b p) (sym spelled) t) })))

with_creation_keeps : (z : ℤ) → KeepsOwner (with_creation z)
unfolding with_creation
with_creation_keeps z n = refl

-- a new node belongs to the session that made it, if it is ephemeral
owned_more : (k : ℤ) (at : Moment) (q p : Path) (d : Option (List ℕ)) (e : Bool) (z : ℤ) (es : List Place) → pos 1 ≤ℤ k
    → cond e (with_owned at.session q (λ j. ephemerals j es)) (λ j. ephemerals j es) k ≡ ephemerals k (add q (record { content = d; numbers = fresh_numbers at e }) (change p (with_creation z) es))
unfolding with_owned fresh_numbers
owned_more k at q p d true z es above =
    let node : Node = record { content = d; numbers = fresh_numbers at true } in
    let same = sym (ephemerals_changed k p (with_creation z) es (with_creation_keeps z)) in
    elim (cases_Bool (int_eq k at.session)) [
      | inl i ↦
          ap (λ (b : Bool). cond b (ephemerals k es ++ q ∷ []) (ephemerals k es)) i ∙ ap (λ (l : List Path). l ++ q ∷ []) same
          ∙ sym (ephemerals_added-own k q node (change p (with_creation z) es) (same_number at.session k (sym (equal_numbers k at.session i))))
      | inr i ↦
          ap (λ (b : Bool). cond b (ephemerals k es ++ q ∷ []) (ephemerals k es)) i ∙ same
          ∙ sym (ephemerals_added-other k q node (change p (with_creation z) es) (number_flips k at.session i))
    ]
owned_more k at q p d false z es above =
    let node : Node = record { content = d; numbers = fresh_numbers at false } in
    let far : int_eq (pos 0) k ≡ false = other_number (pos 0) k (λ e. let l = subst (λ (j : ℤ). pos 1 ≤ℤ j) (sym e) above in absurd l.le) in
    sym (ephemerals_added-other k q node (change p (with_creation z) es) far ∙ ephemerals_changed k p (with_creation z) es (with_creation_keeps z))

not_below : (a z : ℤ) → pos 1 ≤ℤ a → a ≤ℤ z → pos 0 ≤ℤ z
not_below a z low high = by_lt_z z (pos 0) (λ below. clash_ℤ (<ℤ-≤ℤ_trans (<ℤ-≤ℤ_trans below (record { le = tt })) low) high) (λ h. h)

fresh_given : (s : State) (at : Moment) (e : Bool) → IsMoment s at → (fresh_numbers at e).owner ≤ℤ s.greatest
unfolding fresh_numbers
fresh_given s at true mo = mo.given
fresh_given s at false mo = not_below at.session s.greatest mo.positive mo.given

made_means : (h mid after : Held) (made : Places) (at : Moment) (s : State) (text : List ℕ) (p : Path) (m : List ℕ) (up : Node) (d : Option (List ℕ)) (e w : Bool) → Means h s → IsMoment s at → IsTextOf text (m ∷ p) → IsParent s p up → is_there s.nodes (m ∷ p) ≡ false
    → Joins h mid made at.session text e → after.sessions ≡ mid.sessions → Holds after.places (add (m ∷ p) (record { content = d; numbers = fresh_numbers at e }) (change p (with_creation at.zxid) s.nodes))
    → Watching after.watches (left_by_creation p m s.watches) → after.last ≡ at.zxid → Means after (created at p m (record { content = d; numbers = fresh_numbers at e }) w s).state
unfolding created with_creation
made_means h mid after made at s text p m up d e w means mo t parent vacant joins same holds watched last =
    let own : Owning = λ k. ephemerals k s.nodes in
    let f = with_creation at.zxid in
    let node : Node = record { content = d; numbers = fresh_numbers at e } in
    let u : State = (created at p m node w s).state in
    let then : Owning = λ k. ephemerals k u.nodes in
    let ours : Owning = cond e (with_owned at.session (m ∷ p) own) own in
    let v : State = record s { nodes = change p f s.nodes } in
    record {
      places = holds;
      sessions = keeps_same after.sessions s.sessions ours then (at_each s ours then s.sessions means.numbers (λ k above. owned_more k at (m ∷ p) p d e at.zxid s.nodes above))
          (subst (λ (x : Sessions). Keeps x s.sessions ours) (sym same) (joins.owns s.sessions own (m ∷ p) means.sessions t));
      owners = owned_added v m p node (f up) u.watches u.last (there_changed p (m ∷ p) f s.nodes ∙ vacant) (find_changed-same p f up s.nodes parent.there) (no_owner up parent.free) (fresh_given s at e mo)
          (children_changed p (m ∷ p) f s.nodes ∙ no_children (m ∷ p) s.nodes means.places.rooted vacant) (owned_changed s p f s.watches s.last (with_creation_keeps at.zxid) means.owners);
      numbers = given_so s u s.sessions refl means.numbers;
      watches = watched;
      last = last;
    }

-- what is answered to a creation, of which what is held tells
abbrev pub TellsCreation : Held → Bool → List ℕ → OpResult → Type 0
TellsCreation h w made result = (s : State) (p : Path) (node : Node) → Means h s → IsTextOf made p → find s.nodes p ≡ Some node → result ≡ creation_result w s.nodes p node

pub tells_path : (w : Bool) (made : List ℕ) (es : List Place) (p : Path) (node : Node) → w ≡ false → made ≡ text_of p → results.Created made ≡ creation_result w es p node
unfolding creation_result
tells_path false made es p node e t = ap results.Created t
tells_path true made es p node e t = absurd cc

pub tells_stat : (w : Bool) (made : List ℕ) (stat : Stat) (es : List Place) (p : Path) (node : Node) → w ≡ true → made ≡ text_of p → stat ≡ stat_of es p node → results.Created2 made stat ≡ creation_result w es p node
unfolding creation_result
tells_stat true made stat es p node e t s = cc
tells_stat false made stat es p node e t s = absurd cc

created_so : (naming : Naming) (at : Moment) (s : State) (p : Path) (n m : List ℕ) (d : Option (List ℕ)) (q e w : Bool) (up : Node) (after : Held) (before sent : Vec Output Global) (made : List ℕ) (result : OpResult) → IsParent s p up
    → name_for naming p n q up ≡ Some m → is_there s.nodes (m ∷ p) ≡ false → IsTextOf made (m ∷ p) → sent.items ≡ before.items ++ creation_events p m s.watches
    → Means after (created at p m (record { content = d; numbers = fresh_numbers at e }) w s).state → TellsCreation after w made result → Performs s (perform naming at s (create p n d q e w)) after before sent (Ok result)
unfolding created
created_so naming at s p n m d q e w up after before sent made result parent named vacant spelled told means tells =
    let node : Node = record { content = d; numbers = fresh_numbers at e } in
    let u : State = (created at p m node w s).state in
    let there : find u.nodes (m ∷ p) ≡ Some node = find_added-same (m ∷ p) node (change p (with_creation at.zxid) s.nodes) (there_changed p (m ∷ p) (with_creation at.zxid) s.nodes ∙ vacant) in
    performed s _ (created at p m node w s) after before sent result (create_done naming at s p n m d q e w up parent named vacant) (tells u (m ∷ p) node means spelled there) told means

pub create_makes : (naming : Naming) (at : Moment) (s : State) (p : Path) (n m : List ℕ) (d c : Option (List ℕ)) (q e w : Bool) (up : Node) (h mid after : Held) (put : Places) (before sent : Vec Output Global) (text made : List ℕ) (result : OpResult) (o : Option (Bor code.Node))
    → Means h s → IsTextOf text (m ∷ p) → IsMoment s at → IsParent s p up → name_for naming p n q up ≡ Some m → IsFound s.nodes (m ∷ p) (option_copied o) → false ≡ is_some o → IsShortContent d → length text ≤ text_limit → c ≡ d → made ≡ text
    → sent.items ≡ before.items ++ creation_events p m s.watches → Joins h mid put at.session text e → after.places ≡ mid.places → after.sessions ≡ mid.sessions
    → ((ws : List Watch) (r : Path) (k : List ℕ) → Watching mid.watches ws → IsTextOf text (k ∷ r) → Watching after.watches (left_by_creation r k ws)) → after.last ≡ at.zxid
    → ((es : List Place) (k : List ℕ) (r : Path) (x : Node) → Holds h.places es → IsTextOf text (k ∷ r) → is_there es (k ∷ r) ≡ false → find es r ≡ Some x → x.numbers.creations < greatest_int → size_of c ≤ content_limit → length text ≤ text_limit
    → Holds put (add (k ∷ r) (record { content = c; numbers = fresh_numbers at e }) (change r (with_creation at.zxid) es)))
    → TellsCreation after w made result → Performs s (perform naming at s (create p n d q e w)) after before sent (Ok result)
create_makes naming at s p n m d c q e w up h mid after put before sent text made result o means t mo parent named f there short room copy spelled told joins placed same fired last holds tells =
    let watched = fired s.watches p m (subst (λ (u : Watches). Watching u s.watches) (sym joins.watches) means.watches) t in
    let vacant = found_so s.nodes (m ∷ p) o false f (sym there) in
    let node : Node = record { content = d; numbers = fresh_numbers at e } in
    let held : Holds put (add (m ∷ p) node (change p (with_creation at.zxid) s.nodes)) =
    subst (λ (x : Option (List ℕ)). Holds put (add (m ∷ p) (record { content = x; numbers = fresh_numbers at e }) (change p (with_creation at.zxid) s.nodes))) copy
    (holds s.nodes m p up means.places t vacant parent.there (low_so up.numbers.creations parent.room)
    (subst (λ (x : Option (List ℕ)). size_of x ≤ content_limit) (sym copy) (short_content d short)) room) in
    let moved = subst (λ (u : Places). Holds u (add (m ∷ p) node (change p (with_creation at.zxid) s.nodes))) (sym (placed ∙ joins.places)) held in
    created_so naming at s p n m d q e w up after before sent made result parent named vacant (subst (λ (x : List ℕ). IsTextOf x (m ∷ p)) (sym spelled) t) told
    (made_means h mid after put at s text p m up d e w means mo t parent vacant joins same moved watched last) tells
