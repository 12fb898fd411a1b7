-- Each end of each row of the machine, from what the checks find.
use Rattle.std.proofs.Common.{◌≡◌, ℕ, ℤ, Bool, true, false, List, [], ◌∷◌, Option, Some, None, ap, ◌∙◌}
use Rattle.zk_messages.specs.declared.reply.OpResult.TheVariants as results
use Rattle.zk_messages.specs.declared.reply.Outcome.TheVariants as outcomes
use Rattle.tree_state.specs.declared.node.Moment.{Moment}
use Rattle.tree_state.specs.Nodes.{Path, Node, find, is_there, change, has_children, stat_of}
use Rattle.tree_state.specs.State.{State}
use Rattle.tree_state.specs.Commands.{create, delete, set_content, check, set_acl}
use Rattle.tree_state.specs.Changes.{Trial, failed, done, need, refuse, Naming, perform, has_owner, is_at_last, is_other_version, name_for, created, deleted, updated, fresh_numbers, with_acl, no_node, bad_version, not_empty, node_exists, no_children_for_ephemerals, system_error, bad_arguments}
use Rattle.tree_state.specs.Step.{answer, or_error, with_error, told_only}
use Rattle.tree_state.specs.Trees.{IsParent}

-- ---- the checks

pub needed : {A B : Type 0} (o : Option A) (a : A) (code : ℤ) (next : A → Trial ℤ B) → o ≡ Some a → need o code next ≡ next a
unfolding need
needed o a code next h = ap (λ (x : Option _). need x code next) h

pub lacking : {A B : Type 0} (o : Option A) (code : ℤ) (next : A → Trial ℤ B) → o ≡ None → need o code next ≡ failed code
unfolding need
lacking o code next h = ap (λ (x : Option _). need x code next) h

pub refused_so : {B : Type 0} (b : Bool) (code : ℤ) (next : Trial ℤ B) → b ≡ true → refuse b code next ≡ failed code
unfolding refuse
refused_so b code next h = ap (λ (x : Bool). refuse x code next) h

pub passed : {B : Type 0} (b : Bool) (code : ℤ) (next : Trial ℤ B) → b ≡ false → refuse b code next ≡ next
unfolding refuse
passed b code next h = ap (λ (x : Bool). refuse x code next) h

-- ---- create

pub create_missing : (naming : Naming) (at : Moment) (s : State) (p : Path) (n : List ℕ) (d : Option (List ℕ)) (q e w : Bool) → find s.nodes p ≡ None → perform naming at s (create p n d q e w) ≡ failed no_node
unfolding perform
create_missing naming at s p n d q e w h = lacking _ _ _ h

pub create_owned : (naming : Naming) (at : Moment) (s : State) (p : Path) (n : List ℕ) (d : Option (List ℕ)) (q e w : Bool) (up : Node) → find s.nodes p ≡ Some up → has_owner up ≡ true
    → perform naming at s (create p n d q e w) ≡ failed no_children_for_ephemerals
unfolding perform
create_owned naming at s p n d q e w up h o = needed _ _ _ _ h ∙ refused_so _ _ _ o

pub create_full : (naming : Naming) (at : Moment) (s : State) (p : Path) (n : List ℕ) (d : Option (List ℕ)) (q e w : Bool) (up : Node) → find s.nodes p ≡ Some up → has_owner up ≡ false → is_at_last up.numbers.creations ≡ true
    → perform naming at s (create p n d q e w) ≡ failed system_error
unfolding perform
create_full naming at s p n d q e w up h o l = needed _ _ _ _ h ∙ passed _ _ _ o ∙ refused_so _ _ _ l

pub create_unnamed : (naming : Naming) (at : Moment) (s : State) (p : Path) (n : List ℕ) (d : Option (List ℕ)) (q e w : Bool) (up : Node) → IsParent s p up → name_for naming p n q up ≡ None
    → perform naming at s (create p n d q e w) ≡ failed bad_arguments
unfolding perform
create_unnamed naming at s p n d q e w up h m = needed _ _ _ _ h.there ∙ passed _ _ _ h.free ∙ passed _ _ _ h.room ∙ lacking _ _ _ m

pub create_there : (naming : Naming) (at : Moment) (s : State) (p : Path) (n m : List ℕ) (d : Option (List ℕ)) (q e w : Bool) (up : Node) → IsParent s p up → name_for naming p n q up ≡ Some m → is_there s.nodes (m ∷ p) ≡ true
    → perform naming at s (create p n d q e w) ≡ failed node_exists
unfolding perform
create_there naming at s p n m d q e w up h k t = needed _ _ _ _ h.there ∙ passed _ _ _ h.free ∙ passed _ _ _ h.room ∙ needed _ _ _ _ k ∙ refused_so _ _ _ t

pub create_done : (naming : Naming) (at : Moment) (s : State) (p : Path) (n m : List ℕ) (d : Option (List ℕ)) (q e w : Bool) (up : Node) → IsParent s p up → name_for naming p n q up ≡ Some m → is_there s.nodes (m ∷ p) ≡ false
    → perform naming at s (create p n d q e w) ≡ done (created at p m (record { content = d; numbers = fresh_numbers at e }) w s)
unfolding perform
create_done naming at s p n m d q e w up h k t = needed _ _ _ _ h.there ∙ passed _ _ _ h.free ∙ passed _ _ _ h.room ∙ needed _ _ _ _ k ∙ passed _ _ _ t

-- ---- delete

pub delete_missing : (naming : Naming) (at : Moment) (s : State) (p : Path) (v : ℤ) → find s.nodes p ≡ None → perform naming at s (delete p v) ≡ failed no_node
unfolding perform
delete_missing naming at s p v h = lacking _ _ _ h

pub delete_other : (naming : Naming) (at : Moment) (s : State) (p : Path) (v : ℤ) (n : Node) → find s.nodes p ≡ Some n → is_other_version v n.numbers.version ≡ true → perform naming at s (delete p v) ≡ failed bad_version
unfolding perform
delete_other naming at s p v n h o = needed _ _ _ _ h ∙ refused_so _ _ _ o

pub delete_filled : (naming : Naming) (at : Moment) (s : State) (p : Path) (v : ℤ) (n : Node) → find s.nodes p ≡ Some n → is_other_version v n.numbers.version ≡ false → has_children p s.nodes ≡ true
    → perform naming at s (delete p v) ≡ failed not_empty
unfolding perform
delete_filled naming at s p v n h o c = needed _ _ _ _ h ∙ passed _ _ _ o ∙ refused_so _ _ _ c

pub delete_done : (naming : Naming) (at : Moment) (s : State) (p : Path) (v : ℤ) (n : Node) → find s.nodes p ≡ Some n → is_other_version v n.numbers.version ≡ false → has_children p s.nodes ≡ false
    → perform naming at s (delete p v) ≡ done (deleted at.zxid p s)
unfolding perform
delete_done naming at s p v n h o c = needed _ _ _ _ h ∙ passed _ _ _ o ∙ passed _ _ _ c

-- ---- setData

pub set_content_missing : (naming : Naming) (at : Moment) (s : State) (p : Path) (d : Option (List ℕ)) (v : ℤ) → find s.nodes p ≡ None → perform naming at s (set_content p d v) ≡ failed no_node
unfolding perform
set_content_missing naming at s p d v h = lacking _ _ _ h

pub set_content_other : (naming : Naming) (at : Moment) (s : State) (p : Path) (d : Option (List ℕ)) (v : ℤ) (n : Node) → find s.nodes p ≡ Some n → is_other_version v n.numbers.version ≡ true
    → perform naming at s (set_content p d v) ≡ failed bad_version
unfolding perform
set_content_other naming at s p d v n h o = needed _ _ _ _ h ∙ refused_so _ _ _ o

pub set_content_last : (naming : Naming) (at : Moment) (s : State) (p : Path) (d : Option (List ℕ)) (v : ℤ) (n : Node) → find s.nodes p ≡ Some n → is_other_version v n.numbers.version ≡ false → is_at_last n.numbers.version ≡ true
    → perform naming at s (set_content p d v) ≡ failed system_error
unfolding perform
set_content_last naming at s p d v n h o l = needed _ _ _ _ h ∙ passed _ _ _ o ∙ refused_so _ _ _ l

pub set_content_done : (naming : Naming) (at : Moment) (s : State) (p : Path) (d : Option (List ℕ)) (v : ℤ) (n : Node) → find s.nodes p ≡ Some n → is_other_version v n.numbers.version ≡ false → is_at_last n.numbers.version ≡ false
    → perform naming at s (set_content p d v) ≡ done (updated at p d n s)
unfolding perform
set_content_done naming at s p d v n h o l = needed _ _ _ _ h ∙ passed _ _ _ o ∙ passed _ _ _ l

-- ---- check

pub check_missing : (naming : Naming) (at : Moment) (s : State) (p : Path) (v : ℤ) → find s.nodes p ≡ None → perform naming at s (check p v) ≡ failed no_node
unfolding perform
check_missing naming at s p v h = lacking _ _ _ h

pub check_other : (naming : Naming) (at : Moment) (s : State) (p : Path) (v : ℤ) (n : Node) → find s.nodes p ≡ Some n → is_other_version v n.numbers.version ≡ true → perform naming at s (check p v) ≡ failed bad_version
unfolding perform
check_other naming at s p v n h o = needed _ _ _ _ h ∙ refused_so _ _ _ o

pub check_done : (naming : Naming) (at : Moment) (s : State) (p : Path) (v : ℤ) (n : Node) → find s.nodes p ≡ Some n → is_other_version v n.numbers.version ≡ false
    → perform naming at s (check p v) ≡ done (record { state = record s { last = at.zxid }; result = results.Checked; events = [] })
unfolding perform
check_done naming at s p v n h o = needed _ _ _ _ h ∙ passed _ _ _ o

-- ---- setACL

pub set_acl_missing : (naming : Naming) (at : Moment) (c : ℕ) (s : State) (p : Path) (v : ℤ) → find s.nodes p ≡ None → answer naming at c s (set_acl p v) ≡ with_error s no_node
unfolding answer or_error
set_acl_missing naming at c s p v h = ap (or_error s) (lacking _ _ _ h)

pub set_acl_other : (naming : Naming) (at : Moment) (c : ℕ) (s : State) (p : Path) (v : ℤ) (n : Node) → find s.nodes p ≡ Some n → is_other_version v n.numbers.aversion ≡ true → answer naming at c s (set_acl p v) ≡ with_error s bad_version
unfolding answer or_error
set_acl_other naming at c s p v n h o = ap (or_error s) (needed _ _ _ _ h ∙ refused_so _ _ _ o)

pub set_acl_last : (naming : Naming) (at : Moment) (c : ℕ) (s : State) (p : Path) (v : ℤ) (n : Node) → find s.nodes p ≡ Some n → is_other_version v n.numbers.aversion ≡ false → is_at_last n.numbers.aversion ≡ true
    → answer naming at c s (set_acl p v) ≡ with_error s system_error
unfolding answer or_error
set_acl_last naming at c s p v n h o l = ap (or_error s) (needed _ _ _ _ h ∙ passed _ _ _ o ∙ refused_so _ _ _ l)

pub set_acl_done : (naming : Naming) (at : Moment) (c : ℕ) (s : State) (p : Path) (v : ℤ) (n : Node) → find s.nodes p ≡ Some n → is_other_version v n.numbers.aversion ≡ false → is_at_last n.numbers.aversion ≡ false
    → answer naming at c s (set_acl p v) ≡ told_only (record s { nodes = change p with_acl s.nodes; last = at.zxid }) (outcomes.Stat (stat_of s.nodes p (with_acl n)))
unfolding answer or_error
set_acl_done naming at c s p v n h o l = ap (or_error s) (needed _ _ _ _ h ∙ passed _ _ _ o ∙ passed _ _ _ l)
