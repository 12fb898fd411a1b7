-- Each end of the rows that read a node, with or without a watch.
use Rattle.std.proofs.Common.{◌≡◌, ℕ, Bool, [], ◌∷◌, Some, None, ap}
use Rattle.zk_messages.specs.Refuses.{open_acl}
use Rattle.zk_messages.specs.declared.reply.Outcome.TheVariants as outcomes
use Rattle.tree_state.specs.declared.node.Moment.{Moment}
use Rattle.tree_state.specs.Nodes.{Path, Node, find, stat_of}
use Rattle.tree_state.specs.State.{State, on_data, on_children}
use Rattle.tree_state.specs.Commands.{stat_at, get_content, get_acl, get_children}
use Rattle.tree_state.specs.Changes.{Naming, no_node}
use Rattle.tree_state.specs.Step.{answer, or_error, with_error, told_only, with_watch, names_with}
use Rattle.tree_state.proofs.Rows.{needed, lacking}

-- the watch is kept where there is no node, too
pub stat_missing : (naming : Naming) (at : Moment) (c : ℕ) (s : State) (p : Path) (b : Bool) → find s.nodes p ≡ None → answer naming at c s (stat_at p b) ≡ with_error (with_watch b on_data p c s) no_node
unfolding answer or_error
stat_missing naming at c s p b h = ap (or_error (with_watch b on_data p c s)) (lacking _ _ _ h)

pub stat_found : (naming : Naming) (at : Moment) (c : ℕ) (s : State) (p : Path) (b : Bool) (n : Node) → find s.nodes p ≡ Some n
    → answer naming at c s (stat_at p b) ≡ told_only (with_watch b on_data p c s) (outcomes.Stat (stat_of s.nodes p n))
unfolding answer or_error
stat_found naming at c s p b n h = ap (or_error (with_watch b on_data p c s)) (needed _ _ _ _ h)

pub content_missing : (naming : Naming) (at : Moment) (c : ℕ) (s : State) (p : Path) (b : Bool) → find s.nodes p ≡ None → answer naming at c s (get_content p b) ≡ with_error s no_node
unfolding answer or_error
content_missing naming at c s p b h = ap (or_error s) (lacking _ _ _ h)

pub content_found : (naming : Naming) (at : Moment) (c : ℕ) (s : State) (p : Path) (b : Bool) (n : Node) → find s.nodes p ≡ Some n
    → answer naming at c s (get_content p b) ≡ told_only (with_watch b on_data p c s) (outcomes.Content n.content (stat_of s.nodes p n))
unfolding answer or_error
content_found naming at c s p b n h = ap (or_error s) (needed _ _ _ _ h)

pub acl_missing : (naming : Naming) (at : Moment) (c : ℕ) (s : State) (p : Path) → find s.nodes p ≡ None → answer naming at c s (get_acl p) ≡ with_error s no_node
unfolding answer or_error
acl_missing naming at c s p h = ap (or_error s) (lacking _ _ _ h)

pub acl_found : (naming : Naming) (at : Moment) (c : ℕ) (s : State) (p : Path) (n : Node) → find s.nodes p ≡ Some n
    → answer naming at c s (get_acl p) ≡ told_only s (outcomes.Acls (Some (open_acl ∷ [])) (stat_of s.nodes p n))
unfolding answer or_error
acl_found naming at c s p n h = ap (or_error s) (needed _ _ _ _ h)

pub children_missing : (naming : Naming) (at : Moment) (c : ℕ) (s : State) (p : Path) (b stat : Bool) → find s.nodes p ≡ None → answer naming at c s (get_children p b stat) ≡ with_error s no_node
unfolding answer or_error
children_missing naming at c s p b stat h = ap (or_error s) (lacking _ _ _ h)

pub children_found : (naming : Naming) (at : Moment) (c : ℕ) (s : State) (p : Path) (b stat : Bool) (n : Node) → find s.nodes p ≡ Some n
    → answer naming at c s (get_children p b stat) ≡ told_only (with_watch b on_children p c s) (names_with stat s.nodes p n)
unfolding answer or_error
children_found naming at c s p b stat n h = ap (or_error s) (needed _ _ _ _ h)
