-- The changes of the machine, row by row (ZooKeeper Programmer's Guide; the order of the checks and the codes are those of
-- PrepRequestProcessor and KeeperException in the Java sources of ZooKeeper 3.4).
--
-- A row reads: what is needed, or an error; what is refused, or an error; and then what is done. The first error counts.
use Rattle.std.specs.Prelude.{ℕ, ℤ, pos, negsuc, ◌+◌, ◌==◌, ◌||◌, nat_le, not, List, [], ◌∷◌, ◌++◌, map, filter, Bool, true, false, Option, Some, None, if◌then◌else◌}
use Rattle.std.specs.List.{list_any}
use Rattle.std.specs.Ordering.{int_eq}
use Rattle.zk_path.specs.Paths.{text_of}
use Rattle.zk_messages.specs.declared.reply.OpResult.{OpResult}
use Rattle.zk_messages.specs.declared.reply.OpResult.TheVariants as results
use Rattle.tree_state.specs.declared.message.Message.TheVariants as messages
use Rattle.tree_state.specs.declared.message.Output.{Output}
use Rattle.tree_state.specs.declared.node.Numbers.{Numbers}
use Rattle.tree_state.specs.declared.node.Moment.{Moment}
use Rattle.tree_state.specs.Nodes.{Path, Node, Place, above, find, is_there, change, add, remove, has_children, stat_of, greatest_int}
use Rattle.tree_state.specs.State.{State, Watch, on_data, on_children, told, left}
use Rattle.tree_state.specs.Commands.{Change, create, delete, set_content, check}

-- ---- checks in order

-- what was tried: it failed with a cause, or was done
pub data Trial (E A : Type 0) : Type 0 where
  failed : E → Trial E A
  done : A → Trial E A

-- something is needed, or there is an error
unfoldable pub need : {A B : Type 0} → Option A → ℤ → (A → Trial ℤ B) → Trial ℤ B
need None code next = failed code
need (Some a) code next = next a

-- where this holds there is an error
unfoldable pub refuse : {B : Type 0} → Bool → ℤ → Trial ℤ B → Trial ℤ B
refuse true code next = failed code
refuse false code next = next

abbrev pub system_error : ℤ
system_error = negsuc 0

abbrev pub runtime_inconsistency : ℤ
runtime_inconsistency = negsuc 1

abbrev pub bad_arguments : ℤ
bad_arguments = negsuc 7

abbrev pub no_node : ℤ
no_node = negsuc 100

abbrev pub bad_version : ℤ
bad_version = negsuc 102

abbrev pub no_children_for_ephemerals : ℤ
no_children_for_ephemerals = negsuc 107

abbrev pub node_exists : ℤ
node_exists = negsuc 109

abbrev pub not_empty : ℤ
not_empty = negsuc 110

-- ---- what a change does

pub record Effect : Type 0 where
  pub state : State
  pub result : OpResult
  pub events : List Output

-- the names of sequential nodes: of the path above, the stem's last component and the number, the last component, if there is one
abbrev pub Naming : Type 0
Naming = Path → List ℕ → ℕ → Option (List ℕ)

-- an event of this kind, 1 created, 2 deleted, 3 content changed, 4 children changed, tells a connection of a path
unfoldable pub event_to : ℤ → Path → ℕ → Output
event_to kind p c = record { connection = c; message = messages.Event (record { kind = kind; state = pos 3; path = text_of p }) }

unfoldable pub events_to : ℤ → Path → List ℕ → List Output
events_to kind p cs = map (event_to kind p) cs

unfoldable pub is_at_last : ℕ → Bool
is_at_last n = nat_le greatest_int n

-- -1 asks for any version
unfoldable pub is_other_version : ℤ → ℕ → Bool
is_other_version asked n = not (int_eq asked (negsuc 0) || int_eq asked (pos n))

unfoldable pub has_owner : Node → Bool
has_owner n = not (int_eq n.numbers.owner (pos 0))

-- the name, or for a sequential node what the naming makes of the stem and the parent's creations
unfoldable pub name_for : Naming → Path → List ℕ → Bool → Node → Option (List ℕ)
name_for naming p n false up = Some n
name_for naming p n true up = naming p n up.numbers.creations

unfoldable pub fresh_numbers : Moment → Bool → Numbers
fresh_numbers at ephemeral = record {
  czxid = at.zxid;
  mzxid = at.zxid;
  pzxid = at.zxid;
  ctime = at.time;
  mtime = at.time;
  version = 0;
  creations = 0;
  deletions = 0;
  aversion = 0;
  owner = if ephemeral then at.session else pos 0;
}

unfoldable pub with_creation : ℤ → Node → Node
with_creation z n = record { content = n.content; numbers = record n.numbers { creations = n.numbers.creations + 1; pzxid = z } }

unfoldable pub with_deletion : ℤ → Node → Node
with_deletion z n = record { content = n.content; numbers = record n.numbers { deletions = n.numbers.deletions + 1; pzxid = z } }

unfoldable pub with_content : Moment → Option (List ℕ) → Node → Node
with_content at content n = record { content = content; numbers = record n.numbers { mzxid = at.zxid; mtime = at.time; version = n.numbers.version + 1 } }

unfoldable pub with_acl : Node → Node
with_acl n = record { content = n.content; numbers = record n.numbers { aversion = n.numbers.aversion + 1 } }

-- ---- what watches are told

-- of a creation: data watches of the path, then child watches of its parent
unfoldable pub creation_events : Path → List ℕ → List Watch → List Output
creation_events p n ws =
    events_to (pos 1) (n ∷ p) (told on_data (n ∷ p) ws)
    ++ events_to (pos 4) p (told on_children p ws)

unfoldable pub left_by_creation : Path → List ℕ → List Watch → List Watch
left_by_creation p n ws = left on_children p (left on_data (n ∷ p) ws)

unfoldable pub is_not_in : List ℕ → ℕ → Bool
is_not_in cs c = not (list_any (λ d. d == c) cs)

-- of the end of a node: data watches of the path, then child watches of the path on connections that were not just told
unfoldable pub end_events : Path → List Watch → List Output
end_events p ws =
    events_to (pos 2) p (told on_data p ws)
    ++ events_to (pos 2) p (filter (is_not_in (told on_data p ws)) (told on_children p ws))

-- of a deletion: the end of the node, then child watches of its parent
unfoldable pub deletion_events : Path → List Watch → List Output
deletion_events p ws = end_events p ws ++ events_to (pos 4) (above p) (told on_children (above p) (left on_children p ws))

unfoldable pub left_by_deletion : Path → List Watch → List Watch
left_by_deletion p ws = left on_children (above p) (left on_children p (left on_data p ws))

-- of a change of content: data watches of the path
unfoldable pub content_events : Path → List Watch → List Output
content_events p ws = events_to (pos 3) p (told on_data p ws)

-- ---- what changes do

-- the nodes with a new one, which its parent counts
abbrev pub with_child : ℤ → Path → List ℕ → Node → List Place → List Place
with_child z p n node es = add (n ∷ p) node (change p (with_creation z) es)

-- what is answered to a creation: the path of the new node, with or without its Stat among these nodes
unfoldable pub creation_result : Bool → List Place → Path → Node → OpResult
creation_result false es p node = results.Created (text_of p)
creation_result true es p node = results.Created2 (text_of p) (stat_of es p node)

-- a node is made, and its Stat is of the nodes with it
unfoldable pub created : Moment → Path → List ℕ → Node → Bool → State → Effect
created at p n node stat s = record {
  state = record s {
    nodes = with_child at.zxid p n node s.nodes;
    watches = left_by_creation p n s.watches;
    last = at.zxid;
  };
  result = creation_result stat (with_child at.zxid p n node s.nodes) (n ∷ p) node;
  events = creation_events p n s.watches;
}

-- a node goes
unfoldable pub deleted : ℤ → Path → State → Effect
deleted z p s = record {
  state = record s {
    nodes = remove p (change (above p) (with_deletion z) s.nodes);
    watches = left_by_deletion p s.watches;
    last = z;
  };
  result = results.Deleted;
  events = deletion_events p s.watches;
}

-- the content of a node is changed
unfoldable pub updated : Moment → Path → Option (List ℕ) → Node → State → Effect
updated at p content node s = record {
  state = record s {
    nodes = change p (with_content at content) s.nodes;
    watches = left on_data p s.watches;
    last = at.zxid;
  };
  result = results.Changed (stat_of s.nodes p (with_content at content node));
  events = content_events p s.watches;
}

-- ---- the rows

unfoldable pub perform : Naming → Moment → State → Change → Trial ℤ Effect
perform naming at s (create p n content sequential ephemeral stat) =
    need (find s.nodes p) no_node λ up.
    refuse (has_owner up) no_children_for_ephemerals (
    refuse (is_at_last up.numbers.creations) system_error (
    need (name_for naming p n sequential up) bad_arguments λ name.
    refuse (is_there s.nodes (name ∷ p)) node_exists (
    done (created at p name (record { content = content; numbers = fresh_numbers at ephemeral }) stat s))))
perform naming at s (delete p version) =
    need (find s.nodes p) no_node λ node.
    refuse (is_other_version version node.numbers.version) bad_version (
    refuse (has_children p s.nodes) not_empty (
    done (deleted at.zxid p s)))
perform naming at s (set_content p content version) =
    need (find s.nodes p) no_node λ node.
    refuse (is_other_version version node.numbers.version) bad_version (
    refuse (is_at_last node.numbers.version) system_error (
    done (updated at p content node s)))
perform naming at s (check p version) =
    need (find s.nodes p) no_node λ node.
    refuse (is_other_version version node.numbers.version) bad_version (
    done (record { state = record s { last = at.zxid }; result = results.Checked; events = [] }))

-- ---- several changes as one

pub record Effects : Type 0 where
  pub state : State
  pub results : List OpResult
  pub events : List Output

unfoldable pub no_effects : State → Effects
no_effects s = record { state = s; results = []; events = [] }

unfoldable pub after_effect : Effect → Trial (List ℤ) Effects → Trial (List ℤ) Effects
after_effect e (failed codes) = failed (pos 0 ∷ codes)
after_effect e (done more) = done (record { state = more.state; results = e.result ∷ more.results; events = e.events ++ more.events })

-- where one failed, those after it were not tried
unfoldable pub or_failed : {C : Type 0} → Trial ℤ Effect → List C → (Effect → Trial (List ℤ) Effects) → Trial (List ℤ) Effects
or_failed (failed code) rest next = failed (code ∷ map (λ _. runtime_inconsistency) rest)
or_failed (done e) rest next = after_effect e (next e)

-- each change in the state that the one before it left, all under one zxid, or the codes of a failure; a check alone draws it too
unfoldable pub perform_all : Naming → Moment → State → List Change → Trial (List ℤ) Effects
perform_all naming at s [] = done (no_effects (record s { last = at.zxid }))
perform_all naming at s (c ∷ cs) = or_failed (perform naming at s c) cs λ e. perform_all naming at e.state cs

-- these nodes go, one after another, under one zxid
unfoldable pub all_deleted : ℤ → List Path → State → Effects
all_deleted z [] s = no_effects (record s { last = z })
all_deleted z (p ∷ ps) s =
    let e = deleted z p s in
    let more = all_deleted z ps e.state in
    record { state = more.state; results = []; events = e.events ++ more.events }
