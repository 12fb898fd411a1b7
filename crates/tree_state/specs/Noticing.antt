-- What setWatches does with one path after another, and how the watches that it added are taken out again.
use Rattle.std.specs.Prelude.{◌≡◌, ◌++◌, ℕ, ℤ, List, [], ◌∷◌, Option, Some, None, Result, Ok, Err}
use Rattle.jute_core.specs.declared.held.Memory.{Memory}
use Rattle.zk_path.specs.Paths.{IsTextOf}
use Rattle.tree_state.specs.declared.events.EventKind.{EventKind}
use Rattle.tree_state.specs.declared.message.Output.{Output}
use Rattle.tree_state.specs.declared.node.Node as code
use Rattle.tree_state.specs.declared.noticing.Added.{Added}
use Rattle.tree_state.specs.declared.noticing.Interest.{Interest}
use Rattle.tree_state.specs.declared.noticing.Interest.TheVariants as interests
use Rattle.tree_state.specs.declared.watches.Watches.{Watches}
use Rattle.tree_state.specs.Nodes.{Path, Node, Place, find}
use Rattle.tree_state.specs.Places.{node_of}
use Rattle.tree_state.specs.State.{Aspect, on_data, on_children, Watch}
use Rattle.tree_state.specs.Step.{Notice, tells, watches, Noticed, content_notice, exist_notice, child_notice, noticed, all_noticed}
use Rattle.tree_state.specs.Watches.{Watching, unwatching, number_of}

unfoldable pub aspect_of : Interest → Aspect
aspect_of interests.Content = on_data
aspect_of interests.Existence = on_data
aspect_of interests.Children = on_children

unfoldable pub notice_of : Interest → ℤ → Option Node → Notice
notice_of interests.Content seen = content_notice seen
notice_of interests.Existence seen = exist_notice
notice_of interests.Children seen = child_notice seen

abbrev pub watch_of : Interest → Path → ℕ → Watch
watch_of interest p c = record { aspect = aspect_of interest; path = p; connection = c }

-- the node, as the machine has it
unfoldable pub plain_node : Option code.Node → Option Node
plain_node None = None
plain_node (Some n) = Some (node_of n)

-- an event of this kind, or none where it is watched
unfoldable pub notice_with : Option EventKind → Notice
notice_with None = watches
notice_with (Some kind) = tells (number_of kind)

-- without the watches that were added, of which the last goes first, the first watches are the second
unfoldable pub Forgets : ℕ → List Added → List Watch → List Watch → Type 0
Forgets c [] ws start = ws ≡ start
Forgets c (a ∷ more) ws start = (p : Path) × (vs : List Watch) × IsTextOf a.path.now p × Forgets c more ws vs × (unwatching (watch_of a.interest p c) vs ≡ start)

-- these watches are kept and these events were told, and what was added can be forgotten
pub record AreNoticed (c : ℕ) (start : List Watch) (told : List Output) (t : Noticed) (kept : Watches) (added : List Added) (outputs : List Output) : Type 0 where
  pub watching : Watching kept t.kept
  pub sent : outputs ≡ told ++ t.events
  pub back : Forgets c added t.kept start

-- what was added can be forgotten
pub record CanForget (c : ℕ) (start : List Watch) (kept : Watches) (added : List Added) : Type 0 where
  pub ws : List Watch
  pub watching : Watching kept ws
  pub back : Forgets c added ws start

-- this was noticed; without memory what was added can be forgotten
unfoldable pub Notices : ℕ → List Watch → List Output → Noticed → Watches → List Added → List Output → Result Unit Memory → Type 0
Notices c start told t kept added outputs (Ok done) = AreNoticed c start told t kept added outputs
Notices c start told t kept added outputs (Err e) = CanForget c start kept added

-- the notice of one path, and those of a list
unfoldable pub one_noticed : Interest → ℤ → List Place → ℕ → Path → Noticed → Noticed
one_noticed interest seen es c p t = noticed (aspect_of interest) p c (notice_of interest seen (find es p)) t

unfoldable pub list_noticed : Interest → ℤ → List Place → ℕ → List Path → Noticed → Noticed
list_noticed interest seen es c ps t = all_noticed (notice_of interest seen) (aspect_of interest) es c ps t
