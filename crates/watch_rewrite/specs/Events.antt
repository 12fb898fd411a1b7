-- Which events of a store are told to a client, and which flaw the others have.
use Rattle.std.specs.Prelude.{◌≡◌, ◌≢◌, ◌≤ℤ◌, ℕ, ℤ, pos, List}
use Rattle.zk_path.specs.Paths.{text_of}
use Rattle.path_seal.specs.Sealed.{Keys, Opens}
use Rattle.zk_messages.specs.declared.reply.Event.{Event}
use Rattle.watch_rewrite.specs.declared.event.EventFlaw.{EventFlaw}
use Rattle.watch_rewrite.specs.declared.event.EventFlaw.TheVariants.{Kind, State, Path}
use Rattle.watch_rewrite.specs.declared.event.NotEvent.{NotEvent}
use Rattle.watch_rewrite.specs.declared.event.NotEvent.TheVariants.{Bad, Memory}

-- a node was made, removed or changed, or its children were
abbrev pub IsNodeKind : ℤ → Type 0
IsNodeKind kind = (pos 1 ≤ℤ kind) × (kind ≤ℤ pos 4)

-- the plain event is the event with its path opened
pub record IsPlainEvent (k : Keys) (event plain : Event) : Type 0 where
  pub kind : IsNodeKind event.kind
  pub state : event.state ≡ pos 3
  pub same_kind : plain.kind ≡ event.kind
  pub same_state : plain.state ≡ event.state
  pub path : List (List ℕ)
  pub opened : Opens k event.path path
  pub spelled : plain.path ≡ text_of path

-- the first flaw of an event
abbrev pub IsFlawOf : Keys → Event → EventFlaw → Type 0
IsFlawOf k event (Kind kind) = (kind ≡ event.kind) × (IsNodeKind event.kind → ⊥)
IsFlawOf k event (State state) = (state ≡ event.state) × IsNodeKind event.kind × (event.state ≢ pos 3)
IsFlawOf k event Path = IsNodeKind event.kind × (event.state ≡ pos 3) × ((p : List (List ℕ)) → Opens k event.path p → ⊥)

-- why an event was not opened: its first flaw, or there was no memory
abbrev pub IsFlawIn : Keys → Event → NotEvent → Type 0
IsFlawIn k event (Bad flaw) = IsFlawOf k event flaw
IsFlawIn k event Memory = Unit {0}
