-- What setWatches answers.
use Rattle.std.proofs.Common.{◌≡◌, ℕ, ℤ, List, [], ◌++◌, append-nil, Ok, Err, Vec, Global, refl, sym, subst}
use Rattle.jute_core.specs.declared.held.Memory.{Memory}
use Rattle.zk_messages.specs.declared.reply.Outcome.TheVariants as outcomes
use Rattle.tree_state.specs.declared.held.Held.{Held}
use Rattle.tree_state.specs.declared.message.Output.{Output}
use Rattle.tree_state.specs.declared.node.Moment.{Moment}
use Rattle.tree_state.specs.declared.noticing.Added.{Added}
use Rattle.tree_state.specs.declared.noticing.Interest.TheVariants.{Content, Existence, Children}
use Rattle.tree_state.specs.declared.watches.Watches.{Watches}
use Rattle.tree_state.specs.Nodes.{Path}
use Rattle.tree_state.specs.State.{State, Watch}
use Rattle.tree_state.specs.Commands.{set_watches}
use Rattle.tree_state.specs.Changes.{Naming}
use Rattle.tree_state.specs.Step.{Answer, Noticed, answer, with_noticed}
use Rattle.tree_state.specs.Watches.{Watching}
use Rattle.tree_state.specs.Noticing.{aspect_of, notice_of, Forgets, AreNoticed, Notices, list_noticed}
use Rattle.tree_state.specs.Trees.{Means, HasRoom, Answers}
use Rattle.tree_state.proofs.Owned.{given_so}
use Rattle.tree_state.proofs.Unwatching.{forgets_none}
use Rattle.tree_state.proofs.Notices.{all_noticed_of}

-- nothing was noticed so far
abbrev pub first_noticed : State → Noticed
first_noticed s = record { kept = s.watches; events = [] }

pub nothing_noticed : (c : ℕ) (h : Held) (s : State) (added : List Added) (outputs : List Output) → added ≡ [] → Means h s
    → AreNoticed c s.watches outputs (first_noticed s) h.watches added outputs
nothing_noticed c h s added outputs none means = record {
  watching = means.watches;
  sent = sym (append-nil outputs);
  back = subst (λ (l : List Added). Forgets c l s.watches s.watches) (sym none) (forgets_none c s.watches);
}

-- what is noticed of all lists
abbrev pub three_noticed : ℤ → ℕ → State → List Path → List Path → List Path → Noticed
three_noticed seen c s contents exist childs =
    list_noticed Children seen s.nodes c childs (list_noticed Existence seen s.nodes c exist (list_noticed Content seen s.nodes c contents (first_noticed s)))

set_row : (naming : Naming) (at : Moment) (c : ℕ) (s : State) (seen : ℤ) (contents exist childs : List Path)
    → answer naming at c s (set_watches seen contents exist childs) ≡ with_noticed s (three_noticed seen c s contents exist childs)
unfolding answer list_noticed notice_of aspect_of
set_row naming at c s seen contents exist childs = refl

-- only the watches differ
watches_set : (h : Held) (s : State) (kept : Watches) (ws : List Watch) → Means h s → Watching kept ws
    → Means (record { places = h.places; sessions = h.sessions; watches = kept; last = h.last }) (record s { watches = ws })
watches_set h s kept ws means watching = record {
  places = means.places;
  sessions = means.sessions;
  owners = record { given = means.owners.given; childless = means.owners.childless; free = means.owners.free };
  numbers = given_so s (record s { watches = ws }) s.sessions refl means.numbers;
  watches = watching;
  last = means.last;
}

all_told : (h : Held) (s : State) (t : Noticed) (kept : Watches) (before sent : Vec Output Global) → Means h s → Watching kept t.kept → sent.items ≡ before.items ++ t.events → HasRoom sent
    → Answers s (with_noticed s t) (record { places = h.places; sessions = h.sessions; watches = kept; last = h.last }) before sent (Ok outcomes.Empty)
unfolding Answers with_noticed
all_told h s t kept before sent means watching items room = (refl, record { items = items; room = room }, watches_set h s kept t.kept means watching)

pub watches_told : (naming : Naming) (at : Moment) (c : ℕ) (s : State) (read seen : ℤ) (contents exist childs : List Path) (h : Held) (kept : Watches) (added : List Added)
    (before sent : Vec Output Global) (u : Unit {0}) → read ≡ seen → Means h s
    → Notices c s.watches before.items (three_noticed read c s contents exist childs) kept added sent.items (Ok u) → HasRoom sent
    → Answers s (answer naming at c s (set_watches seen contents exist childs)) (record { places = h.places; sessions = h.sessions; watches = kept; last = h.last }) before sent (Ok outcomes.Empty)
watches_told naming at c s read seen contents exist childs h kept added before sent u same means told room =
    let n = all_noticed_of c s.watches before.items (three_noticed seen c s contents exist childs) kept added sent.items u
    (subst (λ (k : ℤ). Notices c s.watches before.items (three_noticed k c s contents exist childs) kept added sent.items (Ok u)) same told) in
    subst (λ (a : Answer). Answers s a (record { places = h.places; sessions = h.sessions; watches = kept; last = h.last }) before sent (Ok outcomes.Empty))
    (sym (set_row naming at c s seen contents exist childs))
    (all_told h s (three_noticed seen c s contents exist childs) kept before sent means n.watching n.sent room)

-- what was added is forgotten
pub watches_forgotten : (a : Answer) (h : Held) (s : State) (kept : Watches) (before sent : Vec Output Global) (e : Memory) → Means h s → Watching kept s.watches
    → Answers s a (record { places = h.places; sessions = h.sessions; watches = kept; last = h.last }) before sent (Err e)
unfolding Answers
watches_forgotten a h s kept before sent e means watching = watches_set h s kept s.watches means watching
