-- What the maps of both aspects keep, and what they tell.
use Rattle.std.proofs.Common.{◌≡◌, ℕ, pos, false, List, [], ◌∷◌, ◌++◌, filter, refl, sym, ap, ap₂, ◌∙◌, append_assoc}
use Rattle.zk_path.specs.Paths.{text_of, IsTextOf}
use Rattle.tree_state.specs.declared.events.EventKind.TheVariants as kinds
use Rattle.tree_state.specs.declared.message.Output.{Output}
use Rattle.tree_state.specs.declared.watchers.Watchers.{Watchers}
use Rattle.tree_state.specs.declared.watches.Watches.{Watches}
use Rattle.tree_state.specs.Nodes.{Path, above}
use Rattle.tree_state.specs.State.{Aspect, on_data, on_children, Watch, same_aspect, told, left, left_of_others, watching}
use Rattle.tree_state.specs.Changes.{events_to, is_not_in, creation_events, left_by_creation, end_events, deletion_events, left_by_deletion, content_events}
use Rattle.tree_state.specs.Watches.{Ascend, Watched, Watching, unwatching, number_of}
use Rattle.tree_state.proofs.PathTexts.{legal_above}
use Rattle.tree_state.proofs.SamePaths.{same_path-above, same_path-sym}
use Rattle.tree_state.proofs.Aspects.{kept_left, kept_watching, kept_unwatching, ascend_left, ascend_others, ascend_watching, ascend_unwatching, told_elsewhere}

abbrev pub both : Watchers → Watchers → Watches
both contents children = record { contents = contents; children = children }

abbrev pub watch_on : Aspect → Path → ℕ → Watch
watch_on a p c = record { aspect = a; path = p; connection = c }

-- what firing a path does to the maps of an aspect
abbrev pub Fires : List ℕ → Watchers → Watchers → Type 0
Fires text old new = (a : Aspect) (ws : List Watch) (p : Path) → Watched old a ws → IsTextOf text p → Watched new a (left a p ws)

apart_data : same_aspect on_data on_children ≡ false
unfolding same_aspect
apart_data = refl

apart_children : same_aspect on_children on_data ≡ false
unfolding same_aspect
apart_children = refl

pub is_above : (text parent : List ℕ) (n : List ℕ) (p : Path) → IsTextOf text (n ∷ p) → parent ≡ text_of p → IsTextOf parent p
is_above text parent n p is cut = record { legal = legal_above n p is.legal; spelled = cut }

-- ---- watches that go

pub data_fired : (t : Watches) (contents : Watchers) (text : List ℕ) (p : Path) (ws : List Watch) → Fires text t.contents contents → IsTextOf text p → Watching t ws → Watching (both contents t.children) (left on_data p ws)
data_fired t contents text p ws fires is h = record {
  ascend = ascend_left on_data p ws h.ascend;
  contents = fires on_data ws p h.contents is;
  children = kept_left t.children on_children on_data p ws apart_children h.children;
}

pub children_fired : (t : Watches) (children : Watchers) (text : List ℕ) (p : Path) (ws : List Watch) → Fires text t.children children → IsTextOf text p → Watching t ws → Watching (both t.contents children) (left on_children p ws)
children_fired t children text p ws fires is h = record {
  ascend = ascend_left on_children p ws h.ascend;
  contents = kept_left t.contents on_data on_children p ws apart_data h.contents;
  children = fires on_children ws p h.children is;
}

pub created_gone : (t : Watches) (contents children : Watchers) (text parent n : List ℕ) (p : Path) (ws : List Watch) → Fires text t.contents contents → Fires parent t.children children
    → IsTextOf text (n ∷ p) → parent ≡ text_of p → Watching t ws → Watching (both contents children) (left_by_creation p n ws)
unfolding left_by_creation
created_gone t contents children text parent n p ws first second is cut h =
    children_fired (both contents t.children) children parent p (left on_data (n ∷ p) ws) second (is_above text parent n p is cut) (data_fired t contents text (n ∷ p) ws first is h)

pub deleted_gone : (t : Watches) (contents between children : Watchers) (text parent n : List ℕ) (p : Path) (ws : List Watch) → Fires text t.contents contents
    → Fires text t.children between → Fires parent between children → IsTextOf text (n ∷ p) → parent ≡ text_of p → Watching t ws → Watching (both contents children) (left_by_deletion (n ∷ p) ws)
unfolding left_by_deletion above
deleted_gone t contents between children text parent n p ws first second third is cut h =
    children_fired (both contents between) children parent p (left on_children (n ∷ p) (left on_data (n ∷ p) ws)) third (is_above text parent n p is cut)
    (children_fired (both contents t.children) between text (n ∷ p) (left on_data (n ∷ p) ws) second is (data_fired t contents text (n ∷ p) ws first is h))

pub all_lost : (t : Watches) (contents children : Watchers) (c : ℕ) (ws : List Watch)
    → ((a : Aspect) (vs : List Watch) → Watched t.contents a vs → Watched contents a (left_of_others c vs))
    → ((a : Aspect) (vs : List Watch) → Watched t.children a vs → Watched children a (left_of_others c vs))
    → Watching t ws → Watching (both contents children) (left_of_others c ws)
all_lost t contents children c ws first second h = record {
  ascend = ascend_others c ws h.ascend;
  contents = first on_data ws h.contents;
  children = second on_children ws h.children;
}

-- ---- watches that come, and that are forgotten

pub data_watched : (t : Watches) (contents : Watchers) (p : Path) (c : ℕ) (ws : List Watch) → Watched contents on_data (watching (watch_on on_data p c) ws) → Watching t ws
    → Watching (both contents t.children) (watching (watch_on on_data p c) ws)
data_watched t contents p c ws added h = record {
  ascend = ascend_watching (watch_on on_data p c) ws h.ascend;
  contents = added;
  children = kept_watching t.children on_children (watch_on on_data p c) ws apart_children h.children;
}

pub children_watched : (t : Watches) (children : Watchers) (p : Path) (c : ℕ) (ws : List Watch) → Watched children on_children (watching (watch_on on_children p c) ws) → Watching t ws
    → Watching (both t.contents children) (watching (watch_on on_children p c) ws)
children_watched t children p c ws added h = record {
  ascend = ascend_watching (watch_on on_children p c) ws h.ascend;
  contents = kept_watching t.contents on_data (watch_on on_children p c) ws apart_data h.contents;
  children = added;
}

pub data_forgotten : (t : Watches) (contents : Watchers) (p : Path) (c : ℕ) (ws : List Watch) → Watched contents on_data (unwatching (watch_on on_data p c) ws) → Watching t ws
    → Watching (both contents t.children) (unwatching (watch_on on_data p c) ws)
data_forgotten t contents p c ws gone h = record {
  ascend = ascend_unwatching (watch_on on_data p c) ws h.ascend;
  contents = gone;
  children = kept_unwatching t.children on_children (watch_on on_data p c) ws apart_children h.children;
}

pub children_forgotten : (t : Watches) (children : Watchers) (p : Path) (c : ℕ) (ws : List Watch) → Watched children on_children (unwatching (watch_on on_children p c) ws) → Watching t ws
    → Watching (both t.contents children) (unwatching (watch_on on_children p c) ws)
children_forgotten t children p c ws gone h = record {
  ascend = ascend_unwatching (watch_on on_children p c) ws h.ascend;
  contents = kept_unwatching t.contents on_data (watch_on on_children p c) ws apart_data h.contents;
  children = gone;
}

-- ---- what is told

pub parent_told : (before after : List Output) (p : Path) (ws : List Watch) (on : List ℕ) → on ≡ told on_children p ws
    → after ≡ before ++ events_to (number_of kinds.ChildrenChanged) p on → after ≡ before ++ events_to (pos 4) p (told on_children p ws)
unfolding number_of
parent_told before after p ws on is h = h ∙ ap (λ (xs : List ℕ). before ++ events_to (pos 4) p xs) is

pub creation_told : (before first second : List Output) (p : Path) (n : List ℕ) (ws : List Watch) (on : List ℕ) → on ≡ told on_data (n ∷ p) ws
    → first ≡ before ++ events_to (number_of kinds.Created) (n ∷ p) on
    → second ≡ first ++ events_to (pos 4) p (told on_children p ws) → second ≡ before ++ creation_events p n ws
unfolding creation_events number_of
creation_told before first second p n ws on is one two =
    two ∙ ap (λ (es : List Output). es ++ events_to (pos 4) p (told on_children p ws)) (one ∙ ap (λ (xs : List ℕ). before ++ events_to (pos 1) (n ∷ p) xs) is)
    ∙ append_assoc before (events_to (pos 1) (n ∷ p) (told on_data (n ∷ p) ws)) (events_to (pos 4) p (told on_children p ws))

pub end_told : (before first second : List Output) (p : Path) (ws : List Watch) (on others : List ℕ) → on ≡ told on_data p ws → others ≡ told on_children p ws
    → first ≡ before ++ events_to (number_of kinds.Deleted) p on → second ≡ first ++ events_to (pos 2) p (filter (is_not_in on) others) → second ≡ before ++ end_events p ws
unfolding end_events number_of
end_told before first second p ws on others is are one two =
    two ∙ ap₂ (λ (es : List Output) (fs : List Output). es ++ fs) one (ap₂ (λ (xs ys : List ℕ). events_to (pos 2) p (filter (is_not_in xs) ys)) is are)
    ∙ append_assoc before (events_to (pos 2) p on) (events_to (pos 2) p (filter (is_not_in (told on_data p ws)) (told on_children p ws)))
    ∙ ap (λ (xs : List ℕ). before ++ (events_to (pos 2) p xs ++ events_to (pos 2) p (filter (is_not_in (told on_data p ws)) (told on_children p ws)))) is

pub deletion_told : (before first second : List Output) (p : Path) (n : List ℕ) (ws : List Watch) → first ≡ before ++ end_events (n ∷ p) ws
    → second ≡ first ++ events_to (pos 4) p (told on_children p ws) → second ≡ before ++ deletion_events (n ∷ p) ws
unfolding deletion_events above
deletion_told before first second p n ws one two =
    two ∙ ap (λ (es : List Output). es ++ events_to (pos 4) p (told on_children p ws)) one
    ∙ append_assoc before (end_events (n ∷ p) ws) (events_to (pos 4) p (told on_children p ws))
    ∙ ap (λ (cs : List ℕ). before ++ (end_events (n ∷ p) ws ++ events_to (pos 4) p cs))
    (sym (told_elsewhere on_children on_children p (n ∷ p) ws (same_path-sym (n ∷ p) p (same_path-above n p))))

pub content_told : (before after : List Output) (p : Path) (ws : List Watch) (on : List ℕ) → on ≡ told on_data p ws → after ≡ before ++ events_to (number_of kinds.ContentChanged) p on → after ≡ before ++ content_events p ws
unfolding content_events number_of
content_told before after p ws on is h = h ∙ ap (λ (xs : List ℕ). before ++ events_to (pos 3) p xs) is

-- ---- none, copies, and what is kept without memory

pub no_watches : (contents children : Watchers) → ((a : Aspect) → Watched contents a []) → ((a : Aspect) → Watched children a []) → Watching (both contents children) []
unfolding Ascend
no_watches contents children first second = record { ascend = tt; contents = first on_data; children = second on_children }

pub all_copied : (t : Watches) (contents children : Watchers) → ((a : Aspect) (ws : List Watch) → Watched t.contents a ws → Watched contents a ws)
    → ((a : Aspect) (ws : List Watch) → Watched t.children a ws → Watched children a ws) → (ws : List Watch) → Watching t ws → Watching (both contents children) ws
all_copied t contents children first second ws h = record { ascend = h.ascend; contents = first on_data ws h.contents; children = second on_children ws h.children }

pub data_kept : (t : Watches) (contents : Watchers) (ws : List Watch) → Watched contents on_data ws → Watching t ws → Watching (both contents t.children) ws
data_kept t contents ws kept h = record { ascend = h.ascend; contents = kept; children = h.children }

pub children_kept : (t : Watches) (children : Watchers) (ws : List Watch) → Watched children on_children ws → Watching t ws → Watching (both t.contents children) ws
children_kept t children ws kept h = record { ascend = h.ascend; contents = h.contents; children = kept }
