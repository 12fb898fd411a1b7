-- What is told of paths can be sent where their texts are as short as a tree keeps them.
use Rattle.std.proofs.Common.{◌≡◌, ℕ, ℤ, ◌≤◌, Bool, true, false, cond, List, [], ◌∷◌, ◌++◌, length, length-append, Option, Some, None, refl, arith}
use Rattle.std.specs.Prelude.{All}
use Rattle.std.specs.List.{cons_option}
use Rattle.std.specs.Ordering.{int_eq}
use Rattle.std.proofs.lemmas.List.Elements.{All-nil, All-cons, All-head, All-tail, All-append}
use Rattle.zk_path.specs.Paths.{joined, text_of}
use Rattle.tree_state.specs.Nodes.{Path, Node, Place, above, is_there, same_path, path_if_owned, ephemerals}
use Rattle.tree_state.specs.State.{State, Watch, Aspect}
use Rattle.tree_state.specs.Changes.{event_to, events_to, creation_events, end_events, deletion_events, content_events, deleted, no_effects, all_deleted}
use Rattle.tree_state.specs.Places.{text_limit}
use Rattle.tree_state.specs.Step.{Notice, tells, watches, Noticed, noticed, all_noticed}
use Rattle.tree_state.specs.declared.message.Output.{Output}
use Rattle.tree_state.proofs.SamePaths.{same_path-refl}
use Rattle.store_side.specs.Fitting.{CanBeSent, AllCanBeSent}
use Rattle.store_side.proofs.ReplyLengths.{event_can_be_sent}

abbrev pub IsShortPath : Path → Type 0
IsShortPath p = length (text_of p) ≤ text_limit

abbrev pub OutputCanBeSent : Output → Type 0
OutputCanBeSent o = CanBeSent o.message

-- ---- the texts of paths above

pub above_shorter : (n : List ℕ) (p : Path) → length (text_of p) ≤ length (text_of (n ∷ p))
unfolding text_of joined
above_shorter n [] = omega arith
above_shorter n (m ∷ p) = omega (arith, length-append (joined p) (47 ∷ m), length-append (joined (m ∷ p)) (47 ∷ n))

above_short : (p : Path) → IsShortPath p → IsShortPath (above p)
unfolding above
above_short [] h = h
above_short (n ∷ p) h = omega (arith, above_shorter n p)

-- ---- what changes tell

pub event_sent : (kind : ℤ) (p : Path) (c : ℕ) → IsShortPath p → OutputCanBeSent (event_to kind p c)
unfolding event_to
event_sent kind p c h = event_can_be_sent _ (omega arith)

events_sent : (kind : ℤ) (p : Path) (cs : List ℕ) → IsShortPath p → AllCanBeSent (events_to kind p cs)
unfolding events_to
events_sent kind p [] h = All-nil OutputCanBeSent
events_sent kind p (c ∷ cs) h = All-cons OutputCanBeSent _ _ (event_sent kind p c h) (events_sent kind p cs h)

both_sent : (x y : List Output) → AllCanBeSent x → AllCanBeSent y → AllCanBeSent (x ++ y)
both_sent x y h k = All-append OutputCanBeSent x y h k

pub creation_sent : (p : Path) (n : List ℕ) (ws : List Watch) → IsShortPath (n ∷ p) → AllCanBeSent (creation_events p n ws)
unfolding creation_events
creation_sent p n ws h = both_sent _ _ (events_sent _ _ _ h) (events_sent _ p _ (omega (arith, above_shorter n p)))

end_sent : (p : Path) (ws : List Watch) → IsShortPath p → AllCanBeSent (end_events p ws)
unfolding end_events
end_sent p ws h = both_sent _ _ (events_sent _ _ _ h) (events_sent _ _ _ h)

pub deletion_sent : (p : Path) (ws : List Watch) → IsShortPath p → AllCanBeSent (deletion_events p ws)
unfolding deletion_events
deletion_sent p ws h = both_sent _ _ (end_sent p ws h) (events_sent _ (above p) _ (above_short p h))

pub content_sent : (p : Path) (ws : List Watch) → IsShortPath p → AllCanBeSent (content_events p ws)
unfolding content_events
content_sent p ws h = events_sent _ p _ h

-- several nodes go
pub all_deleted_sent : (z : ℤ) (ps : List Path) (s : State) → All IsShortPath ps → AllCanBeSent (all_deleted z ps s).events
unfolding all_deleted no_effects deleted
all_deleted_sent z [] s h = All-nil OutputCanBeSent
all_deleted_sent z (p ∷ ps) s h =
    both_sent _ _ (deletion_sent p s.watches (All-head IsShortPath p ps h)) (all_deleted_sent z ps _ (All-tail IsShortPath p ps h))

-- ---- what a setWatches tells

noticed_sent : (a : Aspect) (p : Path) (c : ℕ) (n : Notice) (t : Noticed) → IsShortPath p → AllCanBeSent t.events
    → AllCanBeSent (noticed a p c n t).events
unfolding noticed
noticed_sent a p c (tells kind) t h k =
    both_sent t.events (event_to kind p c ∷ []) k (All-cons OutputCanBeSent _ [] (event_sent kind p c h) (All-nil OutputCanBeSent))
noticed_sent a p c watches t h k = k

pub all_noticed_sent : (notice : Option Node → Notice) (a : Aspect) (es : List Place) (c : ℕ) (ps : List Path) (t : Noticed)
    → All IsShortPath ps → AllCanBeSent t.events → AllCanBeSent (all_noticed notice a es c ps t).events
unfolding all_noticed
all_noticed_sent notice a es c [] t h k = k
all_noticed_sent notice a es c (p ∷ ps) t h k =
    all_noticed_sent notice a es c ps _ (All-tail IsShortPath p ps h) (noticed_sent a p c _ t (All-head IsShortPath p ps h) k)

-- ---- the paths of a session's ephemerals

there_behind : (e : Place) (es : List Place) (p : Path) → is_there es p ≡ true → is_there (e ∷ es) p ≡ true
unfolding is_there
there_behind e es p h = go (same_path e.path p)
  where
    go : (b : Bool) → cond b true (is_there es p) ≡ true
    go true = refl
    go false = h

there_first : (e : Place) (es : List Place) → is_there (e ∷ es) e.path ≡ true
unfolding is_there
there_first e es = rw (same_path-refl e.path) refl

places_short : (es : List Place) → ((p : Path) → is_there es p ≡ true → IsShortPath p) → All (λ e. IsShortPath e.path) es
places_short [] h = All-nil (λ e. IsShortPath e.path)
places_short (e ∷ es) h =
    All-cons (λ e. IsShortPath e.path) e es (h e.path (there_first e es)) (places_short es (λ p k. h p (there_behind e es p k)))

one_owned : (b : Bool) (p : Path) (ps : List Path) → IsShortPath p → All IsShortPath ps
    → All IsShortPath (cons_option (cond b (Some p) None) ps)
one_owned true p ps h k = All-cons IsShortPath p ps h k
one_owned false p ps h k = k

owned_short : (session : ℤ) (es : List Place) → All (λ e. IsShortPath e.path) es → All IsShortPath (ephemerals session es)
unfolding ephemerals path_if_owned
owned_short session [] h = All-nil IsShortPath
owned_short session (e ∷ es) h =
    one_owned (int_eq e.node.numbers.owner session) e.path (ephemerals session es) (All-head (λ e. IsShortPath e.path) e es h)
    (owned_short session es (All-tail (λ e. IsShortPath e.path) e es h))

pub ephemerals_short : (session : ℤ) (es : List Place) → ((p : Path) → is_there es p ≡ true → IsShortPath p)
    → All IsShortPath (ephemerals session es)
ephemerals_short session es h = owned_short session es (places_short es h)
