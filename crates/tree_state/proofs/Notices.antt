-- What the notices of setWatches tell and watch.
use Rattle.std.proofs.Common.{◌≡◌, ℕ, ℤ, List, [], ◌∷◌, ◌++◌, append_assoc, Option, Some, None, Result, Ok, Err, refl, sym, ap, subst, ◌∙◌}
use Rattle.std.specs.List.{AllZip}
use Rattle.std.specs.Result.{IsErrAnd}
use Rattle.jute_core.specs.declared.held.Memory.{Memory}
use Rattle.zk_path.specs.Paths.{IsTextOf}
use Rattle.tree_state.specs.declared.events.EventKind.{EventKind}
use Rattle.tree_state.specs.declared.message.Output.{Output}
use Rattle.tree_state.specs.declared.node.Node as code
use Rattle.tree_state.specs.declared.noticing.Added.{Added}
use Rattle.tree_state.specs.declared.noticing.Interest.{Interest}
use Rattle.tree_state.specs.declared.watches.Watches.{Watches}
use Rattle.tree_state.specs.Nodes.{Path, Place, find}
use Rattle.tree_state.specs.State.{Watch, watching}
use Rattle.tree_state.specs.Places.{IsFound}
use Rattle.tree_state.specs.Changes.{event_to}
use Rattle.tree_state.specs.Commands.{AreTextsOf}
use Rattle.tree_state.specs.Step.{Notice, tells, watches, Noticed, noticed, all_noticed}
use Rattle.tree_state.specs.Watches.{Watching, number_of}
use Rattle.tree_state.specs.Noticing.{aspect_of, notice_of, watch_of, notice_with, plain_node, Forgets, AreNoticed, CanForget, Notices, one_noticed, list_noticed}

pub found_plain : (es : List Place) (p : Path) (n : Option code.Node) → IsFound es p n → find es p ≡ plain_node n
unfolding IsFound plain_node
found_plain es p None h = h
found_plain es p (Some n) h = h.plain

-- ---- one path

one_more_event : (told events : List Output) (e : Output) → (told ++ events) ++ e ∷ [] ≡ told ++ (events ++ e ∷ [])
one_more_event told events e = append_assoc told events (e ∷ [])

-- nothing was told or watched
pub not_noticed : (c : ℕ) (start : List Watch) (told : List Output) (t : Noticed) (kept later : Watches) (added more : List Added) (outputs : List Output)
    → (Watching kept t.kept → Watching later t.kept) → more ≡ added → AreNoticed c start told t kept added outputs → CanForget c start later more
not_noticed c start told t kept later added more outputs stays same h = record {
  ws = t.kept;
  watching = stays h.watching;
  back = subst (λ (l : List Added). Forgets c l t.kept start) (sym same) h.back;
}

told_notice : (interest : Interest) (seen : ℤ) (es : List Place) (c : ℕ) (p : Path) (t : Noticed) (kind : ℤ) → notice_of interest seen (find es p) ≡ tells kind
    → one_noticed interest seen es c p t ≡ record { kept = t.kept; events = t.events ++ event_to kind p c ∷ [] }
unfolding one_noticed noticed
told_notice interest seen es c p t kind h = ap (λ (n : Notice). noticed (aspect_of interest) p c n t) h

watched_notice : (interest : Interest) (seen : ℤ) (es : List Place) (c : ℕ) (p : Path) (t : Noticed) → notice_of interest seen (find es p) ≡ watches
    → one_noticed interest seen es c p t ≡ record { kept = watching (watch_of interest p c) t.kept; events = t.events }
unfolding one_noticed noticed
watched_notice interest seen es c p t h = ap (λ (n : Notice). noticed (aspect_of interest) p c n t) h

-- what is told or watched of a node that was found
is_notice : (interest : Interest) (seen : ℤ) (es : List Place) (p : Path) (n : Option code.Node) (notice : Notice) → IsFound es p n
    → notice ≡ notice_of interest seen (plain_node n) → notice_of interest seen (find es p) ≡ notice
is_notice interest seen es p n notice found h = ap (notice_of interest seen) (found_plain es p n found) ∙ sym h

kind_told : (kind : EventKind) → notice_with (Some kind) ≡ tells (number_of kind)
unfolding notice_with
kind_told kind = refl

none_told : notice_with None ≡ watches
unfolding notice_with
none_told = refl

pub event_noticed : (c : ℕ) (start : List Watch) (told : List Output) (t : Noticed) (kept : Watches) (added : List Added) (before after : List Output)
    (interest : Interest) (seen : ℤ) (es : List Place) (p : Path) (n : Option code.Node) (kind : EventKind) (e : Output)
    → IsFound es p n → notice_with (Some kind) ≡ notice_of interest seen (plain_node n) → e ≡ event_to (number_of kind) p c → after ≡ before ++ e ∷ []
    → AreNoticed c start told t kept added before → AreNoticed c start told (one_noticed interest seen es c p t) kept added after
event_noticed c start told t kept added before after interest seen es p n kind e found says is more h =
    subst (λ (u : Noticed). AreNoticed c start told u kept added after)
    (sym (told_notice interest seen es c p t (number_of kind) (is_notice interest seen es p n (notice_with (Some kind)) found says ∙ kind_told kind)))
    (record {
      watching = h.watching;
      sent = more ∙ ap (λ (l : List Output). l ++ e ∷ []) h.sent ∙ one_more_event told t.events e ∙ ap (λ (o : Output). told ++ (t.events ++ o ∷ [])) is;
      back = h.back;
    })

pub watch_noticed : (c : ℕ) (start : List Watch) (told : List Output) (t : Noticed) (kept later : Watches) (added more : List Added) (outputs : List Output)
    (interest : Interest) (seen : ℤ) (es : List Place) (p : Path) (n : Option code.Node)
    → IsFound es p n → notice_with None ≡ notice_of interest seen (plain_node n)
    → (Watching kept t.kept → Watching later (watching (watch_of interest p c) t.kept))
    → (Watching kept t.kept → Forgets c added t.kept start → Forgets c more (watching (watch_of interest p c) t.kept) start)
    → AreNoticed c start told t kept added outputs → AreNoticed c start told (one_noticed interest seen es c p t) later more outputs
watch_noticed c start told t kept later added more outputs interest seen es p n found says watched back h =
    subst (λ (u : Noticed). AreNoticed c start told u later more outputs)
    (sym (watched_notice interest seen es c p t (is_notice interest seen es p n (notice_with None) found says ∙ none_told)))
    (record { watching = watched h.watching; sent = h.sent; back = back h.watching h.back })

-- ---- a list

-- with the notices of these paths still to come, all is noticed
pub record Ahead (c : ℕ) (start : List Watch) (told : List Output) (interest : Interest) (seen : ℤ) (es : List Place) (left : List (List ℕ)) (whole : Noticed)
    (kept : Watches) (added : List Added) (outputs : List Output) : Type 0 where
  pub paths : List Path
  pub noticed : Noticed
  pub texts : AllZip IsTextOf left paths
  pub so_far : AreNoticed c start told noticed kept added outputs
  pub all : list_noticed interest seen es c paths noticed ≡ whole

list_first : (interest : Interest) (seen : ℤ) (es : List Place) (c : ℕ) (p : Path) (ps : List Path) (t : Noticed)
    → list_noticed interest seen es c (p ∷ ps) t ≡ list_noticed interest seen es c ps (one_noticed interest seen es c p t)
unfolding list_noticed one_noticed all_noticed
list_first interest seen es c p ps t = refl

list_none : (interest : Interest) (seen : ℤ) (es : List Place) (c : ℕ) (t : Noticed) → list_noticed interest seen es c [] t ≡ t
unfolding list_noticed all_noticed
list_none interest seen es c t = refl

texts_of : (texts : List (List ℕ)) (ps : List Path) → AreTextsOf (Some texts) ps → AllZip IsTextOf texts ps
unfolding AreTextsOf
texts_of texts ps h = h

no_paths : (ps : List Path) → AreTextsOf None ps → ps ≡ []
unfolding AreTextsOf
no_paths ps h = h

pub noticed_all : (c : ℕ) (start : List Watch) (told : List Output) (t : Noticed) (kept : Watches) (added : List Added) (outputs : List Output) (u : Unit {0})
    → AreNoticed c start told t kept added outputs → Notices c start told t kept added outputs (Ok u)
unfolding Notices
noticed_all c start told t kept added outputs u h = h

-- and back
pub all_noticed_of : (c : ℕ) (start : List Watch) (told : List Output) (t : Noticed) (kept : Watches) (added : List Added) (outputs : List Output) (u : Unit {0})
    → Notices c start told t kept added outputs (Ok u) → AreNoticed c start told t kept added outputs
unfolding Notices
all_noticed_of c start told t kept added outputs u h = h

pub forget_of : (c : ℕ) (start : List Watch) (told : List Output) (t : Noticed) (kept : Watches) (added : List Added) (outputs : List Output) (e : Memory)
    → Notices c start told t kept added outputs (Err e) → CanForget c start kept added
unfolding Notices
forget_of c start told t kept added outputs e h = h

-- the end without memory
pub out_of_memory : (c : ℕ) (start : List Watch) (told : List Output) (t : Noticed) (kept : Watches) (added : List Added) (outputs : List Output)
    (r : Result (Unit {0}) Memory) (Q : Memory → Type 0) → IsErrAnd r Q → CanForget c start kept added → Notices c start told t kept added outputs r
unfolding Notices
out_of_memory c start told t kept added outputs (Ok u) Q r h = absurd r
out_of_memory c start told t kept added outputs (Err e) Q r h = h

-- a null list
pub no_list : (c : ℕ) (start : List Watch) (told : List Output) (t : Noticed) (kept : Watches) (added : List Added) (outputs : List Output)
    (interest : Interest) (seen : ℤ) (es : List Place) (paths : Option (List (List ℕ))) (ps : List Path) (u : Unit {0}) → paths ≡ None → AreTextsOf paths ps
    → AreNoticed c start told t kept added outputs → Notices c start told (list_noticed interest seen es c ps t) kept added outputs (Ok u)
no_list c start told t kept added outputs interest seen es paths ps u null texts h =
    noticed_all c start told (list_noticed interest seen es c ps t) kept added outputs u
    (subst (λ (v : Noticed). AreNoticed c start told v kept added outputs)
    (sym (ap (λ (qs : List Path). list_noticed interest seen es c qs t) (no_paths ps (subst (λ (l : Option (List (List ℕ))). AreTextsOf l ps) null texts)) ∙ list_none interest seen es c t)) h)

pub first_ahead : (c : ℕ) (start : List Watch) (told : List Output) (t : Noticed) (kept : Watches) (added : List Added) (outputs : List Output)
    (interest : Interest) (seen : ℤ) (es : List Place) (paths : Option (List (List ℕ))) (list items : List (List ℕ)) (ps : List Path) → paths ≡ Some list → items ≡ list
    → AreTextsOf paths ps → AreNoticed c start told t kept added outputs
    → Ahead c start told interest seen es items (list_noticed interest seen es c ps t) kept added outputs
first_ahead c start told t kept added outputs interest seen es paths list items ps some same texts h = record {
  paths = ps;
  noticed = t;
  texts = subst (λ (l : List (List ℕ)). AllZip IsTextOf l ps) (sym same) (texts_of list ps (subst (λ (l : Option (List (List ℕ))). AreTextsOf l ps) some texts));
  so_far = h;
  all = refl;
}

-- what the notice of the next path comes to
abbrev pub Next : ℕ → List Watch → List Output → Interest → ℤ → List Place → List ℕ → Watches → List Added → List Output → Watches → List Added → List Output → Result (Unit {0}) Memory → Type 0
Next c start told interest seen es text kept added outputs later more sent r =
    (t : Noticed) (p : Path) → IsTextOf text p → AreNoticed c start told t kept added outputs → Notices c start told (one_noticed interest seen es c p t) later more sent r

pub next_ahead : (c : ℕ) (start : List Watch) (told : List Output) (interest : Interest) (seen : ℤ) (es : List Place) (text : List ℕ) (texts left : List (List ℕ)) (whole : Noticed)
    (kept later : Watches) (added more : List Added) (outputs sent : List Output) (u : Unit {0}) → left ≡ text ∷ texts
    → Next c start told interest seen es text kept added outputs later more sent (Ok u)
    → Ahead c start told interest seen es left whole kept added outputs → Ahead c start told interest seen es texts whole later more sent
next_ahead c start told interest seen es text texts left whole kept later added more outputs sent u first next h =
    go h.paths h.noticed (subst (λ (l : List (List ℕ)). AllZip IsTextOf l h.paths) first h.texts) h.so_far h.all
  where
    go : (ps : List Path) (t : Noticed) → AllZip IsTextOf (text ∷ texts) ps → AreNoticed c start told t kept added outputs → list_noticed interest seen es c ps t ≡ whole
        → Ahead c start told interest seen es texts whole later more sent
    go [] t zip so_far is = absurd zip
    go (p ∷ ps) t zip so_far is = record {
      paths = ps;
      noticed = one_noticed interest seen es c p t;
      texts = zip.1;
      so_far = all_noticed_of c start told (one_noticed interest seen es c p t) later more sent u (next t p zip.0 so_far);
      all = sym (list_first interest seen es c p ps t) ∙ is;
    }

pub stopped_ahead : (c : ℕ) (start : List Watch) (told : List Output) (interest : Interest) (seen : ℤ) (es : List Place) (text : List ℕ) (texts left : List (List ℕ)) (whole : Noticed)
    (kept later : Watches) (added more : List Added) (outputs sent : List Output) (e : Memory) → left ≡ text ∷ texts
    → Next c start told interest seen es text kept added outputs later more sent (Err e)
    → Ahead c start told interest seen es left whole kept added outputs → CanForget c start later more
stopped_ahead c start told interest seen es text texts left whole kept later added more outputs sent e first next h =
    go h.paths h.noticed (subst (λ (l : List (List ℕ)). AllZip IsTextOf l h.paths) first h.texts) h.so_far
  where
    go : (ps : List Path) (t : Noticed) → AllZip IsTextOf (text ∷ texts) ps → AreNoticed c start told t kept added outputs → CanForget c start later more
    go [] t zip so_far = absurd zip
    go (p ∷ ps) t zip so_far = forget_of c start told (one_noticed interest seen es c p t) later more sent e (next t p zip.0 so_far)

pub ended_ahead : (c : ℕ) (start : List Watch) (told : List Output) (interest : Interest) (seen : ℤ) (es : List Place) (left : List (List ℕ)) (whole : Noticed)
    (kept : Watches) (added : List Added) (outputs : List Output) (u : Unit {0}) → left ≡ []
    → Ahead c start told interest seen es left whole kept added outputs → Notices c start told whole kept added outputs (Ok u)
ended_ahead c start told interest seen es left whole kept added outputs u none h =
    noticed_all c start told whole kept added outputs u (go h.paths h.noticed (subst (λ (l : List (List ℕ)). AllZip IsTextOf l h.paths) none h.texts) h.so_far h.all)
  where
    go : (ps : List Path) (t : Noticed) → AllZip IsTextOf [] ps → AreNoticed c start told t kept added outputs → list_noticed interest seen es c ps t ≡ whole
        → AreNoticed c start told whole kept added outputs
    go (p ∷ ps) t zip so_far is = absurd zip
    go [] t zip so_far is = subst (λ (v : Noticed). AreNoticed c start told v kept added outputs) (sym (list_none interest seen es c t) ∙ is) so_far

-- outputs with room for one more
pub with_room : (c : ℕ) (start : List Watch) (told : List Output) (t : Noticed) (kept : Watches) (added : List Added) (outputs sent : List Output) → sent ≡ outputs
    → AreNoticed c start told t kept added outputs → AreNoticed c start told t kept added sent
with_room c start told t kept added outputs sent same h = subst (λ (l : List Output). AreNoticed c start told t kept added l) (sym same) h
