-- A watch that was not there, once added and taken out again.
use Rattle.std.proofs.Common.{rules, ◌≡◌, ℕ, ◌==◌, ◌&&◌, Bool, true, false, cond, not, nat_le, List, [], ◌∷◌, ◌++◌, inl, inr, refl, sym, ap, subst, ◌∙◌}
use Rattle.std.specs.List.{list_any}
use Rattle.std.proofs.lemmas.Bool.{cases_Bool}
use Rattle.zk_path.specs.Paths.{IsTextOf}
use Rattle.tree_state.specs.declared.noticing.Added.{Added}
use Rattle.tree_state.specs.declared.watches.Watches.{Watches}
use Rattle.tree_state.specs.Nodes.{Path, same_path}
use Rattle.tree_state.specs.State.{Aspect, on_data, on_children, Watch, same_aspect, is_on, is_same_watch, after_lower, watching}
use Rattle.tree_state.specs.Watches.{Watching, is_other_watch, unwatching}
use Rattle.tree_state.specs.Noticing.{watch_of, Forgets, CanForget}
use Rattle.tree_state.proofs.SamePaths.{same_path-refl}

aspect_itself : (a : Aspect) → same_aspect a a ≡ true
unfolding same_aspect
aspect_itself on_data = refl
aspect_itself on_children = refl

number_itself : (n : ℕ) → (n == n) ≡ true
number_itself n = search rules

both : (a b c : Bool) → a ≡ true → b ≡ true → c ≡ true → (a && (b && c)) ≡ true
both true true true h k l = refl
both false b c h k l = h
both true false c h k l = k
both true true false h k l = l

itself : (w : Watch) → is_same_watch w w ≡ true
unfolding is_same_watch is_on
itself w = both (w.connection == w.connection) (same_aspect w.aspect w.aspect) (same_path w.path w.path) (number_itself w.connection) (aspect_itself w.aspect) (same_path-refl w.path)

-- where it is not there, nothing is taken out
any_first : (t : Watch → Bool) (v : Watch) (vs : List Watch) → list_any t (v ∷ vs) ≡ false → t v ≡ false
any_first t v vs h = elim (cases_Bool (t v)) [ inl yes_ ↦ absurd cc | inr off ↦ off ]

any_rest : (t : Watch → Bool) (v : Watch) (vs : List Watch) → list_any t (v ∷ vs) ≡ false → list_any t vs ≡ false
any_rest t v vs h = elim (cases_Bool (t v)) [ inl yes_ ↦ absurd cc | inr off ↦ cc ]

stays_first : (w v : Watch) (vs : List Watch) → is_same_watch w v ≡ false → unwatching w (v ∷ vs) ≡ v ∷ unwatching w vs
unfolding unwatching is_other_watch
stays_first w v vs h = ap (λ (b : Bool). cond (not b) (v ∷ unwatching w vs) (unwatching w vs)) h

goes_first : (w v : Watch) (vs : List Watch) → is_same_watch w v ≡ true → unwatching w (v ∷ vs) ≡ unwatching w vs
unfolding unwatching is_other_watch
goes_first w v vs h = ap (λ (b : Bool). cond (not b) (v ∷ unwatching w vs) (unwatching w vs)) h

none_first : (w : Watch) → unwatching w [] ≡ []
unfolding unwatching
none_first w = refl

absent : (w : Watch) (ws : List Watch) → list_any (is_same_watch w) ws ≡ false → unwatching w ws ≡ ws
absent w [] h = none_first w
absent w (v ∷ vs) h = stays_first w v vs (any_first (is_same_watch w) v vs h) ∙ ap (λ (us : List Watch). v ∷ us) (absent w vs (any_rest (is_same_watch w) v vs h))

placed_after : (w v : Watch) (vs : List Watch) → nat_le v.connection w.connection ≡ true → after_lower w (v ∷ vs) ≡ v ∷ after_lower w vs
unfolding after_lower
placed_after w v vs h = ap (λ (b : Bool). cond b (v ∷ after_lower w vs) (w ∷ v ∷ vs)) h

placed_here : (w v : Watch) (vs : List Watch) → nat_le v.connection w.connection ≡ false → after_lower w (v ∷ vs) ≡ w ∷ v ∷ vs
unfolding after_lower
placed_here w v vs h = ap (λ (b : Bool). cond b (v ∷ after_lower w vs) (w ∷ v ∷ vs)) h

placed_alone : (w : Watch) → after_lower w [] ≡ w ∷ []
unfolding after_lower
placed_alone w = refl

back_placed : (w : Watch) (ws : List Watch) → list_any (is_same_watch w) ws ≡ false → unwatching w (after_lower w ws) ≡ ws
back_placed w [] h = ap (unwatching w) (placed_alone w) ∙ goes_first w w [] (itself w) ∙ none_first w
back_placed w (v ∷ vs) h = elim (cases_Bool (nat_le v.connection w.connection)) [
  | inl after ↦
      ap (unwatching w) (placed_after w v vs after) ∙ stays_first w v (after_lower w vs) (any_first (is_same_watch w) v vs h)
      ∙ ap (λ (us : List Watch). v ∷ us) (back_placed w vs (any_rest (is_same_watch w) v vs h))
  | inr here ↦ ap (unwatching w) (placed_here w v vs here) ∙ goes_first w w (v ∷ vs) (itself w) ∙ absent w (v ∷ vs) h
]

-- a watch that is there stays as it is
pub watching_there : (w : Watch) (ws : List Watch) → list_any (is_same_watch w) ws ≡ true → watching w ws ≡ ws
unfolding watching
watching_there w ws h = ap (λ (b : Bool). cond b ws (after_lower w ws)) h

pub watching_new : (w : Watch) (ws : List Watch) → list_any (is_same_watch w) ws ≡ false → watching w ws ≡ after_lower w ws
unfolding watching
watching_new w ws h = ap (λ (b : Bool). cond b ws (after_lower w ws)) h

pub unwatching_new : (w : Watch) (ws : List Watch) → list_any (is_same_watch w) ws ≡ false → unwatching w (watching w ws) ≡ ws
unwatching_new w ws h = ap (unwatching w) (watching_new w ws h) ∙ back_placed w ws h

-- ---- lists of added watches

-- what the last of the added watches leaves is forgotten first
pub record Last (c : ℕ) (more : List Added) (a : Added) (ws start : List Watch) : Type 0 where
  pub path : Path
  pub text : IsTextOf a.path.now path
  pub rest : Forgets c more (unwatching (watch_of a.interest path c) ws) start

forgets_more : (c : ℕ) (more : List Added) (a : Added) (ws start : List Watch) → Last c more a ws start → Forgets c (more ++ a ∷ []) ws start
unfolding Forgets
forgets_more c [] a ws start l = (l.path, ws, l.text, refl, l.rest)
forgets_more c (b ∷ more) a ws start l =
    let r = l.rest in
    (r.0, r.1, r.2, forgets_more c more a ws r.1 (record { path = l.path; text = l.text; rest = r.3 }), r.4)

pub forgets_last : (c : ℕ) (more : List Added) (a : Added) (ws start : List Watch) → Forgets c (more ++ a ∷ []) ws start → Last c more a ws start
unfolding Forgets
forgets_last c [] a ws start h = record { path = h.0; text = h.2; rest = subst (λ (vs : List Watch). unwatching (watch_of a.interest h.0 c) vs ≡ start) (sym h.3) h.4 }
forgets_last c (b ∷ more) a ws start h =
    let l = forgets_last c more a ws h.1 h.3 in
    record { path = l.path; text = l.text; rest = (h.0, h.1, h.2, l.rest, h.4) }

not_there : (new there : Bool) → new ≡ not there → new ≡ true → there ≡ false
not_there new true h k = absurd cc
not_there new false h k = refl

is_there : (new there : Bool) → new ≡ not there → new ≡ false → there ≡ true
is_there new true h k = refl
is_there new false h k = absurd cc

-- a new one is listed
pub forgets_new : (c : ℕ) (before room after : List Added) (a : Added) (ws start : List Watch) (p : Path) (new : Bool) → room ≡ before → after ≡ room ++ a ∷ []
    → new ≡ not (list_any (is_same_watch (watch_of a.interest p c)) ws) → new ≡ true → IsTextOf a.path.now p → Forgets c before ws start
    → Forgets c after (watching (watch_of a.interest p c) ws) start
forgets_new c before room after a ws start p new same more says is text h =
    subst (λ (l : List Added). Forgets c l (watching (watch_of a.interest p c) ws) start) (ap (λ (l : List Added). l ++ a ∷ []) (sym same) ∙ sym more)
    (forgets_more c before a (watching (watch_of a.interest p c) ws) start (record {
      path = p;
      text = text;
      rest = subst (λ (vs : List Watch). Forgets c before vs start)
          (sym (unwatching_new (watch_of a.interest p c) ws (not_there new (list_any (is_same_watch (watch_of a.interest p c)) ws) says is))) h;
    }))

-- one that is there is not
pub forgets_there : (c : ℕ) (before after : List Added) (w : Watch) (ws start : List Watch) (new : Bool) → after ≡ before
    → new ≡ not (list_any (is_same_watch w) ws) → new ≡ false → Forgets c before ws start → Forgets c after (watching w ws) start
forgets_there c before after w ws start new same says is h =
    subst (λ (l : List Added). Forgets c l (watching w ws) start) (sym same)
    (subst (λ (vs : List Watch). Forgets c before vs start) (sym (watching_there w ws (is_there new (list_any (is_same_watch w) ws) says is))) h)

pub forgets_none : (c : ℕ) (ws : List Watch) → Forgets c [] ws ws
unfolding Forgets
forgets_none c ws = refl

pub forgotten_all : (c : ℕ) (ws start : List Watch) → Forgets c [] ws start → ws ≡ start
unfolding Forgets
forgotten_all c ws start h = h

-- the last of the added watches is taken out
pub forget_next : (c : ℕ) (start : List Watch) (kept later : Watches) (all rest : List Added) (a : Added) → all ≡ rest ++ a ∷ []
    → ((ws : List Watch) (p : Path) → Watching kept ws → IsTextOf a.path.now p → Watching later (unwatching (watch_of a.interest p c) ws))
    → CanForget c start kept all → CanForget c start later rest
forget_next c start kept later all rest a last unwatched h =
    let l = forgets_last c rest a h.ws start (subst (λ (k : List Added). Forgets c k h.ws start) last h.back) in
    record { ws = unwatching (watch_of a.interest l.path c) h.ws; watching = unwatched h.ws l.path h.watching l.text; back = l.rest }

-- and when all are
pub all_forgotten : (c : ℕ) (start : List Watch) (kept : Watches) (added : List Added) → added ≡ [] → CanForget c start kept added → Watching kept start
all_forgotten c start kept added none h =
    subst (λ (ws : List Watch). Watching kept ws) (forgotten_all c h.ws start (subst (λ (k : List Added). Forgets c k h.ws start) none h.back)) h.watching
