-- What maps of watches keep, after watches come and go.
use Rattle.std.proofs.Common.{◌≡◌, ◌==◌, ◌&&◌, ◌||◌, ℕ, Bool, true, false, cond, not, List, [], ◌∷◌, Option, Some, None, String, Global, string_bytes, string_cmp, nat_cmp, filter, bytes_eq, refl, sym, ap, subst, ◌∙◌, inl, inr}
use Rattle.std.specs.BTreeMap.{is_at, get, get_by_text, IsUnchanged, UpdatesBy}
use Rattle.std.specs.BTreeSet.{BTreeSet, insert_key}
use Rattle.std.specs.Cmp.Lexicographic.{slice_cmp}
use Rattle.std.specs.List.{AllZip, list_any}
use Rattle.std.specs.Ordering.{is_eq}
use Rattle.std.proofs.lemmas.List.Elements.{same_from_all_zip}
use Rattle.std.specs.Map.{lookup}
use Rattle.std.proofs.lemmas.Bool.{cases_Bool, both_ways, and_from, eq-eqb, eqb-true}
use Rattle.std.proofs.lemmas.Map.Text.{btree_map_updates_text, is_eq-slice_cmp}
use Rattle.std.proofs.lemmas.Slice.Eq.{bytes_eq-Decides}
use Rattle.zk_path.specs.Paths.{text_of, IsTextOf}
use Rattle.tree_state.specs.declared.watchers.Watchers.{Watchers}
use Rattle.tree_state.specs.Counts.{is_at_text}
use Rattle.tree_state.specs.Nodes.{Path, same_path}
use Rattle.tree_state.specs.State.{Aspect, on_data, on_children, Watch, same_aspect, is_on, told, left, left_of_others, after_lower, watching, is_same_watch}
use Rattle.tree_state.specs.Watches.{Ascend, Watched, members, has_text, watchers_of, is_watching, unwatching}
use Rattle.tree_state.specs.OneWatch.{is_other_connection, IsPathIn, IsPathOut, IsConnectionIn, IsConnectionOut, IsSeenAs, LeavesPaths, LeavesConnections}
use Rattle.tree_state.proofs.PathTexts.{one_path}
use Rattle.tree_state.proofs.SamePaths.{same_path-true, same_path-refl}
use Rattle.tree_state.proofs.WatchMaps.{tests_agree, and_so, same_members, same_watching, set_gone, no_set, has_alike}
use Rattle.tree_state.proofs.Toldness.{has, turned, told_fired, told_unfired, told_others, told_unwatched, told_still, same_watch, told_other, told_more, has_others, has_more, nothing_less}

-- the watch of a connection on a path
abbrev on : Aspect → Path → ℕ → Watch
on a p c = record { aspect = a; path = p; connection = c }

same_text : (text other : List ℕ) (q p : Path) → IsTextOf text q → IsTextOf other p → bytes_eq text other ≡ true → q ≡ p
same_text text other q p h k e = one_path other q p (subst (λ (x : List ℕ). IsTextOf x q) ((bytes_eq-Decides text other).0 e) h) k

other_text : (text other : List ℕ) (q p : Path) → IsTextOf text q → IsTextOf other p → bytes_eq text other ≡ false → same_path q p ≡ false
other_text text other q p h k e = elim (cases_Bool (same_path q p)) [
  | inl s ↦ absurd (both_ways _ e ((bytes_eq-Decides text other).1 (h.spelled ∙ ap text_of (same_path-true q p s) ∙ sym k.spelled)))
  | inr s ↦ s
]

-- the connections told of a path, where those of one path alone change
abbrev Tells : Watchers → Aspect → List Watch → Type 0
Tells t a ws = (other : List ℕ) (p : Path) → IsTextOf other p → watchers_of t other ≡ told a p ws

abbrev Knows : Watchers → Aspect → List Watch → Type 0
Knows t a ws = (d : ℕ) (other : List ℕ) (p : Path) → IsTextOf other p → is_watching t d other ≡ has d (told a p ws)

watched : (t : Watchers) (a : Aspect) (ws : List Watch) → Tells t a ws → Knows t a ws → Watched t a ws
watched t a ws h k = record { by_path = h; by_connection = k }

-- the connections of one path change
told_changed : (t v : Watchers) (a : Aspect) (ws vs : List Watch) (text : List ℕ) (q : Path) (f : List ℕ → List ℕ)
    → ((other : List ℕ) → watchers_of v other ≡ cond (bytes_eq text other) (f (watchers_of t other)) (watchers_of t other))
    → told a q vs ≡ f (told a q ws) → ((p : Path) → same_path q p ≡ false → told a p vs ≡ told a p ws)
    → Watched t a ws → IsTextOf text q → Tells v a vs
told_changed t v a ws vs text q f maps here there w h other p k = maps other ∙ go (bytes_eq text other) refl
  where
    go : (b : Bool) → bytes_eq text other ≡ b → cond b (f (watchers_of t other)) (watchers_of t other) ≡ told a p vs
    go true e = ap f (w.by_path other p k) ∙ subst (λ (r : Path). f (told a r ws) ≡ told a r vs) (same_text text other q p h k e) (sym here)
    go false e = w.by_path other p k ∙ sym (there p (other_text text other q p h k e))

known_changed : (t v : Watchers) (a : Aspect) (ws vs : List Watch) (text : List ℕ) (q : Path) (g : ℕ → Bool → Bool)
    → ((d : ℕ) (other : List ℕ) → is_watching v d other ≡ cond (bytes_eq text other) (g d (is_watching t d other)) (is_watching t d other))
    → ((d : ℕ) → has d (told a q vs) ≡ g d (has d (told a q ws))) → ((p : Path) → same_path q p ≡ false → told a p vs ≡ told a p ws)
    → Watched t a ws → IsTextOf text q → Knows v a vs
known_changed t v a ws vs text q g maps here there w h d other p k = maps d other ∙ go (bytes_eq text other) refl
  where
    go : (b : Bool) → bytes_eq text other ≡ b → cond b (g d (is_watching t d other)) (is_watching t d other) ≡ has d (told a p vs)
    go true e = ap (g d) (w.by_connection d other p k) ∙ subst (λ (r : Path). g d (has d (told a r ws)) ≡ has d (told a r vs)) (same_text text other q p h k e) (sym (here d))
    go false e = w.by_connection d other p k ∙ ap (has d) (sym (there p (other_text text other q p h k e)))

and_cond : (x e s : Bool) → (x && not (e && s)) ≡ cond s (x && not e) x
and_cond true true true = refl
and_cond true true false = refl
and_cond true false true = refl
and_cond true false false = refl
and_cond false true true = refl
and_cond false true false = refl
and_cond false false true = refl
and_cond false false false = refl

or_cond : (x e s : Bool) → (x || (e && s)) ≡ cond s (x || e) x
or_cond true true true = refl
or_cond true true false = refl
or_cond true false true = refl
or_cond true false false = refl
or_cond false true true = refl
or_cond false true false = refl
or_cond false false true = refl
or_cond false false false = refl

same_entries : (t u : Watchers) (other : List ℕ) → u.by_path.entries ≡ t.by_path.entries → watchers_of u other ≡ watchers_of t other
unfolding watchers_of
same_entries t u other e = ap (λ es. members (lookup (is_at_text other) es)) e

found_none : (t : Watchers) (text : List ℕ) → None ≡ get_by_text t.by_path text → watchers_of t text ≡ []
unfolding watchers_of members
found_none t text h = ap members (sym h)

found_some : (t : Watchers) (text : List ℕ) (cs : BTreeSet ℕ) → Some cs ≡ get_by_text t.by_path text → watchers_of t text ≡ cs.keys
unfolding watchers_of members
found_some t text cs h = ap members (sym h)

same_watching_entries : (t u : Watchers) (d : ℕ) (other : List ℕ) → u.by_connection.entries ≡ t.by_connection.entries → is_watching u d other ≡ is_watching t d other
unfolding is_watching
same_watching_entries t u d other e = ap (λ es. has_text other (lookup (is_at (nat_cmp d)) es)) e

known_none : (t : Watchers) (c : ℕ) (other : List ℕ) → None ≡ get nat_cmp t.by_connection c → is_watching t c other ≡ false
unfolding is_watching has_text
known_none t c other h = ap (has_text other) (sym h)

known_some : (t : Watchers) (c : ℕ) (other : List ℕ) (ks : BTreeSet (String Global)) → Some ks ≡ get nat_cmp t.by_connection c → is_watching t c other ≡ list_any (is_at_text other) ks.keys
unfolding is_watching has_text
known_some t c other ks h = ap (has_text other) (sym h)

pub seen_so : (t u : Watchers) (a : Aspect) (ws : List Watch) → IsSeenAs t u → Watched t a ws → Watched u a ws
seen_so t u a ws s w = watched u a ws (λ other p h. s.by_path other ∙ w.by_path other p h) (λ d other p h. s.by_connection d other ∙ w.by_connection d other p h)

-- ---- a watch goes

pub watch_out : (t u v : Watchers) (text : List ℕ) (c : ℕ) (a : Aspect) (ws : List Watch) (q : Path) → IsPathOut t u text c → IsConnectionOut u v text c
    → Watched t a ws → IsTextOf text q → Watched v a (unwatching (on a q c) ws)
watch_out t u v text c a ws q x y w h = watched v a (unwatching (on a q c) ws)
    (told_changed t v a ws (unwatching (on a q c) ws) text q (filter (is_other_connection c))
    (λ other. y.by_path other ∙ ap (λ (cs : List ℕ). cond (bytes_eq text other) (filter (is_other_connection c) cs) cs) (same_members t u other x.by_path))
    (told_unwatched (on a q c) ws) (λ p. told_still (on a q c) p ws) w h)
    (known_changed t v a ws (unwatching (on a q c) ws) text q (λ d b. b && not (d == c))
    (λ d other. same_watching u v d other y.by_connection ∙ x.by_connection d other ∙ and_cond (is_watching t d other) (d == c) (bytes_eq text other))
    (λ d. ap (has d) (told_unwatched (on a q c) ws) ∙ has_others c d (told a q ws)) (λ p. told_still (on a q c) p ws) w h)

-- ---- a watch comes

same_aspect-refl : (a : Aspect) → same_aspect a a ≡ true
unfolding same_aspect
same_aspect-refl on_data = refl
same_aspect-refl on_children = refl

on_itself : (a : Aspect) (q : Path) (c : ℕ) → is_on a q (on a q c) ≡ true
unfolding is_on
on_itself a q c = and_from (same_aspect a a) (same_path q q) (same_aspect-refl a) (same_path-refl q)

-- it was there
pub watch_there : (t : Watchers) (text : List ℕ) (c : ℕ) (a : Aspect) (ws : List Watch) (q : Path) (b : Bool) → b ≡ has c (watchers_of t text) → b ≡ true
    → Watched t a ws → IsTextOf text q → Watched t a (watching (on a q c) ws)
unfolding watching
watch_there t text c a ws q b h k w is =
    subst (λ (z : Bool). Watched t a (cond z ws (after_lower (on a q c) ws)))
    (sym (same_watch (on a q c) ws ∙ ap (has c) (sym (w.by_path text q is)) ∙ sym h ∙ k)) w

-- whether it was there
pub watch_is_there : (t : Watchers) (text : List ℕ) (c : ℕ) (a : Aspect) (ws : List Watch) (q : Path) (b : Bool) → b ≡ has c (watchers_of t text)
    → Watched t a ws → IsTextOf text q → b ≡ list_any (is_same_watch (on a q c)) ws
watch_is_there t text c a ws q b h w is = h ∙ ap (has c) (w.by_path text q is) ∙ sym (same_watch (on a q c) ws)

pub watch_in : (t u v : Watchers) (text : List ℕ) (c : ℕ) (a : Aspect) (ws : List Watch) (q : Path) (b : Bool) → b ≡ has c (watchers_of t text) → b ≡ false
    → IsPathIn t u text c → IsConnectionIn u v text c
    → Watched t a ws → Ascend ws → IsTextOf text q → Watched v a (watching (on a q c) ws)
unfolding watching
watch_in t u v text c a ws q b h k x y w up is =
    subst (λ (z : Bool). Watched v a (cond z ws vs)) (sym (watch_is_not ∙ refl))
    (watched v a vs
    (told_changed t v a ws vs text q (λ cs. insert_key nat_cmp cs c)
    (λ other. y.by_path other ∙ ap (λ (cs : List ℕ). cond (bytes_eq text other) (insert_key nat_cmp cs c) cs) (same_members t u other x.by_path))
    (told_more (on a q c) ws (on_itself a q c) up new) (λ p i. told_other (on a q c) p ws i (on_itself a q c)) w is)
    (known_changed t v a ws vs text q (λ d e. e || (d == c))
    (λ d other. same_watching u v d other y.by_connection ∙ x.by_connection d other ∙ or_cond (is_watching t d other) (d == c) (bytes_eq text other))
    (λ d. ap (has d) (told_more (on a q c) ws (on_itself a q c) up new) ∙ has_more c d (told a q ws)) (λ p i. told_other (on a q c) p ws i (on_itself a q c)) w is))
  where
    vs : List Watch
    vs = after_lower (on a q c) ws

    new : has c (told a q ws) ≡ false
    new = ap (has c) (sym (w.by_path text q is)) ∙ sym h ∙ k

    watch_is_not : list_any (is_same_watch (on a q c)) ws ≡ false
    watch_is_not = same_watch (on a q c) ws ∙ new

-- it was not there, and is taken back
pub watch_back : (t u v x : Watchers) (text : List ℕ) (c : ℕ) (b : Bool) → b ≡ has c (watchers_of t text) → b ≡ false
    → IsPathIn t u text c → IsSeenAs u v → IsPathOut v x text c → (a : Aspect) (ws : List Watch) → Watched t a ws → Watched x a ws
watch_back t u v x text c b h k y s z a ws w = watched x a ws
    (λ other p is. same_members v x other z.by_path ∙ s.by_path other ∙ same_members t u other y.by_path ∙ w.by_path other p is)
    (λ d other p is.
    z.by_connection d other ∙ ap (λ (e : Bool). e && not (d == c && bytes_eq text other)) (s.by_connection d other ∙ y.by_connection d other)
    ∙ go d other p is (d == c) (bytes_eq text other) refl refl)
  where
    taken : (e : Bool) → ((e || false) && not false) ≡ e
    taken true = refl
    taken false = refl

    go : (d : ℕ) (other : List ℕ) (p : Path) → IsTextOf other p → (i s : Bool) → (d == c) ≡ i → bytes_eq text other ≡ s
        → ((is_watching t d other || (i && s)) && not (i && s)) ≡ has d (told a p ws)
    go d other p is true true e f = gone (is_watching t d other || true) ∙ sym none
      where
        gone : (e : Bool) → (e && false) ≡ false
        gone true = refl
        gone false = refl

        none : has d (told a p ws) ≡ false
        none =
            ap (has d) (sym (w.by_path other p is)) ∙ ap (λ (n : ℕ). has n (watchers_of t other)) (eqb-true d c e)
            ∙ ap (λ (o : List ℕ). has c (watchers_of t o)) (sym ((bytes_eq-Decides text other).0 f)) ∙ sym h ∙ k
    go d other p is true false e f = taken (is_watching t d other) ∙ w.by_connection d other p is
    go d other p is false s e f = taken (is_watching t d other) ∙ w.by_connection d other p is

-- ---- the watches of a path fire

pub none_fire : (t u : Watchers) (text : List ℕ) (a : Aspect) (ws : List Watch) (q : Path) → None ≡ get_by_text t.by_path text → IsUnchanged t.by_path u.by_path
    → Watched t a ws → IsTextOf text q → u.by_connection ≡ t.by_connection → Watched u a (left a q ws)
none_fire t u text a ws q h e w is f = watched u a (left a q ws)
    (told_changed t u a ws (left a q ws) text q (λ cs. []) (λ other. same_entries t u other e ∙ go other (bytes_eq text other) refl) (told_fired a q ws) (λ p. told_unfired a q p ws) w is)
    (known_changed t u a ws (left a q ws) text q (λ d b. b) (λ d other. same_watching t u d other f ∙ both (bytes_eq text other) (is_watching t d other))
    (λ d. ap (has d) (told_fired a q ws) ∙ sym (ap (has d) none)) (λ p. told_unfired a q p ws) w is)
  where
    none : told a q ws ≡ []
    none = sym (w.by_path text q is) ∙ found_none t text h

    both : (b x : Bool) → x ≡ cond b x x
    both true x = refl
    both false x = refl

    go : (other : List ℕ) (b : Bool) → bytes_eq text other ≡ b → watchers_of t other ≡ cond b [] (watchers_of t other)
    go other true e = subst (λ (o : List ℕ). watchers_of t o ≡ []) ((bytes_eq-Decides text other).0 e) (found_none t text h)
    go other false e = refl

pub leaving_paths : (text all : List ℕ) (t : Watchers) → LeavesPaths text all t all t
leaving_paths text all t = record { by_path = refl; by_connection = λ d other. refl }

pub next_path_left : (text all : List ℕ) (t : Watchers) (rest : List ℕ) (u v : Watchers) (c : ℕ) (later : List ℕ) → rest ≡ c ∷ later → LeavesPaths text all t rest u
    → IsPathOut u v text c → LeavesPaths text all t later v
next_path_left text all t rest u v c later e l x = record {
  by_path = x.by_path ∙ l.by_path;
  by_connection = λ d other.
      ap (λ (b : Bool). b && not (has d later && bytes_eq text other)) (x.by_connection d other)
      ∙ go (is_watching u d other) (d == c) (has d later) (bytes_eq text other)
      ∙ ap (λ (b : Bool). is_watching u d other && not ((b || has d later) && bytes_eq text other)) (turned d c)
      ∙ ap (λ (cs : List ℕ). is_watching u d other && not (has d cs && bytes_eq text other)) (sym e)
      ∙ l.by_connection d other;
}
  where
    go : (x b l s : Bool) → ((x && not (b && s)) && not (l && s)) ≡ (x && not ((b || l) && s))
    go false b l s = refl
    go true true l true = refl
    go true true true false = refl
    go true true false false = refl
    go true false l s = refl

pub all_fired : (t u v : Watchers) (text all rest : List ℕ) (cs : BTreeSet ℕ) (a : Aspect) (ws : List Watch) (q : Path) → Some cs ≡ get_by_text t.by_path text
    → UpdatesBy string_cmp (λ k. slice_cmp nat_cmp text (string_bytes k)) t.by_path u.by_path None → u.by_connection ≡ t.by_connection
    → all ≡ cs.keys → rest ≡ [] → LeavesPaths text all u rest v
    → Watched t a ws → IsTextOf text q → Watched v a (left a q ws)
all_fired t u v text all rest cs a ws q h r f e n l w is = watched v a (left a q ws)
    (told_changed t v a ws (left a q ws) text q (λ ds. []) (λ other. same_members u v other l.by_path ∙ set_gone t u text other (btree_map_updates_text text t.by_path u.by_path None r)) (told_fired a q ws) (λ p. told_unfired a q p ws) w is)
    (known_changed t v a ws (left a q ws) text q (λ d b. b && not (has d all))
    (λ d other.
    plain (is_watching v d other) ∙ ap (λ (ds : List ℕ). is_watching v d other && not (has d ds && bytes_eq text other)) (sym n)
    ∙ l.by_connection d other
    ∙ ap (λ (b : Bool). b && not (has d all && bytes_eq text other)) (same_watching t u d other f)
    ∙ and_cond (is_watching t d other) (has d all) (bytes_eq text other))
    (λ d. ap (has d) (told_fired a q ws) ∙ nothing (has d (told a q ws)) ∙ ap (λ (ds : List ℕ). has d (told a q ws) && not (has d ds)) (sym (w.by_path text q is) ∙ found_some t text cs h ∙ sym e))
    (λ p. told_unfired a q p ws) w is)
  where
    plain : (b : Bool) → b ≡ (b && true)
    plain true = refl
    plain false = refl

    nothing : (b : Bool) → false ≡ (b && not b)
    nothing true = refl
    nothing false = refl

-- ---- the watches of a connection go

pub none_lose : (t u : Watchers) (c : ℕ) (a : Aspect) (ws : List Watch) → None ≡ get nat_cmp t.by_connection c → u.by_connection.entries ≡ t.by_connection.entries → u.by_path ≡ t.by_path
    → Watched t a ws → Watched u a (left_of_others c ws)
none_lose t u c a ws h e f w = watched u a (left_of_others c ws)
    (λ other p is. same_members t u other f ∙ w.by_path other p is ∙ sym (told_others a p c ws ∙ nothing_less c (told a p ws) (absent other p is)))
    (λ d other p is.
    same_watching_entries t u d other e ∙ w.by_connection d other p is ∙ sym (ap (has d) (told_others a p c ws ∙ nothing_less c (told a p ws) (absent other p is))))
  where
    absent : (other : List ℕ) (p : Path) → IsTextOf other p → has c (told a p ws) ≡ false
    absent other p is = sym (w.by_connection c other p is) ∙ known_none t c other h

pub leaving_connections : (c : ℕ) (all : List (String Global)) (t : Watchers) → LeavesConnections c all t all t
leaving_connections c all t = record { by_connection = refl; by_path = λ other. refl }

pub next_connection_left : (c : ℕ) (all : List (String Global)) (t : Watchers) (rest : List (String Global)) (u v : Watchers) (k : String Global) (text : List ℕ) (later : List (String Global))
    → rest ≡ k ∷ later → LeavesConnections c all t rest u → text ≡ string_bytes k → IsConnectionOut u v text c → LeavesConnections c all t later v
next_connection_left c all t rest u v k text later e l s x = record {
  by_connection = x.by_connection ∙ l.by_connection;
  by_path = λ other.
      ap (λ (cs : List ℕ). cond (list_any (is_at_text other) later) (filter (is_other_connection c) cs) cs) (x.by_path other)
      ∙ go (watchers_of u other) (list_any (is_at_text other) later) (bytes_eq text other)
      ∙ ap (λ (b : Bool). cond (b || list_any (is_at_text other) later) (filter (is_other_connection c) (watchers_of u other)) (watchers_of u other)) (at_key other)
      ∙ ap (λ (ks : List (String Global)). cond (list_any (is_at_text other) ks) (filter (is_other_connection c) (watchers_of u other)) (watchers_of u other)) (sym e)
      ∙ l.by_path other;
}
  where
    at_key : (other : List ℕ) → bytes_eq text other ≡ is_at_text other k
    at_key other = tests_agree _ _
        (λ h. is_eq-slice_cmp other (string_bytes k) ∙ (bytes_eq-Decides other (string_bytes k)).1 (sym ((bytes_eq-Decides text other).0 h) ∙ s))
        (λ h. (bytes_eq-Decides text other).1 (s ∙ sym ((bytes_eq-Decides other (string_bytes k)).0 (sym (is_eq-slice_cmp other (string_bytes k)) ∙ h))))

    gone : (b : Bool) → (b && not true) ≡ false
    gone true = refl
    gone false = refl

    twice : (cs : List ℕ) → filter (is_other_connection c) (filter (is_other_connection c) cs) ≡ filter (is_other_connection c) cs
    twice cs = nothing_less c (filter (is_other_connection c) cs) (has_others c c cs ∙ ap (λ (b : Bool). has c cs && not b) (eq-eqb c c refl) ∙ gone (has c cs))

    go : (cs : List ℕ) (l b : Bool) → cond l (filter (is_other_connection c) (cond b (filter (is_other_connection c) cs) cs)) (cond b (filter (is_other_connection c) cs) cs)
        ≡ cond (b || l) (filter (is_other_connection c) cs) cs
    go cs true true = twice cs
    go cs true false = refl
    go cs false true = refl
    go cs false false = refl

pub all_lost : (t u v : Watchers) (c : ℕ) (all rest : List (String Global)) (ks : BTreeSet (String Global)) (a : Aspect) (ws : List Watch) → Some ks ≡ get nat_cmp t.by_connection c
    → UpdatesBy nat_cmp (nat_cmp c) t.by_connection u.by_connection None → u.by_path ≡ t.by_path → all ≡ ks.keys → rest ≡ [] → LeavesConnections c all u rest v
    → Watched t a ws → Watched v a (left_of_others c ws)
all_lost t u v c all rest ks a ws h r f e n l w = watched v a (left_of_others c ws) tells knows
  where
    known : (other : List ℕ) (p : Path) → IsTextOf other p → list_any (is_at_text other) all ≡ has c (told a p ws)
    known other p is = ap (list_any (is_at_text other)) e ∙ sym (known_some t c other ks h) ∙ w.by_connection c other p is

    cut : (cs : List ℕ) (b : Bool) → has c cs ≡ b → cond b (filter (is_other_connection c) cs) cs ≡ filter (is_other_connection c) cs
    cut cs true k = refl
    cut cs false k = sym (nothing_less c cs k)

    tells : (other : List ℕ) (p : Path) → IsTextOf other p → watchers_of v other ≡ told a p (left_of_others c ws)
    tells other p is =
        ap (λ (ks : List (String Global)). cond (list_any (is_at_text other) ks) (filter (is_other_connection c) (watchers_of v other)) (watchers_of v other)) (sym n)
        ∙ l.by_path other
        ∙ ap (λ (cs : List ℕ). cond (list_any (is_at_text other) all) (filter (is_other_connection c) cs) cs) (same_members t u other f ∙ w.by_path other p is)
        ∙ ap (λ (b : Bool). cond b (filter (is_other_connection c) (told a p ws)) (told a p ws)) (known other p is)
        ∙ cut (told a p ws) (has c (told a p ws)) refl
        ∙ sym (told_others a p c ws)

    knows : (d : ℕ) (other : List ℕ) (p : Path) → IsTextOf other p → is_watching v d other ≡ has d (told a p (left_of_others c ws))
    knows d other p is =
        same_watching u v d other l.by_connection ∙ no_set t u c d other r.0 ∙ and_so (d == c) (is_watching t d other)
        ∙ ap (λ (b : Bool). b && not (d == c)) (w.by_connection d other p is)
        ∙ sym (has_others c d (told a p ws)) ∙ sym (ap (has d) (told_others a p c ws))

-- ---- what is kept

pub none_watched : (t : Watchers) (a : Aspect) → t.by_path.entries ≡ [] → t.by_connection.entries ≡ [] → Watched t a []
unfolding watchers_of is_watching told members has_text
none_watched t a e f = watched t a []
    (λ other p is. ap (λ es. members (lookup (is_at_text other) es)) e)
    (λ d other p is. ap (λ es. has_text other (lookup (is_at (nat_cmp d)) es)) f)

pub told_of : (t : Watchers) (text : List ℕ) (o : Option (BTreeSet ℕ)) (a : Aspect) (ws : List Watch) (p : Path) → o ≡ get_by_text t.by_path text
    → Watched t a ws → IsTextOf text p → members o ≡ told a p ws
unfolding watchers_of
told_of t text o a ws p h w is = ap members h ∙ w.by_path text p is

pub has_so : (t : Watchers) (text : List ℕ) (c : ℕ) (cs : BTreeSet ℕ) (b : Bool) → Some cs ≡ get_by_text t.by_path text → b ≡ list_any (is_at (nat_cmp c)) cs.keys
    → b ≡ has c (watchers_of t text)
has_so t text c cs b h e = e ∙ has_alike c cs.keys ∙ ap (has c) (sym (found_some t text cs h))

pub has_none : (t : Watchers) (text : List ℕ) (c : ℕ) → None ≡ get_by_text t.by_path text → false ≡ has c (watchers_of t text)
has_none t text c h = ap (has c) (sym (found_none t text h))

-- ---- a copy

abbrev pub IsTextCopy : String Global → String Global → Type 0
IsTextCopy k l = string_bytes l ≡ string_bytes k

abbrev pub IsNumberCopy : ℕ → ℕ → Type 0
IsNumberCopy c d = d ≡ c

same_texts : (text : List ℕ) (ks ls : List (String Global)) → AllZip IsTextCopy ks ls → list_any (is_at_text text) ls ≡ list_any (is_at_text text) ks
same_texts text [] [] z = refl
same_texts text [] (l ∷ ls) z = absurd z
same_texts text (k ∷ ks) [] z = absurd z
same_texts text (k ∷ ks) (l ∷ ls) z =
    ap (λ (b : List ℕ). is_eq (slice_cmp nat_cmp text b) || list_any (is_at_text text) ls) z.0
    ∙ ap (λ (b : Bool). is_at_text text k || b) (same_texts text ks ls z.1)

same_numbers : (cs ds : List ℕ) → AllZip IsNumberCopy cs ds → ds ≡ cs
same_numbers cs ds z = same_from_all_zip IsNumberCopy cs ds z (λ c d e. e)

found_members : (cs ds : BTreeSet ℕ) → ds.keys ≡ cs.keys → members (Some ds) ≡ members (Some cs)
unfolding members
found_members cs ds e = e

found_text : (text : List ℕ) (ks ls : BTreeSet (String Global)) → list_any (is_at_text text) ls.keys ≡ list_any (is_at_text text) ks.keys → has_text text (Some ls) ≡ has_text text (Some ks)
unfolding has_text
found_text text ks ls e = e

copied_members : (text : List ℕ) (es fs : List (String Global × BTreeSet ℕ)) → AllZip (λ e f. IsTextCopy e.0 f.0 × AllZip IsNumberCopy e.1.keys f.1.keys) es fs
    → members (lookup (is_at_text text) fs) ≡ members (lookup (is_at_text text) es)
copied_members text [] [] z = refl
copied_members text [] (f ∷ fs) z = absurd z
copied_members text (e ∷ es) [] z = absurd z
copied_members text (e ∷ es) (f ∷ fs) z =
    ap (λ (b : List ℕ). members (cond (is_eq (slice_cmp nat_cmp text b)) (Some f.1) (lookup (is_at_text text) fs))) z.0.0
    ∙ go (is_at_text text e.0) (copied_members text es fs z.1)
  where
    here : members (Some f.1) ≡ members (Some e.1)
    here = found_members e.1 f.1 (same_numbers e.1.keys f.1.keys z.0.1)

    go : (b : Bool) → members (lookup (is_at_text text) fs) ≡ members (lookup (is_at_text text) es)
        → members (cond b (Some f.1) (lookup (is_at_text text) fs)) ≡ members (cond b (Some e.1) (lookup (is_at_text text) es))
    go true h = here
    go false h = h

copied_texts : (text : List ℕ) (c : ℕ) (es fs : List (ℕ × BTreeSet (String Global))) → AllZip (λ e f. IsNumberCopy e.0 f.0 × AllZip IsTextCopy e.1.keys f.1.keys) es fs
    → has_text text (lookup (is_at (nat_cmp c)) fs) ≡ has_text text (lookup (is_at (nat_cmp c)) es)
copied_texts text c [] [] z = refl
copied_texts text c [] (f ∷ fs) z = absurd z
copied_texts text c (e ∷ es) [] z = absurd z
copied_texts text c (e ∷ es) (f ∷ fs) z =
    ap (λ (d : ℕ). has_text text (cond (is_at (nat_cmp c) d) (Some f.1) (lookup (is_at (nat_cmp c)) fs))) z.0.0
    ∙ go (is_at (nat_cmp c) e.0) (copied_texts text c es fs z.1)
  where
    here : has_text text (Some f.1) ≡ has_text text (Some e.1)
    here = found_text text e.1 f.1 (same_texts text e.1.keys f.1.keys z.0.1)

    go : (b : Bool) → has_text text (lookup (is_at (nat_cmp c)) fs) ≡ has_text text (lookup (is_at (nat_cmp c)) es)
        → has_text text (cond b (Some f.1) (lookup (is_at (nat_cmp c)) fs)) ≡ has_text text (cond b (Some e.1) (lookup (is_at (nat_cmp c)) es))
    go true h = here
    go false h = h

pub copied : (t u : Watchers) → AllZip (λ e f. IsTextCopy e.0 f.0 × AllZip IsNumberCopy e.1.keys f.1.keys) t.by_path.entries u.by_path.entries
    → AllZip (λ e f. IsNumberCopy e.0 f.0 × AllZip IsTextCopy e.1.keys f.1.keys) t.by_connection.entries u.by_connection.entries
    → (a : Aspect) (ws : List Watch) → Watched t a ws → Watched u a ws
unfolding watchers_of is_watching
copied t u y z a ws w = seen_so t u a ws (record {
  by_path = λ text. copied_members text t.by_path.entries u.by_path.entries y;
  by_connection = λ d text. copied_texts text d t.by_connection.entries u.by_connection.entries z;
}) w
