-- What the two maps of watches say after a path or a connection comes or goes.
use Rattle.std.proofs.Common.{◌≡◌, ◌==◌, ◌&&◌, ◌||◌, ℕ, Bool, true, false, cond, not, List, [], ◌∷◌, length, Option, Some, None, Result, Ok, Err, OnErr, IsSome, String, Global, string_bytes, string_cmp, nat_cmp, filter, bytes_eq, refl, sym, ap, subst, ◌∙◌}
use Rattle.std.specs.BTreeMap.{get, get_by_text, is_at, UpdatesBy, WritesThrough, Updates}
use Rattle.std.specs.BTreeSet as set
use Rattle.std.specs.BTreeSet.{BTreeSet, contains_text, insert_key}
use Rattle.std.specs.Cmp.Lexicographic.{slice_cmp}
use Rattle.std.specs.List.{list_any}
use Rattle.std.specs.Map.{lookup}
use Rattle.std.specs.Set.{remove_key}
use Rattle.std.proofs.lemmas.Bool.{eq-eqb, eqb-true, or_parts}
use Rattle.std.proofs.lemmas.Map.Text.{btree_map_updates_text, btree_set_updates_text}
use Rattle.std.proofs.lemmas.Slice.Eq.{bytes_eq-Decides}
use Rattle.tree_state.specs.declared.watchers.Watchers.{Watchers}
use Rattle.tree_state.specs.Counts.{is_at_text}
use Rattle.tree_state.specs.Watches.{members, watchers_of, has_text, is_watching}
use Rattle.tree_state.specs.OneWatch.{is_other_connection, IsPathIn, IsPathOut, IsConnectionIn, IsConnectionOut, IsSeenAs}
use Rattle.tree_state.proofs.SessionTies.{same_connection, own_connection, is_connection}
use Rattle.tree_state.proofs.Toldness.{has, nothing_less}

pub tests_agree : (a b : Bool) → (a ≡ true → b ≡ true) → (b ≡ true → a ≡ true) → a ≡ b
tests_agree true true f g = refl
tests_agree true false f g = sym (f refl)
tests_agree false true f g = g refl
tests_agree false false f g = refl

at_connection : (c d : ℕ) → is_at (nat_cmp c) d ≡ (d == c)
at_connection c d = tests_agree _ _
    (λ h. eq-eqb d c (sym (same_connection c d h)))
    (λ h. subst (λ (z : ℕ). is_connection c z ≡ true) (sym (eqb-true d c h)) (own_connection c))

-- the set of a connection is this one, and the others are as they were
abbrev pub IsAtConnection : Watchers → Watchers → ℕ → Option (BTreeSet (String Global)) → Type 0
IsAtConnection t u c o = (q : ℕ) → get nat_cmp u.by_connection q ≡ cond (is_at (nat_cmp c) q) o (get nat_cmp t.by_connection q)

-- the set of a path is this one, and the others are as they were
abbrev pub IsAtPath : Watchers → Watchers → List ℕ → Option (BTreeSet ℕ) → Type 0
IsAtPath t u text o = (other : List ℕ) → get_by_text u.by_path other ≡ cond (bytes_eq text other) o (get_by_text t.by_path other)

set_paths : (t u : Watchers) (c d : ℕ) (o : Option (BTreeSet (String Global))) (other : List ℕ) → IsAtConnection t u c o
    → is_watching u d other ≡ cond (d == c) (has_text other o) (is_watching t d other)
unfolding is_watching
set_paths t u c d o other h = ap (has_text other) (h d) ∙ go (is_at (nat_cmp c) d) (get nat_cmp t.by_connection d) ∙ ap (λ (b : Bool). cond b (has_text other o) (has_text other (get nat_cmp t.by_connection d))) (at_connection c d)
  where
    go : (b : Bool) (x : Option (BTreeSet (String Global))) → has_text other (cond b o x) ≡ cond b (has_text other o) (has_text other x)
    go true x = refl
    go false x = refl

pub no_set : (t u : Watchers) (c d : ℕ) (other : List ℕ) → IsAtConnection t u c None → is_watching u d other ≡ cond (d == c) false (is_watching t d other)
unfolding has_text
no_set t u c d other h = set_paths t u c d None other h

-- one path of a connection
one_path_set : (t u : Watchers) (text : List ℕ) (c : ℕ) (ks ls : BTreeSet (String Global)) (b : Bool) → IsAtConnection t u c (Some ls)
    → ((other : List ℕ) → is_watching t c other ≡ contains_text ks other)
    → ((other : List ℕ) → contains_text ls other ≡ cond (bytes_eq text other) b (contains_text ks other))
    → (d : ℕ) (other : List ℕ) → is_watching u d other ≡ cond (d == c && bytes_eq text other) b (is_watching t d other)
unfolding has_text
one_path_set t u text c ks ls b h old new d other = set_paths t u c d (Some ls) other h ∙ go (d == c) refl
  where
    go : (e : Bool) → (d == c) ≡ e → cond e (contains_text ls other) (is_watching t d other) ≡ cond (e && bytes_eq text other) b (is_watching t d other)
    go true i = new other ∙ ap (cond (bytes_eq text other) b) (sym (subst (λ (z : ℕ). is_watching t z other ≡ contains_text ks other) (sym (eqb-true d c i)) (old other)))
    go false i = refl

or_so : (b x : Bool) → cond b true x ≡ (x || b)
or_so true true = refl
or_so true false = refl
or_so false true = refl
or_so false false = refl

pub and_so : (b x : Bool) → cond b false x ≡ (x && not b)
and_so true true = refl
and_so true false = refl
and_so false true = refl
and_so false false = refl

old_paths : (t : Watchers) (c : ℕ) (ks : BTreeSet (String Global)) → Some ks ≡ get nat_cmp t.by_connection c → (other : List ℕ) → is_watching t c other ≡ contains_text ks other
unfolding is_watching has_text
old_paths t c ks h other = ap (has_text other) (sym h)

no_paths : (t : Watchers) (c : ℕ) (ks : BTreeSet (String Global)) → None ≡ get nat_cmp t.by_connection c → ks.keys ≡ [] → (other : List ℕ) → is_watching t c other ≡ contains_text ks other
unfolding is_watching has_text
no_paths t c ks h e other = ap (has_text other) (sym h) ∙ sym (ap (list_any (is_at_text other)) e)

no_watch : (t : Watchers) (c : ℕ) → None ≡ get nat_cmp t.by_connection c → (other : List ℕ) → is_watching t c other ≡ false
unfolding is_watching has_text
no_watch t c h other = ap (has_text other) (sym h)

is_found : {X : Type 0} (x : X) (o : Option X) → Some x ≡ o → IsSome o
is_found x o h = subst (λ p. IsSome p) h (refl)

-- ---- the connections of a path

set_members : (t u : Watchers) (text other : List ℕ) (o : Option (BTreeSet ℕ)) → IsAtPath t u text o → watchers_of u other ≡ cond (bytes_eq text other) (members o) (watchers_of t other)
unfolding watchers_of
set_members t u text other o h = ap members (h other) ∙ go (bytes_eq text other) (get_by_text t.by_path other)
  where
    go : (b : Bool) (x : Option (BTreeSet ℕ)) → members (cond b o x) ≡ cond b (members o) (members x)
    go true x = refl
    go false x = refl

set_to : (t u : Watchers) (text other : List ℕ) (ls : BTreeSet ℕ) → IsAtPath t u text (Some ls) → watchers_of u other ≡ cond (bytes_eq text other) ls.keys (watchers_of t other)
unfolding members
set_to t u text other ls h = set_members t u text other (Some ls) h

pub set_gone : (t u : Watchers) (text other : List ℕ) → IsAtPath t u text None → watchers_of u other ≡ cond (bytes_eq text other) [] (watchers_of t other)
unfolding members
set_gone t u text other h = set_members t u text other None h

old_members : (t : Watchers) (text other : List ℕ) (ks : BTreeSet ℕ) → Some ks ≡ get_by_text t.by_path text → bytes_eq text other ≡ true → watchers_of t other ≡ ks.keys
unfolding watchers_of members
old_members t text other ks v h = ap (λ x. watchers_of t x) (sym ((bytes_eq-Decides text other).0 h)) ∙ ap members (sym v)

no_members : (t : Watchers) (text other : List ℕ) → None ≡ get_by_text t.by_path text → bytes_eq text other ≡ true → watchers_of t other ≡ []
unfolding watchers_of members
no_members t text other v h = ap (λ x. watchers_of t x) (sym ((bytes_eq-Decides text other).0 h)) ∙ ap members (sym v)

pub same_members : (t u : Watchers) (other : List ℕ) → u.by_path ≡ t.by_path → watchers_of u other ≡ watchers_of t other
unfolding watchers_of
same_members t u other f = ap (λ m. members (lookup (is_at_text other) m.entries)) f

pub has_alike : (c : ℕ) (cs : List ℕ) → list_any (is_at (nat_cmp c)) cs ≡ has c cs
has_alike c [] = refl
has_alike c (x ∷ cs) = ap (λ (b : Bool). b || list_any (is_at (nat_cmp c)) cs) (at_connection c x) ∙ ap (λ (b : Bool). (x == c) || b) (has_alike c cs)

removed_others : (c : ℕ) (cs : List ℕ) → list_any (is_at (nat_cmp c)) (remove_key (is_at (nat_cmp c)) cs) ≡ false → remove_key (is_at (nat_cmp c)) cs ≡ filter (is_other_connection c) cs
removed_others c [] h = refl
removed_others c (x ∷ cs) h =
    ap (λ (b : Bool). cond b cs (x ∷ remove_key (is_at (nat_cmp c)) cs)) (at_connection c x)
    ∙ go (x == c) (sym (ap (λ (b : Bool). list_any (is_at (nat_cmp c)) (cond b cs (x ∷ remove_key (is_at (nat_cmp c)) cs))) (at_connection c x)) ∙ h) (removed_others c cs)
  where
    go : (b : Bool) → list_any (is_at (nat_cmp c)) (cond b cs (x ∷ remove_key (is_at (nat_cmp c)) cs)) ≡ false
        → (list_any (is_at (nat_cmp c)) (remove_key (is_at (nat_cmp c)) cs) ≡ false → remove_key (is_at (nat_cmp c)) cs ≡ filter (is_other_connection c) cs)
        → cond b cs (x ∷ remove_key (is_at (nat_cmp c)) cs) ≡ cond (not b) (x ∷ filter (is_other_connection c) cs) (filter (is_other_connection c) cs)
    go true k ih = sym (nothing_less c cs (sym (has_alike c cs) ∙ k))
    go false k ih = ap (λ (ds : List ℕ). x ∷ ds) (ih (or_parts _ _ k).1)

-- a connection that was taken out once stands there no more
taken_out : (c : ℕ) (ks ls : List ℕ) → ls ≡ remove_key (is_at (nat_cmp c)) ks → list_any (is_at (nat_cmp c)) ls ≡ false → ls ≡ filter (is_other_connection c) ks
taken_out c ks ls e h = e ∙ removed_others c ks (sym (ap (list_any (is_at (nat_cmp c))) e) ∙ h)

-- ---- a path of a connection goes

pub path_out : (t u : Watchers) (text : List ℕ) (c : ℕ) (ks ls : BTreeSet (String Global)) → u.by_path ≡ t.by_path → Some ks ≡ get nat_cmp t.by_connection c
    → WritesThrough nat_cmp (nat_cmp c) t.by_connection ls u.by_connection → set.UpdatesBy string_cmp (λ k. slice_cmp nat_cmp text (string_bytes k)) ks ls false
    → IsPathOut t u text c
path_out t u text c ks ls e v w r = record {
  by_path = e;
  by_connection = λ d other.
      one_path_set t u text c ks ls false (w.3 (is_found ks _ v)).0 (old_paths t c ks v) (btree_set_updates_text text ks ls false r) d other
      ∙ and_so (d == c && bytes_eq text other) (is_watching t d other);
}

pub same_watching : (t u : Watchers) (d : ℕ) (other : List ℕ) → u.by_connection ≡ t.by_connection → is_watching u d other ≡ is_watching t d other
unfolding is_watching
same_watching t u d other f = ap (λ m. has_text other (get nat_cmp m d)) f

pub no_path_out : (t u : Watchers) (text : List ℕ) (c : ℕ) → u.by_path ≡ t.by_path → None ≡ get nat_cmp t.by_connection c → u.by_connection ≡ t.by_connection
    → IsPathOut t u text c
no_path_out t u text c e v f = record {
  by_path = e;
  by_connection = λ d other. same_watching t u d other f ∙ go d other (d == c) refl (bytes_eq text other);
}
  where
    plain : (b : Bool) → b ≡ (b && true)
    plain true = refl
    plain false = refl

    go : (d : ℕ) (other : List ℕ) (b : Bool) → (d == c) ≡ b → (s : Bool) → is_watching t d other ≡ (is_watching t d other && not (b && s))
    go d other true h s = none ∙ sym (ap (λ (b : Bool). b && not (true && s)) none)
      where
        none : is_watching t d other ≡ false
        none = subst (λ (z : ℕ). is_watching t z other ≡ false) (sym (eqb-true d c h)) (no_watch t c v other)
    go d other false h s = plain (is_watching t d other)

-- ---- a path of a connection comes

pub path_in : (t u : Watchers) (text : List ℕ) (c : ℕ) (ks ls : BTreeSet (String Global)) (key : String Global) → string_bytes key ≡ text → u.by_path ≡ t.by_path
    → Some ks ≡ get nat_cmp t.by_connection c → WritesThrough nat_cmp (nat_cmp c) t.by_connection ls u.by_connection → set.Updates string_cmp ks ls key true
    → IsPathIn t u text c
path_in t u text c ks ls key k e v w r = record {
  by_path = e;
  by_connection = λ d other.
      one_path_set t u text c ks ls true (w.3 (is_found ks _ v)).0 (old_paths t c ks v)
      (λ o. btree_set_updates_text (string_bytes key) ks ls true r o ∙ ap (λ (x : List ℕ). cond (bytes_eq x o) true (contains_text ks o)) k) d other
      ∙ or_so (d == c && bytes_eq text other) (is_watching t d other);
}

pub first_path_in : (t u : Watchers) (text : List ℕ) (c : ℕ) (ks ls : BTreeSet (String Global)) (key : String Global) → string_bytes key ≡ text → u.by_path ≡ t.by_path
    → None ≡ get nat_cmp t.by_connection c → ks.keys ≡ [] → Updates nat_cmp t.by_connection u.by_connection c (Some ls) → set.Updates string_cmp ks ls key true
    → IsPathIn t u text c
first_path_in t u text c ks ls key k e v n w r = record {
  by_path = e;
  by_connection = λ d other.
      one_path_set t u text c ks ls true w.0 (no_paths t c ks v n)
      (λ o. btree_set_updates_text (string_bytes key) ks ls true r o ∙ ap (λ (x : List ℕ). cond (bytes_eq x o) true (contains_text ks o)) k) d other
      ∙ or_so (d == c && bytes_eq text other) (is_watching t d other);
}

-- ---- nothing changes

pub seen_entries : (t u : Watchers) → u.by_path.entries ≡ t.by_path.entries → u.by_connection.entries ≡ t.by_connection.entries → IsSeenAs t u
unfolding watchers_of is_watching
seen_entries t u e f = record {
  by_path = λ text. ap (λ es. members (lookup (is_at_text text) es)) e;
  by_connection = λ d text. ap (λ es. has_text text (lookup (is_at (nat_cmp d)) es)) f;
}

-- a set is written again as it was
pub seen_paths : (t u : Watchers) (c : ℕ) (ks ls : BTreeSet (String Global)) → u.by_path ≡ t.by_path → Some ks ≡ get nat_cmp t.by_connection c
    → WritesThrough nat_cmp (nat_cmp c) t.by_connection ls u.by_connection → ls.keys ≡ ks.keys → IsSeenAs t u
unfolding watchers_of has_text
seen_paths t u c ks ls e v w k = record {
  by_path = λ text. ap (λ m. members (lookup (is_at_text text) m.entries)) e;
  by_connection = λ d other. set_paths t u c d (Some ls) other (w.3 (is_found ks _ v)).0 ∙ go d other (d == c) refl;
}
  where
    go : (d : ℕ) (other : List ℕ) (b : Bool) → (d == c) ≡ b → cond b (has_text other (Some ls)) (is_watching t d other) ≡ is_watching t d other
    go d other true h = ap (list_any (is_at_text other)) k ∙ sym (subst (λ (z : ℕ). is_watching t z other ≡ contains_text ks other) (sym (eqb-true d c h)) (old_paths t c ks v other))
    go d other false h = refl

pub seen_connections : (t u : Watchers) (text : List ℕ) (ks ls : BTreeSet ℕ) → u.by_connection ≡ t.by_connection → Some ks ≡ get_by_text t.by_path text
    → WritesThrough string_cmp (λ k. slice_cmp nat_cmp text (string_bytes k)) t.by_path ls u.by_path → ls.keys ≡ ks.keys → IsSeenAs t u
seen_connections t u text ks ls e v w k = record {
  by_path = λ other. set_to t u text other ls (btree_map_updates_text text t.by_path u.by_path (Some ls) (w.3 (is_found ks _ v))) ∙ go other (bytes_eq text other) refl;
  by_connection = λ d other. same_watching t u d other e;
}
  where
    go : (other : List ℕ) (b : Bool) → bytes_eq text other ≡ b → cond b ls.keys (watchers_of t other) ≡ watchers_of t other
    go other true h = k ∙ sym (old_members t text other ks v h)
    go other false h = refl

-- ---- a connection of a path goes

pub connection_out : (t u : Watchers) (text : List ℕ) (c : ℕ) (ks ls : BTreeSet ℕ) → u.by_connection ≡ t.by_connection → Some ks ≡ get_by_text t.by_path text
    → WritesThrough string_cmp (λ k. slice_cmp nat_cmp text (string_bytes k)) t.by_path ls u.by_path
    → set.UpdatesBy nat_cmp (nat_cmp c) ks ls false → ls.keys ≡ remove_key (is_at (nat_cmp c)) ks.keys
    → IsConnectionOut t u text c
connection_out t u text c ks ls e v w r k = record {
  by_path = λ other. set_to t u text other ls (btree_map_updates_text text t.by_path u.by_path (Some ls) (w.3 (is_found ks _ v))) ∙ go other (bytes_eq text other) refl;
  by_connection = e;
}
  where
    go : (other : List ℕ) (b : Bool) → bytes_eq text other ≡ b → cond b ls.keys (watchers_of t other) ≡ cond b (filter (is_other_connection c) (watchers_of t other)) (watchers_of t other)
    go other true h = taken_out c ks.keys ls.keys k r.1 ∙ ap (filter (is_other_connection c)) (sym (old_members t text other ks v h))
    go other false h = refl

no_keys : (cs : List ℕ) → length cs ≡ 0 → cs ≡ []
no_keys [] h = refl
no_keys (x ∷ cs) h = absurd cc

-- a set without a connection goes
pub last_out : (t u v : Watchers) (text : List ℕ) (c : ℕ) (ks ls : BTreeSet ℕ) → u.by_connection ≡ t.by_connection → Some ks ≡ get_by_text t.by_path text
    → WritesThrough string_cmp (λ k. slice_cmp nat_cmp text (string_bytes k)) t.by_path ls u.by_path
    → set.UpdatesBy nat_cmp (nat_cmp c) ks ls false → ls.keys ≡ remove_key (is_at (nat_cmp c)) ks.keys
    → v.by_connection ≡ u.by_connection → length ls.keys ≡ 0 → UpdatesBy string_cmp (λ k. slice_cmp nat_cmp text (string_bytes k)) u.by_path v.by_path None
    → IsConnectionOut t v text c
last_out t u v text c ks ls d f w r k e n s = record {
  by_path = λ other. set_gone u v text other (btree_map_updates_text text u.by_path v.by_path None s) ∙ go other (bytes_eq text other) refl ∙ out.by_path other;
  by_connection = e ∙ d;
}
  where
    out : IsConnectionOut t u text c
    out = connection_out t u text c ks ls d f w r k

    go : (other : List ℕ) (b : Bool) → bytes_eq text other ≡ b → cond b [] (watchers_of u other) ≡ watchers_of u other
    go other true h = sym (old_members u text other ls (sym (w.3 (is_found ks _ f)).1) h ∙ no_keys ls.keys n)
    go other false h = refl

pub no_connection_out : (t u : Watchers) (text : List ℕ) (c : ℕ) → u.by_connection ≡ t.by_connection → None ≡ get_by_text t.by_path text → u.by_path ≡ t.by_path
    → IsConnectionOut t u text c
no_connection_out t u text c e v f = record { by_path = λ other. same_members t u other f ∙ go other (bytes_eq text other) refl; by_connection = e }
  where
    go : (other : List ℕ) (b : Bool) → bytes_eq text other ≡ b → watchers_of t other ≡ cond b (filter (is_other_connection c) (watchers_of t other)) (watchers_of t other)
    go other true h = no_members t text other v h ∙ sym (ap (filter (is_other_connection c)) (no_members t text other v h))
    go other false h = refl

-- ---- a connection of a path comes

pub connection_in : (t u : Watchers) (text : List ℕ) (c : ℕ) (ks ls : BTreeSet ℕ) → u.by_connection ≡ t.by_connection → Some ks ≡ get_by_text t.by_path text
    → WritesThrough string_cmp (λ k. slice_cmp nat_cmp text (string_bytes k)) t.by_path ls u.by_path → ls.keys ≡ insert_key nat_cmp ks.keys c
    → IsConnectionIn t u text c
connection_in t u text c ks ls e v w k = record {
  by_path = λ other. set_to t u text other ls (btree_map_updates_text text t.by_path u.by_path (Some ls) (w.3 (is_found ks _ v))) ∙ go other (bytes_eq text other) refl;
  by_connection = e;
}
  where
    go : (other : List ℕ) (b : Bool) → bytes_eq text other ≡ b → cond b ls.keys (watchers_of t other) ≡ cond b (insert_key nat_cmp (watchers_of t other) c) (watchers_of t other)
    go other true h = k ∙ ap (λ (cs : List ℕ). insert_key nat_cmp cs c) (sym (old_members t text other ks v h))
    go other false h = refl

pub first_connection_in : (t u : Watchers) (text : List ℕ) (c : ℕ) (ks ls : BTreeSet ℕ) (key : String Global) → string_bytes key ≡ text → u.by_connection ≡ t.by_connection
    → None ≡ get_by_text t.by_path text → ks.keys ≡ [] → Updates string_cmp t.by_path u.by_path key (Some ls) → ls.keys ≡ insert_key nat_cmp ks.keys c
    → IsConnectionIn t u text c
first_connection_in t u text c ks ls key s e v n w k = record {
  by_path = λ other.
      set_to t u text other ls (λ o. btree_map_updates_text (string_bytes key) t.by_path u.by_path (Some ls) w o ∙ ap (λ (x : List ℕ). cond (bytes_eq x o) (Some ls) (get_by_text t.by_path o)) s) ∙ go other (bytes_eq text other) refl;
  by_connection = e;
}
  where
    go : (other : List ℕ) (b : Bool) → bytes_eq text other ≡ b → cond b ls.keys (watchers_of t other) ≡ cond b (insert_key nat_cmp (watchers_of t other) c) (watchers_of t other)
    go other true h = k ∙ ap (λ (cs : List ℕ). insert_key nat_cmp cs c) (n ∙ sym (no_members t text other v h))
    go other false h = refl

-- ---- ends by an error

pub on_err : {A E : Type 0} (r : Result A E) (P : Type 0) → P → OnErr r P
on_err (Ok a) P p = tt
on_err (Err e) P p = p
