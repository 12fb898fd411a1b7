-- The entries of a map of sessions, and the list of sessions that they are.
use Rattle.std.proofs.Common.{◌≡◌, ℕ, ℤ, Bool, true, false, cond, not, filter, bytes_eq, List, [], ◌∷◌, ◌++◌, map, Some, None, Ordering, Less, Greater, int_cmp, int_eq, is_eq, All, ◌<ℤ◌, refl, sym, ap, ap₂, ◌∙◌, subst, subst₂}
use Rattle.std.specs.BTreeMap.{insert_entry, is_at}
use Rattle.std.specs.Cmp.{int_eq_equiv, int_cmp_is}
use Rattle.std.specs.List.{AllByRecursion, AllZip}
use Rattle.std.specs.List.Sorted.{IsStrictlySortedBy}
use Rattle.std.specs.Map.{keys_of, lookup, set_value, remove_entry}
use Rattle.std.specs.Option.{option_map}
use Rattle.std.specs.String.{string_bytes}
use Rattle.std.specs.Prelude.{String}
use Rattle.std.specs.Global.{Global}
use Rattle.zk_path.specs.Paths.{text_of, IsTextOf}
use Rattle.std.proofs.lemmas.Slice.Eq.{bytes_eq-Decides}
use Rattle.std.proofs.lemmas.Bool.{both_ways}
use Rattle.zk_path.proofs.Judged.{one_text}
use Rattle.std.specs.Ordering.{match_ordering}
use Rattle.std.proofs.lemmas.List.Elements.{All-cons, All-head, All-nil, All-tail}
use Rattle.std.proofs.lemmas.Map.Keys.{sorted_head, sorted_tail}
use Rattle.tree_state.specs.declared.session.Session as code
use Rattle.tree_state.specs.Nodes.{Path, same_path}
use Rattle.tree_state.specs.State.{Session, is_numbered, session_at, changed_session, change_session, is_other_session, without_session}
use Rattle.tree_state.specs.Sessions.{Owning, OwnsPaths, OwnTexts, AreBelow, is_other_text, session_at_key}
use Rattle.tree_state.proofs.SamePaths.{same_path-refl, same_path-true}
use Rattle.tree_state.proofs.SessionLists.{AreDistinct, same_number, at_others, others_first, others_next, nothing_changed, nothing_gone, at_without}

abbrev pub Entries : Type 0
Entries = List (ℤ × code.Session)

-- the sessions of the entries
abbrev pub sessions_of : Entries → List Session
sessions_of es = map session_at_key es

-- the test of a key for a number
abbrev pub is_key : ℤ → ℤ → Bool
is_key k = is_at (int_cmp k)

key_is : (k : ℤ) (e : ℤ × code.Session) → is_numbered k (session_at_key e) ≡ is_key k e.0
unfolding is_numbered session_at_key
key_is k e = int_eq_equiv.symm e.0 k

-- a session is found by its key
pub at_key : (k : ℤ) (es : Entries) → session_at k (sessions_of es) ≡ option_map (λ (v : code.Session). session_at_key (k, v)) (lookup (is_key k) es)
unfolding session_at session_at_key
at_key k [] = refl
at_key k (e ∷ es) = ap (λ (b : Bool). cond b (Some (session_at_key e)) (session_at k (sessions_of es))) (key_is k e) ∙ go (is_key k e.0) refl (at_key k es)
  where
    go : (b : Bool) → is_key k e.0 ≡ b → session_at k (sessions_of es) ≡ option_map (λ (v : code.Session). session_at_key (k, v)) (lookup (is_key k) es)
        → cond b (Some (session_at_key e)) (session_at k (sessions_of es)) ≡ option_map (λ (v : code.Session). session_at_key (k, v)) (cond b (Some e.1) (lookup (is_key k) es))
    go true h ih = ap (λ (z : ℤ). Some (session_at_key (z, e.1))) (sym (same_number k e.0 h))
    go false h ih = ih

pub found : (k : ℤ) (es : Entries) (v : code.Session) → lookup (is_key k) es ≡ Some v → session_at k (sessions_of es) ≡ Some (session_at_key (k, v))
found k es v h = at_key k es ∙ ap (option_map (λ (v : code.Session). session_at_key (k, v))) h

pub not_found : (k : ℤ) (es : Entries) → lookup (is_key k) es ≡ None → session_at k (sessions_of es) ≡ None
not_found k es h = at_key k es ∙ ap (option_map (λ (v : code.Session). session_at_key (k, v))) h

-- ---- keys in order are distinct numbers

above_first : (k : ℤ) (es : Entries) → AllByRecursion (λ y. int_cmp k y ≡ Less) (keys_of es) → session_at k (sessions_of es) ≡ None
unfolding session_at
above_first k [] h = refl
above_first k (e ∷ es) h = at_others k (session_at_key e) (sessions_of es) (key_is k e ∙ ap is_eq h.0) ∙ above_first k es h.1

pub sorted_distinct : (es : Entries) → IsStrictlySortedBy int_cmp (keys_of es) → AreDistinct (sessions_of es)
unfolding AreDistinct session_at_key
sorted_distinct [] h = tt
sorted_distinct (e ∷ es) h = (above_first e.0 es (sorted_head int_cmp e.0 (keys_of es) h), sorted_distinct es (sorted_tail int_cmp e.0 (keys_of es) h))

-- ---- a value is written

pub written : (k : ℤ) (f : Session → Session) (es : Entries) (v w : code.Session) → AreDistinct (sessions_of es)
    → lookup (is_key k) es ≡ Some v → session_at_key (k, w) ≡ f (session_at_key (k, v))
    → sessions_of (set_value (is_key k) es w) ≡ change_session k f (sessions_of es)
unfolding change_session changed_session AreDistinct session_at_key
written k f [] v w d h s = absurd cc
written k f (e ∷ es) v w d h s =
    go (is_key k e.0) refl h (written k f es v w d.1) ∙ ap (λ (b : Bool). cond b (f (session_at_key e)) (session_at_key e) ∷ change_session k f (sessions_of es)) (sym (key_is k e))
  where
    go : (b : Bool) → is_key k e.0 ≡ b → cond b (Some e.1) (lookup (is_key k) es) ≡ Some v
        → (lookup (is_key k) es ≡ Some v → session_at_key (k, w) ≡ f (session_at_key (k, v)) → sessions_of (set_value (is_key k) es w) ≡ change_session k f (sessions_of es))
        → sessions_of (cond b ((e.0, w) ∷ es) (e ∷ set_value (is_key k) es w)) ≡ cond b (f (session_at_key e)) (session_at_key e) ∷ change_session k f (sessions_of es)
    go true t h ih =
        let n = same_number k e.0 t in
        let o : e.1 ≡ v = cc in
        let here : session_at_key (e.0, w) ≡ f (session_at_key e) =
        ap (λ (z : ℤ). session_at_key (z, w)) (sym n) ∙ s ∙ ap₂ (λ (z : ℤ) (u : code.Session). f (session_at_key (z, u))) n (sym o) in
        let alone : session_at k (sessions_of es) ≡ None = subst (λ (z : ℤ). session_at z (sessions_of es) ≡ None) (sym n) d.0 in
        ap₂ (λ (x : Session) (xs : List Session). x ∷ xs) here (sym (nothing_changed k f (sessions_of es) alone))
    go false t h ih = ap (λ (xs : List Session). session_at_key e ∷ xs) (ih h s)

-- ---- an entry is removed

pub removed : (k : ℤ) (es : Entries) → lookup (is_key k) (remove_entry (is_key k) es) ≡ None
    → sessions_of (remove_entry (is_key k) es) ≡ without_session k (sessions_of es)
unfolding without_session is_other_session
removed k [] h = refl
removed k (e ∷ es) h =
    go (is_key k e.0) refl h (removed k es) ∙ ap (λ (b : Bool). cond (not b) (session_at_key e ∷ without_session k (sessions_of es)) (without_session k (sessions_of es))) (sym (key_is k e))
  where
    go : (b : Bool) → is_key k e.0 ≡ b → lookup (is_key k) (cond b es (e ∷ remove_entry (is_key k) es)) ≡ None
        → (lookup (is_key k) (remove_entry (is_key k) es) ≡ None → sessions_of (remove_entry (is_key k) es) ≡ without_session k (sessions_of es))
        → sessions_of (cond b es (e ∷ remove_entry (is_key k) es)) ≡ cond (not b) (session_at_key e ∷ without_session k (sessions_of es)) (without_session k (sessions_of es))
    go true t h ih = sym (nothing_gone k (sessions_of es) (not_found k es h))
    go false t h ih = ap (λ (xs : List Session). session_at_key e ∷ xs) (ih (sym (ap (λ (b : Bool). cond b (Some e.1) (lookup (is_key k) (remove_entry (is_key k) es))) t) ∙ h))

-- before a removal no number stood twice, where none does so after it
pub distinct_before : (k : ℤ) (es : Entries) → lookup (is_key k) (remove_entry (is_key k) es) ≡ None
    → AreDistinct (sessions_of (remove_entry (is_key k) es)) → AreDistinct (sessions_of es)
unfolding AreDistinct session_at_key
distinct_before k [] h d = tt
distinct_before k (e ∷ es) h d = go (is_key k e.0) refl h d (distinct_before k es)
  where
    go : (b : Bool) → is_key k e.0 ≡ b → lookup (is_key k) (cond b es (e ∷ remove_entry (is_key k) es)) ≡ None
        → AreDistinct (sessions_of (cond b es (e ∷ remove_entry (is_key k) es)))
        → (lookup (is_key k) (remove_entry (is_key k) es) ≡ None → AreDistinct (sessions_of (remove_entry (is_key k) es)) → AreDistinct (sessions_of es))
        → (session_at e.0 (sessions_of es) ≡ None) × AreDistinct (sessions_of es)
    go true t h d ih = (subst (λ (z : ℤ). session_at z (sessions_of es) ≡ None) (same_number k e.0 t) (not_found k es h), d)
    go false t h d ih =
        let m = sym (ap (λ (b : Bool). cond b (Some e.1) (lookup (is_key k) (remove_entry (is_key k) es))) t) ∙ h in
        let other = at_without k e.0 (sessions_of es) (int_eq_equiv.symm e.0 k ∙ t) in
        (sym other ∙ (subst (λ (xs : List Session). session_at e.0 xs ≡ None) (removed k es m) d.0), ih m d.1)

-- ---- a new entry goes to the end

pub inserted : (k : ℤ) (es : Entries) (v : code.Session) → AreBelow k (sessions_of es) → insert_entry int_cmp es k v ≡ es ++ (k, v) ∷ []
unfolding session_at_key
inserted k [] v h = refl
inserted k (e ∷ es) v h =
    ap (λ (o : Ordering). match_ordering o ((k, v) ∷ e ∷ es) ((e.0, v) ∷ es) (e ∷ insert_entry int_cmp es k v)) (sym (int_cmp_is k e.0 Greater (All-head (λ y. y.number <ℤ k) (session_at_key e) (sessions_of es) h)))
    ∙ ap (λ (fs : Entries). e ∷ fs) (inserted k es v (All-tail (λ y. y.number <ℤ k) (session_at_key e) (sessions_of es) h))

-- ---- the paths of ephemerals

-- of what a number owns that no session has, nothing is kept
pub owns_elsewhere : (k : ℤ) (owned after : Owning) (es : Entries) → session_at k (sessions_of es) ≡ None
    → ((j : ℤ) → int_eq j k ≡ false → after j ≡ owned j) → All (OwnsPaths owned) es → All (OwnsPaths after) es
unfolding is_numbered session_at_key
owns_elsewhere k owned after [] alone same h = All-nil (OwnsPaths after)
owns_elsewhere k owned after (e ∷ es) alone same h =
    All-cons (OwnsPaths after) e es
    (subst (λ (ps : List Path). OwnTexts e.1.ephemerals.items ps) (sym (same e.0 (others_first k (session_at_key e) (sessions_of es) alone))) (All-head (OwnsPaths owned) e es h))
    (owns_elsewhere k owned after es (others_next k (session_at_key e) (sessions_of es) alone) same (All-tail (OwnsPaths owned) e es h))

-- of a session that is found
pub owns_found : (k : ℤ) (owned : Owning) (es : Entries) (v : code.Session) → lookup (is_key k) es ≡ Some v → All (OwnsPaths owned) es → OwnTexts v.ephemerals.items (owned k)
owns_found k owned [] v h a = absurd cc
owns_found k owned (e ∷ es) v h a = go (is_key k e.0) refl h (λ m. owns_found k owned es v m (All-tail (OwnsPaths owned) e es a))
  where
    go : (b : Bool) → is_key k e.0 ≡ b → cond b (Some e.1) (lookup (is_key k) es) ≡ Some v → (lookup (is_key k) es ≡ Some v → OwnTexts v.ephemerals.items (owned k)) → OwnTexts v.ephemerals.items (owned k)
    go true t m ih =
        let o : e.1 ≡ v = cc in
        subst₂ (λ (z : ℤ) (u : code.Session). OwnTexts u.ephemerals.items (owned z)) (sym (same_number k e.0 t)) o (All-head (OwnsPaths owned) e es a)
    go false t m ih = ih m

pub owns_removed : (k : ℤ) (owned : Owning) (es : Entries) → All (OwnsPaths owned) es → All (OwnsPaths owned) (remove_entry (is_key k) es)
owns_removed k owned [] a = a
owns_removed k owned (e ∷ es) a = go (is_key k e.0) (owns_removed k owned es (All-tail (OwnsPaths owned) e es a))
  where
    go : (b : Bool) → All (OwnsPaths owned) (remove_entry (is_key k) es) → All (OwnsPaths owned) (cond b es (e ∷ remove_entry (is_key k) es))
    go true ih = All-tail (OwnsPaths owned) e es a
    go false ih = All-cons (OwnsPaths owned) e (remove_entry (is_key k) es) (All-head (OwnsPaths owned) e es a) ih

-- of a session that is written, they are as told, and of the others as before
pub owns_written : (k : ℤ) (owned after : Owning) (es : Entries) (w : code.Session) → AreDistinct (sessions_of es)
    → ((j : ℤ) → int_eq j k ≡ false → after j ≡ owned j) → OwnTexts w.ephemerals.items (after k)
    → All (OwnsPaths owned) es → All (OwnsPaths after) (set_value (is_key k) es w)
unfolding AreDistinct session_at_key
owns_written k owned after [] w d same own h = All-nil (OwnsPaths after)
owns_written k owned after (e ∷ es) w d same own h =
    go (is_key k e.0) refl (owns_written k owned after es w d.1 same own (All-tail (OwnsPaths owned) e es h))
  where
    go : (b : Bool) → is_key k e.0 ≡ b → All (OwnsPaths after) (set_value (is_key k) es w) → All (OwnsPaths after) (cond b ((e.0, w) ∷ es) (e ∷ set_value (is_key k) es w))
    go true t ih =
        let n = same_number k e.0 t in
        let alone : session_at k (sessions_of es) ≡ None = subst (λ (z : ℤ). session_at z (sessions_of es) ≡ None) (sym n) d.0 in
        All-cons (OwnsPaths after) (e.0, w) es (subst (λ (z : ℤ). OwnTexts w.ephemerals.items (after z)) n own) (owns_elsewhere k owned after es alone same (All-tail (OwnsPaths owned) e es h))
    go false t ih =
        All-cons (OwnsPaths after) e (set_value (is_key k) es w)
        (subst (λ (ps : List Path). OwnTexts e.1.ephemerals.items ps) (sym (same e.0 (int_eq_equiv.symm e.0 k ∙ t))) (All-head (OwnsPaths owned) e es h)) ih

-- no texts are those of no paths
pub owns_nothing : (texts : List (String Global)) (ps : List Path) → texts ≡ [] → ps ≡ [] → OwnTexts texts ps
unfolding OwnTexts
owns_nothing texts ps h k = subst₂ (λ (us : List (String Global)) (qs : List Path). AllZip IsTextOf (map string_bytes us) qs) (sym h) (sym k) tt

-- one more path and its text
pub owns_more : (texts after : List (String Global)) (ps : List Path) (text : String Global) (p : Path) → after ≡ texts ++ text ∷ []
    → IsTextOf (string_bytes text) p → OwnTexts texts ps → OwnTexts after (ps ++ p ∷ [])
unfolding OwnTexts
owns_more texts after ps text p more is h = subst (λ (us : List (String Global)). AllZip IsTextOf (map string_bytes us) (ps ++ p ∷ [])) (sym more) (go texts ps h)
  where
    go : (us : List (String Global)) (qs : List Path) → AllZip IsTextOf (map string_bytes us) qs → AllZip IsTextOf (map string_bytes (us ++ text ∷ [])) (qs ++ p ∷ [])
    go [] [] h = (is, tt)
    go [] (q ∷ qs) h = absurd h
    go (u ∷ us) [] h = absurd h
    go (u ∷ us) (q ∷ qs) h = (h.0, go us qs h.1)

-- the texts of two legal paths are the same exactly where the paths are
pub same_text : (text other : List ℕ) (p q : Path) → IsTextOf text p → IsTextOf other q → bytes_eq other text ≡ same_path q p
same_text text other p q h k = go (bytes_eq other text) refl (same_path q p) refl
  where
    go : (a : Bool) → bytes_eq other text ≡ a → (b : Bool) → same_path q p ≡ b → a ≡ b
    go true e true f = refl
    go true e false f =
        let s = (bytes_eq-Decides other text).0 e in
        let n = one_text q p k.legal h.legal (sym k.spelled ∙ s ∙ h.spelled) in
        absurd (both_ways _ f (subst (λ (r : Path). same_path q r ≡ true) n (same_path-refl q)))
    go false e true f =
        let n = same_path-true q p f in
        absurd (both_ways _ e ((bytes_eq-Decides other text).1 (k.spelled ∙ ap text_of n ∙ sym h.spelled)))
    go false e false f = refl

-- one path and its text go
pub owns_less : (texts after : List (String Global)) (ps : List Path) (text : List ℕ) (p : Path) → after ≡ filter (is_other_text text) texts
    → IsTextOf text p → OwnTexts texts ps → OwnTexts after (filter (λ q. not (same_path q p)) ps)
unfolding OwnTexts
owns_less texts after ps text p less is h = subst (λ (us : List (String Global)). AllZip IsTextOf (map string_bytes us) (filter (λ q. not (same_path q p)) ps)) (sym less) (go texts ps h)
  where
    either : (b : Bool) (u : String Global) (us : List (String Global)) (q : Path) (qs : List Path) → IsTextOf (string_bytes u) q → AllZip IsTextOf (map string_bytes us) qs
        → AllZip IsTextOf (map string_bytes (cond (not b) (u ∷ us) us)) (cond (not b) (q ∷ qs) qs)
    either true u us q qs k h = h
    either false u us q qs k h = (k, h)

    go : (us : List (String Global)) (qs : List Path) → AllZip IsTextOf (map string_bytes us) qs
        → AllZip IsTextOf (map string_bytes (filter (is_other_text text) us)) (filter (λ q. not (same_path q p)) qs)
    go [] [] h = tt
    go [] (q ∷ qs) h = absurd h
    go (u ∷ us) [] h = absurd h
    go (u ∷ us) (q ∷ qs) h =
        subst (λ (b : Bool). AllZip IsTextOf (map string_bytes (filter (is_other_text text) (u ∷ us))) (cond (not b) (q ∷ filter (λ r. not (same_path r p)) qs) (filter (λ r. not (same_path r p)) qs)))
        (same_text text (string_bytes u) p q is h.0)
        (either (bytes_eq (string_bytes u) text) u (filter (is_other_text text) us) q (filter (λ r. not (same_path r p)) qs) h.0 (go us qs h.1))
