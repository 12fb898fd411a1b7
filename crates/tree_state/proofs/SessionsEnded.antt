-- What two maps keep where a connection is lost, or a session ends.
use Rattle.std.proofs.Common.{◌≡◌, ℕ, ℤ, List, map, Option, Some, None, All, int_cmp, nat_cmp, refl, sym, ap, ◌∙◌, subst, inl, inr}
use Rattle.std.specs.BTreeMap.{IsOrdered, IsUnchanged, Updates, WritesThrough, get}
use Rattle.std.specs.Map.{lookup, remove_entry}
use Rattle.std.specs.Option.{option_map}
use Rattle.std.proofs.lemmas.Bool.{cases_Bool}
use Rattle.tree_state.specs.declared.session.Session as code
use Rattle.tree_state.specs.declared.session.Sessions.{Sessions}
use Rattle.tree_state.specs.State.{Session, has_connection, session_of, session_at, is_numbered, changed_session, change_session, without_session, without_connection}
use Rattle.tree_state.specs.Step.{connection_at}
use Rattle.tree_state.specs.Sessions.{Keeps, Owning, OwnsPaths, OwnTexts, live_of, session_at_key}
use Rattle.tree_state.proofs.SessionLists.{AreDistinct, AreTied, has_its, is_on, all_live, same_all, nothing_lost, nothing_gone}
use Rattle.tree_state.proofs.SessionMaps.{is_key, sessions_of, sorted_distinct, written, removed, distinct_before, owns_found, owns_removed, owns_written}
use Rattle.tree_state.proofs.SessionTies.{is_connection, same_connection, other_session, lost_ties, ended_ties, changed_yes, changed_no, stays, loses}
use Rattle.tree_state.proofs.SessionsKept.{Live, Connections, with_maps, on_key, key_on, kept_at, not_kept, kept_distinct, kept_same, must_be_found}

lose_of : (j : ℤ) (d : ℕ) (v w : code.Session) → v.connection ≡ Some d → w ≡ record v { connection = None } → session_at_key (j, w) ≡ without_connection d (session_at_key (j, v))
unfolding session_at_key
lose_of j d v w on h = ap (λ (u : code.Session). session_at_key (j, u)) h ∙ sym (loses d (session_at_key (j, v)) (key_on j v d on))

change_all : (k : ℤ) (f : Session → Session) (xs : List Session) → All (λ x. changed_session k f x ≡ f x) xs → change_session k f xs ≡ map f xs
unfolding change_session
change_all k f xs h = same_all (changed_session k f) f xs h

-- ---- lose

pub lost : (t : Sessions) (live : Live) (connections : Connections) (d : ℕ) (j m : ℤ) (v w : code.Session) (xs : List Session) (owned : Owning)
    → Some m ≡ get nat_cmp t.connections d → j ≡ m → IsOrdered int_cmp t.live → Some v ≡ get int_cmp t.live j → WritesThrough int_cmp (int_cmp j) t.live w live
    → w ≡ record v { connection = None } → Updates nat_cmp t.connections connections d None → Keeps t xs owned
    → Keeps (with_maps live connections) (map (without_connection d) xs) owned
lost t live connections d j m v w xs owned has same order h writes value takes keeps = record {
  sessions = sessions;
  connections = ties.same;
  one = ties.one;
  owns = subst (λ es. All (OwnsPaths owned) es) (sym writes.0) (owns_written j owned owned t.live.entries w (sorted_distinct t.live.entries order) (λ _ _. refl)
      (subst (λ (u : code.Session). OwnTexts u.ephemerals.items (owned j)) (sym value) (owns_found j owned t.live.entries v (sym h) keeps.owns)) keeps.owns);
}
  where
    distinct : AreDistinct xs
    distinct = kept_distinct t xs owned keeps order

    its : session_of d xs ≡ Some j
    its = sym (keeps.connections d) ∙ sym has ∙ ap Some (sym same)

    on : v.connection ≡ Some d
    on = let r = is_on d j xs distinct its in let l = kept_at t xs owned j v keeps (sym h) in let e : session_at_key (j, v) ≡ r.session = (let m = r.live in cc) in
        on_key j v d (ap (λ (y : Session). y.connection) e ∙ r.on)

    alike : (k : ℤ) (x : Session) → session_at k xs ≡ Some x → changed_session j (without_connection d) x ≡ without_connection d x
    alike k x l = elim (cases_Bool (is_numbered j x)) [
      | inl numbered ↦ changed_yes j (without_connection d) x numbered
      | inr other ↦ changed_no j (without_connection d) x other ∙ sym (stays d x (elim (cases_Bool (has_connection d x)) [
        | inl here ↦ let i = keeps.one d x k l (has_its d x here) in let e = its in let n : k ≡ j = cc in absurd (other_session j k xs x l other n)
        | inr off ↦ off
      ]))
    ]

    sessions : sessions_of live.entries ≡ map (without_connection d) xs
    sessions =
        ap sessions_of writes.0 ∙ written j (without_connection d) t.live.entries v w (sorted_distinct t.live.entries order) (sym h) (lose_of j d v w on value)
        ∙ ap (change_session j (without_connection d)) keeps.sessions
        ∙ change_all j (without_connection d) xs (all_live (λ x. changed_session j (without_connection d) x ≡ without_connection d x) xs distinct alike)

    ties : AreTied (get nat_cmp connections) (map (without_connection d) xs)
    ties = lost_ties (get nat_cmp connections) d xs distinct (subst AreDistinct sessions (sorted_distinct live.entries writes.4)) keeps.one
        takes.1 (λ c e. takes.2 c e ∙ keeps.connections c)

-- the connection had no session
pub nothing_to_lose : (t : Sessions) (live : Live) (connections : Connections) (d : ℕ) (xs : List Session) (owned : Owning)
    → IsUnchanged t.live live → None ≡ get nat_cmp t.connections d → IsUnchanged t.connections connections → Keeps t xs owned
    → Keeps (with_maps live connections) (map (without_connection d) xs) owned
nothing_to_lose t live connections d xs owned stays none same keeps =
    subst (λ (ys : List Session). Keeps (with_maps live connections) ys owned) (sym (nothing_lost d xs (sym (keeps.connections d) ∙ sym none)))
    (kept_same t live connections xs owned stays (λ c. ap (lookup (is_connection c)) same) keeps)

-- the session of a connection is live
pub must_be_live : (t : Sessions) (d : ℕ) (j m : ℤ) (xs : List Session) (owned : Owning) → Some m ≡ get nat_cmp t.connections d → j ≡ m
    → IsOrdered int_cmp t.live → None ≡ get int_cmp t.live j → Keeps t xs owned → ⊥
must_be_live t d j m xs owned has same order h keeps =
    let r = is_on d j xs (kept_distinct t xs owned keeps order) (sym (keeps.connections d) ∙ sym has ∙ ap Some (sym same)) in
    must_be_found t j j r.session xs owned refl h keeps r.live

-- ---- end

-- what the map has of connections, once the one of a session that ends has none
pub record HasEnded (g : ℕ → Option ℤ) (old : Option ℕ) (xs : List Session) : Type 0 where
  pub none : (c : ℕ) → old ≡ Some c → g c ≡ None
  pub others : (c : ℕ) → (old ≡ Some c → ⊥) → g c ≡ session_of c xs

pub ended : (t : Sessions) (live : Live) (connections : Connections) (j k : ℤ) (v : code.Session) (xs : List Session) (owned : Owning) → j ≡ k
    → Some v ≡ get int_cmp t.live j → live.entries ≡ remove_entry (is_key j) t.live.entries → get int_cmp live j ≡ None → IsOrdered int_cmp live
    → HasEnded (get nat_cmp connections) v.connection xs → Keeps t xs owned
    → Keeps (with_maps live connections) (without_session k xs) owned
ended t live connections j k v xs owned same h removes none order has keeps =
    subst (λ (z : ℤ). Keeps (with_maps live connections) (without_session z xs) owned) same (record {
      sessions = sessions;
      connections = ties.same;
      one = ties.one;
      owns = subst (λ es. All (OwnsPaths owned) es) (sym removes) (owns_removed j owned t.live.entries keeps.owns);
    })
  where
    gone : lookup (is_key j) (remove_entry (is_key j) t.live.entries) ≡ None
    gone = subst (λ es. lookup (is_key j) es ≡ None) removes none

    sessions : sessions_of live.entries ≡ without_session j xs
    sessions = ap sessions_of removes ∙ removed j t.live.entries gone ∙ ap (without_session j) keeps.sessions

    after : AreDistinct (sessions_of live.entries)
    after = sorted_distinct live.entries order

    before : AreDistinct xs
    before = subst AreDistinct keeps.sessions (distinct_before j t.live.entries gone (subst (λ es. AreDistinct (sessions_of es)) removes after))

    ties : AreTied (get nat_cmp connections) (without_session j xs)
    ties = ended_ties (get nat_cmp connections) j (session_at_key (j, v)) xs before (subst AreDistinct sessions after) keeps.one
        (kept_at t xs owned j v keeps (sym h)) (λ c e. has.none c (on_key j v c e)) (λ c n. has.others c (λ o. n (key_on j v c o)))

-- it had a connection
pub ended_on : (t : Sessions) (connections : Connections) (b : ℕ) (v : code.Session) (xs : List Session) (owned : Owning)
    → v.connection ≡ Some b → Updates nat_cmp t.connections connections b None → Keeps t xs owned → HasEnded (get nat_cmp connections) v.connection xs
ended_on t connections b v xs owned on takes keeps = record {
  none = λ c e. let s : b ≡ c = cc in subst (λ (z : ℕ). get nat_cmp connections z ≡ None) s takes.1;
  others = λ c n. takes.2 c (elim (cases_Bool (is_connection b c)) [ inl same ↦ absurd (n (on ∙ ap Some (same_connection b c same))) | inr else ↦ else ]) ∙ keeps.connections c;
}

-- it had none
pub ended_off : (t : Sessions) (v : code.Session) (xs : List Session) (owned : Owning)
    → v.connection ≡ None → Keeps t xs owned → HasEnded (get nat_cmp t.connections) v.connection xs
ended_off t v xs owned off keeps = record { none = λ c e. absurd cc; others = λ c n. keeps.connections c }

-- there is no such session
pub nothing_ends : (t : Sessions) (live : Live) (j k : ℤ) (xs : List Session) (owned : Owning) → j ≡ k
    → None ≡ get int_cmp t.live j → IsUnchanged t.live live → Keeps t xs owned → Keeps (with_maps live t.connections) (without_session k xs) owned
nothing_ends t live j k xs owned same h stays keeps =
    subst (λ (ys : List Session). Keeps (with_maps live t.connections) ys owned)
    (sym (nothing_gone j xs (not_kept t xs owned j keeps (sym h))) ∙ ap (λ (z : ℤ). without_session z xs) same)
    (kept_same t live t.connections xs owned stays (λ _. refl) keeps)

-- the paths that a session had
pub ended_paths : (t : Sessions) (j k : ℤ) (v : code.Session) (xs : List Session) (owned : Owning) → j ≡ k
    → Some v ≡ get int_cmp t.live j → Keeps t xs owned → OwnTexts v.ephemerals.items (owned k)
ended_paths t j k v xs owned same h keeps = subst (λ (z : ℤ). OwnTexts v.ephemerals.items (owned z)) same (owns_found j owned t.live.entries v (sym h) keeps.owns)

-- ---- the connection of a session

pub connection_so : (t : Sessions) (j k : ℤ) (v : code.Session) (xs : List Session) (owned : Owning) → j ≡ k → Some v ≡ get int_cmp t.live j → Keeps t xs owned
    → v.connection ≡ connection_at (session_at k xs)
unfolding session_at_key connection_at
connection_so t j k v xs owned same h keeps =
    sym (ap connection_at (kept_at t xs owned j v keeps (sym h))) ∙ ap (λ (z : ℤ). connection_at (session_at z xs)) same

pub no_connection : (t : Sessions) (j k : ℤ) (xs : List Session) (owned : Owning) → j ≡ k → None ≡ get int_cmp t.live j → Keeps t xs owned
    → None ≡ connection_at (session_at k xs)
unfolding connection_at
no_connection t j k xs owned same h keeps =
    sym (ap connection_at (not_kept t xs owned j keeps (sym h))) ∙ ap (λ (z : ℤ). connection_at (session_at z xs)) same

pub live_so : (t : Sessions) (j k : ℤ) (v : code.Session) (timeout heard : ℤ) (xs : List Session) (owned : Owning) → j ≡ k → timeout ≡ v.timeout → heard ≡ v.heard → Some v ≡ get int_cmp t.live j → Keeps t xs owned
    → Some (record { timeout = timeout; heard = heard; connection = v.connection }) ≡ option_map live_of (session_at k xs)
unfolding session_at_key live_of
live_so t j k v timeout heard xs owned same e f h keeps =
    let shown : Some (record { timeout = timeout; heard = heard; connection = v.connection }) ≡ option_map live_of (session_at j xs) =
    rw (e, f) (sym (ap (option_map live_of) (kept_at t xs owned j v keeps (sym h)))) in
    shown ∙ ap (λ (z : ℤ). option_map live_of (session_at z xs)) same

pub not_live : (t : Sessions) (j k : ℤ) (xs : List Session) (owned : Owning) → j ≡ k → None ≡ get int_cmp t.live j → Keeps t xs owned
    → None ≡ option_map live_of (session_at k xs)
not_live t j k xs owned same h keeps =
    sym (ap (option_map live_of) (not_kept t xs owned j keeps (sym h))) ∙ ap (λ (z : ℤ). option_map live_of (session_at z xs)) same
