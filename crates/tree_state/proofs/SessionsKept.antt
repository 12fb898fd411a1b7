-- What two maps keep of the sessions, from the start and where a session is heard.
use Rattle.std.proofs.Common.{◌≡◌, ℕ, ℤ, false, List, [], Some, None, All, BTreeMap, int_cmp, int_eq, nat_cmp, refl, sym, ap, ◌∙◌, subst}
use Rattle.std.specs.BTreeMap.{IsOrdered, IsUnchanged, WritesThrough, get}
use Rattle.std.specs.Map.{lookup}
use Rattle.std.proofs.lemmas.List.Elements.{All-nil}
use Rattle.tree_state.specs.declared.session.Session as code
use Rattle.tree_state.specs.declared.session.Sessions.{Sessions}
use Rattle.tree_state.specs.State.{Session, session_of, session_at, change_session, heard_at}
use Rattle.tree_state.specs.Sessions.{Keeps, Owning, OwnsPaths, OwnTexts, session_at_key}
use Rattle.tree_state.proofs.SessionLists.{AreDistinct, AreTied, nothing_changed}
use Rattle.tree_state.proofs.SessionMaps.{sessions_of, found, not_found, sorted_distinct, written, owns_found, owns_written}
use Rattle.tree_state.proofs.SessionTies.{is_connection, same_ties, stays}

abbrev pub Live : Type 0
Live = BTreeMap ℤ code.Session

abbrev pub Connections : Type 0
Connections = BTreeMap ℕ ℤ

-- the maps of the code, with other maps
abbrev pub with_maps : Live → Connections → Sessions
with_maps live connections = record { live = live; connections = connections }

pub on_key : (j : ℤ) (v : code.Session) (c : ℕ) → (session_at_key (j, v)).connection ≡ Some c → v.connection ≡ Some c
unfolding session_at_key
on_key j v c h = h

pub key_on : (j : ℤ) (v : code.Session) (c : ℕ) → v.connection ≡ Some c → (session_at_key (j, v)).connection ≡ Some c
unfolding session_at_key
key_on j v c h = h

-- ---- what is kept says of each session

pub kept_at : (t : Sessions) (xs : List Session) (owned : Owning) (k : ℤ) (v : code.Session) → Keeps t xs owned → get int_cmp t.live k ≡ Some v → session_at k xs ≡ Some (session_at_key (k, v))
kept_at t xs owned k v keeps h = subst (λ (ys : List Session). session_at k ys ≡ Some (session_at_key (k, v))) keeps.sessions (found k t.live.entries v h)

pub not_kept : (t : Sessions) (xs : List Session) (owned : Owning) (k : ℤ) → Keeps t xs owned → get int_cmp t.live k ≡ None → session_at k xs ≡ None
not_kept t xs owned k keeps h = subst (λ (ys : List Session). session_at k ys ≡ None) keeps.sessions (not_found k t.live.entries h)

pub kept_distinct : (t : Sessions) (xs : List Session) (owned : Owning) → Keeps t xs owned → IsOrdered int_cmp t.live → AreDistinct xs
kept_distinct t xs owned keeps order = subst AreDistinct keeps.sessions (sorted_distinct t.live.entries order)

-- what is kept in maps with the same entries
pub kept_same : (t : Sessions) (live : Live) (connections : Connections) (xs : List Session) (owned : Owning) → IsUnchanged t.live live
    → ((c : ℕ) → get nat_cmp connections c ≡ get nat_cmp t.connections c) → Keeps t xs owned → Keeps (with_maps live connections) xs owned
kept_same t live connections xs owned same others keeps = record {
  sessions = ap sessions_of same ∙ keeps.sessions;
  connections = λ c. others c ∙ keeps.connections c;
  one = keeps.one;
  owns = subst (λ es. All (OwnsPaths owned) es) (sym same) keeps.owns;
}

-- ---- a value is written, and the connection stays

pub rewritten : (t : Sessions) (live : Live) (k : ℤ) (f : Session → Session) (v w : code.Session) (xs : List Session) (owned after : Owning)
    → IsOrdered int_cmp t.live → get int_cmp t.live k ≡ Some v → WritesThrough int_cmp (int_cmp k) t.live w live
    → session_at_key (k, w) ≡ f (session_at_key (k, v))
    → ((x : Session) → (f x).number ≡ x.number) → ((x : Session) → (f x).connection ≡ x.connection)
    → ((j : ℤ) → int_eq j k ≡ false → after j ≡ owned j) → OwnTexts w.ephemerals.items (after k)
    → Keeps t xs owned → Keeps (with_maps live t.connections) (change_session k f xs) after
rewritten t live k f v w xs owned after order h writes value numbers connections same own keeps = record {
  sessions = now;
  connections = ties.same;
  one = ties.one;
  owns = subst (λ es. All (OwnsPaths after) es) (sym writes.0) (owns_written k owned after t.live.entries w distinct same own keeps.owns);
}
  where
    distinct : AreDistinct (sessions_of t.live.entries)
    distinct = sorted_distinct t.live.entries order

    now : sessions_of live.entries ≡ change_session k f xs
    now = ap sessions_of writes.0 ∙ written k f t.live.entries v w distinct h value ∙ ap (change_session k f) keeps.sessions

    ties : AreTied (get nat_cmp t.connections) (change_session k f xs)
    ties = same_ties (get nat_cmp t.connections) k f xs (kept_distinct t xs owned keeps order) (subst AreDistinct now (sorted_distinct live.entries writes.4))
        numbers connections (record { same = keeps.connections; one = keeps.one })

-- ---- new

pub none_kept : (t : Sessions) (owned : Owning) → t.live.entries ≡ [] → t.connections.entries ≡ [] → Keeps t [] owned
unfolding session_of session_at
none_kept t owned live connections = record {
  sessions = ap sessions_of live;
  connections = λ c. ap (lookup (is_connection c)) connections;
  one = λ c x session h. absurd cc;
  owns = subst (λ es. All (OwnsPaths owned) es) (sym live) (All-nil (OwnsPaths owned));
}

-- ---- hear (j is a number as the code has it, and k the same in the clause)

pub heard : (t : Sessions) (live : Live) (j k now : ℤ) (v w : code.Session) (xs : List Session) (owned : Owning) → j ≡ k
    → IsOrdered int_cmp t.live → Some v ≡ get int_cmp t.live j → WritesThrough int_cmp (int_cmp j) t.live w live → w ≡ record v { heard = now }
    → Keeps t xs owned → Keeps (with_maps live t.connections) (change_session k (heard_at now) xs) owned
unfolding heard_at session_at_key
heard t live j k now v w xs owned same order h writes value keeps =
    subst (λ (z : ℤ). Keeps (with_maps live t.connections) (change_session z (heard_at now) xs) owned) same
    (rewritten t live j (heard_at now) v w xs owned owned order (sym h) writes (ap (λ (u : code.Session). session_at_key (j, u)) value) (λ _. refl) (λ _. refl) (λ _ _. refl)
    (subst (λ (u : code.Session). OwnTexts u.ephemerals.items (owned j)) (sym value) (owns_found j owned t.live.entries v (sym h) keeps.owns)) keeps)

pub not_heard : (t : Sessions) (live : Live) (j k : ℤ) (f : Session → Session) (xs : List Session) (owned : Owning) → j ≡ k
    → None ≡ get int_cmp t.live j → live ≡ t.live → Keeps t xs owned → Keeps (with_maps live t.connections) (change_session k f xs) owned
not_heard t live j k f xs owned same h stays keeps =
    subst (λ (ys : List Session). Keeps (with_maps live t.connections) ys owned)
    (sym (nothing_changed j f xs (not_kept t xs owned j keeps (sym h))) ∙ ap (λ (z : ℤ). change_session z f xs) same)
    (kept_same t live t.connections xs owned (ap (λ (m : Live). m.entries) stays) (λ _. refl) keeps)

-- a session that is live is found
pub must_be_found : (t : Sessions) (j k : ℤ) (x : Session) (xs : List Session) (owned : Owning) → j ≡ k → None ≡ get int_cmp t.live j → Keeps t xs owned → session_at k xs ≡ Some x → ⊥
must_be_found t j k x xs owned same h keeps live =
    let n = not_kept t xs owned j keeps (sym h) in
    let m : session_at k xs ≡ None = subst (λ (z : ℤ). session_at z xs ≡ None) same n in cc
