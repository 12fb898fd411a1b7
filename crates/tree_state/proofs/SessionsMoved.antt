-- What two maps keep where a session is opened, or moves to another connection.
use Rattle.std.proofs.Common.{◌≡◌, ℕ, ℤ, false, List, [], ◌∷◌, ◌++◌, Option, Some, None, All, int_cmp, nat_cmp, refl, sym, ap, ap₂, ◌∙◌, subst, inl, inr}
use Rattle.std.specs.BTreeMap.{IsOrdered, Updates, WritesThrough, get, insert_entry}
use Rattle.std.proofs.lemmas.Bool.{cases_Bool}
use Rattle.std.proofs.lemmas.List.Elements.{All-push}
use Rattle.std.proofs.lemmas.List.{map-append}
use Rattle.tree_state.specs.declared.session.Given.{Given}
use Rattle.tree_state.specs.declared.session.Session as code
use Rattle.tree_state.specs.declared.session.Sessions.{Sessions}
use Rattle.tree_state.specs.State.{Session, session_of, change_session, moved_to}
use Rattle.tree_state.specs.Step.{with_session, with_moved}
use Rattle.tree_state.specs.Sessions.{Keeps, Owning, OwnsPaths, OwnTexts, AreBelow, session_at_key}
use Rattle.tree_state.proofs.SessionLists.{AreDistinct, AreTied, above_all}
use Rattle.tree_state.proofs.SessionMaps.{sessions_of, sorted_distinct, written, inserted, owns_found, owns_written, owns_nothing}
use Rattle.tree_state.proofs.SessionTies.{is_connection, same_connection, opened_ties, moved_ties}
use Rattle.tree_state.proofs.SessionsKept.{Live, Connections, with_maps, on_key, key_on, kept_at, kept_distinct}

opens : (given : Given) (now : ℤ) (d : ℕ) (s : code.Session) → s.timeout ≡ given.timeout → s.password ≡ given.password → s.heard ≡ now → s.connection ≡ Some d
    → session_at_key (given.session, s) ≡ record { number = given.session; timeout = given.timeout; password = given.password; heard = now; connection = Some d }
unfolding session_at_key
opens given now d s timeout password heard on = cc

move_of : (j timeout now : ℤ) (d : ℕ) (v w : code.Session) → w ≡ record v { timeout = timeout; heard = now; connection = Some d } → session_at_key (j, w) ≡ moved_to d timeout now (session_at_key (j, v))
unfolding session_at_key moved_to
move_of j timeout now d v w h = ap (λ (u : code.Session). session_at_key (j, u)) h

-- ---- open

pub opened : (t : Sessions) (live : Live) (connections : Connections) (given : Given) (now : ℤ) (d : ℕ) (j m : ℤ) (s : code.Session) (xs : List Session) (owned : Owning)
    → j ≡ given.session → m ≡ given.session
    → s.timeout ≡ given.timeout → s.password ≡ given.password → s.heard ≡ now → s.connection ≡ Some d → s.ephemerals.items ≡ []
    → IsOrdered int_cmp t.live → IsOrdered int_cmp live → live.entries ≡ insert_entry int_cmp t.live.entries j s
    → Updates nat_cmp t.connections connections d (Some m) → Keeps t xs owned
    → session_of d xs ≡ None → AreBelow given.session xs → owned given.session ≡ []
    → Keeps (with_maps live connections) (with_session given now d xs) owned
unfolding with_session
opened t live connections given now d j m s xs owned key value timeout password heard on none before after inserts updates keeps free below own = record {
  sessions = sessions;
  connections = ties.same;
  one = ties.one;
  owns = subst (λ es. All (OwnsPaths owned) es) (sym entries) (All-push (OwnsPaths owned) t.live.entries (given.session, s) keeps.owns (owns_nothing s.ephemerals.items (owned given.session) none own));
}
  where
    x : Session
    x = record { number = given.session; timeout = given.timeout; password = given.password; heard = now; connection = Some d }

    entries : live.entries ≡ t.live.entries ++ (given.session, s) ∷ []
    entries = inserts ∙ ap (λ (z : ℤ). insert_entry int_cmp t.live.entries z s) key ∙ inserted given.session t.live.entries s (subst (AreBelow given.session) (sym keeps.sessions) below)

    sessions : sessions_of live.entries ≡ xs ++ x ∷ []
    sessions = ap sessions_of entries ∙ map-append session_at_key t.live.entries ((given.session, s) ∷ []) ∙ ap₂ (λ (ys : List Session) (y : Session). ys ++ y ∷ []) keeps.sessions (opens given now d s timeout password heard on)

    ties : AreTied (get nat_cmp connections) (xs ++ x ∷ [])
    ties = opened_ties (get nat_cmp connections) d x xs (kept_distinct t xs owned keeps before) (subst AreDistinct sessions (sorted_distinct live.entries after)) keeps.one
        (above_all given.session xs below) free refl (updates.1 ∙ ap Some value) (λ c h. updates.2 c h ∙ keeps.connections c)

-- ---- move_to

-- what the map has of connections, once the session is on another
pub record HasMoved (g : ℕ → Option ℤ) (k : ℤ) (d : ℕ) (old : Option ℕ) (xs : List Session) : Type 0 where
  pub new : g d ≡ Some k
  pub none : (c : ℕ) → old ≡ Some c → g c ≡ None
  pub others : (c : ℕ) → is_connection d c ≡ false → (old ≡ Some c → ⊥) → g c ≡ session_of c xs

pub moved : (t : Sessions) (live : Live) (connections : Connections) (given : Given) (now : ℤ) (d : ℕ) (j : ℤ) (v w : code.Session) (xs : List Session) (owned : Owning)
    → j ≡ given.session → IsOrdered int_cmp t.live → Some v ≡ get int_cmp t.live j → WritesThrough int_cmp (int_cmp j) t.live w live
    → w ≡ record v { timeout = given.timeout; heard = now; connection = Some d }
    → HasMoved (get nat_cmp connections) given.session d v.connection xs → Keeps t xs owned → session_of d xs ≡ None
    → Keeps (with_maps live connections) (with_moved given now d xs) owned
unfolding with_moved
moved t live connections given now d j v w xs owned key order h writes value has keeps free =
    subst (λ (z : ℤ). Keeps (with_maps live connections) (change_session z (moved_to d given.timeout now) xs) owned) key (record {
      sessions = sessions;
      connections = ties.same;
      one = ties.one;
      owns = subst (λ es. All (OwnsPaths owned) es) (sym writes.0) (owns_written j owned owned t.live.entries w distinct (λ _ _. refl)
          (subst (λ (u : code.Session). OwnTexts u.ephemerals.items (owned j)) (sym value) (owns_found j owned t.live.entries v (sym h) keeps.owns)) keeps.owns);
    })
  where
    distinct : AreDistinct (sessions_of t.live.entries)
    distinct = sorted_distinct t.live.entries order

    sessions : sessions_of live.entries ≡ change_session j (moved_to d given.timeout now) xs
    sessions = ap sessions_of writes.0 ∙ written j (moved_to d given.timeout now) t.live.entries v w distinct (sym h) (move_of j given.timeout now d v w value) ∙ ap (change_session j (moved_to d given.timeout now)) keeps.sessions

    ties : AreTied (get nat_cmp connections) (change_session j (moved_to d given.timeout now) xs)
    ties = moved_ties (get nat_cmp connections) j d given.timeout now (session_at_key (j, v)) xs (kept_distinct t xs owned keeps order) (subst AreDistinct sessions (sorted_distinct live.entries writes.4)) keeps.one
        (kept_at t xs owned j v keeps (sym h)) free (has.new ∙ ap Some (sym key)) (λ c e. has.none c (on_key j v c e)) (λ c e n. has.others c e (λ o. n (key_on j v c o)))

-- what is written of a session that moves
pub moves : (v : code.Session) (timeout other now time : ℤ) (on : Option ℕ) (d : ℕ) → other ≡ timeout → time ≡ now → on ≡ Some d
    → record v { timeout = other; heard = time; connection = on } ≡ record v { timeout = timeout; heard = now; connection = Some d }
moves v timeout other now time on d h k l = cc

-- the session had another connection
pub moved_from : (t : Sessions) (mid connections : Connections) (k j m : ℤ) (b d : ℕ) (v : code.Session) (xs : List Session) (owned : Owning)
    → j ≡ k → m ≡ k → Some v ≡ get int_cmp t.live j → Some b ≡ v.connection
    → Updates nat_cmp t.connections mid d (Some m) → Updates nat_cmp mid connections b None → Keeps t xs owned → session_of d xs ≡ None
    → HasMoved (get nat_cmp connections) k d v.connection xs
moved_from t mid connections k j m b d v xs owned key value h old puts takes keeps free = record {
  new = takes.2 d (apart b (sym old)) ∙ puts.1 ∙ ap Some value;
  none = λ c e. let s : b ≡ c = cc in subst (λ (z : ℕ). get nat_cmp connections z ≡ None) s takes.1;
  others = λ c e n. takes.2 c (unlike c n) ∙ puts.2 c e ∙ keeps.connections c;
}
  where
    apart : (b : ℕ) → v.connection ≡ Some b → is_connection b d ≡ false
    apart b o = elim (cases_Bool (is_connection b d)) [
      | inl same ↦
          let its = keeps.one b (session_at_key (j, v)) j (kept_at t xs owned j v keeps (sym h)) (key_on j v b o) in
          let e = same_connection b d same in
          let n : session_of d xs ≡ Some j = subst (λ (z : ℕ). session_of z xs ≡ Some j) e its in absurd cc
      | inr else ↦ else
    ]

    unlike : (c : ℕ) → (v.connection ≡ Some c → ⊥) → is_connection b c ≡ false
    unlike c n = elim (cases_Bool (is_connection b c)) [ inl same ↦ absurd (n (sym old ∙ ap Some (same_connection b c same))) | inr else ↦ else ]

-- the session had no connection
pub moved_from_none : (t : Sessions) (connections : Connections) (k m : ℤ) (d : ℕ) (v : code.Session) (xs : List Session) (owned : Owning)
    → m ≡ k → None ≡ v.connection → Updates nat_cmp t.connections connections d (Some m) → Keeps t xs owned
    → HasMoved (get nat_cmp connections) k d v.connection xs
moved_from_none t connections k m d v xs owned value old puts keeps = record {
  new = puts.1 ∙ ap Some value;
  none = λ c e. absurd cc;
  others = λ c e n. puts.2 c e ∙ keeps.connections c;
}
