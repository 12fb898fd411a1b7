-- What two maps keep where a session owns one path more, or one less.
use Rattle.std.proofs.Common.{◌≡◌, ℕ, ℤ, Bool, true, false, cond, List, [], ◌∷◌, ◌++◌, filter, not, ◌+◌, ◌≤◌, ◌<◌, IsSome, IfSome, arith, String, Global, string_bytes, Some, None, int_cmp, int_eq, refl, sym, ap, ap₂, subst}
use Rattle.std.specs.BTreeMap.{IsOrdered, WritesThrough, get}
use Rattle.std.specs.Cmp.{int_eq_equiv}
use Rattle.std.specs.Vec.{vec_len, vec_capacity}
use Rattle.zk_path.specs.Paths.{IsTextOf}
use Rattle.tree_state.specs.declared.session.Session as code
use Rattle.tree_state.specs.declared.session.Sessions.{Sessions}
use Rattle.tree_state.specs.Nodes.{Path, same_path}
use Rattle.tree_state.specs.State.{Session, session_at, is_numbered, changed_session, change_session}
use Rattle.tree_state.specs.Sessions.{Keeps, is_other_text, HasRoomFor, with_owned, without_owned, Owning, OwnTexts, session_at_key}
use Rattle.tree_state.proofs.SessionMaps.{sessions_of, not_found, owns_elsewhere, owns_found, owns_more, owns_less}
use Rattle.tree_state.proofs.SessionTies.{stays}
use Rattle.tree_state.proofs.SessionsKept.{Live, with_maps, rewritten}

not_changed : (k : ℤ) (xs : List Session) → change_session k (λ x. x) xs ≡ xs
unfolding change_session changed_session
not_changed k [] = refl
not_changed k (x ∷ xs) = ap₂ (λ (y : Session) (ys : List Session). y ∷ ys) (either (is_numbered k x)) (not_changed k xs)
  where
    either : (b : Bool) → cond b x x ≡ x
    either true = refl
    either false = refl

-- the paths of a live session are told anew
pub owned_anew : (t : Sessions) (live : Live) (j : ℤ) (v w : code.Session) (xs : List Session) (owned after : Owning)
    → IsOrdered int_cmp t.live → Some v ≡ get int_cmp t.live j → WritesThrough int_cmp (int_cmp j) t.live w live
    → session_at_key (j, w) ≡ session_at_key (j, v) → ((k : ℤ) → int_eq k j ≡ false → after k ≡ owned k) → OwnTexts w.ephemerals.items (after j)
    → Keeps t xs owned → Keeps (with_maps live t.connections) xs after
owned_anew t live j v w xs owned after order h writes value same own keeps =
    subst (λ (ys : List Session). Keeps (with_maps live t.connections) ys after) (not_changed j xs)
    (rewritten t live j (λ x. x) v w xs owned after order (sym h) writes value (λ _. refl) (λ _. refl) same own keeps)

pub owned_more : (t : Sessions) (live : Live) (j k : ℤ) (v w : code.Session) (text : String Global) (p : Path) (xs : List Session) (owned : Owning) → j ≡ k
    → IsOrdered int_cmp t.live → Some v ≡ get int_cmp t.live j → WritesThrough int_cmp (int_cmp j) t.live w live
    → w ≡ record v { ephemerals = w.ephemerals } → w.ephemerals.items ≡ v.ephemerals.items ++ text ∷ [] → IsTextOf (string_bytes text) p → Keeps t xs owned
    → Keeps (with_maps live t.connections) xs (with_owned k p owned)
unfolding with_owned session_at_key
owned_more t live j k v w text p xs owned same order h writes value more is keeps =
    subst (λ (z : ℤ). Keeps (with_maps live t.connections) xs (with_owned z p owned)) same
    (owned_anew t live j v w xs owned (with_owned j p owned) order h writes (ap (λ (u : code.Session). session_at_key (j, u)) value)
    (λ i other. ap (λ (b : Bool). cond b (owned i ++ p ∷ []) (owned i)) other)
    (subst (λ (b : Bool). OwnTexts w.ephemerals.items (cond b (owned j ++ p ∷ []) (owned j))) (sym (int_eq_equiv.refl j))
    (owns_more v.ephemerals.items w.ephemerals.items (owned j) text p more is (owns_found j owned t.live.entries v (sym h) keeps.owns))) keeps)

pub owned_less : (t : Sessions) (live : Live) (j k : ℤ) (v w : code.Session) (text : List ℕ) (p : Path) (xs : List Session) (owned : Owning) → j ≡ k
    → IsOrdered int_cmp t.live → Some v ≡ get int_cmp t.live j → WritesThrough int_cmp (int_cmp j) t.live w live
    → w ≡ record v { ephemerals = w.ephemerals } → w.ephemerals.items ≡ filter (is_other_text text) v.ephemerals.items → IsTextOf text p → Keeps t xs owned
    → Keeps (with_maps live t.connections) xs (without_owned k p owned)
unfolding without_owned session_at_key
owned_less t live j k v w text p xs owned same order h writes value less is keeps =
    subst (λ (z : ℤ). Keeps (with_maps live t.connections) xs (without_owned z p owned)) same
    (owned_anew t live j v w xs owned (without_owned j p owned) order h writes (ap (λ (u : code.Session). session_at_key (j, u)) value)
    (λ i other. ap (λ (b : Bool). cond b (filter (λ q. not (same_path q p)) (owned i)) (owned i)) other)
    (subst (λ (b : Bool). OwnTexts w.ephemerals.items (cond b (filter (λ q. not (same_path q p)) (owned j)) (owned j))) (sym (int_eq_equiv.refl j))
    (owns_less v.ephemerals.items w.ephemerals.items (owned j) text p less is (owns_found j owned t.live.entries v (sym h) keeps.owns))) keeps)

-- as many paths as before are told
pub owned_same : (t : Sessions) (live : Live) (j : ℤ) (v w : code.Session) (xs : List Session) (owned : Owning)
    → IsOrdered int_cmp t.live → Some v ≡ get int_cmp t.live j → WritesThrough int_cmp (int_cmp j) t.live w live
    → w ≡ record v { ephemerals = w.ephemerals } → w.ephemerals.items ≡ v.ephemerals.items → Keeps t xs owned
    → Keeps (with_maps live t.connections) xs owned
unfolding session_at_key
owned_same t live j v w xs owned order h writes value same keeps =
    owned_anew t live j v w xs owned owned order h writes (ap (λ (u : code.Session). session_at_key (j, u)) value) (λ _ _. refl)
    (subst (λ texts. OwnTexts texts (owned j)) (sym same) (owns_found j owned t.live.entries v (sym h) keeps.owns)) keeps

-- there is no such session
pub nothing_owned : (t : Sessions) (live : Live) (j k : ℤ) (xs : List Session) (owned after : Owning) → j ≡ k
    → None ≡ get int_cmp t.live j → live ≡ t.live → ((i : ℤ) → int_eq i k ≡ false → after i ≡ owned i) → Keeps t xs owned
    → Keeps (with_maps live t.connections) xs after
nothing_owned t live j k xs owned after same h stays others keeps =
    subst (λ (m : Live). Keeps (with_maps m t.connections) xs after) (sym stays) (record {
      sessions = keeps.sessions;
      connections = keeps.connections;
      one = keeps.one;
      owns = owns_elsewhere k owned after t.live.entries (subst (λ (z : ℤ). session_at z (sessions_of t.live.entries) ≡ None) same (not_found j t.live.entries (sym h))) others keeps.owns;
    })

pub none_more : (t : Sessions) (live : Live) (j k : ℤ) (p : Path) (xs : List Session) (owned : Owning) → j ≡ k
    → None ≡ get int_cmp t.live j → live ≡ t.live → Keeps t xs owned → Keeps (with_maps live t.connections) xs (with_owned k p owned)
unfolding with_owned
none_more t live j k p xs owned same h stays keeps =
    nothing_owned t live j k xs owned (with_owned k p owned) same h stays (λ i other. ap (λ (b : Bool). cond b (owned i ++ p ∷ []) (owned i)) other) keeps

pub none_less : (t : Sessions) (live : Live) (j k : ℤ) (p : Path) (xs : List Session) (owned : Owning) → j ≡ k
    → None ≡ get int_cmp t.live j → live ≡ t.live → Keeps t xs owned → Keeps (with_maps live t.connections) xs (without_owned k p owned)
unfolding without_owned
none_less t live j k p xs owned same h stays keeps =
    nothing_owned t live j k xs owned (without_owned k p owned) same h stays (λ i other. ap (λ (b : Bool). cond b (filter (λ q. not (same_path q p)) (owned i)) (owned i)) other) keeps

-- and what is kept stays kept
pub none_same : (t : Sessions) (live : Live) (j : ℤ) (xs : List Session) (owned : Owning) → None ≡ get int_cmp t.live j → live ≡ t.live → Keeps t xs owned
    → Keeps (with_maps live t.connections) xs owned
none_same t live j xs owned h stays keeps = nothing_owned t live j j xs owned owned refl h stays (λ _ _. refl) keeps

-- ---- room for one more

-- the list of the session's paths has room for one more
abbrev HasPlace : code.Session → Type 0
HasPlace v = vec_len v.ephemerals < vec_capacity v.ephemerals

-- a session that is found has the room that was made for it
pub room_found : (t : Sessions) (j k : ℤ) (v : code.Session) → j ≡ k → Some v ≡ get int_cmp t.live j → HasRoomFor k t → vec_len v.ephemerals < vec_capacity v.ephemerals
room_found t j k v same h room = subst (λ o. IfSome o HasPlace) (sym h) (subst (λ (z : ℤ). HasRoomFor z t) (sym same) room)

-- room made for the paths of a session is room for that session
pub room_made : (t u : Sessions) (live : Live) (j k : ℤ) (v w : code.Session) → u ≡ with_maps live t.connections → j ≡ k → Some v ≡ get int_cmp t.live j
    → WritesThrough int_cmp (int_cmp j) t.live w live → vec_len w.ephemerals + 1 ≤ vec_capacity w.ephemerals → HasRoomFor k u
room_made t u live j k v w is same h writes room =
    let place : HasPlace w = omega arith in
    let made : HasRoomFor j (with_maps live t.connections) = subst (λ o. IfSome o HasPlace) (sym (writes.3 (subst IsSome h refl)).1) place in
    subst (HasRoomFor k) (sym is) (subst (λ (z : ℤ). HasRoomFor z (with_maps live t.connections)) same made)

-- where there is no such session, none is wanted
pub room_none : (t u : Sessions) (live : Live) (j k : ℤ) → u ≡ with_maps live t.connections → j ≡ k → None ≡ get int_cmp t.live j → live ≡ t.live → HasRoomFor k u
room_none t u live j k is same h stays =
    let here : HasRoomFor j t = subst (λ o. IfSome o HasPlace) h tt in
    let made : HasRoomFor j (with_maps live t.connections) = subst (λ (m : Live). HasRoomFor j (with_maps m t.connections)) (sym stays) here in
    subst (HasRoomFor k) (sym is) (subst (λ (z : ℤ). HasRoomFor z (with_maps live t.connections)) same made)
