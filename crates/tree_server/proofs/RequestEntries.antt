-- The entry of a request: that it may come, and what it leaves.
use Rattle.std.proofs.Common.{◌≡◌, ℕ, ℤ, ◌+◌, ◌-◌, ◌≤◌, ◌==◌, List, [], ◌∷◌, Some, None, All, refl, sym, ◌∙◌, subst, inl, inr, arith}
use Rattle.std.proofs.lemmas.Bool.{cases_Bool, eqb-true}
use Rattle.zk_path.specs.Numbers.{IsNumberingOf}
use Rattle.zk_path.specs.Paths.{joined}
use Rattle.zk_messages.specs.Requests.{SpellsRequest}
use Rattle.zk_messages.specs.declared.request.Request.{Request}
use Rattle.tree_state.specs.declared.held.Held.{Held}
use Rattle.tree_state.specs.Changes.{Naming}
use Rattle.tree_state.specs.Commands.{Command, IsCommand}
use Rattle.tree_state.specs.State.{State, Session, session_of, session_at, change_session, heard_at, without_session}
use Rattle.tree_state.specs.Step.{asks as asking, step}
use Rattle.tree_state.specs.Trees.{IsNameOf, IsNaming, Means}
use Rattle.tree_state.proofs.SessionLists.{AreDistinct}
use Rattle.store_side.specs.declared.entry.Entry.TheVariants.{Take}
use Rattle.store_side.specs.Acts.{IsAct}
use Rattle.store_side.specs.Calls.{AreFrames, AreRequests, IsMoved, WouldAdd, lost_first}
use Rattle.store_side.specs.Fitting.{IsShortNaming, IsShortState}
use Rattle.store_side.specs.Orders.{ConnectsOnce, HasLast, HasNoConnect, IsNext, MayCome}
use Rattle.store_side.specs.Owed.{IsTime, reserves}
use Rattle.store_side.specs.Past.{Past, password_of, state_of}
use Rattle.store_side.proofs.Appended.{legal_one, no_connect-front, once_take}
use Rattle.store_side.proofs.NoTrace.{IsOthers, NoTrace, step_quiet}
use Rattle.store_side.proofs.Zipping.{zips_one}
use Rattle.tree_server.specs.Times.{IsTimely}
use Rattle.tree_server.proofs.DuesKept.{distinct_gone, distinct_heard, timely_gone, timely_heard}
use Rattle.tree_server.proofs.OneAct.{IsMore}
use Rattle.tree_server.proofs.Reserves.{reserve_on, reserves_gone, reserves_heard}

-- ---- the tree is short, and so are the names of its numberer

pub short_state : (held : Held) (s : State) → Means held s → IsShortState s
short_state held s m = record { paths = m.places.short; contents = λ p n found. (m.places.steady p n found).short }

pub short_naming : (named : List ℕ → ℕ → List ℕ → Type 0) (naming : Naming) → IsNaming named naming
    → ((stem : List ℕ) (number : ℕ) (text : List ℕ) → named stem number text → IsNumberingOf stem text) → IsShortNaming naming
unfolding IsNameOf
short_naming named naming h law n p i m stem e = (law _ i _ (subst (IsNameOf (named (joined (n ∷ p)) i) p) e (h.each n p i stem))).short

-- ---- the entry may come

pub is_act : (c : ℕ) (xid zxid now : ℤ) (r : Request) (command : Command) → IsCommand r command
    → IsAct (Take c xid r zxid now) (asking c xid command now)
unfolding IsAct
is_act c xid zxid now r command a = record { command = command; is_command = a; is = refl }

pub is_next : (naming : Naming) (passwords : ℤ → List ℕ) (s : State) (c : ℕ) (k xid zxid now : ℤ) (r : Request) (command : Command)
    → session_of c s.sessions ≡ Some k
    → zxid ≡ (step naming s (asking c xid command now)).state.last
    → IsNext naming passwords s (Take c xid r zxid now) (asking c xid command now)
unfolding MayCome HasLast
is_next naming passwords s c k xid zxid now r command on last = record { may = record { session = k; live = on }; last_is = last }

unfoldable pub would_take : (past : Past) (c : ℕ) (k xid zxid now : ℤ) (r : Request) (command : Command) (body : List ℕ)
    → SpellsRequest xid r body → IsCommand r command
    → session_of c (state_of past).sessions ≡ Some k → zxid ≡ (step past.naming (state_of past) (asking c xid command now)).state.last
    → WouldAdd past c now body (Take c xid r zxid now ∷ []) (asking c xid command now ∷ [])
unfolding lost_first AreFrames AreRequests IsMoved
would_take past c k xid zxid now r command body spelled a on last = record {
  moved = None;
  frames = Take c xid r zxid now ∷ [];
  entries_are = refl;
  spelled = (refl, refl, spelled, tt);
  moves = tt;
  are_acts = zips_one IsAct _ _ (is_act c xid zxid now r command a);
  legal = legal_one past.naming (password_of past.key) (state_of past) _ _
      (is_next past.naming (password_of past.key) (state_of past) c k xid zxid now r command on last);
}

-- ---- what it leaves

others : (c d : ℕ) (k xid now : ℤ) (command : Command) (s : State) → session_of c s.sessions ≡ Some k → NoTrace d s
    → IsOthers d (asking c xid command now)
unfolding IsOthers
others c d k xid now command s on n = elim (cases_Bool (c == d)) [
  | inl same ↦ let e = eqb-true c d same in let f = subst (λ (x : ℕ). session_of x s.sessions ≡ Some k) e on in let g = n.sessions_are in
      absurd cc
  | inr other ↦ other
]

pub is_more : (past : Past) (c : ℕ) (k xid zxid now : ℤ) (r : Request) (command : Command) → IsCommand r command
    → session_of c (state_of past).sessions ≡ Some k
    → zxid ≡ (step past.naming (state_of past) (asking c xid command now)).state.last → ConnectsOnce past.order
    → ((d : ℕ) → HasNoConnect d past.order → NoTrace d (state_of past)) → IsMore past (Take c xid r zxid now) (asking c xid command now)
is_more past c k xid zxid now r command a on last once quiet = record {
  is_act = is_act c xid zxid now r command a;
  next = is_next past.naming (password_of past.key) (state_of past) c k xid zxid now r command on last;
  once = once_take past.order c xid r zxid now once;
  quiet = λ d none.
      let n = quiet d (no_connect-front d past.order (Take c xid r zxid now ∷ []) none) in
      (step_quiet d past.naming (state_of past) (asking c xid command now) (others c d k xid now command (state_of past) on n) n).after;
}

-- what is owed then, and that it is within the limit
pub record IsLeft (limit entries owed : ℕ) (xs : List Session) : Type 0 where
  pub owes : owed ≡ reserves xs
  pub within : entries + 1 + owed ≤ limit
  pub timely : All IsTimely xs
  pub distinct : AreDistinct xs

pub left_heard : (limit entries before owed : ℕ) (k now : ℤ) (xs : List Session) → AreDistinct xs → All IsTimely xs → IsTime now
    → before ≡ reserves xs → owed ≡ before
    → entries + before + 1 ≤ limit → IsLeft limit entries owed (change_session k (heard_at now) xs)
left_heard limit entries before owed k now xs distinct timely time owes same room =
    record {
      owes = same ∙ owes ∙ sym (reserves_heard k now xs);
      within = omega (arith, same, room);
      timely = timely_heard k now xs time timely;
      distinct = distinct_heard k now xs distinct;
    }

pub left_closed : (limit entries before owed : ℕ) (k : ℤ) (c : ℕ) (xs : List Session) (x : Session) → AreDistinct xs → All IsTimely xs
    → session_at k xs ≡ Some x
    → x.connection ≡ Some c → before ≡ reserves xs → owed ≡ before - 2 → entries + before ≤ limit
    → IsLeft limit entries owed (without_session k xs)
left_closed limit entries before owed k c xs x distinct timely live on owes less room =
    let g = reserves_gone k xs x distinct live in
    let e = reserve_on x c on in
    record {
      owes = omega (arith, g, e, owes, less);
      within = omega (arith, g, e, owes, less, room);
      timely = timely_gone k xs timely;
      distinct = distinct_gone k xs distinct;
    }
