-- A request of a connection: its session is heard, it is answered, and the reply carries the last zxid.
use Rattle.std.proofs.Common.{◌≡◌, ℕ, ℤ, Bool, true, false, cond, List, [], ◌∷◌, ◌++◌, Some, None, Ok, refl, sym, ap, subst, ◌∙◌, inl, inr, arith, FitsSigned, w64, to_z, of_z}
use Rattle.std.specs.Prelude.{All, pos, ◌+ℤ◌, ◌≤ℤ◌, ◌<ℤ◌, ◌-◌, ◌^◌, ◌≤◌, vec_capacity, vec_len}
use Rattle.std.specs.Option.{option_map}
use Rattle.std.proofs.lemmas.Bool.{cases_Bool}
use Rattle.std.proofs.lemmas.Int.{ints}
use Rattle.std.proofs.lemmas.List.Elements.{All-nil, All-cons, All-head, All-tail}
use Rattle.zk_messages.specs.declared.reply.Outcome.{Outcome}
use Rattle.tree_state.specs.declared.held.Held.{Held}
use Rattle.tree_state.specs.declared.message.Message.TheVariants as messages
use Rattle.tree_state.specs.declared.message.Output.{Output}
use Rattle.tree_state.specs.declared.node.Moment.{Moment}
use Rattle.tree_state.specs.declared.session.Sessions.{Sessions}
use Rattle.tree_state.specs.Nodes.{ephemerals}
use Rattle.tree_state.specs.State.{State, Session, session_of, session_at, is_numbered, changed_session, change_session, heard_at, next_zxid}
use Rattle.tree_state.specs.Commands.{Command}
use Rattle.tree_state.specs.Changes.{Naming}
use Rattle.tree_state.specs.Step.{Answer, Next, answer, asks, step, taken, replied, hears}
use Rattle.tree_state.specs.Sessions.{Keeps, IsLiveOn}
use Rattle.tree_state.specs.Trees.{Means, Does, Answers, HasRoom, IsGiven, IsMoment}
use Rattle.tree_state.proofs.Alone.{Sent}
use Rattle.tree_state.proofs.SessionLists.{at_changed, at_first, at_others, none_live, number_of}

-- ---- the session is heard

same_given : (s : State) (k now : ℤ) (y : Session) → IsGiven s y → IsGiven (hears k now s) (changed_session k (heard_at now) y)
unfolding hears changed_session heard_at
same_given s k now y g = go (is_numbered k y)
  where
    go : (b : Bool) → IsGiven (record s { sessions = change_session k (heard_at now) s.sessions }) (cond b (record y { heard = now }) y)
    go true = record { above = g.above; within = g.within }
    go false = record { above = g.above; within = g.within }

all_given : (s : State) (k now : ℤ) (xs : List Session) → All (IsGiven s) xs → All (IsGiven (hears k now s)) (change_session k (heard_at now) xs)
unfolding change_session
all_given s k now [] h = All-nil (IsGiven (hears k now s))
all_given s k now (x ∷ xs) h =
    All-cons (IsGiven (hears k now s)) (changed_session k (heard_at now) x) (change_session k (heard_at now) xs) (same_given s k now x (All-head (IsGiven s) x xs h)) (all_given s k now xs (All-tail (IsGiven s) x xs h))

pub heard_means : (before : Held) (sessions : Sessions) (s : State) (k now : ℤ) → Means before s → Keeps sessions (change_session k (heard_at now) s.sessions) (λ j. ephemerals j s.nodes)
    → Means (record before { sessions = sessions }) (hears k now s)
unfolding hears
heard_means before sessions s k now m keeps = record {
  places = m.places;
  sessions = keeps;
  owners = record { given = m.owners.given; childless = m.owners.childless; free = m.owners.free };
  numbers = all_given s k now s.sessions m.numbers;
  watches = m.watches;
  last = m.last;
}

-- and was heard when it was before
pub unheard_means : (mid : Held) (sessions : Sessions) (s : State) (x : Session) (k now b : ℤ) → Means mid (hears k now s) → All (IsGiven s) s.sessions → b ≡ x.heard
    → change_session k (heard_at x.heard) (change_session k (heard_at now) s.sessions) ≡ s.sessions
    → Keeps sessions (change_session k (heard_at b) (change_session k (heard_at now) s.sessions)) (λ j. ephemerals j s.nodes) → Means (record mid { sessions = sessions }) s
unfolding hears
unheard_means mid sessions s x k now b m given same back keeps = record {
  places = m.places;
  sessions = subst (λ (xs : List Session). Keeps sessions xs (λ j. ephemerals j s.nodes)) (ap (λ (z : ℤ). change_session k (heard_at z) (change_session k (heard_at now) s.sessions)) same ∙ back) keeps;
  owners = record { given = m.owners.given; childless = m.owners.childless; free = m.owners.free };
  numbers = given;
  watches = m.watches;
  last = m.last;
}

-- ---- the reply

pub no_answer : (naming : Naming) (s : State) (c : ℕ) (xid now : ℤ) (command : Command) (h : Held) (outputs : List Output) → session_of c s.sessions ≡ None → outputs ≡ [] → Means h s → Does naming s (asks c xid command now) h outputs
unfolding step taken
no_answer naming s c xid now command h outputs none out m =
    let e : step naming s (asks c xid command now) ≡ record { state = s; outputs = [] } = ap (taken naming c xid command now s) none in
    record { sent = out ∙ ap (λ (n : Next). n.outputs) (sym e); means = subst (λ (n : Next). Means h n.state) (sym e) m }

pub the_moment : (at : Moment) (z t k : ℤ) → at.zxid ≡ z → at.time ≡ t → at.session ≡ k → at ≡ record { zxid = z; time = t; session = k }
the_moment at z t k e f g =
    ap (λ (x : ℤ). record { zxid = x; time = at.time; session = at.session }) e
    ∙ ap (λ (x : ℤ). record { zxid = z; time = x; session = at.session }) f
    ∙ ap (λ (x : ℤ). record { zxid = z; time = t; session = x }) g

abbrev pub reply_to : ℕ → ℤ → ℤ → Outcome → Output
reply_to c xid zxid outcome = record { connection = c; message = messages.Reply (record { xid = xid; zxid = zxid; outcome = outcome }) }

-- the events, and behind them the reply
pub applied : (naming : Naming) (s : State) (c : ℕ) (xid now k : ℤ) (command : Command) (h : Held) (outcome : Outcome) (at : Moment) (before sent : Sent) (outputs : List Output)
    → session_of c s.sessions ≡ Some k → at ≡ record { zxid = next_zxid s; time = now; session = k } → before.items ≡ [] → Answers (hears k now s) (answer naming at c (hears k now s) command) h before sent (Ok outcome)
    → outputs ≡ sent.items ++ reply_to c xid h.last outcome ∷ [] → Does naming s (asks c xid command now) h outputs
unfolding step taken replied Answers
applied naming s c xid now k command h outcome at before sent outputs on moment empty a out =
    let b : Answer = answer naming (record { zxid = next_zxid s; time = now; session = k }) c (hears k now s) command in
    let ans : Answers (hears k now s) b h before sent (Ok outcome) = subst (λ (x : Moment). Answers (hears k now s) (answer naming x c (hears k now s) command) h before sent (Ok outcome)) moment a in
    let e : step naming s (asks c xid command now) ≡ replied c xid b = ap (taken naming c xid command now s) on in
    let told : sent.items ≡ b.events = ans.1.items ∙ ap (λ (os : List Output). os ++ b.events) empty in
    let same : outputs ≡ (replied c xid b).outputs =
    out
    ∙ ap (λ (z : ℤ). sent.items ++ reply_to c xid z outcome ∷ []) ans.2.last
    ∙ ap (λ (o : Outcome). sent.items ++ reply_to c xid b.state.last o ∷ []) ans.0
    ∙ ap (λ (es : List Output). es ++ reply_to c xid b.state.last b.outcome ∷ []) told in
    record { sent = same ∙ ap (λ (n : Next). n.outputs) (sym e); means = subst (λ (n : Next). Means h n.state) (sym e) ans.2 }

-- ---- the session is heard, and what is answered is answered in the state after that

same_numbers : (k now : ℤ) (y : Session) → (changed_session k (heard_at now) y).number ≡ y.number
unfolding changed_session heard_at
same_numbers k now y = go (is_numbered k y)
  where
    go : (b : Bool) → (cond b (record y { heard = now }) y).number ≡ y.number
    go true = refl
    go false = refl

same_connection : (k now : ℤ) (y : Session) → (changed_session k (heard_at now) y).connection ≡ y.connection
unfolding changed_session heard_at
same_connection k now y = go (is_numbered k y)
  where
    go : (b : Bool) → (cond b (record y { heard = now }) y).connection ≡ y.connection
    go true = refl
    go false = refl

still_live : (s : State) (k j now : ℤ) (x : Session) → session_at j s.sessions ≡ Some x → session_at j (hears k now s).sessions ≡ Some (changed_session k (heard_at now) x)
unfolding hears change_session
still_live s k j now x live = at_changed (changed_session k (heard_at now)) (same_numbers k now) j s.sessions ∙ ap (option_map (changed_session k (heard_at now))) live

live_given : (s : State) (k : ℤ) (xs : List Session) (x : Session) → All (IsGiven s) xs → session_at k xs ≡ Some x → IsGiven s x
live_given s k [] x h live = absurd (none_live k x live)
live_given s k (y ∷ ys) x h live = elim (cases_Bool (is_numbered k y)) [
  | inl numbered ↦ subst (IsGiven s) (one_session y x (sym (at_first k y ys numbered) ∙ live)) (All-head (IsGiven s) y ys h)
  | inr other ↦ live_given s k ys x (All-tail (IsGiven s) y ys h) (sym (at_others k y ys other) ∙ live)
]
  where
    one_session : (a b : Session) → Some a ≡ Some b → a ≡ b
    one_session a b e = cc

-- the moment of a live session's request
moment_of : (s : State) (x : Session) (k : ℤ) (h : Held) (at : Moment) → Means h s → session_at k s.sessions ≡ Some x → at.session ≡ k → IsMoment s at
moment_of s x k h at m live same =
    let given = live_given s k s.sessions x m.numbers live in
    let number = number_of k s.sessions x live ∙ sym same in
    record {
      positive = subst (λ (z : ℤ). pos 1 ≤ℤ z) number given.above;
      given = subst (λ (z : ℤ). z ≤ℤ s.greatest) number given.within;
    }

-- what holds where a session was heard
abbrev pub Shows : ℕ → State → ℤ → ℤ → Held → Sessions → Moment → Type 0 → Type 0
Shows c s k now before sessions at P =
    (x : Session) → Means (record before { sessions = sessions }) (hears k now s) → IsMoment (hears k now s) at → session_at at.session (hears k now s).sessions ≡ Some x → x.connection ≡ Some c → P

pub shown : (c : ℕ) (s : State) (k now : ℤ) (before : Held) (sessions : Sessions) (at : Moment) (P : Type 0) → Means before s → IsLiveOn s.sessions c k
    → Keeps sessions (change_session k (heard_at now) s.sessions) (λ j. ephemerals j s.nodes) → at.session ≡ k → Shows c s k now before sessions at P → P
shown c s k now before sessions at P m live keeps same shows =
    let mid = heard_means before sessions s k now m keeps in
    let there = still_live s k k now live.one live.live in
    shows _ mid (moment_of (hears k now s) _ k (record before { sessions = sessions }) at mid there same)
    (subst (λ (j : ℤ). session_at j (hears k now s).sessions ≡ Some (changed_session k (heard_at now) live.one)) (sym same) there)
    (same_connection k now live.one ∙ live.on)

pub no_room : false ≡ true → ⊥
no_room h = cc

-- there is room in an empty list, and for the reply
pub room_at_first : (v : Sent) → vec_len v ≡ 0 → 1 ≤ vec_capacity v → HasRoom v
room_at_first v empty low = omega (arith, empty, low)

pub the_next : (s : State) (before : Held) (z : ℤ) → Means before s → z ≡ before.last +ℤ pos 1 → z ≡ next_zxid s
unfolding next_zxid
the_next s before z m e = e ∙ ap (λ (x : ℤ). x +ℤ pos 1) m.last

-- what is kept of the sessions when one was heard
pub heard_keeps : (s : State) (mid : Held) (k now : ℤ) → Means mid (hears k now s) → Keeps mid.sessions (change_session k (heard_at now) s.sessions) (λ j. ephemerals j s.nodes)
unfolding hears
heard_keeps s mid k now m = m.sessions

-- the last zxid and one more
pub next_last : (a b : ℤ) → a ≡ b → FitsSigned w64 b → b <ℤ pos (2 ^ 63 - 1) → to_z w64 (of_z w64 (to_z w64 (of_z w64 a) +ℤ pos 1)) ≡ b +ℤ pos 1
next_last a b same fits low = subst (λ (z : ℤ). to_z w64 (of_z w64 (to_z w64 (of_z w64 z) +ℤ pos 1)) ≡ b +ℤ pos 1) (sym same) (omega (arith, ints))
