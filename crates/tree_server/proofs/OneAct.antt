-- A machine that stood at a past stands at the one with an entry more.
use Rattle.std.proofs.Common.{◌≡◌, ℕ, ℤ, ◌+◌, ◌≤◌, ◌≤ℤ◌, ◌+ℤ◌, pos, List, [], ◌∷◌, ◌++◌, length, length-append, All, sym, ap, ◌∙◌, subst, arith}
use Rattle.std.proofs.lemmas.Int.{ints}
use Rattle.tree_state.specs.declared.held.Held.{Held}
use Rattle.tree_state.specs.State.{State, start}
use Rattle.tree_state.specs.Step.{Act, step}
use Rattle.tree_state.specs.Trees.{IsNaming, Means}
use Rattle.tree_state.proofs.SessionLists.{AreDistinct}
use Rattle.store_side.specs.declared.entry.Entry.{Entry}
use Rattle.store_side.specs.Acts.{IsAct}
use Rattle.store_side.specs.Orders.{ConnectsOnce, HasNoConnect, IsNext, LegalFrom}
use Rattle.store_side.specs.Owed.{reserves}
use Rattle.store_side.specs.Past.{Past, after_all, password_of, state_of}
use Rattle.store_side.proofs.Appended.{acts-append, after_one, legal-append, legal_one, state_of-append}
use Rattle.store_side.proofs.NoTrace.{NoTrace}
use Rattle.store_side.proofs.Zipping.{zips_one}
use Rattle.tree_server.specs.declared.books.Books.{Books}
use Rattle.tree_server.specs.Machines.{IsCounted, Stands, added}
use Rattle.tree_server.specs.Times.{AreDues, IsTimely}
use Rattle.tree_server.proofs.SessionsAfter.{last_step}

-- an entry, which is this act, may come at a past
pub record IsMore (past : Past) (e : Entry) (act : Act) : Type 0 where
  pub is_act : IsAct e act
  pub next : IsNext past.naming (password_of past.key) (state_of past) e act
  pub once : ConnectsOnce (past.order ++ e ∷ [])
  pub quiet : (c : ℕ) → HasNoConnect c (past.order ++ e ∷ []) → NoTrace c (step past.naming (state_of past) act).state

-- the books with an entry more, for this state
pub record AreNext (old new : Books) (s : State) : Type 0 where
  pub same_key : new.passwords ≡ old.passwords
  pub same_limit : new.limit ≡ old.limit
  pub one_more : new.entries ≡ old.entries + 1
  pub owes : new.owed ≡ reserves s.sessions
  pub within : new.entries + new.owed ≤ new.limit
  pub greatest_is : new.greatest ≡ s.greatest
  pub counted : IsCounted new.greatest new.entries
  pub are_dues : AreDues new.dues s.sessions
  pub timely : All IsTimely s.sessions
  pub distinct : AreDistinct s.sessions

-- the last zxid is at most one more
drawn_one : (z w : ℤ) (m n : ℕ) → IsCounted z m → (z ≤ℤ w) × (w ≤ℤ (z +ℤ pos 1)) → n ≡ m + 1 → IsCounted w n
drawn_one z w m n h k e =
    let a = h.from in
    let b = h.within in
    let l = k.0 in
    let u = k.1 in
    record { from = omega (arith, ints); within = omega (arith, ints) }

counted_one : (order : List Entry) (e : Entry) (m n : ℕ) → m ≡ length order → n ≡ m + 1 → n ≡ length (order ++ e ∷ [])
counted_one order e m n h k = omega (arith, h, k, length-append order (e ∷ []))

all_steps : (past : Past) (e : Entry) (act : Act) → LegalFrom past.naming (password_of past.key) start past.order past.acts
    → IsNext past.naming (password_of past.key) (state_of past) e act
    → LegalFrom past.naming (password_of past.key) start (past.order ++ e ∷ []) (past.acts ++ act ∷ [])
unfolding state_of
all_steps past e act h k =
    legal-append past.naming (password_of past.key) start past.order (e ∷ []) past.acts (act ∷ []) h
    (legal_one past.naming (password_of past.key) (after_all past.naming start past.acts) e act k)

pub stands_after : (named named' : List ℕ → ℕ → List ℕ → Type 0) (keeps keeps' : List Entry → Type 0) (room room' : ℕ) (held held' : Held)
    (books books' : Books)
    (past : Past) (e : Entry) (act : Act)
    → Stands named keeps room held books past → IsMore past e act → IsNaming named' past.naming
    → Means held' (step past.naming (state_of past) act).state
    → AreNext books books' (step past.naming (state_of past) act).state → keeps' (past.order ++ e ∷ []) → books'.owed ≤ room'
    → Stands named' keeps' room' held' books' (added (e ∷ []) (act ∷ []) past)
stands_after named named' keeps keeps' room room' held held' books books' past e act h more nm m b kept roomy = record {
  naming = nm;
  means = subst (Means held') back m;
  are_acts = acts-append past.order (e ∷ []) past.acts (act ∷ []) h.are_acts (zips_one IsAct e act more.is_act);
  steps = all_steps past e act h.steps more.next;
  once = more.once;
  quiet = λ c k. subst (NoTrace c) back (more.quiet c k);
  kept = kept;
  roomy = roomy;
  key = b.same_key ∙ h.key;
  limit = b.same_limit ∙ h.limit;
  small = h.small;
  counted = counted_one past.order e _ _ h.counted b.one_more;
  owes = b.owes ∙ ap (λ (s : State). reserves s.sessions) back;
  within = b.within;
  greatest = b.greatest_is ∙ ap (λ (s : State). s.greatest) back;
  given = b.counted;
  drawn = subst (λ (s : State). IsCounted s.last books'.entries) back
      (drawn_one (state_of past).last t.last _ _ h.drawn (last_step past.naming (state_of past) act) b.one_more);
  dues = subst (λ (s : State). AreDues books'.dues s.sessions) back b.are_dues;
  timely = subst (λ (s : State). All IsTimely s.sessions) back b.timely;
  distinct = subst (λ (s : State). AreDistinct s.sessions) back b.distinct;
}
  where
    t : State
    t = (step past.naming (state_of past) act).state

    back : t ≡ state_of (added (e ∷ []) (act ∷ []) past)
    back = sym (state_of-append past (e ∷ []) (act ∷ []) ∙ after_one past.naming (state_of past) act)
