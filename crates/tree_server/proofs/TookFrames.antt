-- What comes of a frame that was taken: where the server stands, what was gained, and that it is sound.
use Rattle.std.proofs.Common.{◌≡◌, ◌⊎◌, ℕ, ℤ, ◌+◌, ◌≤◌, Bool, true, false, cond, List, [], ◌∷◌, ◌++◌, length, Option, Some, None, refl, sym, ap, subst, ◌∙◌, arith, append_assoc, append-nil, inl, inr, rules}
use Rattle.std.specs.Prelude.{◌==◌, is_some}
use Rattle.std.proofs.Math.Decide.{dec_le}
use Rattle.tree_state.specs.Sessions.{IsOnOne}
use Rattle.tree_state.proofs.SessionLists.{AreDistinct}
use Rattle.std.specs.Option.{option_map, option_or}
use Rattle.tree_state.specs.declared.held.Held.{Held}
use Rattle.tree_state.specs.declared.message.Output.{Output}
use Rattle.tree_state.specs.State.{State, start}
use Rattle.tree_state.specs.Step.{Act}
use Rattle.store_side.specs.declared.entry.Entry.{Entry}
use Rattle.store_side.specs.declared.entry.Entry.TheVariants.{Connect, Take, Lost, Expire}
use Rattle.tree_state.specs.Changes.{Naming}
use Rattle.zk_messages.specs.declared.request.Request.{Request}
use Rattle.store_side.specs.declared.ending.StoreEnding.{StoreEnding}
use Rattle.store_side.specs.declared.ending.StoreEnding.TheVariants as endings
use Rattle.store_side.specs.Acts.{AreActs}
use Rattle.store_side.specs.Out.{to_connection}
use Rattle.store_side.specs.Orders.{HasNoConnect, HasSession, LegalFrom, MayCome}
use Rattle.store_side.specs.Owed.{reserves}
use Rattle.store_side.specs.Past.{Past, after_all, is_over, password_of, state_of}
use Rattle.store_side.specs.Follows.{IsAdmitted, IsSound, owed}
use Rattle.store_side.specs.Calls.{AreFrames, AreRequests, IsMoved, StaysWithin, ending_after, lost_first, rest_of, with_at}
use Rattle.store_side.proofs.NoTrace.{NoTrace}
use Rattle.store_side.proofs.Appended.{after_all-append, no_connect-back, no_connect-front}
use Rattle.store_side.proofs.Sound.{Grows, grown_sound}
use Rattle.store_side.proofs.SoundCalls.{at_own, at_other}
use Rattle.tree_server.specs.declared.books.Books.{Books}
use Rattle.tree_server.specs.declared.lines.Lines.{Lines}
use Rattle.tree_server.specs.declared.taking.Move.{Move}
use Rattle.tree_server.specs.Machines.{Stands, Took, added, ended_move}
use Rattle.tree_server.specs.Connections.{AreLines, SpellEach, told_more, with_ending}
use Rattle.tree_server.specs.Servers.{Both, Gained, taken_to, with_moved}
use Rattle.tree_server.proofs.SamePast.{stands_same, lines_same}
use Rattle.tree_server.proofs.StepsWithin.{taken_within}
use Rattle.tree_server.proofs.KeptSessions.{FrameTaken, others_keep, own_keeps, no_connect_kept, quiet_told}

place_so : (d c : ℕ) → (d == c) ≡ true → d ≡ c
place_so d c h = search rules

place_not : (d c : ℕ) → (d == c) ≡ false → d ≡ c → ⊥
place_not d c h e = search rules

dec_eq : (d c : ℕ) → Dec (d ≡ c)
dec_eq d c = go (d == c) refl
  where
    go : (b : Bool) → (d == c) ≡ b → Dec (d ≡ c)
    go true h = yes (place_so d c h)
    go false h = no (place_not d c h)

-- ---- options

none_or : {A : Type 0} (o u : Option A) → o ≡ None → u ≡ None → option_or o u ≡ None
none_or None None e f = refl
none_or None (Some x) e f = f
none_or (Some x) u e f = e

or_none : {A : Type 0} (o : Option A) → option_or o None ≡ o
or_none None = refl
or_none (Some x) = refl

or_some : {A : Type 0} (o u : Option A) (x : A) → o ≡ Some x → option_or o u ≡ Some x
or_some None u x e = absurd cc
or_some (Some y) u x e = e

rest_none : (o : Option StoreEnding) (rest : List ℕ) → o ≡ None → rest_of o rest ≡ rest
unfolding rest_of
rest_none None rest e = refl
rest_none (Some x) rest e = absurd cc

not_over : (o : Option StoreEnding) → is_some o ≡ false → o ≡ None
not_over None h = refl
not_over (Some x) h = absurd cc

on_or : (o u : Option StoreEnding) → is_some (option_or o u) ≡ false → (o ≡ None) × (u ≡ None)
on_or None None h = (refl, refl)
on_or None (Some x) h = absurd cc
on_or (Some x) u h = absurd cc

-- ---- numbers of connections

-- a number that can't be outside is admitted
pub inside : (p : Past) (c : ℕ) → ((IsAdmitted p c → ⊥) → ⊥) → IsAdmitted p c
inside p c h = go (dec_le 1 c) (dec_le c p.admitted)
  where
    go : Dec (1 ≤ c) → Dec (c ≤ p.admitted) → IsAdmitted p c
    go (no a) d = absurd (h (λ i. a (omega (arith, i.from))))
    go (yes a) (no b) = absurd (h (λ i. b i.below))
    go (yes a) (yes b) = record { from = omega (arith, a); below = b }

other_test : (c d : ℕ) → (d ≡ c → ⊥) → (c == d) ≡ false
other_test c d apart = search rules

some_not_none : (b : Bool) (e : StoreEnding) → b ≡ true → cond b (Some e) None ≡ None → ⊥
some_not_none true e h g = absurd cc
some_not_none false e h g = absurd cc

same_test : (d c : ℕ) → c ≡ d → (d == c) ≡ true
same_test d c e = search rules

same_some : (a b : ℕ) → Some a ≡ Some b → a ≡ b
same_some a b h = cc

unmoved : (c : ℕ) (past : Past) (m : Option Move) → ((x : Move) → m ≡ Some x → (x.connection ≡ c → ⊥) × IsAdmitted past x.connection) → ended_move m c ≡ None
unfolding ended_move
unmoved c past None h = refl
unmoved c past (Some x) h = ap (λ (b : Bool). cond b (Some (endings.Moved x.session)) None) (other_test c x.connection (h x refl).0)

over_by_move : (moved : Option Move) (from : Option ℕ) (d : ℕ) → option_map (λ (m : Move). m.connection) moved ≡ from → from ≡ Some d → ended_move moved d ≡ None → ⊥
unfolding ended_move
over_by_move None from d e f g = absurd cc
over_by_move (Some m) from d e f g = some_not_none (d == m.connection) (endings.Moved m.session) (same_test d m.connection (same_some m.connection d (e ∙ f))) g

is_on : (p : Past) (d : ℕ) → p.endings d ≡ None → is_over p d ≡ false
is_on p d h = ap is_some h

over_not_on : {b : Bool} → b ≡ true → b ≡ false → ⊥
over_not_on {b} e f = absurd cc

state_is : (past : Past) → state_of past ≡ after_all past.naming start past.acts
unfolding state_of
state_is past = refl

within_of : (named : List ℕ → ℕ → List ℕ → Type 0) (keeps : List Entry → Type 0) (room : ℕ) (held : Held) (books : Books) (p : Past) → Stands named keeps room held books p → owed p ≤ p.limit
within_of named keeps room held books p h = omega (arith, h.counted, h.owes, h.within, h.limit)

none_some : (z : ℤ) → None ≡ Some z → ⊥
none_some z h = cc

no_session : (c : ℕ) (s : State) → NoTrace c s → HasSession s c → ⊥
no_session c s h k = none_some k.session (sym h.sessions_are ∙ k.live)

takes_session : (s : State) (c d : ℕ) (xid : ℤ) (r : Request) (zxid at : ℤ) → d ≡ c → (passwords : ℤ → List ℕ) → MayCome passwords s (Take d xid r zxid at) → HasSession s c
unfolding MayCome
takes_session s c d xid r zxid at e passwords h = subst (λ (x : ℕ). HasSession s x) e h

-- whose frame was taken, it has a session or connects by it
has_connected : (naming : Naming) (passwords : ℤ → List ℕ) (s : State) (c : ℕ) (now : ℤ) (body : List ℕ) (moved : Option ℕ) (frames : List Entry) (acts : List Act)
    → FrameTaken naming passwords s c now body moved frames acts → NoTrace c s → HasNoConnect c frames → ⊥
unfolding AreFrames AreRequests HasNoConnect IsMoved lost_first LegalFrom
has_connected naming passwords s c now body moved [] acts f quiet h = f.spelled
has_connected naming passwords s c now body moved (Connect d asked session timeout password zxid at ∷ es) acts f quiet h = h.0 f.spelled.0
has_connected naming passwords s c now body (Some x) (Take d xid r zxid at ∷ es) acts f quiet h = f.moves
has_connected naming passwords s c now body None (Take d xid r zxid at ∷ es) [] f quiet h = f.legal
has_connected naming passwords s c now body None (Take d xid r zxid at ∷ es) (act ∷ acts) f quiet h = no_session c s quiet (takes_session s c d xid r zxid at f.spelled.0 passwords f.legal.0.may)
has_connected naming passwords s c now body moved (Lost d ∷ es) acts f quiet h = f.spelled
has_connected naming passwords s c now body moved (Expire session zxid at ∷ es) acts f quiet h = f.spelled

-- ---- a frame that was taken

-- a connection has one session, and no two have one number
pub record AreDistinctSessions (past : Past) : Type 0 where
  pub one : IsOnOne (state_of past).sessions
  pub distinct : AreDistinct (state_of past).sessions

-- from where the server stood the machine took a frame, and what is sent for it was told
pub record IsTaken (named : List ℕ → ℕ → List ℕ → Type 0) (keeps : List Entry → Type 0) (room : ℕ) (held : Held) (books : Books) (lines : Lines) (c : ℕ) (now : ℤ) (body : List ℕ)
    (sent : List Output) (moved : Option Move) (ending : Option StoreEnding) (bytes : ℕ → List ℕ) (written : Bool) (past new : Past) : Type 0 where
  pub sound : IsSound past
  pub admitted : IsAdmitted past c
  pub on : past.endings c ≡ None
  pub holds : (d : ℕ) → past.rests d ≡ rest_of (past.endings d) (past.rests d)
  pub connected : AreDistinctSessions past
  pub quiet : (d : ℕ) → HasNoConnect d past.order → NoTrace d (state_of past)
  pub apart : (m : Move) → moved ≡ Some m → (m.connection ≡ c → ⊥) × IsAdmitted past m.connection
  pub took : Took past c now body sent moved ending new
  pub machine : Stands named keeps room held books new
  pub spelled : SpellEach sent bytes
  pub lines_are : AreLines lines (told_more sent bytes written (with_moved moved past))

module _ (named : List ℕ → ℕ → List ℕ → Type 0) (keeps : List Entry → Type 0) (room : ℕ) (held : Held) (books : Books) (lines : Lines) (c : ℕ) (now : ℤ) (body : List ℕ)
    (sent : List Output) (moved : Option Move) (ending : Option StoreEnding) (bytes : ℕ → List ℕ) (written : Bool) (past new : Past)
    (t : IsTaken named keeps room held books lines c now body sent moved ending bytes written past new) where
  abbrev to : Past
  to = taken_to t.took.entries t.took.acts sent bytes written moved past

  at_new : Stands named keeps room held books (added t.took.entries t.took.acts past)
  at_new = subst (λ (x : Past). Stands named keeps room held books x) t.took.new_is t.machine

  machine_to : Stands named keeps room held books to
  machine_to = stands_same named keeps room held books (added t.took.entries t.took.acts past) to (record { naming = refl; key = refl; limit = refl; order = refl; acts = refl }) at_new

  lines_to : AreLines lines to
  unfolding told_more
  lines_to = lines_same lines (told_more sent bytes written (with_moved moved past)) to (record { admitted = refl; waiting = λ d. refl; rests = λ d. refl; endings = λ d. refl; written = refl }) t.lines_are

  pub both_taken : Both named keeps room held books lines to
  both_taken = record { machine = machine_to; lines_are = lines_to }

  frame_taken : FrameTaken past.naming (password_of past.key) (state_of past) c now body t.took.adds.moved t.took.adds.frames t.took.acts
  frame_taken = record {
    spelled = t.took.adds.spelled;
    moves = t.took.adds.moves;
    are_acts = subst (λ (es : List Entry). AreActs es t.took.acts) t.took.adds.entries_are t.took.adds.are_acts;
    legal = subst (λ (es : List Entry). LegalFrom past.naming (password_of past.key) (state_of past) es t.took.acts) t.took.adds.entries_are t.took.adds.legal;
    one = t.connected.one;
    distinct = t.connected.distinct;
  }

  -- the connection's own side is not over by a move
  own_unmoved : ended_move moved c ≡ None
  own_unmoved = unmoved c past moved t.apart

  state_to : state_of to ≡ after_all past.naming (state_of past) t.took.acts
  state_to = state_is to ∙ after_all-append past.naming start past.acts t.took.acts ∙ sym (ap (λ (s : State). after_all past.naming s t.took.acts) (state_is past))

  within_to : owed to ≤ to.limit
  within_to = within_of named keeps room held books to machine_to

  stays_within : StaysWithin past.naming past.limit (length past.order) (state_of past) t.took.acts
  stays_within = taken_within past.naming (password_of past.key) (state_of past) c now body t.took.adds.moved t.took.adds.frames t.took.acts past.limit past.order
      frame_taken t.sound.within
      (subst (λ (es : List Entry). length (past.order ++ es) + reserves (after_all past.naming (state_of past) t.took.acts).sessions ≤ past.limit) t.took.adds.entries_are
      (subst (λ (s : State). length (past.order ++ t.took.entries) + reserves s.sessions ≤ past.limit) state_to within_to))

  pub gained_taken : Gained c now past to t.took.adds.moved t.took.adds.frames (body ∷ [])
  gained_taken = record {
    later = record {
      naming = refl;
      key = refl;
      limit = refl;
      admitted = omega arith;
      entries = t.took.entries;
      order = refl;
      more_acts = t.took.acts;
      acts = refl;
      more_told = λ d. to_connection d sent;
      told = λ d. refl;
      more_pulled = λ d. [];
      pulled = λ d. sym (append-nil (past.pulled d));
      more_bytes = bytes;
      bytes = λ d. sym (append_assoc (past.pulled d) (past.waiting d) (bytes d));
      endings = λ d e h. or_some (past.endings d) (ended_move moved d) e h;
    };
    admitted = refl;
    pulled = λ d. refl;
    entries = t.took.adds.entries_are;
    spelled = t.took.adds.spelled;
    moves = t.took.adds.moves;
    within = stays_within;
    tells = λ d. ap (to_connection d) t.took.sent_is;
    others = λ d other. ap (option_or (past.endings d)) (sym (t.took.moved_ends d));
    rests = λ d other. refl;
    goes_on = none_or (past.endings c) (ended_move moved c) t.on own_unmoved;
    rest = rest_none (option_or (past.endings c) (ended_move moved c)) (past.rests c) (none_or (past.endings c) (ended_move moved c) t.on own_unmoved);
  }

  -- ---- it is sound

  no_connect_to : (d : ℕ) → (d ≡ c → ⊥) → HasNoConnect d past.order → HasNoConnect d to.order
  no_connect_to d other h =
      subst (λ (es : List Entry). HasNoConnect d (past.order ++ es)) (sym t.took.adds.entries_are) (no_connect_kept frame_taken d other past.order h)

  -- whose session moved is over
  moved_over : (d : ℕ) → t.took.adds.moved ≡ Some d → ended_move moved d ≡ None → ⊥
  moved_over d e f = over_by_move moved t.took.adds.moved d t.took.moved_is e f

  others_on : (d : ℕ) → (d ≡ c → ⊥) → (past.endings d ≡ None) → (ended_move moved d ≡ None) → HasNoConnect d to.order ⊎ HasSession (state_of to) d
  others_on d other on stays = go (t.sound.follows.goes_on d (is_on past d on))
    where
      go : HasNoConnect d past.order ⊎ HasSession (after_all past.naming start past.acts) d → HasNoConnect d to.order ⊎ HasSession (state_of to) d
      go (inl h) = inl (no_connect_to d other h)
      go (inr h) = inr (kept (others_keep frame_taken d other (subst (λ (s : State). HasSession s d) (sym (state_is past)) h)))
        where
          kept : HasSession (after_all past.naming (state_of past) t.took.acts) d ⊎ (t.took.adds.moved ≡ Some d) → HasSession (state_of to) d
          kept (inl k) = subst (λ (s : State). HasSession s d) (sym state_to) k
          kept (inr e) = absurd (moved_over d e stays)

  grows : (q : Past) → q.naming ≡ past.naming → q.admitted ≡ past.admitted → q.order ≡ to.order → q.acts ≡ to.acts → q.told ≡ to.told → q.pulled ≡ past.pulled → q.waiting ≡ to.waiting
      → Grows past q t.took.entries t.took.acts sent bytes
  grows q e f g h k l m = record {
    naming = e;
    admitted = f;
    order = g;
    acts_are = h;
    told = λ d i. k i d;
    pulled = λ d i. l i d;
    waiting = λ d i. m i d;
    sent_is = t.took.sent_is;
    spelled = t.spelled;
  }

  untouched_to : (d : ℕ) → (IsAdmitted past d → ⊥) → HasNoConnect d to.order × (to_connection d sent ≡ []) × (to.rests d ≡ []) × (to.endings d ≡ None)
  untouched_to d outside =
      let before = t.sound.untouched d outside in
      let other : d ≡ c → ⊥ = λ e. outside (subst (λ (x : ℕ). IsAdmitted past x) (sym e) t.admitted) in
      let stays : ended_move moved d ≡ None = unmoved d past moved (λ x e. (λ f. outside (subst (λ (y : ℕ). IsAdmitted past y) f (t.apart x e).1), (t.apart x e).1)) in
      let on = none_or (past.endings d) (ended_move moved d) before.goes_on stays in (
        no_connect_to d other before.no_connect,
        ap (to_connection d) t.took.sent_is ∙ quiet_told frame_taken d other (t.quiet d before.no_connect),
        rest_none (option_or (past.endings d) (ended_move moved d)) (past.rests d) on ∙ before.rest,
        on,
      )

  -- where the frame does not end its connection
  pub sound_taken : ending_after t.took.adds.frames ≡ None → IsSound to
  sound_taken goes = grown_sound past to t.took.entries t.took.acts sent bytes t.sound (grows to refl refl refl refl refl refl refl) (record {
    are_acts = machine_to.are_acts;
    steps = machine_to.steps;
    once = machine_to.once;
    goes_on = λ d on. on_to d (dec_eq d c) (on_or (past.endings d) (ended_move moved d) on);
    within = within_to;
  }) (λ d apart. untouched_to d (λ i. apart (record { from = i.from; below = i.below })))
    where
      on_to : (d : ℕ) → Dec (d ≡ c) → (past.endings d ≡ None) × (ended_move moved d ≡ None) → HasNoConnect d to.order ⊎ HasSession (state_of to) d
      on_to d (no other) h = others_on d other h.0 h.1
      on_to d (yes e) h = inr (subst (λ (x : ℕ). HasSession (state_of to) x) (sym e) (subst (λ (s : State). HasSession s c) (sym state_to) (own_keeps frame_taken goes)))

  -- and where its connection is over for this reason
  pub sound_over : (e : StoreEnding) → IsSound (with_ending c e to)
  sound_over e = grown_sound past (with_ending c e to) t.took.entries t.took.acts sent bytes t.sound (grows (with_ending c e to) refl refl refl refl refl refl refl) (record {
    are_acts = machine_to.are_acts;
    steps = machine_to.steps;
    once = machine_to.once;
    goes_on = λ d on. on_over d (dec_eq d c) on;
    within = within_over;
  }) (λ d apart.
      let outside : IsAdmitted past d → ⊥ = λ i. apart (record { from = i.from; below = i.below }) in
      let u = untouched_to d outside in
      let other : d ≡ c → ⊥ = λ f. outside (subst (λ (x : ℕ). IsAdmitted past x) (sym f) t.admitted) in
      (u.0, u.1, at_other c d [] to.rests other ∙ u.2, at_other c d (Some e) to.endings other ∙ u.3))
    where
      same_state : state_of to ≡ state_of (with_ending c e to)
      same_state = state_is to ∙ sym (state_is (with_ending c e to))

      within_over : owed (with_ending c e to) ≤ to.limit
      within_over = subst (λ (s : State). length to.order + reserves s.sessions ≤ to.limit) same_state within_to

      kept : (d : ℕ) → HasNoConnect d to.order ⊎ HasSession (state_of to) d → HasNoConnect d to.order ⊎ HasSession (state_of (with_ending c e to)) d
      kept d (inl h) = inl h
      kept d (inr h) = inr (subst (λ (s : State). HasSession s d) same_state h)

      on_over : (d : ℕ) → Dec (d ≡ c) → is_over (with_ending c e to) d ≡ false → HasNoConnect d to.order ⊎ HasSession (state_of (with_ending c e to)) d
      on_over d (yes f) on = absurd (over_not_on (ap is_some (ap (with_at c (Some e) to.endings) f ∙ at_own c (Some e) to.endings)) on)
      on_over d (no other) on = let h = on_or (past.endings d) (ended_move moved d) (ap is_some (sym (at_other c d (Some e) to.endings other)) ∙ on) in kept d (others_on d other h.0 h.1)

  -- the connection has connected then
  pub connected_to : HasNoConnect c to.order → ⊥
  connected_to h = has_connected past.naming (password_of past.key) (state_of past) c now body t.took.adds.moved t.took.adds.frames t.took.acts frame_taken (t.quiet c (no_connect-front c past.order t.took.entries h))
      (no_connect-back c (lost_first t.took.adds.moved) t.took.adds.frames (subst (λ (es : List Entry). HasNoConnect c es) t.took.adds.entries_are (no_connect-back c past.order t.took.entries h)))
