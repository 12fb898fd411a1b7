-- A request was taken.
use Rattle.std.proofs.Common.{◌≡◌, ◌≢◌, ◌⊎◌, ◌↔◌, ℕ, ℤ, ◌+◌, ◌-◌, ◌<◌, ◌≤◌, ◌^◌, List, [], ◌∷◌, ◌++◌, length, Option, Some, None, min, refl, sym, ap, ◌∙◌, subst, inl, inr, arith}
use Rattle.std.proofs.lemmas.Int.{ints}
use Rattle.zk_path.specs.Numbers.{IsNumberingOf}
use Rattle.zk_messages.specs.Requests.{SpellsRequest}
use Rattle.zk_messages.specs.declared.request.Request.{Request}
use Rattle.zk_messages.specs.declared.request.Request.TheVariants as requests
use Rattle.tree_state.specs.declared.held.Held.{Held}
use Rattle.tree_state.specs.declared.message.Output.{Output}
use Rattle.tree_state.specs.Commands.{Command, IsCommand}
use Rattle.tree_state.specs.State.{session_of}
use Rattle.tree_state.specs.Step.{step}
use Rattle.tree_state.proofs.Folding.{kept_naming}
use Rattle.tree_state.proofs.SessionLists.{is_on}
use Rattle.store_side.specs.declared.ending.StoreEnding.{StoreEnding}
use Rattle.store_side.specs.declared.entry.Entry.{Entry}
use Rattle.store_side.specs.Calls.{ended_by_move, ending_after, ending_by, ending_by_request}
use Rattle.store_side.specs.Fitting.{AllCanBeSent, frame_limit}
use Rattle.store_side.specs.Owed.{IsTime}
use Rattle.store_side.specs.Past.{Past, state_of}
use Rattle.store_side.proofs.Appended.{outputs_one}
use Rattle.store_side.proofs.CanSend.{all_sent}
use Rattle.tree_server.specs.declared.books.Books.{Books}
use Rattle.tree_server.specs.declared.request.Origin.{Origin}
use Rattle.tree_server.specs.declared.taking.Move.{Move}
use Rattle.tree_server.specs.Asking.{Asked, MayTake, act_of, entry_of}
use Rattle.tree_server.specs.Machines.{IsCounted, Stands, Took, added, ended_move}
use Rattle.tree_server.specs.Times.{AreDues}
use Rattle.tree_server.proofs.AskedSessions.{closed_sessions, closes_or, closing, heard_sessions, not_closing}
use Rattle.tree_server.proofs.OneAct.{AreNext, stands_after}
use Rattle.tree_server.proofs.RequestEntries.{IsLeft, is_more, left_closed, left_heard, short_naming, short_state, would_take}
use Rattle.tree_server.proofs.SessionsAfter.{greatest_asked}

-- what the books are after a request that was asked and is kept
pub record AreKept (r : Request) (books asked kept : Books) : Type 0 where
  pub same_asked : asked ≡ record books { dues = asked.dues }
  pub entries_are : kept.entries ≡ min (asked.entries + 1) (2 ^ 64 - 1)
  pub closed : r ≡ requests.Close → kept.owed ≡ asked.owed - 2
  pub heard : r ≢ requests.Close → kept.owed ≡ asked.owed
  pub same_kept : kept ≡ record asked { entries = kept.entries; owed = kept.owed }

-- ---- the books

left_over : (named : List ℕ → ℕ → List ℕ → Type 0) (keeps : List Entry → Type 0) (room : ℕ) (held : Held) (books asked kept : Books)
    (past : Past) (from : Origin) (r : Request)
    → Stands named keeps room held books past → session_of from.connection (state_of past).sessions ≡ Some from.session → IsTime from.time
    → (m : MayTake books (state_of past) r)
    → AreKept r books asked kept → (r ≡ requests.Close) ⊎ (r ≢ requests.Close)
    → IsLeft books.limit books.entries kept.owed (step past.naming (state_of past) (act_of from m.command)).state.sessions
left_over named keeps room held books asked kept past from r h on time m b (inl closes) =
    let xs = (state_of past).sessions in
    let x = is_on from.connection from.session xs h.distinct on in
    let e = closed_sessions past.naming (state_of past) from.connection from.session from.xid from.time m.command on
    (closing r m.command m.is_command closes) in
    let o = b.closed closes ∙ ap (λ (z : Books). z.owed - 2) b.same_asked in
    subst (IsLeft books.limit books.entries kept.owed) (sym e)
    (left_closed books.limit books.entries books.owed kept.owed from.session from.connection xs x.session h.distinct h.timely x.live x.on
    h.owes o h.within)
left_over named keeps room held books asked kept past from r h on time m b (inr other) =
    let xs = (state_of past).sessions in
    let e = heard_sessions past.naming (state_of past) from.connection from.session from.xid from.time m.command on
    (not_closing r m.command m.is_command other) in
    let o = b.heard other ∙ ap (λ (z : Books). z.owed) b.same_asked in
    let small : books.limit < 2 ^ 63 = subst (λ (n : ℕ). n < 2 ^ 63) (sym h.limit) h.small in
    subst (IsLeft books.limit books.entries kept.owed) (sym e)
    (left_heard books.limit books.entries books.owed kept.owed from.session from.time xs h.distinct h.timely time h.owes o
    (m.place other small))

one_more : (entries owed limit past_limit n m : ℕ) → entries + owed ≤ limit → limit ≡ past_limit → past_limit < 2 ^ 63 → m ≡ entries
    → n ≡ min (m + 1) (2 ^ 64 - 1) → n ≡ entries + 1
one_more entries owed limit past_limit n m w l s e f = omega (arith, w, l, s, e, f)

counted_still : (z : ℤ) (m n : ℕ) → IsCounted z m → n ≡ m + 1 → IsCounted z n
counted_still z m n h e =
    let a = h.from in
    let b = h.within in
    record { from = a; within = omega (arith, ints) }

are_next : (named : List ℕ → ℕ → List ℕ → Type 0) (keeps : List Entry → Type 0) (room : ℕ) (held after : Held) (books asked kept : Books)
    (past : Past) (from : Origin) (r : Request)
    (sent : List Output)
    → Stands named keeps room held books past → session_of from.connection (state_of past).sessions ≡ Some from.session → IsTime from.time
    → (m : MayTake books (state_of past) r)
    → Asked past (act_of from m.command) after asked.dues sent → AreKept r books asked kept
    → AreNext books kept (step past.naming (state_of past) (act_of from m.command)).state
are_next named keeps room held after books asked kept past from r sent h on time m a b =
    let l = left_over named keeps room held books asked kept past from r h on time m b (closes_or r) in
    let n = one_more books.entries books.owed books.limit past.limit kept.entries asked.entries h.within h.limit h.small
    (ap (λ (z : Books). z.entries) b.same_asked) b.entries_are in
    let g = ap (λ (z : Books). z.greatest) b.same_kept ∙ ap (λ (z : Books). z.greatest) b.same_asked in
    let k = ap (λ (z : Books). z.limit) b.same_kept ∙ ap (λ (z : Books). z.limit) b.same_asked in
    let w = l.within in
    record {
      same_key = ap (λ (z : Books). z.passwords) b.same_kept ∙ ap (λ (z : Books). z.passwords) b.same_asked;
      same_limit = k;
      one_more = n;
      owes = l.owes;
      within = omega (arith, n, k, w);
      greatest_is = g ∙ h.greatest ∙ sym (greatest_asked past.naming (state_of past) from.connection from.xid from.time m.command);
      counted = subst (λ (z : ℤ). IsCounted z kept.entries) (sym g) (counted_still books.greatest books.entries kept.entries h.given n);
      are_dues = subst (λ ds. AreDues ds (step past.naming (state_of past) (act_of from m.command)).state.sessions)
          (sym (ap (λ (z : Books). z.dues) b.same_kept)) a.are_dues;
      timely = l.timely;
      distinct = l.distinct;
    }

-- no more is owed than was
owed_less : (r : Request) (books asked kept : Books) → AreKept r books asked kept → (r ≡ requests.Close) ⊎ (r ≢ requests.Close)
    → kept.owed ≤ books.owed
owed_less r books asked kept b (inl closes) = let e = b.closed closes in let f = ap (λ (z : Books). z.owed) b.same_asked in omega
    (arith, e, f)
owed_less r books asked kept b (inr other) = let e = b.heard other in let f = ap (λ (z : Books). z.owed) b.same_asked in omega (arith, e, f)

-- ---- what was taken

took : (named : List ℕ → ℕ → List ℕ → Type 0) (keeps : List Entry → Type 0) (room : ℕ) (held after : Held) (books asked : Books)
    (past : Past) (from : Origin) (r : Request)
    (body : List ℕ) (sent : List Output)
    → Stands named keeps room held books past → session_of from.connection (state_of past).sessions ≡ Some from.session
    → ((stem : List ℕ) (number : ℕ) (text : List ℕ) → named stem number text → IsNumberingOf stem text)
    → SpellsRequest from.xid r body → length body ≤ frame_limit → (m : MayTake books (state_of past) r)
    → Asked past (act_of from m.command) after asked.dues sent
    → Took past from.connection from.time body sent None (ending_by_request r)
    (added (entry_of from r after.last ∷ []) (act_of from m.command ∷ []) past)
unfolding ended_by_move ended_move ending_after ending_by would_take
took named keeps room held after books asked past from r body sent h on law spelled short m a = record {
  entries = entry_of from r after.last ∷ [];
  acts = act_of from m.command ∷ [];
  adds = would_take past from.connection from.session from.xid after.last from.time r m.command body spelled m.is_command on
      a.does.means.last;
  moved_is = refl;
  moved_ends = λ d. refl;
  ending_is = refl;
  sent_is = a.does.sent ∙ sym (outputs_one past.naming (state_of past) (act_of from m.command));
  can_send = subst AllCanBeSent (sym a.does.sent)
      (all_sent.taken past.naming (state_of past) from.connection from.xid from.time r m.command body
      (short_naming named past.naming h.naming law)
      (short_state held (state_of past) h.means) spelled short m.is_command m.fits);
  new_is = refl;
}

-- with the answer of the code, and where the machine stands then
pub taken : (named named' : List ℕ → ℕ → List ℕ → Type 0) (keeps mid keeps' : List Entry → Type 0) (room between room' : ℕ)
    (held after : Held) (books asked kept : Books)
    (past : Past) (from : Origin) (r : Request) (body : List ℕ) (sent told : List Output) (moved : Option Move)
    (ending : Option StoreEnding)
    → Stands named keeps room held books past → session_of from.connection (state_of past).sessions ≡ Some from.session → IsTime from.time
    → ((stem : List ℕ) (number : ℕ) (text : List ℕ) → named stem number text → IsNumberingOf stem text)
    → ((stem : List ℕ) (number : ℕ) (text : List ℕ) → named' stem number text ↔ named stem number text)
    → SpellsRequest from.xid r body → length body ≤ frame_limit → (m : MayTake books (state_of past) r)
    → ((command : Command) → IsCommand r command → Asked past (act_of from command) after asked.dues sent)
    → ((order : List Entry) → keeps order → mid order) → min (books.owed + 1) (2 ^ 64 - 1) ≤ between
    → (0 < between → (order : List Entry) → length order < 2 ^ 63 → mid order → keeps' (order ++ entry_of from r after.last ∷ []))
    → between ≤ room' + 1
    → AreKept r books asked kept → told ≡ sent → moved ≡ None → ending ≡ ending_by_request r
    → (new : Past) × Took past from.connection from.time body told moved ending new × Stands named' keeps' room' after kept new
taken named named' keeps mid keeps' room between room' held after books asked kept past from r body sent told moved ending h on time law
    names spelled short m asks
    keeps_mid made keeps_on left b same_sent none ends =
    let a = asks m.command m.is_command in
    let e = entry_of from r after.last in
    let act = act_of from m.command in
    let w = h.within in
    let l = h.limit in
    let s = h.small in
    let n = h.counted in
    let o = owed_less r books asked kept b (closes_or r) in
    let t = took named keeps room held after books asked past from r body sent h on law spelled short m a in (
      added (e ∷ []) (act ∷ []) past,
      subst (λ (x : Option StoreEnding). Took past from.connection from.time body told moved x (added (e ∷ []) (act ∷ []) past)) (sym ends)
          (subst (λ (x : Option Move). Took past from.connection from.time body told x (ending_by_request r)
          (added (e ∷ []) (act ∷ []) past)) (sym none)
          (subst (λ (x : List Output). Took past from.connection from.time body x None (ending_by_request r)
          (added (e ∷ []) (act ∷ []) past)) (sym same_sent) t)),
      stands_after named named' keeps keeps' room room' held after books kept past e act h
          (is_more past from.connection from.session from.xid after.last from.time r m.command m.is_command on a.does.means.last h.once
          h.quiet)
          (kept_naming named named' past.naming names h.naming) a.does.means
          (are_next named keeps room held after books asked kept past from r sent h on time m a b)
          (keeps_on (omega (arith, made)) past.order (omega arith) (keeps_mid past.order h.kept)) (omega (arith, o, made, left)),
    )
