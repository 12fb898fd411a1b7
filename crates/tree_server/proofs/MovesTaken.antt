-- A connect request that is given a live session of another connection.
use Rattle.std.proofs.Common.{◌≡◌, ◌≢◌, ℕ, ℤ, pos, ◌+◌, ◌<◌, ◌^◌, ◌-◌, ◌+ℤ◌, false, List, [], ◌∷◌, ◌++◌, length, length-append, append_assoc, min, map, Some, None, refl, sym, ap, ◌∙◌, subst, arith}
use Rattle.std.specs.Prelude.{◌==◌}
use Rattle.std.proofs.lemmas.Bool.{ne_eqb}
use Rattle.std.proofs.lemmas.Int.{ints}
use Rattle.zk_records.specs.declared.connect.ConnectRequest.{ConnectRequest}
use Rattle.tree_state.specs.declared.held.Held.{Held}
use Rattle.tree_state.specs.declared.message.Output.{Output}
use Rattle.tree_state.specs.Changes.{Naming}
use Rattle.tree_state.specs.State.{State, Session, session_at, session_of, without_connection, next_zxid}
use Rattle.tree_state.specs.Step.{loses, step, connected_at, lost}
use Rattle.tree_state.specs.Trees.{Means, Does}
use Rattle.tree_state.proofs.SessionTies.{loses as loses_its}
use Rattle.store_side.specs.declared.entry.Entry.{Entry}
use Rattle.store_side.specs.declared.entry.Entry.TheVariants.{Lost}
use Rattle.store_side.specs.declared.ending.StoreEnding.TheVariants as endings
use Rattle.store_side.specs.Calls.{IsRefused, full, lost_first, ended_by_move}
use Rattle.store_side.specs.Out.{outputs}
use Rattle.store_side.specs.Owed.{IsTime, reserves}
use Rattle.store_side.specs.Past.{Past, after_all, state_of}
use Rattle.store_side.proofs.Appended.{outputs_two}
use Rattle.tree_server.specs.declared.books.Books.{Books}
use Rattle.tree_server.specs.declared.connecting.Offer.{Offer}
use Rattle.tree_server.specs.declared.dues.Due.{Due}
use Rattle.tree_server.specs.Machines.{IsCounted, Stands, Took, added, ended_move}
use Rattle.tree_server.specs.Offers.{IsOffered, Puts, HasMore, Replaces, entry_of}
use Rattle.tree_server.specs.Times.{due_of}
use Rattle.tree_server.proofs.ConnectsTaken.{ConnectsTo, does_offered, sendable, ends_not, joined_is, full_so, move_booked, put_kept, within}
use Rattle.tree_server.proofs.DuesKept.{distinct_moved, distinct_lost, dues_lost, timely_moved, timely_lost}
use Rattle.tree_server.proofs.Joined.{lost_connected, at_lost, lost_at, lost_due}
use Rattle.tree_server.proofs.Offered.{act_of, joined, step_joined, step_lost, after_moved, move_grows, move_adds, one_frame, its_move, on_its}
use Rattle.tree_server.proofs.Replaced.{dues_put}
use Rattle.tree_server.proofs.Reserves.{reserves_moved, reserves_lost}
use Rattle.tree_server.proofs.Standing.{Grows, Holding, Booked, Follows, holding, counted_more, stands_more}

-- ---- the connection that had the session is another one

not_its : (c d : ℕ) (k : ℤ) (xs : List Session) → session_of c xs ≡ None → session_of d xs ≡ Some k → (c == d) ≡ false
not_its c d k xs none live = ne_eqb c d other
  where
    other : c ≡ d → ⊥
    other e = let s : session_of d xs ≡ None = subst (λ (i : ℕ). session_of i xs ≡ None) e none in absurd cc

-- the state where that connection is lost, and then the session moves
moved_state : Offer → ℕ → Session → State → State
moved_state offer d x s = connected_at (Some (without_connection d x)) offer.given offer.at offer.connection (lost d s)

joined_lost : (offer : Offer) (d : ℕ) (s : State) (x : Session) → offer.given.session ≢ pos 0
    → session_at offer.given.session s.sessions ≡ Some x
    → joined offer (lost d s) ≡ moved_state offer d x s
unfolding moved_state
joined_lost offer d s x some live = joined_is offer (lost d s) (Some (without_connection d x)) some (lost_at d offer.given.session s x live)

-- the other order comes to the same
lost_joined : (offer : Offer) (d : ℕ) (s : State) (x : Session) → (offer.connection == d) ≡ false → offer.given.session ≢ pos 0
    → session_at offer.given.session s.sessions ≡ Some x → lost d (joined offer s) ≡ joined offer (lost d s)
unfolding joined
lost_joined offer d s x apart some live = lost_connected offer.given offer.at offer.connection d s x apart some live

moved_after : (past : Past) (asked : ConnectRequest) (offer : Offer) (d : ℕ) (x : Session) → offer.given.session ≢ pos 0
    → session_at offer.given.session (state_of past).sessions ≡ Some x
    → after_all past.naming (state_of past) (loses d ∷ act_of asked offer ∷ []) ≡ moved_state offer d x (state_of past)
moved_after past asked offer d x some live = after_moved past.naming asked offer d (state_of past)
    ∙ joined_lost offer d (state_of past) x some live

-- ---- what is in that state

lost_off : (d : ℕ) (x : Session) → x.connection ≡ Some d → (without_connection d x).connection ≡ None
lost_off d x on = ap (λ (y : Session). y.connection) (loses_its d x on)

moved_owes : (named : List ℕ → ℕ → List ℕ → Type 0) (keeps : List Entry → Type 0) (room : ℕ) (held : Held) (books : Books) (past : Past)
    (offer : Offer) (d : ℕ) (x : Session)
    → Stands named keeps room held books past → session_at offer.given.session (state_of past).sessions ≡ Some x → x.connection ≡ Some d
    → reserves (moved_state offer d x (state_of past)).sessions ≡ reserves (state_of past).sessions
unfolding moved_state connected_at lost
moved_owes named keeps room held books past offer d x s live on =
    let xs = (state_of past).sessions in
    let a =
    reserves_lost d offer.given.session xs s.distinct s.means.sessions.one
    (on_its named keeps room held books past d offer.given.session x s live on) in
    let b =
    reserves_moved offer.given offer.at offer.connection (map (without_connection d) xs) (without_connection d x)
    (distinct_lost d xs s.distinct)
    (at_lost d offer.given.session xs x live) (lost_off d x on) in
    b ∙ a

record Moves (named : List ℕ → ℕ → List ℕ → Type 0) (keeps : List Entry → Type 0) (room : ℕ) (held : Held) (books : Books) (past : Past)
    (body : List ℕ) (asked : ConnectRequest) (offer : Offer)
    (d : ℕ) (x : Session) : Type 0 where
  stands : Stands named keeps room held books past
  offered : IsOffered past body asked offer
  some : offer.given.session ≢ pos 0
  live : session_at offer.given.session (state_of past).sessions ≡ Some x
  on : x.connection ≡ Some d

moves_grow : (named : List ℕ → ℕ → List ℕ → Type 0) (keeps : List Entry → Type 0) (room : ℕ) (held : Held) (books : Books) (past : Past)
    (body : List ℕ) (asked : ConnectRequest) (offer : Offer)
    (d : ℕ) (x : Session) (zxid : ℤ) → Moves named keeps room held books past body asked offer d x
    → zxid ≡ (moved_state offer d x (state_of past)).last
    → Grows past (Lost d ∷ entry_of asked offer zxid ∷ []) (loses d ∷ act_of asked offer ∷ [])
moves_grow named keeps room held books past body asked offer d x zxid j last =
    move_grows named keeps room held books past body asked offer zxid d x j.stands j.offered j.live j.on
    (last ∙ sym (ap (λ (t : State). t.last) (joined_lost offer d (state_of past) x j.some j.live)))

pub moved_full : (named : List ℕ → ℕ → List ℕ → Type 0) (keeps : List Entry → Type 0) (room : ℕ) (held : Held) (books : Books)
    (past : Past) (body : List ℕ) (asked : ConnectRequest) (offer : Offer)
    (d : ℕ) (x : Session) → Stands named keeps room held books past → IsOffered past body asked offer → offer.given.session ≢ pos 0
    → session_at offer.given.session (state_of past).sessions ≡ Some x → x.connection ≡ Some d
    → books.limit < books.entries + books.owed + 2 → IsRefused past offer.connection offer.at body endings.JournalFull
moved_full named keeps room held books past body asked offer d x s h some live on over =
    let j : Moves named keeps room held books past body asked offer d x =
    record { stands = s; offered = h; some = some; live = live; on = on } in
    let t = moved_state offer d x (state_of past) in
    let entries = Lost d ∷ entry_of asked offer t.last ∷ [] in
    let acts = loses d ∷ act_of asked offer ∷ [] in
    let g = moves_grow named keeps room held books past body asked offer d x t.last j refl in
    let o = s.owes in
    full entries acts (move_adds past body asked offer t.last d x h live on g)
    (full_so named keeps room held books past entries acts t (reserves (state_of past).sessions) 2 s
    (moved_after past asked offer d x some live)
    (moved_owes named keeps room held books past offer d x s live on) (omega arith) over)

-- ---- what is taken

move_sent : (naming : Naming) (s : State) (asked : ConnectRequest) (offer : Offer) (d : ℕ)
    → outputs naming s (loses d ∷ act_of asked offer ∷ []) ≡ (step naming s (act_of asked offer)).outputs
unfolding step act_of
move_sent naming s asked offer d = outputs_two naming s (loses d) (act_of asked offer)

move_ends : (asked : ConnectRequest) (offer : Offer) (zxid : ℤ) (d : ℕ) (q : ℕ)
    → ended_by_move (Some d) (entry_of asked offer zxid ∷ []) q ≡ ended_move
    (Some (record { connection = d; session = offer.given.session })) q
unfolding ended_by_move ended_move entry_of
move_ends asked offer zxid d q = refl

move_took : (past : Past) (body : List ℕ) (asked : ConnectRequest) (offer : Offer) (zxid : ℤ) (d : ℕ) (x : Session) (after : Held)
    (sent : List Output)
    → IsOffered past body asked offer → offer.given.session ≢ pos 0 → session_at offer.given.session (state_of past).sessions ≡ Some x
    → x.connection ≡ Some d
    → Grows past (Lost d ∷ entry_of asked offer zxid ∷ []) (loses d ∷ act_of asked offer ∷ [])
    → Does past.naming (state_of past) (act_of asked offer) after sent
    → Took past offer.connection offer.at body sent (Some (record { connection = d; session = offer.given.session })) None
    (added (Lost d ∷ entry_of asked offer zxid ∷ []) (loses d ∷ act_of asked offer ∷ []) past)
unfolding lost_first
move_took past body asked offer zxid d x after sent h some live on g does = record {
  entries = Lost d ∷ entry_of asked offer zxid ∷ [];
  acts = loses d ∷ act_of asked offer ∷ [];
  adds = record {
    moved = Some d;
    frames = entry_of asked offer zxid ∷ [];
    entries_are = refl;
    spelled = one_frame past body asked offer zxid h;
    moves = its_move (state_of past) d asked offer zxid x live on;
    are_acts = g.are_acts;
    legal = g.legal;
  };
  moved_is = refl;
  moved_ends = λ q. move_ends asked offer zxid d q;
  ending_is = ends_not asked offer zxid some;
  sent_is = does.sent ∙ sym (move_sent past.naming (state_of past) asked offer d);
  can_send = sendable past.naming (state_of past) asked offer sent h.long does.sent;
  new_is = refl;
}

-- two entries were put where there is room
puts_kept : (named : List ℕ → ℕ → List ℕ → Type 0) (keeps mid keeps' : List Entry → Type 0) (room between room' : ℕ) (held : Held)
    (books : Books) (past : Past) (e f : Entry)
    → Stands named keeps room held books past → HasMore books room 2 → Puts keeps room mid between e → Puts mid between keeps' room' f
    → keeps' (past.order ++ e ∷ f ∷ [])
puts_kept named keeps mid keeps' room between room' held books past e f s has first second =
    let k = put_kept named keeps mid room between held books past 2 e s has (omega arith) first in
    let r = has.roomy in
    let w = has.within in
    let c = s.counted in
    let l = s.limit in
    let i = s.small in
    let q = first.room_left in
    let a = length-append past.order (e ∷ []) in
    subst keeps' (append_assoc past.order (e ∷ []) (f ∷ [])) (second.kept (omega arith) (past.order ++ e ∷ []) (omega arith) k)

moved_follows : (named : List ℕ → ℕ → List ℕ → Type 0) (keeps mid keeps' : List Entry → Type 0) (room between room' : ℕ)
    (held after : Held) (books : Books) (past : Past) (body : List ℕ) (asked : ConnectRequest)
    (offer : Offer) (d : ℕ) (x : Session) (was : Due) (dues : List Due) (f : Entry)
    → Moves named keeps room held books past body asked offer d x → HasMore books room 2
    → Puts keeps room mid between (Lost d) → Puts mid between keeps' room' f → Means after (moved_state offer d x (state_of past))
    → was ≡ due_of x → IsTime offer.at
    → Replaces (Some was) (record { at = offer.at +ℤ offer.given.timeout; session = offer.given.session }) books.dues dues
    → Follows keeps' room' after dues (past.order ++ Lost d ∷ f ∷ []) books.owed (moved_state offer d x (state_of past))
unfolding moved_state connected_at lost
moved_follows named keeps mid keeps' room between room' held after books past body asked offer d x was dues f j has first second m is time
    times =
    let s = j.stands in
    let xs = (state_of past).sessions in
    let ys = map (without_connection d) xs in
    let in_time = within past body asked offer j.offered j.some in
    let r = has.roomy in
    let q = first.room_left in
    let p = second.room_left in
    record {
      means = m;
      kept = puts_kept named keeps mid keeps' room between room' held books past (Lost d) f s has first second;
      roomy = omega arith;
      owes = s.owes ∙ sym (moved_owes named keeps room held books past offer d x s j.live j.on);
      dues_are =
          dues_put offer.given offer.at offer.connection ys (without_connection d x) was books.dues dues (distinct_lost d xs s.distinct)
          (at_lost d offer.given.session xs x j.live) (is ∙ sym (lost_due d x)) (dues_lost d xs books.dues s.distinct s.dues) times;
      timely = timely_moved offer.given offer.at offer.connection ys time in_time.least in_time.most (timely_lost d xs s.timely);
      distinct = distinct_moved offer.given offer.at offer.connection ys (distinct_lost d xs s.distinct);
    }

moved_greatest : (offer : Offer) (d : ℕ) (x : Session) (s : State) → (moved_state offer d x s).greatest ≡ s.greatest
unfolding moved_state connected_at lost
moved_greatest offer d x s = refl

moved_last : (offer : Offer) (d : ℕ) (x : Session) (s : State) → (moved_state offer d x s).last ≡ s.last +ℤ pos 1
unfolding moved_state connected_at lost next_zxid
moved_last offer d x s = refl

-- the tree connects, and then loses the other connection
moved_means : (named : List ℕ → ℕ → List ℕ → Type 0) (keeps : List Entry → Type 0) (room : ℕ) (held joining after : Held) (books : Books)
    (past : Past) (body : List ℕ) (asked : ConnectRequest)
    (offer : Offer) (d : ℕ) (x : Session) (sent : List Output) → Moves named keeps room held books past body asked offer d x
    → Does past.naming (state_of past) (act_of asked offer) joining sent
    → ((naming : Naming) (s : State) → Means joining s → Does naming s (loses d) after [])
    → Means after (moved_state offer d x (state_of past))
moved_means named keeps room held joining after books past body asked offer d x sent j does loss =
    let s = j.stands in
    let t = state_of past in
    let apart = not_its offer.connection d offer.given.session t.sessions (s.quiet offer.connection j.offered.no_connect).sessions_are
    (on_its named keeps room held books past d offer.given.session x s j.live j.on) in
    let m : Means joining (joined offer t) = subst (Means joining) (step_joined past.naming asked offer t) does.means in
    subst (Means after) (step_lost past.naming (joined offer t) d ∙ lost_joined offer d t x apart j.some j.live
    ∙ joined_lost offer d t x j.some j.live)
    (loss past.naming (joined offer t) m).means

pub moved_taken : {M : Type 0} (f : M → List ℕ → ℕ → List ℕ → Type 0) (n n' : M) (keeps mid keeps' : List Entry → Type 0)
    (room between room' : ℕ) (held joining after now held' : Held)
    (books changed next books' : Books) (past : Past) (body : List ℕ) (asked : ConnectRequest) (offer : Offer) (sent : List Output)
    (x : Session) (was : Due) (d : ℕ) (session : ℤ)
    → Stands (f n) keeps room held books past × HasMore books room 2 → IsOffered past body asked offer → offer.given.session ≢ pos 0
    → session_at offer.given.session (state_of past).sessions ≡ Some x → x.connection ≡ Some d → was ≡ due_of x → IsTime offer.at
    → n' ≡ n → ConnectsTo held asked offer joining sent
    → ((naming : Naming) (s : State) → Means joining s → Does naming s (loses d) after [])
    → now ≡ after → held' ≡ now → Puts keeps room mid between (Lost d) → Puts mid between keeps' room' (entry_of asked offer now.last)
    → changed ≡ record books { dues = changed.dues }
    → Replaces (Some was) (record { at = offer.at +ℤ offer.given.timeout; session = offer.given.session }) books.dues changed.dues
    → next ≡ record changed { entries = min (changed.entries + 1) (2 ^ 64 - 1) }
    → books' ≡ record next { entries = min (next.entries + 1) (2 ^ 64 - 1) } → session ≡ offer.given.session
    → (new : Past) × Took past offer.connection offer.at body sent (Some (record { connection = d; session = session })) None new
    × Stands (f n') keeps' room' held' books' new
moved_taken f n n' keeps mid keeps' room between room' held joining after now held' books changed next books' past body asked offer sent x
    was d session sh h some live on is time
    named connecting loss same_now same first second changing times put put_more number =
    let s = sh.0 in
    let has = sh.1 in
    let t = state_of past in
    let j : Moves (f n) keeps room held books past body asked offer d x =
    record { stands = s; offered = h; some = some; live = live; on = on } in
    let does = does_offered (f n) keeps room held joining books past body asked offer sent s h connecting in
    let m = moved_means (f n) keeps room held joining after books past body asked offer d x sent j does loss in
    let u = moved_state offer d x t in
    let m1 : Means now u = subst (λ (i : Held). Means i u) (sym same_now) m in
    let m2 : Means held' u = subst (λ (i : Held). Means i u) (sym same) m1 in
    let entry = entry_of asked offer now.last in
    let entries = Lost d ∷ entry ∷ [] in
    let acts = loses d ∷ act_of asked offer ∷ [] in
    let g = moves_grow (f n) keeps room held books past body asked offer d x now.last j m1.last in
    let w = has.within in
    let l = s.limit in
    let i = s.small in
    let e = moved_greatest offer d x t in
    let z = moved_last offer d x t in
    let b = move_booked books changed next books' changing put put_more (omega arith) in
    let a = s.greatest in
    let kept : books'.dues ≡ changed.dues = ap (λ (c : Books). c.dues) put_more ∙ ap (λ (c : Books). c.dues) put in
    let follows =
    moved_follows (f n) keeps mid keeps' room between room' held held' books past body asked offer d x was books'.dues entry j has first
    second m2 is time
    (subst (λ (ds : List Due). Replaces (Some was) (record {
      at = offer.at +ℤ offer.given.timeout;
      session =
          offer.given.session;
    }) books.dues ds) (sym kept) times) in
    let top : Booked books books' (books.entries + length entries) books.owed u.greatest =
    record { key = b.key; limit = b.limit; counts = b.counts; owes = b.owes; tops = b.tops ∙ a ∙ sym e } in
    let k = holding (f n) keeps keeps' room room' held held' books books' past entries u books.owed s top follows (omega arith)
    (counted_more u.greatest u.greatest books.entries 2 (subst (λ (y : ℤ). IsCounted y books.entries) (a ∙ sym e) s.given)
    (omega (arith, ints)) (omega (arith, ints)) (omega arith))
    (counted_more t.last u.last books.entries 2 s.drawn (omega (arith, ints)) (omega (arith, ints)) (omega arith)) in
    let took : Took past offer.connection offer.at body sent (Some (record { connection = d; session = session })) None
    (added entries acts past) =
    subst (λ (y : ℤ). Took past offer.connection offer.at body sent (Some (record { connection = d; session = y })) None
    (added entries acts past)) (sym number)
    (move_took past body asked offer now.last d x joining sent h some live on g does) in (
      added entries acts past,
      took,
      stands_more f n n' keeps keeps' room room' held held' books books' past entries acts named s g
          (subst (Holding keeps' room' held' books' past (past.order ++ entries)) (sym (moved_after past asked offer d x some live)) k),
    )
