-- A connect request that was taken, case by case, and one for which there is no room.
use Rattle.std.proofs.Common.{◌≡◌, ◌≢◌, ℕ, ℤ, pos, ◌+◌, ◌<◌, ◌≤◌, ◌^◌, ◌-◌, ◌+ℤ◌, Bool, cond, List, [], ◌∷◌, ◌++◌, length, length-append, min, Option, Some, None, Result, Ok, Err, IfErr, IsErrAnd, All, int_eq, refl, sym, ap, ◌∙◌, subst, inl, inr, arith}
use Rattle.std.specs.Cmp.{int_eq_equiv}
use Rattle.std.proofs.lemmas.Bool.{cases_Bool}
use Rattle.std.proofs.lemmas.Int.{ints}
use Rattle.std.proofs.lemmas.List.Elements.{All-head, All-tail}
use Rattle.zk_records.specs.declared.connect.ConnectRequest.{ConnectRequest}
use Rattle.tree_state.specs.declared.held.Held.{Held}
use Rattle.tree_state.specs.declared.message.Output.{Output}
use Rattle.tree_state.specs.declared.session.Given.{Given}
use Rattle.tree_state.specs.Changes.{Naming}
use Rattle.tree_state.specs.State.{State, Session, is_numbered, session_at, next_zxid}
use Rattle.tree_state.specs.Step.{Act, connects, step, given_to, connected_at, with_moved, with_session}
use Rattle.tree_state.specs.Trees.{Means, IsGiven, Does, CanConnect}
use Rattle.tree_state.proofs.SessionLists.{AreDistinct, number_of, none_live, at_first, at_others}
use Rattle.store_side.specs.declared.entry.Entry.{Entry}
use Rattle.store_side.specs.declared.ending.StoreEnding.{StoreEnding}
use Rattle.store_side.specs.declared.ending.StoreEnding.TheVariants as endings
use Rattle.store_side.specs.Calls.{IsMoved, IsRefused, full, lost_first, owed_after, ended_by_move, ending_by, ending_after}
use Rattle.store_side.specs.Fitting.{AllCanBeSent}
use Rattle.store_side.specs.Orders.{IsFree, next_session}
use Rattle.store_side.specs.Owed.{IsTime, reserves}
use Rattle.store_side.specs.Past.{Past, after_all, password_of, state_of}
use Rattle.store_side.proofs.Appended.{outputs_one}
use Rattle.store_side.proofs.CanSend.{all_sent}
use Rattle.tree_server.specs.declared.books.Books.{Books}
use Rattle.tree_server.specs.declared.connecting.Offer.{Offer}
use Rattle.tree_server.specs.declared.dues.Due.{Due}
use Rattle.tree_server.specs.Machines.{IsCounted, Stands, Took, NotTaken, added, ended_move}
use Rattle.tree_server.specs.Offers.{IsOffered, Puts, HasMore, HasNoMore, Replaces, entry_of}
use Rattle.tree_server.specs.Times.{AreDues, IsTimely, due_of}
use Rattle.tree_server.proofs.DuesKept.{distinct_opened, distinct_moved, timely_opened, timely_moved}
use Rattle.tree_server.proofs.Joined.{not_zero, connected_none, connected_is, given_timely, given_next, IsWithin}
use Rattle.tree_server.proofs.Offered.{act_of, joined, step_joined, after_joined, offered_given, offered_can, connect_grows, connect_adds, one_frame}
use Rattle.tree_server.proofs.Replaced.{dues_new, dues_put}
use Rattle.tree_server.proofs.Reserves.{reserves_opened, reserves_moved}
use Rattle.tree_server.proofs.Standing.{Grows, Holding, Booked, Follows, holding, counted_more, stands_as, stands_more}

-- what the tree does at a connect request
abbrev pub ConnectsTo : Held → ConnectRequest → Offer → Held → List Output → Type 0
ConnectsTo before asked offer after sent = (naming : Naming) (s : State) → Means before s → CanConnect s offer.connection offer.fresh
    → Does naming s (connects offer.connection asked (given_to s.sessions asked offer.fresh offer.password) offer.at) after sent

pub does_offered : (named : List ℕ → ℕ → List ℕ → Type 0) (keeps : List Entry → Type 0) (room : ℕ) (held after : Held) (books : Books)
    (past : Past) (body : List ℕ) (asked : ConnectRequest) (offer : Offer)
    (sent : List Output) → Stands named keeps room held books past → IsOffered past body asked offer
    → ConnectsTo held asked offer after sent
    → Does past.naming (state_of past) (act_of asked offer) after sent
unfolding act_of
does_offered named keeps room held after books past body asked offer sent s h d =
    subst (λ (g : Given). Does past.naming (state_of past) (connects offer.connection asked g offer.at) after sent)
    (offered_given past body asked offer h)
    (d past.naming (state_of past) s.means (offered_can named keeps room held books past body asked offer s h))

-- ---- room

-- room was made for so many more
pub made_room : {M : Type 0} (f : M → List ℕ → ℕ → List ℕ → Type 0) (n n' : M) (keeps keeps' : List Entry → Type 0) (room room' : ℕ)
    (held held' : Held) (books books' : Books) (past : Past) (more : ℕ)
    → n' ≡ n → ((order : List Entry) → keeps order → keeps' order) → held' ≡ held → books' ≡ books
    → (books.limit < 2 ^ 63 → HasMore books room' more)
    → Stands (f n) keeps room held books past → Stands (f n') keeps' room' held' books' past × HasMore books' room' more
made_room f n n' keeps keeps' room room' held held' books books' past more named kept same books_are has s =
    let l = s.limit in
    let i = s.small in
    let m = has (omega arith) in
    let r = m.roomy in (
      stands_as f n n' keeps keeps' room room' held held' books books' past named kept (omega arith) same books_are s,
      subst (λ (b : Books). HasMore b room' more) (sym books_are) m,
    )

-- or none
pub no_room : {M : Type 0} (f : M → List ℕ → ℕ → List ℕ → Type 0) (n n' : M) (keeps keeps' : List Entry → Type 0) (room room' : ℕ)
    (held held' : Held) (books books' : Books) (past : Past)
    → n' ≡ n → ((order : List Entry) → keeps order → keeps' order) → held' ≡ held → books' ≡ books → room ≤ room'
    → Stands (f n) keeps room held books past → Stands (f n') keeps' room' held' books' past
no_room f n n' keeps keeps' room room' held held' books books' past named kept same books_are more s =
    let r = s.roomy in
    stands_as f n n' keeps keeps' room room' held held' books books' past named kept (omega arith) same books_are s

-- an entry was put where there is room
pub put_kept : (named : List ℕ → ℕ → List ℕ → Type 0) (keeps keeps' : List Entry → Type 0) (room room' : ℕ) (held : Held) (books : Books)
    (past : Past) (more : ℕ) (entry : Entry)
    → Stands named keeps room held books past → HasMore books room more → 1 ≤ more → Puts keeps room keeps' room' entry
    → keeps' (past.order ++ entry ∷ [])
put_kept named keeps keeps' room room' held books past more entry s has some puts =
    let r = has.roomy in
    let w = has.within in
    let c = s.counted in
    let l = s.limit in
    let i = s.small in
    puts.kept (omega arith) past.order (omega arith) s.kept

-- ---- the books

put_booked : (books books' : Books) → books' ≡ record books { entries = min (books.entries + 1) (2 ^ 64 - 1) } → books.entries + 1 < 2 ^ 64
    → Booked books books' (books.entries + 1) books.owed books.greatest
put_booked books books' e small =
    let n : books'.entries ≡ min (books.entries + 1) (2 ^ 64 - 1) = ap (λ (b : Books). b.entries) e in
    record {
      key = ap (λ (b : Books). b.passwords) e;
      limit = ap (λ (b : Books). b.limit) e;
      counts = omega arith;
      owes = ap (λ (b : Books). b.owed) e;
      tops = ap (λ (b : Books). b.greatest) e;
    }

join_booked : (books mid books' : Books) (owes owed : ℕ) (greatest : ℤ) → mid ≡ record books { dues = mid.dues }
    → books' ≡ record mid { owed = owes; greatest = greatest; entries = min (mid.entries + 1) (2 ^ 64 - 1) } → owes ≡ owed
    → books.entries + 1 < 2 ^ 64
    → Booked books books' (books.entries + 1) owed greatest
join_booked books mid books' owes owed greatest m e o small =
    let i : mid.entries ≡ books.entries = ap (λ (b : Books). b.entries) m in
    let n : books'.entries ≡ min (mid.entries + 1) (2 ^ 64 - 1) = ap (λ (b : Books). b.entries) e in
    record {
      key = ap (λ (b : Books). b.passwords) e ∙ ap (λ (b : Books). b.passwords) m;
      limit = ap (λ (b : Books). b.limit) e ∙ ap (λ (b : Books). b.limit) m;
      counts = omega arith;
      owes = ap (λ (b : Books). b.owed) e ∙ o;
      tops = ap (λ (b : Books). b.greatest) e;
    }

pub move_booked : (books mid next books' : Books) → mid ≡ record books { dues = mid.dues }
    → next ≡ record mid { entries = min (mid.entries + 1) (2 ^ 64 - 1) }
    → books' ≡ record next { entries = min (next.entries + 1) (2 ^ 64 - 1) } → books.entries + 2 < 2 ^ 64
    → Booked books books' (books.entries + 2) books.owed books.greatest
move_booked books mid next books' m e d small =
    let i : mid.entries ≡ books.entries = ap (λ (b : Books). b.entries) m in
    let j : next.entries ≡ min (mid.entries + 1) (2 ^ 64 - 1) = ap (λ (b : Books). b.entries) e in
    let n : books'.entries ≡ min (next.entries + 1) (2 ^ 64 - 1) = ap (λ (b : Books). b.entries) d in
    record {
      key = ap (λ (b : Books). b.passwords) d ∙ ap (λ (b : Books). b.passwords) e ∙ ap (λ (b : Books). b.passwords) m;
      limit = ap (λ (b : Books). b.limit) d ∙ ap (λ (b : Books). b.limit) e ∙ ap (λ (b : Books). b.limit) m;
      counts = omega arith;
      owes = ap (λ (b : Books). b.owed) d ∙ ap (λ (b : Books). b.owed) e ∙ ap (λ (b : Books). b.owed) m;
      tops = ap (λ (b : Books). b.greatest) d ∙ ap (λ (b : Books). b.greatest) e ∙ ap (λ (b : Books). b.greatest) m;
    }

-- ---- what is taken

pub sendable : (naming : Naming) (s : State) (asked : ConnectRequest) (offer : Offer) (sent : List Output)
    → length offer.given.password ≡ 16
    → sent ≡ (step naming s (act_of asked offer)).outputs → AllCanBeSent sent
unfolding act_of
sendable naming s asked offer sent long e =
    subst AllCanBeSent (sym e) (all_sent.connected naming s offer.connection asked offer.given offer.at long)

connect_took : (past : Past) (body : List ℕ) (asked : ConnectRequest) (offer : Offer) (zxid : ℤ) (after : Held) (sent : List Output)
    (ending : Option StoreEnding)
    → IsOffered past body asked offer → Grows past (entry_of asked offer zxid ∷ []) (act_of asked offer ∷ [])
    → ending ≡ ending_after (entry_of asked offer zxid ∷ [])
    → Does past.naming (state_of past) (act_of asked offer) after sent
    → Took past offer.connection offer.at body sent None ending (added (entry_of asked offer zxid ∷ []) (act_of asked offer ∷ []) past)
unfolding lost_first IsMoved ended_by_move ended_move
connect_took past body asked offer zxid after sent ending h g ends d = record {
  entries = entry_of asked offer zxid ∷ [];
  acts = act_of asked offer ∷ [];
  adds = record {
    moved = None;
    frames = entry_of asked offer zxid ∷ [];
    entries_are = refl;
    spelled = one_frame past body asked offer zxid h;
    moves = tt;
    are_acts = g.are_acts;
    legal = g.legal;
  };
  moved_is = refl;
  moved_ends = λ x. refl;
  ending_is = ends;
  sent_is = d.sent ∙ sym (outputs_one past.naming (state_of past) (act_of asked offer));
  can_send = sendable past.naming (state_of past) asked offer sent h.long d.sent;
  new_is = refl;
}

-- ---- no session is given

ends_none : (asked : ConnectRequest) (offer : Offer) (zxid : ℤ) → offer.given.session ≡ pos 0
    → Some (endings.Expired asked.session) ≡ ending_after (entry_of asked offer zxid ∷ [])
unfolding ending_after ending_by entry_of
ends_none asked offer zxid zero =
    sym (ap (λ (k : ℤ). cond (int_eq k (pos 0)) (Some (endings.Expired asked.session)) None) zero
    ∙ ap (λ (b : Bool). cond b (Some (endings.Expired asked.session)) None) (int_eq_equiv.refl (pos 0)))

joined_none : (offer : Offer) (s : State) → offer.given.session ≡ pos 0 → joined offer s ≡ s
unfolding joined
joined_none offer s zero = connected_none offer.given offer.at offer.connection s zero

live_has : (P : Session → Type 0) (k : ℤ) (xs : List Session) (x : Session) → All P xs → session_at k xs ≡ Some x → P x
live_has P k [] x h live = absurd (none_live k x live)
live_has P k (y ∷ ys) x h live = elim (cases_Bool (is_numbered k y)) [
  | inl numbered ↦ let e = at_first k y ys numbered in let s : y ≡ x = cc in subst P s (All-head P y ys h)
  | inr other ↦ live_has P k ys x (All-tail P y ys h) (sym (at_others k y ys other) ∙ live)
]

above : (s : State) (k : ℤ) (x : Session) → k ≡ pos 0 → x.number ≡ k → IsGiven s x → ⊥
above s k x zero is h = let a = h.above in omega (arith, ints)

-- no session has the number 0
nowhere : (s : State) (k : ℤ) (o : Option Session) → All (IsGiven s) s.sessions → k ≡ pos 0 → session_at k s.sessions ≡ o → IsFree o
unfolding IsFree
nowhere s k None h zero e = tt
nowhere s k (Some x) h zero e = absurd (above s k x zero (number_of k s.sessions x e) (live_has (IsGiven s) k s.sessions x h e))

none_grows : (named : List ℕ → ℕ → List ℕ → Type 0) (keeps : List Entry → Type 0) (room : ℕ) (held : Held) (books : Books) (past : Past)
    (body : List ℕ) (asked : ConnectRequest) (offer : Offer) (zxid : ℤ)
    → Stands named keeps room held books past → IsOffered past body asked offer → offer.given.session ≡ pos 0 → zxid ≡ (state_of past).last
    → Grows past (entry_of asked offer zxid ∷ []) (act_of asked offer ∷ [])
none_grows named keeps room held books past body asked offer zxid s h zero last =
    connect_grows named keeps room held books past body asked offer zxid s h
    (nowhere (state_of past) offer.given.session (session_at offer.given.session (state_of past).sessions) s.means.numbers zero refl)
    (last ∙ sym (ap (λ (t : State). t.last) (joined_none offer (state_of past) zero)))

none_after : (past : Past) (asked : ConnectRequest) (offer : Offer) → offer.given.session ≡ pos 0
    → after_all past.naming (state_of past) (act_of asked offer ∷ []) ≡ state_of past
none_after past asked offer zero = after_joined past.naming asked offer (state_of past) ∙ joined_none offer (state_of past) zero

pub none_taken : {M : Type 0} (f : M → List ℕ → ℕ → List ℕ → Type 0) (n n' : M) (keeps keeps' : List Entry → Type 0) (room room' : ℕ)
    (held after held' : Held) (books books' : Books)
    (past : Past) (body : List ℕ) (asked : ConnectRequest) (offer : Offer) (sent : List Output)
    → Stands (f n) keeps room held books past × HasMore books room 1 → IsOffered past body asked offer → offer.given.session ≡ pos 0
    → n' ≡ n → held' ≡ after → ConnectsTo held asked offer after sent → Puts keeps room keeps' room' (entry_of asked offer after.last)
    → books' ≡ record books { entries = min (books.entries + 1) (2 ^ 64 - 1) }
    → (new : Past) × Took past offer.connection offer.at body sent None (Some (endings.Expired asked.session)) new
    × Stands (f n') keeps' room' held' books' new
none_taken f n n' keeps keeps' room room' held after held' books books' past body asked offer sent sh h zero named same does puts put =
    let s = sh.0 in
    let has = sh.1 in
    let t = state_of past in
    let d = does_offered (f n) keeps room held after books past body asked offer sent s h does in
    let m : Means after t = subst (Means after) (step_joined past.naming asked offer t ∙ joined_none offer t zero) d.means in
    let g = none_grows (f n) keeps room held books past body asked offer after.last s h zero m.last in
    let w = has.within in
    let l = s.limit in
    let i = s.small in
    let r = has.roomy in
    let q = puts.room_left in
    let b = put_booked books books' put (omega arith) in
    let e = s.greatest in
    let follows : Follows keeps' room' held' books'.dues (past.order ++ entry_of asked offer after.last ∷ []) books.owed t = record {
      means = subst (λ (x : Held). Means x t) (sym same) m;
      kept = put_kept (f n) keeps keeps' room room' held books past 1 (entry_of asked offer after.last) s has (omega arith) puts;
      roomy = omega arith;
      owes = s.owes;
      dues_are = subst (λ (x : List Due). AreDues x t.sessions) (sym (ap (λ (x : Books). x.dues) put)) s.dues;
      timely = s.timely;
      distinct = s.distinct;
    } in
    let top : Booked books books' (books.entries + length (entry_of asked offer after.last ∷ [])) books.owed t.greatest =
    record { key = b.key; limit = b.limit; counts = b.counts; owes = b.owes; tops = b.tops ∙ e } in
    let k =
    holding (f n) keeps keeps' room room' held held' books books' past (entry_of asked offer after.last ∷ []) t books.owed s top follows
    (omega arith)
    (counted_more t.greatest t.greatest books.entries 1 (subst (λ (z : ℤ). IsCounted z books.entries) e s.given) (omega (arith, ints))
    (omega (arith, ints)) (omega arith))
    (counted_more t.last t.last books.entries 1 s.drawn (omega (arith, ints)) (omega (arith, ints)) (omega arith)) in (
      added (entry_of asked offer after.last ∷ []) (act_of asked offer ∷ []) past,
      connect_took past body asked offer after.last after sent (Some (endings.Expired asked.session)) h g
          (ends_none asked offer after.last zero) d,
      stands_more f n n' keeps keeps' room room' held held' books books' past (entry_of asked offer after.last ∷ [])
          (act_of asked offer ∷ []) named s g
          (subst (Holding keeps' room' held' books' past (past.order ++ entry_of asked offer after.last ∷ []))
          (sym (none_after past asked offer zero)) k),
    )

-- there is no room
pub full_so : (named : List ℕ → ℕ → List ℕ → Type 0) (keeps : List Entry → Type 0) (room : ℕ) (held : Held) (books : Books) (past : Past)
    (entries : List Entry) (acts : List Act) (t : State) (owed more : ℕ)
    → Stands named keeps room held books past → after_all past.naming (state_of past) acts ≡ t → reserves t.sessions ≡ owed
    → length entries + owed ≡ books.owed + more
    → books.limit < books.entries + books.owed + more → past.limit < owed_after past entries acts
unfolding owed_after
full_so named keeps room held books past entries acts t owed more s at owes sum over =
    let c = s.counted in
    let l = s.limit in
    let a = length-append past.order entries in
    let r = ap (λ (u : State). reserves u.sessions) at in
    omega arith

-- an end by `?`
pub if_err : {A : Type 0} (r : Result A StoreEnding) (e : StoreEnding) (P : StoreEnding → Type 0) → IsErrAnd r (λ y. y ≡ e) → P e
    → IfErr r P
if_err (Ok x) e P h p = tt
if_err (Err y) e P h p = subst P (sym h) p

-- the reasons why no room was made
pub not_room : (books : Books) (more : ℕ) (e : StoreEnding) (past : Past) (c : ℕ) (now : ℤ) (body : List ℕ) → HasNoMore books more e
    → (books.limit < books.entries + books.owed + more → IsRefused past c now body endings.JournalFull) → NotTaken past c now body e
not_room books more e past c now body (inl memory) over = inl memory
not_room books more e past c now body (inr why) over = inr (subst (IsRefused past c now body) (sym why.0) (over why.1))

pub none_full : (named : List ℕ → ℕ → List ℕ → Type 0) (keeps : List Entry → Type 0) (room : ℕ) (held : Held) (books : Books)
    (past : Past) (body : List ℕ) (asked : ConnectRequest) (offer : Offer)
    → Stands named keeps room held books past → IsOffered past body asked offer → offer.given.session ≡ pos 0
    → books.limit < books.entries + books.owed + 1 → IsRefused past offer.connection offer.at body endings.JournalFull
none_full named keeps room held books past body asked offer s h zero over =
    let entry = entry_of asked offer (state_of past).last in
    let g = none_grows named keeps room held books past body asked offer (state_of past).last s h zero refl in
    let o = s.owes in
    full (entry ∷ []) (act_of asked offer ∷ []) (connect_adds past body asked offer (state_of past).last h g)
    (full_so named keeps room held books past (entry ∷ []) (act_of asked offer ∷ []) (state_of past) books.owed 1 s
    (none_after past asked offer zero) (sym o) (omega arith) over)

-- ---- a session is given, which is new or has no connection

pub ends_not : (asked : ConnectRequest) (offer : Offer) (zxid : ℤ) → offer.given.session ≢ pos 0
    → None ≡ ending_after (entry_of asked offer zxid ∷ [])
unfolding ending_after ending_by entry_of
ends_not asked offer zxid some =
    sym (ap (λ (b : Bool). cond b (Some (endings.Expired asked.session)) None) (not_zero offer.given.session some))

pub joined_is : (offer : Offer) (s : State) (o : Option Session) → offer.given.session ≢ pos 0
    → session_at offer.given.session s.sessions ≡ o
    → joined offer s ≡ connected_at o offer.given offer.at offer.connection s
unfolding joined
joined_is offer s o some live = connected_is offer.given offer.at offer.connection s o some live

its_after : (past : Past) (asked : ConnectRequest) (offer : Offer) (o : Option Session) → offer.given.session ≢ pos 0
    → session_at offer.given.session (state_of past).sessions ≡ o
    → after_all past.naming (state_of past) (act_of asked offer ∷ []) ≡ connected_at o offer.given offer.at offer.connection (state_of past)
its_after past asked offer o some live = after_joined past.naming asked offer (state_of past) ∙ joined_is offer (state_of past) o some live

free_at : (k : ℤ) (xs : List Session) (o : Option Session) → session_at k xs ≡ o → IsFree o → IsFree (session_at k xs)
free_at k xs o e free = subst IsFree (sym e) free

its_grows : (named : List ℕ → ℕ → List ℕ → Type 0) (keeps : List Entry → Type 0) (room : ℕ) (held : Held) (books : Books) (past : Past)
    (body : List ℕ) (asked : ConnectRequest) (offer : Offer) (zxid : ℤ)
    (o : Option Session) → Stands named keeps room held books past → IsOffered past body asked offer → offer.given.session ≢ pos 0
    → session_at offer.given.session (state_of past).sessions ≡ o → IsFree o
    → zxid ≡ (connected_at o offer.given offer.at offer.connection (state_of past)).last
    → Grows past (entry_of asked offer zxid ∷ []) (act_of asked offer ∷ [])
its_grows named keeps room held books past body asked offer zxid o s h some live free last =
    connect_grows named keeps room held books past body asked offer zxid s h
    (free_at offer.given.session (state_of past).sessions o live free)
    (last ∙ sym (ap (λ (t : State). t.last) (joined_is offer (state_of past) o some live)))

-- what is known where a session was given that is new or has no connection; it owes so much more
record Joins (named : List ℕ → ℕ → List ℕ → Type 0) (keeps : List Entry → Type 0) (room : ℕ) (held : Held) (books : Books) (past : Past)
    (body : List ℕ) (asked : ConnectRequest) (offer : Offer)
    (o : Option Session) (owes : ℕ) : Type 0 where
  stands : Stands named keeps room held books past
  offered : IsOffered past body asked offer
  some : offer.given.session ≢ pos 0
  live : session_at offer.given.session (state_of past).sessions ≡ o
  free : IsFree o
  owed : reserves (connected_at o offer.given offer.at offer.connection (state_of past)).sessions ≡ reserves (state_of past).sessions + owes

its_full : (named : List ℕ → ℕ → List ℕ → Type 0) (keeps : List Entry → Type 0) (room : ℕ) (held : Held) (books : Books) (past : Past)
    (body : List ℕ) (asked : ConnectRequest) (offer : Offer)
    (o : Option Session) (owes : ℕ) → Joins named keeps room held books past body asked offer o owes
    → books.limit < books.entries + books.owed + (1 + owes) → IsRefused past offer.connection offer.at body endings.JournalFull
its_full named keeps room held books past body asked offer o owes j over =
    let t = connected_at o offer.given offer.at offer.connection (state_of past) in
    let entry = entry_of asked offer t.last in
    let g = its_grows named keeps room held books past body asked offer t.last o j.stands j.offered j.some j.live j.free refl in
    let b = j.stands.owes in
    full (entry ∷ []) (act_of asked offer ∷ []) (connect_adds past body asked offer t.last j.offered g)
    (full_so named keeps room held books past (entry ∷ []) (act_of asked offer ∷ []) t (reserves (state_of past).sessions + owes)
    (1 + owes) j.stands
    (its_after past asked offer o j.some j.live) j.owed (omega arith) over)

its_taken : {M : Type 0} (f : M → List ℕ → ℕ → List ℕ → Type 0) (n n' : M) (keeps keeps' : List Entry → Type 0) (room room' : ℕ)
    (held after held' : Held) (books books' : Books)
    (past : Past) (body : List ℕ) (asked : ConnectRequest) (offer : Offer) (sent : List Output) (o : Option Session) (owes : ℕ)
    → Joins (f n) keeps room held books past body asked offer o owes → HasMore books room (1 + owes)
    → n' ≡ n → held' ≡ after → ConnectsTo held asked offer after sent → Puts keeps room keeps' room' (entry_of asked offer after.last)
    → Booked books books' (books.entries + 1) (books.owed + owes)
    (connected_at o offer.given offer.at offer.connection (state_of past)).greatest
    → IsCounted (connected_at o offer.given offer.at offer.connection (state_of past)).greatest (books.entries + 1)
    → (connected_at o offer.given offer.at offer.connection (state_of past)).last ≡ (state_of past).last +ℤ pos 1
    → AreDues books'.dues (connected_at o offer.given offer.at offer.connection (state_of past)).sessions
    → All IsTimely (connected_at o offer.given offer.at offer.connection (state_of past)).sessions
    → AreDistinct (connected_at o offer.given offer.at offer.connection (state_of past)).sessions
    → (new : Past) × Took past offer.connection offer.at body sent None None new × Stands (f n') keeps' room' held' books' new
its_taken f n n' keeps keeps' room room' held after held' books books' past body asked offer sent o owes j has named same does puts b
    counted next dues timely distinct =
    let s = j.stands in
    let t = connected_at o offer.given offer.at offer.connection (state_of past) in
    let d = does_offered (f n) keeps room held after books past body asked offer sent s j.offered does in
    let m : Means after t =
    subst (Means after) (step_joined past.naming asked offer (state_of past) ∙ joined_is offer (state_of past) o j.some j.live) d.means in
    let entry = entry_of asked offer after.last in
    let g = its_grows (f n) keeps room held books past body asked offer after.last o s j.offered j.some j.live j.free m.last in
    let w = has.within in
    let r = has.roomy in
    let q = puts.room_left in
    let i = s.owes in
    let follows : Follows keeps' room' held' books'.dues (past.order ++ entry ∷ []) (books.owed + owes) t = record {
      means = subst (λ (x : Held). Means x t) (sym same) m;
      kept = put_kept (f n) keeps keeps' room room' held books past (1 + owes) entry s has (omega arith) puts;
      roomy = omega arith;
      owes = ap (λ (x : ℕ). x + owes) i ∙ sym j.owed;
      dues_are = dues;
      timely = timely;
      distinct = distinct;
    } in
    let k =
    holding (f n) keeps keeps' room room' held held' books books' past (entry ∷ []) t (books.owed + owes) s b follows
    (omega arith) counted
    (counted_more (state_of past).last t.last books.entries 1 s.drawn (omega (arith, ints)) (omega (arith, ints)) (omega arith)) in (
      added (entry ∷ []) (act_of asked offer ∷ []) past,
      connect_took past body asked offer after.last after sent None j.offered g (ends_not asked offer after.last j.some) d,
      stands_more f n n' keeps keeps' room room' held held' books books' past (entry ∷ []) (act_of asked offer ∷ []) named s g
          (subst (Holding keeps' room' held' books' past (past.order ++ entry ∷ [])) (sym (its_after past asked offer o j.some j.live)) k),
    )

-- ---- a new session

new_free : IsFree None
unfolding IsFree
new_free = tt

new_owes : (s : State) (offer : Offer)
    → reserves (connected_at None offer.given offer.at offer.connection s).sessions ≡ reserves s.sessions + 2
unfolding connected_at
new_owes s offer = reserves_opened offer.given offer.at offer.connection s.sessions

new_joins : (named : List ℕ → ℕ → List ℕ → Type 0) (keeps : List Entry → Type 0) (room : ℕ) (held : Held) (books : Books) (past : Past)
    (body : List ℕ) (asked : ConnectRequest) (offer : Offer)
    → Stands named keeps room held books past → IsOffered past body asked offer → offer.given.session ≢ pos 0
    → session_at offer.given.session (state_of past).sessions ≡ None
    → Joins named keeps room held books past body asked offer None 2
new_joins named keeps room held books past body asked offer s h some none = record {
  stands = s;
  offered = h;
  some = some;
  live = none;
  free = new_free;
  owed = new_owes (state_of past) offer;
}

pub new_full : (named : List ℕ → ℕ → List ℕ → Type 0) (keeps : List Entry → Type 0) (room : ℕ) (held : Held) (books : Books) (past : Past)
    (body : List ℕ) (asked : ConnectRequest) (offer : Offer)
    → Stands named keeps room held books past → IsOffered past body asked offer → offer.given.session ≢ pos 0
    → session_at offer.given.session (state_of past).sessions ≡ None
    → books.limit < books.entries + books.owed + 3 → IsRefused past offer.connection offer.at body endings.JournalFull
new_full named keeps room held books past body asked offer s h some none over =
    its_full named keeps room held books past body asked offer None 2
    (new_joins named keeps room held books past body asked offer s h some none) over

-- the timeout that is given
pub within : (past : Past) (body : List ℕ) (asked : ConnectRequest) (offer : Offer) → IsOffered past body asked offer
    → offer.given.session ≢ pos 0 → IsWithin offer.given.timeout
within past body asked offer h some =
    given_timely (state_of past).sessions asked (next_session (state_of past))
    (password_of past.key (next_session (state_of past))) offer.given h.given_is some

-- the number of a new session is the next one
next_number : (past : Past) (body : List ℕ) (asked : ConnectRequest) (offer : Offer) → IsOffered past body asked offer
    → offer.given.session ≢ pos 0
    → session_at offer.given.session (state_of past).sessions ≡ None → offer.given.session ≡ (state_of past).greatest +ℤ pos 1
next_number past body asked offer h some none =
    given_next (state_of past).sessions asked (next_session (state_of past))
    (password_of past.key (next_session (state_of past))) offer.given h.given_is some none

pub new_taken : {M : Type 0} (f : M → List ℕ → ℕ → List ℕ → Type 0) (n n' : M) (keeps keeps' : List Entry → Type 0) (room room' : ℕ)
    (held after held' : Held) (books mid books' : Books)
    (past : Past) (body : List ℕ) (asked : ConnectRequest) (offer : Offer) (sent : List Output) (owes : ℕ) (top : ℤ)
    → Stands (f n) keeps room held books past × HasMore books room 3 → IsOffered past body asked offer → offer.given.session ≢ pos 0
    → session_at offer.given.session (state_of past).sessions ≡ None → IsTime offer.at
    → n' ≡ n → held' ≡ after → ConnectsTo held asked offer after sent → Puts keeps room keeps' room' (entry_of asked offer after.last)
    → mid ≡ record books { dues = mid.dues }
    → Replaces None (record { at = offer.at +ℤ offer.given.timeout; session = offer.given.session }) books.dues mid.dues
    → books' ≡ record mid { owed = owes; greatest = top; entries = min (mid.entries + 1) (2 ^ 64 - 1) }
    → owes ≡ min (mid.owed + 2) (2 ^ 64 - 1) → top ≡ offer.given.session
    → (new : Past) × Took past offer.connection offer.at body sent None None new × Stands (f n') keeps' room' held' books' new
unfolding connected_at next_zxid
new_taken f n n' keeps keeps' room room' held after held' books mid books' past body asked offer sent owes top sh h some none time named
    same does puts joining times put owed topped =
    let s = sh.0 in
    let has = sh.1 in
    let w = has.within in
    let l = s.limit in
    let i = s.small in
    let o : mid.owed ≡ books.owed = ap (λ (b : Books). b.owed) joining in
    let e = s.greatest in
    let z = next_number past body asked offer h some none in
    let in_time = within past body asked offer h some in
    let t = state_of past in
    let b = join_booked books mid books' owes (books.owed + 2) top joining put (omega arith) (omega arith) in
    its_taken f n n' keeps keeps' room room' held after held' books books' past body asked offer sent None 2
    (new_joins (f n) keeps room held books past body asked offer s h some none) has named same does puts
    (record { key = b.key; limit = b.limit; counts = b.counts; owes = b.owes; tops = b.tops ∙ topped })
    (counted_more books.greatest offer.given.session books.entries 1 s.given (omega (arith, ints)) (omega (arith, ints)) (omega arith)) refl
    (subst (λ (x : List Due). AreDues x (with_session offer.given offer.at offer.connection t.sessions))
    (sym (ap (λ (b : Books). b.dues) put))
    (dues_new offer.given offer.at offer.connection t.sessions books.dues mid.dues none s.dues times))
    (timely_opened offer.given offer.at offer.connection t.sessions time in_time.least in_time.most s.timely)
    (distinct_opened offer.given offer.at offer.connection t.sessions none s.distinct)

-- ---- a live session without a connection

off_free : (x : Session) → x.connection ≡ None → IsFree (Some x)
unfolding IsFree
off_free x off = off

again_owes : (s : State) (offer : Offer) (x : Session) → AreDistinct s.sessions → session_at offer.given.session s.sessions ≡ Some x
    → x.connection ≡ None
    → reserves (connected_at (Some x) offer.given offer.at offer.connection s).sessions ≡ reserves s.sessions + 1
unfolding connected_at
again_owes s offer x distinct live off = reserves_moved offer.given offer.at offer.connection s.sessions x distinct live off

again_joins : (named : List ℕ → ℕ → List ℕ → Type 0) (keeps : List Entry → Type 0) (room : ℕ) (held : Held) (books : Books) (past : Past)
    (body : List ℕ) (asked : ConnectRequest) (offer : Offer)
    (x : Session) → Stands named keeps room held books past → IsOffered past body asked offer → offer.given.session ≢ pos 0
    → session_at offer.given.session (state_of past).sessions ≡ Some x → x.connection ≡ None
    → Joins named keeps room held books past body asked offer (Some x) 1
again_joins named keeps room held books past body asked offer x s h some live off = record {
  stands = s;
  offered = h;
  some = some;
  live = live;
  free = off_free x off;
  owed = again_owes (state_of past) offer x s.distinct live off;
}

pub again_full : (named : List ℕ → ℕ → List ℕ → Type 0) (keeps : List Entry → Type 0) (room : ℕ) (held : Held) (books : Books)
    (past : Past) (body : List ℕ) (asked : ConnectRequest) (offer : Offer)
    (x : Session) → Stands named keeps room held books past → IsOffered past body asked offer → offer.given.session ≢ pos 0
    → session_at offer.given.session (state_of past).sessions ≡ Some x → x.connection ≡ None
    → books.limit < books.entries + books.owed + 2 → IsRefused past offer.connection offer.at body endings.JournalFull
again_full named keeps room held books past body asked offer x s h some live off over =
    its_full named keeps room held books past body asked offer (Some x) 1
    (again_joins named keeps room held books past body asked offer x s h some live off) over

pub again_taken : {M : Type 0} (f : M → List ℕ → ℕ → List ℕ → Type 0) (n n' : M) (keeps keeps' : List Entry → Type 0) (room room' : ℕ)
    (held after held' : Held) (books mid books' : Books)
    (past : Past) (body : List ℕ) (asked : ConnectRequest) (offer : Offer) (sent : List Output) (x : Session) (was : Due) (owes : ℕ)
    → Stands (f n) keeps room held books past × HasMore books room 2 → IsOffered past body asked offer → offer.given.session ≢ pos 0
    → session_at offer.given.session (state_of past).sessions ≡ Some x → x.connection ≡ None → was ≡ due_of x → IsTime offer.at
    → n' ≡ n → held' ≡ after → ConnectsTo held asked offer after sent → Puts keeps room keeps' room' (entry_of asked offer after.last)
    → mid ≡ record books { dues = mid.dues }
    → Replaces (Some was) (record { at = offer.at +ℤ offer.given.timeout; session = offer.given.session }) books.dues mid.dues
    → books' ≡ record mid { owed = owes; entries = min (mid.entries + 1) (2 ^ 64 - 1) } → owes ≡ min (mid.owed + 1) (2 ^ 64 - 1)
    → (new : Past) × Took past offer.connection offer.at body sent None None new × Stands (f n') keeps' room' held' books' new
unfolding connected_at next_zxid
again_taken f n n' keeps keeps' room room' held after held' books mid books' past body asked offer sent x was owes sh h some live off is
    time named same does puts joining times put owed =
    let s = sh.0 in
    let has = sh.1 in
    let w = has.within in
    let l = s.limit in
    let i = s.small in
    let o : mid.owed ≡ books.owed = ap (λ (b : Books). b.owed) joining in
    let e = s.greatest in
    let u : mid.greatest ≡ (state_of past).greatest = ap (λ (b : Books). b.greatest) joining ∙ e in
    let in_time = within past body asked offer h some in
    let t = state_of past in
    let b = join_booked books mid books' owes (books.owed + 1) mid.greatest joining put (omega arith) (omega arith) in
    its_taken f n n' keeps keeps' room room' held after held' books books' past body asked offer sent (Some x) 1
    (again_joins (f n) keeps room held books past body asked offer x s h some live off) has named same does puts
    (record { key = b.key; limit = b.limit; counts = b.counts; owes = b.owes; tops = b.tops ∙ u })
    (counted_more t.greatest t.greatest books.entries 1 (subst (λ (z : ℤ). IsCounted z books.entries) e s.given) (omega (arith, ints))
    (omega (arith, ints)) (omega arith)) refl
    (subst (λ (y : List Due). AreDues y (with_moved offer.given offer.at offer.connection t.sessions))
    (sym (ap (λ (c : Books). c.dues) put))
    (dues_put offer.given offer.at offer.connection t.sessions x was books.dues mid.dues s.distinct live is s.dues times))
    (timely_moved offer.given offer.at offer.connection t.sessions time in_time.least in_time.most s.timely)
    (distinct_moved offer.given offer.at offer.connection t.sessions s.distinct)
