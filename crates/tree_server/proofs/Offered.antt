-- The entry of a connect request, where it may come.
use Rattle.std.proofs.Common.{◌≡◌, ◌≢◌, ℕ, ℤ, pos, ◌+ℤ◌, false, List, [], ◌∷◌, ◌++◌, Some, None, refl, sym, ap, ◌∙◌, subst, arith}
use Rattle.std.specs.Prelude.{◌==◌}
use Rattle.std.proofs.lemmas.Bool.{ne_eqb}
use Rattle.std.proofs.lemmas.Int.{ints}
use Rattle.zk_records.specs.declared.connect.ConnectRequest.{ConnectRequest}
use Rattle.tree_state.specs.declared.held.Held.{Held}
use Rattle.tree_state.specs.Changes.{Naming}
use Rattle.tree_state.specs.State.{State, Session, session_at, session_of}
use Rattle.tree_state.specs.Step.{Act, connects, loses, step, given_to, connected, connection_at, lost}
use Rattle.tree_state.specs.Trees.{CanConnect}
use Rattle.tree_state.proofs.SessionTies.{loses as loses_its}
use Rattle.store_side.specs.declared.entry.Entry.{Entry}
use Rattle.store_side.specs.declared.entry.Entry.TheVariants.{Lost}
use Rattle.store_side.specs.Acts.{IsAct}
use Rattle.store_side.specs.Calls.{AreFrames, AreRequests, WouldAdd, IsMoved, lost_first}
use Rattle.store_side.specs.Orders.{ConnectsOnce, HasNoConnect, HasLast, IsFree, IsNext, MayConnect, MayCome, next_session}
use Rattle.store_side.specs.Past.{Past, after_all, password_of, state_of}
use Rattle.store_side.proofs.Appended.{after_one, after_two, legal_one, legal_two, no_connect-front, no_connect-back, once_connect, once_moved}
use Rattle.store_side.proofs.NoTrace.{NoTrace, IsOthers, step_quiet}
use Rattle.store_side.proofs.Zipping.{zips_one, zips_cons}
use Rattle.tree_server.specs.declared.books.Books.{Books}
use Rattle.tree_server.specs.declared.connecting.Offer.{Offer}
use Rattle.tree_server.specs.Machines.{Stands}
use Rattle.tree_server.specs.Offers.{IsOffered, entry_of}
use Rattle.tree_server.proofs.Joined.{given_lost, at_lost}
use Rattle.tree_server.proofs.Standing.{Grows}

-- the act of a connect request that is given what was offered
unfoldable pub act_of : ConnectRequest → Offer → Act
act_of asked offer = connects offer.connection asked offer.given offer.at

-- and the state after it
unfoldable pub joined : Offer → State → State
joined offer s = connected offer.given offer.at offer.connection s

pub step_joined : (naming : Naming) (asked : ConnectRequest) (offer : Offer) (s : State)
    → (step naming s (act_of asked offer)).state ≡ joined offer s
unfolding step act_of joined
step_joined naming asked offer s = refl

pub after_joined : (naming : Naming) (asked : ConnectRequest) (offer : Offer) (s : State)
    → after_all naming s (act_of asked offer ∷ []) ≡ joined offer s
after_joined naming asked offer s = after_one naming s (act_of asked offer) ∙ step_joined naming asked offer s

pub step_lost : (naming : Naming) (s : State) (d : ℕ) → (step naming s (loses d)).state ≡ lost d s
unfolding step
step_lost naming s d = refl

pub after_moved : (naming : Naming) (asked : ConnectRequest) (offer : Offer) (d : ℕ) (s : State)
    → after_all naming s (loses d ∷ act_of asked offer ∷ []) ≡ joined offer (lost d s)
after_moved naming asked offer d s =
    after_two naming s (loses d) (act_of asked offer)
    ∙ ap (λ (t : State). (step naming t (act_of asked offer)).state) (step_lost naming s d) ∙ step_joined naming asked offer (lost d s)

-- ---- what is offered

-- what the tree is asked to give is what was offered
pub offered_given : (past : Past) (body : List ℕ) (asked : ConnectRequest) (offer : Offer) → IsOffered past body asked offer
    → given_to (state_of past).sessions asked offer.fresh offer.password ≡ offer.given
offered_given past body asked offer h =
    ap (λ (p : List ℕ). given_to (state_of past).sessions asked offer.fresh p) h.password_is
    ∙ ap (λ (k : ℤ). given_to (state_of past).sessions asked k (password_of past.key k)) h.fresh_is ∙ sym h.given_is

-- the tree may be asked
pub offered_can : (named : List ℕ → ℕ → List ℕ → Type 0) (keeps : List Entry → Type 0) (room : ℕ) (held : Held) (books : Books)
    (past : Past) (body : List ℕ) (asked : ConnectRequest) (offer : Offer)
    → Stands named keeps room held books past → IsOffered past body asked offer → CanConnect (state_of past) offer.connection offer.fresh
offered_can named keeps room held books past body asked offer s h =
    let a = s.given.from in
    let b : books.greatest ≡ (state_of past).greatest = s.greatest in
    let c : offer.fresh ≡ (state_of past).greatest +ℤ pos 1 = h.fresh_is in
    record { free = (s.quiet offer.connection h.no_connect).sessions_are; positive = omega (arith, ints); above = omega (arith, ints) }

-- ---- the entry comes next

is_act : (asked : ConnectRequest) (offer : Offer) (zxid : ℤ) → IsAct (entry_of asked offer zxid) (act_of asked offer)
unfolding IsAct entry_of act_of
is_act asked offer zxid = refl

other : (c d : ℕ) → c ≢ d → (c == d) ≡ false
other c d h = ne_eqb c d h

is_others : (e : ℕ) (asked : ConnectRequest) (offer : Offer) (zxid : ℤ) → HasNoConnect e (entry_of asked offer zxid ∷ [])
    → IsOthers e (act_of asked offer)
unfolding HasNoConnect IsOthers entry_of act_of
is_others e asked offer zxid h = other offer.connection e h.0

next_connect : (naming : Naming) (passwords : ℤ → List ℕ) (s : State) (asked : ConnectRequest) (offer : Offer) (zxid : ℤ)
    → MayConnect passwords s asked offer.given → zxid ≡ (joined offer s).last
    → IsNext naming passwords s (entry_of asked offer zxid) (act_of asked offer)
unfolding MayCome HasLast step entry_of act_of joined
next_connect naming passwords s asked offer zxid may last = record { may = may; last_is = last }

joined_quiet : (naming : Naming) (e : ℕ) (asked : ConnectRequest) (offer : Offer) (zxid : ℤ) (s : State)
    → HasNoConnect e (entry_of asked offer zxid ∷ []) → NoTrace e s
    → NoTrace e (joined offer s)
joined_quiet naming e asked offer zxid s none quiet =
    subst (NoTrace e) (step_joined naming asked offer s)
    (step_quiet e naming s (act_of asked offer) (is_others e asked offer zxid none) quiet).after

once_entry : (order : List Entry) (asked : ConnectRequest) (offer : Offer) (zxid : ℤ) → HasNoConnect offer.connection order
    → ConnectsOnce order
    → ConnectsOnce (order ++ entry_of asked offer zxid ∷ [])
unfolding entry_of
once_entry order asked offer zxid none once =
    once_connect order offer.connection asked offer.given.session offer.given.timeout offer.given.password zxid offer.at none once

pub connect_grows : (named : List ℕ → ℕ → List ℕ → Type 0) (keeps : List Entry → Type 0) (room : ℕ) (held : Held) (books : Books)
    (past : Past) (body : List ℕ) (asked : ConnectRequest) (offer : Offer) (zxid : ℤ)
    → Stands named keeps room held books past → IsOffered past body asked offer
    → IsFree (session_at offer.given.session (state_of past).sessions)
    → zxid ≡ (joined offer (state_of past)).last → Grows past (entry_of asked offer zxid ∷ []) (act_of asked offer ∷ [])
connect_grows named keeps room held books past body asked offer zxid s h free last =
    let entry = entry_of asked offer zxid in
    record {
      are_acts = zips_one IsAct entry (act_of asked offer) (is_act asked offer zxid);
      legal = legal_one past.naming (password_of past.key) (state_of past) entry (act_of asked offer)
          (next_connect past.naming (password_of past.key) (state_of past) asked offer zxid (record {
            seen = h.seen;
            given_is =
                h.given_is;
            free = free;
          }) last);
      once = once_entry past.order asked offer zxid h.no_connect s.once;
      quiet = λ e none. subst (NoTrace e) (sym (after_joined past.naming asked offer (state_of past)))
          (joined_quiet past.naming e asked offer zxid (state_of past) (no_connect-back e past.order (entry ∷ []) none)
          (s.quiet e (no_connect-front e past.order (entry ∷ []) none)));
    }

pub one_frame : (past : Past) (body : List ℕ) (asked : ConnectRequest) (offer : Offer) (zxid : ℤ) → IsOffered past body asked offer
    → AreFrames offer.connection offer.at (entry_of asked offer zxid ∷ []) (body ∷ [])
unfolding AreFrames AreRequests entry_of
one_frame past body asked offer zxid h = (refl, refl, h.spelled, tt)

pub connect_adds : (past : Past) (body : List ℕ) (asked : ConnectRequest) (offer : Offer) (zxid : ℤ) → IsOffered past body asked offer
    → Grows past (entry_of asked offer zxid ∷ []) (act_of asked offer ∷ [])
    → WouldAdd past offer.connection offer.at body (entry_of asked offer zxid ∷ []) (act_of asked offer ∷ [])
unfolding lost_first IsMoved
connect_adds past body asked offer zxid h g = record {
  moved = None;
  frames = entry_of asked offer zxid ∷ [];
  entries_are = refl;
  spelled = one_frame past body asked offer zxid h;
  moves = tt;
  are_acts = g.are_acts;
  legal = g.legal;
}

-- ---- the entry comes behind the loss of the connection that had the session

pub next_lost : (naming : Naming) (passwords : ℤ → List ℕ) (s : State) (d : ℕ) (k : ℤ) → session_of d s.sessions ≡ Some k
    → IsNext naming passwords s (Lost d) (loses d)
unfolding MayCome HasLast
next_lost naming passwords s d k live = record { may = record { session = k; live = live }; last_is = tt }

lost_off : (d : ℕ) (k : ℤ) (s : State) (x : Session) → session_at k s.sessions ≡ Some x → x.connection ≡ Some d
    → IsFree (session_at k (lost d s).sessions)
unfolding lost IsFree
lost_off d k s x live on =
    subst IsFree (sym (at_lost d k s.sessions x live)) (ap (λ (y : Session). y.connection) (loses_its d x on))

may_behind : (past : Past) (body : List ℕ) (asked : ConnectRequest) (offer : Offer) (d : ℕ) (x : Session) → IsOffered past body asked offer
    → session_at offer.given.session (state_of past).sessions ≡ Some x → x.connection ≡ Some d
    → MayConnect (password_of past.key) (lost d (state_of past)) asked offer.given
unfolding lost
may_behind past body asked offer d x h live on =
    let s = state_of past in
    record {
      seen = h.seen;
      given_is = h.given_is ∙ sym (given_lost d s.sessions asked (next_session s) (password_of past.key (next_session s)));
      free = lost_off d offer.given.session s x live on;
    }

pub lost_act : (d : ℕ) → IsAct (Lost d) (loses d)
unfolding IsAct
lost_act d = refl

lost_others : (e d : ℕ) → IsOthers e (loses d)
unfolding IsOthers
lost_others e d = tt

pub lost_quiet : (naming : Naming) (e d : ℕ) (s : State) → NoTrace e s → NoTrace e (lost d s)
lost_quiet naming e d s quiet = subst (NoTrace e) (step_lost naming s d) (step_quiet e naming s (loses d) (lost_others e d) quiet).after

back_of : (e d : ℕ) (f : Entry) → HasNoConnect e (Lost d ∷ f ∷ []) → HasNoConnect e (f ∷ [])
unfolding HasNoConnect
back_of e d f h = h

once_behind : (order : List Entry) (d : ℕ) (asked : ConnectRequest) (offer : Offer) (zxid : ℤ) → HasNoConnect offer.connection order
    → ConnectsOnce order
    → ConnectsOnce (order ++ Lost d ∷ entry_of asked offer zxid ∷ [])
unfolding entry_of
once_behind order d asked offer zxid none once =
    once_moved order d offer.connection asked offer.given.session offer.given.timeout offer.given.password zxid offer.at none once

-- the connection has the session
pub on_its : (named : List ℕ → ℕ → List ℕ → Type 0) (keeps : List Entry → Type 0) (room : ℕ) (held : Held) (books : Books) (past : Past)
    (d : ℕ) (k : ℤ) (x : Session)
    → Stands named keeps room held books past → session_at k (state_of past).sessions ≡ Some x → x.connection ≡ Some d
    → session_of d (state_of past).sessions ≡ Some k
on_its named keeps room held books past d k x s live on = s.means.sessions.one d x k live on

pub move_grows : (named : List ℕ → ℕ → List ℕ → Type 0) (keeps : List Entry → Type 0) (room : ℕ) (held : Held) (books : Books)
    (past : Past) (body : List ℕ) (asked : ConnectRequest) (offer : Offer) (zxid : ℤ)
    (d : ℕ) (x : Session) → Stands named keeps room held books past → IsOffered past body asked offer
    → session_at offer.given.session (state_of past).sessions ≡ Some x → x.connection ≡ Some d
    → zxid ≡ (joined offer (lost d (state_of past))).last
    → Grows past (Lost d ∷ entry_of asked offer zxid ∷ []) (loses d ∷ act_of asked offer ∷ [])
move_grows named keeps room held books past body asked offer zxid d x s h live on last =
    let entry = entry_of asked offer zxid in
    let passwords = password_of past.key in
    let behind : IsNext past.naming passwords (step past.naming (state_of past) (loses d)).state entry (act_of asked offer) =
    subst (λ (t : State). IsNext past.naming passwords t entry (act_of asked offer)) (sym (step_lost past.naming (state_of past) d))
    (next_connect past.naming passwords (lost d (state_of past)) asked offer zxid (may_behind past body asked offer d x h live on) last) in
    record {
      are_acts =
          zips_cons IsAct (Lost d) (loses d) (entry ∷ []) (act_of asked offer ∷ []) (lost_act d)
          (zips_one IsAct entry (act_of asked offer) (is_act asked offer zxid));
      legal = legal_two past.naming passwords (state_of past) (Lost d) entry (loses d) (act_of asked offer)
          (next_lost past.naming passwords (state_of past) d offer.given.session
          (on_its named keeps room held books past d offer.given.session x s live on)) behind;
      once = once_behind past.order d asked offer zxid h.no_connect s.once;
      quiet = λ e none. subst (NoTrace e) (sym (after_moved past.naming asked offer d (state_of past)))
          (joined_quiet past.naming e asked offer zxid (lost d (state_of past))
          (back_of e d entry (no_connect-back e past.order (Lost d ∷ entry ∷ []) none))
          (lost_quiet past.naming e d (state_of past) (s.quiet e (no_connect-front e past.order (Lost d ∷ entry ∷ []) none))));
    }

pub its_move : (s : State) (d : ℕ) (asked : ConnectRequest) (offer : Offer) (zxid : ℤ) (x : Session)
    → session_at offer.given.session s.sessions ≡ Some x → x.connection ≡ Some d
    → IsMoved s (Some d) (entry_of asked offer zxid ∷ [])
unfolding IsMoved connection_at entry_of
its_move s d asked offer zxid x live on = ap connection_at live ∙ on

pub move_adds : (past : Past) (body : List ℕ) (asked : ConnectRequest) (offer : Offer) (zxid : ℤ) (d : ℕ) (x : Session)
    → IsOffered past body asked offer
    → session_at offer.given.session (state_of past).sessions ≡ Some x → x.connection ≡ Some d
    → Grows past (Lost d ∷ entry_of asked offer zxid ∷ []) (loses d ∷ act_of asked offer ∷ [])
    → WouldAdd past offer.connection offer.at body (Lost d ∷ entry_of asked offer zxid ∷ []) (loses d ∷ act_of asked offer ∷ [])
unfolding lost_first
move_adds past body asked offer zxid d x h live on g = record {
  moved = Some d;
  frames = entry_of asked offer zxid ∷ [];
  entries_are = refl;
  spelled = one_frame past body asked offer zxid h;
  moves = its_move (state_of past) d asked offer zxid x live on;
  are_acts = g.are_acts;
  legal = g.legal;
}
