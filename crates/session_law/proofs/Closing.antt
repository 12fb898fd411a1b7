-- After the reply to a closeSession nothing comes to its connection, and its order has nothing more of it.
use Rattle.std.proofs.Common.{◌≡◌, ℕ, ℤ, Bool, true, false, cond, List, [], ◌∷◌, ◌++◌, Option, Some, None, filter, inl, inr, refl, sym, ap, subst, ◌∙◌, append_assoc, append-nil}
use Rattle.std.specs.Prelude.{◌==◌, ◌||◌, not}
use Rattle.std.specs.List.{list_any}
use Rattle.std.proofs.lemmas.Bool.{cases_Bool, eqb-true, eq-eqb}
use Rattle.request_queue.specs.declared.asked.Asked.{Asked}
use Rattle.request_queue.specs.declared.asked.Asked.TheVariants as asks
use Rattle.zk_records.specs.declared.connect.ConnectRequest.{ConnectRequest}
use Rattle.zk_messages.specs.declared.reply.Reply.{Reply}
use Rattle.zk_messages.specs.declared.request.Item.{Item}
use Rattle.zk_messages.specs.declared.request.Item.TheVariants as items
use Rattle.zk_messages.specs.declared.request.Request.{Request}
use Rattle.zk_messages.specs.declared.request.Request.TheVariants as requests
use Rattle.tree_state.specs.declared.message.Message.{Message}
use Rattle.tree_state.specs.declared.message.Message.TheVariants as messages
use Rattle.tree_state.specs.declared.message.Output.{Output}
use Rattle.tree_state.specs.declared.node.Moment.{Moment}
use Rattle.tree_state.specs.declared.session.Given.{Given}
use Rattle.tree_state.specs.Nodes.{ephemerals}
use Rattle.tree_state.specs.State.{State, Watch, is_of_other, left_of_others, session_of, without_session}
use Rattle.tree_state.specs.Commands.{create, delete, set_content, check, Command, IsCommand, Asks, refused, single, multi, set_acl, stat_at, get_content, get_acl, get_children, sync, ping, set_watches, close}
use Rattle.tree_state.specs.Changes.{all_deleted}
use Rattle.tree_state.specs.Plain.{plain}
use Rattle.tree_state.specs.Step.{Act, connects, asks as asking, answer, closed, taken, replied, hears, step, connected}
use Rattle.store_side.specs.Out.{outputs, to_connection}
use Rattle.store_side.proofs.Zipping.{Zips}
use Rattle.sealed_machine.specs.Runs.{Question}
use Rattle.sealed_machine.proofs.SealedAnswers.{asked_of, change_asked}
use Rattle.sealed_machine.proofs.Connections.{asked_if, asked_with, asked_in, all_asked}
use Rattle.store_side.proofs.Appended.{to_connection-append}
use Rattle.store_side.proofs.NoTrace.{is_of, nothing_to, NoTrace, IsOthers, step_quiet}
use Rattle.sealed_machine.proofs.FirstAnswers.{IsNoConnect}
use Rattle.session_law.proofs.Orders.{Entry, Connect, Take, Lost, Expire, IsAct, IsAsked, MayCome, HasSession, LegalFrom, HasNoConnect, ConnectsOnce}
use Rattle.session_law.proofs.Filling.{items_in}
use Rattle.session_law.proofs.Begun.{own_items, no_connect_act, no_connect_rest, once_rest, others_act, others_asked, others_items}
use Rattle.session_law.proofs.Held.{IsHeld, HeldIn, hears_held, held_number, none_after, all_deleted_keeps, own_connected, step_held}

-- ---- what a connection asks

-- none of these is a closeSession
unfoldable pub NoneCloses : List Question → Type 0
NoneCloses [] = Unit {0}
NoneCloses (q ∷ qs) = (q.asked ≡ asks.Close → ⊥) × NoneCloses qs

none_closes_append : (qs rs : List Question) → NoneCloses qs → NoneCloses rs → NoneCloses (qs ++ rs)
unfolding NoneCloses
none_closes_append [] rs h j = j
none_closes_append (q ∷ qs) rs h j = (h.0, none_closes_append qs rs h.1 j)

-- a run in which the connection closes nothing; or its closeSession is the last that it asks, the last that the order has of it, and its reply the
-- last that comes to it
pub data Closing (c : ℕ) (s : State) (es : List Entry) (fs : List Act) : Type 0 where
  stays_open : NoneCloses (all_asked c s fs) → Closing c s es fs
  is_closed : (qs : List Question) (q : Question) (ms : List Message) (r : Reply) (is : List Item) (xid : ℤ) → all_asked c s fs ≡ qs ++ q ∷ [] → NoneCloses qs → q.asked ≡ asks.Close
      → to_connection c (outputs plain s fs) ≡ ms ++ messages.Reply r ∷ [] → items_in c es ≡ is ++ items.Requests xid requests.Close ∷ [] → Closing c s es fs

-- an act before it, in which nothing is closed
closes_later : (c : ℕ) (s : State) (e : Entry) (es : List Entry) (f : Act) (fs : List Act) (before : List Item) → NoneCloses (asked_in c s f) → items_in c (e ∷ es) ≡ before ++ items_in c es → Closing c (step plain s f).state es fs → Closing c s (e ∷ es) (f ∷ fs)
unfolding all_asked outputs
closes_later c s e es f fs before none own (stays_open h) = stays_open (none_closes_append (asked_in c s f) _ none h)
closes_later c s e es f fs before none own (is_closed qs q ms r is xid a n i o x) =
    is_closed (asked_in c s f ++ qs) q (to_connection c (step plain s f).outputs ++ ms) r (before ++ is) xid
    (ap (λ (l : List Question). asked_in c s f ++ l) a ∙ sym (append_assoc (asked_in c s f) qs (q ∷ [])))
    (none_closes_append (asked_in c s f) qs none n) i
    (to_connection-append c (step plain s f).outputs _ ∙ ap (λ (l : List Message). to_connection c (step plain s f).outputs ++ l) o ∙ sym (append_assoc (to_connection c (step plain s f).outputs) ms (messages.Reply r ∷ [])))
    (own ∙ ap (λ (l : List Item). before ++ l) x ∙ sym (append_assoc before is (items.Requests xid requests.Close ∷ [])))

-- ---- where a connection has no trace and connects no more

pub record Silent (c : ℕ) (s : State) (es : List Entry) (fs : List Act) : Type 0 where
  pub asked : all_asked c s fs ≡ []
  pub quiet : to_connection c (outputs plain s fs) ≡ []
  pub none : items_in c es ≡ []

pub silent : (c : ℕ) (passwords : ℤ → List ℕ) (es : List Entry) (fs : List Act) (s : State) → NoTrace c s → HasNoConnect c es → Zips IsAct es fs → LegalFrom plain passwords s es fs → Silent c s es fs
unfolding Zips LegalFrom all_asked outputs items_in
silent c passwords [] [] s n h a l = record { asked = refl; quiet = nothing_to c; none = refl }
silent c passwords [] (f ∷ fs) s n h a l = absurd a
silent c passwords (e ∷ es) [] s n h a l = absurd a
silent c passwords (e ∷ es) (f ∷ fs) s n h a l =
    let i = others_act c passwords s e f n a.0 l.0.may (no_connect_act c e es f h a.0) in
    let q = step_quiet c plain s f i n in
    let more = silent c passwords es fs (step plain s f).state q.after (no_connect_rest c e es h) a.1 l.1 in
    record {
      asked = ap (λ (l : List Question). l ++ all_asked c (step plain s f).state fs) (others_asked c s f i) ∙ more.asked;
      quiet = to_connection-append c (step plain s f).outputs _ ∙ (λ j. q.outputs_are j ++ more.quiet j);
      none = others_items c e es f a.0 i ∙ more.none;
    }

-- ---- the step that closes

others_left : (c : ℕ) (ws : List Watch) → list_any (is_of c) (left_of_others c ws) ≡ false
unfolding left_of_others is_of_other is_of
others_left c [] = refl
others_left c (w ∷ ws) = go (w.connection == c) refl (others_left c ws)
  where
    go : (b : Bool) → (w.connection == c) ≡ b → list_any (λ v. v.connection == c) (filter (λ v. not (v.connection == c)) ws) ≡ false
        → list_any (λ v. v.connection == c) (cond (not b) (w ∷ filter (λ v. not (v.connection == c)) ws) (filter (λ v. not (v.connection == c)) ws)) ≡ false
    go true e ih = ih
    go false e ih = ap (λ (b : Bool). b || list_any (λ v. v.connection == c) (filter (λ v. not (v.connection == c)) ws)) e ∙ ih

closed_trace : (c : ℕ) (n : ℤ) (at : Moment) (s : State) → at.session ≡ n → HeldIn c n s → NoTrace c (answer plain at c s close).state
unfolding answer closed
closed_trace c n at s e h = record {
  watches_are = others_left c _;
  sessions_are = ap (λ (m : ℤ). session_of c (without_session m (all_deleted at.zxid (ephemerals at.session s.nodes) s).state.sessions)) e
      ∙ none_after c n _ (subst (IsHeld c n) (sym (all_deleted_keeps at.zxid (ephemerals at.session s.nodes) s)) h);
}

pub record Closes (c : ℕ) (s : State) (f : Act) : Type 0 where
  pub after : NoTrace c (step plain s f).state
  pub ms : List Message
  pub reply : Reply
  pub sent : to_connection c (step plain s f).outputs ≡ ms ++ messages.Reply reply ∷ []

own_last : (c : ℕ) (os : List Output) (o : Output) → o.connection ≡ c → to_connection c (os ++ o ∷ []) ≡ to_connection c os ++ o.message ∷ []
unfolding to_connection
own_last c os o e = to_connection-append c os (o ∷ []) ∙ ap (λ (l : List Message). to_connection c os ++ l) (ap (λ (b : Bool). cond b (o.message ∷ []) []) (eq-eqb o.connection c e))

closes_with : (c : ℕ) (n xid now m : ℤ) (s : State) → m ≡ n → HeldIn c n s → NoTrace c (taken plain c xid close now s (Some m)).state × ((ms : List Message) × (r : Reply) × (to_connection c (taken plain c xid close now s (Some m)).outputs ≡ ms ++ messages.Reply r ∷ []))
unfolding taken replied
closes_with c n xid now m s e h = (
  closed_trace c n _ (hears m now s) e (hears_held c n m now s h),
  (_, _, own_last c _ _ refl),
)

closing_step : (c : ℕ) (n xid now session : ℤ) (s : State) → session_of c s.sessions ≡ Some session → HeldIn c n s → Closes c s (asking c xid close now)
unfolding step
closing_step c n xid now session s live h =
    let x = closes_with c n xid now session s (held_number c n session s.sessions h live) h in
    record {
      after = subst (λ (o : Option ℤ). NoTrace c (taken plain c xid close now s o).state) (sym live) x.0;
      ms = x.1.0;
      reply = x.1.1;
      sent = ap (λ (o : Option ℤ). to_connection c (taken plain c xid close now s o).outputs) live ∙ x.1.2;
    }

-- ---- what a request is that asks to close

pub data OpenOrClose (a : Command) : Type 0 where
  is_other : (asked_of a ≡ asks.Close → ⊥) → OpenOrClose a
  is_close : a ≡ close → OpenOrClose a

closes_it : Asked → Bool
closes_it asks.Close = true
closes_it asked = false

other_than_close : (asked : Asked) → closes_it asked ≡ false → asked ≡ asks.Close → ⊥
unfolding closes_it
other_than_close asked f e = let g : closes_it asked ≡ true = ap closes_it e in absurd cc

open_or_close : (a : Command) → OpenOrClose a
unfolding asked_of change_asked closes_it
open_or_close close = is_close refl
open_or_close (refused code) = is_other (other_than_close _ refl)
open_or_close (single (create p n d q f false)) = is_other (other_than_close _ refl)
open_or_close (single (create p n d q f true)) = is_other (other_than_close _ refl)
open_or_close (single (delete p v)) = is_other (other_than_close _ refl)
open_or_close (single (set_content p d v)) = is_other (other_than_close _ refl)
open_or_close (single (check p v)) = is_other (other_than_close _ refl)
open_or_close (multi changes) = is_other (other_than_close _ refl)
open_or_close (set_acl p v) = is_other (other_than_close _ refl)
open_or_close (stat_at p w) = is_other (other_than_close _ refl)
open_or_close (get_content p w) = is_other (other_than_close _ refl)
open_or_close (get_acl p) = is_other (other_than_close _ refl)
open_or_close (get_children p w false) = is_other (other_than_close _ refl)
open_or_close (get_children p w true) = is_other (other_than_close _ refl)
open_or_close (sync p) = is_other (other_than_close _ refl)
open_or_close ping = is_other (other_than_close _ refl)
open_or_close (set_watches seen x y z) = is_other (other_than_close _ refl)

closes_request : (r : Request) → IsCommand r close → r ≡ requests.Close
unfolding IsCommand Asks
closes_request r (inl (code, h, e)) = absurd cc
closes_request requests.Close (inr h) = refl
closes_request r (inr h) = absurd h.1

-- ---- the run

nothing_asked : NoneCloses []
unfolding NoneCloses
nothing_asked = tt

one_open : (c d : ℕ) (q : Question) (session : Option ℤ) → (q.asked ≡ asks.Close → ⊥) → NoneCloses (asked_with c d q session)
unfolding asked_with asked_if NoneCloses
one_open c d q None h = tt
one_open c d q (Some session) h = go (d == c)
  where
    go : (b : Bool) → NoneCloses (asked_if b q)
    go true = (h, tt)
    go false = tt

take_open : (c d : ℕ) (xid : ℤ) (a : Command) (now : ℤ) (s : State) → (asked_of a ≡ asks.Close → ⊥) → NoneCloses (asked_in c s (asking d xid a now))
unfolding asked_in
take_open c d xid a now s h = one_open c d (record { xid = xid; asked = asked_of a }) (session_of d s.sessions) h

-- what the entry has of the connection
unfoldable of_entry : Bool → Item → List Item
of_entry true i = i ∷ []
of_entry false i = []

front_item : (b : Bool) (i : Item) (is : List Item) → cond b (i ∷ is) is ≡ of_entry b i ++ is
unfolding of_entry
front_item true i is = refl
front_item false i is = refl

-- a request that closes nothing, of any connection
other_take : (c d : ℕ) (xid : ℤ) (r : Request) (zxid now : ℤ) (a : Command) (s : State) (es : List Entry) (f : Act) (fs : List Act) → f ≡ asking d xid a now → (asked_of a ≡ asks.Close → ⊥) → Closing c (step plain s f).state es fs → Closing c s (Take d xid r zxid now ∷ es) (f ∷ fs)
unfolding items_in
other_take c d xid r zxid now a s es f fs e h more =
    closes_later c s (Take d xid r zxid now) es f fs (of_entry (c == d) (items.Requests xid r)) (subst (λ (g : Act). NoneCloses (asked_in c s g)) (sym e) (take_open c d xid a now s h)) (front_item (c == d) (items.Requests xid r) (items_in c es)) more

-- the closeSession of this connection
own_close : (c : ℕ) (passwords : ℤ → List ℕ) (n xid : ℤ) (r : Request) (zxid now session : ℤ) (s : State) (es : List Entry) (f : Act) (fs : List Act) → f ≡ asking c xid close now → r ≡ requests.Close → session_of c s.sessions ≡ Some session → HeldIn c n s → HasNoConnect c es → Zips IsAct es fs → LegalFrom plain passwords (step plain s f).state es fs
    → Closing c s (Take c xid r zxid now ∷ es) (f ∷ fs)
unfolding all_asked outputs items_in asked_in asked_with asked_if asked_of
own_close c passwords n xid r zxid now session s es f fs e i live h none a l =
    let x = closing_step c n xid now session s live h in
    let after = subst (λ (g : Act). NoTrace c (step plain s g).state) (sym e) x.after in
    let m = silent c passwords es fs (step plain s f).state after none a l in
    is_closed [] (record { xid = xid; asked = asks.Close }) x.ms x.reply [] xid
    (ap (λ (l : List Question). asked_in c s f ++ l) m.asked ∙ append-nil (asked_in c s f) ∙ ap (asked_in c s) e ∙ ap (asked_with c c (record { xid = xid; asked = asks.Close })) live ∙ ap (λ (b : Bool). asked_if b (record { xid = xid; asked = asks.Close })) (eq-eqb c c refl))
    nothing_asked refl
    (to_connection-append c (step plain s f).outputs _ ∙ ap (λ (l : List Message). to_connection c (step plain s f).outputs ++ l) m.quiet ∙ append-nil (to_connection c (step plain s f).outputs) ∙ ap (λ (g : Act). to_connection c (step plain s g).outputs) e ∙ x.sent)
    (own_items (c == c) (items.Requests xid r) (items_in c es) (eq-eqb c c refl) ∙ ap (λ (l : List Item). items.Requests xid r ∷ l) m.none ∙ ap (λ (q : Request). items.Requests xid q ∷ []) i)

some_take : (c d : ℕ) (passwords : ℤ → List ℕ) (n xid : ℤ) (r : Request) (zxid now : ℤ) (s : State) (es : List Entry) (f : Act) (fs : List Act) → IsAsked d xid r now f → HasSession s d → HeldIn c n s → HasNoConnect c es → Zips IsAct es fs → LegalFrom plain passwords (step plain s f).state es fs
    → Closing c (step plain s f).state es fs → Closing c s (Take d xid r zxid now ∷ es) (f ∷ fs)
unfolding IsOthers IsAct
some_take c d passwords n xid r zxid now s es f fs a live h none acts l more = go (open_or_close a.command)
  where
    other_close : (a.command ≡ close) → (d == c) ≡ false → Closing c s (Take d xid r zxid now ∷ es) (f ∷ fs)
    other_close e o = closes_later c s (Take d xid r zxid now) es f fs [] (subst NoneCloses (sym (others_asked c s f (subst (IsOthers c) (sym a.is) o))) nothing_asked) (others_items c (Take d xid r zxid now) es f a (subst (IsOthers c) (sym a.is) o)) more

    own : (a.command ≡ close) → d ≡ c → Closing c s (Take d xid r zxid now ∷ es) (f ∷ fs)
    own e same = subst (λ (x : ℕ). Closing c s (Take x xid r zxid now ∷ es) (f ∷ fs)) (sym same)
        (own_close c passwords n xid r zxid now live.session s es f fs (a.is ∙ (λ i. asking (same i) xid (e i) now)) (closes_request r (subst (IsCommand r) e a.is_command)) (ap (λ (x : ℕ). session_of x s.sessions) (sym same) ∙ live.live) h none acts l)

    go : OpenOrClose a.command → Closing c s (Take d xid r zxid now ∷ es) (f ∷ fs)
    go (is_other h') = other_take c d xid r zxid now a.command s es f fs a.is h' more
    go (is_close e) = elim (cases_Bool (d == c)) [ inl t ↦ own e (eqb-true d c t) | inr o ↦ other_close e o ]

-- an entry that is no request
quiet_entry : (c : ℕ) (s : State) (e : Entry) (es : List Entry) (f g : Act) (fs : List Act) → f ≡ g → asked_in c s g ≡ [] → (before : List Item) → items_in c (e ∷ es) ≡ before ++ items_in c es → Closing c (step plain s f).state es fs → Closing c s (e ∷ es) (f ∷ fs)
quiet_entry c s e es f g fs a none before own more = closes_later c s e es f fs before (subst NoneCloses (sym (ap (asked_in c s) a ∙ none)) nothing_asked) own more

any_entry : (c : ℕ) (passwords : ℤ → List ℕ) (n : ℤ) (s : State) (e : Entry) (es : List Entry) (f : Act) (fs : List Act) → IsAct e f → MayCome passwords s e → HeldIn c n s → HasNoConnect c es → Zips IsAct es fs → LegalFrom plain passwords (step plain s f).state es fs
    → Closing c (step plain s f).state es fs → Closing c s (e ∷ es) (f ∷ fs)
unfolding IsAct MayCome items_in asked_in
any_entry c passwords n s (Take d xid r zxid now) es f fs a m h none acts l more = some_take c d passwords n xid r zxid now s es f fs a m h none acts l more
any_entry c passwords n s (Connect d asked session timeout password zxid now) es f fs a m h none acts l more = quiet_entry c s (Connect d asked session timeout password zxid now) es f _ fs a refl (of_entry (c == d) (items.Asks asked)) (front_item (c == d) (items.Asks asked) (items_in c es)) more
any_entry c passwords n s (Lost d) es f fs a m h none acts l more = quiet_entry c s (Lost d) es f _ fs a refl [] refl more
any_entry c passwords n s (Expire session zxid now) es f fs a m h none acts l more = quiet_entry c s (Expire session zxid now) es f _ fs a refl [] refl more

own_connect : (c d : ℕ) (asked : ConnectRequest) (given : Given) (now : ℤ) (s : State) (f : Act) → d ≡ c → f ≡ connects d asked given now → NoTrace c s → HeldIn c given.session (step plain s f).state
unfolding step
own_connect c d asked given now s f same a n = subst (λ (g : Act). HeldIn c given.session (step plain s g).state) (sym a) (subst (λ (x : ℕ). HeldIn c given.session (connected given now x s)) (sym same) (own_connected c given now s n.sessions_are))

no_more : (c : ℕ) (s : State) → Closing c s [] []
unfolding all_asked NoneCloses
no_more c s = stays_open tt

module _ (passwords : ℤ → List ℕ) (c : ℕ) where
  closing_after : (n : ℤ) (es : List Entry) (fs : List Act) (s : State) → HeldIn c n s → HasNoConnect c es → Zips IsAct es fs → LegalFrom plain passwords s es fs → Closing c s es fs
  unfolding Zips LegalFrom
  closing_after n [] [] s h none a l = no_more c s
  closing_after n [] (f ∷ fs) s h none a l = absurd a
  closing_after n (e ∷ es) [] s h none a l = absurd a
  closing_after n (e ∷ es) (f ∷ fs) s h none a l =
      any_entry c passwords n s e es f fs a.0 l.0.may h (no_connect_rest c e es none) a.1 l.1
      (closing_after n es fs (step plain s f).state (step_held c n plain s f (no_connect_act c e es f none a.0) h) (no_connect_rest c e es none) a.1 l.1)

  quiet_other : (s : State) (e : Entry) (es : List Entry) (f : Act) (fs : List Act) → NoTrace c s → IsAct e f → IsOthers c f → (NoTrace c (step plain s f).state → Closing c (step plain s f).state es fs) → Closing c s (e ∷ es) (f ∷ fs)
  quiet_other s e es f fs n a i later = let q = step_quiet c plain s f i n in closes_later c s e es f fs [] (subst NoneCloses (sym (others_asked c s f i)) nothing_asked) (others_items c e es f a i) (later q.after)

  -- the entry is the connection's own connect, or it has no trace after it either
  choose : (s : State) (e : Entry) (es : List Entry) (f : Act) (fs : List Act) → NoTrace c s → ConnectsOnce (e ∷ es) → IsAct e f → MayCome passwords s e → Zips IsAct es fs → LegalFrom plain passwords (step plain s f).state es fs
      → (NoTrace c (step plain s f).state → Closing c (step plain s f).state es fs) → Closing c s (e ∷ es) (f ∷ fs)
  unfolding ConnectsOnce IsAct IsNoConnect items_in asked_in
  choose s (Connect d asked session timeout password zxid now) es f fs n o a m acts l later =
      elim (cases_Bool (d == c)) [
        | inl t ↦ let same = eqb-true d c t in
            quiet_entry c s (Connect d asked session timeout password zxid now) es f _ fs a refl (of_entry (c == d) (items.Asks asked)) (front_item (c == d) (items.Asks asked) (items_in c es))
            (closing_after session es fs (step plain s f).state (own_connect c d asked _ now s f same a n) (subst (λ (x : ℕ). HasNoConnect x es) same o.0) acts l)
        | inr i ↦ quiet_other s (Connect d asked session timeout password zxid now) es f fs n a (others_act c passwords s (Connect d asked session timeout password zxid now) f n a m (subst (IsNoConnect c) (sym a) i)) later
      ]
  choose s (Take d xid r zxid now) es f fs n o a m acts l later = quiet_other s (Take d xid r zxid now) es f fs n a (others_act c passwords s (Take d xid r zxid now) f n a m (subst (IsNoConnect c) (sym a.is) tt)) later
  choose s (Lost d) es f fs n o a m acts l later = quiet_other s (Lost d) es f fs n a (others_act c passwords s (Lost d) f n a m (subst (IsNoConnect c) (sym a) tt)) later
  choose s (Expire session zxid now) es f fs n o a m acts l later = quiet_other s (Expire session zxid now) es f fs n a (others_act c passwords s (Expire session zxid now) f n a m (subst (IsNoConnect c) (sym a) tt)) later

  pub closing : (es : List Entry) (fs : List Act) (s : State) → NoTrace c s → ConnectsOnce es → Zips IsAct es fs → LegalFrom plain passwords s es fs → Closing c s es fs
  unfolding Zips LegalFrom
  closing [] [] s n o a l = no_more c s
  closing [] (f ∷ fs) s n o a l = absurd a
  closing (e ∷ es) [] s n o a l = absurd a
  closing (e ∷ es) (f ∷ fs) s n o a l = choose s e es f fs n o a.0 l.0.may a.1 l.1 (λ after. closing es fs (step plain s f).state after (once_rest e es o) a.1 l.1)
