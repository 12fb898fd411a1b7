-- A step tells a connection one answer where the act is its own, and else none: what else it tells are events.
use Rattle.std.proofs.Common.{◌≡◌, ℕ, ℤ, ◌+◌, Bool, true, false, cond, List, [], ◌∷◌, ◌++◌, Option, Some, None, refl, sym, ap, ◌∙◌, arith}
use Rattle.std.specs.Prelude.{◌==◌}
use Rattle.zk_records.specs.declared.connect.ConnectRequest.{ConnectRequest}
use Rattle.zk_records.specs.declared.connect.ConnectResponse.{ConnectResponse}
use Rattle.zk_messages.specs.declared.reply.Event.{Event}
use Rattle.zk_messages.specs.declared.reply.Reply.{Reply}
use Rattle.tree_state.specs.declared.message.Message.TheVariants as messages
use Rattle.tree_state.specs.declared.message.Output.{Output}
use Rattle.tree_state.specs.declared.node.Moment.{Moment}
use Rattle.tree_state.specs.declared.session.Given.{Given}
use Rattle.tree_state.specs.Nodes.{Path, Place, Node, find, ephemerals}
use Rattle.tree_state.specs.State.{State, Aspect, on_data, on_children, next_zxid}
use Rattle.tree_state.specs.Commands.{Change, create, delete, set_content, check, Command, refused, single, multi, set_acl, stat_at, get_content, get_acl, get_children, sync, ping, set_watches, close}
use Rattle.tree_state.specs.Changes.{Trial, failed, done, need, refuse, Naming, Effect, Effects, event_to, events_to, creation_events, end_events, deletion_events, content_events, created, deleted, updated, perform, no_effects, after_effect, or_failed, perform_all, all_deleted}
use Rattle.tree_state.specs.Step.{Act, Answer, with_error, told_only, or_error, answer_single, answer_multi, Notice, tells, watches, Noticed, noticed, all_noticed, with_noticed, answer, taken, replied, hears, answer_connect, expired, step}
use Rattle.store_side.specs.Out.{to_connection}
use Rattle.store_side.proofs.Appended.{to_connection-append}
use Rattle.session_law.specs.Law.{sent_by}
use Rattle.session_law.proofs.Answered.{answers}
use Rattle.session_law.proofs.SessionMessages.{answers-append}
use Rattle.session_law.proofs.Orders.{Entry, Connect, Take, Lost, Expire, IsAct, MayCome}

-- ---- events

-- so many answers to connection c are among them
unfoldable pub answers_to : ℕ → List Output → ℕ
answers_to c os = answers (to_connection c os)

joined : (c : ℕ) (os us : List Output) → answers_to c (os ++ us) ≡ answers_to c os + answers_to c us
unfolding answers_to
joined c os us = ap answers (to_connection-append c os us) ∙ answers-append (to_connection c os) (to_connection c us)

none_joined : (c : ℕ) (os us : List Output) → answers_to c os ≡ 0 → answers_to c us ≡ 0 → answers_to c (os ++ us) ≡ 0
none_joined c os us e f = joined c os us ∙ (λ i. e i + f i)

nothing_told : (c : ℕ) → answers_to c [] ≡ 0
unfolding answers_to to_connection answers
nothing_told c = refl

event_alone : (b : Bool) (e : Event) → answers (cond b (messages.Event e ∷ []) []) ≡ 0
unfolding answers
event_alone true e = refl
event_alone false e = refl

one_event : (c : ℕ) (kind : ℤ) (p : Path) (d : ℕ) → answers_to c (event_to kind p d ∷ []) ≡ 0
unfolding answers_to to_connection event_to answers
one_event c kind p d = event_alone (d == c) _

events_told : (c : ℕ) (kind : ℤ) (p : Path) (cs : List ℕ) → answers_to c (events_to kind p cs) ≡ 0
unfolding events_to
events_told c kind p [] = nothing_told c
events_told c kind p (d ∷ cs) = none_joined c (event_to kind p d ∷ []) _ (one_event c kind p d) (events_told c kind p cs)

-- ---- changes tell events alone

unfoldable NoneIf : ℕ → Trial ℤ Effect → Type 0
NoneIf c (failed code) = Unit {0}
NoneIf c (done e) = answers_to c e.events ≡ 0

need_none : {A : Type 0} (c : ℕ) (o : Option A) (code : ℤ) (f : A → Trial ℤ Effect) → ((x : A) → NoneIf c (f x)) → NoneIf c (need o code f)
unfolding need NoneIf
need_none c None code f h = tt
need_none c (Some x) code f h = h x

refuse_none : (c : ℕ) (b : Bool) (code : ℤ) (t : Trial ℤ Effect) → NoneIf c t → NoneIf c (refuse b code t)
unfolding refuse NoneIf
refuse_none c true code t h = tt
refuse_none c false code t h = h

done_none : (c : ℕ) (e : Effect) → answers_to c e.events ≡ 0 → NoneIf c (done e)
unfolding NoneIf
done_none c e h = h

created_none : (c : ℕ) (at : Moment) (p : Path) (n : List ℕ) (node : Node) (stat : Bool) (s : State) → answers_to c (created at p n node stat s).events ≡ 0
unfolding created creation_events
created_none c at p n node stat s = none_joined c _ _ (events_told c _ _ _) (events_told c _ _ _)

deleted_none : (c : ℕ) (z : ℤ) (p : Path) (s : State) → answers_to c (deleted z p s).events ≡ 0
unfolding deleted deletion_events end_events
deleted_none c z p s = none_joined c _ _ (none_joined c _ _ (events_told c _ _ _) (events_told c _ _ _)) (events_told c _ _ _)

updated_none : (c : ℕ) (at : Moment) (p : Path) (d : Option (List ℕ)) (node : Node) (s : State) → answers_to c (updated at p d node s).events ≡ 0
unfolding updated content_events
updated_none c at p d node s = events_told c _ _ _

perform_none : (c : ℕ) (naming : Naming) (at : Moment) (s : State) (change : Change) → NoneIf c (perform naming at s change)
unfolding perform
perform_none c naming at s (create p n d q e stat) = need_none c (find s.nodes p) _ _ λ up. refuse_none c _ _ _ (refuse_none c _ _ _ (need_none c _ _ _ λ name. refuse_none c _ _ _ (done_none c _ (created_none c at p name _ stat s))))
perform_none c naming at s (delete p v) = need_none c (find s.nodes p) _ _ λ node. refuse_none c _ _ _ (refuse_none c _ _ _ (done_none c _ (deleted_none c at.zxid p s)))
perform_none c naming at s (set_content p d v) = need_none c (find s.nodes p) _ _ λ node. refuse_none c _ _ _ (refuse_none c _ _ _ (done_none c _ (updated_none c at p d node s)))
perform_none c naming at s (check p v) = need_none c (find s.nodes p) _ _ λ node. refuse_none c _ _ _ (done_none c _ (nothing_told c))

unfoldable NoneAllIf : ℕ → Trial (List ℤ) Effects → Type 0
NoneAllIf c (failed codes) = Unit {0}
NoneAllIf c (done e) = answers_to c e.events ≡ 0

after_none : (c : ℕ) (e : Effect) (t : Trial (List ℤ) Effects) → answers_to c e.events ≡ 0 → NoneAllIf c t → NoneAllIf c (after_effect e t)
unfolding after_effect NoneAllIf
after_none c e (failed codes) h j = tt
after_none c e (done more) h j = none_joined c e.events more.events h j

or_failed_none : (c : ℕ) (t : Trial ℤ Effect) (rest : List Change) (next : Effect → Trial (List ℤ) Effects) → NoneIf c t → ((e : Effect) → NoneAllIf c (next e)) → NoneAllIf c (or_failed t rest next)
unfolding or_failed NoneIf NoneAllIf
or_failed_none c (failed code) rest next h j = tt
or_failed_none c (done e) rest next h j = after_none c e (next e) h (j e)

perform_all_none : (c : ℕ) (naming : Naming) (at : Moment) (s : State) (changes : List Change) → NoneAllIf c (perform_all naming at s changes)
unfolding perform_all no_effects NoneAllIf
perform_all_none c naming at s [] = nothing_told c
perform_all_none c naming at s (x ∷ xs) = or_failed_none c (perform naming at s x) xs _ (perform_none c naming at s x) (λ e. perform_all_none c naming at e.state xs)

all_deleted_none : (c : ℕ) (z : ℤ) (ps : List Path) (s : State) → answers_to c (all_deleted z ps s).events ≡ 0
unfolding all_deleted no_effects
all_deleted_none c z [] s = nothing_told c
all_deleted_none c z (p ∷ ps) s = none_joined c _ _ (deleted_none c z p s) (all_deleted_none c z ps (deleted z p s).state)

-- ---- so do answers, besides the reply

unfoldable NoneAnswerIf : ℕ → Trial ℤ Answer → Type 0
NoneAnswerIf c (failed code) = Unit {0}
NoneAnswerIf c (done a) = answers_to c a.events ≡ 0

or_error_none : (c : ℕ) (s : State) (t : Trial ℤ Answer) → NoneAnswerIf c t → answers_to c (or_error s t).events ≡ 0
unfolding or_error with_error NoneAnswerIf
or_error_none c s (failed code) h = nothing_told c
or_error_none c s (done a) h = h

need_answer_none : {A : Type 0} (c : ℕ) (o : Option A) (code : ℤ) (f : A → Trial ℤ Answer) → ((x : A) → NoneAnswerIf c (f x)) → NoneAnswerIf c (need o code f)
unfolding need NoneAnswerIf
need_answer_none c None code f h = tt
need_answer_none c (Some x) code f h = h x

refuse_answer_none : (c : ℕ) (b : Bool) (code : ℤ) (t : Trial ℤ Answer) → NoneAnswerIf c t → NoneAnswerIf c (refuse b code t)
unfolding refuse NoneAnswerIf
refuse_answer_none c true code t h = tt
refuse_answer_none c false code t h = h

done_answer_none : (c : ℕ) (a : Answer) → answers_to c a.events ≡ 0 → NoneAnswerIf c (done a)
unfolding NoneAnswerIf
done_answer_none c a h = h

single_none : (c : ℕ) (s : State) (t : Trial ℤ Effect) → NoneIf c t → answers_to c (answer_single s t).events ≡ 0
unfolding answer_single with_error NoneIf
single_none c s (failed code) h = nothing_told c
single_none c s (done e) h = h

multi_none : (c : ℕ) (s : State) (t : Trial (List ℤ) Effects) → NoneAllIf c t → answers_to c (answer_multi s t).events ≡ 0
unfolding answer_multi told_only NoneAllIf
multi_none c s (failed codes) h = nothing_told c
multi_none c s (done e) h = h

noticed_none : (c d : ℕ) (p : Path) (a : Aspect) (n : Notice) (t : Noticed) → answers_to c t.events ≡ 0 → answers_to c (noticed a p d n t).events ≡ 0
unfolding noticed
noticed_none c d p a (tells kind) t h = none_joined c t.events _ h (one_event c kind p d)
noticed_none c d p a watches t h = h

all_noticed_none : (c d : ℕ) (f : Option Node → Notice) (a : Aspect) (es : List Place) (ps : List Path) (t : Noticed) → answers_to c t.events ≡ 0 → answers_to c (all_noticed f a es d ps t).events ≡ 0
unfolding all_noticed
all_noticed_none c d f a es [] t h = h
all_noticed_none c d f a es (p ∷ ps) t h = all_noticed_none c d f a es ps _ (noticed_none c d p a (f (find es p)) t h)

answer_none : (c d : ℕ) (naming : Naming) (at : Moment) (s : State) (command : Command) → answers_to c (answer naming at d s command).events ≡ 0
unfolding answer told_only with_error with_noticed
answer_none c d naming at s (refused code) = nothing_told c
answer_none c d naming at s (single change) = single_none c s _ (perform_none c naming at s change)
answer_none c d naming at s (multi changes) = multi_none c s _ (perform_all_none c naming at s changes)
answer_none c d naming at s (set_acl p v) = or_error_none c s _ (need_answer_none c _ _ _ λ node. refuse_answer_none c _ _ _ (refuse_answer_none c _ _ _ (done_answer_none c _ (nothing_told c))))
answer_none c d naming at s (stat_at p w) = or_error_none c _ _ (need_answer_none c _ _ _ λ node. done_answer_none c _ (nothing_told c))
answer_none c d naming at s (get_content p w) = or_error_none c s _ (need_answer_none c _ _ _ λ node. done_answer_none c _ (nothing_told c))
answer_none c d naming at s (get_acl p) = or_error_none c s _ (need_answer_none c _ _ _ λ node. done_answer_none c _ (nothing_told c))
answer_none c d naming at s (get_children p w stat) = or_error_none c s _ (need_answer_none c _ _ _ λ node. done_answer_none c _ (nothing_told c))
answer_none c d naming at s (sync p) = nothing_told c
answer_none c d naming at s ping = nothing_told c
answer_none c d naming at s (set_watches seen x y z) =
    all_noticed_none c d _ on_children s.nodes z _ (all_noticed_none c d _ on_data s.nodes y _ (all_noticed_none c d _ on_data s.nodes x _ (nothing_told c)))
answer_none c d naming at s close = all_deleted_none c at.zxid (ephemerals at.session s.nodes) s

-- ---- entries

one_if : Bool → ℕ
one_if true = 1
one_if false = 0

one_reply : (c d : ℕ) (r : Reply) → answers_to c (record { connection = d; message = messages.Reply r } ∷ []) ≡ one_if (d == c)
unfolding answers_to to_connection answers one_if
one_reply c d r = go (d == c)
  where
    go : (b : Bool) → answers (cond b (messages.Reply r ∷ []) []) ≡ one_if b
    go true = refl
    go false = refl

response_alone : (b : Bool) (r : ConnectResponse) → answers (cond b (messages.Connected r ∷ []) []) ≡ one_if b
unfolding answers one_if
response_alone true r = refl
response_alone false r = refl

one_response : (c d : ℕ) (asked : ConnectRequest) (given : Given) → answers_to c (answer_connect d asked given ∷ []) ≡ one_if (d == c)
unfolding answers_to to_connection answer_connect answers one_if
one_response c d asked given = response_alone (d == c) _

none_plus : (n : ℕ) → 0 + n ≡ n
none_plus n = omega arith

with_reply : (c d : ℕ) (os : List Output) (r : Reply) → answers_to c os ≡ 0 → answers_to c (os ++ record { connection = d; message = messages.Reply r } ∷ []) ≡ one_if (d == c)
with_reply c d os r h = joined c os _ ∙ (λ i. h i + one_reply c d r i) ∙ none_plus (one_if (d == c))

taken_one : (c d : ℕ) (naming : Naming) (xid : ℤ) (command : Command) (now session : ℤ) (s : State) → answers_to c (taken naming d xid command now s (Some session)).outputs ≡ one_if (d == c)
unfolding taken replied
taken_one c d naming xid command now session s = with_reply c d _ _ (answer_none c d naming (record { zxid = next_zxid s; time = now; session = session }) (hears session now s) command)

one_is : (b : Bool) → one_if b ≡ cond b 1 0
unfolding one_if
one_is true = refl
one_is false = refl

-- a step tells a connection one answer where the act is its own, and else none
pub step_answers : (c : ℕ) (naming : Naming) (passwords : ℤ → List ℕ) (s : State) (e : Entry) (f : Act) → IsAct e f → MayCome passwords s e → answers (to_connection c (step naming s f).outputs) ≡ sent_by c f
unfolding IsAct MayCome step expired answers_to sent_by
step_answers c naming passwords s (Take d xid r zxid now) f a m =
    ap (λ (g : Act). answers_to c (step naming s g).outputs) a.is
    ∙ ap (λ (o : Option ℤ). answers_to c (taken naming d xid a.command now s o).outputs) m.live
    ∙ taken_one c d naming xid a.command now m.session s ∙ one_is (d == c) ∙ sym (ap (sent_by c) a.is)
step_answers c naming passwords s (Connect d asked session timeout password zxid now) f a m =
    ap (λ (g : Act). answers_to c (step naming s g).outputs) a ∙ one_response c d asked _ ∙ one_is (d == c) ∙ sym (ap (sent_by c) a)
step_answers c naming passwords s (Lost d) f a m = ap (λ (g : Act). answers_to c (step naming s g).outputs) a ∙ nothing_told c ∙ sym (ap (sent_by c) a)
step_answers c naming passwords s (Expire session zxid now) f a m =
    ap (λ (g : Act). answers_to c (step naming s g).outputs) a ∙ all_deleted_none c (next_zxid s) (ephemerals session s.nodes) s ∙ sym (ap (sent_by c) a)
