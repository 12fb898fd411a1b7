-- The changes of a multi, one after another.
use Rattle.std.proofs.Common.{◌≡◌, ◌+◌, ℕ, Bool, true, false, Option, Some, suc, ℤ, pos, List, [], ◌∷◌, ◌++◌, length, replicate, map, None, Result, Ok, Err, Vec, refl, sym, ap, subst, ◌∙◌, append_assoc, append-nil, arith, length-append}
use Rattle.std.specs.Global.{Global}
use Rattle.std.specs.Prelude.{All, OnOk, IfErr, ◌≤ℤ◌, ◌↔◌}
use Rattle.std.specs.Result.{IsErrAnd}
use Rattle.std.proofs.lemmas.Result.{err_from_is_err_and}
use Rattle.zk_path.specs.Paths.{joined}
use Rattle.tree_state.specs.Nodes.{Path}
use Rattle.std.specs.List.{AllZip}
use Rattle.std.proofs.lemmas.List.Elements.{All-nil, All-cons, All-head, All-tail}
use Rattle.zk_messages.specs.Refuses.{RefusesOp}
use Rattle.zk_messages.specs.declared.reply.OpResult.{OpResult}
use Rattle.zk_messages.specs.declared.request.Op.{Op}
use Rattle.tree_state.specs.declared.held.Held.{Held}
use Rattle.tree_state.specs.declared.held.NotDone.{NotDone}
use Rattle.tree_state.specs.declared.held.NotDone.TheVariants as stops
use Rattle.tree_state.specs.declared.multi.Stop.{Stop}
use Rattle.tree_state.specs.declared.multi.Stop.TheVariants as ends
use Rattle.tree_state.specs.declared.message.Output.{Output}
use Rattle.tree_state.specs.declared.node.Moment.{Moment}
use Rattle.tree_state.specs.State.{State, Session}
use Rattle.tree_state.specs.Commands.{Change, IsChange, create, delete, set_content, check}
use Rattle.tree_state.specs.Changes.{Naming, Trial, failed, done, Effect, Effects, need, refuse, perform, perform_all, created, deleted, updated, or_failed, after_effect, no_effects, runtime_inconsistency}
use Rattle.tree_state.specs.Trees.{Means, IsMoment, IsGiven, IsNaming, IsNameOf, Performs, PerformsAll, failed_codes}
use Rattle.tree_state.specs.Multis.{stop_of, PerformsNext, after_all, SoFar}

abbrev pub Outs : Type 0
Outs = Vec Output Global

-- ---- the next change

pub next_done : {U : Type 0} (s : State) (t : Trial ℤ Effect) (h : Held) (o sent : Outs) (had results : List OpResult) (r : OpResult) (result : Result U Stop) → Performs s t h o sent (Ok r)
    → OnOk result (results ≡ had ++ r ∷ []) → IfErr result (λ stop. stop ≡ ends.Memory) → PerformsNext s t h o sent had results result
unfolding PerformsNext
next_done s t h o sent had results r (Ok u) p e m = (r, p, e)
next_done s t h o sent had results r (Err (ends.At index code)) p e m = absurd cc
next_done s t h o sent had results r (Err ends.Memory) p e m = tt

pub next_stopped : (U : Type 0) (s : State) (t : Trial ℤ Effect) (h : Held) (o sent : Outs) (had results : List OpResult) (why : NotDone) (index : ℕ) (stop : Stop) → Performs s t h o sent (Err why) → index ≡ length had → stop ≡ stop_of why index
    → PerformsNext {U = U} s t h o sent had results (Err stop)
unfolding PerformsNext stop_of
next_stopped U s t h o sent had results (stops.Refused code) index stop p i e = subst (λ (x : Stop). PerformsNext {U = U} s t h o sent had results (Err x)) (sym e) (i, p)
next_stopped U s t h o sent had results stops.Memory index stop p i e = subst (λ (x : Stop). PerformsNext {U = U} s t h o sent had results (Err x)) (sym e) tt

-- ---- what was done before

none_before : (t : Trial (List ℤ) Effects) → t ≡ after_all [] [] t
unfolding after_all
none_before (failed codes) = refl
none_before (done e) = refl

zeros : (rs : List OpResult) (r : OpResult) (codes : List ℤ) → replicate (length rs) (pos 0) ++ pos 0 ∷ codes ≡ replicate (length (rs ++ r ∷ [])) (pos 0) ++ codes
zeros [] r codes = refl
zeros (x ∷ rs) r codes = ap (λ (l : List ℤ). pos 0 ∷ l) (zeros rs r codes)

one_before : (rs : List OpResult) (es : List Output) (e : Effect) (t : Trial (List ℤ) Effects) → after_all rs es (after_effect e t) ≡ after_all (rs ++ e.result ∷ []) (es ++ e.events) t
unfolding after_all after_effect
one_before rs es e (failed codes) = ap failed (zeros rs e.result codes)
one_before rs es e (done more) =
    ap (λ (l : List OpResult). done (record { state = more.state; results = l; events = es ++ (e.events ++ more.events) })) (sym (append_assoc rs (e.result ∷ []) more.results))
    ∙ ap (λ (l : List Output). done (record { state = more.state; results = (rs ++ e.result ∷ []) ++ more.results; events = l })) (sym (append_assoc es e.events more.events))

pub none_yet : (naming : Naming) (at : Moment) (s : State) (changes : List Change) (h : Held) (o : Outs) (rest : List Op) → Means h s → IsMoment s at → All (λ op. RefusesOp op None) rest → AllZip IsChange rest changes
    → SoFar naming at s changes h o o [] rest (length rest)
none_yet naming at s changes h o rest m im allowed asked = record {
  state = s;
  events = [];
  left = changes;
  means = m;
  moment = im;
  allowed = allowed;
  asked = asked;
  many = omega arith;
  told = sym (append-nil o.items);
  same = none_before (perform_all naming at s changes);
}

-- ---- a change gives no session number

abbrev Kept : ℤ → Trial ℤ Effect → Type 0
Kept g (failed code) = Unit {0}
Kept g (done e) = e.state.greatest ≡ g

kept_need : {A : Type 0} (g : ℤ) (o : Option A) (code : ℤ) (next : A → Trial ℤ Effect) → ((a : A) → Kept g (next a)) → Kept g (need o code next)
unfolding need
kept_need g None code next k = tt
kept_need g (Some a) code next k = k a

kept_refuse : (g : ℤ) (b : Bool) (code : ℤ) (next : Trial ℤ Effect) → Kept g next → Kept g (refuse b code next)
unfolding refuse
kept_refuse g true code next k = tt
kept_refuse g false code next k = k

perform_kept : (naming : Naming) (at : Moment) (s : State) (c : Change) → Kept s.greatest (perform naming at s c)
unfolding perform created deleted updated
perform_kept naming at s (create p n d q e w) = kept_need _ _ _ _ (λ up. kept_refuse _ _ _ _ (kept_refuse _ _ _ _ (kept_need _ _ _ _ (λ name. kept_refuse _ _ _ _ refl))))
perform_kept naming at s (delete p v) = kept_need _ _ _ _ (λ n. kept_refuse _ _ _ _ (kept_refuse _ _ _ _ refl))
perform_kept naming at s (set_content p d v) = kept_need _ _ _ _ (λ n. kept_refuse _ _ _ _ (kept_refuse _ _ _ _ refl))
perform_kept naming at s (check p v) = kept_need _ _ _ _ (λ n. kept_refuse _ _ _ _ refl)

moment_after : (naming : Naming) (at : Moment) (s : State) (c : Change) (e : Effect) → perform naming at s c ≡ done e → IsMoment s at → IsMoment e.state at
moment_after naming at s c e i im =
    let kept : e.state.greatest ≡ s.greatest = subst (Kept s.greatest) i (perform_kept naming at s c) in
    record { positive = im.positive; given = subst (λ (g : ℤ). at.session ≤ℤ g) (sym kept) im.given }

-- ---- one more

did : {U : Type 0} (naming : Naming) (at : Moment) (s : State) (changes : List Change) (after : Held) (o mid sent : Outs) (had results : List OpResult) (rest : List Op) (u : U) (b : State) (events : List Output) (c : Change) (cs : List Change) (total : ℕ)
    (t : Trial ℤ Effect) → perform naming at b c ≡ t → total ≡ length had + suc (length rest) → IsMoment b at → All (λ op. RefusesOp op None) rest → AllZip IsChange rest cs → mid.items ≡ o.items ++ events
    → perform_all naming at s changes ≡ after_all had events (perform_all naming at b (c ∷ cs)) → PerformsNext {U = U} b t after mid sent had results (Ok u) → SoFar naming at s changes after o sent results rest total
unfolding PerformsNext Performs perform_all or_failed
did naming at s changes after o mid sent had results rest u b events c cs total (failed code) i many im allowed asked told same p = absurd p.1
did naming at s changes after o mid sent had results rest u b events c cs total (done e) i many im allowed asked told same p =
    let next = perform_all naming at e.state cs in
    record {
      state = e.state;
      events = events ++ e.events;
      left = cs;
      means = p.1.2;
      moment = moment_after naming at b c e i im;
      allowed = allowed;
      asked = asked;
      many = omega (arith, many, ap length p.2, length-append had (p.0 ∷ []));
      told = p.1.1 ∙ ap (λ (l : List Output). l ++ e.events) told ∙ append_assoc o.items events e.events;
      same = same
          ∙ ap (λ (x : Trial ℤ Effect). after_all had events (or_failed x cs (λ d. perform_all naming at d.state cs))) i
          ∙ one_before had events e next
          ∙ ap (λ (l : List OpResult). after_all l (events ++ e.events) next) (sym (p.2 ∙ ap (λ (r : OpResult). had ++ r ∷ []) p.1.0));
    }

-- what the next change shows, whatever state is held
abbrev pub ShowsNext : {U : Type 0} → Naming → Moment → Op → Held → Held → Outs → Outs → List OpResult → List OpResult → Result U Stop → Type 0
ShowsNext naming at op h after mid sent had results result =
    (s : State) (c : Change) → Means h s → IsMoment s at → RefusesOp op None → IsChange op c → PerformsNext s (perform naming at s c) after mid sent had results result

pub one_more : {U : Type 0} (naming : Naming) (at : Moment) (s : State) (changes : List Change) (h after : Held) (o mid sent : Outs) (had results : List OpResult) (op : Op) (rest : List Op) (u : U) (total : ℕ) → SoFar naming at s changes h o mid had (op ∷ rest) total
    → ShowsNext naming at op h after mid sent had results (Ok u) → SoFar naming at s changes after o sent results rest total
one_more naming at s changes h after o mid sent had results op rest u total f shows = go f.left f.asked f.same
  where
    go : (left : List Change) → AllZip IsChange (op ∷ rest) left → perform_all naming at s changes ≡ after_all had f.events (perform_all naming at f.state left) → SoFar naming at s changes after o sent results rest total
    go [] a e = absurd a
    go (c ∷ cs) a e =
        did naming at s changes after o mid sent had results rest u f.state f.events c cs total _ refl f.many f.moment (All-tail (λ op. RefusesOp op None) op rest f.allowed) a.1 f.told e
        (shows f.state c f.means f.moment (All-head (λ op. RefusesOp op None) op rest f.allowed) a.0)

-- ---- one is refused

not_tried : (rest : List Op) (cs : List Change) → AllZip IsChange rest cs → map (λ (c : Change). runtime_inconsistency) cs ≡ replicate (length rest) runtime_inconsistency
not_tried [] [] a = refl
not_tried [] (c ∷ cs) a = absurd a
not_tried (op ∷ rest) [] a = absurd a
not_tried (op ∷ rest) (c ∷ cs) a = ap (λ (l : List ℤ). runtime_inconsistency ∷ l) (not_tried rest cs a.1)

was_refused : (U : Type 0) (naming : Naming) (at : Moment) (s : State) (changes : List Change) (after last : Held) (o mid sent final : Outs) (had results : List OpResult) (rest : List Op) (total index : ℕ) (code : ℤ) (b : State) (events : List Output)
    (c : Change) (cs : List Change) (t : Trial ℤ Effect) → perform naming at b c ≡ t → AllZip IsChange rest cs → total ≡ length had + suc (length rest)
    → perform_all naming at s changes ≡ after_all had events (perform_all naming at b (c ∷ cs)) → PerformsNext {U = U} b t after mid sent had results (Err (ends.At index code))
    → PerformsAll total (perform_all naming at s changes) last o final (Err (ends.At index code))
unfolding PerformsNext Performs perform_all or_failed PerformsAll after_all failed_codes
was_refused U naming at s changes after last o mid sent final had results rest total index code b events c cs (done e) i asked many same p = absurd p.1
was_refused U naming at s changes after last o mid sent final had results rest total index code b events c cs (failed number) i asked many same p =
    subst (λ (x : Trial (List ℤ) Effects). PerformsAll total x last o final (Err (ends.At index code)))
    (sym (same ∙ ap (λ (x : Trial ℤ Effect). after_all had events (or_failed x cs (λ d. perform_all naming at d.state cs))) i)) (
      length rest,
      many ∙ ap (λ (k : ℕ). k + suc (length rest)) (sym p.0),
      ap (λ (l : List ℤ). replicate (length had) (pos 0) ++ number ∷ l) (not_tried rest cs asked)
          ∙ ap (λ (k : ℕ). replicate k (pos 0) ++ number ∷ replicate (length rest) runtime_inconsistency) (sym p.0)
          ∙ ap (λ (k : ℤ). replicate index (pos 0) ++ k ∷ replicate (length rest) runtime_inconsistency) (sym p.1.0),
    )

no_memory : (total : ℕ) (t : Trial (List ℤ) Effects) (h : Held) (o sent : Outs) → PerformsAll total t h o sent (Err ends.Memory)
unfolding PerformsAll
no_memory total (failed codes) h o sent = tt
no_memory total (done e) h o sent = tt

pub one_refused : (U : Type 0) (naming : Naming) (at : Moment) (s : State) (changes : List Change) (h after last : Held) (o mid sent final : Outs) (had results : List OpResult) (op : Op) (rest : List Op) (total : ℕ) (stop : Stop)
    → SoFar naming at s changes h o mid had (op ∷ rest) total → ShowsNext {U = U} naming at op h after mid sent had results (Err stop)
    → PerformsAll total (perform_all naming at s changes) last o final (Err stop)
one_refused U naming at s changes h after last o mid sent final had results op rest total ends.Memory f shows = no_memory total (perform_all naming at s changes) last o final
one_refused U naming at s changes h after last o mid sent final had results op rest total (ends.At index code) f shows = go f.left f.asked f.same
  where
    go : (left : List Change) → AllZip IsChange (op ∷ rest) left → perform_all naming at s changes ≡ after_all had f.events (perform_all naming at f.state left)
        → PerformsAll total (perform_all naming at s changes) last o final (Err (ends.At index code))
    go [] a e = absurd a
    go (c ∷ cs) a e =
        was_refused U naming at s changes after last o mid sent final had results rest total index code f.state f.events c cs _ refl a.1 f.many e
        (shows f.state c f.means f.moment (All-head (λ op. RefusesOp op None) op rest f.allowed) a.0)

-- ---- all were done

given_at : (s : State) (z : ℤ) (xs : List Session) → All (IsGiven s) xs → All (IsGiven (record s { last = z })) xs
given_at s z [] h = All-nil (IsGiven (record s { last = z }))
given_at s z (x ∷ xs) h =
    let g = All-head (IsGiven s) x xs h in
    All-cons (IsGiven (record s { last = z })) x xs (record { above = g.above; within = g.within }) (given_at s z xs (All-tail (IsGiven s) x xs h))

last_means : (h : Held) (s : State) (k z : ℤ) → Means h s → k ≡ z → Means (record h { last = k }) (record s { last = z })
last_means h s k z m e = record {
  places = m.places;
  sessions = m.sessions;
  owners = record { given = m.owners.given; childless = m.owners.childless; free = m.owners.free };
  numbers = given_at s z s.sessions m.numbers;
  watches = m.watches;
  last = e;
}

pub all_done : (naming : Naming) (at : Moment) (s : State) (changes : List Change) (h : Held) (o sent : Outs) (results : Vec OpResult Global) (total : ℕ) (k : ℤ) → SoFar naming at s changes h o sent results.items [] total → k ≡ at.zxid
    → PerformsAll total (perform_all naming at s changes) (record h { last = k }) o sent (Ok results)
unfolding perform_all PerformsAll after_all no_effects
all_done naming at s changes h o sent results total k f z = go f.left f.asked f.same
  where
    go : (left : List Change) → AllZip IsChange [] left → perform_all naming at s changes ≡ after_all results.items f.events (perform_all naming at f.state left)
        → PerformsAll total (perform_all naming at s changes) (record h { last = k }) o sent (Ok results)
    go (c ∷ cs) a e = absurd a
    go [] a e =
        subst (λ (x : Trial (List ℤ) Effects). PerformsAll total x (record h { last = k }) o sent (Ok results)) (sym e)
        (sym (append-nil results.items), f.told ∙ ap (λ (l : List Output). o.items ++ l) (sym (append-nil f.events)), last_means h f.state k at.zxid f.means z)

-- an error that was passed on
pub passed_on : (total : ℕ) (t : Trial (List ℤ) Effects) (h : Held) (o sent : Outs) (r : Result (Vec OpResult Global) Stop) (stop : Stop) → IsErrAnd r (λ e. e ≡ stop) → PerformsAll total t h o sent (Err stop) → PerformsAll total t h o sent r
passed_on total t h o sent r stop i p =
    let x = err_from_is_err_and r i in
    subst (PerformsAll total t h o sent) (sym (x.1 ∙ ap Err x.2)) p

-- ---- the names of a numberer that was asked

kept_name : (N M : List ℕ → Type 0) → ((text : List ℕ) → M text ↔ N text) → (p : Path) (name : Option (List ℕ)) → IsNameOf N p name → IsNameOf M p name
unfolding IsNameOf
kept_name N M k p None h = λ text x. h text ((k text).0 x)
kept_name N M k p (Some m) h = (k _).1 h

pub kept_naming : (N M : List ℕ → ℕ → List ℕ → Type 0) (naming : Naming) → ((stem : List ℕ) (number : ℕ) (text : List ℕ) → M stem number text ↔ N stem number text) → IsNaming N naming → IsNaming M naming
kept_naming N M naming k h = record { each = λ n p i stem. kept_name (N (joined (n ∷ p)) i) (M (joined (n ∷ p)) i) (k (joined (n ∷ p)) i) p (naming p n i) (h.each n p i stem) }
