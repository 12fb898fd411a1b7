-- The requests of a workload can be written, and its events may happen one after another.
use Rattle.std.proofs.Common.{◌≡◌, ℕ, zero, suc, ℤ, pos, negsuc, ◌+◌, ◌*◌, ◌%◌, ◌<◌, ◌≤◌, ◌^◌, List, [], ◌∷◌, ◌++◌, get_or, length, length-append, replicate, refl, sym, ap, subst, ◌∙◌, append_assoc, arith, Bool, true, false, SFits, to_z, of_z, Some, None, All, inl, inr}
use Rattle.std.specs.Prelude.{◌==◌, codes, sum_by, if◌then◌else◌}
use Rattle.std.specs.Fmt.{decimal}
use Rattle.std.specs.Int.{w32, w64, to_be_bytes}
use Rattle.std.proofs.lemmas.Bool.{cases_Bool}
use Rattle.std.proofs.lemmas.Int.{ints, to_z-of_z}
use Rattle.zk_records.specs.declared.create.CreateRequest.{CreateRequest}
use Rattle.zk_records.specs.declared.node.CheckRequest.{CheckRequest}
use Rattle.zk_records.specs.declared.node.DeleteRequest.{DeleteRequest}
use Rattle.zk_records.specs.declared.node.SetContentRequest.{SetContentRequest}
use Rattle.zk_records.specs.declared.path_watch.PathWatch.{PathWatch}
use Rattle.zk_messages.specs.declared.request.Op.{Op}
use Rattle.std.proofs.lemmas.List.{append-nil}
use Rattle.std.proofs.lemmas.List.Elements.{All-cons, All-nil}
use Rattle.std.proofs.lemmas.List.Sums.{sum_by-cons}
use Rattle.std.proofs.lemmas.Nat.{mod_below}
use Rattle.rand_chacha.specs.ChaCha.{ChaCha, word_at}
use Rattle.jute_core.specs.Frames.{frame}
use Rattle.zk_records.specs.Acls.{AreShortAcls, IsShortAcl}
use Rattle.zk_messages.proofs.Sizes.{body_size, op_size}
use Rattle.zk_messages.specs.Kinds.{kind_of}
use Rattle.zk_messages.specs.Refuses.{open_acl}
use Rattle.zk_messages.specs.Requests.{IsKind, MayHave, SpellsRequest, number_of}
use Rattle.zk_messages.specs.Sending.{IsShortOp, IsShortRequest}
use Rattle.zk_messages.specs.declared.request.Op.TheVariants as ops
use Rattle.zk_messages.specs.declared.request.Request.{Request}
use Rattle.zk_messages.specs.declared.request.Request.TheVariants as requests
use Rattle.replay_cli.specs.Script.{opened, opened_by}
use Rattle.replay_cli.specs.Workload.{Asks, DrawsThree, creates, deletes, changes, reads, looks, lists, numbers, checks, lists_plainly, pings, AreSteps, FitsFrame, IsStart, IsStep, IsWorkload, everything, exchange, greeting, key_of_seed, greetings, parent_creation, word_of, xid_at, creation, parent}
use Rattle.replay_cli.specs.Worlds.{MayFollow, MayHappen}
use Rattle.replay_cli.specs.declared.script.Event.{Event}
use Rattle.replay_cli.specs.declared.script.Event.TheVariants.{Open, Send, Up, Down, Cut, Time, Tick, Drain}

-- ---- the requests

pub asks_known : (path content : List ℕ) (kind : ℕ) (r : Request) → Asks path content kind r → IsKind (number_of r) (kind_of r)
asks_known path content _ _ creates = refl
asks_known path content _ _ deletes = refl
asks_known path content _ _ changes = refl
asks_known path content _ _ reads = refl
asks_known path content _ _ looks = refl
asks_known path content _ _ lists = refl
asks_known path content _ _ numbers = refl
asks_known path content _ _ checks = refl
asks_known path content _ _ lists_plainly = refl
asks_known path content _ _ pings = refl

positive : (n : ℕ) (kind : ℤ) → MayHave (pos n) kind
positive n kind = (λ e. absurd cc, λ e. absurd cc)

pub asks_may : (path content : List ℕ) (kind s : ℕ) (r : Request) → Asks path content kind r → MayHave (xid_at kind s) (number_of r)
asks_may path content _ s _ creates = positive (s + 2) (pos 1)
asks_may path content _ s _ deletes = positive (s + 2) (pos 2)
asks_may path content _ s _ changes = positive (s + 2) (pos 5)
asks_may path content _ s _ reads = positive (s + 2) (pos 4)
asks_may path content _ s _ looks = positive (s + 2) (pos 3)
asks_may path content _ s _ lists = positive (s + 2) (pos 8)
asks_may path content _ s _ numbers = positive (s + 2) (pos 1)
asks_may path content _ s _ checks = positive (s + 2) (pos 14)
asks_may path content _ s _ lists_plainly = positive (s + 2) (pos 12)
asks_may path content _ s _ pings = (λ e. absurd cc, λ e. refl)

pub short_acls : AreShortAcls (open_acl ∷ [])
short_acls = record { few = omega arith; each = All-cons IsShortAcl open_acl [] (record { scheme = omega arith; id = omega arith }) (All-nil IsShortAcl) }

stem_size : (path : List ℕ) → length path ≤ 100 → length (path ++ codes "/s-") < 2 ^ 31
stem_size path short = omega (arith, short, length-append path (codes "/s-"))

pub asks_short : (path content : List ℕ) (kind : ℕ) (r : Request) → length path ≤ 100 → length content ≤ 100 → Asks path content kind r → IsShortRequest r
asks_short path content _ _ short few creates = record { path = omega (arith, short); content = omega (arith, few); acls = short_acls }
asks_short path content _ _ short few deletes = omega (arith, short)
asks_short path content _ _ short few changes = record { path = omega (arith, short); content = omega (arith, few) }
asks_short path content _ _ short few reads = omega (arith, short)
asks_short path content _ _ short few looks = omega (arith, short)
asks_short path content _ _ short few lists = omega arith
asks_short path content _ _ short few numbers = record { path = stem_size path short; content = omega (arith, few); acls = short_acls }
asks_short path content _ _ short few checks =
    All-cons IsShortOp (ops.Check (record { path = path; version = negsuc 0 })) (ops.SetContent (record { path = path; content = Some content; version = negsuc 0 }) ∷ []) (omega (arith, short))
    (All-cons IsShortOp (ops.SetContent (record { path = path; content = Some content; version = negsuc 0 })) [] (record { path = omega (arith, short); content = omega (arith, few) }) (All-nil IsShortOp))
asks_short path content _ _ short few lists_plainly = omega arith
asks_short path content _ _ short few pings = tt

pub asks_fit : (path content : List ℕ) (kind : ℕ) (xid : ℤ) (r : Request) → length path ≤ 100 → length content ≤ 100 → Asks path content kind r → FitsFrame xid r
asks_fit path content _ xid r short few creates = λ b h. let size = body_size xid r b h in omega (arith, size, short, few)
asks_fit path content _ xid r short few deletes = λ b h. let size = body_size xid r b h in omega (arith, size, short)
asks_fit path content _ xid r short few changes = λ b h. let size = body_size xid r b h in omega (arith, size, short, few)
asks_fit path content _ xid r short few reads = λ b h. let size = body_size xid r b h in omega (arith, size, short)
asks_fit path content _ xid r short few looks = λ b h. let size = body_size xid r b h in omega (arith, size, short)
asks_fit path content _ xid r short few lists = λ b h. let size = body_size xid r b h in omega (arith, size)
asks_fit path content _ xid r short few numbers = λ b h. let size = body_size xid r b h in omega (arith, size, short, few, length-append path (codes "/s-"))
asks_fit path content _ xid r short few checks = λ b h. let size = body_size xid r b h in omega (arith, size, short, few)
asks_fit path content _ xid r short few lists_plainly = λ b h. let size = body_size xid r b h in omega (arith, size)
asks_fit path content _ xid r short few pings = λ b h. let size = body_size xid r b h in omega (arith, size)

pub parent_fits : (r : Request) → r ≡ parent_creation → FitsFrame (pos 1) r
parent_fits r is = λ b h. let size = body_size (pos 1) parent_creation b (subst (λ (x : Request). SpellsRequest (pos 1) x b) is h) in omega (arith, size)

pub parent_known : (r : Request) → r ≡ parent_creation → IsKind (number_of r) (kind_of r)
parent_known r is = subst (λ (x : Request). IsKind (number_of x) (kind_of x)) (sym is) refl

pub parent_may : (r : Request) → r ≡ parent_creation → MayHave (pos 1) (number_of r)
parent_may r is = positive 1 (number_of r)

pub parent_short : (r : Request) → r ≡ parent_creation → IsShortRequest r
parent_short r is = subst IsShortRequest (sym is) (record { path = omega arith; content = tt; acls = short_acls })

pub parent_spelled : (r : Request) (bytes : List ℕ) → r ≡ parent_creation → (body : List ℕ) × SpellsRequest (pos 1) r body × (bytes ≡ frame body)
    → (body : List ℕ) × SpellsRequest (pos 1) parent_creation body × (bytes ≡ frame body)
parent_spelled r bytes is h = (h.0, subst (λ (x : Request). SpellsRequest (pos 1) x h.0) is h.1, h.2)

-- a request of each kind, as it is made
pub asks_creates : (path content : List ℕ) (kind : ℕ) (r : CreateRequest) → kind ≡ 0 → r ≡ creation path content (pos 0) → Asks path content kind (requests.Create r)
asks_creates path content kind r k is = subst (λ (n : ℕ). Asks path content n (requests.Create r)) (sym k) (subst (λ (x : CreateRequest). Asks path content 0 (requests.Create x)) (sym is) creates)

pub asks_deletes : (path content : List ℕ) (kind : ℕ) (r : DeleteRequest) → kind ≡ 1 → r ≡ record { path = path; version = negsuc 0 } → Asks path content kind (requests.Delete r)
asks_deletes path content kind r k is = subst (λ (n : ℕ). Asks path content n (requests.Delete r)) (sym k) (subst (λ (x : DeleteRequest). Asks path content 1 (requests.Delete x)) (sym is) deletes)

pub asks_changes : (path content : List ℕ) (kind : ℕ) (r : SetContentRequest) → kind ≡ 2 → r ≡ record { path = path; content = Some content; version = negsuc 0 }
    → Asks path content kind (requests.SetContent r)
asks_changes path content kind r k is =
    subst (λ (n : ℕ). Asks path content n (requests.SetContent r)) (sym k) (subst (λ (x : SetContentRequest). Asks path content 2 (requests.SetContent x)) (sym is) changes)

pub asks_reads : (path content : List ℕ) (kind : ℕ) (r : PathWatch) → kind ≡ 3 → r ≡ record { path = path; watch = true } → Asks path content kind (requests.GetContent r)
asks_reads path content kind r k is = subst (λ (n : ℕ). Asks path content n (requests.GetContent r)) (sym k) (subst (λ (x : PathWatch). Asks path content 3 (requests.GetContent x)) (sym is) reads)

pub asks_looks : (path content : List ℕ) (kind : ℕ) (r : PathWatch) → kind ≡ 4 → r ≡ record { path = path; watch = true } → Asks path content kind (requests.Exists r)
asks_looks path content kind r k is = subst (λ (n : ℕ). Asks path content n (requests.Exists r)) (sym k) (subst (λ (x : PathWatch). Asks path content 4 (requests.Exists x)) (sym is) looks)

pub asks_lists : (path content : List ℕ) (kind : ℕ) (r : PathWatch) → kind ≡ 5 → r ≡ record { path = parent; watch = true } → Asks path content kind (requests.GetChildren r)
asks_lists path content kind r k is = subst (λ (n : ℕ). Asks path content n (requests.GetChildren r)) (sym k) (subst (λ (x : PathWatch). Asks path content 5 (requests.GetChildren x)) (sym is) lists)

pub asks_numbers : (path content stem : List ℕ) (kind : ℕ) (r : CreateRequest) → kind ≡ 6 → stem ≡ path ++ codes "/s-" → r ≡ creation stem content (pos 2) → Asks path content kind (requests.Create r)
asks_numbers path content stem kind r k s is =
    subst (λ (n : ℕ). Asks path content n (requests.Create r)) (sym k)
    (subst (λ (x : CreateRequest). Asks path content 6 (requests.Create x)) (sym (is ∙ ap (λ (p : List ℕ). creation p content (pos 2)) s)) numbers)

pub asks_checks : (path content : List ℕ) (list : List Op) (check : CheckRequest) (change : SetContentRequest) → check ≡ record { path = path; version = negsuc 0 }
    → change ≡ record { path = path; content = Some content; version = negsuc 0 } → list ≡ ops.Check check ∷ ops.SetContent change ∷ [] → Asks path content 7 (requests.Multi list)
asks_checks path content list check change a b is =
    subst (λ (l : List Op). Asks path content 7 (requests.Multi l)) (sym (is ∙ (λ i. ops.Check (a i) ∷ ops.SetContent (b i) ∷ []))) checks

pub checked : (path text : List ℕ) → text ≡ path → ◌≡◌ {A = CheckRequest} (record { path = text; version = negsuc 0 }) (record { path = path; version = negsuc 0 })
checked path text is = ap (λ (t : List ℕ). record { path = t; version = negsuc 0 }) is

pub two_ops : (a b c d : List Op) (x y : Op) → a ≡ [] → b ≡ a ++ x ∷ [] → c ≡ b ++ y ∷ [] → d ≡ c → d ≡ x ∷ y ∷ []
two_ops a b c d x y none one two is = is ∙ two ∙ ap (λ (l : List Op). l ++ y ∷ []) (one ∙ ap (λ (l : List Op). l ++ x ∷ []) none)

pub asks_both : (path content : List ℕ) (kind : ℕ) (list : List Op) → kind ≡ 7 → Asks path content 7 (requests.Multi list) → Asks path content kind (requests.Multi list)
asks_both path content kind list k asks = subst (λ (n : ℕ). Asks path content n (requests.Multi list)) (sym k) asks

pub asks_plainly : (path content : List ℕ) (kind : ℕ) (r : PathWatch) → kind ≡ 8 → r ≡ record { path = parent; watch = false } → Asks path content kind (requests.GetChildren2 r)
asks_plainly path content kind r k is =
    subst (λ (n : ℕ). Asks path content n (requests.GetChildren2 r)) (sym k) (subst (λ (x : PathWatch). Asks path content 8 (requests.GetChildren2 x)) (sym is) lists_plainly)

pub asks_pings : (path content : List ℕ) (kind : ℕ) → kind ≡ 9 → Asks path content kind requests.Ping
asks_pings path content kind k = subst (λ (n : ℕ). Asks path content n requests.Ping) (sym k) pings

pub ruleset asked = (asks_creates, asks_deletes, asks_changes, asks_reads, asks_looks, asks_lists, asks_numbers, asks_checks, asks_both, asks_plainly, asks_pings)

-- ---- its frame

xid_fits : (kind step : ℕ) → step < 100000 → SFits w32 (xid_at kind step)
xid_fits kind step few = elim (cases_Bool (kind == 9)) [
  | inl t ↦ subst (λ (b : Bool). SFits w32 (if b then negsuc 1 else pos (step + 2))) (sym t) (omega (arith, ints))
  | inr f ↦ subst (λ (b : Bool). SFits w32 (if b then negsuc 1 else pos (step + 2))) (sym f) (omega (arith, ints, few))
]

xid_back : (kind step : ℕ) (z : ℤ) → step < 100000 → z ≡ xid_at kind step → to_z w32 (of_z w32 z) ≡ xid_at kind step
xid_back kind step z few is = ap (λ (x : ℤ). to_z w32 (of_z w32 x)) is ∙ to_z-of_z w32 (xid_at kind step) (xid_fits kind step few)

pub may_at : (path content : List ℕ) (kind step : ℕ) (r : Request) (z : ℤ) → step < 100000 → z ≡ xid_at kind step → Asks path content kind r → MayHave (to_z w32 (of_z w32 z)) (number_of r)
may_at path content kind step r z few is asks =
    subst (λ (x : ℤ). MayHave x (number_of r)) (sym (xid_back kind step z few is)) (asks_may path content kind step r asks)

pub content_short : (content : List ℕ) (step : ℕ) → content ≡ to_be_bytes w64 step → length content ≤ 100
content_short content step is = let size : length (to_be_bytes w64 step) ≡ 8 = refl in omega (arith, ap length is, size)

pub framed_at : (path content : List ℕ) (kind step : ℕ) (r : Request) (z : ℤ) (bytes : List ℕ) → step < 100000 → z ≡ xid_at kind step → content ≡ to_be_bytes w64 step → Asks path content kind r
    → (body : List ℕ) × SpellsRequest (to_z w32 (of_z w32 z)) r body × (bytes ≡ frame body)
    → (x : Request) × Asks path (to_be_bytes w64 step) kind x × (b : List ℕ) × SpellsRequest (xid_at kind step) x b × (bytes ≡ frame b)
framed_at path content kind step r z bytes few is same asks h = (
  r,
  subst (λ (l : List ℕ). Asks path l kind r) same asks,
  h.0,
  subst (λ (x : ℤ). SpellsRequest x r h.0) (xid_back kind step z few is) h.1,
  h.2,
)

-- ---- the words

-- a generator of this seed, of which so many words were taken
abbrev pub IsDrawn : ℕ → ℕ → ChaCha → Type 0
IsDrawn seed n g = g ≡ record { key = key_of_seed seed; stream = 0; word_pos = n }

drawn_words : (seed s : ℕ) (g h : ChaCha) (words : List ℕ) → IsDrawn seed (3 * s) g → DrawsThree g h words
    → words ≡ word_of seed (3 * s) ∷ word_of seed (3 * s + 1) ∷ word_of seed (3 * s + 2) ∷ []
drawn_words seed s g h words is d =
    d.words_are ∙ ap (λ (x : ChaCha). word_at 10 x.key x.stream x.word_pos ∷ word_at 10 x.key x.stream (x.word_pos + 1) ∷ word_at 10 x.key x.stream (x.word_pos + 2) ∷ []) is

pub drawn_next : (seed s : ℕ) (g h : ChaCha) (words : List ℕ) → IsDrawn seed (3 * s) g → DrawsThree g h words → IsDrawn seed (3 * (s + 1)) h
drawn_next seed s g h words is d =
    let same : 3 * s + 3 ≡ 3 * (s + 1) = omega arith in
    d.next ∙ ap (λ (x : ChaCha). record x { word_pos = x.word_pos + 3 }) is ∙ ap (λ (n : ℕ). record { key = key_of_seed seed; stream = 0; word_pos = n }) same

-- ---- lists of events

pub no_greetings : (before : List Event) → before ≡ before ++ greetings 0
unfolding greetings
no_greetings before = sym (append-nil before)

pub more_greetings : (before now after : List Event) (c : ℕ) (bytes : List ℕ) → now ≡ before ++ greetings c → bytes ≡ greeting → after ≡ now ++ Send (c + 1) bytes ∷ [] → after ≡ before ++ greetings (c + 1)
unfolding greetings
more_greetings before now after c bytes so is one =
    let next : c + 1 ≡ suc c = omega arith in
    one ∙ (λ i. so i ++ Send (next i) (is i) ∷ []) ∙ append_assoc before (greetings c) (Send (suc c) greeting ∷ []) ∙ ap (λ (n : ℕ). before ++ greetings n) (sym next)

pub greeting_is : 0 ∷ 0 ∷ 0 ∷ 45 ∷ 0 ∷ 0 ∷ 0 ∷ 0 ∷ 0 ∷ 0 ∷ 0 ∷ 0 ∷ 0 ∷ 0 ∷ 0 ∷ 0 ∷ 0 ∷ 0 ∷ 117 ∷ 48 ∷ 0 ∷ 0 ∷ 0 ∷ 0 ∷ 0 ∷ 0 ∷ 0 ∷ 0 ∷ 0 ∷ 0 ∷ 0 ∷ 16 ∷ replicate 17 0 ≡ greeting
unfolding frame
greeting_is = refl

pub exchange_is : (before now : List Event) (s c : ℕ) (bytes : List ℕ) (t : ℤ) → t ≡ pos s → now ≡ before ++ Time t ∷ Send c bytes ∷ Up c everything everything ∷ Down c everything ∷ []
    → now ≡ before ++ exchange s c bytes
unfolding exchange
exchange_is before now s c bytes t at is = is ∙ ap (λ (x : ℤ). before ++ Time x ∷ Send c bytes ∷ Up c everything everything ∷ Down c everything ∷ []) at

pub four_more : (old a b c d : List Event) (w x y z : Event) → a ≡ old ++ w ∷ [] → b ≡ a ++ x ∷ [] → c ≡ b ++ y ∷ [] → d ≡ c ++ z ∷ [] → d ≡ old ++ w ∷ x ∷ y ∷ z ∷ []
four_more old a b c d w x y z e f g h =
    h ∙ ap (λ (l : List Event). l ++ z ∷ []) (g ∙ ap (λ (l : List Event). l ++ y ∷ []) (f ∙ ap (λ (l : List Event). l ++ x ∷ []) e ∙ append_assoc old (w ∷ []) (x ∷ []))
    ∙ append_assoc old (w ∷ x ∷ []) (y ∷ [])) ∙ append_assoc old (w ∷ x ∷ y ∷ []) (z ∷ [])

-- ---- the steps so far

-- the events behind those of a start are those of so many steps
pub record Stepped (seed sessions s : ℕ) (before now : List Event) : Type 0 where
  pub more : List Event
  pub steps : AreSteps (word_of seed) sessions s more
  pub are : now ≡ before ++ more

pub no_steps : (seed sessions : ℕ) (before : List Event) → Stepped seed sessions 0 before before
unfolding AreSteps
no_steps seed sessions before = record { more = []; steps = refl; are = sym (append-nil before) }

pub one_step : (seed sessions s : ℕ) (before now after : List Event) (g h : ChaCha) (words : List ℕ) → IsDrawn seed (3 * s) g → DrawsThree g h words → Stepped seed sessions s before now
    → (more : List Event) × IsStep sessions s (get_or words 0 0) (get_or words 1 0) (get_or words 2 0) more × (after ≡ now ++ more) → Stepped seed sessions (s + 1) before after
unfolding AreSteps
one_step seed sessions s before now after g h words is d so step =
    let w = drawn_words seed s g h words is d in
    let one : IsStep sessions s (word_of seed (3 * s)) (word_of seed (3 * s + 1)) (word_of seed (3 * s + 2)) step.0
    = subst (λ (ws : List ℕ). IsStep sessions s (get_or ws 0 0) (get_or ws 1 0) (get_or ws 2 0) step.0) w step.1 in
    let next : suc s ≡ s + 1 = omega arith in
    subst (λ (n : ℕ). Stepped seed sessions n before after) next (record {
      more = so.more ++ step.0;
      steps = (so.more, step.0, so.steps, one, refl);
      are = step.2 ∙ ap (λ (l : List Event). l ++ step.0) so.are ∙ append_assoc before so.more step.0;
    })

-- ---- the events

opened_join : (xs ys : List Event) → opened (xs ++ ys) ≡ opened xs + opened ys
opened_join [] ys = omega arith
opened_join (x ∷ xs) ys = omega (arith, opened_join xs ys)

-- so many may follow, and these are opened by then
record MayGo (count opens : ℕ) (events : List Event) : Type 0 where
  may : MayFollow count events
  opens_are : opened events ≡ opens

may_join : (count : ℕ) (xs ys : List Event) → MayFollow count xs → MayFollow (count + opened xs) ys → MayFollow count (xs ++ ys)
unfolding MayFollow
may_join count [] ys a b = subst (λ (n : ℕ). MayFollow n ys) (omega arith) b
may_join count (x ∷ xs) ys a b = (a.0, may_join (count + opened_by x) xs ys a.1 (subst (λ (n : ℕ). MayFollow n ys) (omega arith) b))

go_join : (count a b : ℕ) (xs ys : List Event) → MayGo count a xs → MayGo (count + a) b ys → MayGo count (a + b) (xs ++ ys)
go_join count a b xs ys x y = record {
  may = may_join count xs ys x.may (subst (λ (n : ℕ). MayFollow n ys) (ap (λ (n : ℕ). count + n) (sym x.opens_are)) y.may);
  opens_are = omega (arith, opened_join xs ys, x.opens_are, y.opens_are);
}

opens_go : (count n : ℕ) → MayGo count n (replicate n Open)
unfolding MayFollow
opens_go count zero = record { may = tt; opens_are = refl }
opens_go count (suc n) = let rest = opens_go (count + 1) n in record { may = (tt, rest.may); opens_are = omega (arith, rest.opens_are) }

greetings_go : (count n : ℕ) → n ≤ count → MayGo count 0 (greetings n)
unfolding greetings MayFollow
greetings_go count zero few = record { may = tt; opens_are = refl }
greetings_go count (suc n) few =
    let last : MayGo (count + 0) 0 (Send (suc n) greeting ∷ []) = record { may = ((omega arith, omega (arith, few)), tt); opens_are = refl } in
    go_join count 0 0 (greetings n) (Send (suc n) greeting ∷ []) (greetings_go count n (omega (arith, few))) last

end_go : (count : ℕ) → MayGo count 0 (Drain ∷ [])
unfolding MayFollow
end_go count = record { may = (tt, tt); opens_are = refl }

start_go : (n : ℕ) (events : List Event) → 0 < n → IsStart n events → MayGo 0 n events
unfolding MayFollow
start_go n events some h =
    let sends : MayGo (0 + n + 0) 0 (Send 1 (frame h.body) ∷ Drain ∷ []) = record { may = ((omega arith, omega (arith, some)), (tt, tt)); opens_are = refl } in
    let all = go_join 0 (n + 0) 0 (replicate n Open ++ greetings n) (Send 1 (frame h.body) ∷ Drain ∷ [])
    (go_join 0 n 0 (replicate n Open) (greetings n) (opens_go 0 n) (greetings_go (0 + n) n (omega arith))) (subst (λ (x : ℕ). MayGo x 0 (Send 1 (frame h.body) ∷ Drain ∷ [])) (omega arith) sends) in
    let same : n + 0 + 0 ≡ n = omega arith in
    subst (λ (es : List Event). MayGo 0 n es) (sym h.are) (subst (λ (x : ℕ). MayGo 0 x ((replicate n Open ++ greetings n) ++ Send 1 (frame h.body) ∷ Drain ∷ [])) same all)

sends_go : (n s c : ℕ) (bytes : List ℕ) → s < 100000 → 0 < c → c ≤ n → MayGo n 0 (exchange s c bytes)
unfolding exchange MayFollow
sends_go n s c bytes few from to =
    let under : s < 4611686018427387904 = omega (arith, few) in
    let at : c ≤ n + 0 = omega (arith, to) in
    let up : c ≤ n + 0 + 0 = omega (arith, to) in
    let down : c ≤ n + 0 + 0 + 0 = omega (arith, to) in
    record { may = ((s, refl, under), ((from, at), ((from, up), ((from, down), tt)))); opens_are = refl }

step_go : (n s a b d : ℕ) (events : List Event) → 0 < n → s < 100000 → IsStep n s a b d events → MayGo n 0 events
step_go n s a b d events some few h =
    let below = mod_below a n some in
    subst (λ (es : List Event). MayGo n 0 es) (sym h.are) (sends_go n s (1 + a % n) (frame h.body) few (omega arith) (omega (arith, below)))

steps_go : (words : ℕ → ℕ) (n s : ℕ) (events : List Event) → 0 < n → s ≤ 100000 → AreSteps words n s events → MayGo n 0 events
unfolding AreSteps MayFollow
steps_go words n zero events some few h = subst (λ (es : List Event). MayGo n 0 es) (sym h) (record { may = tt; opens_are = refl })
steps_go words n (suc s) events some few h =
    let last = step_go n s _ _ _ h.1 some (omega (arith, few)) h.3 in
    subst (λ (es : List Event). MayGo n 0 es) (sym h.4)
    (go_join n 0 0 h.0 h.1 (steps_go words n s h.0 some (omega (arith, few)) h.2) (subst (λ (x : ℕ). MayGo x 0 h.1) (omega arith) last))

pub workload_may : (words : ℕ → ℕ) (n steps : ℕ) (events : List Event) → 0 < n → steps ≤ 100000 → IsWorkload words n steps events → MayFollow 0 events
workload_may words n steps events some few h =
    let start = start_go n h.start some h.is_start in
    let middle = steps_go words n steps h.middle some few h.are_steps in
    let both = go_join 0 n 0 h.start h.middle start (subst (λ (x : ℕ). MayGo x 0 h.middle) (omega arith) middle) in
    let all = go_join 0 (n + 0) 0 (h.start ++ h.middle) (Drain ∷ []) both (end_go (0 + (n + 0))) in
    subst (MayFollow 0) (sym h.are) all.may

pub workload_opens : (words : ℕ → ℕ) (n steps : ℕ) (events : List Event) → 0 < n → steps ≤ 100000 → IsWorkload words n steps events → opened events ≡ n
workload_opens words n steps events some few h =
    let start = start_go n h.start some h.is_start in
    let middle = steps_go words n steps h.middle some few h.are_steps in
    let all : opened (h.start ++ h.middle ++ Drain ∷ []) ≡ opened (h.start ++ h.middle) + 0 = opened_join (h.start ++ h.middle) (Drain ∷ []) in
    omega (arith, ap opened h.are, all, opened_join h.start h.middle, start.opens_are, middle.opens_are)
