-- What the calls that change one line say of a past.
use Rattle.std.proofs.Common.{◌≡◌, ℕ, ◌+◌, ◌-◌, ◌<◌, ◌≤◌, ◌^◌, min, List, [], ◌∷◌, ◌++◌, append-nil, length, length-append, get_or, drop, Option, Some, None, Bool, true, false, cond, Result, Ok, Err, refl, sym, ap, ◌∙◌, subst, inl, inr, arith}
use Rattle.std.specs.Prelude.{IfOk, IfErr}
use Rattle.std.proofs.lemmas.Bool.{cases_eq}
use Rattle.std.proofs.lemmas.Option.{same_Some, none-some}
use Rattle.jute_core.specs.Frames.{frame}
use Rattle.zk_frame.specs.Framing.{Framing}
use Rattle.zk_frame.proofs.Prefixes.{frame_length, length_of_int}
use Rattle.tree_state.specs.Changes.{Naming}
use Rattle.store_side.specs.declared.ending.StoreEnding.{StoreEnding}
use Rattle.store_side.specs.Calls.{with_at, admitted_one, after_pull}
use Rattle.store_side.specs.Fitting.{frame_limit}
use Rattle.store_side.specs.Follows.{IsAdmitted}
use Rattle.store_side.specs.Messages.{Messages}
use Rattle.store_side.specs.Out.{to_connection}
use Rattle.store_side.specs.Past.{Past}
use Rattle.tree_server.proofs.MessageBytes.{messages_none, no_bytes}
use Rattle.tree_server.specs.declared.lines.Line.{Line}
use Rattle.tree_server.specs.declared.lines.Lines.{Lines}
use Rattle.tree_server.specs.declared.lines.Standing.{Standing}
use Rattle.tree_server.specs.declared.lines.Standing.TheVariants.{Open, Over}
use Rattle.tree_server.specs.Machines.{fresh}
use Rattle.tree_server.specs.Connections.{line_at, IsPlace, ending_of, held_by, waiting_at, rest_at, ending_at, IsPart, HoldsPart, AreLines, unwritten_in, TakesOut, put_back, over_by, with_rest, with_ending}
use Rattle.tree_server.proofs.LineLists.{Sets, TellsSame, few_lines, past_vec, line_missing, line_read, line_not_read, no_line, line_more, not_admitted, with_at_here, with_at_other, with_at_same, waits_there, waits_nowhere, rests_nowhere, ends_nowhere, rests_there, ends_there, same_line}

-- ---- the unwritten outputs

none_to : (c : ℕ) → to_connection c [] ≡ []
unfolding to_connection
none_to c = refl

pub unwritten_same : (ls new : Lines) → new.unwritten ≡ ls.unwritten → new.written ≡ ls.written → unwritten_in new ≡ unwritten_in ls
unwritten_same ls new u w = cc

-- where nothing is unwritten, nothing stands behind what waits
pub nothing_behind : (ls : Lines) (past : Past) (h : AreLines ls past) → unwritten_in ls ≡ [] → (c : ℕ) → h.behind c ≡ []
nothing_behind ls past h e c =
    no_bytes (h.behind c) (subst (λ l. Messages l (h.behind c)) (ap (to_connection c) e ∙ none_to c) (h.messages c))

pub all_waits : (ls : Lines) (past : Past) → AreLines ls past → unwritten_in ls ≡ [] → (c : ℕ)
    → past.waiting c ≡ waiting_at ls.lines.items c
all_waits ls past h e c = h.waiting c ∙ ap (λ (b : List ℕ). waiting_at ls.lines.items c ++ b) (nothing_behind ls past h e c)
    ∙ append-nil (waiting_at ls.lines.items c)

-- ---- no connection, and one more

pub no_lines : (ls : Lines) (naming : Naming) (key : List ℕ) (limit : ℕ) → ls.lines.items ≡ [] → unwritten_in ls ≡ []
    → AreLines ls (fresh naming key limit)
no_lines ls naming key limit e u = record {
  admitted = sym (ap length e);
  few = omega arith;
  behind = λ c. [];
  messages = λ c. subst (λ l. Messages l []) (sym (ap (to_connection c) u ∙ none_to c)) messages_none;
  waiting = λ c. sym (append-nil (waiting_at ls.lines.items c) ∙ waits_nowhere ls.lines.items c (no_line ls.lines.items c e));
  none = λ c a. ap (to_connection c) u ∙ none_to c;
  written = λ w. u;
  rests = λ c. sym (rests_nowhere ls.lines.items c (no_line ls.lines.items c e));
  endings = λ c. sym (ends_nowhere ls.lines.items c (no_line ls.lines.items c e));
  parts = λ c l k. absurd (none-some l (sym (no_line ls.lines.items c e) ∙ k));
  held = λ c l k. absurd (none-some l (sym (no_line ls.lines.items c e) ∙ k));
}

pub part_none : IsPart []
part_none = record {
  partial = λ body more f e. omega (arith, ap length e, length-append (frame body) more, frame_length body);
  within = λ z h. omega (arith, ap length h.begins, length-append h.prefix h.more, length_of_int z h.prefix h.named);
}

pub empty_part : (s : Standing) → s ≡ Open (record { limit = frame_limit; held = [] }) → HoldsPart s
unfolding HoldsPart
empty_part s e = subst HoldsPart (sym e) (refl, part_none)

-- a line on which nothing has come
abbrev pub IsNewLine : Line → Type 0
IsNewLine m = m ≡ record { waiting = []; held = 0; noted = false; standing = Open (record { limit = frame_limit; held = [] }) }

new_line_same : (ls : List Line) (m : Line) (c : ℕ) → IsNewLine m → TellsSame ls (ls ++ m ∷ []) c
unfolding ending_of held_by
new_line_same ls m c e = elim (line_more ls m c) [
  | inl h ↦ record {
    waits = waits_there (ls ++ m ∷ []) c m h.1 ∙ ap (λ (l : Line). l.waiting) e ∙ sym (waits_nowhere ls c h.2);
    rests = rests_there (ls ++ m ∷ []) c m h.1 ∙ ap (λ (l : Line). held_by l.standing) e ∙ sym (rests_nowhere ls c h.2);
    ends = ends_there (ls ++ m ∷ []) c m h.1 ∙ ap (λ (l : Line). ending_of l.standing) e ∙ sym (ends_nowhere ls c h.2);
  }
  | inr h ↦ same_line ls (ls ++ m ∷ []) c h
]

still_admitted : (past : Past) (c : ℕ) → IsAdmitted past c → IsAdmitted (admitted_one past) c
still_admitted past c h = record { from = h.from; below = omega (arith, h.below) }

one_more : (ls new : Lines) (past : Past) (m : Line) → (h : AreLines ls past) → new.lines.items ≡ ls.lines.items ++ m ∷ []
    → unwritten_in new ≡ unwritten_in ls → IsNewLine m
    → past.admitted + 1 < 2 ^ 32 → AreLines new (admitted_one past)
one_more ls new past m h e u n few =
    let same = λ (c : ℕ). subst (λ l. TellsSame ls.lines.items l c) (sym e) (new_line_same ls.lines.items m c n) in
    record {
      admitted = omega (arith, h.admitted, ap length e, length-append ls.lines.items (m ∷ []));
      few = few;
      behind = h.behind;
      messages = λ c. subst (λ us. Messages (to_connection c us) (h.behind c)) (sym u) (h.messages c);
      waiting = λ c. h.waiting c ∙ ap (λ (b : List ℕ). b ++ h.behind c) (sym (same c).waits);
      none = λ c out. ap (to_connection c) u ∙ h.none c (λ a. out (still_admitted past c a));
      written = λ w. u ∙ h.written w;
      rests = λ c. h.rests c ∙ sym (same c).rests;
      endings = λ c. h.endings c ∙ sym (same c).ends;
      parts = λ c l k. elim (line_more ls.lines.items m c) [
        | inl x ↦ subst (λ (a : Line). HoldsPart a.standing) (same_Some m l (sym x.1 ∙ sym (ap (λ (a : List Line). line_at a c) e) ∙ k))
            (empty_part m.standing (ap (λ (a : Line). a.standing) n))
        | inr x ↦ h.parts c l (sym x ∙ sym (ap (λ (a : List Line). line_at a c) e) ∙ k)
      ];
      held = λ c l k. elim (line_more ls.lines.items m c) [
        | inl x ↦ subst (λ (a : Line). a.held ≤ length (h.behind c))
            (same_Some m l (sym x.1 ∙ sym (ap (λ (a : List Line). line_at a c) e) ∙ k)) (omega (arith, ap (λ (a : Line). a.held) n))
        | inr x ↦ h.held c l (sym x ∙ sym (ap (λ (a : List Line). line_at a c) e) ∙ k)
      ];
    }

-- the number is the next one
pub admitted_next : (ls new : Lines) (m : Line) (pushed : Bool) (c n : ℕ)
    → new.lines.items ≡ cond pushed (ls.lines.items ++ m ∷ []) ls.lines.items → pushed ≡ true
    → unwritten_in new ≡ unwritten_in ls → IsNewLine m → n ≡ ls.lines.len → c ≡ n + 1 → n + 1 < 2 ^ 32
    → (past : Past) → AreLines ls past → (c ≡ past.admitted + 1) × AreLines new (admitted_one past)
admitted_next ls new m pushed c n e done u is size number fits past h = (
  omega (arith, size, number, h.admitted, ls.lines.ok.0),
  one_more ls new past m h (e ∙ ap (λ (b : Bool). cond b (ls.lines.items ++ m ∷ []) ls.lines.items) done) u is
      (omega (arith, size, number, fits, h.admitted, ls.lines.ok.0)),
)

-- ---- one line changed

-- what a call that changes the standing of one line says of a past
pub record Turns (past next : Past) (c : ℕ) (s : Standing) : Type 0 where
  pub admitted : next.admitted ≡ past.admitted
  pub waiting : (d : ℕ) → next.waiting d ≡ past.waiting d
  pub written : next.written ≡ past.written
  pub rests : (d : ℕ) → next.rests d ≡ with_at c (held_by s) past.rests d
  pub endings : (d : ℕ) → next.endings d ≡ with_at c (ending_of s) past.endings d

-- a line with another standing
pub record Stands (l m : Line) : Type 0 where
  pub waiting : m.waiting ≡ l.waiting
  pub held : m.held ≡ l.held
  pub part : HoldsPart m.standing

set_waits : (old new : List Line) (c : ℕ) (l m : Line) → Sets old new c l m → m.waiting ≡ l.waiting → (d : ℕ)
    → waiting_at new d ≡ waiting_at old d
set_waits old new c l m s e d = elim (cases_eq d c) [
  | inl h ↦ waits_there new d m (ap (line_at new) h ∙ s.now) ∙ e ∙ sym (waits_there old d l (ap (line_at old) h ∙ s.was))
  | inr h ↦ (same_line old new d (s.others d h)).waits
]

set_rests : (old new : List Line) (c : ℕ) (l m : Line) (f : ℕ → List ℕ) → Sets old new c l m → ((d : ℕ) → f d ≡ rest_at old d)
    → (d : ℕ) → with_at c (held_by m.standing) f d ≡ rest_at new d
set_rests old new c l m f s e d = elim (cases_eq d c) [
  | inl h ↦ with_at_here c (held_by m.standing) f d h ∙ sym (rests_there new d m (ap (line_at new) h ∙ s.now))
  | inr h ↦ with_at_other c (held_by m.standing) f d h ∙ e d ∙ sym (same_line old new d (s.others d h)).rests
]

set_ends : (old new : List Line) (c : ℕ) (l m : Line) (f : ℕ → Option StoreEnding) → Sets old new c l m → ((d : ℕ) → f d ≡ ending_at old d)
    → (d : ℕ) → with_at c (ending_of m.standing) f d ≡ ending_at new d
set_ends old new c l m f s e d = elim (cases_eq d c) [
  | inl h ↦ with_at_here c (ending_of m.standing) f d h ∙ sym (ends_there new d m (ap (line_at new) h ∙ s.now))
  | inr h ↦ with_at_other c (ending_of m.standing) f d h ∙ e d ∙ sym (same_line old new d (s.others d h)).ends
]

-- a line that stands as it did
record StandsSame (old new : List Line) (d : ℕ) : Type 0 where
  pub rests : rest_at new d ≡ rest_at old d
  pub ends : ending_at new d ≡ ending_at old d

set_same : (old new : List Line) (c : ℕ) (l m : Line) → Sets old new c l m → m.standing ≡ l.standing → (d : ℕ) → StandsSame old new d
set_same old new c l m s e d = elim (cases_eq d c) [
  | inl h ↦ record {
    rests = rests_there new d m (ap (line_at new) h ∙ s.now) ∙ ap held_by e ∙ sym (rests_there old d l (ap (line_at old) h ∙ s.was));
    ends = ends_there new d m (ap (line_at new) h ∙ s.now) ∙ ap ending_of e ∙ sym (ends_there old d l (ap (line_at old) h ∙ s.was));
  }
  | inr h ↦ let same = same_line old new d (s.others d h) in record { rests = same.rests; ends = same.ends }
]

-- other bytes wait for it
set_kept : (old new : List Line) (c : ℕ) (l m : Line) (f : ℕ → List ℕ) (b : List ℕ) → Sets old new c l m
    → ((d : ℕ) → f d ≡ waiting_at old d) → b ≡ m.waiting
    → (d : ℕ) → with_at c b f d ≡ waiting_at new d
set_kept old new c l m f b s e is d = elim (cases_eq d c) [
  | inl h ↦ with_at_here c b f d h ∙ is ∙ sym (waits_there new d m (ap (line_at new) h ∙ s.now))
  | inr h ↦ with_at_other c b f d h ∙ e d ∙ sym (same_line old new d (s.others d h)).waits
]

-- what holds of each line by its connection
set_each : (old new : List Line) (c : ℕ) (l m : Line) (P : ℕ → Line → Type 0) → Sets old new c l m → P c m
    → ((d : ℕ) (k : Line) → line_at old d ≡ Some k → P d k) → (d : ℕ) (k : Line) → line_at new d ≡ Some k → P d k
set_each old new c l m P s p q d k e = elim (cases_eq d c) [
  | inl h ↦ subst (λ (x : ℕ). P x k) (sym h) (subst (P c) (same_Some m k (sym s.now ∙ sym (ap (line_at new) h) ∙ e)) p)
  | inr h ↦ q d k (sym (s.others d h) ∙ e)
]

pub relined : (ls new : Lines) (past next : Past) (c : ℕ) (l m : Line) → AreLines ls past → Sets ls.lines.items new.lines.items c l m
    → unwritten_in new ≡ unwritten_in ls
    → Stands l m → Turns past next c m.standing → AreLines new next
relined ls new past next c l m h s u k t =
    record {
      admitted = t.admitted ∙ h.admitted ∙ sym s.size;
      few = omega (arith, t.admitted, h.few);
      behind = h.behind;
      messages = λ d. subst (λ us. Messages (to_connection d us) (h.behind d)) (sym u) (h.messages d);
      waiting = λ d. t.waiting d ∙ h.waiting d ∙ ap (λ (b : List ℕ). b ++ h.behind d)
          (sym (set_waits ls.lines.items new.lines.items c l m s k.waiting d));
      none = λ d out. ap (to_connection d) u ∙ h.none d (λ a. out (record { from = a.from; below = omega (arith, a.below, t.admitted) }));
      written = λ w. u ∙ h.written (sym t.written ∙ w);
      rests = λ d. t.rests d ∙ set_rests ls.lines.items new.lines.items c l m past.rests s h.rests d;
      endings = λ d. t.endings d ∙ set_ends ls.lines.items new.lines.items c l m past.endings s h.endings d;
      parts = set_each ls.lines.items new.lines.items c l m (λ d x. HoldsPart x.standing) s k.part h.parts;
      held = set_each ls.lines.items new.lines.items c l m (λ d x. x.held ≤ length (h.behind d)) s
          (omega (arith, k.held, h.held c l s.was)) h.held;
    }

-- a line is missing for none that was admitted
pub none_missing : (ls : Lines) (past : Past) (c i : ℕ) → IsPlace c i → (i < ls.lines.len → false ≡ true) → AreLines ls past
    → IsAdmitted past c → ⊥
none_missing ls past c i p over h a =
    not_admitted ls.lines.items past c h.admitted (line_missing ls.lines.items c i p (few_lines ls.lines) (past_vec ls.lines i over)) a

-- ---- how the line of a connection stands

turns_rest : (past : Past) (c : ℕ) (rest : List ℕ) (s : Standing) → held_by s ≡ rest → past.endings c ≡ ending_of s
    → Turns past (with_rest c rest past) c s
turns_rest past c rest s r e = record {
  admitted = refl;
  waiting = λ d. refl;
  written = refl;
  rests = λ d. ap (λ (b : List ℕ). with_at c b past.rests d) (sym r);
  endings = λ d. with_at_same c (ending_of s) past.endings e d;
}

turns_ending : (past : Past) (c : ℕ) (x : StoreEnding) (s : Standing) → held_by s ≡ [] → ending_of s ≡ Some x
    → Turns past (with_ending c x past) c s
turns_ending past c x s r e = record {
  admitted = refl;
  waiting = λ d. refl;
  written = refl;
  rests = λ d. ap (λ (b : List ℕ). with_at c b past.rests d) (sym r);
  endings = λ d. ap (λ (b : Option StoreEnding). with_at c b past.endings d) (sym e);
}

-- it stands as it did
turns_not : (past : Past) (c : ℕ) (s : Standing) → past.rests c ≡ held_by s → past.endings c ≡ ending_of s → Turns past past c s
turns_not past c s r e = record {
  admitted = refl;
  waiting = λ d. refl;
  written = refl;
  rests = λ d. with_at_same c (held_by s) past.rests r d;
  endings = λ d. with_at_same c (ending_of s) past.endings e d;
}

-- what the past says of the connection with this line
pub record Said (ls : Lines) (past : Past) (c : ℕ) (l : Line) : Type 0 where
  pub rest : past.rests c ≡ held_by l.standing
  pub ending : past.endings c ≡ ending_of l.standing
  pub part : HoldsPart l.standing

pub said_of : (ls : Lines) (past : Past) (c : ℕ) (l : Line) → AreLines ls past → line_at ls.lines.items c ≡ Some l → Said ls past c l
said_of ls past c l h is = record {
  rest = h.rests c ∙ rests_there ls.lines.items c l is;
  ending = h.endings c ∙ ends_there ls.lines.items c l is;
  part = h.parts c l is;
}

-- a line keeps all but its standing
restands : (l m : Line) (s : Standing) → m ≡ record l { standing = s } → HoldsPart s → Stands l m
restands l m s e p = record {
  waiting = ap (λ (x : Line). x.waiting) e;
  held = ap (λ (x : Line). x.held) e;
  part = subst HoldsPart (sym (ap (λ (x : Line). x.standing) e)) p;
}

-- ---- the calls

pub noted : (ls new : Lines) (c : ℕ) (l m : Line) (b : Bool) → Sets ls.lines.items new.lines.items c l m
    → unwritten_in new ≡ unwritten_in ls → m ≡ record l { noted = b }
    → (past : Past) → AreLines ls past → AreLines new past
noted ls new c l m b s u e past h =
    let said = said_of ls past c l h s.was in
    let same : m.standing ≡ l.standing = ap (λ (x : Line). x.standing) e in
    relined ls new past past c l m h s u
    (record { waiting = ap (λ (x : Line). x.waiting) e; held = ap (λ (x : Line). x.held) e; part = subst HoldsPart (sym same) said.part })
    (turns_not past c m.standing (said.rest ∙ ap held_by (sym same)) (said.ending ∙ ap ending_of (sym same)))

pub put_in : (ls new : Lines) (c : ℕ) (l m : Line) (f : Framing) → Sets ls.lines.items new.lines.items c l m
    → unwritten_in new ≡ unwritten_in ls
    → m ≡ record l { standing = put_back f l.standing } → (past : Past) → AreLines ls past → past.endings c ≡ None → f.limit ≡ frame_limit
    → IsPart f.held
    → AreLines new (with_rest c f.held past)
unfolding ending_of held_by HoldsPart
put_in ls new c l m f s u e past h none limit part = go l.standing refl
  where
    go : (t : Standing) → l.standing ≡ t → AreLines new (with_rest c f.held past)
    go (Open g) is =
        let now : m.standing ≡ Open f = ap (λ (x : Line). x.standing) e ∙ ap (put_back f) is in
        relined ls new past (with_rest c f.held past) c l m h s u
        (restands l m (Open f) (e ∙ ap (λ (t : Standing). record l { standing = put_back f t }) is) (limit, part))
        (turns_rest past c f.held m.standing (ap held_by now) (none ∙ sym (ap ending_of now)))
    go (Over x) is = absurd (none-some x (sym none ∙ (said_of ls past c l h s.was).ending ∙ ap ending_of is))

pub ends : (ls new : Lines) (c : ℕ) (l m : Line) (x : StoreEnding) → Sets ls.lines.items new.lines.items c l m
    → unwritten_in new ≡ unwritten_in ls
    → m ≡ record l { standing = over_by x l.standing } → (past : Past) → AreLines ls past → past.endings c ≡ None
    → AreLines new (with_ending c x past)
unfolding ending_of held_by HoldsPart
ends ls new c l m x s u e past h none = go l.standing refl
  where
    go : (t : Standing) → l.standing ≡ t → AreLines new (with_ending c x past)
    go (Open g) is =
        let now : m.standing ≡ Over x = ap (λ (y : Line). y.standing) e ∙ ap (over_by x) is in
        relined ls new past (with_ending c x past) c l m h s u
        (restands l m (Over x) (e ∙ ap (λ (t : Standing). record l { standing = over_by x t }) is) tt)
        (turns_ending past c x m.standing (ap held_by now) (ap ending_of now))
    go (Over y) is = absurd (none-some y (sym none ∙ (said_of ls past c l h s.was).ending ∙ ap ending_of is))

pub stays_over : (ls new : Lines) (c : ℕ) (l m : Line) (x : StoreEnding) → Sets ls.lines.items new.lines.items c l m
    → unwritten_in new ≡ unwritten_in ls
    → m ≡ record l { standing = over_by x l.standing } → (past : Past) (y : StoreEnding) → AreLines ls past → past.endings c ≡ Some y
    → AreLines new past
unfolding ending_of held_by HoldsPart
stays_over ls new c l m x s u e past y h some = go l.standing refl
  where
    go : (t : Standing) → l.standing ≡ t → AreLines new past
    go (Open g) is = absurd (none-some y (sym (ap ending_of is) ∙ sym (said_of ls past c l h s.was).ending ∙ some))
    go (Over z) is =
        let now : m.standing ≡ Over z = ap (λ (k : Line). k.standing) e ∙ ap (over_by x) is in
        let said = said_of ls past c l h s.was in
        relined ls new past past c l m h s u (restands l m (Over z) (e ∙ ap (λ (t : Standing). record l { standing = over_by x t }) is) tt)
        (turns_not past c m.standing (said.rest ∙ ap held_by (is ∙ sym now)) (said.ending ∙ ap ending_of (is ∙ sym now)))

pub taken_out : (ls new : Lines) (c : ℕ) (l m : Line) (r : Result Framing StoreEnding) → Sets ls.lines.items new.lines.items c l m
    → unwritten_in new ≡ unwritten_in ls
    → TakesOut l.standing m.standing r → m ≡ record l { standing = m.standing }
    → IfOk r (λ f. (past : Past) → AreLines ls past → IsAdmitted past c
    → (past.endings c ≡ None) × (f.held ≡ past.rests c) × (f.limit ≡ frame_limit) × IsPart f.held × AreLines new (with_rest c [] past))
unfolding ending_of held_by HoldsPart
taken_out ls new c l m (Err x) s u t e = tt
taken_out ls new c l m (Ok f) s u t e = λ past h a. go past h l.standing refl t
  where
    go : (past : Past) → AreLines ls past → (k : Standing) → l.standing ≡ k → TakesOut k m.standing (Ok f)
        → (past.endings c ≡ None) × (f.held ≡ past.rests c) × (f.limit ≡ frame_limit) × IsPart f.held × AreLines new (with_rest c [] past)
    go past h (Over x) is t = absurd t
    go past h (Open g) is t =
        let said = said_of ls past c l h s.was in
        let part = subst HoldsPart is said.part in
        let none : past.endings c ≡ None = said.ending ∙ ap ending_of is in (
          none,
          ap (λ (y : Framing). y.held) t.0 ∙ sym (said.rest ∙ ap held_by is),
          ap (λ (y : Framing). y.limit) t.0 ∙ part.0,
          subst (λ (y : Framing). IsPart y.held) (sym t.0) part.1,
          relined ls new past (with_rest c [] past) c l m h s u (restands l m m.standing e (empty_part m.standing t.1))
              (turns_rest past c [] m.standing (ap held_by t.1) (none ∙ sym (ap ending_of t.1))),
        )

pub found_over : (ls new : Lines) (c : ℕ) (l m : Line) (r : Result Framing StoreEnding) → Sets ls.lines.items new.lines.items c l m
    → unwritten_in new ≡ unwritten_in ls
    → TakesOut l.standing m.standing r → m ≡ record l { standing = m.standing }
    → IfErr r (λ x. (past : Past) → AreLines ls past → IsAdmitted past c → (past.endings c ≡ Some x) × AreLines new past)
unfolding ending_of held_by HoldsPart
found_over ls new c l m (Ok f) s u t e = tt
found_over ls new c l m (Err x) s u t e = λ past h a. go past h l.standing refl t
  where
    go : (past : Past) → AreLines ls past → (k : Standing) → l.standing ≡ k → TakesOut k m.standing (Err x) → (past.endings c ≡ Some x)
        × AreLines new past
    go past h (Open g) is t = absurd t
    go past h (Over y) is t =
        let said = said_of ls past c l h s.was in (
          said.ending ∙ ap ending_of is ∙ ap Some (sym t.0),
          relined ls new past past c l m h s u (restands l m m.standing e (subst HoldsPart (sym t.1) tt))
              (turns_not past c m.standing (said.rest ∙ ap held_by (is ∙ sym t.1)) (said.ending ∙ ap ending_of (is ∙ sym t.1))),
        )

-- the first waiting bytes were pulled
pub pulled : (ls new : Lines) (c n : ℕ) (l m : Line) → Sets ls.lines.items new.lines.items c l m → unwritten_in new ≡ unwritten_in ls
    → unwritten_in ls ≡ []
    → m ≡ record l { waiting = drop n l.waiting } → (past : Past) → AreLines ls past → AreLines new (after_pull c n past)
unfolding after_pull
pulled ls new c n l m s u none e past h =
    let waits = λ (d : ℕ). all_waits ls past h none d in
    let said = said_of ls past c l h s.was in
    let stands : m.standing ≡ l.standing = ap (λ (k : Line). k.standing) e in
    let now : drop n (past.waiting c) ≡ m.waiting = ap (drop n) (waits c ∙ waits_there ls.lines.items c l s.was)
    ∙ sym (ap (λ (k : Line). k.waiting) e) in
    record {
      admitted = h.admitted ∙ sym s.size;
      few = h.few;
      behind = h.behind;
      messages = λ d. subst (λ us. Messages (to_connection d us) (h.behind d)) (sym u) (h.messages d);
      waiting = λ d. set_kept ls.lines.items new.lines.items c l m past.waiting (drop n (past.waiting c)) s waits now d
          ∙ sym (ap (λ (b : List ℕ). waiting_at new.lines.items d ++ b) (nothing_behind ls past h none d)
          ∙ append-nil (waiting_at new.lines.items d));
      none = λ d out. ap (to_connection d) u ∙ h.none d (λ a. out (record { from = a.from; below = a.below }));
      written = λ w. u ∙ none;
      rests = λ d. h.rests d ∙ sym (set_same ls.lines.items new.lines.items c l m s stands d).rests;
      endings = λ d. h.endings d ∙ sym (set_same ls.lines.items new.lines.items c l m s stands d).ends;
      parts = set_each ls.lines.items new.lines.items c l m (λ d x. HoldsPart x.standing) s
          (subst HoldsPart (sym stands) said.part) h.parts;
      held = set_each ls.lines.items new.lines.items c l m (λ d x. x.held ≤ length (h.behind d)) s
          (omega (arith, ap (λ (k : Line). k.held) e, h.held c l s.was)) h.held;
    }

-- ---- what is read of one line

pub read_ending : (ls : Lines) (lent : List Line) (c i : ℕ) (l : Line) (r : Option StoreEnding) → lent ≡ ls.lines.items → IsPlace c i
    → i < length lent → l ≡ get_or lent i l
    → r ≡ ending_of l.standing → (past : Past) → AreLines ls past → IsAdmitted past c → r ≡ past.endings c
read_ending ls lent c i l r e p within is k past h a = k ∙ sym (said_of ls past c l h (line_read ls.lines lent c i l e p within is)).ending

pub read_waiting : (ls : Lines) (lent : List Line) (c i : ℕ) (l : Line) (n r : ℕ) → lent ≡ ls.lines.items → IsPlace c i → i < length lent
    → l ≡ get_or lent i l
    → n ≡ length l.waiting → n < 2 ^ 64 → r ≡ min (n + l.held) (2 ^ 64 - 1) → (past : Past) → AreLines ls past → IsAdmitted past c
    → past.written ≡ true → r ≡ length (past.waiting c)
read_waiting ls lent c i l n r e p within is k fits sum past h a w =
    let there = line_read ls.lines lent c i l e p within is in
    let none = nothing_behind ls past h (h.written w) c in
    omega (
      arith,
      k,
      fits,
      sum,
      h.held c l there,
      ap length none,
      ap length
          (all_waits ls past h (h.written w) c ∙ waits_there ls.lines.items c l there),
    )

-- no more is said to wait than does
pub read_most : (ls : Lines) (lent : List Line) (c i : ℕ) (l : Line) (n r : ℕ) → lent ≡ ls.lines.items → IsPlace c i → i < length lent
    → l ≡ get_or lent i l
    → n ≡ length l.waiting → r ≡ min (n + l.held) (2 ^ 64 - 1) → (past : Past) → AreLines ls past → IsAdmitted past c
    → r ≤ length (past.waiting c)
read_most ls lent c i l n r e p within is k sum past h a =
    let there = line_read ls.lines lent c i l e p within is in
    let whole = h.waiting c ∙ ap (λ (b : List ℕ). b ++ h.behind c) (waits_there ls.lines.items c l there) in
    omega (arith, k, sum, h.held c l there, ap length whole, length-append l.waiting (h.behind c))

pub read_none : (ls : Lines) (lent : List Line) (c i : ℕ) → lent ≡ ls.lines.items → IsPlace c i → length lent ≤ i → (past : Past)
    → AreLines ls past → IsAdmitted past c → ⊥
read_none ls lent c i e p over past h a = not_admitted ls.lines.items past c h.admitted (line_not_read ls.lines lent c i e p over) a
