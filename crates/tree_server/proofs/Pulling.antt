-- What a pull, behind a flush, says of a past.
use Rattle.std.proofs.Common.{◌≡◌, ◌<◌, ℕ, min, List, ◌++◌, length, take, drop, Some, true, false, Result, Ok, Err, refl, sym, ap, ◌∙◌}
use Rattle.std.specs.Prelude.{IfOk, OnErr}
use Rattle.jute_core.specs.declared.held.Memory.{Memory}
use Rattle.store_side.specs.Calls.{after_pull}
use Rattle.store_side.specs.Follows.{IsAdmitted}
use Rattle.store_side.specs.Past.{Past}
use Rattle.tree_server.specs.declared.lines.Line.{Line}
use Rattle.tree_server.specs.declared.lines.Lines.{Lines}
use Rattle.tree_server.specs.Connections.{line_at, IsPlace, AreLines, unwritten_in}
use Rattle.tree_server.proofs.LineLists.{Sets, waits_there}
use Rattle.tree_server.proofs.OneLine.{all_waits, none_missing, noted, pulled}

-- all is written
abbrev pub Flushes : Lines → Lines → Type 0
Flushes old mid = (past : Past) → AreLines old past → AreLines mid (record past { written = true })

-- what waits for the connection stands in its line
line_waits : (mid : Lines) (past : Past) (c : ℕ) (l : Line) → AreLines mid (record past { written = true })
    → line_at mid.lines.items c ≡ Some l → past.waiting c ≡ l.waiting
line_waits mid past c l h is = all_waits mid (record past { written = true }) h (h.written refl) c ∙ waits_there mid.lines.items c l is

-- a past of which not all could be pulled
not_known : (mid : Lines) (past : Past) → AreLines mid (record past { written = true }) → AreLines mid past
not_known mid past h = record {
  admitted = h.admitted;
  few = h.few;
  behind = h.behind;
  messages = h.messages;
  waiting = h.waiting;
  none = λ c out. h.none c (λ a. out (record { from = a.from; below = a.below }));
  written = λ w. h.written refl;
  rests = h.rests;
  endings = h.endings;
  parts = h.parts;
  held = h.held;
}

pub pull_count : (old mid : Lines) (c limit : ℕ) (l : Line) (r : Result ℕ Memory) → Flushes old mid → line_at mid.lines.items c ≡ Some l
    → IfOk r (λ n. n ≡ min limit (length l.waiting))
    → IfOk r (λ n. (past : Past) → AreLines old past → IsAdmitted past c → n ≡ min limit (length (past.waiting c)))
pull_count old mid c limit l (Err e) f s k = tt
pull_count old mid c limit l (Ok n) f s k = λ past h a. k ∙ ap (λ (b : List ℕ). min limit (length b))
    (sym (line_waits mid past c l (f past h) s))

pub pull_moved : (old mid : Lines) (c : ℕ) (l : Line) (r : Result ℕ Memory) (into behind : List ℕ) → Flushes old mid
    → line_at mid.lines.items c ≡ Some l
    → IfOk r (λ n. behind ≡ into ++ take n l.waiting) → IfOk r
    (λ n. (past : Past) → AreLines old past → IsAdmitted past c → behind ≡ into ++ take n (past.waiting c))
pull_moved old mid c l (Err e) into behind f s k = tt
pull_moved old mid c l (Ok n) into behind f s k = λ past h a. k
    ∙ ap (λ (b : List ℕ). into ++ take n b) (sym (line_waits mid past c l (f past h) s))

pub pull_left : (old mid new : Lines) (c : ℕ) (l m : Line) (r : Result ℕ Memory) → Flushes old mid
    → Sets mid.lines.items new.lines.items c l m → unwritten_in new ≡ unwritten_in mid
    → IfOk r (λ n. m ≡ record l { waiting = drop n l.waiting })
    → IfOk r (λ n. (past : Past) → AreLines old past → IsAdmitted past c → AreLines new (after_pull c n past))
unfolding after_pull
pull_left old mid new c l m (Err e) f s u k = tt
pull_left old mid new c l m (Ok n) f s u k = λ past h a. pulled mid new c n l m s u ((f past h).written refl) k
    (record past { written = true }) (f past h)

pub pull_same : (old mid new : Lines) (c : ℕ) (l m : Line) (r : Result ℕ Memory) → Flushes old mid
    → Sets mid.lines.items new.lines.items c l m → unwritten_in new ≡ unwritten_in mid
    → OnErr r (m ≡ l) → OnErr r ((past : Past) → AreLines old past → AreLines new past)
pull_same old mid new c l m (Ok n) f s u k = tt
pull_same old mid new c l m (Err e) f s u k = λ past h. noted mid new c l m l.noted s u k past (not_known mid past (f past h))

-- a connection has a line
pub pull_none : (old mid : Lines) (past : Past) (c i : ℕ) → Flushes old mid → IsPlace c i → (i < mid.lines.len → false ≡ true)
    → AreLines old past → IsAdmitted past c → ⊥
pull_none old mid past c i f p over h a = none_missing mid (record past { written = true }) c i p over (f past h)
    (record { from = a.from; below = a.below })
