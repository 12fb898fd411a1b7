-- Lines of which one is over.
use Rattle.std.proofs.Common.{◌≡◌, ℕ, Bool, true, false, cond, List, [], Option, Some, None, refl, sym, ap, ◌∙◌, rules}
use Rattle.std.specs.Prelude.{◌==◌}
use Rattle.std.specs.Option.{option_or}
use Rattle.store_side.specs.declared.ending.StoreEnding.{StoreEnding}
use Rattle.store_side.specs.declared.ending.StoreEnding.TheVariants as endings
use Rattle.store_side.specs.Past.{Past}
use Rattle.store_side.specs.Calls.{rest_of, with_at}
use Rattle.tree_server.specs.declared.lines.Lines.{Lines}
use Rattle.tree_server.specs.declared.taking.Move.{Move}
use Rattle.tree_server.specs.Machines.{ended_move}
use Rattle.tree_server.specs.Connections.{AreLines, with_ending}
use Rattle.tree_server.specs.Servers.{with_moved}
use Rattle.tree_server.proofs.SamePast.{lines_same}
use Rattle.tree_server.proofs.Gains.{lines_hold}

or_none : (o : Option StoreEnding) → option_or o None ≡ o
or_none None = refl
or_none (Some x) = refl

-- how connection x is over by e
abbrev pub over_at : ℕ → StoreEnding → ℕ → Option StoreEnding
over_at x e d = cond (d == x) (Some e) None

abbrev pub with_over : (ℕ → Option StoreEnding) → Past → Past
with_over by past = record past {
  endings = λ d. option_or (past.endings d) (by d);
  rests = λ d. rest_of (option_or (past.endings d) (by d)) (past.rests d);
}

-- none is over that was not
pub none_over : (ls : Lines) (past : Past) → AreLines ls past → AreLines ls (with_over (λ d. None) past)
none_over ls past h = lines_same ls past (with_over (λ d. None) past) (record {
  admitted = refl;
  waiting = λ d. refl;
  rests = λ d. ap (λ (o : Option StoreEnding). rest_of o (past.rests d)) (or_none (past.endings d)) ∙ sym (lines_hold ls past h d);
  endings = λ d. or_none (past.endings d);
  written = refl;
}) h

none_some : (y : StoreEnding) → None ≡ Some y → ⊥
none_some y f = cc

place_so : (d c : ℕ) → (d == c) ≡ true → d ≡ c
place_so d c h = search rules

rest_some : (o : Option StoreEnding) (e : StoreEnding) (rest : List ℕ) → o ≡ Some e → rest_of o rest ≡ []
unfolding rest_of
rest_some None e rest f = absurd (none_some e f)
rest_some (Some y) e rest f = refl

or_other : (o : Option StoreEnding) (e : StoreEnding) → o ≡ None → option_or o (Some e) ≡ Some e
or_other None e h = refl
or_other (Some y) e h = absurd (none_some y (sym h))

ended_here : (past : Past) (x d : ℕ) (e : StoreEnding) (b : Bool) → past.endings x ≡ None → (b ≡ true → d ≡ x) → option_or (past.endings d) (cond b (Some e) None) ≡ cond b (Some e) (past.endings d)
ended_here past x d e true h same = or_other (past.endings d) e (ap past.endings (same refl) ∙ h)
ended_here past x d e false h same = or_none (past.endings d)

rested_here : (past : Past) (x d : ℕ) (e : StoreEnding) (b : Bool) → past.endings x ≡ None → (b ≡ true → d ≡ x) → past.rests d ≡ rest_of (past.endings d) (past.rests d)
    → rest_of (option_or (past.endings d) (cond b (Some e) None)) (past.rests d) ≡ cond b [] (past.rests d)
rested_here past x d e true h same holds = rest_some (option_or (past.endings d) (Some e)) e (past.rests d) (or_other (past.endings d) e (ap past.endings (same refl) ∙ h))
rested_here past x d e false h same holds = ap (λ (o : Option StoreEnding). rest_of o (past.rests d)) (or_none (past.endings d)) ∙ sym holds

-- it was over before, and stays so
stays_over : (past : Past) (x d : ℕ) (e f : StoreEnding) (b : Bool) → past.endings x ≡ Some f → (b ≡ true → d ≡ x) → option_or (past.endings d) (cond b (Some e) None) ≡ past.endings d
stays_over past x d e f true h same = had_one (past.endings d) f e (ap past.endings (same refl) ∙ h)
  where
    had_one : (o : Option StoreEnding) (y z : StoreEnding) → o ≡ Some y → option_or o (Some z) ≡ o
    had_one None y z g = absurd (none_some y g)
    had_one (Some w) y z g = refl
stays_over past x d e f false h same = or_none (past.endings d)

with_so : {A : Type 0} (c d : ℕ) (x : A) (f : ℕ → A) → with_at c x f d ≡ cond (d == c) x (f d)
unfolding with_at
with_so c d x f = refl

pub one_over : (ls after : Lines) (past : Past) (x : ℕ) (e : StoreEnding) → AreLines ls past → (past.endings x ≡ None → AreLines after (with_ending x e past))
    → ((f : StoreEnding) → past.endings x ≡ Some f → AreLines after past) → AreLines after (with_over (over_at x e) past)
one_over ls after past x e h ends over = go (past.endings x) refl
  where
    go : (o : Option StoreEnding) → past.endings x ≡ o → AreLines after (with_over (over_at x e) past)
    go None g = lines_same after (with_ending x e past) (with_over (over_at x e) past) (record {
      admitted = refl;
      waiting = λ d. refl;
      rests = λ d. rested_here past x d e (d == x) g (place_so d x) (lines_hold ls past h d) ∙ sym (with_so x d [] past.rests);
      endings = λ d. ended_here past x d e (d == x) g (place_so d x) ∙ sym (with_so x d (Some e) past.endings);
      written = refl;
    }) (ends g)
    go (Some f) g = lines_same after past (with_over (over_at x e) past) (record {
      admitted = refl;
      waiting = λ d. refl;
      rests = λ d. ap (λ (o : Option StoreEnding). rest_of o (past.rests d)) (stays_over past x d e f (d == x) g (place_so d x)) ∙ sym (lines_hold ls past h d);
      endings = λ d. stays_over past x d e f (d == x) g (place_so d x);
      written = refl;
    }) (over f g)

-- ---- a session that moved

pub moved_none : (ls : Lines) (past : Past) → AreLines ls past → AreLines ls (with_moved None past)
unfolding ended_move
moved_none ls past h = none_over ls past h

pub moved_some : (ls after : Lines) (past : Past) (m : Move) → AreLines ls past → (past.endings m.connection ≡ None → AreLines after (with_ending m.connection (endings.Moved m.session) past))
    → ((f : StoreEnding) → past.endings m.connection ≡ Some f → AreLines after past) → AreLines after (with_moved (Some m) past)
unfolding ended_move
moved_some ls after past m h ends over = one_over ls after past m.connection (endings.Moved m.session) h ends over
