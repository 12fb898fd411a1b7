-- Reading a script line by line.
use Rattle.std.proofs.Common.{◌≡◌, ℕ, ◌+◌, ◌≤◌, List, [], ◌∷◌, ◌++◌, length, refl, sym, ap, subst, ◌∙◌, append_assoc, arith, inl, inr, length-append}
use Rattle.std.specs.Prelude.{◌==◌}
use Rattle.std.proofs.lemmas.List.{append-nil}
use Rattle.std.proofs.lemmas.List.Splits.{length-slice_split}
use Rattle.std.proofs.lemmas.List.Sums.{count_by-le-length}
use Rattle.replay_cli.specs.Lines.{lines, IsSkipped, counted, SaysBy, IsFirstBadBy}
use Rattle.replay_cli.specs.Reading.{TakesBy, RefusesBy}

-- what one more event adds to what was counted
pub counted_more : {E : Type 0} (adds : E → ℕ) (es : List E) (e : E) → counted adds (es ++ e ∷ []) ≡ counted adds es + adds e
counted_more adds [] e = omega arith
counted_more adds (f ∷ es) e = let h = counted_more adds es e in omega arith

-- One more line

says_skipped : {E : Type 0} (text : E → List ℕ) (may : ℕ → E → Type 0) (adds : E → ℕ) (count : ℕ) (ls : List (List ℕ)) (events : List E) (line : List ℕ) → IsSkipped line
    → SaysBy text may adds count ls events → SaysBy text may adds count (ls ++ line ∷ []) events
says_skipped text may adds count [] events line skipped h = inl (skipped, h)
says_skipped text may adds count (l ∷ ls) events line skipped h = elim h [
  | inl later ↦ inl (later.0, says_skipped text may adds count ls events line skipped later.1)
  | inr first ↦ inr (first.0, first.1, first.2, first.3, first.4, says_skipped text may adds (count + adds first.0) ls first.1 line skipped first.5)
]

says_event : {E : Type 0} (text : E → List ℕ) (may : ℕ → E → Type 0) (adds : E → ℕ) (count : ℕ) (ls : List (List ℕ)) (events : List E) (line : List ℕ) (event : E) → line ≡ text event
    → may (count + counted adds events) event → SaysBy text may adds count ls events → SaysBy text may adds count (ls ++ line ∷ []) (events ++ event ∷ [])
says_event {E = E} text may adds count [] events line event is here h =
    let none : count + counted adds events ≡ count = let k = ap (counted adds) h in omega (arith, k) in
    inr (event, [], ap (λ (es : List E). es ++ event ∷ []) h, is, subst (λ (n : ℕ). may n event) none here, refl)
says_event {E = E} text may adds count (l ∷ ls) events line event is here h = elim h [
  | inl later ↦ inl (later.0, says_event text may adds count ls events line event is here later.1)
  | inr first ↦
      let more : count + counted adds events ≡ count + adds first.0 + counted adds first.1 = let k = ap (counted adds) first.2 in omega (arith, k) in
      inr (
        first.0,
        first.1 ++ event ∷ [],
        ap (λ (es : List E). es ++ event ∷ []) first.2,
        first.3,
        first.4,
        says_event text may adds (count + adds first.0) ls first.1 line event is (subst (λ (n : ℕ). may n event) more here) first.5,
      )
]

-- How far a script was read: the lines above, so many, say these events, and these lines are left.
pub record SoFarBy {E : Type 0} (text : E → List ℕ) (may : ℕ → E → Type 0) (adds : E → ℕ) (all : List (List ℕ)) (events : List E) (left : List (List ℕ)) (number : ℕ) : Type 0 where
  pub above : List (List ℕ)
  pub cut : all ≡ above ++ left
  pub number_is : number ≡ length above
  pub said : SaysBy text may adds 0 above events

pub at_start : {E : Type 0} (text : E → List ℕ) (may : ℕ → E → Type 0) (adds : E → ℕ) (all : List (List ℕ)) (events : List E) → events ≡ [] → SoFarBy text may adds all events all 0
at_start text may adds all events none = record { above = []; cut = refl; number_is = refl; said = none }

line_cut : (all above left more : List (List ℕ)) (line : List ℕ) → all ≡ above ++ left → left ≡ line ∷ more → all ≡ (above ++ line ∷ []) ++ more
line_cut all above left more line e d = e ∙ ap (λ (ls : List (List ℕ)). above ++ ls) d ∙ sym (append_assoc above (line ∷ []) more)

pub one_more : {E : Type 0} (text : E → List ℕ) (may : ℕ → E → Type 0) (adds : E → ℕ) (all : List (List ℕ)) (old new : List E) (line : List ℕ) (left more : List (List ℕ)) (number : ℕ)
    → left ≡ line ∷ more → TakesBy text may adds old line new → SoFarBy text may adds all old left number → SoFarBy text may adds all new more (number + 1)
one_more {E = E} text may adds all old new line left more number cut takes far = elim takes [
  | inl skipped ↦ record {
    above = far.above ++ line ∷ [];
    cut = line_cut all far.above left more line far.cut cut;
    number_is = omega (arith, far.number_is, length-append far.above (line ∷ []));
    said = subst (λ (es : List E). SaysBy text may adds 0 (far.above ++ line ∷ []) es) (sym skipped.1) (says_skipped text may adds 0 far.above old line skipped.0 far.said);
  }
  | inr first ↦ record {
    above = far.above ++ line ∷ [];
    cut = line_cut all far.above left more line far.cut cut;
    number_is = omega (arith, far.number_is, length-append far.above (line ∷ []));
    said =
        let zero : counted adds old ≡ 0 + counted adds old = omega arith in
        subst (λ (es : List E). SaysBy text may adds 0 (far.above ++ line ∷ []) es) (sym first.3)
        (says_event text may adds 0 far.above old line first.0 first.1 (subst (λ (n : ℕ). may n first.0) zero first.2) far.said);
  }
]

pub bad_line : {E : Type 0} (text : E → List ℕ) (may : ℕ → E → Type 0) (adds : E → ℕ) (script : List ℕ) (events : List E) (line : List ℕ) (left more : List (List ℕ)) (number : ℕ)
    → left ≡ line ∷ more → RefusesBy text may adds events line → SoFarBy text may adds (lines script) events left number → IsFirstBadBy text may adds script (number + 1)
bad_line text may adds script events line left more number cut refused far = record {
  above = far.above;
  line = line;
  below = more;
  events = events;
  cut = far.cut ∙ ap (λ (ls : List (List ℕ)). far.above ++ ls) cut;
  number_is = ap (λ (n : ℕ). n + 1) far.number_is;
  said = far.said;
  not_skipped = refused.0;
  not_said = refused.1;
}

pub at_end : {E : Type 0} (text : E → List ℕ) (may : ℕ → E → Type 0) (adds : E → ℕ) (all : List (List ℕ)) (events : List E) (left : List (List ℕ)) (number : ℕ)
    → left ≡ [] → SoFarBy text may adds all events left number → SaysBy text may adds 0 all events
at_end text may adds all events left number none far =
    subst (λ (ls : List (List ℕ)). SaysBy text may adds 0 ls events) (sym (far.cut ∙ ap (λ (ls : List (List ℕ)). far.above ++ ls) none ∙ append-nil far.above)) far.said

-- There are few lines.

pub few_lines : (text : List ℕ) → length (lines text) ≤ length text + 1
few_lines text = omega (arith, length-slice_split (λ (b : ℕ). b == 10) text, count_by-le-length (λ (b : ℕ). b == 10) text)

pub few_above : {E : Type 0} (text : E → List ℕ) (may : ℕ → E → Type 0) (adds : E → ℕ) (script : List ℕ) (events : List E) (line : List ℕ) (left more : List (List ℕ)) (number : ℕ)
    → left ≡ line ∷ more → SoFarBy text may adds (lines script) events left number → number ≤ length script
few_above text may adds script events line left more number cut far =
    omega (arith, few_lines script, far.number_is, ap length far.cut, length-append far.above left, ap length cut)

-- A bad line is outside the grammar.

-- What a grammar has to be for that: no event's line is skipped, no two have one line, and the number counted stays small.
pub record IsGrammar {E : Type 0} (text : E → List ℕ) (may : ℕ → E → Type 0) (adds : E → ℕ) : Type 0 where
  pub shown : (event : E) → IsSkipped (text event) → ⊥
  pub one : (a b : E) (count : ℕ) → count ≤ 4096 → may count a → may count b → text a ≡ text b → a ≡ b
  pub small : (event : E) (count : ℕ) → count ≤ 4096 → may count event → count + adds event ≤ 4096

-- what a skipped line leaves to say
skipped_says : {E : Type 0} (text : E → List ℕ) (may : ℕ → E → Type 0) (adds : E → ℕ) (g : IsGrammar text may adds) (count : ℕ) (line : List ℕ) (more : List (List ℕ)) (events : List E)
    → IsSkipped line → SaysBy text may adds count (line ∷ more) events → SaysBy text may adds count more events
skipped_says text may adds g count line more events skipped h = elim h [
  | inl later ↦ later.1
  | inr first ↦ absurd (g.shown first.0 (subst IsSkipped first.3 skipped))
]

-- what an event's line leaves to say
event_says : {E : Type 0} (text : E → List ℕ) (may : ℕ → E → Type 0) (adds : E → ℕ) (g : IsGrammar text may adds) (count : ℕ) (line : List ℕ) (more : List (List ℕ)) (events : List E) (event : E)
    → count ≤ 4096 → line ≡ text event → may count event → SaysBy text may adds count (line ∷ more) events
    → (rest : List E) × (events ≡ event ∷ rest) × SaysBy text may adds (count + adds event) more rest
event_says {E = E} text may adds g count line more events event few is here h = elim h [
  | inl later ↦ absurd (g.shown event (subst IsSkipped is later.0))
  | inr first ↦
      let same : first.0 ≡ event = g.one first.0 event count few first.4 here (sym first.3 ∙ is) in
      (first.1, first.2 ∙ ap (λ (e : E). e ∷ first.1) same, subst (λ (e : E). SaysBy text may adds (count + adds e) more first.1) same first.5)
]

bad_says : {E : Type 0} (text : E → List ℕ) (may : ℕ → E → Type 0) (adds : E → ℕ) (g : IsGrammar text may adds) (above : List (List ℕ)) (line : List ℕ) (below : List (List ℕ)) (count : ℕ) (said events : List E)
    → count ≤ 4096 → SaysBy text may adds count above said → (IsSkipped line → ⊥) → ((event : E) → line ≡ text event → may (count + counted adds said) event → ⊥)
    → SaysBy text may adds count (above ++ line ∷ below) events → ⊥
bad_says text may adds g [] line below count said events few says far never h = elim h [
  | inl later ↦ far later.0
  | inr first ↦
      let none : count ≡ count + counted adds said = let k = ap (counted adds) says in omega (arith, k) in
      never first.0 first.3 (subst (λ (n : ℕ). may n first.0) none first.4)
]
bad_says text may adds g (l ∷ above) line below count said events few says far never h = elim says [
  | inl later ↦ bad_says text may adds g above line below count said events few later.1 far never (skipped_says text may adds g count l (above ++ line ∷ below) events later.0 h)
  | inr first ↦
      let rest = event_says text may adds g count l (above ++ line ∷ below) events first.0 few first.3 first.4 h in
      let same : count + adds first.0 + counted adds first.1 ≡ count + counted adds said = let k = ap (counted adds) first.2 in omega (arith, k) in
      bad_says text may adds g above line below (count + adds first.0) first.1 rest.0 (g.small first.0 count few first.4) first.5 far
      (λ event is here. never event is (subst (λ (n : ℕ). may n event) same here)) rest.2
]

-- a script that has a first bad line says nothing
pub bad_is_outside : {E : Type 0} (text : E → List ℕ) (may : ℕ → E → Type 0) (adds : E → ℕ) (g : IsGrammar text may adds) (script : List ℕ) (number : ℕ) (events : List E)
    → IsFirstBadBy text may adds script number → SaysBy text may adds 0 (lines script) events → ⊥
bad_is_outside {E = E} text may adds g script number events bad says =
    let zero : (event : E) → bad.line ≡ text event → may (0 + counted adds bad.events) event → ⊥ = λ event is here.
    let same : 0 + counted adds bad.events ≡ counted adds bad.events = omega arith in
    bad.not_said event is (subst (λ (n : ℕ). may n event) same here) in
    bad_says text may adds g bad.above bad.line bad.below 0 bad.events events (omega arith) bad.said bad.not_skipped zero
    (subst (λ (ls : List (List ℕ)). SaysBy text may adds 0 ls events) bad.cut says)

-- lines say one list of events
pub one_says : {E : Type 0} (text : E → List ℕ) (may : ℕ → E → Type 0) (adds : E → ℕ) (g : IsGrammar text may adds) (ls : List (List ℕ)) (count : ℕ) (a b : List E) → count ≤ 4096
    → SaysBy text may adds count ls a → SaysBy text may adds count ls b → a ≡ b
one_says text may adds g [] count a b few p q = p ∙ sym q
one_says {E = E} text may adds g (l ∷ ls) count a b few p q = elim p [
  | inl later ↦ one_says text may adds g ls count a b few later.1 (skipped_says text may adds g count l ls b later.0 q)
  | inr first ↦
      let s = event_says text may adds g count l ls b first.0 few first.3 first.4 q in
      let rest = one_says text may adds g ls (count + adds first.0) first.1 s.0 (g.small first.0 count few first.4) first.5 s.2 in
      first.2 ∙ ap (λ (es : List E). first.0 ∷ es) rest ∙ sym s.1
]
