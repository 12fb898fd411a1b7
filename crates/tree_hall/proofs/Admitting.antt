-- A connection that was admitted in a history is known to the past that the history leads to.
use Rattle.std.proofs.Common.{◌≡◌, ℕ, ℤ, ◌+◌, ◌≤◌, List, [], ◌∷◌, ◌++◌, sym, ap, ◌∙◌, arith, append_assoc, Option, Some, None, Result, Ok, Err}
use Rattle.store_side.specs.Past.{Past as Went}
use Rattle.store_side.specs.Follows.{IsAdmitted}
use Rattle.store_side.specs.Calls as calls
use Rattle.store_side.specs.declared.ending.StoreEnding.{StoreEnding}
use Rattle.tree_hall.specs.declared.act.Act.{Act}
use Rattle.tree_hall.specs.declared.act.Act.TheVariants.{Admit, Feed, Pull, Lose, Tick}
use Rattle.tree_hall.specs.declared.act.Answer.{Answer}
use Rattle.tree_hall.specs.declared.act.Answer.TheVariants as answers
use Rattle.tree_hall.specs.declared.view.Item.{Item}
use Rattle.tree_hall.specs.Histories.{Allows, Feeds, Loses, Played, StartsWith, HasAdmitted, Named, Knows, item}

abbrev number_in : Answer → ℕ
number_in (answers.Admitted c) = c
number_in _ = 0

feeds_grow : (o : Option StoreEnding) (past new : Went) (c : ℕ) (now : ℤ) (piece : List ℕ) (answer : Result (Unit {0}) StoreEnding)
    → Feeds o past c now piece answer new → past.admitted ≤ new.admitted
feeds_grow None past new c now piece answer h = let e = h.admitted in omega arith
feeds_grow (Some x) past new c now piece answer h = let e = ap (λ (p : Went). p.admitted) h.1 in omega arith

loses_grow : (o : Option StoreEnding) (past new : Went) (c : ℕ) → Loses o past c new → past.admitted ≤ new.admitted
unfolding calls.after_loss
loses_grow None past new c h = let e : new.admitted ≡ past.admitted = ap (λ (p : Went). p.admitted) h.3 in omega arith
loses_grow (Some x) past new c h = let e = ap (λ (p : Went). p.admitted) h in omega arith

-- no connection is forgotten by a call
allows_grow : (past new : Went) (act : Act) (result : Result Answer StoreEnding) → Allows past act result new → past.admitted ≤ new.admitted
unfolding calls.after_pull
allows_grow past new Admit (Ok a) h = let e : new.admitted ≡ past.admitted + 1 = ap (λ (p : Went). p.admitted) h.1 in omega arith
allows_grow past new Admit (Err e) h = let is = ap (λ (p : Went). p.admitted) h.1 in omega arith
allows_grow past new (Feed c now piece) (Ok a) h = feeds_grow (past.endings c) past new c now piece (Ok record {}) h.1.1
allows_grow past new (Feed c now piece) (Err e) h = feeds_grow (past.endings c) past new c now piece (Err e) h.1
allows_grow past new (Pull c limit) (Ok a) h = let e : new.admitted ≡ past.admitted = ap (λ (p : Went). p.admitted) h.1.1 in omega arith
allows_grow past new (Pull c limit) (Err e) h = let is : new.admitted ≡ past.admitted = ap (λ (p : Went). p.admitted) h.1.1 in omega arith
allows_grow past new (Lose c) result h = loses_grow (past.endings c) past new c h.2
allows_grow past new (Tick now) (Ok a) h = let e = h.1.admitted in omega arith
allows_grow past new (Tick now) (Err e) h = let is = h.1.admitted in omega arith

played_grows : (first : Went) (xs : List Item) (last : Went) → Played first xs last → first.admitted ≤ last.admitted
played_grows first [] last h = let e = ap (λ (p : Went). p.admitted) h in omega arith
played_grows first (x ∷ xs) last h = let a = allows_grow first h.0 x.call.act x.call.result h.1 in let b = played_grows h.0 xs last h.2 in omega arith

admitted_in : (first last : Went) (front : List Item) (by c : ℕ) (rest : List Item) → Played first (front ++ item by Admit (Ok (answers.Admitted c)) ∷ rest) last → IsAdmitted last c
admitted_in first last [] by c rest h =
    let is : c ≡ first.admitted + 1 = ap number_in h.1.0 in
    let next : h.0.admitted ≡ first.admitted + 1 = ap (λ (p : Went). p.admitted) h.1.1 in
    let more = played_grows h.0 rest last h.2 in
    record { from = omega arith; below = omega arith }
admitted_in first last (x ∷ xs) by c rest h = admitted_in h.0 last xs by c rest h.2

has_admitted : (first last : Went) (history : List Item) (c : ℕ) → Played first history last → HasAdmitted history c → IsAdmitted last c
has_admitted first last history c played h = admitted_in first last h.0 h.1 c h.2 (rw (sym h.3) played)

pub knows : (first last : Went) (history : List Item) (act : Act) → Played first history last → Named history act → Knows last act
knows first last history Admit played h = tt
knows first last history (Feed c now piece) played h = has_admitted first last history c played h
knows first last history (Pull c limit) played h = has_admitted first last history c played h
knows first last history (Lose c) played h = has_admitted first last history c played h
knows first last history (Tick now) played h = tt

pub admitted_longer : (all history : List Item) (c : ℕ) → StartsWith all history → HasAdmitted history c → HasAdmitted all c
admitted_longer all history c longer h =
    (h.0, h.1, h.2 ++ longer.0, longer.1 ∙ ap (λ l. l ++ longer.0) h.3 ∙ append_assoc h.0 (item h.1 Admit (Ok (answers.Admitted c)) ∷ h.2) longer.0)

-- what was named in a history is named in one that goes on
pub named_longer : (all history : List Item) (act : Act) → StartsWith all history → Named history act → Named all act
named_longer all history Admit longer h = tt
named_longer all history (Feed c now piece) longer h = admitted_longer all history c longer h
named_longer all history (Pull c limit) longer h = admitted_longer all history c longer h
named_longer all history (Lose c) longer h = admitted_longer all history c longer h
named_longer all history (Tick now) longer h = tt
