-- What a part of a call does to one connection and the store.
use Rattle.std.proofs.Common.{◌≡◌, ℕ, ℤ, ◌+◌, ◌≤◌, List, [], ◌∷◌, ◌++◌, length, take, drop, min, Bool, true, false, Option, Some, None, Result, Err, refl, sym, ap, subst, ◌∙◌, arith}
use Rattle.std.specs.Prelude.{is_some}
use Rattle.std.proofs.lemmas.List.{length-drop}
use Rattle.payload_seal.specs.declared.keys.EntryKeys.{EntryKeys}
use Rattle.tree_state.specs.Step.{Act}
use Rattle.store_side.specs.declared.entry.Entry.{Entry}
use Rattle.store_side.specs.declared.ending.StoreEnding.{StoreEnding}
use Rattle.store_side.specs.declared.ending.StoreEnding.TheVariants as overs
use Rattle.store_side.specs.Past.{Past}
use Rattle.store_side.specs.Follows.{IsAdmitted, IsSound}
use Rattle.store_side.specs.Calls.{Fed, IsLoss, after_loss, after_pull}
use Rattle.entry_session.specs.declared.ending.Ending.{Ending}
use Rattle.entry_session.specs.declared.ending.Ending.TheVariants as endings
use Rattle.world_core.specs.declared.amount.Amount.{Amount}
use Rattle.world_core.specs.declared.amount.Amount.TheVariants.{AtMost, All}
use Rattle.world_core.specs.declared.connection.Connection.{Connection}
use Rattle.world_core.specs.Moments.{Link}
use Rattle.world_core.specs.Standing.{Keeps}
use Rattle.world_core.specs.Steps.{BringsIf, Brings, Cuts, Feeds, GoesDown, Hears, Leaves, LeavesIf, LosesIf, Spot, TakesIf, count_of, ended, ended_by, first_of, over, over_by, with_fed}
use Rattle.world_core.proofs.SoundSpots.{at_own}

-- what a part of a call leads to
abbrev Goes : (Past → Type 0) → EntryKeys → ℕ → ℕ → Connection → (Spot → Type 0) → Type 0
Goes after k boot c x P = (n : Spot) × P n × after n.past × Keeps k boot c (n.past.pulled c) x n.link

-- a session that was asked whether it has ended
pub has_ended : (o p : Option Ending) (b : Bool) → b ≡ is_some p → b ≡ true → p ≡ o → o ≡ None → ⊥
has_ended o p b h k e n = absurd cc

pub goes_on : (o p : Option Ending) (b : Bool) → b ≡ is_some p → b ≡ false → p ≡ o → o ≡ None
goes_on None p b h k e = refl
goes_on (Some f) p b h k e = absurd cc

-- ---- up

takes_if : (o : Option StoreEnding) (after : Past → Type 0) (c : ℕ) (now : ℤ) (piece : List ℕ) (old : Past) (answer : Result (Unit {0}) StoreEnding)
    → (answer ≡ Err overs.Memory → ⊥)
    → (o ≡ None → (new : Past) × after new × Fed c now piece old new answer)
    → ((e : StoreEnding) → o ≡ Some e → (answer ≡ Err e) × after old)
    → (new : Past) × TakesIf o c now piece old new × after new × (new.pulled c ≡ old.pulled c)
unfolding TakesIf
takes_if None after c now piece old answer not_memory fed over =
    let f = fed refl in
    (f.0, (answer, f.2, not_memory), f.1, f.2.pulled c)
takes_if (Some e) after c now piece old answer not_memory fed over = (old, refl, (over e refl).1, refl)

pub feeds_spot : (after : Past → Type 0) (k : EntryKeys) (boot c : ℕ) (now : ℤ) (amount : Amount) (s : Spot) (x : Connection) (piece : List ℕ) (answer : Result (Unit {0}) StoreEnding)
    → piece ≡ first_of amount s.link.unfed → (answer ≡ Err overs.Memory → ⊥)
    → (s.past.endings c ≡ None → (new : Past) × after new × Fed c now piece s.past new answer)
    → ((e : StoreEnding) → s.past.endings c ≡ Some e → (answer ≡ Err e) × after s.past)
    → Keeps k boot c (s.past.pulled c) x (with_fed amount s.link)
    → Goes after k boot c x (λ n. Feeds c now amount s n)
feeds_spot after k boot c now amount s x piece answer is not_memory fed ended keeps =
    let t = takes_if (s.past.endings c) after c now piece s.past answer not_memory fed ended in (
      record { past = t.0; link = with_fed amount s.link },
      record { takes = subst (λ (p : List ℕ). TakesIf (s.past.endings c) c now p s.past t.0) is t.1; link = refl },
      t.2,
      subst (λ (p : List ℕ). Keeps k boot c p x (with_fed amount s.link)) (sym t.3) keeps,
    )

takes_admitted : (o : Option StoreEnding) (c d : ℕ) (now : ℤ) (piece : List ℕ) (old new : Past) → TakesIf o c now piece old new → IsAdmitted old d → IsAdmitted new d
unfolding TakesIf
takes_admitted None c d now piece old new t a = record { from = a.from; below = omega (arith, a.below, t.1.admitted) }
takes_admitted (Some e) c d now piece old new t a = subst (λ (p : Past). IsAdmitted p d) (sym t) a

pub feeds_admitted : (c : ℕ) (now : ℤ) (amount : Amount) (old new : Spot) → Feeds c now amount old new → (d : ℕ) → IsAdmitted old.past d → IsAdmitted new.past d
feeds_admitted c now amount old new f d = takes_admitted (old.past.endings c) c d now _ old.past new.past f.takes

-- ---- the end of the store's side

-- what a store says of a loss
pub record Lost (after : Past → Type 0) (c : ℕ) (old : Past) : Type 0 where
  pub lost : old.endings c ≡ None → (entries : List Entry) × (acts : List Act) × IsLoss old c entries acts × after (after_loss c entries acts old) × (IsSound old → IsSound (after_loss c entries acts old))
  pub ended : (e : StoreEnding) → old.endings c ≡ Some e → after old

loses_if : (o : Option StoreEnding) (after : Past → Type 0) (c : ℕ) (old : Past)
    → (o ≡ None → (entries : List Entry) × (acts : List Act) × IsLoss old c entries acts × after (after_loss c entries acts old) × (IsSound old → IsSound (after_loss c entries acts old)))
    → ((e : StoreEnding) → o ≡ Some e → after old)
    → (new : Past) × LosesIf o c old new × after new × (new.pulled c ≡ old.pulled c)
unfolding LosesIf after_loss
loses_if None after c old lost ended =
    let l = lost refl in
    (after_loss c l.0 l.1 old, (l.0, l.1, l.2, refl, l.4), l.3, refl)
loses_if (Some e) after c old lost ended = (old, refl, ended e refl, refl)

pub loses_past : (after : Past → Type 0) (c : ℕ) (old : Past) → Lost after c old
    → (new : Past) × LosesIf (old.endings c) c old new × after new × (new.pulled c ≡ old.pulled c)
loses_past after c old l = loses_if (old.endings c) after c old l.lost l.ended

leaves_if : (o : Option Ending) (unfed : List ℕ) (c : ℕ) (old new : Past) → (o ≡ None → ⊥) → unfed ≡ [] → LosesIf (old.endings c) c old new → LeavesIf o unfed c old new
unfolding LeavesIf
leaves_if None unfed c old new over done l = absurd (over refl)
leaves_if (Some e) [] c old new over done l = l
leaves_if (Some e) (b ∷ bs) c old new over done l = absurd cc

stays_if : (o : Option Ending) (unfed : List ℕ) (c : ℕ) (old : Past) → ((o ≡ None → ⊥) × (unfed ≡ []) → ⊥) → LeavesIf o unfed c old old
unfolding LeavesIf
stays_if None unfed c old h = refl
stays_if (Some e) [] c old h = absurd (h ((λ k. absurd cc), refl))
stays_if (Some e) (b ∷ bs) c old h = refl

pub leaves_spot : (after : Past → Type 0) (k : EntryKeys) (boot c : ℕ) (s : Spot) (x : Connection) → (s.link.stand.ending ≡ None → ⊥) × (s.link.unfed ≡ [])
    → Lost after c s.past → Keeps k boot c (s.past.pulled c) x s.link → Goes after k boot c x (λ n. Leaves c s n)
leaves_spot after k boot c s x done l keeps =
    let n = loses_past after c s.past l in (
      record { past = n.0; link = s.link },
      record { past = leaves_if s.link.stand.ending s.link.unfed c s.past n.0 done.0 done.1 n.1; link = refl },
      n.2,
      subst (λ (p : List ℕ). Keeps k boot c p x s.link) (sym n.3) keeps,
    )

pub stays_spot : (after : Past → Type 0) (k : EntryKeys) (boot c : ℕ) (s : Spot) (x : Connection) → ((s.link.stand.ending ≡ None → ⊥) × (s.link.unfed ≡ []) → ⊥)
    → after s.past → Keeps k boot c (s.past.pulled c) x s.link → Goes after k boot c x (λ n. Leaves c s n)
stays_spot after k boot c s x on st keeps =
    (s, record { past = stays_if s.link.stand.ending s.link.unfed c s.past on; link = refl }, st, keeps)

pub cuts_spot : (after : Past → Type 0) (k : EntryKeys) (boot c : ℕ) (s : Spot) (x : Connection) → Lost after c s.past
    → Keeps k boot c (s.past.pulled c) x (record (ended endings.ClientEnd s.link) { cut = true }) → Goes after k boot c x (λ n. Cuts c s n)
cuts_spot after k boot c s x l keeps =
    let n = loses_past after c s.past l in (
      record { past = n.0; link = record (ended endings.ClientEnd s.link) { cut = true } },
      record { loses = n.1; link = refl },
      n.2,
      subst (λ (p : List ℕ). Keeps k boot c p x (record (ended endings.ClientEnd s.link) { cut = true })) (sym n.3) keeps,
    )

-- ---- down

pub at_most : (a : Amount) (limit n there : ℕ) → a ≡ AtMost limit → n ≡ min limit there → n ≡ count_of a there
unfolding count_of
at_most a limit n there is e = subst (λ (b : Amount). n ≡ count_of b there) (sym is) e

none_left : (n : ℕ) (xs : List ℕ) → n ≤ length xs → length (drop n xs) ≡ 0 → n ≡ length xs
none_left n xs h k = omega (arith, h, k, length-drop n xs)

pub all_of : (a : Amount) (limit n : ℕ) (xs : List ℕ) → a ≡ All → n ≡ min limit (length xs) → length (drop n xs) ≡ 0 → n ≡ count_of a (length xs)
unfolding count_of
all_of a limit n xs is e k = subst (λ (b : Amount). n ≡ count_of b (length xs)) (sym is) (none_left n xs (omega (arith, e)) k)

pub waits_none : (after : Past → Type 0) (n : ℕ) (past : Past) (there c : ℕ) → after (after_pull c n past) → IsAdmitted past c
    → ((p : Past) → after p → IsAdmitted p c → p.written ≡ true → there ≡ length (p.waiting c)) → there ≡ 0 → length (drop n (past.waiting c)) ≡ 0
unfolding after_pull
waits_none after n past there c st a says e =
    ap length (sym (at_own c (drop n (past.waiting c)) past.waiting)) ∙ sym (says (after_pull c n past) st (record { from = a.from; below = a.below }) refl) ∙ e

pub pulls : (after : Past → Type 0) (c n m : ℕ) (past : Past) (into new : List ℕ) → n ≡ m → new ≡ into ++ take n (past.waiting c) → after (after_pull c n past)
    → (new ≡ into ++ take m (past.waiting c)) × after (after_pull c m past)
pulls after c n m past into new e moved left = subst (λ (x : ℕ). (new ≡ into ++ take x (past.waiting c)) × after (after_pull c x past)) e (moved, left)

-- where the store's side is over, and nothing waits, or not
over_some : (o : Option StoreEnding) (waiting : List ℕ) (l : Link) → is_some o ≡ true → length waiting ≡ 0 → over_by o waiting l ≡ ended endings.StoreEnd l
unfolding over_by
over_some None waiting l h k = absurd cc
over_some (Some e) [] l h k = refl
over_some (Some e) (b ∷ bs) l h k = absurd (omega (arith, k))

over_not : (o : Option StoreEnding) (waiting : List ℕ) (l : Link) → (is_some o ≡ true → length waiting ≡ 0 → ⊥) → over_by o waiting l ≡ l
unfolding over_by
over_not None waiting l h = refl
over_not (Some e) [] l h = absurd (h refl refl)
over_not (Some e) (b ∷ bs) l h = refl

ended_already : (o : Option Ending) (e : Ending) (l : Link) → (o ≡ None → ⊥) → ended_by o e l ≡ l
unfolding ended_by
ended_already None e l h = absurd (h refl)
ended_already (Some f) e l h = refl

over_ended : (o : Option StoreEnding) (waiting : List ℕ) (l : Link) → (l.stand.ending ≡ None → ⊥) → over_by o waiting l ≡ l
unfolding over_by
over_ended None waiting l h = refl
over_ended (Some e) (b ∷ bs) l h = refl
over_ended (Some e) [] l h = ended_already l.stand.ending endings.StoreEnd l h

pub over_not_some : (o p : Option StoreEnding) → p ≡ o → is_some o ≡ true → is_some p ≡ false → ⊥
over_not_some o p e h k = absurd cc

pub keeps_over : (k : EntryKeys) (boot c : ℕ) (s : Spot) (x : Connection) → is_some (s.past.endings c) ≡ true → length (s.past.waiting c) ≡ 0
    → Keeps k boot c (s.past.pulled c) x (ended endings.StoreEnd s.link) → Keeps k boot c (s.past.pulled c) x (over c s).link
keeps_over k boot c s x h e keeps =
    subst (λ (l : Link). Keeps k boot c (s.past.pulled c) x l) (sym (over_some (s.past.endings c) (s.past.waiting c) s.link h e)) keeps

pub keeps_on : (k : EntryKeys) (boot c : ℕ) (s : Spot) (x : Connection) → (is_some (s.past.endings c) ≡ true → length (s.past.waiting c) ≡ 0 → ⊥)
    → Keeps k boot c (s.past.pulled c) x s.link → Keeps k boot c (s.past.pulled c) x (over c s).link
keeps_on k boot c s x h keeps =
    subst (λ (l : Link). Keeps k boot c (s.past.pulled c) x l) (sym (over_not (s.past.endings c) (s.past.waiting c) s.link h)) keeps

-- what is brought, and then the end
abbrev pub IsBrought : EntryKeys → ℕ → ℕ → Amount → Spot → Spot → Type 0
IsBrought k boot c amount s n = (brought : Spot) × BringsIf s.link.stand.ending k boot c amount s brought × (n ≡ over c brought)

none_brought : (o : Option Ending) (k : EntryKeys) (boot c : ℕ) (amount : Amount) (s : Spot) → (o ≡ None → ⊥) → BringsIf o k boot c amount s s
unfolding BringsIf
none_brought None k boot c amount s h = absurd (h refl)
none_brought (Some e) k boot c amount s h = refl

brought_on : (o : Option Ending) (k : EntryKeys) (boot c : ℕ) (amount : Amount) (s n : Spot) → o ≡ None → Brings k boot c amount s n → BringsIf o k boot c amount s n
unfolding BringsIf
brought_on None k boot c amount s n h b = b
brought_on (Some e) k boot c amount s n h b = absurd cc

-- a session that has ended
pub brings_nothing : (after : Past → Type 0) (k : EntryKeys) (boot c : ℕ) (amount : Amount) (s : Spot) (x : Connection) → (s.link.stand.ending ≡ None → ⊥)
    → after s.past → Keeps k boot c (s.past.pulled c) x s.link → Goes after k boot c x (IsBrought k boot c amount s)
brings_nothing after k boot c amount s x h st keeps = (
  s,
  (
    s,
    none_brought s.link.stand.ending k boot c amount s h,
    ap (λ (l : Link). record s { link = l }) (sym (over_ended (s.past.endings c) (s.past.waiting c) s.link h)),
  ),
  st,
  keeps,
)

abbrev pulled_one : ℕ → Amount → Past → Past
pulled_one c amount p = after_pull c (count_of amount (length (p.waiting c))) p

own_pulled : (c n : ℕ) (p : Past) → (after_pull c n p).pulled c ≡ p.pulled c ++ take n (p.waiting c)
unfolding after_pull
own_pulled c n p = at_own c (p.pulled c ++ take n (p.waiting c)) p.pulled

written_now : (c n : ℕ) (p : Past) → (after_pull c n p).written ≡ true
unfolding after_pull
written_now c n p = refl

pub pulled_admitted : (c n d : ℕ) (p : Past) → IsAdmitted p d → IsAdmitted (after_pull c n p) d
unfolding after_pull
pulled_admitted c n d p a = record { from = a.from; below = a.below }

-- one that goes on
pub brings_some : (after : Past → Type 0) (k : EntryKeys) (boot c : ℕ) (amount : Amount) (s : Spot) (x y : Connection) (piece : List ℕ) → s.link.stand.ending ≡ None
    → IsAdmitted s.past c → piece ≡ first_of amount (s.past.waiting c) → after (pulled_one c amount s.past)
    → (new : Link) × Hears k boot c (s.past.pulled c ++ piece) s.link new × Keeps k boot c (s.past.pulled c ++ piece) x new
    → ((b : Spot) → after b.past → IsAdmitted b.past c → b.past.written ≡ true → Keeps k boot c (b.past.pulled c) x b.link → Keeps k boot c (b.past.pulled c) y (over c b).link)
    → Goes after k boot c y (IsBrought k boot c amount s)
brings_some after k boot c amount s x y piece on a is st h end =
    let count = count_of amount (length (s.past.waiting c)) in
    let p : Past = pulled_one c amount s.past in
    let same : s.past.pulled c ++ piece ≡ p.pulled c = ap (λ (b : List ℕ). s.past.pulled c ++ b) is ∙ sym (own_pulled c count s.past) in
    let b : Spot = record { past = p; link = h.0 } in
    let hears = subst (λ (z : List ℕ). Hears k boot c z s.link h.0) same h.1 in
    let keeps = subst (λ (z : List ℕ). Keeps k boot c z x h.0) same h.2 in (
      over c b,
      (b, brought_on s.link.stand.ending k boot c amount s b on (record { past = refl; hears = hears }), refl),
      st,
      end b st (pulled_admitted c count c s.past a) (written_now c count s.past) keeps,
    )

brings_admitted : (o : Option Ending) (k : EntryKeys) (boot c d : ℕ) (amount : Amount) (s n : Spot) → BringsIf o k boot c amount s n → IsAdmitted s.past d → IsAdmitted n.past d
unfolding BringsIf
brings_admitted None k boot c d amount s n b a = subst (λ (p : Past). IsAdmitted p d) (sym b.past) (pulled_admitted c (count_of amount (length (s.past.waiting c))) d s.past a)
brings_admitted (Some e) k boot c d amount s n b a = subst (λ (t : Spot). IsAdmitted t.past d) (sym b) a

pub brought_admitted : (k : EntryKeys) (boot c d : ℕ) (amount : Amount) (s n : Spot) → IsBrought k boot c amount s n → IsAdmitted s.past d → IsAdmitted n.past d
brought_admitted k boot c d amount s n b a =
    subst (λ (t : Spot). IsAdmitted t.past d) (sym b.2) (brings_admitted s.link.stand.ending k boot c d amount s b.0 b.1 a)

pub goes_down : (k : EntryKeys) (boot c : ℕ) (amount : Amount) (s n m : Spot) → IsBrought k boot c amount s n → Leaves c n m → GoesDown k boot c amount s m
goes_down k boot c amount s n m b l = record { brought = b.0; brings = b.1; leaves = subst (λ (t : Spot). Leaves c t m) b.2 l }
