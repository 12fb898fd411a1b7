-- Each step keeps what holds between the steps: how a hall begins, the steps of its passes, and how it ends.
use Rattle.std.proofs.Common.{◌≡◌, ◌≢◌, ℕ, zero, suc, ◌+◌, ◌%◌, ◌<◌, ◌≤◌, true, false, true≢false, eqb, List, [], ◌∷◌, ◌++◌, length, get_or, set, refl, sym, ap, ◌∙◌, subst, ⊎_elim, arith, length-set, append-nil, lt_of_not-le, Option, Some}
use mathlib.Core.Logic.{dite}
use mathlib.Core.Option.{none, some, some-injective, some-ne-none}
use native.Mathlib.Decide.{ℕ_discrete, dec_le}
use lib.ListN.{get_elem?}
use lib.Seq.{set-get_or}
use prog.Atomic.{either}
use Rattle.atomic_table.specs.Table.{State, Me, step, keeps, carried_after, Valid, stepped, Allows, Joins, opening, Final, Seen}
use Rattle.atomic_table.specs.Table as table
use Rattle.atomic_table.proofs.Lists.{at_set, set_else, at_longer, at_last, exchanged}
use Rattle.store_side.specs.Past.{Past as Went}
use Rattle.tree_hall.specs.declared.view.Item.{Item}
use Rattle.tree_hall.specs.declared.view.View.{View}
use Rattle.tree_hall.specs.declared.view.Desk.{Desk}
use Rattle.tree_hall.specs.declared.view.Role.{Role}
use Rattle.tree_hall.specs.declared.view.Role.TheVariants.{Gone, Idle, Waits, Has, Told, Splits, Meets, Counts, Alone}
use Rattle.tree_hall.specs.Histories.{LeadsTo, calls_by, StartsWith}
use Rattle.tree_hall.specs.Turns.{weight, is_busy, Turn, Post, Fits, Kept, Sat, starting, posed, shown, newcomer, spare_of, nobody, both, numbered, looked, compared, counted, Rested, Same}
use Rattle.tree_hall.specs.Passes.{IsWhole}
use Rattle.tree_hall.proofs.Histories.{calls-append, played-of, starts-self, passes-set, passes-snoc, passes-at, passes-alone}
use Rattle.tree_hall.proofs.Others.{set_at, put, put_here, put_else, moved, moved_there, moved_else, each_set, some_set, other_set, post_other, fits_other}
use Rattle.tree_hall.proofs.Keeps.{unmoved}

abbrev counted_of : Role → ℕ
counted_of (Counts n) = n
counted_of _ = 0

abbrev met_of : Role → List Item
met_of (Meets seen) = seen
met_of _ = []

busy_weight : (role : Role) → is_busy role ≡ true → weight role ≡ 1
busy_weight (Waits t) e = refl
busy_weight (Has t) e = refl
busy_weight (Told t) e = refl
busy_weight Gone e = absurd (true≢false (sym e))
busy_weight Idle e = absurd (true≢false (sym e))
busy_weight (Splits k) e = absurd (true≢false (sym e))
busy_weight (Meets seen) e = absurd (true≢false (sym e))
busy_weight (Counts n) e = absurd (true≢false (sym e))
busy_weight Alone e = absurd (true≢false (sym e))

turn_quiet : (next serving stage : ℕ) (owner : ℕ → ℕ) (log : List Item) (j : ℕ) (seen : List Item) (role : Role) → is_busy role ≡ false → Turn next serving stage owner log j seen role
turn_quiet next serving stage owner log j seen (Waits t) e = absurd (true≢false e)
turn_quiet next serving stage owner log j seen (Has t) e = absurd (true≢false e)
turn_quiet next serving stage owner log j seen (Told t) e = absurd (true≢false e)
turn_quiet next serving stage owner log j seen Gone e = tt
turn_quiet next serving stage owner log j seen Idle e = tt
turn_quiet next serving stage owner log j seen (Splits k) e = tt
turn_quiet next serving stage owner log j seen (Meets also) e = tt
turn_quiet next serving stage owner log j seen (Counts n) e = tt
turn_quiet next serving stage owner log j seen Alone e = tt

-- a number with no call in the history has none among a pass's own
none_of : (made : ℕ) (holder : ℕ → ℕ) (log : List Item) (j : ℕ) (v : View) → Fits made holder log j v → (by : ℕ) → calls_by by log ≡ [] → calls_by by v.mine ≡ []
none_of made holder log j v h by empty = dite (ℕ_discrete (holder by) j) (λ e. (h.own by).0 e ∙ empty) (λ n. (h.own by).1 n)

at_below : (l : List View) (i : ℕ) (v : View) → get_elem? l i ≡ some v → i < length l
at_below [] i v e = absurd (some-ne-none v (sym e))
at_below (x ∷ xs) zero v e = omega arith
at_below (x ∷ xs) (suc i) v e = let r = at_below xs i v e in omega arith

each_snoc : (P : ℕ → View → Type 0) (l : List View) (a : View) → ((j : ℕ) (v : View) → get_elem? l j ≡ some v → P j v) → P (length l) a
    → (j : ℕ) (v : View) → get_elem? (l ++ a ∷ []) j ≡ some v → P j v
each_snoc P [] a each new zero v e = subst (P 0) (some-injective a v e) new
each_snoc P [] a each new (suc j) v e = absurd (some-ne-none v (sym e))
each_snoc P (x ∷ xs) a each new zero v e = each zero v e
each_snoc P (x ∷ xs) a each new (suc j) v e = each_snoc (λ i u. P (suc i) u) xs a (λ i u there. each (suc i) u there) new j v e

each_set2 : (P : ℕ → View → Type 0) (vs : List View) (me other : ℕ) (w z : View) → P me w → P other z
    → ((j : ℕ) (v : View) → j ≢ me → j ≢ other → get_elem? vs j ≡ some v → P j v) → (j : ℕ) (v : View) → get_elem? (set (set vs me w) other z) j ≡ some v → P j v
each_set2 P vs me other w z mine its others = each_set P (set vs me w) other z its
    (λ j v apart e. ⊎_elim (λ (t : (j ≡ me) × (w ≡ v)). subst (λ (x : ℕ × View). P x.0 x.1) (λ i. (sym t.0 i, t.1 i)) mine)
    (λ (t : (j ≢ me) × (get_elem? vs j ≡ some v)). others j v t.0 apart t.1) (at_set vs me j w v e))

module _ {S : Type 0} (stands : S → Went → Type 0) (opened : Went → Type 0) where
  abbrev St : Type 0
  St = State (Option (Desk S)) View

  abbrev Rule : St → Type 0
  Rule = Kept stands opened

  pub starts : (y : Desk S) → LeadsTo opened [] (stands y.store) → Rule (opening (0 ∷ 0 ∷ 0 ∷ 1 ∷ 0 ∷ []) (Some y ∷ []) (starting))
  starts y is =
      let vs : List View = starting ∷ [] in
      let only : (P : ℕ → View → Type 0) → P 0 (starting) → (j : ℕ) (v : View) → get_elem? vs j ≡ some v → P j v = λ P p. each_snoc P [] (starting) (λ j v e. absurd (some-ne-none v (sym e))) p in
      record {
        next = 0;
        serving = 0;
        made = 1;
        met = 0;
        stage = 0;
        log = [];
        owner = λ _. 0;
        holder = λ _. 0;
        words = refl;
        deep = refl;
        ahead = (omega arith, omega arith, omega arith);
        out = λ h. absurd (h refl);
        rounds = ((λ _. refl), λ e. absurd (omega arith));
        played = played-of opened [] (stands y.store) is;
        home = λ _. (y, refl, is);
        away = λ h. absurd (h refl);
        turn = only (λ j v. Turn 0 0 0 (λ _. 0) [] j v.seen v.role) tt;
        post = only (λ j v. Post 1 0 (λ _. 0) [] vs j v.number v.role) tt;
        fits = only (λ j v. 0 < weight v.role → Fits 1 (λ _. 0) [] j v) (λ _. record { seen = ([], refl); own = λ by. ((λ _. refl), λ _. refl); number = (refl, omega arith) });
        total = refl;
        held = λ by less. (starting, refl, omega arith);
        unused = λ by past. refl;
      }

  pub numbers : (slots id : ℕ) (me : Sat S) (old : ℕ) → me.0.role ≡ Idle → old + 1 < 18446744073709551616
      → Allows Rule slots id me 3 (λ n. either (eqb n old) (old + 1) n) (numbered (step slots 3 old (old + 1) none) me)
  numbers slots id me old idle small s r deep at _ =
      let n : ℕ = get_or s.words 3 0 in
      let is : n ≡ r.made = ap (λ ws. get_or ws 3 0) r.words in
      let w : View = posed me.0 (Splits n) in
      let live : weight me.0.role ≡ 1 = ap weight idle in
      let quiet : is_busy me.0.role ≡ false = ap is_busy idle in
      let sum = passes-set s.views id me.0 w at in let total = r.total in
      let fit = r.fits id me.0 at (omega arith) in
      let none_yet : calls_by n r.log ≡ [] = r.unused n (omega arith) in
      let holder' : ℕ → ℕ = put r.holder n id in
      exchanged n old (old + 1) (λ x. (w : View) × (a : table.Act (Option (Desk S))) × Valid s.homes me.1 a × Rule (stepped s 3 x id me.1 w a) × numbered (step slots 3 old (old + 1) none) me n (w, carried_after me.1 a))
      (λ hit. (
        w,
        keeps,
        tt,
        record {
          next = r.next;
          serving = r.serving;
          made = old + 1;
          met = r.met;
          stage = r.stage;
          log = r.log;
          owner = r.owner;
          holder = holder';
          words = ap (λ ws. set ws 3 (old + 1)) r.words;
          deep = r.deep;
          ahead = (r.ahead.0, r.ahead.1, small);
          out = r.out;
          rounds = r.rounds;
          played = r.played;
          home = r.home;
          away = λ h. other_set (λ role. is_busy role ≡ true) s.views id me.0 w at (λ e. true≢false (sym e ∙ quiet)) (r.owner r.serving) (r.away h);
          turn = each_set (λ j v. Turn r.next r.serving r.stage r.owner r.log j v.seen v.role) s.views id w tt (λ j v apart there. r.turn j v there);
          post = each_set (λ j v. Post (old + 1) r.met holder' r.log (set s.views id w) j v.number v.role) s.views id w
              (put_here r.holder n id, omega arith, (λ e. let k = fit.number.1 in absurd (omega arith)), none_yet)
              (λ j v apart there. post_other r.made (old + 1) r.met r.met r.holder holder' r.log r.log s.views (set s.views id w) j v.number id me.0 at (omega arith) apart
              (λ k o less none. (put_else r.holder n id k (λ e. absurd (omega arith)) ∙ o, omega arith, none)) (λ also h. h) (omega arith) v.role (r.post j v there));
          fits = each_set (λ j v. 0 < weight v.role → Fits (old + 1) holder' r.log j v) s.views id w
              (λ _. record {
                seen = fit.seen;
                own = λ by. dite (ℕ_discrete by n)
                    (λ e. let none : calls_by by r.log ≡ [] = ap (λ k. calls_by k r.log) e ∙ none_yet in let mine = none_of r.made r.holder r.log id me.0 fit by none in
                    ((λ _. mine ∙ sym none), λ _. mine))
                    (λ ne. ((λ o. (fit.own by).0 (sym (put_else r.holder n id by ne) ∙ o)), λ no. (fit.own by).1 (λ o. no (put_else r.holder n id by ne ∙ o))));
                number = (put_else r.holder n id me.0.number (λ e. let k = fit.number.1 in absurd (omega arith)) ∙ fit.number.0, (let k = fit.number.1 in omega arith));
              })
              (λ j v apart there live'. let f = r.fits j v there live' in record {
                seen = f.seen;
                own = λ by. dite (ℕ_discrete by n)
                    (λ e. let none : calls_by by r.log ≡ [] = ap (λ k. calls_by k r.log) e ∙ none_yet in let mine = none_of r.made r.holder r.log j v f by none in
                    ((λ _. mine ∙ sym none), λ _. mine))
                    (λ ne. ((λ o. (f.own by).0 (sym (put_else r.holder n id by ne) ∙ o)), λ no. (f.own by).1 (λ o. no (put_else r.holder n id by ne ∙ o))));
                number = (put_else r.holder n id v.number (λ e. let k = f.number.1 in absurd (omega arith)) ∙ f.number.0, (let k = f.number.1 in omega arith));
              });
          total = omega arith;
          held = λ by less. dite (ℕ_discrete by n)
              (λ e. (w, ap (get_elem? (set s.views id w)) (ap holder' e ∙ put_here r.holder n id) ∙ set_at s.views id me.0 w at, omega arith))
              (λ ne. let t = some_set (λ role. 0 < weight role) s.views id me.0 w at (omega arith) (r.holder by) (r.held by (omega arith)) in
              (t.0, ap (get_elem? (set s.views id w)) (put_else r.holder n id by ne) ∙ t.1, t.2));
          unused = λ by past. r.unused by (omega arith);
        },
        ((λ _. refl), λ not. absurd (not hit)),
      ))
      (λ miss. (me.0, keeps, tt, unmoved stands opened s r 3 id me at, ((λ hit. absurd (miss hit)), λ _. refl)))

  -- a seat that stands for one pass goes from one role without a ticket to another
  reposes : (s : St) (r : Rule s) (i id : ℕ) (v : View) (role : Role) → get_elem? s.views id ≡ some v → is_busy v.role ≡ false → is_busy role ≡ false
      → weight v.role ≡ 1 → weight role ≡ 1 → Post r.made r.met r.holder r.log (set s.views id (posed v role)) id v.number role
      → Rule record { words = set s.words i (get_or s.words i 0); homes = s.homes; views = set s.views id (posed v role) }
  reposes s r i id v role at quiet quiet' live live' knows =
      let w : View = posed v role in
      let sum = passes-set s.views id v w at in let total = r.total in
      let fit = r.fits id v at (omega arith) in
      record {
        next = r.next;
        serving = r.serving;
        made = r.made;
        met = r.met;
        stage = r.stage;
        log = r.log;
        owner = r.owner;
        holder = r.holder;
        words = set-get_or s.words i 0 ∙ r.words;
        deep = r.deep;
        ahead = r.ahead;
        out = r.out;
        rounds = r.rounds;
        played = r.played;
        home = r.home;
        away = λ h. other_set (λ z. is_busy z ≡ true) s.views id v w at (λ e. true≢false (sym e ∙ quiet)) (r.owner r.serving) (r.away h);
        turn = each_set (λ j u. Turn r.next r.serving r.stage r.owner r.log j u.seen u.role) s.views id w
            (turn_quiet r.next r.serving r.stage r.owner r.log id v.seen role quiet') (λ j u apart there. r.turn j u there);
        post = each_set (λ j u. Post r.made r.met r.holder r.log (set s.views id w) j u.number u.role) s.views id w knows
            (λ j u apart there. post_other r.made r.made r.met r.met r.holder r.holder r.log r.log s.views (set s.views id w) j u.number id v at (omega arith) apart
            (λ k o less none. (o, less, none)) (λ also h. h) (omega arith) u.role (r.post j u there));
        fits = each_set (λ j u. 0 < weight u.role → Fits r.made r.holder r.log j u) s.views id w
            (λ _. record { seen = fit.seen; own = fit.own; number = fit.number })
            (λ j u apart there. r.fits j u there);
        total = omega arith;
        held = λ by less. some_set (λ z. 0 < weight z) s.views id v w at (omega arith) (r.holder by) (r.held by less);
        unused = r.unused;
      }

  pub looks_met : (slots id : ℕ) (me : Sat S) → me.0.role ≡ Idle → Allows Rule slots id me 4 (λ n. n) (looked (step slots 4 0 0 none) me)
  looks_met slots id me idle s r deep at _ =
      let n : ℕ = get_or s.words 4 0 in
      let is : n ≡ r.met = ap (λ ws. get_or ws 4 0) r.words in
      (posed me.0 (Counts n), keeps, tt, reposes s r 4 id me.0 (Counts n) at (ap is_busy idle) refl (ap weight idle) refl (omega arith), refl)

  pub looks_made : (slots id : ℕ) (me : Sat S) (k : ℕ) → me.0.role ≡ Counts k → Allows Rule slots id me 3 (λ n. n) (compared (step slots 3 0 0 none) me)
  looks_made slots id me k counts s r deep at _ =
      let n : ℕ = get_or s.words 3 0 in
      let is : n ≡ r.made = ap (λ ws. get_or ws 3 0) r.words in
      let live : weight me.0.role ≡ 1 = ap weight counts in
      let low : k ≤ r.met = subst (λ (z : Role). Post r.made r.met r.holder r.log s.views id me.0.number z) counts (r.post id me.0 at) in
      let some_there = passes-at s.views id me.0 at in let total = r.total in
      let above : k < n = omega arith in
      dite (ℕ_discrete n (k + 1))
      (λ hit.
      let w : View = posed me.0 Alone in
      let sum = passes-set s.views id me.0 w at in (
        w,
        keeps,
        tt,
        reposes s r 3 id me.0 Alone at (ap is_busy counts) refl live refl (passes-alone (set s.views id w) id w (set_at s.views id me.0 w at) (omega arith)),
        λ u role.
            let same : k ≡ u = ap counted_of (sym counts ∙ role) in
            let lone : Sat S = (w, me.1) in let idle : Sat S = (posed me.0 Idle, me.1) in
            subst (λ (u : ℕ). (u < n) × (n ≡ u + 1 → lone ≡ lone) × (n ≢ u + 1 → lone ≡ idle)) same (above, (λ _. refl), λ not. absurd (not hit)),
      ))
      (λ miss. (
        posed me.0 Idle,
        keeps,
        tt,
        reposes s r 3 id me.0 Idle at (ap is_busy counts) refl live refl tt,
        λ u role.
            let same : k ≡ u = ap counted_of (sym counts ∙ role) in
            let lone : Sat S = (posed me.0 Alone, me.1) in let idle : Sat S = (posed me.0 Idle, me.1) in
            subst (λ (u : ℕ). (u < n) × (n ≡ u + 1 → idle ≡ lone) × (n ≢ u + 1 → idle ≡ idle)) same (above, (λ hit. absurd (miss hit)), λ _. refl),
      ))

  pub splits : (id : ℕ) (v : View) (k : ℕ) → v.role ≡ Splits k → table.Splits Rule id v (posed v Idle) (newcomer v (spare_of v.role))
  splits id v k role s r at =
      let spare : ℕ = spare_of v.role in
      let know : Post r.made r.met r.holder r.log s.views id v.number (Splits spare) =
      subst (λ (z : Role). Post r.made r.met r.holder r.log s.views id v.number z) (role ∙ ap Splits (sym (ap spare_of role))) (r.post id v at) in
      let left : View = posed v Idle in
      let right : View = newcomer v spare in
      let live : weight v.role ≡ 2 = ap weight role in
      let quiet : is_busy v.role ≡ false = ap is_busy role in
      let vs : List View = set s.views id left in
      let size : ℕ = length vs in
      let same_size : size ≡ length s.views = length-set s.views id left in
      let sum = passes-set s.views id v left at in let sum' = passes-snoc vs right in let total = r.total in
      let fit = r.fits id v at (omega arith) in
      let holder' : ℕ → ℕ = put r.holder spare size in
      let mine_not_new : id ≢ size = (λ e. let b = at_below s.views id v at in absurd (omega arith)) in record {
        next = r.next;
        serving = r.serving;
        made = r.made;
        met = r.met;
        stage = r.stage;
        log = r.log;
        owner = r.owner;
        holder = holder';
        words = r.words;
        deep = r.deep;
        ahead = r.ahead;
        out = r.out;
        rounds = r.rounds;
        played = r.played;
        home = r.home;
        away = λ h. let t = other_set (λ z. is_busy z ≡ true) s.views id v left at (λ e. true≢false (sym e ∙ quiet)) (r.owner r.serving) (r.away h) in
            (t.0, at_longer vs (right ∷ []) (r.owner r.serving) t.0 t.1, t.2);
        turn = each_snoc (λ j u. Turn r.next r.serving r.stage r.owner r.log j u.seen u.role) vs right
            (each_set (λ j u. Turn r.next r.serving r.stage r.owner r.log j u.seen u.role) s.views id left tt (λ j u apart there. r.turn j u there)) tt;
        post = each_snoc (λ j u. Post r.made r.met holder' r.log (vs ++ right ∷ []) j u.number u.role) vs right
            (each_set (λ j u. Post r.made r.met holder' r.log (vs ++ right ∷ []) j u.number u.role) s.views id left tt
            (λ j u apart there. post_other r.made r.made r.met r.met r.holder holder' r.log r.log s.views (vs ++ right ∷ []) j u.number id v at (omega arith) apart
            (λ i o less empty. (put_else r.holder spare size i (λ e. apart (sym o ∙ ap r.holder e ∙ know.0)) ∙ o, less, empty)) (λ also h. h) (omega arith) u.role (r.post j u there))) tt;
        fits = each_snoc (λ j u. 0 < weight u.role → Fits r.made holder' r.log j u) vs right
            (each_set (λ j u. 0 < weight u.role → Fits r.made holder' r.log j u) s.views id left
            (λ _. record {
              seen = fit.seen;
              own = λ by. dite (ℕ_discrete by spare)
                  (λ e. (
                    (λ o. absurd (mine_not_new (sym o ∙ ap holder' e ∙ put_here r.holder spare size))),
                    λ _. none_of r.made r.holder r.log id v fit by (ap (λ i. calls_by i r.log) e ∙ know.3),
                  ))
                  (λ ne. ((λ o. (fit.own by).0 (sym (put_else r.holder spare size by ne) ∙ o)), λ no. (fit.own by).1 (λ o. no (put_else r.holder spare size by ne ∙ o))));
              number = (put_else r.holder spare size v.number (λ e. know.2 (sym e)) ∙ fit.number.0, fit.number.1);
            })
            (λ j u apart there live'. fits_other r.made r.made r.holder holder' r.log r.log j
            (λ by. (
              (λ o. (put_else r.holder spare size by (λ e. apart (sym o ∙ ap r.holder e ∙ know.0)) ∙ o, refl)),
              λ o. dite (ℕ_discrete by spare)
                  (λ e. let b = at_below s.views j u there in let at_end : j ≡ size = sym o ∙ ap holder' e ∙ put_here r.holder spare size in absurd (omega arith))
                  (λ ne. sym (put_else r.holder spare size by ne) ∙ o),
            )) (omega arith) (λ also h. h) u (r.fits j u there live')))
            (λ _. record {
              seen = fit.seen;
              own = λ by. (
                (λ o. dite (ℕ_discrete by spare)
                    (λ e. sym (ap (λ i. calls_by i r.log) e ∙ know.3))
                    (λ ne. dite (dec_le r.made by)
                    (λ past. sym (r.unused by past))
                    (λ less. let t = r.held by (lt_of_not-le less) in let b = at_below s.views (r.holder by) t.0 t.1 in
                    let there : r.holder by ≡ size = sym (put_else r.holder spare size by ne) ∙ o in absurd (omega arith)))),
                λ _. refl,
              );
              number = (put_here r.holder spare size, know.1);
            });
        total = omega arith;
        held = λ by less. dite (ℕ_discrete by spare)
            (λ e. (right, ap (get_elem? (vs ++ right ∷ [])) (ap holder' e ∙ put_here r.holder spare size) ∙ at_last vs right size refl, omega arith))
            (λ ne. let t = some_set (λ z. 0 < weight z) s.views id v left at (omega arith) (r.holder by) (r.held by less) in
            (t.0, ap (get_elem? (vs ++ right ∷ [])) (put_else r.holder spare size by ne) ∙ at_longer vs (right ∷ []) (r.holder by) t.0 t.1, t.2));
        unused = r.unused;
      }

  pub joins : (id : ℕ) (v : View) (other : ℕ) (w : View) → v.role ≡ Idle → w.role ≡ Idle → Joins Rule id v other w (both v w) nobody
  joins id v other w idle idle' s r at apart_ids after =
      let b : View = both v w in
      let vs : List View = set s.views id b in
      let at' : get_elem? s.views other ≡ some w = sym (set_else s.views id other b apart_ids) ∙ after in
      let live : weight v.role ≡ 1 = ap weight idle in
      let live' : weight w.role ≡ 1 = ap weight idle' in
      let quiet : is_busy v.role ≡ false = ap is_busy idle in
      let quiet' : is_busy w.role ≡ false = ap is_busy idle' in
      let sum = passes-set s.views id v b at in let sum' = passes-set vs other w nobody after in let total = r.total in
      let fit = r.fits id v at (omega arith) in
      let fit' = r.fits other w at' (omega arith) in
      let holder' : ℕ → ℕ = moved r.holder other id in record {
        next = r.next;
        serving = r.serving;
        made = r.made;
        met = r.met;
        stage = r.stage;
        log = r.log;
        owner = r.owner;
        holder = holder';
        words = r.words;
        deep = r.deep;
        ahead = r.ahead;
        out = r.out;
        rounds = r.rounds;
        played = r.played;
        home = r.home;
        away = λ h. other_set (λ z. is_busy z ≡ true) vs other w nobody after (λ e. true≢false (sym e ∙ quiet')) (r.owner r.serving)
            (other_set (λ z. is_busy z ≡ true) s.views id v b at (λ e. true≢false (sym e ∙ quiet)) (r.owner r.serving) (r.away h));
        turn = each_set2 (λ j u. Turn r.next r.serving r.stage r.owner r.log j u.seen u.role) s.views id other b nobody tt tt (λ j u apart apart' there. r.turn j u there);
        post = each_set2 (λ j u. Post r.made r.met holder' r.log (set vs other nobody) j u.number u.role) s.views id other b nobody fit'.seen tt
            (λ j u apart apart' there. post_other r.made r.made r.met r.met r.holder holder' r.log r.log s.views (set vs other nobody) j u.number id v at (omega arith) apart
            (λ i o less empty. (moved_else r.holder other id i (λ e. apart' (sym o ∙ e)) ∙ o, less, empty)) (λ also h. h) (omega arith) u.role (r.post j u there));
        fits = each_set2 (λ j u. 0 < weight u.role → Fits r.made holder' r.log j u) s.views id other b nobody
            (λ _. record {
              seen = fit.seen;
              own = λ by. dite (ℕ_discrete (r.holder by) other)
                  (λ e. (
                    (λ _. calls-append by v.mine w.mine ∙ (λ i. ((fit.own by).1 (λ o. apart_ids (sym e ∙ o)) i) ++ ((fit'.own by).0 e i))),
                    λ no. absurd (no (moved_there r.holder other id by e)),
                  ))
                  (λ ne. (
                    (λ o. calls-append by v.mine w.mine ∙ (λ i. ((fit.own by).0 (sym (moved_else r.holder other id by ne) ∙ o) i) ++ ((fit'.own by).1 ne i)) ∙ append-nil (calls_by by r.log)),
                    λ no. calls-append by v.mine w.mine ∙ (λ i. ((fit.own by).1 (λ o. no (moved_else r.holder other id by ne ∙ o)) i) ++ ((fit'.own by).1 ne i)),
                  ));
              number = (moved_else r.holder other id v.number (λ e. apart_ids (sym e ∙ fit.number.0)) ∙ fit.number.0, fit.number.1);
            })
            (λ gone. absurd (omega arith))
            (λ j u apart apart' there live''. fits_other r.made r.made r.holder holder' r.log r.log j
            (λ by. (
              (λ o. (moved_else r.holder other id by (λ e. apart' (sym o ∙ e)) ∙ o, refl)),
              λ o. dite (ℕ_discrete (r.holder by) other)
                  (λ e. absurd (apart (sym o ∙ moved_there r.holder other id by e)))
                  (λ ne. sym (moved_else r.holder other id by ne) ∙ o),
            )) (omega arith) (λ also h. h) u (r.fits j u there live''));
        total = omega arith;
        held = λ by less. dite (ℕ_discrete (r.holder by) other)
            (λ e. (b, ap (get_elem? (set vs other nobody)) (moved_there r.holder other id by e) ∙ set_else vs other id nobody (λ i. apart_ids (sym i)) ∙ set_at s.views id v b at, omega arith))
            (λ ne. let t = some_set (λ z. 0 < weight z) s.views id v b at (omega arith) (r.holder by) (r.held by less) in
            (t.0, ap (get_elem? (set vs other nobody)) (moved_else r.holder other id by ne) ∙ set_else vs other (r.holder by) nobody ne ∙ t.1, t.2));
        unused = r.unused;
      }

  pub counts_met : (other : Went → Type 0) → Same opened other → (slots id : ℕ) (me : Sat S) (also : List Item) → me.0.role ≡ Meets also
      → Allows Rule slots id me 4 (λ n. (n + 1) % 18446744073709551616) (counted other (step slots 4 1 0 none) me)
  counts_met other same_pasts slots id me also role s r deep at _ =
      let n : ℕ = get_or s.words 4 0 in
      let is : n ≡ r.met = ap (λ ws. get_or ws 4 0) r.words in
      let know : StartsWith r.log also = subst (λ (z : Role). Post r.made r.met r.holder r.log s.views id me.0.number z) role (r.post id me.0 at) in
      let live : weight me.0.role ≡ 2 = ap weight role in
      let quiet : is_busy me.0.role ≡ false = ap is_busy role in
      let w : View = shown me.0 Idle r.log in
      let sum = passes-set s.views id me.0 w at in let total = r.total in let some_there = passes-at s.views id me.0 at in
      let fit = r.fits id me.0 at (omega arith) in
      let below = r.ahead.2 in
      let next : (n + 1) % 18446744073709551616 ≡ r.met + 1 = omega arith in (
        w,
        keeps,
        tt,
        record {
          next = r.next;
          serving = r.serving;
          made = r.made;
          met = r.met + 1;
          stage = r.stage;
          log = r.log;
          owner = r.owner;
          holder = r.holder;
          words = ap (λ ws. set ws 4 ((n + 1) % 18446744073709551616)) r.words ∙ ap (λ k. r.next ∷ r.serving ∷ length r.log ∷ r.made ∷ k ∷ []) next;
          deep = r.deep;
          ahead = r.ahead;
          out = r.out;
          rounds = r.rounds;
          played = r.played;
          home = r.home;
          away = λ h. other_set (λ z. is_busy z ≡ true) s.views id me.0 w at (λ e. true≢false (sym e ∙ quiet)) (r.owner r.serving) (r.away h);
          turn = each_set (λ j u. Turn r.next r.serving r.stage r.owner r.log j u.seen u.role) s.views id w tt (λ j u apart there. r.turn j u there);
          post = each_set (λ j u. Post r.made (r.met + 1) r.holder r.log (set s.views id w) j u.number u.role) s.views id w tt
              (λ j u apart there. post_other r.made r.made r.met (r.met + 1) r.holder r.holder r.log r.log s.views (set s.views id w) j u.number id me.0 at (omega arith) apart
              (λ i o less empty. (o, less, empty)) (λ also h. h) (omega arith) u.role (r.post j u there));
          fits = each_set (λ j u. 0 < weight u.role → Fits r.made r.holder r.log j u) s.views id w
              (λ _. record { seen = starts-self r.log; own = fit.own; number = fit.number })
              (λ j u apart there. r.fits j u there);
          total = omega arith;
          held = λ by less. some_set (λ z. 0 < weight z) s.views id me.0 w at (omega arith) (r.holder by) (r.held by less);
          unused = r.unused;
        },
        λ more role'.
            let same : also ≡ more = ap met_of (sym role ∙ role') in
            subst (λ (z : List Item). Rested other z me (w, me.1)) same
            (r.log, refl, fit.seen, know, (λ past o. r.played past (same_pasts.from past o)), sym ((fit.own me.0.number).0 fit.number.0)),
      )

  -- who is alone has the calls of all
  pub closes : (id : ℕ) (v : View) (ws : List ℕ) (xs : List (Option (Desk S))) → v.role ≡ Alone → Final (Seen Rule id v) ws xs
      → (y : Desk S) × (get_elem? xs 0 ≡ some (Some y)) × (log : List Item) × LeadsTo opened log (stands y.store) × StartsWith log v.seen × IsWhole log v.mine
  closes id v ws xs alone f =
      let s : St = f.0 in
      let r : Rule s = f.1.0 in
      let at : get_elem? s.views id ≡ some v = f.1.1 in
      let know : (i : ℕ) (u : View) → get_elem? s.views i ≡ some u → i ≢ id → weight u.role ≡ 0 = subst (λ (z : Role). Post r.made r.met r.holder r.log s.views id v.number z) alone (r.post id v at) in
      let live : weight v.role ≡ 1 = ap weight alone in
      let fit = r.fits id v at (omega arith) in
      let here : r.stage ≡ 0 = dite (ℕ_discrete r.stage 0) (λ z. z)
      (λ h. let t = r.away h in let heavy : weight t.0.role ≡ 1 = busy_weight t.0.role t.2 in
      dite (ℕ_discrete (r.owner r.serving) id)
      (λ e. let same : t.0 ≡ v = some-injective t.0 v (sym t.1 ∙ ap (get_elem? s.views) e ∙ at) in absurd (true≢false (sym t.2 ∙ ap (λ (u : View). is_busy u.role) same ∙ ap is_busy alone)))
      (λ ne. let light : weight t.0.role ≡ 0 = know (r.owner r.serving) t.0 t.1 ne in absurd (omega arith))) in
      let home = r.home here in (
        home.0,
        f.4 0 (Some home.0) home.1,
        r.log,
        home.2,
        fit.seen,
        λ by. dite (dec_le r.made by)
            (λ past. none_of r.made r.holder r.log id v fit by (r.unused by past) ∙ sym (r.unused by past))
            (λ less. let t = r.held by (lt_of_not-le less) in
            dite (ℕ_discrete (r.holder by) id)
            (λ e. (fit.own by).0 e)
            (λ ne. let light : weight t.0.role ≡ 0 = know (r.holder by) t.0 t.1 ne in let some_weight = t.2 in absurd (omega arith))),
      )
