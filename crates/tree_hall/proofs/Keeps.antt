-- Each step keeps what holds between the steps: the steps of a turn.
use Rattle.std.proofs.Common.{◌≡◌, ◌≢◌, ℕ, ◌+◌, ◌<◌, true, false, eqb, List, [], ◌∷◌, ◌++◌, length, get_or, set, refl, sym, ap, ◌∙◌, subst, arith, length-set, length-append, append-nil, Option, Some}
use mathlib.Core.Logic.{dite}
use mathlib.Core.Option.{none, some}
use native.Mathlib.Decide.{ℕ_discrete}
use lib.ListN.{get_elem?}
use lib.Seq.{set-get_or}
use prog.Atomic.{either}
use Rattle.atomic_table.specs.Table.{State, Me, step, keeps, takes, gives, carried_after, Valid, homes_after, stepped, Allows, opening}
use Rattle.atomic_table.specs.Table as table
use Rattle.atomic_table.proofs.Lists.{set_again, set_here, exchanged}
use Rattle.store_side.specs.Past.{Past as Went}
use Rattle.tree_hall.specs.declared.view.Item.{Item}
use Rattle.tree_hall.specs.declared.view.View.{View}
use Rattle.tree_hall.specs.declared.view.Desk.{Desk}
use Rattle.tree_hall.specs.declared.view.Role.{Role}
use Rattle.tree_hall.specs.declared.view.Role.TheVariants.{Idle, Waits, Has, Told}
use Rattle.tree_hall.specs.Histories.{Played, IsPlayed, LeadsTo, calls_by}
use Rattle.tree_hall.specs.Turns.{weight, is_busy, Turn, Post, Fits, Kept, Sat, posed, shown, called, item_of, drawn, taken, told, passed_on, Took, TellsOf, Same}
use Rattle.tree_hall.proofs.Histories.{calls-mine, calls-other, starts-longer, starts-self, passes-set}
use Rattle.tree_hall.proofs.Others.{set_at, put, put_here, put_else, each_set, some_set, turn_other, post_other, fits_other}

abbrev ticket_of : Role → ℕ
ticket_of (Waits t) = t
ticket_of (Has t) = t
ticket_of (Told t) = t
ticket_of _ = 0

abbrev pub desk_of : {S : Type 0} → Desk S → List (ℕ × Option (Desk S)) → Desk S
desk_of d ((k, Some y) ∷ xs) = y
desk_of d _ = d

module _ {S : Type 0} (stands : S → Went → Type 0) (opened : Went → Type 0) where
  abbrev St : Type 0
  St = State (Option (Desk S)) View

  abbrev Rule : St → Type 0
  Rule = Kept stands opened

  -- a step that changes nothing
  pub unmoved : (s : St) (r : Rule s) (i id : ℕ) (me : Sat S) → get_elem? s.views id ≡ some me.0 → Rule (stepped s i (get_or s.words i 0) id me.1 me.0 keeps)
  unmoved s r i id me at = subst Rule (λ k. record { words = sym (set-get_or s.words i 0) k; homes = s.homes; views = sym (set_again s.views id me.0 at) k }) r

  pub draws : (slots id : ℕ) (me : Sat S) (old : ℕ) → me.0.role ≡ Idle → old + 1 < 18446744073709551616
      → Allows Rule slots id me 0 (λ n. either (eqb n old) (old + 1) n) (drawn (step slots 0 old (old + 1) none) me)
  draws slots id me old idle small s r deep at _ =
      let n : ℕ = get_or s.words 0 0 in
      let is : n ≡ r.next = ap (λ ws. get_or ws 0 0) r.words in
      let w : View = posed me.0 (Waits n) in
      let live : weight me.0.role ≡ 1 = ap weight idle in
      let quiet : is_busy me.0.role ≡ false = ap is_busy idle in
      let sum = passes-set s.views id me.0 w at in let total = r.total in let ahead = r.ahead.0 in
      exchanged n old (old + 1) (λ x. (w : View) × (a : table.Act (Option (Desk S))) × Valid s.homes me.1 a × Rule (stepped s 0 x id me.1 w a) × drawn (step slots 0 old (old + 1) none) me n (w, carried_after me.1 a))
      (λ hit. (
        w,
        keeps,
        tt,
        record {
          next = old + 1;
          serving = r.serving;
          made = r.made;
          met = r.met;
          stage = r.stage;
          log = r.log;
          owner = put r.owner n id;
          holder = r.holder;
          words = ap (λ ws. set ws 0 (old + 1)) r.words;
          deep = r.deep;
          ahead = (omega arith, small, r.ahead.2);
          out = λ h. let o = r.out h in omega arith;
          rounds = r.rounds;
          played = r.played;
          home = r.home;
          away = λ h. let o = r.out h in let t = r.away h in let same : put r.owner n id r.serving ≡ r.owner r.serving = put_else r.owner n id r.serving (λ e. absurd (omega arith)) in
              some_set (λ role. is_busy role ≡ true) s.views id me.0 w at refl (put r.owner n id r.serving) (t.0, ap (get_elem? s.views) same ∙ t.1, t.2);
          turn = each_set (λ j v. Turn (old + 1) r.serving r.stage (put r.owner n id) r.log j v.seen v.role) s.views id w
              (put_here r.owner n id, omega arith, omega arith, λ e. dite (ℕ_discrete r.stage 0) (λ z. z) (λ h. let o = r.out h in absurd (omega arith)))
              (λ j v apart there. turn_other r.next (old + 1) r.serving r.serving r.stage r.stage r.owner (put r.owner n id) r.log r.log j
              (λ t o low high z. (put_else r.owner n id t (λ e. absurd (omega arith)) ∙ o, low, omega arith, z))
              (λ t o served high z. (put_else r.owner n id t (λ e. absurd (omega arith)) ∙ o, served, omega arith, refl, refl))
              v.seen v.role (r.turn j v there));
          post = each_set (λ j v. Post r.made r.met r.holder r.log (set s.views id w) j v.number v.role) s.views id w tt
              (λ j v apart there. post_other r.made r.made r.met r.met r.holder r.holder r.log r.log s.views (set s.views id w) j v.number id me.0 at (omega arith) apart
              (λ k o less none. (o, less, none)) (λ also h. h) (omega arith) v.role (r.post j v there));
          fits = each_set (λ j v. 0 < weight v.role → Fits r.made r.holder r.log j v) s.views id w
              (λ _. let f = r.fits id me.0 at (omega arith) in record { seen = f.seen; own = f.own; number = f.number })
              (λ j v apart there. r.fits j v there);
          total = omega arith;
          held = λ by less. some_set (λ role. 0 < weight role) s.views id me.0 w at (omega arith) (r.holder by) (r.held by less);
          unused = r.unused;
        },
        ((λ _. refl), λ not. absurd (not hit)),
      ))
      (λ miss. (me.0, keeps, tt, unmoved s r 0 id me at, ((λ hit. absurd (miss hit)), λ _. refl)))

  pub takes_store : (other : Went → Type 0) → Same opened other → (slots id : ℕ) (me : Sat S) (t : ℕ) → me.0.role ≡ Waits t → me.1 ≡ []
      → Allows Rule slots id me 1 (λ n. n) (taken stands other (step slots 1 0 0 none) me)
  takes_store other same_pasts slots id me t waits bare s r deep at _ =
      let n : ℕ = get_or s.words 1 0 in
      let is : n ≡ r.serving = ap (λ ws. get_or ws 1 0) r.words in
      let live : weight me.0.role ≡ 1 = ap weight waits in
      let know : Turn r.next r.serving r.stage r.owner r.log id me.0.seen (Waits t) = subst (λ (z : Role). Turn r.next r.serving r.stage r.owner r.log id me.0.seen z) waits (r.turn id me.0 at) in
      dite (ℕ_discrete n t)
      (λ hit.
      let served : t ≡ r.serving = sym hit ∙ is in
      let here : r.stage ≡ 0 = know.3 served in
      let home = r.home here in
      let y : Desk S = home.0 in
      let w : View = shown me.0 (Has t) r.log in
      let sum = passes-set s.views id me.0 w at in let total = r.total in let ahead = r.ahead.0 in
      let fit = r.fits id me.0 at (omega arith) in
      let owned : r.owner r.serving ≡ id = ap r.owner (sym served) ∙ know.0 in (
        w,
        takes 0 (Some y),
        home.1,
        record {
          next = r.next;
          serving = r.serving;
          made = r.made;
          met = r.met;
          stage = 1;
          log = r.log;
          owner = r.owner;
          holder = r.holder;
          words = set-get_or s.words 1 0 ∙ r.words;
          deep = length-set s.homes 0 none ∙ r.deep;
          ahead = r.ahead;
          out = λ h. let k = know.2 in omega arith;
          rounds = ((λ _. r.rounds.0 (omega arith)), λ e. absurd (omega arith));
          played = r.played;
          home = λ e. absurd (omega arith);
          away = λ h. (w, ap (get_elem? (set s.views id w)) owned ∙ set_at s.views id me.0 w at, refl);
          turn = each_set (λ j v. Turn r.next r.serving 1 r.owner r.log j v.seen v.role) s.views id w
              (know.0, served, know.2, refl, refl)
              (λ j v apart there. turn_other r.next r.next r.serving r.serving r.stage 1 r.owner r.owner r.log r.log j
              (λ u o low high z. (o, low, high, λ e. absurd (apart (sym o ∙ ap r.owner e ∙ owned))))
              (λ u o now high z. absurd (z here))
              v.seen v.role (r.turn j v there));
          post = each_set (λ j v. Post r.made r.met r.holder r.log (set s.views id w) j v.number v.role) s.views id w tt
              (λ j v apart there. post_other r.made r.made r.met r.met r.holder r.holder r.log r.log s.views (set s.views id w) j v.number id me.0 at (omega arith) apart
              (λ k o less none. (o, less, none)) (λ also h. h) (omega arith) v.role (r.post j v there));
          fits = each_set (λ j v. 0 < weight v.role → Fits r.made r.holder r.log j v) s.views id w
              (λ _. record { seen = starts-self r.log; own = fit.own; number = fit.number })
              (λ j v apart there. r.fits j v there);
          total = omega arith;
          held = λ by less. some_set (λ role. 0 < weight role) s.views id me.0 w at (omega arith) (r.holder by) (r.held by less);
          unused = r.unused;
        },
        λ u role.
            let same : t ≡ u = ap ticket_of (sym waits ∙ role) in
            subst (λ (u : ℕ). (n ≡ u → Took stands other u me (w, carried_after me.1 (takes 0 (Some y)))) × (n ≢ u → (w, carried_after me.1 (takes 0 (Some y))) ≡ me)) same (
              (λ _. (y, r.log, ap (λ c. (w, (0, Some y) ∷ c)) bare, fit.seen, λ past o. home.2 past (same_pasts.from past o))),
              λ not. absurd (not hit),
            ),
      ))
      (λ miss. (
        me.0,
        keeps,
        tt,
        unmoved s r 1 id me at,
        λ u role.
            let same : t ≡ u = ap ticket_of (sym waits ∙ role) in
            subst (λ (u : ℕ). (n ≡ u → Took stands other u me me) × (n ≢ u → me ≡ me)) same ((λ hit. absurd (miss hit)), λ _. refl),
      ))

  pub tells : (other : Went → Type 0) → Same opened other → (slots id : ℕ) (me : Sat S) (t : ℕ) (y : Desk S) → me.0.role ≡ Has t → me.1 ≡ (0, Some y) ∷ []
      → IsPlayed other (me.0.seen ++ item_of me.0.number y ∷ [])
      → Allows Rule slots id me 2 (λ _. t + 1) (λ _. told other (step slots 2 (t + 1) 0 none) me (t + 1))
  tells other same_pasts slots id me t y has holds_it allowed s r deep at _ =
      let live : weight me.0.role ≡ 1 = ap weight has in
      let know : Turn r.next r.serving r.stage r.owner r.log id me.0.seen (Has t) = subst (λ (z : Role). Turn r.next r.serving r.stage r.owner r.log id me.0.seen z) has (r.turn id me.0 at) in
      let served : t ≡ r.serving = know.1 in
      let here : r.stage ≡ 1 = know.3 in
      let seen : me.0.seen ≡ r.log = know.4 in
      let x : Item = item_of me.0.number y in
      let w : View = called me.0 (Told t) x in
      let sum = passes-set s.views id me.0 w at in let total = r.total in let ahead = r.ahead.0 in
      let fit = r.fits id me.0 at (omega arith) in
      let owned : r.owner r.serving ≡ id = ap r.owner (sym served) ∙ know.0 in
      let long : length r.log ≡ r.serving = r.rounds.0 (omega arith) in
      let longer : length (r.log ++ x ∷ []) ≡ t + 1 = omega (arith, length-append r.log (x ∷ [])) in
      let log' : List Item = r.log ++ x ∷ [] in
      let front : me.0.seen ++ x ∷ [] ≡ log' = ap (λ l. l ++ x ∷ []) seen in
      let played : IsPlayed opened log' = λ past o. subst (λ (l : List Item). (last : Went) × Played past l last) front (allowed past (same_pasts.to past o)) in
      let mine : calls_by me.0.number log' ≡ calls_by me.0.number (me.0.mine ++ x ∷ []) =
      calls-mine me.0.number r.log x refl ∙ ap (λ l. l ++ x ∷ []) (sym ((fit.own me.0.number).0 fit.number.0)) ∙ sym (calls-mine me.0.number me.0.mine x refl) in (
        w,
        keeps,
        tt,
        record {
          next = r.next;
          serving = r.serving;
          made = r.made;
          met = r.met;
          stage = 2;
          log = log';
          owner = r.owner;
          holder = r.holder;
          words = ap (λ ws. set ws 2 (t + 1)) r.words ∙ ap (λ k. r.next ∷ r.serving ∷ k ∷ r.made ∷ r.met ∷ []) (sym longer);
          deep = r.deep;
          ahead = r.ahead;
          out = λ h. let k = know.2 in omega arith;
          rounds = ((λ e. absurd (omega arith)), λ _. longer ∙ ap (λ k. k + 1) served);
          played = played;
          home = λ e. absurd (omega arith);
          away = λ h. (w, ap (get_elem? (set s.views id w)) owned ∙ set_at s.views id me.0 w at, refl);
          turn = each_set (λ j v. Turn r.next r.serving 2 r.owner log' j v.seen v.role) s.views id w
              (know.0, served, know.2, refl, front)
              (λ j v apart there. turn_other r.next r.next r.serving r.serving r.stage 2 r.owner r.owner r.log log' j
              (λ u o low high z. (o, low, high, λ e. absurd (apart (sym o ∙ ap r.owner e ∙ owned))))
              (λ u o now high z. absurd (apart (sym o ∙ ap r.owner now ∙ owned)))
              v.seen v.role (r.turn j v there));
          post = each_set (λ j v. Post r.made r.met r.holder log' (set s.views id w) j v.number v.role) s.views id w tt
              (λ j v apart there. post_other r.made r.made r.met r.met r.holder r.holder r.log log' s.views (set s.views id w) j v.number id me.0 at (omega arith) apart
              (λ k o less none. (o, less, calls-other k r.log x (λ e. apart (sym o ∙ ap r.holder (sym e) ∙ fit.number.0)) ∙ none)) (λ also h. starts-longer r.log also (x ∷ []) h) (omega arith) v.role (r.post j v there));
          fits = each_set (λ j v. 0 < weight v.role → Fits r.made r.holder log' j v) s.views id w
              (λ _. record {
                seen = ([], sym front ∙ sym (append-nil (me.0.seen ++ x ∷ [])));
                own = λ by. dite (ℕ_discrete me.0.number by)
                    (λ e. (
                      (λ o. calls-mine by me.0.mine x e ∙ ap (λ l. l ++ x ∷ []) ((fit.own by).0 o) ∙ sym (calls-mine by r.log x e)),
                      λ no. absurd (no (ap r.holder (sym e) ∙ fit.number.0)),
                    ))
                    (λ ne. (
                      (λ o. calls-other by me.0.mine x ne ∙ (fit.own by).0 o ∙ sym (calls-other by r.log x ne)),
                      λ no. calls-other by me.0.mine x ne ∙ (fit.own by).1 no,
                    ));
                number = fit.number;
              })
              (λ j v apart there live'. fits_other r.made r.made r.holder r.holder r.log log' j
              (λ by. ((λ o. (o, calls-other by r.log x (λ e. apart (sym o ∙ ap r.holder (sym e) ∙ fit.number.0)))), λ o. o)) (omega arith)
              (λ also h. starts-longer r.log also (x ∷ []) h) v (r.fits j v there live'));
          total = omega arith;
          held = λ by less. some_set (λ role. 0 < weight role) s.views id me.0 w at (omega arith) (r.holder by) (r.held by less);
          unused = λ by past. let k = fit.number.1 in calls-other by r.log x (λ e. absurd (omega arith)) ∙ r.unused by past;
        },
        λ u z role carried.
            let same : t ≡ u = ap ticket_of (sym has ∙ role) in
            let desk : y ≡ z = ap (desk_of y) (sym holds_it ∙ carried) in
            subst (λ (q : ℕ × Desk S). TellsOf other q.0 q.1 me (w, me.1)) (λ i. (same i, desk i))
            (refl, allowed, ap (calls_by me.0.number) front ∙ mine),
      )

  pub passes_on : (other : Went → Type 0) → Same opened other → (slots id : ℕ) (me : Sat S) (t : ℕ) (y : Desk S) → me.0.role ≡ Told t → me.1 ≡ (0, Some y) ∷ []
      → LeadsTo other me.0.seen (stands y.store)
      → Allows Rule slots id me 1 (λ _. t + 1) (λ _. passed_on (step slots 1 (t + 1) 0 none) me (t + 1))
  passes_on other same_pasts slots id me t y has holds_it whole s r deep at _ =
      let live : weight me.0.role ≡ 1 = ap weight has in
      let know : Turn r.next r.serving r.stage r.owner r.log id me.0.seen (Told t) = subst (λ (z : Role). Turn r.next r.serving r.stage r.owner r.log id me.0.seen z) has (r.turn id me.0 at) in
      let served : t ≡ r.serving = know.1 in
      let here : r.stage ≡ 2 = know.3 in
      let seen : me.0.seen ≡ r.log = know.4 in
      let w : View = posed me.0 Idle in
      let sum = passes-set s.views id me.0 w at in let total = r.total in let ahead = r.ahead.0 in
      let fit = r.fits id me.0 at (omega arith) in
      let owned : r.owner r.serving ≡ id = ap r.owner (sym served) ∙ know.0 in
      let long : length r.log ≡ r.serving + 1 = r.rounds.1 here in
      let back : homes_after s.homes me.1 gives ≡ set s.homes 0 (some (Some y)) = ap (λ c. homes_after s.homes c gives) holds_it in (
        w,
        gives,
        tt,
        record {
          next = r.next;
          serving = t + 1;
          made = r.made;
          met = r.met;
          stage = 0;
          log = r.log;
          owner = r.owner;
          holder = r.holder;
          words = ap (λ ws. set ws 1 (t + 1)) r.words;
          deep = ap length back ∙ length-set s.homes 0 (some (Some y)) ∙ r.deep;
          ahead = ((let k = know.2 in omega arith), r.ahead.1, r.ahead.2);
          out = λ h. absurd (h refl);
          rounds = ((λ _. long ∙ ap (λ k. k + 1) (sym served)), λ e. absurd (omega arith));
          played = r.played;
          home = λ _. (y, ap (λ hs. get_elem? hs 0) back ∙ set_here s.homes 0 (some (Some y)) (let d = r.deep in omega arith), λ past o. subst (λ (l : List Item). (last : Went) × Played past l last × stands y.store last) seen (whole past (same_pasts.to past o)));
          away = λ h. absurd (h refl);
          turn = each_set (λ j v. Turn r.next (t + 1) 0 r.owner r.log j v.seen v.role) s.views id w tt
              (λ j v apart there. turn_other r.next r.next r.serving (t + 1) r.stage 0 r.owner r.owner r.log r.log j
              (λ u o low high z. (o, (let ne : u ≢ r.serving = λ e. apart (sym o ∙ ap r.owner e ∙ owned) in omega arith), high, λ e. refl))
              (λ u o now high z. absurd (apart (sym o ∙ ap r.owner now ∙ owned)))
              v.seen v.role (r.turn j v there));
          post = each_set (λ j v. Post r.made r.met r.holder r.log (set s.views id w) j v.number v.role) s.views id w tt
              (λ j v apart there. post_other r.made r.made r.met r.met r.holder r.holder r.log r.log s.views (set s.views id w) j v.number id me.0 at (omega arith) apart
              (λ k o less none. (o, less, none)) (λ also h. h) (omega arith) v.role (r.post j v there));
          fits = each_set (λ j v. 0 < weight v.role → Fits r.made r.holder r.log j v) s.views id w
              (λ _. record { seen = fit.seen; own = fit.own; number = fit.number })
              (λ j v apart there. r.fits j v there);
          total = omega arith;
          held = λ by less. some_set (λ role. 0 < weight role) s.views id me.0 w at (omega arith) (r.holder by) (r.held by less);
          unused = r.unused;
        },
        refl,
      )
