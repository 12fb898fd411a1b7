-- Histories that grow by an item, and the passes of a list of views.
use Rattle.std.proofs.Common.{◌≡◌, ◌≢◌, ℕ, zero, suc, ◌+◌, ◌≤◌, Bool, true, false, cond, eqb, List, [], ◌∷◌, ◌++◌, set, refl, sym, ap, ◌∙◌, subst, arith, append_assoc, append-nil, eq-eqb, ne_eqb}
use mathlib.Core.Option.{some, some-injective, some-ne-none}
use lib.ListN.{get_elem?}
use Rattle.store_side.specs.Past.{Past as Went}
use Rattle.tree_hall.specs.declared.view.Item.{Item}
use Rattle.tree_hall.specs.declared.view.View.{View}
use Rattle.tree_hall.specs.Histories.{Allows, Played, IsPlayed, LeadsTo, calls_by, StartsWith}
use Rattle.tree_hall.specs.Turns.{weight, passes}

pub played-snoc : (first : Went) (xs : List Item) (x : Item) (mid last : Went) → Played first xs mid → Allows mid x.call.act x.call.result last → Played first (xs ++ x ∷ []) last
played-snoc first [] x mid last p a = (last, subst (λ (q : Went). Allows q x.call.act x.call.result last) p a, refl)
played-snoc first (y ∷ ys) x mid last p a = (p.0, p.1, played-snoc p.0 ys x mid last p.2 a)

pub played-of : (opened : Went → Type 0) (xs : List Item) (stood : Went → Type 0) → LeadsTo opened xs stood → IsPlayed opened xs
played-of opened xs stood h past o = ((h past o).0, (h past o).1)

cond-append : (b : Bool) (x : Item) (c a d : List Item) → c ≡ a ++ d → cond b (x ∷ c) c ≡ cond b (x ∷ a) a ++ d
cond-append true x c a d e = ap (λ l. x ∷ l) e
cond-append false x c a d e = e

pub calls-append : (by : ℕ) (xs ys : List Item) → calls_by by (xs ++ ys) ≡ calls_by by xs ++ calls_by by ys
calls-append by [] ys = refl
calls-append by (x ∷ xs) ys = cond-append (eqb x.by by) x (calls_by by (xs ++ ys)) (calls_by by xs) (calls_by by ys) (calls-append by xs ys)

pub calls-mine : (by : ℕ) (xs : List Item) (x : Item) → x.by ≡ by → calls_by by (xs ++ x ∷ []) ≡ calls_by by xs ++ x ∷ []
calls-mine by xs x e = calls-append by xs (x ∷ []) ∙ ap (λ b. calls_by by xs ++ cond b (x ∷ []) []) (eq-eqb x.by by e)

pub calls-other : (by : ℕ) (xs : List Item) (x : Item) → x.by ≢ by → calls_by by (xs ++ x ∷ []) ≡ calls_by by xs
calls-other by xs x e = calls-append by xs (x ∷ []) ∙ ap (λ b. calls_by by xs ++ cond b (x ∷ []) []) (ne_eqb x.by by e) ∙ append-nil (calls_by by xs)

pub starts-longer : (log front more : List Item) → StartsWith log front → StartsWith (log ++ more) front
starts-longer log front more h = (h.0 ++ more, ap (λ l. l ++ more) h.1 ∙ append_assoc front h.0 more)

pub starts-self : (log : List Item) → StartsWith log log
starts-self log = ([], sym (append-nil log))

pub passes-set : (l : List View) (i : ℕ) (v w : View) → get_elem? l i ≡ some v → passes (set l i w) + weight v.role ≡ passes l + weight w.role
passes-set [] i v w e = absurd (some-ne-none v (sym e))
passes-set (x ∷ xs) zero v w e = let is : weight x.role ≡ weight v.role = ap (λ (m : View). weight m.role) (some-injective x v e) in omega arith
passes-set (x ∷ xs) (suc i) v w e = let r = passes-set xs i v w e in omega arith

pub passes-snoc : (l : List View) (v : View) → passes (l ++ v ∷ []) ≡ passes l + weight v.role
passes-snoc [] v = omega arith
passes-snoc (x ∷ xs) v = let r = passes-snoc xs v in omega arith

pub passes-at : (l : List View) (i : ℕ) (v : View) → get_elem? l i ≡ some v → weight v.role ≤ passes l
passes-at [] i v e = absurd (some-ne-none v (sym e))
passes-at (x ∷ xs) zero v e = let is : weight x.role ≡ weight v.role = ap (λ (m : View). weight m.role) (some-injective x v e) in omega arith
passes-at (x ∷ xs) (suc i) v e = let r = passes-at xs i v e in omega arith

passes-two : (l : List View) (i j : ℕ) (v u : View) → get_elem? l i ≡ some v → get_elem? l j ≡ some u → j ≢ i → weight v.role + weight u.role ≤ passes l
passes-two [] i j v u e f n = absurd (some-ne-none v (sym e))
passes-two (x ∷ xs) zero zero v u e f n = absurd (n refl)
passes-two (x ∷ xs) zero (suc j) v u e f n = let is : weight x.role ≡ weight v.role = ap (λ (m : View). weight m.role) (some-injective x v e) in let r = passes-at xs j u f in omega arith
passes-two (x ∷ xs) (suc i) zero v u e f n = let is : weight x.role ≡ weight u.role = ap (λ (m : View). weight m.role) (some-injective x u f) in let r = passes-at xs i v e in omega arith
passes-two (x ∷ xs) (suc i) (suc j) v u e f n = let r = passes-two xs i j v u e f (λ h. n (ap suc h)) in omega arith

pub passes-alone : (l : List View) (i : ℕ) (v : View) → get_elem? l i ≡ some v → passes l ≤ weight v.role → (j : ℕ) (u : View) → get_elem? l j ≡ some u → j ≢ i → weight u.role ≡ 0
passes-alone l i v e most j u f n = let r = passes-two l i j v u e f n in omega arith
