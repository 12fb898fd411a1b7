-- Bytes that a relation says, read and written one after another.
use Rattle.std.proofs.Common.{◌≡◌, ℕ, List, [], ◌∷◌, ◌++◌, ◌+◌, ◌<◌, ◌≤◌, take, take_all, get_or, suc, length, refl, ◌∙◌, ap, sym, subst, append_assoc, arith, length-append}
use Rattle.std.proofs.Math.Seq.{take-suc}
use Rattle.jute_core.specs.Jute.{Jute, Value, Spells, Refused as IsRefused, Each}
use Rattle.jute_core.specs.Position.{Position, Passes, Adds, Grows}
use Rattle.jute_core.proofs.Many.{each_then}
use Rattle.jute_core.specs.Records.{Fails}
use Rattle.jute_core.specs.declared.cursor.Reason.{Reason}
use Rattle.jute_core.specs.declared.not_read.NotRead.{NotRead}
use Rattle.jute_core.specs.declared.not_read.NotRead.TheVariants.{Refused, Memory}
use Rattle.zk_messages.specs.Reading.{Reaches, FailsAt, Ended, RefusedAmong}
use Rattle.zk_messages.specs.Sending.{AddsBytes}

-- reading
pub reach_passed : (t : Jute) (v : Value t) (a b : Position) → Passes a b t v → Reaches a b (Spells t v)
reach_passed t v a b p = record { bytes = p.bytes; is = p.spelled; cut = p.cut; moved = p.moved }

-- bytes of two relations that together are of a third
pub reach_both : (First Second Both : List ℕ → Type 0) (a b c : Position) → ((x y : List ℕ) → First x → Second y → Both (x ++ y)) → Reaches a b First → Reaches b c Second → Reaches a c Both
reach_both First Second Both a b c both p q = record {
  bytes = p.bytes ++ q.bytes;
  is = both p.bytes q.bytes p.is q.is;
  cut = p.cut ∙ ap (λ (l : List ℕ). p.bytes ++ l) q.cut ∙ sym (append_assoc p.bytes q.bytes c.left);
  moved = omega (arith, p.moved, q.moved, length-append p.bytes q.bytes);
}

pub reach_more : {V : Type 0} (R : V → List ℕ → Type 0) (vs : List V) (v : V) (a b c : Position) → Reaches a b (Each R vs) → Reaches b c (R v) → Reaches a c (Each R (vs ++ v ∷ []))
reach_more R vs v a b c p q = reach_both (Each R vs) (R v) (Each R (vs ++ v ∷ [])) a b c (λ x y e r. each_then R vs v x y e r) p q

pub reach_end : {V : Type 0} (R : V → List ℕ → Type 0) (IsEnd : List ℕ → Type 0) (vs : List V) (a b c : Position) → Reaches a b (Each R vs) → Reaches b c IsEnd → Reaches a c (Ended R IsEnd vs)
reach_end R IsEnd vs a b c p q = reach_both (Each R vs) IsEnd (Ended R IsEnd vs) a b c (λ x y e r. record { items = x; last = y; each = e; ended = r; cut = refl }) p q

-- not reading; after want of memory there is nothing to show
pub fail_as : (Is Too : ℕ → List ℕ → ℕ → Reason → Type 0) (a : Position) (e : NotRead) → ((place : ℕ) (reason : Reason) → Is a.place a.left place reason → Too a.place a.left place reason) → FailsAt a Is e → FailsAt a Too e
fail_as Is Too a (Refused r) so h = record { refused = so r.place r.reason h.refused }
fail_as Is Too a Memory so h = record { refused = tt }

pub fail_passed : (t : Jute) (a : Position) (e : NotRead) → Fails a t e → FailsAt a (IsRefused t) e
fail_passed t a (Refused r) h = record { refused = h.refused.refused }
fail_passed t a Memory h = record { refused = tt }

-- it fails behind bytes that were read
pub fail_behind : (First : List ℕ → Type 0) (Later Whole : ℕ → List ℕ → ℕ → Reason → Type 0) (a b : Position) (e : NotRead) → ((x y : List ℕ) (place : ℕ) (reason : Reason) → First x → Later (a.place + length x) y place reason → Whole a.place (x ++ y) place reason) → Reaches a b First → FailsAt b Later e → FailsAt a Whole e
fail_behind First Later Whole a b (Refused r) so p h = record {
  refused = subst (λ (l : List ℕ). Whole a.place l r.place r.reason) (sym p.cut)
      (so p.bytes b.left r.place r.reason p.is (subst (λ (k : ℕ). Later k b.left r.place r.reason) p.moved h.refused));
}
fail_behind First Later Whole a b Memory so p h = record { refused = tt }

pub fail_among : {V : Type 0} (R : V → List ℕ → Type 0) (F : ℕ → List ℕ → ℕ → Reason → Type 0) (vs : List V) (a b : Position) (e : NotRead) → Reaches a b (Each R vs) → FailsAt b F e → FailsAt a (RefusedAmong R F) e
fail_among R F vs a b e p h = fail_behind (Each R vs) F (RefusedAmong R F) a b e (λ x y place reason i f. record { before = vs; items = x; left = y; each = i; cut = refl; next = f }) p h

-- writing
pub add_as : (t : Jute) (v : Value t) (a b : List ℕ) → Adds a b t v → AddsBytes a b (Spells t v)
add_as t v a b p = record { bytes = p.bytes; is = p.spelled; added = p.added }

pub add_both : (First Second Both : List ℕ → Type 0) (a b c : List ℕ) → ((x y : List ℕ) → First x → Second y → Both (x ++ y)) → AddsBytes a b First → AddsBytes b c Second → AddsBytes a c Both
add_both First Second Both a b c both p q = record {
  bytes = p.bytes ++ q.bytes;
  is = both p.bytes q.bytes p.is q.is;
  added = q.added ∙ ap (λ (l : List ℕ). l ++ q.bytes) p.added ∙ append_assoc a p.bytes q.bytes;
}

-- of the values of a list the first i are written
pub add_next_of : {V : Type 0} (R : V → List ℕ → Type 0) (l : List V) (i : ℕ) (v : V) (a b c : List ℕ) → AddsBytes a b (Each R (take i l)) → i < length l → v ≡ get_or l i v → AddsBytes b c (R v) → AddsBytes a c (Each R (take (i + 1) l))
add_next_of {V} R l i v a b c p less at q =
    let next : take (i + 1) l ≡ take i l ++ v ∷ [] = ap (λ (k : ℕ). take k l) (plus_one i) ∙ take-suc l i v less ∙ ap (λ (w : V). take i l ++ w ∷ []) (sym at) in
    subst (λ (vs : List V). AddsBytes a c (Each R vs)) (sym next)
    (add_both (Each R (take i l)) (R v) (Each R (take i l ++ v ∷ [])) a b c (λ x y e r. each_then R (take i l) v x y e r) p q)
  where
    plus_one : (k : ℕ) → k + 1 ≡ suc k
    plus_one k = omega arith

pub add_end : {V : Type 0} (R : V → List ℕ → Type 0) (IsEnd : List ℕ → Type 0) (l : List V) (i : ℕ) (a b c : List ℕ) → AddsBytes a b (Each R (take i l)) → length l ≤ i → AddsBytes b c IsEnd → AddsBytes a c (Ended R IsEnd l)
add_end {V} R IsEnd l i a b c p le q = add_both (Each R l) IsEnd (Ended R IsEnd l) a b c (λ x y e r. record { items = x; last = y; each = e; ended = r; cut = refl })
    (subst (λ (vs : List V). AddsBytes a b (Each R vs)) (take_all i l le) p) q

pub grows_behind : (Is : List ℕ → Type 0) (a b c : List ℕ) → AddsBytes a b Is → Grows b c → Grows a c
grows_behind Is a b c p q = record { more = p.bytes ++ q.more; by = q.by ∙ ap (λ (l : List ℕ). l ++ q.more) p.added ∙ append_assoc a p.bytes q.more }
