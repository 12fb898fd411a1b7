-- A moment at which one connection and the store stand elsewhere is sound where that connection is, and the others are with the store.
use Rattle.std.proofs.Common.{◌≡◌, ℕ, pos, Bool, true, false, cond, refl, sym, ap, subst, ◌∙◌, inl, inr}
use Rattle.std.specs.Prelude.{◌==◌}
use Rattle.std.proofs.Common.{rules}
use Rattle.std.proofs.lemmas.Bool.{cases_Bool, eqb-true}
use Rattle.payload_seal.specs.declared.keys.EntryKeys.{EntryKeys}
use Rattle.counter_enclave.specs.Enclave.{IsSealedName}
use Rattle.tree_state.specs.Changes.{Naming}
use Rattle.tree_state.specs.Trees.{IsNaming}
use Rattle.store_side.specs.Past.{Past}
use Rattle.store_side.specs.Follows.{IsSound, IsAdmitted}
use Rattle.store_side.specs.Calls.{with_at}
use Rattle.world_core.specs.Moments.{Link, Moment, IsSoundAt, IsSoundMoment}
use Rattle.world_core.specs.Steps.{Spot, spot_of, with_spot}

-- ---- what is kept at one place

pub at_own : {A : Type 0} (c : ℕ) (x : A) (f : ℕ → A) → with_at c x f c ≡ x
unfolding with_at
at_own c x f = let own : (c == c) ≡ true = search rules in ap (λ (b : Bool). cond b x (f c)) own

pub at_other : {A : Type 0} (c d : ℕ) (x : A) (f : ℕ → A) → (d ≡ c → ⊥) → with_at c x f d ≡ f d
unfolding with_at
at_other c d x f apart = let other : (d == c) ≡ false = search rules in ap (λ (b : Bool). cond b x (f d)) other

-- ---- one connection

-- the moment at which every connection stands here
abbrev pub all_at : Past → Link → Moment
all_at past l = record { past = past; links = λ d. l; now = pos 0 }

-- connection c is sound where it stands here beside a store at this past
abbrev pub IsSoundLink : EntryKeys → ℕ → Past → Link → ℕ → Type 0
IsSoundLink k boot past l c = IsSoundAt k boot (all_at past l) c

pub link_of : (k : EntryKeys) (boot : ℕ) (m : Moment) (c : ℕ) → IsSoundAt k boot m c → IsSoundLink k boot m.past (m.links c) c
link_of k boot m c h = record { items = h.items; joined = h.joined; behind = h.behind; rest = h.rest; cut = h.cut }

of_link : (k : EntryKeys) (boot : ℕ) (m : Moment) (c : ℕ) → IsSoundLink k boot m.past (m.links c) c → IsSoundAt k boot m c
of_link k boot m c h = record { items = h.items; joined = h.joined; behind = h.behind; rest = h.rest; cut = h.cut }

pub at_link : (k : EntryKeys) (boot : ℕ) (m : Moment) (c : ℕ) (l : Link) → m.links c ≡ l → IsSoundLink k boot m.past l c → IsSoundAt k boot m c
at_link k boot m c l same h = of_link k boot m c (subst (λ (x : Link). IsSoundLink k boot m.past x c) (sym same) h)

-- ---- a moment

pub record IsSoundSpot (k : EntryKeys) (boot : ℕ) (m : Moment) (c : ℕ) (past : Past) (link : Link) : Type 0 where
  pub naming : past.naming ≡ m.past.naming
  pub admitted : past.admitted ≡ m.past.admitted
  pub past_sound : IsSound past
  pub own : IsSoundLink k boot past link c
  pub others : (d : ℕ) → (d ≡ c → ⊥) → IsSoundLink k boot past (m.links d) d

apart_from : (p : Past) (c d : ℕ) → IsAdmitted p c → (IsAdmitted p d → ⊥) → d ≡ c → ⊥
apart_from p c d inside outside same = outside (subst (λ (x : ℕ). IsAdmitted p x) (sym same) inside)

same_inside : (p q : Past) (c : ℕ) → q.admitted ≡ p.admitted → IsAdmitted p c → IsAdmitted q c
same_inside p q c same inside = record { from = inside.from; below = rw same inside.below }

false_apart : (c d : ℕ) → (d == c) ≡ false → d ≡ c → ⊥
false_apart c d e same = let own : (d == c) ≡ true = search rules in absurd cc

pub sound_spot : (k : EntryKeys) (boot : ℕ) (m : Moment) (c : ℕ) (past : Past) (link : Link) → IsSoundMoment k boot m → IsAdmitted m.past c
    → IsSoundSpot k boot m c past link → IsSoundMoment k boot (with_spot c (record { past = past; link = link }) m)
sound_spot k boot m c past link h inside s =
    let n : Moment = with_spot c (record { past = past; link = link }) m in
    record {
      keys = h.keys;
      some = h.some;
      names = subst (λ (x : Naming). IsNaming (IsSealedName k.names) x) (sym s.naming) h.names;
      past = s.past_sound;
      each = λ d. elim (cases_Bool (d == c)) [
        | inl t ↦ let same : c ≡ d = sym (eqb-true d c t) in subst (λ (x : ℕ). IsSoundAt k boot n x) same
            (at_link k boot n c link (at_own c link m.links) s.own)
        | inr e ↦ at_link k boot n d (m.links d) (at_other c d link m.links (false_apart c d e)) (s.others d (false_apart c d e))
      ];
      untouched = λ d out.
          let outside : IsAdmitted m.past d → ⊥ = λ at. out (same_inside m.past past d s.admitted at) in
          at_other c d link m.links (apart_from m.past c d inside outside) ∙ h.untouched d outside;
    }

-- the store stays where it stands
pub sound_link : (k : EntryKeys) (boot : ℕ) (m : Moment) (c : ℕ) (link : Link) → IsSoundMoment k boot m → IsAdmitted m.past c
    → IsSoundLink k boot m.past link c → IsSoundMoment k boot (with_spot c (record { past = m.past; link = link }) m)
sound_link k boot m c link h inside own = sound_spot k boot m c m.past link h inside
    (record { naming = refl; admitted = refl; past_sound = h.past; own = own; others = λ d apart. link_of k boot m d (h.each d) })

-- ---- one part of a call after another

pub spot_again : (c : ℕ) (s t : Spot) (m : Moment) → with_spot c s (with_spot c t m) ≡ with_spot c s m
unfolding with_at
spot_again c s t m = λ i. record { past = s.past; links = λ d. go (d == c) s.link t.link (m.links d) i; now = m.now }
  where
    go : (b : Bool) (x y z : Link) → cond b x (cond b y z) ≡ cond b x z
    go true x y z = refl
    go false x y z = refl

pub spot_own : (c : ℕ) (s : Spot) (m : Moment) → spot_of c (with_spot c s m) ≡ s
spot_own c s m = λ i. record { past = s.past; link = at_own c s.link m.links i }
