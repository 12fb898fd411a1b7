-- The connections of a world, by their numbers.
use Rattle.std.proofs.Common.{◌≡◌, ◌⊎◌, ℕ, zero, suc, ◌+◌, ◌<◌, ◌≤◌, ◌^◌, List, [], ◌∷◌, ◌++◌, length, length-append, get_or, slice_get, Vec, Bor, Option, Some, None, is_some, Bool, true, false, refl, sym, ap, ◌∙◌, subst, inl, inr, arith}
use Rattle.std.specs.Global.{Global}
use Rattle.std.specs.Prelude.{IfSome, pos}
use Rattle.std.specs.Option.{option_copied}
use Rattle.std.proofs.Math.Dec.{ltb}
use Rattle.std.proofs.lemmas.Bool.{cases_lt, lt-ltb, ltb-true, false≢true}
use Rattle.std.proofs.lemmas.Option.{slice_get_past, slice_get_read, same_Some, none-some}
use Rattle.payload_seal.specs.declared.keys.EntryKeys.{EntryKeys}
use Rattle.store_side.specs.Past.{Past}
use Rattle.world_core.specs.declared.clients.Clients.{Clients}
use Rattle.world_core.specs.declared.connection.Connection.{Connection}
use Rattle.world_core.specs.Moments.{Link, Moment, fresh_link, opening}
use Rattle.world_core.specs.Standing.{AreKept, IsPlace, Keeps, connection_at}
use Rattle.world_core.specs.Setups.{Sealing}
use Rattle.world_core.specs.Steps.{added}

-- ---- the connection of a number

few_connections : (v : Vec Connection Global) → length v.items < 2 ^ 63
few_connections v = omega (arith, v.ok.0, v.ok.1, v.small)

next_place : (c i : ℕ) → IsPlace c i → i < 2 ^ 63 → c ≡ suc i
next_place c i p h = omega (arith, p.at h)

pub connection_there : (xs : List Connection) (c i : ℕ) (x : Connection) → IsPlace c i → length xs < 2 ^ 63 → i < length xs → x ≡ get_or xs i x
    → connection_at xs c ≡ Some x
unfolding connection_at
connection_there xs c i x p few within is =
    subst (λ (k : ℕ). connection_at xs k ≡ Some x) (sym (next_place c i p (omega arith))) (slice_get_read xs (length xs) i x refl within is)

pub connection_missing : (xs : List Connection) (c i : ℕ) → IsPlace c i → length xs < 2 ^ 63 → length xs ≤ i → connection_at xs c ≡ None
unfolding connection_at
connection_missing xs zero i p few over = refl
connection_missing xs (suc j) i p few over =
    slice_get_past xs j (elim (cases_lt i (2 ^ 63)) [ inl h ↦ omega (arith, p.at h, over) | inr h ↦ absurd (omega (arith, p.none h)) ])

-- what is read at a place
pub connection_read : (v : Vec Connection Global) (xs : List Connection) (c i : ℕ) (o : Option (Bor Connection)) → xs ≡ v.items → IsPlace c i
    → is_some o ≡ ltb i (length xs) → IfSome o (λ x. x.now ≡ get_or xs i x.now) → option_copied o ≡ connection_at v.items c
connection_read v xs c i (Some x) e p found is =
    subst (λ (l : List Connection). Some x.now ≡ connection_at l c) e
    (sym (connection_there xs c i x.now p (omega (arith, ap length e, few_connections v)) (ltb-true i (length xs) (sym found)) is))
connection_read v xs c i None e p found is =
    subst (λ (l : List Connection). None ≡ connection_at l c) e
    (sym (connection_missing xs c i p (omega (arith, ap length e, few_connections v))
    (elim (cases_lt i (length xs)) [ inl h ↦ absurd (false≢true (found ∙ lt-ltb i (length xs) h)) | inr h ↦ omega (arith, h) ])))

-- ---- one more

one_more : (xs : List Connection) (y : Connection) (i : ℕ) (x : Connection) → slice_get (xs ++ y ∷ []) i ≡ Some x → ((i ≡ length xs) × (x ≡ y)) ⊎ (slice_get xs i ≡ Some x)
one_more [] y zero x h = inl (refl, sym (same_Some y x h))
one_more [] y (suc i) x h = absurd (none-some x h)
one_more (z ∷ xs) y zero x h = inr h
one_more (z ∷ xs) y (suc i) x h = elim (one_more xs y i x h) [ inl k ↦ inl (ap suc k.0, k.1) | inr k ↦ inr k ]

connection_more : (xs : List Connection) (y : Connection) (c : ℕ) (x : Connection) → connection_at (xs ++ y ∷ []) c ≡ Some x
    → ((c ≡ suc (length xs)) × (x ≡ y)) ⊎ (connection_at xs c ≡ Some x)
unfolding connection_at
connection_more xs y zero x h = inr h
connection_more xs y (suc i) x h = elim (one_more xs y i x h) [ inl k ↦ inl (ap suc k.0, k.1) | inr k ↦ inr k ]

no_connection : (c : ℕ) (x : Connection) → connection_at [] c ≡ Some x → ⊥
unfolding connection_at
no_connection zero x h = none-some x h
no_connection (suc i) x h = none-some x h

-- ---- all of them

pub none_kept : (k : EntryKeys) (boot : ℕ) (clients : Clients) (past : Past) → clients.setup ≡ record { keys = k; boot = boot } → clients.clock ≡ pos 0 → clients.connections.items ≡ []
    → past.admitted ≡ 0 → AreKept k boot clients (opening past)
none_kept k boot clients past setup clock none admitted = record {
  keys = ap (λ (s : Sealing). s.keys) setup;
  boot_is = ap (λ (s : Sealing). s.boot) setup;
  now = clock;
  admitted = ap length none ∙ sym admitted;
  few = omega (arith, admitted);
  each = λ c x h. absurd (no_connection c x (sym (ap (λ (l : List Connection). connection_at l c) none) ∙ h));
}

pub one_kept : (old new : Clients) (number : ℕ) (y : Connection) (k : EntryKeys) (boot : ℕ) (m : Moment) → number < 2 ^ 32 → new.setup ≡ old.setup → new.clock ≡ old.clock
    → new.connections.items ≡ old.connections.items ++ y ∷ [] → (AreKept k boot old m → Keeps k boot number [] y fresh_link)
    → AreKept k boot old m → number ≡ m.past.admitted + 1 → m.links number ≡ fresh_link → m.past.pulled number ≡ [] → AreKept k boot new (added m)
one_kept old new number y k boot m fits setup clock items fresh h is link pulled = record {
  keys = ap (λ (s : Sealing). s.keys) setup ∙ h.keys;
  boot_is = ap (λ (s : Sealing). s.boot) setup ∙ h.boot_is;
  now = clock ∙ h.now;
  admitted = ap length items ∙ length-append old.connections.items (y ∷ []) ∙ ap (λ (n : ℕ). n + 1) h.admitted;
  few = omega (arith, fits, is);
  each = λ c x found. elim (connection_more old.connections.items y c x (sym (ap (λ (l : List Connection). connection_at l c) items) ∙ found)) [
    | inl at ↦ ours c x (omega (arith, at.0, h.admitted, is)) at.1
    | inr at ↦ h.each c x at
  ];
}
  where
    ours : (c : ℕ) (x : Connection) → c ≡ number → x ≡ y → Keeps k boot c (m.past.pulled c) x (m.links c)
    ours c x e same =
        subst (λ (d : ℕ). Keeps k boot d (m.past.pulled d) x (m.links d)) (sym e)
        (subst (λ (z : Connection). Keeps k boot number (m.past.pulled number) z (m.links number)) (sym same)
        (subst (λ (l : Link). Keeps k boot number (m.past.pulled number) y l) (sym link)
        (subst (λ (b : List ℕ). Keeps k boot number b y fresh_link) (sym pulled) (fresh h))))
