-- What a world keeps goes on through each call.
use Rattle.std.proofs.Common.{◌≡◌, ℕ, zero, suc, ℤ, ◌+◌, ◌<◌, ◌≤◌, List, [], ◌++◌, Option, Some, None, Bool, true, false, refl, sym, ap, subst, ◌∙◌, arith, inl, inr, length, get_or}
use Rattle.std.specs.Vec.{with_item}
use Rattle.std.proofs.lemmas.Bool.{cases_eq}
use Rattle.payload_seal.specs.declared.keys.EntryKeys.{EntryKeys}
use Rattle.store_side.specs.Past.{Past}
use Rattle.store_side.specs.Follows.{IsAdmitted}
use Rattle.store_side.specs.Calls.{Ticked}
use Rattle.world_core.specs.declared.amount.Amount.TheVariants.{All}
use Rattle.world_core.specs.declared.clients.Clients.{Clients}
use Rattle.world_core.specs.declared.connection.Connection.{Connection}
use Rattle.world_core.specs.Moments.{IsSoundMoment, Link, Moment, fresh_link}
use Rattle.world_core.specs.Standing.{AreKept, IsPlace, Keeps, Stands, connection_at}
use Rattle.world_core.specs.Steps.{Down, Drains, ForEach, Sends, Spot, Ticks, UnlessCut, Up, spot_of, timed, with_spot}
use Rattle.world_core.proofs.Places.{Sets, not_none, vec_set}
use Rattle.world_core.proofs.SoundSpots.{at_other, at_own}
use Rattle.world_core.proofs.SoundStores.{sound_ticks, sound_timed}
use Rattle.world_core.proofs.SoundCalls.{SameElsewhere, SoundAfter, each_up}

-- ---- one connection is another now

-- the clients are the same but for this connection
pub record Changes (old new : Clients) (c : ℕ) (x y : Connection) : Type 0 where
  pub setup : new.setup ≡ old.setup
  pub clock : new.clock ≡ old.clock
  pub sets : Sets old.connections.items new.connections.items c x y

pub changes_one : (old : Clients) (c i : ℕ) (x y : Connection) → IsPlace c i → i < old.connections.len → x ≡ get_or old.connections.items i x
    → Changes old (record old { connections = with_item old.connections i y }) c x y
changes_one old c i x y place within is = record { setup = refl; clock = refl; sets = vec_set old.connections c i x y place within is }

same_some : {A : Type 0} (o : Option A) (x y : A) → o ≡ Some x → o ≡ Some y → x ≡ y
same_some o x y h k = cc

kept_there : (k : EntryKeys) (boot c : ℕ) (pulled : List ℕ) (o : Option Connection) (x y : Connection) (l n : Link) → o ≡ Some y → o ≡ Some x → n ≡ l
    → Keeps k boot c pulled y l → Keeps k boot c pulled x n
kept_there k boot c pulled o x y l n h g e keeps =
    subst (λ (z : Connection). Keeps k boot c pulled z n) (same_some o y x h g) (subst (λ (z : Link). Keeps k boot c pulled y z) (sym e) keeps)

kept_after : (k : EntryKeys) (boot : ℕ) (m : Moment) (c : ℕ) (s : Spot) (old new : Clients) (x y : Connection) → AreKept k boot old m → Changes old new c x y
    → SameElsewhere c m.past s.past → Keeps k boot c (s.past.pulled c) y s.link → AreKept k boot new (with_spot c s m)
kept_after k boot m c s old new x y h ch same keeps = record {
  keys = ap (λ z. z.keys) ch.setup ∙ h.keys;
  boot_is = ap (λ z. z.boot) ch.setup ∙ h.boot_is;
  now = ch.clock ∙ h.now;
  admitted = ch.sets.size ∙ h.admitted ∙ sym same.admitted;
  few = omega (arith, h.few, same.admitted);
  each = λ d z at. elim (cases_eq d c) [
    | inl e ↦ own d z at e
    | inr n ↦ other d z at n
  ];
}
  where
    n : Moment
    n = with_spot c s m

    own : (d : ℕ) (z : Connection) → connection_at new.connections.items d ≡ Some z → d ≡ c → Keeps k boot d (s.past.pulled d) z (n.links d)
    own d z at e = subst (λ (j : ℕ). Keeps k boot j (s.past.pulled j) z (n.links j)) (sym e)
        (kept_there k boot c (s.past.pulled c) (connection_at new.connections.items c) z y s.link (n.links c) ch.sets.now (sym (ap (connection_at new.connections.items) e) ∙ at) (at_own c s.link m.links) keeps)

    other : (d : ℕ) (z : Connection) → connection_at new.connections.items d ≡ Some z → (d ≡ c → ⊥) → Keeps k boot d (s.past.pulled d) z (n.links d)
    other d z at apart =
        let before = h.each d z (sym (ch.sets.others d apart) ∙ at) in
        subst (λ (b : List ℕ). Keeps k boot d b z (n.links d)) (sym (same.pulled d apart))
        (subst (λ (l : Link). Keeps k boot d (m.past.pulled d) z l) (sym (at_other c d s.link m.links apart)) before)

-- nothing is another
kept_same : (k : EntryKeys) (boot : ℕ) (m : Moment) (c : ℕ) (old new : Clients) (x : Connection) → AreKept k boot old m → Changes old new c x x → AreKept k boot new m
kept_same k boot m c old new x h ch = record {
  keys = ap (λ z. z.keys) ch.setup ∙ h.keys;
  boot_is = ap (λ z. z.boot) ch.setup ∙ h.boot_is;
  now = ch.clock ∙ h.now;
  admitted = ch.sets.size ∙ h.admitted;
  few = h.few;
  each = λ d z at. h.each d z (elim (cases_eq d c) [
    | inl e ↦ ap (connection_at old.connections.items) e ∙ ch.sets.was ∙ sym ch.sets.now ∙ sym (ap (connection_at new.connections.items) e) ∙ at
    | inr n ↦ sym (ch.sets.others d n) ∙ at
  ]);
}

-- ---- a call that names a connection

-- what a part of a call leads to
abbrev pub Leads : (Spot → Type 0) → (Past → Type 0) → EntryKeys → ℕ → ℕ → Connection → Type 0
Leads P after k boot c y = (s : Spot) × P s × after s.past × Keeps k boot c (s.past.pulled c) y s.link

pub sends_spot : (store : Past → Type 0) (k : EntryKeys) (boot c : ℕ) (bytes : List ℕ) (s : Spot) (y : Connection) → store s.past
    → Keeps k boot c (s.past.pulled c) y (record s.link { under_way = s.link.under_way ++ bytes }) → Leads (Sends bytes s) store k boot c y
sends_spot store k boot c bytes s y st keeps = (record s { link = record s.link { under_way = s.link.under_way ++ bytes } }, record { link = refl; past = refl }, st, keeps)

pub call_on : (before after : Past → Type 0) (k : EntryKeys) (boot : ℕ) (m : Moment) (c : ℕ) (old new : Clients) (x y : Connection) (P : Spot → Spot → Type 0)
    → Stands before k boot old m → Changes old new c x y → x.cut ≡ false → ((s : Spot) → P (spot_of c m) s → SoundAfter k boot m c s)
    → Leads (P (spot_of c m)) after k boot c y → (n : Moment) × UnlessCut c P m n × Stands after k boot new n
call_on before after k boot m c old new x y P st ch cut sound l =
    let h = sound l.0 l.1 in
    let is = sym cut ∙ (st.kept.each c x ch.sets.was).cut in (
      with_spot c l.0 m,
      record { cut = λ t. absurd (both_ways (m.links c).cut t (sym is)); whole = λ f. (l.0, l.1, refl) },
      record { store_stands = l.2; kept = kept_after k boot m c l.0 old new x y st.kept ch h.same l.3; sound = h.sound },
    )
  where
    both_ways : (b : Bool) → b ≡ true → b ≡ false → ⊥
    both_ways b t f = absurd cc

pub call_cut : (store : Past → Type 0) (k : EntryKeys) (boot : ℕ) (m : Moment) (c : ℕ) (old new : Clients) (x : Connection) (P : Spot → Spot → Type 0)
    → Stands store k boot old m → Changes old new c x x → x.cut ≡ true → (n : Moment) × UnlessCut c P m n × Stands store k boot new n
call_cut store k boot m c old new x P st ch cut =
    let is = sym cut ∙ (st.kept.each c x ch.sets.was).cut in (
      m,
      record { cut = λ t. refl; whole = λ f. absurd (both_ways (m.links c).cut (sym is) f) },
      record { store_stands = st.store_stands; kept = kept_same k boot m c old new x st.kept ch; sound = st.sound },
    )
  where
    both_ways : (b : Bool) → b ≡ true → b ≡ false → ⊥
    both_ways b t f = absurd cc

-- ---- what is read

pub read_at : (store : Past → Type 0) (k : EntryKeys) (boot : ℕ) (m : Moment) (c : ℕ) (clients : Clients) (x : Connection) (o : Option Connection) → Stands store k boot clients m
    → o ≡ connection_at clients.connections.items c → o ≡ Some x → Keeps k boot c (m.past.pulled c) x (m.links c)
read_at store k boot m c clients x o st at is = st.kept.each c x (sym at ∙ is)

pub read_none : (store : Past → Type 0) (k : EntryKeys) (boot : ℕ) (m : Moment) (c : ℕ) (clients : Clients) (o : Option Connection) → Stands store k boot clients m
    → IsAdmitted m.past c → o ≡ connection_at clients.connections.items c → o ≡ None → ⊥
read_none store k boot m c clients o st a at is = not_none clients.connections.items m.past c st.kept.admitted a (sym at ∙ is)

-- ---- the other calls

pub kept_timed : (store : Past → Type 0) (k : EntryKeys) (boot : ℕ) (m : Moment) (now : ℤ) (old new : Clients) → Stands store k boot old m
    → new.setup ≡ old.setup → new.connections ≡ old.connections → new.clock ≡ now → Stands store k boot new (timed now m)
kept_timed store k boot m now old new st setup same clock = record {
  store_stands = st.store_stands;
  kept = record {
    keys = ap (λ z. z.keys) setup ∙ st.kept.keys;
    boot_is = ap (λ z. z.boot) setup ∙ st.kept.boot_is;
    now = clock;
    admitted = ap (λ z. length z.items) same ∙ st.kept.admitted;
    few = st.kept.few;
    each = λ c x at. st.kept.each c x (sym (ap (λ z. connection_at z.items c) same) ∙ at);
  };
  sound = sound_timed k boot m now st.sound;
}

pub kept_ticked : (before after : Past → Type 0) (k : EntryKeys) (boot : ℕ) (m : Moment) (clients : Clients) (now : ℤ) (all : Bool) → Stands before k boot clients m
    → now ≡ clients.clock → all ≡ true → (new : Past) × after new × Ticked now m.past new all → (n : Moment) × Ticks m n × Stands after k boot clients n
kept_ticked before after k boot m clients now all st clock whole t =
    let n : Moment = record m { past = t.0 } in
    let ticked = subst (λ (b : Bool). Ticked m.now m.past t.0 b) whole (subst (λ (z : ℤ). Ticked z m.past t.0 all) (clock ∙ st.kept.now) t.2) in
    let ticks : Ticks m n = record { ticked = ticked; links = refl; now = refl } in (
      n,
      ticks,
      record {
        store_stands = t.1;
        kept = record {
          keys = st.kept.keys;
          boot_is = st.kept.boot_is;
          now = st.kept.now;
          admitted = st.kept.admitted ∙ sym ticked.admitted;
          few = omega (arith, st.kept.few, ticked.admitted);
          each = λ c x at. subst (λ (b : List ℕ). Keeps k boot c b x (m.links c)) (sym (ticked.pulled c)) (st.kept.each c x at);
        };
        sound = sound_ticks k boot m n st.sound ticks;
      },
    )

pub next_fresh : (k : EntryKeys) (boot : ℕ) (m : Moment) (c : ℕ) → IsSoundMoment k boot m → c ≡ m.past.admitted + 1 → m.links c ≡ fresh_link
next_fresh k boot m c h e = h.untouched c (λ a. omega (arith, a.below, e))

pub next_unpulled : (k : EntryKeys) (boot : ℕ) (m : Moment) (c : ℕ) → IsSoundMoment k boot m → c ≡ m.past.admitted + 1 → m.past.pulled c ≡ []
next_unpulled k boot m c h e = (h.past.untouched c (λ a. omega (arith, a.below, e))).pulled

-- ---- each in order

pub drained : (after : Past → Type 0) (k : EntryKeys) (boot : ℕ) (clients : Clients) (m half : Moment) → IsSoundMoment k boot m
    → ForEach (λ c. Up k boot c All All) 1 m.past.admitted m half
    → (n : Moment) × ForEach (λ c. Down k boot c All) 1 half.past.admitted half n × Stands after k boot clients n
    → (n : Moment) × Drains k boot m n × Stands after k boot clients n
drained after k boot clients m half h up d =
    (d.0, record { half = half; up = up; down = subst (λ (j : ℕ). ForEach (λ c. Down k boot c All) 1 j half d.0) (each_up k boot m half h up).admitted d.1 }, d.2)

-- so many were gone through
pub record GoneThrough (P : ℕ → Moment → Moment → Type 0) (after : Past → Type 0) (k : EntryKeys) (boot : ℕ) (clients : Clients) (count done : ℕ) (m : Moment) : Type 0 where
  pub n : Moment
  pub each : ForEach P 1 done m n
  pub stands : Stands after k boot clients n
  pub admitted : n.past.admitted ≡ m.past.admitted
  pub count_is : count ≡ m.past.admitted
  pub within : done ≤ count

pub gone_none : (P : ℕ → Moment → Moment → Type 0) (after : Past → Type 0) (k : EntryKeys) (boot : ℕ) (clients : Clients) (count done : ℕ) (m : Moment) → Stands after k boot clients m
    → count ≡ m.past.admitted → done ≡ 0 → GoneThrough P after k boot clients count done m
unfolding ForEach
gone_none P after k boot clients count done m st is e = record {
  n = m;
  each = subst (λ (j : ℕ). ForEach P 1 j m m) (sym e) refl;
  stands = st;
  admitted = refl;
  count_is = is;
  within = omega (arith, e);
}

one_more : (P : ℕ → Moment → Moment → Type 0) (c j : ℕ) (m n o : Moment) → ForEach P c j m n → P (c + j) n o → ForEach P c (suc j) m o
unfolding ForEach
one_more P c zero m n o h p = (o, subst (λ (x : Moment). P c x o) h (subst (λ (i : ℕ). P i n o) (omega arith) p), refl)
one_more P c (suc j) m n o h p = (h.0, h.1, one_more P (c + 1) j h.0 n o h.2 (subst (λ (i : ℕ). P i n o) (omega arith) p))

pub gone_on : (P : ℕ → Moment → Moment → Type 0) (before after : Past → Type 0) (k : EntryKeys) (boot : ℕ) (old new : Clients) (count done next : ℕ) (m : Moment)
    → GoneThrough P before k boot old count done m → done < count → next ≡ done + 1
    → ((n : Moment) → Stands before k boot old n → IsAdmitted n.past next → (o : Moment) × P next n o × Stands after k boot new o)
    → ((n o : Moment) → Stands before k boot old n → IsAdmitted n.past next → P next n o → o.past.admitted ≡ n.past.admitted)
    → GoneThrough P after k boot new count next m
gone_on P before after k boot old new count done next m h below is step same =
    let a : IsAdmitted h.n.past next = record { from = omega (arith, is); below = omega (arith, is, below, h.admitted, h.count_is) } in
    let s = step h.n h.stands a in
    record {
      n = s.0;
      each = subst (λ (j : ℕ). ForEach P 1 j m s.0) (omega (arith, is)) (one_more P 1 done m h.n s.0 h.each (subst (λ (j : ℕ). P j h.n s.0) (omega (arith, is)) s.1));
      stands = s.2;
      admitted = same h.n s.0 h.stands a s.1 ∙ h.admitted;
      count_is = h.count_is;
      within = omega (arith, is, below);
    }

pub gone_all : (P : ℕ → Moment → Moment → Type 0) (after : Past → Type 0) (k : EntryKeys) (boot : ℕ) (clients : Clients) (count done : ℕ) (m : Moment) → GoneThrough P after k boot clients count done m
    → count ≤ done → (n : Moment) × ForEach P 1 m.past.admitted m n × Stands after k boot clients n
gone_all P after k boot clients count done m h end =
    (h.n, subst (λ (j : ℕ). ForEach P 1 j m h.n) (omega (arith, end, h.within, h.count_is)) h.each, h.stands)
