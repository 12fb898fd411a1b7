-- In both grammars no event's line is skipped, and no two events have one line.
use Rattle.std.proofs.Common.{◌≡◌, ℕ, ℤ, pos, ◌+◌, ◌*◌, ◌<◌, ◌≤◌, ◌^◌, List, ◌∷◌, get_or, drop, refl, sym, ap, ◌∙◌, arith, inl, inr}
use Rattle.std.specs.Fmt.{decimal, signed_decimal}
use Rattle.hex.specs.Hex.{encode_lower}
use Rattle.std.proofs.lemmas.Fmt.{decimal_injective}
use Rattle.replay_cli.specs.declared.script.Event.{Event}
use Rattle.replay_cli.specs.declared.script.Event.TheVariants as replays
use Rattle.replay_cli.specs.declared.hostile_script.HostileEvent.{HostileEvent}
use Rattle.replay_cli.specs.declared.hostile_script.HostileEvent.TheVariants as hostiles
use Rattle.replay_cli.specs.Lines.{IsSkipped, IsPiece, spaced}
use Rattle.replay_cli.specs.Script.{event_text, MayStand, opened_by}
use Rattle.replay_cli.specs.HostileScript.{hostile_event_text, MayStandAnywhere, nothing}
use Rattle.replay_cli.proofs.EventLemmas.{unhexed, decoded, one_before}
use Rattle.replay_cli.proofs.ReadingLemmas.{IsGrammar}

heads : (x y : ℕ) (xs ys : List ℕ) → x ∷ xs ≡ y ∷ ys → x ≡ y
heads x y xs ys e = cc

first_differs : (x y : ℕ) (xs ys : List ℕ) → (x ≡ y → ⊥) → x ∷ xs ≡ y ∷ ys → ⊥
first_differs x y xs ys other e = other (heads x y xs ys e)

-- a text that begins with another byte is not skipped
begins : (b : ℕ) (rest : List ℕ) → (b ≡ 35 → ⊥) → IsSkipped (b ∷ rest) → ⊥
begins b rest other h = elim h [ inl e ↦ cc | inr c ↦ other (heads b 35 rest c.0 c.1) ]

one_piece : (a b : List ℕ) → IsPiece a → IsPiece b → encode_lower a ≡ encode_lower b → a ≡ b
one_piece a b p q e = unhexed (encode_lower a) a b (decoded (encode_lower a) a (refl, p)) (e, q)

-- Replay scripts

shown : (event : Event) → IsSkipped (event_text event) → ⊥
unfolding event_text
shown replays.Open h = begins 111 _ (λ e. omega (arith, e)) h
shown (replays.Send c bytes) h = begins 115 _ (λ e. omega (arith, e)) h
shown (replays.Up c first second) h = begins 117 _ (λ e. omega (arith, e)) h
shown (replays.Down c limit) h = begins 100 _ (λ e. omega (arith, e)) h
shown (replays.Cut c) h = begins 99 _ (λ e. omega (arith, e)) h
shown (replays.Time now) h = begins 116 _ (λ e. omega (arith, e)) h
shown replays.Tick h = begins 116 _ (λ e. omega (arith, e)) h
shown replays.Drain h = begins 100 _ (λ e. omega (arith, e)) h

-- the first and the third byte of a line tell its kind
code : List ℕ → ℕ
code line = get_or line 0 0 + 2 * get_or line 2 0

kind : Event → ℕ
kind replays.Open = 313
kind (replays.Send c bytes) = 335
kind (replays.Up c first second) = 181
kind (replays.Down c limit) = 338
kind (replays.Cut c) = 331
kind (replays.Time now) = 334
kind replays.Tick = 314
kind replays.Drain = 294

kind_is : (event : Event) → code (event_text event) ≡ kind event
unfolding event_text kind code
kind_is replays.Open = refl
kind_is (replays.Send c bytes) = refl
kind_is (replays.Up c first second) = refl
kind_is (replays.Down c limit) = refl
kind_is (replays.Cut c) = refl
kind_is (replays.Time now) = refl
kind_is replays.Tick = refl
kind_is replays.Drain = refl

same_kind : (a b : Event) → event_text a ≡ event_text b → kind a ≡ kind b
same_kind a b e = sym (kind_is a) ∙ ap code e ∙ kind_is b

one_time : (m n : ℤ) (i j : ℕ) → m ≡ pos i → n ≡ pos j → i < 4611686018427387904 → j < 4611686018427387904 → signed_decimal m ≡ signed_decimal n → m ≡ n
one_time m n i j p q fits small e =
    let d : decimal i ≡ decimal j = ap signed_decimal (sym p) ∙ e ∙ ap signed_decimal q in
    let same : i ≡ j = decimal_injective i j (omega arith) (omega arith) d in
    cc

-- the numbers of a connection and what follows
one_call : (c d opened : ℕ) (x y : List ℕ) → opened ≤ 4096 → c ≤ opened → d ≤ opened → spaced (decimal c) x ≡ spaced (decimal d) y → (c ≡ d) × (x ≡ y)
one_call c d opened x y few p q e = one_before (spaced (decimal c) x) x y c d (omega arith) (omega arith) refl e

one_count : (m n : ℕ) → m < 2 ^ 32 → n < 2 ^ 32 → decimal m ≡ decimal n → m ≡ n
one_count m n p q e = decimal_injective m n (omega arith) (omega arith) e

one_of_kind : (a b : Event) (opened : ℕ) → opened ≤ 4096 → MayStand opened a → MayStand opened b → event_text a ≡ event_text b → kind a ≡ kind b → a ≡ b
unfolding event_text kind
one_of_kind replays.Open replays.Open opened few p q e k = refl
one_of_kind replays.Tick replays.Tick opened few p q e k = refl
one_of_kind replays.Drain replays.Drain opened few p q e k = refl
one_of_kind (replays.Send c a) (replays.Send d b) opened few p q e k =
    let r = one_call c d opened (encode_lower a) (encode_lower b) few p.0.1 q.0.1 (ap (drop 5) e) in
    let bytes = one_piece a b p.1 q.1 r.1 in
    let number = r.0 in
    cc
one_of_kind (replays.Up c i m) (replays.Up d j n) opened few p q e k =
    let r = one_call c d opened (spaced (decimal i) (decimal m)) (spaced (decimal j) (decimal n)) few p.0.1 q.0.1 (ap (drop 3) e) in
    let s = one_before (spaced (decimal i) (decimal m)) (decimal m) (decimal n) i j (omega (arith, p.1)) (omega (arith, q.1)) refl r.1 in
    let first = r.0 in
    let second = s.0 in
    let third = one_count m n p.2 q.2 s.1 in
    cc
one_of_kind (replays.Down c m) (replays.Down d n) opened few p q e k =
    let r = one_call c d opened (decimal m) (decimal n) few p.0.1 q.0.1 (ap (drop 5) e) in
    let first = r.0 in
    let second = one_count m n p.1 q.1 r.1 in
    cc
one_of_kind (replays.Cut c) (replays.Cut d) opened few p q e k =
    let same = decimal_injective c d (omega (arith, p.1)) (omega (arith, q.1)) (ap (drop 4) e) in
    cc
one_of_kind (replays.Time m) (replays.Time n) opened few p q e k = let same = one_time m n p.0 q.0 p.1 q.1 p.2 q.2 (ap (drop 5) e) in cc
one_of_kind replays.Open b opened few p q e k = absurd (omega (arith, k))
one_of_kind (replays.Send c a) b opened few p q e k = absurd (omega (arith, k))
one_of_kind (replays.Up c i m) b opened few p q e k = absurd (omega (arith, k))
one_of_kind (replays.Down c m) b opened few p q e k = absurd (omega (arith, k))
one_of_kind (replays.Cut c) b opened few p q e k = absurd (omega (arith, k))
one_of_kind (replays.Time m) b opened few p q e k = absurd (omega (arith, k))
one_of_kind replays.Tick b opened few p q e k = absurd (omega (arith, k))
one_of_kind replays.Drain b opened few p q e k = absurd (omega (arith, k))

pub opened_small : (event : Event) (opened : ℕ) → opened ≤ 4096 → MayStand opened event → opened + opened_by event ≤ 4096
opened_small replays.Open opened small may = omega arith
opened_small (replays.Send c bytes) opened small may = omega arith
opened_small (replays.Up c first second) opened small may = omega arith
opened_small (replays.Down c limit) opened small may = omega arith
opened_small (replays.Cut c) opened small may = omega arith
opened_small (replays.Time now) opened small may = omega arith
opened_small replays.Tick opened small may = omega arith
opened_small replays.Drain opened small may = omega arith

pub replay_grammar : IsGrammar event_text MayStand opened_by
replay_grammar = record {
  shown = shown;
  one = λ a b opened few p q e. one_of_kind a b opened few p q e (same_kind a b e);
  small = opened_small;
}

-- Hostile scripts

hostile_shown : (event : HostileEvent) → IsSkipped (hostile_event_text event) → ⊥
unfolding hostile_event_text
hostile_shown (hostiles.Client bytes) h = begins 99 _ (λ e. omega (arith, e)) h
hostile_shown (hostiles.Store bytes) h = begins 115 _ (λ e. omega (arith, e)) h
hostile_shown hostiles.ClientEnd h = begins 99 _ (λ e. omega (arith, e)) h
hostile_shown hostiles.StoreEnd h = begins 115 _ (λ e. omega (arith, e)) h

one_hostile : (a b : HostileEvent) (count : ℕ) → count ≤ 4096 → MayStandAnywhere count a → MayStandAnywhere count b → hostile_event_text a ≡ hostile_event_text b → a ≡ b
unfolding hostile_event_text
one_hostile (hostiles.Client a) (hostiles.Client b) count few p q e = let same = one_piece a b p q (ap (drop 7) e) in cc
one_hostile (hostiles.Store a) (hostiles.Store b) count few p q e = let same = one_piece a b p q (ap (drop 6) e) in cc
one_hostile hostiles.ClientEnd hostiles.ClientEnd count few p q e = refl
one_hostile hostiles.StoreEnd hostiles.StoreEnd count few p q e = refl
one_hostile (hostiles.Client a) (hostiles.Store b) count few p q e = absurd (first_differs 99 115 _ _ (λ d. omega (arith, d)) e)
one_hostile (hostiles.Client a) hostiles.ClientEnd count few p q e = absurd (first_differs 32 45 _ _ (λ d. omega (arith, d)) (ap (drop 6) e))
one_hostile (hostiles.Client a) hostiles.StoreEnd count few p q e = absurd (first_differs 99 115 _ _ (λ d. omega (arith, d)) e)
one_hostile (hostiles.Store a) (hostiles.Client b) count few p q e = absurd (first_differs 115 99 _ _ (λ d. omega (arith, d)) e)
one_hostile (hostiles.Store a) hostiles.ClientEnd count few p q e = absurd (first_differs 115 99 _ _ (λ d. omega (arith, d)) e)
one_hostile (hostiles.Store a) hostiles.StoreEnd count few p q e = absurd (first_differs 32 45 _ _ (λ d. omega (arith, d)) (ap (drop 5) e))
one_hostile hostiles.ClientEnd (hostiles.Client b) count few p q e = absurd (first_differs 45 32 _ _ (λ d. omega (arith, d)) (ap (drop 6) e))
one_hostile hostiles.ClientEnd (hostiles.Store b) count few p q e = absurd (first_differs 99 115 _ _ (λ d. omega (arith, d)) e)
one_hostile hostiles.ClientEnd hostiles.StoreEnd count few p q e = absurd (first_differs 99 115 _ _ (λ d. omega (arith, d)) e)
one_hostile hostiles.StoreEnd (hostiles.Client b) count few p q e = absurd (first_differs 115 99 _ _ (λ d. omega (arith, d)) e)
one_hostile hostiles.StoreEnd (hostiles.Store b) count few p q e = absurd (first_differs 45 32 _ _ (λ d. omega (arith, d)) (ap (drop 5) e))
one_hostile hostiles.StoreEnd hostiles.ClientEnd count few p q e = absurd (first_differs 115 99 _ _ (λ d. omega (arith, d)) e)

pub hostile_grammar : IsGrammar hostile_event_text MayStandAnywhere nothing
hostile_grammar = record { shown = hostile_shown; one = one_hostile; small = λ event count few here. omega arith }
