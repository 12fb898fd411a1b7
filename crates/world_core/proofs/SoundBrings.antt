-- A moment stays sound where bytes of the store are pulled and go through a session.
use Rattle.std.proofs.Common.{◌≡◌, ◌≤◌, ℕ, Bool, true, false, cond, List, [], ◌∷◌, ◌++◌, length, take, drop, Option, Some, None, refl, sym, ap, subst, ◌∙◌, arith}
use Rattle.std.specs.Prelude.{◌==◌, All}
use Rattle.std.proofs.lemmas.Bool.{eqb-true}
use Rattle.jute_core.specs.Frames.{Stream}
use Rattle.payload_seal.specs.declared.keys.EntryKeys.{EntryKeys}
use Rattle.zk_messages.specs.Sent.{Sent as SentItems, client_limit}
use Rattle.zk_messages.specs.declared.request.Item.{Item}
use Rattle.tree_state.specs.State.{start}
use Rattle.store_side.specs.Past.{Past, state_of}
use Rattle.store_side.specs.Follows.{IsAdmitted, IsSound}
use Rattle.store_side.specs.Messages.{Messages}
use Rattle.store_side.specs.Calls.{after_pull, with_at}
use Rattle.entry_session.specs.Heard.{Heard, client_frames, store_frames, bad_of_client, bad_of_store}
use Rattle.entry_session.specs.Runs.{store_limit}
use Rattle.entry_session.specs.Sides.{IsSide, EndsAtClient, EndsAtStore, bytes_of}
use Rattle.entry_session.specs.declared.ending.Ending.{Ending}
use Rattle.session_law.specs.Law.{IsJoined, AreBehind, taken_at}
use Rattle.world_core.specs.declared.amount.Amount.{Amount}
use Rattle.world_core.specs.Moments.{Link, Moment, IsSoundAt, IsSoundMoment, connection_of}
use Rattle.world_core.specs.Steps.{Spot, BringsIf, Hears, count_of, spot_of, with_spot}
use Rattle.world_core.proofs.SideLemmas.{SameOrNone, store_leaves, store_forgets, not_at_client, side_stays, behind_store}
use Rattle.world_core.proofs.SoundSpots.{at_other, IsSoundLink, link_of, sound_link, sound_spot}
use Rattle.world_core.proofs.SoundLinks.{moved_bytes}
use Rattle.world_core.proofs.CountsTaken.{counts_below, of_one, taken_came}

-- ---- the store

pulled_bytes : (c d n : ℕ) (p : Past) → with_at c (p.pulled c ++ take n (p.waiting c)) p.pulled d ++ with_at c (drop n (p.waiting c)) p.waiting d
    ≡ p.pulled d ++ p.waiting d
unfolding with_at
pulled_bytes c d n p = go (d == c) (eqb-true d c)
  where
    go : (b : Bool) → (b ≡ true → d ≡ c) → cond b (p.pulled c ++ take n (p.waiting c)) (p.pulled d) ++ cond b (drop n (p.waiting c)) (p.waiting d)
        ≡ p.pulled d ++ p.waiting d
    go true same = moved_bytes n (p.pulled c) (p.waiting c) ∙ ap (λ (x : ℕ). p.pulled x ++ p.waiting x) (sym (same refl))
    go false same = refl

-- a pull leaves a sound store sound
pub pull_sound : (c n : ℕ) (p : Past) → IsAdmitted p c → IsSound p → IsSound (after_pull c n p)
unfolding after_pull state_of
pull_sound c n p inside h = record {
  follows = record {
    legal = h.follows.legal;
    shown = h.follows.shown;
    spelled = λ d. subst (Messages (p.told d)) (sym (pulled_bytes c d n p)) (h.follows.spelled d);
    goes_on = h.follows.goes_on;
  };
  within = h.within;
  untouched = λ d out.
      let outside : IsAdmitted p d → ⊥ = λ at. out (record { from = at.from; below = at.below }) in
      let apart : d ≡ c → ⊥ = λ same. outside (subst (IsAdmitted p) (sym same) inside) in
      let u = h.untouched d outside in
      record {
        no_connect = u.no_connect;
        told = u.told;
        pulled = at_other c d (p.pulled c ++ take n (p.waiting c)) p.pulled apart ∙ u.pulled;
        waiting = at_other c d (drop n (p.waiting c)) p.waiting apart ∙ u.waiting;
        rest = u.rest;
        goes_on = u.goes_on;
      };
}

-- ---- the other connections

pulled_joined : (k : EntryKeys) (boot c n d : ℕ) (p : Past) (l : Link) (items : List Item) → (d ≡ c → ⊥)
    → IsJoined k boot d p (connection_of l) items l.under_way l.unfed → IsJoined k boot d (after_pull c n p) (connection_of l) items l.under_way l.unfed
unfolding after_pull
pulled_joined k boot c n d p l items apart j = record {
  ran = j.ran;
  is_sent = j.is_sent;
  came = j.came;
  piped = j.piped;
  client_side = j.client_side;
  store_side = subst (IsSide store_limit (store_frames l.heard) (bad_of_store l.heard) (EndsAtStore l.stand.ending l.heard))
      (sym (at_other c d (p.pulled c ++ take n (p.waiting c)) p.pulled apart)) j.store_side;
  up = j.up;
  bodies = j.bodies;
  more = j.more;
  partial = j.partial;
  stream = j.stream;
  spelled = j.spelled;
  none_left = j.none_left;
}

pulled_link : (k : EntryKeys) (boot c n d : ℕ) (p : Past) (l : Link) → (d ≡ c → ⊥) → IsSoundLink k boot p l d → IsSoundLink k boot (after_pull c n p) l d
unfolding after_pull pulled_joined
pulled_link k boot c n d p l apart h = record {
  items = h.items;
  joined = pulled_joined k boot c n d p l h.items apart h.joined;
  behind = h.behind;
  rest = h.rest;
  cut = h.cut;
}

-- ---- the connection

module _ (k : EntryKeys) (boot : ℕ) (m : Moment) (c n : ℕ) (new : Link) where
  brought_joined : (items : List Item) → (m.links c).stand.ending ≡ None → Hears k boot c ((after_pull c n m.past).pulled c) (m.links c) new
      → IsJoined k boot c m.past (connection_of (m.links c)) items (m.links c).under_way (m.links c).unfed
      → IsJoined k boot c (after_pull c n m.past) (connection_of new) items new.under_way new.unfed
  unfolding after_pull
  brought_joined items on x j =
      let l = m.links c in
      record {
        ran = x.ran;
        is_sent = subst (λ (b : List ℕ). SentItems b items) (λ i. sym x.came i ++ sym x.under_way i) j.is_sent;
        came = j.came;
        piped = (λ i. x.came i ++ x.under_way i) ∙ j.piped ∙ ap (λ (b : List ℕ). j.came ++ b) (sym x.under_way);
        client_side = side_stays client_limit (client_frames l.heard) (client_frames new.heard) (bad_of_client l.heard) (bad_of_client new.heard)
            (EndsAtClient l.stand.ending l.heard) (EndsAtClient new.stand.ending new.heard) j.came
            (ap client_frames x.heard ∙ store_leaves x.more l.heard x.of_store)
            (subst (λ (hs : List Heard). SameOrNone (bad_of_client l.heard) (bad_of_client hs)) (sym x.heard) (store_forgets x.more l.heard x.of_store))
            (not_at_client l.stand.ending l.heard on) j.client_side;
        store_side = x.side;
        up = ap bytes_of x.up ∙ j.up ∙ (λ i. sym x.fed i ++ sym x.unfed i);
        bodies = j.bodies;
        more = j.more;
        partial = j.partial;
        stream = subst (λ (b : List ℕ). Stream (j.bodies ++ j.more) j.partial b) (sym x.fed) j.stream;
        spelled = j.spelled;
        none_left = j.none_left;
      }

  brought_behind : IsSound m.past → Hears k boot c ((after_pull c n m.past).pulled c) (m.links c) new → IsSoundAt k boot m c
      → AreBehind (taken_at m.past.naming start c 0 m.past.acts) new.heard
  brought_behind sound x h =
      let hs = (m.links c).heard in
      let counts = taken_at m.past.naming start c 0 m.past.acts in
      let came = taken_came k boot c m.past (connection_of (m.links c)) h.items (m.links c).under_way (m.links c).unfed h.joined in
      let below = counts_below m.past.naming c m.past.order m.past.acts start 0 (length (client_frames hs)) sound.follows.legal.are_acts
      (omega (arith, came)) in
      let each : (done left : List ℕ) (y : ℕ) → counts ≡ done ++ y ∷ left → y ≤ length (client_frames hs)
      = λ done left y e. of_one (λ z. z ≤ length (client_frames hs)) done left y (subst (All (λ z. z ≤ length (client_frames hs))) e below) in
      subst (AreBehind counts) (sym x.heard) (behind_store counts x.more hs x.of_store each h.behind)

  brought_link : IsSound m.past → (m.links c).stand.ending ≡ None → Hears k boot c ((after_pull c n m.past).pulled c) (m.links c) new
      → IsSoundAt k boot m c → IsSoundLink k boot (after_pull c n m.past) new c
  unfolding after_pull brought_joined
  brought_link sound on x h = record {
    items = h.items;
    joined = brought_joined h.items on x h.joined;
    behind = brought_behind sound x h;
    rest = h.rest;
    cut = λ cut none. h.cut (sym x.cut ∙ cut) on;
  }

  brought : IsSoundMoment k boot m → IsAdmitted m.past c → (m.links c).stand.ending ≡ None → Hears k boot c ((after_pull c n m.past).pulled c) (m.links c) new
      → IsSoundMoment k boot (with_spot c (record { past = after_pull c n m.past; link = new }) m)
  unfolding after_pull
  brought h inside on x = sound_spot k boot m c (after_pull c n m.past) new h inside (record {
    naming = refl;
    admitted = refl;
    past_sound = pull_sound c n m.past inside h.past;
    own = brought_link h.past on x (h.each c);
    others = λ d apart. pulled_link k boot c n d m.past (m.links d) apart (link_of k boot m d (h.each d));
  })

brings_by : (k : EntryKeys) (boot : ℕ) (m : Moment) (c : ℕ) (amount : Amount) (new : Spot) (o : Option Ending) → (m.links c).stand.ending ≡ o
    → IsSoundMoment k boot m → IsAdmitted m.past c → BringsIf o k boot c amount (spot_of c m) new
    → IsSoundMoment k boot (with_spot c new m)
unfolding BringsIf
brings_by k boot m c amount new None on h inside x =
    let n = count_of amount (length (m.past.waiting c)) in
    let hears = subst (λ (p : Past). Hears k boot c (p.pulled c) (m.links c) new.link) x.past x.hears in
    subst (λ (p : Past). IsSoundMoment k boot (with_spot c (record { past = p; link = new.link }) m)) (sym x.past)
    (brought k boot m c n new.link h inside on hears)
brings_by k boot m c amount new (Some e) is h inside x =
    subst (λ (s : Spot). IsSoundMoment k boot (with_spot c s m)) (sym x) (sound_link k boot m c (m.links c) h inside (link_of k boot m c (h.each c)))

pub sound_brings : (k : EntryKeys) (boot : ℕ) (m : Moment) (c : ℕ) (amount : Amount) (new : Spot) → IsSoundMoment k boot m → IsAdmitted m.past c
    → BringsIf (m.links c).stand.ending k boot c amount (spot_of c m) new
    → IsSoundMoment k boot (with_spot c new m)
sound_brings k boot m c amount new h inside x = brings_by k boot m c amount new (m.links c).stand.ending refl h inside x
