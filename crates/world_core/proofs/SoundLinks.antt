-- A moment stays sound where a client sends, its bytes come to its session, or the session ends.
use Rattle.std.proofs.Common.{◌≡◌, ℕ, true, List, [], ◌∷◌, ◌++◌, length, take, drop, Option, Some, None, inr, refl, sym, ap, subst, ◌∙◌, append_assoc}
use Rattle.std.proofs.lemmas.Grind.{flat_map-append}
use Rattle.std.proofs.lemmas.List.{take-append-drop}
use Rattle.jute_core.specs.Frames.{frame, Stream}
use Rattle.payload_seal.specs.declared.keys.EntryKeys.{EntryKeys}
use Rattle.zk_messages.specs.Sent.{Sent as SentItems, client_limit}
use Rattle.zk_messages.specs.declared.request.Item.{Item}
use Rattle.tree_state.specs.State.{start}
use Rattle.store_side.specs.Follows.{IsAdmitted}
use Rattle.store_side.specs.declared.ending.StoreEnding.{StoreEnding}
use Rattle.entry_session.specs.Heard.{Heard, given, client_frames, store_frames, bad_of_client, bad_of_store}
use Rattle.entry_session.specs.Runs.{IsGivenEnding, Ran, TurnOf, store_limit}
use Rattle.entry_session.specs.Stands.{Stand, ends}
use Rattle.entry_session.specs.Sides.{EndsAtClient, EndsAtStore, bytes_of}
use Rattle.entry_session.specs.declared.ending.Ending.{Ending}
use Rattle.entry_session.specs.declared.ending.Ending.TheVariants as endings
use Rattle.entry_session.proofs.Taking.{turn_if}
use Rattle.session_law.specs.Law.{IsJoined, AreBehind, taken_at}
use Rattle.world_core.specs.declared.amount.Amount.{Amount}
use Rattle.world_core.specs.Moments.{Link, Moment, IsSoundAt, IsSoundMoment, connection_of, sent_by}
use Rattle.world_core.specs.Steps.{Spot, Comes, ComesIf, Sends, count_of, spot_of, with_spot, ended, ended_by, over_by}
use Rattle.world_core.specs.Laws.{SpellItems}
use Rattle.world_core.proofs.SideLemmas.{SameOrNone, client_leaves, client_forgets, not_at_client, not_at_store, side_stays, behind_client}
use Rattle.world_core.proofs.SoundSpots.{IsSoundLink, link_of, sound_link}

-- bytes that were moved are the same bytes
pub moved_bytes : (n : ℕ) (before waiting : List ℕ) → (before ++ take n waiting) ++ drop n waiting ≡ before ++ waiting
moved_bytes n before waiting = append_assoc before (take n waiting) (drop n waiting) ∙ ap (λ (x : List ℕ). before ++ x) (take-append-drop n waiting)

some_is : {A : Type 0} (o : Option A) (e : A) → o ≡ Some e → o ≡ None → ⊥
some_is o e f g = absurd cc

-- ---- bytes come to the session

came_bytes : (amount : Amount) (old : Link) (new : Link) → new.came ≡ old.came ++ take (count_of amount (length old.under_way)) old.under_way
    → new.under_way ≡ drop (count_of amount (length old.under_way)) old.under_way → sent_by new ≡ sent_by old
came_bytes amount old new came left = (λ i. came i ++ left i) ∙ moved_bytes (count_of amount (length old.under_way)) old.came old.under_way

handed_bytes : (up gained : List (List ℕ)) (fed unfed : List ℕ) → bytes_of up ≡ fed ++ unfed → bytes_of (up ++ gained) ≡ fed ++ (unfed ++ bytes_of gained)
handed_bytes up gained fed unfed e = flat_map-append frame up gained ∙ ap (λ (l : List ℕ). l ++ bytes_of gained) e ∙ append_assoc fed unfed (bytes_of gained)

module _ (k : EntryKeys) (boot : ℕ) (m : Moment) (c : ℕ) (amount : Amount) (new : Link) where
  came_joined : (items : List Item) → (m.links c).stand.ending ≡ None → Comes k boot c amount (m.links c) new
      → IsJoined k boot c m.past (connection_of (m.links c)) items (m.links c).under_way (m.links c).unfed
      → IsJoined k boot c m.past (connection_of new) items new.under_way new.unfed
  came_joined items on x j =
      let l = m.links c in
      record {
        ran = x.ran;
        is_sent = subst (λ (b : List ℕ). SentItems b items) (sym (came_bytes amount l new x.came x.under_way)) j.is_sent;
        came = new.came;
        piped = refl;
        client_side = x.side;
        store_side = side_stays store_limit (store_frames l.heard) (store_frames new.heard) (bad_of_store l.heard) (bad_of_store new.heard)
            (EndsAtStore l.stand.ending l.heard) (EndsAtStore new.stand.ending new.heard) (m.past.pulled c)
            (ap store_frames x.heard ∙ client_leaves x.more l.heard x.of_client)
            (subst (λ (hs : List Heard). SameOrNone (bad_of_store l.heard) (bad_of_store hs)) (sym x.heard) (client_forgets x.more l.heard x.of_client))
            (not_at_store l.stand.ending l.heard on) j.store_side;
        up = ap bytes_of x.handed ∙ handed_bytes l.stand.up x.gained l.fed l.unfed j.up ∙ (λ i. sym x.fed i ++ sym x.unfed i);
        bodies = j.bodies;
        more = j.more;
        partial = j.partial;
        stream = subst (λ (b : List ℕ). Stream (j.bodies ++ j.more) j.partial b) (sym x.fed) j.stream;
        spelled = j.spelled;
        none_left = j.none_left;
      }

  came_link : (m.links c).stand.ending ≡ None → Comes k boot c amount (m.links c) new → IsSoundAt k boot m c → IsSoundLink k boot m.past new c
  unfolding came_joined
  came_link on x h = record {
    items = h.items;
    joined = came_joined h.items on x h.joined;
    behind = subst (AreBehind (taken_at m.past.naming start c 0 m.past.acts)) (sym x.heard) (behind_client _ x.more (m.links c).heard x.of_client h.behind);
    rest = h.rest;
    cut = λ cut none. h.cut (sym x.cut ∙ cut) on;
  }

  comes_by : (o : Option Ending) → (m.links c).stand.ending ≡ o → IsSoundMoment k boot m → IsAdmitted m.past c → ComesIf o k boot c amount (m.links c) new
      → IsSoundMoment k boot (with_spot c (record { past = m.past; link = new }) m)
  unfolding ComesIf
  comes_by None on h inside x = sound_link k boot m c new h inside (came_link on x (h.each c))
  comes_by (Some e) is h inside x = sound_link k boot m c new h inside
      (subst (λ (l : Link). IsSoundLink k boot m.past l c) (sym x) (link_of k boot m c (h.each c)))

pub sound_comes : (k : EntryKeys) (boot : ℕ) (m : Moment) (c : ℕ) (amount : Amount) (new : Link) → IsSoundMoment k boot m → IsAdmitted m.past c
    → ComesIf (m.links c).stand.ending k boot c amount (m.links c) new
    → IsSoundMoment k boot (with_spot c (record { past = m.past; link = new }) m)
sound_comes k boot m c amount new h inside x = comes_by k boot m c amount new (m.links c).stand.ending refl h inside x

-- ---- a session ends

ended_ran : (k : EntryKeys) (boot c : ℕ) (hs : List Heard) (s : Stand) (e : Ending) → s.ending ≡ None → IsGivenEnding e → Ran k boot c hs s
    → Ran k boot c (given e ∷ hs) (ends s e)
unfolding Ran TurnOf
ended_ran k boot c hs s e on is ran = (s, ran, turn_if k boot c s.ending s (given e) (ends s e) on (is, refl))

module _ (k : EntryKeys) (boot : ℕ) (m : Moment) (c : ℕ) (e : Ending) where
  ended_link : IsGivenEnding e → (m.links c).stand.ending ≡ None → IsSoundAt k boot m c
      → IsSoundLink k boot m.past (record (m.links c) { heard = given e ∷ (m.links c).heard; stand = ends (m.links c).stand e }) c
  unfolding client_frames store_frames bad_of_client bad_of_store AreBehind
  ended_link is on h =
      let l = m.links c in
      let j = h.joined in
      record {
        items = h.items;
        joined = record {
          ran = ended_ran k boot c l.heard l.stand e on is j.ran;
          is_sent = j.is_sent;
          came = j.came;
          piped = j.piped;
          client_side = side_stays client_limit (client_frames l.heard) (client_frames (given e ∷ l.heard))
              (bad_of_client l.heard) (bad_of_client (given e ∷ l.heard)) (EndsAtClient l.stand.ending l.heard) (EndsAtClient (Some e) (given e ∷ l.heard)) j.came
              refl (inr refl) (not_at_client l.stand.ending l.heard on) j.client_side;
          store_side = side_stays store_limit (store_frames l.heard) (store_frames (given e ∷ l.heard))
              (bad_of_store l.heard) (bad_of_store (given e ∷ l.heard)) (EndsAtStore l.stand.ending l.heard) (EndsAtStore (Some e) (given e ∷ l.heard)) (m.past.pulled c)
              refl (inr refl) (not_at_store l.stand.ending l.heard on) j.store_side;
          up = j.up;
          bodies = j.bodies;
          more = j.more;
          partial = j.partial;
          stream = j.stream;
          spelled = j.spelled;
          none_left = j.none_left;
        };
        behind = h.behind;
        rest = h.rest;
        cut = λ cut none. some_is (Some e) e refl none;
      }

  ended_by_link : (o : Option Ending) → IsGivenEnding e → (m.links c).stand.ending ≡ o → IsSoundAt k boot m c
      → IsSoundLink k boot m.past (ended_by o e (m.links c)) c
  unfolding ended_by
  ended_by_link None is on h = ended_link is on h
  ended_by_link (Some first) is on h = link_of k boot m c h

pub sound_ended : (k : EntryKeys) (boot : ℕ) (m : Moment) (c : ℕ) (e : Ending) → IsGivenEnding e → IsSoundMoment k boot m → IsAdmitted m.past c
    → IsSoundMoment k boot (with_spot c (record { past = m.past; link = ended e (m.links c) }) m)
sound_ended k boot m c e is h inside = sound_link k boot m c (ended e (m.links c)) h inside
    (ended_by_link k boot m c e (m.links c).stand.ending is refl (h.each c))

-- where the store's side is over and nothing waits
pub sound_over : (k : EntryKeys) (boot : ℕ) (m : Moment) (c : ℕ) (o : Option StoreEnding) (waiting : List ℕ) → IsSoundMoment k boot m → IsAdmitted m.past c
    → IsSoundMoment k boot (with_spot c (record { past = m.past; link = over_by o waiting (m.links c) }) m)
unfolding over_by IsGivenEnding
sound_over k boot m c None waiting h inside = sound_link k boot m c (m.links c) h inside (link_of k boot m c (h.each c))
sound_over k boot m c (Some e) (b ∷ bs) h inside = sound_link k boot m c (m.links c) h inside (link_of k boot m c (h.each c))
sound_over k boot m c (Some e) [] h inside = sound_ended k boot m c endings.StoreEnd tt h inside

-- ---- a connection whose session ended is marked as cut

pub sound_cut_mark : (k : EntryKeys) (boot : ℕ) (m : Moment) (c : ℕ) → ((m.links c).stand.ending ≡ None → ⊥) → IsSoundMoment k boot m → IsAdmitted m.past c
    → IsSoundMoment k boot (with_spot c (record { past = m.past; link = record (m.links c) { cut = true } }) m)
sound_cut_mark k boot m c over h inside =
    let at = h.each c in
    let j = at.joined in
    sound_link k boot m c (record (m.links c) { cut = true }) h inside
    (record { items = at.items; joined = j; behind = at.behind; rest = at.rest; cut = λ cut none. over none })

-- ---- a client sends

sent_joined : (k : EntryKeys) (boot : ℕ) (m : Moment) (c : ℕ) (bytes : List ℕ) (old items : List Item)
    → SentItems ((m.links c).came ++ ((m.links c).under_way ++ bytes)) items
    → IsJoined k boot c m.past (connection_of (m.links c)) old (m.links c).under_way (m.links c).unfed
    → IsJoined k boot c m.past (connection_of (record (m.links c) { under_way = (m.links c).under_way ++ bytes })) items
    ((m.links c).under_way ++ bytes) (m.links c).unfed
sent_joined k boot m c bytes old items sent j =
    let l = m.links c in
    record {
      ran = j.ran;
      is_sent = sent;
      came = j.came;
      piped = sym (append_assoc l.came l.under_way bytes) ∙ ap (λ (b : List ℕ). b ++ bytes) j.piped ∙ append_assoc j.came l.under_way bytes;
      client_side = j.client_side;
      store_side = j.store_side;
      up = j.up;
      bodies = j.bodies;
      more = j.more;
      partial = j.partial;
      stream = j.stream;
      spelled = j.spelled;
      none_left = j.none_left;
    }

pub sound_sends : (spell : SpellItems) (k : EntryKeys) (boot : ℕ) (m : Moment) (c : ℕ) (bytes : List ℕ) (new : Spot) → IsSoundMoment k boot m
    → IsAdmitted m.past c → Sends bytes (spot_of c m) new → IsSoundMoment k boot (with_spot c new m)
unfolding sent_joined
sound_sends spell k boot m c bytes new h inside x =
    let l = m.links c in
    let at = h.each c in
    let longer : Link = record l { under_way = l.under_way ++ bytes } in
    let items = spell (sent_by longer) in
    let whole : record { past = m.past; link = longer } ≡ new = λ i. record { past = sym x.past i; link = sym x.link i } in
    subst (λ (s : Spot). IsSoundMoment k boot (with_spot c s m)) whole
    (sound_link k boot m c longer h inside (record {
      items = items.0;
      joined = sent_joined k boot m c bytes at.items items.0 items.1 at.joined;
      behind = at.behind;
      rest = at.rest;
      cut = at.cut;
    }))
