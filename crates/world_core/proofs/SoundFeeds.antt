-- A moment stays sound where the store is fed.
use Rattle.std.proofs.Common.{◌≡◌, ◌≤◌, ◌<◌, ℕ, ℤ, Bool, true, false, List, [], ◌∷◌, ◌++◌, length, take, drop, Option, Some, None, refl, sym, ap, subst, ◌∙◌, arith, append_assoc}
use Rattle.std.specs.Prelude.{All, Result, Ok, Err, is_some}
use Rattle.std.specs.List.{flat_map}
use Rattle.std.proofs.lemmas.List.{append-nil}
use Rattle.std.proofs.lemmas.List.Concat.{flat_map-append}
use Rattle.std.proofs.lemmas.List.Elements.{All-head, All-tail}
use Rattle.jute_core.specs.Frames.{frame, FitsFrame, IsRest, Stream}
use Rattle.payload_seal.specs.declared.keys.EntryKeys.{EntryKeys}
use Rattle.zk_messages.specs.declared.request.Item.{Item}
use Rattle.tree_state.specs.Changes.{Naming}
use Rattle.tree_state.specs.State.{start}
use Rattle.store_side.specs.Past.{Past, is_over, password_of}
use Rattle.store_side.specs.Follows.{IsAdmitted, IsSound}
use Rattle.store_side.specs.Fitting.{frame_limit}
use Rattle.store_side.specs.Calls.{Fed, Stops, all_taken, at_last, at_length, at_frame, wants, ending_in, lost_first, rest_of}
use Rattle.store_side.specs.Acts.{IsAct}
use Rattle.store_side.specs.Fill.{items_in}
use Rattle.store_side.specs.Orders.{ConnectsOnce, LegalFrom}
use Rattle.store_side.specs.Zips.{Zips}
use Rattle.store_side.specs.declared.entry.Entry.{Entry}
use Rattle.store_side.specs.declared.ending.StoreEnding.{StoreEnding}
use Rattle.entry_session.specs.Heard.{store_frames, bad_of_store}
use Rattle.entry_session.specs.Runs.{store_limit}
use Rattle.entry_session.specs.Sides.{IsSide, EndsAtStore, bytes_of}
use Rattle.entry_session.specs.Veiled.{SpellsItems}
use Rattle.session_law.specs.Law.{IsJoined}
use Rattle.session_law.proofs.Pieces.{AreWhole, whole_front, whole_of_all}
use Rattle.session_law.proofs.UpWhole.{up_whole}
use Rattle.world_core.specs.declared.amount.Amount.{Amount}
use Rattle.world_core.specs.Moments.{Link, Moment, IsSoundAt, IsSoundMoment, connection_of}
use Rattle.world_core.specs.Steps.{Spot, Feeds, TakesIf, count_of, first_of, left_of, spot_of, with_fed, with_spot}
use Rattle.world_core.proofs.SoundSpots.{IsSoundLink, link_of, sound_link, sound_spot}
use Rattle.world_core.proofs.SoundLinks.{moved_bytes}
use Rattle.world_core.proofs.SoundPasts.{behind_later, going_before, sound_later}
use Rattle.world_core.proofs.SoundStores.{kept, no_items}
use Rattle.world_core.proofs.Streams.{HasStream, prefix_stream, StreamBehind, stream_behind, none_behind}
use Rattle.world_core.proofs.FedItems.{fed_others, fed_spelled}

-- ---- what is left of the bytes

pub record Left (new : Past) (c : ℕ) (bodies : List (List ℕ)) (bytes : List ℕ) (answer : Result (Unit {0}) StoreEnding) : Type 0 where
  pub left : List ℕ
  pub cut : bytes ≡ bytes_of bodies ++ left
  -- where the side goes on, that is a part of a frame, and held
  pub going : is_some (ending_in answer) ≡ false → IsRest left × (new.rests c ≡ left)

left_of_stops : (new : Past) (c : ℕ) (now : ℤ) (frames : List Entry) (bodies : List (List ℕ)) (bytes : List ℕ) (answer : Result (Unit {0}) StoreEnding)
    → Stops new c now frames bodies bytes answer → Left new c bodies bytes answer
left_of_stops new c now frames bodies bytes _ (all_taken stream within none) = record { left = new.rests c; cut = stream.whole; going = λ g. (stream.partial, refl) }
left_of_stops new c now frames bodies bytes _ (at_last e left cut ends) = record { left = left; cut = cut; going = λ g. absurd cc }
left_of_stops new c now frames bodies bytes _ (at_length z left cut long none) = record { left = left; cut = cut; going = λ g. absurd cc }
left_of_stops new c now frames bodies bytes _ (at_frame e body left cut short none refused) =
    record { left = frame body ++ left; cut = cut ∙ append_assoc (bytes_of bodies) (frame body) left; going = λ g. absurd cc }
left_of_stops new c now frames bodies bytes _ (wants left cut) = record { left = left; cut = cut; going = λ g. absurd cc }

whole_of_short : (bs : List (List ℕ)) → All (λ b. length b ≤ frame_limit) bs → AreWhole bs
unfolding AreWhole
whole_of_short [] h = tt
whole_of_short (b ∷ bs) h =
    (omega (arith, All-head (λ (x : List ℕ). length x ≤ frame_limit) b bs h), whole_of_short bs (All-tail (λ (x : List ℕ). length x ≤ frame_limit) b bs h))

whole-append : (xs ys : List (List ℕ)) → AreWhole xs → AreWhole ys → AreWhole (xs ++ ys)
unfolding AreWhole
whole-append [] ys h g = g
whole-append (x ∷ xs) ys h g = (h.0, whole-append xs ys h.1 g)

-- ---- the connection that is fed

module _ (k : EntryKeys) (boot c : ℕ) (amount : Amount) (old : Past) (l : Link) (h : IsSoundLink k boot old l c) where
  abbrev pub piece : List ℕ
  piece = first_of amount l.unfed

  fed_front : bytes_of l.stand.up ≡ (l.fed ++ piece) ++ left_of amount l.unfed
  fed_front = h.joined.up ∙ sym (moved_bytes (count_of amount (length l.unfed)) l.fed l.unfed)

  fed_stream : HasStream (l.fed ++ piece)
  fed_stream = prefix_stream l.stand.up (l.fed ++ piece) (left_of amount l.unfed) (up_whole k boot c l.heard l.stand h.joined.ran) fed_front

  -- what is behind frames with which the bytes fed begin
  fed_behind : (bodies : List (List ℕ)) (left : List ℕ) → AreWhole bodies → l.fed ++ piece ≡ bytes_of bodies ++ left
      → StreamBehind fed_stream.bodies bodies fed_stream.rest left
  fed_behind bodies left w e = stream_behind bodies fed_stream.bodies fed_stream.rest (l.fed ++ piece) left fed_stream.stream w e

  fed_joined : (new : Past) (bodies : List (List ℕ)) (left : List ℕ) (b : StreamBehind fed_stream.bodies bodies fed_stream.rest left) → new.pulled c ≡ old.pulled c
      → SpellsItems true (items_in c new.order) bodies → (is_over new c ≡ false → b.more ≡ [])
      → IsJoined k boot c new (connection_of (with_fed amount l)) h.items (with_fed amount l).under_way (with_fed amount l).unfed
  fed_joined new bodies left b pulled spelled none =
      let j = h.joined in
      record {
        ran = j.ran;
        is_sent = j.is_sent;
        came = j.came;
        piped = j.piped;
        client_side = j.client_side;
        store_side = subst (IsSide store_limit (store_frames l.heard) (bad_of_store l.heard) (EndsAtStore l.stand.ending l.heard)) (sym pulled) j.store_side;
        up = fed_front;
        bodies = bodies;
        more = b.more;
        partial = fed_stream.rest;
        stream = subst (λ (all : List (List ℕ)). Stream all fed_stream.rest (l.fed ++ piece)) b.cut fed_stream.stream;
        spelled = spelled;
        none_left = none;
      }

  whole_before : AreWhole (h.joined.bodies ++ h.joined.more)
  whole_before = whole_of_all (h.joined.bodies ++ h.joined.more) h.joined.stream.each

  -- ---- its side is over: nothing is taken

  over_cut : l.fed ++ piece ≡ bytes_of h.joined.bodies ++ ((bytes_of h.joined.more ++ h.joined.partial) ++ piece)
  over_cut =
      let j = h.joined in
      ap (λ (b : List ℕ). b ++ piece)
      (j.stream.whole ∙ ap (λ (b : List ℕ). b ++ j.partial) (flat_map-append frame j.bodies j.more) ∙ append_assoc (bytes_of j.bodies) (bytes_of j.more) j.partial)
      ∙ append_assoc (bytes_of j.bodies) (bytes_of j.more ++ j.partial) piece

  pub fed_over : (e : StoreEnding) → old.endings c ≡ Some e → IsSoundLink k boot old (with_fed amount l) c
  unfolding fed_joined
  fed_over e over =
      let j = h.joined in
      let b = fed_behind j.bodies ((bytes_of j.more ++ j.partial) ++ piece) (whole_front j.bodies j.more whole_before) over_cut in
      let not_going : is_over old c ≡ false → ⊥ = λ going. (let is : is_over old c ≡ true = ap is_some over in absurd cc) in
      record {
        items = h.items;
        joined = fed_joined old j.bodies ((bytes_of j.more ++ j.partial) ++ piece) b refl j.spelled (λ going. absurd (not_going going));
        behind = h.behind;
        rest = λ going. absurd (not_going going);
        cut = h.cut;
      }

  -- ---- its side goes on

  module _ (now : ℤ) (new : Past) (answer : Result (Unit {0}) StoreEnding) (on : old.endings c ≡ None) (f : Fed c now piece old new answer) (sound : IsSound old) where
    going : is_over old c ≡ false
    going = ap is_some on

    before : Stream h.joined.bodies h.joined.partial l.fed
    before =
        let j = h.joined in
        subst (λ (more : List (List ℕ)). Stream more j.partial l.fed) (ap (λ (m : List (List ℕ)). j.bodies ++ m) (j.none_left going) ∙ append-nil j.bodies) j.stream

    taken : Left new c f.bodies (old.rests c ++ piece) answer
    taken = left_of_stops new c now f.frames f.bodies (old.rests c ++ piece) answer f.stops

    taken_cut : l.fed ++ piece ≡ bytes_of (h.joined.bodies ++ f.bodies) ++ taken.left
    taken_cut =
        let j = h.joined in
        let held : j.partial ++ piece ≡ bytes_of f.bodies ++ taken.left = ap (λ (b : List ℕ). b ++ piece) (sym (h.rest going)) ∙ taken.cut in
        ap (λ (b : List ℕ). b ++ piece) before.whole ∙ append_assoc (bytes_of j.bodies) j.partial piece ∙ ap (λ (b : List ℕ). bytes_of j.bodies ++ b) held
        ∙ sym (append_assoc (bytes_of j.bodies) (bytes_of f.bodies) taken.left) ∙ ap (λ (b : List ℕ). b ++ taken.left) (sym (flat_map-append frame j.bodies f.bodies))

    behind : StreamBehind fed_stream.bodies (h.joined.bodies ++ f.bodies) fed_stream.rest taken.left
    behind = fed_behind (h.joined.bodies ++ f.bodies) taken.left
        (whole-append h.joined.bodies f.bodies (whole_of_all h.joined.bodies before.each) (whole_of_short f.bodies f.short)) taken_cut

    new_going : is_over new c ≡ false → is_some (ending_in answer) ≡ false
    new_going g = sym (ap is_some f.ending) ∙ g

    last : is_over new c ≡ false → (behind.more ≡ []) × (new.rests c ≡ fed_stream.rest)
    last g =
        let t = taken.going (new_going g) in
        let n = none_behind behind.more fed_stream.rest taken.left behind.stream t.0 in
        (n.0, t.1 ∙ n.1)

    new_order : new.order ≡ old.order ++ (lost_first f.moved ++ f.frames)
    new_order = f.later.order ∙ ap (λ (es : List Entry). old.order ++ es) f.entries

    same_names : LegalFrom old.naming (password_of old.key) start old.order old.acts → LegalFrom new.naming (password_of new.key) start old.order old.acts
    same_names x =
        subst (λ (key : List ℕ). LegalFrom new.naming (password_of key) start old.order old.acts) (sym f.later.key)
        (subst (λ (naming : Naming). LegalFrom naming (password_of old.key) start old.order old.acts) (sym f.later.naming) x)

    items_are : SpellsItems true (items_in c new.order) (h.joined.bodies ++ f.bodies)
    items_are =
        let legal = (f.sound sound).follows.legal in
        let before_legal = sound.follows.legal in
        subst (λ (es : List Entry). SpellsItems true (items_in c es) (h.joined.bodies ++ f.bodies)) (sym new_order)
        (fed_spelled c now new.naming (password_of new.key) old.order old.acts f.moved f.frames new.acts
        (subst ConnectsOnce new_order legal.once) (subst (λ (es : List Entry). Zips IsAct es new.acts) new_order legal.are_acts)
        (subst (λ (es : List Entry). LegalFrom new.naming (password_of new.key) start es new.acts) new_order legal.steps) before_legal.are_acts
        (same_names before_legal.steps) h.joined.bodies f.bodies h.joined.spelled f.spelled)

    pub fed_going : IsSoundLink k boot new (with_fed amount l) c
    unfolding fed_joined
    fed_going = record {
      items = h.items;
      joined = fed_joined new (h.joined.bodies ++ f.bodies) taken.left behind (f.pulled c) items_are (λ g. (last g).0);
      behind = behind_later k boot c old new l sound f.later h;
      rest = λ g. (last g).1;
      cut = h.cut;
    }

-- ---- the other connections

fed_other : (k : EntryKeys) (boot c d : ℕ) (now : ℤ) (bytes : List ℕ) (old new : Past) (answer : Result (Unit {0}) StoreEnding) (l : Link) → (d ≡ c → ⊥)
    → Fed c now bytes old new answer → IsSound old → IsSoundLink k boot old l d → IsSoundLink k boot new l d
fed_other k boot c d now bytes old new answer l apart f sound h =
    sound_later k boot d old new l sound f.later (f.pulled d)
    (no_items d old.order (lost_first f.moved ++ f.frames) new.order (f.later.order ∙ ap (λ (es : List Entry). old.order ++ es) f.entries)
    (fed_others c d now f.moved f.frames f.bodies apart f.spelled))
    (λ none. f.rests d apart ∙ kept (new.endings d) (old.rests d) none) h

-- ---- the moment

feeds_by : (k : EntryKeys) (boot : ℕ) (m : Moment) (c : ℕ) (amount : Amount) (new : Past) (o : Option StoreEnding) → m.past.endings c ≡ o → IsSoundMoment k boot m
    → IsAdmitted m.past c → TakesIf o c m.now (first_of amount (m.links c).unfed) m.past new
    → IsSoundMoment k boot (with_spot c (record { past = new; link = with_fed amount (m.links c) }) m)
unfolding TakesIf
feeds_by k boot m c amount new None on h inside (answer, f, memory) =
    sound_spot k boot m c new (with_fed amount (m.links c)) h inside (record {
      naming = f.later.naming;
      admitted = f.admitted;
      past_sound = f.sound h.past;
      own = fed_going k boot c amount m.past (m.links c) (link_of k boot m c (h.each c)) m.now new answer on f h.past;
      others = λ d apart. fed_other k boot c d m.now (first_of amount (m.links c).unfed) m.past new answer (m.links d) apart f h.past (link_of k boot m d (h.each d));
    })
feeds_by k boot m c amount new (Some e) over h inside same =
    subst (λ (p : Past). IsSoundMoment k boot (with_spot c (record { past = p; link = with_fed amount (m.links c) }) m)) (sym same)
    (sound_link k boot m c (with_fed amount (m.links c)) h inside (fed_over k boot c amount m.past (m.links c) (link_of k boot m c (h.each c)) e over))

pub sound_feeds : (k : EntryKeys) (boot : ℕ) (m : Moment) (c : ℕ) (amount : Amount) (new : Spot) → IsSoundMoment k boot m → IsAdmitted m.past c
    → Feeds c m.now amount (spot_of c m) new → IsSoundMoment k boot (with_spot c new m)
sound_feeds k boot m c amount new h inside x =
    subst (λ (link : Link). IsSoundMoment k boot (with_spot c (record { past = new.past; link = link }) m)) (sym x.link)
    (feeds_by k boot m c amount new.past (m.past.endings c) refl h inside x.takes)
